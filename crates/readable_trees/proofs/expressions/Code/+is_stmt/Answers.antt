use Rattle.std.proofs.Common.{ap, ◌∙◌, sym, arith}
use Rattle.std.specs.Prelude.{◌&&◌, nat_le}
use Rattle.std.proofs.lemmas.Grind.{common_steps}
use Rattle.js_tree.specs.declared.statement.Case.{out-Case}
use Rattle.js_tree.specs.declared.statement.Catch.{out-Catch}
use Rattle.js_grammar.specs.Readable.{in_stmt_form}
use Rattle.readable_trees.proofs.Forms.{parts, clauses, defaults, readable-Block, readable-Switch, readable-Try, readable-Case, readable-Catch, readable-Finally}
use Rattle.readable_trees.proofs.expressions.Code.+is_stmt.Goals as goal
use Rattle.readable_trees.proofs.expressions.Code.+is_stmt.Goals.{is_stmt_form-then-are_parts, is_stmt_form-else-are_parts}

pub is_case-returns-then-is_maybe : goal.is_case-returns-then-is_maybe
is_case-returns-then-is_maybe t c =
    let fs = c.args.self.now.functions.now in
    c.are_parts.ensures ∙ ap (parts fs) c.as_slice.ensures
    ∙ sym (readable-Case fs c.args.c.now ∙ ap (λ b. b && parts fs (out-Case c.args.c.now).body) (sym c.is_maybe.ensures ∙ c.if-is_maybe.true))

pub is_catch-returns-then-is_identifier : goal.is_catch-returns-then-is_identifier
is_catch-returns-then-is_identifier t c =
    let fs = c.args.self.now.functions.now in
    c.are_parts.ensures ∙ ap (parts fs) c.as_slice.ensures
    ∙ sym (readable-Catch fs c.args.c.now ∙ ap (λ b. b && parts fs (out-Catch c.args.c.now).body) (sym c.is_identifier.ensures ∙ c.if-is_identifier.true))

pub is_finally-returns : goal.is_finally-returns
is_finally-returns t c =
    let fs = c.args.self.now.functions.now in
    c.are_parts.ensures ∙ ap (parts fs) c.as_slice.ensures ∙ sym (readable-Finally fs c.args.f.now)

pub is_stmt_form-returns-in-Block : goal.is_stmt_form-returns-in-Block
is_stmt_form-returns-in-Block t c =
    let fs = c.args.self.now.functions.now in
    let w = c.in-Block in
    c.are_parts.ensures ∙ ap (parts fs) c.as_slice-in-Block.ensures ∙ sym (ap (λ f. (in_stmt_form fs f).readable) w.is ∙ readable-Block fs w.body)

pub is_stmt_form-returns-then-is_expr-5 : goal.is_stmt_form-returns-then-is_expr-5
is_stmt_form-returns-then-is_expr-5 t c =
    let fs = c.args.self.now.functions.now in
    let w = c.in-Switch in
    c.are_clauses.ensures ∙ ap (λ cs. clauses fs cs && nat_le (defaults fs cs) 1) c.as_slice-then-is_expr-5.ensures
    ∙ sym (ap (λ f. (in_stmt_form fs f).readable) w.is ∙ readable-Switch fs w.e w.cases
    ∙ ap (λ b. b && (clauses fs w.cases && nat_le (defaults fs w.cases) 1)) (sym c.is_expr-in-Switch.ensures ∙ c.if-is_expr-5.true))

pub is_stmt_form-returns-then-is_handler : goal.is_stmt_form-returns-then-is_handler
is_stmt_form-returns-then-is_handler t c =
    let fs = c.args.self.now.functions.now in
    let w = c.in-Try in
    let tried = ap (λ f. (in_stmt_form fs f).readable) w.is ∙ readable-Try fs w.body w.handler w.last in
    let body = c.are_parts-in-Try.ensures ∙ ap (parts fs) c.as_slice-in-Try.ensures in
    elim c.if-are_parts.branch [
      | is_stmt_form-then-are_parts u ↦
          grind (arith, common_steps, tried, body, c.has_end.ensures, c.if-not-has_end.false, u.if-are_parts.true, u.is_handler.ensures, u.value-is, c.if-is_handler.true, c.is_last.ensures)
      | is_stmt_form-else-are_parts u ↦ grind (arith, common_steps, u.if-are_parts.false, u.value-is, c.if-is_handler.true)
    ]

pub is_stmt_form-returns-else-is_handler : goal.is_stmt_form-returns-else-is_handler
is_stmt_form-returns-else-is_handler t c =
    let fs = c.args.self.now.functions.now in
    let w = c.in-Try in
    let tried = ap (λ f. (in_stmt_form fs f).readable) w.is ∙ readable-Try fs w.body w.handler w.last in
    let body = c.are_parts-in-Try.ensures ∙ ap (parts fs) c.as_slice-in-Try.ensures in
    elim c.if-are_parts.branch [
      | is_stmt_form-then-are_parts u ↦
          grind (arith, common_steps, tried, body, u.if-are_parts.true, u.is_handler.ensures, u.value-is, c.if-is_handler.false)
      | is_stmt_form-else-are_parts u ↦ grind (arith, common_steps, tried, body, u.if-are_parts.false, u.value-is, c.if-is_handler.false)
    ]
