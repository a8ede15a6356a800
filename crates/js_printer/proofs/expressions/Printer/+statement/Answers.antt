use Rattle.std.proofs.Common.{refl, ap, sym, ◌∙◌}
use Rattle.std.specs.Prelude.{None, Some}
use Rattle.js_tree.specs.declared.statement.StmtForm.TheVariants as s
use Rattle.script_text.specs.Pieces.{LineEnd}
use Rattle.token_sheets.specs.Sheets.{put_all, put}
use Rattle.script_text.specs.Printing.{function_to}
use Rattle.script_text.specs.Statements.{shown, shown_case, shown_form, lines}
use Rattle.std.specs.List.{flat_map}
use Rattle.std.proofs.lemmas.List.{take_all}
use Rattle.js_printer.proofs.Putting.{on_ok_along}
use Rattle.js_printer.proofs.StatementForms.{shown-form, lines-push, parts-push, put-Case, put-Catch, put-Finally, put-If, put-Else, put-Try, put-TryCatch, put-TryFinally, put-TryBoth, put-Var, put-FuncDecl, put-Eval, put-Block, put-Empty, put-DoWhile, put-While, put-For, put-ForIn, put-Continue, put-Break, put-Return, put-Switch, put-Throw}
use Rattle.js_printer.proofs.expressions.Printer.+statement.Goals as goal

pub statement_form-returns-in_ok-declarators-in-Var : goal.statement_form-returns-in_ok-declarators-in-Var
statement_form-returns-in_ok-declarators-in-Var g t c =
    let w = c.in-Var in
    on_ok_along c.closing.result _ _ _ c.closing.ensures (rw (w.is, put-Var (function_to c.args.self.now.depth c.args.self.now.funcs.now) w.all c.args.page.now, c.in_ok-declarators-in-Var.ensures, c.as_slice.ensures) refl)

pub statement_form-returns-in_ok-word-in-FuncDecl : goal.statement_form-returns-in_ok-word-in-FuncDecl
statement_form-returns-in_ok-word-in-FuncDecl g t c =
    let w = c.in-FuncDecl in
    on_ok_along c.function.result _ _ _ c.function.ensures (rw (w.is, put-FuncDecl (function_to c.args.self.now.depth c.args.self.now.funcs.now) w.f c.args.page.now, c.in_ok-word-in-FuncDecl.ensures) refl)

pub statement_form-returns-in_ok-evaluation-in-Eval : goal.statement_form-returns-in_ok-evaluation-in-Eval
statement_form-returns-in_ok-evaluation-in-Eval g t c =
    let w = c.in-Eval in
    on_ok_along c.closing-in-Eval.result _ _ _ c.closing-in-Eval.ensures (rw (w.is, put-Eval (function_to c.args.self.now.depth c.args.self.now.funcs.now) w.e c.args.page.now, c.in_ok-evaluation-in-Eval.ensures) refl)

pub statement_form-returns-in-Block : goal.statement_form-returns-in-Block
statement_form-returns-in-Block g t c =
    let w = c.in-Block in
    on_ok_along c.block.result _ _ _ c.block.ensures (rw (w.is, put-Block (function_to c.args.self.now.depth c.args.self.now.funcs.now) w.body c.args.page.now, c.as_slice-in-Block.ensures) refl)

pub statement_form-returns-in-Empty : goal.statement_form-returns-in-Empty
statement_form-returns-in-Empty g t c =
    let w = c.in-Empty in
    on_ok_along c.closing-in-Empty.result _ _ _ c.closing-in-Empty.ensures (rw (w.is, put-Empty (function_to c.args.self.now.depth c.args.self.now.funcs.now) c.args.page.now) refl)

pub statement_form-returns-in_ok-end_of_do-in-DoWhile : goal.statement_form-returns-in_ok-end_of_do-in-DoWhile
statement_form-returns-in_ok-end_of_do-in-DoWhile g t c =
    let w = c.in-DoWhile in
    on_ok_along c.closing-in-DoWhile.result _ _ _ c.closing-in-DoWhile.ensures (rw (w.is, put-DoWhile (function_to c.args.self.now.depth c.args.self.now.funcs.now) w.body w.test c.args.page.now, c.in_ok-end_of_do-in-DoWhile.ensures, c.in_ok-do_part-in-DoWhile.ensures, c.ends_in_brace.ensures (function_to c.args.self.now.depth c.args.self.now.funcs.now)) refl)

pub statement_form-returns-in_ok-head-in-While : goal.statement_form-returns-in_ok-head-in-While
statement_form-returns-in_ok-head-in-While g t c =
    let w = c.in-While in
    on_ok_along c.statement.result _ _ _ c.statement.ensures (rw (w.is, put-While (function_to c.args.self.now.depth c.args.self.now.funcs.now) w.test w.body c.args.page.now, c.in_ok-head-in-While.ensures) refl)

pub statement_form-returns-in_ok-for_head-in-For : goal.statement_form-returns-in_ok-for_head-in-For
statement_form-returns-in_ok-for_head-in-For g t c =
    let w = c.in-For in
    on_ok_along c.statement-in-For.result _ _ _ c.statement-in-For.ensures (rw (w.is, put-For (function_to c.args.self.now.depth c.args.self.now.funcs.now) w.from w.test w.step w.body c.args.page.now, c.in_ok-for_head-in-For.ensures, c.deref.ensures, c.deref-in-For.ensures, c.deref-in-For-2.ensures) refl)

pub statement_form-returns-in_ok-for_in_head-in-ForIn : goal.statement_form-returns-in_ok-for_in_head-in-ForIn
statement_form-returns-in_ok-for_in_head-in-ForIn g t c =
    let w = c.in-ForIn in
    on_ok_along c.statement-in-ForIn.result _ _ _ c.statement-in-ForIn.ensures (rw (w.is, put-ForIn (function_to c.args.self.now.depth c.args.self.now.funcs.now) w.to w.object w.body c.args.page.now, c.in_ok-for_in_head-in-ForIn.ensures, c.deref-in-ForIn.ensures) refl)

pub statement_form-returns-in_ok-word-in-Continue : goal.statement_form-returns-in_ok-word-in-Continue
statement_form-returns-in_ok-word-in-Continue g t c =
    let w = c.in-Continue in
    on_ok_along c.closing-in-Continue.result _ _ _ c.closing-in-Continue.ensures (rw (w.is, put-Continue (function_to c.args.self.now.depth c.args.self.now.funcs.now) c.args.page.now, c.in_ok-word-in-Continue.ensures) refl)

pub statement_form-returns-in_ok-word-in-Break : goal.statement_form-returns-in_ok-word-in-Break
statement_form-returns-in_ok-word-in-Break g t c =
    let w = c.in-Break in
    on_ok_along c.closing-in-Break.result _ _ _ c.closing-in-Break.ensures (rw (w.is, put-Break (function_to c.args.self.now.depth c.args.self.now.funcs.now) c.args.page.now, c.in_ok-word-in-Break.ensures) refl)

pub statement_form-returns-in_ok-maybe_expr-in-Return : goal.statement_form-returns-in_ok-maybe_expr-in-Return
statement_form-returns-in_ok-maybe_expr-in-Return g t c =
    let w = c.in-Return in
    on_ok_along c.closing-in-Return.result _ _ _ c.closing-in-Return.ensures (rw (w.is, put-Return (function_to c.args.self.now.depth c.args.self.now.funcs.now) w.e c.args.page.now, c.in_ok-maybe_expr-in-Return.ensures, c.in_ok-word-in-Return.ensures) refl)

pub statement_form-returns-in_ok-head-in-Switch : goal.statement_form-returns-in_ok-head-in-Switch
statement_form-returns-in_ok-head-in-Switch g t c =
    let w = c.in-Switch in
    on_ok_along c.clauses.result _ _ _ c.clauses.ensures (rw (w.is, put-Switch (function_to c.args.self.now.depth c.args.self.now.funcs.now) w.e w.cases c.args.page.now, c.in_ok-head-in-Switch.ensures, c.as_slice-in-Switch.ensures) refl)

pub statement_form-returns-in_ok-expr-in-Throw : goal.statement_form-returns-in_ok-expr-in-Throw
statement_form-returns-in_ok-expr-in-Throw g t c =
    let w = c.in-Throw in
    on_ok_along c.closing-in-Throw.result _ _ _ c.closing-in-Throw.ensures (rw (w.is, put-Throw (function_to c.args.self.now.depth c.args.self.now.funcs.now) w.e c.args.page.now, c.in_ok-expr-in-Throw.ensures, c.in_ok-word-in-Throw.ensures) refl)

pub lines-loop-s-preserved : goal.lines-loop-s-preserved
lines-loop-s-preserved g t c =
    let F = function_to c.args.self.now.depth c.args.self.now.funcs.now in
    c.in_ok-end_line.ensures ∙ ap (λ p. put p LineEnd) (c.in_ok-statement.ensures ∙ ap (put_all (shown F c.s-item.result).pieces) c.loop-s.invariant)
    ∙ sym (lines-push (shown F) _ _ _ c.loop-s-test.true c.s-item.is _)

pub clause_list-loop-c-preserved : goal.clause_list-loop-c-preserved
clause_list-loop-c-preserved g t c =
    let F = function_to c.args.self.now.depth c.args.self.now.funcs.now in
    c.in_ok-clause.ensures ∙ ap (put_all (shown_case F c.c-item.result)) c.loop-c.invariant ∙ sym (parts-push (shown_case F) _ _ _ c.loop-c-test.true c.c-item.is _)

pub statement-returns : goal.statement-returns
statement-returns g t c =
    let F = function_to c.args.self.now.depth c.args.self.now.funcs.now in
    on_ok_along c.statement_form.result _ _ _ c.statement_form.ensures (rw (shown-form F c.args.s.now, c.deref.ensures) refl)

pub lines-returns : goal.lines-returns
lines-returns g t c =
    let F = function_to c.args.self.now.depth c.args.self.now.funcs.now in
    c.loop-s.invariant ∙ ap (λ ys. put_all (lines (shown F) ys) c.args.page.now) (take_all c.loop-s.s-index c.args.body.now c.loop-s-test.false)

pub clause_list-returns : goal.clause_list-returns
clause_list-returns g t c =
    let F = function_to c.args.self.now.depth c.args.self.now.funcs.now in
    c.loop-c.invariant ∙ ap (λ ys. put_all (flat_map (shown_case F) ys) c.args.page.now) (take_all c.loop-c.c-index c.args.all.now c.loop-c-test.false)

pub clause-returns : goal.clause-returns
clause-returns g t c =
    let F = function_to c.args.self.now.depth c.args.self.now.funcs.now in
    c.close.ensures ∙ rw (put-Case F c.args.c.now c.args.page.now, c.in_ok-lines.ensures, c.in_ok-clause_start.ensures, c.as_slice.ensures) refl

pub handler-returns : goal.handler-returns
handler-returns g t c =
    let F = function_to c.args.self.now.depth c.args.self.now.funcs.now in
    c.release.ensures ∙ rw (put-Catch F c.args.handler.now c.args.page.now, c.in_ok-block.ensures, c.in_ok-bind_name.ensures, c.in_ok-catch_head.ensures, c.as_slice.ensures) refl

pub last-returns : goal.last-returns
last-returns g t c =
    let F = function_to c.args.self.now.depth c.args.self.now.funcs.now in
    on_ok_along c.block.result _ _ _ c.block.ensures (rw (put-Finally F c.args.last.now c.args.page.now, c.in_ok-word.ensures, c.as_slice.ensures) refl)

pub statement_form-returns-in-None : goal.statement_form-returns-in-None
statement_form-returns-in-None g t c =
    let F = function_to c.args.self.now.depth c.args.self.now.funcs.now in
    let w = c.in-If in
    let k = w.is ∙ ap (λ o. s.If w.test w.a o) c.in-None.is in
    c.in_ok-first_part-in-If.ensures ∙ sym (ap (λ f. put_all (shown_form F f).pieces c.args.page.now) k ∙ put-If F w.test w.a c.args.page.now)

pub statement_form-returns-in-Some : goal.statement_form-returns-in-Some
statement_form-returns-in-Some g t c =
    let F = function_to c.args.self.now.depth c.args.self.now.funcs.now in
    let w = c.in-If in
    let k = w.is ∙ ap (λ o. s.If w.test w.a o) c.in-Some.is in
    on_ok_along c.other_part.result _ _ _ c.other_part.ensures
    (rw (k, put-Else F w.test w.a c.in-Some.b c.args.page.now, c.in_ok-first_part-in-If.ensures, c.is_block.ensures F) refl)

pub statement_form-returns-in-None-last : goal.statement_form-returns-in-None-last
statement_form-returns-in-None-last g t c =
    let F = function_to c.args.self.now.depth c.args.self.now.funcs.now in
    let w = c.in-Try in
    let k = w.is ∙ ap (λ o. s.Try w.body o w.last) c.in-None-handler.is ∙ ap (s.Try w.body None) c.in-None-last.is in
    c.in_ok-try_block-in-Try.ensures ∙ rw (k, put-Try F w.body c.args.page.now, c.as_slice-in-Try.ensures) refl

pub statement_form-returns-in-Some-last : goal.statement_form-returns-in-Some-last
statement_form-returns-in-Some-last g t c =
    let F = function_to c.args.self.now.depth c.args.self.now.funcs.now in
    let w = c.in-Try in
    let k = w.is ∙ ap (λ o. s.Try w.body o w.last) c.in-None-handler.is ∙ ap (s.Try w.body None) c.in-Some-last.is in
    on_ok_along c.last.result _ _ _ c.last.ensures
    (rw (k, put-TryFinally F w.body c.in-Some-last.last c.args.page.now, c.in_ok-try_block-in-Try.ensures, c.as_slice-in-Try.ensures, c.deref-in-Some-last.ensures) refl)

pub statement_form-returns-in-None-last-2 : goal.statement_form-returns-in-None-last-2
statement_form-returns-in-None-last-2 g t c =
    let F = function_to c.args.self.now.depth c.args.self.now.funcs.now in
    let w = c.in-Try in
    let h = c.in-Some-handler.handler in
    let k = w.is ∙ ap (λ o. s.Try w.body o w.last) c.in-Some-handler.is ∙ ap (s.Try w.body (Some h)) c.in-None-last-2.is in
    c.in_ok-handler-in-Some-handler.ensures
    ∙ rw (k, put-TryCatch F w.body h c.args.page.now, c.in_ok-try_block-in-Try.ensures, c.as_slice-in-Try.ensures, c.deref-in-Some-handler.ensures) refl

pub statement_form-returns-in-Some-last-2 : goal.statement_form-returns-in-Some-last-2
statement_form-returns-in-Some-last-2 g t c =
    let F = function_to c.args.self.now.depth c.args.self.now.funcs.now in
    let w = c.in-Try in
    let h = c.in-Some-handler.handler in
    let k = w.is ∙ ap (λ o. s.Try w.body o w.last) c.in-Some-handler.is ∙ ap (s.Try w.body (Some h)) c.in-Some-last-2.is in
    on_ok_along c.last-in-Some-last-2.result _ _ _ c.last-in-Some-last-2.ensures
    (rw (k, put-TryBoth F w.body h c.in-Some-last-2.last c.args.page.now, c.in_ok-handler-in-Some-handler.ensures, c.in_ok-try_block-in-Try.ensures, c.as_slice-in-Try.ensures, c.deref-in-Some-handler.ensures, c.deref-in-Some-last-2.ensures) refl)
