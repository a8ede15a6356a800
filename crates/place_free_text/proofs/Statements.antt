-- The tokens of expressions and of statements don't depend on places.
use Rattle.std.proofs.Common.{◌≡◌, Bool, true, false, List, [], ◌∷◌, ◌++◌, map, refl, ap, ◌∙◌}
use Rattle.std.specs.Prelude.{codes, Option, Some, None}
use Rattle.std.specs.Option.{option_map}
use Rattle.js_value.specs.declared.place.FuncNo.{FuncNo}
use Rattle.js_tree.specs.declared.expression.Expr.{Expr}
use Rattle.js_tree.specs.declared.expression.ExprForm.TheOpen.{Field-F}
use Rattle.js_tree.specs.declared.statement.Declarator.{Declarator}
use Rattle.js_tree.specs.declared.statement.ForStart.{ForStart}
use Rattle.js_tree.specs.declared.statement.ForStart.TheVariants as start
use Rattle.js_tree.specs.declared.statement.ForTarget.{ForTarget}
use Rattle.js_tree.specs.declared.statement.ForTarget.TheVariants as target
use Rattle.js_tree.specs.declared.statement.Stmt.{Stmt}
use Rattle.js_tree.specs.declared.statement.StmtForm.TheOpen.{StmtForm-F}
use Rattle.script_text.specs.Expressions as E
use Rattle.script_text.specs.Expressions.{Printed, printed, maybe_expr, at, if_grouped}
use Rattle.script_text.specs.Pieces.{Piece, closing, opening, word, behind_commas}
use Rattle.script_text.specs.Statements as S
use Rattle.script_text.specs.Statements.{Shown, with_semicolon, with_brace, ending, clause, clauses, lines, head, initialiser, declarator, declarators, for_word, for_start, for_target, for_rest, for_head, in_rest, for_in_head, end_of_do, else_word, label, shown}
use Rattle.reading_back.specs.Unplaced as unplaced
use Rattle.early_back.proofs.PlaceFree.{expr_same, stmt_same}
use Rattle.early_back.proofs.RelatedExpressions.{forget_field}
use Rattle.early_back.proofs.RelatedStatements.{forget_form}

module _ (function : Bool → FuncNo → List Piece) where
  field_same : (f : Field-F Printed (List Piece) Printed) → E.of_field function (forget_field f) ≡ E.of_field function f
  field_same (Field-F.Value at key x) = refl
  field_same (Field-F.Getter at key f) = refl
  field_same (Field-F.Setter at key f) = refl

  printed_same : (x : Expr) → printed function (unplaced.expr x) ≡ printed function x
  printed_same = expr_same (E.of_form function) (E.of_field function) (λ x. x.form) (E.of_form function) (E.of_field function) (λ x. x.form) (λ l. refl) field_same (λ at f. refl)

  -- where an expression of at least a level is taken
  at_same : (wanted : _) (allows_in : Bool) (x : Expr) → E.expr function wanted allows_in (unplaced.expr x) ≡ E.expr function wanted allows_in x
  at_same wanted allows_in x = ap (at wanted allows_in) (printed_same x)

  maybe_same : (o : Option Expr) → maybe_expr function (option_map unplaced.expr o) ≡ maybe_expr function o
  maybe_same None = refl
  maybe_same (Some x) = at_same 1 true x

  -- ---- the parts of statements

  initialiser_same : (allows_in : Bool) (o : Option Expr) → initialiser function allows_in (option_map unplaced.expr o) ≡ initialiser function allows_in o
  initialiser_same allows_in None = refl
  initialiser_same allows_in (Some x) = ap (λ ps. word (codes "=") ++ ps) (at_same 2 allows_in x)

  declarator_same : (allows_in : Bool) (d : Declarator) → declarator function allows_in (unplaced.declarator d) ≡ declarator function allows_in d
  declarator_same allows_in d = ap (λ ps. E.name d.name ++ ps) (initialiser_same allows_in d.init)

  more_same : (allows_in : Bool) (ds : List Declarator) → behind_commas (declarator function allows_in) (map unplaced.declarator ds) ≡ behind_commas (declarator function allows_in) ds
  more_same allows_in [] = refl
  more_same allows_in (d ∷ ds) =
      ap (λ ps. (closing (codes ",") ++ ps) ++ behind_commas (declarator function allows_in) (map unplaced.declarator ds)) (declarator_same allows_in d)
      ∙ ap (λ ps. (closing (codes ",") ++ declarator function allows_in d) ++ ps) (more_same allows_in ds)

  declarators_same : (allows_in : Bool) (ds : List Declarator) → declarators function allows_in (map unplaced.declarator ds) ≡ declarators function allows_in ds
  declarators_same allows_in [] = refl
  declarators_same allows_in (d ∷ ds) =
      ap (λ ps. word (codes "var") ++ (ps ++ behind_commas (declarator function allows_in) (map unplaced.declarator ds))) (declarator_same allows_in d)
      ∙ ap (λ ps. word (codes "var") ++ (declarator function allows_in d ++ ps)) (more_same allows_in ds)

  head_same : (first : _) (x : Expr) → head function first (unplaced.expr x) ≡ head function first x
  unfolding head
  head_same first x = ap (λ ps. word first ++ opening (codes "(") ++ ps ++ closing (codes ")")) (at_same 1 true x)

  evaluation_same : (x : Expr) → S.evaluation function (unplaced.expr x) ≡ S.evaluation function x
  evaluation_same x = ap (λ (p : Printed). if_grouped p.starts true p) (printed_same x)

  start_same : (from : ForStart) → for_start function (unplaced.for_start from) ≡ for_start function from
  start_same start.Nothing = refl
  start_same (start.Expr x) = at_same 1 false x
  start_same (start.Var ds) = declarators_same false ds

  target_same : (to : ForTarget) → for_target function (unplaced.for_target to) ≡ for_target function to
  target_same (target.Expr x) = at_same 16 false x
  target_same (target.Var at text) = refl

  rest_same : (test step : Option Expr) → for_rest function (option_map unplaced.expr test) (option_map unplaced.expr step) ≡ for_rest function test step
  unfolding for_rest
  rest_same test step =
      ap (λ ps. closing (codes ";") ++ ps ++ closing (codes ";") ++ maybe_expr function (option_map unplaced.expr step) ++ closing (codes ")")) (maybe_same test)
      ∙ ap (λ ps. closing (codes ";") ++ maybe_expr function test ++ closing (codes ";") ++ ps ++ closing (codes ")")) (maybe_same step)

  for_same : (from : ForStart) (test step : Option Expr)
      → for_head function (unplaced.for_start from) (option_map unplaced.expr test) (option_map unplaced.expr step) ≡ for_head function from test step
  unfolding for_head
  for_same from test step =
      ap (λ ps. for_word ++ ps ++ for_rest function (option_map unplaced.expr test) (option_map unplaced.expr step)) (start_same from)
      ∙ ap (λ ps. for_word ++ for_start function from ++ ps) (rest_same test step)

  for_in_same : (to : ForTarget) (x : Expr) → for_in_head function (unplaced.for_target to) (unplaced.expr x) ≡ for_in_head function to x
  unfolding for_in_head in_rest
  for_in_same to x =
      ap (λ ps. for_word ++ ps ++ in_rest function (unplaced.expr x)) (target_same to)
      ∙ ap (λ ps. for_word ++ for_target function to ++ (word (codes "in") ++ ps ++ closing (codes ")"))) (at_same 1 true x)

  end_same : (in_brace : Bool) (x : Expr) → end_of_do function in_brace (unplaced.expr x) ≡ end_of_do function in_brace x
  unfolding end_of_do
  end_same in_brace x = ap (λ ps. S.line_end_unless in_brace ++ ps) (head_same (codes "while") x)

  label_same : (o : Option Expr) → label function (option_map unplaced.expr o) ≡ label function o
  label_same None = refl
  label_same (Some x) = ap (λ ps. word (codes "case") ++ ps) (at_same 1 true x)

  -- ---- statements

  form_same : (l : StmtForm-F Shown (List Piece) (List Piece) (List Piece) Shown) → S.of_form function (forget_form l) ≡ S.of_form function l
  form_same (StmtForm-F.Var ds) = ap with_semicolon (declarators_same true ds)
  form_same (StmtForm-F.FuncDecl f) = refl
  form_same (StmtForm-F.Eval x) = ap with_semicolon (evaluation_same x)
  form_same (StmtForm-F.Block body) = refl
  form_same StmtForm-F.Empty = refl
  form_same (StmtForm-F.If x a None) = ap (λ ps. ending ps a) (head_same (codes "if") x)
  form_same (StmtForm-F.If x a (Some b)) =
      ap (λ ps. let made : Shown = record { pieces = ps ++ a.pieces ++ else_word a.is_block ++ b.pieces; is_block = false; ends_in_brace = b.ends_in_brace } in made) (head_same (codes "if") x)
  form_same (StmtForm-F.DoWhile a x) = ap (λ ps. with_semicolon (word (codes "do") ++ a.pieces ++ ps)) (end_same a.ends_in_brace x)
  form_same (StmtForm-F.While x a) = ap (λ ps. ending ps a) (head_same (codes "while") x)
  form_same (StmtForm-F.For from test step a) = ap (λ ps. ending ps a) (for_same from test step)
  form_same (StmtForm-F.ForIn to x a) = ap (λ ps. ending ps a) (for_in_same to x)
  form_same StmtForm-F.Continue = refl
  form_same StmtForm-F.Break = refl
  form_same (StmtForm-F.Return x) = ap (λ ps. with_semicolon (word (codes "return") ++ ps)) (maybe_same x)
  form_same (StmtForm-F.Switch x cases) = ap (λ ps. with_brace (ps ++ clauses (λ c. c) cases)) (head_same (codes "switch") x)
  form_same (StmtForm-F.Throw x) = ap (λ ps. with_semicolon (word (codes "throw") ++ ps)) (at_same 1 true x)
  form_same (StmtForm-F.Try body handler final) = refl

  pub shown_same : (t : Stmt) → shown function (unplaced.stmt t) ≡ shown function t
  shown_same =
      stmt_same
      (S.of_form function) (S.of_case function) (S.of_catch function) (S.of_finally function) (λ s. s.form)
      (S.of_form function) (S.of_case function) (S.of_catch function) (S.of_finally function) (λ s. s.form)
      form_same (λ c. ap (λ ps. clause ps (lines (λ s. s) c.body)) (label_same c.test)) (λ c. refl) (λ f. refl) (λ at f. refl)

  pub lines_same : (body : List Stmt) → lines (shown function) (map unplaced.stmt body) ≡ lines (shown function) body
  lines_same [] = refl
  lines_same (t ∷ ts) =
      ap (λ s. S.line s ++ lines (shown function) (map unplaced.stmt ts)) (shown_same t) ∙ ap (λ ps. S.line (shown function t) ++ ps) (lines_same ts)
