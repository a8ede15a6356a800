-- The height of a tree by its form: one more than that of its highest part.
use Rattle.std.proofs.Common.{◌≡◌, ℕ, suc, max, map, ap, ◌∙◌}
use Rattle.js_value.specs.declared.place.FuncNo.{FuncNo}
use Rattle.js_tree.specs.declared.expression.Expr.{Expr}
use Rattle.js_tree.specs.declared.expression.Field.{Field, out-Field}
use Rattle.js_tree.specs.declared.expression.ExprForm.{ExprForm, out-ExprForm}
use Rattle.js_tree.specs.declared.expression.ExprForm.TheFolds.{map-ExprForm, map-Field, fold-ExprForm, fold-Field, fold_out-Expr, fold_out-ExprForm, fold_out-Field}
use Rattle.js_tree.specs.declared.expression.ExprForm.TheOpen.{ExprForm-F}
use Rattle.js_tree.specs.declared.statement.Case.{Case, out-Case}
use Rattle.js_tree.specs.declared.statement.Catch.{Catch, out-Catch}
use Rattle.js_tree.specs.declared.statement.Finally.{Finally, out-Finally}
use Rattle.js_tree.specs.declared.statement.Stmt.{Stmt}
use Rattle.js_tree.specs.declared.statement.StmtForm.{StmtForm, out-StmtForm}
use Rattle.js_tree.specs.declared.statement.StmtForm.TheFolds.{map-StmtForm, fold-StmtForm, fold-Case, fold-Catch, fold-Finally, fold_out-Stmt, fold_out-StmtForm, fold_out-Case, fold_out-Catch, fold_out-Finally}
use Rattle.js_tree.specs.declared.statement.StmtForm.TheOpen.{StmtForm-F}
use Rattle.script_nesting.specs.Highest.{highest}
use Rattle.script_nesting.specs.Height as height

module _ (tall : FuncNo → ℕ) where
  abbrev pub high_form : ExprForm → ℕ
  high_form = fold-ExprForm ℕ ℕ ℕ (height.of_form tall) (height.of_field tall) (λ e. suc e.form)

  abbrev pub high_field : Field → ℕ
  high_field = fold-Field ℕ ℕ ℕ (height.of_form tall) (height.of_field tall) (λ e. suc e.form)

  abbrev pub heights : ExprForm-F ExprForm Field Expr → ExprForm-F ℕ ℕ ℕ
  heights = map-ExprForm ExprForm Field Expr ℕ ℕ ℕ high_form high_field (height.height tall)

  pub height_is : (e : Expr) → height.height tall e ≡ suc (height.of_form tall (heights (out-ExprForm e.form)))
  height_is e =
      fold_out-Expr ℕ ℕ ℕ (height.of_form tall) (height.of_field tall) (λ e. suc e.form) e
      ∙ ap suc (fold_out-ExprForm ℕ ℕ ℕ (height.of_form tall) (height.of_field tall) (λ e. suc e.form) e.form)

  pub field_height_is : (f : Field) → high_field f ≡ height.of_field tall (map-Field ExprForm Field Expr ℕ ℕ ℕ high_form high_field (height.height tall) (out-Field f))
  field_height_is f = fold_out-Field ℕ ℕ ℕ (height.of_form tall) (height.of_field tall) (λ e. suc e.form) f

  abbrev pub high_stmt_form : StmtForm → ℕ
  high_stmt_form = fold-StmtForm ℕ ℕ ℕ ℕ ℕ (height.of_stmt_form tall) (height.of_case tall) (height.of_catch tall) (height.of_finally tall) (λ t. suc t.form)

  abbrev pub high_case : Case → ℕ
  high_case = fold-Case ℕ ℕ ℕ ℕ ℕ (height.of_stmt_form tall) (height.of_case tall) (height.of_catch tall) (height.of_finally tall) (λ t. suc t.form)

  abbrev pub high_catch : Catch → ℕ
  high_catch = fold-Catch ℕ ℕ ℕ ℕ ℕ (height.of_stmt_form tall) (height.of_case tall) (height.of_catch tall) (height.of_finally tall) (λ t. suc t.form)

  abbrev pub high_finally : Finally → ℕ
  high_finally = fold-Finally ℕ ℕ ℕ ℕ ℕ (height.of_stmt_form tall) (height.of_case tall) (height.of_catch tall) (height.of_finally tall) (λ t. suc t.form)

  abbrev pub stmt_heights : StmtForm-F StmtForm Case Catch Finally Stmt → StmtForm-F ℕ ℕ ℕ ℕ ℕ
  stmt_heights = map-StmtForm StmtForm Case Catch Finally Stmt ℕ ℕ ℕ ℕ ℕ high_stmt_form high_case high_catch high_finally (height.stmt_height tall)

  pub stmt_height_is : (t : Stmt) → height.stmt_height tall t ≡ suc (height.of_stmt_form tall (stmt_heights (out-StmtForm t.form)))
  stmt_height_is t =
      fold_out-Stmt ℕ ℕ ℕ ℕ ℕ (height.of_stmt_form tall) (height.of_case tall) (height.of_catch tall) (height.of_finally tall) (λ t. suc t.form) t
      ∙ ap suc (fold_out-StmtForm ℕ ℕ ℕ ℕ ℕ (height.of_stmt_form tall) (height.of_case tall) (height.of_catch tall) (height.of_finally tall) (λ t. suc t.form) t.form)

  pub case_height_is : (c : Case) → high_case c ≡ max (height.of_maybe tall (out-Case c).test) (highest (map (height.stmt_height tall) (out-Case c).body))
  case_height_is c = fold_out-Case ℕ ℕ ℕ ℕ ℕ (height.of_stmt_form tall) (height.of_case tall) (height.of_catch tall) (height.of_finally tall) (λ t. suc t.form) c

  pub catch_height_is : (c : Catch) → high_catch c ≡ highest (map (height.stmt_height tall) (out-Catch c).body)
  catch_height_is c = fold_out-Catch ℕ ℕ ℕ ℕ ℕ (height.of_stmt_form tall) (height.of_case tall) (height.of_catch tall) (height.of_finally tall) (λ t. suc t.form) c

  pub finally_height_is : (f : Finally) → high_finally f ≡ highest (map (height.stmt_height tall) (out-Finally f).body)
  finally_height_is f = fold_out-Finally ℕ ℕ ℕ ℕ ℕ (height.of_stmt_form tall) (height.of_case tall) (height.of_catch tall) (height.of_finally tall) (λ t. suc t.form) f
