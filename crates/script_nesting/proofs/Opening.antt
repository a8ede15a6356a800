-- How many parts are open at once inside a tree, by its form; and how high it is.
use Rattle.std.proofs.Common.{◌≡◌, ℕ, suc, max, Bool, true, List, refl, ap, ◌∙◌}
use Rattle.js_value.specs.declared.place.FuncNo.{FuncNo}
use Rattle.js_value.specs.declared.place.Place.{Place}
use Rattle.js_tree.specs.declared.expression.Expr.{Expr}
use Rattle.js_tree.specs.declared.expression.Field.{Field}
use Rattle.js_tree.specs.declared.expression.ExprForm.{ExprForm, out-ExprForm}
use Rattle.js_tree.specs.declared.expression.ExprForm.TheFolds.{fold_out-Expr, fold_out-ExprForm}
use Rattle.js_tree.specs.declared.expression.ExprForm.TheOpen.{ExprForm-F}
use Rattle.js_tree.specs.declared.statement.Case.{Case, out-Case}
use Rattle.js_tree.specs.declared.statement.Catch.{Catch, out-Catch}
use Rattle.js_tree.specs.declared.statement.Finally.{Finally, out-Finally}
use Rattle.js_tree.specs.declared.statement.Func.{Func}
use Rattle.js_tree.specs.declared.statement.Script.{Script}
use Rattle.js_tree.specs.declared.statement.Stmt.{Stmt}
use Rattle.js_tree.specs.declared.statement.StmtForm.{StmtForm, out-StmtForm}
use Rattle.js_tree.specs.declared.statement.StmtForm.TheFolds.{map-StmtForm, fold-StmtForm, fold-Case, fold-Catch, fold-Finally, fold_out-Stmt, fold_out-StmtForm, fold_out-Case, fold_out-Catch, fold_out-Finally}
use Rattle.js_tree.specs.declared.statement.StmtForm.TheOpen.{StmtForm-F}
use Rattle.js_grammar.specs.Heights.{body_of}
use Rattle.script_text.specs.Pieces.{Piece}
use Rattle.script_text.specs.Printing.{function_to}
use Rattle.script_nesting.specs.Height as height
use Rattle.script_nesting.specs.Opened as depth
use Rattle.script_nesting.specs.Opened.{Deep, of_body, in_function}
use Rattle.script_nesting.specs.Nesting.{nesting, opened, script_height}
use Rattle.script_nesting.proofs.Equations.{heights, height_is, stmt_heights, stmt_height_is}
use Rattle.script_nesting.proofs.Printed.{deep_layer}

-- ---- heights, where the form is known

module _ (tall : FuncNo → ℕ) where
  pub height_by : (at : Place) (form : ExprForm) (layer : ExprForm-F ExprForm Field Expr) → out-ExprForm form ≡ layer
      → height.height tall (record { at = at; form = form }) ≡ suc (height.of_form tall (heights tall layer))
  height_by at form layer is = height_is tall (record { at = at; form = form }) ∙ ap (λ l. suc (height.of_form tall (heights tall l))) is

  pub stmt_height_by : (at : Place) (form : StmtForm) (layer : StmtForm-F StmtForm Case Catch Finally Stmt) → out-StmtForm form ≡ layer
      → height.stmt_height tall (record { at = at; form = form }) ≡ suc (height.of_stmt_form tall (stmt_heights tall layer))
  stmt_height_by at form layer is = stmt_height_is tall (record { at = at; form = form }) ∙ ap (λ l. suc (height.of_stmt_form tall (stmt_heights tall l))) is

-- ---- open parts

module _ (function : Bool → FuncNo → List Piece) (inside : FuncNo → ℕ) where
  pub deep_by : (at : Place) (form : ExprForm) (layer : ExprForm-F ExprForm Field Expr) → out-ExprForm form ≡ layer
      → depth.deep function inside (record { at = at; form = form }) ≡ depth.of_form function inside (deep_layer function inside layer)
  deep_by at form layer is =
      fold_out-Expr Deep (List Piece × ℕ) Deep (depth.of_form function inside) (depth.of_field function inside) (λ e. e.form) (record { at = at; form = form })
      ∙ fold_out-ExprForm Deep (List Piece × ℕ) Deep (depth.of_form function inside) (depth.of_field function inside) (λ e. e.form) form
      ∙ ap (λ l. depth.of_form function inside (deep_layer function inside l)) is

  abbrev pub open_form : StmtForm → ℕ
  open_form = fold-StmtForm ℕ ℕ ℕ ℕ ℕ (depth.of_stmt_form function inside) (depth.of_case function inside) (depth.of_catch function inside) (depth.of_finally function inside) (λ t. t.form)

  abbrev pub open_case : Case → ℕ
  open_case = fold-Case ℕ ℕ ℕ ℕ ℕ (depth.of_stmt_form function inside) (depth.of_case function inside) (depth.of_catch function inside) (depth.of_finally function inside) (λ t. t.form)

  abbrev pub open_catch : Catch → ℕ
  open_catch = fold-Catch ℕ ℕ ℕ ℕ ℕ (depth.of_stmt_form function inside) (depth.of_case function inside) (depth.of_catch function inside) (depth.of_finally function inside) (λ t. t.form)

  abbrev pub open_finally : Finally → ℕ
  open_finally = fold-Finally ℕ ℕ ℕ ℕ ℕ (depth.of_stmt_form function inside) (depth.of_case function inside) (depth.of_catch function inside) (depth.of_finally function inside) (λ t. t.form)

  abbrev pub open_layer : StmtForm-F StmtForm Case Catch Finally Stmt → StmtForm-F ℕ ℕ ℕ ℕ ℕ
  open_layer = map-StmtForm StmtForm Case Catch Finally Stmt ℕ ℕ ℕ ℕ ℕ open_form open_case open_catch open_finally (depth.of_stmt function inside)

  pub open_by : (at : Place) (form : StmtForm) (layer : StmtForm-F StmtForm Case Catch Finally Stmt) → out-StmtForm form ≡ layer
      → depth.of_stmt function inside (record { at = at; form = form }) ≡ depth.of_stmt_form function inside (open_layer layer)
  open_by at form layer is =
      fold_out-Stmt ℕ ℕ ℕ ℕ ℕ (depth.of_stmt_form function inside) (depth.of_case function inside) (depth.of_catch function inside) (depth.of_finally function inside) (λ t. t.form) (record { at = at; form = form })
      ∙ fold_out-StmtForm ℕ ℕ ℕ ℕ ℕ (depth.of_stmt_form function inside) (depth.of_case function inside) (depth.of_catch function inside) (depth.of_finally function inside) (λ t. t.form) form
      ∙ ap (λ l. depth.of_stmt_form function inside (open_layer l)) is

  pub open_case_is : (c : Case) → open_case c ≡ max (depth.maybe_expr function inside 1 true (out-Case c).test) (depth.of_body function inside (out-Case c).body)
  open_case_is c = fold_out-Case ℕ ℕ ℕ ℕ ℕ (depth.of_stmt_form function inside) (depth.of_case function inside) (depth.of_catch function inside) (depth.of_finally function inside) (λ t. t.form) c

  pub open_catch_is : (c : Catch) → open_catch c ≡ max 1 (depth.of_body function inside (out-Catch c).body)
  open_catch_is c = fold_out-Catch ℕ ℕ ℕ ℕ ℕ (depth.of_stmt_form function inside) (depth.of_case function inside) (depth.of_catch function inside) (depth.of_finally function inside) (λ t. t.form) c

  pub open_finally_is : (f : Finally) → open_finally f ≡ depth.of_body function inside (out-Finally f).body
  open_finally_is f = fold_out-Finally ℕ ℕ ℕ ℕ ℕ (depth.of_stmt_form function inside) (depth.of_case function inside) (depth.of_catch function inside) (depth.of_finally function inside) (λ t. t.form) f

-- ---- functions and scripts

pub function_height_is : (d : ℕ) (funcs : List Func) (f : FuncNo) → height.function_height (suc d) funcs f ≡ height.body_height (height.function_height d funcs) (body_of funcs f)
unfolding height.function_height
function_height_is d funcs f = refl

pub in_function_is : (d : ℕ) (funcs : List Func) (f : FuncNo) → in_function (suc d) funcs f ≡ suc (of_body (function_to d funcs) (in_function d funcs) (body_of funcs f))
unfolding in_function
in_function_is d funcs f = refl

pub nesting_is : (s : Script) → nesting s ≡ max (opened s) (script_height s)
unfolding nesting
nesting_is s = refl
