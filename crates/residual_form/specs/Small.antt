-- Residuals without objects: nothing, or one `var` statement of constants.
use Rattle.std.specs.Prelude.{Bool, true, false, not, ◌&&◌, List, [], ◌∷◌, codes, Option, Some, None}
use Rattle.std.specs.List.{list_all}
use Rattle.std.specs.Str.{bytes_eq}
use Rattle.js_value.specs.declared.primitive.Primitive.TheVariants as primitive
use Rattle.js_value.specs.declared.operator.UnaryOp.TheVariants as unary
use Rattle.js_tree.specs.declared.expression.Expr.{Expr}
use Rattle.js_tree.specs.declared.expression.ExprForm.{out-ExprForm}
use Rattle.js_tree.specs.declared.expression.ExprForm.TheOpen.{ExprForm-F}
use Rattle.js_tree.specs.declared.statement.Declarator.{Declarator}
use Rattle.js_tree.specs.declared.statement.Stmt.{Stmt}
use Rattle.js_tree.specs.declared.statement.StmtForm.{out-StmtForm}
use Rattle.js_tree.specs.declared.statement.StmtForm.TheOpen.{StmtForm-F}
use Rattle.js_tree.specs.declared.statement.Script.{Script}
use Rattle.js_tree.specs.Parts.{has_functions}

abbrev pub is_number : {A B C : Type 0} → ExprForm-F A B C → Bool
is_number (ExprForm-F.Literal (primitive.Number n)) = true
is_number _ = false

-- null, a boolean, a string other than `__proto__`, a number with or without `-`, or undefined by its name
abbrev pub is_primitive : {A B : Type 0} → ExprForm-F A B Expr → Bool
is_primitive (ExprForm-F.Literal (primitive.Text units)) = not (bytes_eq units (codes "__proto__"))
is_primitive (ExprForm-F.Literal value) = true
is_primitive (ExprForm-F.Unary unary.Minus a) = is_number (out-ExprForm a.form)
is_primitive (ExprForm-F.Name name) = bytes_eq name (codes "undefined")
is_primitive _ = false

abbrev pub is_constant : Option Expr → Bool
is_constant None = true
is_constant (Some e) = is_primitive (out-ExprForm e.form)

-- a `var` statement in which no declarator has another initialiser than a primitive literal
abbrev pub is_variables : {A B C D E : Type 0} → StmtForm-F A B C D E → Bool
is_variables (StmtForm-F.Var ds) = list_all (λ (d : Declarator). is_constant d.init) ds
is_variables _ = false

abbrev pub is_residual_body : List Stmt → Bool
is_residual_body [] = true
is_residual_body (s ∷ []) = is_variables (out-StmtForm s.form)
is_residual_body (s ∷ t ∷ more) = false

-- Nothing, or one `var` statement of constants. A residual that rebuilds objects has a wrapper.
unfoldable pub is_without_wrapper : Script → Bool
is_without_wrapper s = not s.directive && not (has_functions s.funcs) && is_residual_body s.body
