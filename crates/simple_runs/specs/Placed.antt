-- The residual of variables, wherever its parts lie.
use Rattle.std.specs.Prelude.{ℕ, suc, ℤ, List, [], ◌∷◌, Option, Some, None, pos, negsuc}
use Rattle.js_value.specs.declared.operator.UnaryOp.TheVariants as unary
use Rattle.js_value.specs.declared.primitive.Primitive.{Primitive}
use Rattle.js_value.specs.declared.primitive.Primitive.TheVariants as primitive
use Rattle.js_tree.specs.Trees.{expr, declarator, stmt, script, one}
use Rattle.js_tree.specs.declared.expression.Expr.{Expr}
use Rattle.js_tree.specs.declared.expression.ExprForm.TheVariants as form
use Rattle.js_tree.specs.declared.statement.Declarator.{Declarator}
use Rattle.js_tree.specs.declared.statement.Script.{Script}
use Rattle.js_tree.specs.declared.statement.Stmt.{Stmt}
use Rattle.js_tree.specs.declared.statement.StmtForm.TheVariants as statement

-- where a declarator, its constant and the operand of a negation lie
pub record Places : Type 0 where
  pub name : ℕ
  pub value : ℕ
  pub operand : ℕ

abbrev pub literal : ℕ → ℤ → Expr
literal at n = expr at (form.Literal (primitive.Number n))

abbrev pub minus : ℕ → Expr → Expr
minus at a = expr at (form.Unary unary.Minus a)

-- the constant of a primitive; none for undefined
abbrev pub constant_at : Places → Primitive → Option Expr
constant_at at primitive.Undefined = None
constant_at at (primitive.Number (pos n)) = Some (literal at.value (pos n))
constant_at at (primitive.Number (negsuc n)) = Some (minus at.value (literal at.operand (pos (suc n))))
constant_at at value = Some (expr at.value (form.Literal value))

abbrev pub variable_at : Places → List ℕ × Primitive → Declarator
variable_at at v = declarator at.name v.0 (constant_at at v.1)

-- places, by the positions of variables, without the first
abbrev pub behind : (ℕ → Places) → ℕ → Places
behind at = λ i. at (suc i)

abbrev pub variables_at : (ℕ → Places) → List (List ℕ × Primitive) → List Declarator
variables_at at [] = []
variables_at at (v ∷ vs) = variable_at (at 0) v ∷ variables_at (behind at) vs

abbrev pub var_at : ℕ → List Declarator → Stmt
var_at at ds = stmt at (statement.Var ds)

-- the residual of these variables, its statement at a place and its declarators at others
unfoldable pub placed : ℕ → (ℕ → Places) → List (List ℕ × Primitive) → Script
placed at places [] = script [] []
placed at places (v ∷ vs) = one (var_at at (variables_at places (v ∷ vs)))
