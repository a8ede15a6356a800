-- The residual of variables: the script that declares them with their values.
use Rattle.std.specs.Prelude.{ℕ, suc, List, [], ◌∷◌, map, Option, Some, None, pos, negsuc}
use Rattle.js_value.specs.declared.operator.UnaryOp.TheVariants as unary
use Rattle.js_value.specs.declared.primitive.Primitive.{Primitive}
use Rattle.js_value.specs.declared.primitive.Primitive.TheVariants as primitive
use Rattle.js_tree.specs.Trees.{expr, declarator, stmt, script, one}
use Rattle.js_tree.specs.declared.expression.Expr.{Expr}
use Rattle.js_tree.specs.declared.expression.ExprForm.TheVariants as form
use Rattle.js_tree.specs.declared.statement.Declarator.{Declarator}
use Rattle.js_tree.specs.declared.statement.Script.{Script}
use Rattle.js_tree.specs.declared.statement.StmtForm.TheVariants as statement

abbrev pub literal : Primitive → Expr
literal value = expr 0 (form.Literal value)

-- the literal of a primitive, negated where it is a negative number; none for undefined
abbrev pub constant : Primitive → Option Expr
constant primitive.Undefined = None
constant (primitive.Number (negsuc n)) = Some (expr 0 (form.Unary unary.Minus (literal (primitive.Number (pos (suc n))))))
constant value = Some (literal value)

abbrev pub variable : List ℕ × Primitive → Declarator
variable v = declarator 0 v.0 (constant v.1)

-- One `var` statement that declares these names with these values, in order, or nothing where there is none. Its places are 0.
unfoldable pub snapshot : List (List ℕ × Primitive) → Script
snapshot [] = script [] []
snapshot (v ∷ vs) = one (stmt 0 (statement.Var (map variable (v ∷ vs))))
