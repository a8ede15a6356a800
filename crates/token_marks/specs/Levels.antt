-- Operators with two operands, as the grammar finds them.
use Rattle.std.specs.Prelude.{ℕ}
use Rattle.js_tree.specs.declared.expression.Expr.{Expr}
use Rattle.js_tree.specs.declared.expression.ExprForm.{ExprForm}
use Rattle.js_tree.specs.declared.expression.ExprForm.TheVariants as e
use Rattle.js_grammar.specs.Climbing.{Found}
use Rattle.token_marks.specs.declared.operators.Level.{Level}
use Rattle.token_marks.specs.declared.operators.Level.TheVariants as level
use Rattle.token_marks.specs.declared.operators.Operator.{Operator}
use Rattle.token_marks.specs.declared.operators.Operator.TheVariants as operator

-- how many levels are no tighter
abbrev pub number : Level → ℕ
number level.Any = 0
number level.Or = 1
number level.And = 2
number level.BitOr = 3
number level.BitXor = 4
number level.BitAnd = 5
number level.Equality = 6
number level.Relational = 7
number level.Shift = 8
number level.Additive = 9
number level.Multiplicative = 10

abbrev pub form_of : Operator → Expr → Expr → ExprForm
form_of (operator.Binary op) = λ a b. e.Binary op a b
form_of (operator.Logic op) = λ a b. e.Logic op a b

abbrev pub found_of : Operator × Level → Found
found_of x = record { form = form_of x.0; level = number x.1 }
