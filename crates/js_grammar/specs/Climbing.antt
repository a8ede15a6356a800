-- Operators with two operands by their levels, each of which groups to the left (11.5 to 11.11).
use Rattle.std.specs.Prelude.{◌≡◌, ℕ, ◌+◌, Bool, List, [], ◌∷◌, drop, Option, Some, None, Ok}
use Rattle.std.specs.Option.{option_map, option_or}
use Rattle.js_value.specs.declared.operator.BinaryOp.{BinaryOp}
use Rattle.js_tree.specs.declared.expression.Expr.{Expr}
use Rattle.js_tree.specs.declared.expression.ExprForm.{ExprForm}
use Rattle.js_tree.specs.declared.expression.ExprForm.TheVariants as e
use Rattle.js_tree.specs.declared.expression.LogicOp.{LogicOp}
use Rattle.js_tree.specs.declared.token.TokenForm.{TokenForm}
use Rattle.js_grammar.specs.Rest.{Rest, Reading, ◌>>=◌, give, next, repeat, finish, of_first, passed}
use Rattle.js_grammar.specs.Expressions as E
use Rattle.js_grammar.specs.Operators
use Rattle.js_grammar.specs.Reading.{grammar}

-- the operators of a level, and the trees that they make of two operands
pub record Level : Type 1 where
  pub Operator : Type 0
  pub operator : TokenForm → Option Operator
  pub form : Operator → Expr → Expr → ExprForm

abbrev pub binary : (TokenForm → Option BinaryOp) → Level
binary operator = record { Operator = BinaryOp; operator = operator; form = λ op a b. e.Binary op a b }

abbrev pub logic : (TokenForm → Option LogicOp) → Level
logic operator = record { Operator = LogicOp; operator = operator; form = λ op a b. e.Logic op a b }

-- from loose to tight
abbrev pub levels : Bool → List Level
levels allows_in =
    logic Operators.or_operator ∷ logic Operators.and_operator ∷ binary Operators.bit_or_operator ∷ binary Operators.bit_xor_operator
    ∷ binary Operators.bit_and_operator ∷ binary Operators.equality_operator ∷ binary (E.relational_operator grammar allows_in)
    ∷ binary Operators.shift_operator ∷ binary Operators.additive_operator ∷ binary Operators.multiplicative_operator ∷ []

-- an operator that was found: its tree, and how many levels are no tighter
pub record Found : Type 0 where
  pub form : Expr → Expr → ExprForm
  pub level : ℕ

abbrev pub found_at : (l : Level) → ℕ → l.Operator → Found
found_at l n op = record { form = l.form op; level = n + 1 }

-- what a token is as an operator of these levels, behind so many looser ones; the tightest first
abbrev pub tight : ℕ → List Level → TokenForm → Option Found
tight n [] t = None
tight n (l ∷ ls) t = option_or (tight (n + 1) ls t) (option_map (found_at l n) (l.operator t))

module _ (operand : Reading Expr) where
  abbrev pub rule : Level → Reading Expr → (Expr → Reading Expr) → Expr → Reading Expr
  rule l tighter again left = next l.operator (λ op. do
    right ← tighter
    both ← finish left.at (l.form op left right)
    again both) (give left)

  -- operands with operators of these levels
  abbrev pub read_all : List Level → Reading Expr
  read_all [] = operand
  read_all (l ∷ ls) = read_all ls >>= repeat (rule l (read_all ls))

  -- what goes on behind the first operand
  abbrev pub rest : List Level → Expr → Reading Expr
  rest [] x = give x
  rest (l ∷ ls) x = rest ls x >>= repeat (rule l (read_all ls))

  -- an operator that comes next with its right side, whose operators are tighter, and what goes on behind them
  abbrev pub behind_operator : List Level → List Level → Expr → Found → Reading Expr
  behind_operator all ls x f = do
    first ← operand
    right ← rest (drop f.level all) first
    both ← finish x.at (f.form x right)
    rest ls both

-- how operators with two operands are read, one operator after another
pub record Climbs : Type 0 where
  -- first an operand is read
  pub begins : (allows_in : Bool) (s : Rest) → E.logical_or grammar allows_in s ≡ (E.unary grammar >>= rest (E.unary grammar) (levels allows_in)) s
  -- then an operator of a level that is allowed is taken
  pub goes_on : (allows_in : Bool) (n : ℕ) (x : Expr) (s : Rest) (f : Found) → of_first (tight n (drop n (levels allows_in))) s.tokens ≡ Some f
      → rest (E.unary grammar) (drop n (levels allows_in)) x s ≡ behind_operator (E.unary grammar) (levels allows_in) (drop n (levels allows_in)) x f (passed s)
  -- and where none comes, nothing is
  pub ends : (allows_in : Bool) (n : ℕ) (x : Expr) (s : Rest) → of_first (tight n (drop n (levels allows_in))) s.tokens ≡ None
      → rest (E.unary grammar) (drop n (levels allows_in)) x s ≡ Ok (x, s)
