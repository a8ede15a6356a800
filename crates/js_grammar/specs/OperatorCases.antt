-- Cases of operators: the operator of each token, worked out by hand.
use Rattle.std.specs.Prelude.{◌≡◌, ℕ, ◌+◌, codes, length, List, [], ◌∷◌, ◌++◌, map, Option, Some, None, Ok}
use Rattle.js_value.specs.declared.operator.BinaryOp.{BinaryOp}
use Rattle.js_value.specs.declared.operator.BinaryOp.TheVariants as binary
use Rattle.js_value.specs.declared.operator.UnaryOp.{UnaryOp}
use Rattle.js_value.specs.declared.operator.UnaryOp.TheVariants as unary
use Rattle.js_tree.specs.declared.expression.Expr.{Expr}
use Rattle.js_tree.specs.declared.expression.ExprForm.{ExprForm}
use Rattle.js_tree.specs.declared.expression.ExprForm.TheVariants as e
use Rattle.js_tree.specs.declared.expression.LogicOp.{LogicOp}
use Rattle.js_tree.specs.declared.expression.LogicOp.TheVariants as logic
use Rattle.js_tree.specs.declared.expression.StepOp.{StepOp}
use Rattle.js_tree.specs.declared.expression.StepOp.TheVariants as step
use Rattle.js_tree.specs.declared.statement.Script.{Script}
use Rattle.js_tree.specs.declared.statement.StmtForm.TheVariants as s
use Rattle.js_tree.specs.Trees.{expr, name, stmt, one}
use Rattle.js_grammar.specs.Answers.{read_text}

-- the script of one expression
abbrev pub alone : ExprForm → Script
alone form = one (stmt 0 (s.Eval (expr 0 form)))

-- `a`, an operator of so many characters, and `b`
abbrev pub between : List ℕ → List ℕ
between operator = codes "a " ++ operator ++ codes " b"

abbrev pub right : List ℕ → Expr
right operator = name (length operator + 3) (codes "b")

-- an operator of so many characters, and `a . b`, which each of them takes
abbrev pub before : List ℕ → List ℕ
before operator = operator ++ codes " a . b"

abbrev pub operand : List ℕ → Expr
operand operator = let at : ℕ = length operator + 1 in expr at (e.Member (name at (codes "a")) (codes "b"))

-- 11.5 to 11.10
abbrev pub binary_operators : List (List ℕ × BinaryOp)
binary_operators =
    (codes "*", binary.Mul)
    ∷ (codes "/", binary.Div)
    ∷ (codes "%", binary.Rem)
    ∷ (codes "+", binary.Add)
    ∷ (codes "-", binary.Sub)
    ∷ (codes "<<", binary.Shl)
    ∷ (codes ">>", binary.Sar)
    ∷ (codes ">>>", binary.Shr)
    ∷ (codes "<", binary.Less)
    ∷ (codes ">", binary.Greater)
    ∷ (codes "<=", binary.LessEqual)
    ∷ (codes ">=", binary.GreaterEqual)
    ∷ (codes "instanceof", binary.InstanceOf)
    ∷ (codes "in", binary.In)
    ∷ (codes "==", binary.Equal)
    ∷ (codes "!=", binary.NotEqual)
    ∷ (codes "===", binary.Same)
    ∷ (codes "!==", binary.NotSame)
    ∷ (codes "&", binary.BitAnd)
    ∷ (codes "^", binary.BitXor)
    ∷ (codes "|", binary.BitOr)
    ∷ []

-- 11.11
abbrev pub logical_operators : List (List ℕ × LogicOp)
logical_operators = (codes "&&", logic.And) ∷ (codes "||", logic.Or) ∷ []

-- 11.13
abbrev pub assignment_operators : List (List ℕ × Option BinaryOp)
assignment_operators =
    (codes "=", None)
    ∷ (codes "+=", Some binary.Add)
    ∷ (codes "-=", Some binary.Sub)
    ∷ (codes "*=", Some binary.Mul)
    ∷ (codes "/=", Some binary.Div)
    ∷ (codes "%=", Some binary.Rem)
    ∷ (codes "<<=", Some binary.Shl)
    ∷ (codes ">>=", Some binary.Sar)
    ∷ (codes ">>>=", Some binary.Shr)
    ∷ (codes "&=", Some binary.BitAnd)
    ∷ (codes "|=", Some binary.BitOr)
    ∷ (codes "^=", Some binary.BitXor)
    ∷ []

-- 11.4, but `++` and `--`
abbrev pub unary_operators : List (List ℕ × UnaryOp)
unary_operators =
    (codes "delete", unary.Delete)
    ∷ (codes "void", unary.Void)
    ∷ (codes "typeof", unary.TypeOf)
    ∷ (codes "+", unary.Plus)
    ∷ (codes "-", unary.Minus)
    ∷ (codes "~", unary.BitNot)
    ∷ (codes "!", unary.Not)
    ∷ []

-- 11.4.4, 11.4.5
abbrev pub prefix_steps : List (List ℕ × StepOp)
prefix_steps = (codes "++", step.PreUp) ∷ (codes "--", step.PreDown) ∷ []

-- 11.3
abbrev pub postfix_steps : List (List ℕ × StepOp)
postfix_steps = (codes "++", step.PostUp) ∷ (codes "--", step.PostDown) ∷ []

pub record OperatorCases : Type 0 where
  pub binary_tokens :
      map (λ row. read_text 50 (between row.0)) binary_operators
      ≡ map (λ row. Ok (alone (e.Binary row.1 (name 0 (codes "a")) (right row.0)))) binary_operators
  pub logical_tokens :
      map (λ row. read_text 50 (between row.0)) logical_operators
      ≡ map (λ row. Ok (alone (e.Logic row.1 (name 0 (codes "a")) (right row.0)))) logical_operators
  pub assignment_tokens :
      map (λ row. read_text 50 (between row.0)) assignment_operators
      ≡ map (λ row. Ok (alone (e.Assign (name 0 (codes "a")) row.1 (right row.0)))) assignment_operators
  pub unary_tokens :
      map (λ row. read_text 50 (before row.0)) unary_operators
      ≡ map (λ row. Ok (alone (e.Unary row.1 (operand row.0)))) unary_operators
  pub prefix_tokens : map (λ row. read_text 50 (before row.0)) prefix_steps ≡ map (λ row. Ok (alone (e.Step row.1 (operand row.0)))) prefix_steps
  pub postfix_tokens :
      map (λ row. read_text 50 (codes "a " ++ row.0)) postfix_steps
      ≡ map (λ row. Ok (alone (e.Step row.1 (name 0 (codes "a"))))) postfix_steps
