-- Operators (11.3 to 11.13) by their tokens.
use Rattle.std.specs.Prelude.{Option, Some, None}
use Rattle.js_value.specs.declared.operator.BinaryOp.{BinaryOp}
use Rattle.js_value.specs.declared.operator.BinaryOp.TheVariants as binary
use Rattle.js_value.specs.declared.operator.UnaryOp.{UnaryOp}
use Rattle.js_value.specs.declared.operator.UnaryOp.TheVariants as unary
use Rattle.js_tree.specs.declared.expression.LogicOp.{LogicOp}
use Rattle.js_tree.specs.declared.expression.LogicOp.TheVariants as logic
use Rattle.js_tree.specs.declared.expression.StepOp.{StepOp}
use Rattle.js_tree.specs.declared.expression.StepOp.TheVariants as step
use Rattle.js_tree.specs.declared.token.Keyword.TheVariants as word
use Rattle.js_tree.specs.declared.token.Punctuator.TheVariants as mark
use Rattle.js_tree.specs.declared.token.TokenForm.{TokenForm}
use Rattle.js_tree.specs.declared.token.TokenForm.TheVariants as form

-- 11.5
abbrev pub multiplicative_operator : TokenForm → Option BinaryOp
multiplicative_operator (form.Punctuator mark.Star) = Some binary.Mul
multiplicative_operator (form.Punctuator mark.Slash) = Some binary.Div
multiplicative_operator (form.Punctuator mark.Percent) = Some binary.Rem
multiplicative_operator _ = None

-- 11.6
abbrev pub additive_operator : TokenForm → Option BinaryOp
additive_operator (form.Punctuator mark.Plus) = Some binary.Add
additive_operator (form.Punctuator mark.Minus) = Some binary.Sub
additive_operator _ = None

-- 11.7
abbrev pub shift_operator : TokenForm → Option BinaryOp
shift_operator (form.Punctuator mark.Shl) = Some binary.Shl
shift_operator (form.Punctuator mark.Sar) = Some binary.Sar
shift_operator (form.Punctuator mark.Shr) = Some binary.Shr
shift_operator _ = None

-- 11.8, but `in`
abbrev pub relational_operator : TokenForm → Option BinaryOp
relational_operator (form.Punctuator mark.Less) = Some binary.Less
relational_operator (form.Punctuator mark.Greater) = Some binary.Greater
relational_operator (form.Punctuator mark.LessEqual) = Some binary.LessEqual
relational_operator (form.Punctuator mark.GreaterEqual) = Some binary.GreaterEqual
relational_operator (form.Reserved word.InstanceOf) = Some binary.InstanceOf
relational_operator _ = None

abbrev pub in_operator : TokenForm → Option BinaryOp
in_operator (form.Reserved word.In) = Some binary.In
in_operator _ = None

-- 11.9
abbrev pub equality_operator : TokenForm → Option BinaryOp
equality_operator (form.Punctuator mark.Equal) = Some binary.Equal
equality_operator (form.Punctuator mark.NotEqual) = Some binary.NotEqual
equality_operator (form.Punctuator mark.Same) = Some binary.Same
equality_operator (form.Punctuator mark.NotSame) = Some binary.NotSame
equality_operator _ = None

-- 11.10
abbrev pub bit_and_operator : TokenForm → Option BinaryOp
bit_and_operator (form.Punctuator mark.BitAnd) = Some binary.BitAnd
bit_and_operator _ = None

abbrev pub bit_xor_operator : TokenForm → Option BinaryOp
bit_xor_operator (form.Punctuator mark.BitXor) = Some binary.BitXor
bit_xor_operator _ = None

abbrev pub bit_or_operator : TokenForm → Option BinaryOp
bit_or_operator (form.Punctuator mark.BitOr) = Some binary.BitOr
bit_or_operator _ = None

-- 11.11
abbrev pub and_operator : TokenForm → Option LogicOp
and_operator (form.Punctuator mark.And) = Some logic.And
and_operator _ = None

abbrev pub or_operator : TokenForm → Option LogicOp
or_operator (form.Punctuator mark.Or) = Some logic.Or
or_operator _ = None

-- 11.13: the operator of a compound assignment, or none
abbrev pub assignment_operator : TokenForm → Option (Option BinaryOp)
assignment_operator (form.Punctuator mark.Assign) = Some None
assignment_operator (form.Punctuator mark.PlusAssign) = Some (Some binary.Add)
assignment_operator (form.Punctuator mark.MinusAssign) = Some (Some binary.Sub)
assignment_operator (form.Punctuator mark.StarAssign) = Some (Some binary.Mul)
assignment_operator (form.Punctuator mark.SlashAssign) = Some (Some binary.Div)
assignment_operator (form.Punctuator mark.PercentAssign) = Some (Some binary.Rem)
assignment_operator (form.Punctuator mark.ShlAssign) = Some (Some binary.Shl)
assignment_operator (form.Punctuator mark.SarAssign) = Some (Some binary.Sar)
assignment_operator (form.Punctuator mark.ShrAssign) = Some (Some binary.Shr)
assignment_operator (form.Punctuator mark.BitAndAssign) = Some (Some binary.BitAnd)
assignment_operator (form.Punctuator mark.BitOrAssign) = Some (Some binary.BitOr)
assignment_operator (form.Punctuator mark.BitXorAssign) = Some (Some binary.BitXor)
assignment_operator _ = None

-- 11.3
abbrev pub postfix_operator : TokenForm → Option StepOp
postfix_operator (form.Punctuator mark.PlusPlus) = Some step.PostUp
postfix_operator (form.Punctuator mark.MinusMinus) = Some step.PostDown
postfix_operator _ = None

-- 11.4.4, 11.4.5
abbrev pub prefix_step : TokenForm → Option StepOp
prefix_step (form.Punctuator mark.PlusPlus) = Some step.PreUp
prefix_step (form.Punctuator mark.MinusMinus) = Some step.PreDown
prefix_step _ = None

-- 11.4, but `++` and `--`
abbrev pub unary_operator : TokenForm → Option UnaryOp
unary_operator (form.Reserved word.Delete) = Some unary.Delete
unary_operator (form.Reserved word.Void) = Some unary.Void
unary_operator (form.Reserved word.TypeOf) = Some unary.TypeOf
unary_operator (form.Punctuator mark.Plus) = Some unary.Plus
unary_operator (form.Punctuator mark.Minus) = Some unary.Minus
unary_operator (form.Punctuator mark.BitNot) = Some unary.BitNot
unary_operator (form.Punctuator mark.Not) = Some unary.Not
unary_operator _ = None

-- 7.8.5: what would begin a regular expression
abbrev pub regular_expression : TokenForm → Option (Unit {0})
regular_expression (form.Punctuator mark.Slash) = Some tt
regular_expression (form.Punctuator mark.SlashAssign) = Some tt
regular_expression _ = None
