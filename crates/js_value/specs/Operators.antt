-- Operators on values that are no objects (11): one table from an operator and its operands to a value, or to the cause for
-- leaving the profile where the standard gives no value of the profile. Operands are converted from left to right.
use Rattle.std.specs.Prelude.{◌^◌, ◌%◌, ◌++◌, ℕ, ℤ, pos, neg_ℤ, ◌-ℤ◌, ◌*ℤ◌, unsigned_abs, bit_and, bit_or, bit_xor, int_lt, int_div, int_rem, Bool, true, false, not, nat_le, ◌&&◌, ◌||◌, if◌then◌else◌, List, length, codes, Option, Some, None, Result, Ok, Err}
use Rattle.std.specs.Cmp.Lexicographic.{slice_cmp}
use Rattle.std.specs.Int.{int_div_euclid}
use Rattle.std.specs.Option.{option_map, option_or}
use Rattle.std.specs.declared.cmp.Ordering.{Ordering}
use Rattle.std.specs.Ordering.{int_cmp, int_eq, is_lt, is_le, is_gt, is_ge, nat_cmp}
use Rattle.js_value.specs.Numbers.{added, subtracted, negated, within}
use Rattle.js_value.specs.Conversions.{◌>>=◌, to_boolean, to_number, to_text, uint32, int32, signed32, is_same_value}
use Rattle.js_value.specs.declared.operator.BinaryOp.{BinaryOp}
use Rattle.js_value.specs.declared.operator.BinaryOp.TheVariants as binary
use Rattle.js_value.specs.declared.operator.UnaryOp.{UnaryOp}
use Rattle.js_value.specs.declared.operator.UnaryOp.TheVariants as unary
use Rattle.js_value.specs.declared.primitive.Primitive.{Primitive}
use Rattle.js_value.specs.declared.primitive.Primitive.TheVariants.{Undefined, Null, Boolean, Number, Text}
use Rattle.js_value.specs.declared.why.Why.{Why}
use Rattle.js_value.specs.declared.why.Why.TheVariants.{Fraction, NotANumber, Infinite, MinusZero, TextLength}

-- what a row of the table gives
abbrev pub Entry : Type 0
Entry = Result Primitive Why

abbrev pub numeric : (ℤ → ℤ → Result ℤ Why) → Primitive → Primitive → Entry
numeric operation a b = do
  x ← to_number a
  y ← to_number b
  n ← operation x y
  Ok (Number n)

abbrev pub truth : Bool → Entry
truth b = Ok (Boolean b)

-- ---- 11.5: multiplicative operators

-- 11.5.1: zero times a negative number is minus zero
abbrev pub multiplied : ℤ → ℤ → Result ℤ Why
multiplied x y =
    if int_eq (x *ℤ y) (pos 0) && (int_lt x (pos 0) || int_lt y (pos 0)) then Err MinusZero else within (x *ℤ y)

-- a quotient of 0 whose divisor is negative is minus zero
abbrev pub quotient : ℤ → ℤ → Result ℤ Why
quotient x y =
    if not (int_eq (int_rem x y) (pos 0)) then Err Fraction
    else (if int_eq x (pos 0) && int_lt y (pos 0) then Err MinusZero else within (int_div x y))

-- 11.5.2
abbrev pub divided : ℤ → ℤ → Result ℤ Why
divided x y = if int_eq y (pos 0) then Err (if int_eq x (pos 0) then NotANumber else Infinite) else quotient x y

-- 11.5.3: a remainder has the dividend's sign, so that of 0 is minus zero where the dividend is negative
abbrev pub remainder : ℤ → ℤ → Result ℤ Why
remainder x y =
    if int_eq y (pos 0) then Err NotANumber
    else (if int_eq (int_rem x y) (pos 0) && int_lt x (pos 0) then Err MinusZero else within (int_rem x y))

-- ---- 11.6.1: addition

abbrev pub is_text : Primitive → Bool
is_text (Text t) = true
is_text _ = false

-- the greatest count of units of a string
abbrev pub greatest_length : ℕ
greatest_length = 16777216

abbrev pub joined : List ℕ → List ℕ → Entry
joined s t = if nat_le (length (s ++ t)) greatest_length then Ok (Text (s ++ t)) else Err TextLength

-- steps 7 and 8
unfoldable pub add : Primitive → Primitive → Entry
add a b = if is_text a || is_text b then joined (to_text a) (to_text b) else numeric added a b

-- ---- 11.7: shifts, of 32 bits by the five lowest bits of the right operand

abbrev pub shift_count : ℤ → ℕ
shift_count y = unsigned_abs (uint32 y) % 32

-- 11.7.1
abbrev pub shifted_left : ℤ → ℤ → Result ℤ Why
shifted_left x y = Ok (int32 (int32 x *ℤ pos (2 ^ shift_count y)))

-- 11.7.2: rounded down, so that the sign stays
abbrev pub shifted_right : ℤ → ℤ → Result ℤ Why
shifted_right x y = Ok (int_div_euclid (int32 x) (pos (2 ^ shift_count y)))

-- 11.7.3
abbrev pub shifted_right_unsigned : ℤ → ℤ → Result ℤ Why
shifted_right_unsigned x y = Ok (int_div_euclid (uint32 x) (pos (2 ^ shift_count y)))

-- ---- 11.10: bitwise operators, on 32 bits each

abbrev pub bits32 : ℤ → ℕ
bits32 x = unsigned_abs (uint32 x)

abbrev pub bitwise : (ℕ → ℕ → ℕ) → ℤ → ℤ → Result ℤ Why
bitwise operation x y = Ok (signed32 (pos (operation (bits32 x) (bits32 y))))

-- ---- 11.8: relational operators

-- 11.8.5: two strings are compared by their units, everything else by numbers
unfoldable pub compared : Primitive → Primitive → Result Ordering Why
compared (Text s) (Text t) = Ok (slice_cmp nat_cmp s t)
compared a b = do
  x ← to_number a
  y ← to_number b
  Ok (int_cmp x y)

abbrev pub relation : (Ordering → Bool) → Primitive → Primitive → Result Bool Why
relation holds a b = do
  o ← compared a b
  Ok (holds o)

-- ---- 11.9: equality operators

-- the number that steps 6 and 7 of 11.9.3 put in place of a truth value
abbrev pub number_of : Bool → Primitive
number_of b = Number (if b then pos 1 else pos 0)

abbrev pub number_is : ℤ → Result ℤ Why → Result Bool Why
number_is x y = do
  n ← y
  Ok (int_eq x n)

-- 11.9.3 of operands none of which is a truth value
abbrev pub equal_plain : Primitive → Primitive → Result Bool Why
-- steps 2 and 3
equal_plain Undefined Null = Ok true
equal_plain Null Undefined = Ok true
-- steps 4 and 5
equal_plain (Number x) (Text t) = number_is x (to_number (Text t))
equal_plain (Text t) (Number y) = number_is y (to_number (Text t))
-- steps 1 and 10
equal_plain a b = Ok (is_same_value a b)

-- 11.9.3
unfoldable pub loosely_equal : Primitive → Primitive → Result Bool Why
-- step 1
loosely_equal (Boolean p) (Boolean q) = Ok (is_same_value (Boolean p) (Boolean q))
-- steps 6 and 7
loosely_equal (Boolean p) b = equal_plain (number_of p) b
loosely_equal a (Boolean q) = equal_plain a (number_of q)
loosely_equal a b = equal_plain a b

-- 11.9.6: without NaN and minus zero it is SameValue
abbrev pub strictly_equal : Primitive → Primitive → Bool
strictly_equal = is_same_value

-- 11.9.2
abbrev pub not_loosely_equal : Primitive → Primitive → Result Bool Why
not_loosely_equal a b = do
  t ← loosely_equal a b
  Ok (not t)

-- ---- the operators with two operands

-- those on two numbers
unfoldable pub number_row : BinaryOp → Option (ℤ → ℤ → Result ℤ Why)
number_row binary.Sub = Some subtracted
number_row binary.Mul = Some multiplied
number_row binary.Div = Some divided
number_row binary.Rem = Some remainder
number_row binary.Shl = Some shifted_left
number_row binary.Sar = Some shifted_right
number_row binary.Shr = Some shifted_right_unsigned
number_row binary.BitAnd = Some (bitwise bit_and)
number_row binary.BitOr = Some (bitwise bit_or)
number_row binary.BitXor = Some (bitwise bit_xor)
number_row _ = None

-- those that tell whether something holds
unfoldable pub truth_row : BinaryOp → Option (Primitive → Primitive → Result Bool Why)
-- 11.8.1 to 11.8.4
truth_row binary.Less = Some (relation is_lt)
truth_row binary.Greater = Some (relation is_gt)
truth_row binary.LessEqual = Some (relation is_le)
truth_row binary.GreaterEqual = Some (relation is_ge)
-- 11.9.1, 11.9.2
truth_row binary.Equal = Some loosely_equal
truth_row binary.NotEqual = Some not_loosely_equal
-- 11.9.4, 11.9.5
truth_row binary.Same = Some (λ a b. Ok (strictly_equal a b))
truth_row binary.NotSame = Some (λ a b. Ok (not (strictly_equal a b)))
truth_row _ = None

abbrev pub telling : (Primitive → Primitive → Result Bool Why) → Primitive → Primitive → Entry
telling tells a b = do
  t ← tells a b
  truth t

-- The row of an operator. `in` and `instanceof` have none: they look into objects (11.8.6, 11.8.7).
unfoldable pub binary_row : BinaryOp → Option (Primitive → Primitive → Entry)
unfolding number_row truth_row compared
binary_row binary.Add = Some add
binary_row op = option_or (option_map numeric (number_row op)) (option_map telling (truth_row op))

-- ---- 11.4: the operators with one operand

abbrev pub of_number : (ℤ → Result ℤ Why) → Primitive → Entry
of_number operation a = do
  x ← to_number a
  n ← operation x
  Ok (Number n)

-- 11.4.8
abbrev pub complement : ℤ → Result ℤ Why
complement x = Ok (neg_ℤ (int32 x) -ℤ pos 1)

-- 11.4.3
unfoldable pub type_of : Primitive → List ℕ
type_of Undefined = codes "undefined"
type_of Null = codes "object"
type_of (Boolean b) = codes "boolean"
type_of (Number n) = codes "number"
type_of (Text t) = codes "string"

-- The row of an operator. `delete` has none: its operand is a reference (11.4.1).
unfoldable pub unary_row : UnaryOp → Option (Primitive → Entry)
-- 11.4.6
unary_row unary.Plus = Some (of_number (λ x. Ok x))
-- 11.4.7
unary_row unary.Minus = Some (of_number negated)
-- 11.4.9
unary_row unary.Not = Some (λ a. truth (not (to_boolean a)))
unary_row unary.BitNot = Some (of_number complement)
unary_row unary.TypeOf = Some (λ a. Ok (Text (type_of a)))
-- 11.4.2
unary_row unary.Void = Some (λ a. Ok Undefined)
unary_row unary.Delete = None
