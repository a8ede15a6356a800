-- Cases of conversions and operators, worked out by hand from clauses 9 and 11: for each row of the table what it gives, and
-- each cause for leaving that it has.
use Rattle.std.specs.Prelude.{◌≡◌, ◌∷◌, ℕ, ℤ, pos, neg_ℤ, Bool, true, false, List, [], map, codes, Option, Some, None, Result, Ok, Err}
use Rattle.js_value.specs.Conversions.{to_boolean, to_number, to_integer, to_uint32, to_text, is_same_value}
use Rattle.js_value.specs.Operators.{Entry, binary_row, unary_row}
use Rattle.js_value.specs.declared.operator.BinaryOp.{BinaryOp}
use Rattle.js_value.specs.declared.operator.BinaryOp.TheVariants.{Add, Sub, Mul, Div, Rem, Shl, Sar, Shr, BitAnd, BitOr, BitXor, Less, Greater, LessEqual, GreaterEqual, Equal, NotEqual, Same, NotSame, In, InstanceOf}
use Rattle.js_value.specs.declared.operator.UnaryOp.{UnaryOp}
use Rattle.js_value.specs.declared.operator.UnaryOp.TheVariants.{Plus, Minus, Not, BitNot, TypeOf, Void, Delete}
use Rattle.js_value.specs.declared.primitive.Primitive.{Primitive}
use Rattle.js_value.specs.declared.primitive.Primitive.TheVariants.{Undefined, Null, Boolean, Number, Text}
use Rattle.js_value.specs.declared.why.Why.{Why}
use Rattle.js_value.specs.declared.why.Why.TheVariants.{Fraction, Unsafe, NotANumber, Infinite, MinusZero, NumberSpelling}

abbrev pub number : ℕ → Primitive
number n = Number (pos n)

-- the number -n
abbrev pub minus : ℕ → Primitive
minus n = Number (neg_ℤ (pos n))

-- 2^53 - 1
abbrev pub most : Primitive
most = number 9007199254740991

-- ---- conversions

abbrev pub number_rows : List (Primitive × Result ℤ Why)
number_rows =
    (Undefined, Err NotANumber)
    ∷ (Null, Ok (pos 0))
    ∷ (Boolean false, Ok (pos 0))
    ∷ (Boolean true, Ok (pos 1))
    ∷ (minus 5, Ok (neg_ℤ (pos 5)))
    ∷ (Text [], Ok (pos 0))
    ∷ (Text (codes "   "), Ok (pos 0))
    ∷ (Text (0xA0 ∷ []), Ok (pos 0))
    ∷ (Text (codes "12"), Ok (pos 12))
    ∷ (Text (codes " 12 "), Ok (pos 12))
    ∷ (Text (0x2028 ∷ 51 ∷ []), Ok (pos 3))
    ∷ (Text (10 ∷ 45 ∷ 55 ∷ 13 ∷ []), Ok (neg_ℤ (pos 7)))
    ∷ (Text (codes "+4"), Ok (pos 4))
    ∷ (Text (codes "007"), Ok (pos 7))
    ∷ (Text (codes "+0"), Ok (pos 0))
    ∷ (Text (codes "-0"), Err MinusZero)
    ∷ (Text (codes "-000"), Err MinusZero)
    ∷ (Text (codes "9007199254740991"), Ok (pos 9007199254740991))
    ∷ (Text (codes "9007199254740992"), Err Unsafe)
    ∷ (Text (codes "-9007199254740991"), Ok (neg_ℤ (pos 9007199254740991)))
    ∷ (Text (codes "-9007199254740992"), Err Unsafe)
    ∷ (Text (codes "-"), Err NumberSpelling)
    ∷ (Text (codes "+"), Err NumberSpelling)
    ∷ (Text (codes "+-1"), Err NumberSpelling)
    ∷ (Text (codes "- 1"), Err NumberSpelling)
    ∷ (Text (codes "1 2"), Err NumberSpelling)
    ∷ (Text (codes "0x10"), Err NumberSpelling)
    ∷ (Text (codes "1.0"), Err NumberSpelling)
    ∷ (Text (codes "1e3"), Err NumberSpelling)
    ∷ (Text (codes "Infinity"), Err NumberSpelling)
    ∷ (Text (codes "a"), Err NumberSpelling)
    ∷ (Text (0x200B ∷ []), Err NumberSpelling)
    ∷ []

abbrev pub boolean_rows : List (Primitive × Bool)
boolean_rows =
    (Undefined, false)
    ∷ (Null, false)
    ∷ (Boolean false, false)
    ∷ (Boolean true, true)
    ∷ (number 0, false)
    ∷ (number 2, true)
    ∷ (minus 1, true)
    ∷ (Text [], false)
    ∷ (Text (codes "0"), true)
    ∷ []

abbrev pub text_rows : List (Primitive × List ℕ)
text_rows =
    (Undefined, codes "undefined")
    ∷ (Null, codes "null")
    ∷ (Boolean true, codes "true")
    ∷ (Boolean false, codes "false")
    ∷ (number 0, codes "0")
    ∷ (number 120, codes "120")
    ∷ (minus 34, codes "-34")
    ∷ (Text (codes "a b"), codes "a b")
    ∷ []

abbrev pub integer_rows : List (Primitive × Result ℤ Why)
integer_rows = (Undefined, Ok (pos 0)) ∷ (Null, Ok (pos 0)) ∷ (minus 3, Ok (neg_ℤ (pos 3))) ∷ (Text (codes "x"), Err NumberSpelling) ∷ []

-- 2^32 - 1, 2^32 and -1 among them
abbrev pub uint32_rows : List (Primitive × Result ℤ Why)
uint32_rows =
    (Undefined, Ok (pos 0))
    ∷ (number 4294967295, Ok (pos 4294967295))
    ∷ (number 4294967296, Ok (pos 0))
    ∷ (number 4294967301, Ok (pos 5))
    ∷ (minus 1, Ok (pos 4294967295))
    ∷ (minus 4294967296, Ok (pos 0))
    ∷ (minus 4294967298, Ok (pos 4294967294))
    ∷ (Text (codes "-"), Err NumberSpelling)
    ∷ []

abbrev pub same_rows : List (Primitive × Primitive × Bool)
same_rows =
    (Undefined, Undefined, true)
    ∷ (Undefined, Null, false)
    ∷ (Null, Null, true)
    ∷ (Boolean true, Boolean true, true)
    ∷ (Boolean false, Boolean false, true)
    ∷ (Boolean true, Boolean false, false)
    ∷ (Boolean true, number 1, false)
    ∷ (number 0, number 0, true)
    ∷ (number 1, minus 1, false)
    ∷ (number 1, Text (codes "1"), false)
    ∷ (Text (codes "ab"), Text (codes "ab"), true)
    ∷ (Text (codes "ab"), Text (codes "a"), false)
    ∷ (Text [], Null, false)
    ∷ []

-- ---- operators with two operands

abbrev pub Row : Type 0
Row = BinaryOp × Primitive × Primitive × Result Primitive Why

abbrev pub of_row : Option (Primitive → Primitive → Entry) → Primitive → Primitive → Option Entry
of_row None a b = None
of_row (Some f) a b = Some (f a b)

abbrev pub binary_answer : Row → Option Entry
binary_answer r = of_row (binary_row r.0) r.1 r.2

abbrev pub binary_expected : Row → Option Entry
binary_expected r = Some r.3

-- 11.5
abbrev pub multiplicative_rows : List Row
multiplicative_rows =
    (Mul, number 6, minus 7, Ok (minus 42))
    ∷ (Mul, number 0, number 4, Ok (number 0))
    ∷ (Mul, number 4, number 0, Ok (number 0))
    ∷ (Mul, number 0, number 0, Ok (number 0))
    ∷ (Mul, number 0, minus 1, Err MinusZero)
    ∷ (Mul, minus 1, number 0, Err MinusZero)
    ∷ (Mul, minus 3, minus 3, Ok (number 9))
    ∷ (Mul, number 94906267, number 94906267, Err Unsafe)
    ∷ (Mul, most, minus 1, Ok (minus 9007199254740991))
    ∷ (Mul, most, number 2, Err Unsafe)
    ∷ (Mul, Text (codes "3"), Boolean true, Ok (number 3))
    ∷ (Mul, Undefined, number 2, Err NotANumber)
    ∷ (Mul, Text (codes "x"), Undefined, Err NumberSpelling)
    ∷ (Mul, Undefined, Text (codes "x"), Err NotANumber)
    ∷ (Mul, Null, number 5, Ok (number 0))
    ∷ (Div, number 6, number 3, Ok (number 2))
    ∷ (Div, minus 6, number 3, Ok (minus 2))
    ∷ (Div, number 6, minus 3, Ok (minus 2))
    ∷ (Div, minus 6, minus 3, Ok (number 2))
    ∷ (Div, number 7, number 2, Err Fraction)
    ∷ (Div, number 1, minus 3, Err Fraction)
    ∷ (Div, number 0, number 5, Ok (number 0))
    ∷ (Div, number 0, minus 5, Err MinusZero)
    ∷ (Div, number 1, number 0, Err Infinite)
    ∷ (Div, minus 1, number 0, Err Infinite)
    ∷ (Div, number 0, number 0, Err NotANumber)
    ∷ (Div, Undefined, number 0, Err NotANumber)
    ∷ (Div, Boolean true, Boolean false, Err Infinite)
    ∷ (Rem, number 7, number 3, Ok (number 1))
    ∷ (Rem, number 7, minus 3, Ok (number 1))
    ∷ (Rem, minus 7, number 3, Ok (minus 1))
    ∷ (Rem, minus 7, minus 3, Ok (minus 1))
    ∷ (Rem, number 6, number 3, Ok (number 0))
    ∷ (Rem, number 6, minus 3, Ok (number 0))
    ∷ (Rem, minus 6, number 3, Err MinusZero)
    ∷ (Rem, number 0, number 3, Ok (number 0))
    ∷ (Rem, number 0, minus 3, Ok (number 0))
    ∷ (Rem, number 5, number 0, Err NotANumber)
    ∷ (Rem, minus 5, number 0, Err NotANumber)
    ∷ []

-- 11.6
abbrev pub additive_rows : List Row
additive_rows =
    (Add, number 1, number 2, Ok (number 3))
    ∷ (Add, most, number 0, Ok most)
    ∷ (Add, most, number 1, Err Unsafe)
    ∷ (Add, minus 9007199254740991, minus 1, Err Unsafe)
    ∷ (Add, most, minus 9007199254740991, Ok (number 0))
    ∷ (Add, Null, Boolean true, Ok (number 1))
    ∷ (Add, Undefined, number 1, Err NotANumber)
    ∷ (Add, Text (codes "a"), Text (codes "b"), Ok (Text (codes "ab")))
    ∷ (Add, Text (codes "a"), number 1, Ok (Text (codes "a1")))
    ∷ (Add, minus 1, Text (codes "a"), Ok (Text (codes "-1a")))
    ∷ (Add, Text [], Text [], Ok (Text []))
    ∷ (Add, Text (codes "a"), Undefined, Ok (Text (codes "aundefined")))
    ∷ (Add, Null, Text (codes "a"), Ok (Text (codes "nulla")))
    ∷ (Add, Boolean true, Text [], Ok (Text (codes "true")))
    ∷ (Add, Text (codes "1"), number 1, Ok (Text (codes "11")))
    ∷ (Sub, number 1, number 2, Ok (minus 1))
    ∷ (Sub, number 0, number 0, Ok (number 0))
    ∷ (Sub, minus 9007199254740991, number 1, Err Unsafe)
    ∷ (Sub, Text (codes "5"), Text (codes "7"), Ok (minus 2))
    ∷ (Sub, Null, Null, Ok (number 0))
    ∷ (Sub, Undefined, Text (codes "x"), Err NotANumber)
    ∷ (Sub, Text (codes "x"), Undefined, Err NumberSpelling)
    ∷ []

-- 11.7: 2^31 - 1 is 2147483647
abbrev pub shift_rows : List Row
shift_rows =
    (Shl, number 1, number 4, Ok (number 16))
    ∷ (Shl, number 1, number 31, Ok (minus 2147483648))
    ∷ (Shl, number 1, number 32, Ok (number 1))
    ∷ (Shl, number 3, number 31, Ok (minus 2147483648))
    ∷ (Shl, minus 1, number 1, Ok (minus 2))
    ∷ (Shl, number 4294967297, number 1, Ok (number 2))
    ∷ (Shl, number 1, minus 1, Ok (minus 2147483648))
    ∷ (Shl, number 2147483647, number 1, Ok (minus 2))
    ∷ (Shl, Null, number 5, Ok (number 0))
    ∷ (Shl, Undefined, number 1, Err NotANumber)
    ∷ (Sar, number 16, number 2, Ok (number 4))
    ∷ (Sar, minus 1, number 5, Ok (minus 1))
    ∷ (Sar, minus 5, number 1, Ok (minus 3))
    ∷ (Sar, minus 8, number 1, Ok (minus 4))
    ∷ (Sar, number 2147483648, number 0, Ok (minus 2147483648))
    ∷ (Sar, number 4294967295, number 4, Ok (minus 1))
    ∷ (Sar, number 7, number 33, Ok (number 3))
    ∷ (Sar, number 1, Text (codes "x"), Err NumberSpelling)
    ∷ (Shr, number 16, number 2, Ok (number 4))
    ∷ (Shr, minus 1, number 0, Ok (number 4294967295))
    ∷ (Shr, minus 1, number 28, Ok (number 15))
    ∷ (Shr, minus 1, number 32, Ok (number 4294967295))
    ∷ (Shr, number 4294967296, number 1, Ok (number 0))
    ∷ (Shr, minus 2147483648, number 31, Ok (number 1))
    ∷ (Shr, number 1, Undefined, Err NotANumber)
    ∷ []

-- 11.10
abbrev pub bitwise_rows : List Row
bitwise_rows =
    (BitAnd, number 12, number 10, Ok (number 8))
    ∷ (BitAnd, minus 1, number 255, Ok (number 255))
    ∷ (BitAnd, minus 2, minus 3, Ok (minus 4))
    ∷ (BitAnd, number 4294967296, minus 1, Ok (number 0))
    ∷ (BitAnd, Undefined, number 1, Err NotANumber)
    ∷ (BitOr, number 12, number 10, Ok (number 14))
    ∷ (BitOr, number 2147483648, number 0, Ok (minus 2147483648))
    ∷ (BitOr, minus 8, number 3, Ok (minus 5))
    ∷ (BitOr, Text (codes "x"), number 1, Err NumberSpelling)
    ∷ (BitOr, most, number 0, Ok (minus 1))
    ∷ (BitXor, number 12, number 10, Ok (number 6))
    ∷ (BitXor, minus 1, number 1, Ok (minus 2))
    ∷ (BitXor, number 2147483648, number 1, Ok (minus 2147483647))
    ∷ (BitXor, number 5, Text (codes "-0"), Err MinusZero)
    ∷ []

-- 11.8
abbrev pub relational_rows : List Row
relational_rows =
    (Less, number 1, number 2, Ok (Boolean true))
    ∷ (Less, number 2, number 1, Ok (Boolean false))
    ∷ (Less, number 1, number 1, Ok (Boolean false))
    ∷ (Less, minus 1, number 0, Ok (Boolean true))
    ∷ (Less, Text (codes "a"), Text (codes "b"), Ok (Boolean true))
    ∷ (Less, Text (codes "b"), Text (codes "a"), Ok (Boolean false))
    ∷ (Less, Text (codes "a"), Text (codes "ab"), Ok (Boolean true))
    ∷ (Less, Text (codes "ab"), Text (codes "a"), Ok (Boolean false))
    ∷ (Less, Text (codes "10"), Text (codes "9"), Ok (Boolean true))
    ∷ (Less, Text (codes "10"), number 9, Ok (Boolean false))
    ∷ (Less, Null, number 1, Ok (Boolean true))
    ∷ (Less, Undefined, number 1, Err NotANumber)
    ∷ (Less, Text (codes "a"), number 1, Err NumberSpelling)
    ∷ (Less, Text (codes "a"), Undefined, Err NumberSpelling)
    ∷ (Less, Text [], Text [], Ok (Boolean false))
    ∷ (Greater, number 2, number 1, Ok (Boolean true))
    ∷ (Greater, number 1, number 1, Ok (Boolean false))
    ∷ (Greater, Text (codes "b"), Text (codes "a"), Ok (Boolean true))
    ∷ (Greater, Text (codes "a"), Text (codes "b"), Ok (Boolean false))
    ∷ (Greater, Text (codes "a"), Undefined, Err NumberSpelling)
    ∷ (Greater, Undefined, Text (codes "a"), Err NotANumber)
    ∷ (LessEqual, number 1, number 1, Ok (Boolean true))
    ∷ (LessEqual, number 2, number 1, Ok (Boolean false))
    ∷ (LessEqual, Text (codes "a"), Text (codes "a"), Ok (Boolean true))
    ∷ (LessEqual, Text (codes "b"), Text (codes "a"), Ok (Boolean false))
    ∷ (LessEqual, minus 2, minus 1, Ok (Boolean true))
    ∷ (GreaterEqual, number 1, number 1, Ok (Boolean true))
    ∷ (GreaterEqual, number 1, number 2, Ok (Boolean false))
    ∷ (GreaterEqual, Text (codes "a"), Text (codes "a"), Ok (Boolean true))
    ∷ (GreaterEqual, Text [], Text (codes "a"), Ok (Boolean false))
    ∷ (GreaterEqual, Boolean true, Boolean true, Ok (Boolean true))
    ∷ []

-- 11.9
abbrev pub equality_rows : List Row
equality_rows =
    (Equal, Undefined, Undefined, Ok (Boolean true))
    ∷ (Equal, Undefined, Null, Ok (Boolean true))
    ∷ (Equal, Null, Undefined, Ok (Boolean true))
    ∷ (Equal, Null, Null, Ok (Boolean true))
    ∷ (Equal, Undefined, number 0, Ok (Boolean false))
    ∷ (Equal, Null, number 0, Ok (Boolean false))
    ∷ (Equal, Null, Boolean false, Ok (Boolean false))
    ∷ (Equal, Boolean false, Undefined, Ok (Boolean false))
    ∷ (Equal, Null, Text [], Ok (Boolean false))
    ∷ (Equal, Text (codes "null"), Null, Ok (Boolean false))
    ∷ (Equal, number 1, number 1, Ok (Boolean true))
    ∷ (Equal, number 1, Text (codes "1"), Ok (Boolean true))
    ∷ (Equal, Text (codes "1"), number 1, Ok (Boolean true))
    ∷ (Equal, number 0, Text [], Ok (Boolean true))
    ∷ (Equal, Boolean true, number 1, Ok (Boolean true))
    ∷ (Equal, Boolean true, number 2, Ok (Boolean false))
    ∷ (Equal, Boolean true, Text (codes "1"), Ok (Boolean true))
    ∷ (Equal, Text (codes "0"), Boolean false, Ok (Boolean true))
    ∷ (Equal, Boolean true, Boolean true, Ok (Boolean true))
    ∷ (Equal, Boolean true, Boolean false, Ok (Boolean false))
    ∷ (Equal, Text (codes "x"), number 1, Err NumberSpelling)
    ∷ (Equal, number 1, Text (codes "x"), Err NumberSpelling)
    ∷ (Equal, Boolean false, Text (codes "x"), Err NumberSpelling)
    ∷ (Equal, Text (codes "x"), Boolean true, Err NumberSpelling)
    ∷ (Equal, Text (codes "x"), Text (codes "x"), Ok (Boolean true))
    ∷ (Equal, Text (codes "x"), Text (codes "y"), Ok (Boolean false))
    ∷ (Equal, number 0, Text (codes "-0"), Err MinusZero)
    ∷ (NotEqual, number 1, number 2, Ok (Boolean true))
    ∷ (NotEqual, number 1, Text (codes "1"), Ok (Boolean false))
    ∷ (NotEqual, Undefined, Null, Ok (Boolean false))
    ∷ (NotEqual, Text (codes "x"), number 1, Err NumberSpelling)
    ∷ (Same, number 1, number 1, Ok (Boolean true))
    ∷ (Same, number 1, Text (codes "1"), Ok (Boolean false))
    ∷ (Same, Undefined, Null, Ok (Boolean false))
    ∷ (Same, Text (codes "x"), Text (codes "x"), Ok (Boolean true))
    ∷ (Same, Boolean true, number 1, Ok (Boolean false))
    ∷ (NotSame, number 1, number 1, Ok (Boolean false))
    ∷ (NotSame, number 1, Text (codes "1"), Ok (Boolean true))
    ∷ (NotSame, Null, Undefined, Ok (Boolean true))
    ∷ []

-- operators that look into objects
abbrev pub object_operators : List BinaryOp
object_operators = In ∷ InstanceOf ∷ []

-- ---- operators with one operand (11.4)

abbrev pub unary_rows : List (UnaryOp × Primitive × Result Primitive Why)
unary_rows =
    (Plus, Text (codes "12"), Ok (number 12))
    ∷ (Plus, Null, Ok (number 0))
    ∷ (Plus, Boolean true, Ok (number 1))
    ∷ (Plus, minus 3, Ok (minus 3))
    ∷ (Plus, Undefined, Err NotANumber)
    ∷ (Plus, Text (codes "x"), Err NumberSpelling)
    ∷ (Minus, number 3, Ok (minus 3))
    ∷ (Minus, minus 3, Ok (number 3))
    ∷ (Minus, number 0, Err MinusZero)
    ∷ (Minus, Null, Err MinusZero)
    ∷ (Minus, Text [], Err MinusZero)
    ∷ (Minus, Text (codes "4"), Ok (minus 4))
    ∷ (Minus, Undefined, Err NotANumber)
    ∷ (Minus, most, Ok (minus 9007199254740991))
    ∷ (Not, number 0, Ok (Boolean true))
    ∷ (Not, Text [], Ok (Boolean true))
    ∷ (Not, Text (codes "0"), Ok (Boolean false))
    ∷ (Not, Undefined, Ok (Boolean true))
    ∷ (Not, Null, Ok (Boolean true))
    ∷ (Not, Boolean true, Ok (Boolean false))
    ∷ (Not, minus 1, Ok (Boolean false))
    ∷ (BitNot, number 0, Ok (minus 1))
    ∷ (BitNot, minus 1, Ok (number 0))
    ∷ (BitNot, number 5, Ok (minus 6))
    ∷ (BitNot, number 2147483648, Ok (number 2147483647))
    ∷ (BitNot, minus 2147483648, Ok (number 2147483647))
    ∷ (BitNot, number 4294967295, Ok (number 0))
    ∷ (BitNot, Null, Ok (minus 1))
    ∷ (BitNot, Undefined, Err NotANumber)
    ∷ (TypeOf, Undefined, Ok (Text (codes "undefined")))
    ∷ (TypeOf, Null, Ok (Text (codes "object")))
    ∷ (TypeOf, Boolean false, Ok (Text (codes "boolean")))
    ∷ (TypeOf, number 0, Ok (Text (codes "number")))
    ∷ (TypeOf, Text (codes "x"), Ok (Text (codes "string")))
    ∷ (Void, number 1, Ok Undefined)
    ∷ (Void, Undefined, Ok Undefined)
    ∷ []

abbrev pub of_unary_row : Option (Primitive → Entry) → Primitive → Option Entry
of_unary_row None a = None
of_unary_row (Some f) a = Some (f a)

pub record OperatorCases : Type 0 where
  pub to_boolean_is : map (λ row. to_boolean row.0) boolean_rows ≡ map (λ row. row.1) boolean_rows
  pub to_number_is : map (λ row. to_number row.0) number_rows ≡ map (λ row. row.1) number_rows
  pub to_integer_is : map (λ row. to_integer row.0) integer_rows ≡ map (λ row. row.1) integer_rows
  pub to_uint32_is : map (λ row. to_uint32 row.0) uint32_rows ≡ map (λ row. row.1) uint32_rows
  pub to_text_is : map (λ row. to_text row.0) text_rows ≡ map (λ row. row.1) text_rows
  pub same_value_is : map (λ row. is_same_value row.0 row.1) same_rows ≡ map (λ row. row.2) same_rows
  pub multiplicative : map binary_answer multiplicative_rows ≡ map binary_expected multiplicative_rows
  pub additive : map binary_answer additive_rows ≡ map binary_expected additive_rows
  pub shift : map binary_answer shift_rows ≡ map binary_expected shift_rows
  pub bitwise : map binary_answer bitwise_rows ≡ map binary_expected bitwise_rows
  pub relational : map binary_answer relational_rows ≡ map binary_expected relational_rows
  pub equality : map binary_answer equality_rows ≡ map binary_expected equality_rows
  pub no_row : map (λ op. of_row (binary_row op) Undefined Undefined) object_operators ≡ None ∷ None ∷ []
  pub unary : map (λ row. of_unary_row (unary_row row.0) row.1) unary_rows ≡ map (λ row. Some row.2) unary_rows
  pub no_delete : of_unary_row (unary_row Delete) Undefined ≡ None
