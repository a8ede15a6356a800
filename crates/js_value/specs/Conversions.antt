-- Conversions of values that are no objects (9). Each gives what the standard says, or the cause for leaving the profile where
-- the standard gives no value of the profile.
use Rattle.std.specs.Prelude.{◌==◌, ◌&&◌, ◌||◌, ◌-◌, ◌^◌, ℕ, ℤ, pos, ◌-ℤ◌, Bool, true, false, not, nat_eq, nat_lt, int_lt, if◌then◌else◌, List, drop, length, map, slice_index, take, codes, Result, Ok, Err}
use Rattle.std.specs.Char.{digit_value, is_ascii_digit}
use Rattle.std.specs.Cmp.Lexicographic.{pointwise}
use Rattle.std.specs.Fmt.{signed_decimal}
use Rattle.std.specs.Int.{int_rem_euclid, is_in_range}
use Rattle.std.specs.Int.Digits.{number_from_digits}
use Rattle.std.specs.List.{list_all, prefix_len, suffix_len}
use Rattle.std.specs.Ordering.{int_eq}
use Rattle.js_value.specs.Numbers.{negated, within}
use Rattle.js_value.specs.declared.primitive.Primitive.{Primitive}
use Rattle.js_value.specs.declared.primitive.Primitive.TheVariants.{Undefined, Null, Boolean, Number, Text}
use Rattle.js_value.specs.declared.why.Why.{Why}
use Rattle.js_value.specs.declared.why.Why.TheVariants.{NotANumber, NumberSpelling}

-- What is done first hands its value on; the first cause for leaving answers.
infixl 20 ◌>>=◌
abbrev pub ◌>>=◌ : {A B : Type 0} → Result A Why → (A → Result B Why) → Result B Why
◌>>=◌ (Ok a) next = next a
◌>>=◌ (Err why) next = Err why

-- ---- 9.2: ToBoolean

unfoldable pub to_boolean : Primitive → Bool
to_boolean Undefined = false
to_boolean Null = false
to_boolean (Boolean b) = b
to_boolean (Number n) = not (int_eq n (pos 0))
to_boolean (Text t) = nat_lt 0 (length t)

-- ---- 9.3: ToNumber

-- 9.3.1: white space and line ends (7.2, 7.3)
abbrev pub is_blank : ℕ → Bool
is_blank u =
    is_in_range 0x9 0xD u || u == 0x20 || u == 0xA0 || u == 0x1680 || is_in_range 0x2000 0x200A u || u == 0x2028 || u == 0x2029 || u == 0x202F || u == 0x205F || u == 0x3000 || u == 0xFEFF

abbrev pub without_blanks_before : List ℕ → List ℕ
without_blanks_before t = drop (prefix_len is_blank t) t

abbrev pub trimmed : List ℕ → List ℕ
trimmed t = let z = without_blanks_before t in take (length z - suffix_len is_blank z) z

-- the number that decimal digits spell
abbrev pub digits_value : List ℕ → ℕ
digits_value t = number_from_digits 10 (map digit_value t)

-- at least one decimal digit, and nothing else
abbrev pub are_digits : List ℕ → Bool
are_digits t = nat_lt 0 (length t) && list_all is_ascii_digit t

abbrev pub unsigned_number : List ℕ → Result ℤ Why
unsigned_number t = if are_digits t then Ok (pos (digits_value t)) else Err NumberSpelling

-- A sign, or none, and decimal digits, of which there may be more than the number needs; 43 is `+`, 45 is `-`. Every other
-- spelling, also those of the standard with a point, an exponent, `0x` or `Infinity`, leaves the profile.
abbrev pub signed_number : List ℕ → Result ℤ Why
signed_number t =
    if slice_index t 0 == 45 then (do n ← unsigned_number (drop 1 t); negated n)
    else (do n ← unsigned_number (if slice_index t 0 == 43 then drop 1 t else t); within n)

-- 9.3.1: ToNumber of a string
unfoldable pub number_of_text : List ℕ → Result ℤ Why
number_of_text t = let z = trimmed t in if length z == 0 then Ok (pos 0) else signed_number z

unfoldable pub to_number : Primitive → Result ℤ Why
to_number Undefined = Err NotANumber
to_number Null = Ok (pos 0)
to_number (Boolean b) = Ok (if b then pos 1 else pos 0)
to_number (Number n) = Ok n
to_number (Text t) = number_of_text t

-- ---- 9.5 and 9.6: ToInt32 and ToUint32

-- 9.6, step 4: what is left of a whole number modulo 2^32
abbrev pub uint32 : ℤ → ℤ
uint32 n = int_rem_euclid n (pos (2 ^ 32))

-- 9.5, step 5: a number from 0 to 2^32 - 1 as a signed one
abbrev pub signed32 : ℤ → ℤ
signed32 n = if int_lt n (pos (2 ^ 31)) then n else n -ℤ pos (2 ^ 32)

abbrev pub int32 : ℤ → ℤ
int32 n = signed32 (uint32 n)

-- ---- 9.4 and 9.6 in built-ins

-- ToInteger of an argument: undefined, which is not a number, gives 0
unfoldable pub to_integer : Primitive → Result ℤ Why
to_integer Undefined = Ok (pos 0)
to_integer a = to_number a

-- ToUint32 of an argument
unfoldable pub to_uint32 : Primitive → Result ℤ Why
to_uint32 a = do
  n ← to_integer a
  Ok (uint32 n)

-- ---- 9.8: ToString

unfoldable pub to_text : Primitive → List ℕ
to_text Undefined = codes "undefined"
to_text Null = codes "null"
to_text (Boolean b) = if b then codes "true" else codes "false"
to_text (Number n) = signed_decimal n
to_text (Text t) = t

-- ---- 9.12: SameValue

abbrev pub is_same_text : List ℕ → List ℕ → Bool
is_same_text = pointwise nat_eq

abbrev pub is_same_truth : Bool → Bool → Bool
is_same_truth a b = if a then b else not b

-- Without NaN and minus zero the strict equality of 11.9.6 says the same.
unfoldable pub is_same_value : Primitive → Primitive → Bool
is_same_value Undefined Undefined = true
is_same_value Null Null = true
is_same_value (Boolean a) (Boolean b) = is_same_truth a b
is_same_value (Number a) (Number b) = int_eq a b
is_same_value (Text a) (Text b) = is_same_text a b
is_same_value _ _ = false
