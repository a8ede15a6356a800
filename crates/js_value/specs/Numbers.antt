-- The whole numbers of the profile, from -(2^53 - 1) to 2^53 - 1, and arithmetic that leaves it where a result isn't one.
use Rattle.std.specs.Prelude.{ℕ, ℤ, pos, ◌+ℤ◌, ◌-ℤ◌, neg_ℤ, int_le, Bool, ◌&&◌, if◌then◌else◌, Option, Some, None, Result, Ok, Err}
use Rattle.std.specs.Ordering.{int_eq}
use Rattle.js_value.specs.declared.why.Why.{Why}
use Rattle.js_value.specs.declared.why.Why.TheVariants.{Unsafe, MinusZero}

-- 2^53 - 1
abbrev pub greatest_magnitude : ℕ
greatest_magnitude = 9007199254740991

abbrev pub greatest : ℤ
greatest = pos greatest_magnitude

abbrev pub is_safe : ℤ → Bool
is_safe n = int_le (neg_ℤ greatest) n && int_le n greatest

-- the number, where the profile has it
abbrev pub within : ℤ → Result ℤ Why
within n = if is_safe n then Ok n else Err Unsafe

abbrev pub within_option : Option ℤ → Result ℤ Why
within_option None = Err Unsafe
within_option (Some n) = within n

-- 11.6.3
abbrev pub added : ℤ → ℤ → Result ℤ Why
added a b = within (a +ℤ b)

-- 11.6.3
abbrev pub subtracted : ℤ → ℤ → Result ℤ Why
subtracted a b = within (a -ℤ b)

-- 11.4.7
abbrev pub negated : ℤ → Result ℤ Why
negated a = if int_eq a (pos 0) then Err MinusZero else within (neg_ℤ a)
