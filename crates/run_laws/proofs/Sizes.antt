-- The numbers that symbols stand for are in the range of the profile, so none has a text that is too long.
use Rattle.std.proofs.Common.{◌≡◌, subst, ℕ, ◌<◌, ◌≤◌, Bool, true, false, cond, arith, negsuc}
use Rattle.std.specs.Prelude.{if◌then◌else◌, pos, neg_ℤ, ◌-ℤ◌, ◌*ℤ◌, ◌-◌, bit_and, bit_or, bit_xor, unsigned_abs, ◌&&◌, ◌||◌, ◌^◌, ◌%◌, not, nat_le, length, ℤ, int_lt, int_div, int_rem, Result, Ok, Err}
use Rattle.std.specs.Fmt.{signed_decimal}
use Rattle.std.specs.Int.{int_div_euclid}
use Rattle.std.proofs.lemmas.Fmt.{length_signed_le}
use Rattle.std.proofs.lemmas.Nat.{and_le_l, or_lt, xor_lt}
use Rattle.std.proofs.Math.Nat.{div-le_self}
use Rattle.std.proofs.lemmas.Grind.{common_steps}
use Rattle.js_value.specs.Conversions.{int32, uint32, signed32}
use Rattle.js_value.specs.Operators as J
use Rattle.js_value.specs.Numbers.{within, is_safe, negated}
use Rattle.js_value.specs.declared.why.Why.{Why}
use Rattle.js_value.specs.declared.why.Why.TheVariants.{Fraction, NotANumber, Infinite, MinusZero}
use Rattle.std.specs.Ordering.{int_eq}

-- below 2^53
abbrev pub Small : ℤ → Type 0
Small n = unsigned_abs n < 9007199254740992

pub safe_small : (n : ℤ) → is_safe n ≡ true → Small n
safe_small n e = grind (arith, common_steps, e)

pub within_small : (m n : ℤ) → within m ≡ Ok n → Small n
within_small m n e = grind (arith, common_steps, e)

pub negated_small : (m n : ℤ) → negated m ≡ Ok n → Small n
negated_small m n e = grind (arith, common_steps, e)

-- ---- 32 bits

uint32_small : (n : ℤ) → unsigned_abs (uint32 n) < 4294967296
uint32_small (pos n) = omega arith
uint32_small (negsuc n) = omega arith

signed32_small : (m : ℕ) → m < 4294967296 → unsigned_abs (signed32 (pos m)) < 4294967296
signed32_small m e = grind (arith, common_steps, e)

int32_small : (n : ℤ) → unsigned_abs (int32 n) < 4294967296
int32_small (pos n) = signed32_small (n % 4294967296) (omega arith)
int32_small (negsuc n) = signed32_small (4294967296 - 1 - n % 4294967296) (omega arith)

divided_small : (z : ℤ) (d : ℕ) → unsigned_abs (int_div_euclid z (pos d)) ≤ unsigned_abs z
divided_small (pos a) d = div-le_self a d
divided_small (negsuc a) d = omega (arith, div-le_self a d)

bits_small : (n : ℤ) → J.bits32 n < 2 ^ 32
bits_small n = omega (arith, uint32_small n)

abbrev okay : ℤ → Result ℤ Why
okay n = Ok n

ok_is : (m n : ℤ) → okay m ≡ Ok n → m ≡ n
ok_is m n e = grind (arith, e)

-- a result that is given without a question
plain_small : (m n : ℤ) → unsigned_abs m ≤ 4294967296 → okay m ≡ Ok n → Small n
plain_small m n small e = subst (λ n. Small n) (ok_is m n e) (omega (arith, small))

if_within : (b : Bool) (why : Why) (m n : ℤ) → cond b (Err why) (within m) ≡ Ok n → Small n
if_within true why m n e = grind (arith, e)
if_within false why m n e = within_small m n e

rest_within : (c d : Bool) (why other : Why) (m n : ℤ) → cond c (Err why) (cond d (Err other) (within m)) ≡ Ok n → Small n
rest_within true d why other m n e = grind (arith, e)
rest_within false d why other m n e = if_within d other m n e

pub multiplied_small : (x y n : ℤ) → J.multiplied x y ≡ Ok n → Small n
multiplied_small x y n e = if_within (int_eq (x *ℤ y) (pos 0) && (int_lt x (pos 0) || int_lt y (pos 0))) MinusZero (x *ℤ y) n e

quotient_small : (b : Bool) (why : Why) (x y n : ℤ) → cond b (Err why) (J.quotient x y) ≡ Ok n → Small n
quotient_small true why x y n e = grind (arith, e)
quotient_small false why x y n e = rest_within (not (int_eq (int_rem x y) (pos 0))) (int_eq x (pos 0) && int_lt y (pos 0)) Fraction MinusZero (int_div x y) n e

pub divided_by_small : (x y n : ℤ) → J.divided x y ≡ Ok n → Small n
divided_by_small x y n e = quotient_small (int_eq y (pos 0)) (if int_eq x (pos 0) then NotANumber else Infinite) x y n e

pub remainder_small : (x y n : ℤ) → J.remainder x y ≡ Ok n → Small n
remainder_small x y n e = rest_within (int_eq y (pos 0)) (int_eq (int_rem x y) (pos 0) && int_lt x (pos 0)) NotANumber MinusZero (int_rem x y) n e

pub shifted_left_small : (x y n : ℤ) → J.shifted_left x y ≡ Ok n → Small n
shifted_left_small x y n e = plain_small _ n (omega (arith, int32_small (int32 x *ℤ pos (2 ^ J.shift_count y)))) e

pub shifted_right_small : (x y n : ℤ) → J.shifted_right x y ≡ Ok n → Small n
shifted_right_small x y n e = plain_small _ n (omega (arith, int32_small x, divided_small (int32 x) (2 ^ J.shift_count y))) e

pub shifted_unsigned_small : (x y n : ℤ) → J.shifted_right_unsigned x y ≡ Ok n → Small n
shifted_unsigned_small x y n e = plain_small _ n (omega (arith, uint32_small x, divided_small (uint32 x) (2 ^ J.shift_count y))) e

pub bitwise_small : (operation : ℕ → ℕ → ℕ) → ((a b : ℕ) → a < 2 ^ 32 → b < 2 ^ 32 → operation a b < 2 ^ 32) → (x y n : ℤ) → J.bitwise operation x y ≡ Ok n → Small n
bitwise_small operation h x y n e = plain_small _ n (omega (arith, signed32_small (operation (J.bits32 x) (J.bits32 y)) (omega (arith, h (J.bits32 x) (J.bits32 y) (bits_small x) (bits_small y))))) e

pub and_small : (a b : ℕ) → a < 2 ^ 32 → b < 2 ^ 32 → bit_and a b < 2 ^ 32
and_small a b h l = omega (arith, and_le_l a b, h)

pub or_small : (a b : ℕ) → a < 2 ^ 32 → b < 2 ^ 32 → bit_or a b < 2 ^ 32
or_small a b h l = or_lt 32 a b h l

pub xor_small : (a b : ℕ) → a < 2 ^ 32 → b < 2 ^ 32 → bit_xor a b < 2 ^ 32
xor_small a b h l = xor_lt 32 a b h l

pub complement_small : (x n : ℤ) → J.complement x ≡ Ok n → Small n
complement_small x n e = plain_small _ n (minus_one (int32 x) (int32_small x)) e
  where
    minus_one : (z : ℤ) → unsigned_abs z < 4294967296 → unsigned_abs (neg_ℤ z -ℤ pos 1) ≤ 4294967296
    minus_one z small = grind (arith, common_steps, small)

-- ---- the text of a number

at_most : (k : ℕ) → k ≤ 21 → nat_le k J.greatest_length ≡ true
at_most k le = grind (arith, le)

pub short_text : (n : ℤ) → Small n → nat_le (length (signed_decimal n)) J.greatest_length ≡ true
short_text (pos n) small = at_most (length (signed_decimal (pos n))) (length_signed_le 20 (pos n) (omega (arith, small)) (omega (arith, small)))
short_text (negsuc n) small = at_most (length (signed_decimal (negsuc n))) (length_signed_le 20 (negsuc n) (omega (arith, small)) (omega (arith, small)))
