-- Arithmetic stays within the numbers of the profile.
use Rattle.std.proofs.Common.{◌≡◌, Bool, true, false, cond, refl, subst, ℤ, ◌+ℤ◌, ◌-ℤ◌}
use Rattle.std.specs.Prelude.{Ok, Err}
use Rattle.js_value.specs.Numbers.{is_safe, within}
use Rattle.js_value.specs.declared.why.Why.TheVariants.{Unsafe}
use Rattle.js_value.specs.declared.operator.BinaryOp.{BinaryOp}
use Rattle.js_value.specs.declared.operator.BinaryOp.TheVariants as binary
use Rattle.prepack_core.specs.Evaluates.{combined}

if_within : (b : Bool) (m n : ℤ) → is_safe m ≡ b → cond b (Ok m) (Err Unsafe) ≡ Ok n → is_safe n ≡ true
if_within true m n safe e = let same : m ≡ n = cc in subst (λ (k : ℤ). is_safe k ≡ true) same safe
if_within false m n safe e = cc

within-safe : (m n : ℤ) → within m ≡ Ok n → is_safe n ≡ true
within-safe m n e = if_within (is_safe m) m n refl e

pub combined-safe : (op : BinaryOp) (a b n : ℤ) → combined op a b ≡ Ok n → is_safe n ≡ true
combined-safe binary.Sub a b n e = within-safe (a -ℤ b) n e
combined-safe op a b n e = within-safe (a +ℤ b) n e
