-- Numbers that decimal digits spell, with a bound on them.
use Rattle.std.proofs.Common.{◌≡◌, ℕ, pos, min, ◌+◌, ◌-◌, ◌*◌, ◌<◌, true, List, length, take, get_or, arith}
use Rattle.std.specs.Char.{digit_value, is_ascii_digit}
use Rattle.std.specs.List.{list_all}
use Rattle.std.proofs.lemmas.Int.Digits.{digits_value_more, digits_value_is}
use Rattle.std.proofs.lemmas.List.Folds.{list_all_at}
use Rattle.std.proofs.lemmas.Grind.{common_steps}
use Rattle.js_value.specs.Conversions.{digits_value}
use Rattle.js_value.specs.Numbers.{negated, within}

-- one above 2^53 - 1
abbrev beyond : ℕ
beyond = 9007199254740992

digit_is : (u : ℕ) → is_ascii_digit u ≡ true → digit_value u ≡ u - 48
digit_is u h = grind (arith, common_steps)

digit_at : (t : List ℕ) (i : ℕ) → i < length t → list_all is_ascii_digit t ≡ true → is_ascii_digit (get_or t i 0) ≡ true
digit_at t i h all = grind (arith, list_all_at is_ascii_digit t i 0 h)

value_more : (t : List ℕ) (i : ℕ) → i < length t → list_all is_ascii_digit t ≡ true
    → digits_value (take (i + 1) t) ≡ digits_value (take i t) * 10 + (get_or t i 0 - 48)
value_more t i h all =
    let more = digits_value_more 10 t i h in
    let here = digits_value_is 10 (take i t) in
    let next = digits_value_is 10 (take (i + 1) t) in
    let digit : digit_value (get_or t i 0) ≡ get_or t i 0 - 48 = digit_is (get_or t i 0) (digit_at t i h all) in
    cc

capped_step : (v d : ℕ) → min (min v beyond * 10 + d) beyond ≡ min (v * 10 + d) beyond
capped_step v d = omega arith

-- the bound that a turn keeps
pub capped_more : (t : List ℕ) (i v : ℕ) → i < length t → list_all is_ascii_digit t ≡ true → v ≡ min (digits_value (take i t)) beyond
    → min (v * 10 + (get_or t i 0 - 48)) beyond ≡ min (digits_value (take (i + 1) t)) beyond
capped_more t i v h all e =
    let step = capped_step (digits_value (take i t)) (get_or t i 0 - 48) in
    let more = value_more t i h all in
    cc

-- what is beyond the greatest number is unsafe, however far
pub within_capped : (v : ℕ) → within (pos (min v beyond)) ≡ within (pos v)
within_capped v = grind (arith, common_steps)

pub negated_capped : (v : ℕ) → negated (pos (min v beyond)) ≡ negated (pos v)
negated_capped v = grind (arith, common_steps)
