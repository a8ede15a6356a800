-- Units, and the characters that they spell.
use Rattle.std.proofs.Common.{◌≡◌, ◌<◌, ◌≤◌, ◌^◌, ◌-◌, ℕ, zero, suc, List, [], ◌∷◌, length, take, drop, get_or, refl, ap, sym, ◌∙◌, arith, Bool, true, false}
use Rattle.std.specs.Prelude.{◌&&◌, if◌then◌else◌, nat_lt, slice_index, Option, Some}
use Rattle.std.specs.Char.Utf16.{utf16_chars, is_high_surrogate, is_low_surrogate, lone_unit_char, surrogate_pair_char}
use Rattle.std.specs.List.{list_all}
use Rattle.std.proofs.lemmas.Bool.{lt-ltb}

pub all_fit : (units : List ℕ) → ((k : ℕ) → slice_index units k < 2 ^ 16) → list_all (λ u. nat_lt u 65536) units ≡ true
all_fit [] h = refl
all_fit (u ∷ us) h = ap (λ b. b && list_all (λ u. nat_lt u 65536) us) (lt-ltb u 65536 (h zero)) ∙ all_fit us (λ k. h (suc k))

pub spelled-none : utf16_chars [] ≡ []
unfolding utf16_chars
spelled-none = refl

pub spelled-one : (u : ℕ) → utf16_chars (u ∷ []) ≡ lone_unit_char u ∷ []
unfolding utf16_chars
spelled-one u = refl

abbrev both : ℕ → ℕ → List ℕ → Bool → List (Option ℕ)
both u v us paired = if paired then Some (surrogate_pair_char u v) ∷ utf16_chars us else (lone_unit_char u ∷ utf16_chars (v ∷ us))

spelled : (u v : ℕ) (us : List ℕ) (paired : Bool) → (is_high_surrogate u && is_low_surrogate v) ≡ paired → utf16_chars (u ∷ v ∷ us) ≡ both u v us paired
unfolding utf16_chars
spelled u v us paired e = ap (both u v us) e

and_none : (a b : Bool) → b ≡ false → (a && b) ≡ false
and_none true b e = e
and_none false b e = refl

pub spelled-pair : (u v : ℕ) (us : List ℕ) → is_high_surrogate u ≡ true → is_low_surrogate v ≡ true → utf16_chars (u ∷ v ∷ us) ≡ Some (surrogate_pair_char u v) ∷ utf16_chars us
spelled-pair u v us h k = spelled u v us true (ap (λ b. b && is_low_surrogate v) h ∙ k)

pub spelled-no_high : (u v : ℕ) (us : List ℕ) → is_high_surrogate u ≡ false → utf16_chars (u ∷ v ∷ us) ≡ lone_unit_char u ∷ utf16_chars (v ∷ us)
spelled-no_high u v us h = spelled u v us false (ap (λ b. b && is_low_surrogate v) h)

pub spelled-no_low : (u v : ℕ) (us : List ℕ) → is_low_surrogate v ≡ false → utf16_chars (u ∷ v ∷ us) ≡ lone_unit_char u ∷ utf16_chars (v ∷ us)
spelled-no_low u v us h = spelled u v us false (and_none (is_high_surrogate u) (is_low_surrogate v) h)

pub spelled-nothing : (us : List ℕ) → length us < 1 → utf16_chars us ≡ []
spelled-nothing [] h = spelled-none
spelled-nothing (u ∷ us) h = absurd (omega (arith, h))

pub spelled-alone : (u : ℕ) (us : List ℕ) → length us < 1 → utf16_chars (u ∷ us) ≡ lone_unit_char u ∷ utf16_chars us
spelled-alone u [] h = spelled-one u ∙ ap (λ cs. lone_unit_char u ∷ cs) (sym spelled-none)
spelled-alone u (v ∷ us) h = absurd (omega (arith, h))

take_whole : (us : List ℕ) (n : ℕ) → n ≡ length us → take n us ≡ us
take_whole [] zero e = refl
take_whole [] (suc n) e = absurd (omega (arith, e))
take_whole (u ∷ us) zero e = absurd (omega (arith, e))
take_whole (u ∷ us) (suc n) e = ap (λ vs. u ∷ vs) (take_whole us n (omega (arith, e)))

pub spelled-both : (u : ℕ) (us : List ℕ) → 1 ≤ length us → is_high_surrogate u ≡ true → is_low_surrogate (get_or us 0 0) ≡ true
    → utf16_chars (u ∷ us) ≡ Some (surrogate_pair_char u (get_or us 0 0)) ∷ utf16_chars (take (length us - 1) (drop 1 us))
spelled-both u [] some h k = absurd (omega (arith, some))
spelled-both u (v ∷ us) some h k =
    let n : length (v ∷ us) - 1 ≡ length us = omega arith in
    spelled-pair u v us h k ∙ ap (λ vs. Some (surrogate_pair_char u v) ∷ utf16_chars vs) (sym (take_whole us (length (v ∷ us) - 1) n))

pub ruleset units = (all_fit, spelled-none, spelled-one, spelled-pair, spelled-no_high, spelled-no_low)
