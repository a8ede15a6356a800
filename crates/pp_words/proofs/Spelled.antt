-- A text has a first character.
use Rattle.std.proofs.Common.{◌≡◌, ◌==◌, ◌<◌, ℕ, true, false, List, [], ◌∷◌, Some, refl, ap, sym, slice_get, map, string_bytes, length, arith}
use Rattle.std.specs.Prelude.{String}
use Rattle.std.specs.Str.{chars, IsUtf8}
use Rattle.std.proofs.lemmas.Str.{encodes-chars, IsUtf8-drop, IsCharBoundary-after_ascii, IsUtf8-string_bytes}
use Rattle.std.proofs.lemmas.Bool.Decides.{Decides-eqb}
use Rattle.std.proofs.lemmas.Option.{same_Some}
use Rattle.clap.specs.Walk.{Text}
use Rattle.pp_words.proofs.Whole.{IsSpelled, AllSpelled}

first_char : (x : ℕ) (xs : Text) → IsUtf8 (x ∷ xs) → (d : ℕ) × (slice_get (chars (x ∷ xs)) 0 ≡ Some d)
first_char x xs u = elim (chars (x ∷ xs)) as (λ cs. chars (x ∷ xs) ≡ cs → (d : ℕ) × (slice_get (chars (x ∷ xs)) 0 ≡ Some d)) [
  | [] ↦ λ k. let e = rw k at (encodes-chars (x ∷ xs) u) in cc
  | d ∷ ds ↦ λ k. (d, ap (λ cs. slice_get cs 0) k)
] refl

pub spelled : (word : Text) → IsUtf8 word → IsSpelled word
spelled [] u flags h = cc
spelled (c ∷ []) u flags h =
    elim (c == 45) as (λ b. (c == 45) ≡ b → (x : ℕ) × (xs : Text) × (d : ℕ) × (flags ≡ x ∷ xs) × (slice_get (chars (x ∷ xs)) 0 ≡ Some d)) [
      | true ↦ λ k. let e = rw k at h in cc
      | false ↦ λ k. let e = rw k at h in cc
    ] refl
spelled (c ∷ (x ∷ xs)) u flags h =
    elim (c == 45) as (λ b. (c == 45) ≡ b → (x : ℕ) × (xs : Text) × (d : ℕ) × (flags ≡ x ∷ xs) × (slice_get (chars (x ∷ xs)) 0 ≡ Some d)) [
      | false ↦ λ k. let e = rw k at h in cc
      | true ↦ λ k. elim (x == 45) as (λ b. (x == 45) ≡ b → (x : ℕ) × (xs : Text) × (d : ℕ) × (flags ≡ x ∷ xs) × (slice_get (chars (x ∷ xs)) 0 ≡ Some d)) [
        | true ↦ λ m. let e = rw (k, m) at h in cc
        | false ↦ λ m. let e : Some (x ∷ xs) ≡ Some flags = rw (k, m) at h in
            let dash : c ≡ 45 = (Decides-eqb c 45).0 k in
            let below : c < 128 = omega arith in
            let some : 0 < length (c ∷ (x ∷ xs)) = omega arith in
            let rest : IsUtf8 (x ∷ xs) = IsUtf8-drop (c ∷ (x ∷ xs)) 1 u (IsCharBoundary-after_ascii (c ∷ (x ∷ xs)) 0 u some below) in
            let d = first_char x xs rest in
            (x, xs, d.0, sym (same_Some _ _ e), d.1)
      ] refl
    ] refl

pub all_spelled : {Z : Type 0} (words : List (String Z)) → AllSpelled (map string_bytes words)
all_spelled [] = tt
all_spelled (s ∷ rest) = (spelled (string_bytes s) (IsUtf8-string_bytes s), all_spelled rest)
