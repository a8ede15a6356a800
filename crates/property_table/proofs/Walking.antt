-- Going over a list from its front: what comes next, and what is left.
use Rattle.std.proofs.Common.{◌≡◌, ℕ, zero, suc, ◌+◌, ◌<◌, List, [], ◌∷◌, length, drop, refl, sym, ap, ◌∙◌, arith, Option, Some, None}
use Rattle.std.specs.Prelude.{slice_get, IfSome, IfNone, IsSome}
use Rattle.std.proofs.lemmas.List.{drop-drop, length-drop}
use Rattle.std.proofs.lemmas.Option.{same_Some, none-some}

module _ {X : Type 0} where
  get_front : (xs : List X) (i : ℕ) → slice_get (drop i xs) 0 ≡ slice_get xs i
  get_front [] zero = refl
  get_front [] (suc i) = refl
  get_front (x ∷ xs) zero = refl
  get_front (x ∷ xs) (suc i) = get_front xs i

  not_empty : (xs : List X) (i : ℕ) → i < length xs → drop i xs ≡ [] → ⊥
  not_empty xs i below empty = omega (arith, length-drop i xs, ap length empty)

  module _ {P : Type 0} (show : P → X) (xs old new : List X) (i : ℕ) (at : old ≡ drop i xs) (below : i < length xs) where
    pub is_next : (r : Option P) → IfSome r (λ p. old ≡ show p ∷ new) → IfNone r (old ≡ []) → IsSome r
    is_next (Some p) some none = refl
    is_next None some none = absurd (not_empty xs i below (sym at ∙ none))

    pub is_left : (r : Option P) → IfSome r (λ p. old ≡ show p ∷ new) → IfNone r (old ≡ []) → new ≡ drop (i + 1) xs
    is_left (Some p) some none = sym (ap (drop 1) (sym at ∙ some)) ∙ drop-drop 1 i xs
    is_left None some none = absurd (not_empty xs i below (sym at ∙ none))

    pub is_shown : (p : P) (r : Option P) → r ≡ Some p → IfSome r (λ p. old ≡ show p ∷ new) → slice_get xs i ≡ Some (show p)
    is_shown p None is some = absurd (none-some p is)
    is_shown p (Some q) is some = sym (get_front xs i) ∙ ap (λ l. slice_get l 0) (sym at ∙ some) ∙ ap (λ o. Some (show o)) (same_Some q p is)
