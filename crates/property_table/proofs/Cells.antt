-- Properties in cells, of which some are empty: what is found, put and left out by the cell of a key.
use Rattle.std.proofs.Common.{◌≡◌, ℕ, zero, suc, ◌<◌, Bool, true, false, List, [], ◌∷◌, ◌++◌, length, get_or, refl, sym, ap, arith, Option, Some, None, true≢false}
use Rattle.std.specs.Prelude.{is_some, slice_set}
use Rattle.std.specs.List.{filter_map, list_any}
use Rattle.js_value.specs.Conversions.{is_same_text}
use Rattle.plain_heap.specs.Heap.{Key, lookup, put_at, without}
use Rattle.plain_heap.specs.Valid.{are_distinct}

abbrev pub Cell : Type 0 → Type 0
Cell V = Option (Key × V)

abbrev pub present : {A : Type 0} → List (Option A) → List A
present cells = filter_map (λ c. c) cells

module _ {V : Type 0} where
  abbrev pub is_at : Key → Cell V → Bool
  is_at key None = false
  is_at key (Some e) = is_same_text e.0 key

  -- a cell is the first one of the key
  abbrev pub IsFirst : Key → List (Cell V) → ℕ → Type 0
  IsFirst key [] s = ⊥
  IsFirst key (c ∷ cells) zero = is_at key c ≡ true
  IsFirst key (c ∷ cells) (suc s) = (is_at key c ≡ false) × IsFirst key cells s

  pub first_from : (key : Key) (cells : List (Cell V)) (s : ℕ) → is_at key (get_or cells s None) ≡ true → ((j : ℕ) → j < s → is_at key (get_or cells j None) ≡ false) → IsFirst key cells s
  first_from key [] s at before = absurd (true≢false (sym at))
  first_from key (c ∷ cells) zero at before = at
  first_from key (c ∷ cells) (suc s) at before = (before 0 (omega arith), first_from key cells s at (λ j below. before (suc j) (omega arith)))

  pub lookup_first : (key : Key) (cells : List (Cell V)) (s : ℕ) (e : Key × V) → IsFirst key cells s → get_or cells s None ≡ Some e → lookup key (present cells) ≡ Some e.1
  lookup_first key [] s e first at = absurd first
  lookup_first key (None ∷ cells) zero e first at = absurd (true≢false (sym first))
  lookup_first key (Some f ∷ cells) zero e first at = grind arith
  lookup_first key (None ∷ cells) (suc s) e first at = lookup_first key cells s e first.1 at
  lookup_first key (Some f ∷ cells) (suc s) e first at = rw first.0 (lookup_first key cells s e first.1 at)

  pub put_first : (key : Key) (v : V) (cells : List (Cell V)) (s : ℕ) (e : Key × V) → IsFirst key cells s → get_or cells s None ≡ Some e
      → present (slice_set cells s (Some (e.0, v))) ≡ put_at key v (present cells)
  put_first key v [] s e first at = absurd first
  put_first key v (None ∷ cells) zero e first at = absurd (true≢false (sym first))
  put_first key v (Some f ∷ cells) zero e first at = grind arith
  put_first key v (None ∷ cells) (suc s) e first at = put_first key v cells s e first.1 at
  put_first key v (Some f ∷ cells) (suc s) e first at = rw first.0 (ap (λ es. f ∷ es) (put_first key v cells s e first.1 at))

  pub without_first : (key : Key) (cells : List (Cell V)) (s : ℕ) → IsFirst key cells s → present (slice_set cells s None) ≡ without key (present cells)
  without_first key [] s first = absurd first
  without_first key (None ∷ cells) zero first = absurd (true≢false (sym first))
  without_first key (Some f ∷ cells) zero first = rw first refl
  without_first key (None ∷ cells) (suc s) first = without_first key cells s first.1
  without_first key (Some f ∷ cells) (suc s) first = rw first.0 (ap (λ es. f ∷ es) (without_first key cells s first.1))

  -- ---- where no cell is the key's

  pub lookup_missing : (key : Key) (cells : List (Cell V)) → ((j : ℕ) → is_at key (get_or cells j None) ≡ false) → lookup key (present cells) ≡ None
  lookup_missing key [] none = refl
  lookup_missing key (None ∷ cells) none = lookup_missing key cells (λ j. none (suc j))
  lookup_missing key (Some f ∷ cells) none = rw (none 0) (lookup_missing key cells (λ j. none (suc j)))

  pub put_missing : (key : Key) (v : V) (es : List (Key × V)) → lookup key es ≡ None → put_at key v es ≡ es ++ (key, v) ∷ []
  put_missing key v [] none = refl
  put_missing key v (e ∷ es) none = grind (arith, put_missing key v es)

  pub without_missing : (key : Key) (es : List (Key × V)) → lookup key es ≡ None → without key es ≡ es
  without_missing key [] none = refl
  without_missing key (e ∷ es) none = grind (arith, without_missing key es)

  -- ---- each key once

  pub record AreApart (cells : List (Cell V)) : Type 0 where
    pub apart : (i j : ℕ) (e f : Key × V) → i < j → get_or cells i None ≡ Some e → get_or cells j None ≡ Some f → is_same_text f.0 e.0 ≡ false

  none_same : (key : Key) (cells : List (Cell V)) → ((j : ℕ) (f : Key × V) → get_or cells j None ≡ Some f → is_same_text f.0 key ≡ false) → list_any (λ q. is_same_text q.0 key) (present cells) ≡ false
  none_same key [] none = refl
  none_same key (None ∷ cells) none = none_same key cells (λ j. none (suc j))
  none_same key (Some f ∷ cells) none = rw (none 0 f refl) (none_same key cells (λ j. none (suc j)))

  pub distinct : (cells : List (Cell V)) → AreApart cells → are_distinct (present cells) ≡ true
  distinct [] all = refl
  distinct (None ∷ cells) all = distinct cells (record { apart = λ i j e f below. all.apart (suc i) (suc j) e f (omega arith) })
  distinct (Some e ∷ cells) all =
      rw (none_same e.0 cells (λ j f at. all.apart 0 (suc j) e f (omega arith) refl at)) (distinct cells (record { apart = λ i j e f below. all.apart (suc i) (suc j) e f (omega arith) }))

pub none_from : {A : Type 0} (found : Option A) → false ≡ is_some found → found ≡ None
none_from None is = refl
none_from (Some a) is = absurd (true≢false (sym is))

-- ---- how many are present

module _ {A : Type 0} where
  pub length_set_some : (cells : List (Option A)) (s : ℕ) (a b : A) → get_or cells s None ≡ Some a → length (present (slice_set cells s (Some b))) ≡ length (present cells)
  length_set_some [] s a b at = refl
  length_set_some (None ∷ cells) zero a b at = absurd (cc)
  length_set_some (Some c ∷ cells) zero a b at = refl
  length_set_some (None ∷ cells) (suc s) a b at = length_set_some cells s a b at
  length_set_some (Some c ∷ cells) (suc s) a b at = ap suc (length_set_some cells s a b at)

  pub length_set_none : (cells : List (Option A)) (s : ℕ) (a : A) → get_or cells s None ≡ Some a → suc (length (present (slice_set cells s None))) ≡ length (present cells)
  length_set_none [] s a at = absurd (cc)
  length_set_none (None ∷ cells) zero a at = absurd (cc)
  length_set_none (Some c ∷ cells) zero a at = refl
  length_set_none (None ∷ cells) (suc s) a at = length_set_none cells s a at
  length_set_none (Some c ∷ cells) (suc s) a at = ap suc (length_set_none cells s a at)
