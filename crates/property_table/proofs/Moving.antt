-- Indices that move to the first slots, in their order.
use Rattle.std.proofs.Common.{◌≡◌, ◌≢◌, ℕ, ◌+◌, ◌<◌, ◌≤◌, List, [], ◌∷◌, ◌++◌, length, get_or, length-append, take, drop, refl, sym, ap, ◌∙◌, arith, Some, None, ◌⊎◌, inl, inr, append_assoc, append-nil}
use Rattle.std.specs.Prelude.{slice_set, slice_index}
use Rattle.std.proofs.lemmas.Bool.{cases_eq}
use Rattle.std.proofs.lemmas.List.{get_or-set_same, get_or-set_other, get_or-take, length-set, length-take, drop_more, drop_all, drop-set-lt, take_more_set}
use Rattle.std.proofs.lemmas.List.Elements.{filter_map-append}
use Rattle.std.proofs.lemmas.Option.{same_Some, none-some}
use Rattle.property_table.specs.Slots.{Slot, ArePlaced, named}
use Rattle.property_table.proofs.Placing.{within}

-- slots below `to` have the indices of those below `from`, and from there on all is as before
pub record AreMoving (before slots : List Slot) (before_of slot_of : List ℕ) (to from : ℕ) : Type 0 where
  pub low : to ≤ from
  pub high : from ≤ length slots
  pub same_length : length slot_of ≡ length before_of
  pub there : (n : ℕ) → n < length slot_of → get_or slots (slice_index slot_of n) None ≡ Some n
  pub moved : (n : ℕ) → n < length slot_of → (slice_index slot_of n < to) ⊎ (from ≤ slice_index slot_of n)
  pub known : (i n : ℕ) → (i < to) ⊎ (from ≤ i) → get_or slots i None ≡ Some n → (n < length slot_of) × (slice_index slot_of n ≡ i)
  pub same_named : named (take to slots) ++ named (drop from slots) ≡ named before
  pub full : length (named (take to slots)) ≡ to

pub start : (slots : List Slot) (slot_of : List ℕ) → ArePlaced slots slot_of → AreMoving slots slots slot_of slot_of 0 0
start slots slot_of placed = record {
  low = omega arith;
  high = omega arith;
  same_length = refl;
  there = placed.there;
  moved = λ n below. inr (omega arith);
  known = λ i n side. placed.known i n;
  same_named = refl;
  full = refl;
}

module _ (before slots : List Slot) (before_of slot_of : List ℕ) (to from : ℕ) (moving : AreMoving before slots before_of slot_of to from) where
  -- all have moved
  pub ended : ArePlaced before before_of → from ≡ length slots → ArePlaced (take to slots) slot_of × (named (take to slots) ≡ named before) × (to ≡ length slot_of)
  ended placed end =
      let same : named (take to slots) ≡ named before =
      sym (append-nil (named (take to slots))) ∙ ap (λ l. named (take to slots) ++ named l) (sym (drop_all from slots (omega arith))) ∙ moving.same_named
      in (
        record {
          there = λ n below.
              let here = moving.there n below in
              let low : slice_index slot_of n < to =
              elim (moving.moved n below) [ inl low ↦ low | inr high ↦ absurd (let inside = within slots (slice_index slot_of n) n here in omega arith) ]
              in
              get_or-take to slots (slice_index slot_of n) None low ∙ here;
          known = λ i n at.
              let inside = within (take to slots) i n at in
              let low : i < to = omega (arith, length-take to slots) in
              moving.known i n (inl low) (sym (get_or-take to slots i None low) ∙ at);
          count = ap length same ∙ placed.count ∙ sym moving.same_length;
        },
        same,
        sym moving.full ∙ ap length same ∙ placed.count ∙ sym moving.same_length,
      )

  -- an empty slot
  pub skipped : from < length slots → get_or slots from None ≡ None → AreMoving before slots before_of slot_of to (from + 1)
  skipped inside empty = record {
    low = omega (arith, moving.low);
    high = omega arith;
    same_length = moving.same_length;
    there = moving.there;
    moved = λ n below. elim (moving.moved n below) [
      | inl low ↦ inl low
      | inr high ↦ inr (let other : slice_index slot_of n ≢ from = λ same. none-some n (sym empty ∙ ap (λ i. get_or slots i None) (sym same) ∙ moving.there n below) in omega arith)
    ];
    known = λ i n side. moving.known i n (elim side [ inl low ↦ inl low | inr high ↦ inr (omega arith) ]);
    same_named = ap (λ l. named (take to slots) ++ named l) (sym (drop_more slots from None inside ∙ ap (λ s. s ∷ drop (from + 1) slots) empty)) ∙ moving.same_named;
    full = moving.full;
  }

  -- a slot that names an index
  module _ (n : ℕ) (inside : from < length slots) (at : get_or slots from None ≡ Some n) where
    abbrev after : List Slot
    after = slice_set slots to (Some n)

    abbrev after_of : List ℕ
    after_of = slice_set slot_of n to

    pub here : (n < length slot_of) × (slice_index slot_of n ≡ from)
    here = moving.known from n (inr (omega arith)) at

    -- what has another index stays
    stays : (m : ℕ) → m < length slot_of → m ≢ n → (slice_index after_of m ≡ slice_index slot_of m) × ((slice_index slot_of m < to) ⊎ (from + 1 ≤ slice_index slot_of m)) × (get_or after (slice_index slot_of m) None ≡ Some m)
    stays m below other =
        let differs : slice_index slot_of m ≢ from = λ same. other (same_Some m n (sym (moving.there m below) ∙ ap (λ i. get_or slots i None) same ∙ at)) in
        let side : (slice_index slot_of m < to) ⊎ (from + 1 ≤ slice_index slot_of m) = elim (moving.moved m below) [ inl low ↦ inl low | inr high ↦ inr (omega arith) ] in
        let not_to : slice_index slot_of m ≢ to = λ same. elim side [ inl low ↦ absurd (omega arith) | inr high ↦ absurd (omega (arith, moving.low)) ] in
        (get_or-set_other slot_of n m to 0 other, side, get_or-set_other slots to (slice_index slot_of m) (Some n) None not_to ∙ moving.there m below)

    moved_there : (m : ℕ) → m < length after_of → get_or after (slice_index after_of m) None ≡ Some m
    moved_there m below =
        elim (cases_eq m n) [
          | inl is ↦
              ap (λ k. get_or after (slice_index after_of k) None) is ∙ ap (λ i. get_or after i None) (get_or-set_same slot_of n to 0 here.0)
              ∙ get_or-set_same slots to (Some n) None (omega (arith, moving.low)) ∙ ap Some (sym is)
          | inr other ↦
              let kept = stays m (omega (arith, length-set slot_of n to)) other in
              ap (λ i. get_or after i None) kept.0 ∙ kept.2
        ]

    moved_side : (m : ℕ) → m < length after_of → (slice_index after_of m < to + 1) ⊎ (from + 1 ≤ slice_index after_of m)
    moved_side m below =
        elim (cases_eq m n) [
          | inl is ↦ inl (let last : slice_index after_of m ≡ to = ap (slice_index after_of) is ∙ get_or-set_same slot_of n to 0 here.0 in omega arith)
          | inr other ↦
              let kept = stays m (omega (arith, length-set slot_of n to)) other in
              elim kept.1 [ inl low ↦ inl (omega (arith, kept.0)) | inr high ↦ inr (omega (arith, kept.0)) ]
        ]

    moved_known : (i m : ℕ) → (i < to + 1) ⊎ (from + 1 ≤ i) → get_or after i None ≡ Some m → (m < length after_of) × (slice_index after_of m ≡ i)
    moved_known i m side found =
        elim (cases_eq i to) [
          | inl is ↦
              let same : n ≡ m = same_Some n m (sym (get_or-set_same slots to (Some n) None (omega (arith, moving.low))) ∙ ap (λ k. get_or after k None) (sym is) ∙ found) in
              (omega (arith, length-set slot_of n to, here.0), ap (slice_index after_of) (sym same) ∙ get_or-set_same slot_of n to 0 here.0 ∙ sym is)
          | inr other ↦
              let old_side : (i < to) ⊎ (from ≤ i) = elim side [ inl low ↦ inl (omega arith) | inr high ↦ inr (omega arith) ] in
              let old = moving.known i m old_side (sym (get_or-set_other slots to i (Some n) None other) ∙ found) in
              let not_from : i ≢ from = λ same. elim side [ inl low ↦ absurd (omega (arith, moving.low)) | inr high ↦ absurd (omega arith) ] in
              let not_n : m ≢ n = λ same. not_from (sym old.1 ∙ ap (slice_index slot_of) same ∙ here.1) in
              (omega (arith, length-set slot_of n to, old.0), get_or-set_other slot_of n m to 0 not_n ∙ old.1)
        ]

    pub one_more : AreMoving before after before_of after_of (to + 1) (from + 1)
    one_more = record {
      low = omega (arith, moving.low);
      high = omega (arith, length-set slots to (Some n));
      same_length = length-set slot_of n to ∙ moving.same_length;
      there = moved_there;
      moved = moved_side;
      known = moved_known;
      same_named =
          ap (λ l. named l ++ named (drop (from + 1) after)) (take_more_set slots to (Some n) (omega (arith, moving.low)))
          ∙ ap (λ l. named (take to slots ++ Some n ∷ []) ++ named l) (drop-set-lt (from + 1) slots to (Some n) (omega (arith, moving.low)))
          ∙ ap (λ l. l ++ named (drop (from + 1) slots)) (filter_map-append (λ slot. slot) (take to slots) (Some n ∷ []))
          ∙ append_assoc (named (take to slots)) (n ∷ []) (named (drop (from + 1) slots))
          ∙ ap (λ l. named (take to slots) ++ named l) (sym (drop_more slots from None inside ∙ ap (λ s. s ∷ drop (from + 1) slots) at))
          ∙ moving.same_named;
      full =
          ap (λ l. length (named l)) (take_more_set slots to (Some n) (omega (arith, moving.low)))
          ∙ ap length (filter_map-append (λ slot. slot) (take to slots) (Some n ∷ []))
          ∙ length-append (named (take to slots)) (n ∷ []) ∙ ap (λ k. k + 1) moving.full;
    }
