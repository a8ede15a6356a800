-- Slots stay known when an entry is added or taken out.
use Rattle.std.proofs.Common.{◌≡◌, ◌≢◌, ℕ, ◌+◌, ◌-◌, ◌<◌, List, [], ◌∷◌, ◌++◌, length, get_or, refl, sym, ap, ◌∙◌, subst, arith, Some, None, ◌⊎◌, inl, inr, length-append}
use Rattle.std.specs.Prelude.{slice_set, slice_index}
use Rattle.std.specs.List.{swap_remove}
use Rattle.std.proofs.lemmas.Bool.{cases_eq, cases_lt}
use Rattle.std.proofs.lemmas.List.{get_or_append_left, get_or_push, get_or_past, get_or-set_same, get_or-set_other, get_or-take, length-set, length-take}
use Rattle.std.proofs.lemmas.List.Elements.{filter_map-append}
use Rattle.std.proofs.lemmas.Option.{same_Some, none-some}
use Rattle.property_table.specs.Slots.{Slot, ArePlaced, named}
use Rattle.property_table.proofs.Cells.{length_set_some, length_set_none}

pub none_placed : ArePlaced [] []
none_placed = record { there = λ n below. absurd (omega arith); known = λ i n at. absurd (none-some n at); count = refl }

-- a slot that names an index is within
pub within : (slots : List Slot) (i n : ℕ) → get_or slots i None ≡ Some n → i < length slots
within slots i n at =
    elim (cases_lt i (length slots)) [ inl below ↦ below | inr past ↦ absurd (none-some n (sym (get_or_past slots i None past) ∙ at)) ]

module _ (slots : List Slot) (slot_of : List ℕ) (placed : ArePlaced slots slot_of) where
  pub slot_within : (n : ℕ) → n < length slot_of → slice_index slot_of n < length slots
  slot_within n below = within slots (slice_index slot_of n) n (placed.there n below)

  -- ---- one more entry

  pushed_there : (n : ℕ) → n < length (slot_of ++ length slots ∷ []) → get_or (slots ++ Some (length slot_of) ∷ []) (slice_index (slot_of ++ length slots ∷ []) n) None ≡ Some n
  pushed_there n below =
      elim (cases_lt n (length slot_of)) [
        | inl old ↦
            ap (λ i. get_or (slots ++ Some (length slot_of) ∷ []) i None) (get_or_append_left slot_of (length slots ∷ []) 0 n old)
            ∙ get_or_append_left slots (Some (length slot_of) ∷ []) None (slice_index slot_of n) (slot_within n old) ∙ placed.there n old
        | inr new ↦
            let last : length slot_of ≡ n = omega (arith, length-append slot_of (length slots ∷ [])) in
            ap (λ i. get_or (slots ++ Some (length slot_of) ∷ []) i None) (get_or_push slot_of (length slots) 0 n last)
            ∙ get_or_push slots (Some (length slot_of)) None (length slots) refl ∙ ap Some last
      ]

  pushed_known : (i n : ℕ) → get_or (slots ++ Some (length slot_of) ∷ []) i None ≡ Some n → (n < length (slot_of ++ length slots ∷ [])) × (slice_index (slot_of ++ length slots ∷ []) n ≡ i)
  pushed_known i n at =
      elim (cases_lt i (length slots)) [
        | inl old ↦
            let known = placed.known i n (sym (get_or_append_left slots (Some (length slot_of) ∷ []) None i old) ∙ at) in
            (omega (arith, length-append slot_of (length slots ∷ []), known.0), get_or_append_left slot_of (length slots ∷ []) 0 n known.0 ∙ known.1)
        | inr new ↦
            let inside : i < length (slots ++ Some (length slot_of) ∷ []) = within (slots ++ Some (length slot_of) ∷ []) i n at in
            let last : length slots ≡ i = omega (arith, length-append slots (Some (length slot_of) ∷ [])) in
            let is : length slot_of ≡ n = same_Some _ _ (sym (get_or_push slots (Some (length slot_of)) None i last) ∙ at) in
            (omega (arith, length-append slot_of (length slots ∷ [])), get_or_push slot_of (length slots) 0 n is ∙ last)
      ]

  pub pushed : ArePlaced (slots ++ Some (length slot_of) ∷ []) (slot_of ++ length slots ∷ [])
  pushed = record {
    there = pushed_there;
    known = pushed_known;
    count =
        ap length (filter_map-append (λ slot. slot) slots (Some (length slot_of) ∷ [])) ∙ length-append (named slots) (length slot_of ∷ []) ∙ ap (λ k. k + 1) placed.count
        ∙ sym (length-append slot_of (length slots ∷ []));
  }

  -- ---- an entry is taken out

  module _ (n : ℕ) (there : n < length slot_of) where
    abbrev pub last_of : ℕ
    last_of = length slot_of - 1

    abbrev pub moved : ℕ
    moved = slice_index slot_of last_of

    abbrev pub taken : ℕ
    taken = slice_index slot_of n

    abbrev pub left : List Slot
    left = slice_set (slice_set slots moved (Some n)) taken None

    abbrev pub left_of : List ℕ
    left_of = swap_remove slot_of n 0

    -- slots differ where the indices do
    apart : (m : ℕ) → m < length slot_of → slice_index slot_of m ≡ taken → m ≡ n
    apart m below same =
        same_Some m n (sym (placed.there m below) ∙ ap (λ i. get_or slots i None) same ∙ placed.there n there)

    pub left_taken : get_or left taken None ≡ None
    left_taken = get_or-set_same (slice_set slots moved (Some n)) taken None None (omega (arith, length-set slots moved (Some n), slot_within n there))

    pub left_moved : moved ≢ taken → get_or left moved None ≡ Some n
    left_moved other =
        get_or-set_other (slice_set slots moved (Some n)) taken moved None None other ∙ get_or-set_same slots moved (Some n) None (slot_within last_of (omega arith))

    pub left_other : (i : ℕ) → i ≢ taken → i ≢ moved → get_or left i None ≡ get_or slots i None
    left_other i not_taken not_moved =
        get_or-set_other (slice_set slots moved (Some n)) taken i None None not_taken ∙ get_or-set_other slots moved i (Some n) None not_moved

    length_left_of : length left_of + 1 ≡ length slot_of
    length_left_of = omega (arith, length-take last_of (slice_set slot_of n moved), length-set slot_of n moved)

    left_of_here : n < last_of → slice_index left_of n ≡ moved
    left_of_here below = get_or-take last_of (slice_set slot_of n moved) n 0 below ∙ get_or-set_same slot_of n moved 0 there

    left_of_other : (m : ℕ) → m < last_of → m ≢ n → slice_index left_of m ≡ slice_index slot_of m
    left_of_other m below other = get_or-take last_of (slice_set slot_of n moved) m 0 below ∙ get_or-set_other slot_of n m moved 0 other

    left_there : (m : ℕ) → m < length left_of → get_or left (slice_index left_of m) None ≡ Some m
    left_there m below =
        let inside : m < last_of = omega (arith, length_left_of) in
        elim (cases_eq m n) [
          | inl here ↦
              let before : n < last_of = subst (λ k. k < last_of) here inside in
              let differs : moved ≢ taken = λ same. absurd (let is : last_of ≡ n = apart last_of (omega arith) same in omega arith) in
              ap (λ k. get_or left (slice_index left_of k) None) here ∙ ap (λ i. get_or left i None) (left_of_here before) ∙ left_moved differs ∙ ap Some (sym here)
          | inr other ↦
              let old : m < length slot_of = omega arith in
              let not_taken : slice_index slot_of m ≢ taken = λ same. other (apart m old same) in
              let not_moved : slice_index slot_of m ≢ moved = λ same.
              absurd (let is : m ≡ last_of = same_Some m last_of (sym (placed.there m old) ∙ ap (λ i. get_or slots i None) same ∙ placed.there last_of (omega arith)) in omega arith) in
              ap (λ i. get_or left i None) (left_of_other m inside other) ∙ left_other (slice_index slot_of m) not_taken not_moved ∙ placed.there m old
        ]

    left_known : (i m : ℕ) → get_or left i None ≡ Some m → (m < length left_of) × (slice_index left_of m ≡ i)
    left_known i m at =
        elim (cases_eq i taken) [
          | inl here ↦ absurd (none-some m (sym left_taken ∙ ap (λ k. get_or left k None) (sym here) ∙ at))
          | inr not_taken ↦
              elim (cases_eq i moved) [
                | inl here ↦
                    let differs : moved ≢ taken = λ same. not_taken (here ∙ same) in
                    let is : n ≡ m = same_Some n m (sym (left_moved differs) ∙ ap (λ k. get_or left k None) (sym here) ∙ at) in
                    let other : n ≢ last_of = λ same. differs (ap (slice_index slot_of) (sym same)) in
                    let before : n < last_of = omega arith in
                    (omega (arith, length_left_of), ap (slice_index left_of) (sym is) ∙ left_of_here before ∙ sym here)
                | inr not_moved ↦
                    let known = placed.known i m (sym (left_other i not_taken not_moved) ∙ at) in
                    let not_n : m ≢ n = λ same. not_taken (sym known.1 ∙ ap (slice_index slot_of) same) in
                    let not_last : m ≢ last_of = λ same. not_moved (sym known.1 ∙ ap (slice_index slot_of) same) in
                    let inside : m < last_of = omega (arith, known.0) in
                    (omega (arith, length_left_of), left_of_other m inside not_n ∙ known.1)
              ]
        ]

    still_there : (b : (moved ≡ taken) ⊎ (moved ≢ taken)) → get_or (slice_set slots moved (Some n)) taken None ≡ Some n
    still_there (inl same) = ap (λ i. get_or (slice_set slots moved (Some n)) i None) (sym same) ∙ get_or-set_same slots moved (Some n) None (slot_within last_of (omega arith))
    still_there (inr differs) = get_or-set_other slots moved taken (Some n) None (λ same. differs (sym same)) ∙ placed.there n there

    pub taken_out : ArePlaced left left_of
    taken_out = record {
      there = left_there;
      known = left_known;
      count =
          let one_less = length_set_none (slice_set slots moved (Some n)) taken n (still_there (cases_eq moved taken)) in
          let same = length_set_some slots moved last_of n (placed.there last_of (omega arith)) in
          omega (arith, one_less, same, placed.count, length_left_of);
    }
