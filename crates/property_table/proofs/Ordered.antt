-- The entries of a map in the order of slots: what is found, put and left out by a key.
use Rattle.std.proofs.Common.{◌≤◌, ◌≡◌, ◌≢◌, ℕ, zero, suc, ◌+◌, ◌-◌, ◌<◌, true, false, cond, List, [], ◌∷◌, ◌++◌, length, map, get_or, refl, sym, ap, ◌∙◌, subst, arith, Option, Some, None, inl, inr, true≢false, length-append}
use Rattle.std.specs.Prelude.{slice_get, slice_set, slice_index, position, is_some, IfSome}
use Rattle.std.specs.Cmp.Lexicographic.{nat_list_eq_equiv}
use Rattle.std.specs.List.{cons_option, filter_map, swap_remove, IsDistinct}
use Rattle.std.specs.Map.{keys_of}
use Rattle.std.specs.Map as map
use Rattle.std.specs.Option.{option_and_then}
use Rattle.std.proofs.lemmas.Bool.{cases_eq, cases_order, cases_Bool}
use Rattle.std.proofs.lemmas.List.{ext_get_or, get_or-set_same, get_or-set_other, get_or-take, get_or-map, length-set, length-take, length-map}
use Rattle.std.proofs.lemmas.List.Elements.{filter_map-append}
use Rattle.std.proofs.lemmas.List.Quantifiers.{position-Some}
use Rattle.std.proofs.lemmas.Map.Entries.{place_from_lookup, length-keys_of}
use Rattle.std.proofs.lemmas.Map.Keys.{apart_from_distinct}
use Rattle.std.proofs.lemmas.Option.{same_Some, none-some, slice_get_within, slice_get-get_or, get_or_from_slice_get}
use Rattle.indexmap.specs.IndexMap.{set_value_at}
use Rattle.js_value.specs.Conversions.{is_same_text}
use Rattle.plain_heap.specs.Heap.{Key, lookup, put_at, without}
use Rattle.plain_heap.specs.Valid.{are_distinct}
use Rattle.property_table.specs.Slots.{Slot, ArePlaced, AreEntries, in_order, named}
use Rattle.property_table.proofs.Cells.{Cell, present, is_at, IsFirst, first_from, lookup_first, put_first, without_first, lookup_missing, put_missing, without_missing, distinct}
use Rattle.property_table.proofs.Placing.{slot_within, left, moved, left_taken, left_moved, left_other}

filter_map_map : {X Y : Type 0} (h : X → Option Y) (xs : List X) → filter_map h xs ≡ present (map h xs)
filter_map_map h [] = refl
filter_map_map h (x ∷ xs) = grind (arith, filter_map_map h xs)

same_sym : (k m : Key) → is_same_text k m ≡ is_same_text m k
same_sym k m = nat_list_eq_equiv.symm k m

no_more : (slots : List Slot) → length (named slots) ≤ length slots
no_more [] = omega arith
no_more (None ∷ slots) = omega (arith, no_more slots)
no_more (Some n ∷ slots) = omega (arith, no_more slots)

module _ {V : Type 0} where
  abbrev pub entry_in : List (Key × V) → Slot → Cell V
  entry_in es slot = option_and_then (slice_get es) slot

  abbrev pub cells : List (Key × V) → List Slot → List (Cell V)
  cells es slots = map (entry_in es) slots

  cell_at : (es : List (Key × V)) (slots : List Slot) (i : ℕ) → get_or (cells es slots) i None ≡ entry_in es (get_or slots i None)
  cell_at es [] i = refl
  cell_at es (slot ∷ slots) zero = refl
  cell_at es (slot ∷ slots) (suc i) = cell_at es slots i

  -- ---- entries that change

  set_here : (es : List (Key × V)) (n : ℕ) (e : Key × V) (v : V) → slice_get es n ≡ Some e → slice_get (set_value_at es n v) n ≡ Some (e.0, v)
  set_here [] n e v at = absurd (none-some e at)
  set_here (f ∷ es) zero e v at = ap (λ k. Some (k, v)) (ap (λ p. p.0) (same_Some f e at))
  set_here (f ∷ es) (suc n) e v at = set_here es n e v at

  set_other : (es : List (Key × V)) (n m : ℕ) (v : V) → m ≢ n → slice_get (set_value_at es n v) m ≡ slice_get es m
  set_other [] n m v other = refl
  set_other (f ∷ es) zero zero v other = absurd (other refl)
  set_other (f ∷ es) zero (suc m) v other = refl
  set_other (f ∷ es) (suc n) zero v other = refl
  set_other (f ∷ es) (suc n) (suc m) v other = set_other es n m v (λ same. other (ap suc same))

  has_entry : (es : List (Key × V)) (m : ℕ) → m < length es → (e : Key × V) × (slice_get es m ≡ Some e)
  has_entry [] m below = absurd (omega arith)
  has_entry (e ∷ es) zero below = (e, refl)
  has_entry (e ∷ es) (suc m) below = has_entry es m (omega arith)

  get_before : (es : List (Key × V)) (e : Key × V) (m : ℕ) → m < length es → slice_get (es ++ e ∷ []) m ≡ slice_get es m
  get_before [] e m below = absurd (omega arith)
  get_before (f ∷ es) e zero below = refl
  get_before (f ∷ es) e (suc m) below = get_before es e m (omega arith)

  get_last : (es : List (Key × V)) (e : Key × V) → slice_get (es ++ e ∷ []) (length es) ≡ Some e
  get_last [] e = refl
  get_last (f ∷ es) e = get_last es e

  -- what is at an index once the last entry went to n
  module _ (es : List (Key × V)) (n : ℕ) (d : Key × V) (there : n < length es) where
    abbrev swapped : List (Key × V)
    swapped = swap_remove es n d

    length_swapped : length swapped + 1 ≡ length es
    length_swapped = omega (arith, length-take (length es - 1) (slice_set es n (get_or es (length es - 1) d)), length-set es n (get_or es (length es - 1) d))

    swapped_at : (m : ℕ) → m < length es - 1 → slice_get swapped m ≡ Some (get_or (slice_set es n (get_or es (length es - 1) d)) m d)
    swapped_at m below = slice_get-get_or swapped m d (omega (arith, length_swapped)) ∙ ap Some (get_or-take (length es - 1) (slice_set es n (get_or es (length es - 1) d)) m d below)

    swapped_here : n < length es - 1 → slice_get swapped n ≡ slice_get es (length es - 1)
    swapped_here below = swapped_at n below ∙ ap Some (get_or-set_same es n (get_or es (length es - 1) d) d there) ∙ sym (slice_get-get_or es (length es - 1) d (omega arith))

    swapped_other : (m : ℕ) → m < length es - 1 → m ≢ n → slice_get swapped m ≡ slice_get es m
    swapped_other m below other = swapped_at m below ∙ ap Some (get_or-set_other es n m (get_or es (length es - 1) d) d other) ∙ sym (slice_get-get_or es m d (omega arith))

  -- only what slots name counts
  by_named : (es : List (Key × V)) (slots : List Slot) → in_order es slots ≡ filter_map (slice_get es) (named slots)
  by_named es [] = refl
  by_named es (None ∷ slots) = by_named es slots
  by_named es (Some n ∷ slots) = ap (cons_option (slice_get es n)) (by_named es slots)

  pub same_named : (es : List (Key × V)) (before after : List Slot) → named after ≡ named before → in_order es after ≡ in_order es before
  same_named es before after same = by_named es after ∙ ap (filter_map (slice_get es)) same ∙ sym (by_named es before)

  -- where no slot is empty, a position is that of its slot
  at_slot : (es : List (Key × V)) (slots : List Slot) → ((j m : ℕ) → get_or slots j None ≡ Some m → m < length es) → length (named slots) ≡ length slots
      → (i n : ℕ) (e : Key × V) → get_or slots i None ≡ Some n → slice_get es n ≡ Some e → slice_get (in_order es slots) i ≡ Some e
  at_slot es [] all full i n e at is = absurd (none-some n at)
  at_slot es (None ∷ slots) all full i n e at is = absurd (omega (arith, full, no_more slots))
  at_slot es (Some m ∷ slots) all full zero n e at is =
      ap (λ c. slice_get (cons_option c (in_order es slots)) 0) (ap (slice_get es) (same_Some m n at) ∙ is)
  at_slot es (Some m ∷ slots) all full (suc i) n e at is =
      let f = has_entry es m (all 0 m refl) in
      let rest : length (named slots) ≡ length slots = omega (arith, full) in
      ap (λ c. slice_get (cons_option c (in_order es slots)) (suc i)) f.1 ∙ at_slot es slots (λ j. all (suc j)) rest i n e at is

  -- an entry at an index with this key
  pub record IsEntry (es : List (Key × V)) (key : Key) (n : ℕ) (e : Key × V) : Type 0 where
    pub at : slice_get es n ≡ Some e
    pub same : is_same_text e.0 key ≡ true

  -- no entry has this key
  pub record IsMissing (es : List (Key × V)) (key : Key) : Type 0 where
    pub none : (m : ℕ) (f : Key × V) → slice_get es m ≡ Some f → is_same_text f.0 key ≡ false

  pub find : (es : List (Key × V)) (key : Key) (n : ℕ) → position (is_same_text key) (keys_of es) ≡ Some n → (e : Key × V) × IsEntry es key n e
  find [] key n is = absurd (none-some n is)
  find (f ∷ es) key n is =
      let at = position-Some (is_same_text key) (keys_of (f ∷ es)) n f.0 is in
      let inside : n < length (f ∷ es) = omega (arith, at.0, length-keys_of (f ∷ es)) in
      let e = get_or (f ∷ es) n f in
      (e, record { at = slice_get-get_or (f ∷ es) n f inside; same = same_sym e.0 key ∙ ap (is_same_text key) (sym (get_or-map (λ p. p.0) (f ∷ es) n f f.0 inside)) ∙ at.1 })

  pub miss : (es : List (Key × V)) (key : Key) → map.lookup (is_same_text key) es ≡ None → IsMissing es key
  miss es key is = record { none = λ m f at. by es m f is at }
    where
      by : (es : List (Key × V)) (m : ℕ) (f : Key × V) → map.lookup (is_same_text key) es ≡ None → slice_get es m ≡ Some f → is_same_text f.0 key ≡ false
      by [] m f is at = absurd (none-some f at)
      by (e ∷ es) zero f is at = grind (arith, same_sym f.0 key)
      by (e ∷ es) (suc m) f is at =
          elim (cases_Bool (is_same_text key e.0)) [
            | inl same ↦ absurd (none-some e.1 (sym is ∙ ap (λ b. cond b (Some e.1) (map.lookup (is_same_text key) es)) same))
            | inr differs ↦ by es m f (sym (ap (λ b. cond b (Some e.1) (map.lookup (is_same_text key) es)) differs) ∙ is) at
          ]

  module _ (es : List (Key × V)) (slots : List Slot) (slot_of : List ℕ) (placed : ArePlaced slots slot_of) (kept : AreEntries es slots slot_of) where
    -- one key, one index
    one_index : (m n : ℕ) (e f : Key × V) → slice_get es m ≡ Some e → slice_get es n ≡ Some f → is_same_text e.0 f.0 ≡ true → m ≡ n
    one_index m n e f at_m at_n same =
        let m_in : m < length es = slice_get_within es m e at_m in
        let n_in : n < length es = slice_get_within es n f at_n in
        let m_is : get_or (keys_of es) m e.0 ≡ e.0 = get_or-map (λ p. p.0) es m e e.0 m_in ∙ ap (λ p. p.0) (get_or_from_slice_get es m e e at_m) in
        let n_is : get_or (keys_of es) n e.0 ≡ f.0 = get_or-map (λ p. p.0) es n e e.0 n_in ∙ ap (λ p. p.0) (get_or_from_slice_get es n f e at_n) in
        elim (cases_order m n) [
          | inl is ↦ is
          | inr differ ↦
              absurd
              (elim differ [
                | inl below ↦
                    true≢false (sym same ∙ (λ j. is_same_text (sym m_is j) (sym n_is j)) ∙ apart_from_distinct is_same_text (keys_of es) m n e.0 kept.unique below (omega (arith, length-keys_of es)))
                | inr above ↦
                    true≢false (sym same ∙ same_sym e.0 f.0 ∙ (λ j. is_same_text (sym n_is j) (sym m_is j)) ∙ apart_from_distinct is_same_text (keys_of es) n m e.0 kept.unique above (omega (arith, length-keys_of es)))
              ])
        ]

    -- the cell of a slot that names an index
    cell_of : (i n : ℕ) → get_or slots i None ≡ Some n → get_or (cells es slots) i None ≡ slice_get es n
    cell_of i n at = cell_at es slots i ∙ ap (entry_in es) at

    slot_at : (n : ℕ) (e : Key × V) → slice_get es n ≡ Some e → get_or (cells es slots) (slice_index slot_of n) None ≡ Some e
    slot_at n e at = cell_of (slice_index slot_of n) n (placed.there n (rw kept.number (slice_get_within es n e at))) ∙ at

    -- another slot's cell has another key
    other_key : (key : Key) (n : ℕ) (e : Key × V) → IsEntry es key n e → (j : ℕ) → j ≢ slice_index slot_of n → is_at key (get_or (cells es slots) j None) ≡ false
    other_key key n e is j other = rw (cell_at es slots j) (by (get_or slots j None) refl)
      where
        by_entry : (m : ℕ) (found : Option (Key × V)) → get_or slots j None ≡ Some m → slice_get es m ≡ found → is_at key found ≡ false
        by_entry m None at found = refl
        by_entry m (Some f) at found =
            elim (cases_Bool (is_same_text f.0 key)) [
              | inr differs ↦ differs
              | inl same ↦
                  let is_n : m ≡ n = one_index m n f e found is.at (sym (nat_list_eq_equiv.congr key e.0 f.0 (same_sym key e.0 ∙ is.same) ∙ same_sym e.0 f.0) ∙ (same_sym key f.0 ∙ same)) in
                  absurd (other (sym (placed.known j m at).1 ∙ ap (slice_index slot_of) is_n))
            ]

        by : (slot : Slot) → get_or slots j None ≡ slot → is_at key (entry_in es slot) ≡ false
        by None at = refl
        by (Some m) at = by_entry m (slice_get es m) at refl

    pub first : (key : Key) (n : ℕ) (e : Key × V) → IsEntry es key n e → IsFirst key (cells es slots) (slice_index slot_of n)
    first key n e is =
        first_from key (cells es slots) (slice_index slot_of n) (ap (is_at key) (slot_at n e is.at) ∙ is.same) (λ j below. other_key key n e is j (λ same. absurd (omega arith)))

    pub none_at : (key : Key) → IsMissing es key → (j : ℕ) → is_at key (get_or (cells es slots) j None) ≡ false
    none_at key missing j = rw (cell_at es slots j) (by (get_or slots j None))
      where
        by_entry : (m : ℕ) (found : Option (Key × V)) → slice_get es m ≡ found → is_at key found ≡ false
        by_entry m None found = refl
        by_entry m (Some f) found = missing.none m f found

        by : (slot : Slot) → is_at key (entry_in es slot) ≡ false
        by None = refl
        by (Some m) = by_entry m (slice_get es m) refl

    -- ---- looking up

    pub lookup_entry : (key : Key) (n : ℕ) (e : Key × V) → IsEntry es key n e → lookup key (in_order es slots) ≡ Some e.1
    lookup_entry key n e is =
        ap (lookup key) (filter_map_map (entry_in es) slots) ∙ lookup_first key (cells es slots) (slice_index slot_of n) e (first key n e is) (slot_at n e is.at)

    pub lookup_none : (key : Key) → IsMissing es key → lookup key (in_order es slots) ≡ None
    lookup_none key missing = ap (lookup key) (filter_map_map (entry_in es) slots) ∙ lookup_missing key (cells es slots) (none_at key missing)

    pub same_lookup : (key : Key) → map.lookup (is_same_text key) es ≡ lookup key (in_order es slots)
    same_lookup key = by (map.lookup (is_same_text key) es) refl
      where
        by : (found : Option V) → map.lookup (is_same_text key) es ≡ found → map.lookup (is_same_text key) es ≡ lookup key (in_order es slots)
        by None is = is ∙ sym (lookup_none key (miss es key is))
        by (Some v) is =
            let place = place_from_lookup (is_same_text key) es v is in
            is ∙ sym (lookup_entry key place.0 (place.1, v) (record { at = place.2; same = same_sym place.1 key ∙ place.3 }))

    -- ---- a value that is replaced

    -- the index that a full cell's slot names
    named_by : (i : ℕ) (e : Key × V) → get_or (cells es slots) i None ≡ Some e → (m : ℕ) × (get_or slots i None ≡ Some m) × (slice_get es m ≡ Some e)
    named_by i e at = by (get_or slots i None) refl (sym (cell_at es slots i) ∙ at)
      where
        by : (slot : Slot) → get_or slots i None ≡ slot → entry_in es slot ≡ Some e → (m : ℕ) × (get_or slots i None ≡ Some m) × (slice_get es m ≡ Some e)
        by None is at = absurd (none-some e at)
        by (Some m) is at = (m, is, at)

    in_entries : (i m : ℕ) → get_or slots i None ≡ Some m → m < length es
    in_entries i m at = rw (← kept.number) (placed.known i m at).0

    not_named : (n i m : ℕ) → i ≢ slice_index slot_of n → get_or slots i None ≡ Some m → m ≢ n
    not_named n i m other at = λ same. other (sym (placed.known i m at).1 ∙ ap (slice_index slot_of) same)

    replaced_at : (key : Key) (v : V) (n : ℕ) (e : Key × V) → IsEntry es key n e → (j : ℕ) → get_or (cells (set_value_at es n v) slots) j None ≡ get_or (slice_set (cells es slots) (slice_index slot_of n) (Some (e.0, v))) j None
    replaced_at key v n e is j = cell_at (set_value_at es n v) slots j ∙
        elim (cases_eq j (slice_index slot_of n)) [
          | inl here ↦
              let inside : n < length slot_of = rw kept.number (slice_get_within es n e is.at) in
              let cell_in : slice_index slot_of n < length (cells es slots) = omega (arith, slot_within slots slot_of placed n inside, length-map slots (entry_in es)) in
              ap (λ i. entry_in (set_value_at es n v) (get_or slots i None)) here ∙ ap (entry_in (set_value_at es n v)) (placed.there n inside)
              ∙ set_here es n e v is.at ∙ sym (get_or-set_same (cells es slots) (slice_index slot_of n) (Some (e.0, v)) None cell_in) ∙ ap (λ i. get_or (slice_set (cells es slots) (slice_index slot_of n) (Some (e.0, v))) i None) (sym here)
          | inr other ↦
              by (get_or slots j None) other refl ∙ sym (cell_at es slots j) ∙ sym (get_or-set_other (cells es slots) (slice_index slot_of n) j (Some (e.0, v)) None other)
        ]
      where
        by : (slot : Slot) → j ≢ slice_index slot_of n → get_or slots j None ≡ slot → entry_in (set_value_at es n v) slot ≡ entry_in es slot
        by None other at = refl
        by (Some m) other at = set_other es n m v (not_named n j m other at)

    pub put_entry : (key : Key) (v : V) (n : ℕ) (e : Key × V) → IsEntry es key n e → in_order (set_value_at es n v) slots ≡ put_at key v (in_order es slots)
    put_entry key v n e is =
        let set_cell : cells (set_value_at es n v) slots ≡ slice_set (cells es slots) (slice_index slot_of n) (Some (e.0, v)) =
        ext_get_or None (cells (set_value_at es n v) slots) (slice_set (cells es slots) (slice_index slot_of n) (Some (e.0, v)))
        (length-map slots (entry_in (set_value_at es n v)) ∙ sym (length-set (cells es slots) (slice_index slot_of n) (Some (e.0, v)) ∙ length-map slots (entry_in es)))
        (λ j below. replaced_at key v n e is j)
        in
        filter_map_map (entry_in (set_value_at es n v)) slots ∙ ap present set_cell
        ∙ put_first key v (cells es slots) (slice_index slot_of n) e (first key n e is) (slot_at n e is.at) ∙ ap (put_at key v) (sym (filter_map_map (entry_in es) slots))

    -- ---- a new entry

    pub put_new : (key : Key) (v : V) → IsMissing es key → in_order (es ++ (key, v) ∷ []) (slots ++ Some (length es) ∷ []) ≡ put_at key v (in_order es slots)
    put_new key v missing =
        let after = es ++ (key, v) ∷ [] in
        let before : cells after slots ≡ cells es slots =
        ext_get_or None (cells after slots) (cells es slots) (length-map slots (entry_in after) ∙ sym (length-map slots (entry_in es)))
        (λ j below. cell_at after slots j ∙ by (get_or slots j None) j refl ∙ sym (cell_at es slots j))
        in
        filter_map-append (entry_in after) slots (Some (length es) ∷ [])
        ∙ ap (λ c. filter_map (entry_in after) slots ++ cons_option c []) (get_last es (key, v))
        ∙ ap (λ l. l ++ (key, v) ∷ []) (filter_map_map (entry_in after) slots ∙ ap present before ∙ sym (filter_map_map (entry_in es) slots))
        ∙ sym (put_missing key v (in_order es slots) (lookup_none key missing))
      where
        by : (slot : Slot) (j : ℕ) → get_or slots j None ≡ slot → entry_in (es ++ (key, v) ∷ []) slot ≡ entry_in es slot
        by None j at = refl
        by (Some m) j at = get_before es (key, v) m (in_entries j m at)

    -- ---- an entry that is taken out

    taken_at : (key : Key) (n : ℕ) (e : Key × V) (is : IsEntry es key n e) (there : n < length slot_of) (j : ℕ)
        → get_or (cells (swap_remove es n e) (left slots slot_of placed n there)) j None ≡ get_or (slice_set (cells es slots) (slice_index slot_of n) None) j None
    taken_at key n e is there j =
        let there_in : n < length es = slice_get_within es n e is.at in
        let after = left slots slot_of placed n there in
        let slot = slice_index slot_of n in
        cell_at (swap_remove es n e) after j ∙
        elim (cases_eq j slot) [
          | inl here ↦
              let cell_in : slot < length (cells es slots) = omega (arith, slot_within slots slot_of placed n there, length-map slots (entry_in es)) in
              ap (λ i. entry_in (swap_remove es n e) (get_or after i None)) here ∙ ap (entry_in (swap_remove es n e)) (left_taken slots slot_of placed n there)
              ∙ sym (get_or-set_same (cells es slots) slot None None cell_in) ∙ ap (λ i. get_or (slice_set (cells es slots) slot None) i None) (sym here)
          | inr other ↦
              elim (cases_eq j (moved slots slot_of placed n there)) [
                | inl here ↦
                    let differs : moved slots slot_of placed n there ≢ slot = λ same. other (here ∙ same) in
                    let not_last : n ≢ length slot_of - 1 = λ same. differs (ap (slice_index slot_of) (sym same)) in
                    let last_in : length slot_of - 1 < length slot_of = omega arith in
                    let last_is : length es - 1 ≡ length slot_of - 1 = ap (λ k. k - 1) (sym kept.number) in
                    ap (λ i. entry_in (swap_remove es n e) (get_or after i None)) here ∙ ap (entry_in (swap_remove es n e)) (left_moved slots slot_of placed n there differs)
                    ∙ swapped_here es n e there_in (omega (arith, kept.number)) ∙ ap (slice_get es) last_is
                    ∙ sym (ap (λ i. entry_in es (get_or slots i None)) here ∙ ap (entry_in es) (placed.there (length slot_of - 1) last_in))
                | inr not_moved ↦
                    ap (entry_in (swap_remove es n e)) (left_other slots slot_of placed n there j other not_moved) ∙ by (get_or slots j None) other not_moved refl
              ]
              ∙ sym (cell_at es slots j) ∙ sym (get_or-set_other (cells es slots) slot j None None other)
        ]
      where
        by : (named : Slot) → j ≢ slice_index slot_of n → j ≢ slice_index slot_of (length slot_of - 1) → get_or slots j None ≡ named → entry_in (swap_remove es n e) named ≡ entry_in es named
        by None other not_moved at = refl
        by (Some m) other not_moved at =
            let not_last : m ≢ length slot_of - 1 = not_named (length slot_of - 1) j m not_moved at in
            swapped_other es n e (slice_get_within es n e is.at) m (omega (arith, kept.number, in_entries j m at)) (not_named n j m other at)

    pub without_entry : (key : Key) (n : ℕ) (e : Key × V) → IsEntry es key n e → in_order (swap_remove es n e) (slice_set (slice_set slots (slice_index slot_of (length slot_of - 1)) (Some n)) (slice_index slot_of n) None) ≡ without key (in_order es slots)
    without_entry key n e is =
        let there : n < length slot_of = rw kept.number (slice_get_within es n e is.at) in
        let after = left slots slot_of placed n there in
        let set_cell : cells (swap_remove es n e) after ≡ slice_set (cells es slots) (slice_index slot_of n) None =
        ext_get_or None (cells (swap_remove es n e) after) (slice_set (cells es slots) (slice_index slot_of n) None)
        (length-map after (entry_in (swap_remove es n e))
        ∙ (length-set (slice_set slots (slice_index slot_of (length slot_of - 1)) (Some n)) (slice_index slot_of n) None ∙ length-set slots (slice_index slot_of (length slot_of - 1)) (Some n))
        ∙ sym (length-set (cells es slots) (slice_index slot_of n) None ∙ length-map slots (entry_in es)))
        (λ j below. taken_at key n e is there j)
        in
        filter_map_map (entry_in (swap_remove es n e)) after ∙ ap present set_cell ∙ without_first key (cells es slots) (slice_index slot_of n) (first key n e is) ∙ ap (without key) (sym (filter_map_map (entry_in es) slots))

    pub without_none : (key : Key) → IsMissing es key → in_order es slots ≡ without key (in_order es slots)
    without_none key missing = sym (without_missing key (in_order es slots) (lookup_none key missing))

    -- ---- all entries

    pub all_distinct : are_distinct (in_order es slots) ≡ true
    all_distinct =
        ap are_distinct (filter_map_map (entry_in es) slots) ∙
        distinct (cells es slots)
        (record {
          apart = λ i j e f below at_i at_j.
              elim (cases_Bool (is_same_text f.0 e.0)) [
                | inr differs ↦ differs
                | inl same ↦
                    let m = named_by i e at_i in
                    let k = named_by j f at_j in
                    let one : k.0 ≡ m.0 = one_index k.0 m.0 f e k.2 m.2 same in
                    absurd (let is : j ≡ i = sym (placed.known j k.0 k.1).1 ∙ ap (slice_index slot_of) one ∙ (placed.known i m.0 m.1).1 in omega arith)
              ];
        })

    pub all_length : length (in_order es slots) ≡ length es
    all_length = by slots in_entries ∙ placed.count ∙ kept.number
      where
        by_entry : (m : ℕ) (rest : List Slot) (found : Option (Key × V)) → m < length es → slice_get es m ≡ found → length (in_order es rest) ≡ length (named rest) → length (cons_option found (in_order es rest)) ≡ suc (length (named rest))
        by_entry m rest None below found same = absurd (let e = has_entry es m below in none-some e.0 (sym found ∙ e.1))
        by_entry m rest (Some e) below found same = ap suc same

        by : (rest : List Slot) → ((i m : ℕ) → get_or rest i None ≡ Some m → m < length es) → length (in_order es rest) ≡ length (named rest)
        by [] all = refl
        by (None ∷ rest) all = by rest (λ i. all (suc i))
        by (Some m ∷ rest) all = by_entry m rest (slice_get es m) (all 0 m refl) refl (by rest (λ i. all (suc i)))

    pub at_full : length slots ≡ length es → (i n : ℕ) (e : Key × V) → get_or slots i None ≡ Some n → slice_get es n ≡ Some e → slice_get (in_order es slots) i ≡ Some e
    at_full full = at_slot es slots in_entries (placed.count ∙ kept.number ∙ sym full)

    -- ---- by the place of a key among the map's keys

    pub found_at : (key : Key) (n : ℕ) → position (is_same_text key) (keys_of es) ≡ Some n → is_some (lookup key (in_order es slots)) ≡ true
    found_at key n is = let e = find es key n is in ap is_some (lookup_entry key n e.0 e.1)

    pub put_place : (key : Key) (v : V) (n : ℕ) → position (is_same_text key) (keys_of es) ≡ Some n → in_order (set_value_at es n v) slots ≡ put_at key v (in_order es slots)
    put_place key v n is = let e = find es key n is in put_entry key v n e.0 e.1

    pub without_place : (key : Key) (n : ℕ) (after : List (Key × V)) (r : Option (Key × V)) → position (is_same_text key) (keys_of es) ≡ Some n → r ≡ slice_get es n
        → IfSome r (λ p. after ≡ swap_remove es n p)
        → in_order after (slice_set (slice_set slots (slice_index slot_of (length slot_of - 1)) (Some n)) (slice_index slot_of n) None) ≡ without key (in_order es slots)
    without_place key n after r is at removed =
        let e = find es key n is in
        let new : after ≡ swap_remove es n e.0 = subst (λ o. IfSome o (λ p. after ≡ swap_remove es n p)) (at ∙ e.1.at) removed in
        ap (λ l. in_order l (slice_set (slice_set slots (slice_index slot_of (length slot_of - 1)) (Some n)) (slice_index slot_of n) None)) new ∙ without_entry key n e.0 e.1

  keys_set : (es : List (Key × V)) (n : ℕ) (v : V) → keys_of (set_value_at es n v) ≡ keys_of es
  keys_set [] n v = refl
  keys_set (e ∷ es) zero v = refl
  keys_set (e ∷ es) (suc n) v = ap (λ ks. e.0 ∷ ks) (keys_set es n v)

  pub kept_set : (es : List (Key × V)) (slots : List Slot) (slot_of : List ℕ) (n : ℕ) (v : V) → AreEntries es slots slot_of → AreEntries (set_value_at es n v) slots slot_of
  kept_set es slots slot_of n v kept = record {
    number = kept.number ∙ (sym (length-keys_of es) ∙ ap length (sym (keys_set es n v)) ∙ length-keys_of (set_value_at es n v));
    unique = rw (keys_set es n v) kept.unique;
    few = kept.few;
  }

  pub kept_new : (es after : List (Key × V)) (slots : List Slot) (slot_of : List ℕ) (e : Key × V) (slot : Slot) (s : ℕ) → AreEntries es slots slot_of → after ≡ es ++ e ∷ []
      → IsDistinct is_same_text (keys_of after) → AreEntries after (slots ++ slot ∷ []) (slot_of ++ s ∷ [])
  kept_new es after slots slot_of e slot s kept new unique = record {
    number = length-append slot_of (s ∷ []) ∙ ap (λ k. k + 1) kept.number ∙ sym (ap length new ∙ length-append es (e ∷ []));
    unique = unique;
    few = omega (arith, kept.few, length-append slots (slot ∷ []), length-append slot_of (s ∷ []));
  }
