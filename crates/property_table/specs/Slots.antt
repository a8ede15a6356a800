-- How a table keeps an order: a map's entries stand in any order, and slots name them by their indices in the order of creation.
use Rattle.std.specs.Prelude.{◌≡◌, ◌<◌, ◌≤◌, ◌+◌, ◌*◌, ℕ, List, length, slice_get, slice_index, slice_index_or, Option, Some, None}
use Rattle.std.specs.List.{filter_map, IsDistinct}
use Rattle.std.specs.Map.{keys_of}
use Rattle.std.specs.Option.{option_and_then}
use Rattle.js_value.specs.Conversions.{is_same_text}
use Rattle.plain_heap.specs.Heap.{Key}

-- the index of an entry, or none where an entry was removed
abbrev pub Slot : Type 0
Slot = Option ℕ

-- the entries that slots name, in the order of the slots
abbrev pub in_order : {V : Type 0} → List (Key × V) → List Slot → List (Key × V)
in_order entries slots = filter_map (option_and_then (slice_get entries)) slots

-- the indices that slots name
abbrev pub named : List Slot → List ℕ
named slots = filter_map (λ slot. slot) slots

-- each index below a count has one slot, which is known
pub record ArePlaced (slots : List Slot) (slot_of : List ℕ) : Type 0 where
  pub there : (n : ℕ) → n < length slot_of → slice_index_or slots (slice_index slot_of n) None ≡ Some n
  pub known : (i n : ℕ) → slice_index_or slots i None ≡ Some n → (n < length slot_of) × (slice_index slot_of n ≡ i)
  pub count : length (named slots) ≡ length slot_of

-- at most half of the slots, and one, are empty
abbrev pub AreFew : List Slot → List ℕ → Type 0
AreFew slots slot_of = length slots ≤ 2 * length slot_of + 1

-- each entry has a slot, each key one entry, and slots take no more room than twice the entries
pub record AreEntries {V : Type 0} (entries : List (Key × V)) (slots : List Slot) (slot_of : List ℕ) : Type 0 where
  pub number : length slot_of ≡ length entries
  pub unique : IsDistinct is_same_text (keys_of entries)
  pub few : AreFew slots slot_of
