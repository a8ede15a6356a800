-- Elements from an index on, and properties without several keys.
use Rattle.std.specs.Prelude.{◌≡◌, ℕ, nat_le, Bool, false, List, Option, Some, None, fold, map, unwrap_or}
use Rattle.std.specs.List.{filter}
use Rattle.std.specs.Option.{option_map}
use Rattle.plain_heap.specs.Heap.{Key, ObjectState, Data, DataProperty, Property, without}
use Rattle.plain_heap.specs.Methods.{Defining, Descriptor, array_index, define_element, define_plain, length_of}

abbrev pub is_at_least : {A : Type 0} → ℕ → Key × A → Bool
is_at_least n p = unwrap_or (option_map (λ index. nat_le n index) (array_index p.0)) false

abbrev pub are_at_least : {A : Type 0} → ℕ → List (Key × A) → List (Key × A)
are_at_least n ps = filter (is_at_least n) ps

abbrev pub keys_of : {A : Type 0} → List (Key × A) → List Key
keys_of ps = map (λ p. p.0) ps

abbrev pub without_all : {A : Type 0} → List Key → List (Key × A) → List (Key × A)
without_all keys ps = fold (λ left key. without key left) ps keys

-- an array's length, whether it may be changed, and the number that it is; or none (15.4.5.1, step 1)
pub record IsLength (found : Option Property) (p : DataProperty) (n : ℕ) : Type 0 where
  pub there : found ≡ Some (Data p)
  pub number : length_of p.value ≡ Some n

abbrev pub HasLength : Option Property → Option (Bool × ℕ) → Type 0
HasLength found (Some is) = (p : DataProperty) × (p.writable ≡ is.0) × IsLength found p is.1
HasLength found None = (p : DataProperty) (n : ℕ) → IsLength found p n → ⊥

-- an array's other properties, where it has this length (steps 4 and 5)
abbrev pub defining_other : Key → Descriptor → ObjectState → DataProperty → ℕ → Defining
defining_other key d o p old = unwrap_or (option_map (define_element key d o p old) (array_index key)) (define_plain key d o)
