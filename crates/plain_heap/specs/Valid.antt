-- Valid heaps: every number names something, every chain of prototypes ends, every array has its length.
use Rattle.std.specs.Prelude.{ℕ, suc, nat_lt, ◌&&◌, Bool, true, false, not, is_some, List, [], ◌∷◌, length, Option, Some, None, unwrap_or, nat_eq}
use Rattle.std.specs.List.{list_all, list_any}
use Rattle.std.specs.Option.{option_map}
use Rattle.js_value.specs.Conversions.{is_same_text}
use Rattle.plain_heap.specs.Values.{Value, Object, Absent, ObjNo, CellNo}
use Rattle.plain_heap.specs.Heap.{Key, Property, Properties, Data, Accessor, Class, Array, Function, ObjectState, Heap, object_at, is_function, Environment}
use Rattle.plain_heap.specs.Methods.{array_index, length_key, length_of, own_property}

-- of an option: nothing is always right
abbrev pub if_some : {A : Type 0} → (A → Bool) → Option A → Bool
if_some test None = true
if_some test (Some a) = test a

-- ---- values

abbrev pub is_value : Heap → Value → Bool
is_value h (Object o) = nat_lt o (length h.objects)
is_value h v = true

-- ---- objects

abbrev pub is_property : Heap → Property → Bool
is_property h (Data p) = is_value h p.value
is_property h (Accessor p) = if_some (is_function h) p.get && if_some (is_function h) p.set

abbrev pub are_distinct : {A : Type 0} → List (Key × A) → Bool
are_distinct [] = true
are_distinct (p ∷ ps) = not (list_any (λ q. is_same_text q.0 p.0) ps) && are_distinct ps

-- neither enumerable nor configurable, and above each array index
abbrev pub is_length : Properties → Option Property → Bool
is_length ps (Some (Data p)) = not p.enumerable && not p.configurable && is_some (length_of p.value) && list_all (λ (q : Key × Property). if_some (λ n. if_some (nat_lt n) (length_of p.value)) (array_index q.0)) ps
is_length ps _ = false

-- each name's cell is there
abbrev pub are_cells : Heap → Environment → Bool
are_cells h names = list_all (λ (n : List ℕ × CellNo). nat_lt n.1 (length h.cells)) names

abbrev pub is_class : Heap → ObjectState → Class → Bool
is_class h o Array = is_length o.properties (own_property length_key o)
is_class h o (Function f names strict) = are_cells h names
is_class h o _ = true

-- one more than the depth of the prototype, which is there
abbrev pub is_depth : Heap → ℕ → Option ObjNo → Bool
is_depth h depth None = nat_eq depth 0
is_depth h depth (Some p) = unwrap_or (option_map (λ (state : ObjectState). nat_eq depth (suc state.depth)) (object_at h p)) false

abbrev pub is_object : Heap → ObjectState → Bool
is_object h o =
    is_depth h o.depth o.prototype && are_distinct o.properties && list_all (λ (p : Key × Property). is_property h p.1) o.properties && is_class h o o.class

-- ---- cells: no variable holds a built-in that is left out

abbrev pub is_absent : Value → Bool
is_absent Absent = true
is_absent v = false

abbrev pub is_cell : Heap → Value → Bool
is_cell h v = is_value h v && not (is_absent v)

-- ---- heaps

unfoldable pub is_valid : Heap → Bool
is_valid h = list_all (is_object h) h.objects && list_all (is_cell h) h.cells
