-- The heap in code as a heap of the definitions.
use Rattle.std.proofs.Common.{◌≡◌, ◌∷◌, ◌++◌, ◌+◌, ◌<◌, ◌≤◌, ◌∙◌, [], ℕ, List, true, Option, ap, sym, arith, length, length-append, map, refl}
use Rattle.std.specs.Prelude.{slice_get, slice_set}
use Rattle.std.specs.Option.{option_map}
use Rattle.std.proofs.Math.ListN.{get_or-append}
use Rattle.std.proofs.lemmas.List.{length-map, map-append, map-set, set_past}
use Rattle.std.proofs.lemmas.Option.{slice_get-map}
use Rattle.std.proofs.lemmas.Bool.{and_parts, and_from, lt-ltb}
use Rattle.std.proofs.lemmas.Bool.{ltb-true}
use Rattle.plain_heap.specs.Heap as heap
use Rattle.heap_values.specs.Meaning.{class_of, value_of}
use Rattle.heap_values.specs.declared.class.Class.{Class}
use Rattle.heap_values.specs.declared.class.Class.TheVariants as class
use Rattle.heap_values.specs.declared.property.Property.{Property}
use Rattle.heap_values.specs.declared.value.Value.{Value}
use Rattle.own_properties.specs.Defining.{entries}
use Rattle.heap_arena.specs.declared.object.Object.{Object}
use Rattle.heap_arena.specs.Meaning.{Store, heap_of, object_of, is_scope_there, are_scopes_there}

-- ---- what is there

pub objects-heap_of : (s : Store) → length (heap_of s).objects ≡ length s.objects
unfolding heap_of
objects-heap_of s = length-map s.objects (object_of s.environments)

pub cells-heap_of : (s : Store) → length (heap_of s).cells ≡ length s.cells
unfolding heap_of
cells-heap_of s = length-map s.cells value_of

pub object_at-heap_of : (s : Store) (o : ℕ) → heap.object_at (heap_of s) o ≡ option_map (object_of s.environments) (slice_get s.objects o)
unfolding heap_of
object_at-heap_of s o = slice_get-map (object_of s.environments) s.objects o

pub cell-heap_of : (s : Store) (c : ℕ) → heap.cell (heap_of s) c ≡ option_map value_of (slice_get s.cells c)
unfolding heap_of
cell-heap_of s c = slice_get-map value_of s.cells c

-- ---- what is made and changed

module _ (objects : List Object) (cells : List Value) (environments : List heap.Environment) where
  abbrev store : Store
  store = record { objects = objects; cells = cells; environments = environments }

  pub with_cell : (v : Value) → heap_of (record store { cells = cells ++ v ∷ [] }) ≡ heap.new_cell (value_of v) (heap_of store)
  unfolding heap_of
  with_cell v = ap (λ cs. record { objects = map (object_of environments) objects; cells = cs }) (map-append value_of cells (v ∷ []))

  pub with_cell_set : (c : ℕ) (v : Value) → heap_of (record store { cells = slice_set cells c v }) ≡ heap.set_cell c (value_of v) (heap_of store)
  unfolding heap_of
  with_cell_set c v = ap (λ cs. record { objects = map (object_of environments) objects; cells = cs }) (map-set value_of cells c v)

  pub with_cell_past : (c : ℕ) (v : Value) → length cells ≤ c → heap_of store ≡ heap.set_cell c (value_of v) (heap_of store)
  with_cell_past c v past = sym (ap (λ cs. heap_of (record store { cells = cs })) (set_past cells c v past)) ∙ with_cell_set c v

  pub with_object : (o : Object) → heap_of (record store { objects = objects ++ o ∷ [] }) ≡ heap.add_object (object_of environments o) (heap_of store)
  unfolding heap_of
  with_object o = ap (λ os. record { objects = os; cells = map value_of cells }) (map-append (object_of environments) objects (o ∷ []))

  pub with_new_object : (class : Class) (prototype : Option ℕ) (depth : ℕ) (properties : List (List ℕ × Property))
      → entries properties ≡ heap.first_properties (class_of environments class) → depth ≡ heap.depth_at (heap_of store) prototype
      → heap_of (record store { objects = objects ++ record { class = class; prototype = prototype; depth = depth; extensible = true; properties = properties } ∷ [] })
      ≡ heap.new_object (class_of environments class) prototype (heap_of store)
  with_new_object class prototype depth properties entries deep =
      with_object (record { class = class; prototype = prototype; depth = depth; extensible = true; properties = properties })
      ∙ ap (λ ps. heap.add_object (record (heap.new_state (class_of environments class) prototype depth) { properties = ps }) (heap_of store)) entries
      ∙ ap (λ n. heap.add_object (heap.new_state (class_of environments class) prototype n) (heap_of store)) deep

  pub with_object_set : (n : ℕ) (o : Object) → heap_of (record store { objects = slice_set objects n o }) ≡ heap.set_object n (object_of environments o) (heap_of store)
  unfolding heap_of
  with_object_set n o = ap (λ os. record { objects = os; cells = map value_of cells }) (map-set (object_of environments) objects n o)

-- ---- scopes

module _ (environments : List heap.Environment) (e : heap.Environment) where
  class-more : (class : Class) → is_scope_there (length environments) class ≡ true → class_of (environments ++ e ∷ []) class ≡ class_of environments class
  class-more class.Plain there = refl
  class-more class.Array there = refl
  class-more (class.Function f s strict) there = ap (λ names. heap.Function f names strict) (get_or-append environments (e ∷ []) [] s (ltb-true s (length environments) there))
  class-more (class.Builtin n) there = refl

  objects-more : (objects : List Object) → are_scopes_there (length environments) objects ≡ true
      → map (object_of (environments ++ e ∷ [])) objects ≡ map (object_of environments) objects
  objects-more [] there = refl
  objects-more (o ∷ objects) there =
      let parts = and_parts (is_scope_there (length environments) o.class) (are_scopes_there (length environments) objects) there in
      ap (λ class. record (object_of environments o) { class = class } ∷ map (object_of (environments ++ e ∷ [])) objects) (class-more o.class parts.0)
      ∙ ap (λ rest. object_of environments o ∷ rest) (objects-more objects parts.1)

  -- a scope that is made changes no object
  pub with_scope : (objects : List Object) (cells : List Value) → are_scopes_there (length environments) objects ≡ true
      → heap_of (record { objects = objects; cells = cells; environments = environments ++ e ∷ [] }) ≡ heap_of (record { objects = objects; cells = cells; environments = environments })
  unfolding heap_of
  with_scope objects cells there = ap (λ os. record { objects = os; cells = map value_of cells }) (objects-more objects there)

class-later : (n : ℕ) (class : Class) → is_scope_there n class ≡ true → is_scope_there (n + 1) class ≡ true
class-later n class.Plain there = refl
class-later n class.Array there = refl
class-later n (class.Function f s strict) there = let below : s < n = ltb-true s n there in lt-ltb s (n + 1) (omega arith)
class-later n (class.Builtin m) there = refl

later : (n : ℕ) (objects : List Object) → are_scopes_there n objects ≡ true → are_scopes_there (n + 1) objects ≡ true
later n [] there = refl
later n (o ∷ objects) there =
    let parts = and_parts (is_scope_there n o.class) (are_scopes_there n objects) there in
    and_from (is_scope_there (n + 1) o.class) (are_scopes_there (n + 1) objects) (class-later n o.class parts.0) (later n objects parts.1)

pub scopes-later : (environments : List heap.Environment) (e : heap.Environment) (objects : List Object) → are_scopes_there (length environments) objects ≡ true
    → are_scopes_there (length (environments ++ e ∷ [])) objects ≡ true
scopes-later environments e objects there = rw length-append (later (length environments) objects there)
