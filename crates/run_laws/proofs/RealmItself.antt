-- The heap at the start corresponds to itself, where each number does and no other.
use Rattle.std.proofs.Common.{◌≡◌, refl, subst, ℕ, zero, suc, Bool, true, false, List, [], ◌∷◌, arith}
use Rattle.std.specs.Prelude.{◌&&◌, length, slice_get, Option, Some, None}
use Rattle.std.specs.List.{list_all}
use Rattle.std.proofs.lemmas.Bool.{and_parts}
use Rattle.plain_heap.specs.Values.{Value, Prim, Object, Absent, Symbolic}
use Rattle.plain_heap.specs.Heap.{Key, Property, Properties, Data, Accessor, Class, Plain, Array, Function, Builtin, ObjectState, is_array_class}
use Rattle.js_machine.specs.Machine.Realm.{realm}
use Rattle.related_states.specs.Related.{Correspondence, BothOption, nothing, just, BothEach, none, also, known, object, SameHeld, held, absent, SameProperty, same_data, same_accessor, SameEntry, entry, SameClass, same_plain, same_array, same_builtin, SameState, same_state, SameHeaps}

-- ---- a heap without symbols and functions of scripts corresponds to itself

abbrev is_known : Value → Bool
is_known (Symbolic s) = false
is_known v = true

abbrev is_concrete : Property → Bool
is_concrete (Data p) = is_known p.value
is_concrete (Accessor p) = true

abbrev no_code : Class → Bool
no_code (Function f names strict) = false
no_code c = true

abbrev all_concrete : ObjectState → Bool
all_concrete o = no_code o.class && list_all (λ (p : Key × Property). is_concrete p.1) o.properties

module _ (x : Correspondence) (same : (o : ℕ) → x.Objects o o) (one : (o q : ℕ) → x.Objects o q → o ≡ q) where
  self_option : (a : Option ℕ) → BothOption x.Objects a a
  self_option None = nothing
  self_option (Some o) = just (same o)

  self_held : (v : Value) → is_known v ≡ true → SameHeld x v v
  self_held (Prim p) e = held (known p)
  self_held (Object o) e = held (object (same o))
  self_held Absent e = absent
  self_held (Symbolic s) e = grind (arith, e)

  self_property : (p : Property) → is_concrete p ≡ true → SameProperty x p p
  self_property (Data p) e = same_data (self_held p.value e) p.writable p.enumerable p.configurable
  self_property (Accessor p) e = same_accessor (self_option p.get) (self_option p.set) p.enumerable p.configurable

  self_properties : (array : Bool) (ps : Properties) → list_all (λ (p : Key × Property). is_concrete p.1) ps ≡ true → BothEach (SameEntry x array) ps ps
  self_properties array [] e = none
  self_properties array (p ∷ ps) e =
      let parts = and_parts (is_concrete p.1) (list_all (λ (p : Key × Property). is_concrete p.1) ps) e in
      also (entry p.0 (self_property p.1 parts.0) (λ a t. refl)) (self_properties array ps parts.1)

  self_class : (c : Class) → no_code c ≡ true → SameClass x c c
  self_class Plain e = same_plain
  self_class Array e = same_array
  self_class (Function f names strict) e = grind (arith, e)
  self_class (Builtin n) e = same_builtin n

  self_state : (o : ObjectState) → all_concrete o ≡ true → SameState x o o
  self_state o e =
      let parts = and_parts (no_code o.class) (list_all (λ (p : Key × Property). is_concrete p.1) o.properties) e in
      same_state (self_class o.class parts.0) (self_option o.prototype) o.depth o.extensible (self_properties (is_array_class o.class) o.properties parts.1)

  self_objects : (os : List ObjectState) → list_all all_concrete os ≡ true → (o : ℕ) → BothOption (SameState x) (slice_get os o) (slice_get os o)
  self_objects [] e o = nothing
  self_objects (s ∷ os) e zero = just (self_state s (and_parts (all_concrete s) (list_all all_concrete os) e).0)
  self_objects (s ∷ os) e (suc o) = self_objects os (and_parts (all_concrete s) (list_all all_concrete os) e).1 o

  pub realm_itself : x.ObjectCounts (length realm.objects) (length realm.objects) → x.CellCounts 0 0 → SameHeaps x realm realm
  unfolding realm
  realm_itself objects cells = record {
    objects = λ o q h. subst (λ q. BothOption (SameState x) (slice_get realm.objects o) (slice_get realm.objects q)) (one o q h) (self_objects realm.objects refl o);
    cells = λ c e h. nothing;
    object_counts = objects;
    cell_counts = cells;
  }
