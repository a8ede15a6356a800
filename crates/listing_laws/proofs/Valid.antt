-- In a valid heap the walk stays among what is there, so what is there serves as the items among which a renaming is said; and the
-- queue of such a walk leads nowhere else, so it serves too.
use Rattle.std.proofs.Common.{◌≡◌, ℕ, suc, ◌≤◌, ◌<◌, true, false, List, [], ◌∷◌, ◌++◌, length, map, refl, ap, sym, ◌∙◌, arith}
use Rattle.std.specs.Prelude.{nat_lt, is_some, option_to_list, nat_eq, slice_get, Option, Some, None, unwrap_or}
use Rattle.std.specs.List.{list_all}
use Rattle.std.specs.Option.{option_map}
use Rattle.std.proofs.lemmas.Bool.{and_parts, both_ways}
use Rattle.std.proofs.lemmas.Option.{slice_get_within}
use Rattle.plain_heap.specs.Heap.{Heap, Key, Property, Data, Accessor, Class, Plain, Array, Function, Builtin, ObjectState, Environment, object_at, cell, resolve, is_function, is_function_class}
use Rattle.plain_heap.specs.Heap as H
use Rattle.plain_heap.specs.Valid.{is_valid, is_value, is_depth, is_class, are_cells, is_property, if_some}
use Rattle.plain_heap.specs.Values.{Value, Object, ObjNo, CellNo, undefined, object_or_null, object_or_undefined}
use Rattle.plain_heap.proofs.Changing.{right_at}
use Rattle.plain_heap.proofs.Defining.{found_right}
use Rattle.plain_heap.proofs.Giving.{gives_values}
use Rattle.plain_heap.proofs.Grown.{all_added, at_place}
use Rattle.plain_heap.proofs.Making.{IsRight, right_parts}
use Rattle.js_machine.specs.Machine.Listed.{FreeNames, Item, AnObject, ACell, captured, in_cells, in_value, in_property, in_class, in_object, next_of, thrown_item}
use Rattle.js_machine.specs.Machine.Realm.{realm_count}
use Rattle.js_machine.specs.Machine.Walks.{Ending, Normally, Thrown}
use Rattle.js_tree.specs.Mentions.{Names}
use Rattle.listing_laws.specs.Renamed.{Renaming, renamed_item, renamed_value, renamed_property, renamed_entry, renamed_ending, Listable, IsSameClass, IsSameObject, AreSameObjects, AreSameCells, IsRenamed, is_there}
use Rattle.listing_laws.proofs.Walking.{in_properties}

module _ (h : Heap) (valid : is_valid h ≡ true) where
  abbrev there : List Item → Type 0
  there items = list_all (is_there h) items ≡ true

  one_there : (x : Item) → is_there h x ≡ true → there (x ∷ [])
  one_there x is = rw is refl

  below : (m n : ℕ) → m < n → nat_lt m n ≡ true
  below m n lt = grind (arith, lt)

  value_there : (v : Value) → is_value h v ≡ true → there (in_value v)
  value_there (Object o) is = one_there (AnObject o) is
  value_there v is = refl

  found_there : (o : ObjNo) (f : Option ObjectState) → object_at h o ≡ f → is_some f ≡ true → is_there h (AnObject o) ≡ true
  found_there o (Some s) at is = below o (length h.objects) (slice_get_within h.objects o s at)
  found_there o None at is = absurd (both_ways false refl is)

  function_there : (o : ObjNo) → is_function h o ≡ true → is_there h (AnObject o) ≡ true
  function_there o is = found_there o (object_at h o) refl (by_found (object_at h o) is)
    where
      by_found : (f : Option ObjectState) → H.is_class is_function_class f ≡ true → is_some f ≡ true
      by_found (Some s) is = refl
      by_found None is = absurd (both_ways false refl is)

  accessor_there : (f : Option ObjNo) → if_some (is_function h) f ≡ true → there (in_value (object_or_undefined f))
  accessor_there None is = refl
  accessor_there (Some o) is = one_there (AnObject o) (function_there o is)

  property_there : (p : Property) → is_property h p ≡ true → there (in_property p)
  property_there (Data p) is = value_there p.value is
  property_there (Accessor p) is =
      let both = and_parts (if_some (is_function h) p.get) (if_some (is_function h) p.set) is in
      all_added (is_there h) (in_value (object_or_undefined p.get)) (in_value (object_or_undefined p.set)) (accessor_there p.get both.0) (accessor_there p.set both.1)

  properties_there : (ps : List (Key × Property)) → list_all (λ (p : Key × Property). is_property h p.1) ps ≡ true → there (in_properties ps)
  properties_there [] is = refl
  properties_there (p ∷ ps) is =
      let both = and_parts (is_property h p.1) (list_all (λ (p : Key × Property). is_property h p.1) ps) is in
      all_added (is_there h) (in_property p.1) (in_properties ps) (property_there p.1 both.0) (properties_there ps both.1)

  prototype_there : (depth : ℕ) (p : Option ObjNo) → is_depth h depth p ≡ true → there (in_value (object_or_null p))
  prototype_there depth None is = refl
  prototype_there depth (Some o) is = one_there (AnObject o) (found_there o (object_at h o) refl (by_found (object_at h o) is))
    where
      by_found : (f : Option ObjectState) → unwrap_or (option_map (λ (state : ObjectState). nat_eq depth (suc state.depth)) f) false ≡ true → is_some f ≡ true
      by_found (Some s) is = refl
      by_found None is = absurd (both_ways false refl is)

  name_there : (around : Environment) (name : List ℕ) (c : CellNo) → are_cells h around ≡ true → resolve around name ≡ Some c → is_there h (ACell c) ≡ true
  unfolding resolve
  name_there around name c cells is = found_right (λ (p : List ℕ × CellNo). nat_lt p.1 (length h.cells)) (λ k m p. refl) name c around cells is

  cells_there : (around : Environment) (names : Names) → are_cells h around ≡ true → there (map (λ c. ACell c) (in_cells around names))
  cells_there around [] cells = refl
  cells_there around (name ∷ names) cells = by_cell (resolve around name) refl (cells_there around names cells)
    where
      by_cell : (c : Option CellNo) → resolve around name ≡ c → there (map (λ c. ACell c) (in_cells around names)) → there (map (λ c. ACell c) (option_to_list c ++ in_cells around names))
      by_cell None is rest = rest
      by_cell (Some c) is rest = rw (name_there around name c cells is, rest) refl

  class_there : (free : FreeNames) (o : ObjectState) (c : Class) → is_class h o c ≡ true → there (in_class free c)
  class_there free o (Function f around strict) is = cells_there around (captured free f around) is
  class_there free o Plain is = refl
  class_there free o Array is = refl
  class_there free o (Builtin n) is = refl

  object_there : (free : FreeNames) (s : ObjectState) → IsRight h s → there (in_object free s)
  object_there free s right =
      all_added (is_there h) (in_value (object_or_null s.prototype) ++ in_properties s.properties) (in_class free s.class)
      (all_added (is_there h) (in_value (object_or_null s.prototype)) (in_properties s.properties) (prototype_there s.depth s.prototype right.ends) (properties_there s.properties right.properties))
      (class_there free s s.class right.class)

  pub next_there : (free : FreeNames) (x : Item) → there (next_of free h x)
  next_there free (AnObject o) = by_found (object_at h o) refl
    where
      by_found : (f : Option ObjectState) → object_at h o ≡ f → there (unwrap_or (option_map (in_object free) f) [])
      by_found None at = refl
      by_found (Some s) at = object_there free s (right_parts h s (right_at h o s valid at))
  next_there free (ACell c) = by_found (cell h c) refl
    where
      by_found : (f : Option Value) → cell h c ≡ f → there (in_value (unwrap_or f undefined))
      by_found None at = refl
      by_found (Some v) at = value_there v (and_parts (is_value h v) _ (gives_values.cells h c v valid at)).0

-- ---- a valid heap is the same as itself

abbrev pub itself : Renaming
itself = record { objects = λ o. o; cells = λ c. c }

same_value : (v : Value) → renamed_value itself v ≡ v
same_value (Object o) = refl
same_value v = refl

same_option : (f : Option ObjNo) → option_map itself.objects f ≡ f
same_option None = refl
same_option (Some o) = refl

same_property : (p : Property) → renamed_property itself p ≡ p
same_property (Data p) = ap (λ v. Data (record p { value = v })) (same_value p.value)
same_property (Accessor p) = rw (same_option p.get, same_option p.set) refl

same_properties : (ps : List (Key × Property)) → map (renamed_entry itself) ps ≡ ps
same_properties [] = refl
same_properties (p ∷ ps) = rw (same_property p.1, same_properties ps) refl

same_cells : (cs : List CellNo) → cs ≡ map itself.cells cs
same_cells [] = refl
same_cells (c ∷ cs) = ap (λ cs. c ∷ cs) (same_cells cs)

same_item : (x : Item) → renamed_item itself x ≡ x
same_item (AnObject o) = refl
same_item (ACell c) = refl

module _ (a : Listable) (valid : is_valid a.heap ≡ true) (realm : realm_count ≤ length a.heap.objects) (thrown : list_all (is_there a.heap) (thrown_item a.ending) ≡ true) where
  class_same : (c : Class) → IsSameClass itself a a c c
  class_same Plain = tt
  class_same Array = tt
  class_same (Builtin n) = refl
  class_same (Function f s strict) = (record { code = refl; cells = same_cells (in_cells s (captured a.free f s)) }, refl)

  state_same : (s : ObjectState) → IsSameObject itself a a s s
  state_same s = record { class = class_same s.class; prototype = sym (same_option s.prototype); extensible = refl; properties = sym (same_properties s.properties) }

  object_same : (o : ObjNo) (f : Option ObjectState) → object_at a.heap o ≡ f → nat_lt o (length a.heap.objects) ≡ true → AreSameObjects itself a a f f
  object_same o (Some s) at is = state_same s
  object_same o None at is = absurd (missing o (length a.heap.objects) is at)
    where
      missing : (o n : ℕ) → nat_lt o (length a.heap.objects) ≡ true → slice_get a.heap.objects o ≡ None → ⊥
      missing o n is at = let found = at_place a.heap.objects o (grind (arith, is)) in not_both found.element (sym found.is ∙ at)
        where
          not_both : (s : ObjectState) → Some s ≡ None → ⊥
          not_both s is = cc

  cell_same : (c : CellNo) (f : Option Value) → cell a.heap c ≡ f → nat_lt c (length a.heap.cells) ≡ true → AreSameCells itself a a f f
  cell_same c (Some v) at is = sym (same_value v)
  cell_same c None at is = absurd (missing c is at)
    where
      missing : (c : ℕ) → nat_lt c (length a.heap.cells) ≡ true → slice_get a.heap.cells c ≡ None → ⊥
      missing c is at = let found = at_place a.heap.cells c (grind (arith, is)) in not_both found.element (sym found.is ∙ at)
        where
          not_both : (v : Value) → Some v ≡ None → ⊥
          not_both v is = cc

  same_ending : (e : Ending) → e ≡ renamed_ending itself e
  same_ending Normally = refl
  same_ending (Thrown v) = ap (λ v. Thrown v) (sym (same_value v))

  -- of all that is there
  pub is_itself : IsRenamed itself a a (is_there a.heap)
  is_itself = record {
    closed = record {
      realm = λ o below. in_range o realm_count (length a.heap.objects) below realm;
      thrown = thrown;
      onwards = λ x is. next_there a.heap valid a.free x;
    };
    realm = λ o below. refl;
    others = λ o is. refl;
    apart = λ x y is also. rw (same_item x, same_item y) refl;
    objects = λ o is. object_same o (object_at a.heap o) refl is;
    cells = λ c is. cell_same c (cell a.heap c) refl is;
    ending = same_ending a.ending;
  }
    where
      in_range : (o m n : ℕ) → nat_lt o m ≡ true → m ≤ n → nat_lt o n ≡ true
      in_range o m n below le = grind (arith, below, le)
