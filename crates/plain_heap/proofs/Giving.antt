-- What a valid heap gives is there.
use Rattle.std.proofs.Common.{◌≡◌, refl, ap, ◌∙◌, Bool, true, false, List, arith, sym}
use Rattle.std.specs.Prelude.{zero, suc, length, ℕ, nat_lt, if◌then◌else◌, Option, Some, None}
use Rattle.std.specs.Option.{option_and_then, option_map}
use Rattle.std.proofs.lemmas.Bool.{and_parts}
use Rattle.plain_heap.specs.Heap.{Heap, Key, Property, Data, Accessor, ObjectState, object_at, is_function, cell, resolve, or_else, depth_at, Environment, Function}
use Rattle.plain_heap.specs.Methods.{own_property, property_along, get_property, Got, GotValue, CallGetter, getter, got, get, Putting, Refuse, CallSetter, setter, put_found, put_by, can_put, put}
use Rattle.plain_heap.specs.Values.{Value, ObjNo, CellNo, undefined}
use Rattle.plain_heap.specs.Valid.{if_some, is_value, is_property, is_cell, is_valid, are_cells, is_class}
use Rattle.plain_heap.specs.Laws.{GivesValues}
use Rattle.plain_heap.proofs.Grown.{one_of_all}
use Rattle.plain_heap.proofs.Making.{parts, right_parts}
use Rattle.plain_heap.proofs.Changing.{right_at}
use Rattle.plain_heap.proofs.Defining.{found_right}
use Rattle.js_value.specs.declared.place.FuncNo.{FuncNo}

-- a property that is found along a chain is right
abbrev found_is : Heap → Option (ObjNo × Property) → Bool
found_is h found = if_some (λ (r : ObjNo × Property). is_property h r.1) found

along_right : (n : ℕ) (h : Heap) (key : Key) (o : Option ObjNo) → is_valid h ≡ true → found_is h (property_along n h key o) ≡ true
along_right zero h key o valid = refl
along_right (suc n) h key None valid = refl
along_right (suc n) h key (Some o) valid = by_object (object_at h o) refl (λ p. along_right n h key p valid)
  where
    by_own : (state : ObjectState) (own : Option Property) → object_at h o ≡ Some state → own_property key state ≡ own → found_is h (property_along n h key state.prototype) ≡ true
        → found_is h (or_else (option_map (λ (p : Property). (o, p)) own) (property_along n h key state.prototype)) ≡ true
    by_own state None at is rest = rest
    by_own state (Some p) at is rest = found_right (λ (q : Key × Property). is_property h q.1) (λ k m p. refl) key p state.properties (right_parts h state (right_at h o state valid at)).properties is

    by_object : (found : Option ObjectState) → object_at h o ≡ found → ((p : Option ObjNo) → found_is h (property_along n h key p) ≡ true)
        → found_is h (option_and_then (λ (state : ObjectState). or_else (option_map (λ (p : Property). (o, p)) (own_property key state)) (property_along n h key state.prototype)) found) ≡ true
    by_object None at rest = refl
    by_object (Some state) at rest = by_own state (own_property key state) at refl (rest state.prototype)

property_right : (h : Heap) (key : Key) (o : Option ObjNo) → is_valid h ≡ true → found_is h (get_property h key o) ≡ true
unfolding get_property
property_right h key o valid = along_right (depth_at h o) h key o valid

-- ---- 8.12.3

abbrev the_value : Got → Value
the_value (GotValue v) = v
the_value (CallGetter f) = undefined

abbrev the_getter : Got → ObjNo → ObjNo
the_getter (CallGetter f) other = f
the_getter (GotValue v) other = other

got_right : (h : Heap) (found : Option (ObjNo × Property)) (v : Value) → found_is h found ≡ true → got found ≡ GotValue v → is_value h v ≡ true
got_right h None v is at = ap (is_value h) (sym (ap the_value at))
got_right h (Some (o, Data p)) v is at = ap (is_value h) (sym (ap the_value at)) ∙ is
got_right h (Some (o, Accessor p)) v is at = by_getter p.get at
  where
    by_getter : (f : Option ObjNo) → getter f ≡ GotValue v → is_value h v ≡ true
    by_getter None at = ap (is_value h) (sym (ap the_value at))
    by_getter (Some f) at = grind (arith, at)

gets_value : (h : Heap) (o : ObjNo) (key : Key) (v : Value) → is_valid h ≡ true → get h o key ≡ GotValue v → is_value h v ≡ true
unfolding get
gets_value h o key v valid at = got_right h (get_property h key (Some o)) v (property_right h key (Some o) valid) at

getter_right : (h : Heap) (found : Option (ObjNo × Property)) (f : ObjNo) → found_is h found ≡ true → got found ≡ CallGetter f → is_function h f ≡ true
getter_right h None f is at = grind (arith, at)
getter_right h (Some (o, Data p)) f is at = grind (arith, at)
getter_right h (Some (o, Accessor p)) f is at = by_getter p.get at (and_parts (if_some (is_function h) p.get) (if_some (is_function h) p.set) is).0
  where
    by_getter : (g : Option ObjNo) → getter g ≡ CallGetter f → if_some (is_function h) g ≡ true → is_function h f ≡ true
    by_getter None at is = grind (arith, at)
    by_getter (Some g) at is = ap (is_function h) (sym (ap (λ r. the_getter r f) at)) ∙ is

gets_getter : (h : Heap) (o f : ObjNo) (key : Key) → is_valid h ≡ true → get h o key ≡ CallGetter f → is_function h f ≡ true
unfolding get
gets_getter h o f key valid at = getter_right h (get_property h key (Some o)) f (property_right h key (Some o) valid) at

-- ---- 8.12.5

abbrev the_setter : Putting → ObjNo → ObjNo
the_setter (CallSetter f) other = f
the_setter _ other = other

setter_right : (h : Heap) (v : Value) (found : Option (ObjNo × Property)) (f : ObjNo) → found_is h found ≡ true → put_found v found ≡ CallSetter f → is_function h f ≡ true
setter_right h v None f is at = grind (arith, at)
setter_right h v (Some (o, Data p)) f is at = grind (arith, at)
setter_right h v (Some (o, Accessor p)) f is at = by_setter p.set at (and_parts (if_some (is_function h) p.get) (if_some (is_function h) p.set) is).1
  where
    by_setter : (g : Option ObjNo) → setter g ≡ CallSetter f → if_some (is_function h) g ≡ true → is_function h f ≡ true
    by_setter None at is = grind (arith, at)
    by_setter (Some g) at is = ap (is_function h) (sym (ap (λ r. the_setter r f) at)) ∙ is

puts_by : (h : Heap) (o f : ObjNo) (key : Key) (v : Value) (own : Option Property) → is_valid h ≡ true → put_by h o key v own ≡ CallSetter f → is_function h f ≡ true
puts_by h o f key v None valid at = setter_right h v (get_property h key (Some o)) f (property_right h key (Some o) valid) at
puts_by h o f key v (Some (Accessor p)) valid at = setter_right h v (get_property h key (Some o)) f (property_right h key (Some o) valid) at
puts_by h o f key v (Some (Data p)) valid at = grind (arith, at)

puts_setter : (h : Heap) (o f : ObjNo) (key : Key) (v : Value) → is_valid h ≡ true → put h o key v ≡ CallSetter f → is_function h f ≡ true
unfolding put
puts_setter h o f key v valid at = by_can_put (can_put h o key) at
  where
    by_can_put : (b : Bool) → (if b then put_by h o key v (option_and_then (own_property key) (object_at h o)) else Refuse) ≡ CallSetter f → is_function h f ≡ true
    by_can_put true at = puts_by h o f key v (option_and_then (own_property key) (object_at h o)) valid at
    by_can_put false at = grind (arith, at)

-- ---- cells and names

gets_cell : (h : Heap) (c : CellNo) (v : Value) → is_valid h ≡ true → cell h c ≡ Some v → is_cell h v ≡ true
gets_cell h c v valid at = one_of_all (is_cell h) h.cells c v (parts h valid).cells_are at

environments_right : (h : Heap) (o : ObjNo) (state : ObjectState) (f : FuncNo) (names : Environment) (strict : Bool) → is_valid h ≡ true → object_at h o ≡ Some state → state.class ≡ Function f names strict → are_cells h names ≡ true
environments_right h o state f names strict valid at class = ap (is_class h state) (sym class) ∙ (right_parts h state (right_at h o state valid at)).class

resolves : (h : Heap) (names : Environment) (name : List ℕ) (c : CellNo) → are_cells h names ≡ true → resolve names name ≡ Some c → nat_lt c (length h.cells) ≡ true
unfolding resolve
resolves h names name c are at = found_right (λ (p : List ℕ × CellNo). nat_lt p.1 (length h.cells)) (λ k m c. refl) name c names are at

pub gives_values : GivesValues
gives_values = record { gets = gets_value; getters = gets_getter; setters = puts_setter; cells = gets_cell; environments = environments_right; names = resolves }
