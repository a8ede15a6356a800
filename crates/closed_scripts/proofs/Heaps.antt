-- What a heap without symbols gives, and that it has none after each change that is given none (8.12, 15.4.5).
use Rattle.std.proofs.Common.{ℕ, zero, suc, Bool, true, false, cond, List, ◌∷◌, ◌++◌}
use Rattle.std.specs.Prelude.{◌&&◌, ◌||◌, not, nat_eq, nat_le, nat_lt, slice_get, slice_set, Option, Some, None, unwrap_or}
use Rattle.std.specs.List.{filter}
use Rattle.std.specs.Option.{option_map, option_and_then}
use Rattle.js_value.specs.Conversions.{is_same_text}
use Rattle.js_value.specs.declared.primitive.Primitive.TheVariants as primitive
use Rattle.plain_heap.specs.Values.{Value, Prim, ObjNo, CellNo, undefined}
use Rattle.plain_heap.specs.Heap.{Heap, Key, Property, Properties, Data, Accessor, DataProperty, Class, Plain, Array, Function, Builtin, ObjectState, object_at, set_object, add_object, new_state, depth_at, set_cell, cell, lookup, put_at, without, or_else, is_array_class, is_configurable, make_object, make_cell, data_property}
use Rattle.plain_heap.specs.Methods as M
use Rattle.plain_heap.specs.Methods.{Descriptor, Got, GotValue, CallGetter, Putting, Refuse, Define, CallSetter, Defining, Defined, Rejected, BadLength, IfSame, own_property, property_along, get_property, value_field, data_fields, array_index, length_key, is_accessor, is_data, is_generic}
use Rattle.closed_scripts.specs.Known.{Each, none, also, IsKnown, is_primitive, IsKnownProperty, of_data, of_accessor, IsKnownEntry, IsKnownState, IsKnownHeap}
use Rattle.closed_scripts.proofs.Quiet.{Given, nothing, just, Made}

-- ---- lists and options

module _ {A : Type 0} {Is : A → Type 0} where
  pub got_each : {xs : List A} → Each Is xs → (n : ℕ) → Given Is (slice_get xs n)
  got_each none n = nothing
  got_each (also is all) zero = just is
  got_each (also is all) (suc n) = got_each all n

  pub set_each : {xs : List A} → Each Is xs → (n : ℕ) {a : A} → Is a → Each Is (slice_set xs n a)
  set_each none n a = none
  set_each (also is all) zero a = also a all
  set_each (also is all) (suc n) a = also is (set_each all n a)

  pub joined : {xs ys : List A} → Each Is xs → Each Is ys → Each Is (xs ++ ys)
  joined none h = h
  joined (also is all) h = also is (joined all h)

  filtered_by : (b : Bool) (x : A) {xs : List A} → Is x → Each Is xs → Each Is (cond b (x ∷ xs) xs)
  filtered_by true x is all = also is all
  filtered_by false x is all = all

  pub filtered : (test : A → Bool) {xs : List A} → Each Is xs → Each Is (filter test xs)
  filtered test none = none
  filtered test (also {x = x} is all) = filtered_by (test x) x is (filtered test all)

  pub given_by : (b : Bool) {x y : Option A} → Given Is x → Given Is y → Given Is (cond b x y)
  given_by true h l = h
  given_by false h l = l

  pub or_given : {x y : Option A} → Given Is x → Given Is y → Given Is (or_else x y)
  or_given nothing l = l
  or_given (just is) l = just is

  pub or_default : {x : Option A} {a : A} → Given Is x → Is a → Is (unwrap_or x a)
  or_default nothing is = is
  or_default (just here) is = here

pub mapped : {A B : Type 0} {P : A → Type 0} {Q : B → Type 0} (f : A → B) → ((a : A) → P a → Q (f a)) → {x : Option A} → Given P x → Given Q (option_map f x)
mapped f h nothing = nothing
mapped f h (just is) = just (h _ is)

pub chained : {A B : Type 0} {P : A → Type 0} {Q : B → Type 0} {f : A → Option B} → ((a : A) → P a → Given Q (f a)) → {x : Option A} → Given P x → Given Q (option_and_then f x)
chained h nothing = nothing
chained h (just is) = h _ is

-- ---- properties

abbrev pub KnownProperties : Properties → Type 0
KnownProperties ps = Each IsKnownEntry ps

entry : {key : Key} {p : Property} → IsKnownProperty p → IsKnownEntry (key, p)
entry is = record { property = is }

found : (key : Key) {ps : Properties} → KnownProperties ps → Given IsKnownProperty (lookup key ps)
found key none = nothing
found key (also {x = e} is all) = given_by (is_same_text e.0 key) (just is.property) (found key all)

put_by : (b : Bool) {e : Key × Property} {p : Property} {ps qs : Properties} → IsKnownEntry e → IsKnownProperty p → KnownProperties ps → KnownProperties qs
    → KnownProperties (cond b ((e.0, p) ∷ ps) (e ∷ qs))
put_by true is new all rest = also (entry new) all
put_by false is new all rest = also is rest

put_there : (key : Key) {p : Property} {ps : Properties} → IsKnownProperty p → KnownProperties ps → KnownProperties (put_at key p ps)
put_there key new none = also (entry new) none
put_there key new (also {x = e} is all) = put_by (is_same_text e.0 key) is new all (put_there key new all)

without_by : (b : Bool) {e : Key × Property} {ps qs : Properties} → IsKnownEntry e → KnownProperties ps → KnownProperties qs → KnownProperties (cond b ps (e ∷ qs))
without_by true is all rest = all
without_by false is all rest = also is rest

left_out : (key : Key) {ps : Properties} → KnownProperties ps → KnownProperties (without key ps)
left_out key none = none
left_out key (also {x = e} is all) = without_by (is_same_text e.0 key) is all (left_out key all)

-- ---- objects and cells

pub own : (key : Key) {o : ObjectState} → IsKnownState o → Given IsKnownProperty (own_property key o)
own key is = found key is.properties

pub there : {h : Heap} → IsKnownHeap h → (o : ObjNo) → Given IsKnownState (object_at h o)
there known o = got_each known.objects o

pub in_cell : {h : Heap} → IsKnownHeap h → (c : CellNo) → IsKnown (unwrap_or (cell h c) undefined)
in_cell known c = or_default (got_each known.cells c) (is_primitive primitive.Undefined)

pub object_set : {h : Heap} → IsKnownHeap h → (o : ObjNo) {state : ObjectState} → IsKnownState state → IsKnownHeap (set_object o state h)
object_set known o is = record { objects = set_each known.objects o is; cells = known.cells }

pub cell_set : {h : Heap} → IsKnownHeap h → (c : CellNo) {v : Value} → IsKnown v → IsKnownHeap (set_cell c v h)
cell_set known c is = record { objects = known.objects; cells = set_each known.cells c is }

pub object_added : {h : Heap} → IsKnownHeap h → {state : ObjectState} → IsKnownState state → IsKnownHeap (add_object state h)
object_added known is = record { objects = joined known.objects (also is none); cells = known.cells }

pub plain_entry : (key : Key) {v : Value} (w e c : Bool) → IsKnown v → IsKnownEntry (key, data_property v w e c)
plain_entry key w e c is = entry (of_data _ is)

first : (class : Class) (prototype : Option ObjNo) (depth : ℕ) → IsKnownState (new_state class prototype depth)
first Plain prototype depth = record { properties = none }
first Array prototype depth = record { properties = also (plain_entry length_key true false false (is_primitive _)) none }
first (Function f names strict) prototype depth = record { properties = none }
first (Builtin n) prototype depth = record { properties = none }

pub data AnyNo : ℕ → Type 0 where
  number_of : (n : ℕ) → AnyNo n

-- ---- 8.12.2 and 8.12.3

record Found (f : ObjNo × Property) : Type 0 where
  pub property : IsKnownProperty f.1

along : (n : ℕ) {h : Heap} → IsKnownHeap h → (key : Key) (o : Option ObjNo) → Given Found (property_along n h key o)
along zero known key o = nothing
along (suc n) known key None = nothing
along (suc n) known key (Some o) = chained (λ state is. or_given (mapped (λ p. (o, p)) (λ p is. record { property = is }) (own key is)) (along n known key state.prototype)) (there known o)

got_property : {h : Heap} → IsKnownHeap h → (key : Key) (o : Option ObjNo) → Given Found (get_property h key o)
unfolding get_property
got_property {h = h} known key o = along (depth_at h o) known key o

pub data IsGot : Got → Type 0 where
  is_value : {v : Value} → IsKnown v → IsGot (GotValue v)
  is_getter : (f : ObjNo) → IsGot (CallGetter f)

got_getter : (f : Option ObjNo) → IsGot (M.getter f)
got_getter None = is_value (is_primitive primitive.Undefined)
got_getter (Some f) = is_getter f

got_of : (o : ObjNo) {p : Property} → IsKnownProperty p → IsGot (M.got (Some (o, p)))
got_of o (of_data p is) = is_value is
got_of o (of_accessor p) = got_getter p.get

got_from : {f : Option (ObjNo × Property)} → Given Found f → IsGot (M.got f)
got_from nothing = is_value (is_primitive primitive.Undefined)
got_from (just {a = f} is) = got_of f.0 is.property

pub got : {h : Heap} → IsKnownHeap h → (o : ObjNo) (key : Key) → IsGot (M.get h o key)
unfolding M.get
got known o key = got_from (got_property known key (Some o))

-- ---- 8.12.5

pub record IsKnownChange (d : Descriptor) : Type 0 where
  pub value : Given IsKnown d.value

pub data IsPutting : Putting → Type 0 where
  is_refused : IsPutting Refuse
  is_definition : {d : Descriptor} → IsKnownChange d → IsPutting (Define d)
  is_setter : (f : ObjNo) → IsPutting (CallSetter f)

pub of_value : {v : Value} → IsKnown v → IsKnownChange (value_field v)
of_value is = record { value = just is }

pub of_fields : {v : Value} (w e c : Bool) → IsKnown v → IsKnownChange (data_fields v w e c)
of_fields w e c is = record { value = just is }

set_by : (f : Option ObjNo) → IsPutting (M.setter f)
set_by None = is_refused
set_by (Some f) = is_setter f

put_found : {v : Value} → IsKnown v → (f : Option (ObjNo × Property)) → IsPutting (M.put_found v f)
put_found is None = is_definition (of_fields true true true is)
put_found is (Some (holder, Data p)) = is_definition (of_fields true true true is)
put_found is (Some (holder, Accessor p)) = set_by p.set

put_own : (h : Heap) (o : ObjNo) (key : Key) {v : Value} → IsKnown v → (p : Option Property) → IsPutting (M.put_by h o key v p)
put_own h o key is None = put_found is (get_property h key (Some o))
put_own h o key is (Some (Data p)) = is_definition (of_value is)
put_own h o key is (Some (Accessor p)) = put_found is (get_property h key (Some o))

putting_by : (b : Bool) {p : Putting} → IsPutting p → IsPutting (cond b p Refuse)
putting_by true is = is
putting_by false is = is_refused

pub put : (h : Heap) (o : ObjNo) (key : Key) {v : Value} → IsKnown v → IsPutting (M.put h o key v)
unfolding M.put
put h o key is = putting_by (M.can_put h o key) (put_own h o key is (option_and_then (own_property key) (object_at h o)))

-- ---- 8.12.7

deleted_by : (b : Bool) {o : ObjectState} → IsKnownState o → Given IsKnownState (cond b (Some o) None)
deleted_by true is = just is
deleted_by false is = nothing

deleted_own : (key : Key) {o : ObjectState} → IsKnownState o → (p : Option Property) → Given IsKnownState (M.delete_by key o p)
deleted_own key is None = just is
deleted_own key is (Some p) = deleted_by (is_configurable p) (record { properties = left_out key is.properties })

pub deleted : (key : Key) {o : ObjectState} → IsKnownState o → Given IsKnownState (M.delete key o)
unfolding M.delete
deleted key {o = o} is = deleted_own key is (own_property key o)

-- ---- 8.12.9

pub data IsDefining : Defining → Type 0 where
  is_defined : {o : ObjectState} → IsKnownState o → IsDefining (Defined o)
  is_rejected : {o : ObjectState} → IsKnownState o → IsDefining (Rejected o)
  is_bad_length : IsDefining BadLength
  is_question : {v w : Value} {rest : Bool → Defining} → IsKnown v → IsKnown w → ((same : Bool) → IsDefining (rest same)) → IsDefining (IfSame v w rest)

either : (b : Bool) {d e : Defining} → IsDefining d → IsDefining e → IsDefining (cond b d e)
either true h l = h
either false h l = l

property_by : (b : Bool) {p q : Property} → IsKnownProperty p → IsKnownProperty q → IsKnownProperty (cond b p q)
property_by true h l = h
property_by false h l = l

made : {d : Descriptor} → IsKnownChange d → IsKnownProperty (M.made d)
made {d = d} is = property_by (is_accessor d) (of_accessor _) (of_data _ (or_default is.value (is_primitive primitive.Undefined)))

changed : {p : Property} {d : Descriptor} → IsKnownProperty p → IsKnownChange d → IsKnownProperty (M.changed p d)
changed {d = d} (of_data p was) is = property_by (is_accessor d) (of_accessor _) (of_data _ (or_default is.value was))
changed {d = d} (of_accessor p) is = property_by (is_data d) (of_data _ (or_default is.value (is_primitive primitive.Undefined))) (of_accessor _)

with_property : (key : Key) {p : Property} {o : ObjectState} → IsKnownProperty p → IsKnownState o → IsKnownState (M.with_property key p o)
with_property key p is = record { properties = put_there key p is.properties }

if_same_value : {v : Option Value} {old : Value} {d e : Defining} → Given IsKnown v → IsKnown old → IsDefining d → IsDefining e → IsDefining (M.if_same_value v old d e)
if_same_value nothing old h l = h
if_same_value (just is) old h l = is_question is old (λ same. either same h l)

if_allowed : {p : Property} {d : Descriptor} {done rejected : Defining} → IsKnownProperty p → IsKnownChange d → IsDefining done → IsDefining rejected → IsDefining (M.if_allowed p d done rejected)
if_allowed {d = d} (of_data p was) is h l = either (is_generic d) h (either (is_accessor d) (either p.configurable h l)
    (either (p.configurable || p.writable) h (either (unwrap_or d.writable false) l (if_same_value is.value was h l))))
if_allowed {d = d} (of_accessor p) is h l = either (is_generic d) h (either (is_data d) (either p.configurable h l)
    (either (p.configurable || M.is_same_function (unwrap_or d.set p.set) p.set && M.is_same_function (unwrap_or d.get p.get) p.get) h l))

defined_own : (key : Key) {d : Descriptor} {o : ObjectState} → IsKnownChange d → IsKnownState o → {p : Option Property} → Given IsKnownProperty p → IsDefining (M.define_by key d o p)
defined_own key {o = o} is state nothing = either o.extensible (is_defined (with_property key (made is) state)) (is_rejected state)
defined_own key {d = d} is state (just {a = p} was) = either (M.is_barred p d) (is_rejected state) (if_allowed was is (is_defined (with_property key (changed was is) state)) (is_rejected state))

plainly : (key : Key) {d : Descriptor} {o : ObjectState} → IsKnownChange d → IsKnownState o → IsDefining (M.define_plain key d o)
unfolding M.define_plain
plainly key is state = defined_own key is state (own key state)

-- ---- 15.4.5.1

then_if : {d : Defining} {done rejected : ObjectState → Defining} → IsDefining d → ((o : ObjectState) → IsKnownState o → IsDefining (done o)) → ((o : ObjectState) → IsKnownState o → IsDefining (rejected o))
    → IsDefining (M.then_if d done rejected)
then_if (is_defined is) h l = h _ is
then_if (is_rejected is) h l = l _ is
then_if is_bad_length h l = is_bad_length
then_if (is_question v w rest) h l = is_question v w (λ same. then_if (rest same) h l)

defining_at : (n : Option ℕ) {f : ℕ → Defining} {d : Defining} → ((n : ℕ) → IsDefining (f n)) → IsDefining d → IsDefining (unwrap_or (option_map f n) d)
defining_at None h l = l
defining_at (Some n) h l = h n

element : (key : Key) {d : Descriptor} {o : ObjectState} → IsKnownChange d → IsKnownState o → (length : DataProperty) (old index : ℕ) → IsDefining (M.define_element key d o length old index)
element key is state length old index = either (nat_lt index old) (plainly key is state) (either (not length.writable) (is_rejected state)
    (then_if (plainly key is state) (λ o state. plainly length_key (of_value (is_primitive _)) state) (λ o state. is_rejected state)))

cut : (n : ℕ) {o : ObjectState} → IsKnownState o → IsKnownState (M.cut_at n o)
cut n is = record { properties = filtered (M.is_below n) is.properties }

shortened : (wanted : ℕ) (d : Descriptor) (o : ObjectState) → IsKnownState o → IsDefining (M.shorten wanted d o)
shortened wanted d o state = then_if (plainly length_key (record { value = just (is_primitive _) }) (cut (M.stop_at wanted o.properties) state))
    (λ after state. either (nat_eq (M.stop_at wanted o.properties) wanted) (is_defined state) (is_rejected state)) (λ after state. is_rejected state)

length_by : {d : Descriptor} {o : ObjectState} → IsKnownChange d → IsKnownState o → (length : DataProperty) (old : ℕ) (wanted : Option ℕ) → IsDefining (M.set_length_by d o length old wanted)
length_by is state length old None = is_bad_length
length_by {d = d} is state length old (Some wanted) = either (nat_le old wanted) (plainly length_key is state) (either (not length.writable) (is_rejected state)
    (then_if (plainly length_key (record { value = is.value }) state) (shortened wanted d) (λ o state. is_rejected state)))

length_set : {d : Descriptor} {o : ObjectState} → IsKnownChange d → IsKnownState o → (length : DataProperty) (old : ℕ) (v : Option Value) → IsDefining (M.set_length d o length old v)
length_set is state length old None = plainly length_key is state
length_set is state length old (Some v) = length_by is state length old (M.length_of v)

in_array : (key : Key) {d : Descriptor} {o : ObjectState} → IsKnownChange d → IsKnownState o → (length : DataProperty) (old : ℕ) → IsDefining (M.define_in_array key d o length old)
in_array key {d = d} is state length old =
    either (is_same_text key length_key) (length_set is state length old d.value) (defining_at (array_index key) (element key is state length old) (plainly key is state))

array_by : (key : Key) {d : Descriptor} {o : ObjectState} → IsKnownChange d → IsKnownState o → (p : Option Property) → IsDefining (M.define_array_by key d o p)
array_by key is state None = plainly key is state
array_by key is state (Some (Accessor p)) = plainly key is state
array_by key is state (Some (Data length)) = defining_at (M.length_of length.value) (in_array key is state length) (plainly key is state)

array : (key : Key) {d : Descriptor} {o : ObjectState} → IsKnownChange d → IsKnownState o → IsDefining (M.define_array key d o)
unfolding M.define_array
array key {o = o} is state = array_by key is state (own_property length_key o)

pub define : (key : Key) {d : Descriptor} {o : ObjectState} → IsKnownChange d → IsKnownState o → IsDefining (M.define key d o)
unfolding M.define
define key {o = o} is state = either (is_array_class o.class) (array key is state) (plainly key is state)

-- ---- objects and cells that are made

pub object_made : (class : Class) (prototype : Option ObjNo) (h : Heap) → IsKnownHeap h → Made AnyNo (make_object class prototype h)
object_made class prototype h known = record { value = number_of _; heap = object_added known (first class prototype (depth_at h prototype)) }

pub cell_made : {v : Value} → IsKnown v → (h : Heap) → IsKnownHeap h → Made AnyNo (make_cell v h)
cell_made is h known = record { value = number_of _; heap = record { objects = known.objects; cells = joined known.cells (also is none) } }
