-- Conversions, operators and the internal methods of objects are sound, where the calls of values are.
use Rattle.std.proofs.Common.{◌≡◌, refl, sym, subst, arith, ◌<◌, ℕ, Bool, true, false, List}
use Rattle.std.specs.Prelude.{◌&&◌, if◌then◌else◌, length, not, slice_get, Option, Some, None, Result, Ok, Err, unwrap_or}
use Rattle.std.specs.Option.{option_and_then}
use Rattle.js_value.specs.Conversions.{is_same_text, to_boolean}
use Rattle.js_value.specs.Operators.{add}
use Rattle.js_value.specs.declared.operator.BinaryOp.{BinaryOp}
use Rattle.js_value.specs.declared.operator.BinaryOp.TheVariants as binary
use Rattle.js_value.specs.declared.operator.UnaryOp.{UnaryOp}
use Rattle.js_value.specs.declared.operator.UnaryOp.TheVariants as unary
use Rattle.js_value.specs.declared.place.Place.{Place}
use Rattle.js_value.specs.declared.primitive.Primitive.{Primitive}
use Rattle.js_value.specs.declared.primitive.Primitive.TheVariants as primitive
use Rattle.js_value.specs.declared.why.Why.{Why}
use Rattle.js_value.specs.declared.why.Why.TheVariants.{AbsentBuiltin, ObjectToPrimitive, PrimitiveProperty, PrimitiveThis}
use Rattle.plain_heap.specs.Values.{Value, Prim, Object, Absent, Symbolic, Symbol, Unary, Operand, Known, Unknown, ObjNo, CellNo, undefined, truth}
use Rattle.plain_heap.specs.Heap.{Key, Heap, Class, Property, ObjectState, is_function, cell, object_at, set_object, resolve}
use Rattle.plain_heap.specs.Methods.{Descriptor, data_fields, value_field, checked_key, Got, GotValue, CallGetter, Putting, Refuse, Define, CallSetter, Defining, Defined, Rejected, BadLength, IfSame, length_key, array_index, own_property}
use Rattle.plain_heap.specs.Methods as methods
use Rattle.plain_heap.specs.Valid.{is_value, is_valid}
use Rattle.plain_heap.specs.Valid as valid_heap
use Rattle.plain_heap.proofs.Defining.{Ends, found_right}
use Rattle.plain_heap.proofs.Giving.{gives_values}
use Rattle.plain_heap.proofs.Changing.{right_at}
use Rattle.plain_heap.proofs.Making.{right_parts}
use Rattle.plain_heap.proofs.Puts.{for_put}
use Rattle.js_machine.specs.Machine.Realm.{realm}
use Rattle.js_machine.specs.Machine.RealmObjects.{ErrorKind, TypeError, RangeError, ReferenceError, error_prototype, global, object_prototype, array_prototype}
use Rattle.js_machine.specs.Machine.References as names
use Rattle.js_machine.specs.Machine.References.{Context, Reference, Binding, InCell, OnGlobal, Nowhere, NameReference, PropertyReference}
use Rattle.js_machine.specs.Machine.Objects as objects
use Rattle.js_machine.specs.Machine.Objects.{Site}
use Rattle.js_machine.specs.Machine.Operators as operators
use Rattle.js_machine.specs.Machine.Operators.{Sameness, Told, Asked}
use Rattle.js_machine.specs.Machine.Events.{Run, StopKind, Leaves, Lacks, or_stop, or_leave, Base}
use Rattle.valid_runs.specs.Kept.{Keeps, IsObject, IsValue, is_primitive, is_object, is_symbol}
use Rattle.valid_runs.proofs.Growing.{none, also, Given, nothing, just, Values, later, later_object, value_is, is_there, from_cell, IsProperty, IsChange}
use Rattle.valid_runs.proofs.Sound.{At, Steady, Any, bind, bind_any, first, first_any, then_steady_any, moves, on_realm, gives_same, gives_same_any, gives_any, throws, left_same, left_at, changes, makes, looks, looks_any, asked, chooses, chooses_same, tests_same}
use Rattle.valid_runs.proofs.Heaps.{IsMade, makes_plain, makes_array, object_made_with, defined, deleted, cell_set, IsFit}

abbrev pub site_of : Place → (Value → Value → List Value → Run Value) → Site
site_of at call = record { at = at; call = call }

pub is_undefined : {s : Heap} → IsValue s undefined
is_undefined = is_primitive primitive.Undefined

pub is_truth : {s : Heap} (b : Bool) → IsValue s (truth b)
is_truth b = is_primitive (primitive.Boolean b)

-- ---- objects of the realm

pub record RealmCount : Type 0 where
  pub is : length realm.objects ≡ 41

realm_count : RealmCount
unfolding realm
realm_count = record { is = refl }

pub realm_there : {s : Heap} → Keeps realm s → (o : ℕ) → o < 41 → IsObject s o
realm_there fit o is = later_object fit (record { below = let count = realm_count.is in omega (arith, count, is) })

-- ---- objects that rules make

pub make_with_too : {s : Heap} {class : Class} → IsMade class → {prototype : ObjNo} → IsObject s prototype → At s IsObject (objects.make_with class prototype)
make_with_too {s = s} made is = makes (λ fit. object_made_with s made fit.valid is)

pub make_plain_too : {s : Heap} → At s IsObject objects.make_plain
make_plain_too = on_realm (λ fit. make_with_too makes_plain (realm_there fit object_prototype (omega arith)))

pub make_array_too : {s : Heap} → At s IsObject objects.make_array
make_array_too = on_realm (λ fit. make_with_too makes_array (realm_there fit array_prototype (omega arith)))

pub error_there : {s : Heap} → Keeps realm s → (kind : ErrorKind) → IsObject s (error_prototype kind)
error_there fit TypeError = realm_there fit 9 (omega arith)
error_there fit RangeError = realm_there fit 11 (omega arith)
error_there fit ReferenceError = realm_there fit 13 (omega arith)

pub throw_error_too : {A : Type 0} {s : Heap} {Is : Heap → A → Type 0} (kind : ErrorKind) → At s Is (objects.throw_error kind)
throw_error_too kind = on_realm (λ fit. bind (make_with_too makes_plain (error_there fit kind)) (λ t up o there. throws (is_object there)))

-- what always throws gives nothing on any heap
pub throw_same : {A : Type 0} {s : Heap} {Is : A → Type 0} (kind : ErrorKind) → Steady s Is (objects.throw_error kind)
throw_same {s = s} {Is = Is} kind = record { at = λ start fit k d kept caught. (throw_error_too {Is = λ h a. ⊥} kind).at start fit k d (record { at = λ a t up is. absurd is }) caught }

reject_too : {s : Heap} (throws : Bool) → At s Any (objects.reject throws)
reject_too throws = chooses throws (throw_error_too TypeError) (gives_any tt)

-- ---- results that are values, or reasons to leave

pub data Passed {A W : Type 0} (Is : A → Type 0) : Result A W → Type 0 where
  passes : {a : A} → Is a → Passed Is (Ok a)
  fails_so : (why : W) → Passed Is (Err why)

pub or_leaves : {A : Type 0} {s : Heap} {Is : A → Type 0} (at : Place) {r : Result A Why} → Passed Is r → Steady s Is (or_leave at r)
or_leaves at (passes is) = gives_same is
or_leaves at (fails_so why) = left_same (Leaves why) at

pub or_leaves_any : {A : Type 0} {s : Heap} (at : Place) (r : Result A Why) → Steady s (Any s) (or_leave at r)
or_leaves_any at (Ok a) = gives_same_any a
or_leaves_any at (Err why) = left_same (Leaves why) at

or_stops_any : {A : Type 0} {s : Heap} (at : Place) (r : Result A StopKind) → Steady s (Any s) (or_stop at r)
or_stops_any at (Ok a) = gives_same_any a
or_stops_any at (Err why) = left_same why at

of_row : {s : Heap} (r : Result Primitive Why) → Passed (IsValue s) (operators.result_map Prim r)
of_row (Ok p) = passes (is_primitive p)
of_row (Err why) = fails_so why

of_truth : {s : Heap} (f : Bool → Bool) (r : Result Bool Why) → Passed (IsValue s) (operators.result_map (λ b. truth (f b)) r)
of_truth f (Ok b) = passes (is_truth (f b))
of_truth f (Err why) = fails_so why

value_by : {s : Heap} (b : Bool) {v w : Value} → IsValue s v → IsValue s w → IsValue s (if b then v else w)
value_by true is other = is
value_by false is other = other

on_symbols_too : {s : Heap} (op : BinaryOp) (a b : Operand) → IsValue s (operators.on_symbols op a b)
on_symbols_too binary.Same a b = value_by (operators.is_same_type (operators.operand_type a) (operators.operand_type b)) (is_symbol _) (is_truth false)
on_symbols_too binary.NotSame a b = value_by (operators.is_same_type (operators.operand_type a) (operators.operand_type b)) (is_symbol _) (is_truth true)
on_symbols_too op a b = is_symbol _

on_objects_too : {s : Heap} (op : BinaryOp) (a b : Value) → Passed (IsValue s) (operators.on_objects op a b)
on_objects_too binary.Same a b = passes (is_truth _)
on_objects_too binary.NotSame a b = passes (is_truth _)
on_objects_too binary.Equal a b = of_truth (λ b. b) (operators.object_equals a b)
on_objects_too binary.NotEqual a b = of_truth not (operators.object_equals a b)
on_objects_too op a b = fails_so (operators.to_primitive_fails op a)

operated_too : {s : Heap} (op : BinaryOp) (row : Primitive → Primitive → Result Primitive Why) (a b : Value) → Passed (IsValue s) (operators.operated op row a b)
operated_too op row Absent b = fails_so AbsentBuiltin
operated_too op row (Prim p) Absent = fails_so AbsentBuiltin
operated_too op row (Object o) Absent = fails_so AbsentBuiltin
operated_too op row (Symbolic s) Absent = fails_so AbsentBuiltin
operated_too op row (Prim p) (Prim q) = of_row (row p q)
operated_too op row (Prim p) (Symbolic t) = passes (on_symbols_too op (Known p) (Unknown t))
operated_too op row (Symbolic s) (Prim q) = passes (on_symbols_too op (Unknown s) (Known q))
operated_too op row (Symbolic s) (Symbolic t) = passes (on_symbols_too op (Unknown s) (Unknown t))
operated_too op row (Prim p) (Object o) = on_objects_too op (Prim p) (Object o)
operated_too op row (Object o) (Prim p) = on_objects_too op (Object o) (Prim p)
operated_too op row (Object o) (Object q) = on_objects_too op (Object o) (Object q)
operated_too op row (Symbolic s) (Object o) = on_objects_too op (Symbolic s) (Object o)
operated_too op row (Object o) (Symbolic s) = on_objects_too op (Object o) (Symbolic s)

on_object_too : {s : Heap} (op : UnaryOp) (is_callable : Bool) → Passed (IsValue s) (operators.unary_on_object op is_callable)
on_object_too unary.TypeOf is_callable = passes (is_primitive _)
on_object_too unary.Void is_callable = passes is_undefined
on_object_too unary.Not is_callable = passes (is_truth false)
on_object_too op is_callable = fails_so ObjectToPrimitive

on_symbol_too : {h : Heap} (op : UnaryOp) (s : Symbol) → IsValue h (operators.unary_on_symbol op s)
on_symbol_too unary.TypeOf s = is_primitive _
on_symbol_too unary.Void s = is_undefined
on_symbol_too unary.Plus s = value_by (operators.is_number_type (operators.symbol_type s)) (is_symbol _) (is_symbol _)
on_symbol_too op s = is_symbol _

operated_one_too : {s : Heap} (is_callable : ObjNo → Bool) (op : UnaryOp) (row : Primitive → Result Primitive Why) (a : Value) → Passed (IsValue s) (operators.operated_one is_callable op row a)
operated_one_too is_callable op row (Prim p) = of_row (row p)
operated_one_too is_callable op row (Object o) = on_object_too op (is_callable o)
operated_one_too is_callable op row Absent = fails_so AbsentBuiltin
operated_one_too is_callable op row (Symbolic s) = passes (on_symbol_too op s)

string_too : {s : Heap} (v : Value) → Passed (IsValue s) (operators.string_of v)
string_too (Prim p) = passes (is_primitive _)
string_too (Object o) = fails_so ObjectToPrimitive
string_too Absent = fails_so AbsentBuiltin
string_too (Symbolic s) = passes (is_symbol _)

module _ {s : Heap} (at : Place) where
  -- ---- conversions and operators

  symbol_test_too : (sym : Symbol) → Steady s (Any s) (operators.test_symbol at sym)
  unfolding operators.test_symbol
  symbol_test_too (Unary unary.Not t) = then_steady_any (symbol_test_too t) (λ b. gives_same_any (not b))
  symbol_test_too t = asked at t

  pub test_too : (v : Value) → Steady s (Any s) (operators.test at v)
  unfolding operators.test
  test_too (Prim p) = gives_same_any (to_boolean p)
  test_too (Object o) = gives_same_any true
  test_too Absent = left_same (Leaves AbsentBuiltin) at
  test_too (Symbolic t) = symbol_test_too t

  pub to_string_too : (v : Value) → Steady s (IsValue s) (operators.to_string at v)
  unfolding operators.to_string
  to_string_too v = or_leaves at (string_too v)

  pub to_key_too : (v : Value) → Steady s (Any s) (operators.to_key at v)
  unfolding operators.to_key
  to_key_too v = or_stops_any at (operators.key_of v)

  pub to_length_too : (v : Value) → Steady s (Any s) (operators.to_length at v)
  unfolding operators.to_length
  to_length_too v = or_stops_any at _

  pub to_list_length_too : (v : Value) → Steady s (Any s) (operators.to_list_length at v)
  unfolding operators.to_list_length
  to_list_length_too v = or_stops_any at _

  pub to_position_too : (v : Value) → Steady s (Any s) (operators.to_position at v)
  unfolding operators.to_position
  to_position_too v = or_stops_any at _

  pub operate_too : (op : BinaryOp) (row : Primitive → Primitive → Result Primitive Why) (a b : Value) → Steady s (IsValue s) (operators.operate at op row a b)
  unfolding operators.operate
  operate_too op row a b = or_leaves at (operated_too op row a b)

  pub plus_too : (a b : Value) → Steady s (IsValue s) (operators.plus at a b)
  unfolding operators.plus
  plus_too a b = operate_too binary.Add add a b

  pub operate_one_too : (op : UnaryOp) (row : Primitive → Result Primitive Why) (v : Value) → Steady s (IsValue s) (operators.operate_one at op row v)
  unfolding operators.operate_one
  operate_one_too op row v = then_steady_any (looks_any is_function) (λ is_callable. or_leaves at (operated_one_too is_callable op row v))

  ask_too : (same : Sameness) → Steady s (Any s) (operators.ask_unless_told at same)
  ask_too (Told b) = gives_same_any b
  ask_too (Asked t) = asked at t

  pub same_value_too : (a b : Value) → Steady s (Any s) (operators.same_value at a b)
  unfolding operators.same_value
  same_value_too a b = then_steady_any (or_leaves_any at (operators.sameness a b)) ask_too

  -- ---- values as bases of properties

  base_too : (p : Primitive) → Steady s (Any s) (objects.check_base at (Prim p))
  base_too primitive.Undefined = throw_same TypeError
  base_too primitive.Null = throw_same TypeError
  base_too p = gives_same_any tt

  pub check_base_too : (v : Value) → Steady s (Any s) (objects.check_base at v)
  check_base_too (Prim p) = base_too p
  check_base_too (Object o) = gives_same_any tt
  check_base_too Absent = left_same (Leaves AbsentBuiltin) at
  check_base_too (Symbolic t) = left_same (Lacks Base) at

  unit_of_too : (t : List ℕ) (unit : Option ℕ) → Steady s (IsValue s) (objects.unit_of at t unit)
  unit_of_too t None = left_same (Leaves PrimitiveProperty) at
  unit_of_too t (Some unit) = gives_same (is_primitive _)

  get_of_string_too : (t : List ℕ) (key : Key) → Steady s (IsValue s) (objects.get_of_string at t key)
  unfolding objects.get_of_string
  get_of_string_too t key = tests_same (is_same_text key length_key) (gives_same (is_primitive _)) (unit_of_too t (option_and_then (slice_get t) (array_index key)))

  pub to_object_too : {v : Value} → IsValue s v → Steady s (IsObject s) (objects.to_object at v)
  unfolding objects.to_object
  to_object_too (is_object is) = gives_same is
  to_object_too (is_primitive primitive.Undefined) = throw_same TypeError
  to_object_too (is_primitive primitive.Null) = throw_same TypeError
  to_object_too (is_primitive p) = left_same (Leaves PrimitiveThis) at
  to_object_too (is_symbol t) = left_same (Leaves PrimitiveThis) at

  pub present_too : (v : Value) → is_value s v ≡ true → Steady s (IsValue s) (objects.present at v)
  present_too (Prim p) is = gives_same (is_primitive p)
  present_too (Object o) is = gives_same (is_object (is_there is))
  present_too Absent is = left_same (Leaves AbsentBuiltin) at
  present_too (Symbolic t) is = gives_same (is_symbol t)

  with_length_too : {d : Descriptor} → IsChange s d → (v : Option Value) → Steady s (IsChange s) (objects.with_length at d v)
  with_length_too is None = gives_same is
  with_length_too is (Some v) = then_steady_any (to_length_too v) (λ n. gives_same (record { value = refl; get = is.get; set = is.set }))

  with_number_too : (state : Option ObjectState) (key : Key) {d : Descriptor} → IsChange s d → Steady s (IsChange s) (objects.with_number at state key d)
  with_number_too state key {d = d} is = chooses_same (objects.is_array_state state && is_same_text key length_key) (with_length_too is d.value) (gives_same is)

-- calls of values with their `this` and their arguments, on any heap
pub record Calls (call : Value → Value → List Value → Run Value) : Type 0 where
  pub at : {s : Heap} (f : Value) {this : Value} {arguments : List Value} → IsValue s this → Values s arguments → At s IsValue (call f this arguments)

-- what a name or a property stands for
pub data IsReference (s : Heap) : Reference → Type 0 where
  is_name : (name : List ℕ) (b : Binding) (strict : Bool) → IsReference s (NameReference name b strict)
  is_property : {base : Value} → IsValue s base → (key : Key) (strict : Bool) → IsReference s (PropertyReference base key strict)

pub later_reference : {s t : Heap} → Keeps s t → {r : Reference} → IsReference s r → IsReference t r
later_reference up (is_name name b strict) = is_name name b strict
later_reference up (is_property is key strict) = is_property (later up is) key strict

-- ---- what a valid heap gives

data IsGot (s : Heap) : Got → Type 0 where
  is_got : {v : Value} → is_value s v ≡ true → IsGot s (GotValue v)
  is_getter : (f : ObjNo) → IsGot s (CallGetter f)

got_there : {s : Heap} → is_valid s ≡ true → (o : ObjNo) (key : Key) → IsGot s (methods.get s o key)
got_there {s = s} valid o key = by_got (methods.get s o key) refl
  where
    by_got : (g : Got) → methods.get s o key ≡ g → IsGot s g
    by_got (GotValue v) e = is_got (gives_values.gets s o key v valid e)
    by_got (CallGetter f) e = is_getter f

data IsPutting (s : Heap) : Putting → Type 0 where
  is_refused : IsPutting s Refuse
  is_definition : {d : Descriptor} → IsChange s d → IsPutting s (Define d)
  is_setter : (f : ObjNo) → IsPutting s (CallSetter f)

pub of_value : {s : Heap} {v : Value} → IsValue s v → IsChange s (value_field v)
of_value is = record { value = value_is is; get = refl; set = refl }

pub of_fields : {s : Heap} {v : Value} (w e c : Bool) → IsValue s v → IsChange s (data_fields v w e c)
of_fields w e c is = record { value = value_is is; get = refl; set = refl }

putting_there : {s : Heap} (o : ObjNo) (key : Key) {v : Value} → IsValue s v → IsPutting s (methods.put s o key v)
putting_there {s = s} o key {v = v} is = by_putting (methods.put s o key v) refl
  where
    by_putting : (p : Putting) → methods.put s o key v ≡ p → IsPutting s p
    by_putting Refuse e = is_refused
    by_putting (CallSetter f) e = is_setter f
    by_putting (Define d) e = let change = for_put s o key v d e in is_definition (subst (IsChange s) (sym change.is) (record { value = value_is is; get = refl; set = refl }))

-- the object at a place, if there is one
data IsFound (s : Heap) (o : ObjNo) : Option ObjectState → Type 0 where
  is_missing : IsFound s o None
  is_found : {state : ObjectState} → object_at s o ≡ Some state → IsFound s o (Some state)

found_at : {s : Heap} (o : ObjNo) → IsFound s o (object_at s o)
found_at {s = s} o = by_state (object_at s o) refl
  where
    by_state : (found : Option ObjectState) → object_at s o ≡ found → IsFound s o found
    by_state None e = is_missing
    by_state (Some state) e = is_found e

own_there : {s : Heap} → is_valid s ≡ true → (o : ObjNo) (key : Key) → Given (IsProperty s) (option_and_then (own_property key) (object_at s o))
own_there {s = s} valid o key = by_state (object_at s o) refl
  where
    by_own : (state : ObjectState) (p : Option Property) → object_at s o ≡ Some state → own_property key state ≡ p → Given (IsProperty s) p
    by_own state None at e = nothing
    by_own state (Some p) at e = just (record { is = found_right (λ (q : Key × Property). valid_heap.is_property s q.1) (λ k m p. refl) key p state.properties (right_parts s state (right_at s o state valid at)).properties e })

    by_state : (found : Option ObjectState) → object_at s o ≡ found → Given (IsProperty s) (option_and_then (own_property key) found)
    by_state None e = nothing
    by_state (Some state) e = by_own state (own_property key state) e refl

-- the heap is kept with what is left of an object
data IsLeft (s : Heap) (o : ObjNo) : Option ObjectState → Type 0 where
  is_barred : IsLeft s o None
  is_left : {state : ObjectState} → Keeps s (set_object o state s) → IsLeft s o (Some state)

deleted_there : {s : Heap} → is_valid s ≡ true → (o : ObjNo) (key : Key) → IsLeft s o (option_and_then (methods.delete key) (object_at s o))
deleted_there {s = s} valid o key = by_state (object_at s o) refl
  where
    by_after : (state : ObjectState) (after : Option ObjectState) → object_at s o ≡ Some state → methods.delete key state ≡ after → IsLeft s o after
    by_after state None at e = is_barred
    by_after state (Some after) at e = is_left (deleted s o key state after valid at e)

    by_state : (found : Option ObjectState) → object_at s o ≡ found → IsLeft s o (option_and_then (methods.delete key) found)
    by_state None e = is_barred
    by_state (Some state) e = by_after state (methods.delete key state) e refl

deleted_too : {s : Heap} (o : ObjNo) (throws : Bool) {state : Option ObjectState} → IsLeft s o state → At s Any (objects.deleted o throws state)
deleted_too o throws (is_left keeps) = bind_any (changes (λ fit. keeps)) (λ t up _. gives_any true)
deleted_too o throws is_barred = chooses throws (throw_error_too TypeError) (gives_any false)

module _ {s : Heap} (at : Place) {call : Value → Value → List Value → Run Value} (calls : Calls call) where
  -- ---- internal methods

  got_too : {o : ObjNo} → IsObject s o → {g : Got} → IsGot s g → At s IsValue (objects.got (site_of at call) (Object o) g)
  got_too there (is_got {v = v} is) = moves (present_too at v is)
  got_too there (is_getter f) = calls.at (Object f) (is_object there) none

  pub get_too : {o : ObjNo} → IsObject s o → (name : Key) → At s IsValue (objects.get (site_of at call) o name)
  unfolding objects.get
  get_too {o = o} there name = first_any (or_leaves_any at (checked_key name)) (λ key. first (looks (IsGot s) (λ h. methods.get h o key) (λ fit. got_there fit.valid o key)) (λ g is. got_too there is))

  defining_too : (o : ObjNo) (throws : Bool) (d : Defining) → Ends (IsFit s o) (IsFit s o) d → At s Any (objects.defining (site_of at call) o throws d)
  defining_too o throws (Defined state) is = changes (λ fit. is.keeps)
  defining_too o throws (Rejected state) is = bind_any (changes (λ fit. is.keeps)) (λ t up _. reject_too throws)
  defining_too o throws BadLength is = throw_error_too RangeError
  defining_too o throws (IfSame v w rest) is = first_any (same_value_too at v w) (λ same. defining_too o throws (rest same) (is same))

  define_at_too : (o : ObjNo) (key : Key) {d : Descriptor} → IsChange s d → (throws : Bool) {state : Option ObjectState} → IsFound s o state → At s Any (objects.define_at (site_of at call) o key d throws state)
  define_at_too o key is throws is_missing = gives_any tt
  define_at_too o key {d = d} is throws (is_found {state = state} e) = on_realm (λ fit. defining_too o throws (methods.define key d state) (defined s o key d state fit.valid e is))

  pub define_too : (o : ObjNo) (name : Key) {d : Descriptor} → IsChange s d → (throws : Bool) → At s Any (objects.define (site_of at call) o name d throws)
  unfolding objects.define
  define_too o name is throws = first_any (or_leaves_any at (checked_key name)) (λ key. first (looks (IsFound s o) (λ h. object_at h o) (λ fit. found_at o)) (λ state found.
      first (with_number_too at state key is) (λ d is. define_at_too o key is throws found)))

  pub make_property_too : (o : ObjNo) (key : Key) {v : Value} → IsValue s v → At s Any (objects.make_property (site_of at call) o key v)
  make_property_too o key is = define_too o key (of_fields true true true is) false

  putting_too : {o : ObjNo} → IsObject s o → (key : Key) {v : Value} → IsValue s v → (throws : Bool) {p : Putting} → IsPutting s p → At s Any (objects.putting (site_of at call) o key v throws p)
  putting_too there key v throws is_refused = reject_too throws
  putting_too {o = o} there key v throws (is_definition is) = define_too o key is throws
  putting_too there key v throws (is_setter f) = bind (calls.at (Object f) (is_object there) (also v none)) (λ t up _ _. gives_any tt)

  pub put_too : {o : ObjNo} → IsObject s o → (name : Key) {v : Value} → IsValue s v → (throws : Bool) → At s Any (objects.put (site_of at call) o name v throws)
  unfolding objects.put
  put_too {o = o} there name v throws = first_any (or_leaves_any at (checked_key name)) (λ key. first (looks (IsPutting s) (λ h. methods.put h o key _) (λ fit. putting_there o key v)) (λ p is. putting_too there key v throws is))

  pub get_own_property_too : (o : ObjNo) (name : Key) → Steady s (Given (IsProperty s)) (objects.get_own_property (site_of at call) o name)
  unfolding objects.get_own_property
  get_own_property_too o name = then_steady_any (or_leaves_any at (checked_key name)) (λ key. looks (Given (IsProperty s)) (λ h. option_and_then (own_property key) (object_at h o)) (λ fit. own_there fit.valid o key))

  pub has_property_too : (o : ObjNo) (name : Key) → Steady s (Any s) (objects.has_property (site_of at call) o name)
  unfolding objects.has_property
  has_property_too o name = then_steady_any (or_leaves_any at (checked_key name)) (λ key. looks_any _)

  pub delete_too : (o : ObjNo) (name : Key) (throws : Bool) → At s Any (objects.delete (site_of at call) o name throws)
  unfolding objects.delete
  delete_too o name throws = first_any (or_leaves_any at (checked_key name)) (λ key. first (looks (IsLeft s o) (λ h. option_and_then (methods.delete key) (object_at h o)) (λ fit. deleted_there fit.valid o key)) (λ state is. deleted_too o throws is))

  pub get_of_too : {v : Value} → IsValue s v → (key : Key) → At s IsValue (objects.get_of (site_of at call) v key)
  unfolding objects.get_of
  get_of_too (is_object there) key = get_too there key
  get_of_too (is_primitive (primitive.Text t)) key = moves (get_of_string_too at t key)
  get_of_too (is_primitive p) key = left_at (Leaves PrimitiveProperty) at
  get_of_too (is_symbol t) key = left_at (Leaves PrimitiveProperty) at

  pub put_of_too : {base : Value} → IsValue s base → (key : Key) {v : Value} → IsValue s v → (strict : Bool) → At s Any (objects.put_of (site_of at call) base key v strict)
  unfolding objects.put_of
  put_of_too (is_object there) key v strict = put_too there key v strict
  put_of_too (is_primitive p) key v strict = left_at (Leaves PrimitiveProperty) at
  put_of_too (is_symbol t) key v strict = left_at (Leaves PrimitiveProperty) at

  pub delete_of_too : (base : Value) (key : Key) (strict : Bool) → At s Any (objects.delete_of (site_of at call) base key strict)
  unfolding objects.delete_of
  delete_of_too (Object o) key strict = delete_too o key strict
  delete_of_too base key strict = left_at (Leaves PrimitiveProperty) at

  -- ---- names

  binding_too : (name : List ℕ) (c : Option CellNo) → Steady s (Any s) (names.binding (site_of at call) name c)
  binding_too name (Some c) = gives_same_any (InCell c)
  binding_too name None = then_steady_any (has_property_too global name) (λ bound. gives_same_any _)

  pub resolve_name_too : (context : Context) (name : List ℕ) → Steady s (IsReference s) (names.resolve_name (site_of at call) context name)
  unfolding names.resolve_name
  resolve_name_too context name = then_steady_any (binding_too name (resolve context.environment name)) (λ b. gives_same (is_name name b context.strict))

  in_cell_too : (c : CellNo) → is_valid s ≡ true → IsValue s (unwrap_or (cell s c) undefined)
  in_cell_too c valid = by_value (cell s c) refl
    where
      by_value : (found : Option Value) → cell s c ≡ found → IsValue s (unwrap_or found undefined)
      by_value None e = is_undefined
      by_value (Some v) e = from_cell v (gives_values.cells s c v valid e)

  global_there : Keeps realm s → IsObject s global
  global_there fit = realm_there fit global (omega arith)

  pub get_value_too : {r : Reference} → IsReference s r → At s IsValue (names.get_value (site_of at call) r)
  unfolding names.get_value
  get_value_too (is_name name (InCell c) strict) = moves (looks (IsValue s) (λ h. unwrap_or (cell h c) undefined) (λ fit. in_cell_too c fit.valid))
  get_value_too (is_name name OnGlobal strict) = on_realm (λ fit. get_too (global_there fit) name)
  get_value_too (is_name name Nowhere strict) = throw_error_too ReferenceError
  get_value_too (is_property is key strict) = get_of_too is key

  pub put_value_too : {r : Reference} → IsReference s r → {v : Value} → IsValue s v → At s Any (names.put_value (site_of at call) r v)
  unfolding names.put_value
  put_value_too (is_name name (InCell c) strict) v = changes (λ fit. cell_set s c fit.valid v)
  put_value_too (is_name name OnGlobal strict) v = on_realm (λ fit. put_too (global_there fit) name v strict)
  put_value_too (is_name name Nowhere strict) v = chooses strict (throw_error_too ReferenceError) (on_realm (λ fit. put_too (global_there fit) name v false))
  put_value_too (is_property is key strict) v = put_of_too is key v strict
