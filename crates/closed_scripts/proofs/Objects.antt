-- Conversions, operators and the internal methods of objects are quiet, where the calls of values are.
use Rattle.std.proofs.Common.{ℕ, Bool, true, false, List, []}
use Rattle.std.specs.Prelude.{◌&&◌, ℤ, not, nat_eq, slice_get, Option, Some, None, Result, Ok, Err, unwrap_or}
use Rattle.std.specs.Option.{option_and_then}
use Rattle.js_value.specs.Conversions.{is_same_text, is_same_value, to_boolean}
use Rattle.js_value.specs.Operators.{add}
use Rattle.js_value.specs.declared.operator.BinaryOp.{BinaryOp}
use Rattle.js_value.specs.declared.operator.BinaryOp.TheVariants as binary
use Rattle.js_value.specs.declared.operator.UnaryOp.{UnaryOp}
use Rattle.js_value.specs.declared.operator.UnaryOp.TheVariants as unary
use Rattle.js_value.specs.declared.place.Place.{Place}
use Rattle.js_value.specs.declared.primitive.Primitive.{Primitive}
use Rattle.js_value.specs.declared.primitive.Primitive.TheVariants as primitive
use Rattle.js_value.specs.declared.why.Why.{Why}
use Rattle.js_value.specs.declared.why.Why.TheVariants.{AbsentBuiltin, ObjectToPrimitive, PrimitiveProperty, PrimitiveThis}
use Rattle.plain_heap.specs.Values.{Value, Prim, Object, ObjNo, undefined, truth}
use Rattle.plain_heap.specs.Heap.{Key, Class, Plain, ObjectState, is_function, cell, object_at, resolve}
use Rattle.plain_heap.specs.Methods.{Descriptor, data_fields, checked_key, Got, Putting, Defining, Defined, Rejected, BadLength, IfSame, array_index, length_key, own_property}
use Rattle.plain_heap.specs.Methods as methods
use Rattle.js_machine.specs.Machine.RealmObjects.{ErrorKind, TypeError, RangeError, ReferenceError, error_prototype, global}
use Rattle.js_machine.specs.Machine.References as names
use Rattle.js_machine.specs.Machine.References.{Context, Reference, Binding, InCell, OnGlobal, Nowhere, NameReference, PropertyReference}
use Rattle.js_machine.specs.Machine.Objects as objects
use Rattle.js_machine.specs.Machine.Objects.{Site}
use Rattle.js_machine.specs.Machine.Operators as operators
use Rattle.js_machine.specs.Machine.Operators.{Sameness, Told}
use Rattle.js_machine.specs.Machine.Events.{Run, or_stop}
use Rattle.closed_scripts.specs.Known.{Each, none, also, IsKnown, is_primitive, is_object, is_absent, IsKnownProperty, IsKnownState}
use Rattle.closed_scripts.proofs.Quiet.{Quiet, Any, Given, nothing, just, Passed, passes, fails_so, bind, bind_any, gives, gives_any, throws, left_at, changes, makes, looks, looks_any, chooses, tests, or_leaves, or_leaves_any}
use Rattle.closed_scripts.proofs.Heaps.{AnyNo, number_of, IsGot, is_value, is_getter, IsKnownChange, IsPutting, is_refused, is_definition, is_setter, IsDefining, is_defined, is_rejected, is_bad_length, is_question, of_fields, object_made, object_set, cell_set, in_cell, chained, own, there}
use Rattle.closed_scripts.proofs.Heaps as heaps

abbrev pub site_of : Place → (Value → Value → List Value → Run Value) → Site
site_of at call = record { at = at; call = call }

abbrev pub Values : List Value → Type 0
Values vs = Each IsKnown vs

pub known_undefined : IsKnown undefined
known_undefined = is_primitive primitive.Undefined

pub known_truth : (b : Bool) → IsKnown (truth b)
known_truth b = is_primitive (primitive.Boolean b)

-- ---- objects that rules make

pub make_with_too : (class : Class) (prototype : ObjNo) → Quiet AnyNo (objects.make_with class prototype)
make_with_too class prototype = makes (object_made class (Some prototype))

pub throw_error_too : {A : Type 0} {Is : A → Type 0} (kind : ErrorKind) → Quiet Is (objects.throw_error kind)
throw_error_too kind = bind (make_with_too Plain (error_prototype kind)) (λ o _. throws (is_object o))

reject_too : (throws : Bool) → Quiet Any (objects.reject throws)
reject_too throws = chooses throws (throw_error_too TypeError) (gives_any tt)

deleted_too : (o : ObjNo) (throws : Bool) {state : Option ObjectState} → Given IsKnownState state → Quiet Any (objects.deleted o throws state)
deleted_too o throws (just is) = bind_any (changes (λ s known. object_set known o is)) (λ _. gives_any true)
deleted_too o throws nothing = chooses throws (throw_error_too TypeError) (gives_any false)

-- ---- results without symbols

of_row : (r : Result Primitive Why) → Passed IsKnown (operators.result_map Prim r)
of_row (Ok p) = passes (is_primitive p)
of_row (Err why) = fails_so why

of_truth : (f : Bool → Bool) (r : Result Bool Why) → Passed IsKnown (operators.result_map (λ b. truth (f b)) r)
of_truth f (Ok b) = passes (known_truth (f b))
of_truth f (Err why) = fails_so why

on_objects_too : (op : BinaryOp) (a b : Value) → Passed IsKnown (operators.on_objects op a b)
on_objects_too binary.Same a b = passes (known_truth _)
on_objects_too binary.NotSame a b = passes (known_truth _)
on_objects_too binary.Equal a b = of_truth (λ b. b) (operators.object_equals a b)
on_objects_too binary.NotEqual a b = of_truth not (operators.object_equals a b)
on_objects_too op a b = fails_so (operators.to_primitive_fails op a)

operated_too : (op : BinaryOp) (row : Primitive → Primitive → Result Primitive Why) {a b : Value} → IsKnown a → IsKnown b → Passed IsKnown (operators.operated op row a b)
operated_too op row is_absent b = fails_so AbsentBuiltin
operated_too op row (is_primitive p) is_absent = fails_so AbsentBuiltin
operated_too op row (is_object o) is_absent = fails_so AbsentBuiltin
operated_too op row (is_primitive p) (is_primitive q) = of_row (row p q)
operated_too op row (is_primitive p) (is_object o) = on_objects_too op (Prim p) (Object o)
operated_too op row (is_object o) (is_primitive p) = on_objects_too op (Object o) (Prim p)
operated_too op row (is_object o) (is_object q) = on_objects_too op (Object o) (Object q)

on_object_too : (op : UnaryOp) (is_callable : Bool) → Passed IsKnown (operators.unary_on_object op is_callable)
on_object_too unary.TypeOf is_callable = passes (is_primitive _)
on_object_too unary.Void is_callable = passes known_undefined
on_object_too unary.Not is_callable = passes (known_truth false)
on_object_too op is_callable = fails_so ObjectToPrimitive

operated_one_too : (is_callable : ObjNo → Bool) (op : UnaryOp) (row : Primitive → Result Primitive Why) {a : Value} → IsKnown a → Passed IsKnown (operators.operated_one is_callable op row a)
operated_one_too is_callable op row (is_primitive p) = of_row (row p)
operated_one_too is_callable op row (is_object o) = on_object_too op (is_callable o)
operated_one_too is_callable op row is_absent = fails_so AbsentBuiltin

string_too : {v : Value} → IsKnown v → Passed IsKnown (operators.string_of v)
string_too (is_primitive p) = passes (is_primitive _)
string_too (is_object o) = fails_so ObjectToPrimitive
string_too is_absent = fails_so AbsentBuiltin

data IsTold : Sameness → Type 0 where
  told : (b : Bool) → IsTold (Told b)

sameness_too : {a b : Value} → IsKnown a → IsKnown b → Passed IsTold (operators.sameness a b)
sameness_too is_absent b = fails_so AbsentBuiltin
sameness_too (is_primitive p) is_absent = fails_so AbsentBuiltin
sameness_too (is_object o) is_absent = fails_so AbsentBuiltin
sameness_too (is_primitive p) (is_primitive q) = passes (told (is_same_value p q))
sameness_too (is_primitive p) (is_object o) = passes (told false)
sameness_too (is_object o) (is_primitive p) = passes (told false)
sameness_too (is_object o) (is_object q) = passes (told (nat_eq o q))

module _ (at : Place) where
  -- ---- conversions and operators

  pub test_too : {v : Value} → IsKnown v → Quiet Any (operators.test at v)
  unfolding operators.test
  test_too (is_primitive p) = gives_any (to_boolean p)
  test_too (is_object o) = gives_any true
  test_too is_absent = left_at AbsentBuiltin at

  pub to_string_too : {v : Value} → IsKnown v → Quiet IsKnown (operators.to_string at v)
  unfolding operators.to_string
  to_string_too is = or_leaves at (string_too is)

  pub to_key_too : {v : Value} → IsKnown v → Quiet Any (operators.to_key at v)
  unfolding operators.to_key
  to_key_too (is_primitive p) = gives_any _
  to_key_too (is_object o) = left_at ObjectToPrimitive at
  to_key_too is_absent = left_at AbsentBuiltin at

  number_by : (r : Result ℤ Why) → Quiet Any (or_stop at (operators.or_leaves r))
  number_by (Ok n) = gives_any n
  number_by (Err why) = left_at why at

  number_too : (convert : Primitive → Result ℤ Why) (what : _) {v : Value} → IsKnown v → Quiet Any (or_stop at (operators.number_of convert what v))
  number_too convert what (is_primitive p) = number_by (convert p)
  number_too convert what (is_object o) = left_at ObjectToPrimitive at
  number_too convert what is_absent = left_at AbsentBuiltin at

  to_length_too : {v : Value} → IsKnown v → Quiet Any (operators.to_length at v)
  unfolding operators.to_length
  to_length_too is = number_too _ _ is

  pub to_list_length_too : {v : Value} → IsKnown v → Quiet Any (operators.to_list_length at v)
  unfolding operators.to_list_length
  to_list_length_too is = number_too _ _ is

  pub to_position_too : {v : Value} → IsKnown v → Quiet Any (operators.to_position at v)
  unfolding operators.to_position
  to_position_too is = number_too _ _ is

  pub operate_too : (op : BinaryOp) (row : Primitive → Primitive → Result Primitive Why) {a b : Value} → IsKnown a → IsKnown b → Quiet IsKnown (operators.operate at op row a b)
  unfolding operators.operate
  operate_too op row a b = or_leaves at (operated_too op row a b)

  pub plus_too : {a b : Value} → IsKnown a → IsKnown b → Quiet IsKnown (operators.plus at a b)
  unfolding operators.plus
  plus_too a b = operate_too binary.Add add a b

  pub operate_one_too : (op : UnaryOp) (row : Primitive → Result Primitive Why) {v : Value} → IsKnown v → Quiet IsKnown (operators.operate_one at op row v)
  unfolding operators.operate_one
  operate_one_too op row is = bind_any (looks_any is_function) (λ is_callable. or_leaves at (operated_one_too is_callable op row is))

  ask_too : {same : Sameness} → IsTold same → Quiet Any (operators.ask_unless_told at same)
  ask_too (told b) = gives_any b

  pub same_value_too : {a b : Value} → IsKnown a → IsKnown b → Quiet Any (operators.same_value at a b)
  unfolding operators.same_value
  same_value_too a b = bind (or_leaves at (sameness_too a b)) (λ same is. ask_too is)

  -- ---- values as bases of properties

  base_too : (p : Primitive) → Quiet Any (objects.check_base at (Prim p))
  base_too primitive.Undefined = throw_error_too TypeError
  base_too primitive.Null = throw_error_too TypeError
  base_too p = gives_any tt

  pub check_base_too : {v : Value} → IsKnown v → Quiet Any (objects.check_base at v)
  check_base_too (is_primitive p) = base_too p
  check_base_too (is_object o) = gives_any tt
  check_base_too is_absent = left_at AbsentBuiltin at

  unit_of_too : (t : List ℕ) (unit : Option ℕ) → Quiet IsKnown (objects.unit_of at t unit)
  unit_of_too t None = left_at PrimitiveProperty at
  unit_of_too t (Some unit) = gives (is_primitive _)

  get_of_string_too : (t : List ℕ) (key : Key) → Quiet IsKnown (objects.get_of_string at t key)
  unfolding objects.get_of_string
  get_of_string_too t key = tests (is_same_text key length_key) (gives (is_primitive _)) (unit_of_too t (option_and_then (slice_get t) (array_index key)))

  pub to_object_too : (v : Value) → Quiet AnyNo (objects.to_object at v)
  unfolding objects.to_object
  to_object_too (Object o) = gives (number_of o)
  to_object_too (Prim primitive.Undefined) = throw_error_too TypeError
  to_object_too (Prim primitive.Null) = throw_error_too TypeError
  to_object_too v = left_at PrimitiveThis at

  pub present_too : {v : Value} → IsKnown v → Quiet IsKnown (objects.present at v)
  present_too (is_primitive p) = gives (is_primitive p)
  present_too (is_object o) = gives (is_object o)
  present_too is_absent = left_at AbsentBuiltin at

  with_length_too : {d : Descriptor} → IsKnownChange d → {v : Option Value} → Given IsKnown v → Quiet IsKnownChange (objects.with_length at d v)
  with_length_too is nothing = gives is
  with_length_too is (just v) = bind_any (to_length_too v) (λ n. gives (record { value = just (is_primitive _) }))

-- calls of values with their `this` and their arguments
pub record CallsQuiet (call : Value → Value → List Value → Run Value) : Type 0 where
  pub at : (f this : Value) (arguments : List Value) → IsKnown this → Values arguments → Quiet IsKnown (call f this arguments)

-- what a name or a property stands for
pub data IsReference : Reference → Type 0 where
  is_name : (name : List ℕ) (b : Binding) (strict : Bool) → IsReference (NameReference name b strict)
  is_property : {base : Value} → IsKnown base → (key : Key) (strict : Bool) → IsReference (PropertyReference base key strict)

module _ (at : Place) {call : Value → Value → List Value → Run Value} (calls : CallsQuiet call) where
  -- ---- internal methods

  got_too : (o : ObjNo) {g : Got} → IsGot g → Quiet IsKnown (objects.got (site_of at call) (Object o) g)
  got_too o (is_value v) = present_too at v
  got_too o (is_getter f) = calls.at (Object f) (Object o) [] (is_object o) none

  pub get_too : (o : ObjNo) (name : Key) → Quiet IsKnown (objects.get (site_of at call) o name)
  unfolding objects.get
  get_too o name = bind_any (or_leaves_any at (checked_key name)) (λ key. bind (looks IsGot (λ h. methods.get h o key) (λ s known. heaps.got known o key)) (λ g is. got_too o is))

  defining_too : (o : ObjNo) (throws : Bool) {d : Defining} → IsDefining d → Quiet Any (objects.defining (site_of at call) o throws d)
  defining_too o throws (is_defined is) = changes (λ s known. object_set known o is)
  defining_too o throws (is_rejected is) = bind_any (changes (λ s known. object_set known o is)) (λ _. reject_too throws)
  defining_too o throws is_bad_length = throw_error_too RangeError
  defining_too o throws (is_question v w rest) = bind_any (same_value_too at v w) (λ same. defining_too o throws (rest same))

  with_number_too : (state : Option ObjectState) (key : Key) {d : Descriptor} → IsKnownChange d → Quiet IsKnownChange (objects.with_number at state key d)
  with_number_too state key is = chooses (objects.is_array_state state && is_same_text key length_key) (with_length_too at is is.value) (gives is)

  define_at_too : (o : ObjNo) (key : Key) {d : Descriptor} → IsKnownChange d → (throws : Bool) {state : Option ObjectState} → Given IsKnownState state → Quiet Any (objects.define_at (site_of at call) o key d throws state)
  define_at_too o key is throws nothing = gives_any tt
  define_at_too o key is throws (just state) = defining_too o throws (heaps.define key is state)

  pub define_too : (o : ObjNo) (name : Key) {d : Descriptor} → IsKnownChange d → (throws : Bool) → Quiet Any (objects.define (site_of at call) o name d throws)
  unfolding objects.define
  define_too o name is throws = bind_any (or_leaves_any at (checked_key name)) (λ key. bind (looks (Given IsKnownState) (λ h. object_at h o) (λ s known. there known o)) (λ state known.
      bind (with_number_too state key is) (λ d is. define_at_too o key is throws known)))

  pub make_property_too : (o : ObjNo) (key : Key) {v : Value} → IsKnown v → Quiet Any (objects.make_property (site_of at call) o key v)
  make_property_too o key is = define_too o key (of_fields true true true is) false

  putting_too : (o : ObjNo) (key : Key) {v : Value} → IsKnown v → (throws : Bool) {p : Putting} → IsPutting p → Quiet Any (objects.putting (site_of at call) o key v throws p)
  putting_too o key v throws is_refused = reject_too throws
  putting_too o key v throws (is_definition is) = define_too o key is throws
  putting_too o key v throws (is_setter f) = bind (calls.at (Object f) (Object o) _ (is_object o) (also v none)) (λ _ _. gives_any tt)

  pub put_too : (o : ObjNo) (name : Key) {v : Value} → IsKnown v → (throws : Bool) → Quiet Any (objects.put (site_of at call) o name v throws)
  unfolding objects.put
  put_too o name v throws = bind_any (or_leaves_any at (checked_key name)) (λ key. bind (looks IsPutting (λ h. methods.put h o key _) (λ s known. heaps.put s o key v)) (λ p is. putting_too o key v throws is))

  pub get_own_property_too : (o : ObjNo) (name : Key) → Quiet (Given IsKnownProperty) (objects.get_own_property (site_of at call) o name)
  unfolding objects.get_own_property
  get_own_property_too o name = bind_any (or_leaves_any at (checked_key name)) (λ key. looks (Given IsKnownProperty) (λ h. option_and_then (own_property key) (object_at h o)) (λ s known. chained (λ state is. own key is) (there known o)))

  pub has_property_too : (o : ObjNo) (name : Key) → Quiet Any (objects.has_property (site_of at call) o name)
  unfolding objects.has_property
  has_property_too o name = bind_any (or_leaves_any at (checked_key name)) (λ key. looks_any _)

  pub delete_too : (o : ObjNo) (name : Key) (throws : Bool) → Quiet Any (objects.delete (site_of at call) o name throws)
  unfolding objects.delete
  delete_too o name throws = bind_any (or_leaves_any at (checked_key name)) (λ key. bind (looks (Given IsKnownState) (λ h. option_and_then (methods.delete key) (object_at h o)) (λ s known. chained (λ state is. heaps.deleted key is) (there known o))) (λ state is. deleted_too o throws is))

  pub get_of_too : (v : Value) (key : Key) → Quiet IsKnown (objects.get_of (site_of at call) v key)
  unfolding objects.get_of
  get_of_too (Object o) key = get_too o key
  get_of_too (Prim (primitive.Text t)) key = get_of_string_too at t key
  get_of_too v key = left_at PrimitiveProperty at

  pub put_of_too : (base : Value) (key : Key) {v : Value} → IsKnown v → (strict : Bool) → Quiet Any (objects.put_of (site_of at call) base key v strict)
  unfolding objects.put_of
  put_of_too (Object o) key v strict = put_too o key v strict
  put_of_too base key v strict = left_at PrimitiveProperty at

  pub delete_of_too : (base : Value) (key : Key) (strict : Bool) → Quiet Any (objects.delete_of (site_of at call) base key strict)
  unfolding objects.delete_of
  delete_of_too (Object o) key strict = delete_too o key strict
  delete_of_too base key strict = left_at PrimitiveProperty at

  -- ---- names

  binding_too : (name : List ℕ) (c : Option ℕ) → Quiet Any (names.binding (site_of at call) name c)
  binding_too name (Some c) = gives_any (InCell c)
  binding_too name None = bind_any (has_property_too global name) (λ bound. gives_any _)

  pub resolve_name_too : (context : Context) (name : List ℕ) → Quiet IsReference (names.resolve_name (site_of at call) context name)
  unfolding names.resolve_name
  resolve_name_too context name = bind_any (binding_too name (resolve context.environment name)) (λ b. gives (is_name name b context.strict))

  pub get_value_too : {r : Reference} → IsReference r → Quiet IsKnown (names.get_value (site_of at call) r)
  unfolding names.get_value
  get_value_too (is_name name (InCell c) strict) = looks IsKnown (λ h. unwrap_or (cell h c) undefined) (λ s known. in_cell known c)
  get_value_too (is_name name OnGlobal strict) = get_too global name
  get_value_too (is_name name Nowhere strict) = throw_error_too ReferenceError
  get_value_too (is_property {base = base} is key strict) = get_of_too base key

  pub put_value_too : {r : Reference} → IsReference r → {v : Value} → IsKnown v → Quiet Any (names.put_value (site_of at call) r v)
  unfolding names.put_value
  put_value_too (is_name name (InCell c) strict) v = changes (λ s known. cell_set known c v)
  put_value_too (is_name name OnGlobal strict) v = put_too global name v strict
  put_value_too (is_name name Nowhere strict) v = chooses strict (throw_error_too ReferenceError) (put_too global name v false)
  put_value_too (is_property {base = base} is key strict) v = put_of_too base key v strict
