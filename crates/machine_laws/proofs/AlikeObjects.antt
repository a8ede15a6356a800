-- Conversions, operators and the internal methods of objects do alike, where the calls of values do.
use Rattle.std.proofs.Common.{ℕ, Bool, true, false, List, [], ◌∷◌}
use Rattle.std.specs.Prelude.{◌&&◌, not, slice_get, Option, Some, None, Result}
use Rattle.std.specs.Option.{option_and_then}
use Rattle.js_value.specs.Conversions.{is_same_text, to_boolean}
use Rattle.js_value.specs.Operators.{add}
use Rattle.js_value.specs.declared.operator.BinaryOp.{BinaryOp}
use Rattle.js_value.specs.declared.operator.BinaryOp.TheVariants as binary
use Rattle.js_value.specs.declared.operator.UnaryOp.{UnaryOp}
use Rattle.js_value.specs.declared.operator.UnaryOp.TheVariants as unary
use Rattle.js_value.specs.declared.place.Place.{Place}
use Rattle.js_value.specs.declared.primitive.Primitive.{Primitive}
use Rattle.js_value.specs.declared.primitive.Primitive.TheVariants as primitive
use Rattle.js_value.specs.declared.why.Why.{Why}
use Rattle.js_value.specs.declared.why.Why.TheVariants.{AbsentBuiltin, PrimitiveProperty, PrimitiveThis}
use Rattle.plain_heap.specs.Values.{Value, Prim, Object, Absent, Unary, ObjNo, Symbolic, Symbol}
use Rattle.plain_heap.specs.Heap.{Key, Class, Plain, ObjectState, is_function, object_at, set_object, resolve}
use Rattle.plain_heap.specs.Methods.{Descriptor, data_fields, checked_key, Got, GotValue, CallGetter, Putting, Refuse, Define, CallSetter, Defining, Defined, Rejected, BadLength, IfSame, array_index, length_key}
use Rattle.plain_heap.specs.Methods as methods
use Rattle.js_machine.specs.Machine.RealmObjects.{ErrorKind, TypeError, RangeError, ReferenceError, error_prototype, global}
use Rattle.js_machine.specs.Machine.References as names
use Rattle.js_machine.specs.Machine.References.{Context, Reference, InCell, OnGlobal, Nowhere, NameReference, PropertyReference}
use Rattle.js_machine.specs.Machine.Objects as objects
use Rattle.js_machine.specs.Machine.Objects.{Site}
use Rattle.js_machine.specs.Machine.Operators as operators
use Rattle.js_machine.specs.Machine.Events.{Base, Run, Lacks}
use Rattle.machine_laws.proofs.Alike.{TreeRelation, Alike, bind, gives, throws, left_at, changes, looks, asks, chooses, tests, or_leaves, makes, stops_at, or_stops}
use Rattle.js_machine.specs.Machine.Operators.{Sameness, Told, Asked}

abbrev pub site_of : Place → (Value → Value → List Value → Run Value) → Site
site_of at call = record { at = at; call = call }

module _ (w : TreeRelation) where
  -- ---- objects that rules make

  pub make_with_too : (class : Class) (prototype : ObjNo) → Alike w (objects.make_with class prototype) (objects.make_with class prototype)
  make_with_too class prototype = makes w _

  pub throw_error_too : {A : Type 0} (kind : ErrorKind) → Alike w (objects.throw_error {A = A} kind) (objects.throw_error kind)
  throw_error_too kind = bind w (make_with_too Plain (error_prototype kind)) (λ o. throws w (Object o))

  reject_too : (throws : Bool) → Alike w (objects.reject throws) (objects.reject throws)
  reject_too throws = chooses w throws (throw_error_too TypeError) (gives w tt)

  deleted_too : (o : ObjNo) (throws : Bool) (state : Option ObjectState) → Alike w (objects.deleted o throws state) (objects.deleted o throws state)
  deleted_too o throws (Some state) = bind w (changes w (set_object o state)) (λ _. gives w true)
  deleted_too o throws None = chooses w throws (throw_error_too TypeError) (gives w false)

module _ (w : TreeRelation) (at : Place) where
  -- ---- conversions and operators

  test_symbol_too : (s : Symbol) → Alike w (operators.test_symbol at s) (operators.test_symbol at s)
  unfolding operators.test_symbol
  test_symbol_too (Unary unary.Not s) = bind w (test_symbol_too s) (λ b. gives w (not b))
  test_symbol_too s = asks w at s

  pub test_too : (v : Value) → Alike w (operators.test at v) (operators.test at v)
  unfolding operators.test
  test_too (Prim p) = gives w (to_boolean p)
  test_too (Object o) = gives w true
  test_too Absent = left_at w AbsentBuiltin at
  test_too (Symbolic s) = test_symbol_too s

  pub to_string_too : (v : Value) → Alike w (operators.to_string at v) (operators.to_string at v)
  unfolding operators.to_string
  to_string_too v = or_leaves w at _

  pub to_key_too : (v : Value) → Alike w (operators.to_key at v) (operators.to_key at v)
  unfolding operators.to_key
  to_key_too v = or_stops w at _

  to_length_too : (v : Value) → Alike w (operators.to_length at v) (operators.to_length at v)
  unfolding operators.to_length
  to_length_too v = or_stops w at _

  pub to_list_length_too : (v : Value) → Alike w (operators.to_list_length at v) (operators.to_list_length at v)
  unfolding operators.to_list_length
  to_list_length_too v = or_stops w at _

  pub to_position_too : (v : Value) → Alike w (operators.to_position at v) (operators.to_position at v)
  unfolding operators.to_position
  to_position_too v = or_stops w at _

  pub operate_too : (op : BinaryOp) (row : Primitive → Primitive → Result Primitive Why) (a b : Value) → Alike w (operators.operate at op row a b) (operators.operate at op row a b)
  unfolding operators.operate
  operate_too op row a b = or_leaves w at _

  pub plus_too : (a b : Value) → Alike w (operators.plus at a b) (operators.plus at a b)
  unfolding operators.plus
  plus_too a b = operate_too binary.Add add a b

  pub operate_one_too : (op : UnaryOp) (row : Primitive → Result Primitive Why) (v : Value) → Alike w (operators.operate_one at op row v) (operators.operate_one at op row v)
  unfolding operators.operate_one
  operate_one_too op row v = bind w (looks w is_function) (λ is_callable. or_leaves w at (operators.operated_one is_callable op row v))

  ask_unless_told_too : (same : Sameness) → Alike w (operators.ask_unless_told at same) (operators.ask_unless_told at same)
  ask_unless_told_too (Told same) = gives w same
  ask_unless_told_too (Asked symbol) = asks w at symbol

  pub same_value_too : (a b : Value) → Alike w (operators.same_value at a b) (operators.same_value at a b)
  unfolding operators.same_value
  same_value_too a b = bind w (or_leaves w at _) ask_unless_told_too

  -- ---- values as bases of properties

  pub check_base_too : (v : Value) → Alike w (objects.check_base at v) (objects.check_base at v)
  check_base_too (Prim primitive.Undefined) = throw_error_too w TypeError
  check_base_too (Prim primitive.Null) = throw_error_too w TypeError
  check_base_too (Prim p) = gives w tt
  check_base_too (Object o) = gives w tt
  check_base_too Absent = left_at w AbsentBuiltin at
  check_base_too (Symbolic s) = stops_at w (Lacks Base) at

  unit_of_too : (t : List ℕ) (unit : Option ℕ) → Alike w (objects.unit_of at t unit) (objects.unit_of at t unit)
  unit_of_too t None = left_at w PrimitiveProperty at
  unit_of_too t (Some unit) = gives w _

  get_of_string_too : (t : List ℕ) (key : Key) → Alike w (objects.get_of_string at t key) (objects.get_of_string at t key)
  unfolding objects.get_of_string
  get_of_string_too t key = tests w (is_same_text key length_key) (gives w _) (unit_of_too t (option_and_then (slice_get t) (array_index key)))

  pub to_object_too : (v : Value) → Alike w (objects.to_object at v) (objects.to_object at v)
  unfolding objects.to_object
  to_object_too (Object o) = gives w o
  to_object_too (Prim primitive.Undefined) = throw_error_too w TypeError
  to_object_too (Prim primitive.Null) = throw_error_too w TypeError
  to_object_too v = left_at w PrimitiveThis at

  pub present_too : (v : Value) → Alike w (objects.present at v) (objects.present at v)
  present_too Absent = left_at w AbsentBuiltin at
  present_too v = gives w v

  with_length_too : (d : Descriptor) (v : Option Value) → Alike w (objects.with_length at d v) (objects.with_length at d v)
  with_length_too d None = gives w d
  with_length_too d (Some v) = bind w (to_length_too v) (λ n. gives w (record d { value = Some (Prim (primitive.Number n)) }))

-- calls of values with their `this` and their arguments
pub record CallsAlike (w : TreeRelation) (call other : Value → Value → List Value → Run Value) : Type 0 where
  pub at : (f this : Value) (arguments : List Value) → Alike w (call f this arguments) (other f this arguments)

module _ (w : TreeRelation) (at : Place) {call other : Value → Value → List Value → Run Value} (calls : CallsAlike w call other) where
  -- ---- internal methods

  got_too : (this : Value) (g : Got) → Alike w (objects.got (site_of at call) this g) (objects.got (site_of at other) this g)
  got_too this (GotValue v) = present_too w at v
  got_too this (CallGetter f) = calls.at (Object f) this []

  pub get_too : (o : ObjNo) (name : Key) → Alike w (objects.get (site_of at call) o name) (objects.get (site_of at other) o name)
  unfolding objects.get
  get_too o name = bind w (or_leaves w at (checked_key name)) (λ key. bind w (looks w (λ h. methods.get h o key)) (λ g. got_too (Object o) g))

  defining_too : (o : ObjNo) (throws : Bool) (d : Defining) → Alike w (objects.defining (site_of at call) o throws d) (objects.defining (site_of at other) o throws d)
  defining_too o throws (Defined state) = changes w (set_object o state)
  defining_too o throws (Rejected state) = bind w (changes w (set_object o state)) (λ _. reject_too w throws)
  defining_too o throws BadLength = throw_error_too w RangeError
  defining_too o throws (IfSame v x rest) = bind w (same_value_too w at v x) (λ same. defining_too o throws (rest same))

  with_number_too : (state : Option ObjectState) (key : Key) (d : Descriptor) → Alike w (objects.with_number at state key d) (objects.with_number at state key d)
  with_number_too state key d = chooses w (objects.is_array_state state && is_same_text key length_key) (with_length_too w at d d.value) (gives w d)

  define_at_too : (o : ObjNo) (key : Key) (d : Descriptor) (throws : Bool) (state : Option ObjectState)
      → Alike w (objects.define_at (site_of at call) o key d throws state) (objects.define_at (site_of at other) o key d throws state)
  define_at_too o key d throws None = gives w tt
  define_at_too o key d throws (Some state) = defining_too o throws (methods.define key d state)

  pub define_too : (o : ObjNo) (name : Key) (d : Descriptor) (throws : Bool) → Alike w (objects.define (site_of at call) o name d throws) (objects.define (site_of at other) o name d throws)
  unfolding objects.define
  define_too o name d throws = bind w (or_leaves w at (checked_key name)) (λ key. bind w (looks w (λ h. object_at h o)) (λ state. bind w (with_number_too state key d) (λ d. define_at_too o key d throws state)))

  pub make_property_too : (o : ObjNo) (key : Key) (v : Value) → Alike w (objects.make_property (site_of at call) o key v) (objects.make_property (site_of at other) o key v)
  make_property_too o key v = define_too o key (data_fields v true true true) false

  putting_too : (o : ObjNo) (key : Key) (v : Value) (throws : Bool) (p : Putting)
      → Alike w (objects.putting (site_of at call) o key v throws p) (objects.putting (site_of at other) o key v throws p)
  putting_too o key v throws Refuse = reject_too w throws
  putting_too o key v throws (Define d) = define_too o key d throws
  putting_too o key v throws (CallSetter f) = bind w (calls.at (Object f) (Object o) (v ∷ [])) (λ _. gives w tt)

  pub put_too : (o : ObjNo) (name : Key) (v : Value) (throws : Bool) → Alike w (objects.put (site_of at call) o name v throws) (objects.put (site_of at other) o name v throws)
  unfolding objects.put
  put_too o name v throws = bind w (or_leaves w at (checked_key name)) (λ key. bind w (looks w (λ h. methods.put h o key v)) (λ p. putting_too o key v throws p))

  pub get_own_property_too : (o : ObjNo) (name : Key) → Alike w (objects.get_own_property (site_of at call) o name) (objects.get_own_property (site_of at other) o name)
  unfolding objects.get_own_property
  get_own_property_too o name = bind w (or_leaves w at (checked_key name)) (λ key. looks w _)

  pub has_property_too : (o : ObjNo) (name : Key) → Alike w (objects.has_property (site_of at call) o name) (objects.has_property (site_of at other) o name)
  unfolding objects.has_property
  has_property_too o name = bind w (or_leaves w at (checked_key name)) (λ key. looks w _)

  pub delete_too : (o : ObjNo) (name : Key) (throws : Bool) → Alike w (objects.delete (site_of at call) o name throws) (objects.delete (site_of at other) o name throws)
  unfolding objects.delete
  delete_too o name throws = bind w (or_leaves w at (checked_key name)) (λ key. bind w (looks w (λ h. option_and_then (methods.delete key) (object_at h o))) (λ state. deleted_too w o throws state))

  pub get_of_too : (v : Value) (key : Key) → Alike w (objects.get_of (site_of at call) v key) (objects.get_of (site_of at other) v key)
  unfolding objects.get_of
  get_of_too (Object o) key = get_too o key
  get_of_too (Prim (primitive.Text t)) key = get_of_string_too w at t key
  get_of_too v key = left_at w PrimitiveProperty at

  pub put_of_too : (base : Value) (key : Key) (v : Value) (strict : Bool) → Alike w (objects.put_of (site_of at call) base key v strict) (objects.put_of (site_of at other) base key v strict)
  unfolding objects.put_of
  put_of_too (Object o) key v strict = put_too o key v strict
  put_of_too base key v strict = left_at w PrimitiveProperty at

  pub delete_of_too : (base : Value) (key : Key) (strict : Bool) → Alike w (objects.delete_of (site_of at call) base key strict) (objects.delete_of (site_of at other) base key strict)
  unfolding objects.delete_of
  delete_of_too (Object o) key strict = delete_too o key strict
  delete_of_too base key strict = left_at w PrimitiveProperty at

  -- ---- names

  binding_too : (name : List ℕ) (c : Option ℕ) → Alike w (names.binding (site_of at call) name c) (names.binding (site_of at other) name c)
  binding_too name (Some c) = gives w (InCell c)
  binding_too name None = bind w (has_property_too global name) (λ bound. gives w _)

  pub resolve_name_too : (context : Context) (name : List ℕ) → Alike w (names.resolve_name (site_of at call) context name) (names.resolve_name (site_of at other) context name)
  unfolding names.resolve_name
  resolve_name_too context name = bind w (binding_too name (resolve context.environment name)) (λ b. gives w (NameReference name b context.strict))

  pub get_value_too : (r : Reference) → Alike w (names.get_value (site_of at call) r) (names.get_value (site_of at other) r)
  unfolding names.get_value
  get_value_too (NameReference name (InCell c) strict) = looks w _
  get_value_too (NameReference name OnGlobal strict) = get_too global name
  get_value_too (NameReference name Nowhere strict) = throw_error_too w ReferenceError
  get_value_too (PropertyReference base key strict) = get_of_too base key

  pub put_value_too : (r : Reference) (v : Value) → Alike w (names.put_value (site_of at call) r v) (names.put_value (site_of at other) r v)
  unfolding names.put_value
  put_value_too (NameReference name (InCell c) strict) v = changes w _
  put_value_too (NameReference name OnGlobal strict) v = put_too global name v strict
  put_value_too (NameReference name Nowhere strict) v = chooses w strict (throw_error_too w ReferenceError) (put_too global name v false)
  put_value_too (PropertyReference base key strict) v = put_of_too base key v strict
