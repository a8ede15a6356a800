-- The internal methods of objects in a run (8.12), which call getters and setters, and the objects that rules make.
use Rattle.std.specs.Prelude.{ℕ, zero, suc, nat_eq, ◌||◌, ◌&&◌, Bool, true, false, if◌then◌else◌, List, [], ◌∷◌, length, slice_get, Option, Some, None}
use Rattle.std.specs.Option.{option_and_then}
use Rattle.js_value.specs.Conversions.{is_same_text}
use Rattle.js_value.specs.declared.place.Place.{Place}
use Rattle.js_value.specs.declared.primitive.Primitive.TheVariants as primitive
use Rattle.js_value.specs.declared.why.Why.TheVariants.{AbsentBuiltin, PrimitiveProperty, PrimitiveThis}
use Rattle.plain_heap.specs.Values.{Value, Prim, Object, Absent, ObjNo, number, text, Symbolic}
use Rattle.plain_heap.specs.Heap.{Key, Heap, Property, ObjectState, Class, Plain, Array, object_at, set_object, depth_at, make_object, is_array_class}
use Rattle.plain_heap.specs.Methods.{Descriptor, data_fields, checked_key, own_property, Got, GotValue, CallGetter, Putting, Refuse, Define, CallSetter, Defining, Defined, Rejected, BadLength, IfSame, array_index, length_key}
use Rattle.plain_heap.specs.Methods as methods
use Rattle.js_machine.specs.Machine.RealmObjects.{ErrorKind, TypeError, RangeError, error_prototype, object_prototype, array_prototype}
use Rattle.js_machine.specs.Machine.Operators.{same_value, to_length}
use Rattle.js_machine.specs.Machine.Events.{◌>>=◌, Base, Run, give, throw, leave, change, look, choose, or_leave, make, stop, Lacks}

-- where an operation is done: at which node, and how a value is called there with its `this` and its arguments
pub record Site : Type 0 where
  pub at : Place
  pub call : Value → Value → List Value → Run Value

-- ---- objects that rules make

abbrev pub make_with : Class → ObjNo → Run ObjNo
make_with class prototype = make (make_object class (Some prototype))

-- 15.2.2.1, 15.4.2.1
abbrev pub make_plain : Run ObjNo
make_plain = make_with Plain object_prototype

abbrev pub make_array : Run ObjNo
make_array = make_with Array array_prototype

-- an error that a rule throws is a new object without properties (15.11.7.7)
abbrev pub throw_error : {A : Type 0} → ErrorKind → Run A
throw_error kind = do
  o ← make_with Plain (error_prototype kind)
  throw (Object o)

-- ---- 8.12.3: [[Get]]

-- the value of a built-in that is left out can't be read
abbrev pub present : Place → Value → Run Value
present at Absent = leave AbsentBuiltin at
present at v = give v

abbrev pub got : Site → Value → Got → Run Value
got site this (GotValue v) = present site.at v
got site this (CallGetter f) = site.call (Object f) this []

unfoldable pub get : Site → ObjNo → Key → Run Value
get site o name = do
  key ← or_leave site.at (checked_key name)
  g ← look (λ h. methods.get h o key)
  got site (Object o) g

-- ---- 8.12.9, 15.4.5.1: [[DefineOwnProperty]]

abbrev pub reject : Bool → Run (Unit {0})
reject throws = choose throws (throw_error TypeError) (give tt)

abbrev pub defining : Site → ObjNo → Bool → Defining → Run (Unit {0})
defining site o throws (Defined state) = change (set_object o state)
defining site o throws (Rejected state) = do
  _ ← change (set_object o state)
  reject throws
defining site o throws BadLength = throw_error RangeError
defining site o throws (IfSame v w rest) = do
  same ← same_value site.at v w
  defining site o throws (rest same)

abbrev pub with_length : Place → Descriptor → Option Value → Run Descriptor
with_length at d None = give d
with_length at d (Some v) = do
  n ← to_length at v
  give (record d { value = Some (Prim (primitive.Number n)) })

abbrev pub is_array_state : Option ObjectState → Bool
is_array_state None = false
is_array_state (Some o) = is_array_class o.class

-- 15.4.5.1, step 3.c: the value that is to be an array's length becomes a number
abbrev pub with_number : Place → Option ObjectState → Key → Descriptor → Run Descriptor
with_number at state key d = choose (is_array_state state && is_same_text key length_key) (with_length at d d.value) (give d)

abbrev pub define_at : Site → ObjNo → Key → Descriptor → Bool → Option ObjectState → Run (Unit {0})
define_at site o key d throws None = give tt
define_at site o key d throws (Some state) = defining site o throws (methods.define key d state)

-- a change that is rejected throws where that is asked for
unfoldable pub define : Site → ObjNo → Key → Descriptor → Bool → Run (Unit {0})
define site o name d throws = do
  key ← or_leave site.at (checked_key name)
  state ← look (λ h. object_at h o)
  d ← with_number site.at state key d
  define_at site o key d throws state

-- a new property with all attributes, as initialisers and built-ins make them
abbrev pub make_property : Site → ObjNo → Key → Value → Run (Unit {0})
make_property site o key v = define site o key (data_fields v true true true) false

-- ---- 8.12.5: [[Put]]

-- what a setter gives is not used
abbrev pub setter_called : Value → Run (Unit {0})
setter_called v = give tt

abbrev pub putting : Site → ObjNo → Key → Value → Bool → Putting → Run (Unit {0})
putting site o key v throws Refuse = reject throws
putting site o key v throws (Define d) = define site o key d throws
putting site o key v throws (CallSetter f) = do
  v ← site.call (Object f) (Object o) (v ∷ [])
  setter_called v

unfoldable pub put : Site → ObjNo → Key → Value → Bool → Run (Unit {0})
put site o name v throws = do
  key ← or_leave site.at (checked_key name)
  p ← look (λ h. methods.put h o key v)
  putting site o key v throws p

-- ---- 8.12.1, 8.12.6 and 8.12.7

unfoldable pub get_own_property : Site → ObjNo → Key → Run (Option Property)
get_own_property site o name = do
  key ← or_leave site.at (checked_key name)
  look (λ h. option_and_then (own_property key) (object_at h o))

unfoldable pub has_property : Site → ObjNo → Key → Run Bool
has_property site o name = do
  key ← or_leave site.at (checked_key name)
  look (λ h. methods.has_property h o key)

abbrev pub deleted : ObjNo → Bool → Option ObjectState → Run Bool
deleted o throws (Some state) = do
  _ ← change (set_object o state)
  give true
deleted o throws None = choose throws (throw_error TypeError) (give false)

unfoldable pub delete : Site → ObjNo → Key → Bool → Run Bool
delete site o name throws = do
  key ← or_leave site.at (checked_key name)
  state ← look (λ h. option_and_then (methods.delete key) (object_at h o))
  deleted o throws state

-- ---- values as bases of properties (8.7.1, 8.7.2, 9.9, 9.10)

-- 9.10: CheckObjectCoercible; a symbol can't be a base
abbrev pub check_base : Place → Value → Run (Unit {0})
check_base at (Prim primitive.Undefined) = throw_error TypeError
check_base at (Prim primitive.Null) = throw_error TypeError
check_base at (Prim p) = give tt
check_base at (Object o) = give tt
check_base at Absent = leave AbsentBuiltin at
check_base at (Symbolic s) = stop (Lacks Base) at

-- the length of a string, and its units
abbrev pub unit_of : Place → List ℕ → Option ℕ → Run Value
unit_of at t None = leave PrimitiveProperty at
unit_of at t (Some unit) = give (text (unit ∷ []))

unfoldable pub get_of_string : Place → List ℕ → Key → Run Value
get_of_string at t key = if is_same_text key length_key then give (number (length t)) else unit_of at t (option_and_then (slice_get t) (array_index key))

-- 8.7.1: of the other primitives no property can be read
unfoldable pub get_of : Site → Value → Key → Run Value
get_of site (Object o) key = get site o key
get_of site (Prim (primitive.Text t)) key = get_of_string site.at t key
get_of site v key = leave PrimitiveProperty site.at

-- 8.7.2; a change that is refused throws where the reference is strict
unfoldable pub put_of : Site → Value → Key → Value → Bool → Run (Unit {0})
put_of site (Object o) key v strict = put site o key v strict
put_of site base key v strict = leave PrimitiveProperty site.at

-- 11.4.1
unfoldable pub delete_of : Site → Value → Key → Bool → Run Bool
delete_of site (Object o) key strict = delete site o key strict
delete_of site base key strict = leave PrimitiveProperty site.at

-- 9.9: ToObject of the `this` of a built-in; no objects are made of primitives
unfoldable pub to_object : Place → Value → Run ObjNo
to_object at (Object o) = give o
to_object at (Prim primitive.Undefined) = throw_error TypeError
to_object at (Prim primitive.Null) = throw_error TypeError
to_object at v = leave PrimitiveThis at

-- ---- chains of prototypes (15.2.4.6, 15.3.5.3)

abbrev pub prototype_of : Heap → ObjNo → Option ObjNo
prototype_of h o = option_and_then (λ (state : ObjectState). state.prototype) (object_at h o)

abbrev pub is_among_next : ℕ → Heap → ObjNo → Option ObjNo → Bool
is_among_next zero h o next = false
is_among_next (suc n) h o None = false
is_among_next (suc n) h o (Some next) = nat_eq next o || is_among_next n h o (prototype_of h next)

-- the first object is on the chain of prototypes of the second
unfoldable pub is_prototype_of : ObjNo → ObjNo → Heap → Bool
is_prototype_of o v h = is_among_next (depth_at h (Some v)) h o (prototype_of h v)
