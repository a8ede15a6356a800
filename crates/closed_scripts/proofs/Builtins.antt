-- The built-ins of objects, functions and errors are quiet, where the calls of values are.
use Rattle.std.proofs.Common.{ℕ, zero, suc, ◌+◌, Bool, true, false, List, [], ◌∷◌}
use Rattle.std.specs.Prelude.{◌&&◌, not, codes, drop, unsigned_abs, is_some, Option, Some, None, unwrap_or}
use Rattle.std.specs.Fmt.{decimal}
use Rattle.std.specs.Option.{option_map}
use Rattle.js_value.specs.declared.place.Place.{Place}
use Rattle.js_value.specs.declared.primitive.Primitive.TheVariants as primitive
use Rattle.js_value.specs.declared.why.Why.TheVariants.{BuiltinArgument}
use Rattle.plain_heap.specs.Values.{Value, Prim, Object, ObjNo, object_or_null, object_or_undefined}
use Rattle.plain_heap.specs.Heap.{Heap, Key, Property, Properties, Plain, Array, ObjectState, is_enumerable, is_function, set_object}
use Rattle.plain_heap.specs.Methods.{Descriptor, data_fields, length_key, is_accessor, is_data}
use Rattle.js_machine.specs.Machine.Creating.{argument}
use Rattle.js_machine.specs.Machine.Expressions.{is_callable}
use Rattle.js_machine.specs.Machine.RealmObjects.{TypeError, object_prototype, array_prototype}
use Rattle.js_machine.specs.Machine.ObjectBuiltins as B
use Rattle.js_machine.specs.Machine.ObjectBuiltins.{Rule}
use Rattle.js_machine.specs.Machine.Objects as objects
use Rattle.js_machine.specs.Machine.Events.{Run, ◌>>=◌}
use Rattle.js_machine.specs.Machine.Operators.{to_string}
use Rattle.closed_scripts.specs.Known.{Each, none, also, IsKnown, is_primitive, is_object, is_absent, IsKnownProperty, of_data, of_accessor, IsKnownEntry, IsKnownState, IsKnownHeap}
use Rattle.closed_scripts.proofs.Quiet.{Quiet, Any, Given, nothing, just, bind, bind_any, gives, gives_any, left_at, changes, looks_any, takes_turn, chooses, in_turns, in_turns_any, makes}
use Rattle.closed_scripts.proofs.Heaps.{AnyNo, number_of, IsKnownChange, of_fields, object_made, object_set, joined, there}
use Rattle.closed_scripts.proofs.Making.{argument_too}
use Rattle.closed_scripts.proofs.Objects.{CallsQuiet, Values, site_of, known_undefined, known_truth, make_with_too, throw_error_too, test_too, to_key_too, to_string_too, to_list_length_too, to_object_too, present_too, get_too, define_too, make_property_too, get_own_property_too, has_property_too}

pub object_argument_too : (v : Value) → Quiet AnyNo (B.object_argument v)
object_argument_too (Object o) = gives (number_of o)
object_argument_too v = throw_error_too TypeError

prototype_argument_too : (v : Value) → Quiet Any (B.prototype_argument v)
prototype_argument_too (Object o) = gives_any (Some o)
prototype_argument_too (Prim primitive.Null) = gives_any None
prototype_argument_too v = throw_error_too TypeError

no_properties_too : (at : Place) (v : Value) → Quiet Any (B.no_properties at v)
no_properties_too at (Prim primitive.Undefined) = gives_any tt
no_properties_too at v = left_at BuiltinArgument at

function_or_undefined_too : (v : Option Value) → Quiet Any (B.function_or_undefined v)
function_or_undefined_too None = gives_any None
function_or_undefined_too (Some (Prim primitive.Undefined)) = gives_any (Some None)
function_or_undefined_too (Some (Object f)) = bind_any (looks_any (λ h. is_function h f)) (λ callable. chooses callable (gives_any (Some (Some f))) (throw_error_too TypeError))
function_or_undefined_too (Some v) = throw_error_too TypeError

checked_too : (d : Descriptor) → IsKnownChange d → Quiet IsKnownChange (B.checked d)
checked_too d is = chooses (is_accessor d && is_data d) (throw_error_too TypeError) (gives is)

object_or_null_too : (o : Option ObjNo) → IsKnown (object_or_null o)
object_or_null_too None = is_primitive primitive.Null
object_or_null_too (Some o) = is_object o

object_or_undefined_too : (o : Option ObjNo) → IsKnown (object_or_undefined o)
object_or_undefined_too None = known_undefined
object_or_undefined_too (Some o) = is_object o

fixed_too : (o : ObjNo) (h : Heap) → IsKnownHeap h → IsKnownHeap (B.fix o h)
fixed_too o h known = by_state (there known o)
  where
    by_state : {state : Option ObjectState} → Given IsKnownState state → IsKnownHeap (unwrap_or (option_map (λ (state : ObjectState). set_object o (record state { extensible = false }) h) state) h)
    by_state nothing = known
    by_state (just is) = object_set known o (record { properties = is.properties })

-- a field of what FromPropertyDescriptor makes
record KnownField (field : Key × Value) : Type 0 where
  value : IsKnown field.1

fields_too : {p : Property} → IsKnownProperty p → Each KnownField (B.fields_of p)
fields_too (of_data p is) = also (record { value = is }) (also (record { value = known_truth _ }) (also (record { value = known_truth _ }) (also (record { value = known_truth _ }) none)))
fields_too (of_accessor p) =
    also (record { value = object_or_undefined_too p.get }) (also (record { value = object_or_undefined_too p.set }) (also (record { value = known_truth _ }) (also (record { value = known_truth _ }) none)))

-- a descriptor that asks for a property as it is, but for its attributes
record KeepsValues (to : Descriptor → Descriptor) : Type 0 where
  at : (d : Descriptor) → IsKnownChange d → IsKnownChange (to d)

all_fields_too : {p : Property} → IsKnownProperty p → IsKnownChange (B.all_fields p)
all_fields_too (of_data p is) = of_fields _ _ _ is
all_fields_too (of_accessor p) = record { value = nothing }

-- a built-in that is quiet where calls of values are
pub record RuleQuiet (rule : Rule) : Type 0 where
  pub at : (place : Place) {call : Value → Value → List Value → Run Value} → CallsQuiet call → {this : Value} → IsKnown this → {arguments : List Value} → Values arguments
      → Quiet IsKnown (rule (site_of place call) this arguments)

module _ (at : Place) {call : Value → Value → List Value → Run Value} (calls : CallsQuiet call) where
  -- ---- 15.2.4

  is_prototype_of_value_too : (this v : Value) → Quiet IsKnown (B.is_prototype_of_value (site_of at call) this v)
  is_prototype_of_value_too this (Object v) = bind (to_object_too at this) (λ o _. bind_any (looks_any (objects.is_prototype_of o v)) (λ is. gives (known_truth is)))
  is_prototype_of_value_too this v = gives (known_truth false)

  -- ---- 15.2.3

  make_field_too : (o : ObjNo) (field : Key × Value) → KnownField field → Quiet Any (B.make_field (site_of at call) o field)
  make_field_too o field is = bind (present_too at is.value) (λ v is. make_property_too at calls o field.0 is)

  from_descriptor_too : {p : Option Property} → Given IsKnownProperty p → Quiet IsKnown (B.from_descriptor (site_of at call) p)
  unfolding B.from_descriptor
  from_descriptor_too nothing = gives known_undefined
  from_descriptor_too (just is) = bind (make_with_too Plain object_prototype) (λ o _. bind_any (in_turns (make_field_too o) (fields_too is)) (λ _. gives (is_object o)))

  field_too : (o : ObjNo) (key : Key) → Quiet (Given IsKnown) (B.field (site_of at call) o key)
  field_too o key = bind_any (has_property_too at calls o key) (λ there. chooses there (bind (get_too at calls o key) (λ v is. gives (just is))) (gives nothing))

  tested_too : {v : Option Value} → Given IsKnown v → Quiet Any (B.tested (site_of at call) v)
  tested_too nothing = gives_any None
  tested_too (just is) = bind_any (test_too at is) (λ b. gives_any (Some b))

  flag_too : (o : ObjNo) (key : Key) → Quiet Any (B.flag (site_of at call) o key)
  flag_too o key = bind (field_too o key) (λ v is. tested_too is)

  accessor_field_too : (o : ObjNo) (key : Key) → Quiet Any (B.accessor_field (site_of at call) o key)
  accessor_field_too o key = bind (field_too o key) (λ v _. function_or_undefined_too v)

  to_descriptor_too : (attributes : Value) → Quiet IsKnownChange (B.to_descriptor (site_of at call) attributes)
  unfolding B.to_descriptor
  to_descriptor_too attributes = bind (object_argument_too attributes) (λ o _. bind_any (flag_too o (codes "enumerable")) (λ enumerable. bind_any (flag_too o (codes "configurable")) (λ configurable.
      bind (field_too o (codes "value")) (λ value is. bind_any (flag_too o (codes "writable")) (λ writable. bind_any (accessor_field_too o (codes "get")) (λ get. bind_any (accessor_field_too o (codes "set")) (λ set.
      checked_too (record { value = value; writable = writable; get = get; set = set; enumerable = enumerable; configurable = configurable }) (record { value = is }))))))))

  redefine_too : (o : ObjNo) {to : Descriptor → Descriptor} → KeepsValues to → (key : Key) {p : Option Property} → Given IsKnownProperty p → Quiet Any (B.redefine (site_of at call) o to key p)
  redefine_too o to key nothing = gives_any tt
  redefine_too o to key (just is) = define_too at calls o key (to.at _ (all_fields_too is)) true

  restrict_too : (o : ObjNo) {to : Descriptor → Descriptor} → KeepsValues to → (p : Key × Property) → Quiet Any (B.restrict (site_of at call) o to p)
  restrict_too o to p = bind_any (takes_turn at) (λ _. bind (get_own_property_too at calls o p.0) (λ now is. redefine_too o to p.0 is))

  all_pass_too : (test : Property → Bool) (ps : Properties) → Quiet Any (B.all_pass (site_of at call) test ps)
  all_pass_too test [] = gives_any true
  all_pass_too test (p ∷ ps) = bind_any (takes_turn at) (λ _. chooses (test p.1) (all_pass_too test ps) (gives_any false))

  list_keys_too : (array n : ℕ) (ps : Properties) → Quiet Any (B.list_keys (site_of at call) array n ps)
  list_keys_too array n [] = gives_any tt
  list_keys_too array n (p ∷ ps) = bind_any (takes_turn at) (λ _. chooses (is_enumerable p.1)
      (bind_any (make_property_too at calls array (decimal n) (is_primitive (primitive.Text p.0))) (λ _. list_keys_too array (n + 1) ps)) (list_keys_too array n ps))

  -- ---- 15.3.4

  items_from_too : (o left n : ℕ) {so_far : List Value} → Values so_far → Quiet Values (B.items_from (site_of at call) o left n so_far)
  items_from_too o zero n all = gives all
  items_from_too o (suc left) n all = bind_any (takes_turn at) (λ _. bind (get_too at calls o (decimal n)) (λ v is. items_from_too o left (n + 1) (joined all (also is none))))

  items_too : (v : Value) → Quiet Values (B.items (site_of at call) v)
  items_too (Prim primitive.Undefined) = gives none
  items_too (Prim primitive.Null) = gives none
  items_too v = bind (object_argument_too v) (λ o _. bind (get_too at calls o length_key) (λ l is. bind_any (to_list_length_too at is) (λ n. items_from_too o (unsigned_abs n) 0 none)))

  -- ---- 15.11

  message_too : (o : ObjNo) {v : Value} → IsKnown v → Quiet Any (to_string at v >>= (λ t. objects.define (site_of at call) o (codes "message") (data_fields t true false true) false))
  message_too o is = bind (to_string_too at is) (λ t known. define_too at calls o (codes "message") (of_fields true false true known) false)

  with_message_too : (o : ObjNo) {v : Value} → IsKnown v → Quiet Any (B.with_message (site_of at call) o v)
  with_message_too o (is_primitive primitive.Undefined) = gives_any tt
  with_message_too o (is_primitive p) = message_too o (is_primitive p)
  with_message_too o (is_object q) = message_too o (is_object q)
  with_message_too o is_absent = message_too o is_absent

-- ---- the rules

dropped : {arguments : List Value} → Values arguments → Values (drop 1 arguments)
dropped none = none
dropped (also is all) = all

pub has_own_property_too : RuleQuiet B.has_own_property
unfolding B.has_own_property
has_own_property_too = record {
  at = λ at calls {this} is values. bind_any (to_key_too at (argument_too values 0)) (λ key. bind (to_object_too at this) (λ o _. bind (get_own_property_too at calls o key) (λ p _. gives (known_truth (is_some p)))));
}

pub is_prototype_too : RuleQuiet B.is_prototype
unfolding B.is_prototype
is_prototype_too = record { at = λ at calls {this} is {arguments} values. is_prototype_of_value_too at calls this (argument arguments 0) }

pub property_is_enumerable_too : RuleQuiet B.property_is_enumerable
unfolding B.property_is_enumerable
property_is_enumerable_too = record {
  at = λ at calls {this} is values. bind_any (to_key_too at (argument_too values 0)) (λ key. bind (to_object_too at this) (λ o _. bind (get_own_property_too at calls o key) (λ p _.
      gives (known_truth (unwrap_or (option_map is_enumerable p) false)))));
}

pub get_prototype_of_too : RuleQuiet B.get_prototype_of
unfolding B.get_prototype_of
get_prototype_of_too = record {
  at = λ at calls is {arguments} values. bind (object_argument_too (argument arguments 0)) (λ o _. bind_any (looks_any (λ h. objects.prototype_of h o)) (λ prototype. gives (object_or_null_too prototype)));
}

pub get_own_property_descriptor_too : RuleQuiet B.get_own_property_descriptor
unfolding B.get_own_property_descriptor
get_own_property_descriptor_too = record {
  at = λ at calls is {arguments} values. bind (object_argument_too (argument arguments 0)) (λ o _. bind_any (to_key_too at (argument_too values 1)) (λ key.
      bind (get_own_property_too at calls o key) (λ p known. from_descriptor_too at calls known)));
}

pub create_too : RuleQuiet B.create
unfolding B.create
create_too = record {
  at = λ at calls is {arguments} values. bind_any (prototype_argument_too (argument arguments 0)) (λ prototype. bind_any (no_properties_too at (argument arguments 1)) (λ _.
      bind (makes (object_made Plain prototype)) (λ o _. gives (is_object o))));
}

pub define_property_too : RuleQuiet B.define_property
unfolding B.define_property
define_property_too = record {
  at = λ at calls is {arguments} values. bind (object_argument_too (argument arguments 0)) (λ o _. bind_any (to_key_too at (argument_too values 1)) (λ key.
      bind (to_descriptor_too at calls (argument arguments 2)) (λ d known. bind_any (define_too at calls o key known true) (λ _. gives (is_object o)))));
}

restrict_all_too : {to : Descriptor → Descriptor} → KeepsValues to → RuleQuiet (B.restrict_all to)
restrict_all_too to = record {
  at = λ at calls is {arguments} values. bind (object_argument_too (argument arguments 0)) (λ o _. bind_any (looks_any (B.properties_of o)) (λ ps.
      bind_any (in_turns_any (restrict_too at calls o to) ps) (λ _. bind_any (changes (fixed_too o)) (λ _. gives (is_object o)))));
}

pub seal_too : RuleQuiet B.seal
unfolding B.seal
seal_too = restrict_all_too {to = B.sealed} (record { at = λ d is. record { value = is.value } })

pub freeze_too : RuleQuiet B.freeze
unfolding B.freeze
freeze_too = restrict_all_too {to = B.frozen} (record { at = λ d is. record { value = is.value } })

pub prevent_extensions_too : RuleQuiet B.prevent_extensions
unfolding B.prevent_extensions
prevent_extensions_too = record { at = λ at calls is {arguments} values. bind (object_argument_too (argument arguments 0)) (λ o _. bind_any (changes (fixed_too o)) (λ _. gives (is_object o))) }

is_restricted_too : (test : Property → Bool) → RuleQuiet (B.is_restricted test)
is_restricted_too test = record {
  at = λ at calls is {arguments} values. bind (object_argument_too (argument arguments 0)) (λ o _. bind_any (looks_any (B.properties_of o)) (λ ps. bind_any (all_pass_too at calls test ps) (λ all.
      bind_any (looks_any (B.is_extensible_in o)) (λ extensible. gives (known_truth (all && not extensible))))));
}

pub is_sealed_too : RuleQuiet B.is_sealed
unfolding B.is_sealed
is_sealed_too = is_restricted_too B.is_sealed_property

pub is_frozen_too : RuleQuiet B.is_frozen
unfolding B.is_frozen
is_frozen_too = is_restricted_too B.is_frozen_property

pub is_extensible_too : RuleQuiet B.is_extensible
unfolding B.is_extensible
is_extensible_too = record {
  at = λ at calls is {arguments} values. bind (object_argument_too (argument arguments 0)) (λ o _. bind_any (looks_any (B.is_extensible_in o)) (λ extensible. gives (known_truth extensible)));
}

pub keys_too : RuleQuiet B.keys
unfolding B.keys
keys_too = record {
  at = λ at calls is {arguments} values. bind (object_argument_too (argument arguments 0)) (λ o _. bind_any (looks_any (B.properties_of o)) (λ ps.
      bind (make_with_too Array array_prototype) (λ array _. bind_any (list_keys_too at calls array 0 ps) (λ _. gives (is_object array)))));
}

pub nothing_too : RuleQuiet B.nothing
unfolding B.nothing
nothing_too = record { at = λ at calls is values. gives known_undefined }

pub call_too : RuleQuiet B.call
unfolding B.call
call_too = record {
  at = λ at calls {this} is values. bind_any (looks_any (is_callable this)) (λ callable. chooses callable (calls.at this _ _ (argument_too values 0) (dropped values)) (throw_error_too TypeError));
}

pub apply_too : RuleQuiet B.apply
unfolding B.apply
apply_too = record {
  at = λ at calls {this} is {arguments} values. bind_any (looks_any (is_callable this)) (λ callable. chooses callable
      (bind (items_too at calls (argument arguments 1)) (λ vs all. calls.at this _ vs (argument_too values 0) all)) (throw_error_too TypeError));
}

pub make_error_too : (prototype : ObjNo) → RuleQuiet (B.make_error prototype)
unfolding B.make_error
make_error_too prototype = record {
  at = λ at calls is values. bind (make_with_too Plain prototype) (λ o _. bind_any (with_message_too at calls o (argument_too values 0)) (λ _. gives (is_object o)));
}
