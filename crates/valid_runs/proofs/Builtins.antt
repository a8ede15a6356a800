-- The built-ins of objects, functions and errors are sound, where the calls of values are.
use Rattle.std.proofs.Common.{◌≡◌, refl, subst, ℕ, zero, suc, ◌+◌, ◌<◌, Bool, true, false, List, [], ◌∷◌, ◌++◌}
use Rattle.std.specs.Prelude.{◌&&◌, not, codes, drop, unsigned_abs, is_some, length, nat_lt, Option, Some, None, unwrap_or}
use Rattle.std.specs.Fmt.{decimal}
use Rattle.std.specs.Option.{option_map, option_and_then}
use Rattle.std.proofs.lemmas.Bool.{and_parts}
use Rattle.js_value.specs.declared.place.Place.{Place}
use Rattle.js_value.specs.declared.primitive.Primitive.TheVariants as primitive
use Rattle.js_value.specs.declared.why.Why.TheVariants.{BuiltinArgument}
use Rattle.plain_heap.specs.Values.{Value, Prim, Object, ObjNo, object_or_null, object_or_undefined}
use Rattle.plain_heap.specs.Heap.{Heap, Key, Property, Properties, Data, Accessor, ObjectState, is_enumerable, is_function, object_at, set_object}
use Rattle.plain_heap.specs.Methods.{Descriptor, data_fields, length_key, is_accessor, is_data}
use Rattle.plain_heap.specs.Valid.{if_some, is_value, is_valid, is_depth}
use Rattle.plain_heap.proofs.Grown.{value_kept}
use Rattle.plain_heap.proofs.Changing.{right_at}
use Rattle.plain_heap.proofs.Making.{right_parts}
use Rattle.js_machine.specs.Machine.Creating.{argument}
use Rattle.js_machine.specs.Machine.Expressions.{is_callable}
use Rattle.js_machine.specs.Machine.RealmObjects.{TypeError}
use Rattle.js_machine.specs.Machine.ObjectBuiltins as B
use Rattle.js_machine.specs.Machine.ObjectBuiltins.{Rule}
use Rattle.js_machine.specs.Machine.Objects as objects
use Rattle.js_machine.specs.Machine.Events.{Run, ◌>>=◌, Leaves, choose, give}
use Rattle.js_machine.specs.Machine.Operators.{to_string}
use Rattle.valid_runs.specs.Kept.{Keeps, IsObject, IsValue, is_primitive, is_object, is_symbol}
use Rattle.valid_runs.proofs.Growing.{less_than, ◌⊚◌, same, Each, none, also, Given, nothing, just, Values, later, later_object, later_values, value_is, function_there, prototype_there, IsProperty, IsChange, later_made, grown}
use Rattle.valid_runs.proofs.Sound.{At, Steady, Any, bind, bind_any, first, first_any, then_steady, then_steady_any, moves, on_realm, gives_same, gives_same_any, gives, gives_any, left_same, changes, makes, looks, looks_any, takes_turn, chooses, chooses_same, in_turns, in_turns_any}
use Rattle.valid_runs.proofs.Heaps.{closed, makes_plain, object_made}
use Rattle.valid_runs.proofs.Making.{argument_too}
use Rattle.valid_runs.proofs.Objects.{Calls, site_of, is_undefined, is_truth, of_fields, realm_there, make_with_too, make_plain_too, make_array_too, throw_error_too, throw_same, test_too, to_key_too, to_string_too, to_list_length_too, to_object_too, present_too, get_too, define_too, make_property_too, get_own_property_too, has_property_too}

pub object_argument_too : {s : Heap} {v : Value} → IsValue s v → Steady s (IsObject s) (B.object_argument v)
object_argument_too (is_object there) = gives_same there
object_argument_too (is_primitive p) = throw_same TypeError
object_argument_too (is_symbol t) = throw_same TypeError

prototype_argument_too : {s : Heap} {v : Value} → IsValue s v → Steady s (Given (IsObject s)) (B.prototype_argument v)
prototype_argument_too (is_object there) = gives_same (just there)
prototype_argument_too (is_primitive primitive.Null) = gives_same nothing
prototype_argument_too (is_primitive p) = throw_same TypeError
prototype_argument_too (is_symbol t) = throw_same TypeError

no_properties_too : {s : Heap} (at : Place) (v : Value) → Steady s (Any s) (B.no_properties at v)
no_properties_too at (Prim primitive.Undefined) = gives_same_any tt
no_properties_too at v = left_same (Leaves BuiltinArgument) at

inside : {s : Heap} {prototype : Option ObjNo} → Given (IsObject s) prototype → if_some (λ o. nat_lt o (length s.objects)) prototype ≡ true
inside nothing = refl
inside {s = s} (just {a = o} there) = less_than o (length s.objects) there.below

-- a getter or a setter that a descriptor asks for
record IsAsked (s : Heap) (f : Option (Option ObjNo)) : Type 0 where
  is : if_some (if_some (is_function s)) f ≡ true

later_asked : {s t : Heap} → Keeps s t → {f : Option (Option ObjNo)} → IsAsked s f → IsAsked t f
later_asked up {f = None} is = record { is = refl }
later_asked up {f = Some None} is = record { is = refl }
later_asked up {f = Some (Some f)} is = record { is = (later_made up (record { is = is.is })).is }

callable_too : {s : Heap} (f : ObjNo) (callable : Bool) → is_function s f ≡ callable → Steady s (IsAsked s) (choose callable (give (Some (Some f))) (objects.throw_error TypeError))
callable_too f true is = gives_same (record { is = is })
callable_too f false is = throw_same TypeError

function_or_undefined_too : {s : Heap} (v : Option Value) → Steady s (IsAsked s) (B.function_or_undefined v)
function_or_undefined_too None = gives_same (record { is = refl })
function_or_undefined_too (Some (Prim primitive.Undefined)) = gives_same (record { is = refl })
function_or_undefined_too {s = s} (Some (Object f)) = then_steady (looks (λ b. is_function s f ≡ b) (λ h. is_function h f) (λ fit. refl)) (λ callable is. callable_too f callable is)
function_or_undefined_too (Some v) = throw_same TypeError

checked_too : {s : Heap} {d : Descriptor} → IsChange s d → Steady s (IsChange s) (B.checked d)
checked_too {d = d} is = chooses_same (is_accessor d && is_data d) (throw_same TypeError) (gives_same is)

-- ---- the prototype of an object

object_or_null_too : {s : Heap} {o : Option ObjNo} → Given (IsObject s) o → IsValue s (object_or_null o)
object_or_null_too nothing = is_primitive primitive.Null
object_or_null_too (just there) = is_object there

prototype_given : {s : Heap} → is_valid s ≡ true → (o : ObjNo) → Given (IsObject s) (objects.prototype_of s o)
prototype_given {s = s} valid o = by_state (object_at s o) refl
  where
    by_prototype : (state : ObjectState) (p : Option ObjNo) → object_at s o ≡ Some state → state.prototype ≡ p → Given (IsObject s) p
    by_prototype state None at e = nothing
    by_prototype state (Some p) at e = just (prototype_there state.depth (subst (λ q. is_depth s state.depth q ≡ true) e (right_parts s state (right_at s o state valid at)).ends))

    by_state : (found : Option ObjectState) → object_at s o ≡ found → Given (IsObject s) (option_and_then (λ (state : ObjectState). state.prototype) found)
    by_state None e = nothing
    by_state (Some state) e = by_prototype state state.prototype e refl

object_or_undefined_too : {s : Heap} (f : Option ObjNo) → if_some (is_function s) f ≡ true → IsValue s (object_or_undefined f)
object_or_undefined_too None is = is_undefined
object_or_undefined_too (Some f) is = is_object (function_there is)

-- ---- objects that can't be extended

fixed_too : {s : Heap} (o : ObjNo) → is_valid s ≡ true → Keeps s (B.fix o s)
fixed_too {s = s} o valid = by_state (object_at s o) refl
  where
    by_state : (found : Option ObjectState) → object_at s o ≡ found → Keeps s (unwrap_or (option_map (λ (state : ObjectState). set_object o (record state { extensible = false }) s) found) s)
    by_state None e = same valid
    by_state (Some state) e = closed s o state valid e

-- ---- descriptors

-- a field of what FromPropertyDescriptor makes
record IsFieldOf (s : Heap) (field : Key × Value) : Type 0 where
  value : is_value s field.1 ≡ true

later_field : {s t : Heap} → Keeps s t → {field : Key × Value} → IsFieldOf s field → IsFieldOf t field
later_field {s = s} {t = t} up {field = field} is = record { value = value_kept s t (grown up) field.1 is.value }

fields_too : {s : Heap} (p : Property) → IsProperty s p → Each (IsFieldOf s) (B.fields_of p)
fields_too (Data p) is = also (record { value = is.is }) (also (record { value = refl }) (also (record { value = refl }) (also (record { value = refl }) none)))
fields_too {s = s} (Accessor p) is =
    let both = and_parts (if_some (is_function s) p.get) (if_some (is_function s) p.set) is.is in
    also (record { value = value_is (object_or_undefined_too {s = s} p.get both.0) }) (also (record { value = value_is (object_or_undefined_too {s = s} p.set both.1) }) (also (record { value = refl }) (also (record { value = refl }) none)))

-- a descriptor that asks for a property as it is, but for its attributes
record KeepsValues (to : Descriptor → Descriptor) : Type 0 where
  at : {s : Heap} {d : Descriptor} → IsChange s d → IsChange s (to d)

all_fields_too : {s : Heap} (p : Property) → IsProperty s p → IsChange s (B.all_fields p)
all_fields_too (Data p) is = record { value = is.is; get = refl; set = refl }
all_fields_too {s = s} (Accessor p) is = let both = and_parts (if_some (is_function s) p.get) (if_some (is_function s) p.set) is.is in record { value = refl; get = both.0; set = both.1 }

-- a built-in that is sound where calls of values are
pub record RuleSound (rule : Rule) : Type 0 where
  pub at : (place : Place) {call : Value → Value → List Value → Run Value} → Calls call → {s : Heap} {this : Value} {arguments : List Value} → IsValue s this → Values s arguments
      → At s IsValue (rule (site_of place call) this arguments)

-- what a field gives, if it is there
later_given : {s t : Heap} → Keeps s t → {v : Option Value} → Given (IsValue s) v → Given (IsValue t) v
later_given up nothing = nothing
later_given up (just is) = just (later up is)

field_is : {s : Heap} {v : Option Value} → Given (IsValue s) v → if_some (is_value s) v ≡ true
field_is nothing = refl
field_is (just is) = value_is is

IsMaybe : Heap → Option Value → Type 0
IsMaybe s v = Given (IsValue s) v

module _ (at : Place) {call : Value → Value → List Value → Run Value} (calls : Calls call) where
  -- ---- 15.2.4

  is_prototype_of_value_too : {s : Heap} {this : Value} → IsValue s this → (v : Value) → At s IsValue (B.is_prototype_of_value (site_of at call) this v)
  is_prototype_of_value_too is (Object v) = first (to_object_too at is) (λ o _. first_any (looks_any (objects.is_prototype_of o v)) (λ b. gives (is_truth b)))
  is_prototype_of_value_too is v = gives (is_truth false)

  -- ---- 15.2.3

  make_field_too : {s : Heap} (o : ObjNo) (field : Key × Value) → IsFieldOf s field → At s Any (B.make_field (site_of at call) o field)
  make_field_too o field is = first (present_too at field.1 is.value) (λ v value. make_property_too at calls o field.0 value)

  from_descriptor_too : {s : Heap} {p : Option Property} → Given (IsProperty s) p → At s IsValue (B.from_descriptor (site_of at call) p)
  unfolding B.from_descriptor
  from_descriptor_too nothing = gives is_undefined
  from_descriptor_too (just {a = p} is) = bind make_plain_too (λ t up o there. bind_any (in_turns (λ u more field value. make_field_too o field (later_field (up ⊚ more) value)) (fields_too p is)) (λ u more _. gives (is_object (later_object more there))))

  field_too : {s : Heap} {o : ObjNo} → IsObject s o → (key : Key) → At s IsMaybe (B.field (site_of at call) o key)
  unfolding IsMaybe
  field_too {o = o} there key = first_any (has_property_too at calls o key) (λ b. chooses b (bind (get_too at calls there key) (λ t up v is. gives (just is))) (gives nothing))

  tested_too : {s : Heap} (v : Option Value) → Steady s (Any s) (B.tested (site_of at call) v)
  tested_too None = gives_same_any None
  tested_too (Some v) = then_steady_any (test_too at v) (λ b. gives_same_any (Some b))

  flag_too : {s : Heap} {o : ObjNo} → IsObject s o → (key : Key) → At s Any (B.flag (site_of at call) o key)
  flag_too there key = bind (field_too there key) (λ t up v _. moves (tested_too v))

  accessor_field_too : {s : Heap} {o : ObjNo} → IsObject s o → (key : Key) → At s IsAsked (B.accessor_field (site_of at call) o key)
  accessor_field_too there key = bind (field_too there key) (λ t up v _. moves (function_or_undefined_too v))

  to_descriptor_too : {s : Heap} {attributes : Value} → IsValue s attributes → At s IsChange (B.to_descriptor (site_of at call) attributes)
  unfolding B.to_descriptor IsMaybe
  to_descriptor_too is = first (object_argument_too is) (λ o there. bind_any (flag_too there (codes "enumerable")) (λ t1 up1 enumerable. bind_any (flag_too (later_object up1 there) (codes "configurable")) (λ t2 up2 configurable.
      bind (field_too (later_object (up1 ⊚ up2) there) (codes "value")) (λ t3 up3 value value_is. bind_any (flag_too (later_object (up1 ⊚ up2 ⊚ up3) there) (codes "writable")) (λ t4 up4 writable.
      bind (accessor_field_too (later_object (up1 ⊚ up2 ⊚ up3 ⊚ up4) there) (codes "get")) (λ t5 up5 get get_is. bind (accessor_field_too (later_object (up1 ⊚ up2 ⊚ up3 ⊚ up4 ⊚ up5) there) (codes "set")) (λ t6 up6 set set_is.
      moves (checked_too {d = record { value = value; writable = writable; get = get; set = set; enumerable = enumerable; configurable = configurable }}
      (record { value = field_is (later_given (up4 ⊚ up5 ⊚ up6) value_is); get = (later_asked up6 get_is).is; set = set_is.is })))))))))

  redefine_too : {s : Heap} (o : ObjNo) {to : Descriptor → Descriptor} → KeepsValues to → (key : Key) {p : Option Property} → Given (IsProperty s) p → At s Any (B.redefine (site_of at call) o to key p)
  redefine_too o to key nothing = gives_any tt
  redefine_too o to key (just {a = p} is) = define_too at calls o key (to.at (all_fields_too p is)) true

  restrict_too : {s : Heap} (o : ObjNo) {to : Descriptor → Descriptor} → KeepsValues to → (p : Key × Property) → At s Any (B.restrict (site_of at call) o to p)
  restrict_too o to p = first_any (takes_turn at) (λ _. first (get_own_property_too at calls o p.0) (λ now is. redefine_too o to p.0 is))

  all_pass_too : {s : Heap} (test : Property → Bool) (ps : Properties) → Steady s (Any s) (B.all_pass (site_of at call) test ps)
  all_pass_too test [] = gives_same_any true
  all_pass_too test (p ∷ ps) = then_steady_any (takes_turn at) (λ _. chooses_same (test p.1) (all_pass_too test ps) (gives_same_any false))

  list_keys_too : {s : Heap} (array : ObjNo) (n : ℕ) (ps : Properties) → At s Any (B.list_keys (site_of at call) array n ps)
  list_keys_too array n [] = gives_any tt
  list_keys_too array n (p ∷ ps) = first_any (takes_turn at) (λ _. chooses (is_enumerable p.1)
      (bind_any (make_property_too at calls array (decimal n) (is_primitive (primitive.Text p.0))) (λ t up _. list_keys_too array (n + 1) ps)) (list_keys_too array n ps))

  -- ---- 15.3.4

  joined : {A : Type 0} {Is : A → Type 0} {xs ys : List A} → Each Is xs → Each Is ys → Each Is (xs ++ ys)
  joined none h = h
  joined (also is all) h = also is (joined all h)

  items_from_too : {s : Heap} {o : ObjNo} → IsObject s o → (left n : ℕ) {so_far : List Value} → Values s so_far → At s Values (B.items_from (site_of at call) o left n so_far)
  items_from_too there zero n all = gives all
  items_from_too there (suc left) n all = first_any (takes_turn at) (λ _. bind (get_too at calls there (decimal n)) (λ t up v is. items_from_too (later_object up there) left (n + 1) (joined (later_values up all) (also is none))))

  items_of_too : {s : Heap} {v : Value} → IsValue s v → At s Values (B.object_argument v >>= (λ o. objects.get (site_of at call) o length_key >>= (λ l. B.items_got (site_of at call) o l)))
  items_of_too is = first (object_argument_too is) (λ o there. bind (get_too at calls there length_key) (λ t up l _. first_any (to_list_length_too at l) (λ n. items_from_too (later_object up there) (unsigned_abs n) 0 none)))

  items_too : {s : Heap} {v : Value} → IsValue s v → At s Values (B.items (site_of at call) v)
  items_too (is_primitive primitive.Undefined) = gives none
  items_too (is_primitive primitive.Null) = gives none
  items_too (is_primitive p) = items_of_too (is_primitive p)
  items_too (is_object there) = items_of_too (is_object there)
  items_too (is_symbol t) = items_of_too (is_symbol t)

  -- ---- 15.11

  message_too : {s : Heap} (o : ObjNo) (v : Value) → At s Any (to_string at v >>= (λ t. objects.define (site_of at call) o (codes "message") (data_fields t true false true) false))
  message_too o v = first (to_string_too at v) (λ t is. define_too at calls o (codes "message") (of_fields true false true is) false)

  with_message_too : {s : Heap} (o : ObjNo) (v : Value) → At s Any (B.with_message (site_of at call) o v)
  with_message_too o (Prim primitive.Undefined) = gives_any tt
  with_message_too o v = message_too o v

-- ---- the rules

dropped : {s : Heap} {arguments : List Value} → Values s arguments → Values s (drop 1 arguments)
dropped none = none
dropped (also is all) = all

pub has_own_property_too : RuleSound B.has_own_property
unfolding B.has_own_property
has_own_property_too = record {
  at = λ at calls {arguments = arguments} is values. first_any (to_key_too at (argument arguments 0)) (λ key. first (to_object_too at is) (λ o there. first (get_own_property_too at calls o key) (λ p _. gives (is_truth (is_some p)))));
}

pub is_prototype_too : RuleSound B.is_prototype
unfolding B.is_prototype
is_prototype_too = record { at = λ at calls {arguments = arguments} is values. is_prototype_of_value_too at calls is (argument arguments 0) }

pub property_is_enumerable_too : RuleSound B.property_is_enumerable
unfolding B.property_is_enumerable
property_is_enumerable_too = record {
  at = λ at calls {arguments = arguments} is values. first_any (to_key_too at (argument arguments 0)) (λ key. first (to_object_too at is) (λ o there. first (get_own_property_too at calls o key) (λ p _.
      gives (is_truth (unwrap_or (option_map is_enumerable p) false)))));
}

pub get_prototype_of_too : RuleSound B.get_prototype_of
unfolding B.get_prototype_of
get_prototype_of_too = record {
  at = λ at calls {s} is values. first (object_argument_too (argument_too values 0)) (λ o there. first (looks (Given (IsObject s)) (λ h. objects.prototype_of h o) (λ fit. prototype_given fit.valid o)) (λ prototype given. gives (object_or_null_too given)));
}

pub get_own_property_descriptor_too : RuleSound B.get_own_property_descriptor
unfolding B.get_own_property_descriptor
get_own_property_descriptor_too = record {
  at = λ at calls {arguments = arguments} is values. first (object_argument_too (argument_too values 0)) (λ o there. first_any (to_key_too at (argument arguments 1)) (λ key.
      first (get_own_property_too at calls o key) (λ p given. from_descriptor_too at calls given)));
}

pub create_too : RuleSound B.create
unfolding B.create
create_too = record {
  at = λ at calls {s} {arguments = arguments} is values. first (prototype_argument_too (argument_too values 0)) (λ prototype given. first_any (no_properties_too at (argument arguments 1)) (λ _.
      bind (makes (λ fit. object_made s prototype makes_plain fit.valid (inside given))) (λ t up o there. gives (is_object there))));
}

pub define_property_too : RuleSound B.define_property
unfolding B.define_property
define_property_too = record {
  at = λ at calls {arguments = arguments} is values. first (object_argument_too (argument_too values 0)) (λ o there. first_any (to_key_too at (argument arguments 1)) (λ key.
      bind (to_descriptor_too at calls (argument_too values 2)) (λ t up d change. bind_any (define_too at calls o key change true) (λ u more _. gives (is_object (later_object (up ⊚ more) there))))));
}

restrict_all_too : {to : Descriptor → Descriptor} → KeepsValues to → RuleSound (B.restrict_all to)
restrict_all_too to = record {
  at = λ at calls is values. first (object_argument_too (argument_too values 0)) (λ o there. first_any (looks_any (B.properties_of o)) (λ ps.
      bind_any (in_turns_any (λ t up p. restrict_too at calls o to p) ps) (λ t up _. bind_any (changes {f = B.fix o} (λ fit. fixed_too o fit.valid)) (λ u more _. gives (is_object (later_object (up ⊚ more) there))))));
}

pub seal_too : RuleSound B.seal
unfolding B.seal
seal_too = restrict_all_too {to = B.sealed} (record { at = λ is. record { value = is.value; get = is.get; set = is.set } })

pub freeze_too : RuleSound B.freeze
unfolding B.freeze
freeze_too = restrict_all_too {to = B.frozen} (record { at = λ is. record { value = is.value; get = is.get; set = is.set } })

pub prevent_extensions_too : RuleSound B.prevent_extensions
unfolding B.prevent_extensions
prevent_extensions_too = record { at = λ at calls is values. first (object_argument_too (argument_too values 0)) (λ o there. bind_any (changes {f = B.fix o} (λ fit. fixed_too o fit.valid)) (λ t up _. gives (is_object (later_object up there)))) }

is_restricted_too : (test : Property → Bool) → RuleSound (B.is_restricted test)
is_restricted_too test = record {
  at = λ at calls is values. first (object_argument_too (argument_too values 0)) (λ o there. first_any (looks_any (B.properties_of o)) (λ ps. first_any (all_pass_too at calls test ps) (λ all.
      first_any (looks_any (B.is_extensible_in o)) (λ extensible. gives (is_truth (all && not extensible))))));
}

pub is_sealed_too : RuleSound B.is_sealed
unfolding B.is_sealed
is_sealed_too = is_restricted_too B.is_sealed_property

pub is_frozen_too : RuleSound B.is_frozen
unfolding B.is_frozen
is_frozen_too = is_restricted_too B.is_frozen_property

pub is_extensible_too : RuleSound B.is_extensible
unfolding B.is_extensible
is_extensible_too = record {
  at = λ at calls is values. first (object_argument_too (argument_too values 0)) (λ o there. first_any (looks_any (B.is_extensible_in o)) (λ extensible. gives (is_truth extensible)));
}

pub keys_too : RuleSound B.keys
unfolding B.keys
keys_too = record {
  at = λ at calls is values. first (object_argument_too (argument_too values 0)) (λ o _. first_any (looks_any (B.properties_of o)) (λ ps.
      bind make_array_too (λ t up array there. bind_any (list_keys_too at calls array 0 ps) (λ u more _. gives (is_object (later_object more there))))));
}

pub nothing_too : RuleSound B.nothing
unfolding B.nothing
nothing_too = record { at = λ at calls is values. gives is_undefined }

pub call_too : RuleSound B.call
unfolding B.call
call_too = record {
  at = λ at calls {this = this} is values. first_any (looks_any (is_callable this)) (λ callable. chooses callable (calls.at this (argument_too values 0) (dropped values)) (throw_error_too TypeError));
}

pub apply_too : RuleSound B.apply
unfolding B.apply
apply_too = record {
  at = λ at calls {this = this} is values. first_any (looks_any (is_callable this)) (λ callable. chooses callable
      (bind (items_too at calls (argument_too values 1)) (λ t up vs all. calls.at this (later up (argument_too values 0)) all)) (throw_error_too TypeError));
}

pub make_error_too : (prototype : ObjNo) → prototype < 41 → RuleSound (B.make_error prototype)
unfolding B.make_error
make_error_too prototype inside = record {
  at = λ at calls {arguments = arguments} is values. on_realm (λ fit. bind (make_with_too makes_plain (realm_there fit prototype inside)) (λ t up o there.
      bind_any (with_message_too at calls o (argument arguments 0)) (λ u more _. gives (is_object (later_object more there)))));
}
