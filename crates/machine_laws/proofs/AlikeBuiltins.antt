-- The built-ins of objects, functions and errors do alike, where the calls of values do.
use Rattle.std.proofs.Common.{ℕ, zero, suc, ◌+◌, Bool, true, false, List, [], ◌∷◌}
use Rattle.std.specs.Prelude.{◌++◌, ◌&&◌, not, codes, drop, unsigned_abs, is_some, Option, Some, None, unwrap_or}
use Rattle.std.specs.Fmt.{decimal}
use Rattle.std.specs.Option.{option_map}
use Rattle.js_value.specs.declared.place.Place.{Place}
use Rattle.js_value.specs.declared.primitive.Primitive.TheVariants as primitive
use Rattle.js_value.specs.declared.why.Why.TheVariants.{BuiltinArgument}
use Rattle.plain_heap.specs.Values.{Value, Prim, Object, ObjNo, undefined, text, truth, object_or_null}
use Rattle.plain_heap.specs.Heap.{Key, Property, Properties, Plain, Array, is_enumerable, is_function, make_object}
use Rattle.plain_heap.specs.Methods.{Descriptor, data_fields, length_key, is_accessor, is_data}
use Rattle.js_machine.specs.Machine.Expressions.{is_callable}
use Rattle.js_machine.specs.Machine.RealmObjects.{TypeError, object_prototype, array_prototype}
use Rattle.js_machine.specs.Machine.ObjectBuiltins as B
use Rattle.js_machine.specs.Machine.ObjectBuiltins.{Rule}
use Rattle.js_machine.specs.Machine.Objects as objects
use Rattle.js_machine.specs.Machine.Events.{Run}
use Rattle.machine_laws.proofs.Alike.{TreeRelation, Alike, bind, gives, left_at, changes, looks, takes_turn, chooses, in_turns, makes}
use Rattle.machine_laws.proofs.AlikeObjects.{CallsAlike, site_of, make_with_too, throw_error_too, test_too, to_key_too, to_string_too, to_list_length_too, to_object_too, present_too}
use Rattle.machine_laws.proofs.AlikeObjects.{get_too, define_too, make_property_too, get_own_property_too, has_property_too}
use Rattle.js_machine.specs.Machine.Creating.{argument}

module _ (w : TreeRelation) where
  pub object_argument_too : (v : Value) → Alike w (B.object_argument v) (B.object_argument v)
  object_argument_too (Object o) = gives w o
  object_argument_too v = throw_error_too w TypeError

  prototype_argument_too : (v : Value) → Alike w (B.prototype_argument v) (B.prototype_argument v)
  prototype_argument_too (Object o) = gives w (Some o)
  prototype_argument_too (Prim primitive.Null) = gives w None
  prototype_argument_too v = throw_error_too w TypeError

  no_properties_too : (at : Place) (v : Value) → Alike w (B.no_properties at v) (B.no_properties at v)
  no_properties_too at (Prim primitive.Undefined) = gives w tt
  no_properties_too at v = left_at w BuiltinArgument at

  function_or_undefined_too : (v : Option Value) → Alike w (B.function_or_undefined v) (B.function_or_undefined v)
  function_or_undefined_too None = gives w None
  function_or_undefined_too (Some (Prim primitive.Undefined)) = gives w (Some None)
  function_or_undefined_too (Some (Object f)) = bind w (looks w (λ h. is_function h f)) (λ callable. chooses w callable (gives w (Some (Some f))) (throw_error_too w TypeError))
  function_or_undefined_too (Some v) = throw_error_too w TypeError

  checked_too : (d : Descriptor) → Alike w (B.checked d) (B.checked d)
  checked_too d = chooses w (is_accessor d && is_data d) (throw_error_too w TypeError) (gives w d)

-- a built-in that does alike at two sites whose calls of values do
pub record RuleAlike (w : TreeRelation) (rule : Rule) : Type 0 where
  pub at : (place : Place) {call other : Value → Value → List Value → Run Value} → CallsAlike w call other → (this : Value) (arguments : List Value)
      → Alike w (rule (site_of place call) this arguments) (rule (site_of place other) this arguments)

module _ (w : TreeRelation) (at : Place) {call other : Value → Value → List Value → Run Value} (calls : CallsAlike w call other) where
  -- ---- 15.2.4

  is_prototype_of_value_too : (this v : Value) → Alike w (B.is_prototype_of_value (site_of at call) this v) (B.is_prototype_of_value (site_of at other) this v)
  is_prototype_of_value_too this (Object v) = bind w (to_object_too w at this) (λ o. bind w (looks w (objects.is_prototype_of o v)) (λ is. gives w (truth is)))
  is_prototype_of_value_too this v = gives w (truth false)

  -- ---- 15.2.3

  make_field_too : (o : ObjNo) (field : Key × Value) → Alike w (B.make_field (site_of at call) o field) (B.make_field (site_of at other) o field)
  make_field_too o field = bind w (present_too w at field.1) (λ v. make_property_too w at calls o field.0 v)

  from_descriptor_too : (p : Option Property) → Alike w (B.from_descriptor (site_of at call) p) (B.from_descriptor (site_of at other) p)
  unfolding B.from_descriptor
  from_descriptor_too None = gives w undefined
  from_descriptor_too (Some p) = bind w (make_with_too w Plain object_prototype) (λ o. bind w (in_turns w (make_field_too o) (B.fields_of p)) (λ _. gives w (Object o)))

  field_too : (o : ObjNo) (key : Key) → Alike w (B.field (site_of at call) o key) (B.field (site_of at other) o key)
  field_too o key = bind w (has_property_too w at calls o key) (λ there. chooses w there (bind w (get_too w at calls o key) (λ v. gives w (Some v))) (gives w None))

  tested_too : (v : Option Value) → Alike w (B.tested (site_of at call) v) (B.tested (site_of at other) v)
  tested_too None = gives w None
  tested_too (Some v) = bind w (test_too w at v) (λ b. gives w (Some b))

  flag_too : (o : ObjNo) (key : Key) → Alike w (B.flag (site_of at call) o key) (B.flag (site_of at other) o key)
  flag_too o key = bind w (field_too o key) (λ v. tested_too v)

  accessor_field_too : (o : ObjNo) (key : Key) → Alike w (B.accessor_field (site_of at call) o key) (B.accessor_field (site_of at other) o key)
  accessor_field_too o key = bind w (field_too o key) (λ v. function_or_undefined_too w v)

  to_descriptor_too : (attributes : Value) → Alike w (B.to_descriptor (site_of at call) attributes) (B.to_descriptor (site_of at other) attributes)
  unfolding B.to_descriptor
  to_descriptor_too attributes = bind w (object_argument_too w attributes) (λ o. bind w (flag_too o (codes "enumerable")) (λ enumerable. bind w (flag_too o (codes "configurable")) (λ configurable.
      bind w (field_too o (codes "value")) (λ value. bind w (flag_too o (codes "writable")) (λ writable. bind w (accessor_field_too o (codes "get")) (λ get. bind w (accessor_field_too o (codes "set")) (λ set.
      checked_too w (record { value = value; writable = writable; get = get; set = set; enumerable = enumerable; configurable = configurable }))))))))

  redefine_too : (o : ObjNo) (to : Descriptor → Descriptor) (key : Key) (p : Option Property) → Alike w (B.redefine (site_of at call) o to key p) (B.redefine (site_of at other) o to key p)
  redefine_too o to key None = gives w tt
  redefine_too o to key (Some p) = define_too w at calls o key (to (B.all_fields p)) true

  restrict_too : (o : ObjNo) (to : Descriptor → Descriptor) (p : Key × Property) → Alike w (B.restrict (site_of at call) o to p) (B.restrict (site_of at other) o to p)
  restrict_too o to p = bind w (takes_turn w at) (λ _. bind w (get_own_property_too w at calls o p.0) (λ now. redefine_too o to p.0 now))

  all_pass_too : (test : Property → Bool) (ps : Properties) → Alike w (B.all_pass (site_of at call) test ps) (B.all_pass (site_of at other) test ps)
  all_pass_too test [] = gives w true
  all_pass_too test (p ∷ ps) = bind w (takes_turn w at) (λ _. chooses w (test p.1) (all_pass_too test ps) (gives w false))

  list_keys_too : (array n : ℕ) (ps : Properties) → Alike w (B.list_keys (site_of at call) array n ps) (B.list_keys (site_of at other) array n ps)
  list_keys_too array n [] = gives w tt
  list_keys_too array n (p ∷ ps) = bind w (takes_turn w at) (λ _. chooses w (is_enumerable p.1)
      (bind w (make_property_too w at calls array (decimal n) (text p.0)) (λ _. list_keys_too array (n + 1) ps)) (list_keys_too array n ps))

  -- ---- 15.3.4

  items_from_too : (o left n : ℕ) (so_far : List Value) → Alike w (B.items_from (site_of at call) o left n so_far) (B.items_from (site_of at other) o left n so_far)
  items_from_too o zero n so_far = gives w so_far
  items_from_too o (suc left) n so_far = bind w (takes_turn w at) (λ _. bind w (get_too w at calls o (decimal n)) (λ v. items_from_too o left (n + 1) (so_far ++ (v ∷ []))))

  items_too : (v : Value) → Alike w (B.items (site_of at call) v) (B.items (site_of at other) v)
  items_too (Prim primitive.Undefined) = gives w []
  items_too (Prim primitive.Null) = gives w []
  items_too v = bind w (object_argument_too w v) (λ o. bind w (get_too w at calls o length_key) (λ l. bind w (to_list_length_too w at l) (λ n. items_from_too o (unsigned_abs n) 0 [])))

  -- ---- 15.11

  with_message_too : (o : ObjNo) (v : Value) → Alike w (B.with_message (site_of at call) o v) (B.with_message (site_of at other) o v)
  with_message_too o (Prim primitive.Undefined) = gives w tt
  with_message_too o v = bind w (to_string_too w at v) (λ t. define_too w at calls o (codes "message") (data_fields t true false true) false)

module _ (w : TreeRelation) where
  -- ---- the rules

  pub has_own_property_too : RuleAlike w B.has_own_property
  unfolding B.has_own_property
  has_own_property_too = record {
    at = λ at calls this arguments. bind w (to_key_too w at (argument arguments 0)) (λ key. bind w (to_object_too w at this) (λ o. bind w (get_own_property_too w at calls o key) (λ p. gives w (truth (is_some p)))));
  }

  pub is_prototype_too : RuleAlike w B.is_prototype
  unfolding B.is_prototype
  is_prototype_too = record { at = λ at calls this arguments. is_prototype_of_value_too w at calls this (argument arguments 0) }

  pub property_is_enumerable_too : RuleAlike w B.property_is_enumerable
  unfolding B.property_is_enumerable
  property_is_enumerable_too = record {
    at = λ at calls this arguments. bind w (to_key_too w at (argument arguments 0)) (λ key. bind w (to_object_too w at this) (λ o.
        bind w (get_own_property_too w at calls o key) (λ p. gives w (truth (unwrap_or (option_map is_enumerable p) false)))));
  }

  pub get_prototype_of_too : RuleAlike w B.get_prototype_of
  unfolding B.get_prototype_of
  get_prototype_of_too = record {
    at = λ at calls this arguments. bind w (object_argument_too w (argument arguments 0)) (λ o. bind w (looks w (λ h. objects.prototype_of h o)) (λ prototype. gives w (object_or_null prototype)));
  }

  pub get_own_property_descriptor_too : RuleAlike w B.get_own_property_descriptor
  unfolding B.get_own_property_descriptor
  get_own_property_descriptor_too = record {
    at = λ at calls this arguments. bind w (object_argument_too w (argument arguments 0)) (λ o. bind w (to_key_too w at (argument arguments 1)) (λ key.
        bind w (get_own_property_too w at calls o key) (λ p. from_descriptor_too w at calls p)));
  }

  pub create_too : RuleAlike w B.create
  unfolding B.create
  create_too = record {
    at = λ at calls this arguments. bind w (prototype_argument_too w (argument arguments 0)) (λ prototype. bind w (no_properties_too w at (argument arguments 1)) (λ _.
        bind w (makes w (make_object Plain prototype)) (λ o. gives w (Object o))));
  }

  pub define_property_too : RuleAlike w B.define_property
  unfolding B.define_property
  define_property_too = record {
    at = λ at calls this arguments. bind w (object_argument_too w (argument arguments 0)) (λ o. bind w (to_key_too w at (argument arguments 1)) (λ key.
        bind w (to_descriptor_too w at calls (argument arguments 2)) (λ d. bind w (define_too w at calls o key d true) (λ _. gives w (Object o)))));
  }

  restrict_all_too : (to : Descriptor → Descriptor) → RuleAlike w (B.restrict_all to)
  restrict_all_too to = record {
    at = λ at calls this arguments. bind w (object_argument_too w (argument arguments 0)) (λ o. bind w (looks w (B.properties_of o)) (λ ps.
        bind w (in_turns w (restrict_too w at calls o to) ps) (λ _. bind w (changes w (B.fix o)) (λ _. gives w (Object o)))));
  }

  pub seal_too : RuleAlike w B.seal
  unfolding B.seal
  seal_too = restrict_all_too B.sealed

  pub freeze_too : RuleAlike w B.freeze
  unfolding B.freeze
  freeze_too = restrict_all_too B.frozen

  pub prevent_extensions_too : RuleAlike w B.prevent_extensions
  unfolding B.prevent_extensions
  prevent_extensions_too = record {
    at = λ at calls this arguments. bind w (object_argument_too w (argument arguments 0)) (λ o. bind w (changes w (B.fix o)) (λ _. gives w (Object o)));
  }

  is_restricted_too : (test : Property → Bool) → RuleAlike w (B.is_restricted test)
  is_restricted_too test = record {
    at = λ at calls this arguments. bind w (object_argument_too w (argument arguments 0)) (λ o. bind w (looks w (B.properties_of o)) (λ ps. bind w (all_pass_too w at calls test ps) (λ all.
        bind w (looks w (B.is_extensible_in o)) (λ extensible. gives w (truth (all && not extensible))))));
  }

  pub is_sealed_too : RuleAlike w B.is_sealed
  unfolding B.is_sealed
  is_sealed_too = is_restricted_too B.is_sealed_property

  pub is_frozen_too : RuleAlike w B.is_frozen
  unfolding B.is_frozen
  is_frozen_too = is_restricted_too B.is_frozen_property

  pub is_extensible_too : RuleAlike w B.is_extensible
  unfolding B.is_extensible
  is_extensible_too = record {
    at = λ at calls this arguments. bind w (object_argument_too w (argument arguments 0)) (λ o. bind w (looks w (B.is_extensible_in o)) (λ extensible. gives w (truth extensible)));
  }

  pub keys_too : RuleAlike w B.keys
  unfolding B.keys
  keys_too = record {
    at = λ at calls this arguments. bind w (object_argument_too w (argument arguments 0)) (λ o. bind w (looks w (B.properties_of o)) (λ ps.
        bind w (make_with_too w Array array_prototype) (λ array. bind w (list_keys_too w at calls array 0 ps) (λ _. gives w (Object array)))));
  }

  pub nothing_too : RuleAlike w B.nothing
  unfolding B.nothing
  nothing_too = record { at = λ at calls this arguments. gives w undefined }

  pub call_too : RuleAlike w B.call
  unfolding B.call
  call_too = record {
    at = λ at calls this arguments. bind w (looks w (is_callable this)) (λ callable. chooses w callable (calls.at this (argument arguments 0) (drop 1 arguments)) (throw_error_too w TypeError));
  }

  pub apply_too : RuleAlike w B.apply
  unfolding B.apply
  apply_too = record {
    at = λ at calls this arguments. bind w (looks w (is_callable this)) (λ callable. chooses w callable
        (bind w (items_too w at calls (argument arguments 1)) (λ vs. calls.at this (argument arguments 0) vs)) (throw_error_too w TypeError));
  }

  pub make_error_too : (prototype : ObjNo) → RuleAlike w (B.make_error prototype)
  unfolding B.make_error
  make_error_too prototype = record {
    at = λ at calls this arguments. bind w (make_with_too w Plain prototype) (λ o. bind w (with_message_too w at calls o (argument arguments 0)) (λ _. gives w (Object o)));
  }
