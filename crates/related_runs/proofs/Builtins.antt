-- The built-ins of objects, functions and errors (15.2, 15.3, 15.11), in two runs that go together where the calls of values do.
use Rattle.std.proofs.Common.{◌≡◌, refl, ap, subst, ℕ, zero, suc, ◌+◌, Bool, true, false, List, [], arith}
use Rattle.std.specs.Prelude.{◌&&◌, not, codes, drop, unsigned_abs, unwrap_or, Option, Some, None}
use Rattle.std.specs.Fmt.{decimal}
use Rattle.std.specs.Option.{option_map}
use Rattle.js_value.specs.declared.place.Place.{Place}
use Rattle.js_value.specs.declared.primitive.Primitive.TheVariants as primitive
use Rattle.js_value.specs.declared.why.Why.TheVariants.{BuiltinArgument}
use Rattle.plain_heap.specs.Values.{Value, Prim, ObjNo, text, truth, object_or_null, object_or_undefined}
use Rattle.plain_heap.specs.Heap.{Key, Property, Properties, Plain, Heap, ObjectState, is_enumerable, is_array_class, set_object}
use Rattle.plain_heap.specs.Methods.{Descriptor, data_fields, length_key, is_accessor, is_data}
use Rattle.js_machine.specs.Machine.RealmObjects.{TypeError}
use Rattle.js_machine.specs.Machine.ObjectBuiltins as B
use Rattle.js_machine.specs.Machine.ObjectBuiltins.{Rule}
use Rattle.js_machine.specs.Machine.Objects as O
use Rattle.js_machine.specs.Machine.Operators as P
use Rattle.js_machine.specs.Machine.Events.{Run, ◌>>=◌, give, look, change, choose}
use Rattle.related_states.specs.Related.{Correspondence, BothOption, nothing, just, BothEach, none, also, SameValue, known, object, SameHeld, held, SameProperty, same_data, same_accessor, SameEntry, entry, SameState, same_state, same_plain, SameDescriptor, same_fields, SameHeaps}
use Rattle.related_states.proofs.Properties.{some_both, configurable_both, enumerable_both, accessor_same, data_same}
use Rattle.related_states.proofs.Heaps.{function_same, set_object_both}
use Rattle.related_runs.proofs.Related.{TreeRelation, Together, Equal, bind, bind_same, gives, gives_same, left_at, looks, changes, takes_turn, chooses, in_turns}
use Rattle.related_runs.proofs.Operators.{is_boolean, is_number, is_text, Meanings, Seen, plain, objects, symbol, see, test_both, to_key_both, to_string_both, to_list_length_both}
use Rattle.related_runs.proofs.Objects.{CallsTogether, site_of, make_object_both, make_with_both, make_plain_both, make_array_both, throw_error_both, to_object_both, present_both}
use Rattle.related_runs.proofs.Objects as R
use Rattle.related_runs.proofs.Expressions.{callable_both}
use Rattle.related_runs.proofs.Creating.{argument_both}
use Rattle.related_runs.proofs.Statements.{joined_both}
use Rattle.related_runs.proofs.Enumerations.{prototype_same, prototype_of_both}
use Rattle.related_runs.proofs.Arrays.{RuleTogether}

pub drop_both : {x : Correspondence} {vs us : List Value} → BothEach (SameValue x) vs us → (n : ℕ) → BothEach (SameValue x) (drop n vs) (drop n us)
drop_both none zero = none
drop_both none (suc n) = none
drop_both (also v all) zero = also v all
drop_both (also v all) (suc n) = drop_both all n

truth_both : {x : Correspondence} {b c : Bool} → b ≡ c → SameValue x (truth b) (truth c)
truth_both {x = x} {b = b} e = subst (λ c. SameValue x (truth b) (truth c)) e (known _)

module _ {x : Correspondence} (w : TreeRelation x) (m : Meanings x) (at place : Place) where
  object_argument_seen : {v u : Value} → Seen x v u → Together w x.Objects (B.object_argument v) (B.object_argument u)
  object_argument_seen (objects r) = gives w r
  object_argument_seen (plain p) = throw_error_both w m TypeError
  object_argument_seen (symbol k d) = throw_error_both w m TypeError

  object_argument_both : {v u : Value} → SameValue x v u → Together w x.Objects (B.object_argument v) (B.object_argument u)
  object_argument_both r = object_argument_seen (see m r)

  prototype_argument_seen : {v u : Value} → Seen x v u → Together w (BothOption x.Objects) (B.prototype_argument v) (B.prototype_argument u)
  prototype_argument_seen (objects r) = gives w (just r)
  prototype_argument_seen (plain primitive.Null) = gives w nothing
  prototype_argument_seen (plain primitive.Undefined) = throw_error_both w m TypeError
  prototype_argument_seen (plain (primitive.Boolean b)) = throw_error_both w m TypeError
  prototype_argument_seen (plain (primitive.Number n)) = throw_error_both w m TypeError
  prototype_argument_seen (plain (primitive.Text t)) = throw_error_both w m TypeError
  prototype_argument_seen (symbol (is_boolean b) d) = throw_error_both w m TypeError
  prototype_argument_seen (symbol (is_number n) d) = throw_error_both w m TypeError
  prototype_argument_seen (symbol (is_text t) d) = throw_error_both w m TypeError

  no_properties_seen : {v u : Value} → Seen x v u → Together w Equal (B.no_properties at v) (B.no_properties place u)
  no_properties_seen (objects r) = left_at w BuiltinArgument at place
  no_properties_seen (plain primitive.Undefined) = gives_same w tt
  no_properties_seen (plain primitive.Null) = left_at w BuiltinArgument at place
  no_properties_seen (plain (primitive.Boolean b)) = left_at w BuiltinArgument at place
  no_properties_seen (plain (primitive.Number n)) = left_at w BuiltinArgument at place
  no_properties_seen (plain (primitive.Text t)) = left_at w BuiltinArgument at place
  no_properties_seen (symbol (is_boolean b) d) = left_at w BuiltinArgument at place
  no_properties_seen (symbol (is_number n) d) = left_at w BuiltinArgument at place
  no_properties_seen (symbol (is_text t) d) = left_at w BuiltinArgument at place

  function_seen : {v u : Value} → Seen x v u → Together w (BothOption (BothOption x.Objects)) (B.function_or_undefined (Some v)) (B.function_or_undefined (Some u))
  function_seen (objects f) = bind_same w (looks w (λ h g same. function_same x h g same f)) (λ callable. chooses w callable (gives w (just (just f))) (throw_error_both w m TypeError))
  function_seen (plain primitive.Undefined) = gives w (just nothing)
  function_seen (plain primitive.Null) = throw_error_both w m TypeError
  function_seen (plain (primitive.Boolean b)) = throw_error_both w m TypeError
  function_seen (plain (primitive.Number n)) = throw_error_both w m TypeError
  function_seen (plain (primitive.Text t)) = throw_error_both w m TypeError
  function_seen (symbol (is_boolean b) d) = throw_error_both w m TypeError
  function_seen (symbol (is_number n) d) = throw_error_both w m TypeError
  function_seen (symbol (is_text t) d) = throw_error_both w m TypeError

  function_or_undefined_both : {v u : Option Value} → BothOption (SameValue x) v u → Together w (BothOption (BothOption x.Objects)) (B.function_or_undefined v) (B.function_or_undefined u)
  function_or_undefined_both nothing = gives w nothing
  function_or_undefined_both (just v) = function_seen (see m v)

  checked_descriptor : (d e : Descriptor) → SameDescriptor x d e → Together w (SameDescriptor x) (B.checked d) (B.checked e)
  checked_descriptor d e fields = subst (λ t. Together w (SameDescriptor x) (B.checked d) (choose t (O.throw_error TypeError) (give e))) (rw (accessor_same x fields, data_same x fields) refl)
      (chooses w (is_accessor d && is_data d) (throw_error_both w m TypeError) (gives w fields))

  fixed_state : {o q : ObjNo} → x.Objects o q → (h g : Heap) → SameHeaps x h g → {a b : Option ObjectState} → BothOption (SameState x) a b
      → SameHeaps x (unwrap_or (option_map (λ (state : ObjectState). set_object o (record state { extensible = false }) h) a) h) (unwrap_or (option_map (λ (state : ObjectState). set_object q (record state { extensible = false }) g) b) g)
  fixed_state r h g same nothing = same
  fixed_state r h g same (just (same_state c p dp e ps)) = set_object_both x h g same r (same_state c p dp false ps)

  fix_both : {o q : ObjNo} → x.Objects o q → Together w Equal (change (B.fix o)) (change (B.fix q))
  fix_both r = changes w (λ h g same. fixed_state r h g same (same.objects _ _ r))

  plain_entries : (array : Bool) {ps qs : Properties} → BothEach (SameEntry x array) ps qs → BothEach (SameEntry x false) ps qs
  plain_entries array none = none
  plain_entries array (also (entry k h n) all) = also (entry k h (λ e. absurd (no_truth e))) (plain_entries array all)
    where
      no_truth : false ≡ true → ⊥
      no_truth e = grind (arith, e)

  entries_of : {a b : Option ObjectState} → BothOption (SameState x) a b
      → BothEach (SameEntry x false) (unwrap_or (option_map (λ (state : ObjectState). state.properties) a) []) (unwrap_or (option_map (λ (state : ObjectState). state.properties) b) [])
  entries_of nothing = none
  entries_of (just (same_state {c = class} c p dp e ps)) = plain_entries (is_array_class class) ps

  properties_both : {o q : ObjNo} → x.Objects o q → Together w (BothEach (SameEntry x false)) (look (B.properties_of o)) (look (B.properties_of q))
  properties_both r = looks w (λ h g same. entries_of (same.objects _ _ r))

  extensible_of : {a b : Option ObjectState} → BothOption (SameState x) a b → unwrap_or (option_map (λ (state : ObjectState). state.extensible) a) false ≡ unwrap_or (option_map (λ (state : ObjectState). state.extensible) b) false
  extensible_of nothing = refl
  extensible_of (just (same_state c p dp e ps)) = refl

  extensible_both : {o q : ObjNo} → x.Objects o q → Together w Equal (look (B.is_extensible_in o)) (look (B.is_extensible_in q))
  extensible_both r = looks w (λ h g same. extensible_of (same.objects _ _ r))

  all_fields_both : {p q : Property} → SameProperty x p q → SameDescriptor x (B.all_fields p) (B.all_fields q)
  all_fields_both (same_data h w' e c) = same_fields (just h) (Some w') nothing nothing (Some e) (Some c)
  all_fields_both (same_accessor g s e c) = same_fields nothing None (just g) (just s) (Some e) (Some c)

  or_null_both : {a b : Option ObjNo} → BothOption x.Objects a b → SameValue x (object_or_null a) (object_or_null b)
  or_null_both nothing = known _
  or_null_both (just r) = object r

  or_undefined_both : {a b : Option ObjNo} → BothOption x.Objects a b → SameValue x (object_or_undefined a) (object_or_undefined b)
  or_undefined_both nothing = known _
  or_undefined_both (just r) = object r

  -- a field of a descriptor as an object
  data SameField : Key × Value → Key × Value → Type 0 where
    same_field : (key : Key) {v u : Value} → SameHeld x v u → SameField (key, v) (key, u)

  fields_both : {p q : Property} → SameProperty x p q → BothEach SameField (B.fields_of p) (B.fields_of q)
  fields_both (same_data h w' e c) = also (same_field _ h) (also (same_field _ (held (known _))) (also (same_field _ (held (known _))) (also (same_field _ (held (known _))) none)))
  fields_both (same_accessor g s e c) = also (same_field _ (held (or_undefined_both g))) (also (same_field _ (held (or_undefined_both s))) (also (same_field _ (held (known _))) (also (same_field _ (held (known _))) none)))

module _ {x : Correspondence} (w : TreeRelation x) (m : Meanings x) (at place : Place) {call other : Value → Value → List Value → Run Value} (calls : CallsTogether w call other) where
  -- ---- 15.2.4

  is_prototype_of_value_both : {this that : Value} → SameValue x this that → {v u : Value} → Seen x v u → Together w (SameValue x) (B.is_prototype_of_value (site_of at call) this v) (B.is_prototype_of_value (site_of place other) that u)
  is_prototype_of_value_both this (objects v) = bind w (to_object_both w m at place this) (λ o q r. bind_same w (looks w (λ h g same. prototype_same x h g same r v)) (λ is. gives w (known (primitive.Boolean is))))
  is_prototype_of_value_both this (plain p) = gives w (known _)
  is_prototype_of_value_both this (symbol k d) = gives w (known _)

  -- ---- 15.2.3

  make_field_both : {o q : ObjNo} → x.Objects o q → (f g : Key × Value) → SameField w m at place f g → Together w Equal (B.make_field (site_of at call) o f) (B.make_field (site_of place other) q g)
  make_field_both r _ _ (same_field key v) = bind w (present_both w m at place v) (λ _ _ value. R.make_property_both w m at place calls r key value)

  from_descriptor_both : {p q : Option Property} → BothOption (SameProperty x) p q → Together w (SameValue x) (B.from_descriptor (site_of at call) p) (B.from_descriptor (site_of place other) q)
  unfolding B.from_descriptor
  from_descriptor_both nothing = gives w (known _)
  from_descriptor_both (just p) = bind w (make_plain_both w m) (λ o q r. bind w (in_turns w (make_field_both r) (fields_both w m at place p)) (λ _ _ _. gives w (object r)))

  field_both : {o q : ObjNo} → x.Objects o q → (key : Key) → Together w (BothOption (SameValue x)) (B.field (site_of at call) o key) (B.field (site_of place other) q key)
  field_both r key = bind_same w (R.has_property_both w m at place calls r key) (λ there. chooses w there (bind w (R.get_both_runs w m at place calls r key) (λ _ _ v. gives w (just v))) (gives w nothing))

  tested_both : {v u : Option Value} → BothOption (SameValue x) v u → Together w Equal (B.tested (site_of at call) v) (B.tested (site_of place other) u)
  tested_both nothing = gives_same w None
  tested_both (just v) = bind_same w (test_both w m at place v) (λ b. gives_same w (Some b))

  flag_both : {o q : ObjNo} → x.Objects o q → (key : Key) → Together w Equal (B.flag (site_of at call) o key) (B.flag (site_of place other) q key)
  flag_both r key = bind w (field_both r key) (λ _ _ v. tested_both v)

  accessor_field_both : {o q : ObjNo} → x.Objects o q → (key : Key) → Together w (BothOption (BothOption x.Objects)) (B.accessor_field (site_of at call) o key) (B.accessor_field (site_of place other) q key)
  accessor_field_both r key = bind w (field_both r key) (λ _ _ v. function_or_undefined_both w m at place v)

  held_option : {v u : Option Value} → BothOption (SameValue x) v u → BothOption (SameHeld x) v u
  held_option nothing = nothing
  held_option (just v) = just (held v)

  to_descriptor_both : {v u : Value} → SameValue x v u → Together w (SameDescriptor x) (B.to_descriptor (site_of at call) v) (B.to_descriptor (site_of place other) u)
  unfolding B.to_descriptor
  to_descriptor_both v = bind w (object_argument_both w m at place v) (λ o q r. bind_same w (flag_both r (codes "enumerable")) (λ e. bind_same w (flag_both r (codes "configurable")) (λ c.
      bind w (field_both r (codes "value")) (λ _ _ value. bind_same w (flag_both r (codes "writable")) (λ n. bind w (accessor_field_both r (codes "get")) (λ _ _ get. bind w (accessor_field_both r (codes "set")) (λ _ _ set.
      checked_descriptor w m at place _ _ (same_fields (held_option value) n get set e c))))))))

  redefine_both : {o q : ObjNo} → x.Objects o q → (to : Descriptor → Descriptor) → ((d e : Descriptor) → SameDescriptor x d e → SameDescriptor x (to d) (to e)) → (key : Key) {p r : Option Property} → BothOption (SameProperty x) p r
      → Together w Equal (B.redefine (site_of at call) o to key p) (B.redefine (site_of place other) q to key r)
  redefine_both r to keep key nothing = gives_same w tt
  redefine_both r to keep key (just p) = R.define_runs w m at place calls r key (keep _ _ (all_fields_both w m at place p)) true

  restrict_both : {o q : ObjNo} → x.Objects o q → (to : Descriptor → Descriptor) → ((d e : Descriptor) → SameDescriptor x d e → SameDescriptor x (to d) (to e)) → (p r : Key × Property) → SameEntry x false p r
      → Together w Equal (B.restrict (site_of at call) o to p) (B.restrict (site_of place other) q to r)
  restrict_both r to keep _ _ (entry key h n) = bind w (takes_turn w at place) (λ _ _ _. bind w (R.get_own_property_both w m at place calls r key) (λ _ _ now. redefine_both r to keep key now))

  all_pass_both : (test : Property → Bool) → ((p q : Property) → SameProperty x p q → test p ≡ test q) → {ps qs : Properties} → BothEach (SameEntry x false) ps qs
      → Together w Equal (B.all_pass (site_of at call) test ps) (B.all_pass (site_of place other) test qs)
  all_pass_both test keep none = gives_same w true
  all_pass_both test keep (also {xs = ps} {ys = qs} (entry k {p = p} {q = q} h n) all) = bind w (takes_turn w at place) (λ _ _ _.
      subst (λ t. Together w Equal (choose (test p) (B.all_pass (site_of at call) test ps) (give false)) (choose t (B.all_pass (site_of place other) test qs) (give false))) (keep p q h)
      (chooses w (test p) (all_pass_both test keep all) (gives_same w false)))

  list_keys_both : {o q : ObjNo} → x.Objects o q → (n : ℕ) {ps qs : Properties} → BothEach (SameEntry x false) ps qs → Together w Equal (B.list_keys (site_of at call) o n ps) (B.list_keys (site_of place other) q n qs)
  list_keys_both r n none = gives_same w tt
  list_keys_both {o = o} {q = q} r n (also {xs = ps} {ys = qs} (entry k {p = p} {q = s} h i) all) = bind w (takes_turn w at place) (λ _ _ _.
      subst (λ t. Together w Equal (choose (is_enumerable p) (O.make_property (site_of at call) o (decimal n) (text k) >>= (λ _. B.list_keys (site_of at call) o (n + 1) ps)) (B.list_keys (site_of at call) o n ps))
      (choose t (O.make_property (site_of place other) q (decimal n) (text k) >>= (λ _. B.list_keys (site_of place other) q (n + 1) qs)) (B.list_keys (site_of place other) q n qs))) (enumerable_both x h)
      (chooses w (is_enumerable p) (bind w (R.make_property_both w m at place calls r (decimal n) (known (primitive.Text k))) (λ _ _ _. list_keys_both r (n + 1) all)) (list_keys_both r n all)))

  -- ---- 15.3.4

  items_from_both : {o q : ObjNo} → x.Objects o q → (left n : ℕ) {vs us : List Value} → BothEach (SameValue x) vs us → Together w (BothEach (SameValue x)) (B.items_from (site_of at call) o left n vs) (B.items_from (site_of place other) q left n us)
  items_from_both r zero n so_far = gives w so_far
  items_from_both r (suc left) n so_far = bind w (takes_turn w at place) (λ _ _ _. bind w (R.get_both_runs w m at place calls r (decimal n)) (λ _ _ v. items_from_both r left (n + 1) (joined_both so_far (also v none))))

  items_both : {v u : Value} → Seen x v u → Together w (BothEach (SameValue x)) (B.items (site_of at call) v) (B.items (site_of place other) u)
  items_both (plain primitive.Undefined) = gives w none
  items_both (plain primitive.Null) = gives w none
  items_both (plain (primitive.Boolean b)) = throw_error_both w m TypeError
  items_both (plain (primitive.Number n)) = throw_error_both w m TypeError
  items_both (plain (primitive.Text t)) = throw_error_both w m TypeError
  items_both (objects r) = bind w (R.get_both_runs w m at place calls r length_key) (λ _ _ l. bind_same w (to_list_length_both w m at place l) (λ n. items_from_both r (unsigned_abs n) 0 none))
  items_both (symbol (is_boolean b) d) = throw_error_both w m TypeError
  items_both (symbol (is_number n) d) = throw_error_both w m TypeError
  items_both (symbol (is_text t) d) = throw_error_both w m TypeError

  -- ---- 15.11

  told : {o q : ObjNo} → x.Objects o q → {v u : Value} → SameValue x v u
      → Together w Equal (P.to_string at v >>= (λ t. O.define (site_of at call) o (codes "message") (data_fields t true false true) false)) (P.to_string place u >>= (λ t. O.define (site_of place other) q (codes "message") (data_fields t true false true) false))
  told r v = bind w (to_string_both w m at place v) (λ _ _ t. R.define_runs w m at place calls r (codes "message") (same_fields (just (held t)) (Some true) nothing nothing (Some false) (Some true)) false)

  with_message_seen : {o q : ObjNo} → x.Objects o q → {v u : Value} → Seen x v u → SameValue x v u → Together w Equal (B.with_message (site_of at call) o v) (B.with_message (site_of place other) q u)
  with_message_seen r (plain primitive.Undefined) v = gives_same w tt
  with_message_seen r (plain primitive.Null) v = told r v
  with_message_seen r (plain (primitive.Boolean b)) v = told r v
  with_message_seen r (plain (primitive.Number n)) v = told r v
  with_message_seen r (plain (primitive.Text t)) v = told r v
  with_message_seen r (objects s) v = told r v
  with_message_seen r (symbol (is_boolean b) d) v = told r v
  with_message_seen r (symbol (is_number n) d) v = told r v
  with_message_seen r (symbol (is_text t) d) v = told r v

module _ {x : Correspondence} (w : TreeRelation x) (m : Meanings x) where
  -- ---- the rules

  pub has_own_property_both : RuleTogether w B.has_own_property
  unfolding B.has_own_property
  has_own_property_both = record {
    at = λ at place calls this all. bind_same w (to_key_both w m at place (argument_both all 0)) (λ key. bind w (to_object_both w m at place this) (λ o q r. bind w (R.get_own_property_both w m at place calls r key) (λ _ _ p. gives w (truth_both (some_both p)))));
  }

  pub is_prototype_both : RuleTogether w B.is_prototype
  unfolding B.is_prototype
  is_prototype_both = record { at = λ at place calls this all. is_prototype_of_value_both w m at place calls this (see m (argument_both all 0)) }

  enumerable_option : {p q : Option Property} → BothOption (SameProperty x) p q → unwrap_or (option_map is_enumerable p) false ≡ unwrap_or (option_map is_enumerable q) false
  enumerable_option nothing = refl
  enumerable_option (just p) = enumerable_both x p

  pub property_is_enumerable_both : RuleTogether w B.property_is_enumerable
  unfolding B.property_is_enumerable
  property_is_enumerable_both = record {
    at = λ at place calls this all. bind_same w (to_key_both w m at place (argument_both all 0)) (λ key. bind w (to_object_both w m at place this) (λ o q r.
        bind w (R.get_own_property_both w m at place calls r key) (λ _ _ p. gives w (truth_both (enumerable_option p)))));
  }

  pub create_both : RuleTogether w B.create
  unfolding B.create
  create_both = record {
    at = λ at place calls this all. bind w (prototype_argument_seen w m at place (see m (argument_both all 0))) (λ _ _ prototype. bind w (no_properties_seen w m at place (see m (argument_both all 1))) (λ _ _ _.
        bind w (make_object_both w m Plain same_plain prototype) (λ o q r. gives w (object r))));
  }

  pub get_prototype_of_both : RuleTogether w B.get_prototype_of
  unfolding B.get_prototype_of
  get_prototype_of_both = record {
    at = λ at place calls this all. bind w (object_argument_both w m at place (argument_both all 0)) (λ o q r. bind w {R = BothOption x.Objects} (looks w (λ h g same. prototype_of_both x h g same r)) (λ _ _ prototype. gives w (or_null_both w m at place prototype)));
  }

  pub get_own_property_descriptor_both : RuleTogether w B.get_own_property_descriptor
  unfolding B.get_own_property_descriptor
  get_own_property_descriptor_both = record {
    at = λ at place calls this all. bind w (object_argument_both w m at place (argument_both all 0)) (λ o q r. bind_same w (to_key_both w m at place (argument_both all 1)) (λ key.
        bind w (R.get_own_property_both w m at place calls r key) (λ _ _ p. from_descriptor_both w m at place calls p)));
  }

  pub define_property_both : RuleTogether w B.define_property
  unfolding B.define_property
  define_property_both = record {
    at = λ at place calls this all. bind w (object_argument_both w m at place (argument_both all 0)) (λ o q r. bind_same w (to_key_both w m at place (argument_both all 1)) (λ key.
        bind w (to_descriptor_both w m at place calls (argument_both all 2)) (λ _ _ fields. bind w (R.define_runs w m at place calls r key fields true) (λ _ _ _. gives w (object r)))));
  }

  restrict_all_both : (to : Descriptor → Descriptor) → ((d e : Descriptor) → SameDescriptor x d e → SameDescriptor x (to d) (to e)) → RuleTogether w (B.restrict_all to)
  restrict_all_both to keep = record {
    at = λ at place calls this all. bind w (object_argument_both w m at place (argument_both all 0)) (λ o q r. bind w (properties_both w m at place r) (λ _ _ ps.
        bind w (in_turns w (restrict_both w m at place calls r to keep) ps) (λ _ _ _. bind w (fix_both w m at place r) (λ _ _ _. gives w (object r)))));
  }

  sealed_both : (d e : Descriptor) → SameDescriptor x d e → SameDescriptor x (B.sealed d) (B.sealed e)
  sealed_both _ _ (same_fields v n g s e c) = same_fields v n g s e (Some false)

  frozen_both : (d e : Descriptor) → SameDescriptor x d e → SameDescriptor x (B.frozen d) (B.frozen e)
  frozen_both _ _ (same_fields v n g s e c) = same_fields v (option_map (λ w. false) n) g s e (Some false)

  pub seal_both : RuleTogether w B.seal
  unfolding B.seal
  seal_both = restrict_all_both B.sealed sealed_both

  pub freeze_both : RuleTogether w B.freeze
  unfolding B.freeze
  freeze_both = restrict_all_both B.frozen frozen_both

  pub prevent_extensions_both : RuleTogether w B.prevent_extensions
  unfolding B.prevent_extensions
  prevent_extensions_both = record { at = λ at place calls this all. bind w (object_argument_both w m at place (argument_both all 0)) (λ o q r. bind w (fix_both w m at place r) (λ _ _ _. gives w (object r))) }

  sealed_property : (p q : Property) → SameProperty x p q → B.is_sealed_property p ≡ B.is_sealed_property q
  sealed_property p q h = ap not (configurable_both x h)

  frozen_property : (p q : Property) → SameProperty x p q → B.is_frozen_property p ≡ B.is_frozen_property q
  frozen_property _ _ (same_data h n e c) = refl
  frozen_property _ _ (same_accessor g s e c) = refl

  restricted_both : (test : Property → Bool) → ((p q : Property) → SameProperty x p q → test p ≡ test q) → RuleTogether w (B.is_restricted test)
  restricted_both test keep = record {
    at = λ at place calls this all. bind w (object_argument_both w m at place (argument_both all 0)) (λ o q r. bind w (properties_both w m at place r) (λ _ _ ps. bind_same w (all_pass_both w m at place calls test keep ps) (λ passed.
        bind_same w (extensible_both w m at place r) (λ extensible. gives w (known (primitive.Boolean (passed && not extensible)))))));
  }

  pub is_sealed_both : RuleTogether w B.is_sealed
  unfolding B.is_sealed
  is_sealed_both = restricted_both B.is_sealed_property sealed_property

  pub is_frozen_both : RuleTogether w B.is_frozen
  unfolding B.is_frozen
  is_frozen_both = restricted_both B.is_frozen_property frozen_property

  pub is_extensible_both : RuleTogether w B.is_extensible
  unfolding B.is_extensible
  is_extensible_both = record { at = λ at place calls this all. bind w (object_argument_both w m at place (argument_both all 0)) (λ o q r. bind_same w (extensible_both w m at place r) (λ extensible. gives w (known (primitive.Boolean extensible)))) }

  pub keys_both : RuleTogether w B.keys
  unfolding B.keys
  keys_both = record {
    at = λ at place calls this all. bind w (object_argument_both w m at place (argument_both all 0)) (λ o q r. bind w (properties_both w m at place r) (λ _ _ ps. bind w (make_array_both w m) (λ _ _ a.
        bind w (list_keys_both w m at place calls a 0 ps) (λ _ _ _. gives w (object a)))));
  }

  pub nothing_both : RuleTogether w B.nothing
  unfolding B.nothing
  nothing_both = record { at = λ at place calls this all. gives w (known _) }

  pub call_both : RuleTogether w B.call
  unfolding B.call
  call_both = record { at = λ at place calls this all. bind_same w (callable_both w m at place this) (λ callable. chooses w callable (calls.at this (argument_both all 0) (drop_both all 1)) (throw_error_both w m TypeError)) }

  pub apply_both : RuleTogether w B.apply
  unfolding B.apply
  apply_both = record {
    at = λ at place calls this all. bind_same w (callable_both w m at place this) (λ callable. chooses w callable (bind w (items_both w m at place calls (see m (argument_both all 1))) (λ _ _ vs. calls.at this (argument_both all 0) vs)) (throw_error_both w m TypeError));
  }

  pub make_error_both : (prototype : ObjNo) → x.Objects prototype prototype → RuleTogether w (B.make_error prototype)
  unfolding B.make_error
  make_error_both prototype p = record {
    at = λ at place calls this all. bind w (make_with_both w m Plain same_plain p) (λ o q r. bind w (with_message_seen w m at place calls r (see m (argument_both all 0)) (argument_both all 0)) (λ _ _ _. gives w (object r)));
  }
