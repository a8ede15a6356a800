-- The internal methods of objects and what names stand for (8.7, 8.12), in two runs that go together.
use Rattle.std.proofs.Common.{◌≡◌, refl, subst, ℕ, Bool, true, false, List, arith}
use Rattle.std.specs.Prelude.{◌&&◌, slice_get, Option, Some, None}
use Rattle.std.specs.Option.{option_and_then}
use Rattle.js_value.specs.Conversions.{is_same_text}
use Rattle.js_value.specs.declared.place.Place.{Place}
use Rattle.js_value.specs.declared.primitive.Primitive.{Primitive}
use Rattle.js_value.specs.declared.primitive.Primitive.TheVariants as primitive
use Rattle.js_value.specs.declared.why.Why.TheVariants.{AbsentBuiltin, PrimitiveProperty, PrimitiveThis}
use Rattle.plain_heap.specs.Values.{Value, Prim, Object, ObjNo, CellNo}
use Rattle.plain_heap.specs.Heap.{Key, Class, Plain, Array, ObjectState, Heap, Property, new_state, depth_at, is_array_class, make_object}
use Rattle.plain_heap.specs.Heap as H
use Rattle.plain_heap.specs.Methods.{Descriptor, checked_key, Got, Putting, Defining, array_index, length_key}
use Rattle.js_machine.specs.Machine.RealmObjects.{ErrorKind, TypeError, RangeError, ReferenceError, error_prototype, global}
use Rattle.js_machine.specs.Machine.References as N
use Rattle.js_machine.specs.Machine.References.{Context, Reference, Binding, InCell, OnGlobal, Nowhere, NameReference, PropertyReference}
use Rattle.js_machine.specs.Machine.Objects as O
use Rattle.js_machine.specs.Machine.Objects.{Site}
use Rattle.js_machine.specs.Machine.Events.{Base, Run, ◌>>=◌, give, choose, make}
use Rattle.related_states.specs.Related.{Correspondence, Names, are_named, SameFound, in_cells, both_free, SameEnvironment, BothOption, nothing, just, BothEach, none, also, SameValue, known, object, SameHeld, held, absent, SameProperty, SameClass, same_plain, same_array, SameState, same_state, SameHeaps, SameDescriptor, same_fields, SameLength, SameGot, same_value, same_getter, SamePutting, same_refusal, same_define, same_setter, SameDefining, same_defined, same_rejected, same_bad_length, same_if}
use Rattle.related_states.proofs.Properties.{define_both}
use Rattle.related_states.proofs.Heaps.{first_both, add_object_both, set_object_both, set_cell_both, get_both, put_both, own_property_both, has_same, delete_both, array_class_same, cell_both, class_both, depth_same}
use Rattle.related_runs.proofs.Related.{TreeRelation, Together, Equal, Makes, bind, bind_same, first, gives, gives_same, throws, left_at, looks, changes, makes, wants, chooses, tests, or_leaves}
use Rattle.related_runs.proofs.Operators.{is_boolean, is_number, is_text, Meanings, Seen, plain, objects, symbol, see, to_length_both, same_value_both}

abbrev pub site_of : Place → (Value → Value → List Value → Run Value) → Site
site_of at call = record { at = at; call = call }

-- calls of values with their `this` and their arguments
pub record CallsTogether {x : Correspondence} (w : TreeRelation x) (call other : Value → Value → List Value → Run Value) : Type 0 where
  pub at : {f g this that : Value} {vs us : List Value} → SameValue x f g → SameValue x this that → BothEach (SameValue x) vs us → Together w (SameValue x) (call f this vs) (other g that us)

-- ---- references

-- the base of a property, which is no symbol
pub data SameBase (x : Correspondence) : Value → Value → Type 0 where
  known_base : (p : Primitive) → SameBase x (Prim p) (Prim p)
  object_base : {o q : ObjNo} → x.Objects o q → SameBase x (Object o) (Object q)

-- equally strict
pub data SameReference (x : Correspondence) : Reference → Reference → Type 0 where
  in_cell_both : (a b : List ℕ) {c d : CellNo} (s t : Bool) → x.Cells c d → SameReference x (NameReference a (InCell c) s) (NameReference b (InCell d) t)
  on_global_both : (name : List ℕ) {s t : Bool} → s ≡ t → SameReference x (NameReference name OnGlobal s) (NameReference name OnGlobal t)
  nowhere_both : (name : List ℕ) {s t : Bool} → s ≡ t → SameReference x (NameReference name Nowhere s) (NameReference name Nowhere t)
  same_property : {b c : Value} {s t : Bool} → SameBase x b c → (key : Key) → s ≡ t → SameReference x (PropertyReference b key s) (PropertyReference c key t)

pub record SameContext (x : Correspondence) (ns : Names) (a b : Context) : Type 0 where
  pub environment : SameEnvironment x ns a.environment b.environment
  pub this : SameValue x a.this b.this
  pub strict : a.strict ≡ b.strict

pub base_same : {x : Correspondence} {v u : Value} → SameBase x v u → SameValue x v u
base_same (known_base p) = known p
base_same (object_base r) = object r

module _ {x : Correspondence} (w : TreeRelation x) (m : Meanings x) where
  -- ---- objects that rules make

  new_both : (class : Class) → SameClass x class class → {p q : Option ObjNo} → BothOption x.Objects p q → (h g : Heap) → SameHeaps x h g → Makes x x.Objects (make_object class p h) (make_object class q g)
  new_both class c {p = p} {q = q} r h g same = record {
    gives = x.new_object _ _ same.object_counts (m.made_object _);
    heaps = add_object_both x h g same (m.made_object _)
        (subst (λ n. SameState x (new_state class p (depth_at h p)) (new_state class q n)) (depth_same x h g same r) (same_state c r (depth_at h p) true (first_both x class)));
  }

  pub make_object_both : (class : Class) → SameClass x class class → {p q : Option ObjNo} → BothOption x.Objects p q → Together w x.Objects (make (make_object class p)) (make (make_object class q))
  make_object_both class c r = makes w (new_both class c r)

  pub make_with_both : (class : Class) → SameClass x class class → {p q : ObjNo} → x.Objects p q → Together w x.Objects (O.make_with class p) (O.make_with class q)
  make_with_both class c r = make_object_both class c (just r)

  pub make_plain_both : Together w x.Objects O.make_plain O.make_plain
  make_plain_both = make_with_both Plain same_plain (x.realm 1 refl)

  pub make_array_both : Together w x.Objects O.make_array O.make_array
  make_array_both = make_with_both Array same_array (x.realm 5 refl)

  error_both : (kind : ErrorKind) → x.Objects (error_prototype kind) (error_prototype kind)
  error_both TypeError = x.realm 9 refl
  error_both RangeError = x.realm 11 refl
  error_both ReferenceError = x.realm 13 refl

  pub throw_error_both : {A B : Type 0} {R : A → B → Type 0} (kind : ErrorKind) → Together w R (O.throw_error kind) (O.throw_error kind)
  throw_error_both kind = bind w (make_with_both Plain same_plain (error_both kind)) (λ o q r. throws w (object r))

  reject_both : (t : Bool) → Together w Equal (O.reject t) (O.reject t)
  reject_both t = chooses w t (throw_error_both TypeError) (gives_same w tt)

  deleted_both : {o q : ObjNo} → x.Objects o q → (t : Bool) {a b : Option ObjectState} → BothOption (SameState x) a b → Together w Equal (O.deleted o t a) (O.deleted q t b)
  deleted_both r t (just s) = bind_same w (changes w (λ h g same. set_object_both x h g same r s)) (λ _. gives_same w true)
  deleted_both r t nothing = chooses w t (throw_error_both TypeError) (gives_same w false)

module _ {x : Correspondence} (w : TreeRelation x) (m : Meanings x) (at place : Place) where
  -- ---- values as bases of properties

  checked_seen : {A B : Type 0} {R : A → B → Type 0} {v u : Value} {n : Run A} {k : Run B} → Seen x v u → (SameBase x v u → Together w R n k)
      → Together w R (O.check_base at v >>= (λ _. n)) (O.check_base place u >>= (λ _. k))
  checked_seen (plain primitive.Undefined) next = first w (throw_error_both w m TypeError) (next (known_base _))
  checked_seen (plain primitive.Null) next = first w (throw_error_both w m TypeError) (next (known_base _))
  checked_seen (plain (primitive.Boolean b)) next = first w (gives_same w tt) (next (known_base _))
  checked_seen (plain (primitive.Number n)) next = first w (gives_same w tt) (next (known_base _))
  checked_seen (plain (primitive.Text t)) next = first w (gives_same w tt) (next (known_base _))
  checked_seen (objects r) next = first w (gives_same w tt) (next (object_base r))
  checked_seen (symbol k d) next = wants w d Base place

  -- behind the check a base is no symbol
  pub checked_both : {A B : Type 0} {R : A → B → Type 0} {v u : Value} {n : Run A} {k : Run B} → SameValue x v u → (SameBase x v u → Together w R n k)
      → Together w R (O.check_base at v >>= (λ _. n)) (O.check_base place u >>= (λ _. k))
  checked_both r next = checked_seen (see m r) next

  unit_of_both : (t : List ℕ) (unit : Option ℕ) → Together w (SameValue x) (O.unit_of at t unit) (O.unit_of place t unit)
  unit_of_both t None = left_at w PrimitiveProperty at place
  unit_of_both t (Some unit) = gives w (known _)

  get_of_string_both : (t : List ℕ) (key : Key) → Together w (SameValue x) (O.get_of_string at t key) (O.get_of_string place t key)
  unfolding O.get_of_string
  get_of_string_both t key = tests w (is_same_text key length_key) (gives w (known _)) (unit_of_both t (option_and_then (slice_get t) (array_index key)))

  to_object_seen : {v u : Value} → Seen x v u → Together w x.Objects (O.to_object at v) (O.to_object place u)
  unfolding O.to_object
  to_object_seen (objects r) = gives w r
  to_object_seen (plain primitive.Undefined) = throw_error_both w m TypeError
  to_object_seen (plain primitive.Null) = throw_error_both w m TypeError
  to_object_seen (plain (primitive.Boolean b)) = left_at w PrimitiveThis at place
  to_object_seen (plain (primitive.Number n)) = left_at w PrimitiveThis at place
  to_object_seen (plain (primitive.Text t)) = left_at w PrimitiveThis at place
  to_object_seen (symbol (is_boolean b) d) = left_at w PrimitiveThis at place
  to_object_seen (symbol (is_number n) d) = left_at w PrimitiveThis at place
  to_object_seen (symbol (is_text t) d) = left_at w PrimitiveThis at place

  pub to_object_both : {v u : Value} → SameValue x v u → Together w x.Objects (O.to_object at v) (O.to_object place u)
  to_object_both r = to_object_seen (see m r)

  present_seen : {v u : Value} → Seen x v u → SameValue x v u → Together w (SameValue x) (O.present at v) (O.present place u)
  present_seen (plain p) r = gives w r
  present_seen (objects o) r = gives w r
  present_seen (symbol k d) r = gives w r

  pub present_both : {v u : Value} → SameHeld x v u → Together w (SameValue x) (O.present at v) (O.present place u)
  present_both absent = left_at w AbsentBuiltin at place
  present_both (held r) = present_seen (see m r) r

module _ {x : Correspondence} (w : TreeRelation x) (m : Meanings x) (at place : Place) {call other : Value → Value → List Value → Run Value} (calls : CallsTogether w call other) where
  -- ---- 8.12.3

  got_both : {this that : Value} → SameValue x this that → {a b : Got} → SameGot x a b → Together w (SameValue x) (O.got (site_of at call) this a) (O.got (site_of place other) that b)
  got_both this (same_value v) = present_both w m at place v
  got_both this (same_getter f) = calls.at (object f) this none

  pub get_both_runs : {o q : ObjNo} → x.Objects o q → (name : Key) → Together w (SameValue x) (O.get (site_of at call) o name) (O.get (site_of place other) q name)
  unfolding O.get
  get_both_runs r name = bind_same w (or_leaves w at place (checked_key name)) (λ key. bind w {R = SameGot x} (looks w (λ h g same. get_both x h g same r key)) (λ a b got. got_both (object r) got))

  -- ---- 8.12.9

  defining_both : {o q : ObjNo} → x.Objects o q → (t : Bool) {d e : Defining} → SameDefining x d e → Together w Equal (O.defining (site_of at call) o t d) (O.defining (site_of place other) q t e)
  defining_both r t (same_defined s) = changes w (λ h g same. set_object_both x h g same r s)
  defining_both r t (same_rejected s) = bind_same w (changes w (λ h g same. set_object_both x h g same r s)) (λ _. reject_both w m t)
  defining_both r t same_bad_length = throw_error_both w m RangeError
  defining_both r t (same_if h l rest) = bind_same w (same_value_both w m at place h l) (λ same. defining_both r t (rest same))

  -- a descriptor whose value is a length that is known
  record Ready (d e : Descriptor) : Type 0 where
    fields : SameDescriptor x d e
    number : SameLength d.value e.value

  numbered : {d e : Descriptor} → SameDescriptor x d e → {v u : Value} → SameHeld x v u → Together w Ready (O.with_length at d (Some v)) (O.with_length place e (Some u))
  numbered (same_fields v w' g s e c) r = bind_same w (to_length_both w m at place r) (λ n. gives w (record { fields = same_fields (just (held (known (primitive.Number n)))) w' g s e c; number = just refl }))

  with_length_both : {d e : Descriptor} → SameDescriptor x d e → Together w Ready (O.with_length at d d.value) (O.with_length place e e.value)
  with_length_both (same_fields nothing w' g s e c) = gives w (record { fields = same_fields nothing w' g s e c; number = nothing })
  with_length_both (same_fields (just h) w' g s e c) = numbered (same_fields (just h) w' g s e c) h

  state_both : {o q : ObjNo} → x.Objects o q → (key : Key) (t : Bool) {d e : Descriptor} → SameDescriptor x d e → {a b : Option ObjectState} → BothOption (SameState x) a b
      → (O.is_array_state a ≡ true → is_same_text key length_key ≡ true → SameLength d.value e.value) → Together w Equal (O.define_at (site_of at call) o key d t a) (O.define_at (site_of place other) q key e t b)
  state_both r key t fields nothing is = gives_same w tt
  state_both r key t fields (just s) is = defining_both r t (define_both x key fields is s)

  no_length : (a b : Bool) → a && b ≡ false → {A : Type 0} → a ≡ true → b ≡ true → A
  no_length a b e e1 e2 = grind (arith, e, e1, e2)

  array_state_same : {a b : Option ObjectState} → BothOption (SameState x) a b → O.is_array_state a ≡ O.is_array_state b
  array_state_same nothing = refl
  array_state_same (just s) = array_class_same x (class_both x s)

  define_state : {o q : ObjNo} → x.Objects o q → (key : Key) (t : Bool) {d e : Descriptor} → SameDescriptor x d e → {a b : Option ObjectState} → BothOption (SameState x) a b
      → Together w Equal (O.with_number at a key d >>= (λ d. O.define_at (site_of at call) o key d t a)) (O.with_number place b key e >>= (λ d. O.define_at (site_of place other) q key d t b))
  define_state {o = o} {q = q} r key t {d = d} {e = e} fields {a = a} {b = b} states =
      subst (λ c. Together w Equal (O.with_number at a key d >>= (λ d. O.define_at (site_of at call) o key d t a)) (choose (c && is_same_text key length_key) (O.with_length place e e.value) (give e) >>= (λ d. O.define_at (site_of place other) q key d t b)))
      (array_state_same states) (by_test (O.is_array_state a && is_same_text key length_key) refl)
    where
      by_test : (c : Bool) → O.is_array_state a && is_same_text key length_key ≡ c
          → Together w Equal (choose c (O.with_length at d d.value) (give d) >>= (λ d. O.define_at (site_of at call) o key d t a)) (choose c (O.with_length place e e.value) (give e) >>= (λ d. O.define_at (site_of place other) q key d t b))
      by_test true is = bind w (with_length_both fields) (λ _ _ ready. state_both r key t ready.fields states (λ _ _. ready.number))
      by_test false is = bind w (gives w {R = SameDescriptor x} fields) (λ _ _ fields. state_both r key t fields states (λ a e. no_length _ _ is a e))

  pub define_runs : {o q : ObjNo} → x.Objects o q → (name : Key) {d e : Descriptor} → SameDescriptor x d e → (t : Bool) → Together w Equal (O.define (site_of at call) o name d t) (O.define (site_of place other) q name e t)
  unfolding O.define
  define_runs r name fields t = bind_same w (or_leaves w at place (checked_key name)) (λ key. bind w {R = BothOption (SameState x)} (looks w (λ h g same. same.objects _ _ r)) (λ a b states. define_state r key t fields states))

  pub make_property_both : {o q : ObjNo} → x.Objects o q → (key : Key) {v u : Value} → SameValue x v u → Together w Equal (O.make_property (site_of at call) o key v) (O.make_property (site_of place other) q key u)
  make_property_both r key v = define_runs r key (same_fields (just (held v)) (Some true) nothing nothing (Some true) (Some true)) false

  -- ---- 8.12.5

  putting_both : {o q : ObjNo} → x.Objects o q → (key : Key) {v u : Value} → SameValue x v u → (t : Bool) {p r : Putting} → SamePutting x p r
      → Together w Equal (O.putting (site_of at call) o key v t p) (O.putting (site_of place other) q key u t r)
  putting_both r key v t same_refusal = reject_both w m t
  putting_both r key v t (same_define fields) = define_runs r key fields t
  putting_both r key v t (same_setter f) = bind w (calls.at (object f) (object r) (also v none)) (λ _ _ _. gives_same w tt)

  pub put_runs : {o q : ObjNo} → x.Objects o q → (name : Key) {v u : Value} → SameValue x v u → (t : Bool) → Together w Equal (O.put (site_of at call) o name v t) (O.put (site_of place other) q name u t)
  unfolding O.put
  put_runs r name v t = bind_same w (or_leaves w at place (checked_key name)) (λ key. bind w {R = SamePutting x} (looks w (λ h g same. put_both x h g same r key v)) (λ p q puts. putting_both r key v t puts))

  -- ---- 8.12.1, 8.12.6 and 8.12.7

  pub get_own_property_both : {o q : ObjNo} → x.Objects o q → (name : Key) → Together w (BothOption (SameProperty x)) (O.get_own_property (site_of at call) o name) (O.get_own_property (site_of place other) q name)
  unfolding O.get_own_property
  get_own_property_both r name = bind_same w (or_leaves w at place (checked_key name)) (λ key. looks w (λ h g same. own_property_both x h g same r key))

  pub has_property_both : {o q : ObjNo} → x.Objects o q → (name : Key) → Together w Equal (O.has_property (site_of at call) o name) (O.has_property (site_of place other) q name)
  unfolding O.has_property
  has_property_both r name = bind_same w (or_leaves w at place (checked_key name)) (λ key. looks w (λ h g same. has_same x h g same r key))

  pub delete_runs : {o q : ObjNo} → x.Objects o q → (name : Key) (t : Bool) → Together w Equal (O.delete (site_of at call) o name t) (O.delete (site_of place other) q name t)
  unfolding O.delete
  delete_runs r name t = bind_same w (or_leaves w at place (checked_key name)) (λ key. bind w {R = BothOption (SameState x)} (looks w (λ h g same. delete_both x h g same r key)) (λ a b states. deleted_both w m r t states))

  -- ---- 8.7.1 and 8.7.2

  get_of_both : {b c : Value} → SameBase x b c → (key : Key) → Together w (SameValue x) (O.get_of (site_of at call) b key) (O.get_of (site_of place other) c key)
  unfolding O.get_of
  get_of_both (object_base r) key = get_both_runs r key
  get_of_both (known_base (primitive.Text t)) key = get_of_string_both w m at place t key
  get_of_both (known_base p) key = left_at w PrimitiveProperty at place

  put_of_both : {b c : Value} → SameBase x b c → (key : Key) {v u : Value} → SameValue x v u → (strict : Bool) → Together w Equal (O.put_of (site_of at call) b key v strict) (O.put_of (site_of place other) c key u strict)
  unfolding O.put_of
  put_of_both (object_base r) key v strict = put_runs r key v strict
  put_of_both (known_base p) key v strict = left_at w PrimitiveProperty at place

  delete_of_plainly : {b c : Value} → SameBase x b c → (key : Key) (strict : Bool) → Together w Equal (O.delete_of (site_of at call) b key strict) (O.delete_of (site_of place other) c key strict)
  unfolding O.delete_of
  delete_of_plainly (object_base r) key strict = delete_runs r key strict
  delete_of_plainly (known_base p) key strict = left_at w PrimitiveProperty at place

  pub delete_of_both : {b c : Value} → SameBase x b c → (key : Key) {s t : Bool} → s ≡ t → Together w Equal (O.delete_of (site_of at call) b key s) (O.delete_of (site_of place other) c key t)
  delete_of_both {b = b} {c = c} base key {s = s} e = subst (λ t. Together w Equal (O.delete_of (site_of at call) b key s) (O.delete_of (site_of place other) c key t)) e (delete_of_plainly base key s)

  -- ---- names

  the_global : x.Objects global global
  the_global = x.realm 0 refl

  free_name : (name : List ℕ) (bound : Bool) {s t : Bool} → s ≡ t → SameReference x (NameReference name (N.global_binding bound) s) (NameReference name (N.global_binding bound) t)
  free_name name true e = on_global_both name e
  free_name name false e = nowhere_both name e

  binding_both : {a b : List ℕ} {c d : Option CellNo} {s t : Bool} → s ≡ t → SameFound x a b c d
      → Together w (SameReference x) (N.binding (site_of at call) a c >>= (λ r. give (NameReference a r s))) (N.binding (site_of place other) b d >>= (λ r. give (NameReference b r t)))
  binding_both {a = a} {b = b} e (in_cells c) = gives w (in_cell_both a b _ _ c)
  binding_both e (both_free name) = bind_same w (has_property_both the_global name) (λ bound. gives w (free_name name bound e))

  -- names that the code around binds alike
  pub resolve_name_both : {ns : Names} {c d : Context} → SameContext x ns c d → (a b : List ℕ) → are_named ns a b ≡ true → Together w (SameReference x) (N.resolve_name (site_of at call) c a) (N.resolve_name (site_of place other) d b)
  unfolding N.resolve_name H.resolve
  resolve_name_both context a b named = binding_both context.strict (context.environment.at a b named)

  pub get_value_both : {r q : Reference} → SameReference x r q → Together w (SameValue x) (N.get_value (site_of at call) r) (N.get_value (site_of place other) q)
  unfolding N.get_value
  get_value_both (in_cell_both a b s t c) = looks w (λ h g same. cell_both x h g same c)
  get_value_both (on_global_both name e) = get_both_runs the_global name
  get_value_both (nowhere_both name e) = throw_error_both w m ReferenceError
  get_value_both (same_property base key e) = get_of_both base key

  pub put_value_both : {r q : Reference} → SameReference x r q → {v u : Value} → SameValue x v u → Together w Equal (N.put_value (site_of at call) r v) (N.put_value (site_of place other) q u)
  unfolding N.put_value
  put_value_both (in_cell_both a b s t c) v = changes w (λ h g same. set_cell_both x h g same c v)
  put_value_both (on_global_both name {s = s} e) {v = v} {u = u} value = subst (λ t. Together w Equal (O.put (site_of at call) global name v s) (O.put (site_of place other) global name u t)) e (put_runs the_global name value s)
  put_value_both (nowhere_both name {s = s} e) {v = v} {u = u} value =
      subst (λ t. Together w Equal (choose s (O.throw_error ReferenceError) (O.put (site_of at call) global name v false)) (choose t (O.throw_error ReferenceError) (O.put (site_of place other) global name u false))) e
      (chooses w s (throw_error_both w m ReferenceError) (put_runs the_global name value false))
  put_value_both (same_property {b = b} {c = c} {s = s} base key e) {v = v} {u = u} value = subst (λ t. Together w Equal (O.put_of (site_of at call) b key v s) (O.put_of (site_of place other) c key u t)) e (put_of_both base key value s)
