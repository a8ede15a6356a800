-- The rules of the built-ins, and the runs of their calls.
use Rattle.std.proofs.Common.{◌≡◌, ℕ, zero, suc, ◌+◌, Bool, true, false, List, [], ◌∷◌, refl, ap, ◌∙◌, arith}
use Rattle.std.specs.Prelude.{codes, Option, Some, None, Ok}
use Rattle.std.specs.Option.{option_and_then, option_map}
use Rattle.js_value.specs.Conversions.{to_boolean, to_text}
use Rattle.js_tree.specs.declared.expression.Expr.{Expr}
use Rattle.plain_heap.specs.Heap.{Key, Property, Data, Accessor, Heap, ObjectState, Plain, Builtin, is_function, lookup, make_object, object_at, set_object, or_else, depth_of}
use Rattle.plain_heap.specs.Methods as methods
use Rattle.plain_heap.specs.Methods.{Descriptor}
use Rattle.plain_heap.specs.Values.{Value, Prim, Object, ObjNo, text, truth, undefined, object_or_null, object_or_undefined}
use Rattle.js_machine.specs.Machine.Events.{Tree}
use Rattle.js_machine.specs.Machine.Levels.{Setting, class_of}
use Rattle.js_machine.specs.Machine.ObjectBuiltins as rules
use Rattle.js_machine.specs.Machine.ObjectBuiltins.{Rule}
use Rattle.js_machine.specs.Machine.Objects as objects
use Rattle.js_machine.specs.Machine.Objects.{Site}
use Rattle.js_machine.specs.Machine.Operators as operators
use Rattle.js_machine.specs.Machine.References.{Context}
use Rattle.js_machine.specs.Machine.Walks.{World}
use Rattle.residual_runs.specs.Runs.{State}
use Rattle.residual_runs.specs.Statements.{Defines}
use Rattle.residual_runs.proofs.Runs.{at_once, counted}
use Rattle.residual_runs.proofs.Statements.{present_value, define_is, builtin_runs}
use Rattle.residual_builtins.specs.Calls.{FieldIs, IsFunctionField, Spells, OwnField, Alone, CallsBuiltin, Gives, BuiltinsRun, CallsRun}

-- ---- fields of descriptors

field_read : (site : Site) (h : Heap) (o : ObjNo) (key : Key) (v : Option Value) → methods.checked_key key ≡ Ok key → FieldIs h o key v → (k : Option Value → Heap → Tree) (r : Value → Heap → Tree)
    → rules.field site o key h k r ≡ k v h
unfolding objects.has_property objects.get
field_read site h o key None named is k r = rw (named, is) refl
field_read site h o key (Some v) named is k r = rw (named, is.0) (rw is.1 (present_value site.at v is.2 h (λ v s. k (Some v) s) r))

flag_read : (site : Site) (h : Heap) (o : ObjNo) (key : Key) (b : Option Bool) → methods.checked_key key ≡ Ok key → FieldIs h o key (option_map truth b) → (k : Option Bool → Heap → Tree) (r : Value → Heap → Tree)
    → rules.flag site o key h k r ≡ k b h
unfolding operators.test to_boolean
flag_read site h o key None named is k r = field_read site h o key None named is (λ v s. rules.tested site v s k r) r
flag_read site h o key (Some b) named is k r = field_read site h o key (Some (truth b)) named is (λ v s. rules.tested site v s k r) r

function_read : (site : Site) (h : Heap) (o : ObjNo) (key : Key) (f : Option (Option ObjNo)) → methods.checked_key key ≡ Ok key → FieldIs h o key (option_map object_or_undefined f) → IsFunctionField h f
    → (k : Option (Option ObjNo) → Heap → Tree) (r : Value → Heap → Tree) → rules.accessor_field site o key h k r ≡ k f h
function_read site h o key None named is callable k r = field_read site h o key None named is (λ v s. rules.function_or_undefined v s k r) r
function_read site h o key (Some None) named is callable k r = field_read site h o key (Some undefined) named is (λ v s. rules.function_or_undefined v s k r) r
function_read site h o key (Some (Some f)) named is callable k r =
    field_read site h o key (Some (Object f)) named is (λ v s. rules.function_or_undefined v s k r) r ∙ rw callable refl

described : (site : Site) (h : Heap) (o : ObjNo) (d : Descriptor) → Spells h o d → (k : Descriptor → Heap → Tree) (r : Value → Heap → Tree) → rules.to_descriptor site (Object o) h k r ≡ k d h
unfolding rules.to_descriptor
described site h o d is k r =
    flag_read site h o (codes "enumerable") d.enumerable refl is.enumerable _ r
    ∙ flag_read site h o (codes "configurable") d.configurable refl is.configurable _ r
    ∙ field_read site h o (codes "value") d.value refl is.value _ r
    ∙ flag_read site h o (codes "writable") d.writable refl is.writable _ r
    ∙ function_read site h o (codes "get") d.get refl is.get is.getter _ r
    ∙ function_read site h o (codes "set") d.set refl is.set is.setter _ r
    ∙ rw is.sort refl

-- an object without a prototype has no other properties than its own
along_none : (n : ℕ) (h : Heap) (key : Key) → methods.property_along n h key None ≡ None
along_none zero h key = refl
along_none (suc n) h key = refl

or_none : {A : Type 0} (a : Option A) → or_else a None ≡ a
or_none None = refl
or_none (Some a) = refl

own_found : (h : Heap) (o : ObjNo) (key : Key) (state : ObjectState) → object_at h o ≡ Some state → state.prototype ≡ None
    → methods.get_property h key (Some o) ≡ option_map (λ (p : Property). (o, p)) (lookup key state.properties)
unfolding methods.get_property
own_found h o key state there no_prototype =
    ap (λ s. methods.property_along (depth_of s) h key (Some o)) there
    ∙ ap (λ s. option_and_then (λ (s : ObjectState). or_else (option_map (λ (p : Property). (o, p)) (methods.own_property key s)) (methods.property_along state.depth h key s.prototype)) s) there
    ∙ ap (λ prototype. or_else (option_map (λ (p : Property). (o, p)) (lookup key state.properties)) (methods.property_along state.depth h key prototype)) no_prototype
    ∙ ap (or_else (option_map (λ (p : Property). (o, p)) (lookup key state.properties))) (along_none state.depth h key)
    ∙ or_none (option_map (λ (p : Property). (o, p)) (lookup key state.properties))

by_own : (h : Heap) (o : ObjNo) (key : Key) (p : Option Property) (v : Option Value) → methods.get_property h key (Some o) ≡ option_map (λ (p : Property). (o, p)) p → OwnField p v → FieldIs h o key v
unfolding methods.has_property methods.get
by_own h o key None None found own = rw found refl
by_own h o key None (Some v) found own = absurd own
by_own h o key (Some (Data p)) None found own = absurd own
by_own h o key (Some (Data p)) (Some v) found own = (rw found refl, rw found (ap (λ v. methods.GotValue v) own.0), own.1)
by_own h o key (Some (Accessor p)) None found own = absurd own
by_own h o key (Some (Accessor p)) (Some v) found own = absurd own

alone : (h : Heap) (o : ObjNo) (key : Key) (v : Option Value) → Alone h o key v → FieldIs h o key v
alone h o key v is = by_own h o key (lookup key is.state.properties) v (own_found h o key is.state is.there is.no_prototype) is.field

-- ---- the rules

create_is : (site : Site) (prototype : Option ObjNo) (h : Heap) (k r : Value → Heap → Tree)
    → let made = make_object Plain prototype h in rules.create site undefined (object_or_null prototype ∷ []) h k r ≡ k (Object made.0) made.1
unfolding rules.create
create_is site None h k r = refl
create_is site (Some o) h k r = refl

define_property_is : (site : Site) (o attributes : ObjNo) (key : Key) (d : Descriptor) (h : Heap) (after : ObjectState) → Spells h attributes d → Defines h o key d after → (k r : Value → Heap → Tree)
    → rules.define_property site undefined (Object o ∷ text key ∷ Object attributes ∷ []) h k r ≡ k (Object o) (set_object o after h)
unfolding rules.define_property operators.to_key to_text
define_property_is site o attributes key d h after spells defines k r =
    described site h attributes d spells (λ d s. objects.define site o key d true s (λ _ s. k (Object o) s) r) r
    ∙ define_is site o key d true h after defines (λ _ s. k (Object o) s) r

fix_is : (site : Site) (o : ObjNo) (before : ObjectState) (h : Heap) → object_at h o ≡ Some before → (k r : Value → Heap → Tree)
    → rules.prevent_extensions site undefined (Object o ∷ []) h k r ≡ k (Object o) (set_object o (record before { extensible = false }) h)
unfolding rules.prevent_extensions
fix_is site o before h there k r = rw there refl

-- ---- the calls

module _ (set : Setting) (calls : ℕ) (context : Context) (w : World) (d : ℕ) where
  called : (e : Expr) (s : State) (i : ℕ) (rule : Rule) (values : List Value) (v : Value) (h : Heap) → CallsBuiltin set calls context w d e rule s values i
      → ((site : Site) (k r : Value → Heap → Tree) → rule site undefined values s.heap k r ≡ k v h) → Gives set calls context w d e s i v h
  called e s i rule values v h is does =
      counted w (ap (λ n. 2 + n) (same i))
      (builtin_runs set calls context w d e is.callee is.arguments values is.holds.name is.holds.in_cell is.holds.object is.holds.number rule s s (record s { heap = h }) i 0 v
      is.is_call is.holds.is_name is.holds.bound is.holds.held is.run callable class is.holds.does
      (λ site. at_once w (does site)))
    where
      same : (i : ℕ) → i + 0 ≡ i
      same i = omega arith

      callable : is_function s.heap is.holds.object ≡ true
      callable = rw is.holds.there (rw is.holds.class refl)

      class : class_of is.holds.object s.heap ≡ Builtin is.holds.number
      class = rw is.holds.there is.holds.class

  builtins_run : BuiltinsRun set calls context w d
  builtins_run = record {
    creates = λ e s i prototype is. called e s i rules.create (object_or_null prototype ∷ []) _ _ is (λ site k r. create_is site prototype s.heap k r);
    defines = λ e s i o attributes key descriptor after is spells defines. called e s i rules.define_property _ _ _ is (λ site k r. define_property_is site o attributes key descriptor s.heap after spells defines k r);
    fixes = λ e s i o before is there. called e s i rules.prevent_extensions _ _ _ is (λ site k r. fix_is site o before s.heap there k r);
  }

pub calls_run : CallsRun
calls_run = record { builtins = builtins_run; alone = alone }
