-- Entering code, calls and constructions of functions (10.4, 10.5, 13.2), in two runs that go together.
use Rattle.std.proofs.Common.{◌≡◌, refl, subst, ℕ, Bool, true, false, List, []}
use Rattle.std.specs.Prelude.{◌&&◌, not, codes, Option, Some}
use Rattle.js_value.specs.declared.place.FuncNo.{FuncNo}
use Rattle.js_value.specs.declared.place.Place.{Place}
use Rattle.js_value.specs.declared.primitive.Primitive.TheVariants as primitive
use Rattle.js_value.specs.declared.why.Why.TheVariants.{PrimitiveThis}
use Rattle.js_tree.specs.Mentions.{hoisted_functions, hoisted_vars}
use Rattle.js_tree.specs.declared.statement.Func.{Func}
use Rattle.js_tree.specs.declared.statement.Stmt.{Stmt}
use Rattle.plain_heap.specs.Values.{Value, Prim, Object, ObjNo}
use Rattle.plain_heap.specs.Heap.{Property, Plain, Environment}
use Rattle.js_machine.specs.Machine.Expressions.{Completion}
use Rattle.js_machine.specs.Machine.Functions as F
use Rattle.js_machine.specs.Machine.References.{Context}
use Rattle.js_machine.specs.Machine.RealmObjects.{TypeError, global, object_prototype}
use Rattle.js_machine.specs.Machine.Events.{Run, in_turn}
use Rattle.related_states.specs.Related.{Correspondence, BothOption, nothing, just, BothEach, SameValue, known, object, held, same_plain, same_fields, SameProperty, same_data, same_accessor}
use Rattle.related_states.specs.Related.{Names, SameEnvironment}
use Rattle.related_runs.specs.Codes.{Code, SameFunc, SameInner, inside}
use Rattle.related_runs.proofs.Codes.{global_names}
use Rattle.related_runs.proofs.Creating.{function_both, enter_function_both}
use Rattle.js_machine.specs.Machine.Creating as C
use Rattle.related_runs.proofs.Related.{TreeRelation, Together, Equal, bind, gives, gives_same, left_at, tests, in_turns, in_turns_same}
use Rattle.related_runs.proofs.Operators.{is_boolean, is_number, is_text, Meanings, Seen, plain, objects, symbol, see}
use Rattle.related_runs.proofs.Objects.{CallsTogether, site_of, SameContext, make_with_both, throw_error_both}
use Rattle.related_runs.proofs.Objects as R
use Rattle.related_runs.proofs.Expressions.{SameCompletion, same_normal, same_break, same_continue, same_return, makes_alike}
use Rattle.related_runs.proofs.Statements.{statements_both}

module _ {x : Correspondence} (w : TreeRelation x) (m : Meanings x) where
  -- ---- 10.4.3

  this_seen : (at place : Place) {v u : Value} → Seen x v u → Together w (SameValue x) (F.this_value at false v) (F.this_value place false u)
  this_seen at place (objects r) = gives w (object r)
  this_seen at place (plain primitive.Undefined) = gives w (object (x.realm global refl))
  this_seen at place (plain primitive.Null) = gives w (object (x.realm global refl))
  this_seen at place (plain (primitive.Boolean b)) = left_at w PrimitiveThis at place
  this_seen at place (plain (primitive.Number n)) = left_at w PrimitiveThis at place
  this_seen at place (plain (primitive.Text t)) = left_at w PrimitiveThis at place
  this_seen at place (symbol (is_boolean b) d) = left_at w PrimitiveThis at place
  this_seen at place (symbol (is_number n) d) = left_at w PrimitiveThis at place
  this_seen at place (symbol (is_text t) d) = left_at w PrimitiveThis at place

  this_value_both : (at place : Place) (strict : Bool) {v u : Value} → SameValue x v u → Together w (SameValue x) (F.this_value at strict v) (F.this_value place strict u)
  this_value_both at place true v = gives w v
  this_value_both at place false v = this_seen at place (see m v)

module _ {x : Correspondence} where
  returned_both : {f g : Completion} → SameCompletion x f g → SameValue x (F.returned f) (F.returned g)
  returned_both same_normal = known _
  returned_both same_break = known _
  returned_both same_continue = known _
  returned_both (same_return v) = v

module _ {x : Correspondence} (w : TreeRelation x) (m : Meanings x) {functions others : List Func} (code : Code x functions others) {stmt other : Context → Stmt → Run Completion}
    (h : (ns : Names) (a b : Context) → SameContext x ns a b → (s t : Stmt) → code.Stmts ns s t → Together w (SameCompletion x) (stmt a s) (other b t))
    (at place : Place) {this that : Value} (both_this : SameValue x this that) {vs us : List Value} (arguments : BothEach (SameValue x) vs us) where
  -- ---- 13.2.1

  function_call_both : {ns : Names} {s t : Environment} → SameEnvironment x ns s t → (strict : Bool) {f g : Func} → SameFunc x functions others code.Stmts ns f g
      → Together w (SameValue x) (F.function_call functions stmt at s strict this vs f) (F.function_call others other place t strict that us g)
  unfolding F.function_call
  function_call_both {ns = ns} outer strict {f = f} same = bind w (this_value_both w m at place strict both_this) (λ v u this. bind w (makes_alike w (enter_function_both m code same outer refl arguments)) (λ s t inner.
      bind w (statements_both w (h (inside (C.declared_names functions f) ns) (record { environment = s; this = v; strict = strict }) (record { environment = t; this = u; strict = strict }) (record { environment = inner; this = this; strict = refl })) same.body) (λ f g flow. gives w (returned_both flow))))

  found_both : {ns : Names} {s t : Environment} → SameEnvironment x ns s t → (strict : Bool) {f g : Option Func} → BothOption (SameFunc x functions others code.Stmts ns) f g
      → Together w (SameValue x) (F.call_found functions stmt at s strict this vs f) (F.call_found others other place t strict that us g)
  found_both outer strict nothing = throw_error_both w m TypeError
  found_both outer strict (just f) = function_call_both outer strict f

  pub call_function_both : {ns : Names} {s t : Environment} → SameEnvironment x ns s t → (strict : Bool) (f g : FuncNo) → x.Functions ns f g
      → Together w (SameValue x) (F.call_function functions stmt at f s strict this vs) (F.call_function others other place g t strict that us)
  unfolding F.call_function
  call_function_both {ns = ns} outer strict f g same = found_both outer strict (code.called ns f g same)

module _ {x : Correspondence} (w : TreeRelation x) (m : Meanings x) (at place : Place) {call other : Value → Value → List Value → Run Value} (calls : CallsTogether w call other) where
  -- ---- 13.2.2

  prototype_or_both : {v u : Value} → Seen x v u → x.Objects (F.prototype_or_default v) (F.prototype_or_default u)
  prototype_or_both (objects r) = r
  prototype_or_both (plain p) = x.realm object_prototype refl
  prototype_or_both (symbol k d) = x.realm object_prototype refl

  object_or_both : {o q : ObjNo} → x.Objects o q → {v u : Value} → Seen x v u → SameValue x (F.object_or o v) (F.object_or q u)
  object_or_both r (objects s) = object s
  object_or_both r (plain p) = object r
  object_or_both r (symbol k d) = object r

  pub construct_function_both : {f g : ObjNo} → x.Objects f g → {vs us : List Value} → BothEach (SameValue x) vs us → Together w (SameValue x) (F.construct_function (site_of at call) f vs) (F.construct_function (site_of place other) g us)
  unfolding F.construct_function
  construct_function_both f vs = bind w (R.get_both_runs w m at place calls f (codes "prototype")) (λ v u prototype. bind w (make_with_both w m Plain same_plain (prototype_or_both (see m prototype))) (λ o q r.
      bind w (calls.at (object f) (object r) vs) (λ v u value. gives w (object_or_both r (see m value)))))

  -- ---- global code

  declare_both : (name : List ℕ) → Together w Equal (F.declare (site_of at call) name) (F.declare (site_of place other) name)
  declare_both name = R.define_runs w m at place calls (x.realm global refl) name (same_fields (just (held (known _))) (Some true) nothing nothing (Some true) (Some false)) true

  declare_function_both : (name : List ℕ) {p q : Option Property} → BothOption (SameProperty x) p q → Together w Equal (F.declare_function (site_of at call) name p) (F.declare_function (site_of place other) name q)
  declare_function_both name nothing = declare_both name
  declare_function_both name (just (same_data v e n c)) = tests w (not (not c)) (declare_both name) (tests w (e && n) (gives_same w tt) (throw_error_both w m TypeError))
  declare_function_both name (just (same_accessor g s n c)) = tests w (not (not c)) (declare_both name) (throw_error_both w m TypeError)

  declare_named_both : {v u : Value} → SameValue x v u → (name : List ℕ) → Together w Equal (F.declare_named (site_of at call) v name) (F.declare_named (site_of place other) u name)
  declare_named_both f name = bind w (R.get_own_property_both w m at place calls (x.realm global refl) name) (λ p q own. bind w (declare_function_both name own) (λ _ _ _. R.put_runs w m at place calls (x.realm global refl) name f true))

  declare_var_both : (name : List ℕ) {p q : Option Property} → BothOption (SameProperty x) p q → Together w Equal (F.declare_var (site_of at call) name p) (F.declare_var (site_of place other) name q)
  declare_var_both name nothing = declare_both name
  declare_var_both name (just p) = gives_same w tt

  bind_global_var_both : (name : List ℕ) → Together w Equal (F.bind_global_var (site_of at call) name) (F.bind_global_var (site_of place other) name)
  bind_global_var_both name = bind w (R.get_own_property_both w m at place calls (x.realm global refl) name) (λ p q own. declare_var_both name own)

-- functions that global code declares, by their own names
pub record SameGlobalFunction (x : Correspondence) (functions others : List Func) (f g : FuncNo) : Type 0 where
  pub inner : SameInner x functions others [] f g
  pub name : C.function_name functions f ≡ C.function_name others g

-- two global codes
pub record SameGlobal (x : Correspondence) {functions others : List Func} (code : Code x functions others) (ss ts : List Stmt) : Type 0 where
  pub hoisted : BothEach (SameGlobalFunction x functions others) (hoisted_functions ss) (hoisted_functions ts)
  pub variables : hoisted_vars ss ≡ hoisted_vars ts
  pub body : BothEach (code.Stmts []) ss ts

module _ {x : Correspondence} (w : TreeRelation x) (m : Meanings x) (at place : Place) {call other : Value → Value → List Value → Run Value} (calls : CallsTogether w call other) {functions others : List Func} (code : Code x functions others) where
  bind_global_function_both : (strict : Bool) (f g : FuncNo) → SameGlobalFunction x functions others f g → Together w Equal (F.bind_global_function functions (site_of at call) strict f) (F.bind_global_function others (site_of place other) strict g)
  bind_global_function_both strict f g h = bind w (makes_alike w (function_both m code refl h.inner global_names)) (λ o q r.
      subst (λ fs. Together w Equal (in_turn (F.declare_named (site_of at call) (Object o)) (C.function_name functions f)) (in_turn (F.declare_named (site_of place other) (Object q)) fs)) h.name
      (in_turns_same w (declare_named_both w m at place calls (object r)) (C.function_name functions f)))

  pub enter_global_both : (strict : Bool) {ss ts : List Stmt} → SameGlobal x code ss ts → Together w Equal (F.enter_global functions (site_of at call) strict ss) (F.enter_global others (site_of place other) strict ts)
  unfolding F.enter_global
  enter_global_both strict {ss = ss} {ts = ts} h = bind w (in_turns w (bind_global_function_both strict) h.hoisted) (λ _ _ _.
      subst (λ vs. Together w Equal (in_turn (F.bind_global_var (site_of at call)) (hoisted_vars ss)) (in_turn (F.bind_global_var (site_of place other)) vs)) h.variables (in_turns_same w (bind_global_var_both w m at place calls) (hoisted_vars ss)))
