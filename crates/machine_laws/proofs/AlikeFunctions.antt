-- Entering code, calls and constructions of functions do alike, where the evaluation of statements does.
use Rattle.std.proofs.Common.{ℕ, true, false, List, []}
use Rattle.std.specs.Prelude.{not, codes, slice_get, Option, Some, None, Bool}
use Rattle.js_value.specs.declared.place.FuncNo.{FuncNo}
use Rattle.js_value.specs.declared.place.Place.{Place}
use Rattle.js_value.specs.declared.primitive.Primitive.TheVariants as primitive
use Rattle.js_value.specs.declared.why.Why.TheVariants.{PrimitiveThis}
use Rattle.js_tree.specs.Mentions.{hoisted_functions, hoisted_vars}
use Rattle.js_tree.specs.declared.statement.Func.{Func}
use Rattle.js_tree.specs.declared.statement.Stmt.{Stmt}
use Rattle.plain_heap.specs.Values.{Value, Prim, Object, ObjNo, undefined}
use Rattle.plain_heap.specs.Heap.{Property, Plain, Environment}
use Rattle.plain_heap.specs.Methods.{data_fields}
use Rattle.js_machine.specs.Machine.Functions as F
use Rattle.js_machine.specs.Machine.References.{Context}
use Rattle.js_machine.specs.Machine.RealmObjects.{TypeError, global}
use Rattle.js_machine.specs.Machine.Events.{Run}
use Rattle.machine_laws.proofs.Alike.{TreeRelation, Alike, bind, gives, left_at, tests, in_turns, makes}
use Rattle.machine_laws.proofs.AlikeObjects.{CallsAlike, site_of, throw_error_too, get_too, put_too, define_too, get_own_property_too, make_with_too}
use Rattle.machine_laws.proofs.AlikeStatements.{statements_too}
use Rattle.js_machine.specs.Machine.Creating.{function, enter_function, function_name}
use Rattle.js_machine.specs.Machine.Expressions.{Completion}

module _ (w : TreeRelation) where
  -- ---- 10.4.3: function code

  this_value_too : (at : Place) (strict : Bool) (v : Value) → Alike w (F.this_value at strict v) (F.this_value at strict v)
  this_value_too at true v = gives w v
  this_value_too at false (Object o) = gives w (Object o)
  this_value_too at false (Prim primitive.Undefined) = gives w (Object global)
  this_value_too at false (Prim primitive.Null) = gives w (Object global)
  this_value_too at false v = left_at w PrimitiveThis at

module _ (w : TreeRelation) {stmt other : Context → Stmt → Run Completion} (h : (context : Context) (x : Stmt) → Alike w (stmt context x) (other context x)) (functions : List Func) (at : Place) (outer : Environment) (strict : Bool) (this : Value) (arguments : List Value) where
  -- ---- 13.2.1

  function_call_too : (f : Func) → Alike w (F.function_call functions stmt at outer strict this arguments f) (F.function_call functions other at outer strict this arguments f)
  unfolding F.function_call
  function_call_too f = bind w (this_value_too w at strict this) (λ this. bind w (makes w (enter_function functions f outer strict arguments)) (λ environment.
      bind w (statements_too w (h (record { environment = environment; this = this; strict = strict })) f.body) (λ completion. gives w (F.returned completion))))

  found_too : (f : Option Func) → Alike w (F.call_found functions stmt at outer strict this arguments f) (F.call_found functions other at outer strict this arguments f)
  found_too None = throw_error_too w TypeError
  found_too (Some f) = function_call_too f

  pub call_function_too : (f : FuncNo) → Alike w (F.call_function functions stmt at f outer strict this arguments) (F.call_function functions other at f outer strict this arguments)
  unfolding F.call_function
  call_function_too f = found_too (slice_get functions f.0)

module _ (w : TreeRelation) (at : Place) {call other : Value → Value → List Value → Run Value} (calls : CallsAlike w call other) where
  -- ---- 13.2.2

  pub construct_function_too : (f : ObjNo) (arguments : List Value) → Alike w (F.construct_function (site_of at call) f arguments) (F.construct_function (site_of at other) f arguments)
  unfolding F.construct_function
  construct_function_too f arguments = bind w (get_too w at calls f (codes "prototype")) (λ prototype. bind w (make_with_too w Plain (F.prototype_or_default prototype)) (λ o.
      bind w (calls.at (Object f) (Object o) arguments) (λ v. gives w (F.object_or o v))))

  -- ---- global code

  declare_too : (name : List ℕ) → Alike w (F.declare (site_of at call) name) (F.declare (site_of at other) name)
  declare_too name = define_too w at calls global name (data_fields undefined true true false) true

  declare_function_too : (name : List ℕ) (p : Option Property) → Alike w (F.declare_function (site_of at call) name p) (F.declare_function (site_of at other) name p)
  declare_function_too name None = declare_too name
  declare_function_too name (Some p) = tests w (not (F.is_fixed p)) (declare_too name) (tests w (F.can_declare p) (gives w tt) (throw_error_too w TypeError))

  declare_named_too : (f : Value) (name : List ℕ) → Alike w (F.declare_named (site_of at call) f name) (F.declare_named (site_of at other) f name)
  declare_named_too f name = bind w (get_own_property_too w at calls global name) (λ p. bind w (declare_function_too name p) (λ _. put_too w at calls global name f true))

  bind_global_function_too : (functions : List Func) (strict : Bool) (f : FuncNo) → Alike w (F.bind_global_function functions (site_of at call) strict f) (F.bind_global_function functions (site_of at other) strict f)
  bind_global_function_too functions strict f = bind w (makes w (function functions f [] strict)) (λ o. in_turns w (declare_named_too (Object o)) (function_name functions f))

  declare_var_too : (name : List ℕ) (p : Option Property) → Alike w (F.declare_var (site_of at call) name p) (F.declare_var (site_of at other) name p)
  declare_var_too name None = declare_too name
  declare_var_too name (Some p) = gives w tt

  bind_global_var_too : (name : List ℕ) → Alike w (F.bind_global_var (site_of at call) name) (F.bind_global_var (site_of at other) name)
  bind_global_var_too name = bind w (get_own_property_too w at calls global name) (λ p. declare_var_too name p)

  pub enter_global_too : (functions : List Func) (strict : Bool) (body : List Stmt) → Alike w (F.enter_global functions (site_of at call) strict body) (F.enter_global functions (site_of at other) strict body)
  unfolding F.enter_global
  enter_global_too functions strict body = bind w (in_turns w (bind_global_function_too functions strict) (hoisted_functions body)) (λ _. in_turns w bind_global_var_too (hoisted_vars body))
