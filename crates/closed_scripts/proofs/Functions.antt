-- Entering code, calls and constructions of functions are quiet, where the evaluation of statements is.
use Rattle.std.proofs.Common.{ℕ, true, false, List, []}
use Rattle.std.specs.Prelude.{not, codes, Option, Some, None, Bool}
use Rattle.js_value.specs.declared.place.FuncNo.{FuncNo}
use Rattle.js_value.specs.declared.place.Place.{Place}
use Rattle.js_value.specs.declared.primitive.Primitive.TheVariants as primitive
use Rattle.js_value.specs.declared.why.Why.TheVariants.{PrimitiveThis}
use Rattle.js_tree.specs.Mentions.{hoisted_functions, hoisted_vars}
use Rattle.js_tree.specs.declared.statement.Func.{Func}
use Rattle.js_tree.specs.declared.statement.Stmt.{Stmt}
use Rattle.plain_heap.specs.Values.{Value, Prim, Object, ObjNo}
use Rattle.plain_heap.specs.Heap.{Property, Plain, Environment}
use Rattle.js_machine.specs.Machine.Functions as F
use Rattle.js_machine.specs.Machine.Creating.{function_name}
use Rattle.js_machine.specs.Machine.Expressions.{Completion}
use Rattle.js_machine.specs.Machine.References.{Context}
use Rattle.js_machine.specs.Machine.RealmObjects.{TypeError, global}
use Rattle.js_machine.specs.Machine.Events.{Run}
use Rattle.closed_scripts.specs.Known.{Each, IsKnown, is_primitive, is_object, is_absent}
use Rattle.closed_scripts.proofs.Closing.{ClosedStmt, ClosedFunc}
use Rattle.closed_scripts.proofs.Quiet.{Quiet, Any, Given, nothing, just, bind, bind_any, gives, gives_any, left_at, tests, in_turns_any, makes}
use Rattle.closed_scripts.proofs.Heaps.{of_fields, got_each}
use Rattle.closed_scripts.proofs.Making.{function_made, function_entered}
use Rattle.closed_scripts.proofs.Objects.{CallsQuiet, Values, site_of, known_undefined, throw_error_too, get_too, put_too, define_too, get_own_property_too, make_with_too}
use Rattle.closed_scripts.proofs.Expressions.{KnownContext, IsCompletion, is_normal, is_break, is_continue, is_return}
use Rattle.closed_scripts.proofs.Statements.{statements_too}

-- ---- 10.4.3: function code

this_value_too : (at : Place) (strict : Bool) {v : Value} → IsKnown v → Quiet IsKnown (F.this_value at strict v)
this_value_too at true is = gives is
this_value_too at false (is_object o) = gives (is_object o)
this_value_too at false (is_primitive primitive.Undefined) = gives (is_object global)
this_value_too at false (is_primitive primitive.Null) = gives (is_object global)
this_value_too at false (is_primitive p) = left_at PrimitiveThis at
this_value_too at false is_absent = left_at PrimitiveThis at

returned_too : {completion : Completion} → IsCompletion completion → IsKnown (F.returned completion)
returned_too is_normal = known_undefined
returned_too is_break = known_undefined
returned_too is_continue = known_undefined
returned_too (is_return is) = is

module _ {stmt : Context → Stmt → Run Completion} (h : (context : Context) → KnownContext context → (x : Stmt) → ClosedStmt x → Quiet IsCompletion (stmt context x)) {functions : List Func} (all : Each ClosedFunc functions) (at : Place) (outer : Environment) (strict : Bool) {this : Value} (is : IsKnown this) {arguments : List Value} (values : Values arguments) where
  -- ---- 13.2.1

  function_call_too : (f : Func) → ClosedFunc f → Quiet IsKnown (F.function_call functions stmt at outer strict this arguments f)
  unfolding F.function_call
  function_call_too f closed = bind (this_value_too at strict is) (λ this is. bind (makes (function_entered functions f outer strict values)) (λ environment _.
      bind (statements_too (h (record { environment = environment; this = this; strict = strict }) (record { this = is })) closed.body) (λ completion ended. gives (returned_too ended))))

  found_too : {f : Option Func} → Given ClosedFunc f → Quiet IsKnown (F.call_found functions stmt at outer strict this arguments f)
  found_too nothing = throw_error_too TypeError
  found_too (just {a = f} closed) = function_call_too f closed

  pub call_function_too : (f : FuncNo) → Quiet IsKnown (F.call_function functions stmt at f outer strict this arguments)
  unfolding F.call_function
  call_function_too f = found_too (got_each all f.0)

module _ (at : Place) {call : Value → Value → List Value → Run Value} (calls : CallsQuiet call) where
  -- ---- 13.2.2

  object_or_too : (o : ObjNo) (v : Value) → IsKnown (F.object_or o v)
  object_or_too o (Object other) = is_object other
  object_or_too o v = is_object o

  pub construct_function_too : (f : ObjNo) {arguments : List Value} → Values arguments → Quiet IsKnown (F.construct_function (site_of at call) f arguments)
  unfolding F.construct_function
  construct_function_too f values = bind (get_too at calls f (codes "prototype")) (λ prototype _. bind (make_with_too Plain (F.prototype_or_default prototype)) (λ o _.
      bind (calls.at (Object f) (Object o) _ (is_object o) values) (λ v _. gives (object_or_too o v))))

  -- ---- global code

  declare_too : (name : List ℕ) → Quiet Any (F.declare (site_of at call) name)
  declare_too name = define_too at calls global name (of_fields true true false known_undefined) true

  declare_function_too : (name : List ℕ) (p : Option Property) → Quiet Any (F.declare_function (site_of at call) name p)
  declare_function_too name None = declare_too name
  declare_function_too name (Some p) = tests (not (F.is_fixed p)) (declare_too name) (tests (F.can_declare p) (gives_any tt) (throw_error_too TypeError))

  declare_named_too : {f : Value} → IsKnown f → (name : List ℕ) → Quiet Any (F.declare_named (site_of at call) f name)
  declare_named_too is name = bind (get_own_property_too at calls global name) (λ p _. bind_any (declare_function_too name p) (λ _. put_too at calls global name is true))

  bind_global_function_too : (functions : List Func) (strict : Bool) (f : FuncNo) → Quiet Any (F.bind_global_function functions (site_of at call) strict f)
  bind_global_function_too functions strict f = bind (makes (function_made functions f [] strict)) (λ o _. in_turns_any (declare_named_too (is_object o)) (function_name functions f))

  declare_var_too : (name : List ℕ) (p : Option Property) → Quiet Any (F.declare_var (site_of at call) name p)
  declare_var_too name None = declare_too name
  declare_var_too name (Some p) = gives_any tt

  bind_global_var_too : (name : List ℕ) → Quiet Any (F.bind_global_var (site_of at call) name)
  bind_global_var_too name = bind (get_own_property_too at calls global name) (λ p _. declare_var_too name p)

  pub enter_global_too : (functions : List Func) (strict : Bool) (body : List Stmt) → Quiet Any (F.enter_global functions (site_of at call) strict body)
  unfolding F.enter_global
  enter_global_too functions strict body = bind_any (in_turns_any (bind_global_function_too functions strict) (hoisted_functions body)) (λ _. in_turns_any bind_global_var_too (hoisted_vars body))
