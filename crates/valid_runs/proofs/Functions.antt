-- Calls and constructions of functions, and entering global code, are sound.
use Rattle.std.proofs.Common.{ℕ, Bool, true, false, List, refl, arith}
use Rattle.std.specs.Prelude.{not, codes, Option, Some, None, slice_get}
use Rattle.js_value.specs.declared.place.FuncNo.{FuncNo}
use Rattle.js_value.specs.declared.place.Place.{Place}
use Rattle.js_value.specs.declared.primitive.Primitive.TheVariants as primitive
use Rattle.js_value.specs.declared.why.Why.TheVariants.{PrimitiveThis}
use Rattle.js_tree.specs.Mentions.{hoisted_functions, hoisted_vars}
use Rattle.js_tree.specs.declared.statement.Func.{Func}
use Rattle.js_tree.specs.declared.statement.Stmt.{Stmt}
use Rattle.plain_heap.specs.Values.{Value, Prim, Object, ObjNo}
use Rattle.plain_heap.specs.Heap.{Heap, Property, Environment}
use Rattle.js_machine.specs.Machine.Creating.{function_name}
use Rattle.js_machine.specs.Machine.Expressions.{Completion}
use Rattle.js_machine.specs.Machine.Functions as F
use Rattle.js_machine.specs.Machine.Realm.{realm}
use Rattle.js_machine.specs.Machine.References.{Context}
use Rattle.js_machine.specs.Machine.RealmObjects.{TypeError, global, object_prototype}
use Rattle.js_machine.specs.Machine.Events.{Run, Leaves}
use Rattle.valid_runs.specs.Kept.{Keeps, IsObject, IsValue, is_primitive, is_object, is_symbol}
use Rattle.valid_runs.proofs.Growing.{◌⊚◌, AreCells, Values, function_there, later, later_cells, later_object, later_values}
use Rattle.valid_runs.proofs.Sound.{At, Steady, Any, bind, bind_any, first, on_realm, gives, gives_any, gives_same, left_same, makes, tests, in_turns_any}
use Rattle.valid_runs.proofs.Heaps.{makes_plain}
use Rattle.valid_runs.proofs.Making.{function_entered, function_made}
use Rattle.valid_runs.proofs.Objects.{Calls, site_of, is_undefined, realm_there, of_fields, make_with_too, throw_error_too, get_too, put_too, define_too, get_own_property_too}
use Rattle.valid_runs.proofs.Expressions.{IsContext, IsCompletion, is_normal, is_break, is_continue, is_return}
use Rattle.valid_runs.proofs.Statements.{statements_too}

-- ---- 10.4.3

this_value_too : {s : Heap} → Keeps realm s → (at : Place) (strict : Bool) {v : Value} → IsValue s v → Steady s (IsValue s) (F.this_value at strict v)
this_value_too fit at true is = gives_same is
this_value_too fit at false (is_object there) = gives_same (is_object there)
this_value_too fit at false (is_primitive primitive.Undefined) = gives_same (is_object (realm_there fit global (omega arith)))
this_value_too fit at false (is_primitive primitive.Null) = gives_same (is_object (realm_there fit global (omega arith)))
this_value_too fit at false (is_primitive p) = left_same (Leaves PrimitiveThis) at
this_value_too fit at false (is_symbol t) = left_same (Leaves PrimitiveThis) at

returned_too : {s : Heap} {completion : Completion} → IsCompletion s completion → IsValue s (F.returned completion)
returned_too is_normal = is_undefined
returned_too is_break = is_undefined
returned_too is_continue = is_undefined
returned_too (is_return is) = is

-- statements that are sound on any heap
pub record StmtsSound (stmt : Context → Stmt → Run Completion) : Type 0 where
  pub at : {s : Heap} {context : Context} → IsContext s context → (x : Stmt) → At s IsCompletion (stmt context x)

module _ {stmt : Context → Stmt → Run Completion} (h : StmtsSound stmt) (functions : List Func) (at : Place)
    {s : Heap} {outer : Environment} (cells : AreCells s outer) (strict : Bool) {this : Value} (is : IsValue s this) {arguments : List Value} (values : Values s arguments) where
  -- ---- 13.2.1

  function_call_too : (f : Func) → At s IsValue (F.function_call functions stmt at outer strict this arguments f)
  unfolding F.function_call
  function_call_too f = on_realm (λ fit. first (this_value_too fit at strict is) (λ own is. bind (makes (function_entered functions f cells strict values)) (λ t up environment there.
      bind (statements_too (λ u more x.
      h.at {context = record { environment = environment; this = own; strict = strict }} (record { cells = later_cells more there; this = later (up ⊚ more) is }) x) f.body) (λ u more completion ended. gives (returned_too ended)))))

  found_too : (f : Option Func) → At s IsValue (F.call_found functions stmt at outer strict this arguments f)
  found_too None = throw_error_too TypeError
  found_too (Some f) = function_call_too f

  pub call_function_too : (f : FuncNo) → At s IsValue (F.call_function functions stmt at f outer strict this arguments)
  unfolding F.call_function
  call_function_too f = found_too (slice_get functions f.0)

-- ---- 13.2.2

object_or_too : {s : Heap} {o : ObjNo} → IsObject s o → {v : Value} → IsValue s v → IsValue s (F.object_or o v)
object_or_too there (is_object other) = is_object other
object_or_too there (is_primitive p) = is_object there
object_or_too there (is_symbol t) = is_object there

prototype_too : {s : Heap} → Keeps realm s → {v : Value} → IsValue s v → IsObject s (F.prototype_or_default v)
prototype_too fit (is_object there) = there
prototype_too fit (is_primitive p) = realm_there fit object_prototype (omega arith)
prototype_too fit (is_symbol t) = realm_there fit object_prototype (omega arith)

module _ {s : Heap} (at : Place) {call : Value → Value → List Value → Run Value} (calls : Calls call) where
  pub construct_function_too : {f : ObjNo} → IsObject s f → {arguments : List Value} → Values s arguments → At s IsValue (F.construct_function (site_of at call) f arguments)
  unfolding F.construct_function
  construct_function_too {f = f} there values = bind (get_too at calls there (codes "prototype")) (λ t up prototype value. on_realm (λ fit. bind (make_with_too makes_plain (prototype_too fit value)) (λ u more o new.
      bind (calls.at (Object f) (is_object new) (later_values (up ⊚ more) values)) (λ w most v result. gives (object_or_too (later_object most new) result)))))

  -- ---- global code

  declare_too : (name : List ℕ) → At s Any (F.declare (site_of at call) name)
  declare_too name = define_too at calls global name (of_fields true true false is_undefined) true

  declare_function_too : (name : List ℕ) (p : Option Property) → At s Any (F.declare_function (site_of at call) name p)
  declare_function_too name None = declare_too name
  declare_function_too name (Some p) = tests (not (F.is_fixed p)) (declare_too name) (tests (F.can_declare p) (gives_any tt) (throw_error_too TypeError))

  declare_var_too : (name : List ℕ) (p : Option Property) → At s Any (F.declare_var (site_of at call) name p)
  declare_var_too name None = declare_too name
  declare_var_too name (Some p) = gives_any tt

  bind_global_var_too : (name : List ℕ) → At s Any (F.bind_global_var (site_of at call) name)
  bind_global_var_too name = first (get_own_property_too at calls global name) (λ p _. declare_var_too name p)

module _ (at : Place) {call : Value → Value → List Value → Run Value} (calls : Calls call) where
  declare_named_too : {s : Heap} {f : Value} → IsValue s f → (name : List ℕ) → At s Any (F.declare_named (site_of at call) f name)
  declare_named_too is name = first (get_own_property_too at calls global name) (λ p _. bind_any (declare_function_too at calls name p) (λ t up _. on_realm (λ fit. put_too at calls (realm_there fit global (omega arith)) name (later up is) true)))

  bind_global_function_too : {s : Heap} (functions : List Func) (strict : Bool) (f : FuncNo) → At s Any (F.bind_global_function functions (site_of at call) strict f)
  bind_global_function_too functions strict f = bind (makes (function_made functions f (record { are = refl }) strict)) (λ t up o there.
      in_turns_any (λ u more name. declare_named_too (later more (is_object (function_there there.is))) name) (function_name functions f))

  pub enter_global_too : {s : Heap} (functions : List Func) (strict : Bool) (body : List Stmt) → At s Any (F.enter_global functions (site_of at call) strict body)
  unfolding F.enter_global
  enter_global_too functions strict body = bind_any (in_turns_any (λ t up f. bind_global_function_too functions strict f) (hoisted_functions body)) (λ t up _. in_turns_any (λ u more name. bind_global_var_too at calls name) (hoisted_vars body))
