-- A script's events are sound, from a heap that keeps the realm.
use Rattle.std.proofs.Common.{◌≡◌, refl, ℕ, zero, suc, true, List, Bool, arith}
use Rattle.std.specs.Prelude.{Option, Some, None, unwrap_or}
use Rattle.std.specs.Option.{option_map}
use Rattle.js_value.specs.declared.place.FuncNo.{FuncNo}
use Rattle.js_value.specs.declared.place.Place.{Place}
use Rattle.js_value.specs.declared.why.Why.TheVariants.{Depth}
use Rattle.js_tree.specs.declared.expression.Expr.{Expr}
use Rattle.js_tree.specs.declared.expression.ExprForm.{out-ExprForm}
use Rattle.js_tree.specs.declared.statement.Script.{Script}
use Rattle.js_tree.specs.declared.statement.Stmt.{Stmt}
use Rattle.js_tree.specs.declared.statement.StmtForm.{out-StmtForm}
use Rattle.plain_heap.specs.Values.{Value, Prim, Object, ObjNo}
use Rattle.plain_heap.specs.Heap.{Class, Plain, Array, Heap, Function, Builtin, Environment, ObjectState, object_at}
use Rattle.plain_heap.specs.Valid.{is_valid}
use Rattle.plain_heap.proofs.Giving.{gives_values}
use Rattle.js_machine.specs.Machine.Levels as L
use Rattle.js_machine.specs.Machine.Levels.{Setting, Nodes, Builtins, within, ev_of, builtin, perform_call, perform_construct, script_tree}
use Rattle.js_machine.specs.Machine.Events.{Run, Leaves}
use Rattle.js_machine.specs.Machine.ObjectBuiltins.{Rule}
use Rattle.js_machine.specs.Machine.Realm.{realm}
use Rattle.js_machine.specs.Machine.References.{Context, global_context}
use Rattle.js_machine.specs.Machine.RealmObjects.{TypeError, global}
use Rattle.valid_runs.specs.Kept.{Keeps, IsObject, IsValue, is_primitive, is_object, is_symbol, IsSound, ends, fails}
use Rattle.valid_runs.proofs.Growing.{AreCells, Given, nothing, just, Values}
use Rattle.valid_runs.proofs.Sound.{At, bind_any, first, on_realm, left_at, looks, takes_step}
use Rattle.valid_runs.proofs.Objects.{Calls, IsReference, site_of, realm_there, throw_error_too}
use Rattle.valid_runs.proofs.Expressions.{IsContext, IsCompletion, PartsSound, later_context, expr_rule_too, reference_rule_too}
use Rattle.valid_runs.proofs.Statements.{statements_too, stmt_rule_too}
use Rattle.valid_runs.proofs.Functions.{call_function_too, construct_function_too, enter_global_too}
use Rattle.valid_runs.proofs.Builtins.{RuleSound}
use Rattle.valid_runs.proofs.RealmRules.{builtin_rule_too, constructor_rule_too}

-- nodes that are sound on any heap
pub record NodesSound (nodes : Nodes) : Type 0 where
  pub expr : {s : Heap} {context : Context} → IsContext s context → (e : Expr) → At s IsValue (nodes.expr context e)
  pub reference : {s : Heap} {context : Context} → IsContext s context → (e : Expr) → At s IsReference (nodes.reference context e)
  pub stmt : {s : Heap} {context : Context} → IsContext s context → (x : Stmt) → At s IsCompletion (nodes.stmt context x)

pub record BuiltinsSound (builtins : Builtins) : Type 0 where
  pub at : (place : Place) {rule : Rule} → RuleSound rule → {s : Heap} {this : Value} → IsValue s this → {arguments : List Value} → Values s arguments → At s IsValue (builtins place rule this arguments)

-- the class of an object, whose environment's cells are there
data IsClassOf (s : Heap) : Class → Type 0 where
  is_plain : IsClassOf s Plain
  is_array : IsClassOf s Array
  is_builtin : (n : ℕ) → IsClassOf s (Builtin n)
  is_function : (f : FuncNo) {names : Environment} → AreCells s names → (strict : Bool) → IsClassOf s (Function f names strict)

class_there : {s : Heap} → is_valid s ≡ true → (o : ObjNo) → IsClassOf s (L.class_of o s)
class_there {s = s} valid o = by_state (object_at s o) refl
  where
    by_class : (state : ObjectState) (class : Class) → object_at s o ≡ Some state → state.class ≡ class → IsClassOf s class
    by_class state Plain at e = is_plain
    by_class state Array at e = is_array
    by_class state (Builtin n) at e = is_builtin n
    by_class state (Function f names strict) at e = is_function f (record { are = gives_values.environments s o state f names strict valid at e }) strict

    by_state : (found : Option ObjectState) → object_at s o ≡ found → IsClassOf s (unwrap_or (option_map (λ (state : ObjectState). state.class) found) Plain)
    by_state None e = is_plain
    by_state (Some state) e = by_class state state.class e refl

module _ {builtins : Builtins} (h : BuiltinsSound builtins) where
  run_rule_too : {s : Heap} (at : Place) {this : Value} → IsValue s this → {arguments : List Value} → Values s arguments → {rule : Option Rule} → Given RuleSound rule → At s IsValue (L.run_rule builtins at this arguments rule)
  run_rule_too at is values nothing = throw_error_too TypeError
  run_rule_too at is values (just sound) = h.at at sound is values

  construct_class_too : {s : Heap} (at : Place) {call : Value → Value → List Value → Run Value} → Calls call → {o : ObjNo} → IsObject s o → {arguments : List Value} → Values s arguments → {class : Class} → IsClassOf s class
      → At s IsValue (L.construct_class (site_of at call) builtins o arguments class)
  construct_class_too at c there values (is_function f cells strict) = construct_function_too at c there values
  construct_class_too at c there values (is_builtin n) = run_rule_too at (is_object there) values (constructor_rule_too n)
  construct_class_too at c there values is_plain = throw_error_too TypeError
  construct_class_too at c there values is_array = throw_error_too TypeError

  construct_too : {call : Place → Value → Value → List Value → Run Value} → ((at : Place) → Calls (call at)) → {s : Heap} (at : Place) {f : Value} {arguments : List Value} → IsValue s f → Values s arguments
      → At s IsValue (perform_construct call builtins at f arguments)
  unfolding perform_construct
  construct_too c {s = s} at (is_object {o = o} there) values = first (looks (IsClassOf s) (L.class_of o) (λ fit. class_there fit.valid o)) (λ class is. construct_class_too at (c at) there values is)
  construct_too c at (is_primitive p) values = throw_error_too TypeError
  construct_too c at (is_symbol t) values = throw_error_too TypeError

module _ (set : Setting) where
  call_class_too : {nodes : Nodes} {builtins : Builtins} → NodesSound nodes → BuiltinsSound builtins → {s : Heap} (at : Place) {this : Value} → IsValue s this → {arguments : List Value} → Values s arguments → {class : Class} → IsClassOf s class
      → At s IsValue (L.call_class set nodes builtins at this arguments class)
  call_class_too n b at is values (is_function f cells strict) = call_function_too (record { at = n.stmt }) set.functions at cells strict is values f
  call_class_too n b at is values (is_builtin m) = run_rule_too b at is values (builtin_rule_too m)
  call_class_too n b at is values is_plain = throw_error_too TypeError
  call_class_too n b at is values is_array = throw_error_too TypeError

  call_value_too : {nodes : Nodes} {builtins : Builtins} → NodesSound nodes → BuiltinsSound builtins → {s : Heap} (at : Place) (f : Value) {this : Value} {arguments : List Value} → IsValue s this → Values s arguments
      → At s IsValue (perform_call set nodes builtins at f this arguments)
  unfolding perform_call
  call_value_too n b {s = s} at (Object o) is values = first (looks (IsClassOf s) (L.class_of o) (λ fit. class_there fit.valid o)) (λ class known. call_class_too n b at is values known)
  call_value_too n b at f is values = throw_error_too TypeError

  calls_too : {nodes : Nodes} {builtins : Builtins} → NodesSound nodes → BuiltinsSound builtins → (at : Place) → Calls (perform_call set nodes builtins at)
  calls_too n b at = record { at = λ f is values. call_value_too n b at f is values }

  builtin_too : {nodes : ℕ → Nodes} → ((calls : ℕ) → NodesSound (nodes calls)) → (calls : ℕ) → BuiltinsSound (builtin set nodes calls)
  unfolding builtin
  builtin_too n zero = record { at = λ at sound is values. left_at (Leaves Depth) at }
  builtin_too n (suc calls) = record { at = λ at sound is values. sound.at at (calls_too (n calls) (builtin_too n calls) at) is values }

  parts_too : {nodes : ℕ → Nodes} → ((calls : ℕ) → NodesSound (nodes calls)) → (calls : ℕ) → PartsSound (ev_of set nodes calls)
  parts_too n calls =
      let call = calls_too (n calls) (builtin_too n calls) in record {
        expr = (n calls).expr;
        reference = (n calls).reference;
        stmt = (n calls).stmt;
        call = call;
        construct = construct_too (builtin_too n calls) call;
      }

  within_too : (depth calls : ℕ) → NodesSound (within set depth calls)
  unfolding within
  within_too zero calls = record {
    expr = λ is e. takes_step e.at (left_at (Leaves Depth) e.at);
    reference = λ is e. takes_step e.at (left_at (Leaves Depth) e.at);
    stmt = λ is x. takes_step x.at (left_at (Leaves Depth) x.at);
  }
  within_too (suc depth) calls = record {
    expr = λ is e. takes_step e.at (expr_rule_too (parts_too (within_too depth) calls) e.at is (out-ExprForm e.form));
    reference = λ is e. takes_step e.at (reference_rule_too (parts_too (within_too depth) calls) e.at is (out-ExprForm e.form));
    stmt = λ is x. takes_step x.at (stmt_rule_too (parts_too (within_too depth) calls) x.at is (out-StmtForm x.form));
  }

  global_too : {s : Heap} (strict : Bool) → Keeps realm s → IsContext s (global_context strict)
  global_too strict fit = record { cells = record { are = refl }; this = is_object (realm_there fit global (omega arith)) }

  global_code_too : {s : Heap} (most : ℕ) (strict : Bool) (body : List Stmt) → At s IsCompletion (L.global_code set most strict body)
  global_code_too most strict body = bind_any (enter_global_too L.beginning ((parts_too (within_too most) most).call L.beginning) set.functions strict body)
      (λ t up _. on_realm (λ fit. statements_too (λ u more x. (within_too most most).stmt (later_context more (global_too strict fit)) x) body))

pub sound_events : (s : Script) (turns : ℕ) (h : Heap) → Keeps realm h → IsSound h (script_tree turns s h)
unfolding script_tree
sound_events s turns h fit = (global_code_too (record { functions = s.funcs; turns = turns }) L.most_active s.directive s.body).at h fit _ _
    (record { at = λ completion t up ended. ends t up }) (record { at = λ v t up is. fails v t up is })
