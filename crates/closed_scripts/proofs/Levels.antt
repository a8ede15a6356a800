-- A closed script's events are plain, from a heap without symbols.
use Rattle.std.proofs.Common.{ℕ, zero, suc, List}
use Rattle.std.specs.Prelude.{Option, Bool}
use Rattle.js_value.specs.declared.place.Place.{Place}
use Rattle.js_value.specs.declared.why.Why.TheVariants.{Depth}
use Rattle.js_tree.specs.declared.expression.ExprForm.{out-ExprForm}
use Rattle.js_tree.specs.declared.statement.Script.{Script}
use Rattle.js_tree.specs.declared.statement.Stmt.{Stmt}
use Rattle.js_tree.specs.declared.statement.StmtForm.{out-StmtForm}
use Rattle.plain_heap.specs.Values.{Value, Object, ObjNo}
use Rattle.plain_heap.specs.Heap.{Class, Heap, Function, Builtin}
use Rattle.js_machine.specs.Machine.Levels as L
use Rattle.js_machine.specs.Machine.Levels.{Setting, Nodes, Builtins, within, ev_of, builtin, perform_call, perform_construct, script_tree}
use Rattle.js_machine.specs.Machine.Events.{Run}
use Rattle.js_machine.specs.Machine.ObjectBuiltins.{Rule}
use Rattle.js_machine.specs.Machine.References.{Context, global_context}
use Rattle.js_machine.specs.Machine.RealmObjects.{TypeError, global}
use Rattle.js_machine.specs.Machine.Worlds.{IsClosed}
use Rattle.closed_scripts.specs.Known.{Each, IsKnown, is_object, IsKnownHeap, IsPlain, ends, fails}
use Rattle.closed_scripts.proofs.Closing.{ClosedStmt, ClosedFunc, ClosedExpr, closed_parts, closed_stmt_parts, closed_body, closed_functions}
use Rattle.closed_scripts.proofs.Quiet.{Quiet, Given, nothing, just, bind_any, left_at, looks_any, takes_step}
use Rattle.closed_scripts.proofs.Objects.{CallsQuiet, Values, IsReference, site_of, throw_error_too}
use Rattle.closed_scripts.proofs.Expressions.{KnownContext, IsCompletion, PartsQuiet, expr_rule_too, reference_rule_too}
use Rattle.closed_scripts.proofs.Statements.{statements_too, stmt_rule_too}
use Rattle.closed_scripts.proofs.Functions.{call_function_too, construct_function_too, enter_global_too}
use Rattle.closed_scripts.proofs.Builtins.{RuleQuiet}
use Rattle.closed_scripts.proofs.RealmRules.{builtin_rule_too, constructor_rule_too}
use Rattle.js_tree.specs.declared.expression.Expr.{Expr}

-- nodes that are quiet on closed code
pub record NodesQuiet (nodes : Nodes) : Type 0 where
  pub expr : (context : Context) → KnownContext context → (e : Expr) → ClosedExpr e → Quiet IsKnown (nodes.expr context e)
  pub reference : (context : Context) → KnownContext context → (e : Expr) → ClosedExpr e → Quiet IsReference (nodes.reference context e)
  pub stmt : (context : Context) → KnownContext context → (x : Stmt) → ClosedStmt x → Quiet IsCompletion (nodes.stmt context x)

pub record BuiltinsQuiet (builtins : Builtins) : Type 0 where
  pub at : (place : Place) (rule : Rule) → RuleQuiet rule → {this : Value} → IsKnown this → {arguments : List Value} → Values arguments → Quiet IsKnown (builtins place rule this arguments)

module _ {builtins : Builtins} (h : BuiltinsQuiet builtins) where
  run_rule_too : (at : Place) {this : Value} → IsKnown this → {arguments : List Value} → Values arguments → {rule : Option Rule} → Given RuleQuiet rule → Quiet IsKnown (L.run_rule builtins at this arguments rule)
  run_rule_too at is values nothing = throw_error_too TypeError
  run_rule_too at is values (just {a = rule} quiet) = h.at at rule quiet is values

  construct_class_too : (at : Place) {call : Value → Value → List Value → Run Value} → CallsQuiet call → (o : ObjNo) {arguments : List Value} → Values arguments → (class : Class)
      → Quiet IsKnown (L.construct_class (site_of at call) builtins o arguments class)
  construct_class_too at c o values (Function f names strict) = construct_function_too at c o values
  construct_class_too at c o values (Builtin n) = run_rule_too at (is_object o) values (constructor_rule_too n)
  construct_class_too at c o values class = throw_error_too TypeError

  construct_too : {call : Place → Value → Value → List Value → Run Value} → ((at : Place) → CallsQuiet (call at)) → (at : Place) (f : Value) (arguments : List Value) → Values arguments
      → Quiet IsKnown (perform_construct call builtins at f arguments)
  unfolding perform_construct
  construct_too c at (Object o) arguments values = bind_any (looks_any (L.class_of o)) (λ class. construct_class_too at (c at) o values class)
  construct_too c at f arguments values = throw_error_too TypeError

module _ (set : Setting) (all : Each ClosedFunc set.functions) where
  call_class_too : {nodes : Nodes} {builtins : Builtins} → NodesQuiet nodes → BuiltinsQuiet builtins → (at : Place) {this : Value} → IsKnown this → {arguments : List Value} → Values arguments → (class : Class)
      → Quiet IsKnown (L.call_class set nodes builtins at this arguments class)
  call_class_too n b at is values (Function f names strict) = call_function_too n.stmt all at names strict is values f
  call_class_too n b at is values (Builtin m) = run_rule_too b at is values (builtin_rule_too m)
  call_class_too n b at is values class = throw_error_too TypeError

  call_value_too : {nodes : Nodes} {builtins : Builtins} → NodesQuiet nodes → BuiltinsQuiet builtins → (at : Place) (f : Value) {this : Value} → IsKnown this → {arguments : List Value} → Values arguments
      → Quiet IsKnown (perform_call set nodes builtins at f this arguments)
  unfolding perform_call
  call_value_too n b at (Object o) is values = bind_any (looks_any (L.class_of o)) (λ class. call_class_too n b at is values class)
  call_value_too n b at f is values = throw_error_too TypeError

  calls_too : {nodes : Nodes} {builtins : Builtins} → NodesQuiet nodes → BuiltinsQuiet builtins → (at : Place) → CallsQuiet (perform_call set nodes builtins at)
  calls_too n b at = record { at = λ f this arguments is values. call_value_too n b at f is values }

  builtin_too : {nodes : ℕ → Nodes} → ((calls : ℕ) → NodesQuiet (nodes calls)) → (calls : ℕ) → BuiltinsQuiet (builtin set nodes calls)
  unfolding builtin
  builtin_too n zero = record { at = λ at rule quiet is values. left_at Depth at }
  builtin_too n (suc calls) = record { at = λ at rule quiet is values. quiet.at at (calls_too (n calls) (builtin_too n calls) at) is values }

  parts_too : {nodes : ℕ → Nodes} → ((calls : ℕ) → NodesQuiet (nodes calls)) → (calls : ℕ) → PartsQuiet (ev_of set nodes calls)
  parts_too n calls =
      let call = calls_too (n calls) (builtin_too n calls) in record {
        expr = (n calls).expr;
        reference = (n calls).reference;
        stmt = (n calls).stmt;
        call = call;
        construct = construct_too (builtin_too n calls) call;
      }

  within_too : (depth calls : ℕ) → NodesQuiet (within set depth calls)
  unfolding within
  within_too zero calls = record {
    expr = λ context known e closed. takes_step e.at (left_at Depth e.at);
    reference = λ context known e closed. takes_step e.at (left_at Depth e.at);
    stmt = λ context known x closed. takes_step x.at (left_at Depth x.at);
  }
  within_too (suc depth) calls = record {
    expr = λ context known e closed. takes_step e.at (expr_rule_too (parts_too (within_too depth) calls) known e.at (out-ExprForm e.form) (closed_parts e closed));
    reference = λ context known e closed. takes_step e.at (reference_rule_too (parts_too (within_too depth) calls) known e.at (out-ExprForm e.form) (closed_parts e closed));
    stmt = λ context known x closed. takes_step x.at (stmt_rule_too (parts_too (within_too depth) calls) known x.at (out-StmtForm x.form) (closed_stmt_parts x closed));
  }

  global_code_too : (most : ℕ) (strict : Bool) {body : List Stmt} → Each ClosedStmt body → Quiet IsCompletion (L.global_code set most strict body)
  global_code_too most strict {body} closed = bind_any (enter_global_too L.beginning ((parts_too (within_too most) most).call L.beginning) set.functions strict body)
      (λ _. statements_too ((within_too most most).stmt (global_context strict) (record { this = is_object global })) closed)

pub plain_events : (s : Script) (turns : ℕ) (h : Heap) → IsClosed s → IsKnownHeap h → IsPlain (script_tree turns s h)
unfolding script_tree
plain_events s turns h closed known = (global_code_too (record { functions = s.funcs; turns = turns }) (closed_functions s closed) L.most_active s.directive (closed_body s closed)).at h known _ _
    (record { at = λ completion ended t known. ends t known }) (record { at = λ v is t known. fails v t is known })
