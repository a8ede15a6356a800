-- Runs of a script do alike with two bounds on turns, where loops do.
use Rattle.std.proofs.Common.{ℕ, zero, suc, List, refl}
use Rattle.std.specs.Prelude.{Option, Some, None, Bool}
use Rattle.js_value.specs.declared.place.Place.{Place}
use Rattle.js_value.specs.declared.why.Why.TheVariants.{Depth}
use Rattle.js_tree.specs.declared.expression.Expr.{Expr}
use Rattle.js_tree.specs.declared.expression.ExprForm.{out-ExprForm}
use Rattle.js_tree.specs.declared.statement.Func.{Func}
use Rattle.js_tree.specs.declared.statement.Script.{Script}
use Rattle.js_tree.specs.declared.statement.Stmt.{Stmt}
use Rattle.js_tree.specs.declared.statement.StmtForm.{out-StmtForm}
use Rattle.plain_heap.specs.Values.{Value, Object, ObjNo}
use Rattle.plain_heap.specs.Heap.{Class, Heap, Function, Builtin}
use Rattle.js_machine.specs.Machine.Levels as L
use Rattle.js_machine.specs.Machine.Levels.{Setting, Nodes, Builtins, within, ev_of, builtin, perform_call, perform_construct, script_tree}
use Rattle.js_machine.specs.Machine.References.{Context, global_context}
use Rattle.js_machine.specs.Machine.RealmObjects.{TypeError}
use Rattle.js_machine.specs.Machine.ObjectBuiltins.{Rule}
use Rattle.js_machine.specs.Machine.Realm.{builtin_rule, constructor_rule}
use Rattle.js_machine.specs.Machine.Events.{Run}
use Rattle.machine_laws.proofs.Alike.{TreeRelation, Alike, Stepped, LoopsAlike, bind, plainly, left_at, looks, takes_step}
use Rattle.machine_laws.proofs.AlikeObjects.{CallsAlike, site_of, throw_error_too}
use Rattle.machine_laws.proofs.AlikeExpressions.{PartsAlike, expr_rule_too, reference_rule_too}
use Rattle.machine_laws.proofs.AlikeStatements.{statements_too, stmt_rule_too}
use Rattle.machine_laws.proofs.AlikeFunctions.{call_function_too, construct_function_too, enter_global_too}
use Rattle.machine_laws.proofs.AlikeBuiltins.{RuleAlike}
use Rattle.machine_laws.proofs.AlikeRealm.{IfThere, builtin_rule_too, constructor_rule_too}

-- nodes that take a step and do alike
pub record NodesAlike (w : TreeRelation) (nodes other : Nodes) : Type 0 where
  pub expr : (context : Context) (e : Expr) → Stepped w (nodes.expr context e) (other.expr context e)
  pub reference : (context : Context) (e : Expr) → Alike w (nodes.reference context e) (other.reference context e)
  pub stmt : (context : Context) (x : Stmt) → Stepped w (nodes.stmt context x) (other.stmt context x)

pub record BuiltinsAlike (w : TreeRelation) (builtins other : Builtins) : Type 0 where
  pub at : (place : Place) (rule : Rule) → RuleAlike w rule → (this : Value) (arguments : List Value) → Alike w (builtins place rule this arguments) (other place rule this arguments)

abbrev pub setting : List Func → ℕ → Setting
setting functions turns = record { functions = functions; turns = turns }

module _ (w : TreeRelation) {builtins other : Builtins} (h : BuiltinsAlike w builtins other) where
  run_rule_too : (at : Place) (this : Value) (arguments : List Value) (rule : Option Rule) → IfThere w rule → Alike w (L.run_rule builtins at this arguments rule) (L.run_rule other at this arguments rule)
  run_rule_too at this arguments None is = throw_error_too w TypeError
  run_rule_too at this arguments (Some rule) is = h.at at rule is this arguments

  construct_class_too : (at : Place) {call calls : Value → Value → List Value → Run Value} → CallsAlike w call calls → (o : ObjNo) (arguments : List Value) (class : Class)
      → Alike w (L.construct_class (site_of at call) builtins o arguments class) (L.construct_class (site_of at calls) other o arguments class)
  construct_class_too at c o arguments (Function f names strict) = construct_function_too w at c o arguments
  construct_class_too at c o arguments (Builtin n) = run_rule_too at (Object o) arguments (constructor_rule n) (constructor_rule_too w n)
  construct_class_too at c o arguments class = throw_error_too w TypeError

  pub construct_rule_too : {call calls : Place → Value → Value → List Value → Run Value} → ((at : Place) → CallsAlike w (call at) (calls at)) → (at : Place) (f : Value) (arguments : List Value)
      → Alike w (perform_construct call builtins at f arguments) (perform_construct calls other at f arguments)
  unfolding perform_construct
  construct_rule_too c at (Object o) arguments = bind w (looks w (L.class_of o)) (λ class. construct_class_too at (c at) o arguments class)
  construct_rule_too c at f arguments = throw_error_too w TypeError

module _ (w : TreeRelation) (functions : List Func) (turns more : ℕ) where
  call_class_too : {nodes others : Nodes} {builtins other : Builtins} → NodesAlike w nodes others → BuiltinsAlike w builtins other → (at : Place) (this : Value) (arguments : List Value) (class : Class)
      → Alike w (L.call_class (setting functions turns) nodes builtins at this arguments class) (L.call_class (setting functions more) others other at this arguments class)
  call_class_too n b at this arguments (Function f names strict) = call_function_too w (λ context x. plainly w (n.stmt context x)) functions at names strict this arguments f
  call_class_too n b at this arguments (Builtin m) = run_rule_too w b at this arguments (builtin_rule m) (builtin_rule_too w m)
  call_class_too n b at this arguments class = throw_error_too w TypeError

  call_value_too : {nodes others : Nodes} {builtins other : Builtins} → NodesAlike w nodes others → BuiltinsAlike w builtins other → (at : Place) (f this : Value) (arguments : List Value)
      → Alike w (perform_call (setting functions turns) nodes builtins at f this arguments) (perform_call (setting functions more) others other at f this arguments)
  unfolding perform_call
  call_value_too n b at (Object o) this arguments = bind w (looks w (L.class_of o)) (λ class. call_class_too n b at this arguments class)
  call_value_too n b at f this arguments = throw_error_too w TypeError

  call_rule_too : {nodes others : Nodes} {builtins other : Builtins} → NodesAlike w nodes others → BuiltinsAlike w builtins other → (at : Place)
      → CallsAlike w (perform_call (setting functions turns) nodes builtins at) (perform_call (setting functions more) others other at)
  call_rule_too n b at = record { at = λ f this arguments. call_value_too n b at f this arguments }

  builtin_too : {nodes others : ℕ → Nodes} → ((calls : ℕ) → NodesAlike w (nodes calls) (others calls)) → (calls : ℕ)
      → BuiltinsAlike w (builtin (setting functions turns) nodes calls) (builtin (setting functions more) others calls)
  unfolding builtin
  builtin_too n zero = record { at = λ at rule is this arguments. left_at w Depth at }
  builtin_too n (suc calls) = record { at = λ at rule is this arguments. is.at at (call_rule_too (n calls) (builtin_too n calls) at) this arguments }

  module _ (loops : LoopsAlike w turns more) where
    parts_too : {nodes others : ℕ → Nodes} → ((calls : ℕ) → NodesAlike w (nodes calls) (others calls)) → (calls : ℕ)
        → PartsAlike w (ev_of (setting functions turns) nodes calls) (ev_of (setting functions more) others calls)
    parts_too n calls =
        let call = call_rule_too (n calls) (builtin_too n calls) in record {
          expr = (n calls).expr;
          reference = (n calls).reference;
          stmt = (n calls).stmt;
          call = call;
          construct = construct_rule_too w (builtin_too n calls) call;
          functions = refl;
          loops = loops;
        }

    within_too : (depth calls : ℕ) → NodesAlike w (within (setting functions turns) depth calls) (within (setting functions more) depth calls)
    unfolding within
    within_too zero calls = record {
      expr = λ context e. takes_step w e.at (left_at w Depth e.at);
      reference = λ context e. plainly w (takes_step w e.at (left_at w Depth e.at));
      stmt = λ context x. takes_step w x.at (left_at w Depth x.at);
    }
    within_too (suc depth) calls = record {
      expr = λ context e. takes_step w e.at (expr_rule_too w (parts_too (within_too depth) calls) context e.at (out-ExprForm e.form));
      reference = λ context e. plainly w (takes_step w e.at (reference_rule_too w (parts_too (within_too depth) calls) context e.at (out-ExprForm e.form)));
      stmt = λ context x. takes_step w x.at (stmt_rule_too w (parts_too (within_too depth) calls) context x.at (out-StmtForm x.form));
    }

    global_code_too : (most : ℕ) (strict : Bool) (body : List Stmt) → Alike w (L.global_code (setting functions turns) most strict body) (L.global_code (setting functions more) most strict body)
    global_code_too most strict body = bind w (enter_global_too w L.beginning ((parts_too (within_too most) most).call L.beginning) functions strict body)
        (λ _. statements_too w (λ x. plainly w ((within_too most most).stmt (global_context strict) x)) body)

-- the trees of a script with two bounds on turns
pub script_trees : (w : TreeRelation) (script : Script) (turns more : ℕ) → LoopsAlike w turns more
    → (n : ℕ) (h : Heap) → w.Related n (script_tree turns script h) (script_tree more script h)
unfolding script_tree
script_trees w script turns more loops n h = (global_code_too w script.funcs turns more loops L.most_active script.directive script.body).at n h _ _ _ _
    (record { at = λ j le completion s. w.ends j s }) (record { at = λ j le v s. w.fails j v s })
