-- The evaluation of nodes and the calls of built-ins, of which at most 1,200 each are active at once, and the run of a script.
use Rattle.std.specs.Prelude.{ℕ, zero, suc, List, Option, Some, None, unwrap_or, Bool}
use Rattle.std.specs.Option.{option_map}
use Rattle.js_value.specs.declared.place.Place.{Place}
use Rattle.js_value.specs.declared.why.Why.TheVariants.{Depth}
use Rattle.js_tree.specs.declared.expression.Expr.{Expr}
use Rattle.js_tree.specs.declared.expression.ExprForm.{out-ExprForm}
use Rattle.js_tree.specs.declared.statement.Func.{Func}
use Rattle.js_tree.specs.declared.statement.Script.{Script}
use Rattle.js_tree.specs.declared.statement.Stmt.{Stmt}
use Rattle.js_tree.specs.declared.statement.StmtForm.{out-StmtForm}
use Rattle.plain_heap.specs.Values.{Value, Object, ObjNo}
use Rattle.plain_heap.specs.Heap.{Heap, ObjectState, Class, Plain, Function, Builtin, object_at}
use Rattle.js_machine.specs.Machine.Expressions.{site, Ev, Completion, expr_rule, reference_rule}
use Rattle.js_machine.specs.Machine.Functions.{enter_global, call_function, construct_function}
use Rattle.js_machine.specs.Machine.References.{global_context, Context, Reference}
use Rattle.js_machine.specs.Machine.RealmObjects.{TypeError}
use Rattle.js_machine.specs.Machine.ObjectBuiltins.{Rule}
use Rattle.js_machine.specs.Machine.Objects.{Site, throw_error}
use Rattle.js_machine.specs.Machine.Realm.{builtin_rule, constructor_rule}
use Rattle.js_machine.specs.Machine.Statements.{statements, stmt_rule}
use Rattle.js_machine.specs.Machine.Events.{◌>>=◌, Tree, End, Fail, Run, leave, look, step}

-- what the rules look up and never change
pub record Setting : Type 0 where
  pub functions : List Func
  -- so many turns a loop has at most
  pub turns : ℕ

pub record Nodes : Type 0 where
  pub expr : Context → Expr → Run Value
  pub reference : Context → Expr → Run Reference
  pub stmt : Context → Stmt → Run Completion

-- a built-in at a node, where so many calls of built-ins more may be active
abbrev pub Builtins : Type 0
Builtins = Place → Rule → Value → List Value → Run Value

abbrev pub class_of : ObjNo → Heap → Class
class_of o h = unwrap_or (option_map (λ (state : ObjectState). state.class) (object_at h o)) Plain

-- ---- a call of a value (13.2.1)

abbrev pub run_rule : Builtins → Place → Value → List Value → Option Rule → Run Value
run_rule builtins at this arguments None = throw_error TypeError
run_rule builtins at this arguments (Some rule) = builtins at rule this arguments

abbrev pub call_class : Setting → Nodes → Builtins → Place → Value → List Value → Class → Run Value
call_class set nodes builtins at this arguments (Function f names strict) = call_function set.functions nodes.stmt at f names strict this arguments
call_class set nodes builtins at this arguments (Builtin n) = run_rule builtins at this arguments (builtin_rule n)
call_class set nodes builtins at this arguments class = throw_error TypeError

unfoldable pub perform_call : Setting → Nodes → Builtins → Place → Value → Value → List Value → Run Value
perform_call set nodes builtins at (Object o) this arguments = do
  class ← look (class_of o)
  call_class set nodes builtins at this arguments class
perform_call set nodes builtins at v this arguments = throw_error TypeError

-- the rule of a built-in, below which the nodes are evaluated by `nodes`
unfoldable pub builtin : Setting → (ℕ → Nodes) → ℕ → Builtins
builtin set nodes zero at rule this arguments = leave Depth at
builtin set nodes (suc calls) at rule this arguments = rule (record { at = at; call = perform_call set (nodes calls) (builtin set nodes calls) at }) this arguments

-- ---- `new` (11.2.2, 13.2.2)

abbrev pub construct_class : Site → Builtins → ObjNo → List Value → Class → Run Value
construct_class site builtins o arguments (Function f names strict) = construct_function site o arguments
construct_class site builtins o arguments (Builtin n) = run_rule builtins site.at (Object o) arguments (constructor_rule n)
construct_class site builtins o arguments class = throw_error TypeError

unfoldable pub perform_construct : (Place → Value → Value → List Value → Run Value) → Builtins → Place → Value → List Value → Run Value
perform_construct call builtins at (Object o) arguments = do
  class ← look (class_of o)
  construct_class (record { at = at; call = call at }) builtins o arguments class
perform_construct call builtins at v arguments = throw_error TypeError

-- ---- nodes

abbrev pub ev_of : Setting → (ℕ → Nodes) → ℕ → Ev
ev_of set nodes calls = record {
  expr = (nodes calls).expr;
  reference = (nodes calls).reference;
  stmt = (nodes calls).stmt;
  call = perform_call set (nodes calls) (builtin set nodes calls);
  construct = perform_construct (perform_call set (nodes calls) (builtin set nodes calls)) (builtin set nodes calls);
  functions = set.functions;
  turns = set.turns;
}

-- So many nodes more may be active, and so many calls of built-ins. Each evaluation of a node is a step, also one that leaves since it
-- is too deep.
unfoldable pub within : Setting → ℕ → ℕ → Nodes
within set zero calls = record {
  expr = λ context e. step e.at (leave Depth e.at);
  reference = λ context e. step e.at (leave Depth e.at);
  stmt = λ context x. step x.at (leave Depth x.at);
}
within set (suc depth) calls = record {
  expr = λ context e. step e.at (expr_rule (ev_of set (within set depth) calls) context e.at (out-ExprForm e.form));
  reference = λ context e. step e.at (reference_rule (ev_of set (within set depth) calls) context e.at (out-ExprForm e.form));
  stmt = λ context x. step x.at (stmt_rule (ev_of set (within set depth) calls) context x.at (out-StmtForm x.form));
}

abbrev pub evaluation : Setting → ℕ → ℕ → Ev
evaluation set depth calls = ev_of set (within set depth) calls

-- ---- a script (14)

-- no node is active while the names of global code are bound
abbrev pub beginning : Place
beginning = record { 0 = 0 }

-- global code, where so many nodes and so many calls of built-ins may be active
abbrev pub global_code : Setting → ℕ → Bool → List Stmt → Run Completion
global_code set most strict body = do
  _ ← enter_global set.functions (site (evaluation set most most) beginning) strict body
  statements ((within set most most).stmt (global_context strict)) body

-- what the code of a script does on a heap
abbrev pub script_tree_within : ℕ → ℕ → Script → Heap → Tree
script_tree_within most turns script h =
    global_code (record { functions = script.funcs; turns = turns }) most script.directive script.body h (λ completion s. End s) Fail

-- of nodes and of calls of built-ins each
abbrev pub most_active : ℕ
most_active = 1200

-- the events of a script whose loops have at most so many turns
unfoldable pub script_tree : ℕ → Script → Heap → Tree
script_tree = script_tree_within most_active
