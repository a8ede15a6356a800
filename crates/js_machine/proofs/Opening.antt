-- The evaluation of a node, a call and a built-in, opened once.
use Rattle.std.proofs.Common.{◌≡◌, ℕ, zero, suc, refl, List}
use Rattle.js_value.specs.declared.place.Place.{Place}
use Rattle.js_value.specs.declared.why.Why.TheVariants.{Depth}
use Rattle.js_tree.specs.declared.expression.Expr.{Expr}
use Rattle.js_tree.specs.declared.expression.ExprForm.{out-ExprForm}
use Rattle.js_tree.specs.declared.statement.Stmt.{Stmt}
use Rattle.js_tree.specs.declared.statement.StmtForm.{out-StmtForm}
use Rattle.js_tree.specs.declared.statement.StmtForm.TheFolds.{fold_out-Stmt, fold_out-StmtForm}
use Rattle.js_value.specs.declared.primitive.Primitive.{Primitive}
use Rattle.plain_heap.specs.Values.{Value, Prim, Object, ObjNo}
use Rattle.js_machine.specs.Machine.RealmObjects.{TypeError}
use Rattle.js_machine.specs.Machine.Objects.{throw_error}
use Rattle.plain_heap.specs.Heap.{Heap}
use Rattle.js_machine.specs.Machine.Expressions.{Completion, expr_rule, reference_rule}
use Rattle.js_machine.specs.Machine.Statements.{stmt_rule}
use Rattle.js_machine.specs.Machine.Events.{Run, Tree, Step, Stop, Leaves, Next, repeat, unless_done}
use Rattle.js_machine.specs.Machine.References.{Context, Reference}
use Rattle.js_machine.specs.Machine.Levels.{Setting, Nodes, Builtins, within, ev_of, builtin, perform_call, call_class, class_of, perform_construct, construct_class}
use Rattle.js_machine.specs.Machine.ObjectBuiltins.{Rule}

module _ (set : Setting) (d calls : ℕ) (context : Context) where
  pub at_expr : (e : Expr) (h : Heap) (k r : Value → Heap → Tree)
      → (within set (suc d) calls).expr context e h k r ≡ Step e.at (expr_rule (ev_of set (within set d) calls) context e.at (out-ExprForm e.form) h k r)
  unfolding within
  at_expr e h k r = refl

  pub at_reference : (e : Expr) (h : Heap) (k : Reference → Heap → Tree) (r : Value → Heap → Tree)
      → (within set (suc d) calls).reference context e h k r ≡ Step e.at (reference_rule (ev_of set (within set d) calls) context e.at (out-ExprForm e.form) h k r)
  unfolding within
  at_reference e h k r = refl

  pub at_stmt : (x : Stmt) (h : Heap) (k : Completion → Heap → Tree) (r : Value → Heap → Tree)
      → (within set (suc d) calls).stmt context x h k r ≡ Step x.at (stmt_rule (ev_of set (within set d) calls) context x.at (out-StmtForm x.form) h k r)
  unfolding within
  at_stmt x h k r = refl

pub at_call : (set : Setting) (nodes : Nodes) (builtins : Builtins) (at : Place) (o : ObjNo) (this : Value) (arguments : List Value) (h : Heap) (k r : Value → Heap → Tree)
    → perform_call set nodes builtins at (Object o) this arguments h k r ≡ call_class set nodes builtins at this arguments (class_of o h) h k r
unfolding perform_call
at_call set nodes builtins at o this arguments h k r = refl

pub at_builtin : (set : Setting) (nodes : ℕ → Nodes) (calls : ℕ) (at : Place) (rule : Rule) (this : Value) (arguments : List Value) (h : Heap) (k r : Value → Heap → Tree)
    → builtin set nodes (suc calls) at rule this arguments h k r ≡ rule (record { at = at; call = perform_call set (nodes calls) (builtin set nodes calls) at }) this arguments h k r
unfolding builtin
at_builtin set nodes calls at rule this arguments h k r = refl

pub at_construct : (call : Place → Value → Value → List Value → Run Value) (builtins : Builtins) (at : Place) (o : ObjNo) (arguments : List Value) (h : Heap) (k r : Value → Heap → Tree)
    → perform_construct call builtins at (Object o) arguments h k r ≡ construct_class (record { at = at; call = call at }) builtins o arguments (class_of o h) h k r
unfolding perform_construct
at_construct call builtins at o arguments h k r = refl

pub at_construct_of : (call : Place → Value → Value → List Value → Run Value) (builtins : Builtins) (at : Place) (p : Primitive) (arguments : List Value) (h : Heap) (k r : Value → Heap → Tree)
    → perform_construct call builtins at (Prim p) arguments h k r ≡ throw_error TypeError h k r
unfolding perform_construct
at_construct_of call builtins at p arguments h k r = refl

pub at_repeat : (n : ℕ) (once : Run (Next Completion)) (h : Heap) (k : Completion → Heap → Tree) (r : Value → Heap → Tree)
    → repeat (suc n) once h k r ≡ once h (λ t s. unless_done (repeat n once) t s k r) r
unfolding repeat
at_repeat n once h k r = refl

-- where no more may be active
module _ (z : ℕ) (none : z ≡ zero) where
  pub no_more : (set : Setting) (calls : ℕ) (context : Context) (e : Expr) (h : Heap) (k r : Value → Heap → Tree) → (within set z calls).expr context e h k r ≡ Step e.at (Stop (Leaves Depth) e.at)
  unfolding within
  no_more set calls context e h k r = rw none refl

  pub no_more_builtins : (set : Setting) (nodes : ℕ → Nodes) (at : Place) (rule : Rule) (this : Value) (arguments : List Value) (h : Heap) (k r : Value → Heap → Tree)
      → builtin set nodes z at rule this arguments h k r ≡ Stop (Leaves Depth) at
  unfolding builtin
  no_more_builtins set nodes at rule this arguments h k r = rw none refl

-- what every run opens
pub ruleset opening = (fold_out-Stmt, fold_out-StmtForm, at_expr, at_reference, at_stmt, at_call, at_builtin, at_construct, at_construct_of, at_repeat)
