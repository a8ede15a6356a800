-- What the frame of a residual does, whatever the places of its nodes.
use Rattle.std.specs.Prelude.{◌≡◌, ℕ, suc, ◌+◌, Bool, true, false, List, [], ◌∷◌, ◌++◌, codes, length, map, slice_get, Ok, Some, None}
use Rattle.js_value.specs.declared.place.FuncNo.{FuncNo}
use Rattle.js_value.specs.declared.place.Place.{Place}
use Rattle.js_tree.specs.Mentions.{Names, hoisted_functions}
use Rattle.js_tree.specs.declared.expression.Expr.{Expr}
use Rattle.js_tree.specs.declared.expression.ExprForm.TheOpen.{ExprForm-F}
use Rattle.js_tree.specs.declared.statement.Declarator.{Declarator}
use Rattle.js_tree.specs.declared.statement.Func.{Func}
use Rattle.js_tree.specs.declared.statement.Stmt.{Stmt}
use Rattle.js_tree.specs.declared.statement.StmtForm.TheOpen.{StmtForm-F}
use Rattle.plain_heap.specs.Heap.{Key, Environment, Function, Builtin, Heap, ObjectState, add_object, is_function, resolve, set_object}
use Rattle.plain_heap.specs.Methods.{GotValue, checked_key, get, has_property}
use Rattle.plain_heap.specs.Values.{CellNo, Value, Object, ObjNo, undefined}
use Rattle.js_machine.specs.Machine.Creating.{declared_names, enter_function, function_expression, function_state, is_strict_in, name_of, parameters_of, prototype_state}
use Rattle.js_machine.specs.Machine.Events.{Run}
use Rattle.js_machine.specs.Machine.Expressions.{Completion, Ev, Normal}
use Rattle.js_machine.specs.Machine.Levels.{Setting, class_of, ev_of, within}
use Rattle.js_machine.specs.Machine.ObjectBuiltins.{call}
use Rattle.js_machine.specs.Machine.Realm.{builtin_rule}
use Rattle.js_machine.specs.Machine.RealmObjects.{global}
use Rattle.js_machine.specs.Machine.References.{Context}
use Rattle.js_machine.specs.Machine.Statements.{declarators, statements}
use Rattle.js_machine.specs.Machine.Walks.{World}
use Rattle.residual_runs.specs.Runs.{State, Runs, Throws}
use Rattle.residual_runs.specs.Statements.{IsExpr, IsStmt, Puts, evaluate, execute}

-- ---- the wrapper

-- (function () { .. }).call(this);
pub record CallsFunction (t : Stmt) (f : FuncNo) : Type 0 where
  pub calling : Expr
  pub callee : Expr
  pub function : Expr
  pub this : Expr
  pub is_statement : IsStmt t (StmtForm-F.Eval calling)
  pub is_call : IsExpr calling (ExprForm-F.Call callee (this ∷ []))
  pub is_callee : IsExpr callee (ExprForm-F.Member function (codes "call"))
  pub is_function : IsExpr function (ExprForm-F.Func f)
  pub is_this : IsExpr this ExprForm-F.This

-- the function that was made is this code, and its `call` is that of Function.prototype
pub record FindsCall (h : Heap) (o : ObjNo) (f : FuncNo) (names : Environment) : Type 0 where
  pub callable : is_function h o ≡ true
  pub code : class_of o h ≡ Function f names false
  pub callee : ObjNo
  pub got : get h o (codes "call") ≡ GotValue (Object callee)
  pub also : is_function h callee ≡ true
  pub number : ℕ
  pub class : class_of callee h ≡ Builtin number
  pub does : builtin_rule number ≡ Some call

-- ---- paths

-- a chain of names from `this`, the last one first
abbrev pub IsPath : Expr → List Key → Type 0
IsPath e [] = IsExpr e ExprForm-F.This
IsPath e (key ∷ path) = (inner : Expr) × IsExpr e (ExprForm-F.Member inner key) × IsPath inner path

-- from the global object it leads to this one, by properties that are objects
abbrev pub Leads : Heap → List Key → ObjNo → Type 0
Leads h [] o = o ≡ global
Leads h (key ∷ path) o = (before : ObjNo) × Leads h path before × (checked_key key ≡ Ok key) × (get h before key ≡ GotValue (Object o))

-- a node for each name and one for `this`, so many that may be active more
abbrev pub nodes_of : List Key → ℕ → ℕ
nodes_of [] d = suc d
nodes_of (key ∷ path) d = suc (nodes_of path d)

abbrev pub steps_of : List Key → ℕ
steps_of [] = 1
steps_of (key ∷ path) = 1 + steps_of path

-- ---- the variables of the wrapper's code: each has a new cell, which holds undefined

abbrev pub in_new_cells : Names → CellNo → Environment
in_new_cells [] c = []
in_new_cells (name ∷ names) c = (name, c) ∷ in_new_cells names (c + 1)

abbrev pub with_cells : Names → Heap → Heap
with_cells names h = record h { cells = h.cells ++ map (λ name. undefined) names }

-- ---- the law

module _ (set : Setting) (calls : ℕ) (context : Context) (w : World) (d : ℕ) where
  abbrev pub parts : Ev
  parts = ev_of set (within set d) calls

  -- the declarators of a `var` statement, one after another
  abbrev pub declaring : Place → List Declarator → Run (Unit {0})
  declaring at ds = declarators parts context at ds

  pub record VarRuns : Type 0 where
    pub statement : (t : Stmt) (ds : List Declarator) (before after : State) (i : ℕ) → IsStmt t (StmtForm-F.Var ds) → Runs w (declaring t.at ds) before i tt after
        → Runs w (execute set calls context (suc d) t) before (1 + i) Normal after
    pub none : (at : Place) (s : State) → Runs w (declaring at []) s 0 tt s
    pub bare : (at : Place) (x : Declarator) (ds : List Declarator) (before after : State) (i : ℕ) → x.init ≡ None → Runs w (declaring at ds) before i tt after
        → Runs w (declaring at (x ∷ ds)) before i tt after
    -- of a variable that is a property of the global object
    pub given : (at : Place) (x : Declarator) (e : Expr) (ds : List Declarator) (before mid after : State) (i j : ℕ) (v : Value) (state : ObjectState) → x.init ≡ Some e
        → resolve context.environment x.name ≡ None → checked_key x.name ≡ Ok x.name → has_property before.heap global x.name ≡ true → context.strict ≡ false
        → Runs w (evaluate set calls context d e) before i v mid → Puts mid.heap global x.name v state
        → Runs w (declaring at ds) (record mid { heap = set_object global state mid.heap }) j tt after → Runs w (declaring at (x ∷ ds)) before (i + j) tt after

  pub record PathsRun : Type 0 where
    pub path : (e : Expr) (path : List Key) (o : ObjNo) (s : State) → context.this ≡ Object global → IsPath e path → Leads s.heap path o
        → Runs w (evaluate set calls context (nodes_of path d) e) s (steps_of path) (Object o) s

  -- the body's code, with the variables that the call makes
  abbrev pub body_context : Environment → Context
  body_context names = record { environment = names; this = Object global; strict = false }

  -- the function is made, and then its code is entered
  abbrev pub made : FuncNo → Heap → ObjNo × Heap
  made f h = function_expression set.functions f context.environment context.strict h

  abbrev pub entered : Func → Heap → Environment × Heap
  entered func h = enter_function set.functions func context.environment false [] h

  pub record WrapperRuns : Type 0 where
    pub runs : (t : Stmt) (f : FuncNo) (func : Func) (s after : State) (i : ℕ) (completion : Completion) → CallsFunction t f → context.this ≡ Object global
        → slice_get set.functions f.0 ≡ Some func → FindsCall (made f s.heap).1 (made f s.heap).0 f context.environment
        → (let inside = entered func (made f s.heap).1 in
        Runs w (statements (execute set calls (body_context inside.0) (suc (suc d))) func.body) (record s { heap = inside.1 }) i completion after)
        → Runs w (execute set (suc calls) context (suc (suc (suc (suc d)))) t) s (5 + i) Normal after
    pub throws : (t : Stmt) (f : FuncNo) (func : Func) (s after : State) (i : ℕ) (v : Value) → CallsFunction t f → context.this ≡ Object global
        → slice_get set.functions f.0 ≡ Some func → FindsCall (made f s.heap).1 (made f s.heap).0 f context.environment
        → (let inside = entered func (made f s.heap).1 in
        Throws w (statements (execute set calls (body_context inside.0) (suc (suc d))) func.body) (record s { heap = inside.1 }) i v after)
        → Throws w (execute set (suc calls) context (suc (suc (suc (suc d)))) t) s (5 + i) v after

-- for every setting, context, world and depth
pub record FramesRun : Type 0 where
  pub vars : (set : Setting) (calls : ℕ) (context : Context) (w : World) (d : ℕ) → VarRuns set calls context w d
  pub paths : (set : Setting) (calls : ℕ) (context : Context) (w : World) (d : ℕ) → PathsRun set calls context w d
  pub wrapper : (set : Setting) (calls : ℕ) (context : Context) (w : World) (d : ℕ) → WrapperRuns set calls context w d
  -- a function without a name is two objects, and has the cells of the names around it
  pub function : (functions : List Func) (f : FuncNo) (names : Environment) (strict : Bool) (h : Heap) → let code = slice_get functions f.0 in let o = length h.objects in name_of code ≡ None
      → function_expression functions f names strict h ≡ (o, add_object (prototype_state o) (add_object (function_state f names (is_strict_in strict code) (parameters_of code) (o + 1)) h))
  -- code without parameters and function declarations binds its variables, each once, to new cells
  pub variables : (functions : List Func) (code : Func) (names : Environment) (strict : Bool) (h : Heap) → code.params ≡ [] → hoisted_functions code.body ≡ []
      → enter_function functions code names strict [] h ≡ (in_new_cells (declared_names functions code) (length h.cells) ++ names, with_cells (declared_names functions code) h)
