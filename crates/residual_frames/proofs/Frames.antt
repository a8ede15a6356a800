-- The runs of the frame.
use Rattle.std.proofs.Common.{◌++◌, append_assoc, append-nil, map, ◌≡◌, ℕ, suc, ◌+◌, Bool, true, false, List, [], ◌∷◌, refl, ap, subst, sym, ◌∙◌, arith, length}
use Rattle.std.specs.Prelude.{if◌then◌else◌, codes, slice_get, Ok, Some, None}
use Rattle.js_value.specs.declared.place.FuncNo.{FuncNo}
use Rattle.js_value.specs.declared.place.Place.{Place}
use Rattle.js_tree.specs.Mentions.{Names, hoisted_functions}
use Rattle.js_tree.specs.declared.expression.Expr.{Expr}
use Rattle.js_tree.specs.declared.expression.ExprForm.{ExprForm}
use Rattle.js_tree.specs.declared.expression.ExprForm.TheOpen.{ExprForm-F}
use Rattle.js_tree.specs.declared.expression.Field.{Field}
use Rattle.js_tree.specs.declared.statement.Declarator.{Declarator}
use Rattle.js_tree.specs.declared.statement.Func.{Func}
use Rattle.js_tree.specs.declared.statement.Stmt.{Stmt}
use Rattle.js_tree.specs.declared.statement.StmtForm.TheOpen.{StmtForm-F}
use Rattle.plain_heap.specs.Heap.{Key, Environment, Heap, ObjectState, add_object, new_cell, resolve, set_object}
use Rattle.plain_heap.specs.Methods as methods
use Rattle.plain_heap.specs.Values.{Value, Object, ObjNo, undefined}
use Rattle.js_machine.specs.Machine.Creating as creating
use Rattle.js_machine.specs.Machine.Creating.{declared_names, enter_function, function_expression, function_state, is_strict_in, name_of, named, parameters_of, prototype_state}
use Rattle.js_machine.specs.Machine.Events.{Tree, Step, Run, ◌>>=◌, choose, each}
use Rattle.js_machine.specs.Machine.Expressions as expressions
use Rattle.js_machine.specs.Machine.Expressions.{Completion, Ev, Normal, site, expr_rule}
use Rattle.js_machine.specs.Machine.Functions as functions
use Rattle.js_machine.specs.Machine.Levels.{Setting, builtin, call_class, ev_of, perform_call, run_rule, within}
use Rattle.js_machine.specs.Machine.ObjectBuiltins as builtins
use Rattle.js_machine.specs.Machine.Objects as objects
use Rattle.js_machine.specs.Machine.RealmObjects.{TypeError, global}
use Rattle.js_machine.specs.Machine.References as references
use Rattle.js_machine.specs.Machine.References.{Context, Reference, NameReference, PropertyReference, OnGlobal}
use Rattle.js_machine.specs.Machine.Statements as rules
use Rattle.js_machine.specs.Machine.Statements.{declarators, statements, stmt_rule}
use Rattle.js_machine.specs.Machine.Walks.{World, walk}
use Rattle.js_machine.proofs.Opening.{at_builtin, at_call, at_expr}
use Rattle.residual_runs.specs.Runs.{State, Runs, Throws}
use Rattle.residual_runs.specs.Statements.{IsExpr, IsStmt, Puts, evaluate, execute}
use Rattle.residual_runs.proofs.Runs.{at_once, followed, counted, throws_first, throws_then, throws_behind_step}
use Rattle.residual_runs.proofs.Statements.{argument, expr_runs, function_runs, member_runs, member_target, no_arguments, property_read, put_is, stmt_runs, stmt_throws, this_runs}
use Rattle.residual_frames.specs.Frames.{in_new_cells, with_cells, CallsFunction, FindsCall, IsPath, Leads, nodes_of, steps_of, declaring, parts, body_context, made, entered, FramesRun}

zero_more : (i : ℕ) → i + 0 ≡ i
zero_more i = omega arith

zero_around : (i : ℕ) → 0 + (i + 0) ≡ i
zero_around i = omega arith

five : (i : ℕ) → 1 + ((1 + ((1 + 1) + (0 + ((1 + 0) + i)))) + 0) ≡ 5 + i
five i = omega arith

five_thrown : (i : ℕ) → 1 + (1 + ((1 + 1) + (0 + ((1 + 0) + i)))) ≡ 5 + i
five_thrown i = omega arith

module _ (set : Setting) (calls : ℕ) (context : Context) (w : World) (d : ℕ) where
  abbrev ev : Ev
  ev = parts set calls context w d

  -- ---- `var`

  var_runs : (t : Stmt) (ds : List Declarator) (before after : State) (i : ℕ) → IsStmt t (StmtForm-F.Var ds) → Runs w (declaring set calls context w d t.at ds) before i tt after
      → Runs w (execute set calls context (suc d) t) before (1 + i) Normal after
  unfolding stmt_rule rules.var_rule
  var_runs t ds before after i is runs = stmt_runs set calls context w d t (StmtForm-F.Var ds) is (record { at = λ n k r. runs.at n (λ _ s. k Normal s) r })

  bare : (at : Place) (x : Declarator) (ds : List Declarator) (before after : State) (i : ℕ) → x.init ≡ None → Runs w (declaring set calls context w d at ds) before i tt after
      → Runs w (declaring set calls context w d at (x ∷ ds)) before i tt after
  unfolding rules.declarator_rule
  bare at x ds before after i is runs = subst (λ init. Runs w (rules.declarator_rule ev context at x.name init >>= (λ _. declaring set calls context w d at ds)) before i tt after) (sym is) runs

  named_on_global : (at : Place) (name : List ℕ) (s : State) → resolve context.environment name ≡ None → methods.checked_key name ≡ Ok name → methods.has_property s.heap global name ≡ true
      → Runs w (references.resolve_name (site ev at) context name) s 0 (NameReference name OnGlobal context.strict) s
  unfolding references.resolve_name objects.has_property
  named_on_global at name s free named there = at_once w (λ k r. rw free (rw named (rw there refl)))

  put_on_global : (at : Place) (name : List ℕ) (v : Value) (s : State) (state : ObjectState) → context.strict ≡ false → Puts s.heap global name v state
      → Runs w (references.put_value (site ev at) (NameReference name OnGlobal context.strict) v) s 0 tt (record s { heap = set_object global state s.heap })
  unfolding references.put_value
  put_on_global at name v s state sloppy puts = at_once w (λ k r. ap (λ strict. objects.put (site ev at) global name v strict s.heap k r) sloppy ∙ put_is (site ev at) global name v s.heap state puts k r)

  given : (at : Place) (x : Declarator) (e : Expr) (ds : List Declarator) (before mid after : State) (i j : ℕ) (v : Value) (state : ObjectState) → x.init ≡ Some e
      → resolve context.environment x.name ≡ None → methods.checked_key x.name ≡ Ok x.name → methods.has_property before.heap global x.name ≡ true → context.strict ≡ false
      → Runs w (evaluate set calls context d e) before i v mid → Puts mid.heap global x.name v state
      → Runs w (declaring set calls context w d at ds) (record mid { heap = set_object global state mid.heap }) j tt after → Runs w (declaring set calls context w d at (x ∷ ds)) before (i + j) tt after
  unfolding rules.declarator_rule
  given at x e ds before mid after i j v state is free named there sloppy value puts others =
      subst (λ init. Runs w (rules.declarator_rule ev context at x.name init >>= (λ _. declaring set calls context w d at ds)) before (i + j) tt after) (sym is)
      (followed w {f = λ _. declaring set calls context w d at ds}
      (counted w (zero_around i)
      (followed w {f = λ ref. evaluate set calls context d e >>= (λ v. references.put_value (site ev at) ref v)} (named_on_global at x.name before free named there)
      (followed w {f = λ v. references.put_value (site ev at) (NameReference x.name OnGlobal context.strict) v} value (put_on_global at x.name v mid state sloppy puts))))
      others)

  -- ---- the wrapper

  abbrev level : Ev
  level = ev_of set (within set (suc (suc d))) (suc calls)

  abbrev inner : Context → Stmt → Run Completion
  inner = (within set (suc (suc d)) calls).stmt

  -- the built-in calls the function, whose code is entered
  called_is : (at : Place) (f : FuncNo) (func : Func) (h : Heap) (o : ObjNo) (finds : FindsCall h o f context.environment) → slice_get set.functions f.0 ≡ Some func → (k r : Value → Heap → Tree)
      → expressions.call_checked level at (Object finds.callee) (Object o) (Object global ∷ []) h k r
      ≡ statements (inner (body_context set calls context w d (entered set calls context w d func h).0)) func.body (entered set calls context w d func h).1 (λ completion s. k (functions.returned completion) s) r
  unfolding builtins.call functions.call_function functions.function_call
  called_is at f func h o finds is k r =
      ap (λ b. choose b (level.call at (Object finds.callee) (Object o) (Object global ∷ [])) (objects.throw_error TypeError) h k r) finds.also
      ∙ at_call set (within set (suc (suc d)) (suc calls)) (builtin set (within set (suc (suc d))) (suc calls)) at finds.callee (Object o) (Object global ∷ []) h k r
      ∙ ap (λ class. call_class set (within set (suc (suc d)) (suc calls)) (builtin set (within set (suc (suc d))) (suc calls)) at (Object o) (Object global ∷ []) class h k r) finds.class
      ∙ ap (λ rule. run_rule (builtin set (within set (suc (suc d))) (suc calls)) at (Object o) (Object global ∷ []) rule h k r) finds.does
      ∙ at_builtin set (within set (suc (suc d))) calls at builtins.call (Object o) (Object global ∷ []) h k r
      ∙ ap (λ b. choose b (perform_call set (within set (suc (suc d)) calls) (builtin set (within set (suc (suc d))) calls) at (Object o) (Object global) []) (objects.throw_error TypeError) h k r) finds.callable
      ∙ at_call set (within set (suc (suc d)) calls) (builtin set (within set (suc (suc d))) calls) at o (Object global) [] h k r
      ∙ ap (λ class. call_class set (within set (suc (suc d)) calls) (builtin set (within set (suc (suc d))) calls) at (Object global) [] class h k r) finds.code
      ∙ ap (λ func. functions.call_found set.functions inner at context.environment false (Object global) [] func h k r) is

  module _ (t : Stmt) (f : FuncNo) (func : Func) (s : State) (says : CallsFunction t f) (global_this : context.this ≡ Object global) (is_code : slice_get set.functions f.0 ≡ Some func) where
    abbrev fresh : ObjNo × Heap
    fresh = made set calls context w d f s.heap

    abbrev there : State
    there = record s { heap = fresh.1 }

    abbrev inside : Environment × Heap
    inside = entered set calls context w d func fresh.1

    abbrev code : Run Completion
    code = statements (inner (body_context set calls context w d inside.0)) func.body

    abbrev rest : Reference → Run Value
    rest ref = references.get_value (site level says.calling.at) ref >>= (λ f. each (evaluate set (suc calls) context (suc (suc d))) (says.this ∷ []) >>= (λ values. expressions.call_checked level says.calling.at f (expressions.this_of ref) values))

    abbrev behind : Value → Run Value
    behind f = each (evaluate set (suc calls) context (suc (suc d))) (says.this ∷ []) >>= (λ values. expressions.call_checked level says.calling.at f (Object fresh.0) values)

    target : Runs w ((within set (suc (suc d)) (suc calls)).reference context says.callee) s (1 + 1) (PropertyReference (Object fresh.0) (codes "call") context.strict) there
    target = member_target set (suc calls) context w (suc d) says.callee says.function (codes "call") fresh.0 s there 1 says.is_callee (function_runs set (suc calls) context w d says.function f s says.is_function)

    this_argument : Runs w (each (evaluate set (suc calls) context (suc (suc d))) (says.this ∷ [])) there (1 + 0) (Object global ∷ []) there
    this_argument =
        argument set (suc calls) context w (suc (suc d)) says.this [] there there there 1 0 (Object global) []
        (subst (λ v. Runs w (evaluate set (suc calls) context (suc (suc d)) says.this) there 1 v there) global_this (this_runs set (suc calls) context w (suc d) says.this there says.is_this))
        (no_arguments set (suc calls) context w (suc (suc d)) there)

    module _ (finds : FindsCall fresh.1 fresh.0 f context.environment) where
      callee_got : Runs w (references.get_value (site level says.calling.at) (PropertyReference (Object fresh.0) (codes "call") context.strict)) there 0 (Object finds.callee) there
      callee_got = property_read set (suc calls) context w (site level says.calling.at) fresh.0 (codes "call") (Object finds.callee) there refl finds.got refl

      call_runs : (after : State) (i : ℕ) (completion : Completion) → Runs w code (record s { heap = inside.1 }) i completion after
          → Runs w (expressions.call_checked level says.calling.at (Object finds.callee) (Object fresh.0) (Object global ∷ [])) there i (functions.returned completion) after
      call_runs after i completion runs = record {
        at = λ n k r. ap (walk w (i + n) s.calls) (called_is says.calling.at f func fresh.1 fresh.0 finds is_code k r) ∙ runs.at n (λ completion s. k (functions.returned completion) s) r;
      }

      call_throws : (after : State) (i : ℕ) (v : Value) → Throws w code (record s { heap = inside.1 }) i v after
          → Throws w (expressions.call_checked level says.calling.at (Object finds.callee) (Object fresh.0) (Object global ∷ [])) there i v after
      call_throws after i v runs = record {
        at = λ n k r. ap (walk w (i + n) s.calls) (called_is says.calling.at f func fresh.1 fresh.0 finds is_code k r) ∙ runs.at n (λ completion s. k (functions.returned completion) s) r;
      }

      whole_runs : (after : State) (i : ℕ) (v : Value) → Runs w (expressions.call_checked level says.calling.at (Object finds.callee) (Object fresh.0) (Object global ∷ [])) there i v after
          → Runs w (expressions.call_reference level context says.calling.at says.callee (says.this ∷ [])) s ((1 + 1) + (0 + ((1 + 0) + i))) v after
      whole_runs after i v runs =
          followed w {f = rest} target (followed w {f = behind} callee_got (followed w {f = λ values. expressions.call_checked level says.calling.at (Object finds.callee) (Object fresh.0) values} this_argument runs))

      whole_throws : (after : State) (i : ℕ) (v : Value) → Throws w (expressions.call_checked level says.calling.at (Object finds.callee) (Object fresh.0) (Object global ∷ [])) there i v after
          → Throws w (expressions.call_reference level context says.calling.at says.callee (says.this ∷ [])) s ((1 + 1) + (0 + ((1 + 0) + i))) v after
      whole_throws after i v runs =
          throws_then w {f = rest} target (throws_then w {f = behind} callee_got (throws_then w {f = λ values. expressions.call_checked level says.calling.at (Object finds.callee) (Object fresh.0) values} this_argument runs))

  wrapper_runs : (t : Stmt) (f : FuncNo) (func : Func) (s after : State) (i : ℕ) (completion : Completion) → CallsFunction t f → context.this ≡ Object global
      → slice_get set.functions f.0 ≡ Some func → FindsCall (made set calls context w d f s.heap).1 (made set calls context w d f s.heap).0 f context.environment
      → (let inside = entered set calls context w d func (made set calls context w d f s.heap).1 in
      Runs w (statements (execute set calls (body_context set calls context w d inside.0) (suc (suc d))) func.body) (record s { heap = inside.1 }) i completion after)
      → Runs w (execute set (suc calls) context (suc (suc (suc (suc d)))) t) s (5 + i) Normal after
  unfolding stmt_rule rules.eval_rule expr_rule expressions.call_rule
  wrapper_runs t f func s after i completion says global_this is_code finds runs =
      counted w (five i)
      (stmt_runs set (suc calls) context w (suc (suc (suc d))) t (StmtForm-F.Eval says.calling) says.is_statement
      (followed w {f = λ _ s k r. k Normal s}
      (expr_runs set (suc calls) context w (suc (suc d)) says.calling (ExprForm-F.Call says.callee (says.this ∷ [])) says.is_call
      (subst (λ form. Runs w (if expressions.is_reference form then expressions.call_reference level context says.calling.at says.callee (says.this ∷ []) else expressions.call_value level context says.calling.at says.callee (says.this ∷ [])) s ((1 + 1) + (0 + ((1 + 0) + i))) (functions.returned completion) after) (sym says.is_callee)
      (whole_runs t f func s says global_this is_code finds after i (functions.returned completion) (call_runs t f func s says global_this is_code finds after i completion runs))))
      (at_once w (λ k r. refl))))

  wrapper_throws : (t : Stmt) (f : FuncNo) (func : Func) (s after : State) (i : ℕ) (v : Value) → CallsFunction t f → context.this ≡ Object global
      → slice_get set.functions f.0 ≡ Some func → FindsCall (made set calls context w d f s.heap).1 (made set calls context w d f s.heap).0 f context.environment
      → (let inside = entered set calls context w d func (made set calls context w d f s.heap).1 in
      Throws w (statements (execute set calls (body_context set calls context w d inside.0) (suc (suc d))) func.body) (record s { heap = inside.1 }) i v after)
      → Throws w (execute set (suc calls) context (suc (suc (suc (suc d)))) t) s (5 + i) v after
  unfolding stmt_rule rules.eval_rule expr_rule expressions.call_rule
  wrapper_throws t f func s after i v says global_this is_code finds runs =
      subst (λ n. Throws w (execute set (suc calls) context (suc (suc (suc (suc d)))) t) s n v after) (five_thrown i)
      (stmt_throws set (suc calls) context w (suc (suc (suc d))) t (StmtForm-F.Eval says.calling) says.is_statement
      (throws_first w {f = λ _ s k r. k Normal s}
      (expr_throws (ExprForm-F.Call says.callee (says.this ∷ [])) says.is_call
      (subst (λ form. Throws w (if expressions.is_reference form then expressions.call_reference level context says.calling.at says.callee (says.this ∷ []) else expressions.call_value level context says.calling.at says.callee (says.this ∷ [])) s ((1 + 1) + (0 + ((1 + 0) + i))) v after) (sym says.is_callee)
      (whole_throws t f func s says global_this is_code finds after i v (call_throws t f func s says global_this is_code finds after i v runs))))))
    where
      expr_throws : (form : ExprForm-F ExprForm Field Expr) → IsExpr says.calling form → {j : ℕ} → Throws w (expr_rule level context says.calling.at form) s j v after
          → Throws w (evaluate set (suc calls) context (suc (suc (suc d))) says.calling) s (1 + j) v after
      expr_throws form is throws =
          throws_behind_step w says.calling.at (λ k r. at_expr set (suc (suc d)) (suc calls) context says.calling s.heap k r ∙ ap (λ form. Step says.calling.at (expr_rule level context says.calling.at form s.heap k r)) is) throws

-- ---- paths

module _ (set : Setting) (calls : ℕ) (context : Context) (w : World) (d : ℕ) where
  path_runs : (e : Expr) (path : List Key) (o : ObjNo) (s : State) → context.this ≡ Object global → IsPath e path → Leads s.heap path o
      → Runs w (evaluate set calls context (nodes_of path d) e) s (steps_of path) (Object o) s
  path_runs e [] o s itself is leads =
      subst (λ v. Runs w (evaluate set calls context (suc d) e) s 1 v s) (itself ∙ ap (λ o. Object o) (sym leads)) (this_runs set calls context w d e s is)
  path_runs e (key ∷ path) o s itself is leads =
      member_runs set calls context w (nodes_of path d) e is.0 key leads.0 (Object o) s s (steps_of path) is.1 (path_runs is.0 path leads.0 s itself is.2 leads.1) leads.2 leads.3 refl

-- ---- functions

function_is : (functions : List Func) (f : FuncNo) (names : Environment) (strict : Bool) (h : Heap) → let code = slice_get functions f.0 in let o = length h.objects in name_of code ≡ None
    → function_expression functions f names strict h ≡ (o, add_object (prototype_state o) (add_object (function_state f names (is_strict_in strict code) (parameters_of code) (o + 1)) h))
unfolding function_expression creating.function creating.make_function
function_is functions f names strict h nameless = ap (λ name. named functions f names strict name h) nameless

-- ---- variables

one_more : {A : Type 0} (xs : List A) (x : A) → length (xs ++ x ∷ []) ≡ length xs + 1
one_more [] x = refl
one_more (y ∷ xs) x = ap suc (one_more xs x) ∙ later (length xs)
  where
    later : (n : ℕ) → suc (n + 1) ≡ suc n + 1
    later n = omega arith

cells_made : (names : Names) (h : Heap) → creating.each creating.declare names h ≡ (in_new_cells names (length h.cells), with_cells names h)
cells_made [] h = ap (λ cells. ([], record h { cells = cells })) (sym (append-nil h.cells))
cells_made (name ∷ names) h =
    ap (λ made. creating.behind made (λ ys. creating.give ((name, length h.cells) ∷ ys))) (cells_made names (new_cell undefined h))
    ∙ ap (λ c. ((name, length h.cells) ∷ in_new_cells names c, with_cells names (new_cell undefined h))) (one_more h.cells undefined)
    ∙ ap (λ cells. ((name, length h.cells) ∷ in_new_cells names (length h.cells + 1), record h { cells = cells })) (append_assoc h.cells (undefined ∷ []) (map (λ name. undefined) names))

variables_are : (functions : List Func) (code : Func) (names : Environment) (strict : Bool) (h : Heap) → code.params ≡ [] → hoisted_functions code.body ≡ []
    → enter_function functions code names strict [] h ≡ (in_new_cells (declared_names functions code) (length h.cells) ++ names, with_cells (declared_names functions code) h)
unfolding enter_function
variables_are functions code names strict h no_parameters no_functions =
    ap (λ made. creating.behind made rest) (cells_made (declared_names functions code) h)
    ∙ ap (λ ps. creating.behind (creating.bind_parameters around [] 0 ps cells) (λ _. behind_parameters (hoisted_functions code.body))) no_parameters
    ∙ ap (λ fs. behind_parameters fs cells) no_functions
  where
    cells : Heap
    cells = with_cells (declared_names functions code) h

    around : Environment
    around = in_new_cells (declared_names functions code) (length h.cells) ++ names

    behind_parameters : List FuncNo → Heap → Environment × Heap
    behind_parameters fs h = creating.behind (creating.in_turn (creating.bind_function functions around strict) fs h) (λ _. creating.give around)

    rest : Environment → Heap → Environment × Heap
    rest own h =
        creating.behind (creating.bind_parameters (own ++ names) [] 0 code.params h)
        (λ _ h. creating.behind (creating.in_turn (creating.bind_function functions (own ++ names) strict) (hoisted_functions code.body) h) (λ _. creating.give (own ++ names)))

pub frames_run : FramesRun
frames_run = record {
  vars = λ set calls context w d. record {
    statement = var_runs set calls context w d;
    none = λ at s. at_once w (λ k r. refl);
    bare = bare set calls context w d;
    given = given set calls context w d;
  };
  paths = λ set calls context w d. record { path = path_runs set calls context w d };
  wrapper = λ set calls context w d. record { runs = wrapper_runs set calls context w d; throws = wrapper_throws set calls context w d };
  function = function_is;
  variables = variables_are;
}
