-- The rules of statements are quiet, where the evaluation of their parts is.
use Rattle.std.proofs.Common.{ℕ, Bool, true, false, List, [], ◌∷◌, map}
use Rattle.std.specs.Prelude.{Option}
use Rattle.js_value.specs.declared.operator.BinaryOp.TheVariants as binary
use Rattle.js_value.specs.declared.place.Place.{Place}
use Rattle.js_value.specs.declared.primitive.Primitive.TheVariants as primitive
use Rattle.js_value.specs.declared.why.Why.TheVariants.{PrimitiveProperty}
use Rattle.js_tree.specs.declared.expression.Expr.{Expr}
use Rattle.js_tree.specs.declared.statement.Case.{Case}
use Rattle.js_tree.specs.declared.statement.Catch.{Catch, out-Catch}
use Rattle.js_tree.specs.declared.statement.Declarator.{Declarator}
use Rattle.js_tree.specs.declared.statement.Finally.{Finally}
use Rattle.js_tree.specs.declared.statement.ForStart.{ForStart}
use Rattle.js_tree.specs.declared.statement.ForStart.TheVariants as start
use Rattle.js_tree.specs.declared.statement.ForTarget.{ForTarget}
use Rattle.js_tree.specs.declared.statement.ForTarget.TheVariants as target
use Rattle.js_tree.specs.declared.statement.Stmt.{Stmt}
use Rattle.js_tree.specs.declared.statement.StmtForm.{StmtForm}
use Rattle.js_tree.specs.declared.statement.StmtForm.TheOpen.{StmtForm-F}
use Rattle.plain_heap.specs.Values.{Value, Prim, Object, ObjNo}
use Rattle.plain_heap.specs.Heap.{Key}
use Rattle.js_machine.specs.Machine.Expressions.{Ev, Completion}
use Rattle.js_machine.specs.Machine.References.{Context}
use Rattle.js_machine.specs.Machine.Statements as S
use Rattle.js_machine.specs.Machine.Events.{Run, Next}
use Rattle.closed_scripts.specs.Known.{Each, none, also, IsKnown, is_primitive}
use Rattle.closed_scripts.proofs.Closing.{ClosedExpr, ClosedStmt, ClosedDeclarator, ClosedClause, ClosedStart, ClosedTarget, ClosedCatch, ClosedFinally, ClosedStmtForm}
use Rattle.closed_scripts.proofs.Quiet.{Quiet, Any, Given, nothing, just, IsNext, goes_on, is_done, bind, bind_any, gives, gives_any, throws, left_at, looks_any, chooses, in_turns, catches, makes, repeats}
use Rattle.closed_scripts.proofs.Heaps.{cell_made, joined}
use Rattle.closed_scripts.proofs.Objects.{IsReference, known_undefined, test_too, has_property_too, resolve_name_too, put_value_too}
use Rattle.closed_scripts.proofs.Expressions.{KnownContext, IsCompletion, is_normal, is_break, is_continue, is_return, PartsQuiet, expr_too, binary_value_too}

-- ---- 12.1

if_normal_too : {m : Run Completion} → Quiet IsCompletion m → {completion : Completion} → IsCompletion completion → Quiet IsCompletion (S.if_normal m completion)
if_normal_too h is_normal = h
if_normal_too h is_break = gives is_break
if_normal_too h is_continue = gives is_continue
if_normal_too h (is_return is) = gives (is_return is)

pub statements_too : {stmt : Stmt → Run Completion} → ((x : Stmt) → ClosedStmt x → Quiet IsCompletion (stmt x)) → {xs : List Stmt} → Each ClosedStmt xs → Quiet IsCompletion (S.statements stmt xs)
unfolding S.statements
statements_too h none = gives is_normal
statements_too h (also closed all) = bind (h _ closed) (λ completion is. if_normal_too (statements_too h all) is)

-- ---- parts of loops

abbrev IsTurn : Next Completion → Type 0
IsTurn t = IsNext IsCompletion t

after_body_too : {m : Run (Next Completion)} → Quiet IsTurn m → {completion : Completion} → IsCompletion completion → Quiet IsTurn (S.after_body m completion)
after_body_too h is_normal = h
after_body_too h is_continue = h
after_body_too h is_break = gives (is_done is_normal)
after_body_too h (is_return is) = gives (is_done (is_return is))

again_too : Quiet IsTurn S.again
again_too = gives goes_on

done_too : Quiet IsTurn S.done
done_too = gives (is_done is_normal)

unless_left_too : {m : Run Completion} → Quiet IsCompletion m → {completion : Completion} → IsCompletion completion → Quiet IsCompletion (S.unless_left m completion)
unless_left_too h is_normal = h
unless_left_too h is_continue = h
unless_left_too h is_break = gives is_normal
unless_left_too h (is_return is) = gives (is_return is)

module _ {ev : Ev} (a : PartsQuiet ev) {context : Context} (known : KnownContext context) where
  stmt_too : {x : Stmt} → ClosedStmt x → Quiet IsCompletion (ev.stmt context x)
  stmt_too closed = a.stmt context known _ closed

  body_too : {body : List Stmt} → Each ClosedStmt body → Quiet IsCompletion (S.statements (ev.stmt context) body)
  body_too all = statements_too (a.stmt context known) all

  -- ---- 12.4, 12.5, 12.9 and 12.13

  eval_rule_too : {e : Expr} → ClosedExpr e → Quiet IsCompletion (S.eval_rule ev context e)
  unfolding S.eval_rule
  eval_rule_too closed = bind (expr_too a known closed) (λ _ _. gives is_normal)

  maybe_stmt_too : {x : Option Stmt} → Given ClosedStmt x → Quiet IsCompletion (S.maybe_stmt ev context x)
  maybe_stmt_too nothing = gives is_normal
  maybe_stmt_too (just closed) = stmt_too closed

  return_rule_too : {e : Option Expr} → Given ClosedExpr e → Quiet IsCompletion (S.return_rule ev context e)
  unfolding S.return_rule
  return_rule_too nothing = gives (is_return known_undefined)
  return_rule_too (just closed) = bind (expr_too a known closed) (λ v is. gives (is_return is))

  throw_rule_too : {e : Expr} → ClosedExpr e → Quiet IsCompletion (S.throw_rule ev context e)
  unfolding S.throw_rule
  throw_rule_too closed = bind (expr_too a known closed) (λ v is. throws is)

  for_step_too : {e : Option Expr} → Given ClosedExpr e → Quiet IsTurn (S.for_step ev context e)
  for_step_too nothing = again_too
  for_step_too (just closed) = bind (expr_too a known closed) (λ _ _. again_too)

  module _ (at : Place) where
    -- ---- 12.2

    declarator_rule_too : (name : List ℕ) {e : Option Expr} → Given ClosedExpr e → Quiet Any (S.declarator_rule ev context at name e)
    unfolding S.declarator_rule
    declarator_rule_too name nothing = gives_any tt
    declarator_rule_too name (just closed) = bind (resolve_name_too at (a.call at) context name) (λ r is. bind (expr_too a known closed) (λ v value. put_value_too at (a.call at) is value))

    declarators_too : {ds : List Declarator} → Each ClosedDeclarator ds → Quiet Any (S.declarators ev context at ds)
    declarators_too all = in_turns (λ (d : Declarator) closed. declarator_rule_too d.name closed.init) all

    var_rule_too : {ds : List Declarator} → Each ClosedDeclarator ds → Quiet IsCompletion (S.var_rule ev context at ds)
    unfolding S.var_rule
    var_rule_too all = bind_any (declarators_too all) (λ _. gives is_normal)

    if_rule_too : {e : Expr} {x : Stmt} {y : Option Stmt} → ClosedExpr e → ClosedStmt x → Given ClosedStmt y → Quiet IsCompletion (S.if_rule ev context at e x y)
    unfolding S.if_rule
    if_rule_too e x y = bind (expr_too a known e) (λ v is. bind_any (test_too at is) (λ t. chooses t (stmt_too x) (maybe_stmt_too y)))

    -- ---- 12.6

    do_while_turn_too : {body : Stmt} {e : Expr} → ClosedStmt body → ClosedExpr e → Quiet IsTurn (S.do_while_turn ev context at body e)
    unfolding S.do_while_turn
    do_while_turn_too body e = bind (stmt_too body) (λ completion ended. after_body_too (bind (expr_too a known e) (λ v is. bind_any (test_too at is) (λ t. chooses t again_too done_too))) ended)

    while_turn_too : {e : Expr} {body : Stmt} → ClosedExpr e → ClosedStmt body → Quiet IsTurn (S.while_turn ev context at e body)
    unfolding S.while_turn
    while_turn_too e body = bind (expr_too a known e) (λ v is. bind_any (test_too at is) (λ t. chooses t (bind (stmt_too body) (λ completion ended. after_body_too again_too ended)) done_too))

    for_test_too : {e : Option Expr} → Given ClosedExpr e → Quiet Any (S.for_test ev context at e)
    for_test_too nothing = gives_any true
    for_test_too (just closed) = bind (expr_too a known closed) (λ v is. test_too at is)

    for_turn_too : {e increment : Option Expr} {body : Stmt} → Given ClosedExpr e → Given ClosedExpr increment → ClosedStmt body → Quiet IsTurn (S.for_turn ev context at e increment body)
    unfolding S.for_turn
    for_turn_too e increment body = bind_any (for_test_too e) (λ t. chooses t (bind (stmt_too body) (λ completion ended. after_body_too (for_step_too increment) ended)) done_too)

    for_start_too : (from : ForStart) → ClosedStart from → Quiet Any (S.for_start ev context at from)
    for_start_too start.Nothing closed = gives_any tt
    for_start_too (start.Expr e) closed = bind (expr_too a known closed) (λ _ _. gives_any tt)
    for_start_too (start.Var ds) closed = declarators_too closed

    for_rule_too : (from : ForStart) {e increment : Option Expr} {body : Stmt} → ClosedStart from → Given ClosedExpr e → Given ClosedExpr increment → ClosedStmt body → Quiet IsCompletion (S.for_rule ev context at from e increment body)
    unfolding S.for_rule
    for_rule_too from s e increment body = bind_any (for_start_too from s) (λ _. repeats (for_turn_too e increment body) ev.turns)

    -- ---- 12.6.4

    for_in_target_too : (to : ForTarget) → ClosedTarget to → Quiet IsReference (S.for_in_target ev context at to)
    for_in_target_too (target.Expr e) closed = a.reference context known e closed
    for_in_target_too (target.Var name_at name) closed = resolve_name_too at (a.call at) context name

    for_in_turn_too : (to : ForTarget) → ClosedTarget to → {body : Stmt} → ClosedStmt body → (key : Key) (there : Bool) → Quiet IsCompletion (S.for_in_turn ev context at to body key there)
    for_in_turn_too to t body key false = gives is_normal
    for_in_turn_too to t body key true = bind (for_in_target_too to t) (λ r is. bind_any (put_value_too at (a.call at) is (is_primitive _)) (λ _. stmt_too body))

    for_in_turns_too : (to : ForTarget) → ClosedTarget to → {body : Stmt} → ClosedStmt body → (o : ObjNo) (keys : List Key) → Quiet IsCompletion (S.for_in_turns ev context at to body o keys)
    unfolding S.for_in_turns
    for_in_turns_too to t body o [] = gives is_normal
    for_in_turns_too to t body o (key ∷ keys) = bind_any (has_property_too at (a.call at) o key) (λ there. bind (for_in_turn_too to t body key there) (λ completion ended. unless_left_too (for_in_turns_too to t body o keys) ended))

    for_in_value_too : (to : ForTarget) → ClosedTarget to → {body : Stmt} → ClosedStmt body → (v : Value) → Quiet IsCompletion (S.for_in_value ev context at to body v)
    for_in_value_too to t body (Object o) = bind_any (looks_any (S.enumerated o)) (λ keys. for_in_turns_too to t body o keys)
    for_in_value_too to t body (Prim primitive.Undefined) = gives is_normal
    for_in_value_too to t body (Prim primitive.Null) = gives is_normal
    for_in_value_too to t body v = left_at PrimitiveProperty at

    for_in_rule_too : (to : ForTarget) → ClosedTarget to → {e : Expr} {body : Stmt} → ClosedExpr e → ClosedStmt body → Quiet IsCompletion (S.for_in_rule ev context at to e body)
    unfolding S.for_in_rule
    for_in_rule_too to t e body = bind (expr_too a known e) (λ v _. for_in_value_too to t body v)

    -- ---- 12.11

    data IsClause : S.Clause → Type 0 where
      is_clause : {test : Option Expr} {body : List Stmt} → Given ClosedExpr test → Each ClosedStmt body → IsClause (test, body)

    bodies_too : {cs : List S.Clause} → Each IsClause cs → Each ClosedStmt (S.bodies cs)
    bodies_too none = none
    bodies_too (also (is_clause e body) all) = joined body (bodies_too all)

    from_default_too : {cs : List S.Clause} → Each IsClause cs → Each ClosedStmt (S.from_default cs)
    from_default_too none = none
    from_default_too (also (is_clause nothing body) all) = joined body (bodies_too all)
    from_default_too (also (is_clause (just e) body) all) = from_default_too all

    from_match_too : {v : Value} → IsKnown v → {otherwise : List Stmt} → Each ClosedStmt otherwise → {cs : List S.Clause} → Each IsClause cs → Quiet (Each ClosedStmt) (S.from_match ev context at v otherwise cs)
    from_match_too v otherwise none = gives otherwise
    from_match_too v otherwise (also (is_clause nothing body) all) = from_match_too v otherwise all
    from_match_too v otherwise (also (is_clause (just e) body) all) = bind (expr_too a known e) (λ x is. bind (binary_value_too at (a.call at) binary.Same v is) (λ same told. bind_any (test_too at told) (λ t.
        chooses t (gives (joined body (bodies_too all))) (from_match_too v otherwise all))))

    clauses_too : {cases : List Case} → Each ClosedClause cases → Each IsClause (map S.clause_of cases)
    clauses_too none = none
    clauses_too (also closed all) = also (is_clause closed.parts.0 closed.parts.1) (clauses_too all)

    after_switch_too : {completion : Completion} → IsCompletion completion → IsCompletion (S.after_switch completion)
    after_switch_too is_normal = is_normal
    after_switch_too is_break = is_normal
    after_switch_too is_continue = is_continue
    after_switch_too (is_return is) = is_return is

    switch_rule_too : {e : Expr} → ClosedExpr e → {cs : List S.Clause} → Each IsClause cs → Quiet IsCompletion (S.switch_rule ev context at e cs)
    unfolding S.switch_rule
    switch_rule_too e cs = bind (expr_too a known e) (λ v is. bind (from_match_too is (from_default_too cs) cs) (λ body closed. bind (body_too closed) (λ completion ended. gives (after_switch_too ended))))

  -- ---- 12.14

  finish_too : {last m : Run Completion} → Quiet IsCompletion last → Quiet IsCompletion m → Quiet IsCompletion (S.finish last m)
  finish_too l h = bind l (λ completion ended. if_normal_too h ended)

  handle_too : (name : List ℕ) {body : List Stmt} → Each ClosedStmt body → (v : Value) → IsKnown v → Quiet IsCompletion (S.handle ev context name body v)
  unfolding S.handle
  handle_too name closed v is = bind (makes (cell_made is)) (λ c _. statements_too (a.stmt (record context { environment = (name, c) ∷ context.environment }) (record { this = known.this })) closed)

  with_handler_too : {handler : Option Catch} → Given ClosedCatch handler → {m : Run Completion} → Quiet IsCompletion m → Quiet IsCompletion (S.with_handler ev context handler m)
  with_handler_too nothing h = h
  with_handler_too (just {a = c} closed) h = catches (handle_too (out-Catch c).name closed.body) h

  with_final_too : {final : Option Finally} → Given ClosedFinally final → {m : Run Completion} → Quiet IsCompletion m → Quiet IsCompletion (S.with_final ev context final m)
  with_final_too nothing h = h
  with_final_too (just closed) h =
      let last = body_too closed.body in record {
        at = λ s known k d kept caught. h.at s known _ _
            (record { at = λ completion ended t known. (finish_too last (gives ended)).at t known k d kept caught })
            (record { at = λ v is t known. (finish_too last (throws is)).at t known k d kept caught });
      }

  try_rule_too : {body : List Stmt} {handler : Option Catch} {final : Option Finally} → Each ClosedStmt body → Given ClosedCatch handler → Given ClosedFinally final → Quiet IsCompletion (S.try_rule ev context body handler final)
  unfolding S.try_rule
  try_rule_too body handler final = with_final_too final (with_handler_too handler (body_too body))

  -- ---- all forms

  pub stmt_rule_too : (at : Place) (x : StmtForm-F StmtForm Case Catch Finally Stmt) → ClosedStmtForm x → Quiet IsCompletion (S.stmt_rule ev context at x)
  unfolding S.stmt_rule
  stmt_rule_too at (StmtForm-F.Var ds) closed = var_rule_too at closed
  stmt_rule_too at (StmtForm-F.FuncDecl f) closed = gives is_normal
  stmt_rule_too at (StmtForm-F.Eval e) closed = eval_rule_too closed
  stmt_rule_too at (StmtForm-F.Block body) closed = body_too closed
  stmt_rule_too at StmtForm-F.Empty closed = gives is_normal
  stmt_rule_too at (StmtForm-F.If e x y) (c, d, f) = if_rule_too at c d f
  stmt_rule_too at (StmtForm-F.DoWhile body e) (c, d) = repeats (do_while_turn_too at c d) ev.turns
  stmt_rule_too at (StmtForm-F.While e body) (c, d) = repeats (while_turn_too at c d) ev.turns
  stmt_rule_too at (StmtForm-F.For from e increment body) (s, c, d, f) = for_rule_too at from s c d f
  stmt_rule_too at (StmtForm-F.ForIn to e body) (t, c, d) = for_in_rule_too at to t c d
  stmt_rule_too at StmtForm-F.Continue closed = gives is_continue
  stmt_rule_too at StmtForm-F.Break closed = gives is_break
  stmt_rule_too at (StmtForm-F.Return e) closed = return_rule_too closed
  stmt_rule_too at (StmtForm-F.Switch e cases) (c, all) = switch_rule_too at c (clauses_too at all)
  stmt_rule_too at (StmtForm-F.Throw e) closed = throw_rule_too closed
  stmt_rule_too at (StmtForm-F.Try body handler final) (c, d, f) = try_rule_too c d f
