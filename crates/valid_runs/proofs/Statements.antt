-- The rules of statements are sound, where the evaluation of their parts is.
use Rattle.std.proofs.Common.{ℕ, Bool, true, false, List, [], ◌∷◌, map}
use Rattle.std.specs.Prelude.{Option, Some, None}
use Rattle.js_value.specs.declared.operator.BinaryOp.TheVariants as binary
use Rattle.js_value.specs.declared.place.Place.{Place}
use Rattle.js_value.specs.declared.primitive.Primitive.TheVariants as primitive
use Rattle.js_value.specs.declared.why.Why.TheVariants.{PrimitiveProperty}
use Rattle.js_tree.specs.declared.expression.Expr.{Expr}
use Rattle.js_tree.specs.declared.statement.Case.{Case}
use Rattle.js_tree.specs.declared.statement.Catch.{Catch, out-Catch}
use Rattle.js_tree.specs.declared.statement.Declarator.{Declarator}
use Rattle.js_tree.specs.declared.statement.Finally.{Finally, out-Finally}
use Rattle.js_tree.specs.declared.statement.ForStart.{ForStart}
use Rattle.js_tree.specs.declared.statement.ForStart.TheVariants as start
use Rattle.js_tree.specs.declared.statement.ForTarget.{ForTarget}
use Rattle.js_tree.specs.declared.statement.ForTarget.TheVariants as target
use Rattle.js_tree.specs.declared.statement.Stmt.{Stmt}
use Rattle.js_tree.specs.declared.statement.StmtForm.{StmtForm}
use Rattle.js_tree.specs.declared.statement.StmtForm.TheOpen.{StmtForm-F}
use Rattle.plain_heap.specs.Values.{Value, Prim, Object, ObjNo}
use Rattle.plain_heap.specs.Heap.{Heap, Key}
use Rattle.js_machine.specs.Machine.Expressions.{Ev, Completion}
use Rattle.js_machine.specs.Machine.References.{Context}
use Rattle.js_machine.specs.Machine.Statements as S
use Rattle.js_machine.specs.Machine.Events.{Run, Next, Leaves}
use Rattle.valid_runs.specs.Kept.{Keeps, IsValue, is_primitive}
use Rattle.valid_runs.proofs.Growing.{◌⊚◌, later, later_cells}
use Rattle.valid_runs.proofs.Sound.{At, Any, IsNext, goes_on, is_done, after_later, bind, bind_any, first, first_any, moves, from_here, gives, gives_any, throws, left_at, looks_any, chooses, in_turns_any, catches, makes, repeats}
use Rattle.valid_runs.proofs.Heaps.{cell_made}
use Rattle.valid_runs.proofs.Making.{with_cell}
use Rattle.valid_runs.proofs.Objects.{IsReference, later_reference, is_undefined, test_too, has_property_too, resolve_name_too, put_value_too}
use Rattle.valid_runs.proofs.Expressions.{IsContext, later_context, IsCompletion, is_normal, is_break, is_continue, is_return, PartsSound, expr_too, binary_value_too}

pub later_completion : {s t : Heap} → Keeps s t → {completion : Completion} → IsCompletion s completion → IsCompletion t completion
later_completion up is_normal = is_normal
later_completion up is_break = is_break
later_completion up is_continue = is_continue
later_completion up (is_return is) = is_return (later up is)

-- ---- 12.1

if_normal_too : {s : Heap} {m : Run Completion} → At s IsCompletion m → {completion : Completion} → IsCompletion s completion → At s IsCompletion (S.if_normal m completion)
if_normal_too h is_normal = h
if_normal_too h is_break = gives is_break
if_normal_too h is_continue = gives is_continue
if_normal_too h (is_return is) = gives (is_return is)

statements_from : {s : Heap} {stmt : Stmt → Run Completion} → ((t : Heap) → Keeps s t → (x : Stmt) → At t IsCompletion (stmt x)) → {t : Heap} → Keeps s t → (xs : List Stmt) → At t IsCompletion (S.statements stmt xs)
unfolding S.statements
statements_from h up [] = gives is_normal
statements_from h {t = t} up (x ∷ xs) = bind (h t up x) (λ u more completion is. if_normal_too (statements_from h (up ⊚ more) xs) is)

pub statements_too : {s : Heap} {stmt : Stmt → Run Completion} → ((t : Heap) → Keeps s t → (x : Stmt) → At t IsCompletion (stmt x)) → (xs : List Stmt) → At s IsCompletion (S.statements stmt xs)
statements_too h xs = from_here (λ up. statements_from h up xs)

-- ---- parts of loops

abbrev IsTurn : Heap → Next Completion → Type 0
IsTurn s t = IsNext IsCompletion s t

after_body_too : {s : Heap} {m : Run (Next Completion)} → At s IsTurn m → {completion : Completion} → IsCompletion s completion → At s IsTurn (S.after_body m completion)
after_body_too h is_normal = h
after_body_too h is_continue = h
after_body_too h is_break = gives (is_done is_normal)
after_body_too h (is_return is) = gives (is_done (is_return is))

again_too : {s : Heap} → At s IsTurn S.again
again_too = gives goes_on

done_too : {s : Heap} → At s IsTurn S.done
done_too = gives (is_done is_normal)

unless_left_too : {s : Heap} {m : Run Completion} → At s IsCompletion m → {completion : Completion} → IsCompletion s completion → At s IsCompletion (S.unless_left m completion)
unless_left_too h is_normal = h
unless_left_too h is_continue = h
unless_left_too h is_break = gives is_normal
unless_left_too h (is_return is) = gives (is_return is)

module _ {ev : Ev} (a : PartsSound ev) where
  body_too : {s : Heap} {context : Context} → IsContext s context → (body : List Stmt) → At s IsCompletion (S.statements (ev.stmt context) body)
  body_too is body = statements_too (λ t up x. a.stmt (later_context up is) x) body

  -- ---- 12.4, 12.5, 12.9 and 12.13

  eval_rule_too : {s : Heap} {context : Context} → IsContext s context → (e : Expr) → At s IsCompletion (S.eval_rule ev context e)
  unfolding S.eval_rule
  eval_rule_too is e = bind (expr_too a is e) (λ t up _ _. gives is_normal)

  maybe_stmt_too : {s : Heap} {context : Context} → IsContext s context → (x : Option Stmt) → At s IsCompletion (S.maybe_stmt ev context x)
  maybe_stmt_too is None = gives is_normal
  maybe_stmt_too is (Some x) = a.stmt is x

  return_rule_too : {s : Heap} {context : Context} → IsContext s context → (e : Option Expr) → At s IsCompletion (S.return_rule ev context e)
  unfolding S.return_rule
  return_rule_too is None = gives (is_return is_undefined)
  return_rule_too is (Some e) = bind (expr_too a is e) (λ t up v value. gives (is_return value))

  throw_rule_too : {s : Heap} {context : Context} → IsContext s context → (e : Expr) → At s IsCompletion (S.throw_rule ev context e)
  unfolding S.throw_rule
  throw_rule_too is e = bind (expr_too a is e) (λ t up v value. throws value)

  for_step_too : {s : Heap} {context : Context} → IsContext s context → (e : Option Expr) → At s IsTurn (S.for_step ev context e)
  for_step_too is None = again_too
  for_step_too is (Some e) = bind (expr_too a is e) (λ t up _ _. again_too)

  module _ (at : Place) where
    -- ---- 12.2

    declarator_rule_too : {s : Heap} {context : Context} → IsContext s context → (name : List ℕ) (e : Option Expr) → At s Any (S.declarator_rule ev context at name e)
    unfolding S.declarator_rule
    declarator_rule_too is name None = gives_any tt
    declarator_rule_too {context = context} is name (Some e) = first (resolve_name_too at (a.call at) context name) (λ r there. bind (expr_too a is e) (λ t up v value. put_value_too at (a.call at) (later_reference up there) value))

    declarators_too : {s : Heap} {context : Context} → IsContext s context → (ds : List Declarator) → At s Any (S.declarators ev context at ds)
    declarators_too is ds = in_turns_any (λ t up (d : Declarator). declarator_rule_too (later_context up is) d.name d.init) ds

    var_rule_too : {s : Heap} {context : Context} → IsContext s context → (ds : List Declarator) → At s IsCompletion (S.var_rule ev context at ds)
    unfolding S.var_rule
    var_rule_too is ds = bind_any (declarators_too is ds) (λ t up _. gives is_normal)

    if_rule_too : {s : Heap} {context : Context} → IsContext s context → (e : Expr) (x : Stmt) (y : Option Stmt) → At s IsCompletion (S.if_rule ev context at e x y)
    unfolding S.if_rule
    if_rule_too is e x y = bind (expr_too a is e) (λ t up v _. first_any (test_too at v) (λ b. chooses b (a.stmt (later_context up is) x) (maybe_stmt_too (later_context up is) y)))

    -- ---- 12.6

    do_while_turn_too : {s : Heap} {context : Context} → IsContext s context → (body : Stmt) (e : Expr) → At s IsTurn (S.do_while_turn ev context at body e)
    unfolding S.do_while_turn
    do_while_turn_too is body e = bind (a.stmt is body) (λ t up completion ended. after_body_too (bind (expr_too a (later_context up is) e) (λ u more v _. first_any (test_too at v) (λ b. chooses b again_too done_too))) ended)

    while_turn_too : {s : Heap} {context : Context} → IsContext s context → (e : Expr) (body : Stmt) → At s IsTurn (S.while_turn ev context at e body)
    unfolding S.while_turn
    while_turn_too is e body = bind (expr_too a is e) (λ t up v _. first_any (test_too at v) (λ b. chooses b (bind (a.stmt (later_context up is) body) (λ u more completion ended. after_body_too again_too ended)) done_too))

    for_test_too : {s : Heap} {context : Context} → IsContext s context → (e : Option Expr) → At s Any (S.for_test ev context at e)
    for_test_too is None = gives_any true
    for_test_too is (Some e) = bind (expr_too a is e) (λ t up v _. moves (test_too at v))

    for_turn_too : {s : Heap} {context : Context} → IsContext s context → (e increment : Option Expr) (body : Stmt) → At s IsTurn (S.for_turn ev context at e increment body)
    unfolding S.for_turn
    for_turn_too is e increment body = bind_any (for_test_too is e) (λ t up b. chooses b (bind (a.stmt (later_context up is) body) (λ u more completion ended.
        after_body_too (for_step_too (later_context (up ⊚ more) is) increment) ended)) done_too)

    for_start_too : {s : Heap} {context : Context} → IsContext s context → (from : ForStart) → At s Any (S.for_start ev context at from)
    for_start_too is start.Nothing = gives_any tt
    for_start_too is (start.Expr e) = bind (expr_too a is e) (λ t up _ _. gives_any tt)
    for_start_too is (start.Var ds) = declarators_too is ds

    for_rule_too : {s : Heap} {context : Context} → IsContext s context → (from : ForStart) (e increment : Option Expr) (body : Stmt) → At s IsCompletion (S.for_rule ev context at from e increment body)
    unfolding S.for_rule
    for_rule_too is from e increment body = bind_any (for_start_too is from) (λ t up _. repeats (λ u more. for_turn_too (later_context (up ⊚ more) is) e increment body) ev.turns)

    -- ---- 12.6.4

    for_in_target_too : {s : Heap} {context : Context} → IsContext s context → (to : ForTarget) → At s IsReference (S.for_in_target ev context at to)
    for_in_target_too is (target.Expr e) = a.reference is e
    for_in_target_too {context = context} is (target.Var name_at name) = moves (resolve_name_too at (a.call at) context name)

    for_in_turn_too : {s : Heap} {context : Context} → IsContext s context → (to : ForTarget) (body : Stmt) (key : Key) (there : Bool) → At s IsCompletion (S.for_in_turn ev context at to body key there)
    for_in_turn_too is to body key false = gives is_normal
    for_in_turn_too is to body key true = bind (for_in_target_too is to) (λ t up r there. bind_any (put_value_too at (a.call at) there (is_primitive _)) (λ u more _. a.stmt (later_context (up ⊚ more) is) body))

    for_in_turns_too : {s : Heap} {context : Context} → IsContext s context → (to : ForTarget) (body : Stmt) (o : ObjNo) (keys : List Key) → At s IsCompletion (S.for_in_turns ev context at to body o keys)
    unfolding S.for_in_turns
    for_in_turns_too is to body o [] = gives is_normal
    for_in_turns_too is to body o (key ∷ keys) = first_any (has_property_too at (a.call at) o key) (λ there. bind (for_in_turn_too is to body key there) (λ t up completion ended.
        unless_left_too (for_in_turns_too (later_context up is) to body o keys) ended))

    for_in_value_too : {s : Heap} {context : Context} → IsContext s context → (to : ForTarget) (body : Stmt) (v : Value) → At s IsCompletion (S.for_in_value ev context at to body v)
    for_in_value_too is to body (Object o) = first_any (looks_any (S.enumerated o)) (λ keys. for_in_turns_too is to body o keys)
    for_in_value_too is to body (Prim primitive.Undefined) = gives is_normal
    for_in_value_too is to body (Prim primitive.Null) = gives is_normal
    for_in_value_too is to body v = left_at (Leaves PrimitiveProperty) at

    for_in_rule_too : {s : Heap} {context : Context} → IsContext s context → (to : ForTarget) (e : Expr) (body : Stmt) → At s IsCompletion (S.for_in_rule ev context at to e body)
    unfolding S.for_in_rule
    for_in_rule_too is to e body = bind (expr_too a is e) (λ t up v _. for_in_value_too (later_context up is) to body v)

    -- ---- 12.11

    from_match_too : {s : Heap} {context : Context} → IsContext s context → {v : Value} → IsValue s v → (otherwise : List Stmt) (cs : List S.Clause) → At s Any (S.from_match ev context at v otherwise cs)
    from_match_too is v otherwise [] = gives_any otherwise
    from_match_too is v otherwise ((None, body) ∷ cs) = from_match_too is v otherwise cs
    from_match_too is {v = w} v otherwise ((Some e, body) ∷ cs) = bind (expr_too a is e) (λ t up x value. bind (binary_value_too at (a.call at) binary.Same w value) (λ u more same _. first_any (test_too at same) (λ b.
        chooses b (gives_any _) (from_match_too (later_context (up ⊚ more) is) (later (up ⊚ more) v) otherwise cs))))

    after_switch_too : {s : Heap} {completion : Completion} → IsCompletion s completion → IsCompletion s (S.after_switch completion)
    after_switch_too is_normal = is_normal
    after_switch_too is_break = is_normal
    after_switch_too is_continue = is_continue
    after_switch_too (is_return is) = is_return is

    switch_rule_too : {s : Heap} {context : Context} → IsContext s context → (e : Expr) (cs : List S.Clause) → At s IsCompletion (S.switch_rule ev context at e cs)
    unfolding S.switch_rule
    switch_rule_too is e cs = bind (expr_too a is e) (λ t up v value. bind_any (from_match_too (later_context up is) value (S.from_default cs) cs) (λ u more body. bind (body_too (later_context (up ⊚ more) is) body) (λ w most completion ended.
        gives (after_switch_too ended))))

  -- ---- 12.14

  finish_too : {s : Heap} {last m : Run Completion} → At s IsCompletion last → ((t : Heap) → Keeps s t → At t IsCompletion m) → At s IsCompletion (S.finish last m)
  finish_too l h = bind l (λ t up completion ended. if_normal_too (h t up) ended)

  handle_too : {s : Heap} {context : Context} → IsContext s context → (name : List ℕ) (body : List Stmt) {v : Value} → IsValue s v → At s IsCompletion (S.handle ev context name body v)
  unfolding S.handle
  handle_too {s = s} {context = context} is name body value = bind (makes (λ fit. cell_made s fit.valid value)) (λ t up c there.
      body_too {context = record context { environment = (name, c) ∷ context.environment }} (record { cells = with_cell name there (later_cells up is.cells); this = later up is.this }) body)

  with_handler_too : {s : Heap} {context : Context} → IsContext s context → (handler : Option Catch) {m : Run Completion} → At s IsCompletion m → At s IsCompletion (S.with_handler ev context handler m)
  with_handler_too is None h = h
  with_handler_too is (Some c) h = catches (λ t up v value. handle_too (later_context up is) (out-Catch c).name (out-Catch c).body value) h

  with_final_too : {s : Heap} {context : Context} → IsContext s context → (final : Option Finally) {m : Run Completion} → At s IsCompletion m → At s IsCompletion (S.with_final ev context final m)
  with_final_too is None h = h
  with_final_too is (Some f) h =
      let last = out-Finally f in record {
        at = λ begun fit k d kept caught. h.at begun fit _ _
            (record { at = λ completion t up ended. (finish_too (body_too (later_context up is) last.body) (λ u more. gives (later_completion more ended))).at begun (fit ⊚ up) k d (after_later up kept) (after_later up caught) })
            (record { at = λ v t up value. (finish_too (body_too (later_context up is) last.body) (λ u more. throws (later more value))).at begun (fit ⊚ up) k d (after_later up kept) (after_later up caught) });
      }

  try_rule_too : {s : Heap} {context : Context} → IsContext s context → (body : List Stmt) (handler : Option Catch) (final : Option Finally) → At s IsCompletion (S.try_rule ev context body handler final)
  unfolding S.try_rule
  try_rule_too is body handler final = with_final_too is final (with_handler_too is handler (body_too is body))

  -- ---- all forms

  pub stmt_rule_too : (at : Place) {s : Heap} {context : Context} → IsContext s context → (x : StmtForm-F StmtForm Case Catch Finally Stmt) → At s IsCompletion (S.stmt_rule ev context at x)
  unfolding S.stmt_rule
  stmt_rule_too at is (StmtForm-F.Var ds) = var_rule_too at is ds
  stmt_rule_too at is (StmtForm-F.FuncDecl f) = gives is_normal
  stmt_rule_too at is (StmtForm-F.Eval e) = eval_rule_too is e
  stmt_rule_too at is (StmtForm-F.Block body) = body_too is body
  stmt_rule_too at is StmtForm-F.Empty = gives is_normal
  stmt_rule_too at is (StmtForm-F.If e x y) = if_rule_too at is e x y
  stmt_rule_too at is (StmtForm-F.DoWhile body e) = repeats (λ t up. do_while_turn_too at (later_context up is) body e) ev.turns
  stmt_rule_too at is (StmtForm-F.While e body) = repeats (λ t up. while_turn_too at (later_context up is) e body) ev.turns
  stmt_rule_too at is (StmtForm-F.For from e increment body) = for_rule_too at is from e increment body
  stmt_rule_too at is (StmtForm-F.ForIn to e body) = for_in_rule_too at is to e body
  stmt_rule_too at is StmtForm-F.Continue = gives is_continue
  stmt_rule_too at is StmtForm-F.Break = gives is_break
  stmt_rule_too at is (StmtForm-F.Return e) = return_rule_too is e
  stmt_rule_too at is (StmtForm-F.Switch e cases) = switch_rule_too at is e (map S.clause_of cases)
  stmt_rule_too at is (StmtForm-F.Throw e) = throw_rule_too is e
  stmt_rule_too at is (StmtForm-F.Try body handler final) = try_rule_too is body handler final
