-- The rules of statements do alike, where the evaluation of their parts does.
use Rattle.std.proofs.Common.{ℕ, Bool, true, false, List, [], ◌∷◌, map}
use Rattle.std.specs.Prelude.{Option, Some, None}
use Rattle.js_value.specs.declared.operator.BinaryOp.TheVariants as binary
use Rattle.js_value.specs.declared.place.Place.{Place}
use Rattle.js_value.specs.declared.primitive.Primitive.TheVariants as primitive
use Rattle.js_value.specs.declared.why.Why.TheVariants.{PrimitiveProperty}
use Rattle.js_tree.specs.declared.expression.Expr.{Expr}
use Rattle.js_tree.specs.declared.statement.Case.{Case}
use Rattle.js_tree.specs.declared.statement.Catch.{Catch, out-Catch}
use Rattle.js_tree.specs.declared.statement.Declarator.{Declarator}
use Rattle.js_tree.specs.declared.statement.Finally.{Finally, out-Finally}
use Rattle.js_tree.specs.declared.statement.ForStart.{ForStart}
use Rattle.js_tree.specs.declared.statement.ForStart.TheVariants as start
use Rattle.js_tree.specs.declared.statement.ForTarget.{ForTarget}
use Rattle.js_tree.specs.declared.statement.ForTarget.TheVariants as target
use Rattle.js_tree.specs.declared.statement.Stmt.{Stmt}
use Rattle.js_tree.specs.declared.statement.StmtForm.{StmtForm}
use Rattle.js_tree.specs.declared.statement.StmtForm.TheOpen.{StmtForm-F}
use Rattle.plain_heap.specs.Values.{Value, Prim, Object, ObjNo, undefined, text}
use Rattle.plain_heap.specs.Heap.{Key, make_cell}
use Rattle.js_machine.specs.Machine.Expressions.{Ev, Completion, Normal, Break, Continue, Return}
use Rattle.js_machine.specs.Machine.References.{Context}
use Rattle.js_machine.specs.Machine.Statements as S
use Rattle.js_machine.specs.Machine.Events.{Run, Next, Again, Done}
use Rattle.machine_laws.proofs.Alike.{TreeRelation, Alike, Stepped, sooner, bind, bind_step, plainly, gives, throws, left_at, looks, chooses, in_turns, catches, makes}
use Rattle.machine_laws.proofs.AlikeObjects.{test_too, has_property_too, resolve_name_too, put_value_too}
use Rattle.machine_laws.proofs.AlikeExpressions.{PartsAlike, expr_too, binary_value_too}

module _ (w : TreeRelation) where
  -- ---- 12.1

  if_normal_too : {m n : Run Completion} → Alike w m n → (completion : Completion) → Alike w (S.if_normal m completion) (S.if_normal n completion)
  if_normal_too h Normal = h
  if_normal_too h completion = gives w completion

  pub statements_too : {stmt other : Stmt → Run Completion} → ((x : Stmt) → Alike w (stmt x) (other x)) → (xs : List Stmt) → Alike w (S.statements stmt xs) (S.statements other xs)
  unfolding S.statements
  statements_too h [] = gives w Normal
  statements_too h (x ∷ xs) = bind w (h x) (λ completion. if_normal_too (statements_too h xs) completion)

  -- ---- parts of loops

  after_body_too : {m n : Run (Next Completion)} → Alike w m n → (completion : Completion) → Alike w (S.after_body m completion) (S.after_body n completion)
  after_body_too h Normal = h
  after_body_too h Continue = h
  after_body_too h Break = gives w (Done Normal)
  after_body_too h (Return v) = gives w (Done (Return v))

  again_too : Alike w S.again S.again
  again_too = gives w Again

  done_too : Alike w S.done S.done
  done_too = gives w (Done Normal)

  unless_left_too : {m n : Run Completion} → Alike w m n → (completion : Completion) → Alike w (S.unless_left m completion) (S.unless_left n completion)
  unless_left_too h Normal = h
  unless_left_too h Continue = h
  unless_left_too h Break = gives w Normal
  unless_left_too h (Return v) = gives w (Return v)

  -- ---- 12.14

  finish_too : {last latter m n : Run Completion} → Alike w last latter → Alike w m n → Alike w (S.finish last m) (S.finish latter n)
  finish_too l h = bind w l (λ completion. if_normal_too h completion)

module _ (w : TreeRelation) {ev other : Ev} (a : PartsAlike w ev other) (context : Context) where
  pub stmt_too : (x : Stmt) → Alike w (ev.stmt context x) (other.stmt context x)
  stmt_too x = plainly w (a.stmt context x)

  body_too : (body : List Stmt) → Alike w (S.statements (ev.stmt context) body) (S.statements (other.stmt context) body)
  body_too body = statements_too w stmt_too body

  -- ---- 12.4 and 12.5

  eval_rule_too : (e : Expr) → Alike w (S.eval_rule ev context e) (S.eval_rule other context e)
  unfolding S.eval_rule
  eval_rule_too e = bind w (expr_too w a context e) (λ _. gives w Normal)

  maybe_stmt_too : (x : Option Stmt) → Alike w (S.maybe_stmt ev context x) (S.maybe_stmt other context x)
  maybe_stmt_too None = gives w Normal
  maybe_stmt_too (Some x) = stmt_too x

  -- ---- 12.9 and 12.13

  return_rule_too : (e : Option Expr) → Alike w (S.return_rule ev context e) (S.return_rule other context e)
  unfolding S.return_rule
  return_rule_too None = gives w (Return undefined)
  return_rule_too (Some e) = bind w (expr_too w a context e) (λ v. gives w (Return v))

  throw_rule_too : (e : Expr) → Alike w (S.throw_rule ev context e) (S.throw_rule other context e)
  unfolding S.throw_rule
  throw_rule_too e = bind w (expr_too w a context e) (λ v. throws w v)

  for_step_too : (e : Option Expr) → Alike w (S.for_step ev context e) (S.for_step other context e)
  for_step_too None = again_too w
  for_step_too (Some e) = bind w (expr_too w a context e) (λ _. again_too w)

module _ (w : TreeRelation) {ev other : Ev} (a : PartsAlike w ev other) (context : Context) (at : Place) where
  -- ---- 12.2

  declarator_rule_too : (name : List ℕ) (e : Option Expr) → Alike w (S.declarator_rule ev context at name e) (S.declarator_rule other context at name e)
  unfolding S.declarator_rule
  declarator_rule_too name None = gives w tt
  declarator_rule_too name (Some e) = bind w (resolve_name_too w at (a.call at) context name) (λ r. bind w (expr_too w a context e) (λ v. put_value_too w at (a.call at) r v))

  declarators_too : (ds : List Declarator) → Alike w (S.declarators ev context at ds) (S.declarators other context at ds)
  declarators_too ds = in_turns w (λ (d : Declarator). declarator_rule_too d.name d.init) ds

  var_rule_too : (ds : List Declarator) → Alike w (S.var_rule ev context at ds) (S.var_rule other context at ds)
  unfolding S.var_rule
  var_rule_too ds = bind w (declarators_too ds) (λ _. gives w Normal)

  -- ---- 12.5

  if_rule_too : (e : Expr) (x : Stmt) (y : Option Stmt) → Alike w (S.if_rule ev context at e x y) (S.if_rule other context at e x y)
  unfolding S.if_rule
  if_rule_too e x y = bind w (expr_too w a context e) (λ v. bind w (test_too w at v) (λ t. chooses w t (stmt_too w a context x) (maybe_stmt_too w a context y)))

  -- ---- 12.6: a turn of a loop takes a step

  do_while_turn_too : (body : Stmt) (e : Expr) → Stepped w (S.do_while_turn ev context at body e) (S.do_while_turn other context at body e)
  unfolding S.do_while_turn
  do_while_turn_too body e = bind_step w (a.stmt context body)
      (λ completion. after_body_too w (bind w (expr_too w a context e) (λ v. bind w (test_too w at v) (λ t. chooses w t (again_too w) (done_too w)))) completion)

  while_turn_too : (e : Expr) (body : Stmt) → Stepped w (S.while_turn ev context at e body) (S.while_turn other context at e body)
  unfolding S.while_turn
  while_turn_too e body = bind_step w (a.expr context e)
      (λ v. bind w (test_too w at v) (λ t. chooses w t (bind w (stmt_too w a context body) (λ completion. after_body_too w (again_too w) completion)) (done_too w)))

  for_turn_too : (e increment : Option Expr) (body : Stmt) → Stepped w (S.for_turn ev context at e increment body) (S.for_turn other context at e increment body)
  unfolding S.for_turn
  for_turn_too None increment body = bind_step w (a.stmt context body) (λ completion. after_body_too w (for_step_too w a context increment) completion)
  for_turn_too (Some e) increment body = bind_step w (bind_step w (a.expr context e) (λ v. test_too w at v))
      (λ t. chooses w t (bind w (stmt_too w a context body) (λ completion. after_body_too w (for_step_too w a context increment) completion)) (done_too w))

  for_start_too : (from : ForStart) → Alike w (S.for_start ev context at from) (S.for_start other context at from)
  for_start_too start.Nothing = gives w tt
  for_start_too (start.Expr e) = bind w (expr_too w a context e) (λ _. gives w tt)
  for_start_too (start.Var ds) = declarators_too ds

  for_rule_too : (from : ForStart) (e increment : Option Expr) (body : Stmt) → Alike w (S.for_rule ev context at from e increment body) (S.for_rule other context at from e increment body)
  unfolding S.for_rule
  for_rule_too from e increment body = bind w (for_start_too from) (λ _. a.loops.at (for_turn_too e increment body))

  -- ---- 12.6.4

  for_in_target_too : (to : ForTarget) → Alike w (S.for_in_target ev context at to) (S.for_in_target other context at to)
  for_in_target_too (target.Expr e) = a.reference context e
  for_in_target_too (target.Var name_at name) = resolve_name_too w at (a.call at) context name

  for_in_turn_too : (to : ForTarget) (body : Stmt) (key : Key) (there : Bool) → Alike w (S.for_in_turn ev context at to body key there) (S.for_in_turn other context at to body key there)
  for_in_turn_too to body key false = gives w Normal
  for_in_turn_too to body key true = bind w (for_in_target_too to) (λ r. bind w (put_value_too w at (a.call at) r (text key)) (λ _. stmt_too w a context body))

  for_in_turns_too : (to : ForTarget) (body : Stmt) (o : ObjNo) (keys : List Key) → Alike w (S.for_in_turns ev context at to body o keys) (S.for_in_turns other context at to body o keys)
  unfolding S.for_in_turns
  for_in_turns_too to body o [] = gives w Normal
  for_in_turns_too to body o (key ∷ keys) = bind w (has_property_too w at (a.call at) o key) (λ there. bind w (for_in_turn_too to body key there) (λ completion.
      unless_left_too w (for_in_turns_too to body o keys) completion))

  for_in_value_too : (to : ForTarget) (body : Stmt) (v : Value) → Alike w (S.for_in_value ev context at to body v) (S.for_in_value other context at to body v)
  for_in_value_too to body (Object o) = bind w (looks w (S.enumerated o)) (λ keys. for_in_turns_too to body o keys)
  for_in_value_too to body (Prim primitive.Undefined) = gives w Normal
  for_in_value_too to body (Prim primitive.Null) = gives w Normal
  for_in_value_too to body v = left_at w PrimitiveProperty at

  for_in_rule_too : (to : ForTarget) (e : Expr) (body : Stmt) → Alike w (S.for_in_rule ev context at to e body) (S.for_in_rule other context at to e body)
  unfolding S.for_in_rule
  for_in_rule_too to e body = bind w (expr_too w a context e) (λ v. for_in_value_too to body v)

  -- ---- 12.11

  from_match_too : (v : Value) (otherwise : List Stmt) (cs : List S.Clause) → Alike w (S.from_match ev context at v otherwise cs) (S.from_match other context at v otherwise cs)
  from_match_too v otherwise [] = gives w otherwise
  from_match_too v otherwise ((None, body) ∷ cs) = from_match_too v otherwise cs
  from_match_too v otherwise ((Some e, body) ∷ cs) = bind w (expr_too w a context e) (λ x. bind w (binary_value_too w at (a.call at) binary.Same v x) (λ same. bind w (test_too w at same) (λ t.
      chooses w t (gives w (S.bodies ((Some e, body) ∷ cs))) (from_match_too v otherwise cs))))

  switch_rule_too : (e : Expr) (cs : List S.Clause) → Alike w (S.switch_rule ev context at e cs) (S.switch_rule other context at e cs)
  unfolding S.switch_rule
  switch_rule_too e cs = bind w (expr_too w a context e) (λ v. bind w (from_match_too v (S.from_default cs) cs) (λ body. bind w (body_too w a context body) (λ completion. gives w (S.after_switch completion))))

module _ (w : TreeRelation) {ev other : Ev} (a : PartsAlike w ev other) (context : Context) where
  -- ---- 12.14

  handle_too : (name : List ℕ) (body : List Stmt) (v : Value) → Alike w (S.handle ev context name body v) (S.handle other context name body v)
  unfolding S.handle
  handle_too name body v = bind w (makes w (make_cell v)) (λ c. body_too w a (record context { environment = (name, c) ∷ context.environment }) body)

  with_handler_too : (handler : Option Catch) {m n : Run Completion} → Alike w m n → Alike w (S.with_handler ev context handler m) (S.with_handler other context handler n)
  with_handler_too None h = h
  with_handler_too (Some c) h = catches w (handle_too (out-Catch c).name (out-Catch c).body) h

  with_final_too : (final : Option Finally) {m n : Run Completion} → Alike w m n → Alike w (S.with_final ev context final m) (S.with_final other context final n)
  with_final_too None h = h
  with_final_too (Some f) h =
      let last = body_too w a context (out-Finally f).body in record {
        at = λ i s k l d e kept caught. h.at i s _ _ _ _
            (record { at = λ j le completion t. (finish_too w last (gives w completion)).at j t k l d e (sooner w le kept) (sooner w le caught) })
            (record { at = λ j le v t. (finish_too w last (throws w v)).at j t k l d e (sooner w le kept) (sooner w le caught) });
      }

  try_rule_too : (body : List Stmt) (handler : Option Catch) (final : Option Finally) → Alike w (S.try_rule ev context body handler final) (S.try_rule other context body handler final)
  unfolding S.try_rule
  try_rule_too body handler final = with_final_too final (with_handler_too handler (body_too w a context body))

  -- ---- all forms

  pub stmt_rule_too : (at : Place) (x : StmtForm-F StmtForm Case Catch Finally Stmt) → Alike w (S.stmt_rule ev context at x) (S.stmt_rule other context at x)
  unfolding S.stmt_rule
  stmt_rule_too at (StmtForm-F.Var ds) = var_rule_too w a context at ds
  stmt_rule_too at (StmtForm-F.FuncDecl f) = gives w Normal
  stmt_rule_too at (StmtForm-F.Eval e) = eval_rule_too w a context e
  stmt_rule_too at (StmtForm-F.Block body) = body_too w a context body
  stmt_rule_too at StmtForm-F.Empty = gives w Normal
  stmt_rule_too at (StmtForm-F.If e x y) = if_rule_too w a context at e x y
  stmt_rule_too at (StmtForm-F.DoWhile body e) = a.loops.at (do_while_turn_too w a context at body e)
  stmt_rule_too at (StmtForm-F.While e body) = a.loops.at (while_turn_too w a context at e body)
  stmt_rule_too at (StmtForm-F.For from e increment body) = for_rule_too w a context at from e increment body
  stmt_rule_too at (StmtForm-F.ForIn to e body) = for_in_rule_too w a context at to e body
  stmt_rule_too at StmtForm-F.Continue = gives w Continue
  stmt_rule_too at StmtForm-F.Break = gives w Break
  stmt_rule_too at (StmtForm-F.Return e) = return_rule_too w a context e
  stmt_rule_too at (StmtForm-F.Switch e cases) = switch_rule_too w a context at e (map S.clause_of cases)
  stmt_rule_too at (StmtForm-F.Throw e) = throw_rule_too w a context e
  stmt_rule_too at (StmtForm-F.Try body handler final) = try_rule_too body handler final
