-- The rules of statements (12), in two runs that go together where those of their parts do.
use Rattle.std.proofs.Common.{◌≡◌, subst, ℕ, Bool, true, false, List, [], ◌∷◌, ◌++◌, map}
use Rattle.std.specs.Prelude.{Option}
use Rattle.js_value.specs.declared.operator.BinaryOp.TheVariants as binary
use Rattle.js_value.specs.declared.place.Place.{Place}
use Rattle.js_value.specs.declared.primitive.Primitive.TheVariants as primitive
use Rattle.js_value.specs.declared.why.Why.TheVariants.{PrimitiveProperty}
use Rattle.js_tree.specs.declared.expression.Expr.{Expr}
use Rattle.js_tree.specs.declared.statement.Case.{Case}
use Rattle.js_tree.specs.declared.statement.Catch.{Catch, out-Catch}
use Rattle.js_tree.specs.declared.statement.Declarator.{Declarator}
use Rattle.js_tree.specs.declared.statement.Finally.{Finally}
use Rattle.js_tree.specs.declared.statement.ForStart.{ForStart}
use Rattle.js_tree.specs.declared.statement.ForTarget.{ForTarget}
use Rattle.js_tree.specs.declared.statement.Stmt.{Stmt}
use Rattle.js_tree.specs.declared.statement.StmtForm.{StmtForm}
use Rattle.js_tree.specs.declared.statement.StmtForm.TheOpen.{StmtForm-F}
use Rattle.plain_heap.specs.Values.{Value, Prim, ObjNo}
use Rattle.plain_heap.specs.Heap.{Key}
use Rattle.js_machine.specs.Machine.Expressions.{Ev, Completion}
use Rattle.js_machine.specs.Machine.References.{Context}
use Rattle.js_machine.specs.Machine.Statements as S
use Rattle.js_machine.specs.Machine.Events.{Run, Next, repeat}
use Rattle.related_states.specs.Related.{Correspondence, BothOption, nothing, just, BothEach, none, also, SameValue, known}
use Rattle.related_runs.proofs.Enumerations.{enumerated_same}
use Rattle.related_runs.proofs.Creating.{make_cell_both}
use Rattle.related_runs.proofs.Related.{TreeRelation, Together, Equal, SameNext, again_both, done_both, bind, bind_same, gives, gives_same, throws, left_at, looks, chooses, in_turns, catches, repeats}
use Rattle.related_runs.proofs.Operators.{is_boolean, is_number, is_text, Meanings, Seen, plain, objects, symbol, see, test_both}
use Rattle.related_runs.proofs.Objects.{SameReference, SameContext}
use Rattle.related_runs.proofs.Objects as R
use Rattle.js_tree.specs.declared.statement.Func.{Func}
use Rattle.related_states.specs.Related.{Names, are_named}
use Rattle.related_runs.specs.Codes.{Code, SameDeclarator, SameStart, start_nothing, start_expr, start_var, SameTarget, target_expr, target_var, SameClause, same_clause, SameCases, SameCatch, SameFinally, SameStmtForm, both_var, both_declared, both_eval, both_block, both_empty, both_if, both_do, both_while, both_for, both_for_in, both_continue, both_break, both_return, both_switch, both_throw, both_try}
use Rattle.related_runs.proofs.Codes.{one_more}
use Rattle.related_runs.proofs.Expressions.{SameCompletion, same_normal, same_break, same_continue, same_return, PartsTogether, makes_alike, binary_value_both}

pub joined_both : {A B : Type 0} {Q : A → B → Type 0} {xs ys : List A} {us vs : List B} → BothEach Q xs us → BothEach Q ys vs → BothEach Q (xs ++ ys) (us ++ vs)
joined_both none all = all
joined_both (also q qs) all = also q (joined_both qs all)

module _ {x : Correspondence} (w : TreeRelation x) where
  -- ---- 12.1

  if_normal_both : {m n : Run Completion} → Together w (SameCompletion x) m n → {f g : Completion} → SameCompletion x f g → Together w (SameCompletion x) (S.if_normal m f) (S.if_normal n g)
  if_normal_both h same_normal = h
  if_normal_both h same_break = gives w same_break
  if_normal_both h same_continue = gives w same_continue
  if_normal_both h (same_return v) = gives w (same_return v)

  pub statements_both : {Q : Stmt → Stmt → Type 0} {stmt other : Stmt → Run Completion} → ((s t : Stmt) → Q s t → Together w (SameCompletion x) (stmt s) (other t)) → {ss ts : List Stmt} → BothEach Q ss ts → Together w (SameCompletion x) (S.statements stmt ss) (S.statements other ts)
  unfolding S.statements
  statements_both h none = gives w same_normal
  statements_both h (also s ss) = bind w (h _ _ s) (λ f g flow. if_normal_both (statements_both h ss) flow)

  -- ---- parts of loops

  after_body_both : {m n : Run (Next Completion)} → Together w (SameNext w (SameCompletion x)) m n → {f g : Completion} → SameCompletion x f g → Together w (SameNext w (SameCompletion x)) (S.after_body m f) (S.after_body n g)
  after_body_both h same_normal = h
  after_body_both h same_continue = h
  after_body_both h same_break = gives w (done_both same_normal)
  after_body_both h (same_return v) = gives w (done_both (same_return v))

  again_runs : Together w (SameNext w (SameCompletion x)) S.again S.again
  again_runs = gives w again_both

  done_runs : Together w (SameNext w (SameCompletion x)) S.done S.done
  done_runs = gives w (done_both same_normal)

  unless_left_both : {m n : Run Completion} → Together w (SameCompletion x) m n → {f g : Completion} → SameCompletion x f g → Together w (SameCompletion x) (S.unless_left m f) (S.unless_left n g)
  unless_left_both h same_normal = h
  unless_left_both h same_continue = h
  unless_left_both h same_break = gives w same_normal
  unless_left_both h (same_return v) = gives w (same_return v)

  -- ---- 12.14

  finish_both : {last latter m n : Run Completion} → Together w (SameCompletion x) last latter → Together w (SameCompletion x) m n → Together w (SameCompletion x) (S.finish last m) (S.finish latter n)
  finish_both l h = bind w l (λ f g flow. if_normal_both h flow)

  after_switch_both : {f g : Completion} → SameCompletion x f g → SameCompletion x (S.after_switch f) (S.after_switch g)
  after_switch_both same_normal = same_normal
  after_switch_both same_break = same_normal
  after_switch_both same_continue = same_continue
  after_switch_both (same_return v) = same_return v

module _ {x : Correspondence} (w : TreeRelation x) (m : Meanings x) {functions others : List Func} {code : Code x functions others} {ev other : Ev} (a : PartsTogether w code ev other) {ns : Names} {c d : Context} (context : SameContext x ns c d) where
  body_both : {ss ts : List Stmt} → BothEach (code.Stmts ns) ss ts → Together w (SameCompletion x) (S.statements (ev.stmt c) ss) (S.statements (other.stmt d) ts)
  body_both body = statements_both w (λ _ _ s. a.stmt context s) body

  -- ---- 12.4 and 12.5

  eval_rule_both : {e f : Expr} → code.Exprs ns e f → Together w (SameCompletion x) (S.eval_rule ev c e) (S.eval_rule other d f)
  unfolding S.eval_rule
  eval_rule_both e = bind w (a.expr context e) (λ _ _ _. gives w same_normal)

  maybe_stmt_both : {s t : Option Stmt} → BothOption (code.Stmts ns) s t → Together w (SameCompletion x) (S.maybe_stmt ev c s) (S.maybe_stmt other d t)
  maybe_stmt_both nothing = gives w same_normal
  maybe_stmt_both (just s) = a.stmt context s

  -- ---- 12.9 and 12.13

  return_rule_both : {e f : Option Expr} → BothOption (code.Exprs ns) e f → Together w (SameCompletion x) (S.return_rule ev c e) (S.return_rule other d f)
  unfolding S.return_rule
  return_rule_both nothing = gives w (same_return (known _))
  return_rule_both (just e) = bind w (a.expr context e) (λ v u value. gives w (same_return value))

  throw_rule_both : {e f : Expr} → code.Exprs ns e f → Together w (SameCompletion x) (S.throw_rule ev c e) (S.throw_rule other d f)
  unfolding S.throw_rule
  throw_rule_both e = bind w (a.expr context e) (λ v u value. throws w value)

  for_step_both : {e f : Option Expr} → BothOption (code.Exprs ns) e f → Together w (SameNext w (SameCompletion x)) (S.for_step ev c e) (S.for_step other d f)
  for_step_both nothing = again_runs w
  for_step_both (just e) = bind w (a.expr context e) (λ _ _ _. again_runs w)

module _ {x : Correspondence} (w : TreeRelation x) (m : Meanings x) {functions others : List Func} {code : Code x functions others} {ev other : Ev} (a : PartsTogether w code ev other) {ns : Names} {c d : Context} (context : SameContext x ns c d) (at place : Place) where
  -- ---- 12.2

  declarator_rule_both : (n k : List ℕ) → are_named ns n k ≡ true → {e f : Option Expr} → BothOption (code.Exprs ns) e f → Together w Equal (S.declarator_rule ev c at n e) (S.declarator_rule other d place k f)
  unfolding S.declarator_rule
  declarator_rule_both n k named nothing = gives_same w tt
  declarator_rule_both n k named (just e) = bind w (R.resolve_name_both w m at place (a.call at place) context n k named) (λ r q ref. bind w (a.expr context e) (λ v u value. R.put_value_both w m at place (a.call at place) ref value))

  declarators_both : {ds es : List Declarator} → BothEach (SameDeclarator x functions others code.Exprs code.Stmts ns) ds es → Together w Equal (S.declarators ev c at ds) (S.declarators other d place es)
  declarators_both ds = in_turns w (λ (d e : Declarator) same. declarator_rule_both d.name e.name same.name same.init) ds

  var_rule_both : {ds es : List Declarator} → BothEach (SameDeclarator x functions others code.Exprs code.Stmts ns) ds es → Together w (SameCompletion x) (S.var_rule ev c at ds) (S.var_rule other d place es)
  unfolding S.var_rule
  var_rule_both ds = bind w (declarators_both ds) (λ _ _ _. gives w same_normal)

  -- ---- 12.5

  if_rule_both : {e f : Expr} {s t : Stmt} {u v : Option Stmt} → code.Exprs ns e f → code.Stmts ns s t → BothOption (code.Stmts ns) u v → Together w (SameCompletion x) (S.if_rule ev c at e s u) (S.if_rule other d place f t v)
  unfolding S.if_rule
  if_rule_both e s t = bind w (a.expr context e) (λ v u value. bind_same w (test_both w m at place value) (λ b. chooses w b (a.stmt context s) (maybe_stmt_both w m a context t)))

  -- ---- 12.6

  loops_both : {once again : Run (Next Completion)} → Together w (SameNext w (SameCompletion x)) once again → Together w (SameCompletion x) (repeat ev.turns once) (repeat other.turns again)
  loops_both {once = once} {again = again} h = subst (λ n. Together w (SameCompletion x) (repeat ev.turns once) (repeat n again)) a.turns (repeats w h ev.turns)

  do_while_turn_both : {s t : Stmt} {e f : Expr} → code.Stmts ns s t → code.Exprs ns e f → Together w (SameNext w (SameCompletion x)) (S.do_while_turn ev c at s e) (S.do_while_turn other d place t f)
  unfolding S.do_while_turn
  do_while_turn_both body e = bind w (a.stmt context body)
      (λ f g flow. after_body_both w (bind w (a.expr context e) (λ v u value. bind_same w (test_both w m at place value) (λ t. chooses w t (again_runs w) (done_runs w)))) flow)

  while_turn_both : {e f : Expr} {s t : Stmt} → code.Exprs ns e f → code.Stmts ns s t → Together w (SameNext w (SameCompletion x)) (S.while_turn ev c at e s) (S.while_turn other d place f t)
  unfolding S.while_turn
  while_turn_both e body = bind w (a.expr context e)
      (λ v u value. bind_same w (test_both w m at place value) (λ t. chooses w t (bind w (a.stmt context body) (λ f g flow. after_body_both w (again_runs w) flow)) (done_runs w)))

  for_test_both : {e f : Option Expr} → BothOption (code.Exprs ns) e f → Together w Equal (S.for_test ev c at e) (S.for_test other d place f)
  for_test_both nothing = gives_same w true
  for_test_both (just e) = bind w (a.expr context e) (λ v u value. test_both w m at place value)

  for_turn_both : {e f i j : Option Expr} {s t : Stmt} → BothOption (code.Exprs ns) e f → BothOption (code.Exprs ns) i j → code.Stmts ns s t → Together w (SameNext w (SameCompletion x)) (S.for_turn ev c at e i s) (S.for_turn other d place f j t)
  unfolding S.for_turn
  for_turn_both e increment body = bind_same w (for_test_both e)
      (λ t. chooses w t (bind w (a.stmt context body) (λ f g flow. after_body_both w (for_step_both w m a context increment) flow)) (done_runs w))

  for_start_both : {f g : ForStart} → SameStart x functions others code.Exprs code.Stmts ns f g → Together w Equal (S.for_start ev c at f) (S.for_start other d place g)
  for_start_both start_nothing = gives_same w tt
  for_start_both (start_expr e) = bind w (a.expr context e) (λ _ _ _. gives_same w tt)
  for_start_both (start_var ds) = declarators_both ds

  for_rule_both : {g h : ForStart} {e f i j : Option Expr} {s t : Stmt} → SameStart x functions others code.Exprs code.Stmts ns g h → BothOption (code.Exprs ns) e f → BothOption (code.Exprs ns) i j → code.Stmts ns s t
      → Together w (SameCompletion x) (S.for_rule ev c at g e i s) (S.for_rule other d place h f j t)
  unfolding S.for_rule
  for_rule_both from e increment body = bind w (for_start_both from) (λ _ _ _. loops_both (for_turn_both e increment body))

  -- ---- 12.6.4

  for_in_target_both : {f g : ForTarget} → SameTarget x functions others code.Exprs code.Stmts ns f g → Together w (SameReference x) (S.for_in_target ev c at f) (S.for_in_target other d place g)
  for_in_target_both (target_expr e) = a.reference context e
  for_in_target_both (target_var named) = R.resolve_name_both w m at place (a.call at place) context _ _ named

  for_in_turn_both : {f g : ForTarget} → SameTarget x functions others code.Exprs code.Stmts ns f g → {s t : Stmt} → code.Stmts ns s t → (key : Key) (there : Bool) → Together w (SameCompletion x) (S.for_in_turn ev c at f s key there) (S.for_in_turn other d place g t key there)
  for_in_turn_both to body key false = gives w same_normal
  for_in_turn_both to body key true = bind w (for_in_target_both to) (λ r q ref. bind w (R.put_value_both w m at place (a.call at place) ref (known (primitive.Text key))) (λ _ _ _. a.stmt context body))

  for_in_turns_both : {f g : ForTarget} → SameTarget x functions others code.Exprs code.Stmts ns f g → {s t : Stmt} → code.Stmts ns s t → {o q : ObjNo} → x.Objects o q → (keys : List Key) → Together w (SameCompletion x) (S.for_in_turns ev c at f s o keys) (S.for_in_turns other d place g t q keys)
  unfolding S.for_in_turns
  for_in_turns_both to body r [] = gives w same_normal
  for_in_turns_both to body r (key ∷ keys) = bind_same w (R.has_property_both w m at place (a.call at place) r key) (λ there. bind w (for_in_turn_both to body key there) (λ f g flow.
      unless_left_both w (for_in_turns_both to body r keys) flow))

  for_in_value_both : {f g : ForTarget} → SameTarget x functions others code.Exprs code.Stmts ns f g → {s t : Stmt} → code.Stmts ns s t → {v u : Value} → Seen x v u → Together w (SameCompletion x) (S.for_in_value ev c at f s v) (S.for_in_value other d place g t u)
  for_in_value_both to body (objects r) = bind_same w (looks w (λ h g same. enumerated_same x h g same r)) (λ keys. for_in_turns_both to body r keys)
  for_in_value_both to body (plain primitive.Undefined) = gives w same_normal
  for_in_value_both to body (plain primitive.Null) = gives w same_normal
  for_in_value_both to body (plain (primitive.Boolean b)) = left_at w PrimitiveProperty at place
  for_in_value_both to body (plain (primitive.Number n)) = left_at w PrimitiveProperty at place
  for_in_value_both to body (plain (primitive.Text t)) = left_at w PrimitiveProperty at place
  for_in_value_both to body (symbol (is_boolean b) d) = left_at w PrimitiveProperty at place
  for_in_value_both to body (symbol (is_number n) d) = left_at w PrimitiveProperty at place
  for_in_value_both to body (symbol (is_text t) d) = left_at w PrimitiveProperty at place

  for_in_rule_both : {k l : ForTarget} → SameTarget x functions others code.Exprs code.Stmts ns k l → {e f : Expr} → code.Exprs ns e f → {s t : Stmt} → code.Stmts ns s t → Together w (SameCompletion x) (S.for_in_rule ev c at k e s) (S.for_in_rule other d place l f t)
  unfolding S.for_in_rule
  for_in_rule_both to e body = bind w (a.expr context e) (λ v u value. for_in_value_both to body (see m value))

  -- ---- 12.11

  bodies_both : {cs ds : List S.Clause} → BothEach (SameClause x functions others code.Exprs code.Stmts ns) cs ds → BothEach (code.Stmts ns) (S.bodies cs) (S.bodies ds)
  bodies_both none = none
  bodies_both (also (same_clause t ss) all) = joined_both ss (bodies_both all)

  default_both : {cs ds : List S.Clause} → BothEach (SameClause x functions others code.Exprs code.Stmts ns) cs ds → BothEach (code.Stmts ns) (S.from_default cs) (S.from_default ds)
  default_both none = none
  default_both (also (same_clause nothing ss) all) = joined_both ss (bodies_both all)
  default_both (also (same_clause (just e) ss) all) = default_both all

  from_match_both : {v u : Value} → SameValue x v u → {ss ts : List Stmt} → BothEach (code.Stmts ns) ss ts → {cs ds : List S.Clause} → BothEach (SameClause x functions others code.Exprs code.Stmts ns) cs ds
      → Together w (BothEach (code.Stmts ns)) (S.from_match ev c at v ss cs) (S.from_match other d place u ts ds)
  from_match_both v otherwise none = gives w otherwise
  from_match_both v otherwise (also (same_clause nothing ss) all) = from_match_both v otherwise all
  from_match_both v otherwise (also (same_clause (just e) ss) all) = bind w (a.expr context e) (λ n k value. bind w (binary_value_both w m at place (a.call at place) binary.Same v value) (λ n k same. bind_same w (test_both w m at place same) (λ t.
      chooses w t (gives w (joined_both ss (bodies_both all))) (from_match_both v otherwise all))))

  switch_rule_both : {e f : Expr} → code.Exprs ns e f → {cs ds : List S.Clause} → BothEach (SameClause x functions others code.Exprs code.Stmts ns) cs ds → Together w (SameCompletion x) (S.switch_rule ev c at e cs) (S.switch_rule other d place f ds)
  unfolding S.switch_rule
  switch_rule_both e cs = bind w (a.expr context e) (λ v u value. bind w (from_match_both value (default_both cs) cs) (λ _ _ body. bind w (body_both w m a context body) (λ f g flow. gives w (after_switch_both w flow))))

  clauses_both : {cs ds : List Case} → BothEach (SameCases x functions others code.Exprs code.Stmts ns) cs ds → BothEach (SameClause x functions others code.Exprs code.Stmts ns) (map S.clause_of cs) (map S.clause_of ds)
  clauses_both none = none
  clauses_both (also c all) = also c.clause (clauses_both all)

module _ {x : Correspondence} (w : TreeRelation x) (m : Meanings x) {functions others : List Func} {code : Code x functions others} {ev other : Ev} (a : PartsTogether w code ev other) {ns : Names} {c d : Context} (context : SameContext x ns c d) where
  -- ---- 12.14

  handle_both : (name : List ℕ) {ss ts : List Stmt} → BothEach (code.Stmts ((name, name) ∷ ns)) ss ts → {v u : Value} → SameValue x v u → Together w (SameCompletion x) (S.handle ev c name ss v) (S.handle other d name ts u)
  unfolding S.handle
  handle_both name body v = bind w (makes_alike w (make_cell_both m v)) (λ o q cell. body_both w m a (record { environment = one_more context.environment name cell; this = context.this; strict = context.strict }) body)

  handler_both : {e f : Catch} → SameCatch x functions others code.Exprs code.Stmts ns e f → {v u : Value} → SameValue x v u → Together w (SameCompletion x) (S.handle ev c (out-Catch e).name (out-Catch e).body v) (S.handle other d (out-Catch f).name (out-Catch f).body u)
  handler_both {e = e} {f = f} h {v = v} {u = u} value =
      subst (λ name. Together w (SameCompletion x) (S.handle ev c (out-Catch e).name (out-Catch e).body v) (S.handle other d name (out-Catch f).body u)) h.name (handle_both (out-Catch e).name h.body value)

  with_handler_both : {e f : Option Catch} → BothOption (SameCatch x functions others code.Exprs code.Stmts ns) e f → {k n : Run Completion} → Together w (SameCompletion x) k n → Together w (SameCompletion x) (S.with_handler ev c e k) (S.with_handler other d f n)
  with_handler_both nothing h = h
  with_handler_both (just f) h = catches w (λ v u value. handler_both f value) h

  with_final_both : {e f : Option Finally} → BothOption (SameFinally x functions others code.Exprs code.Stmts ns) e f → {k n : Run Completion} → Together w (SameCompletion x) k n → Together w (SameCompletion x) (S.with_final ev c e k) (S.with_final other d f n)
  with_final_both nothing h = h
  with_final_both (just f) h =
      let last = body_both w m a context f.body in record {
        at = λ s t same k l e g kept caught. h.at s t same _ _ _ _
            (record { at = λ a b flow s t same. (finish_both w last (gives w {R = SameCompletion x} flow)).at s t same k l e g kept caught })
            (record { at = λ v u value s t same. (finish_both w last (throws w value)).at s t same k l e g kept caught });
      }

  try_rule_both : {ss ts : List Stmt} → BothEach (code.Stmts ns) ss ts → {e f : Option Catch} → BothOption (SameCatch x functions others code.Exprs code.Stmts ns) e f → {g h : Option Finally} → BothOption (SameFinally x functions others code.Exprs code.Stmts ns) g h
      → Together w (SameCompletion x) (S.try_rule ev c ss e g) (S.try_rule other d ts f h)
  unfolding S.try_rule
  try_rule_both body handler final = with_final_both final (with_handler_both handler (body_both w m a context body))

  -- ---- all forms

  pub stmt_rule_both : (at place : Place) {f g : StmtForm-F StmtForm Case Catch Finally Stmt} → SameStmtForm x functions others code.Exprs code.Stmts ns f g → Together w (SameCompletion x) (S.stmt_rule ev c at f) (S.stmt_rule other d place g)
  unfolding S.stmt_rule
  stmt_rule_both at place (both_var ds) = var_rule_both w m a context at place ds
  stmt_rule_both at place (both_declared f g) = gives w same_normal
  stmt_rule_both at place (both_eval e) = eval_rule_both w m a context e
  stmt_rule_both at place (both_block body) = body_both w m a context body
  stmt_rule_both at place both_empty = gives w same_normal
  stmt_rule_both at place (both_if e s t) = if_rule_both w m a context at place e s t
  stmt_rule_both at place (both_do body e) = loops_both w m a context at place (do_while_turn_both w m a context at place body e)
  stmt_rule_both at place (both_while e body) = loops_both w m a context at place (while_turn_both w m a context at place e body)
  stmt_rule_both at place (both_for from e increment body) = for_rule_both w m a context at place from e increment body
  stmt_rule_both at place (both_for_in to e body) = for_in_rule_both w m a context at place to e body
  stmt_rule_both at place both_continue = gives w same_continue
  stmt_rule_both at place both_break = gives w same_break
  stmt_rule_both at place (both_return e) = return_rule_both w m a context e
  stmt_rule_both at place (both_switch e cases) = switch_rule_both w m a context at place e (clauses_both w m a context at place cases)
  stmt_rule_both at place (both_throw e) = throw_rule_both w m a context e
  stmt_rule_both at place (both_try body handler final) = try_rule_both body handler final
