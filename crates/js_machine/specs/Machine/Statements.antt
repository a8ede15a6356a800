-- Statements (12): one rule for each form, in the order of the steps of its clause.
use Rattle.std.specs.Option.{option_and_then, option_map}
use Rattle.std.specs.Prelude.{ℕ, zero, suc, ◌&&◌, ◌++◌, Bool, true, false, not, List, [], ◌∷◌, map, Option, Some, None, unwrap_or}
use Rattle.std.specs.List.{filter, flat_map, list_any}
use Rattle.js_value.specs.Conversions.{is_same_text}
use Rattle.js_value.specs.declared.operator.BinaryOp.TheVariants as binary
use Rattle.js_value.specs.declared.place.Place.{Place}
use Rattle.js_value.specs.declared.primitive.Primitive.TheVariants as primitive
use Rattle.js_value.specs.declared.why.Why.TheVariants.{PrimitiveProperty}
use Rattle.js_tree.specs.declared.expression.Expr.{Expr}
use Rattle.js_tree.specs.declared.statement.Case.{Case, out-Case}
use Rattle.js_tree.specs.declared.statement.Catch.{Catch, out-Catch}
use Rattle.js_tree.specs.declared.statement.Declarator.{Declarator}
use Rattle.js_tree.specs.declared.statement.Finally.{Finally, out-Finally}
use Rattle.js_tree.specs.declared.statement.ForStart.{ForStart}
use Rattle.js_tree.specs.declared.statement.ForStart.TheVariants as start
use Rattle.js_tree.specs.declared.statement.ForTarget.{ForTarget}
use Rattle.js_tree.specs.declared.statement.ForTarget.TheVariants as target
use Rattle.js_tree.specs.declared.statement.Stmt.{Stmt}
use Rattle.js_tree.specs.declared.statement.StmtForm.{StmtForm}
use Rattle.js_tree.specs.declared.statement.StmtForm.TheOpen.{StmtForm-F}
use Rattle.plain_heap.specs.Values.{Value, Prim, Object, ObjNo, undefined, text}
use Rattle.plain_heap.specs.Heap.{Key, Property, Properties, ObjectState, Heap, is_enumerable, object_at, depth_at, make_cell}
use Rattle.js_machine.specs.Machine.Expressions.{Ev, Completion, Normal, Break, Continue, Return, site, binary_value}
use Rattle.js_machine.specs.Machine.References.{Context, Reference, resolve_name, put_value}
use Rattle.js_machine.specs.Machine.Objects.{has_property}
use Rattle.js_machine.specs.Machine.Operators.{test}
use Rattle.js_machine.specs.Machine.Events.{◌>>=◌, Run, give, throw, leave, look, choose, in_turn, Next, Again, Done, repeat, catching, make}

-- ---- 12.1: a list of statements, up to the first that doesn't end normally

abbrev pub if_normal : Run Completion → Completion → Run Completion
if_normal next Normal = next
if_normal next completion = give completion

unfoldable pub statements : (Stmt → Run Completion) → List Stmt → Run Completion
statements stmt [] = give Normal
statements stmt (x ∷ xs) = do
  completion ← stmt x
  if_normal (statements stmt xs) completion

-- ---- 12.2: the name of a declarator is resolved before its initialiser is evaluated

unfoldable pub declarator_rule : Ev → Context → Place → List ℕ → Option Expr → Run (Unit {0})
declarator_rule ev context at name None = give tt
declarator_rule ev context at name (Some e) = do
  r ← resolve_name (site ev at) context name
  v ← ev.expr context e
  put_value (site ev at) r v

abbrev pub declarators : Ev → Context → Place → List Declarator → Run (Unit {0})
declarators ev context at ds = in_turn (λ (d : Declarator). declarator_rule ev context at d.name d.init) ds

unfoldable pub var_rule : Ev → Context → Place → List Declarator → Run Completion
var_rule ev context at ds = do
  _ ← declarators ev context at ds
  give Normal

-- ---- 12.4

unfoldable pub eval_rule : Ev → Context → Expr → Run Completion
eval_rule ev context e = do
  _ ← ev.expr context e
  give Normal

-- ---- 12.5

abbrev pub maybe_stmt : Ev → Context → Option Stmt → Run Completion
maybe_stmt ev context None = give Normal
maybe_stmt ev context (Some x) = ev.stmt context x

unfoldable pub if_rule : Ev → Context → Place → Expr → Stmt → Option Stmt → Run Completion
if_rule ev context at e a b = do
  v ← ev.expr context e
  t ← test at v
  choose t (ev.stmt context a) (maybe_stmt ev context b)

-- ---- 12.6: loops

-- what a body that ended so says of its loop; `go_on` is what comes where it isn't left
abbrev pub after_body : Run (Next Completion) → Completion → Run (Next Completion)
after_body go_on Normal = go_on
after_body go_on Continue = go_on
after_body go_on Break = give (Done Normal)
after_body go_on (Return v) = give (Done (Return v))

abbrev pub again : Run (Next Completion)
again = give Again

abbrev pub done : Run (Next Completion)
done = give (Done Normal)

-- 12.6.1
unfoldable pub do_while_turn : Ev → Context → Place → Stmt → Expr → Run (Next Completion)
do_while_turn ev context at body e = do
  completion ← ev.stmt context body
  after_body (do
    v ← ev.expr context e
    t ← test at v
    choose t again done) completion

-- 12.6.2
unfoldable pub while_turn : Ev → Context → Place → Expr → Stmt → Run (Next Completion)
while_turn ev context at e body = do
  v ← ev.expr context e
  t ← test at v
  choose t (do
    completion ← ev.stmt context body
    after_body again completion) done

-- 12.6.3: a header without a test is always true
abbrev pub for_test : Ev → Context → Place → Option Expr → Run Bool
for_test ev context at None = give true
for_test ev context at (Some e) = do
  v ← ev.expr context e
  test at v

abbrev pub for_step : Ev → Context → Option Expr → Run (Next Completion)
for_step ev context None = again
for_step ev context (Some e) = do
  _ ← ev.expr context e
  again

unfoldable pub for_turn : Ev → Context → Place → Option Expr → Option Expr → Stmt → Run (Next Completion)
for_turn ev context at e increment body = do
  t ← for_test ev context at e
  choose t (do
    completion ← ev.stmt context body
    after_body (for_step ev context increment) completion) done

abbrev pub for_start : Ev → Context → Place → ForStart → Run (Unit {0})
for_start ev context at start.Nothing = give tt
for_start ev context at (start.Expr e) = do
  _ ← ev.expr context e
  give tt
for_start ev context at (start.Var ds) = declarators ev context at ds

unfoldable pub for_rule : Ev → Context → Place → ForStart → Option Expr → Option Expr → Stmt → Run Completion
for_rule ev context at from e increment body = do
  _ ← for_start ev context at from
  repeat ev.turns (for_turn ev context at e increment body)

-- 12.6.4: the enumerable names of an object and of its chain of prototypes at the start; a name that an object before has as well,
-- enumerable or not, is passed over

abbrev pub is_among : List Key → Key → Bool
is_among keys key = list_any (λ k. is_same_text k key) keys

abbrev pub keys_of : Properties → List Key
keys_of ps = map (λ (p : Key × Property). p.0) ps

abbrev pub own_names : List Key → Properties → List Key
own_names seen ps = keys_of (filter (λ (p : Key × Property). is_enumerable p.1 && not (is_among seen p.0)) ps)

abbrev pub names_along : ℕ → Heap → List Key → Option ObjNo → List Key
names_along zero h seen o = []
names_along (suc n) h seen o = unwrap_or (option_map (λ (state : ObjectState). own_names seen state.properties ++ names_along n h (seen ++ keys_of state.properties) state.prototype) (option_and_then (object_at h) o)) []

unfoldable pub enumerated : ObjNo → Heap → List Key
enumerated o h = names_along (depth_at h (Some o)) h [] (Some o)

-- the target of each turn
abbrev pub for_in_target : Ev → Context → Place → ForTarget → Run Reference
for_in_target ev context at (target.Expr e) = ev.reference context e
for_in_target ev context at (target.Var name_at name) = resolve_name (site ev at) context name

-- one turn, in which a name that the object no longer has is passed over
abbrev pub for_in_turn : Ev → Context → Place → ForTarget → Stmt → Key → Bool → Run Completion
for_in_turn ev context at to body key false = give Normal
for_in_turn ev context at to body key true = do
  r ← for_in_target ev context at to
  _ ← put_value (site ev at) r (text key)
  ev.stmt context body

abbrev pub unless_left : Run Completion → Completion → Run Completion
unless_left next Normal = next
unless_left next Continue = next
unless_left next Break = give Normal
unless_left next (Return v) = give (Return v)

unfoldable pub for_in_turns : Ev → Context → Place → ForTarget → Stmt → ObjNo → List Key → Run Completion
for_in_turns ev context at to body o [] = give Normal
for_in_turns ev context at to body o (key ∷ keys) = do
  there ← has_property (site ev at) o key
  completion ← for_in_turn ev context at to body key there
  unless_left (for_in_turns ev context at to body o keys) completion

-- step 3, and what 9.9 would make an object of
abbrev pub for_in_value : Ev → Context → Place → ForTarget → Stmt → Value → Run Completion
for_in_value ev context at to body (Object o) = do
  keys ← look (enumerated o)
  for_in_turns ev context at to body o keys
for_in_value ev context at to body (Prim primitive.Undefined) = give Normal
for_in_value ev context at to body (Prim primitive.Null) = give Normal
for_in_value ev context at to body v = leave PrimitiveProperty at

unfoldable pub for_in_rule : Ev → Context → Place → ForTarget → Expr → Stmt → Run Completion
for_in_rule ev context at to e body = do
  v ← ev.expr context e
  for_in_value ev context at to body v

-- ---- 12.9

unfoldable pub return_rule : Ev → Context → Option Expr → Run Completion
return_rule ev context None = give (Return undefined)
return_rule ev context (Some e) = do
  v ← ev.expr context e
  give (Return v)

-- ---- 12.11: the tests of all clauses are looked at in their order, and `default` only where none holds

abbrev pub Clause : Type 0
Clause = Option Expr × List Stmt

abbrev pub bodies : List Clause → List Stmt
bodies cs = flat_map (λ (c : Clause). c.1) cs

-- the statements from the `default` on
abbrev pub from_default : List Clause → List Stmt
from_default [] = []
from_default ((None, body) ∷ cs) = bodies ((None, body) ∷ cs)
from_default ((Some e, body) ∷ cs) = from_default cs

-- the statements from the first clause on whose test is strictly equal to the value
abbrev pub from_match : Ev → Context → Place → Value → List Stmt → List Clause → Run (List Stmt)
from_match ev context at v otherwise [] = give otherwise
from_match ev context at v otherwise ((None, body) ∷ cs) = from_match ev context at v otherwise cs
from_match ev context at v otherwise ((Some e, body) ∷ cs) = do
  w ← ev.expr context e
  same ← binary_value (site ev at) binary.Same v w
  t ← test at same
  choose t (give (bodies ((Some e, body) ∷ cs))) (from_match ev context at v otherwise cs)

-- a `break` leaves the switch
abbrev pub after_switch : Completion → Completion
after_switch Break = Normal
after_switch completion = completion

unfoldable pub switch_rule : Ev → Context → Place → Expr → List Clause → Run Completion
switch_rule ev context at e cs = do
  v ← ev.expr context e
  body ← from_match ev context at v (from_default cs) cs
  completion ← statements (ev.stmt context) body
  give (after_switch completion)

-- ---- 12.13

unfoldable pub throw_rule : Ev → Context → Expr → Run Completion
throw_rule ev context e = do
  v ← ev.expr context e
  throw v

-- ---- 12.14

-- the handler has its name in an environment of its own
unfoldable pub handle : Ev → Context → List ℕ → List Stmt → Value → Run Completion
handle ev context name body v = do
  c ← make (make_cell v)
  statements (ev.stmt (record context { environment = (name, c) ∷ context.environment })) body

abbrev pub with_handler : Ev → Context → Option Catch → Run Completion → Run Completion
with_handler ev context None m = m
with_handler ev context (Some c) m = let handler = out-Catch c in catching (handle ev context handler.name handler.body) m

-- the last part, and then how the others had ended, unless the last part ends otherwise
abbrev pub finish : Run Completion → Run Completion → Run Completion
finish last was = do
  completion ← last
  if_normal was completion

abbrev pub with_final : Ev → Context → Option Finally → Run Completion → Run Completion
with_final ev context None m = m
with_final ev context (Some f) m =
    let last = statements (ev.stmt context) (out-Finally f).body in
    λ s k h. m s (λ completion s. finish last (give completion) s k h) (λ v s. finish last (throw v) s k h)

unfoldable pub try_rule : Ev → Context → List Stmt → Option Catch → Option Finally → Run Completion
try_rule ev context body handler final = with_final ev context final (with_handler ev context handler (statements (ev.stmt context) body))

-- ---- all forms

abbrev pub clause_of : Case → Clause
clause_of c = let clause = out-Case c in (clause.test, clause.body)

unfoldable pub stmt_rule : Ev → Context → Place → StmtForm-F StmtForm Case Catch Finally Stmt → Run Completion
stmt_rule ev context at (StmtForm-F.Var ds) = var_rule ev context at ds
-- 13: the function was made when its code was entered
stmt_rule ev context at (StmtForm-F.FuncDecl f) = give Normal
stmt_rule ev context at (StmtForm-F.Eval e) = eval_rule ev context e
stmt_rule ev context at (StmtForm-F.Block body) = statements (ev.stmt context) body
-- 12.3
stmt_rule ev context at StmtForm-F.Empty = give Normal
stmt_rule ev context at (StmtForm-F.If e a b) = if_rule ev context at e a b
stmt_rule ev context at (StmtForm-F.DoWhile body e) = repeat ev.turns (do_while_turn ev context at body e)
stmt_rule ev context at (StmtForm-F.While e body) = repeat ev.turns (while_turn ev context at e body)
stmt_rule ev context at (StmtForm-F.For from e increment body) = for_rule ev context at from e increment body
stmt_rule ev context at (StmtForm-F.ForIn to e body) = for_in_rule ev context at to e body
-- 12.7
stmt_rule ev context at StmtForm-F.Continue = give Continue
-- 12.8
stmt_rule ev context at StmtForm-F.Break = give Break
stmt_rule ev context at (StmtForm-F.Return e) = return_rule ev context e
stmt_rule ev context at (StmtForm-F.Switch e cases) = switch_rule ev context at e (map clause_of cases)
stmt_rule ev context at (StmtForm-F.Throw e) = throw_rule ev context e
stmt_rule ev context at (StmtForm-F.Try body handler final) = try_rule ev context body handler final
