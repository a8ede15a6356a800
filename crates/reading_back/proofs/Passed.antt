-- A statement that was read has passed the test of its height.
use Rattle.std.proofs.Common.{◌≡◌, Bool, true, false, cond, refl}
use Rattle.std.specs.Prelude.{Option, Some, None, Result, Ok, Err}
use Rattle.js_value.specs.declared.place.Place.{Place}
use Rattle.js_tree.specs.declared.refusal.Feature.{Feature}
use Rattle.js_tree.specs.declared.refusal.ReadRefused.{ReadRefused}
use Rattle.js_tree.specs.declared.refusal.ReadRefused.TheVariants.{Nested}
use Rattle.js_tree.specs.declared.statement.Stmt.{Stmt}
use Rattle.js_tree.specs.declared.statement.StmtForm.{StmtForm}
use Rattle.js_tree.specs.declared.token.TokenForm.{TokenForm}
use Rattle.js_grammar.specs.Functions.{Grammar}
use Rattle.js_grammar.specs.Rest.{Rest, Reading, behind, ◌>>=◌, next, of_first, go_on, refuse, unexpected, unless, finish_stmt}
use Rattle.js_grammar.specs.Statements as S

abbrev pub Passed : Result (Stmt × Rest) ReadRefused → Type 0
Passed (Ok x) = x.1.allows_stmt x.1.functions x.0 ≡ true
Passed (Err e) = Unit {0}

pub record Passes (m : Reading Stmt) : Type 0 where
  pub at : (s : Rest) → Passed (m s)

finishes : (at : Place) (form : StmtForm) → Passes (finish_stmt at form)
unfolding finish_stmt
finishes at form = record { at = λ s. by s (s.allows_stmt s.functions (record { at = at; form = form })) refl }
  where
    by : (s : Rest) (b : Bool) → s.allows_stmt s.functions (record { at = at; form = form }) ≡ b → Passed (cond b (Ok (record { at = at; form = form }, s)) (Err (Nested at)))
    by s true e = e
    by s false e = tt

binds : {A : Type 0} (m : Reading A) {f : A → Reading Stmt} → ((a : A) → Passes (f a)) → Passes (m >>= f)
binds {A = A} m {f = f} h = record { at = λ s. by (m s) }
  where
    by : (r : Result (A × Rest) ReadRefused) → Passed (behind r f)
    by (Ok x) = (h x.0).at x.1
    by (Err e) = tt

takes : {A : Type 0} (want : TokenForm → Option A) {f : A → Reading Stmt} {m : Reading Stmt} → ((a : A) → Passes (f a)) → Passes m → Passes (next want f m)
unfolding next
takes {A = A} want {f = f} {m = m} h o = record { at = λ s. by s (of_first want s.tokens) }
  where
    by : (s : Rest) (a : Option A) → Passed (go_on a f m s)
    by s None = o.at s
    by s (Some a) = (h a).at _

chooses : (b : Bool) {m n : Reading Stmt} → Passes m → Passes n → Passes (cond b m n)
chooses true h l = h
chooses false h l = l

refuses : (e : ReadRefused) → Passes (refuse e)
refuses e = record { at = λ s. tt }

misses : Passes unexpected
misses = record { at = λ s. tt }

bars : (at : Place) (what : Option Feature) {m : Reading Stmt} → Passes m → Passes (unless at what m)
bars at None h = h
bars at (Some x) h = refuses _

ruleset last = (finishes, binds, takes, chooses, refuses, misses, bars)

module _ (g : Grammar) where
  var_passes : (at : Place) → Passes (S.var_behind g at)
  unfolding S.var_behind
  var_passes at = search last depth 14

  label_passes : (at : Place) (colon : Bool) (o : _) → Passes (S.label_or_expression g at colon o)
  label_passes at colon None = search last depth 14
  label_passes at true (Some name) = search last depth 14
  label_passes at false (Some name) = search last depth 14

  here_passes : Passes (S.expression_here g)
  unfolding S.expression_here
  here_passes = search (label_passes, last) depth 14

  if_passes : (at : Place) → Passes (S.if_behind g at)
  unfolding S.if_behind
  if_passes at = search last depth 14

  do_passes : (at : Place) → Passes (S.do_behind g at)
  unfolding S.do_behind
  do_passes at = search last depth 14

  while_passes : (at : Place) → Passes (S.while_behind g at)
  unfolding S.while_behind
  while_passes at = search last depth 14

  for_passes : (at : Place) → Passes (S.for_behind g at)
  unfolding S.for_behind
  for_passes at = search last depth 14

  jump_passes : (jump : StmtForm) (at : Place) → Passes (S.jump_behind g jump at)
  jump_passes jump at = search last depth 14

  return_passes : (at : Place) → Passes (S.return_behind g at)
  unfolding S.return_behind
  return_passes at = search last depth 14

  switch_passes : (at : Place) → Passes (S.switch_behind g at)
  unfolding S.switch_behind
  switch_passes at = search last depth 14

  throw_passes : (at : Place) → Passes (S.throw_behind g at)
  unfolding S.throw_behind
  throw_passes at = search last depth 14

  try_passes : (at : Place) → Passes (S.try_behind g at)
  unfolding S.try_behind
  try_passes at = search last depth 14

  begun_passes : (at : Place) (first : S.Beginning) → Passes (S.begun g at first)
  begun_passes at S.Block = search last depth 14
  begun_passes at S.Empty = finishes at _
  begun_passes at S.Var = var_passes at
  begun_passes at S.If = if_passes at
  begun_passes at S.Do = do_passes at
  begun_passes at S.While = while_passes at
  begun_passes at S.For = for_passes at
  begun_passes at S.Continue = jump_passes _ at
  begun_passes at S.Break = jump_passes _ at
  begun_passes at S.Return = return_passes at
  begun_passes at S.With = refuses _
  begun_passes at S.Switch = switch_passes at
  begun_passes at S.Throw = throw_passes at
  begun_passes at S.Try = try_passes at
  begun_passes at S.Debugger = refuses _
  begun_passes at S.Function = refuses _

  statement_passes : Passes (S.statement g)
  unfolding S.statement
  statement_passes = search (begun_passes, here_passes, last) depth 14

  pub element_passes : Passes (S.element g)
  unfolding S.element
  element_passes = search (statement_passes, last) depth 14
