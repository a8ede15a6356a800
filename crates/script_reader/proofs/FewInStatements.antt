-- A simple script has few nodes for its tokens.
use Rattle.std.proofs.Common.{◌≡◌, ℕ, ◌+◌, ◌*◌, ◌≤◌, Bool, true, false, cond, List, [], ◌∷◌, ◌++◌, refl, ap, sym, ◌∙◌, arith}
use Rattle.std.specs.Prelude.{Option, Some, None, ◌||◌, is_some}
use Rattle.std.specs.List.{list_all}
use Rattle.std.specs.Option.{option_or}
use Rattle.std.proofs.lemmas.Bool.{and_parts, both_ways}
use Rattle.std.proofs.lemmas.List.Folds.{list_all-append}
use Rattle.std.proofs.lemmas.List.Sums.{sum_by_push, sum-map}
use Rattle.js_value.specs.declared.place.Place.{Place}
use Rattle.js_tree.specs.declared.expression.Expr.{Expr}
use Rattle.js_tree.specs.declared.refusal.Feature.TheVariants as feature
use Rattle.js_tree.specs.declared.refusal.ReadRefused.TheVariants.{Syntax, Unsupported}
use Rattle.js_tree.specs.declared.statement.Case.{Case}
use Rattle.js_tree.specs.declared.statement.Catch.{Catch}
use Rattle.js_tree.specs.declared.statement.Declarator.{Declarator}
use Rattle.js_tree.specs.declared.statement.Finally.{Finally}
use Rattle.js_tree.specs.declared.statement.ForStart.{ForStart}
use Rattle.js_tree.specs.declared.statement.ForStart.TheVariants as start
use Rattle.js_tree.specs.declared.statement.ForTarget.{ForTarget}
use Rattle.js_tree.specs.declared.statement.ForTarget.TheVariants as target
use Rattle.js_tree.specs.declared.statement.Name.{Name}
use Rattle.js_tree.specs.declared.statement.Stmt.{Stmt}
use Rattle.js_tree.specs.declared.statement.StmtForm.{StmtForm, out-StmtForm}
use Rattle.js_tree.specs.declared.statement.StmtForm.TheOpen.{StmtForm-F}
use Rattle.js_tree.specs.declared.statement.StmtForm.TheVariants as s
use Rattle.js_tree.specs.declared.token.Keyword.TheVariants as keyword
use Rattle.js_tree.specs.declared.token.Punctuator.TheVariants as mark
use Rattle.js_tree.specs.declared.token.TokenForm.{TokenForm}
use Rattle.js_tree.specs.declared.token.TokenForm.TheVariants as form
use Rattle.js_tree.specs.declared.token.Token.{Token}
use Rattle.js_tree.specs.Count.{in_expr, in_maybe, in_declarators, in_stmt}
use Rattle.simple_scripts.specs.SimpleScripts.{is_simple_init, is_simple_declarator, is_simple_form, is_simple_statement, is_short, sum_in}
use Rattle.simple_scripts.proofs.Folds.{in_stmt-var}
use Rattle.js_grammar.specs.Rest.{Reading, ◌>>=◌, ◌>>◌, give, sees_second, part, finish_stmt, expect, repeat, place_of}
use Rattle.js_grammar.specs.Rest as R
use Rattle.js_grammar.specs.Marks
use Rattle.js_grammar.specs.Functions as F
use Rattle.js_grammar.specs.Functions.{Grammar, declared_name}
use Rattle.js_grammar.specs.Primary as P
use Rattle.js_grammar.specs.Expressions as E
use Rattle.js_grammar.specs.Ends as N
use Rattle.js_grammar.specs.Declarators as D
use Rattle.js_grammar.specs.Blocks as B
use Rattle.js_grammar.specs.Statements as S
use Rattle.script_reader.proofs.Claims.{token_weight, Ends, bind, any, past, weaker, gives, refuses, misses, here_still, sees_still, look, chooses, bars, takes, takes_form, opens, allowed, finishes_stmt, repeats}
use Rattle.script_reader.proofs.SumNodes.{Costs, short_few, short_sum}
use Rattle.script_reader.proofs.FewInExpressions.{Few, expects, later_still}

-- ---- declarators

-- of a declarator: its initialiser has a node more than tokens for each twenty
abbrev Inits : ℕ → Declarator → ℕ → Type 0
Inits w d v = is_simple_init d.init ≡ true → 21 * in_maybe d.init + 20 * v ≤ 20 * w + 39

abbrev Lists : ℕ → List Declarator → List Declarator → ℕ → Type 0
Lists w ds all v =
    list_all is_simple_declarator all ≡ true → (list_all is_simple_declarator ds ≡ true) × (21 * in_declarators all + 20 * v ≤ 21 * in_declarators ds + 20 * w)

-- of a statement: where it is simple, it has at most twenty nodes for tokens of weight 21
pub record StmtCosts (w : ℕ) (t : Stmt) (v : ℕ) : Type 0 where
  pub cost : is_simple_statement t ≡ true → 21 * in_stmt t + 20 * v ≤ 20 * w

init_costs : (w v u : ℕ) (x : Expr) → v + 1 ≤ w → Costs v x u → is_short (sum_in x) ≡ true → 21 * in_expr x + 20 * u ≤ 20 * w + 39
init_costs w v u x le c short = omega (arith, le, c.1 (short_sum (sum_in x) short), short_few x c.0 short)

names_few : {w : ℕ} → Ends w declared_name (λ _ v. v + 1 ≤ w)
unfolding declared_name
names_few {w = w} = look here_still (λ at. bind {f = λ text. R.unless at (option_or (Marks.barred text) (Marks.form_name text)) (give (record { at = at; text = text }))} (λ _ v. v + 1 ≤ w) (expects Marks.identifier) (λ text v le. bars at (option_or (Marks.barred text) (Marks.form_name text)) (gives (record { at = at; text = text }) le)))

one_more : (ds : List Declarator) (d : Declarator) → in_declarators (ds ++ (d ∷ [])) ≡ in_declarators ds + in_maybe d.init
one_more ds d = sum-map (λ (d : Declarator). in_maybe d.init) (ds ++ (d ∷ [])) ∙ sum_by_push (λ (d : Declarator). in_maybe d.init) ds d ∙ ap (λ n. n + in_maybe d.init) (sym (sum-map (λ (d : Declarator). in_maybe d.init) ds))

list_more : (w v u z y : ℕ) (ds all : List Declarator) (d : Declarator) → v + 1 ≤ w → u + 1 ≤ v → Inits u d z → Lists z (ds ++ (d ∷ [])) all y → Lists w ds all y
list_more w v u z y ds all d le less init h simple =
    let g = h simple in
    let split = and_parts (list_all is_simple_declarator ds) (list_all is_simple_declarator (d ∷ [])) (sym (list_all-append is_simple_declarator ds (d ∷ [])) ∙ g.0) in
    let one = and_parts (is_simple_declarator d) true split.1 in
    let inner = and_parts _ (is_simple_init d.init) one.0 in
    (split.0, omega (arith, le, less, init inner.1, g.1, one_more ds d))

ends_few : {w : ℕ} (continues : Option Token → TokenForm → Bool) → Ends w (N.ends continues) (λ _ v. v ≤ w)
unfolding N.ends
ends_few {w = w} continues =
    takes Marks.semicolon (λ a v le. gives a (omega (arith, le)))
    (record { at = λ s e. allowed s tt (Syntax (place_of s.tokens s.end)) (N.may_end (continues s.last) s.tokens) (λ _ v. v ≤ w) e (omega arith) })

-- ---- statements that are not simple

other : {w v : ℕ} (at : Place) (f : StmtForm) (l : StmtForm-F StmtForm Case Catch Finally Stmt) → out-StmtForm f ≡ l → is_simple_form l ≡ false → Ends v (finish_stmt at f) (StmtCosts w)
other at f l is nothing = finishes_stmt at f (record { cost = λ simple. absurd (both_ways (is_simple_form l) nothing (ap (λ k. is_simple_form k) (sym is) ∙ simple)) })

module _ (g : Grammar) (few : Few g) where
  -- ---- `var`

  initialiser_few : (allows_in : Bool) (name : Name) (w : ℕ) → Ends w (D.initialiser g allows_in name) (λ d v. Inits w d.0 v)
  initialiser_few allows_in name w =
      takes Marks.equals (λ _ v le. look here_still (λ at. bind (Costs v) (few.assignment allows_in v) (λ x u c. gives (record { at = name.at; name = name.text; init = Some x }, at) (λ short. init_costs w v u x le c short)))) (gives _ (λ _. omega arith))

  declarators_keep : (allows_in : Bool) (m : List Declarator → Reading (List Declarator)) → ((ds : List Declarator) (w : ℕ) → Ends w (m ds) (Lists w ds))
      → (ds : List Declarator) (w : ℕ) → Ends w (D.more_declarators g allows_in m ds) (Lists w ds)
  declarators_keep allows_in m again ds w =
      takes Marks.comma (λ _ v le. bind (λ _ u. u + 1 ≤ v) names_few (λ name u less. bind (λ d z. Inits u d.0 z) (initialiser_few allows_in name u) (λ d z init.
      weaker (Lists z (ds ++ (d.0 ∷ []))) (λ all y h. list_more w v u z y ds all d.0 le less init h) (again (ds ++ (d.0 ∷ [])) z))))
      (gives ds (λ simple. (simple, omega arith)))

  declarators_few : (allows_in : Bool) (first : Declarator) (w : ℕ) → Ends w (D.declarators_behind g allows_in first) (Lists w (first ∷ []))
  unfolding D.declarators_behind
  declarators_few allows_in first w = repeats Lists (declarators_keep allows_in) (first ∷ []) w

  var_costs : (w v u z y x : ℕ) (at : Place) (first : Declarator) (ds : List Declarator) → v + 3 ≤ w → u + 1 ≤ v → Inits u first z → Lists z (first ∷ []) ds y → x ≤ y → StmtCosts w (record { at = at; form = s.Var ds }) x
  var_costs w v u z y x at first ds heavy name init list le = record {
    cost = λ simple.
        let all : list_all is_simple_declarator ds ≡ true = ap (λ l. is_simple_form l) (sym (s.outs-Var ds)) ∙ simple in
        let h = list all in
        let inner = and_parts _ (is_simple_init first.init) (and_parts (is_simple_declarator first) true h.0).0 in
        let zero : in_declarators [] + in_maybe first.init ≡ in_maybe first.init = omega arith in
        let none : in_declarators (first ∷ []) ≡ in_maybe first.init = one_more [] first ∙ zero in
        let nodes = in_stmt-var at ds in
        omega (arith, heavy, name, init inner.1, h.1, le, none, nodes);
  }

  var_few : {w : ℕ} (v : ℕ) (at : Place) → v + 3 ≤ w → Ends v (S.var_behind g at) (StmtCosts w)
  unfolding S.var_behind
  var_few {w = w} v at heavy =
      bind (λ _ u. u + 1 ≤ v) names_few (λ name u less. bind (λ d z. Inits u d.0 z) (initialiser_few true name u) (λ first z init. bind (Lists z (first.0 ∷ [])) (declarators_few true first.0 z) (λ ds y list.
      bind (λ _ x. x ≤ y) (ends_few (S.continues_var g ds)) (λ _ x le. finishes_stmt at (s.Var ds) (var_costs w v u z y x at first.0 ds heavy less init list le)))))

  -- ---- other statements

  block_few : {w v : ℕ} (at : Place) → Ends v (S.block_behind g at) (StmtCosts w)
  block_few at = any (B.statements_behind_brace g) (λ body _. other at (s.Block body) (StmtForm-F.Block body) (s.outs-Block body) refl)

  if_few : {w v : ℕ} (at : Place) → Ends v (S.if_behind g at) (StmtCosts w)
  unfolding S.if_behind
  if_few at = any (S.head g) (λ test _. any (part g.statement) (λ yes_part _. any (S.else_part g) (λ no_part _. other at (s.If test yes_part no_part) (StmtForm-F.If test yes_part no_part) (s.outs-If test yes_part no_part) refl)))

  do_few : {w v : ℕ} (at : Place) → Ends v (S.do_behind g at) (StmtCosts w)
  unfolding S.do_behind
  do_few at = any (part g.statement) (λ body _. past (expect Marks.while_word) (λ _. any (S.head g) (λ test _. past (N.ends (λ last. N.continues_do)) (λ _. other at (s.DoWhile body test) (StmtForm-F.DoWhile body test) (s.outs-DoWhile body test) refl))))

  while_few : {w v : ℕ} (at : Place) → Ends v (S.while_behind g at) (StmtCosts w)
  unfolding S.while_behind
  while_few at = any (S.head g) (λ test _. any (part g.statement) (λ body _. other at (s.While test body) (StmtForm-F.While test body) (s.outs-While test body) refl))

  -- ---- `for`

  Heads : (Stmt → StmtForm) → ℕ → Type 0
  Heads whole v = (body : Stmt) → is_simple_form (out-StmtForm (whole body)) ≡ false

  for_parts_few : {v : ℕ} (from : ForStart) → Ends v (S.for_parts g from) Heads
  unfolding S.for_parts Heads
  for_parts_few from =
      past (expect Marks.semicolon) (λ _. any (S.expression_unless g Marks.semicolon) (λ test _. past (expect Marks.semicolon) (λ _. any (S.expression_unless g Marks.right_parenthesis) (λ step _. past (expect Marks.right_parenthesis) (λ _.
      gives (λ body. s.For from test step body) (λ body. ap (λ l. is_simple_form l) (s.outs-For from test step body)))))))

  for_in_few : {v : ℕ} (to : ForTarget) → Ends v (S.for_in g to) Heads
  unfolding S.for_in Heads
  for_in_few to = any (P.expression g) (λ object _. past (expect Marks.right_parenthesis) (λ _. gives (λ body. s.ForIn to object body) (λ body. ap (λ l. is_simple_form l) (s.outs-ForIn to object body))))

  for_var_few : {v : ℕ} → Ends v (S.for_var g) Heads
  unfolding S.for_var
  for_var_few =
      any declared_name (λ name _. takes Marks.in_word {f = λ _. S.for_in g (target.Var name.at name.text)} (λ _ v le. for_in_few (target.Var name.at name.text))
      (any (D.initialiser g false name) (λ first _. takes Marks.in_word (λ _ v le. refuses (Unsupported first.1 feature.ForInInitialiser)) (any (D.declarators_behind g false first.0) (λ ds _. for_parts_few (start.Var ds))))))

  for_expression_few : {v : ℕ} → Ends v (S.for_expression g) Heads
  unfolding S.for_expression
  for_expression_few =
      any (P.expression_by g (g.assignment false) false) (λ x _. takes Marks.in_word {f = λ _. E.if_target x (S.for_in g (target.Expr x))}
      (λ _ v le. chooses (E.is_target x) (for_in_few (target.Expr x)) (refuses (Syntax x.at))) (for_parts_few (start.Expr x)))

  for_header_few : {v : ℕ} → Ends v (S.for_header g) Heads
  for_header_few =
      look (sees_still Marks.semicolon) (λ without. takes Marks.var_word (λ _ v le. for_var_few) (chooses without (for_parts_few start.Nothing) for_expression_few))

  for_few : {w v : ℕ} (at : Place) → Ends v (S.for_behind g at) (StmtCosts w)
  unfolding S.for_behind Heads
  for_few at =
      past (expect Marks.left_parenthesis) (λ _. bind Heads (opens for_header_few) (λ whole _ heads. any (part g.statement) (λ body _.
      finishes_stmt at (whole body) (record { cost = λ simple. absurd (both_ways (is_simple_form (out-StmtForm (whole body))) (heads body) simple) }))))

  -- ---- jumps and the rest

  label_few : {A : Type 0} {v : ℕ} {Q : A → ℕ → Type 0} (at : Place) (name : List ℕ) → Ends v (S.label g at name) Q
  label_few at name = bars at (Marks.barred name) (refuses (Unsupported at feature.Label))

  jump_few : {w v : ℕ} (at : Place) (f : StmtForm) (l : StmtForm-F StmtForm Case Catch Finally Stmt) → out-StmtForm f ≡ l → is_simple_form l ≡ false → Ends v (S.jump_behind g f at) (StmtCosts w)
  jump_few at f l is nothing =
      any N.line_ends (λ ended _. look here_still (λ name_at. chooses ended (other at f l is nothing)
      (takes Marks.identifier {f = S.label g name_at} (λ name v le. label_few name_at name) (past (N.ends N.continues_expression) (λ _. other at f l is nothing)))))

  return_few : {w v : ℕ} (at : Place) → Ends v (S.return_behind g at) (StmtCosts w)
  unfolding S.return_behind
  return_few at =
      any N.line_ends (λ ended _. look (sees_still Marks.semicolon) (λ semicolon. look (sees_still Marks.right_brace) (λ brace. chooses ended (other at (s.Return None) (StmtForm-F.Return None) (s.outs-Return None) refl)
      (any (cond (semicolon || brace) (give None) (P.expression g >>= λ x. give (Some x))) (λ x _. past (N.ends N.continues_expression) (λ _. other at (s.Return x) (StmtForm-F.Return x) (s.outs-Return x) refl))))))

  switch_few : {w v : ℕ} (at : Place) → Ends v (S.switch_behind g at) (StmtCosts w)
  unfolding S.switch_behind
  switch_few at =
      any (S.head g) (λ x _. past (expect Marks.left_brace) (λ _. any (repeat (S.more_cases g) ([], false)) (λ cases _. other at (s.Switch x cases) (StmtForm-F.Switch x cases) (s.outs-Switch x cases) refl)))

  throw_few : {w v : ℕ} (at : Place) → Ends v (S.throw_behind g at) (StmtCosts w)
  unfolding S.throw_behind
  throw_few at =
      look later_still (λ later. any (cond later R.unexpected (P.expression g)) (λ x _. past (N.ends N.continues_expression) (λ _. other at (s.Throw x) (StmtForm-F.Throw x) (s.outs-Throw x) refl)))

  try_few : {w v : ℕ} (at : Place) → Ends v (S.try_behind g at) (StmtCosts w)
  unfolding S.try_behind
  try_few at =
      any (B.braced g) (λ body _. any (S.catch_part g) (λ handler _. any (S.finally_part g) (λ final _.
      chooses (is_some handler || is_some final) (other at (s.Try body handler final) (StmtForm-F.Try body handler final) (s.outs-Try body handler final) refl) misses)))

  expression_statement_few : {w v : ℕ} → Ends v (S.expression_statement g) (StmtCosts w)
  expression_statement_few =
      any (P.expression_by g (E.assignment g true) true) (λ x _. past (N.ends N.continues_expression) (λ _. other x.at (s.Eval x) (StmtForm-F.Eval x) (s.outs-Eval x) refl))

  label_or_few : {w v : ℕ} (at : Place) (colon : Bool) (name : Option (List ℕ)) → Ends v (S.label_or_expression g at colon name) (StmtCosts w)
  label_or_few at colon None = expression_statement_few
  label_or_few at colon (Some name) = chooses colon (label_few at name) expression_statement_few

  expression_here_few : {w v : ℕ} → Ends v (S.expression_here g) (StmtCosts w)
  unfolding S.expression_here
  expression_here_few = look here_still (λ at. any (sees_second Marks.colon) (λ colon _. any (R.look Marks.identifier) (λ name _. label_or_few at colon name)))

  abbrev is_var : Option S.Beginning → Bool
  is_var (Some S.Var) = true
  is_var _ = false

  var_weight : (t : TokenForm) → S.beginning t ≡ Some S.Var → token_weight t ≡ 3
  var_weight (form.Reserved keyword.Var) is = refl
  var_weight (form.Reserved keyword.If) is = absurd (both_ways false refl (ap is_var is))
  var_weight (form.Reserved keyword.Do) is = absurd (both_ways false refl (ap is_var is))
  var_weight (form.Reserved keyword.While) is = absurd (both_ways false refl (ap is_var is))
  var_weight (form.Reserved keyword.For) is = absurd (both_ways false refl (ap is_var is))
  var_weight (form.Reserved keyword.Continue) is = absurd (both_ways false refl (ap is_var is))
  var_weight (form.Reserved keyword.Break) is = absurd (both_ways false refl (ap is_var is))
  var_weight (form.Reserved keyword.Return) is = absurd (both_ways false refl (ap is_var is))
  var_weight (form.Reserved keyword.With) is = absurd (both_ways false refl (ap is_var is))
  var_weight (form.Reserved keyword.Switch) is = absurd (both_ways false refl (ap is_var is))
  var_weight (form.Reserved keyword.Throw) is = absurd (both_ways false refl (ap is_var is))
  var_weight (form.Reserved keyword.Try) is = absurd (both_ways false refl (ap is_var is))
  var_weight (form.Reserved keyword.Debugger) is = absurd (both_ways false refl (ap is_var is))
  var_weight (form.Reserved keyword.Function) is = absurd (both_ways false refl (ap is_var is))
  var_weight (form.Punctuator mark.LeftBrace) is = absurd (both_ways false refl (ap is_var is))
  var_weight (form.Punctuator mark.Semicolon) is = absurd (both_ways false refl (ap is_var is))
  var_weight _ is = absurd (both_ways false refl (ap is_var is))

  begun_few : (w v : ℕ) (at : Place) (first : S.Beginning) → (first ≡ S.Var → v + 3 ≤ w) → Ends v (S.begun g at first) (StmtCosts w)
  begun_few w v at S.Block heavy = block_few at
  begun_few w v at S.Empty heavy = other at s.Empty StmtForm-F.Empty s.outs-Empty refl
  begun_few w v at S.Var heavy = var_few v at (heavy refl)
  begun_few w v at S.If heavy = if_few at
  begun_few w v at S.Do heavy = do_few at
  begun_few w v at S.While heavy = while_few at
  begun_few w v at S.For heavy = for_few at
  begun_few w v at S.Continue heavy = jump_few at s.Continue StmtForm-F.Continue s.outs-Continue refl
  begun_few w v at S.Break heavy = jump_few at s.Break StmtForm-F.Break s.outs-Break refl
  begun_few w v at S.Return heavy = return_few at
  begun_few w v at S.With heavy = refuses (Unsupported at feature.With)
  begun_few w v at S.Switch heavy = switch_few at
  begun_few w v at S.Throw heavy = throw_few at
  begun_few w v at S.Try heavy = try_few at
  begun_few w v at S.Debugger heavy = refuses (Unsupported at feature.Debugger)
  begun_few w v at S.Function heavy = refuses (Unsupported at feature.FunctionInBlock)

  statement_few : (w : ℕ) → Ends w (S.statement g) (StmtCosts w)
  unfolding S.statement
  statement_few w =
      look here_still (λ at. takes_form S.beginning (λ first t v is heavy. begun_few w v at first (λ var. omega (arith, heavy, var_weight t (is ∙ ap (λ b. Some b) var)))) expression_here_few)

  pub element_few : (w : ℕ) → Ends w (S.element g) (StmtCosts w)
  unfolding S.element
  element_few w =
      look here_still (λ at. look (sees_still Marks.function_word) (λ declares. chooses declares
      (any (F.function_declaration g at) (λ f _. other at (s.FuncDecl f) (StmtForm-F.FuncDecl f) (s.outs-FuncDecl f) refl)) (statement_few w)))
