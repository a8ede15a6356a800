-- Statements (12).
use Rattle.std.specs.Prelude.{ℕ, ◌||◌, Bool, true, false, if◌then◌else◌, List, [], ◌∷◌, ◌++◌, Option, Some, None, Ok, is_some}
use Rattle.js_value.specs.declared.place.Place.{Place}
use Rattle.js_tree.specs.declared.expression.Expr.{Expr}
use Rattle.js_tree.specs.declared.refusal.Feature.TheVariants as feature
use Rattle.js_tree.specs.declared.statement.Case.{Case, roll-Case}
use Rattle.js_tree.specs.declared.statement.Catch.{Catch, roll-Catch}
use Rattle.js_tree.specs.declared.statement.Declarator.{Declarator}
use Rattle.js_tree.specs.declared.statement.Finally.{Finally, roll-Finally}
use Rattle.js_tree.specs.declared.statement.ForStart.{ForStart}
use Rattle.js_tree.specs.declared.statement.ForStart.TheVariants as start
use Rattle.js_tree.specs.declared.statement.ForTarget.{ForTarget}
use Rattle.js_tree.specs.declared.statement.ForTarget.TheVariants as target
use Rattle.js_tree.specs.declared.statement.Stmt.{Stmt}
use Rattle.js_tree.specs.declared.statement.StmtForm.{StmtForm}
use Rattle.js_tree.specs.declared.statement.StmtForm.TheVariants as s
use Rattle.js_tree.specs.declared.token.Keyword.TheVariants as word
use Rattle.js_tree.specs.declared.token.Punctuator.TheVariants as mark
use Rattle.js_tree.specs.declared.token.TokenForm.{TokenForm}
use Rattle.js_tree.specs.declared.token.TokenForm.TheVariants as form
use Rattle.js_tree.specs.declared.token.Token.{Token}
use Rattle.js_grammar.specs.Rest.{Reading, ◌>>=◌, ◌>>◌, give, here, look, sees, sees_second, next, expect, unexpected, unless, unsupported}
use Rattle.js_grammar.specs.Rest.{on_later_line, repeat, part, finish_stmt}
use Rattle.js_grammar.specs.Marks
use Rattle.js_grammar.specs.Functions.{Grammar, declared_name, function_declaration}
use Rattle.js_grammar.specs.Expressions.{assignment, if_target}
use Rattle.js_grammar.specs.Primary.{expression, expression_by, group_behind}
use Rattle.js_grammar.specs.Ends.{ends, continues_expression, continues_declared, continues_do, line_ends}
use Rattle.js_grammar.specs.Declarators.{initialiser, declarators_behind}
use Rattle.js_grammar.specs.Blocks.{statements, statements_behind_brace, braced}

-- The statements that begin with a token of their own, among them the empty one (12.3).
pub data Beginning : Type 0 where
  Block Empty Var If Do While For Continue Break Return With Switch Throw Try Debugger Function : Beginning

abbrev pub beginning : TokenForm → Option Beginning
beginning (form.Punctuator mark.LeftBrace) = Some Block
beginning (form.Punctuator mark.Semicolon) = Some Empty
beginning (form.Reserved word.Var) = Some Var
beginning (form.Reserved word.If) = Some If
beginning (form.Reserved word.Do) = Some Do
beginning (form.Reserved word.While) = Some While
beginning (form.Reserved word.For) = Some For
beginning (form.Reserved word.Continue) = Some Continue
beginning (form.Reserved word.Break) = Some Break
beginning (form.Reserved word.Return) = Some Return
beginning (form.Reserved word.With) = Some With
beginning (form.Reserved word.Switch) = Some Switch
beginning (form.Reserved word.Throw) = Some Throw
beginning (form.Reserved word.Try) = Some Try
beginning (form.Reserved word.Debugger) = Some Debugger
beginning (form.Reserved word.Function) = Some Function
beginning _ = None

module _ (g : Grammar) where
  -- ---- 12.1

  abbrev pub block_behind : Place → Reading Stmt
  block_behind at = do
    body ← statements_behind_brace g
    finish_stmt at (s.Block body)

  -- ---- 12.2

  abbrev pub last_has_init : List Declarator → Bool
  last_has_init [] = false
  last_has_init (d ∷ []) = is_some d.init
  last_has_init (d ∷ more ∷ ds) = last_has_init (more ∷ ds)

  abbrev pub continues_var : List Declarator → Option Token → TokenForm → Bool
  continues_var ds last t = if last_has_init ds then continues_expression last t else continues_declared t

  unfoldable pub var_behind : Place → Reading Stmt
  var_behind at = do
    name ← declared_name
    first ← initialiser g true name
    ds ← declarators_behind g true first.0
    ends (continues_var ds)
    finish_stmt at (s.Var ds)

  -- ---- 12.4, and the labels of 12.12, which aren't supported

  abbrev pub expression_statement : Reading Stmt
  expression_statement = do
    x ← expression_by g (assignment g true) true
    ends continues_expression
    finish_stmt x.at (s.Eval x)

  abbrev pub label : {A : Type 0} → Place → List ℕ → Reading A
  label at name = unless at (Marks.barred name) (unsupported at feature.Label)

  abbrev pub label_or_expression : Place → Bool → Option (List ℕ) → Reading Stmt
  label_or_expression at colon None = expression_statement
  label_or_expression at colon (Some name) = if colon then label at name else expression_statement

  unfoldable pub expression_here : Reading Stmt
  expression_here = do
    at ← here
    colon ← sees_second Marks.colon
    name ← look Marks.identifier
    label_or_expression at colon name

  -- ---- 12.5

  -- an expression in parentheses
  abbrev pub head : Reading Expr
  head = expect Marks.left_parenthesis >> group_behind g

  abbrev pub else_part : Reading (Option Stmt)
  else_part = next Marks.else_word (λ _. do
    x ← part g.statement
    give (Some x)) (give None)

  unfoldable pub if_behind : Place → Reading Stmt
  if_behind at = do
    test ← head
    then_part ← part g.statement
    other ← else_part
    finish_stmt at (s.If test then_part other)

  -- ---- 12.6

  -- 12.6.1
  unfoldable pub do_behind : Place → Reading Stmt
  do_behind at = do
    body ← part g.statement
    expect Marks.while_word
    test ← head
    ends (λ last. continues_do)
    finish_stmt at (s.DoWhile body test)

  -- 12.6.2
  unfoldable pub while_behind : Place → Reading Stmt
  while_behind at = do
    test ← head
    body ← part g.statement
    finish_stmt at (s.While test body)

  abbrev pub expression_unless : {A : Type 0} → (TokenForm → Option A) → Reading (Option Expr)
  expression_unless close = do
    closed ← sees close
    if closed then give None else (do
      x ← expression g
      give (Some x))

  -- 12.6.3: the header of a `for`, behind its first part; its semicolons are never supplied
  unfoldable pub for_parts : ForStart → Reading (Stmt → StmtForm)
  for_parts from = do
    expect Marks.semicolon
    test ← expression_unless Marks.semicolon
    expect Marks.semicolon
    step ← expression_unless Marks.right_parenthesis
    expect Marks.right_parenthesis
    give (λ body. s.For from test step body)

  -- 12.6.4
  unfoldable pub for_in : ForTarget → Reading (Stmt → StmtForm)
  for_in to = do
    object ← expression g
    expect Marks.right_parenthesis
    give (λ body. s.ForIn to object body)

  -- 12.6.3, 12.6.4: an initialiser before `in` isn't supported
  unfoldable pub for_var : Reading (Stmt → StmtForm)
  for_var = do
    name ← declared_name
    next Marks.in_word (λ _. for_in (target.Var name.at name.text)) (do
      first ← initialiser g false name
      next Marks.in_word (λ _. unsupported first.1 feature.ForInInitialiser) (do
        ds ← declarators_behind g false first.0
        for_parts (start.Var ds)))

  unfoldable pub for_expression : Reading (Stmt → StmtForm)
  for_expression = do
    x ← expression_by g (g.assignment false) false
    next Marks.in_word (λ _. if_target x (for_in (target.Expr x))) (for_parts (start.Expr x))

  abbrev pub for_header : Reading (Stmt → StmtForm)
  for_header = do
    without ← sees Marks.semicolon
    next Marks.var_word (λ _. for_var) (if without then for_parts start.Nothing else for_expression)

  -- 12.6.3, 12.6.4
  unfoldable pub for_behind : Place → Reading Stmt
  for_behind at = do
    expect Marks.left_parenthesis
    whole ← part for_header
    body ← part g.statement
    finish_stmt at (whole body)

  -- ---- 12.7, 12.8: a line end ends them, and a label isn't supported

  abbrev pub jump_behind : StmtForm → Place → Reading Stmt
  jump_behind jump at = do
    ended ← line_ends
    name_at ← here
    if ended then finish_stmt at jump else next Marks.identifier (label name_at) (do
      ends continues_expression
      finish_stmt at jump)

  -- ---- 12.9: a line end ends it

  unfoldable pub return_behind : Place → Reading Stmt
  return_behind at = do
    ended ← line_ends
    semicolon ← sees Marks.semicolon
    brace ← sees Marks.right_brace
    if ended then finish_stmt at (s.Return None) else (do
      x ← if semicolon || brace then give None else (expression g >>= λ x. give (Some x))
      ends continues_expression
      finish_stmt at (s.Return x))

  -- ---- 12.11: at most one clause is the default

  abbrev pub ends_case : TokenForm → Bool
  ends_case t = is_some (Marks.case_word t) || is_some (Marks.default_word t) || is_some (Marks.right_brace t)

  abbrev pub starts_with_case_end : List Token → Bool
  starts_with_case_end [] = false
  starts_with_case_end (t ∷ ts) = ends_case t.form

  abbrev pub case_behind : Option Expr → Reading Case
  case_behind test = do
    expect Marks.colon
    body ← statements g (λ r. Ok (starts_with_case_end r.tokens, r))
    give (roll-Case (record { test = test; body = body }))

  abbrev pub tested_case : Reading Case
  tested_case = do
    test ← expression g
    case_behind (Some test)

  abbrev pub more_cases : (List Case × Bool → Reading (List Case)) → List Case × Bool → Reading (List Case)
  more_cases again so_far =
      next Marks.right_brace (λ _. give so_far.0) (
      next Marks.case_word (λ _. do
        c ← tested_case
        again (so_far.0 ++ (c ∷ []), so_far.1)) (
      if so_far.1 then unexpected else (do
        expect Marks.default_word
        c ← case_behind None
        again (so_far.0 ++ (c ∷ []), true))))

  unfoldable pub switch_behind : Place → Reading Stmt
  switch_behind at = do
    x ← head
    expect Marks.left_brace
    cases ← repeat more_cases ([], false)
    finish_stmt at (s.Switch x cases)

  -- ---- 12.13: no line end may follow the word

  unfoldable pub throw_behind : Place → Reading Stmt
  throw_behind at = do
    later ← on_later_line
    x ← if later then unexpected else expression g
    ends continues_expression
    finish_stmt at (s.Throw x)

  -- ---- 12.14

  abbrev pub catch_part : Reading (Option Catch)
  catch_part = next Marks.catch_word (λ _. do
    expect Marks.left_parenthesis
    name ← part (do
      name ← declared_name
      expect Marks.right_parenthesis
      give name)
    body ← braced g
    give (Some (roll-Catch (record { at = name.at; name = name.text; body = body })))) (give None)

  abbrev pub finally_part : Reading (Option Finally)
  finally_part = next Marks.finally_word (λ _. do
    body ← braced g
    give (Some (roll-Finally (record { body = body })))) (give None)

  unfoldable pub try_behind : Place → Reading Stmt
  try_behind at = do
    body ← braced g
    handler ← catch_part
    final ← finally_part
    if is_some handler || is_some final then finish_stmt at (s.Try body handler final) else unexpected

  -- ---- 12

  -- `with` (12.10) and `debugger` (12.15) aren't supported, nor is a function declared here
  abbrev pub begun : Place → Beginning → Reading Stmt
  begun at Block = block_behind at
  begun at Empty = finish_stmt at s.Empty
  begun at Var = var_behind at
  begun at If = if_behind at
  begun at Do = do_behind at
  begun at While = while_behind at
  begun at For = for_behind at
  begun at Continue = jump_behind s.Continue at
  begun at Break = jump_behind s.Break at
  begun at Return = return_behind at
  begun at With = unsupported at feature.With
  begun at Switch = switch_behind at
  begun at Throw = throw_behind at
  begun at Try = try_behind at
  begun at Debugger = unsupported at feature.Debugger
  begun at Function = unsupported at feature.FunctionInBlock

  unfoldable pub statement : Reading Stmt
  statement = do
    at ← here
    next beginning (λ first. begun at first) expression_here

  -- 14: a function declaration stands only here
  unfoldable pub element : Reading Stmt
  element = do
    at ← here
    declares ← sees Marks.function_word
    if declares then (do
      f ← function_declaration g at
      finish_stmt at (s.FuncDecl f)) else statement
