-- Statements do alike where what they refer to does.
use Rattle.std.proofs.Common.{ℕ, suc, Bool, true, false, cond, List, [], ◌∷◌, refl, arith}
use Rattle.std.specs.Prelude.{◌||◌, Option, Some, None, is_some, Ok, Err}
use Rattle.js_value.specs.declared.place.Place.{Place}
use Rattle.js_tree.specs.declared.expression.Expr.{Expr}
use Rattle.js_tree.specs.declared.refusal.Feature.TheVariants as feature
use Rattle.js_tree.specs.declared.refusal.ReadRefused.TheVariants.{Syntax, Unsupported}
use Rattle.js_tree.specs.declared.statement.Declarator.{Declarator}
use Rattle.js_tree.specs.declared.statement.ForStart.{ForStart}
use Rattle.js_tree.specs.declared.statement.ForStart.TheVariants as start
use Rattle.js_tree.specs.declared.statement.ForTarget.{ForTarget}
use Rattle.js_tree.specs.declared.statement.ForTarget.TheVariants as target
use Rattle.js_tree.specs.declared.statement.Name.{Name}
use Rattle.js_tree.specs.declared.statement.StmtForm.{StmtForm}
use Rattle.js_tree.specs.declared.statement.StmtForm.TheVariants as s
use Rattle.js_tree.specs.declared.token.TokenForm.{TokenForm}
use Rattle.js_tree.specs.declared.token.Token.{Token}
use Rattle.js_grammar.specs.Rest.{Rest, Reading, look, of_first, place_of}
use Rattle.js_grammar.specs.Functions.{Grammar}
use Rattle.js_grammar.specs.Marks
use Rattle.js_grammar.specs.Ends as Ends
use Rattle.js_grammar.specs.Declarators as D
use Rattle.js_grammar.specs.Blocks as B
use Rattle.js_grammar.specs.Statements as S
use Rattle.js_grammar.proofs.Alike.{steps, Setting, Alike, At, relaxed, Corresponds, RuleAlike, later, taking, bind, bind_behind, gives, looks, refuses, misses, chooses, bars, takes, expects, opens, finishes_stmt, repeats, too, stays}
use Rattle.js_grammar.proofs.AlikeParts.{Alikes, further, one_further, places, sees_too, second_too, ends_too, declared_name_too, function_declaration_too, expression_by_too, expression_too, group_too}
use Rattle.js_grammar.proofs.AlikeExpressions.{lines_too, if_target_too, assignment_too}

module _ (w : Setting) where
  -- ---- where a statement ends

  may_stay : {A : Type 0} (a : A) (k : ℕ) (b : Bool) (r : Rest) → At w k r → Corresponds w k (cond b (Ok (a, r)) (Err (Syntax (place_of r.tokens r.end)))) (cond b (Ok (a, relaxed w r)) (Err (Syntax (place_of r.tokens r.end))))
  may_stay a k true r is = stays w k a r is
  may_stay a k false r is = too refl

  pub ends_with : {i : ℕ} (continues : Option Token → TokenForm → Bool) → Alike w false i (Ends.ends continues) (Ends.ends continues)
  unfolding Ends.ends
  ends_with continues = takes w Marks.semicolon (λ u. gives w u) (record { at = λ k r le is. may_stay tt k (Ends.may_end (continues r.last) r.tokens) r is })

  line_ends_too : {i : ℕ} → Alike w false i Ends.line_ends Ends.line_ends
  line_ends_too = bind w (lines_too w) (λ is_later. bind w (ends_too w) (λ ended. gives w (is_later || ended)))

  look_too : {A : Type 0} {i : ℕ} (want : TokenForm → Option A) → Alike w false i (look want) (look want)
  look_too want = looks w (λ s. of_first want s.tokens) (λ s. refl)

  label_too : {A : Type 0} {some : Bool} {i : ℕ} (g : Grammar) (at : Place) (name : List ℕ) → Alike w some i (S.label g {A = A} at name) (S.label g at name)
  label_too g at name = bars w at (Marks.barred name) (refuses w (Unsupported at feature.Label))

  jump_too : {i : ℕ} (g : Grammar) (jump : StmtForm) (at : Place) → Alike w false i (S.jump_behind g jump at) (S.jump_behind g jump at)
  jump_too g jump at = bind w line_ends_too (λ ended. bind w (places w) (λ name_at. chooses w ended (finishes_stmt w at jump)
      (takes w Marks.identifier (λ name. label_too g name_at name) (bind w (ends_with Ends.continues_expression) (λ _. finishes_stmt w at jump)))))

  module _ {g h : Grammar} where
    -- ---- declarators and lists of statements

    initialiser_too : {i : ℕ} (allows_in : Bool) (name : Name) → Alikes w i g h → Alike w false i (D.initialiser g allows_in name) (D.initialiser h allows_in name)
    initialiser_too allows_in name a = takes w Marks.equals (λ _. bind w (places w) (λ at. bind w (taking w ((one_further w a).assignment allows_in)) (λ x. gives w (record { at = name.at; name = name.text; init = Some x }, at)))) (gives w (record { at = name.at; name = name.text; init = None }, name.at))

    pub more_declarators_too : {i : ℕ} (allows_in : Bool) → Alikes w i g h → RuleAlike w i (D.more_declarators g allows_in) (D.more_declarators h allows_in)
    more_declarators_too allows_in a = record {
      at = λ k le m n again so_far. takes w Marks.comma (λ _. bind w (taking w (declared_name_too w)) (λ name.
          bind w (initialiser_too allows_in name (further w (omega (arith, le)) a)) (λ d. again _))) (gives w so_far);
    }

    declarators_too : {i : ℕ} (allows_in : Bool) (first : Declarator) → Alikes w i g h → Alike w false i (D.declarators_behind g allows_in first) (D.declarators_behind h allows_in first)
    unfolding D.declarators_behind
    declarators_too allows_in first a = repeats w (more_declarators_too allows_in a) (first ∷ [])

    pub more_statements_too : {i : ℕ} {closed : Reading Bool} → Alike w false i closed closed → Alikes w i g h → RuleAlike w i (B.more_statements g closed) (B.more_statements h closed)
    more_statements_too c a = record {
      at = λ k le m n again so_far. bind w (later w le c) (λ done. chooses w done (gives w so_far)
          (taking w (bind_behind w (opens w (further w le a).statement) (λ x. again _))));
    }

    statements_too : {i : ℕ} {closed : Reading Bool} → Alike w false i closed closed → Alikes w i g h → Alike w false i (B.statements g closed) (B.statements h closed)
    unfolding B.statements
    statements_too c a = repeats w (more_statements_too c a) []

    behind_brace_too : {i : ℕ} → Alikes w i g h → Alike w true i (B.statements_behind_brace g) (B.statements_behind_brace h)
    unfolding B.statements_behind_brace
    behind_brace_too a = bind w (statements_too (sees_too w Marks.right_brace) a) (λ body. bind_behind w (expects w Marks.right_brace) (λ _. gives w body))

    braced_too : {i : ℕ} → Alikes w i g h → Alike w false i (B.braced g) (B.braced h)
    braced_too a = bind w (taking w (expects w Marks.left_brace)) (λ _. taking w (behind_brace_too a))

    -- ---- statements

    block_too : {i : ℕ} (at : Place) → Alikes w i g h → Alike w false i (S.block_behind g at) (S.block_behind h at)
    block_too at a = bind w (taking w (behind_brace_too a)) (λ body. search steps)

    var_too : {i : ℕ} (at : Place) → Alikes w i g h → Alike w false i (S.var_behind g at) (S.var_behind h at)
    unfolding S.var_behind
    var_too at a = bind w (taking w (declared_name_too w)) (λ name. bind w (initialiser_too true name a) (λ first. bind w (declarators_too true first.0 a) (λ ds.
        bind w (ends_with (S.continues_var g ds)) (λ _. finishes_stmt w at (s.Var ds)))))

    expression_statement_too : {i : ℕ} → Alikes w (suc i) g h → Alike w true i (S.expression_statement g) (S.expression_statement h)
    expression_statement_too a = bind_behind w (expression_by_too w true (assignment_too w true a) a) (λ x. bind w (ends_with Ends.continues_expression) (λ _. search steps))

    label_or_too : {i : ℕ} (at : Place) (colon : Bool) (name : Option (List ℕ)) → Alikes w (suc i) g h → Alike w true i (S.label_or_expression g at colon name) (S.label_or_expression h at colon name)
    label_or_too at colon None a = expression_statement_too a
    label_or_too at colon (Some name) a = chooses w colon (label_too g at name) (expression_statement_too a)

    expression_here_too : {i : ℕ} → Alikes w (suc i) g h → Alike w true i (S.expression_here g) (S.expression_here h)
    unfolding S.expression_here
    expression_here_too a = bind w (places w) (λ at. bind w (second_too w Marks.colon) (λ colon. bind w (look_too Marks.identifier) (λ name. label_or_too at colon name a)))

    head_too : {i : ℕ} → Alikes w i g h → Alike w false i (S.head g) (S.head h)
    head_too a = bind w (taking w (expects w Marks.left_parenthesis)) (λ _. taking w (group_too w a))

    else_too : {i : ℕ} → Alikes w i g h → Alike w false i (S.else_part g) (S.else_part h)
    else_too a = takes w Marks.else_word (λ _. bind w (opens w (taking w (one_further w a).statement)) (λ x. search steps)) (search steps)

    if_too : {i : ℕ} (at : Place) → Alikes w i g h → Alike w false i (S.if_behind g at) (S.if_behind h at)
    unfolding S.if_behind
    if_too at a = bind w (head_too a) (λ test. bind w (opens w (taking w a.statement)) (λ then_part. bind w (else_too a) (λ other. search steps)))

    do_too : {i : ℕ} (at : Place) → Alikes w i g h → Alike w false i (S.do_behind g at) (S.do_behind h at)
    unfolding S.do_behind
    do_too at a = bind w (opens w (taking w a.statement)) (λ body. bind w (taking w (expects w Marks.while_word)) (λ _. bind w (head_too a) (λ test.
        bind w (ends_with (λ last. Ends.continues_do)) (λ _. search steps))))

    while_too : {i : ℕ} (at : Place) → Alikes w i g h → Alike w false i (S.while_behind g at) (S.while_behind h at)
    unfolding S.while_behind
    while_too at a = bind w (head_too a) (λ test. bind w (opens w (taking w a.statement)) (λ body. search steps))

    unless_too : {A : Type 0} {i : ℕ} (close : TokenForm → Option A) → Alikes w i g h → Alike w false i (S.expression_unless g close) (S.expression_unless h close)
    unless_too close a = bind w (sees_too w close) (λ closed. chooses w closed (gives w None) (bind w (taking w (expression_too w a)) (λ x. gives w (Some x))))

    for_parts_too : {i : ℕ} (from : ForStart) → Alikes w i g h → Alike w false i (S.for_parts g from) (S.for_parts h from)
    unfolding S.for_parts
    for_parts_too from a = bind w (taking w (expects w Marks.semicolon)) (λ _. bind w (unless_too Marks.semicolon a) (λ test. bind w (taking w (expects w Marks.semicolon)) (λ _.
        bind w (unless_too Marks.right_parenthesis a) (λ step. bind w (taking w (expects w Marks.right_parenthesis)) (λ _. search steps)))))

    for_in_too : {i : ℕ} (to : ForTarget) → Alikes w i g h → Alike w false i (S.for_in g to) (S.for_in h to)
    unfolding S.for_in
    for_in_too to a = bind w (taking w (expression_too w a)) (λ object. bind w (taking w (expects w Marks.right_parenthesis)) (λ _. search steps))

    for_var_too : {i : ℕ} → Alikes w i g h → Alike w false i (S.for_var g) (S.for_var h)
    unfolding S.for_var
    for_var_too a = bind w (taking w (declared_name_too w)) (λ name. takes w Marks.in_word (λ _. for_in_too (target.Var name.at name.text) (one_further w a))
        (bind w (initialiser_too false name a) (λ first. takes w Marks.in_word (λ _. search steps) (bind w (declarators_too false first.0 a) (λ ds. for_parts_too (start.Var ds) a)))))

    for_expression_too : {i : ℕ} → Alikes w i g h → Alike w false i (S.for_expression g) (S.for_expression h)
    unfolding S.for_expression
    for_expression_too a = bind w (taking w (expression_by_too w false (a.assignment false) (one_further w a))) (λ x.
        takes w Marks.in_word (λ _. if_target_too w x (for_in_too (target.Expr x) (one_further w a))) (for_parts_too (start.Expr x) a))

    header_too : {i : ℕ} → Alikes w i g h → Alike w false i (S.for_header g) (S.for_header h)
    header_too a = bind w (sees_too w Marks.semicolon) (λ without. takes w Marks.var_word (λ _. for_var_too (one_further w a))
        (chooses w without (for_parts_too start.Nothing a) (for_expression_too a)))

    for_too : {i : ℕ} (at : Place) → Alikes w i g h → Alike w false i (S.for_behind g at) (S.for_behind h at)
    unfolding S.for_behind
    for_too at a = bind w (taking w (expects w Marks.left_parenthesis)) (λ _. bind w (opens w (header_too a)) (λ whole. bind w (opens w (taking w a.statement)) (λ body. search steps)))

    return_too : {i : ℕ} (at : Place) → Alikes w i g h → Alike w false i (S.return_behind g at) (S.return_behind h at)
    unfolding S.return_behind
    return_too at a = bind w line_ends_too (λ ended. bind w (sees_too w Marks.semicolon) (λ semicolon. bind w (sees_too w Marks.right_brace) (λ brace.
        chooses w ended (finishes_stmt w at (s.Return None)) (bind w (chooses w (semicolon || brace) (gives w None) (bind w (taking w (expression_too w a)) (λ x. gives w (Some x)))) (λ x.
        bind w (ends_with Ends.continues_expression) (λ _. finishes_stmt w at (s.Return x)))))))

    case_too : {i : ℕ} (test : Option Expr) → Alikes w i g h → Alike w false i (S.case_behind g test) (S.case_behind h test)
    case_too test a = bind w (taking w (expects w Marks.colon)) (λ _. bind w (statements_too (looks w (λ r. S.starts_with_case_end g r.tokens) (λ r. refl)) a) (λ body. search steps))

    tested_case_too : {i : ℕ} → Alikes w i g h → Alike w false i (S.tested_case g) (S.tested_case h)
    tested_case_too a = bind w (taking w (expression_too w a)) (λ test. case_too (Some test) a)

    pub more_cases_too : {i : ℕ} → Alikes w i g h → RuleAlike w i (S.more_cases g) (S.more_cases h)
    more_cases_too a = record {
      at = λ k le m n again so_far.
          let b = further w (omega (arith, le)) a in
          takes w Marks.right_brace (λ _. gives w so_far.0) (takes w Marks.case_word (λ _. bind w (tested_case_too b) (λ c. again _))
          (chooses w so_far.1 (misses w) (taking w (bind_behind w (expects w Marks.default_word) (λ _. bind w (case_too None b) (λ c. again _))))));
    }

    switch_too : {i : ℕ} (at : Place) → Alikes w i g h → Alike w false i (S.switch_behind g at) (S.switch_behind h at)
    unfolding S.switch_behind
    switch_too at a = bind w (head_too a) (λ x. bind w (taking w (expects w Marks.left_brace)) (λ _. bind w (repeats w (more_cases_too a) ([], false)) (λ cases. search steps)))

    throw_too : {i : ℕ} (at : Place) → Alikes w i g h → Alike w false i (S.throw_behind g at) (S.throw_behind h at)
    unfolding S.throw_behind
    throw_too at a = bind w (lines_too w) (λ is_later. bind w (chooses w is_later (misses w) (taking w (expression_too w a))) (λ x. bind w (ends_with Ends.continues_expression) (λ _. finishes_stmt w at (s.Throw x))))

    catch_too : {i : ℕ} → Alikes w i g h → Alike w false i (S.catch_part g) (S.catch_part h)
    catch_too a = takes w Marks.catch_word (λ _. bind w (taking w (expects w Marks.left_parenthesis)) (λ _. bind w (opens w (bind w (taking w (declared_name_too w)) (λ name.
        bind w (taking w (expects w Marks.right_parenthesis)) (λ _. gives w name)))) (λ name. bind w (braced_too (one_further w a)) (λ body. search steps)))) (search steps)

    finally_too : {i : ℕ} → Alikes w i g h → Alike w false i (S.finally_part g) (S.finally_part h)
    finally_too a = takes w Marks.finally_word (λ _. bind w (braced_too (one_further w a)) (λ body. search steps)) (search steps)

    try_too : {i : ℕ} (at : Place) → Alikes w i g h → Alike w false i (S.try_behind g at) (S.try_behind h at)
    unfolding S.try_behind
    try_too at a = bind w (braced_too a) (λ body. bind w (catch_too a) (λ handler. bind w (finally_too a) (λ final.
        chooses w (is_some handler || is_some final) (finishes_stmt w at (s.Try body handler final)) (misses w))))

    begun_too : {i : ℕ} (at : Place) (first : S.Beginning) → Alikes w i g h → Alike w false i (S.begun g at first) (S.begun h at first)
    begun_too at S.Block a = block_too at a
    begun_too at S.Empty a = finishes_stmt w at s.Empty
    begun_too at S.Var a = var_too at a
    begun_too at S.If a = if_too at a
    begun_too at S.Do a = do_too at a
    begun_too at S.While a = while_too at a
    begun_too at S.For a = for_too at a
    begun_too at S.Continue a = jump_too g s.Continue at
    begun_too at S.Break a = jump_too g s.Break at
    begun_too at S.Return a = return_too at a
    begun_too at S.With a = refuses w (Unsupported at feature.With)
    begun_too at S.Switch a = switch_too at a
    begun_too at S.Throw a = throw_too at a
    begun_too at S.Try a = try_too at a
    begun_too at S.Debugger a = refuses w (Unsupported at feature.Debugger)
    begun_too at S.Function a = refuses w (Unsupported at feature.FunctionInBlock)

    pub statement_too : {i : ℕ} → Alikes w (suc i) g h → Alike w true i (S.statement g) (S.statement h)
    unfolding S.statement
    statement_too a = bind w (places w) (λ at. takes w S.beginning (λ first. begun_too at first a) (expression_here_too a))

    pub element_too : {i : ℕ} → Alikes w (suc i) g h → Alike w true i (S.element g) (S.element h)
    unfolding S.element
    element_too a = bind w (places w) (λ at. bind w (sees_too w Marks.function_word) (λ declares. chooses w declares
        (bind_behind w (function_declaration_too w at a) (λ f. finishes_stmt w at (s.FuncDecl f))) (statement_too a)))
