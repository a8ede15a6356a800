-- The laws of the productions.
use Rattle.std.proofs.Common.{◌≡◌, ℕ, ◌≤◌, Bool, true, false, List, refl, ap, arith}
use Rattle.std.specs.Prelude.{◌≢◌, nat_lt, Result, Ok, Err, IfOk}
use Rattle.std.proofs.lemmas.Bool.Decides.{nat_tests}
use Rattle.js_value.specs.declared.place.Place.{Place}
use Rattle.js_tree.specs.declared.refusal.ReadRefused.{ReadRefused}
use Rattle.js_tree.specs.declared.refusal.ReadRefused.TheVariants.{Nested}
use Rattle.js_tree.specs.declared.statement.Stmt.{Stmt}
use Rattle.js_tree.specs.declared.token.Tokens.{Tokens}
use Rattle.js_grammar.specs.Rest.{Rest}
use Rattle.js_grammar.specs.Heights.{is_within, is_stmt_within}
use Rattle.js_grammar.specs.Marks
use Rattle.js_grammar.specs.Statements as S
use Rattle.js_grammar.specs.Reading.{grammar, script_of, beginning, read, read_by}
use Rattle.js_grammar.specs.Laws.{Tied, Repeated, IsBehind, GoesOn, GoOn, LimitsNesting}
use Rattle.js_grammar.proofs.Alike.{Setting, Tests, too, only, looks, Corresponds}
use Rattle.js_grammar.proofs.AlikeParts.{elements_too, ends_too, sees_too}
use Rattle.js_grammar.proofs.MoreHeights.{more_within, more_stmt_within}
use Rattle.js_grammar.proofs.Tied.{exact, grammar_too, Pick, the_assignment, the_unary, the_member, the_statement, the_element}
use Rattle.js_grammar.proofs.Unrolled as U

pub tied : Tied
tied = record { assignment = U.assignment_tied; unary = U.unary_tied; member = U.member_tied; statement = U.statement_tied; element = U.element_tied }

pub repeated : Repeated
repeated = record {
  parameters = U.parameters_unroll;
  elements_to_brace = U.elements_unroll (λ w. sees_too w Marks.right_brace);
  elements_to_end = U.elements_unroll (λ w. ends_too w);
  commas = U.commas_unroll;
  host_arguments = U.host_arguments_unroll;
  items = U.items_unroll;
  fields = U.fields_unroll;
  arguments = U.arguments_unroll;
  members = U.members_unroll;
  declarators = U.declarators_unroll;
  statements = U.statements_unroll (λ w. sees_too w Marks.right_brace);
  case_statements = U.statements_unroll (λ w. looks w (λ r. S.starts_with_case_end grammar r.tokens) (λ r. refl));
  cases = U.cases_unroll;
}

-- ---- what is left

behind : {A : Type 0} (w : Setting) (r q : Result (A × Rest) ReadRefused) → Corresponds w 1 r q → IfOk r (λ x. IsBehind w.tokens x.1.tokens)
behind w (Ok x) q h = (h.place, h.from, h.here.left)
behind w (Err e) q h = tt

goes_on : {A : Type 0} (p : Pick A) → GoesOn (p.pick grammar)
goes_on p s =
    let w = exact s.tokens s.limit s.allows_expr s.allows_stmt in
    behind w _ _ ((p.alike w 0 grammar grammar (grammar_too w)).at 0 s (omega arith) (record { left = refl; within = omega arith; limit = refl; exprs = refl; stmts = refl }))

pub go_on : GoOn
go_on = record {
  assignment = λ allows_in. goes_on (the_assignment allows_in);
  unary = goes_on the_unary;
  member = goes_on the_member;
  statement = goes_on the_statement;
  element = goes_on the_element;
}

-- ---- limits

IsNested : ReadRefused → Type 0
IsNested e = (at : Place) × (e ≡ Nested at)

tests_of : (at : Place) (b c : Bool) → (b ≡ true → c ≡ true) → Tests IsNested at b c
unfolding IsNested
tests_of at true c h = h refl
tests_of at false true h = (at, refl)
tests_of at false false h = tt

less_more : (k limit greater : ℕ) → limit ≤ greater → nat_lt k limit ≡ true → nat_lt k greater ≡ true
less_more k limit greater le e = grind (arith, nat_tests)

two_limits : (tokens : Tokens) (limit greater : ℕ) → limit ≤ greater → Setting
two_limits tokens limit greater le = record {
  tokens = tokens.items;
  limit = limit;
  greater = greater;
  exprs = λ functions x. is_within functions limit x;
  more_exprs = λ functions x. is_within functions greater x;
  stmts = λ functions t. is_stmt_within functions limit t;
  more_stmts = λ functions t. is_stmt_within functions greater t;
  excused = IsNested;
  opens = λ at k. tests_of at (nat_lt k limit) (nat_lt k greater) (less_more k limit greater le);
  finishes = λ functions x. tests_of x.at (is_within functions limit x) (is_within functions greater x) (more_within functions limit greater x le);
  ends = λ functions t. tests_of t.at (is_stmt_within functions limit t) (is_stmt_within functions greater t) (more_stmt_within functions limit greater t le);
}

same_script : (tokens : Tokens) (limit greater : ℕ) (le : limit ≤ greater) (r q : Result (List Stmt × Rest) ReadRefused) → Corresponds (two_limits tokens limit greater le) 0 r q
    → ((at : Place) → script_of r ≢ Err (Nested at)) → script_of q ≡ script_of r
unfolding two_limits IsNested
same_script tokens limit greater le (Ok x) q h other = rw h.same refl
same_script tokens limit greater le (Err e) q (too same) other = rw same refl
same_script tokens limit greater le (Err e) q (only x) other = absurd (other x.0 (ap Err x.1))

pub limits_nesting : LimitsNesting
unfolding read read_by two_limits
limits_nesting tokens limit greater le other =
    let w = two_limits tokens limit greater le in
    let s : Rest = beginning (λ functions x. is_within functions limit x) (λ functions t. is_stmt_within functions limit t) tokens limit in
    same_script tokens limit greater le _ _ ((elements_too w (ends_too w) (grammar_too w)).at 0 s (omega arith) (record { left = refl; within = omega arith; limit = refl; exprs = refl; stmts = refl })) other
