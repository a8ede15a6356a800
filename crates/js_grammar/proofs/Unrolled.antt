-- Rules that are repeated, one turn at a time, and the productions that refer to one another.
use Rattle.std.proofs.Common.{◌≡◌, Bool, false, refl, sym, arith}
use Rattle.js_value.specs.declared.place.Place.{Place}
use Rattle.js_grammar.specs.Rest.{Rest, Reading}
use Rattle.js_grammar.specs.Laws.{Unrolls}
use Rattle.js_grammar.specs.Functions as F
use Rattle.js_grammar.specs.Primary as P
use Rattle.js_grammar.specs.Expressions as E
use Rattle.js_grammar.specs.Declarators as D
use Rattle.js_grammar.specs.Blocks as B
use Rattle.js_grammar.specs.Statements as S
use Rattle.js_grammar.specs.Reading.{grammar, productions}
use Rattle.js_grammar.proofs.Alike.{Setting, Alike, RuleAlike, unrolls}
use Rattle.js_grammar.proofs.AlikeParts.{Alikes, further, more_parameters_too, more_elements_too, more_commas_too, more_host_arguments_too, more_items_too, more_fields_too, more_arguments_too, more_members_too}
use Rattle.js_grammar.proofs.AlikeStatements.{more_declarators_too, more_statements_too, more_cases_too}
use Rattle.js_grammar.proofs.Tied.{exact, same_answer, grammar_too, tied_pick, the_assignment, the_unary, the_member, the_statement, the_element}

-- a rule that does alike in every setting
pub unrolled : {A B : Type 0} (rule : (A → Reading B) → A → Reading B) → ((w : Setting) → RuleAlike w 0 rule rule) → Unrolls rule
unrolled rule h a s =
    let w = exact s.tokens s.limit s.allows_expr s.allows_stmt in
    let c = (unrolls w rule (h w) a).at 0 s (omega arith) (record { left = refl; within = omega arith; limit = refl; exprs = refl; stmts = refl }) in
    sym (same_answer s.tokens s.limit s.allows_expr s.allows_stmt 0 _ _ c)

behind_one : (w : Setting) → Alikes w 1 grammar grammar
behind_one w = further w (omega arith) (grammar_too w)

pub parameters_unroll : Unrolls F.more_parameters
parameters_unroll = unrolled F.more_parameters (λ w. more_parameters_too w)

pub elements_unroll : {closed : Reading Bool} → ((w : Setting) → Alike w false 0 closed closed) → Unrolls (F.more_elements grammar closed)
elements_unroll c = unrolled _ (λ w. more_elements_too w (c w) (grammar_too w))

pub commas_unroll : (allows_in : Bool) → Unrolls (P.more_commas grammar allows_in)
commas_unroll allows_in = unrolled _ (λ w. more_commas_too w allows_in (behind_one w))

pub host_arguments_unroll : (at : Place) → Unrolls (P.more_host_arguments grammar at)
host_arguments_unroll at = unrolled _ (λ w. more_host_arguments_too w at (grammar_too w))

pub items_unroll : Unrolls (P.more_elements grammar)
items_unroll = unrolled _ (λ w. more_items_too w (grammar_too w))

pub fields_unroll : Unrolls (P.more_fields grammar)
fields_unroll = unrolled _ (λ w. more_fields_too w (behind_one w))

pub arguments_unroll : Unrolls (P.more_arguments grammar)
arguments_unroll = unrolled _ (λ w. more_arguments_too w (grammar_too w))

pub members_unroll : (calls : Bool) → Unrolls (P.more_members grammar calls)
members_unroll calls = unrolled _ (λ w. more_members_too w calls (behind_one w))

pub declarators_unroll : (allows_in : Bool) → Unrolls (D.more_declarators grammar allows_in)
declarators_unroll allows_in = unrolled _ (λ w. more_declarators_too w allows_in (grammar_too w))

pub statements_unroll : {closed : Reading Bool} → ((w : Setting) → Alike w false 0 closed closed) → Unrolls (B.more_statements grammar closed)
statements_unroll c = unrolled _ (λ w. more_statements_too w (c w) (grammar_too w))

pub cases_unroll : Unrolls (S.more_cases grammar)
cases_unroll = unrolled _ (λ w. more_cases_too w (grammar_too w))

-- ---- the productions that others refer to

pub assignment_tied : (allows_in : Bool) (s : Rest) → grammar.assignment allows_in s ≡ E.assignment grammar allows_in s
unfolding productions
assignment_tied allows_in s = sym (tied_pick (the_assignment allows_in) s)

pub unary_tied : (s : Rest) → grammar.unary s ≡ E.unary grammar s
unfolding productions
unary_tied s = sym (tied_pick the_unary s)

pub member_tied : (s : Rest) → grammar.member s ≡ P.member grammar s
unfolding productions
member_tied s = sym (tied_pick the_member s)

pub statement_tied : (s : Rest) → grammar.statement s ≡ S.statement grammar s
unfolding productions
statement_tied s = sym (tied_pick the_statement s)

pub element_tied : (s : Rest) → grammar.element s ≡ S.element grammar s
unfolding productions
element_tied s = sym (tied_pick the_element s)
