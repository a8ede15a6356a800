-- A simple script has few nodes for its text.
use Rattle.std.proofs.Common.{◌≡◌, ℕ, zero, suc, ◌+◌, ◌-◌, ◌*◌, ◌≤◌, Bool, true, false, cond, List, [], ◌∷◌, ◌++◌, length, map, refl, ap, sym, ◌∙◌, arith}
use Rattle.std.specs.Prelude.{Option, Some, None, Result, Ok, Err, sum, not, ◌&&◌}
use Rattle.std.specs.List.{list_all}
use Rattle.std.specs.Str.{chars, is_utf8}
use Rattle.std.proofs.lemmas.Bool.{and_parts, both_ways}
use Rattle.std.proofs.lemmas.List.Folds.{list_all-append}
use Rattle.std.proofs.lemmas.List.Sums.{sum_by_push, sum-map}
use Rattle.js_tree.specs.declared.refusal.ReadRefused.{ReadRefused}
use Rattle.js_tree.specs.declared.refusal.ReadRefused.TheVariants.{Unsupported}
use Rattle.js_tree.specs.declared.refusal.Feature.TheVariants as feature
use Rattle.js_tree.specs.declared.statement.Func.{Func}
use Rattle.js_tree.specs.declared.statement.Script.{Script}
use Rattle.js_tree.specs.declared.statement.Stmt.{Stmt}
use Rattle.js_tree.specs.declared.token.Token.{Token}
use Rattle.js_tree.specs.declared.token.Tokens.{Tokens}
use Rattle.js_tree.specs.Count.{in_stmt, in_stmts, in_func, nodes}
use Rattle.simple_scripts.specs.Simple.{reads_declared}
use Rattle.simple_scripts.specs.SimpleScripts.{is_simple_statement, is_simple}
use Rattle.js_tree.specs.Parts.{has_functions}
use Rattle.js_grammar.specs.Rest.{Rest, Reading, at_end, is_empty}
use Rattle.js_grammar.specs.Marks
use Rattle.js_grammar.specs.Functions as F
use Rattle.js_grammar.specs.Functions.{Grammar}
use Rattle.js_grammar.specs.Reading.{productions, at_the_end, chosen, grammar_on, grammar, script_of, read, read_by}
use Rattle.std.specs.Str.Lossy.{utf8_valid_len}
use Rattle.std.proofs.lemmas.Str.{IsUtf8-from_is_utf8}
use Rattle.js_tree.specs.Refusals.{place, syntax}
use Rattle.js_tree.specs.Early.{early_fault}
use Rattle.js_tree.specs.Lexing.{Lexed, lex_from, ended, lexed}
use Rattle.js_lex.proofs.Going.{width-chars}
use Rattle.js_lex.proofs.Scanning.{length_within_width}
use Rattle.js_grammar.specs.Checked.{unless_fault, checked, read_checked}
use Rattle.script_reader.specs.Reads.{read_tokens, reads}
use Rattle.script_reader.proofs.FewInTokens.{tokens_fit}
use Rattle.script_reader.proofs.Claims.{weight, After, Ends, bind, weaker, gives, refuses, misses, still, here_still, sees_still, look, chooses, opens, repeats}
use Rattle.script_reader.proofs.FewInExpressions.{Few, assignment_is_few, unary_is_few}
use Rattle.script_reader.proofs.FewInStatements.{StmtCosts, element_few}

-- ---- the productions tied together

record FewAll (g : Grammar) : Type 0 where
  expressions : Few g
  element : (w : ℕ) → Ends w g.element (StmtCosts w)

few_productions : (g : Grammar) → FewAll g → FewAll (productions g)
unfolding productions
few_productions g few = record {
  expressions = record { assignment = λ allows_in w. assignment_is_few g few.expressions allows_in w; unary = λ w. unary_is_few g few.expressions w };
  element = λ w. element_few g few.expressions w;
}

few_at_end : FewAll at_the_end
few_at_end = record { expressions = record { assignment = λ allows_in w. misses; unary = λ w. misses }; element = λ w. misses }

few_chosen : (by : Rest → Grammar) → ((s : Rest) → FewAll (by s)) → FewAll (chosen by)
few_chosen by few = record {
  expressions = record {
    assignment = λ allows_in w. record { at = λ s e. ((few s).expressions.assignment allows_in w).at s e };
    unary = λ w. record { at = λ s e. ((few s).expressions.unary w).at s e };
  };
  element = λ w. record { at = λ s e. ((few s).element w).at s e };
}

few_on : (ts : List Token) (skip : ℕ) → FewAll (grammar_on skip ts)
few_on [] skip = few_productions at_the_end few_at_end
few_on (t ∷ ts) (suc skip) = few_on ts skip
few_on (t ∷ ts) zero = few_productions (chosen (λ s. grammar_on (length ts - length s.tokens) ts)) (few_chosen _ (λ s. few_on ts (length ts - length s.tokens)))

few_grammar : FewAll grammar
unfolding grammar
few_grammar = few_chosen (λ s. grammar_on 0 s.tokens) (λ s. few_on s.tokens 0)

-- ---- the script

abbrev Bodies : ℕ → List Stmt × Bool → List Stmt → ℕ → Type 0
Bodies w so_far body v =
    list_all is_simple_statement body ≡ true → (list_all is_simple_statement so_far.0 ≡ true) × (21 * in_stmts body + 20 * v ≤ 21 * in_stmts so_far.0 + 20 * w)

one_more : (ss : List Stmt) (s : Stmt) → in_stmts (ss ++ (s ∷ [])) ≡ in_stmts ss + in_stmt s
one_more ss s = sum-map in_stmt (ss ++ (s ∷ [])) ∙ sum_by_push in_stmt ss s ∙ ap (λ n. n + in_stmt s) (sym (sum-map in_stmt ss))

body_more : (w v z : ℕ) (so_far : List Stmt) (s : Stmt) (leads : Bool) (body : List Stmt) → StmtCosts w s v → Bodies v (so_far ++ (s ∷ []), leads) body z → (list_all is_simple_statement body ≡ true)
    → (list_all is_simple_statement so_far ≡ true) × (21 * in_stmts body + 20 * z ≤ 21 * in_stmts so_far + 20 * w)
body_more w v z so_far s leads body c h simple =
    let g = h simple in
    let split = and_parts (list_all is_simple_statement so_far) (list_all is_simple_statement (s ∷ [])) (sym (list_all-append is_simple_statement so_far (s ∷ [])) ∙ g.0) in
    let one = and_parts (is_simple_statement s) true split.1 in
    (split.0, omega (arith, c.cost one.0, g.1, one_more so_far s))

element_behind_few : (leads : Bool) (w : ℕ) → Ends w (F.element_behind grammar leads) (λ x v. StmtCosts w x.0 v)
element_behind_few leads w =
    look here_still (λ at. look (sees_still Marks.string) (λ is_string. look (still (λ s. F.starts_with_use_strict s.tokens)) (λ is_strict. bind (StmtCosts w) (opens (few_grammar.element w)) (λ s v c.
    chooses (is_strict && F.is_directive leads is_string s) (refuses (Unsupported at feature.StrictCode)) (gives (s, F.is_directive leads is_string s) c)))))

elements_keep : (m : List Stmt × Bool → Reading (List Stmt)) → ((a : List Stmt × Bool) (w : ℕ) → Ends w (m a) (Bodies w a)) → (so_far : List Stmt × Bool) (w : ℕ) → Ends w (F.more_elements grammar at_end m so_far) (Bodies w so_far)
elements_keep m again so_far w =
    look (still (λ s. is_empty s.tokens)) (λ done. chooses done (gives so_far.0 (λ simple. (simple, omega arith)))
    (bind (λ x v. StmtCosts w x.0 v) (element_behind_few so_far.1 w) (λ x v c. weaker (Bodies v (so_far.0 ++ (x.0 ∷ []), x.1)) (λ body z h simple. body_more w v z so_far.0 x.0 x.1 body c h simple) (again (so_far.0 ++ (x.0 ∷ []), x.1) v))))

elements_few : (w : ℕ) → Ends w (F.elements grammar at_end) (Bodies w ([], true))
unfolding F.elements
elements_few w = repeats Bodies elements_keep ([], true) w

simple_body : (s : Script) → is_simple s ≡ true → (has_functions s.funcs ≡ false) × (list_all is_simple_statement s.body ≡ true)
unfolding is_simple
simple_body s h = parts s.directive (has_functions s.funcs) (list_all is_simple_statement s.body) (reads_declared s.body) h
  where
    parts : (a b c d : Bool) → (not a && not b && c && d) ≡ true → (b ≡ false) × (c ≡ true)
    parts false false true d h = (refl, refl)
    parts false false false d h = absurd (both_ways false refl h)
    parts true b c d h = absurd (both_ways false refl h)
    parts false true c d h = absurd (both_ways false refl h)

no_functions : (fs : List Func) → has_functions fs ≡ false → sum (map in_func fs) ≡ 0
no_functions [] h = refl
no_functions (f ∷ fs) h = absurd (both_ways true h refl)

pub script_few : (w : ℕ) (r : Result (List Stmt × Rest) ReadRefused) (s : Script) → After r (Bodies w ([], true)) → script_of r ≡ Ok s → is_simple s ≡ true → 21 * nodes s ≤ 20 * w
script_few w (Err e) s h is simple = absurd (cc)
script_few w (Ok x) s h is simple =
    let same : record { directive = false; body = x.0; funcs = x.1.functions } ≡ s = cc in
    let body : x.0 ≡ s.body = ap (λ (t : Script). t.body) same in
    let parts = simple_body s simple in
    let few = h (ap (list_all is_simple_statement) body ∙ parts.1) in
    let none = no_functions s.funcs parts.0 in
    omega (arith, few.1, none, ap in_stmts body)

pub read_few : (tokens : Tokens) (limit : ℕ) (s : Script) → read tokens limit ≡ Ok s → is_simple s ≡ true → 21 * nodes s ≤ 20 * weight tokens.items
unfolding read read_by
read_few tokens limit s is simple = script_few (weight tokens.items) _ s ((elements_few (weight tokens.items)).at _ refl) is simple

-- ---- the text

without : (s t : Script) (o : Option ReadRefused) → unless_fault t o ≡ Ok s → t ≡ s
without s t None is = cc
without s t (Some e) is = absurd (no_script s e is)
  where
    no_script : (s : Script) (e : ReadRefused) → Err e ≡ Ok s → ⊥
    no_script s e is = cc

unchecked_from : (r : Result Script ReadRefused) (s : Script) → checked r ≡ Ok s → r ≡ Ok s
unchecked_from (Err e) s is = is
unchecked_from (Ok t) s is = ap Ok (without s t (early_fault t) is)

unchecked : (tokens : Tokens) (limit : ℕ) (s : Script) → read_checked tokens limit ≡ Ok s → read tokens limit ≡ Ok s
unfolding read_checked
unchecked tokens limit s is = unchecked_from (read tokens limit) s is

text_few : (text : List ℕ) (limit : ℕ) (s : Script) (b : Bool) → is_utf8 text ≡ b → read_tokens (cond b (ended (length text) (lex_from 0 false 0 (chars text))) (syntax (utf8_valid_len text))) limit ≡ Ok s → is_simple s ≡ true
    → 21 * nodes s ≤ 20 * length text
text_few text limit s false is read simple = absurd (cc)
text_few text limit s true is read simple = lexed_few (lex_from 0 false 0 (chars text)) refl read
  where
    lexed_few : (r : Lexed) → lex_from 0 false 0 (chars text) ≡ r → read_tokens (ended (length text) r) limit ≡ Ok s → 21 * nodes s ≤ 20 * length text
    lexed_few (Err e) lexes read = absurd (cc)
    lexed_few (Ok ts) lexes read =
        let few = read_few (record { items = ts; end = place (length text) }) limit s (unchecked _ limit s read) simple in
        omega (arith, few, tokens_fit (chars text) ts lexes, length_within_width (chars text), width-chars text (IsUtf8-from_is_utf8 text is))

pub few_nodes : (text : List ℕ) (limit : ℕ) (s : Script) → reads text limit ≡ Ok s → is_simple s ≡ true → 21 * nodes s ≤ 20 * length text
unfolding reads lexed
few_nodes text limit s read simple = text_few text limit s (is_utf8 text) refl read simple
