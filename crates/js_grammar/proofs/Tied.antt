-- The productions tied together are those of the tied ones, wherever they are used.
use Rattle.std.proofs.Common.{◌≡◌, ℕ, zero, suc, ◌+◌, ◌-◌, ◌<◌, ◌≤◌, Bool, true, false, List, [], ◌∷◌, length, drop, refl, ap, sym, ◌∙◌, subst, arith}
use Rattle.std.specs.Prelude.{nat_lt, Result, Ok, Err}
use Rattle.js_value.specs.declared.place.Place.{Place}
use Rattle.js_tree.specs.declared.expression.Expr.{Expr}
use Rattle.js_tree.specs.declared.refusal.ReadRefused.{ReadRefused}
use Rattle.js_tree.specs.declared.statement.Func.{Func}
use Rattle.js_tree.specs.declared.statement.Stmt.{Stmt}
use Rattle.js_tree.specs.declared.token.Token.{Token}
use Rattle.js_grammar.specs.Rest.{Rest, Reading}
use Rattle.js_grammar.specs.Functions.{Grammar}
use Rattle.js_grammar.specs.Reading.{productions, chosen, at_the_end, grammar_on, grammar}
use Rattle.js_grammar.proofs.Alike.{Setting, Tests, At, relaxed, too, only, Corresponds, Alike, over, skipped}
use Rattle.js_grammar.proofs.AlikeParts.{Alikes, member_too}
use Rattle.js_grammar.proofs.AlikeExpressions.{assignment_too, unary_too}
use Rattle.js_grammar.proofs.AlikeStatements.{statement_too, element_too}

module _ (w : Setting) where
  pub productions_too : {i : ℕ} {g h : Grammar} → Alikes w (suc i) g h → Alikes w i (productions g) (productions h)
  unfolding productions
  productions_too a = record {
    assignment = λ allows_in. assignment_too w allows_in a;
    unary = unary_too w a;
    member = member_too w a;
    statement = statement_too w a;
    element = element_too w a;
  }

-- one of the productions that others refer to
pub record Pick (A : Type 0) : Type 1 where
  pub pick : Grammar → Reading A
  pub by_rest : (by : Rest → Grammar) (s : Rest) → pick (chosen by) s ≡ pick (by s) s
  pub alike : (w : Setting) (i : ℕ) (g h : Grammar) → Alikes w i g h → Alike w true i (pick g) (pick h)

abbrev pub the_assignment : Bool → Pick Expr
the_assignment allows_in = record { pick = λ g. g.assignment allows_in; by_rest = λ by s. refl; alike = λ w i g h a. a.assignment allows_in }

abbrev pub the_unary : Pick Expr
the_unary = record { pick = λ g. g.unary; by_rest = λ by s. refl; alike = λ w i g h a. a.unary }

abbrev pub the_member : Pick Expr
the_member = record { pick = λ g. g.member; by_rest = λ by s. refl; alike = λ w i g h a. a.member }

abbrev pub the_statement : Pick Stmt
the_statement = record { pick = λ g. g.statement; by_rest = λ by s. refl; alike = λ w i g h a. a.statement }

abbrev pub the_element : Pick Stmt
the_element = record { pick = λ g. g.element; by_rest = λ by s. refl; alike = λ w i g h a. a.element }

-- ---- the grammar behind the first of these tokens

abbrev behind_front : List Token → Grammar
behind_front [] = at_the_end
behind_front (t ∷ ts) = chosen (λ s. grammar_on (length ts - length s.tokens) ts)

on_front : (zs : List Token) → grammar_on 0 zs ≡ productions (behind_front zs)
on_front [] = refl
on_front (t ∷ ts) = refl

-- tokens that are skipped may as well be dropped
pub grammar_skips : (n : ℕ) (zs : List Token) → grammar_on n zs ≡ grammar_on 0 (drop n zs)
grammar_skips zero zs = refl
grammar_skips (suc n) [] = refl
grammar_skips (suc n) (t ∷ ts) = grammar_skips n ts

picked : {A : Type 0} (p : Pick A) (s : Rest) → p.pick grammar s ≡ p.pick (productions (behind_front s.tokens)) s
unfolding grammar
picked p s = p.by_rest (λ r. grammar_on 0 r.tokens) s ∙ ap (λ g. p.pick g s) (on_front s.tokens)

behind_front_is : {A : Type 0} (p : Pick A) (zs : List Token) (s : Rest) (j : ℕ) → s.tokens ≡ drop (suc j) zs → suc j ≤ length zs → p.pick (behind_front zs) s ≡ p.pick grammar s
unfolding grammar
behind_front_is p [] s j e within = absurd (omega (arith, within))
behind_front_is p (t ∷ ts) s j e within =
    let same : drop (length ts - length s.tokens) ts ≡ s.tokens = ap (λ xs. drop (length ts - length xs) ts) e ∙ skipped j ts (omega (arith, within)) ∙ sym e in
    p.by_rest (λ r. grammar_on (length ts - length r.tokens) ts) s
    ∙ ap (λ g. p.pick g s) (grammar_skips (length ts - length s.tokens) ts ∙ ap (grammar_on 0) same)
    ∙ sym (p.by_rest (λ r. grammar_on 0 r.tokens) s)

module _ (w : Setting) where
  front_alike : {A : Type 0} (p : Pick A) (k : ℕ) → Alikes w (suc k) grammar grammar → (s : Rest) → At w k s → Alike w true (suc k) (p.pick (behind_front s.tokens)) (p.pick grammar)
  front_alike p k a s is = record {
    at = λ j r le there.
        let o = over w j k s r le is there in
        rw (behind_front_is p s.tokens r (j - suc k) o.0 o.1) ((p.alike w (suc k) grammar grammar a).at j r le there);
  }

  fronts : (k : ℕ) → Alikes w (suc k) grammar grammar → (s : Rest) → At w k s → Alikes w (suc k) (behind_front s.tokens) grammar
  fronts k a s is = record {
    assignment = λ allows_in. front_alike (the_assignment allows_in) k a s is;
    unary = front_alike the_unary k a s is;
    member = front_alike the_member k a s is;
    statement = front_alike the_statement k a s is;
    element = front_alike the_element k a s is;
  }

  -- one production where what it refers to is known further on
  once : {A : Type 0} (p : Pick A) (k : ℕ) → Alikes w (suc k) grammar grammar → (s : Rest) → At w k s → Corresponds w (suc k) (p.pick grammar s) (p.pick (productions grammar) (relaxed w s))
  once p k a s is =
      rw (picked p s) ((p.alike w k (productions (behind_front s.tokens)) (productions grammar) (productions_too w (fronts k a s is))).at k s (omega arith) is)

  abbrev Steps : Type 1
  Steps = (A : Type 0) (p : Pick A) (k : ℕ) → Alikes w (suc k) grammar grammar → (s : Rest) → At w k s → Corresponds w (suc k) (p.pick grammar s) (p.pick grammar (relaxed w s))

  stepped : {A : Type 0} (i : ℕ) → Steps → ((k : ℕ) → i ≤ k → Alikes w (suc k) grammar grammar) → (p : Pick A) → Alike w true i (p.pick grammar) (p.pick grammar)
  stepped i step next p = record { at = λ k s le is. step _ p k (next k le) s is }

  -- where each production does alike once what it refers to does further on
  down : Steps → (n i : ℕ) → length w.tokens < i + n → Alikes w i grammar grammar
  down step zero i few = record {
    assignment = λ allows_in. beyond i few;
    unary = beyond i few;
    member = beyond i few;
    statement = beyond i few;
    element = beyond i few;
  }
    where
      beyond : {A : Type 0} {m n : Reading A} (i : ℕ) → length w.tokens < i + 0 → Alike w true i m n
      beyond i few = record { at = λ k s le is. absurd (omega (arith, few, le, is.within)) }
  down step (suc n) i few =
      let next : (k : ℕ) → i ≤ k → Alikes w (suc k) grammar grammar = λ k le. down step n (suc k) (omega (arith, few, le)) in
      record {
        assignment = λ allows_in. stepped i step next (the_assignment allows_in);
        unary = stepped i step next the_unary;
        member = stepped i step next the_member;
        statement = stepped i step next the_statement;
        element = stepped i step next the_element;
      }

-- ---- exactly the same

pub tests_same : (excused : ReadRefused → Type 0) (at : Place) (b : Bool) → Tests excused at b b
tests_same excused at true = refl
tests_same excused at false = tt

abbrev pub exact : List Token → ℕ → (List Func → Expr → Bool) → (List Func → Stmt → Bool) → Setting
exact zs limit p q = record {
  tokens = zs;
  limit = limit;
  greater = limit;
  exprs = p;
  more_exprs = p;
  stmts = q;
  more_stmts = q;
  excused = λ e. false ≡ true;
  opens = λ at k. tests_same (λ e. false ≡ true) at (nat_lt k limit);
  finishes = λ functions x. tests_same (λ e. false ≡ true) x.at (p functions x);
  ends = λ functions t. tests_same (λ e. false ≡ true) t.at (q functions t);
}

module _ (zs : List Token) (limit : ℕ) (p : List Func → Expr → Bool) (q : List Func → Stmt → Bool) where
  unchanged : (s : Rest) → s.limit ≡ limit → s.allows_expr ≡ p → s.allows_stmt ≡ q → record s { limit = limit; allows_expr = p; allows_stmt = q } ≡ s
  unchanged s l x t = rw (sym l, sym x, sym t) refl

  pub same_answer : {A : Type 0} (k : ℕ) (r a : Result (A × Rest) ReadRefused) → Corresponds (exact zs limit p q) k r a → a ≡ r
  same_answer k (Ok x) a h = h.same ∙ ap (λ t. Ok (x.0, t)) (unchanged x.1 h.here.limit h.here.exprs h.here.stmts)
  same_answer k (Err e) a (too same) = same
  same_answer k (Err e) a (only x) = absurd (cc)

  abbrev w : Setting
  w = exact zs limit p q

  tied_at : {A : Type 0} (pick : Pick A) (k : ℕ) → Alikes w (suc k) grammar grammar → (s : Rest) → At w k s → pick.pick (productions grammar) s ≡ pick.pick grammar s
  tied_at pick k a s is = sym (ap (pick.pick (productions grammar)) (unchanged s is.limit is.exprs is.stmts)) ∙ same_answer (suc k) _ _ (once w pick k a s is)

  steps_exact : Steps w
  steps_exact A pick k a s is =
      let r : relaxed w s ≡ s = unchanged s is.limit is.exprs is.stmts in
      let e : pick.pick (productions grammar) (relaxed w s) ≡ pick.pick grammar (relaxed w s) = ap (pick.pick (productions grammar)) r ∙ tied_at pick k a s is ∙ ap (pick.pick grammar) (sym r) in
      subst (Corresponds w (suc k) (pick.pick grammar s)) e (once w pick k a s is)

-- each production is what it is with the grammar in place of what it refers to
pub tied_pick : {A : Type 0} (p : Pick A) (s : Rest) → p.pick (productions grammar) s ≡ p.pick grammar s
tied_pick p s =
    let w = exact s.tokens s.limit s.allows_expr s.allows_stmt in
    let a : Alikes w 1 grammar grammar = down w (steps_exact s.tokens s.limit s.allows_expr s.allows_stmt) (suc (length s.tokens)) 1 (omega arith) in
    tied_at s.tokens s.limit s.allows_expr s.allows_stmt p 0 a s (record { left = refl; within = omega arith; limit = refl; exprs = refl; stmts = refl })

module _ (w : Setting) where
  steps_of : Steps w
  steps_of A p k a s is = subst (Corresponds w (suc k) (p.pick grammar s)) (tied_pick p (relaxed w s)) (once w p k a s is)

  -- the grammar does alike in every setting
  pub grammar_too : Alikes w 0 grammar grammar
  grammar_too = down w steps_of (suc (length w.tokens)) 0 (omega arith)
