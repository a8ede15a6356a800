-- From a tight production to looser ones: what is read as the one is read as the others, where no operator stands behind.
use Rattle.std.proofs.Common.{◌≡◌, ◌≤◌, ℕ, suc, ◌+◌, min, Bool, true, false, cond, List, ◌∷◌, ◌++◌, drop, refl, ap, sym, ◌∙◌, arith}
use Rattle.std.specs.Prelude.{◌&&◌, ◌||◌, Option, Some, None, is_some, Ok}
use Rattle.js_tree.specs.declared.expression.Expr.{Expr}
use Rattle.js_tree.specs.declared.expression.ExprForm.TheVariants as e
use Rattle.js_tree.specs.declared.token.TokenForm.{TokenForm}
use Rattle.js_grammar.specs.Climbing as climbing
use Rattle.js_grammar.specs.Expressions as E
use Rattle.js_grammar.specs.FunctionOrder.{Numbers}
use Rattle.js_grammar.specs.Marks
use Rattle.js_grammar.specs.Operators
use Rattle.js_grammar.specs.Primary as P
use Rattle.js_grammar.specs.Reading.{grammar}
use Rattle.js_grammar.specs.Rest.{Rest, Reading, ◌>>=◌, give, begins_line, on_later_line, next, of_first, repeat, finish}
use Rattle.js_grammar.proofs.Climbing.{climbs}
use Rattle.js_grammar.proofs.Laws.{repeated}
use Rattle.script_text.specs.Pieces.{Piece}
use Rattle.script_text.specs.Tokens.{Shape, shape, tokens_from}
use Rattle.reading_back.proofs.Claims.{World, Frame, Spot, rest_of, Read, anything, below, Flows, First, Look, IsExpr, Part}
use Rattle.reading_back.proofs.Marks.{begins_unary}
use Rattle.reading_back.proofs.Steps.{exactly, from, stays, chain, bind, bind_on, first_is, next_none}
use Rattle.reading_back.proofs.Joining.{first_none, no_operator}

-- ---- nothing goes on

either_false : (b : Bool) → (b && false) ≡ false
either_false true = refl
either_false false = refl

pub no_more_members : (calls : Bool) (again : Expr → Reading Expr) (x : Expr) (s : Rest) → of_first Marks.dot s.tokens ≡ None → of_first Marks.left_bracket s.tokens ≡ None
    → of_first Marks.left_parenthesis s.tokens ≡ None → P.more_members grammar calls again x s ≡ Ok (x, s)
unfolding next
no_more_members calls again x s d b p = rw (d, b, p, either_false calls) refl

pub no_more_commas : (allows_in : Bool) (again : Expr → Reading Expr) (x : Expr) (s : Rest) → of_first Marks.comma s.tokens ≡ None → P.more_commas grammar allows_in again x s ≡ Ok (x, s)
no_more_commas allows_in again x s c = next_none Marks.comma _ _ s c

-- what stands behind the operand of a postfix operator
abbrev pub behind_operand : Expr → Reading Expr
behind_operand x = do
  later ← on_later_line
  cond later (give x) (next Operators.postfix_operator (λ op. E.if_target x (finish x.at (e.Step op x))) (give x))

no_postfix : (x : Expr) (s : Rest) → of_first Operators.postfix_operator s.tokens ≡ None → behind_operand x s ≡ Ok (x, s)
no_postfix x s none = by (begins_line s.tokens)
  where
    by : (later : Bool) → cond later (give x) (next Operators.postfix_operator (λ op. E.if_target x (finish x.at (e.Step op x))) (give x)) s ≡ Ok (x, s)
    by true = refl
    by false = next_none Operators.postfix_operator _ _ s none

-- what stands behind the first part of an assignment
abbrev pub behind_target : Bool → Expr → Reading Expr
behind_target allows_in x = do
  later ← on_later_line
  stepped ← E.behind_postfix
  cond (later && stepped) (give x) (next Operators.assignment_operator (E.assigned grammar allows_in x) (give x))

no_assignment : (allows_in : Bool) (x : Expr) (s : Rest) → of_first Operators.assignment_operator s.tokens ≡ None → behind_target allows_in x s ≡ Ok (x, s)
no_assignment allows_in x s none = by (begins_line s.tokens && E.is_postfix s.last)
  where
    by : (later : Bool) → cond later (give x) (next Operators.assignment_operator (E.assigned grammar allows_in x) (give x)) s ≡ Ok (x, s)
    by true = refl
    by false = next_none Operators.assignment_operator _ _ s none

either_none : {A B : Type 0} (a : Option A) (b : Option B) → (is_some a || is_some b) ≡ false → (a ≡ None) × (b ≡ None)
either_none None None h = (refl, refl)
either_none None (Some b) h = absurd (cc)
either_none (Some a) b h = absurd (cc)

no_sign : (t : TokenForm) → begins_unary t ≡ false → (Operators.unary_operator t ≡ None) × (Operators.prefix_step t ≡ None)
unfolding begins_unary
no_sign t h = either_none (Operators.unary_operator t) (Operators.prefix_step t) h

unsigned : (s : Rest) → of_first Operators.unary_operator s.tokens ≡ None → of_first Operators.prefix_step s.tokens ≡ None → E.unary grammar s ≡ E.postfix grammar s
unfolding E.unary
unsigned s u p = next_none Operators.unary_operator _ _ s u ∙ next_none Operators.prefix_step _ _ s p

sign_free : {all : World} {pieces : List Piece} {look : Look} (first : First look pieces) → 15 ≤ look.level → (w : Frame all) (c : Spot) (line : Bool) (rest : List Shape)
    → E.unary grammar (rest_of w c (tokens_from line pieces ++ rest)) ≡ E.postfix grammar (rest_of w c (tokens_from line pieces ++ rest))
sign_free {pieces = pieces} first le w c line rest =
    let n = no_sign first.form (first.no_sign le) in
    let s = rest_of w c (shape first.form line ∷ first.more ++ rest) in
    ap (λ zs. E.unary grammar (rest_of w c (zs ++ rest))) (first.is line) ∙ unsigned s n.0 n.1 ∙ sym (ap (λ zs. E.postfix grammar (rest_of w c (zs ++ rest))) (first.is line))

-- ---- looser productions

module _ {all : World} {bound : ℕ} {pieces : List Piece} {numbers : Numbers} {e : Expr} where
  pub calls_of : Read all bound pieces numbers (IsExpr e) anything (P.operand grammar) give
      → Read all bound pieces numbers (IsExpr e) anything (P.left_hand_side grammar) (repeat (P.more_members grammar true))
  unfolding P.left_hand_side
  calls_of h = record { at = λ w c line rest nb ready fits. bind_on (repeat (P.more_members grammar true)) (h.at w c line rest nb ready tt) }

  pub members_of : Read all bound pieces numbers (IsExpr e) anything (P.operand grammar) give
      → Read all bound pieces numbers (IsExpr e) anything (P.member grammar) (repeat (P.more_members grammar false))
  unfolding P.member
  members_of h = record { at = λ w c line rest nb ready fits. bind_on (repeat (P.more_members grammar false)) (h.at w c line rest nb ready tt) }

  pub left_hand_side_of : (allows_in : Bool) (level : ℕ) → level ≤ 16 → Read all bound pieces numbers (IsExpr e) anything (P.left_hand_side grammar) (repeat (P.more_members grammar true))
      → Read all bound pieces numbers (IsExpr e) (below allows_in level) (P.left_hand_side grammar) give
  left_hand_side_of allows_in level le h = record {
    at = λ w c line rest nb ready fits.
        exactly (chain (h.at w c line rest nb ready tt) (λ x d is done.
        let s = rest_of w d rest in
        from (repeated.members true x s ∙ no_more_members true (repeat (P.more_members grammar true)) x s
        (first_is w Marks.dot d rest ∙ first_none Marks.dot allows_in level rest le (λ t q. q.dot) fits)
        (first_is w Marks.left_bracket d rest ∙ first_none Marks.left_bracket allows_in level rest le (λ t q. q.left_bracket) fits)
        (first_is w Marks.left_parenthesis d rest ∙ first_none Marks.left_parenthesis allows_in level rest le (λ t q. q.left_parenthesis) fits))
        (stays x give is done))) (omega arith);
  }

  pub postfix_of : (allows_in : Bool) → Read all bound pieces numbers (IsExpr e) anything (P.left_hand_side grammar) (repeat (P.more_members grammar true))
      → Read all bound pieces numbers (IsExpr e) (below allows_in 14) (E.postfix grammar) give
  unfolding E.postfix
  postfix_of allows_in h = record {
    at = λ w c line rest nb ready fits.
        exactly (bind ((left_hand_side_of allows_in 14 (omega arith) h).at w c line rest nb ready fits) (λ x d is done.
        from (no_postfix x (rest_of w d rest) (first_is w Operators.postfix_operator d rest ∙ first_none Operators.postfix_operator allows_in 14 rest (omega arith) (λ t q. q.postfix (omega arith)) fits))
        (stays x give is done))) (omega arith);
  }

  pub unary_of : {look : Look} (allows_in : Bool) (first : First look pieces) → 15 ≤ look.level → Read all bound pieces numbers (IsExpr e) (below allows_in 14) (E.postfix grammar) give
      → Read all bound pieces numbers (IsExpr e) (below allows_in 14) (E.unary grammar) give
  unary_of allows_in first le h = record { at = λ w c line rest nb ready fits. from (sign_free first le w c line rest) (h.at w c line rest nb ready fits) }

  pub climb_of : (allows_in : Bool) (level n : ℕ) → 13 ≤ level → Read all bound pieces numbers (IsExpr e) (below allows_in 14) (E.unary grammar) give
      → Read all bound pieces numbers (IsExpr e) (below allows_in (suc (min 13 level)))
      (E.unary grammar >>= climbing.rest (E.unary grammar) (drop n (climbing.levels allows_in))) (climbing.rest (E.unary grammar) (drop n (climbing.levels allows_in)))
  climb_of allows_in level n le h = record {
    at = λ w c line rest nb ready fits.
        exactly (bind_on (climbing.rest (E.unary grammar) (drop n (climbing.levels allows_in))) (h.at w c line rest nb ready (omega (arith, fits)))) (omega arith);
  }

  pub logical_or_of : (allows_in : Bool) (level : ℕ) → 4 ≤ level
      → Read all bound pieces numbers (IsExpr e) (below allows_in (suc (min 13 level))) (E.unary grammar >>= climbing.rest (E.unary grammar) (drop 0 (climbing.levels allows_in))) (climbing.rest (E.unary grammar) (drop 0 (climbing.levels allows_in)))
      → Read all bound pieces numbers (IsExpr e) (below allows_in 4) (E.logical_or grammar allows_in) give
  logical_or_of allows_in level le h = record {
    at = λ w c line rest nb ready fits.
        exactly (from (climbs.begins allows_in (rest_of w c (tokens_from line pieces ++ rest)))
        (chain (h.at w c line rest nb ready (omega (arith, fits, le))) (λ x d is done.
        from (climbs.ends allows_in 0 x (rest_of w d rest) (first_is w _ d rest ∙ no_operator allows_in 0 4 rest (omega arith) (omega arith) fits)) (stays {c = d} x give is done)))) (omega arith);
  }

  pub conditional_of : (allows_in : Bool) (level : ℕ) → 4 ≤ level
      → Read all bound pieces numbers (IsExpr e) (below allows_in (suc (min 13 level))) (E.unary grammar >>= climbing.rest (E.unary grammar) (drop 0 (climbing.levels allows_in))) (climbing.rest (E.unary grammar) (drop 0 (climbing.levels allows_in)))
      → Read all bound pieces numbers (IsExpr e) (below allows_in 3) (E.conditional grammar allows_in) give
  unfolding E.conditional
  conditional_of allows_in level le h = record {
    at = λ w c line rest nb ready fits.
        exactly (bind ((logical_or_of allows_in level le h).at w c line rest nb ready (omega (arith, fits))) (λ x d is done.
        from (next_none Marks.question _ _ (rest_of w d rest) (first_is w Marks.question d rest ∙ first_none Marks.question allows_in 3 rest (omega arith) (λ t q. q.question (omega arith)) fits))
        (stays {c = d} x give is done))) (omega arith);
  }

  pub looser : {level : ℕ} {m : Reading Expr} (allows_in : Bool) (other : ℕ) → other ≤ level → Read all bound pieces numbers (IsExpr e) (below allows_in level) m give → Read all bound pieces numbers (IsExpr e) (below allows_in other) m give
  looser allows_in other le h = record { at = λ w c line rest nb ready fits. h.at w c line rest nb ready (omega (arith, fits, le)) }

  pub assignment_of : (allows_in : Bool) → Read all bound pieces numbers (IsExpr e) (below allows_in 2) (E.conditional grammar allows_in) give
      → Read all bound pieces numbers (IsExpr e) (below allows_in 2) (E.assignment grammar allows_in) give
  unfolding E.assignment
  assignment_of allows_in h = record {
    at = λ w c line rest nb ready fits.
        exactly (bind (h.at w c line rest nb ready fits) (λ x d is done.
        from (no_assignment allows_in x (rest_of w d rest) (first_is w Operators.assignment_operator d rest ∙ first_none Operators.assignment_operator allows_in 2 rest (omega arith) (λ t q. q.assignment (omega arith)) fits))
        (stays x give is done))) (omega arith);
  }

  pub commas_of : (allows_in : Bool) → Read all bound pieces numbers (IsExpr e) (below allows_in 2) (E.assignment grammar allows_in) give
      → Read all bound pieces numbers (IsExpr e) (below allows_in 2) (P.expression_by grammar (E.assignment grammar allows_in) allows_in) (repeat (P.more_commas grammar allows_in))
  unfolding P.expression_by
  commas_of allows_in h = record { at = λ w c line rest nb ready fits. bind_on (repeat (P.more_commas grammar allows_in)) (h.at w c line rest nb ready fits) }

-- ---- what is read in one production is read in all looser ones

module _ {all : World} {look : Look} {allows_in : Bool} {pieces : List Piece} {numbers : Numbers} {e : Expr} (flows : Flows pieces) (first : First look pieces) (bound : ℕ) where
  pub from_operand : 15 ≤ look.level → Read all bound pieces numbers (IsExpr e) anything (P.operand grammar) give → Part all bound look allows_in pieces numbers e
  from_operand le o =
      let c : Read all bound pieces numbers (IsExpr e) anything (P.left_hand_side grammar) (repeat (P.more_members grammar true)) = calls_of o in
      let u : Read all bound pieces numbers (IsExpr e) (below allows_in 14) (E.unary grammar) give = unary_of allows_in first le (postfix_of allows_in c) in
      let k : ((n : ℕ) → n + 4 ≤ look.level → Read all bound pieces numbers (IsExpr e) (below allows_in (suc (min 13 look.level))) (E.unary grammar >>= climbing.rest (E.unary grammar) (drop n (climbing.levels allows_in))) (climbing.rest (E.unary grammar) (drop n (climbing.levels allows_in)))) = λ n l. climb_of allows_in look.level n (omega (arith, le)) u in
      let d : Read all bound pieces numbers (IsExpr e) (below allows_in 2) (E.conditional grammar allows_in) give = looser allows_in 2 (omega arith) (conditional_of allows_in look.level (omega (arith, le)) (k 0 (omega (arith, le)))) in
      let a : Read all bound pieces numbers (IsExpr e) (below allows_in 2) (E.assignment grammar allows_in) give = assignment_of allows_in d in
      record {
        flows = flows;
        first = first;
        operand = λ l. o;
        calls = λ l. c;
        members = λ l e. members_of o;
        unary = λ l. u;
        climb = k;
        conditional = λ l. d;
        assignment = λ l. a;
        commas = commas_of allows_in a;
      }

  pub from_calls : look.level ≡ 16 → Read all bound pieces numbers (IsExpr e) anything (P.left_hand_side grammar) (repeat (P.more_members grammar true)) → (look.calls ≡ false → Read all bound pieces numbers (IsExpr e) anything (P.member grammar) (repeat (P.more_members grammar false))) → Part all bound look allows_in pieces numbers e
  from_calls le c m =
      let u : Read all bound pieces numbers (IsExpr e) (below allows_in 14) (E.unary grammar) give = unary_of allows_in first (omega (arith, le)) (postfix_of allows_in c) in
      let k : ((n : ℕ) → n + 4 ≤ look.level → Read all bound pieces numbers (IsExpr e) (below allows_in (suc (min 13 look.level))) (E.unary grammar >>= climbing.rest (E.unary grammar) (drop n (climbing.levels allows_in))) (climbing.rest (E.unary grammar) (drop n (climbing.levels allows_in)))) = λ n l. climb_of allows_in look.level n (omega (arith, le)) u in
      let d : Read all bound pieces numbers (IsExpr e) (below allows_in 2) (E.conditional grammar allows_in) give = looser allows_in 2 (omega arith) (conditional_of allows_in look.level (omega (arith, le)) (k 0 (omega (arith, le)))) in
      let a : Read all bound pieces numbers (IsExpr e) (below allows_in 2) (E.assignment grammar allows_in) give = assignment_of allows_in d in
      record {
        flows = flows;
        first = first;
        operand = λ l. absurd (omega (arith, le, l));
        calls = λ l. c;
        members = λ l e. m e;
        unary = λ l. u;
        climb = k;
        conditional = λ l. d;
        assignment = λ l. a;
        commas = commas_of allows_in a;
      }

  pub from_postfix : look.level ≡ 15 → Read all bound pieces numbers (IsExpr e) (below allows_in 14) (E.postfix grammar) give → Part all bound look allows_in pieces numbers e
  from_postfix le p =
      let u : Read all bound pieces numbers (IsExpr e) (below allows_in 14) (E.unary grammar) give = unary_of allows_in first (omega (arith, le)) p in
      let k : ((n : ℕ) → n + 4 ≤ look.level → Read all bound pieces numbers (IsExpr e) (below allows_in (suc (min 13 look.level))) (E.unary grammar >>= climbing.rest (E.unary grammar) (drop n (climbing.levels allows_in))) (climbing.rest (E.unary grammar) (drop n (climbing.levels allows_in)))) = λ n l. climb_of allows_in look.level n (omega (arith, le)) u in
      let d : Read all bound pieces numbers (IsExpr e) (below allows_in 2) (E.conditional grammar allows_in) give = looser allows_in 2 (omega arith) (conditional_of allows_in look.level (omega (arith, le)) (k 0 (omega (arith, le)))) in
      let a : Read all bound pieces numbers (IsExpr e) (below allows_in 2) (E.assignment grammar allows_in) give = assignment_of allows_in d in
      record {
        flows = flows;
        first = first;
        operand = λ l. absurd (omega (arith, le, l));
        calls = λ l. absurd (omega (arith, le, l));
        members = λ l e. absurd (omega (arith, le, l));
        unary = λ l. u;
        climb = k;
        conditional = λ l. d;
        assignment = λ l. a;
        commas = commas_of allows_in a;
      }

  pub from_unary : look.level ≡ 14 → Read all bound pieces numbers (IsExpr e) (below allows_in 14) (E.unary grammar) give → Part all bound look allows_in pieces numbers e
  from_unary le u =
      let k : ((n : ℕ) → n + 4 ≤ look.level → Read all bound pieces numbers (IsExpr e) (below allows_in (suc (min 13 look.level))) (E.unary grammar >>= climbing.rest (E.unary grammar) (drop n (climbing.levels allows_in))) (climbing.rest (E.unary grammar) (drop n (climbing.levels allows_in)))) = λ n l. climb_of allows_in look.level n (omega (arith, le)) u in
      let d : Read all bound pieces numbers (IsExpr e) (below allows_in 2) (E.conditional grammar allows_in) give = looser allows_in 2 (omega arith) (conditional_of allows_in look.level (omega (arith, le)) (k 0 (omega (arith, le)))) in
      let a : Read all bound pieces numbers (IsExpr e) (below allows_in 2) (E.assignment grammar allows_in) give = assignment_of allows_in d in
      record {
        flows = flows;
        first = first;
        operand = λ l. absurd (omega (arith, le, l));
        calls = λ l. absurd (omega (arith, le, l));
        members = λ l e. absurd (omega (arith, le, l));
        unary = λ l. u;
        climb = k;
        conditional = λ l. d;
        assignment = λ l. a;
        commas = commas_of allows_in a;
      }

  pub from_climb : look.level ≤ 13 → 4 ≤ look.level → ((n : ℕ) → n + 4 ≤ look.level → Read all bound pieces numbers (IsExpr e) (below allows_in (suc (min 13 look.level))) (E.unary grammar >>= climbing.rest (E.unary grammar) (drop n (climbing.levels allows_in))) (climbing.rest (E.unary grammar) (drop n (climbing.levels allows_in)))) → Part all bound look allows_in pieces numbers e
  from_climb le at_least k =
      let d : Read all bound pieces numbers (IsExpr e) (below allows_in 2) (E.conditional grammar allows_in) give = looser allows_in 2 (omega arith) (conditional_of allows_in look.level at_least (k 0 (omega (arith, at_least)))) in
      let a : Read all bound pieces numbers (IsExpr e) (below allows_in 2) (E.assignment grammar allows_in) give = assignment_of allows_in d in
      record {
        flows = flows;
        first = first;
        operand = λ l. absurd (omega (arith, le, l));
        calls = λ l. absurd (omega (arith, le, l));
        members = λ l e. absurd (omega (arith, le, l));
        unary = λ l. absurd (omega (arith, le, l));
        climb = k;
        conditional = λ l. d;
        assignment = λ l. a;
        commas = commas_of allows_in a;
      }

  pub from_conditional : look.level ≤ 3 → Read all bound pieces numbers (IsExpr e) (below allows_in 2) (E.conditional grammar allows_in) give → Part all bound look allows_in pieces numbers e
  from_conditional le d =
      let a : Read all bound pieces numbers (IsExpr e) (below allows_in 2) (E.assignment grammar allows_in) give = assignment_of allows_in d in
      record {
        flows = flows;
        first = first;
        operand = λ l. absurd (omega (arith, le, l));
        calls = λ l. absurd (omega (arith, le, l));
        members = λ l e. absurd (omega (arith, le, l));
        unary = λ l. absurd (omega (arith, le, l));
        climb = λ n l. absurd (omega (arith, le, l));
        conditional = λ l. d;
        assignment = λ l. a;
        commas = commas_of allows_in a;
      }

  pub from_assignment : look.level ≤ 2 → Read all bound pieces numbers (IsExpr e) (below allows_in 2) (E.assignment grammar allows_in) give → Part all bound look allows_in pieces numbers e
  from_assignment le a =
      record {
        flows = flows;
        first = first;
        operand = λ l. absurd (omega (arith, le, l));
        calls = λ l. absurd (omega (arith, le, l));
        members = λ l e. absurd (omega (arith, le, l));
        unary = λ l. absurd (omega (arith, le, l));
        climb = λ n l. absurd (omega (arith, le, l));
        conditional = λ l. absurd (omega (arith, le, l));
        assignment = λ l. a;
        commas = commas_of allows_in a;
      }

  pub from_commas : look.level ≤ 1 → Read all bound pieces numbers (IsExpr e) (below allows_in 2) (P.expression_by grammar (E.assignment grammar allows_in) allows_in) (repeat (P.more_commas grammar allows_in)) → Part all bound look allows_in pieces numbers e
  from_commas le c =
      record {
        flows = flows;
        first = first;
        operand = λ l. absurd (omega (arith, le, l));
        calls = λ l. absurd (omega (arith, le, l));
        members = λ l e. absurd (omega (arith, le, l));
        unary = λ l. absurd (omega (arith, le, l));
        climb = λ n l. absurd (omega (arith, le, l));
        conditional = λ l. absurd (omega (arith, le, l));
        assignment = λ l. absurd (omega (arith, le, l));
        commas = c;
      }
