-- Expressions in parentheses, and where an expression of at least a level is taken.
use Rattle.std.proofs.Common.{◌≡◌, ◌≤◌, ℕ, suc, Bool, true, false, List, ◌∷◌, ◌++◌, refl, ap, ◌∙◌, arith}
use Rattle.std.specs.Prelude.{◌&&◌, ◌||◌, not, nat_lt, codes, Some}
use Rattle.std.proofs.lemmas.Bool.Decides.{nat_tests}
use Rattle.js_tree.specs.Lexing.{reserved_word}
use Rattle.js_tree.specs.declared.expression.Expr.{Expr}
use Rattle.js_grammar.specs.FunctionOrder.{Numbers}
use Rattle.js_grammar.specs.Marks
use Rattle.js_grammar.specs.Primary as P
use Rattle.js_grammar.specs.Reading.{grammar}
use Rattle.js_grammar.specs.Rest.{behind, give, next, repeat}
use Rattle.js_grammar.proofs.Laws.{repeated, tied}
use Rattle.script_text.specs.Expressions.{Printed, tokens, grouped, if_grouped, at, starts_at, callee_of_new}
use Rattle.script_text.specs.Pieces.{Piece, opening, closing}
use Rattle.script_text.specs.Tokens.{Shape, shape, form_of, tokens_from}
use Rattle.reading_back.proofs.Claims.{World, Frame, Spot, rest_of, deeper, Read, anything, below, First, Look, IsExpr, Part, Fit, Whole}
use Rattle.reading_back.proofs.Marks.{begins_none, begins_unary, begins_statement, begins_other, joins}
use Rattle.reading_back.proofs.Flowing.{flows_last, flows_token, spread}
use Rattle.reading_back.proofs.Joining.{first_none}
use Rattle.reading_back.proofs.Ladder.{no_more_commas, from_operand}
use Rattle.script_nesting.specs.Opened as depth
use Rattle.script_nesting.specs.Opened.{Deep}
use Rattle.reading_back.proofs.Steps.{exactly, after, from, on, stays, chain, bind, expected, parted, opens, first_is}

-- ---- whole expressions

module _ {all : World} {bound : ℕ} {look : Look} {allows_in : Bool} {pieces : List Piece} {numbers : Numbers} {e : Expr} where
  -- 11.14, where no comma stands behind
  pub expression_reads : (p : Part all bound look allows_in pieces numbers e) → Read all bound pieces numbers (IsExpr e) (below allows_in 1) (P.expression_by grammar (grammar.assignment allows_in) allows_in) give
  unfolding P.expression_by
  expression_reads p = record {
    at = λ w c line rest nb ready fits.
        exactly (from (ap (λ r. behind r (λ left. repeat (P.more_commas grammar allows_in) left)) (tied.assignment allows_in (rest_of w c (tokens_from line pieces ++ rest))))
        (chain (p.commas.at w c line rest nb ready (omega (arith, fits))) (λ x d is done.
        from (repeated.commas allows_in x (rest_of w d rest) ∙ no_more_commas allows_in (repeat (P.more_commas grammar allows_in)) x (rest_of w d rest)
        (first_is w Marks.comma d rest ∙ first_none Marks.comma allows_in 1 rest (omega arith) (λ t q. q.comma (omega arith)) fits))
        (stays {c = d} x give is done)))) (omega arith);
  }

-- ---- parentheses (11.1.6)

operand_group : {all : World} (w : Frame all) (c : Spot) (line : Bool) (zs : List Shape)
    → P.operand grammar (rest_of w c (shape (form_of (codes "(")) line ∷ zs)) ≡ P.group_behind grammar (rest_of w (after c (shape (form_of (codes "(")) line)) zs)
unfolding form_of reserved_word next P.enclosed_or_new
operand_group w c line zs = refl

pub right_parenthesis_is : Marks.right_parenthesis (form_of (codes ")")) ≡ Some tt
unfolding form_of reserved_word
right_parenthesis_is = refl

pub right_parenthesis_joins : (allows_in : Bool) → joins allows_in (form_of (codes ")")) ≡ 0
unfolding form_of reserved_word joins
right_parenthesis_joins true = refl
right_parenthesis_joins false = refl

abbrev pub group_look : Look
group_look = record { level = 17; calls = false; starts = false }

group_first : (pieces : List Piece) → First group_look (grouped pieces)
unfolding form_of reserved_word begins_none begins_unary begins_statement begins_other
group_first pieces = record {
  form = form_of (codes "(");
  more = tokens_from false (pieces ++ closing (codes ")"));
  is = λ line. refl;
  begins = refl;
  no_statement = refl;
  no_sign = λ l. refl;
  plain = λ l. refl;
}

module _ {all : World} {bound : ℕ} {look : Look} {pieces : List Piece} {numbers : Numbers} {e : Expr} where
  group_reads : (p : Part all bound look true pieces numbers e) → Read all (suc bound) (grouped pieces) numbers (IsExpr e) anything (P.operand grammar) give
  unfolding P.group_behind
  group_reads p = record {
    at = λ w c line rest nb ready fits.
        exactly (let d = after c (shape (form_of (codes "(")) line) in
        let inside = spread pieces (closing (codes ")")) p.flows false rest in
        from (operand_group w c line (tokens_from false (pieces ++ closing (codes ")")) ++ rest))
        (on inside (parted (ap (λ zs. zs ++ (tokens_from false (closing (codes ")")) ++ rest)) (p.first.is false))
        (bind ((expression_reads p).at (deeper w) d false _ nb (opens d.functions (numbers ++ nb) ready) (omega (arith, right_parenthesis_joins true)))
        (λ x f is done. expected Marks.right_parenthesis tt (λ _. give x) right_parenthesis_is (stays x give is (done))))))) (omega arith);
  }

  pub group : (allows_in : Bool) → Part all bound look true pieces numbers e → Part all (suc bound) group_look allows_in (grouped pieces) numbers e
  group allows_in p = from_operand (flows_last (opening (codes "(") ++ pieces) (closing (codes ")")) (flows_token (codes ")") true _)) (group_first pieces) (suc bound) (omega arith) (group_reads p)

-- ---- where an expression of at least a level is taken

at_least : (n m : ℕ) → nat_lt n m ≡ false → m ≤ n
at_least n m e = grind (arith, nat_tests)

module _ {all : World} {p : Printed} {opened : Bool → ℕ} {numbers : Numbers} {e : Expr} (whole : Whole all p opened numbers e) where
  -- as it is printed, and how many parts are open inside it
  abbrev deep : Deep
  deep = record { printed = p; opened = opened }

  in_group : (b : Bool) → (b && not true) ≡ false
  in_group true = refl
  in_group false = refl

  grouped_fit : (wanted : ℕ) (starts allows_in : Bool) → wanted ≤ 17 → Fit all (suc (opened true)) wanted starts allows_in (grouped (tokens p true)) numbers e
  grouped_fit wanted starts allows_in le = record { look = group_look; enough = le; plain = λ _. refl; part = group allows_in (whole.part true (in_group p.is_in)) }

  pub fit : (wanted : ℕ) (allows_in : Bool) → wanted ≤ 17 → Fit all (depth.at wanted allows_in deep) wanted (starts_at wanted p) allows_in (at wanted allows_in p) numbers e
  fit wanted allows_in le = by (nat_lt p.level wanted) refl (p.is_in && not allows_in) refl
    where
      by : (b : Bool) → nat_lt p.level wanted ≡ b → (c : Bool) → (p.is_in && not allows_in) ≡ c → Fit all (depth.if_grouped (b || c) allows_in deep) wanted (not b && p.starts) allows_in (if_grouped (b || c) allows_in p) numbers e
      by true loose c same = grouped_fit wanted (not true && p.starts) allows_in le
      by false loose true same = grouped_fit wanted (not false && p.starts) allows_in le
      by false loose false same = record {
        look = record { level = p.level; calls = p.calls; starts = p.starts };
        enough = at_least p.level wanted loose;
        plain = λ s. s;
        part = whole.part allows_in same;
      }

  not_in : (b : Bool) → p.is_in ≡ false → (p.is_in && not b) ≡ false
  not_in b e = rw e refl

  -- where a call or a member is taken that isn't barred for another cause; one that isn't grouped has its calls
  pub fit_unless : (barred allows_in : Bool) → (f : Fit all (depth.if_grouped (nat_lt p.level 16 || barred) allows_in deep) 16 (starts_at 16 p) allows_in (if_grouped (nat_lt p.level 16 || barred) allows_in p) numbers e) × (p.calls ≡ false → f.look.calls ≡ false)
  unfolding grouped_fit
  fit_unless barred allows_in = by (nat_lt p.level 16) refl barred
    where
      by : (b : Bool) → nat_lt p.level 16 ≡ b → (c : Bool) → (f : Fit all (depth.if_grouped (b || c) allows_in deep) 16 (not b && p.starts) allows_in (if_grouped (b || c) allows_in p) numbers e) × (p.calls ≡ false → f.look.calls ≡ false)
      by true loose c = (grouped_fit 16 (not true && p.starts) allows_in (omega arith), λ _. refl)
      by false loose true = (grouped_fit 16 (not false && p.starts) allows_in (omega arith), λ _. refl)
      by false loose false = (
        record {
          look = record { level = p.level; calls = p.calls; starts = p.starts };
          enough = at_least p.level 16 loose;
          plain = λ s. s;
          part = whole.part allows_in (not_in allows_in (whole.no_in (at_least p.level 16 loose)));
        },
        λ c. c,
      )

  -- the callee of `new` has no call outside brackets
  pub callee_fit : (allows_in : Bool) → (f : Fit all (depth.callee_of_new allows_in deep) 16 (starts_at 16 p) allows_in (callee_of_new allows_in p) numbers e) × (f.look.calls ≡ false)
  unfolding grouped_fit
  callee_fit allows_in = by (nat_lt p.level 16) refl p.calls refl
    where
      by : (b : Bool) → nat_lt p.level 16 ≡ b → (c : Bool) → p.calls ≡ c → (f : Fit all (depth.if_grouped (b || c) allows_in deep) 16 (not b && p.starts) allows_in (if_grouped (b || c) allows_in p) numbers e) × (f.look.calls ≡ false)
      by true loose c same = (grouped_fit 16 (not true && p.starts) allows_in (omega arith), refl)
      by false loose true same = (grouped_fit 16 (not false && p.starts) allows_in (omega arith), refl)
      by false loose false same = (
        record {
          look = record { level = p.level; calls = p.calls; starts = p.starts };
          enough = at_least p.level 16 loose;
          plain = λ s. s;
          part = whole.part allows_in (not_in allows_in (whole.no_in (at_least p.level 16 loose)));
        },
        same,
      )
