-- Conditional expressions, assignments and commas (11.12 to 11.14).
use Rattle.std.proofs.Common.{◌≡◌, Bool, true, false, List, ◌∷◌, ◌++◌, refl, ap, ◌∙◌, arith, ℕ, suc, max}
use Rattle.std.specs.Prelude.{codes, Option, Some, None}
use Rattle.js_value.specs.declared.operator.BinaryOp.{BinaryOp}
use Rattle.js_value.specs.declared.operator.BinaryOp.TheVariants as binary
use Rattle.js_value.specs.declared.place.Place.{Place}
use Rattle.js_tree.specs.Lexing.{reserved_word}
use Rattle.js_tree.specs.declared.expression.Expr.{Expr}
use Rattle.js_tree.specs.declared.expression.ExprForm.{ExprForm, out-ExprForm}
use Rattle.js_tree.specs.declared.expression.ExprForm.TheOpen.{ExprForm-F}
use Rattle.js_tree.specs.declared.expression.ExprForm.TheVariants as e
use Rattle.js_grammar.specs.Expressions as E
use Rattle.js_grammar.specs.FunctionOrder.{Numbers}
use Rattle.js_grammar.specs.Marks
use Rattle.js_grammar.specs.Operators
use Rattle.js_grammar.specs.Primary as P
use Rattle.js_grammar.specs.ReadableExpressions.{is_compound}
use Rattle.js_grammar.specs.Reading.{grammar}
use Rattle.js_grammar.specs.Rest.{Reading, ◌>>=◌, ◌>>◌, give, finish, part, expect, repeat}
use Rattle.js_grammar.proofs.Laws.{repeated, tied}
use Rattle.script_text.specs.Expressions.{assignment_operator}
use Rattle.script_text.specs.Pieces.{Piece, closing, word}
use Rattle.script_text.specs.Tokens.{Shape, shape, form_of, tokens_from}
use Rattle.reading_back.proofs.Claims.{Low, World, Frame, Spot, rest_of, deeper, Read, below, Flows, IsExpr, Part, Fit}
use Rattle.reading_back.proofs.Marks.{joins}
use Rattle.reading_back.specs.Unplaced as unplaced
use Rattle.reading_back.proofs.Flowing.{flows_last, flows_token, spread}
use Rattle.reading_back.proofs.Ladder.{behind_target, logical_or_of, conditional_of, from_conditional, from_assignment, from_commas}
use Rattle.reading_back.proofs.OneOperand.{if_target_is}
use Rattle.reading_back.proofs.Same.{same_layers, same_target}
use Rattle.reading_back.proofs.Steps.{exactly, after, from, on, stays, chain, bind, expected, finished, parted, opens, finishes, next_some}
use Rattle.reading_back.proofs.TwoOperands.{first_before, between, ready_behind}

-- ---- parts of an expression

module _ {all : World} {bound : ℕ} {allows_in starts : Bool} {pieces : List Piece} {numbers : Numbers} {e : Expr} where
  -- 11.13
  pub assignment_reads : (f : Fit all bound 2 starts allows_in pieces numbers e) → Read all bound pieces numbers (IsExpr e) (below allows_in 2) (grammar.assignment allows_in) give
  assignment_reads f = record {
    at = λ w c line rest nz ready fits.
        exactly (from (tied.assignment allows_in (rest_of w c (tokens_from line pieces ++ rest))) ((f.part.assignment f.enough).at w c line rest nz ready fits)) (omega arith);
  }

  -- counted as open while it is read
  pub assignment_part_reads : (f : Fit all bound 2 starts allows_in pieces numbers e) → Read all (suc bound) pieces numbers (IsExpr e) (below allows_in 2) (part (grammar.assignment allows_in)) give
  assignment_part_reads f = record {
    at = λ w c line rest nz ready fits.
        exactly (parted (ap (λ zs. zs ++ rest) (f.part.first.is line))
        ((assignment_reads f).at (deeper w) c line rest nz (opens c.functions (numbers ++ nz) ready) fits)) (omega arith);
  }

-- ---- 11.12

question_is : Marks.question (form_of (codes "?")) ≡ Some tt
unfolding form_of reserved_word
question_is = refl

pub colon_is : Marks.colon (form_of (codes ":")) ≡ Some tt
unfolding form_of reserved_word
colon_is = refl

question_joins : (allows_in : Bool) → joins allows_in (form_of (codes "?")) ≡ 3
unfolding form_of reserved_word joins
question_joins true = refl
question_joins false = refl

pub colon_joins : (allows_in : Bool) → joins allows_in (form_of (codes ":")) ≡ 0
unfolding form_of reserved_word joins
colon_joins true = refl
colon_joins false = refl

-- what stands behind the question mark
abbrev branches : Bool → Expr → Reading Expr
branches allows_in test = do
  yes_part ← part (grammar.assignment true)
  expect Marks.colon
  no_part ← part (grammar.assignment allows_in)
  finish test.at (e.Conditional test yes_part no_part)

abbrev pub test_pieces : List Piece → List Piece → List Piece → List Piece
test_pieces pt pa pb = (pt ++ (word (codes "?") ++ pa)) ++ (word (codes ":") ++ pb)

split_test : (pt pa pb : List Piece) → Flows pt → Flows pa → (line : Bool) (rest : List Shape)
    → tokens_from line (test_pieces pt pa pb) ++ rest ≡ tokens_from line pt ++ (shape (form_of (codes "?")) false ∷ (tokens_from false pa ++ (shape (form_of (codes ":")) false ∷ (tokens_from false pb ++ rest))))
split_test pt pa pb ft fa line rest =
    spread (pt ++ (word (codes "?") ++ pa)) (word (codes ":") ++ pb) (flows_last pt (word (codes "?") ++ pa) (flows_last (word (codes "?")) pa fa)) line rest
    ∙ spread pt (word (codes "?") ++ pa) ft line (tokens_from false (word (codes ":") ++ pb) ++ rest)

module _ {all : World} {bt ba bb : ℕ} {allows_in st sa sb : Bool} {pt pa pb : List Piece} {nt na nb : Numbers} {t a b : Expr} (at : Place) (form : ExprForm) (low : Low all (record { at = at; form = form })) where
  conditional_reads : out-ExprForm form ≡ ExprForm-F.Conditional t a b → (ft : Fit all bt 4 st allows_in pt nt t) (fa : Fit all ba 2 sa true pa na a) (fb : Fit all bb 2 sb allows_in pb nb b)
      → Read all (max (max bt (suc ba)) (suc bb)) (test_pieces pt pa pb) ((nt ++ na) ++ nb) (IsExpr (record { at = at; form = form })) (below allows_in 2) (E.conditional grammar allows_in) give
  unfolding E.conditional
  conditional_reads is ft fa fb = record {
    at = λ w c line rest nz ready fits.
        exactly (let q : Shape = shape (form_of (codes "?")) false in
        let l : Shape = shape (form_of (codes ":")) false in
        let last = tokens_from false pb ++ rest in
        let middle = tokens_from false pa ++ (l ∷ last) in
        on (split_test pt pa pb ft.part.flows fa.part.flows line rest)
        (bind ((logical_or_of allows_in ft.look.level ft.enough (ft.part.climb 0 (omega (arith, ft.enough)))).at w c line (q ∷ middle) (na ++ (nb ++ nz))
        (ready_behind c.functions nt na (nb ++ nz) (ready_behind c.functions (nt ++ na) nb nz ready)) (omega (arith, question_joins allows_in))) (λ xt d ist readyt.
        from (next_some Marks.question tt (λ _. branches allows_in xt) (give xt) (rest_of w d (q ∷ middle)) question_is)
        (bind ((assignment_part_reads fa).at w (after d q) false (l ∷ last) (nb ++ nz) readyt (omega (arith, colon_joins true))) (λ xa f isa readya.
        expected Marks.colon tt (λ _. part (grammar.assignment allows_in) >>= λ no_part. finish xt.at (e.Conditional xt xa no_part)) colon_is
        (bind ((assignment_part_reads fb).at w (after f l) false rest nz readya fits) (λ xb g isb readyb.
        finishes xt.at (e.Conditional xt xa xb) low (same_layers xt.at at (e.Conditional xt xa xb) form _ _ (e.outs-Conditional xt xa xb) is
        (ap (λ y. ExprForm-F.Conditional y (unplaced.expr xa) (unplaced.expr xb)) ist.same ∙ ap (λ y. ExprForm-F.Conditional (unplaced.expr t) y (unplaced.expr xb)) isa.same
        ∙ ap (λ y. ExprForm-F.Conditional (unplaced.expr t) (unplaced.expr a) y) isb.same)) readyb))))))) (omega arith);
  }

  pub conditional_part : out-ExprForm form ≡ ExprForm-F.Conditional t a b → Fit all bt 4 st allows_in pt nt t → Fit all ba 2 sa true pa na a → Fit all bb 2 sb allows_in pb nb b
      → Part all (max (max bt (suc ba)) (suc bb)) (record { level = 3; calls = false; starts = st }) allows_in (test_pieces pt pa pb) ((nt ++ na) ++ nb) (record { at = at; form = form })
  conditional_part is ft fa fb =
      let middle : Flows (pt ++ (word (codes "?") ++ pa)) = flows_last pt (word (codes "?") ++ pa) (flows_last (word (codes "?")) pa fa.part.flows) in
      from_conditional (flows_last (pt ++ (word (codes "?") ++ pa)) (word (codes ":") ++ pb) (flows_last (word (codes ":")) pb fb.part.flows))
      (first_before (pt ++ (word (codes "?") ++ pa)) (word (codes ":") ++ pb) middle (λ l. l) (λ s. s)
      (first_before {other = record { level = 3; calls = false; starts = st }} pt (word (codes "?") ++ pa) ft.part.flows (λ l. absurd (omega (arith, l))) ft.plain ft.part.first))
      (max (max bt (suc ba)) (suc bb)) (omega arith) (conditional_reads is ft fa fb)

-- ---- 11.13

assignment_is : (op : Option BinaryOp) → is_compound op ≡ true → Operators.assignment_operator (form_of (assignment_operator op)) ≡ Some op
unfolding form_of reserved_word
assignment_is None e = refl
assignment_is (Some binary.Mul) e = refl
assignment_is (Some binary.Div) e = refl
assignment_is (Some binary.Rem) e = refl
assignment_is (Some binary.Add) e = refl
assignment_is (Some binary.Sub) e = refl
assignment_is (Some binary.Shl) e = refl
assignment_is (Some binary.Sar) e = refl
assignment_is (Some binary.Shr) e = refl
assignment_is (Some binary.BitAnd) e = refl
assignment_is (Some binary.BitXor) e = refl
assignment_is (Some binary.BitOr) e = refl
assignment_is (Some binary.Less) e = absurd (cc)
assignment_is (Some binary.Greater) e = absurd (cc)
assignment_is (Some binary.LessEqual) e = absurd (cc)
assignment_is (Some binary.GreaterEqual) e = absurd (cc)
assignment_is (Some binary.Equal) e = absurd (cc)
assignment_is (Some binary.NotEqual) e = absurd (cc)
assignment_is (Some binary.Same) e = absurd (cc)
assignment_is (Some binary.NotSame) e = absurd (cc)
assignment_is (Some binary.In) e = absurd (cc)
assignment_is (Some binary.InstanceOf) e = absurd (cc)

assignment_joins : (op : Option BinaryOp) (allows_in : Bool) → is_compound op ≡ true → joins allows_in (form_of (assignment_operator op)) ≡ 2
unfolding form_of reserved_word joins
assignment_joins None true e = refl
assignment_joins (Some binary.Mul) true e = refl
assignment_joins (Some binary.Div) true e = refl
assignment_joins (Some binary.Rem) true e = refl
assignment_joins (Some binary.Add) true e = refl
assignment_joins (Some binary.Sub) true e = refl
assignment_joins (Some binary.Shl) true e = refl
assignment_joins (Some binary.Sar) true e = refl
assignment_joins (Some binary.Shr) true e = refl
assignment_joins (Some binary.BitAnd) true e = refl
assignment_joins (Some binary.BitXor) true e = refl
assignment_joins (Some binary.BitOr) true e = refl
assignment_joins None false e = refl
assignment_joins (Some binary.Mul) false e = refl
assignment_joins (Some binary.Div) false e = refl
assignment_joins (Some binary.Rem) false e = refl
assignment_joins (Some binary.Add) false e = refl
assignment_joins (Some binary.Sub) false e = refl
assignment_joins (Some binary.Shl) false e = refl
assignment_joins (Some binary.Sar) false e = refl
assignment_joins (Some binary.Shr) false e = refl
assignment_joins (Some binary.BitAnd) false e = refl
assignment_joins (Some binary.BitXor) false e = refl
assignment_joins (Some binary.BitOr) false e = refl
assignment_joins (Some binary.Less) allows_in e = absurd (cc)
assignment_joins (Some binary.Greater) allows_in e = absurd (cc)
assignment_joins (Some binary.LessEqual) allows_in e = absurd (cc)
assignment_joins (Some binary.GreaterEqual) allows_in e = absurd (cc)
assignment_joins (Some binary.Equal) allows_in e = absurd (cc)
assignment_joins (Some binary.NotEqual) allows_in e = absurd (cc)
assignment_joins (Some binary.Same) allows_in e = absurd (cc)
assignment_joins (Some binary.NotSame) allows_in e = absurd (cc)
assignment_joins (Some binary.In) allows_in e = absurd (cc)
assignment_joins (Some binary.InstanceOf) allows_in e = absurd (cc)

target_goes_on : {all : World} (op : Option BinaryOp) (allows_in : Bool) (w : Frame all) (d : Spot) (x : Expr) (zs : List Shape) → is_compound op ≡ true → E.is_target x ≡ true
    → behind_target allows_in x (rest_of w d (shape (form_of (assignment_operator op)) false ∷ zs))
    ≡ (part (grammar.assignment allows_in) >>= λ value. finish x.at (e.Assign x op value)) (rest_of w (after d (shape (form_of (assignment_operator op)) false)) zs)
target_goes_on op allows_in w d x zs compound target =
    next_some Operators.assignment_operator op _ _ (rest_of w d (shape (form_of (assignment_operator op)) false ∷ zs)) (assignment_is op compound)
    ∙ if_target_is x _ (rest_of w (after d (shape (form_of (assignment_operator op)) false)) zs) target

module _ {all : World} {ba bb : ℕ} {allows_in sa sb : Bool} {pa pb : List Piece} {na nb : Numbers} {a b : Expr} (at : Place) (form : ExprForm) (low : Low all (record { at = at; form = form })) where
  assign_reads : (op : Option BinaryOp) → out-ExprForm form ≡ ExprForm-F.Assign a op b → is_compound op ≡ true → E.is_target a ≡ true → (fa : Fit all ba 16 sa allows_in pa na a) (fb : Fit all bb 2 sb allows_in pb nb b)
      → Read all (max ba (suc bb)) ((pa ++ word (assignment_operator op)) ++ pb) (na ++ nb) (IsExpr (record { at = at; form = form })) (below allows_in 2) (E.assignment grammar allows_in) give
  unfolding E.assignment
  assign_reads op is compound target fa fb = record {
    at = λ w c line rest nz ready fits.
        exactly (let sign : Shape = shape (form_of (assignment_operator op)) false in
        let behind = tokens_from false pb ++ rest in
        on (between pa pb (assignment_operator op) false _ fa.part.flows line rest)
        (bind ((conditional_of allows_in fa.look.level (omega (arith, fa.enough)) (fa.part.climb 0 (omega (arith, fa.enough)))).at w c line (sign ∷ behind) (nb ++ nz)
        (ready_behind c.functions na nb nz ready) (omega (arith, assignment_joins op allows_in compound))) (λ xa d isa readya.
        from (target_goes_on op allows_in w d xa behind compound (same_target isa ∙ target))
        (bind ((assignment_part_reads fb).at w (after d sign) false rest nz readya fits) (λ xb g isb readyb.
        finishes xa.at (e.Assign xa op xb) low (same_layers xa.at at (e.Assign xa op xb) form _ _ (e.outs-Assign xa op xb) is
        (ap (λ y. ExprForm-F.Assign y op (unplaced.expr xb)) isa.same ∙ ap (λ y. ExprForm-F.Assign (unplaced.expr a) op y) isb.same)) readyb))))) (omega arith);
  }

  pub assign_part : (op : Option BinaryOp) → out-ExprForm form ≡ ExprForm-F.Assign a op b → is_compound op ≡ true → E.is_target a ≡ true → Fit all ba 16 sa allows_in pa na a → Fit all bb 2 sb allows_in pb nb b
      → Part all (max ba (suc bb)) (record { level = 2; calls = false; starts = sa }) allows_in ((pa ++ word (assignment_operator op)) ++ pb) (na ++ nb) (record { at = at; form = form })
  assign_part op is compound target fa fb = from_assignment (flows_last (pa ++ word (assignment_operator op)) pb fb.part.flows)
      (first_before (pa ++ word (assignment_operator op)) pb (flows_last pa (word (assignment_operator op)) (flows_token (assignment_operator op) false _)) (λ l. l) (λ s. s)
      (first_before {other = record { level = 2; calls = false; starts = sa }} pa (word (assignment_operator op)) fa.part.flows (λ l. absurd (omega (arith, l))) fa.plain fa.part.first))
      (max ba (suc bb)) (omega arith) (assign_reads op is compound target fa fb)

-- ---- 11.14

pub comma_is : Marks.comma (form_of (codes ",")) ≡ Some tt
unfolding form_of reserved_word
comma_is = refl

pub comma_joins : (allows_in : Bool) → joins allows_in (form_of (codes ",")) ≡ 1
unfolding form_of reserved_word joins
comma_joins true = refl
comma_joins false = refl

module _ {all : World} {ba bb : ℕ} {allows_in sa sb : Bool} {pa pb : List Piece} {na nb : Numbers} {a b : Expr} (at : Place) (form : ExprForm) (low : Low all (record { at = at; form = form })) where
  comma_reads : out-ExprForm form ≡ ExprForm-F.Comma a b → (fa : Fit all ba 1 sa allows_in pa na a) (fb : Fit all bb 2 sb allows_in pb nb b)
      → Read all (max ba bb) ((pa ++ closing (codes ",")) ++ pb) (na ++ nb) (IsExpr (record { at = at; form = form })) (below allows_in 2)
      (P.expression_by grammar (E.assignment grammar allows_in) allows_in) (repeat (P.more_commas grammar allows_in))
  comma_reads is fa fb = record {
    at = λ w c line rest nz ready fits.
        exactly (let sign : Shape = shape (form_of (codes ",")) false in
        let behind = tokens_from false pb ++ rest in
        let again = repeat (P.more_commas grammar allows_in) in
        on (between pa pb (codes ",") true _ fa.part.flows line rest)
        (chain (fa.part.commas.at w c line (sign ∷ behind) (nb ++ nz) (ready_behind c.functions na nb nz ready) (omega (arith, comma_joins allows_in))) (λ xa d isa readya.
        let s = rest_of w d (sign ∷ behind) in
        from (repeated.commas allows_in xa s ∙ next_some Marks.comma tt (λ _. grammar.assignment allows_in >>= λ right. finish xa.at (e.Comma xa right) >>= λ both. again both) (give xa) s comma_is)
        (bind ((assignment_reads fb).at w (after d sign) false rest nz readya fits) (λ xb g isb readyb.
        let same : IsExpr (record { at = at; form = form }) (record { at = xa.at; form = e.Comma xa xb }) = same_layers xa.at at (e.Comma xa xb) form _ _ (e.outs-Comma xa xb) is
        (ap (λ y. ExprForm-F.Comma y (unplaced.expr xb)) isa.same ∙ ap (λ y. ExprForm-F.Comma (unplaced.expr a) y) isb.same) in
        finished xa.at (e.Comma xa xb) again low same readyb (stays {c = g} (record { at = xa.at; form = e.Comma xa xb }) again same readyb)))))) (omega arith);
  }

  pub comma_part : out-ExprForm form ≡ ExprForm-F.Comma a b → Fit all ba 1 sa allows_in pa na a → Fit all bb 2 sb allows_in pb nb b
      → Part all (max ba bb) (record { level = 1; calls = false; starts = sa }) allows_in ((pa ++ closing (codes ",")) ++ pb) (na ++ nb) (record { at = at; form = form })
  comma_part is fa fb = from_commas (flows_last (pa ++ closing (codes ",")) pb fb.part.flows)
      (first_before (pa ++ closing (codes ",")) pb (flows_last pa (closing (codes ",")) (flows_token (codes ",") true _)) (λ l. l) (λ s. s)
      (first_before {other = record { level = 1; calls = false; starts = sa }} pa (closing (codes ",")) fa.part.flows (λ l. absurd (omega (arith, l))) fa.plain fa.part.first))
      (max ba bb) (omega arith) (comma_reads is fa fb)
