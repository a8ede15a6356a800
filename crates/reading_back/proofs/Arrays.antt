-- Array literals (11.1.4).
use Rattle.std.proofs.Common.{◌≡◌, ℕ, suc, ◌+◌, ◌-◌, Bool, true, false, List, [], ◌∷◌, ◌++◌, length, map, refl, ap, sym, ◌∙◌, subst, arith, append_assoc, append-nil, max}
use Rattle.std.specs.Prelude.{codes, slice_get, Option, Some, None}
use Rattle.std.specs.List.{flat_map}
use Rattle.std.specs.Option.{option_map}
use Rattle.std.proofs.lemmas.List.{map-append}
use Rattle.js_value.specs.declared.place.Place.{Place}
use Rattle.js_tree.specs.Lexing.{reserved_word}
use Rattle.js_tree.specs.Mentions.{of_none}
use Rattle.js_tree.specs.declared.expression.Expr.{Expr}
use Rattle.js_tree.specs.declared.expression.ExprForm.{ExprForm, out-ExprForm}
use Rattle.js_tree.specs.declared.expression.ExprForm.TheOpen.{ExprForm-F}
use Rattle.js_tree.specs.declared.expression.ExprForm.TheVariants as e
use Rattle.js_grammar.specs.FunctionOrder.{Numbers}
use Rattle.js_grammar.specs.Marks
use Rattle.js_grammar.specs.Primary as P
use Rattle.js_grammar.specs.Reading.{grammar}
use Rattle.js_grammar.specs.Rest.{Reading, ◌>>◌, give, next, expect, repeat}
use Rattle.js_grammar.proofs.Laws.{repeated}
use Rattle.script_text.specs.Expressions.{Printed, value, element, last_comma, is_elision, ends_in_elision}
use Rattle.script_text.specs.Pieces.{Piece, opening, closing, separated, behind_commas}
use Rattle.script_text.specs.Tokens.{Shape, shape, form_of, tokens_from}
use Rattle.reading_back.proofs.Claims.{Low, World, Frame, Spot, rest_of, deeper, Leads, Ready, Read, anything, below, First, IsExpr, Part}
use Rattle.reading_back.proofs.Marks.{begins_none, begins_unary, begins_statement, begins_other}
use Rattle.reading_back.specs.Unplaced as unplaced
use Rattle.reading_back.proofs.Calls.{deep_of, Arg}
use Rattle.reading_back.proofs.Flowing.{flows_last, flows_token, spread}
use Rattle.reading_back.proofs.Joining.{begins}
use Rattle.reading_back.proofs.Ladder.{from_operand}
use Rattle.reading_back.proofs.LooseOperators.{assignment_reads, comma_is, comma_joins}
use Rattle.reading_back.proofs.Members.{right_bracket_is, right_bracket_joins}
use Rattle.reading_back.proofs.Same.{same_layers}
use Rattle.script_nesting.specs.Opened as depth
use Rattle.script_nesting.specs.Opened.{Deep}
use Rattle.script_nesting.specs.Highest.{highest}
use Rattle.reading_back.proofs.Steps.{exactly, after, first_of_shapes, from, on, become, stays, bind, take, miss, expected, parted, opens, finishes}
use Rattle.reading_back.proofs.TwoOperands.{ready_behind}
use Rattle.reading_back.proofs.Words.{word_look}

abbrev Elements : Type 0
Elements = List (Option Expr)

-- the same but for places
pub record AreElements (es xs : Elements) : Type 0 where
  pub same : map (option_map unplaced.expr) xs ≡ map (option_map unplaced.expr) es

one_more : (model so_far : Elements) (e y : Option Expr) → AreElements model so_far → option_map unplaced.expr y ≡ option_map unplaced.expr e → AreElements (model ++ (e ∷ [])) (so_far ++ (y ∷ []))
one_more model so_far e y h is = record {
  same =
      map-append (option_map unplaced.expr) so_far (y ∷ []) ∙ ap (λ zs. zs ++ (option_map unplaced.expr y ∷ [])) h.same ∙ ap (λ z. map (option_map unplaced.expr) model ++ (z ∷ [])) is
      ∙ sym (map-append (option_map unplaced.expr) model (e ∷ []));
}

no_bracket : Marks.right_bracket (form_of (codes ",")) ≡ None
unfolding form_of reserved_word
no_bracket = refl

no_comma : Marks.comma (form_of (codes "]")) ≡ None
unfolding form_of reserved_word
no_comma = refl

module _ {all : World} where
  abbrev pub deep_items : List (Option (Arg all)) → List (Option Deep)
  deep_items xs = map (option_map deep_of) xs

  abbrev pub bound_items : List (Option (Arg all)) → ℕ
  bound_items xs = highest (map depth.element (deep_items xs))

  abbrev pub printed_items : List (Option (Arg all)) → List (Option Printed)
  printed_items xs = map (option_map (λ (x : Arg all). x.printed)) xs

  abbrev pub numbers_items : List (Option (Arg all)) → Numbers
  numbers_items xs = flat_map of_none (map (option_map (λ (x : Arg all). x.numbers)) xs)

  abbrev pub tree_items : List (Option (Arg all)) → Elements
  tree_items xs = map (option_map (λ (x : Arg all). x.tree)) xs

-- ---- what is left behind the bracket or behind a comma

abbrev inside : List (Option Printed) → List Piece
inside items = separated element items ++ last_comma (ends_in_elision items)

abbrev left : List (Option Printed) → List Piece
left items = inside items ++ closing (codes "]")

ends_behind : (x y : Option Printed) (ys : List (Option Printed)) → ends_in_elision (x ∷ y ∷ ys) ≡ ends_in_elision (y ∷ ys)
ends_behind x y ys =
    let e : length (x ∷ y ∷ ys) - 1 ≡ suc (length (y ∷ ys) - 1) = omega arith in
    ap (λ n. is_elision (slice_get (x ∷ y ∷ ys) n)) e

left_some : (x : Printed) → left (Some x ∷ []) ≡ value x ++ closing (codes "]")
left_some x = ap (λ ps. (ps ++ []) ++ closing (codes "]")) (append-nil (value x)) ∙ ap (λ ps. ps ++ closing (codes "]")) (append-nil (value x))

left_more : (x y : Option Printed) (ys : List (Option Printed)) → left (x ∷ y ∷ ys) ≡ element x ++ (closing (codes ",") ++ left (y ∷ ys))
left_more x y ys =
    ap (λ b. ((element x ++ behind_commas element (y ∷ ys)) ++ last_comma b) ++ closing (codes "]")) (ends_behind x y ys)
    ∙ append_assoc (element x ++ behind_commas element (y ∷ ys)) (last_comma (ends_in_elision (y ∷ ys))) (closing (codes "]"))
    ∙ append_assoc (element x) (behind_commas element (y ∷ ys)) (last_comma (ends_in_elision (y ∷ ys)) ++ closing (codes "]"))
    ∙ ap (λ ps. element x ++ (closing (codes ",") ++ ps)) (sym (append_assoc (separated element (y ∷ ys)) (last_comma (ends_in_elision (y ∷ ys))) (closing (codes "]"))))

left_none : (ys : List (Option Printed)) → left (None ∷ ys) ≡ closing (codes ",") ++ left ys
left_none [] = refl
left_none (y ∷ ys) = left_more None y ys

abbrev behind_element : Elements → Expr → Reading Elements
behind_element so_far y = next Marks.comma (λ _. repeat (P.more_elements grammar) (so_far ++ (Some y ∷ []))) (expect Marks.right_bracket >> give (so_far ++ (Some y ∷ [])))

module _ {all : World} where
  abbrev LeadsOn : List (Option (Arg all)) → Type 0
  LeadsOn xs =
      (model so_far : Elements) (w : Frame all) (c : Spot) (rest : List Shape) (nz : Numbers) → AreElements model so_far
      → Ready w c.functions (numbers_items xs ++ nz)
      → Leads (w.opened + bound_items xs) w nz (AreElements (model ++ tree_items xs)) c (tokens_from false (left (printed_items xs)) ++ rest) rest (repeat (P.more_elements grammar) so_far) give

  -- an element, and then what follows it
  one : (x : Arg all) (n : Numbers) (so_far : Elements) (w : Frame all) (c : Spot) (ps : List Piece) (s : Shape) (more rest : List Shape) (nz : Numbers) {Js : Elements → Type 0} {l : ℕ}
      → tokens_from false ps ++ rest ≡ s ∷ more → below true 2 (s ∷ more) → Ready w c.functions (x.numbers ++ nz)
      → ((y : Expr) (d : Spot) → IsExpr x.tree y → Ready w d.functions nz → Leads l w n Js d (s ∷ more) rest (behind_element so_far y) give)
      → Leads (max (w.opened + depth.value (deep_of x)) l) w n Js c (tokens_from false (value x.printed ++ ps) ++ rest) rest (repeat (P.more_elements grammar) so_far) give
  one x n so_far w c ps s more rest nz is fits ready go =
      let f = x.fit.part.first in
      let spreads = spread (value x.printed) ps x.fit.part.flows false rest ∙ ap (λ zs. tokens_from false (value x.printed) ++ zs) is in
      let opened : tokens_from false (value x.printed) ++ (s ∷ more) ≡ shape f.form false ∷ f.more ++ (s ∷ more) = ap (λ zs. zs ++ (s ∷ more)) (f.is false) in
      let b = begins f.form f.begins in
      on spreads
      (from (repeated.items so_far (rest_of w c (tokens_from false (value x.printed) ++ (s ∷ more))))
      (miss Marks.right_bracket _ _ (ap (first_of_shapes Marks.right_bracket) opened ∙ b.right_bracket)
      (miss Marks.comma _ _ (ap (first_of_shapes Marks.comma) opened ∙ b.comma)
      (bind ((assignment_reads x.fit).at w c false (s ∷ more) nz ready fits) go))))

  lead : (xs : List (Option (Arg all))) → LeadsOn xs
  lead [] model so_far w c rest nz same ready =
      exactly (from (repeated.items so_far (rest_of w c (shape (form_of (codes "]")) false ∷ rest)))
      (take {c = c} {s = shape (form_of (codes "]")) false} Marks.right_bracket tt _ _ right_bracket_is (become {Is = AreElements model} (λ b h. record { same = h.same ∙ ap (map (option_map unplaced.expr)) (sym (append-nil model)) }) (stays so_far give same ready)))) (omega arith)
  lead (None ∷ xs) model so_far w c rest nz same ready =
      exactly (on (ap (λ ps. tokens_from false ps ++ rest) (left_none (printed_items xs)))
      (from (repeated.items so_far (rest_of w c (shape (form_of (codes ",")) false ∷ (tokens_from false (left (printed_items xs)) ++ rest))))
      (miss Marks.right_bracket _ _ no_bracket
      (take {c = c} {s = shape (form_of (codes ",")) false} Marks.comma tt _ _ comma_is
      (become (λ b h. subst (λ es. AreElements es b) (append_assoc model (None ∷ []) (tree_items xs)) h)
      (lead xs (model ++ (None ∷ [])) (so_far ++ (None ∷ [])) w (after c (shape (form_of (codes ",")) false)) rest nz (one_more model so_far None None same refl) ready)))))) (omega arith)
  lead (Some x ∷ []) model so_far w c rest nz same ready =
      exactly (on (ap (λ ps. tokens_from false ps ++ rest) (left_some x.printed))
      (one x nz so_far w c (closing (codes "]")) (shape (form_of (codes "]")) false) rest rest nz refl (omega (arith, right_bracket_joins true)) (ready_behind c.functions x.numbers [] nz ready) (λ y d is done.
      miss Marks.comma _ _ no_comma (expected Marks.right_bracket tt (λ _. give (so_far ++ (Some y ∷ []))) right_bracket_is
      (stays (so_far ++ (Some y ∷ [])) give (one_more model so_far (Some x.tree) (Some y) same (ap Some is.same)) done))))) (omega arith)
  lead (Some x ∷ (next_x ∷ xs)) model so_far w c rest nz same ready =
      exactly (let s : Shape = shape (form_of (codes ",")) false in
      let more = tokens_from false (left (printed_items (next_x ∷ xs))) ++ rest in
      on (ap (λ ps. tokens_from false ps ++ rest) (left_more (Some x.printed) (option_map (λ (x : Arg all). x.printed) next_x) (printed_items xs)))
      (one x nz so_far w c (closing (codes ",") ++ left (printed_items (next_x ∷ xs))) s more rest (numbers_items (next_x ∷ xs) ++ nz) refl (omega (arith, comma_joins true))
      (ready_behind c.functions x.numbers (numbers_items (next_x ∷ xs)) nz ready) (λ y d is done.
      take Marks.comma tt _ _ comma_is
      (become (λ b h. subst (λ es. AreElements es b) (append_assoc model (Some x.tree ∷ []) (tree_items (next_x ∷ xs))) h)
      (lead (next_x ∷ xs) (model ++ (Some x.tree ∷ [])) (so_far ++ (Some y ∷ [])) w (after d s) rest nz (one_more model so_far (Some x.tree) (Some y) same (ap Some is.same)) done))))) (omega arith)

-- ---- the literal

operand_array : {all : World} (w : Frame all) (c : Spot) (line : Bool) (zs : List Shape)
    → P.operand grammar (rest_of w c (shape (form_of (codes "[")) line ∷ zs)) ≡ P.array_behind grammar (c.supply 0).0 (rest_of w (after c (shape (form_of (codes "[")) line)) zs)
unfolding form_of reserved_word next P.enclosed_or_new
operand_array w c line zs = refl

-- the pieces of a literal
abbrev pub array_pieces : List (Option Printed) → List Piece
array_pieces items = ((opening (codes "[") ++ separated element items) ++ last_comma (ends_in_elision items)) ++ closing (codes "]")

array_first : (items : List (Option Printed)) → First (word_look false) (array_pieces items)
unfolding form_of reserved_word begins_none begins_unary begins_statement begins_other
array_first items = record {
  form = form_of (codes "[");
  more = tokens_from false (left items);
  is = λ line. refl;
  begins = refl;
  no_statement = refl;
  no_sign = λ l. refl;
  plain = λ s. refl;
}

-- there is a first token
record Opened (zs : List Shape) : Type 0 where
  s : Shape
  more : List Shape
  is : zs ≡ s ∷ more

module _ {all : World} where
  opened_left : (xs : List (Option (Arg all))) (rest : List Shape) → Opened (tokens_from false (left (printed_items xs)) ++ rest)
  opened_left [] rest = record { s = shape (form_of (codes "]")) false; more = rest; is = refl }
  opened_left (None ∷ xs) rest = record { s = shape (form_of (codes ",")) false; more = tokens_from false (left (printed_items xs)) ++ rest; is = ap (λ ps. tokens_from false ps ++ rest) (left_none (printed_items xs)) }
  opened_left (Some x ∷ []) rest =
      let f = x.fit.part.first in
      record {
        s = shape f.form false;
        more = f.more ++ (tokens_from false (closing (codes "]")) ++ rest);
        is = ap (λ ps. tokens_from false ps ++ rest) (left_some x.printed) ∙ spread (value x.printed) (closing (codes "]")) x.fit.part.flows false rest
            ∙ ap (λ zs. zs ++ (tokens_from false (closing (codes "]")) ++ rest)) (f.is false);
      }
  opened_left (Some x ∷ (next_x ∷ xs)) rest =
      let f = x.fit.part.first in
      let ps = closing (codes ",") ++ left (printed_items (next_x ∷ xs)) in
      record {
        s = shape f.form false;
        more = f.more ++ (tokens_from false ps ++ rest);
        is = ap (λ qs. tokens_from false qs ++ rest) (left_more (Some x.printed) (option_map (λ (x : Arg all). x.printed) next_x) (printed_items xs)) ∙ spread (value x.printed) ps x.fit.part.flows false rest
            ∙ ap (λ zs. zs ++ (tokens_from false ps ++ rest)) (f.is false);
      }

-- options are mapped by a function of Rattle's own, here g
same_option : (g : Option Expr → Option Expr) → g None ≡ None → ((x : Expr) → g (Some x) ≡ Some (unplaced.expr x)) → (o : Option Expr) → g o ≡ option_map unplaced.expr o
same_option g n s None = n
same_option g n s (Some x) = s x

array_same : (g : Option Expr → Option Expr) → g None ≡ None → ((x : Expr) → g (Some x) ≡ Some (unplaced.expr x)) → (es xs : Elements) → AreElements es xs → map g xs ≡ map g es
array_same g n s es xs h =
    let same : g ≡ option_map unplaced.expr = λ i o. same_option g n s o i in
    ap (λ f. map f xs) same ∙ h.same ∙ sym (ap (λ f. map f es) same)

module _ {all : World} (at : Place) (form : ExprForm) (low : Low all (record { at = at; form = form })) (xs : List (Option (Arg all))) where
  array_reads : out-ExprForm form ≡ ExprForm-F.ArrayLit (tree_items xs)
      → Read all (suc (bound_items xs)) (array_pieces (printed_items xs)) (numbers_items xs) (IsExpr (record { at = at; form = form })) anything (P.operand grammar) give
  unfolding P.array_behind
  array_reads is = record {
    at = λ w c line rest nz ready fits.
        exactly (let p = (c.supply 0).0 in
        let d = after c (shape (form_of (codes "[")) line) in
        let o = opened_left xs rest in
        from {d = d} (operand_array w c line (tokens_from false (left (printed_items xs)) ++ rest))
        (bind (parted o.is (lead xs [] [] (deeper w) d rest nz (record { same = refl }) (opens c.functions (numbers_items xs ++ nz) ready))) (λ ys f are done.
        finishes {c = f} p (e.ArrayLit ys) low (same_layers p at (e.ArrayLit ys) form _ _ (e.outs-ArrayLit ys) is (ap ExprForm-F.ArrayLit (array_same _ refl (λ x. refl) (tree_items xs) ys are))) done))) (omega arith);
  }

  pub array_part : {allows_in : Bool} → out-ExprForm form ≡ ExprForm-F.ArrayLit (tree_items xs)
      → Part all (suc (bound_items xs)) (word_look false) allows_in (array_pieces (printed_items xs)) (numbers_items xs) (record { at = at; form = form })
  array_part is = from_operand (flows_last ((opening (codes "[") ++ separated element (printed_items xs)) ++ last_comma (ends_in_elision (printed_items xs))) (closing (codes "]")) (flows_token (codes "]") true _))
      (array_first (printed_items xs)) (suc (bound_items xs)) (omega arith) (array_reads is)
