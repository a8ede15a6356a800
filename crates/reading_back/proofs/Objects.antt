-- Object literals (11.1.5).
use Rattle.std.proofs.Common.{◌≡◌, ℕ, ◌+◌, Bool, true, false, List, [], ◌∷◌, ◌++◌, map, refl, ap, sym, ◌∙◌, subst, arith, append_assoc, max}
use Rattle.std.specs.Prelude.{codes, Some, None}
use Rattle.std.proofs.lemmas.List.{map-append}
use Rattle.js_value.specs.declared.place.Place.{Place}
use Rattle.js_tree.specs.Lexing.{reserved_word}
use Rattle.js_tree.specs.Mentions.{joined}
use Rattle.js_tree.specs.declared.expression.ExprForm.{ExprForm, out-ExprForm}
use Rattle.js_tree.specs.declared.expression.ExprForm.TheOpen.{ExprForm-F}
use Rattle.js_tree.specs.declared.expression.ExprForm.TheVariants as e
use Rattle.js_tree.specs.declared.expression.Field.{Field}
use Rattle.js_grammar.specs.FunctionOrder.{Numbers}
use Rattle.js_grammar.specs.Marks
use Rattle.js_grammar.specs.Primary as P
use Rattle.js_grammar.specs.Reading.{grammar}
use Rattle.js_grammar.specs.Rest.{◌>>◌, give, next, expect, repeat}
use Rattle.js_grammar.proofs.Laws.{repeated}
use Rattle.script_text.specs.Pieces.{Piece, opening, closing, separated, behind_commas}
use Rattle.script_text.specs.Tokens.{Shape, shape, form_of, tokens_from}
use Rattle.reading_back.proofs.Claims.{Low, World, Frame, Spot, rest_of, Leads, Ready, Read, anything, below, First, IsExpr, IsField, Part, FieldPart}
use Rattle.reading_back.proofs.Marks.{joins, begins_none, begins_unary, begins_statement, begins_other}
use Rattle.reading_back.specs.Unplaced as unplaced
use Rattle.reading_back.proofs.Flowing.{flows_last, flows_token, spread}
use Rattle.reading_back.proofs.Ladder.{from_operand}
use Rattle.reading_back.proofs.LooseOperators.{comma_is, comma_joins}
use Rattle.reading_back.proofs.Same.{same_layers}
use Rattle.script_nesting.specs.Highest.{highest}
use Rattle.reading_back.proofs.Steps.{exactly, after, first_of_shapes, from, on, become, stays, bind, take, miss, expected, finishes}
use Rattle.reading_back.proofs.TwoOperands.{ready_behind}
use Rattle.reading_back.proofs.Words.{word_look}

-- the same but for places
pub record AreFields (fs xs : List Field) : Type 0 where
  pub same : map unplaced.field xs ≡ map unplaced.field fs

one_more : (model so_far : List Field) (f x : Field) → AreFields model so_far → IsField f x → AreFields (model ++ (f ∷ [])) (so_far ++ (x ∷ []))
one_more model so_far f x h is = record {
  same =
      map-append unplaced.field so_far (x ∷ []) ∙ ap (λ zs. zs ++ (unplaced.field x ∷ [])) h.same ∙ ap (λ z. map unplaced.field model ++ (z ∷ [])) is.same
      ∙ sym (map-append unplaced.field model (f ∷ []));
}

-- a property in a literal, as it is printed
pub record Property (all : World) : Type 0 where
  pub pieces : List Piece
  pub numbers : Numbers
  pub tree : Field
  pub bound : ℕ
  pub part : FieldPart all bound pieces numbers tree

right_brace_is : Marks.right_brace (form_of (codes "}")) ≡ Some tt
unfolding form_of reserved_word
right_brace_is = refl

right_brace_no_comma : Marks.comma (form_of (codes "}")) ≡ None
unfolding form_of reserved_word
right_brace_no_comma = refl

right_brace_joins : (allows_in : Bool) → joins allows_in (form_of (codes "}")) ≡ 0
unfolding form_of reserved_word joins
right_brace_joins true = refl
right_brace_joins false = refl

module _ {all : World} where
  abbrev pub bounds : List (Property all) → ℕ
  bounds xs = highest (map (λ (x : Property all). x.bound) xs)

  abbrev pub pieces_all : List (Property all) → List (List Piece)
  pieces_all xs = map (λ (x : Property all). x.pieces) xs

  abbrev pub numbers_all : List (Property all) → Numbers
  numbers_all xs = joined (map (λ (x : Property all). x.numbers) xs)

  abbrev pub trees : List (Property all) → List Field
  trees xs = map (λ (x : Property all). x.tree) xs

  abbrev behind : List (Property all) → List Piece
  behind xs = behind_commas (λ f. f) (pieces_all xs)

  -- what stands behind a property
  abbrev tail : List (Property all) → List Piece
  tail xs = behind xs ++ closing (codes "}")

  abbrev LeadsOn : List (Property all) → Type 0
  LeadsOn xs =
      (x : Property all) (model so_far : List Field) (w : Frame all) (c : Spot) (rest : List Shape) (nz : Numbers) → AreFields model so_far
      → Ready w c.functions (numbers_all (x ∷ xs) ++ nz)
      → Leads (w.opened + bounds (x ∷ xs)) w nz (AreFields (model ++ trees (x ∷ xs))) c (tokens_from false (x.pieces ++ tail xs) ++ rest) rest (repeat (P.more_fields grammar) so_far) give

  -- a property, and then what follows it
  one : (x : Property all) (xs : List (Property all)) (so_far : List Field) (w : Frame all) (c : Spot) (rest middle : List Shape) (nz : Numbers) {Js : List Field → Type 0} {l : ℕ}
      → tokens_from false (tail xs) ++ rest ≡ middle → below true 2 middle → Ready w c.functions (x.numbers ++ (numbers_all xs ++ nz))
      → ((y : Field) (d : Spot) → IsField x.tree y → Ready w d.functions (numbers_all xs ++ nz) → Leads l w nz Js d middle rest
      (next Marks.comma (λ _. repeat (P.more_fields grammar) (so_far ++ (y ∷ []))) (expect Marks.right_brace >> give (so_far ++ (y ∷ [])))) give)
      → Leads (max (w.opened + x.bound) l) w nz Js c (tokens_from false (x.pieces ++ tail xs) ++ rest) rest (repeat (P.more_fields grammar) so_far) give
  one x xs so_far w c rest middle nz is fits ready go =
      let p = x.part in
      on (spread x.pieces (tail xs) p.flows false rest ∙ ap (λ zs. tokens_from false x.pieces ++ zs) is)
      (from (repeated.fields so_far (rest_of w c (tokens_from false x.pieces ++ middle)))
      (miss Marks.right_brace _ _ (ap (first_of_shapes Marks.right_brace) (ap (λ zs. zs ++ middle) (p.is false)) ∙ p.begins)
      (bind (p.reads.at w c false middle (numbers_all xs ++ nz) ready fits) go)))

  lead : (xs : List (Property all)) → LeadsOn xs
  lead [] x model so_far w c rest nz same ready =
      exactly (one x [] so_far w c rest (shape (form_of (codes "}")) false ∷ rest) nz refl (omega (arith, right_brace_joins true)) (ready_behind c.functions x.numbers [] nz ready) (λ y d is done.
      miss Marks.comma _ _ right_brace_no_comma (expected Marks.right_brace tt (λ _. give (so_far ++ (y ∷ []))) right_brace_is
      (stays (so_far ++ (y ∷ [])) give (one_more model so_far x.tree y same is) done)))) (omega arith)
  lead (next_x ∷ xs) x model so_far w c rest nz same ready =
      exactly (one x (next_x ∷ xs) so_far w c rest (shape (form_of (codes ",")) false ∷ (tokens_from false (next_x.pieces ++ tail xs) ++ rest)) nz
      (ap (λ ps. shape (form_of (codes ",")) false ∷ (tokens_from false ps ++ rest)) (append_assoc next_x.pieces (behind xs) (closing (codes "}"))))
      (omega (arith, comma_joins true)) (ready_behind c.functions x.numbers (numbers_all (next_x ∷ xs)) nz ready) (λ y d is done.
      take Marks.comma tt _ _ comma_is
      (become (λ b h. subst (λ fs. AreFields fs b) (append_assoc model (x.tree ∷ []) (trees (next_x ∷ xs))) h)
      (lead xs next_x (model ++ (x.tree ∷ [])) (so_far ++ (y ∷ [])) w (after d (shape (form_of (codes ",")) false)) rest nz (one_more model so_far x.tree y same is) done)))) (omega arith)

  fields_lead : (xs : List (Property all)) (w : Frame all) (c : Spot) (rest : List Shape) (nz : Numbers) → Ready w c.functions (numbers_all xs ++ nz)
      → Leads (w.opened + bounds xs) w nz (AreFields (trees xs)) c (tokens_from false (separated (λ f. f) (pieces_all xs) ++ closing (codes "}")) ++ rest) rest (repeat (P.more_fields grammar) []) give
  fields_lead [] w c rest nz ready =
      exactly (from (repeated.fields [] (rest_of w c (shape (form_of (codes "}")) false ∷ rest)))
      (take {c = c} {s = shape (form_of (codes "}")) false} Marks.right_brace tt _ _ right_brace_is (stays [] give (record { same = refl }) ready))) (omega arith)
  fields_lead (x ∷ xs) w c rest nz ready =
      exactly (on (ap (λ ps. tokens_from false ps ++ rest) (append_assoc x.pieces (behind xs) (closing (codes "}"))))
      (lead xs x [] [] w c rest nz (record { same = refl }) ready)) (omega arith)

-- ---- the literal

operand_object : {all : World} (w : Frame all) (c : Spot) (line : Bool) (zs : List Shape)
    → P.operand grammar (rest_of w c (shape (form_of (codes "{")) line ∷ zs)) ≡ P.object_behind grammar (c.supply 0).0 (rest_of w (after c (shape (form_of (codes "{")) line)) zs)
unfolding form_of reserved_word next P.enclosed_or_new
operand_object w c line zs = refl

abbrev pub object_pieces : List (List Piece) → List Piece
object_pieces fields = (opening (codes "{") ++ separated (λ f. f) fields) ++ closing (codes "}")

object_first : (fields : List (List Piece)) → First (word_look true) (object_pieces fields)
unfolding form_of reserved_word begins_none begins_unary begins_statement begins_other
object_first fields = record {
  form = form_of (codes "{");
  more = tokens_from false (separated (λ f. f) fields ++ closing (codes "}"));
  is = λ line. refl;
  begins = refl;
  no_statement = refl;
  no_sign = λ l. refl;
  plain = λ s. absurd (cc);
}

module _ {all : World} (at : Place) (form : ExprForm) (low : Low all (record { at = at; form = form })) (xs : List (Property all)) where
  object_reads : out-ExprForm form ≡ ExprForm-F.ObjectLit (trees xs)
      → Read all (bounds xs) (object_pieces (pieces_all xs)) (numbers_all xs) (IsExpr (record { at = at; form = form })) anything (P.operand grammar) give
  unfolding P.object_behind
  object_reads is = record {
    at = λ w c line rest nz ready fits.
        exactly (let p = (c.supply 0).0 in
        let d = after c (shape (form_of (codes "{")) line) in
        from {d = d} (operand_object w c line (tokens_from false (separated (λ f. f) (pieces_all xs) ++ closing (codes "}")) ++ rest))
        (bind (fields_lead xs w d rest nz ready) (λ ys f are done.
        finishes {c = f} p (e.ObjectLit ys) low (same_layers p at (e.ObjectLit ys) form _ _ (e.outs-ObjectLit ys) is (ap ExprForm-F.ObjectLit are.same)) done))) (omega arith);
  }

  pub object_part : {allows_in : Bool} → out-ExprForm form ≡ ExprForm-F.ObjectLit (trees xs)
      → Part all (bounds xs) (word_look true) allows_in (object_pieces (pieces_all xs)) (numbers_all xs) (record { at = at; form = form })
  object_part is = from_operand (flows_last (opening (codes "{") ++ separated (λ f. f) (pieces_all xs)) (closing (codes "}")) (flows_token (codes "}") true _))
      (object_first (pieces_all xs)) (bounds xs) (omega arith) (object_reads is)
