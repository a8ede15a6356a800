-- Calls and `new` with their arguments (11.2.2 to 11.2.4).
use Rattle.std.proofs.Common.{◌≡◌, ℕ, ◌+◌, Bool, true, false, List, [], ◌∷◌, ◌++◌, map, refl, ap, sym, ◌∙◌, subst, arith, append_assoc, suc, max}
use Rattle.std.specs.Prelude.{codes, None}
use Rattle.std.proofs.lemmas.List.{map-append}
use Rattle.js_value.specs.declared.place.Place.{Place}
use Rattle.js_tree.specs.Lexing.{reserved_word}
use Rattle.js_tree.specs.Mentions.{joined}
use Rattle.js_tree.specs.declared.expression.Expr.{Expr}
use Rattle.js_tree.specs.declared.expression.ExprForm.{ExprForm, out-ExprForm}
use Rattle.js_tree.specs.declared.expression.ExprForm.TheOpen.{ExprForm-F}
use Rattle.js_tree.specs.declared.expression.ExprForm.TheVariants as e
use Rattle.js_grammar.specs.FunctionOrder.{Numbers}
use Rattle.js_grammar.specs.Marks
use Rattle.js_grammar.specs.Primary as P
use Rattle.js_grammar.specs.Reading.{grammar}
use Rattle.js_grammar.specs.Rest.{◌>>◌, give, expect, next, repeat}
use Rattle.js_grammar.proofs.Laws.{repeated, tied}
use Rattle.script_text.specs.Expressions.{Printed, starts_at, value, in_parentheses}
use Rattle.script_text.specs.Pieces.{Piece, closing, inner, word, separated, behind_commas}
use Rattle.script_text.specs.Tokens.{Shape, shape, form_of, tokens_from}
use Rattle.reading_back.proofs.Claims.{Low, World, Frame, Spot, rest_of, deeper, Leads, Ready, Read, anything, below, First, Look, IsExpr, Part, Fit}
use Rattle.reading_back.proofs.Marks.{begins_none, begins_unary, begins_statement, begins_other}
use Rattle.reading_back.specs.Unplaced as unplaced
use Rattle.reading_back.proofs.Flowing.{flows_last, flows_token, spread}
use Rattle.reading_back.proofs.Joining.{begins}
use Rattle.reading_back.proofs.Ladder.{from_calls, from_operand}
use Rattle.reading_back.proofs.LooseOperators.{assignment_reads, comma_is, comma_joins}
use Rattle.reading_back.proofs.Groups.{right_parenthesis_joins, right_parenthesis_is}
use Rattle.reading_back.proofs.Members.{member_call, member_none, parenthesis_mark}
use Rattle.reading_back.proofs.Same.{same_layers}
use Rattle.script_nesting.specs.Opened as depth
use Rattle.script_nesting.specs.Opened.{Deep}
use Rattle.script_nesting.specs.Highest.{highest}
use Rattle.reading_back.proofs.Steps.{exactly, after, first_of_shapes, from, on, become, stays, chain, bind, take, miss, expected, parted, opens, finishes}
use Rattle.reading_back.proofs.TwoOperands.{first_before, ready_behind}

-- ---- arguments

-- the same but for places
pub record AreExprs (es xs : List Expr) : Type 0 where
  pub same : map unplaced.expr xs ≡ map unplaced.expr es

-- an expression in a list of them, as it is printed
pub record Arg (all : World) : Type 0 where
  pub printed : Printed
  pub numbers : Numbers
  pub tree : Expr
  pub opened : Bool → ℕ
  pub fit : Fit all (depth.value (record { printed = printed; opened = opened })) 2 (starts_at 2 printed) true (value printed) numbers tree

module _ {all : World} where
  abbrev pub deep_of : Arg all → Deep
  deep_of x = record { printed = x.printed; opened = x.opened }

  abbrev pub deep_all : List (Arg all) → List Deep
  deep_all xs = map deep_of xs

  abbrev pub bounds : List (Arg all) → ℕ
  bounds xs = highest (map depth.value (deep_all xs))

  abbrev pub printed_all : List (Arg all) → List Printed
  printed_all xs = map (λ (x : Arg all). x.printed) xs

  abbrev pub numbers_all : List (Arg all) → Numbers
  numbers_all xs = joined (map (λ (x : Arg all). x.numbers) xs)

  abbrev pub trees : List (Arg all) → List Expr
  trees xs = map (λ (x : Arg all). x.tree) xs

-- one more
pub are_more : (model so_far : List Expr) (e y : Expr) → AreExprs model so_far → IsExpr e y → AreExprs (model ++ (e ∷ [])) (so_far ++ (y ∷ []))
are_more model so_far e y h is = record {
  same =
      map-append unplaced.expr so_far (y ∷ []) ∙ ap (λ zs. zs ++ (unplaced.expr y ∷ [])) h.same ∙ ap (λ z. map unplaced.expr model ++ (z ∷ [])) is.same
      ∙ sym (map-append unplaced.expr model (e ∷ []));
}

pub right_parenthesis_no_comma : Marks.comma (form_of (codes ")")) ≡ None
unfolding form_of reserved_word
right_parenthesis_no_comma = refl

module _ {all : World} where
  -- what stands behind an argument
  abbrev tail : List (Arg all) → List Piece
  tail xs = behind_commas value (printed_all xs) ++ closing (codes ")")

  abbrev LeadsOn : List (Arg all) → Type 0
  LeadsOn xs =
      (x : Arg all) (model so_far : List Expr) (w : Frame all) (c : Spot) (line : Bool) (rest : List Shape) (nz : Numbers) → AreExprs model so_far
      → Ready w c.functions (numbers_all (x ∷ xs) ++ nz)
      → Leads (w.opened + bounds (x ∷ xs)) w nz (AreExprs (model ++ trees (x ∷ xs))) c (tokens_from line (value x.printed ++ tail xs) ++ rest) rest (repeat (P.more_arguments grammar) so_far) give

  -- an argument, and then what follows it
  one : (x : Arg all) (xs : List (Arg all)) (so_far : List Expr) (w : Frame all) (c : Spot) (line : Bool) (rest middle : List Shape) (nz : Numbers) {Js : List Expr → Type 0} {l : ℕ}
      → tokens_from false (tail xs) ++ rest ≡ middle → below true 2 middle → Ready w c.functions (x.numbers ++ (numbers_all xs ++ nz))
      → ((y : Expr) (d : Spot) → IsExpr x.tree y → Ready w d.functions (numbers_all xs ++ nz) → Leads l w nz Js d middle rest
      (next Marks.comma (λ _. repeat (P.more_arguments grammar) (so_far ++ (y ∷ []))) (expect Marks.right_parenthesis >> give (so_far ++ (y ∷ [])))) give)
      → Leads (max (w.opened + depth.value (deep_of x)) l) w nz Js c (tokens_from line (value x.printed ++ tail xs) ++ rest) rest (repeat (P.more_arguments grammar) so_far) give
  one x xs so_far w c line rest middle nz is fits ready go =
      from (repeated.arguments so_far (rest_of w c (tokens_from line (value x.printed ++ tail xs) ++ rest)))
      (on (spread (value x.printed) (tail xs) x.fit.part.flows line rest ∙ ap (λ zs. tokens_from line (value x.printed) ++ zs) is)
      (bind ((assignment_reads x.fit).at w c line middle (numbers_all xs ++ nz) ready fits) go))

  lead : (xs : List (Arg all)) → LeadsOn xs
  lead [] x model so_far w c line rest nz same ready =
      exactly (one x [] so_far w c line rest (shape (form_of (codes ")")) false ∷ rest) nz refl (omega (arith, right_parenthesis_joins true)) (ready_behind c.functions x.numbers [] nz ready) (λ y d is done.
      miss Marks.comma _ _ right_parenthesis_no_comma (expected Marks.right_parenthesis tt (λ _. give (so_far ++ (y ∷ []))) right_parenthesis_is
      (stays (so_far ++ (y ∷ [])) give (are_more model so_far x.tree y same is) done)))) (omega arith)
  lead (next_x ∷ xs) x model so_far w c line rest nz same ready =
      exactly (one x (next_x ∷ xs) so_far w c line rest (shape (form_of (codes ",")) false ∷ (tokens_from false (value next_x.printed ++ tail xs) ++ rest)) nz
      (ap (λ ps. shape (form_of (codes ",")) false ∷ (tokens_from false ps ++ rest)) (append_assoc (value next_x.printed) (behind_commas value (printed_all xs)) (closing (codes ")"))))
      (omega (arith, comma_joins true)) (ready_behind c.functions x.numbers (numbers_all (next_x ∷ xs)) nz ready) (λ y d is done.
      take Marks.comma tt _ _ comma_is
      (become (λ b h. subst (λ es. AreExprs es b) (append_assoc model (x.tree ∷ []) (trees (next_x ∷ xs))) h)
      (lead xs next_x (model ++ (x.tree ∷ [])) (so_far ++ (y ∷ [])) w (after d (shape (form_of (codes ",")) false)) false rest nz (are_more model so_far x.tree y same is) done)))) (omega arith)

  -- 11.2.4: arguments in their parentheses, behind the first
  pub arguments_lead : (xs : List (Arg all)) (w : Frame all) (c : Spot) (rest : List Shape) (nz : Numbers) → Ready w c.functions (numbers_all xs ++ nz)
      → Leads (w.opened + suc (bounds xs)) w nz (AreExprs (trees xs)) c (tokens_from false (separated value (printed_all xs) ++ closing (codes ")")) ++ rest) rest (P.arguments_behind grammar) give
  unfolding P.arguments_behind
  arguments_lead [] w c rest nz ready =
      exactly (parted refl (take Marks.right_parenthesis tt _ _ right_parenthesis_is (stays [] give (record { same = refl }) (opens c.functions nz ready)))) (omega arith)
  arguments_lead (x ∷ xs) w c rest nz ready =
      exactly (let all_there = append_assoc (value x.printed) (behind_commas value (printed_all xs)) (closing (codes ")")) in
      let spreads = spread (value x.printed) (tail xs) x.fit.part.flows false rest in
      let f = x.fit.part.first in
      on (ap (λ ps. tokens_from false ps ++ rest) all_there)
      (parted (spreads ∙ ap (λ zs. zs ++ (tokens_from false (tail xs) ++ rest)) (f.is false))
      (miss Marks.right_parenthesis _ _ (ap (first_of_shapes Marks.right_parenthesis) (spreads ∙ ap (λ zs. zs ++ (tokens_from false (tail xs) ++ rest)) (f.is false)) ∙ (begins f.form f.begins).right_parenthesis)
      (lead xs x [] [] (deeper w) c false rest nz (record { same = refl }) (opens c.functions (numbers_all (x ∷ xs) ++ nz) ready))))) (omega arith)

-- ---- calls

module _ {all : World} {bb : ℕ} {allows_in sb : Bool} {pb : List Piece} {nb : Numbers} {b : Expr} (at : Place) (form : ExprForm) (low : Low all (record { at = at; form = form })) (xs : List (Arg all)) where
  call_reads : out-ExprForm form ≡ ExprForm-F.Call b (trees xs) → (fb : Fit all bb 16 sb allows_in pb nb b)
      → Read all (max bb (suc (bounds xs))) (pb ++ in_parentheses (separated value (printed_all xs))) (nb ++ numbers_all xs) (IsExpr (record { at = at; form = form })) anything
      (P.left_hand_side grammar) (repeat (P.more_members grammar true))
  call_reads is fb = record {
    at = λ w c line rest nz ready fits.
        exactly (let left : Shape = shape (form_of (codes "(")) false in
        let inside = tokens_from false (separated value (printed_all xs) ++ closing (codes ")")) ++ rest in
        let again = repeat (P.more_members grammar true) in
        on (spread pb (in_parentheses (separated value (printed_all xs))) fb.part.flows line rest)
        (chain ((fb.part.calls fb.enough).at w c line (left ∷ inside) (numbers_all xs ++ nz) (ready_behind c.functions nb (numbers_all xs) nz ready) tt) (λ x d isb readyb.
        let s = rest_of w d (left ∷ inside) in
        from (repeated.members true x s ∙ member_call again x s parenthesis_mark.dot_is parenthesis_mark.bracket_is parenthesis_mark.parenthesis_is)
        (bind (bind (arguments_lead xs w (after d left) rest nz readyb) (λ ys f are readyk.
        finishes x.at (e.Call x ys) low (same_layers x.at at (e.Call x ys) form _ _ (e.outs-Call x ys) is
        (ap (λ z. ExprForm-F.Call z (map unplaced.expr ys)) isb.same ∙ ap (λ zs. ExprForm-F.Call (unplaced.expr b) zs) are.same)) readyk)) (λ y f isy finished.
        stays {c = f} y again isy finished))))) (omega arith);
  }

  pub call_part : out-ExprForm form ≡ ExprForm-F.Call b (trees xs) → Fit all bb 16 sb allows_in pb nb b
      → Part all (max bb (suc (bounds xs))) (record { level = 16; calls = true; starts = sb }) allows_in (pb ++ in_parentheses (separated value (printed_all xs))) (nb ++ numbers_all xs) (record { at = at; form = form })
  call_part is fb =
      let args = separated value (printed_all xs) in
      from_calls (flows_last pb (in_parentheses args) (flows_last (inner (codes "(") ++ args) (closing (codes ")")) (flows_token (codes ")") true _)))
      (first_before {other = record { level = 16; calls = true; starts = sb }} pb (in_parentheses args) fb.part.flows (λ l. omega (arith, fb.enough)) fb.plain fb.part.first)
      (max bb (suc (bounds xs))) refl (call_reads is fb) (λ c. absurd (cc))

-- ---- new

operand_new : {all : World} (w : Frame all) (c : Spot) (line : Bool) (zs : List Shape)
    → P.operand grammar (rest_of w c (shape (form_of (codes "new")) line ∷ zs)) ≡ P.new_behind grammar (c.supply 0).0 (rest_of w (after c (shape (form_of (codes "new")) line)) zs)
unfolding form_of reserved_word next P.enclosed_or_new P.new_or_none
operand_new w c line zs = refl

abbrev pub new_look : Look
new_look = record { level = 16; calls = false; starts = false }

abbrev pub new_pieces : List Piece → List Piece → List Piece
new_pieces pb args = (word (codes "new") ++ pb) ++ in_parentheses args

new_first : (pb args : List Piece) → First new_look (new_pieces pb args)
unfolding form_of reserved_word begins_none begins_unary begins_statement begins_other
new_first pb args = record {
  form = form_of (codes "new");
  more = tokens_from false (pb ++ in_parentheses args);
  is = λ line. refl;
  begins = refl;
  no_statement = refl;
  no_sign = λ l. refl;
  plain = λ l. refl;
}

module _ {all : World} {bb : ℕ} {allows_in sb : Bool} {pb : List Piece} {nb : Numbers} {b : Expr} (at : Place) (form : ExprForm) (low : Low all (record { at = at; form = form })) (xs : List (Arg all)) where
  new_reads : out-ExprForm form ≡ ExprForm-F.New b (trees xs) → (fb : Fit all bb 16 sb allows_in pb nb b) → fb.look.calls ≡ false
      → Read all (max bb (suc (bounds xs))) (new_pieces pb (separated value (printed_all xs))) (nb ++ numbers_all xs) (IsExpr (record { at = at; form = form })) anything (P.operand grammar) give
  unfolding P.new_behind
  new_reads is fb no_call = record {
    at = λ w c line rest nz ready fits.
        exactly (let left : Shape = shape (form_of (codes "(")) false in
        let d = after c (shape (form_of (codes "new")) line) in
        let args = separated value (printed_all xs) in
        let inside = tokens_from false (args ++ closing (codes ")")) ++ rest in
        let spreads = spread pb (in_parentheses args) fb.part.flows false rest in
        from {d = d} (operand_new w c line (tokens_from false (pb ++ in_parentheses args) ++ rest))
        (on spreads
        (bind {m = grammar.member} (from (tied.member (rest_of w d (tokens_from false pb ++ (left ∷ inside))))
        (chain ((fb.part.members fb.enough no_call).at w d false (left ∷ inside) (numbers_all xs ++ nz) (ready_behind d.functions nb (numbers_all xs) nz ready) tt) (λ x f isb readyb.
        from (repeated.members false x (rest_of w f (left ∷ inside)) ∙ member_none (repeat (P.more_members grammar false)) x (rest_of w f (left ∷ inside)) parenthesis_mark.dot_is parenthesis_mark.bracket_is)
        (stays {c = f} x give isb readyb))))
        (λ x f isb readyb.
        bind (take {c = f} {s = left} Marks.left_parenthesis tt (λ _. P.arguments_behind grammar) (give []) parenthesis_mark.parenthesis_is (arguments_lead xs w (after f left) rest nz readyb)) (λ ys g are readyk.
        finishes (c.supply 0).0 (e.New x ys) low (same_layers (c.supply 0).0 at (e.New x ys) form _ _ (e.outs-New x ys) is
        (ap (λ z. ExprForm-F.New z (map unplaced.expr ys)) isb.same ∙ ap (λ zs. ExprForm-F.New (unplaced.expr b) zs) are.same)) readyk))))) (omega arith);
  }

  pub new_part : out-ExprForm form ≡ ExprForm-F.New b (trees xs) → (fb : Fit all bb 16 sb allows_in pb nb b) → fb.look.calls ≡ false
      → Part all (max bb (suc (bounds xs))) new_look allows_in (new_pieces pb (separated value (printed_all xs))) (nb ++ numbers_all xs) (record { at = at; form = form })
  new_part is fb no_call =
      let args = separated value (printed_all xs) in
      from_operand (flows_last (word (codes "new") ++ pb) (in_parentheses args) (flows_last (inner (codes "(") ++ args) (closing (codes ")")) (flows_token (codes ")") true _)))
      (new_first pb args) (max bb (suc (bounds xs))) (omega arith) (new_reads is fb no_call)
