-- Members, calls and `new` (11.2).
use Rattle.std.proofs.Common.{◌≡◌, ℕ, Bool, true, false, List, ◌∷◌, ◌++◌, refl, ap, ◌∙◌, arith, suc, max}
use Rattle.std.specs.Prelude.{codes, Option, Some, None, Ok}
use Rattle.js_value.specs.declared.place.Place.{Place}
use Rattle.js_tree.specs.Lexing.{reserved_word}
use Rattle.js_tree.specs.declared.expression.Expr.{Expr}
use Rattle.js_tree.specs.declared.expression.ExprForm.{ExprForm, out-ExprForm}
use Rattle.js_tree.specs.declared.expression.ExprForm.TheOpen.{ExprForm-F}
use Rattle.js_tree.specs.declared.expression.ExprForm.TheVariants as e
use Rattle.js_grammar.specs.FunctionOrder.{Numbers}
use Rattle.js_grammar.specs.Marks
use Rattle.js_grammar.specs.Primary as P
use Rattle.js_grammar.specs.Reading.{grammar}
use Rattle.js_grammar.specs.Rest.{Rest, Reading, ◌>>=◌, give, finish, passed, of_first, next, repeat}
use Rattle.js_grammar.proofs.Laws.{repeated}
use Rattle.script_text.specs.Expressions.{name}
use Rattle.script_text.specs.Pieces.{Piece, closing, inner}
use Rattle.script_text.specs.Tokens.{Shape, shape, form_of, name_form, tokens_from}
use Rattle.reading_back.proofs.Claims.{Low, World, rest_of, deeper, Read, anything, IsExpr, Part, Fit}
use Rattle.reading_back.proofs.Marks.{joins}
use Rattle.reading_back.specs.Unplaced as unplaced
use Rattle.reading_back.proofs.Flowing.{flows_last, flows_token, spread}
use Rattle.reading_back.proofs.Groups.{expression_reads}
use Rattle.reading_back.proofs.Ladder.{from_calls}
use Rattle.reading_back.proofs.Names.{named_so}
use Rattle.reading_back.proofs.Same.{same_layers}
use Rattle.reading_back.proofs.Steps.{exactly, after, from, on, stays, chain, bind, expected, parted, opens, finishes}
use Rattle.reading_back.proofs.TwoOperands.{first_before, between, ready_behind}

-- ---- what goes on with a member or a call

member_dot : (calls : Bool) (again : Expr → Reading Expr) (x : Expr) (s : Rest) → of_first Marks.dot s.tokens ≡ Some tt → P.more_members grammar calls again x s ≡ (P.dotted_behind grammar x >>= again) (passed s)
unfolding next
member_dot calls again x s d = rw d refl

member_index : (calls : Bool) (again : Expr → Reading Expr) (x : Expr) (s : Rest) → of_first Marks.dot s.tokens ≡ None → of_first Marks.left_bracket s.tokens ≡ Some tt
    → P.more_members grammar calls again x s ≡ (P.index_behind grammar x >>= again) (passed s)
unfolding next
member_index calls again x s d b = rw (d, b) refl

pub member_call : (again : Expr → Reading Expr) (x : Expr) (s : Rest) → of_first Marks.dot s.tokens ≡ None → of_first Marks.left_bracket s.tokens ≡ None → of_first Marks.left_parenthesis s.tokens ≡ Some tt
    → P.more_members grammar true again x s ≡ (P.call_behind grammar x >>= again) (passed s)
unfolding next
member_call again x s d b p = rw (d, b, p) (rw p refl)

pub member_none : (again : Expr → Reading Expr) (x : Expr) (s : Rest) → of_first Marks.dot s.tokens ≡ None → of_first Marks.left_bracket s.tokens ≡ None
    → P.more_members grammar false again x s ≡ Ok (x, s)
unfolding next
member_none again x s d b = rw (d, b) refl

-- the marks that do
pub record Mark (text : List ℕ) (dot bracket parenthesis : Option (Unit {0})) : Type 0 where
  pub dot_is : Marks.dot (form_of text) ≡ dot
  pub bracket_is : Marks.left_bracket (form_of text) ≡ bracket
  pub parenthesis_is : Marks.left_parenthesis (form_of text) ≡ parenthesis

dot_mark : Mark (codes ".") (Some tt) None None
unfolding form_of reserved_word
dot_mark = record { dot_is = refl; bracket_is = refl; parenthesis_is = refl }

bracket_mark : Mark (codes "[") None (Some tt) None
unfolding form_of reserved_word
bracket_mark = record { dot_is = refl; bracket_is = refl; parenthesis_is = refl }

pub parenthesis_mark : Mark (codes "(") None None (Some tt)
unfolding form_of reserved_word
parenthesis_mark = record { dot_is = refl; bracket_is = refl; parenthesis_is = refl }

pub right_bracket_is : Marks.right_bracket (form_of (codes "]")) ≡ Some tt
unfolding form_of reserved_word
right_bracket_is = refl

pub right_bracket_joins : (allows_in : Bool) → joins allows_in (form_of (codes "]")) ≡ 0
unfolding form_of reserved_word joins
right_bracket_joins true = refl
right_bracket_joins false = refl

-- ---- members by names

abbrev pub dotted : List Piece → List ℕ → List Piece
dotted pb key = (pb ++ inner (codes ".")) ++ name key

module _ {all : World} {bb : ℕ} {allows_in sb : Bool} {pb : List Piece} {nb : Numbers} {b : Expr} (at : Place) (form : ExprForm) (low : Low all (record { at = at; form = form })) (key : List ℕ) (is : out-ExprForm form ≡ ExprForm-F.Member b key)
    (fb : Fit all bb 16 sb allows_in pb nb b) where
  member_reads : {m : Reading Expr} (k : Bool) → Read all bb pb nb (IsExpr b) anything m (repeat (P.more_members grammar k))
      → Read all bb (dotted pb key) nb (IsExpr (record { at = at; form = form })) anything m (repeat (P.more_members grammar k))
  member_reads k h = record {
    at = λ w c line rest nz ready fits.
        exactly (let dot : Shape = shape (form_of (codes ".")) false in
        let named : Shape = shape (name_form key) false in
        let again = repeat (P.more_members grammar k) in
        on (between pb (name key) (codes ".") true _ fb.part.flows line rest)
        (chain (h.at w c line (dot ∷ named ∷ rest) nz ready tt) (λ x d isb done.
        from (repeated.members k x (rest_of w d (dot ∷ named ∷ rest)) ∙ member_dot k again x (rest_of w d (dot ∷ named ∷ rest)) dot_mark.dot_is)
        (bind (expected {c = after d dot} {s = named} Marks.identifier_name key (λ key. finish x.at (e.Member x key)) (named_so key)
        (finishes x.at (e.Member x key) low (same_layers x.at at (e.Member x key) form _ _ (e.outs-Member x key) is (ap (λ y. ExprForm-F.Member y key) isb.same)) done)) (λ y f isy finished.
        stays {c = f} y again isy finished))))) (omega arith);
  }

  pub member_part : (calls : Bool) → (calls ≡ false → fb.look.calls ≡ false) → Part all bb (record { level = 16; calls = calls; starts = sb }) allows_in (dotted pb key) nb (record { at = at; form = form })
  member_part calls no_call = from_calls (flows_last (pb ++ inner (codes ".")) (name key) (record { at = λ line more. refl }))
      (first_before (pb ++ inner (codes ".")) (name key) (flows_last pb (inner (codes ".")) (flows_token (codes ".") true _)) (λ l. l) (λ s. s)
      (first_before {other = record { level = 16; calls = calls; starts = sb }} pb (inner (codes ".")) fb.part.flows (λ l. omega (arith, fb.enough)) fb.plain fb.part.first))
      bb refl (member_reads true (fb.part.calls fb.enough)) (λ c. member_reads false (fb.part.members fb.enough (no_call c)))

-- ---- members by expressions

abbrev pub indexed : List Piece → List Piece → List Piece
indexed pb pk = pb ++ ((inner (codes "[") ++ pk) ++ closing (codes "]"))

module _ {all : World} {bb bk : ℕ} {allows_in sb sk : Bool} {pb pk : List Piece} {nb nk : Numbers} {b k : Expr} (at : Place) (form : ExprForm) (low : Low all (record { at = at; form = form })) (is : out-ExprForm form ≡ ExprForm-F.Index b k)
    (fb : Fit all bb 16 sb allows_in pb nb b) (fk : Fit all bk 1 sk true pk nk k) where
  split_index : (line : Bool) (rest : List Shape) → tokens_from line (indexed pb pk) ++ rest ≡ tokens_from line pb ++ (shape (form_of (codes "[")) false ∷ (tokens_from false pk ++ (shape (form_of (codes "]")) false ∷ rest)))
  split_index line rest =
      spread pb ((inner (codes "[") ++ pk) ++ closing (codes "]")) fb.part.flows line rest
      ∙ ap (λ zs. tokens_from line pb ++ (shape (form_of (codes "[")) false ∷ zs)) (spread pk (closing (codes "]")) fk.part.flows false rest)

  index_reads : {m : Reading Expr} (calls : Bool) → Read all bb pb nb (IsExpr b) anything m (repeat (P.more_members grammar calls))
      → Read all (max bb (suc bk)) (indexed pb pk) (nb ++ nk) (IsExpr (record { at = at; form = form })) anything m (repeat (P.more_members grammar calls))
  index_reads calls h = record {
    at = λ w c line rest nz ready fits.
        exactly (let left : Shape = shape (form_of (codes "[")) false in
        let right : Shape = shape (form_of (codes "]")) false in
        let inside = tokens_from false pk ++ (right ∷ rest) in
        let again = repeat (P.more_members grammar calls) in
        on (split_index line rest)
        (chain (h.at w c line (left ∷ inside) (nk ++ nz) (ready_behind c.functions nb nk nz ready) tt) (λ x d isb readyb.
        from (repeated.members calls x (rest_of w d (left ∷ inside)) ∙ member_index calls again x (rest_of w d (left ∷ inside)) bracket_mark.dot_is bracket_mark.bracket_is)
        (bind
        (bind
        (parted (ap (λ zs. zs ++ (right ∷ rest)) (fk.part.first.is false))
        (bind ((expression_reads fk.part).at (deeper w) (after d left) false (right ∷ rest) nz (opens d.functions (nk ++ nz) readyb) (omega (arith, right_bracket_joins true))) (λ y f isk readyk.
        expected Marks.right_bracket tt (λ _. give y) right_bracket_is (stays y give isk readyk))))
        (λ y f isk readyk.
        finishes x.at (e.Index x y) low (same_layers x.at at (e.Index x y) form _ _ (e.outs-Index x y) is
        (ap (λ z. ExprForm-F.Index z (unplaced.expr y)) isb.same ∙ ap (λ z. ExprForm-F.Index (unplaced.expr b) z) isk.same)) readyk))
        (λ y f isy finished. stays {c = f} y again isy finished))))) (omega arith);
  }

  pub index_part : (calls : Bool) → (calls ≡ false → fb.look.calls ≡ false) → Part all (max bb (suc bk)) (record { level = 16; calls = calls; starts = sb }) allows_in (indexed pb pk) (nb ++ nk) (record { at = at; form = form })
  index_part calls no_call = from_calls (flows_last pb ((inner (codes "[") ++ pk) ++ closing (codes "]")) (flows_last (inner (codes "[") ++ pk) (closing (codes "]")) (flows_token (codes "]") true _)))
      (first_before {other = record { level = 16; calls = calls; starts = sb }} pb ((inner (codes "[") ++ pk) ++ closing (codes "]")) fb.part.flows (λ l. omega (arith, fb.enough)) fb.plain fb.part.first)
      (max bb (suc bk)) refl (index_reads true (fb.part.calls fb.enough)) (λ c. index_reads false (fb.part.members fb.enough (no_call c)))
