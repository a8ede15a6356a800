-- `for`-`in` (12.6.4).
use Rattle.std.proofs.Common.{◌≡◌, ℕ, ◌+◌, Bool, true, false, List, [], ◌∷◌, ◌++◌, refl, ap, sym, ◌∙◌, subst, arith, append_assoc, suc, max}
use Rattle.std.specs.Prelude.{codes, Some, None}
use Rattle.js_value.specs.declared.place.Place.{Place}
use Rattle.js_tree.specs.Lexing.{reserved_word}
use Rattle.js_tree.specs.Refusals.{place}
use Rattle.js_tree.specs.declared.expression.Expr.{Expr}
use Rattle.js_tree.specs.declared.statement.ForTarget.{ForTarget}
use Rattle.js_tree.specs.declared.statement.ForTarget.TheVariants as target
use Rattle.js_tree.specs.declared.statement.Name.{Name}
use Rattle.js_tree.specs.declared.statement.Stmt.{Stmt}
use Rattle.js_tree.specs.declared.statement.StmtForm.{StmtForm, out-StmtForm}
use Rattle.js_tree.specs.declared.statement.StmtForm.TheOpen.{StmtForm-F}
use Rattle.js_tree.specs.declared.statement.StmtForm.TheVariants as s
use Rattle.js_grammar.specs.Expressions as E
use Rattle.js_grammar.specs.FunctionOrder.{Numbers}
use Rattle.js_grammar.specs.Marks
use Rattle.js_grammar.specs.Reading.{grammar}
use Rattle.js_grammar.specs.Rest.{give}
use Rattle.js_grammar.specs.Statements as S
use Rattle.script_text.specs.Expressions.{name}
use Rattle.script_text.specs.Pieces.{Piece, word, opening, closing}
use Rattle.script_text.specs.Tokens.{Shape, shape, form_of, name_form, tokens_from}
use Rattle.reading_back.proofs.Claims.{World, Frame, Spot, rest_of, deeper, Leads, Ready, Read, Flows, IsExpr, Fit}
use Rattle.reading_back.proofs.Marks.{joins}
use Rattle.reading_back.proofs.StatementClaims.{LowStmt, IsStmt, NoElse, StmtPart}
use Rattle.reading_back.specs.Unplaced as unplaced
use Rattle.reading_back.proofs.Flowing.{flows_last, spread}
use Rattle.reading_back.proofs.FunctionNames.{IsDeclared, name_lead}
use Rattle.reading_back.proofs.Groups.{expression_reads, right_parenthesis_is, right_parenthesis_joins}
use Rattle.reading_back.proofs.OneOperand.{if_target_is}
use Rattle.reading_back.proofs.Same.{same_target}
use Rattle.reading_back.proofs.StatementFors.{IsHeader, behind_sees, header_is, no_semicolon, no_var_first, var_is, var_no_semicolon, for_first, opened_before, header_lead}
use Rattle.reading_back.proofs.StatementSteps.{StmtLayer, same_stmts, left_parenthesis, right_parenthesis, token_first}
use Rattle.reading_back.proofs.Steps.{exactly, after, from, on, stays, bind, take, miss, expected, opens}
use Rattle.reading_back.proofs.TwoOperands.{ready_behind}

abbrev in_shape : Shape
in_shape = shape (form_of (codes "in")) false

in_is : Marks.in_word (form_of (codes "in")) ≡ Some tt
unfolding form_of reserved_word
in_is = refl

in_joins : joins false (form_of (codes "in")) ≡ 0
unfolding form_of reserved_word joins
in_joins = refl

-- ---- what is assigned to

pub record TargetPart (all : World) (bound : ℕ) (pf : List Piece) (numbers : Numbers) (to : ForTarget) : Type 0 where
  pub flows : Flows pf
  pub reads : (mold : Stmt → StmtLayer) (w : Frame all) (c : Spot) (zs rest : List Shape) (nz nr : Numbers) (l : ℕ) → Ready w c.functions (numbers ++ nz)
      → ((f : ForTarget) (d : Spot) → unplaced.for_target f ≡ unplaced.for_target to → Ready w d.functions nz → Leads l w nr (IsHeader mold) d zs rest (S.for_in grammar f) give)
      → Leads (max (w.opened + bound) l) w nr (IsHeader mold) c (tokens_from false pf ++ (in_shape ∷ zs)) rest (S.for_header grammar) give

module _ {all : World} {bf : ℕ} {starts : Bool} {pf : List Piece} {nf : Numbers} {e : Expr} where
  pub expression_target : Fit all bf 16 starts false pf nf e → E.is_target e ≡ true → TargetPart all bf pf nf (target.Expr e)
  unfolding S.for_expression
  expression_target f is_target =
      let g : Fit all bf 1 starts false pf nf e = record { look = f.look; enough = omega (arith, f.enough); plain = f.plain; part = f.part } in
      record {
        flows = f.part.flows;
        reads = λ mold w c zs rest nz nr l ready go.
            exactly (from {d = c} {n = behind_sees false} (header_is w c (tokens_from false pf ++ (in_shape ∷ zs)) None (no_semicolon g (in_shape ∷ zs)))
            (miss Marks.var_word _ _ (no_var_first g (in_shape ∷ zs))
            (bind ((expression_reads f.part).at w c false (in_shape ∷ zs) nz ready (omega (arith, in_joins))) (λ x d is done.
            take {c = d} {s = in_shape} Marks.in_word tt _ _ in_is
            (from (if_target_is x (S.for_in grammar (target.Expr x)) (rest_of w (after d in_shape) zs) (same_target is ∙ is_target))
            (go (target.Expr x) (after d in_shape) (ap (λ v. target.Expr v) is.same) done)))))) (omega arith);
      }

pub var_target : {all : World} (at : Place) (text : List ℕ) → IsDeclared text → TargetPart all 0 (word (codes "var") ++ name text) [] (target.Var at text)
unfolding S.for_var
var_target at text declared = record {
  flows = record { at = λ line more. refl };
  reads = λ mold w c zs rest nz nr l ready go.
      let v = shape (form_of (codes "var")) false in
      let n : Name = record { at = place 0; text = text } in
      exactly (from {d = c} {n = behind_sees false} (header_is w c (v ∷ (shape (name_form text) false ∷ (in_shape ∷ zs))) None var_no_semicolon)
      (take {c = c} {s = v} Marks.var_word tt _ _ var_is
      (bind (name_lead n declared w (after c v) false (in_shape ∷ zs) nz ready) (λ x d is done.
      take {c = d} {s = in_shape} Marks.in_word tt _ _ in_is
      (go (target.Var x.at x.text) (after d in_shape) (ap (λ (m : Name). target.Var (place 0) m.text) is.same) done))))) (omega arith);
}

-- ---- the header

abbrev pub in_pieces : List Piece → List Piece → List Piece
in_pieces pf pe = ((word (codes "for") ++ opening (codes "(")) ++ pf) ++ ((word (codes "in") ++ pe) ++ closing (codes ")"))

spread_in : (pf pe pb : List Piece) → Flows pf → Flows pe → (line : Bool) (rest : List Shape)
    → tokens_from line (in_pieces pf pe ++ pb) ++ rest
    ≡ shape (form_of (codes "for")) line ∷ (left_parenthesis ∷ (tokens_from false pf ++ (in_shape ∷ (tokens_from false pe ++ (right_parenthesis ∷ (tokens_from false pb ++ rest))))))
spread_in pf pe pb ff fe line rest =
    let behind = (word (codes "in") ++ pe) ++ closing (codes ")") in
    ap (λ zs. shape (form_of (codes "for")) line ∷ (left_parenthesis ∷ zs))
    (ap (λ ps. tokens_from false ps ++ rest) (append_assoc pf behind pb) ∙ spread pf (behind ++ pb) ff false rest
    ∙ ap (λ zs. tokens_from false pf ++ (in_shape ∷ zs)) (ap (λ ps. tokens_from false ps ++ rest) (append_assoc pe (closing (codes ")")) pb) ∙ spread pe (closing (codes ")") ++ pb) fe false rest))

module _ {e : Expr} (f to : ForTarget) (f_is : unplaced.for_target f ≡ unplaced.for_target to) where
  in_same : (x : Expr) → IsExpr e x → IsHeader (λ body. StmtForm-F.ForIn to e body) (λ body. s.ForIn f x body)
  in_same x isx = record {
    same = λ body y isy at other form is.
        same_stmts other at (s.ForIn f x y) form _ _ (s.outs-ForIn f x y) is
        (ap (λ v. StmtForm-F.ForIn v (unplaced.expr x) (unplaced.stmt y)) f_is ∙ ap (λ v. StmtForm-F.ForIn (unplaced.for_target to) v (unplaced.stmt y)) isx.same
        ∙ ap (λ v. StmtForm-F.ForIn (unplaced.for_target to) (unplaced.expr e) v) isy.same);
  }

module _ {all : World} {be : ℕ} {se : Bool} {pe : List Piece} {ne : Numbers} {e : Expr} (f to : ForTarget) (f_is : unplaced.for_target f ≡ unplaced.for_target to) where
  in_lead : (object : Fit all be 1 se true pe ne e) (w : Frame all) (c : Spot) (rest : List Shape) (nz : Numbers) → Ready w c.functions (ne ++ nz)
      → Leads (w.opened + be) w nz (IsHeader (λ body. StmtForm-F.ForIn to e body)) c (tokens_from false pe ++ (right_parenthesis ∷ rest)) rest (S.for_in grammar f) give
  unfolding S.for_in
  in_lead object w c rest nz ready =
      exactly (bind ((expression_reads object.part).at w c false (right_parenthesis ∷ rest) nz ready (omega (arith, right_parenthesis_joins true))) (λ x d is done.
      expected {c = d} {s = right_parenthesis} Marks.right_parenthesis tt _ right_parenthesis_is
      (stays {c = after d right_parenthesis} (λ body. s.ForIn f x body) give (in_same f to f_is x is) done))) (omega arith)

module _ {all : World} {bf be bb : ℕ} {se ends : Bool} {pf pe pb : List Piece} {nf ne nb : Numbers} {to : ForTarget} {e : Expr} {body : Stmt} (at : Place) (form : StmtForm) (low : LowStmt all (record { at = at; form = form })) where
  in_reads : out-StmtForm form ≡ StmtForm-F.ForIn to e body → (t : TargetPart all bf pf nf to) (object : Fit all be 1 se true pe ne e) (p : StmtPart all bb ends pb nb body)
      → Read all (max (suc (max bf be)) (suc bb)) (in_pieces pf pe ++ pb) ((nf ++ ne) ++ nb) (IsStmt (record { at = at; form = form })) (NoElse ends) (S.statement grammar) give
  in_reads is t object p = record {
    at = λ w c line rest nz ready fits.
        exactly (let mold : Stmt → StmtLayer = λ body. StmtForm-F.ForIn to e body in
        let shapes = tokens_from false pe ++ (right_parenthesis ∷ (tokens_from false pb ++ rest)) in
        on (spread_in pf pe pb t.flows object.part.flows line rest)
        (header_lead p at form low mold is (max bf be) w c line (tokens_from false pf ++ (in_shape ∷ shapes)) rest nz (opened_before (tokens_from false pf) in_shape shapes) fits (λ d there.
        exactly (t.reads mold (deeper w) d shapes (tokens_from false pb ++ rest) (ne ++ (nb ++ nz)) (nb ++ nz) _ (subst (λ (e : Spot). Ready (deeper w) e.functions (nf ++ (ne ++ (nb ++ nz)))) (sym there)
        (opens c.functions _ (ready_behind c.functions nf ne (nb ++ nz) (ready_behind c.functions (nf ++ ne) nb nz ready)))) (λ g h g_is readyh.
        in_lead g to g_is object (deeper w) h (tokens_from false pb ++ rest) (nb ++ nz) readyh)) (omega arith)))) (omega arith);
  }

  pub for_in_part : out-StmtForm form ≡ StmtForm-F.ForIn to e body → TargetPart all bf pf nf to → Fit all be 1 se true pe ne e → StmtPart all bb ends pb nb body
      → StmtPart all (max (suc (max bf be)) (suc bb)) ends (in_pieces pf pe ++ pb) ((nf ++ ne) ++ nb) (record { at = at; form = form })
  for_in_part is t object p = record {
    flows = flows_last (in_pieces pf pe) pb p.flows;
    first = token_first (codes "for") false _ _ for_first;
    reads = in_reads is t object p;
  }
