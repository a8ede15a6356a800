-- Statements of a token alone, and of a word with an expression (12.3, 12.7 to 12.9, 12.13).
use Rattle.std.proofs.Common.{◌≡◌, ℕ, ◌+◌, Bool, true, false, List, [], ◌∷◌, ◌++◌, refl, ap, sym, ◌∙◌, arith}
use Rattle.std.specs.Prelude.{codes, Some, None, Result, Ok, Err}
use Rattle.js_value.specs.declared.place.Place.{Place}
use Rattle.js_tree.specs.Lexing.{reserved_word}
use Rattle.js_tree.specs.declared.expression.Expr.{Expr}
use Rattle.js_tree.specs.declared.statement.StmtForm.{StmtForm, out-StmtForm}
use Rattle.js_tree.specs.declared.statement.StmtForm.TheOpen.{StmtForm-F}
use Rattle.js_tree.specs.declared.statement.StmtForm.TheVariants as s
use Rattle.js_grammar.specs.Ends.{ends, continues_expression}
use Rattle.js_grammar.specs.FunctionOrder.{Numbers}
use Rattle.js_grammar.specs.Primary as P
use Rattle.js_grammar.specs.Reading.{grammar}
use Rattle.js_grammar.specs.Rest.{Rest, behind, ◌>>=◌, give, next, finish_stmt}
use Rattle.js_grammar.specs.Statements as S
use Rattle.script_text.specs.Pieces.{Piece, word, closing}
use Rattle.script_text.specs.Tokens.{Shape, shape, form_of, tokens_from}
use Rattle.reading_back.proofs.Claims.{World, Frame, Spot, rest_of, Leads, Ready, Flows, IsExpr, Fit}
use Rattle.reading_back.proofs.StatementClaims.{LowStmt, ends_list, StmtPart}
use Rattle.reading_back.proofs.Flowing.{flows_last, flows_token, spread}
use Rattle.reading_back.proofs.Groups.{expression_reads}
use Rattle.reading_back.proofs.Joining.{begins}
use Rattle.reading_back.proofs.StatementHeads.{semicolon_joins}
use Rattle.reading_back.proofs.StatementSteps.{same_stmts, semicolon, begins_with, token_first, finishes_stmt, ended}
use Rattle.reading_back.proofs.Steps.{exactly, after, from, on, bind}

-- an expression before a semicolon
module _ {all : World} {bound : ℕ} {starts : Bool} {pieces : List Piece} {numbers : Numbers} {e : Expr} where
  pub before_semicolon : (f : Fit all bound 1 starts true pieces numbers e) (w : Frame all) (c : Spot) (rest : List Shape) (nz : Numbers) → Ready w c.functions (numbers ++ nz)
      → Leads (w.opened + bound) w nz (IsExpr e) c (tokens_from false pieces ++ (semicolon ∷ rest)) (semicolon ∷ rest) (P.expression grammar) give
  before_semicolon f w c rest nz ready = exactly ((expression_reads f.part).at w c false (semicolon ∷ rest) nz ready (omega (arith, semicolon_joins true))) (omega arith)

-- ---- 12.3

empty_begins : S.beginning (form_of (codes ";")) ≡ Some S.Empty
unfolding form_of reserved_word
empty_begins = refl

empty_first : ends_list (form_of (codes ";")) ≡ false
unfolding form_of reserved_word
empty_first = refl

module _ {all : World} (at : Place) (form : StmtForm) (low : LowStmt all (record { at = at; form = form })) where
  pub empty_part : out-StmtForm form ≡ StmtForm-F.Empty → StmtPart all 0 false (closing (codes ";")) [] (record { at = at; form = form })
  empty_part is = record {
    flows = flows_token (codes ";") true _;
    first = token_first (codes ";") true _ _ empty_first;
    reads = record {
      at = λ w c line rest nz ready fits.
          exactly (begins_with {c = c} (codes ";") S.Empty empty_begins
          (finishes_stmt (c.supply 0).0 s.Empty low (same_stmts (c.supply 0).0 at s.Empty form _ _ s.outs-Empty is refl) ready)) (omega arith);
    };
  }

-- ---- 12.7, 12.8

continue_begins : S.beginning (form_of (codes "continue")) ≡ Some S.Continue
unfolding form_of reserved_word
continue_begins = refl

continue_first : ends_list (form_of (codes "continue")) ≡ false
unfolding form_of reserved_word
continue_first = refl

break_begins : S.beginning (form_of (codes "break")) ≡ Some S.Break
unfolding form_of reserved_word
break_begins = refl

break_first : ends_list (form_of (codes "break")) ≡ false
unfolding form_of reserved_word
break_first = refl

jumps : {all : World} (w : Frame all) (c : Spot) (rest : List Shape) (jump : StmtForm) (at : Place)
    → S.jump_behind grammar jump at (rest_of w c (semicolon ∷ rest)) ≡ finish_stmt at jump (rest_of w (after c semicolon) rest)
unfolding form_of reserved_word next ends
jumps w c rest jump at = refl

abbrev jump_pieces : List ℕ → List Piece
jump_pieces text = word text ++ closing (codes ";")

module _ {all : World} (at : Place) (form : StmtForm) (low : LowStmt all (record { at = at; form = form })) where
  pub continue_part : out-StmtForm form ≡ StmtForm-F.Continue → StmtPart all 0 false (jump_pieces (codes "continue")) [] (record { at = at; form = form })
  continue_part is = record {
    flows = flows_last (word (codes "continue")) (closing (codes ";")) (flows_token (codes ";") true _);
    first = token_first (codes "continue") false _ _ continue_first;
    reads = record {
      at = λ w c line rest nz ready fits.
          exactly (let o = after c (shape (form_of (codes "continue")) line) in
          begins_with {c = c} (codes "continue") S.Continue continue_begins
          (from {d = after o semicolon} (jumps w o rest s.Continue (c.supply 0).0)
          (finishes_stmt (c.supply 0).0 s.Continue low (same_stmts (c.supply 0).0 at s.Continue form _ _ s.outs-Continue is refl) ready))) (omega arith);
    };
  }

  pub break_part : out-StmtForm form ≡ StmtForm-F.Break → StmtPart all 0 false (jump_pieces (codes "break")) [] (record { at = at; form = form })
  break_part is = record {
    flows = flows_last (word (codes "break")) (closing (codes ";")) (flows_token (codes ";") true _);
    first = token_first (codes "break") false _ _ break_first;
    reads = record {
      at = λ w c line rest nz ready fits.
          exactly (let o = after c (shape (form_of (codes "break")) line) in
          begins_with {c = c} (codes "break") S.Break break_begins
          (from {d = after o semicolon} (jumps w o rest s.Break (c.supply 0).0)
          (finishes_stmt (c.supply 0).0 s.Break low (same_stmts (c.supply 0).0 at s.Break form _ _ s.outs-Break is refl) ready))) (omega arith);
    };
  }

-- ---- 12.13

throw_begins : S.beginning (form_of (codes "throw")) ≡ Some S.Throw
unfolding form_of reserved_word
throw_begins = refl

throw_first : ends_list (form_of (codes "throw")) ≡ false
unfolding form_of reserved_word
throw_first = refl

-- a word, an expression and a semicolon
abbrev pub word_and : List ℕ → List Piece → List Piece
word_and text pe = (word text ++ pe) ++ closing (codes ";")

split_word : (text : List ℕ) (pe : List Piece) → Flows pe → (line : Bool) (rest : List Shape) → tokens_from line (word_and text pe) ++ rest ≡ shape (form_of text) line ∷ (tokens_from false pe ++ (semicolon ∷ rest))
split_word text pe flows line rest = ap (λ zs. shape (form_of text) line ∷ zs) (spread pe (closing (codes ";")) flows false rest)

module _ {all : World} {be : ℕ} {se : Bool} {pe : List Piece} {ne : Numbers} {e : Expr} (at : Place) (form : StmtForm) (low : LowStmt all (record { at = at; form = form })) where
  -- the expression begins on the same line
  throws : (f : Fit all be 1 se true pe ne e) (w : Frame all) (c : Spot) (rest : List Shape) (p : Place)
      → S.throw_behind grammar p (rest_of w c (tokens_from false pe ++ (semicolon ∷ rest))) ≡ (P.expression grammar >>= λ x. ends continues_expression >>= λ _. finish_stmt p (s.Throw x)) (rest_of w c (tokens_from false pe ++ (semicolon ∷ rest)))
  unfolding S.throw_behind
  throws f w c rest p =
      let f_is = ap (λ zs. zs ++ (semicolon ∷ rest)) (f.part.first.is false) in
      ap (λ zs. S.throw_behind grammar p (rest_of w c zs)) f_is ∙ ap (λ zs. (P.expression grammar >>= λ x. ends continues_expression >>= λ _. finish_stmt p (s.Throw x)) (rest_of w c zs)) (sym f_is)

  pub throw_part : out-StmtForm form ≡ StmtForm-F.Throw e → Fit all be 1 se true pe ne e → StmtPart all be false (word_and (codes "throw") pe) ne (record { at = at; form = form })
  throw_part is f = record {
    flows = flows_last (word (codes "throw") ++ pe) (closing (codes ";")) (flows_token (codes ";") true _);
    first = token_first (codes "throw") false _ _ throw_first;
    reads = record {
      at = λ w c line rest nz ready fits.
          exactly (let p = (c.supply 0).0 in
          let o = after c (shape (form_of (codes "throw")) line) in
          on (split_word (codes "throw") pe f.part.flows line rest)
          (begins_with {c = c} (codes "throw") S.Throw throw_begins
          (from {d = o} (throws f w o rest p)
          (bind (before_semicolon f w o rest nz ready) (λ x d isx readyx.
          ended {c = d} continues_expression (λ _. finish_stmt p (s.Throw x))
          (finishes_stmt p (s.Throw x) low (same_stmts p at (s.Throw x) form _ _ (s.outs-Throw x) is (ap (λ v. StmtForm-F.Throw v) isx.same)) readyx)))))) (omega arith);
    };
  }

-- ---- 12.9

return_begins : S.beginning (form_of (codes "return")) ≡ Some S.Return
unfolding form_of reserved_word
return_begins = refl

return_first : ends_list (form_of (codes "return")) ≡ false
unfolding form_of reserved_word
return_first = refl

returns_none : {all : World} (w : Frame all) (c : Spot) (rest : List Shape) (p : Place)
    → S.return_behind grammar p (rest_of w c (semicolon ∷ rest)) ≡ finish_stmt p (s.Return None) (rest_of w (after c semicolon) rest)
unfolding S.return_behind form_of reserved_word next ends
returns_none w c rest p = refl

module _ {all : World} (at : Place) (form : StmtForm) (low : LowStmt all (record { at = at; form = form })) where
  pub return_none_part : out-StmtForm form ≡ StmtForm-F.Return None → StmtPart all 0 false (word_and (codes "return") []) [] (record { at = at; form = form })
  return_none_part is = record {
    flows = flows_last (word (codes "return")) (closing (codes ";")) (flows_token (codes ";") true _);
    first = token_first (codes "return") false _ _ return_first;
    reads = record {
      at = λ w c line rest nz ready fits.
          exactly (let o = after c (shape (form_of (codes "return")) line) in
          begins_with {c = c} (codes "return") S.Return return_begins
          (from {d = after o semicolon} (returns_none w o rest (c.supply 0).0)
          (finishes_stmt (c.supply 0).0 (s.Return None) low (same_stmts (c.supply 0).0 at (s.Return None) form _ _ (s.outs-Return None) is refl) ready))) (omega arith);
    };
  }

  module _ {be : ℕ} {se : Bool} {pe : List Piece} {ne : Numbers} {e : Expr} where
    returns : (f : Fit all be 1 se true pe ne e) (w : Frame all) (c : Spot) (rest : List Shape) (p : Place)
        → S.return_behind grammar p (rest_of w c (tokens_from false pe ++ (semicolon ∷ rest)))
        ≡ (P.expression grammar >>= λ x. ends continues_expression >>= λ _. finish_stmt p (s.Return (Some x))) (rest_of w c (tokens_from false pe ++ (semicolon ∷ rest)))
    unfolding S.return_behind
    returns f w c rest p =
        let b = begins f.part.first.form f.part.first.begins in
        let f_is = ap (λ zs. zs ++ (semicolon ∷ rest)) (f.part.first.is false) in
        let shapes = shape f.part.first.form false ∷ (f.part.first.more ++ (semicolon ∷ rest)) in
        ap (λ zs. S.return_behind grammar p (rest_of w c zs)) f_is ∙ rw (b.semicolon, b.right_brace) (assoc w c shapes p)
        ∙ ap (λ zs. (P.expression grammar >>= λ x. ends continues_expression >>= λ _. finish_stmt p (s.Return (Some x))) (rest_of w c zs)) (sym f_is)
      where
        by : (r : Result (Expr × Rest) _) (p : Place) → behind (behind r (λ x. give (Some x))) (λ x. ends continues_expression >>= λ _. finish_stmt p (s.Return x)) ≡ behind r (λ x. ends continues_expression >>= λ _. finish_stmt p (s.Return (Some x)))
        by (Ok x) p = refl
        by (Err e) p = refl

        assoc : (w : Frame all) (c : Spot) (zs : List Shape) (p : Place)
            → ((P.expression grammar >>= λ x. give (Some x)) >>= λ x. ends continues_expression >>= λ _. finish_stmt p (s.Return x)) (rest_of w c zs) ≡ (P.expression grammar >>= λ x. ends continues_expression >>= λ _. finish_stmt p (s.Return (Some x))) (rest_of w c zs)
        assoc w c zs p = by (P.expression grammar (rest_of w c zs)) p

    pub return_part : out-StmtForm form ≡ StmtForm-F.Return (Some e) → Fit all be 1 se true pe ne e → StmtPart all be false (word_and (codes "return") pe) ne (record { at = at; form = form })
    return_part is f = record {
      flows = flows_last (word (codes "return") ++ pe) (closing (codes ";")) (flows_token (codes ";") true _);
      first = token_first (codes "return") false _ _ return_first;
      reads = record {
        at = λ w c line rest nz ready fits.
            exactly (let p = (c.supply 0).0 in
            let o = after c (shape (form_of (codes "return")) line) in
            on (split_word (codes "return") pe f.part.flows line rest)
            (begins_with {c = c} (codes "return") S.Return return_begins
            (from {d = o} (returns f w o rest p)
            (bind (before_semicolon f w o rest nz ready) (λ x d isx readyx.
            ended {c = d} continues_expression (λ _. finish_stmt p (s.Return (Some x)))
            (finishes_stmt p (s.Return (Some x)) low (same_stmts p at (s.Return (Some x)) form _ _ (s.outs-Return (Some x)) is (ap (λ v. StmtForm-F.Return (Some v)) isx.same)) readyx)))))) (omega arith);
      };
    }
