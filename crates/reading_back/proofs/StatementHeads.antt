-- Statements with an expression in parentheses: `if`, `while` and `do` (12.5, 12.6.1, 12.6.2).
use Rattle.std.proofs.Common.{◌≡◌, ◌+◌, Bool, true, false, List, [], ◌∷◌, ◌++◌, refl, ap, ◌∙◌, arith, append_assoc, ℕ, suc, max}
use Rattle.std.specs.Prelude.{◌||◌, not, codes, Option, Some, None, is_some}
use Rattle.js_value.specs.declared.place.Place.{Place}
use Rattle.js_tree.specs.Lexing.{reserved_word}
use Rattle.js_tree.specs.declared.expression.Expr.{Expr}
use Rattle.js_tree.specs.declared.statement.Stmt.{Stmt}
use Rattle.js_tree.specs.declared.statement.StmtForm.{StmtForm, out-StmtForm}
use Rattle.js_tree.specs.declared.statement.StmtForm.TheOpen.{StmtForm-F}
use Rattle.js_tree.specs.declared.statement.StmtForm.TheVariants as s
use Rattle.js_grammar.specs.Ends.{continues_do}
use Rattle.js_grammar.specs.FunctionOrder.{Numbers}
use Rattle.js_grammar.specs.Marks
use Rattle.js_grammar.specs.Reading.{grammar}
use Rattle.js_grammar.specs.Rest.{◌>>=◌, give, part, finish_stmt}
use Rattle.js_grammar.specs.Statements as S
use Rattle.script_text.specs.Pieces.{Piece, word, closing}
use Rattle.script_text.specs.Statements.{else_word, line_end_unless}
use Rattle.script_text.specs.Tokens.{Shape, shape, form_of, tokens_from}
use Rattle.reading_back.proofs.Claims.{World, Frame, Spot, Leads, Ready, Read, Flows, Fit}
use Rattle.reading_back.proofs.StatementClaims.{LowStmt, IsStmt, ends_list, is_else, is_finally, NoElse, StmtPart}
use Rattle.reading_back.proofs.Marks.{joins}
use Rattle.reading_back.specs.Unplaced as unplaced
use Rattle.reading_back.proofs.Flowing.{flows_last, flows_token, spread}
use Rattle.reading_back.proofs.StatementSteps.{same_stmts, unplaced_parts, semicolon, left_parenthesis, right_parenthesis, begins_with, token_first, finishes_stmt, ended, head_pieces, split_head, head_reads, stmt_reads}
use Rattle.reading_back.proofs.Steps.{exactly, after, first_of_shapes, on, stays, bind, take, miss, expected}
use Rattle.reading_back.proofs.TwoOperands.{ready_behind}

pub no_else_none : (rest : List Shape) → is_else rest ≡ false → first_of_shapes Marks.else_word rest ≡ None
no_else_none [] e = refl
no_else_none (s ∷ ss) e = by (Marks.else_word s.form) (is_some (Marks.finally_word s.form)) e
  where
    by : (o : Option (Unit {0})) (b : Bool) → (is_some o || b) ≡ false → o ≡ None
    by None b e = refl
    by (Some u) b e = absurd (cc)

-- a statement that doesn't end in an `if` without `else`
pub never : (rest : List Shape) → is_finally rest ≡ false → NoElse false rest
never rest no_finally = record { holds = λ e. absurd (cc); no_finally = no_finally }

pub semicolon_joins : (allows_in : Bool) → joins allows_in (form_of (codes ";")) ≡ 0
unfolding form_of reserved_word joins
semicolon_joins true = refl
semicolon_joins false = refl

-- ---- 12.5

if_begins : S.beginning (form_of (codes "if")) ≡ Some S.If
unfolding form_of reserved_word
if_begins = refl

if_first : ends_list (form_of (codes "if")) ≡ false
unfolding form_of reserved_word
if_first = refl

else_is : Marks.else_word (form_of (codes "else")) ≡ Some tt
unfolding form_of reserved_word
else_is = refl

else_no_finally : is_some (Marks.finally_word (form_of (codes "else"))) ≡ false
unfolding form_of reserved_word
else_no_finally = refl

-- the same but for places
record IsSomeStmt (t : Stmt) (o : Option Stmt) : Type 0 where
  tree : Stmt
  is : o ≡ Some tree
  same : IsStmt t tree

module _ {all : World} {w : Frame all} {c : Spot} {rest : List Shape} {nz : Numbers} where
  without_else : is_else rest ≡ false → Ready w c.functions nz → Leads w.opened w nz (λ z. z ≡ None) c rest rest (S.else_part grammar) give
  without_else e ready = exactly (miss Marks.else_word _ _ (no_else_none rest e) (stays None give refl ready)) (omega arith)

  with_else : {bb : ℕ} {ends : Bool} {pb : List Piece} {nb : Numbers} {b : Stmt} (q : StmtPart all bb ends pb nb b) (line : Bool) → Ready w c.functions (nb ++ nz) → NoElse ends rest
      → Leads (w.opened + suc bb) w nz (IsSomeStmt b) c (shape (form_of (codes "else")) line ∷ (tokens_from false pb ++ rest)) rest (S.else_part grammar) give
  with_else q line ready fits =
      exactly (take {c = c} Marks.else_word tt (λ _. part grammar.statement >>= λ x. give (Some x)) (give None) else_is
      (bind ((stmt_reads q).at w (after c (shape (form_of (codes "else")) line)) false rest nz ready fits) (λ z h isz readyz. stays (Some z) give (record { tree = z; is = refl; same = isz }) readyz))) (omega arith)

module _ {all : World} {be ba : ℕ} {se : Bool} {pe pa : List Piece} {ne na : Numbers} {e : Expr} {a : Stmt} (at : Place) (form : StmtForm) (low : LowStmt all (record { at = at; form = form })) where
  if_reads : {ends : Bool} → out-StmtForm form ≡ StmtForm-F.If e a None → (f : Fit all be 1 se true pe ne e) (p : StmtPart all ba ends pa na a)
      → Read all (max (max (suc be) (suc ba)) 0) (head_pieces (codes "if") pe ++ pa) (ne ++ na) (IsStmt (record { at = at; form = form })) (NoElse true) (S.statement grammar) give
  unfolding S.if_behind
  if_reads is f p = record {
    at = λ w c line rest nz ready fits.
        exactly (let q = (c.supply 0).0 in
        let o = after c (shape (form_of (codes "if")) line) in
        on (split_head (codes "if") pe pa f.part.flows line rest)
        (begins_with {c = c} (codes "if") S.If if_begins
        (bind (head_reads f w o (tokens_from false pa ++ rest) (na ++ nz) (ready_behind c.functions ne na nz ready)) (λ x d isx readyx.
        bind ((stmt_reads p).at w d false rest nz readyx (record { holds = λ _. fits.holds refl; no_finally = fits.no_finally })) (λ y g isy readyy.
        bind (without_else (fits.holds refl) readyy) (λ z h isz readyz.
        finishes_stmt q (s.If x y z) low (same_stmts q at (s.If x y z) form _ _ (s.outs-If x y z) is
        (ap (λ v. unplaced_parts (StmtForm-F.If x y v)) isz ∙ ap (λ v. StmtForm-F.If v (unplaced.stmt y) None) isx.same ∙ ap (λ v. StmtForm-F.If (unplaced.expr e) v None) isy.same)) readyz)))))) (omega arith);
  }

  pub if_part : {ends : Bool} → out-StmtForm form ≡ StmtForm-F.If e a None → Fit all be 1 se true pe ne e → StmtPart all ba ends pa na a
      → StmtPart all (max (max (suc be) (suc ba)) 0) true (head_pieces (codes "if") pe ++ pa) (ne ++ na) (record { at = at; form = form })
  if_part is f p = record {
    flows = flows_last (head_pieces (codes "if") pe) pa p.flows;
    first = token_first (codes "if") false _ _ if_first;
    reads = if_reads is f p;
  }

-- the tokens of `else` and what follows
split_else : (pa pb : List Piece) (is_block : Bool) → Flows pa → (rest : List Shape)
    → tokens_from false ((pa ++ else_word is_block) ++ pb) ++ rest ≡ tokens_from false pa ++ (shape (form_of (codes "else")) (not is_block) ∷ (tokens_from false pb ++ rest))
unfolding else_word
split_else pa pb true flows rest = ap (λ ps. tokens_from false ps ++ rest) (append_assoc pa (word (codes "else")) pb) ∙ spread pa (word (codes "else") ++ pb) flows false rest
split_else pa pb false flows rest = ap (λ ps. tokens_from false ps ++ rest) (append_assoc pa (line_end_unless false ++ word (codes "else")) pb) ∙ spread pa ((line_end_unless false ++ word (codes "else")) ++ pb) flows false rest

module _ (pe pa pb : List Piece) (is_block : Bool) where
  abbrev pub else_pieces : List Piece
  else_pieces = ((head_pieces (codes "if") pe ++ pa) ++ else_word is_block) ++ pb

  split_if : (line : Bool) (rest : List Shape) → Flows pe → Flows pa
      → tokens_from line else_pieces ++ rest ≡ shape (form_of (codes "if")) line ∷ (left_parenthesis ∷ (tokens_from false pe ++ (right_parenthesis ∷ (tokens_from false pa ++ (shape (form_of (codes "else")) (not is_block) ∷ (tokens_from false pb ++ rest))))))
  split_if line rest fe fa =
      ap (λ ps. tokens_from line ps ++ rest) (ap (λ ps. ps ++ pb) (append_assoc (head_pieces (codes "if") pe) pa (else_word is_block)) ∙ append_assoc (head_pieces (codes "if") pe) (pa ++ else_word is_block) pb)
      ∙ split_head (codes "if") pe ((pa ++ else_word is_block) ++ pb) fe line rest
      ∙ ap (λ zs. shape (form_of (codes "if")) line ∷ (left_parenthesis ∷ (tokens_from false pe ++ (right_parenthesis ∷ zs)))) (split_else pa pb is_block fa rest)

module _ {all : World} {be ba bb : ℕ} {se ends : Bool} {pe pa pb : List Piece} {ne na nb : Numbers} {e : Expr} {a b : Stmt} (at : Place) (form : StmtForm) (low : LowStmt all (record { at = at; form = form })) (is_block : Bool) where
  else_reads : out-StmtForm form ≡ StmtForm-F.If e a (Some b) → (f : Fit all be 1 se true pe ne e) (p : StmtPart all ba false pa na a) (q : StmtPart all bb ends pb nb b)
      → Read all (max (max (suc be) (suc ba)) (suc bb)) (else_pieces pe pa pb is_block) ((ne ++ na) ++ nb) (IsStmt (record { at = at; form = form })) (NoElse ends) (S.statement grammar) give
  unfolding S.if_behind
  else_reads is f p q = record {
    at = λ w c line rest nz ready fits.
        exactly (let here = (c.supply 0).0 in
        let o = after c (shape (form_of (codes "if")) line) in
        let e_shape = shape (form_of (codes "else")) (not is_block) in
        let behind = e_shape ∷ (tokens_from false pb ++ rest) in
        on (split_if pe pa pb is_block line rest f.part.flows p.flows)
        (begins_with {c = c} (codes "if") S.If if_begins
        (bind (head_reads f w o (tokens_from false pa ++ behind) (na ++ (nb ++ nz)) (ready_behind c.functions ne na (nb ++ nz) (ready_behind c.functions (ne ++ na) nb nz ready))) (λ x d isx readyx.
        bind ((stmt_reads p).at w d false behind (nb ++ nz) readyx (never behind else_no_finally)) (λ y g isy readyy.
        bind (with_else q (not is_block) readyy fits) (λ z h isz readyz.
        finishes_stmt here (s.If x y z) low (same_stmts here at (s.If x y z) form _ _ (s.outs-If x y z) is
        (ap (λ v. unplaced_parts (StmtForm-F.If x y v)) isz.is ∙ ap (λ v. StmtForm-F.If v (unplaced.stmt y) (Some (unplaced.stmt isz.tree))) isx.same ∙ ap (λ v. StmtForm-F.If (unplaced.expr e) v (Some (unplaced.stmt isz.tree))) isy.same
        ∙ ap (λ v. StmtForm-F.If (unplaced.expr e) (unplaced.stmt a) (Some v)) isz.same.same)) readyz)))))) (omega arith);
  }

  pub else_part : out-StmtForm form ≡ StmtForm-F.If e a (Some b) → Fit all be 1 se true pe ne e → StmtPart all ba false pa na a → StmtPart all bb ends pb nb b
      → StmtPart all (max (max (suc be) (suc ba)) (suc bb)) ends (else_pieces pe pa pb is_block) ((ne ++ na) ++ nb) (record { at = at; form = form })
  else_part is f p q = record {
    flows = flows_last ((head_pieces (codes "if") pe ++ pa) ++ else_word is_block) pb q.flows;
    first = token_first (codes "if") false _ _ if_first;
    reads = else_reads is f p q;
  }

-- ---- 12.6.2

while_begins : S.beginning (form_of (codes "while")) ≡ Some S.While
unfolding form_of reserved_word
while_begins = refl

while_first : ends_list (form_of (codes "while")) ≡ false
unfolding form_of reserved_word
while_first = refl

module _ {all : World} {be ba : ℕ} {se ends : Bool} {pe pa : List Piece} {ne na : Numbers} {e : Expr} {a : Stmt} (at : Place) (form : StmtForm) (low : LowStmt all (record { at = at; form = form })) where
  while_reads : out-StmtForm form ≡ StmtForm-F.While e a → (f : Fit all be 1 se true pe ne e) (p : StmtPart all ba ends pa na a)
      → Read all (max (suc be) (suc ba)) (head_pieces (codes "while") pe ++ pa) (ne ++ na) (IsStmt (record { at = at; form = form })) (NoElse ends) (S.statement grammar) give
  unfolding S.while_behind
  while_reads is f p = record {
    at = λ w c line rest nz ready fits.
        exactly (let q = (c.supply 0).0 in
        let o = after c (shape (form_of (codes "while")) line) in
        on (split_head (codes "while") pe pa f.part.flows line rest)
        (begins_with {c = c} (codes "while") S.While while_begins
        (bind (head_reads f w o (tokens_from false pa ++ rest) (na ++ nz) (ready_behind c.functions ne na nz ready)) (λ x d isx readyx.
        bind ((stmt_reads p).at w d false rest nz readyx fits) (λ y g isy readyy.
        finishes_stmt q (s.While x y) low (same_stmts q at (s.While x y) form _ _ (s.outs-While x y) is
        (ap (λ v. StmtForm-F.While v (unplaced.stmt y)) isx.same ∙ ap (λ v. StmtForm-F.While (unplaced.expr e) v) isy.same)) readyy))))) (omega arith);
  }

  pub while_part : out-StmtForm form ≡ StmtForm-F.While e a → Fit all be 1 se true pe ne e → StmtPart all ba ends pa na a
      → StmtPart all (max (suc be) (suc ba)) ends (head_pieces (codes "while") pe ++ pa) (ne ++ na) (record { at = at; form = form })
  while_part is f p = record {
    flows = flows_last (head_pieces (codes "while") pe) pa p.flows;
    first = token_first (codes "while") false _ _ while_first;
    reads = while_reads is f p;
  }

-- ---- 12.6.1

do_begins : S.beginning (form_of (codes "do")) ≡ Some S.Do
unfolding form_of reserved_word
do_begins = refl

do_first : ends_list (form_of (codes "do")) ≡ false
unfolding form_of reserved_word
do_first = refl

while_is : Marks.while_word (form_of (codes "while")) ≡ Some tt
unfolding form_of reserved_word
while_is = refl

while_no_finally : is_some (Marks.finally_word (form_of (codes "while"))) ≡ false
unfolding form_of reserved_word
while_no_finally = refl

while_no_else : (is_some (Marks.else_word (form_of (codes "while"))) || is_some (Marks.finally_word (form_of (codes "while")))) ≡ false
unfolding form_of reserved_word
while_no_else = refl

module _ (pe pa : List Piece) (in_brace : Bool) where
  abbrev pub do_pieces : List Piece
  do_pieces = ((word (codes "do") ++ pa) ++ (line_end_unless in_brace ++ head_pieces (codes "while") pe)) ++ closing (codes ";")

  split_while : (b : Bool) (rest : List Shape) → Flows pe → tokens_from false ((line_end_unless b ++ head_pieces (codes "while") pe) ++ closing (codes ";")) ++ rest
      ≡ shape (form_of (codes "while")) (not b) ∷ (left_parenthesis ∷ (tokens_from false pe ++ (right_parenthesis ∷ (semicolon ∷ rest))))
  split_while true rest fe = split_head (codes "while") pe (closing (codes ";")) fe false rest
  split_while false rest fe = split_head (codes "while") pe (closing (codes ";")) fe true rest

  split_do : (line : Bool) (rest : List Shape) → Flows pe → Flows pa
      → tokens_from line do_pieces ++ rest ≡ shape (form_of (codes "do")) line ∷ (tokens_from false pa ++ (shape (form_of (codes "while")) (not in_brace) ∷ (left_parenthesis ∷ (tokens_from false pe ++ (right_parenthesis ∷ (semicolon ∷ rest))))))
  split_do line rest fe fa =
      ap (λ zs. shape (form_of (codes "do")) line ∷ zs)
      (ap (λ ps. tokens_from false ps ++ rest) (append_assoc pa (line_end_unless in_brace ++ head_pieces (codes "while") pe) (closing (codes ";")))
      ∙ spread pa ((line_end_unless in_brace ++ head_pieces (codes "while") pe) ++ closing (codes ";")) fa false rest
      ∙ ap (λ zs. tokens_from false pa ++ zs) (split_while in_brace rest fe))

module _ {all : World} {be ba : ℕ} {se ends : Bool} {pe pa : List Piece} {ne na : Numbers} {e : Expr} {a : Stmt} (at : Place) (form : StmtForm) (low : LowStmt all (record { at = at; form = form })) (in_brace : Bool) where
  do_reads : out-StmtForm form ≡ StmtForm-F.DoWhile a e → (f : Fit all be 1 se true pe ne e) (p : StmtPart all ba ends pa na a)
      → Read all (max (suc ba) (suc be)) (do_pieces pe pa in_brace) (na ++ ne) (IsStmt (record { at = at; form = form })) (NoElse false) (S.statement grammar) give
  unfolding S.do_behind
  do_reads is f p = record {
    at = λ w c line rest nz ready fits.
        exactly (let q = (c.supply 0).0 in
        let o = after c (shape (form_of (codes "do")) line) in
        let head_shapes = left_parenthesis ∷ (tokens_from false pe ++ (right_parenthesis ∷ (semicolon ∷ rest))) in
        let w_shape = shape (form_of (codes "while")) (not in_brace) in
        on (split_do pe pa in_brace line rest f.part.flows p.flows)
        (begins_with {c = c} (codes "do") S.Do do_begins
        (bind ((stmt_reads p).at w o false (w_shape ∷ head_shapes) (ne ++ nz) (ready_behind c.functions na ne nz ready) (record { holds = λ _. while_no_else; no_finally = while_no_finally })) (λ y g isy readyy.
        expected {s = w_shape} Marks.while_word tt _ while_is
        (bind (head_reads f w (after g w_shape) (semicolon ∷ rest) nz readyy) (λ x d isx readyx.
        ended {c = d} (λ last. continues_do) (λ _. finish_stmt q (s.DoWhile y x))
        (finishes_stmt q (s.DoWhile y x) low (same_stmts q at (s.DoWhile y x) form _ _ (s.outs-DoWhile y x) is
        (ap (λ v. StmtForm-F.DoWhile v (unplaced.expr x)) isy.same ∙ ap (λ v. StmtForm-F.DoWhile (unplaced.stmt a) v) isx.same)) readyx))))))) (omega arith);
  }

  pub do_part : out-StmtForm form ≡ StmtForm-F.DoWhile a e → Fit all be 1 se true pe ne e → StmtPart all ba ends pa na a → StmtPart all (max (suc ba) (suc be)) false (do_pieces pe pa in_brace) (na ++ ne) (record { at = at; form = form })
  do_part is f p = record {
    flows = flows_last ((word (codes "do") ++ pa) ++ (line_end_unless in_brace ++ head_pieces (codes "while") pe)) (closing (codes ";")) (flows_token (codes ";") true _);
    first = token_first (codes "do") false _ _ do_first;
    reads = do_reads is f p;
  }
