-- Steps of statements: the token that begins one, heads in parentheses, parts that are statements, and the semicolon at the end.
use Rattle.std.proofs.Common.{◌≡◌, ℕ, ◌+◌, Bool, true, false, List, ◌∷◌, ◌++◌, refl, ap, ◌∙◌, arith, append_assoc, suc}
use Rattle.std.specs.Prelude.{codes, Option, Some, Ok}
use Rattle.js_value.specs.declared.place.Place.{Place}
use Rattle.js_tree.specs.Lexing.{reserved_word}
use Rattle.js_tree.specs.declared.expression.Expr.{Expr}
use Rattle.js_tree.specs.declared.statement.Stmt.{Stmt}
use Rattle.js_tree.specs.declared.statement.StmtForm.{StmtForm}
use Rattle.js_tree.specs.declared.token.Token.{Token}
use Rattle.js_tree.specs.declared.token.TokenForm.{TokenForm}
use Rattle.js_grammar.specs.Ends.{ends}
use Rattle.js_grammar.specs.FunctionOrder.{Numbers}
use Rattle.js_grammar.specs.Marks
use Rattle.js_grammar.specs.Primary as P
use Rattle.js_grammar.specs.Reading.{grammar}
use Rattle.js_grammar.specs.Rest.{Reading, behind, ◌>>=◌, give, part, finish_stmt}
use Rattle.js_grammar.specs.Statements as S
use Rattle.js_grammar.proofs.Laws.{tied}
use Rattle.script_text.specs.Pieces as piece
use Rattle.script_text.specs.Pieces.{Piece, word, opening, closing}
use Rattle.script_text.specs.Tokens.{Shape, shape, form_of, tokens_from}
use Rattle.reading_back.proofs.Claims.{World, Frame, Spot, rest_of, deeper, Leads, Ready, Read, Flows, IsExpr, Fit}
use Rattle.reading_back.proofs.Passing.{stmt_passes}
use Rattle.reading_back.proofs.StatementClaims.{IsStmt, LowStmt, ends_list, StmtFirst, NoElse, StmtPart}
use Rattle.reading_back.proofs.Flowing.{spread}
pub use Rattle.reading_back.proofs.SameStatements.{StmtLayer, of_case, of_finally, unplaced_form, unplaced_case, unplaced_catch, unplaced_finally, unplaced_parts, same_stmts}
use Rattle.reading_back.proofs.Groups.{expression_reads, right_parenthesis_is, right_parenthesis_joins}
use Rattle.reading_back.proofs.Members.{parenthesis_mark}
use Rattle.reading_back.proofs.Steps.{exactly, after, from, stays, bind, expected, parted, opens, next_some}

-- ---- tokens

abbrev pub semicolon : Shape
semicolon = shape (form_of (codes ";")) false

abbrev pub left_parenthesis : Shape
left_parenthesis = shape (form_of (codes "(")) false

abbrev pub right_parenthesis : Shape
right_parenthesis = shape (form_of (codes ")")) false

pub semicolon_is : Marks.semicolon (form_of (codes ";")) ≡ Some tt
unfolding form_of reserved_word
semicolon_is = refl

-- its first token is no end of a list
pub token_first : (text : List ℕ) (is_tight : Bool) (gap : _) (pieces : List Piece) → ends_list (form_of text) ≡ false → StmtFirst (piece.Token text is_tight gap ∷ pieces)
token_first text is_tight gap pieces e = record { form = form_of text; more = tokens_from false pieces; is = λ line. refl; begins = e }

module _ {all : World} {w : Frame all} where
  allowed : {nb : Numbers} (c : Spot) {t : Stmt} (zs : List Shape) (at : Place) (form : StmtForm) → LowStmt all t → IsStmt t (record { at = at; form = form }) → Ready w c.functions nb
      → finish_stmt at form (rest_of w c zs) ≡ Ok (record { at = at; form = form }, rest_of w c zs)
  unfolding finish_stmt
  allowed {nb = nb} c {t = t} zs at form low is ready = rw (stmt_passes c.functions nb ready t (record { at = at; form = form }) is low) refl

  pub finishes_stmt : {nb : Numbers} {c : Spot} {t : Stmt} {rest : List Shape} (at : Place) (form : StmtForm) → LowStmt all t → IsStmt t (record { at = at; form = form }) → Ready w c.functions nb
      → Leads w.opened w nb (IsStmt t) c rest rest (finish_stmt at form) give
  finishes_stmt {c = c} {t = t} {rest = rest} at form low is ready = from (allowed c {t = t} rest at form low is ready) (stays (record { at = at; form = form }) give is ready)

  -- a statement that begins with a token of its own
  pub begins_with : {A : Type 0} {l : ℕ} {nb : Numbers} {Is : A → Type 0} {c : Spot} {line : Bool} {front rest : List Shape} {k : A → Reading Stmt} (text : List ℕ) (first : S.Beginning) → S.beginning (form_of text) ≡ Some first
      → Leads l w nb Is (after c (shape (form_of text) line)) front rest (S.begun grammar (c.supply 0).0 first) k → Leads l w nb Is c (shape (form_of text) line ∷ front) rest (S.statement grammar) k
  unfolding S.statement
  begins_with {c = c} {line = line} {front = front} text first e h = from (next_some S.beginning first (λ b. S.begun grammar (c.supply 0).0 b) (S.expression_here grammar) (rest_of w c (shape (form_of text) line ∷ front)) e) h

  -- the semicolon at the end of a statement (7.9)
  pub ended : {A C : Type 0} {l : ℕ} {nb : Numbers} {Is : C → Type 0} {c : Spot} {front rest : List Shape} (continues : Option Token → TokenForm → Bool) (f : Unit {0} → Reading A) {k : C → Reading A}
      → Leads l w nb Is (after c semicolon) front rest (f tt) k → Leads l w nb Is c (semicolon ∷ front) rest (ends continues >>= f) k
  unfolding ends
  ended {c = c} {front = front} continues f h = from (ap (λ r. behind r f) (next_some Marks.semicolon tt give _ (rest_of w c (semicolon ∷ front)) semicolon_is)) h

-- ---- heads (12.5, 12.6, 12.11)

abbrev pub head_pieces : List ℕ → List Piece → List Piece
head_pieces first pe = ((word first ++ opening (codes "(")) ++ pe) ++ closing (codes ")")

pub split_head : (first : List ℕ) (pe more : List Piece) → Flows pe → (line : Bool) (rest : List Shape)
    → tokens_from line (head_pieces first pe ++ more) ++ rest ≡ shape (form_of first) line ∷ (left_parenthesis ∷ (tokens_from false pe ++ (right_parenthesis ∷ (tokens_from false more ++ rest))))
split_head first pe more flows line rest =
    ap (λ zs. shape (form_of first) line ∷ (left_parenthesis ∷ zs))
    (ap (λ ps. tokens_from false ps ++ rest) (append_assoc pe (closing (codes ")")) more) ∙ spread pe (closing (codes ")") ++ more) flows false rest)

module _ {all : World} {bound : ℕ} {starts : Bool} {pieces : List Piece} {numbers : Numbers} {e : Expr} where
  pub head_reads : (f : Fit all bound 1 starts true pieces numbers e) (w : Frame all) (c : Spot) (zs : List Shape) (nz : Numbers) → Ready w c.functions (numbers ++ nz)
      → Leads (w.opened + suc bound) w nz (IsExpr e) c (left_parenthesis ∷ (tokens_from false pieces ++ (right_parenthesis ∷ zs))) zs (S.head grammar) give
  unfolding P.group_behind
  head_reads f w c zs nz ready =
      exactly (expected Marks.left_parenthesis tt (λ _. P.group_behind grammar) parenthesis_mark.parenthesis_is
      (parted (ap (λ ys. ys ++ (right_parenthesis ∷ zs)) (f.part.first.is false))
      (bind ((expression_reads f.part).at (deeper w) (after c left_parenthesis) false (right_parenthesis ∷ zs) nz (opens c.functions (numbers ++ nz) ready) (omega (arith, right_parenthesis_joins true)))
      (λ x d is done. expected Marks.right_parenthesis tt (λ _. give x) right_parenthesis_is (stays x give is done))))) (omega arith)

-- ---- parts that are statements

module _ {all : World} {bound : ℕ} {ends_in_if : Bool} {pieces : List Piece} {numbers : Numbers} {t : Stmt} where
  pub stmt_reads : (p : StmtPart all bound ends_in_if pieces numbers t) → Read all (suc bound) pieces numbers (IsStmt t) (NoElse ends_in_if) (part grammar.statement) give
  stmt_reads p = record {
    at = λ w c line rest nz ready fits.
        exactly (parted (ap (λ zs. zs ++ rest) (p.first.is line))
        (from (tied.statement (rest_of (deeper w) c (tokens_from line pieces ++ rest)))
        (p.reads.at (deeper w) c line rest nz (opens c.functions (numbers ++ nz) ready) fits))) (omega arith);
  }
