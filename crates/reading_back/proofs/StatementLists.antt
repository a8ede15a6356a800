-- Lists of statements in braces (12.1).
use Rattle.std.proofs.Common.{◌≡◌, ℕ, suc, ◌+◌, Bool, true, false, cond, List, [], ◌∷◌, ◌++◌, map, length, refl, ap, sym, ◌∙◌, subst, arith, append_assoc, append-nil}
use Rattle.std.specs.Prelude.{◌||◌, ◌==◌, codes, Some, is_some, Result, Ok}
use Rattle.std.proofs.lemmas.Bool.Decides.{nat_tests}
use Rattle.std.proofs.lemmas.List.{map-append}
use Rattle.js_value.specs.declared.place.Place.{Place}
use Rattle.js_tree.specs.Lexing.{reserved_word}
use Rattle.js_tree.specs.Mentions.{joined}
use Rattle.js_tree.specs.declared.statement.Stmt.{Stmt}
use Rattle.js_tree.specs.declared.statement.StmtForm.{StmtForm, out-StmtForm}
use Rattle.js_tree.specs.declared.statement.StmtForm.TheOpen.{StmtForm-F}
use Rattle.js_tree.specs.declared.statement.StmtForm.TheVariants as s
use Rattle.js_tree.specs.declared.refusal.ReadRefused.{ReadRefused}
use Rattle.js_tree.specs.declared.token.Token.{Token}
use Rattle.js_tree.specs.declared.token.TokenForm.{TokenForm}
use Rattle.js_grammar.specs.Blocks as B
use Rattle.js_grammar.specs.FunctionOrder.{Numbers}
use Rattle.js_grammar.specs.Marks
use Rattle.js_grammar.specs.Reading.{grammar}
use Rattle.js_grammar.specs.Rest.{Rest, Reading, behind, ◌>>=◌, give, of_first, sees, part, repeat}
use Rattle.js_grammar.specs.Laws.{Unrolls}
use Rattle.js_grammar.specs.Statements as S
use Rattle.js_grammar.proofs.Laws.{repeated}
use Rattle.script_text.specs.Pieces.{Piece, LineEnd, Close, word, opening, closing}
use Rattle.script_text.specs.Statements.{Shown, lines, line, block, in_braces, begin_braces, end_braces, is_empty}
use Rattle.script_text.specs.Tokens.{Shape, shape, form_of, tokens_from}
use Rattle.reading_back.proofs.Claims.{World, Frame, Spot, rest_of, Leads, Ready, Flows}
use Rattle.reading_back.proofs.StatementClaims.{LowStmt, IsStmt, ends_list, StmtFirst, is_else, is_finally, StmtPart}
use Rattle.reading_back.specs.Unplaced as unplaced
use Rattle.reading_back.proofs.Flowing.{flows_last, flows_token, spread}
use Rattle.reading_back.proofs.StatementSteps.{same_stmts, begins_with, token_first, finishes_stmt, stmt_reads}
use Rattle.script_nesting.specs.Opened.{of_stmts}
use Rattle.reading_back.proofs.Steps.{exactly, after, from, on, become, stays, bind, expected}
use Rattle.reading_back.proofs.TwoOperands.{ready_behind}

-- the same but for places
pub record AreStmts (ts xs : List Stmt) : Type 0 where
  pub same : map unplaced.stmt xs ≡ map unplaced.stmt ts

pub are_more_stmts : (model so_far : List Stmt) (t y : Stmt) → AreStmts model so_far → IsStmt t y → AreStmts (model ++ (t ∷ [])) (so_far ++ (y ∷ []))
are_more_stmts model so_far t y h is = record {
  same =
      map-append unplaced.stmt so_far (y ∷ []) ∙ ap (λ zs. zs ++ (unplaced.stmt y ∷ [])) h.same ∙ ap (λ z. map unplaced.stmt model ++ (z ∷ [])) is.same
      ∙ sym (map-append unplaced.stmt model (t ∷ []));
}

-- a statement in a list of them, as it is shown
pub record Line (all : World) : Type 0 where
  pub shown : Shown
  pub numbers : Numbers
  pub tree : Stmt
  pub ends_in_if : Bool
  pub bound : ℕ
  pub part : StmtPart all bound ends_in_if shown.pieces numbers tree

no_else_shape : (t : TokenForm) → ends_list t ≡ false → (is_some (Marks.else_word t) || is_some (Marks.finally_word t)) ≡ false
no_else_shape t e =
    both (is_some (Marks.right_brace t) || is_some (Marks.case_word t) || is_some (Marks.default_word t)) (is_some (Marks.else_word t)) (is_some (Marks.string t)) (is_some (Marks.finally_word t)) e
  where
    both : (a b c d : Bool) → (a || b || c || d) ≡ false → (b || d) ≡ false
    both true b c d e = absurd (cc)
    both false true c d e = absurd (cc)
    both false false true d e = absurd (cc)
    both false false false d e = e

-- what goes on with no statement is no `finally`
pub no_finally : (rest : List Shape) → is_else rest ≡ false → is_finally rest ≡ false
no_finally [] e = refl
no_finally (s ∷ ss) e = by (is_some (Marks.else_word s.form)) (is_some (Marks.finally_word s.form)) e
  where
    by : (a b : Bool) → (a || b) ≡ false → b ≡ false
    by true b e = absurd (cc)
    by false b e = e

module _ {all : World} where
  abbrev pub bound_lines : List (Line all) → ℕ
  bound_lines xs = of_stmts (map (λ (x : Line all). x.bound) xs)

  abbrev pub shown_lines : List (Line all) → List Shown
  shown_lines xs = map (λ (x : Line all). x.shown) xs

  abbrev pub pieces_lines : List (Line all) → List Piece
  pieces_lines xs = lines (λ s. s) (shown_lines xs)

  abbrev pub numbers_lines : List (Line all) → Numbers
  numbers_lines xs = joined (map (λ (x : Line all). x.numbers) xs)

  abbrev pub tree_lines : List (Line all) → List Stmt
  tree_lines xs = map (λ (x : Line all). x.tree) xs

  -- the tokens of a line, of the lines behind it and of what stands behind them
  spread_lines : (x : Line all) (xs : List (Line all)) (more : List Piece) (rest : List Shape)
      → tokens_from true (pieces_lines (x ∷ xs) ++ more) ++ rest ≡ tokens_from true x.shown.pieces ++ (tokens_from true (pieces_lines xs ++ more) ++ rest)
  spread_lines x xs more rest =
      ap (λ ps. tokens_from true ps ++ rest) (append_assoc (line x.shown) (pieces_lines xs) more ∙ append_assoc x.shown.pieces (LineEnd ∷ []) (pieces_lines xs ++ more))
      ∙ spread x.shown.pieces (LineEnd ∷ (pieces_lines xs ++ more)) x.part.flows true rest

  -- no `else` stands before a list of statements
  no_else_lines : (xs : List (Line all)) (more : List Piece) (rest : List Shape) → is_else (tokens_from true more ++ rest) ≡ false → is_else (tokens_from true (pieces_lines xs ++ more) ++ rest) ≡ false
  no_else_lines [] more rest e = e
  no_else_lines (x ∷ xs) more rest e =
      ap is_else (spread_lines x xs more rest ∙ ap (λ zs. zs ++ (tokens_from true (pieces_lines xs ++ more) ++ rest)) (x.part.first.is true)) ∙ no_else_shape x.part.first.form x.part.first.begins

-- ---- up to where a list is closed

-- it isn't closed before a statement
abbrev pub GoesOn : Reading Bool → Type 0
GoesOn closed = (s : Rest) (t : Token) (ts : List Token) → s.tokens ≡ t ∷ ts → ends_list t.form ≡ false → closed s ≡ Ok (false, s)

abbrev pub again : Reading Bool → List Stmt → Reading (List Stmt)
again closed = repeat (B.more_statements grammar closed)

abbrev turn : Reading Bool → List Stmt → Result (Bool × Rest) ReadRefused → Result (List Stmt × Rest) ReadRefused
turn closed so_far r = behind r (λ done. cond done (give so_far) (part grammar.statement >>= λ x. again closed (so_far ++ (x ∷ []))))

module _ {all : World} (closed : Reading Bool) (unrolls : Unrolls (B.more_statements grammar closed)) (goes_on : GoesOn closed) where
  one_more : (w : Frame all) (c : Spot) (so_far : List Stmt) (t : TokenForm) (begins : Bool) (more front : List Shape) → ends_list t ≡ false → front ≡ shape t begins ∷ more
      → again closed so_far (rest_of w c front) ≡ (part grammar.statement >>= λ x. again closed (so_far ++ (x ∷ []))) (rest_of w c front)
  one_more w c so_far t begins more front e is =
      ap (λ zs. again closed so_far (rest_of w c zs)) is ∙ unrolls so_far (rest_of w c (shape t begins ∷ more)) ∙ ap (turn closed so_far) (goes_on (rest_of w c (shape t begins ∷ more)) _ _ refl e)
      ∙ ap (λ zs. (part grammar.statement >>= λ x. again closed (so_far ++ (x ∷ []))) (rest_of w c zs)) (sym is)

  nothing_more : (model so_far : List Stmt) (w : Frame all) (c : Spot) (zs : List Shape) (nz : Numbers) → AreStmts model so_far → Ready w c.functions nz → closed (rest_of w c zs) ≡ Ok (true, rest_of w c zs)
      → Leads w.opened w nz (AreStmts (model ++ [])) c zs zs (again closed so_far) give
  nothing_more model so_far w c zs nz same ready closes =
      exactly (from {d = c} (unrolls so_far (rest_of w c zs) ∙ ap (turn closed so_far) closes)
      (stays so_far give (record { same = same.same ∙ ap (map unplaced.stmt) (sym (append-nil model)) }) ready)) (omega arith)

  -- where the closing token comes
  pub lines_read : (xs : List (Line all)) (model so_far : List Stmt) (w : Frame all) (c : Spot) (more : List Piece) (rest : List Shape) (nz : Numbers) → AreStmts model so_far
      → Ready w c.functions (numbers_lines xs ++ nz) → is_else (tokens_from true more ++ rest) ≡ false
      → ((d : Spot) → closed (rest_of w d (tokens_from true more ++ rest)) ≡ Ok (true, rest_of w d (tokens_from true more ++ rest)))
      → Leads (w.opened + bound_lines xs) w nz (AreStmts (model ++ tree_lines xs)) c (tokens_from true (pieces_lines xs ++ more) ++ rest) (tokens_from true more ++ rest) (again closed so_far) give
  lines_read [] model so_far w c more rest nz same ready no_else closes = exactly (nothing_more model so_far w c (tokens_from true more ++ rest) nz same ready (closes c)) (omega arith)
  lines_read (x ∷ xs) model so_far w c more rest nz same ready no_else closes =
      exactly (let f = x.part.first in
      let behind_it = tokens_from true (pieces_lines xs ++ more) ++ rest in
      on (spread_lines x xs more rest)
      (from {d = c} (one_more w c so_far f.form true (f.more ++ behind_it) _ f.begins (ap (λ zs. zs ++ behind_it) (f.is true)))
      (bind ((stmt_reads x.part).at w c true behind_it (numbers_lines xs ++ nz) (ready_behind c.functions x.numbers (numbers_lines xs) nz ready)
      (record { holds = λ _. no_else_lines xs more rest no_else; no_finally = no_finally behind_it (no_else_lines xs more rest no_else) })) (λ y d is done.
      become (λ b h. subst (λ ts. AreStmts ts b) (append_assoc model (x.tree ∷ []) (tree_lines xs)) h)
      (lines_read xs (model ++ (x.tree ∷ [])) (so_far ++ (y ∷ [])) w d more rest nz (are_more_stmts model so_far x.tree y same is) done no_else closes))))) (omega arith)

-- ---- in braces

pub left_brace_is : Marks.left_brace (form_of (codes "{")) ≡ Some tt
unfolding form_of reserved_word
left_brace_is = refl

pub right_brace_is : Marks.right_brace (form_of (codes "}")) ≡ Some tt
unfolding form_of reserved_word
right_brace_is = refl

right_brace_no_else : (is_some (Marks.else_word (form_of (codes "}"))) || is_some (Marks.finally_word (form_of (codes "}")))) ≡ false
unfolding form_of reserved_word
right_brace_no_else = refl

brace_goes_on : GoesOn (sees Marks.right_brace)
brace_goes_on s t ts is e = ap (λ zs. Ok (is_some (of_first Marks.right_brace zs), s)) is ∙ ap (λ b. Ok (b, s)) (first_of (is_some (Marks.right_brace t.form)) _ _ _ _ _ e)
  where
    first_of : (a b c d f g : Bool) → (a || b || c || d || f || g) ≡ false → a ≡ false
    first_of true b c d f g e = absurd (cc)
    first_of false b c d f g e = refl

brace_closes : {all : World} (w : Frame all) (d : Spot) (line : Bool) (rest : List Shape) → sees Marks.right_brace (rest_of w d (shape (form_of (codes "}")) line ∷ rest)) ≡ Ok (true, rest_of w d (shape (form_of (codes "}")) line ∷ rest))
brace_closes w d line rest = ap (λ o. Ok (is_some o, rest_of w d (shape (form_of (codes "}")) line ∷ rest))) right_brace_is

pub not_empty : {A : Type 0} (x : A) (xs : List A) → is_empty (x ∷ xs) ≡ false
not_empty x xs = by (length xs)
  where
    by : (n : ℕ) → (suc n == 0) ≡ false
    by n = grind (arith, nat_tests)

abbrev pub in_lines : List Piece → List Piece
in_lines inside = (begin_braces ++ inside) ++ end_braces

module _ {all : World} where
  -- the pieces of a block that isn't empty
  block_is : (x : Line all) (xs : List (Line all)) → block (λ s. s) (shown_lines (x ∷ xs)) ≡ in_lines (pieces_lines (x ∷ xs))
  block_is x xs = ap (λ b. in_braces b (pieces_lines (x ∷ xs))) (not_empty x.shown (shown_lines xs))

  -- behind the brace that opens
  pub braces_read : (xs : List (Line all)) (w : Frame all) (c : Spot) (rest : List Shape) (nz : Numbers) → Ready w c.functions (numbers_lines xs ++ nz)
      → Leads (w.opened + bound_lines xs) w nz (AreStmts (tree_lines xs)) c (tokens_from true (pieces_lines xs ++ end_braces) ++ rest) rest (B.statements_behind_brace grammar) give
  unfolding B.statements_behind_brace B.statements
  braces_read xs w c rest nz ready =
      exactly (bind {Is = AreStmts (tree_lines xs)} (lines_read (sees Marks.right_brace) repeated.statements brace_goes_on xs [] [] w c end_braces rest nz (record { same = refl }) ready right_brace_no_else (λ d. brace_closes w d true rest)) (λ ys d are done.
      expected Marks.right_brace tt (λ _. give ys) right_brace_is (stays ys give are done))) (omega arith)

  pub empty_read : (w : Frame all) (c : Spot) (rest : List Shape) (nz : Numbers) → Ready w c.functions nz
      → Leads w.opened w nz (AreStmts []) c (shape (form_of (codes "}")) false ∷ rest) rest (B.statements_behind_brace grammar) give
  unfolding B.statements_behind_brace B.statements
  empty_read w c rest nz ready =
      exactly (bind {Is = AreStmts []} (nothing_more (sees Marks.right_brace) repeated.statements brace_goes_on [] [] w c (shape (form_of (codes "}")) false ∷ rest) nz (record { same = refl }) ready (brace_closes w c false rest)) (λ ys d are done.
      expected Marks.right_brace tt (λ _. give ys) right_brace_is (stays ys give are done))) (omega arith)

  -- the pieces of a block
  pub block_reads : (xs : List (Line all)) (begins : Bool) (w : Frame all) (c : Spot) (rest : List Shape) (nz : Numbers) → Ready w c.functions (numbers_lines xs ++ nz)
      → Leads (w.opened + bound_lines xs) w nz (AreStmts (tree_lines xs)) c (tokens_from begins (block (λ s. s) (shown_lines xs)) ++ rest) rest (B.braced grammar) give
  block_reads [] begins w c rest nz ready =
      exactly (expected {s = shape (form_of (codes "{")) begins} Marks.left_brace tt (λ _. B.statements_behind_brace grammar) left_brace_is (empty_read w (after c (shape (form_of (codes "{")) begins)) rest nz ready)) (omega arith)
  block_reads (x ∷ xs) begins w c rest nz ready =
      exactly (on (ap (λ ps. tokens_from begins ps ++ rest) (block_is x xs))
      (expected {s = shape (form_of (codes "{")) begins} Marks.left_brace tt (λ _. B.statements_behind_brace grammar) left_brace_is (braces_read (x ∷ xs) w (after c (shape (form_of (codes "{")) begins)) rest nz ready))) (omega arith)

  pub block_flows : (xs : List (Line all)) → Flows (block (λ s. s) (shown_lines xs))
  block_flows [] = flows_last (opening (codes "{")) (closing (codes "}")) (flows_token (codes "}") true _)
  block_flows (x ∷ xs) = subst Flows (sym (block_is x xs)) (flows_last (begin_braces ++ pieces_lines (x ∷ xs)) end_braces (flows_last (Close ∷ []) (word (codes "}")) (flows_token (codes "}") false _)))

-- ---- 12.1

block_begins : S.beginning (form_of (codes "{")) ≡ Some S.Block
unfolding form_of reserved_word
block_begins = refl

block_first : ends_list (form_of (codes "{")) ≡ false
unfolding form_of reserved_word
block_first = refl

module _ {all : World} (at : Place) (form : StmtForm) (low : LowStmt all (record { at = at; form = form })) (xs : List (Line all)) where
  pub block_part : out-StmtForm form ≡ StmtForm-F.Block (tree_lines xs) → StmtPart all (bound_lines xs) false (block (λ s. s) (shown_lines xs)) (numbers_lines xs) (record { at = at; form = form })
  block_part is = record { flows = block_flows xs; first = first xs; reads = record { at = λ w c line rest nz ready fits. by xs is w c line rest nz ready } }
    where
      first : (ys : List (Line all)) → StmtFirst (block (λ s. s) (shown_lines ys))
      first [] = token_first (codes "{") false _ _ block_first
      first (y ∷ ys) = subst StmtFirst (sym (block_is y ys)) (token_first (codes "{") false _ _ block_first)

      finish : (ys : List (Line all)) (us : List Stmt) (p : Place) → out-StmtForm form ≡ StmtForm-F.Block (tree_lines ys) → AreStmts (tree_lines ys) us → IsStmt (record { at = at; form = form }) (record { at = p; form = s.Block us })
      finish ys us p e are = same_stmts p at (s.Block us) form _ _ (s.outs-Block us) e (ap (λ v. StmtForm-F.Block v) are.same)

      by : (ys : List (Line all)) → out-StmtForm form ≡ StmtForm-F.Block (tree_lines ys) → (w : Frame all) (c : Spot) (begins : Bool) (rest : List Shape) (nz : Numbers)
          → Ready w c.functions (numbers_lines ys ++ nz)
          → Leads (w.opened + bound_lines ys) w nz (IsStmt (record { at = at; form = form })) c (tokens_from begins (block (λ s. s) (shown_lines ys)) ++ rest) rest (S.statement grammar) give
      by [] e w c begins rest nz ready =
          exactly (begins_with {c = c} (codes "{") S.Block block_begins
          (bind (empty_read w (after c (shape (form_of (codes "{")) begins)) rest nz ready) (λ us d are done.
          finishes_stmt (c.supply 0).0 (s.Block us) low (finish [] us (c.supply 0).0 e are) done))) (omega arith)
      by (y ∷ ys) e w c begins rest nz ready =
          exactly (on (ap (λ ps. tokens_from begins ps ++ rest) (block_is y ys)) (begins_with {c = c} (codes "{") S.Block block_begins
          (bind (braces_read (y ∷ ys) w (after c (shape (form_of (codes "{")) begins)) rest nz ready) (λ us d are done.
          finishes_stmt (c.supply 0).0 (s.Block us) low (finish (y ∷ ys) us (c.supply 0).0 e are) done)))) (omega arith)
