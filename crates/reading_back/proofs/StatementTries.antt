-- `try` with its handler and its last part (12.14).
use Rattle.std.proofs.Common.{◌≡◌, ℕ, ◌+◌, Bool, true, false, cond, List, [], ◌∷◌, ◌++◌, map, refl, ap, sym, ◌∙◌, subst, arith, append_assoc, append-nil, max}
use Rattle.std.specs.Prelude.{◌||◌, codes, Option, Some, None, is_some}
use Rattle.std.specs.Option.{option_map}
use Rattle.js_value.specs.declared.place.Place.{Place}
use Rattle.js_tree.specs.Lexing.{reserved_word}
use Rattle.js_tree.specs.Refusals.{place}
use Rattle.js_tree.specs.declared.statement.Case.{Case}
use Rattle.js_tree.specs.declared.statement.Catch.{Catch, roll-Catch, out-Catch, out-roll-Catch}
use Rattle.js_tree.specs.declared.statement.Finally.{Finally, roll-Finally, out-Finally, out-roll-Finally}
use Rattle.js_tree.specs.declared.statement.Name.{Name}
use Rattle.js_tree.specs.declared.statement.Stmt.{Stmt}
use Rattle.js_tree.specs.declared.statement.StmtForm.{StmtForm, out-StmtForm}
use Rattle.js_tree.specs.declared.statement.StmtForm.TheFolds.{fold_out-Catch, fold_out-Finally}
use Rattle.js_tree.specs.declared.statement.StmtForm.TheOpen.{StmtForm-F, Catch-F, Finally-F}
use Rattle.js_tree.specs.declared.statement.StmtForm.TheVariants as s
use Rattle.js_tree.specs.declared.token.TokenForm.{TokenForm}
use Rattle.js_grammar.specs.Blocks as B
use Rattle.js_grammar.specs.FunctionOrder.{Numbers}
use Rattle.js_grammar.specs.Functions as F
use Rattle.js_grammar.specs.Marks
use Rattle.js_grammar.specs.ReadableWords.{is_identifier}
use Rattle.js_grammar.specs.Reading.{grammar}
use Rattle.js_grammar.specs.Rest.{Rest, Reading, ◌>>=◌, ◌>>◌, give, part, expect, finish_stmt, unexpected}
use Rattle.js_grammar.specs.Statements as S
use Rattle.script_text.specs.Expressions.{name}
use Rattle.script_text.specs.Pieces.{Piece, Bind, Release, word}
use Rattle.script_text.specs.Statements.{block, catch_head, binding}
use Rattle.script_text.specs.Tokens.{Shape, shape, form_of, name_form, tokens_from}
use Rattle.reading_back.proofs.Claims.{World, Frame, Spot, rest_of, deeper, Leads, Ready, Read, Flows}
use Rattle.reading_back.proofs.StatementClaims.{LowStmt, IsStmt, ends_list, is_finally, NoElse, StmtPart}
use Rattle.reading_back.specs.Unplaced as unplaced
use Rattle.reading_back.proofs.Flowing.{flows_last, spread}
use Rattle.reading_back.proofs.FunctionBodies.{flows_release}
use Rattle.reading_back.proofs.FunctionNames.{is_declared, name_lead}
use Rattle.reading_back.proofs.Groups.{right_parenthesis_is}
use Rattle.reading_back.proofs.Members.{parenthesis_mark}
use Rattle.reading_back.proofs.StatementLists.{AreStmts, Line, bound_lines, shown_lines, numbers_lines, tree_lines, block_reads, block_flows}
use Rattle.reading_back.proofs.StatementSteps.{of_case, of_finally, StmtLayer, unplaced_catch, unplaced_finally, unplaced_parts, same_stmts, begins_with, finishes_stmt, right_parenthesis, left_parenthesis}
use Rattle.reading_back.proofs.Steps.{exactly, after, first_of_shapes, from, on, stays, bind, take, miss, expected, parted, opens}
use Rattle.reading_back.proofs.TwoOperands.{ready_behind}

-- ---- last parts

finally_is : Marks.finally_word (form_of (codes "finally")) ≡ Some tt
unfolding form_of reserved_word
finally_is = refl

pub finally_no_catch : Marks.catch_word (form_of (codes "finally")) ≡ None
unfolding form_of reserved_word
finally_no_catch = refl

catch_is : Marks.catch_word (form_of (codes "catch")) ≡ Some tt
unfolding form_of reserved_word
catch_is = refl

try_begins : S.beginning (form_of (codes "try")) ≡ Some S.Try
unfolding form_of reserved_word
try_begins = refl

try_first : ends_list (form_of (codes "try")) ≡ false
unfolding form_of reserved_word
try_first = refl

-- a handler or a last part, as it is printed, or none; where there is none, such a word doesn't stand behind
pub record MaybePart (all : World) (bound : ℕ) {A : Type 0} (pieces : List Piece) (numbers : Numbers) (o : Option A) (unplace : A → A) (want : TokenForm → Option (Unit {0})) (read : Reading (Option A)) : Type 0 where
  pub ends : (before : List Piece) → Flows before → Flows (before ++ pieces)
  pub reads : (w : Frame all) (c : Spot) (rest : List Shape) (nz : Numbers) → Ready w c.functions (numbers ++ nz) → (o ≡ None → first_of_shapes want rest ≡ None)
      → Leads (w.opened + bound) w nz (λ (p : Option A). option_map unplace p ≡ option_map unplace o) c (tokens_from false pieces ++ rest) rest read give

abbrev pub finally_pieces : List Piece → List Piece
finally_pieces body = word (codes "finally") ++ body

finally_layer : (f : Finally) (body : List Stmt) → out-Finally f ≡ record { body = body } → unplaced_finally f ≡ roll-Finally (record { body = map unplaced.stmt body })
finally_layer f body e =
    fold_out-Finally StmtForm Case Catch Finally Stmt unplaced.of_stmt_form of_case unplaced.of_catch of_finally unplaced.of_stmt f
    ∙ ap (λ (l : Finally-F StmtForm Case Catch Finally Stmt). roll-Finally (record { body = map unplaced.stmt l.body })) e

catch_layer : (c : Catch) (at : Place) (text : List ℕ) (body : List Stmt) → out-Catch c ≡ record { at = at; name = text; body = body } → unplaced_catch c ≡ roll-Catch (record { at = place 0; name = text; body = map unplaced.stmt body })
catch_layer c at text body e =
    fold_out-Catch StmtForm Case Catch Finally Stmt unplaced.of_stmt_form of_case unplaced.of_catch of_finally unplaced.of_stmt c
    ∙ ap (λ (l : Catch-F StmtForm Case Catch Finally Stmt). roll-Catch (record { at = place 0; name = l.name; body = map unplaced.stmt l.body })) e

module _ {all : World} where
  pub no_handler : MaybePart all 0 [] [] None unplaced_catch Marks.catch_word (S.catch_part grammar)
  no_handler = record {
    ends = λ before h. subst Flows (sym (append-nil before)) h;
    reads = λ w c rest nz ready none. exactly (miss Marks.catch_word _ _ (none refl) (stays None give refl ready)) (omega arith);
  }

  pub no_last : MaybePart all 0 [] [] None unplaced_finally Marks.finally_word (S.finally_part grammar)
  no_last = record {
    ends = λ before h. subst Flows (sym (append-nil before)) h;
    reads = λ w c rest nz ready none. exactly (miss Marks.finally_word _ _ (none refl) (stays None give refl ready)) (omega arith);
  }

  module _ (xs : List (Line all)) where
    abbrev inside : List Piece
    inside = block (λ s. s) (shown_lines xs)

    pub last_part : (f : Finally) → out-Finally f ≡ record { body = tree_lines xs } → MaybePart all (bound_lines xs) (finally_pieces inside) (numbers_lines xs) (Some f) unplaced_finally Marks.finally_word (S.finally_part grammar)
    last_part f is = record {
      ends = λ before h. flows_last before (finally_pieces inside) (flows_last (word (codes "finally")) inside (block_flows xs));
      reads = λ w c rest nz ready none.
          exactly (take {c = c} {s = shape (form_of (codes "finally")) false} Marks.finally_word tt _ _ finally_is
          (bind (block_reads xs false w (after c (shape (form_of (codes "finally")) false)) rest nz ready) (λ ts d are done.
          stays {c = d} (Some (roll-Finally (record { body = ts }))) give
          (ap Some (finally_layer (roll-Finally (record { body = ts })) ts (out-roll-Finally (record { body = ts })) ∙ ap (λ us. roll-Finally (record { body = us })) are.same ∙ sym (finally_layer f (tree_lines xs) is))) done))) (omega arith);
    }

    -- ---- handlers

    abbrev handler_pieces : List ℕ → List Piece
    handler_pieces text = catch_head text ++ binding (text ∷ []) inside

    -- the name in its parentheses
    abbrev named : Reading Name
    named = part (F.declared_name >>= λ name. expect Marks.right_parenthesis >> give name)

    abbrev caught : Name → Reading (Option Catch)
    caught name = B.braced grammar >>= λ body. give (Some (roll-Catch (record { at = name.at; name = name.text; body = body })))

    split_handler : (text : List ℕ) (rest : List Shape) → tokens_from false (handler_pieces text) ++ rest
        ≡ shape (form_of (codes "catch")) false ∷ (left_parenthesis ∷ (shape (name_form text) false ∷ (right_parenthesis ∷ (tokens_from false inside ++ rest))))
    unfolding catch_head
    split_handler text rest =
        ap (λ zs. shape (form_of (codes "catch")) false ∷ (left_parenthesis ∷ (shape (name_form text) false ∷ (right_parenthesis ∷ (zs ++ rest)))))
        ((block_flows xs).at false (Release ∷ []) ∙ append-nil (tokens_from false inside))

    flows_handler : (text : List ℕ) → Flows (handler_pieces text)
    flows_handler text = flows_last (catch_head text) (binding (text ∷ []) inside) (flows_last (Bind (text ∷ []) ∷ []) (inside ++ Release ∷ []) (flows_release inside (block_flows xs)))

    pub handler_part : (h : Catch) (at : Place) (text : List ℕ) → out-Catch h ≡ record { at = at; name = text; body = tree_lines xs } → is_identifier text ≡ true
        → MaybePart all (max 1 (bound_lines xs)) (handler_pieces text) (numbers_lines xs) (Some h) unplaced_catch Marks.catch_word (S.catch_part grammar)
    handler_part h at text is identifier = record {
      ends = λ before f. flows_last before (handler_pieces text) (flows_handler text);
      reads = λ w c rest nz ready none.
          let k : Shape = shape (form_of (codes "catch")) false in
          let n : Shape = shape (name_form text) false in
          let d = after c k in
          let l = after d left_parenthesis in
          let behind = tokens_from false inside ++ rest in
          let the_name : Name = record { at = at; text = text } in
          exactly (on (split_handler text rest)
          (take {c = c} {s = k} Marks.catch_word tt (λ _. expect Marks.left_parenthesis >> (named >>= λ name. caught name)) (give None) catch_is
          (expected {c = d} {s = left_parenthesis} Marks.left_parenthesis tt (λ _. named >>= λ name. caught name) parenthesis_mark.parenthesis_is
          (bind {Is = λ (m : Name). m.text ≡ text} (parted refl
          (bind (name_lead the_name (is_declared text identifier) (deeper w) l false (right_parenthesis ∷ behind) (numbers_lines xs ++ nz) (opens l.functions (numbers_lines xs ++ nz) ready)) (λ m f same done.
          expected {c = f} {s = right_parenthesis} Marks.right_parenthesis tt (λ _. give m) right_parenthesis_is (stays m give (ap (λ (x : Name). x.text) same.same) done))))
          (λ m f same done.
          bind (block_reads xs false w f rest nz done) (λ ts g are finished.
          let x : Catch = roll-Catch (record { at = m.at; name = m.text; body = ts }) in
          stays {c = g} (Some x) give
          (ap Some (catch_layer x m.at m.text ts (out-roll-Catch (record { at = m.at; name = m.text; body = ts })) ∙ ap (λ (q : List ℕ). roll-Catch (record { at = place 0; name = q; body = map unplaced.stmt ts })) same
          ∙ ap (λ us. roll-Catch (record { at = place 0; name = text; body = us })) are.same ∙ sym (catch_layer h at text (tree_lines xs) is))) finished)))))) (omega arith);
    }

-- ---- the statement

abbrev pub try_pieces : List Piece → List Piece → List Piece → List Piece
try_pieces inside hp fp = ((word (codes "try") ++ inside) ++ hp) ++ fp

same_some : {A : Type 0} (f : A → A) (o p : Option A) → option_map f o ≡ option_map f p → is_some o ≡ is_some p
same_some f None None e = refl
same_some f None (Some x) e = absurd (cc)
same_some f (Some x) None e = absurd (cc)
same_some f (Some x) (Some y) e = refl

if_true : {A : Type 0} (b : Bool) (m u : Reading A) (s : Rest) → b ≡ true → cond b m u s ≡ m s
if_true b m u s e = rw e refl

abbrev tried : List Stmt → Option Catch → Option Finally → StmtLayer
tried ts h f = StmtForm-F.Try ts h f

no_last_word : (rest : List Shape) → is_finally rest ≡ false → first_of_shapes Marks.finally_word rest ≡ None
no_last_word [] e = refl
no_last_word (s ∷ ss) e = by (Marks.finally_word s.form) e
  where
    by : (o : Option (Unit {0})) → is_some o ≡ false → o ≡ None
    by None e = refl
    by (Some u) e = absurd (cc)

try_same : (ts us : List Stmt) (x h : Option Catch) (y f : Option Finally) → AreStmts us ts → option_map unplaced_catch x ≡ option_map unplaced_catch h → option_map unplaced_finally y ≡ option_map unplaced_finally f
    → unplaced_parts (tried ts x y) ≡ unplaced_parts (tried us h f)
try_same ts us None None None None are sameh samef =
    ap (λ vs. tried vs (option_map unplaced_catch None) (option_map unplaced_finally None)) are.same ∙ ap (λ o. tried (map unplaced.stmt us) o (option_map unplaced_finally None)) sameh ∙ ap (λ o. tried (map unplaced.stmt us) (option_map unplaced_catch None) o) samef
try_same ts us None None (Some c) (Some d) are sameh samef =
    ap (λ vs. tried vs (option_map unplaced_catch None) (option_map unplaced_finally (Some c))) are.same ∙ ap (λ o. tried (map unplaced.stmt us) o (option_map unplaced_finally (Some c))) sameh ∙ ap (λ o. tried (map unplaced.stmt us) (option_map unplaced_catch None) o) samef
try_same ts us (Some a) (Some b) None None are sameh samef =
    ap (λ vs. tried vs (option_map unplaced_catch (Some a)) (option_map unplaced_finally None)) are.same ∙ ap (λ o. tried (map unplaced.stmt us) o (option_map unplaced_finally None)) sameh ∙ ap (λ o. tried (map unplaced.stmt us) (option_map unplaced_catch (Some b)) o) samef
try_same ts us (Some a) (Some b) (Some c) (Some d) are sameh samef =
    ap (λ vs. tried vs (option_map unplaced_catch (Some a)) (option_map unplaced_finally (Some c))) are.same ∙ ap (λ o. tried (map unplaced.stmt us) o (option_map unplaced_finally (Some c))) sameh ∙ ap (λ o. tried (map unplaced.stmt us) (option_map unplaced_catch (Some b)) o) samef
try_same ts us None (Some b) y f are sameh samef = absurd (cc)
try_same ts us (Some a) None y f are sameh samef = absurd (cc)
try_same ts us x h None (Some d) are sameh samef = absurd (cc)
try_same ts us x h (Some c) None are sameh samef = absurd (cc)

module _ {all : World} (at : Place) (form : StmtForm) (low : LowStmt all (record { at = at; form = form })) (xs : List (Line all)) (h : Option Catch) (f : Option Finally) {bh bf : ℕ} {hp fp : List Piece} {nh nf : Numbers}
    (ph : MaybePart all bh hp nh h unplaced_catch Marks.catch_word (S.catch_part grammar)) (pf : MaybePart all bf fp nf f unplaced_finally Marks.finally_word (S.finally_part grammar)) where
  abbrev body_pieces : List Piece
  body_pieces = block (λ s. s) (shown_lines xs)

  flows_body : Flows (word (codes "try") ++ body_pieces)
  flows_body = flows_last (word (codes "try")) body_pieces (block_flows xs)

  split_try : (line : Bool) (rest : List Shape) → tokens_from line (try_pieces body_pieces hp fp) ++ rest
      ≡ shape (form_of (codes "try")) line ∷ (tokens_from false body_pieces ++ (tokens_from false hp ++ (tokens_from false fp ++ rest)))
  split_try line rest =
      spread ((word (codes "try") ++ body_pieces) ++ hp) fp (ph.ends (word (codes "try") ++ body_pieces) flows_body) line rest
      ∙ ap (λ zs. zs ++ (tokens_from false fp ++ rest)) (flows_body.at line hp)
      ∙ append_assoc (tokens_from line (word (codes "try") ++ body_pieces)) (tokens_from false hp) (tokens_from false fp ++ rest)

  try_reads : out-StmtForm form ≡ StmtForm-F.Try (tree_lines xs) h f → (is_some h || is_some f) ≡ true → ((rest : List Shape) → h ≡ None → first_of_shapes Marks.catch_word (tokens_from false fp ++ rest) ≡ None)
      → Read all (max (max (bound_lines xs) bh) bf) (try_pieces body_pieces hp fp) ((numbers_lines xs ++ nh) ++ nf) (IsStmt (record { at = at; form = form })) (NoElse false) (S.statement grammar) give
  unfolding S.try_behind
  try_reads is some no_catch = record {
    at = λ w c line rest nz ready fits.
        exactly (let p = (c.supply 0).0 in
        let d = after c (shape (form_of (codes "try")) line) in
        let last = tokens_from false fp ++ rest in
        let middle = tokens_from false hp ++ last in
        on (split_try line rest)
        (begins_with {c = c} (codes "try") S.Try try_begins
        (bind (block_reads xs false w d middle (nh ++ (nf ++ nz)) (ready_behind c.functions (numbers_lines xs) nh (nf ++ nz) (ready_behind c.functions (numbers_lines xs ++ nh) nf nz ready))) (λ ts g are readyg.
        bind (ph.reads w g last (nf ++ nz) readyg (no_catch rest)) (λ x k sameh readyk.
        bind (pf.reads w k rest nz readyk (λ e. no_last_word rest fits.no_finally)) (λ y l samef readyl.
        from (if_true (is_some x || is_some y) (finish_stmt p (s.Try ts x y)) unexpected (rest_of w l rest)
        (ap (λ b. b || is_some y) (same_some unplaced_catch x h sameh) ∙ ap (λ b. is_some h || b) (same_some unplaced_finally y f samef) ∙ some))
        (finishes_stmt {c = l} p (s.Try ts x y) low (same_stmts p at (s.Try ts x y) form _ _ (s.outs-Try ts x y) is (try_same ts (tree_lines xs) x h y f are sameh samef)) readyl))))))) (omega arith);
  }

  pub try_part : out-StmtForm form ≡ StmtForm-F.Try (tree_lines xs) h f → (is_some h || is_some f) ≡ true → ((rest : List Shape) → h ≡ None → first_of_shapes Marks.catch_word (tokens_from false fp ++ rest) ≡ None)
      → StmtPart all (max (max (bound_lines xs) bh) bf) false (try_pieces body_pieces hp fp) ((numbers_lines xs ++ nh) ++ nf) (record { at = at; form = form })
  try_part is some no_catch = record {
    flows = pf.ends ((word (codes "try") ++ body_pieces) ++ hp) (ph.ends (word (codes "try") ++ body_pieces) flows_body);
    first = record {
      form = form_of (codes "try");
      more = _;
      is = λ line. sym (append-nil (tokens_from line (try_pieces body_pieces hp fp))) ∙ split_try line [];
      begins = try_first;
    };
    reads = try_reads is some no_catch;
  }
