-- `switch` (12.11).
use Rattle.std.proofs.Common.{◌≡◌, ◌≤◌, ℕ, ◌+◌, Bool, true, false, List, [], ◌∷◌, ◌++◌, map, refl, ap, sym, ◌∙◌, subst, arith, append_assoc, append-nil, suc, max}
use Rattle.std.specs.Prelude.{◌||◌, codes, Option, Some, None, is_some, Result, Ok, Err}
use Rattle.std.specs.List.{flat_map}
use Rattle.std.specs.Option.{option_map}
use Rattle.std.proofs.lemmas.List.{map-append}
use Rattle.js_value.specs.declared.place.Place.{Place}
use Rattle.js_tree.specs.Lexing.{reserved_word}
use Rattle.js_tree.specs.declared.expression.Expr.{Expr}
use Rattle.js_tree.specs.declared.refusal.ReadRefused.{ReadRefused}
use Rattle.js_tree.specs.declared.statement.Case.{Case, roll-Case, out-Case, out-roll-Case}
use Rattle.js_tree.specs.declared.statement.Catch.{Catch}
use Rattle.js_tree.specs.declared.statement.Finally.{Finally, roll-Finally}
use Rattle.js_tree.specs.declared.statement.Stmt.{Stmt}
use Rattle.js_tree.specs.declared.statement.StmtForm.{StmtForm, out-StmtForm}
use Rattle.js_tree.specs.declared.statement.StmtForm.TheFolds.{fold_out-Case}
use Rattle.js_tree.specs.declared.statement.StmtForm.TheOpen.{StmtForm-F, Case-F}
use Rattle.js_tree.specs.declared.statement.StmtForm.TheVariants as s
use Rattle.js_tree.specs.declared.token.TokenForm.{TokenForm}
use Rattle.js_grammar.specs.Blocks as B
use Rattle.js_grammar.specs.FunctionOrder.{Numbers}
use Rattle.js_grammar.specs.Marks
use Rattle.js_grammar.specs.Reading.{grammar}
use Rattle.js_grammar.specs.Rest.{Rest, Reading, behind, ◌>>=◌, give, expect, repeat, finish_stmt}
use Rattle.js_grammar.specs.Statements as S
use Rattle.js_grammar.proofs.Laws.{repeated}
use Rattle.script_text.specs.Pieces.{Piece, Open, Close, LineEnd, word, closing}
use Rattle.script_text.specs.Statements.{clause, in_switch, begin_braces, end_braces, is_empty}
use Rattle.script_text.specs.Tokens.{Shape, shape, form_of, tokens_from}
use Rattle.reading_back.proofs.Claims.{World, Frame, Spot, rest_of, Leads, Ready, Read, Flows, Fit}
use Rattle.reading_back.proofs.StatementClaims.{LowStmt, IsStmt, ends_list, is_else, NoElse, StmtPart}
use Rattle.reading_back.specs.Unplaced as unplaced
use Rattle.reading_back.proofs.Flowing.{flows_last, flows_token, spread}
use Rattle.reading_back.proofs.Groups.{expression_reads}
use Rattle.reading_back.proofs.LooseOperators.{colon_is, colon_joins}
use Rattle.reading_back.proofs.StatementFors.{Opt, opt_bound, opt_numbers, opt_tree}
use Rattle.reading_back.proofs.StatementLists.{AreStmts, Line, bound_lines, pieces_lines, numbers_lines, tree_lines, GoesOn, lines_read, right_brace_is, left_brace_is, not_empty}
use Rattle.reading_back.proofs.StatementSteps.{unplaced_case, same_stmts, begins_with, token_first, finishes_stmt, head_pieces, split_head, head_reads}
use Rattle.script_nesting.specs.Highest.{highest}
use Rattle.reading_back.proofs.Steps.{exactly, after, from, on, become, stays, bind, take, miss, expected}
use Rattle.reading_back.proofs.TwoOperands.{ready_behind}

-- ---- clauses as they are printed

pub record Clause (all : World) : Type 0 where
  pub test : Option (Opt all)
  pub lines : List (Line all)
  pub tree : Case
  pub tree_is : out-Case tree ≡ record { test = opt_tree test; body = tree_lines lines }

abbrev CaseLayer : Type 0
CaseLayer = Case-F StmtForm Case Catch Finally Stmt

pub record IsCase (c x : Case) : Type 0 where
  pub same : unplaced_case x ≡ unplaced_case c

pub record AreCases (cs xs : List Case) : Type 0 where
  pub same : map unplaced_case xs ≡ map unplaced_case cs

abbrev of_case : CaseLayer → Case
of_case l = roll-Case (record { test = option_map unplaced.expr l.test; body = map unplaced.stmt l.body })

case_is : (c : Case) → unplaced_case c ≡ of_case (out-Case c)
case_is c = fold_out-Case StmtForm Case Catch Finally Stmt unplaced.of_stmt_form (λ c. roll-Case (record { test = option_map unplaced.expr c.test; body = c.body })) unplaced.of_catch (λ f. roll-Finally f) unplaced.of_stmt c

same_cases : (c x : Case) (layer mold : CaseLayer) → out-Case x ≡ layer → out-Case c ≡ mold → of_case layer ≡ of_case mold → IsCase c x
same_cases c x layer mold e f same = record { same = case_is x ∙ ap of_case e ∙ same ∙ sym (case_is c ∙ ap of_case f) }

one_more : (model so_far : List Case) (c x : Case) → AreCases model so_far → IsCase c x → AreCases (model ++ (c ∷ [])) (so_far ++ (x ∷ []))
one_more model so_far c x h is = record {
  same =
      map-append unplaced_case so_far (x ∷ []) ∙ ap (λ zs. zs ++ (unplaced_case x ∷ [])) h.same ∙ ap (λ z. map unplaced_case model ++ (z ∷ [])) is.same
      ∙ sym (map-append unplaced_case model (c ∷ []));
}

module _ {all : World} where
  abbrev pub label_pieces : Option (Opt all) → List Piece
  label_pieces None = word (codes "default")
  label_pieces (Some x) = word (codes "case") ++ x.pieces

  abbrev pub clause_pieces : Clause all → List Piece
  clause_pieces c = clause (label_pieces c.test) (pieces_lines c.lines)

  abbrev pub clauses_pieces : List (Clause all) → List Piece
  clauses_pieces cs = flat_map (λ c. c) (map clause_pieces cs)

  abbrev pub clauses_bound : List (Clause all) → ℕ
  clauses_bound cs = highest (map (λ (c : Clause all). max (opt_bound c.test) (bound_lines c.lines)) cs)

  abbrev pub clauses_numbers : List (Clause all) → Numbers
  clauses_numbers [] = []
  clauses_numbers (c ∷ cs) = (opt_numbers c.test ++ numbers_lines c.lines) ++ clauses_numbers cs

  abbrev pub clauses_trees : List (Clause all) → List Case
  clauses_trees cs = map (λ (c : Clause all). c.tree) cs

  -- how many of them are the default
  abbrev pub one_default : Option (Opt all) → ℕ
  one_default None = 1
  one_default (Some x) = 0

  abbrev pub defaults : List (Clause all) → ℕ
  defaults [] = 0
  defaults (c ∷ cs) = one_default c.test + defaults cs

abbrev colon : Shape
colon = shape (form_of (codes ":")) false

-- ---- the tokens of clauses

regroup : (label body more : List Piece) → ((clause label body ++ more) ++ end_braces) ≡ label ++ (closing (codes ":") ++ (Open ∷ (LineEnd ∷ (body ++ (Close ∷ (more ++ end_braces))))))
regroup label body more =
    let co = closing (codes ":") in
    let ol : List Piece = Open ∷ (LineEnd ∷ []) in
    let cl : List Piece = Close ∷ [] in
    append_assoc (clause label body) more end_braces
    ∙ append_assoc (((label ++ co) ++ ol) ++ body) cl (more ++ end_braces)
    ∙ append_assoc ((label ++ co) ++ ol) body (cl ++ (more ++ end_braces))
    ∙ append_assoc (label ++ co) ol (body ++ (cl ++ (more ++ end_braces)))
    ∙ append_assoc label co (ol ++ (body ++ (cl ++ (more ++ end_braces))))

module _ {all : World} where
  abbrev left_shapes : List (Clause all) → List Shape → List Shape
  left_shapes cs rest = tokens_from true (clauses_pieces cs ++ end_braces) ++ rest

  -- behind the label of a clause
  abbrev behind_label : Clause all → List (Clause all) → List Shape → List Shape
  behind_label c cs rest = colon ∷ (tokens_from true (pieces_lines c.lines ++ (Close ∷ (clauses_pieces cs ++ end_braces))) ++ rest)

  spread_default : (c : Clause all) (cs : List (Clause all)) (rest : List Shape)
      → tokens_from true ((clause (word (codes "default")) (pieces_lines c.lines) ++ clauses_pieces cs) ++ end_braces) ++ rest ≡ shape (form_of (codes "default")) true ∷ behind_label c cs rest
  spread_default c cs rest = ap (λ ps. tokens_from true ps ++ rest) (regroup (word (codes "default")) (pieces_lines c.lines) (clauses_pieces cs))

  spread_case : (x : Opt all) (c : Clause all) (cs : List (Clause all)) (rest : List Shape)
      → tokens_from true ((clause (word (codes "case") ++ x.pieces) (pieces_lines c.lines) ++ clauses_pieces cs) ++ end_braces) ++ rest ≡ shape (form_of (codes "case")) true ∷ (tokens_from false x.pieces ++ behind_label c cs rest)
  spread_case x c cs rest =
      ap (λ ps. tokens_from true ps ++ rest) (regroup (word (codes "case") ++ x.pieces) (pieces_lines c.lines) (clauses_pieces cs))
      ∙ ap (λ zs. shape (form_of (codes "case")) true ∷ zs) (spread x.pieces (closing (codes ":") ++ (Open ∷ (LineEnd ∷ (pieces_lines c.lines ++ (Close ∷ (clauses_pieces cs ++ end_braces)))))) x.fit.part.flows false rest)

-- ---- where the statements of a clause end

abbrev closed : Reading Bool
closed = λ r. Ok (S.starts_with_case_end grammar r.tokens, r)

case_goes_on : GoesOn closed
case_goes_on s t ts is e = ap (λ zs. Ok (S.starts_with_case_end grammar zs, s)) is ∙ ap (λ b. Ok (b, s)) (by (is_some (Marks.right_brace t.form)) (is_some (Marks.case_word t.form)) (is_some (Marks.default_word t.form)) _ _ _ e)
  where
    by : (a b c d f g : Bool) → (a || b || c || d || f || g) ≡ false → (b || c || a) ≡ false
    by true b c d f g e = absurd (cc)
    by false true c d f g e = absurd (cc)
    by false false true d f g e = absurd (cc)
    by false false false d f g e = refl

-- a token that begins a clause or ends them all
record Ends (t : TokenForm) : Type 0 where
  closes : S.ends_case grammar t ≡ true
  no_else : (is_some (Marks.else_word t) || is_some (Marks.finally_word t)) ≡ false

case_ends : Ends (form_of (codes "case"))
unfolding form_of reserved_word
case_ends = record { closes = refl; no_else = refl }

default_ends : Ends (form_of (codes "default"))
unfolding form_of reserved_word
default_ends = record { closes = refl; no_else = refl }

brace_ends : Ends (form_of (codes "}"))
unfolding form_of reserved_word
brace_ends = record { closes = refl; no_else = refl }

record EndsFirst (zs : List Shape) : Type 0 where
  t : TokenForm
  more : List Shape
  is : zs ≡ shape t true ∷ more
  ends : Ends t

no_else_before : (zs : List Shape) → EndsFirst zs → is_else zs ≡ false
no_else_before zs f = ap is_else f.is ∙ f.ends.no_else

module _ {all : World} where
  ends_first : (cs : List (Clause all)) (rest : List Shape) → EndsFirst (left_shapes cs rest)
  ends_first [] rest = record { t = form_of (codes "}"); more = rest; is = refl; ends = brace_ends }
  ends_first (c ∷ cs) rest = by c.test
    where
      by : (o : Option (Opt all)) → EndsFirst (tokens_from true ((clause (label_pieces o) (pieces_lines c.lines) ++ clauses_pieces cs) ++ end_braces) ++ rest)
      by None = record { t = form_of (codes "default"); more = behind_label c cs rest; is = spread_default c cs rest; ends = default_ends }
      by (Some x) = record { t = form_of (codes "case"); more = tokens_from false x.pieces ++ behind_label c cs rest; is = spread_case x c cs rest; ends = case_ends }

  closes_before : (zs : List Shape) → EndsFirst zs → (w : Frame all) (d : Spot) → closed (rest_of w d zs) ≡ Ok (true, rest_of w d zs)
  closes_before zs f w d = ap (λ ys. closed (rest_of w d ys)) f.is ∙ ap (λ b. Ok (b, rest_of w d (shape f.t true ∷ f.more))) f.ends.closes ∙ ap (λ ys. Ok (true, rest_of w d ys)) (sym f.is)

  -- behind the label
  case_lead : (c : Clause all) (cs : List (Clause all)) (test t : Option Expr) (w : Frame all) (d : Spot) (rest : List Shape) (nz : Numbers) → out-Case c.tree ≡ record { test = test; body = tree_lines c.lines }
      → option_map unplaced.expr t ≡ option_map unplaced.expr test → Ready w d.functions (numbers_lines c.lines ++ nz)
      → Leads (w.opened + bound_lines c.lines) w nz (IsCase c.tree) d (behind_label c cs rest) (left_shapes cs rest) (S.case_behind grammar t) give
  unfolding B.statements
  case_lead c cs test t w d rest nz is same ready =
      exactly (let more : List Piece = Close ∷ (clauses_pieces cs ++ end_braces) in
      let f = ends_first cs rest in
      expected {c = d} {s = colon} Marks.colon tt _ colon_is
      (bind {Is = AreStmts (tree_lines c.lines)} (lines_read closed repeated.case_statements case_goes_on c.lines [] [] w (after d colon) more rest nz (record { same = refl }) ready (no_else_before _ f) (λ g. closes_before _ f w g)) (λ body g are done.
      stays {c = g} (roll-Case (record { test = t; body = body })) give
      (same_cases c.tree (roll-Case (record { test = t; body = body })) (record { test = t; body = body }) (record { test = test; body = tree_lines c.lines }) (out-roll-Case (record { test = t; body = body })) is
      (ap (λ v. roll-Case (record { test = v; body = map unplaced.stmt body })) same ∙ ap (λ v. roll-Case (record { test = option_map unplaced.expr test; body = v })) are.same)) done))) (omega arith)

-- ---- clauses one after another

default_is : Marks.default_word (form_of (codes "default")) ≡ Some tt
unfolding form_of reserved_word
default_is = refl

default_no_brace : Marks.right_brace (form_of (codes "default")) ≡ None
unfolding form_of reserved_word
default_no_brace = refl

default_no_case : Marks.case_word (form_of (codes "default")) ≡ None
unfolding form_of reserved_word
default_no_case = refl

case_is_one : Marks.case_word (form_of (codes "case")) ≡ Some tt
unfolding form_of reserved_word
case_is_one = refl

case_no_brace : Marks.right_brace (form_of (codes "case")) ≡ None
unfolding form_of reserved_word
case_no_brace = refl

abbrev flag : Bool → ℕ
flag true = 1
flag false = 0

abbrev again : List Case × Bool → Reading (List Case)
again = repeat (S.more_cases grammar)

module _ {all : World} (cs : List (Clause all)) (rest : List Shape) (nz : Numbers) where
  -- what is proved of the clauses behind one
  abbrev Go : Type 0
  Go =
      (model so_far : List Case) (seen : Bool) (w : Frame all) (d : Spot) → AreCases model so_far → flag seen + defaults cs ≤ 1 → Ready w d.functions (clauses_numbers cs ++ nz)
      → Leads (w.opened + clauses_bound cs) w nz (AreCases (model ++ clauses_trees cs)) d (left_shapes cs rest) rest (again (so_far, seen)) give

  module _ (go : Go) (c : Clause all) (model so_far : List Case) (w : Frame all) (d : Spot) (same : AreCases model so_far) where
    behind_one : (seen : Bool) (x : Case) (f : Spot) → IsCase c.tree x → flag seen + defaults cs ≤ 1 → Ready w f.functions (clauses_numbers cs ++ nz)
        → Leads (w.opened + clauses_bound cs) w nz (AreCases (model ++ (c.tree ∷ clauses_trees cs))) f (left_shapes cs rest) rest (again (so_far ++ (x ∷ []), seen)) give
    behind_one seen x f is few ready =
        exactly (become (λ b h. subst (λ es. AreCases es b) (append_assoc model (c.tree ∷ []) (clauses_trees cs)) h)
        (go (model ++ (c.tree ∷ [])) (so_far ++ (x ∷ [])) seen w f (one_more model so_far c.tree x same is) few ready)) (omega arith)

    one_clause : (o : Option (Opt all)) (seen : Bool) → out-Case c.tree ≡ record { test = opt_tree o; body = tree_lines c.lines } → flag seen + (one_default o + defaults cs) ≤ 1
        → Ready w d.functions (((opt_numbers o ++ numbers_lines c.lines) ++ clauses_numbers cs) ++ nz)
        → Leads (w.opened + max (max (opt_bound o) (bound_lines c.lines)) (clauses_bound cs)) w nz (AreCases (model ++ (c.tree ∷ clauses_trees cs))) d (tokens_from true ((clause (label_pieces o) (pieces_lines c.lines) ++ clauses_pieces cs) ++ end_braces) ++ rest) rest (again (so_far, seen)) give
    one_clause None true is few ready = absurd (omega (arith, few))
    one_clause None false is few ready =
        exactly (let t = shape (form_of (codes "default")) true in
        on (spread_default c cs rest)
        (from {d = d} (repeated.cases (so_far, false) (rest_of w d (t ∷ behind_label c cs rest)))
        (miss Marks.right_brace _ _ default_no_brace
        (miss Marks.case_word _ _ default_no_case
        (expected {c = d} {s = t} Marks.default_word tt _ default_is
        (bind (case_lead c cs None None w (after d t) rest (clauses_numbers cs ++ nz) is refl (ready_behind d.functions (numbers_lines c.lines) (clauses_numbers cs) nz ready)) (λ x f isx readyx.
        behind_one true x f isx (omega (arith, few)) readyx))))))) (omega arith)
    one_clause (Some o) seen is few ready =
        exactly (let t = shape (form_of (codes "case")) true in
        let no = o.numbers in
        let nl = numbers_lines c.lines in
        on (spread_case o c cs rest)
        (from {d = d} (repeated.cases (so_far, seen) (rest_of w d (t ∷ (tokens_from false o.pieces ++ behind_label c cs rest))))
        (miss Marks.right_brace _ _ case_no_brace
        (take {c = d} {s = t} Marks.case_word tt _ _ case_is_one
        (bind (tested o is (after d t) (clauses_numbers cs ++ nz) (ready_behind d.functions no nl (clauses_numbers cs ++ nz) (ready_behind d.functions (no ++ nl) (clauses_numbers cs) nz ready))) (λ x f isx readyx.
        behind_one seen x f isx (omega (arith, few)) readyx)))))) (omega arith)
      where
        tested : (o : Opt all) → out-Case c.tree ≡ record { test = Some o.tree; body = tree_lines c.lines } → (d : Spot) (nb : Numbers) → Ready w d.functions (o.numbers ++ (numbers_lines c.lines ++ nb))
            → Leads (w.opened + max o.bound (bound_lines c.lines)) w nb (IsCase c.tree) d (tokens_from false o.pieces ++ behind_label c cs rest) (left_shapes cs rest) (S.tested_case grammar) give
        tested o is d nb ready =
            exactly (bind ((expression_reads o.fit.part).at w d false (behind_label c cs rest) (numbers_lines c.lines ++ nb) ready (omega (arith, colon_joins true))) (λ x f isx readyx.
            case_lead c cs (Some o.tree) (Some x) w f rest nb is (ap Some isx.same) readyx)) (omega arith)

clauses_lead : {all : World} (cs : List (Clause all)) (rest : List Shape) (nz : Numbers) → Go cs rest nz
clauses_lead [] rest nz model so_far seen w d same few ready =
    exactly (from {d = d} (repeated.cases (so_far, seen) (rest_of w d (shape (form_of (codes "}")) true ∷ rest)))
    (take {c = d} {s = shape (form_of (codes "}")) true} Marks.right_brace tt _ _ right_brace_is
    (stays so_far give (record { same = same.same ∙ ap (map unplaced_case) (sym (append-nil model)) }) ready))) (omega arith)
clauses_lead (c ∷ cs) rest nz model so_far seen w d same few ready = exactly (one_clause cs rest nz (clauses_lead cs rest nz) c model so_far w d same c.test seen c.tree_is few ready) (omega arith)

-- ---- the statement

switch_begins : S.beginning (form_of (codes "switch")) ≡ Some S.Switch
unfolding form_of reserved_word
switch_begins = refl

switch_first : ends_list (form_of (codes "switch")) ≡ false
unfolding form_of reserved_word
switch_first = refl

module _ {all : World} where
  abbrev pub body_pieces : List (Clause all) → List Piece
  body_pieces cs = in_switch (is_empty (map clause_pieces cs)) (clauses_pieces cs)

  body_is : (c : Clause all) (cs : List (Clause all)) → body_pieces (c ∷ cs) ≡ (begin_braces ++ clauses_pieces (c ∷ cs)) ++ end_braces
  body_is c cs = ap (λ b. in_switch b (clauses_pieces (c ∷ cs))) (not_empty (clause_pieces c) (map clause_pieces cs))

  body_flows : (cs : List (Clause all)) → Flows (body_pieces cs)
  body_flows [] = flows_last (word (codes "{")) (word (codes "}")) (flows_token (codes "}") false _)
  body_flows (c ∷ cs) = subst Flows (sym (body_is c cs)) (flows_last (begin_braces ++ clauses_pieces (c ∷ cs)) end_braces (flows_last (Close ∷ []) (word (codes "}")) (flows_token (codes "}") false _)))

  -- from the brace that opens
  body_lead : (cs : List (Clause all)) (w : Frame all) (d : Spot) (rest : List Shape) (nz : Numbers) → defaults cs ≤ 1 → Ready w d.functions (clauses_numbers cs ++ nz)
      → Leads (w.opened + clauses_bound cs) w nz (AreCases (clauses_trees cs)) d (tokens_from false (body_pieces cs) ++ rest) rest (expect Marks.left_brace >>= λ _. again ([], false)) give
  body_lead [] w d rest nz few ready =
      exactly (let b = shape (form_of (codes "{")) false in
      expected {c = d} {s = b} Marks.left_brace tt _ left_brace_is
      (from {d = after d b} (repeated.cases ([], false) (rest_of w (after d b) (shape (form_of (codes "}")) false ∷ rest)))
      (take {c = after d b} {s = shape (form_of (codes "}")) false} Marks.right_brace tt _ _ right_brace_is (stays [] give (record { same = refl }) ready)))) (omega arith)
  body_lead (c ∷ cs) w d rest nz few ready =
      exactly (let b = shape (form_of (codes "{")) false in
      on (ap (λ ps. tokens_from false ps ++ rest) (body_is c cs))
      (expected {c = d} {s = b} Marks.left_brace tt _ left_brace_is (clauses_lead (c ∷ cs) rest nz [] [] false w (after d b) (record { same = refl }) (omega (arith, few)) ready))) (omega arith)

module _ {all : World} {be : ℕ} {se : Bool} {pe : List Piece} {ne : Numbers} {e : Expr} (at : Place) (form : StmtForm) (low : LowStmt all (record { at = at; form = form })) (cs : List (Clause all)) where
  switch_reads : out-StmtForm form ≡ StmtForm-F.Switch e (clauses_trees cs) → defaults cs ≤ 1 → (f : Fit all be 1 se true pe ne e)
      → Read all (max (suc be) (clauses_bound cs)) (head_pieces (codes "switch") pe ++ body_pieces cs) (ne ++ clauses_numbers cs) (IsStmt (record { at = at; form = form })) (NoElse false) (S.statement grammar) give
  unfolding S.switch_behind
  switch_reads is few f = record {
    at = λ w c line rest nz ready fits.
        exactly (let p = (c.supply 0).0 in
        let o = after c (shape (form_of (codes "switch")) line) in
        on (split_head (codes "switch") pe (body_pieces cs) f.part.flows line rest)
        (begins_with {c = c} (codes "switch") S.Switch switch_begins
        (bind (head_reads f w o (tokens_from false (body_pieces cs) ++ rest) (clauses_numbers cs ++ nz) (ready_behind c.functions ne (clauses_numbers cs) nz ready)) (λ x d isx readyx.
        from {d = d} {n = (expect Marks.left_brace >>= λ _. again ([], false)) >>= λ ys. finish_stmt p (s.Switch x ys)} (regrouped p x (rest_of w d (tokens_from false (body_pieces cs) ++ rest)))
        (bind (body_lead cs w d rest nz few readyx) (λ ys g are done.
        finishes_stmt p (s.Switch x ys) low (same_stmts p at (s.Switch x ys) form _ _ (s.outs-Switch x ys) is
        (ap (λ v. StmtForm-F.Switch v (map unplaced_case ys)) isx.same ∙ ap (λ v. StmtForm-F.Switch (unplaced.expr e) v) are.same)) done)))))) (omega arith);
  }
    where
      regrouped : (p : Place) (x : Expr) (r : Rest) → (expect Marks.left_brace >>= λ _. again ([], false) >>= λ ys. finish_stmt p (s.Switch x ys)) r ≡ ((expect Marks.left_brace >>= λ _. again ([], false)) >>= λ ys. finish_stmt p (s.Switch x ys)) r
      regrouped p x r = by (expect Marks.left_brace r)
        where
          by : (q : Result (Unit {0} × Rest) ReadRefused) → behind q (λ _. again ([], false) >>= λ ys. finish_stmt p (s.Switch x ys)) ≡ behind (behind q (λ _. again ([], false))) (λ ys. finish_stmt p (s.Switch x ys))
          by (Ok y) = refl
          by (Err f) = refl

  pub switch_part : out-StmtForm form ≡ StmtForm-F.Switch e (clauses_trees cs) → defaults cs ≤ 1 → Fit all be 1 se true pe ne e
      → StmtPart all (max (suc be) (clauses_bound cs)) false (head_pieces (codes "switch") pe ++ body_pieces cs) (ne ++ clauses_numbers cs) (record { at = at; form = form })
  switch_part is few f = record {
    flows = flows_last (head_pieces (codes "switch") pe) (body_pieces cs) (body_flows cs);
    first = token_first (codes "switch") false _ _ switch_first;
    reads = switch_reads is few f;
  }
