-- Every readable statement, as it is printed, reads back, and so does every element of a body or script.
use Rattle.std.proofs.Common.{◌≡◌, ◌≤◌, ℕ, ◌+◌, Bool, true, false, cond, List, [], ◌∷◌, ◌++◌, map, refl, ap, sym, ◌∙◌, subst, arith, append-nil, suc, max}
use Rattle.std.specs.Prelude.{◌||◌, not, nat_le, codes, sum_by, Option, Some, None, is_some, is_none}
use Rattle.std.specs.List.{list_all, flat_map}
use Rattle.std.proofs.lemmas.Bool.Decides.{nat_tests}
use Rattle.std.proofs.lemmas.List.Sums.{sum_by-cons}
use Rattle.js_value.specs.declared.place.FuncNo.{FuncNo}
use Rattle.js_value.specs.declared.place.Place.{Place}
use Rattle.js_tree.specs.Mentions.{joined}
use Rattle.js_tree.specs.declared.expression.Expr.{Expr}
use Rattle.js_tree.specs.declared.statement.Case.{Case, roll-Case, out-roll-Case, fold-Case}
use Rattle.js_tree.specs.declared.statement.Catch.{Catch, roll-Catch, out-roll-Catch, fold-Catch}
use Rattle.js_tree.specs.declared.statement.Declarator.{Declarator}
use Rattle.js_tree.specs.declared.statement.Finally.{Finally, roll-Finally, out-roll-Finally, fold-Finally}
use Rattle.js_tree.specs.declared.statement.ForStart.{ForStart}
use Rattle.js_tree.specs.declared.statement.ForTarget.{ForTarget}
use Rattle.js_tree.specs.declared.statement.Stmt.{Stmt, roll-Stmt}
use Rattle.js_tree.specs.declared.statement.StmtForm.{StmtForm, roll-StmtForm, out-StmtForm, out-roll-StmtForm, fold-StmtForm}
use Rattle.js_tree.specs.declared.statement.StmtForm.TheFolds.{map-StmtForm, fold-roll-StmtForm, fold-roll-Case, fold-roll-Catch, fold-roll-Finally, fold_out-Stmt, ind-Stmt}
use Rattle.js_tree.specs.declared.statement.StmtForm.TheOpen.{StmtForm-F, Case-F, Catch-F, Finally-F, Stmt-F}
use Rattle.js_grammar.specs.FunctionOrder as order
use Rattle.js_grammar.specs.FunctionOrder.{Numbers}
use Rattle.js_grammar.specs.Marks
use Rattle.js_grammar.specs.Readable as readable
use Rattle.js_grammar.specs.Readable.{ReadStmt, ReadCase, is_part}
use Rattle.js_grammar.specs.ReadableExpressions as readable_expression
use Rattle.js_grammar.specs.Reading.{grammar}
use Rattle.js_grammar.specs.Statements as S
use Rattle.script_text.specs.Expressions as text
use Rattle.script_text.specs.Pieces.{Piece, word, closing, separated}
use Rattle.script_text.specs.Statements as shown
use Rattle.script_text.specs.Statements.{Shown, head, block, for_head, for_rest, for_in_head, in_rest, end_of_do, catch_head}
use Rattle.script_text.specs.Tokens.{Shape, tokens_from}
use Rattle.reading_back.proofs.Claims.{World, FunctionsRead}
use Rattle.reading_back.proofs.StatementClaims.{LowStmt, StmtPart, ElementPart}
use Rattle.reading_back.proofs.FunctionBodies.{ElementsRead}
use Rattle.reading_back.proofs.Readability.{both}
use Rattle.reading_back.proofs.StatementElements.{element_of, declaration_part}
use Rattle.reading_back.proofs.StatementEvals.{eval_part}
use Rattle.reading_back.proofs.StatementForIns.{for_in_part}
use Rattle.reading_back.proofs.StatementFors.{opt_bound, Opt, opt_numbers, opt_tree, for_part}
use Rattle.reading_back.proofs.StatementHeads.{if_part, else_part, while_part, do_part}
use Rattle.reading_back.proofs.StatementLists.{bound_lines, Line, shown_lines, pieces_lines, numbers_lines, tree_lines, block_part}
use Rattle.reading_back.proofs.StatementParts.{opt, any, evaluated, vars_of, start_of, target_of}
use Rattle.reading_back.proofs.StatementSteps.{StmtLayer, unplaced_catch, unplaced_finally, head_pieces}
use Rattle.reading_back.proofs.StatementSwitches.{clauses_bound, Clause, label_pieces, clause_pieces, body_pieces, clauses_numbers, clauses_trees, defaults, one_default, switch_part}
use Rattle.reading_back.proofs.StatementTries.{MaybePart, finally_no_catch, no_handler, no_last, handler_part, last_part, try_part}
use Rattle.reading_back.proofs.StatementVars.{decls_bound, decl_pieces, var_part}
use Rattle.reading_back.proofs.StatementWords.{empty_part, continue_part, break_part, throw_part, return_none_part, return_part}
use Rattle.reading_back.proofs.Steps.{first_of_shapes}
use Rattle.script_nesting.proofs.Equations.{stmt_heights, stmt_height_is, high_case, high_catch, high_finally}
use Rattle.script_nesting.specs.Height as height
use Rattle.script_nesting.specs.Highest.{highest}
use Rattle.script_nesting.specs.Opened as depth

-- a statement as it is printed, by what is known of whether reading can give it
record Reads (all : World) (b : ℕ) (r : ReadStmt) (s : Shown) (n : Numbers) (t : Stmt) : Type 0 where
  part : is_part r ≡ true → LowStmt all t → StmtPart all b r.ends_in_if s.pieces n t
  element : r.readable ≡ true → LowStmt all t → ElementPart all b r.ends_in_if s.pieces n t

-- one that is no function declaration
of_part : {all : World} {b : ℕ} {r : ReadStmt} {s : Shown} {n : Numbers} {t : Stmt} → (r.readable ≡ true → LowStmt all t → StmtPart all b r.ends_in_if s.pieces n t) → Reads all b r s n t
of_part h = record { part = λ e low. h (both _ _ e).0 low; element = λ e low. element_of (h e low) }

module _ (all : World) (function : Bool → FuncNo → List Piece) (inside : FuncNo → ℕ) (reads : FunctionsRead all function inside) where
  -- ---- what each fold gives

  abbrev opened_form : StmtForm → ℕ
  opened_form = fold-StmtForm ℕ ℕ ℕ ℕ ℕ (depth.of_stmt_form function inside) (depth.of_case function inside) (depth.of_catch function inside) (depth.of_finally function inside) (λ t. t.form)

  abbrev opened_case : Case → ℕ
  opened_case = fold-Case ℕ ℕ ℕ ℕ ℕ (depth.of_stmt_form function inside) (depth.of_case function inside) (depth.of_catch function inside) (depth.of_finally function inside) (λ t. t.form)

  abbrev opened_catch : Catch → ℕ
  opened_catch = fold-Catch ℕ ℕ ℕ ℕ ℕ (depth.of_stmt_form function inside) (depth.of_case function inside) (depth.of_catch function inside) (depth.of_finally function inside) (λ t. t.form)

  abbrev opened_finally : Finally → ℕ
  opened_finally = fold-Finally ℕ ℕ ℕ ℕ ℕ (depth.of_stmt_form function inside) (depth.of_case function inside) (depth.of_catch function inside) (depth.of_finally function inside) (λ t. t.form)

  abbrev opened : Stmt → ℕ
  opened = depth.of_stmt function inside

  abbrev opened_layer : StmtLayer → StmtForm-F ℕ ℕ ℕ ℕ ℕ
  opened_layer = map-StmtForm StmtForm Case Catch Finally Stmt ℕ ℕ ℕ ℕ ℕ opened_form opened_case opened_catch opened_finally opened

  abbrev numbers_form : StmtForm → Numbers
  numbers_form = fold-StmtForm Numbers Numbers Numbers Numbers Numbers order.in_stmt_form (λ c. order.in_maybe c.test ++ joined c.body) (λ c. joined c.body) (λ f. joined f.body) (λ t. t.form)

  abbrev numbers_case : Case → Numbers
  numbers_case = fold-Case Numbers Numbers Numbers Numbers Numbers order.in_stmt_form (λ c. order.in_maybe c.test ++ joined c.body) (λ c. joined c.body) (λ f. joined f.body) (λ t. t.form)

  abbrev numbers_catch : Catch → Numbers
  numbers_catch = fold-Catch Numbers Numbers Numbers Numbers Numbers order.in_stmt_form (λ c. order.in_maybe c.test ++ joined c.body) (λ c. joined c.body) (λ f. joined f.body) (λ t. t.form)

  abbrev numbers_finally : Finally → Numbers
  numbers_finally = fold-Finally Numbers Numbers Numbers Numbers Numbers order.in_stmt_form (λ c. order.in_maybe c.test ++ joined c.body) (λ c. joined c.body) (λ f. joined f.body) (λ t. t.form)

  abbrev shown_layer : StmtLayer → StmtForm-F Shown (List Piece) (List Piece) (List Piece) Shown
  shown_layer = map-StmtForm StmtForm Case Catch Finally Stmt Shown (List Piece) (List Piece) (List Piece) Shown (shown.shown_form function) (shown.shown_case function) (shown.shown_catch function) (shown.shown_finally function) (shown.shown function)

  abbrev numbers_layer : StmtLayer → StmtForm-F Numbers Numbers Numbers Numbers Numbers
  numbers_layer = map-StmtForm StmtForm Case Catch Finally Stmt Numbers Numbers Numbers Numbers Numbers numbers_form numbers_case numbers_catch numbers_finally order.in_stmt

  abbrev readable_layer : StmtLayer → StmtForm-F ReadStmt ReadCase Bool Bool ReadStmt
  readable_layer = map-StmtForm StmtForm Case Catch Finally Stmt ReadStmt ReadCase Bool Bool ReadStmt (readable.in_stmt_form all.functions) (readable.in_case all.functions) (readable.in_catch all.functions) (readable.in_finally all.functions) (readable.in_stmt all.functions)

  abbrev StmtReads : Stmt → Type 0
  StmtReads t = Reads all (opened t) (readable.in_stmt all.functions t) (shown.shown function t) (order.in_stmt t) t

  abbrev FormReads : StmtForm → Type 0
  FormReads form = (at : Place) → Reads all (opened_form form) (readable.in_stmt_form all.functions form) (shown.shown_form function form) (numbers_form form) (record { at = at; form = form })

  abbrev LayerReads : StmtLayer → Type 0
  LayerReads l = (at : Place) → Reads all (depth.of_stmt_form function inside (opened_layer l)) (readable.of_stmt_form all.functions (readable_layer l)) (shown.of_form function (shown_layer l)) (order.in_stmt_form (numbers_layer l)) (record { at = at; form = roll-StmtForm l })

  from_layer : (l : StmtLayer) → LayerReads l → FormReads (roll-StmtForm l)
  from_layer l h at =
      let t : Stmt = record { at = at; form = roll-StmtForm l } in
      let shown_is = fold-roll-StmtForm Shown (List Piece) (List Piece) (List Piece) Shown (shown.of_form function) (shown.of_case function) (shown.of_catch function) (shown.of_finally function) (λ s. s.form) l in
      let numbers_is = fold-roll-StmtForm Numbers Numbers Numbers Numbers Numbers order.in_stmt_form (λ c. order.in_maybe c.test ++ joined c.body) (λ c. joined c.body) (λ f. joined f.body) (λ t. t.form) l in
      let readable_is = fold-roll-StmtForm ReadStmt ReadCase Bool Bool ReadStmt (readable.of_stmt_form all.functions) (readable.of_case all.functions) (readable.of_catch all.functions) (readable.of_finally all.functions) (λ t. t.form) l in
      let opened_is = fold-roll-StmtForm ℕ ℕ ℕ ℕ ℕ (depth.of_stmt_form function inside) (depth.of_case function inside) (depth.of_catch function inside) (depth.of_finally function inside) (λ t. t.form) l in
      subst (λ s. Reads all (opened_form (roll-StmtForm l)) (readable.in_stmt_form all.functions (roll-StmtForm l)) s (numbers_form (roll-StmtForm l)) t) (sym shown_is)
      (subst (λ n. Reads all (opened_form (roll-StmtForm l)) (readable.in_stmt_form all.functions (roll-StmtForm l)) (shown.of_form function (shown_layer l)) n t) (sym numbers_is)
      (subst (λ r. Reads all (opened_form (roll-StmtForm l)) r (shown.of_form function (shown_layer l)) (order.in_stmt_form (numbers_layer l)) t) (sym readable_is)
      (subst (λ b. Reads all b (readable.of_stmt_form all.functions (readable_layer l)) (shown.of_form function (shown_layer l)) (order.in_stmt_form (numbers_layer l)) t) (sym opened_is) (h at))))

  -- what it says of the parts that a statement is low
  low_parts : (at : Place) (l : StmtLayer) → LowStmt all (record { at = at; form = roll-StmtForm l }) → suc (height.of_stmt_form all.tall (stmt_heights all.tall l)) ≤ all.high
  low_parts at l low =
      let t : Stmt = record { at = at; form = roll-StmtForm l } in
      let is : height.of_stmt_form all.tall (stmt_heights all.tall (out-StmtForm (roll-StmtForm l))) ≡ height.of_stmt_form all.tall (stmt_heights all.tall l) = ap (λ (k : StmtLayer). height.of_stmt_form all.tall (stmt_heights all.tall k)) (out-roll-StmtForm l) in
      omega (arith, low.within, stmt_height_is all.tall t, is)

  -- the places of statements aside
  from_form : (x : Stmt-F StmtForm Case Catch Finally Stmt) → FormReads x.form → StmtReads (roll-Stmt x)
  from_form x h =
      let t : Stmt = roll-Stmt x in
      let shown_is = fold_out-Stmt Shown (List Piece) (List Piece) (List Piece) Shown (shown.of_form function) (shown.of_case function) (shown.of_catch function) (shown.of_finally function) (λ s. s.form) t in
      let numbers_is = fold_out-Stmt Numbers Numbers Numbers Numbers Numbers order.in_stmt_form (λ c. order.in_maybe c.test ++ joined c.body) (λ c. joined c.body) (λ f. joined f.body) (λ t. t.form) t in
      let readable_is = fold_out-Stmt ReadStmt ReadCase Bool Bool ReadStmt (readable.of_stmt_form all.functions) (readable.of_case all.functions) (readable.of_catch all.functions) (readable.of_finally all.functions) (λ t. t.form) t in
      let opened_is = fold_out-Stmt ℕ ℕ ℕ ℕ ℕ (depth.of_stmt_form function inside) (depth.of_case function inside) (depth.of_catch function inside) (depth.of_finally function inside) (λ t. t.form) t in
      subst (λ s. Reads all (opened t) (readable.in_stmt all.functions t) s (order.in_stmt t) t) (sym shown_is)
      (subst (λ n. Reads all (opened t) (readable.in_stmt all.functions t) (shown.shown_form function x.form) n t) (sym numbers_is)
      (subst (λ r. Reads all (opened t) r (shown.shown_form function x.form) (numbers_form x.form) t) (sym readable_is)
      (subst (λ b. Reads all b (readable.in_stmt_form all.functions x.form) (shown.shown_form function x.form) (numbers_form x.form) t) (sym opened_is) (h x.at))))

  -- ---- clauses, handlers and last parts, and lists of statements

  -- a clause of a `switch`
  record ClauseOf (c : Case) : Type 0 where
    clause : Clause all
    tree_is : clause.tree ≡ c
    pieces_are : clause_pieces clause ≡ shown.shown_case function c
    numbers_are : opt_numbers clause.test ++ numbers_lines clause.lines ≡ numbers_case c
    bound_is : max (opt_bound clause.test) (bound_lines clause.lines) ≡ opened_case c
    default_is : one_default clause.test ≡ cond (readable.in_case all.functions c).is_default 1 0

  abbrev CaseReads : Case → Type 0
  CaseReads c = (readable.in_case all.functions c).readable ≡ true → high_case all.tall c ≤ all.high → ClauseOf c

  abbrev CatchReads : Catch → Type 0
  CatchReads c = readable.in_catch all.functions c ≡ true → high_catch all.tall c ≤ all.high → MaybePart all (opened_catch c) (shown.shown_catch function c) (numbers_catch c) (Some c) unplaced_catch Marks.catch_word (S.catch_part grammar)

  record LastOf (f : Finally) : Type 0 where
    part : MaybePart all (opened_finally f) (shown.shown_finally function f) (numbers_finally f) (Some f) unplaced_finally Marks.finally_word (S.finally_part grammar)
    no_catch : (rest : List Shape) → first_of_shapes Marks.catch_word (tokens_from false (shown.shown_finally function f) ++ rest) ≡ None

  abbrev FinallyReads : Finally → Type 0
  FinallyReads f = readable.in_finally all.functions f ≡ true → high_finally all.tall f ≤ all.high → LastOf f

  record LinesOf (ts : List Stmt) : Type 0 where
    xs : List (Line all)
    trees_are : tree_lines xs ≡ ts
    shown_are : shown_lines xs ≡ map (shown.shown function) ts
    numbers_are : map (λ (x : Line all). x.numbers) xs ≡ map order.in_stmt ts
    bounds_are : map (λ (x : Line all). x.bound) xs ≡ map opened ts

  module _ {E : Type 0} (stmt_in : E → Stmt) (stmts : (e : E) → StmtReads (stmt_in e)) where
    lines_of : (es : List E) → readable.are_parts (map (readable.in_stmt all.functions) (map stmt_in es)) ≡ true → height.body_height all.tall (map stmt_in es) ≤ all.high → LinesOf (map stmt_in es)
    lines_of [] r low = record { xs = []; trees_are = refl; shown_are = refl; numbers_are = refl; bounds_are = refl }
    lines_of (e ∷ es) r low =
        let p = both _ _ r in
        let rest = lines_of es p.1 (omega (arith, low)) in
        let t = stmt_in e in
        let x : Line all = record { shown = shown.shown function t; numbers = order.in_stmt t; tree = t; ends_in_if = (readable.in_stmt all.functions t).ends_in_if; bound = opened t; part = (stmts e).part p.0 (record { within = omega (arith, low) }) } in
        record {
          xs = x ∷ rest.xs;
          trees_are = ap (λ zs. t ∷ zs) rest.trees_are;
          shown_are = ap (λ zs. shown.shown function t ∷ zs) rest.shown_are;
          numbers_are = ap (λ zs. order.in_stmt t ∷ zs) rest.numbers_are;
          bounds_are = ap (λ zs. opened t ∷ zs) rest.bounds_are;
        }

    -- a clause by its layer
    case_of : (test : Option Expr) (x : Option (Opt all)) (es : List E) → LinesOf (map stmt_in es) → opt_tree x ≡ test → label_pieces x ≡ shown.label function test → opt_numbers x ≡ order.in_maybe test → one_default x ≡ cond (is_none test) 1 0
        → opt_bound x ≡ depth.maybe_expr function inside 1 true test
        → ClauseOf (roll-Case (record { test = test; body = map stmt_in es }))
    case_of test x es w tree pieces numbers default bound =
        let l : Case-F StmtForm Case Catch Finally Stmt = record { test = test; body = map stmt_in es } in
        let shown_is = fold-roll-Case Shown (List Piece) (List Piece) (List Piece) Shown (shown.of_form function) (shown.of_case function) (shown.of_catch function) (shown.of_finally function) (λ s. s.form) l in
        let numbers_is = fold-roll-Case Numbers Numbers Numbers Numbers Numbers order.in_stmt_form (λ c. order.in_maybe c.test ++ joined c.body) (λ c. joined c.body) (λ f. joined f.body) (λ t. t.form) l in
        let readable_is = fold-roll-Case ReadStmt ReadCase Bool Bool ReadStmt (readable.of_stmt_form all.functions) (readable.of_case all.functions) (readable.of_catch all.functions) (readable.of_finally all.functions) (λ t. t.form) l in
        record {
          clause = record {
            test = x;
            lines = w.xs;
            tree = roll-Case l;
            tree_is = out-roll-Case l ∙ ap (λ (o : Option Expr). record { test = o; body = map stmt_in es }) (sym tree) ∙ ap (λ ts. record { test = opt_tree x; body = ts }) (sym w.trees_are);
          };
          tree_is = refl;
          pieces_are = ap (λ ps. shown.clause ps (pieces_lines w.xs)) pieces ∙ ap (λ ss. shown.clause (shown.label function test) (shown.lines (λ s. s) ss)) w.shown_are ∙ sym shown_is;
          bound_is = ap (λ n. max n (bound_lines w.xs)) bound ∙ ap (λ ns. max (depth.maybe_expr function inside 1 true test) (depth.of_stmts ns)) w.bounds_are ∙ sym (fold-roll-Case ℕ ℕ ℕ ℕ ℕ (depth.of_stmt_form function inside) (depth.of_case function inside) (depth.of_catch function inside) (depth.of_finally function inside) (λ t. t.form) l);
          numbers_are = ap (λ ns. ns ++ numbers_lines w.xs) numbers ∙ ap (λ ns. order.in_maybe test ++ joined ns) w.numbers_are ∙ sym numbers_is;
          default_is = default ∙ sym (ap (λ (r : ReadCase). cond r.is_default 1 0) readable_is);
        }

    case_by : (test : Option Expr) (es : List E) → (readable_expression.is_maybe all.functions test ≡ true) × (readable.are_parts (map (readable.in_stmt all.functions) (map stmt_in es)) ≡ true)
        → max (height.of_maybe all.tall test) (height.body_height all.tall (map stmt_in es)) ≤ all.high → ClauseOf (roll-Case (record { test = test; body = map stmt_in es }))
    case_by None es p low = case_of None None es (lines_of es p.1 (omega (arith, low))) refl refl refl refl refl
    case_by (Some y) es p low = case_of (Some y) (Some (opt all function inside reads y p.0 (omega (arith, low)))) es (lines_of es p.1 (omega (arith, low))) refl refl refl refl refl

    from_case : (test : Option Expr) (es : List E) → CaseReads (roll-Case (record { test = test; body = map stmt_in es }))
    from_case test es r low =
        let l : Case-F StmtForm Case Catch Finally Stmt = record { test = test; body = map stmt_in es } in
        let readable_is = fold-roll-Case ReadStmt ReadCase Bool Bool ReadStmt (readable.of_stmt_form all.functions) (readable.of_case all.functions) (readable.of_catch all.functions) (readable.of_finally all.functions) (λ t. t.form) l in
        let high_is : high_case all.tall (roll-Case l) ≡ max (height.of_maybe all.tall test) (height.body_height all.tall (map stmt_in es)) = fold-roll-Case ℕ ℕ ℕ ℕ ℕ (height.of_stmt_form all.tall) (height.of_case all.tall) (height.of_catch all.tall) (height.of_finally all.tall) (λ t. suc t.form) l in
        case_by test es (both _ _ (ap (λ (r : ReadCase). r.readable) (sym readable_is) ∙ r)) (omega (arith, low, high_is))

    from_catch : (at : Place) (name : List ℕ) (es : List E) → CatchReads (roll-Catch (record { at = at; name = name; body = map stmt_in es }))
    from_catch at name es r low =
        let l : Catch-F StmtForm Case Catch Finally Stmt = record { at = at; name = name; body = map stmt_in es } in
        let c = roll-Catch l in
        let shown_is = fold-roll-Catch Shown (List Piece) (List Piece) (List Piece) Shown (shown.of_form function) (shown.of_case function) (shown.of_catch function) (shown.of_finally function) (λ s. s.form) l in
        let numbers_is = fold-roll-Catch Numbers Numbers Numbers Numbers Numbers order.in_stmt_form (λ c. order.in_maybe c.test ++ joined c.body) (λ c. joined c.body) (λ f. joined f.body) (λ t. t.form) l in
        let readable_is = fold-roll-Catch ReadStmt ReadCase Bool Bool ReadStmt (readable.of_stmt_form all.functions) (readable.of_case all.functions) (readable.of_catch all.functions) (readable.of_finally all.functions) (λ t. t.form) l in
        let p = both _ _ (sym readable_is ∙ r) in
        let high_is : high_catch all.tall c ≡ height.body_height all.tall (map stmt_in es) = fold-roll-Catch ℕ ℕ ℕ ℕ ℕ (height.of_stmt_form all.tall) (height.of_case all.tall) (height.of_catch all.tall) (height.of_finally all.tall) (λ t. suc t.form) l in
        let opened_is = fold-roll-Catch ℕ ℕ ℕ ℕ ℕ (depth.of_stmt_form function inside) (depth.of_case function inside) (depth.of_catch function inside) (depth.of_finally function inside) (λ t. t.form) l in
        let w = lines_of es p.1 (omega (arith, low, high_is)) in
        subst (λ b. MaybePart all b (shown.shown_catch function c) (numbers_catch c) (Some c) unplaced_catch Marks.catch_word (S.catch_part grammar)) (ap (λ ns. max 1 (depth.of_stmts ns)) w.bounds_are ∙ sym opened_is)
        (subst (λ ps. MaybePart all (max 1 (bound_lines w.xs)) ps (numbers_catch c) (Some c) unplaced_catch Marks.catch_word (S.catch_part grammar)) (ap (λ ss. catch_head name ++ shown.binding (name ∷ []) (block (λ s. s) ss)) w.shown_are ∙ sym shown_is)
        (subst (λ ns. MaybePart all (max 1 (bound_lines w.xs)) (catch_head name ++ shown.binding (name ∷ []) (block (λ s. s) (shown_lines w.xs))) ns (Some c) unplaced_catch Marks.catch_word (S.catch_part grammar)) (ap joined w.numbers_are ∙ sym numbers_is)
        (handler_part w.xs c at name (out-roll-Catch l ∙ ap (λ (ts : List Stmt). record { at = at; name = name; body = ts }) (sym w.trees_are)) p.0)))

    from_finally : (es : List E) → FinallyReads (roll-Finally (record { body = map stmt_in es }))
    from_finally es r low =
        let l : Finally-F StmtForm Case Catch Finally Stmt = record { body = map stmt_in es } in
        let f = roll-Finally l in
        let shown_is = fold-roll-Finally Shown (List Piece) (List Piece) (List Piece) Shown (shown.of_form function) (shown.of_case function) (shown.of_catch function) (shown.of_finally function) (λ s. s.form) l in
        let numbers_is = fold-roll-Finally Numbers Numbers Numbers Numbers Numbers order.in_stmt_form (λ c. order.in_maybe c.test ++ joined c.body) (λ c. joined c.body) (λ f. joined f.body) (λ t. t.form) l in
        let readable_is = fold-roll-Finally ReadStmt ReadCase Bool Bool ReadStmt (readable.of_stmt_form all.functions) (readable.of_case all.functions) (readable.of_catch all.functions) (readable.of_finally all.functions) (λ t. t.form) l in
        let high_is : high_finally all.tall f ≡ height.body_height all.tall (map stmt_in es) = fold-roll-Finally ℕ ℕ ℕ ℕ ℕ (height.of_stmt_form all.tall) (height.of_case all.tall) (height.of_catch all.tall) (height.of_finally all.tall) (λ t. suc t.form) l in
        let opened_is = fold-roll-Finally ℕ ℕ ℕ ℕ ℕ (depth.of_stmt_form function inside) (depth.of_case function inside) (depth.of_catch function inside) (depth.of_finally function inside) (λ t. t.form) l in
        let w = lines_of es (sym readable_is ∙ r) (omega (arith, low, high_is)) in
        record {
          part =
              subst (λ b. MaybePart all b (shown.shown_finally function f) (numbers_finally f) (Some f) unplaced_finally Marks.finally_word (S.finally_part grammar)) (ap depth.of_stmts w.bounds_are ∙ sym opened_is)
              (subst (λ ps. MaybePart all (bound_lines w.xs) ps (numbers_finally f) (Some f) unplaced_finally Marks.finally_word (S.finally_part grammar)) (ap (λ ss. word (codes "finally") ++ block (λ s. s) ss) w.shown_are ∙ sym shown_is)
              (subst (λ ns. MaybePart all (bound_lines w.xs) (word (codes "finally") ++ block (λ s. s) (shown_lines w.xs)) ns (Some f) unplaced_finally Marks.finally_word (S.finally_part grammar)) (ap joined w.numbers_are ∙ sym numbers_is)
              (last_part w.xs f (out-roll-Finally l ∙ ap (λ (ts : List Stmt). record { body = ts }) (sym w.trees_are)))));
          no_catch = λ rest. ap (λ ps. first_of_shapes Marks.catch_word (tokens_from false ps ++ rest)) shown_is ∙ finally_no_catch;
        }

  module _ {A B C D E : Type 0} (form_in : A → StmtForm) (case_in : B → Case) (catch_in : C → Catch) (finally_in : D → Finally) (stmt_in : E → Stmt) (cases : (b : B) → CaseReads (case_in b)) (catches : (c : C) → CatchReads (catch_in c)) (lasts : (d : D) → FinallyReads (finally_in d)) (stmts : (e : E) → StmtReads (stmt_in e)) where
    abbrev of : StmtForm-F A B C D E → StmtLayer
    of = map-StmtForm A B C D E StmtForm Case Catch Finally Stmt form_in case_in catch_in finally_in stmt_in

    -- ---- forms without lists

    read_eval : (x : Expr) → LayerReads (of (StmtForm-F.Eval x))
    read_eval x at = of_part (λ r low. let h = low_parts at (of (StmtForm-F.Eval x)) low in eval_part at _ low (out-roll-StmtForm (of (StmtForm-F.Eval x))) (evaluated all function inside reads x r (omega (arith, h))))

    read_empty : LayerReads (of StmtForm-F.Empty)
    read_empty at = of_part (λ r low. empty_part at _ low (out-roll-StmtForm (of StmtForm-F.Empty)))

    read_continue : LayerReads (of StmtForm-F.Continue)
    read_continue at = of_part (λ r low. continue_part at _ low (out-roll-StmtForm (of StmtForm-F.Continue)))

    read_break : LayerReads (of StmtForm-F.Break)
    read_break at = of_part (λ r low. break_part at _ low (out-roll-StmtForm (of StmtForm-F.Break)))

    read_throw : (x : Expr) → LayerReads (of (StmtForm-F.Throw x))
    read_throw x at = of_part (λ r low. let h = low_parts at (of (StmtForm-F.Throw x)) low in throw_part at _ low (out-roll-StmtForm (of (StmtForm-F.Throw x))) (any all function inside reads x r (omega (arith, h))))

    read_return : (x : Option Expr) → LayerReads (of (StmtForm-F.Return x))
    read_return None at = of_part (λ r low. return_none_part at _ low (out-roll-StmtForm (of (StmtForm-F.Return None))))
    read_return (Some x) at = of_part (λ r low. let h = low_parts at (of (StmtForm-F.Return (Some x))) low in return_part at _ low (out-roll-StmtForm (of (StmtForm-F.Return (Some x)))) (any all function inside reads x r (omega (arith, h))))

    read_while : (x : Expr) (a : E) → LayerReads (of (StmtForm-F.While x a))
    unfolding head
    read_while x a at = of_part (λ r low. let p = both _ _ r in let h = low_parts at (of (StmtForm-F.While x a)) low in while_part at _ low (out-roll-StmtForm (of (StmtForm-F.While x a))) (any all function inside reads x p.0 (omega (arith, h))) ((stmts a).part p.1 (record { within = omega (arith, h) })))

    read_do : (a : E) (x : Expr) → LayerReads (of (StmtForm-F.DoWhile a x))
    unfolding head end_of_do
    read_do a x at = of_part (λ r low. let p = both _ _ r in let h = low_parts at (of (StmtForm-F.DoWhile a x)) low in do_part at _ low (shown.shown function (stmt_in a)).ends_in_brace (out-roll-StmtForm (of (StmtForm-F.DoWhile a x))) (any all function inside reads x p.1 (omega (arith, h))) ((stmts a).part p.0 (record { within = omega (arith, h) })))

    read_if : (x : Expr) (a : E) → LayerReads (of (StmtForm-F.If x a None))
    unfolding head
    read_if x a at = of_part (λ r low.
        let p = both _ _ r in
        let h = low_parts at (of (StmtForm-F.If x a None)) low in
        subst (λ n. StmtPart all (max (max (suc (depth.expr function inside 1 true x)) (suc (opened (stmt_in a)))) 0) true (head_pieces (codes "if") (text.expr function 1 true x) ++ (shown.shown function (stmt_in a)).pieces) n (record { at = at; form = roll-StmtForm (of (StmtForm-F.If x a None)) })) (sym (append-nil (order.in_expr x ++ order.in_stmt (stmt_in a))))
        (if_part at _ low (out-roll-StmtForm (of (StmtForm-F.If x a None))) (any all function inside reads x p.0 (omega (arith, h))) ((stmts a).part p.1 (record { within = omega (arith, h) }))))

    closed_if : (b : Bool) → not b ≡ true → b ≡ false
    closed_if true e = absurd (cc)
    closed_if false e = refl

    read_else : (x : Expr) (a b : E) → LayerReads (of (StmtForm-F.If x a (Some b)))
    unfolding head
    read_else x a b at = of_part (λ r low.
        let h = low_parts at (of (StmtForm-F.If x a (Some b))) low in
        let p = both _ _ r in
        let q = both _ _ p.0 in
        let u = both _ _ q.0 in
        let first = subst (λ e. StmtPart all (opened (stmt_in a)) e (shown.shown function (stmt_in a)).pieces (order.in_stmt (stmt_in a)) (stmt_in a)) (closed_if (readable.in_stmt all.functions (stmt_in a)).ends_in_if q.1) ((stmts a).part u.1 (record { within = omega (arith, h) })) in
        else_part at _ low (shown.shown function (stmt_in a)).is_block (out-roll-StmtForm (of (StmtForm-F.If x a (Some b)))) (any all function inside reads x u.0 (omega (arith, h))) first ((stmts b).part p.1 (record { within = omega (arith, h) })))

    read_for : (from : ForStart) (test step : Option Expr) (a : E) → LayerReads (of (StmtForm-F.For from test step a))
    unfolding for_head for_rest
    read_for from test step a at = of_part (λ r low.
        let h = low_parts at (of (StmtForm-F.For from test step a)) low in
        let p = both _ _ r in
        let q = both _ _ p.0 in
        let u = both _ _ q.0 in
        by test step u.1 q.1 u.0 p.1 low (omega (arith, h)))
      where
        by : (test step : Option Expr) → readable_expression.is_maybe all.functions test ≡ true → readable_expression.is_maybe all.functions step ≡ true → readable.is_start all.functions from ≡ true → is_part (readable.in_stmt all.functions (stmt_in a)) ≡ true
            → LowStmt all (record { at = at; form = roll-StmtForm (of (StmtForm-F.For from test step a)) })
            → suc (max (max (max (height.of_start all.tall from) (height.of_maybe all.tall test)) (height.of_maybe all.tall step)) (height.stmt_height all.tall (stmt_in a))) ≤ all.high
            → StmtPart all (max (suc (max (max (depth.for_start function inside from) (depth.maybe_expr function inside 1 true test)) (depth.maybe_expr function inside 1 true step))) (suc (opened (stmt_in a)))) (readable.in_stmt all.functions (stmt_in a)).ends_in_if (for_head function from test step ++ (shown.shown function (stmt_in a)).pieces) (order.in_start from ++ order.in_maybe test ++ order.in_maybe step ++ order.in_stmt (stmt_in a))
            (record { at = at; form = roll-StmtForm (of (StmtForm-F.For from test step a)) })
        by None None rt rs rf ra low h = for_part at _ low None None (out-roll-StmtForm (of (StmtForm-F.For from None None a))) (start_of all function inside reads from rf (omega (arith, h))) ((stmts a).part ra (record { within = omega (arith, h) }))
        by (Some t) None rt rs rf ra low h = for_part at _ low (Some (opt all function inside reads t rt (omega (arith, h)))) None (out-roll-StmtForm (of (StmtForm-F.For from (Some t) None a))) (start_of all function inside reads from rf (omega (arith, h))) ((stmts a).part ra (record { within = omega (arith, h) }))
        by None (Some u) rt rs rf ra low h = for_part at _ low None (Some (opt all function inside reads u rs (omega (arith, h)))) (out-roll-StmtForm (of (StmtForm-F.For from None (Some u) a))) (start_of all function inside reads from rf (omega (arith, h))) ((stmts a).part ra (record { within = omega (arith, h) }))
        by (Some t) (Some u) rt rs rf ra low h = for_part at _ low (Some (opt all function inside reads t rt (omega (arith, h)))) (Some (opt all function inside reads u rs (omega (arith, h)))) (out-roll-StmtForm (of (StmtForm-F.For from (Some t) (Some u) a))) (start_of all function inside reads from rf (omega (arith, h))) ((stmts a).part ra (record { within = omega (arith, h) }))

    read_for_in : (to : ForTarget) (x : Expr) (a : E) → LayerReads (of (StmtForm-F.ForIn to x a))
    unfolding for_in_head in_rest
    read_for_in to x a at = of_part (λ r low.
        let h = low_parts at (of (StmtForm-F.ForIn to x a)) low in
        let p = both _ _ r in
        let q = both _ _ p.0 in
        for_in_part at _ low (out-roll-StmtForm (of (StmtForm-F.ForIn to x a))) (target_of all function inside reads to q.0 (omega (arith, h))) (any all function inside reads x q.1 (omega (arith, h))) ((stmts a).part p.1 (record { within = omega (arith, h) })))

    read_declaration : (f : FuncNo) → LayerReads (of (StmtForm-F.FuncDecl f))
    read_declaration f at = record {
      part = λ r low. absurd (never (both _ _ r).1);
      element = λ r low. declaration_part reads at _ low f (out-roll-StmtForm (of (StmtForm-F.FuncDecl f))) r;
    }
      where
        never : false ≡ true → ⊥
        never e = cc

    read_var : (ds : List Declarator) → LayerReads (of (StmtForm-F.Var ds))
    read_var ds at = of_part (λ r low.
        let h = low_parts at (of (StmtForm-F.Var ds)) low in
        let v = vars_of all function inside reads true ds r (omega (arith, h)) in
        let t : Stmt = record { at = at; form = roll-StmtForm (of (StmtForm-F.Var ds)) } in
        subst (λ b. StmtPart all b false ((word (codes "var") ++ separated (shown.declarator function true) ds) ++ closing (codes ";")) (order.in_declarators ds) t) v.bound
        (subst (λ ps. StmtPart all (decls_bound (v.x ∷ v.xs)) false ((word (codes "var") ++ ps) ++ closing (codes ";")) (order.in_declarators ds) t) v.pieces
        (subst (λ ns. StmtPart all (decls_bound (v.x ∷ v.xs)) false ((word (codes "var") ++ separated decl_pieces (v.x ∷ v.xs)) ++ closing (codes ";")) ns t) v.numbers
        (var_part at _ low v.x v.xs (out-roll-StmtForm (of (StmtForm-F.Var ds)) ∙ ap (λ es. StmtForm-F.Var es) (sym v.trees))))))

    -- ---- forms with lists

    read_block : (es : List E) → LayerReads (of (StmtForm-F.Block es))
    read_block es at = of_part (λ r low.
        let h = low_parts at (of (StmtForm-F.Block es)) low in
        let w = lines_of stmt_in stmts es r (omega (arith, h)) in
        let t : Stmt = record { at = at; form = roll-StmtForm (of (StmtForm-F.Block es)) } in
        subst (λ bs. StmtPart all (depth.of_stmts bs) false (block (λ s. s) (map (shown.shown function) (map stmt_in es))) (joined (map order.in_stmt (map stmt_in es))) t) w.bounds_are
        (subst (λ ss. StmtPart all (bound_lines w.xs) false (block (λ s. s) ss) (joined (map order.in_stmt (map stmt_in es))) t) w.shown_are
        (subst (λ ns. StmtPart all (bound_lines w.xs) false (block (λ s. s) (shown_lines w.xs)) (joined ns) t) w.numbers_are
        (block_part at _ low w.xs (out-roll-StmtForm (of (StmtForm-F.Block es)) ∙ ap (λ ts. StmtForm-F.Block ts) (sym w.trees_are))))))

    try_with : (es : List E) (ho : Option Catch) (fo : Option Finally) (bh bf : ℕ) (hp fp : List Piece) (nh nf : Numbers) (at : Place) (form : StmtForm) → LowStmt all (record { at = at; form = form }) → LinesOf (map stmt_in es) → out-StmtForm form ≡ StmtForm-F.Try (map stmt_in es) ho fo
        → MaybePart all bh hp nh ho unplaced_catch Marks.catch_word (S.catch_part grammar) → MaybePart all bf fp nf fo unplaced_finally Marks.finally_word (S.finally_part grammar) → (is_some ho || is_some fo) ≡ true
        → ((rest : List Shape) → ho ≡ None → first_of_shapes Marks.catch_word (tokens_from false fp ++ rest) ≡ None)
        → StmtPart all (max (max (depth.of_stmts (map opened (map stmt_in es))) bh) bf) false (((word (codes "try") ++ block (λ s. s) (map (shown.shown function) (map stmt_in es))) ++ hp) ++ fp) ((joined (map order.in_stmt (map stmt_in es)) ++ nh) ++ nf) (record { at = at; form = form })
    try_with es ho fo bh bf hp fp nh nf at form low w is ph pf some no_catch =
        let t : Stmt = record { at = at; form = form } in
        subst (λ bs. StmtPart all (max (max (depth.of_stmts bs) bh) bf) false (((word (codes "try") ++ block (λ s. s) (map (shown.shown function) (map stmt_in es))) ++ hp) ++ fp) ((joined (map order.in_stmt (map stmt_in es)) ++ nh) ++ nf) t) w.bounds_are
        (subst (λ ss. StmtPart all (max (max (bound_lines w.xs) bh) bf) false (((word (codes "try") ++ block (λ s. s) ss) ++ hp) ++ fp) ((joined (map order.in_stmt (map stmt_in es)) ++ nh) ++ nf) t) w.shown_are
        (subst (λ ns. StmtPart all (max (max (bound_lines w.xs) bh) bf) false (((word (codes "try") ++ block (λ s. s) (shown_lines w.xs)) ++ hp) ++ fp) ((joined ns ++ nh) ++ nf) t) w.numbers_are
        (try_part at form low w.xs ho fo ph pf (is ∙ ap (λ ts. StmtForm-F.Try ts ho fo) (sym w.trees_are)) some no_catch)))

    read_try : (es : List E) (h : Option C) (f : Option D) → LayerReads (of (StmtForm-F.Try es h f))
    read_try es None None at = of_part (λ r low. absurd (never (both _ _ r).1))
      where
        never : false ≡ true → ⊥
        never e = cc
    read_try es (Some c) None at = of_part (λ r low.
        let h = low_parts at (of (StmtForm-F.Try es (Some c) None)) low in
        let p = both _ _ r in
        let q = both _ _ p.0 in
        let u = both _ _ q.0 in
        try_with es (Some (catch_in c)) None _ 0 _ [] _ [] at _ low (lines_of stmt_in stmts es u.0 (omega (arith, h))) (out-roll-StmtForm (of (StmtForm-F.Try es (Some c) None))) (catches c u.1 (omega (arith, h))) no_last refl (λ rest e. absurd (cc)))
    read_try es None (Some d) at = of_part (λ r low.
        let h = low_parts at (of (StmtForm-F.Try es None (Some d))) low in
        let p = both _ _ r in
        let q = both _ _ p.0 in
        let u = both _ _ q.0 in
        let l = lasts d q.1 (omega (arith, h)) in
        try_with es None (Some (finally_in d)) 0 _ [] _ [] _ at _ low (lines_of stmt_in stmts es u.0 (omega (arith, h))) (out-roll-StmtForm (of (StmtForm-F.Try es None (Some d)))) no_handler l.part refl (λ rest e. l.no_catch rest))
    read_try es (Some c) (Some d) at = of_part (λ r low.
        let h = low_parts at (of (StmtForm-F.Try es (Some c) (Some d))) low in
        let p = both _ _ r in
        let q = both _ _ p.0 in
        let u = both _ _ q.0 in
        let l = lasts d q.1 (omega (arith, h)) in
        try_with es (Some (catch_in c)) (Some (finally_in d)) _ _ _ _ _ _ at _ low (lines_of stmt_in stmts es u.0 (omega (arith, h))) (out-roll-StmtForm (of (StmtForm-F.Try es (Some c) (Some d)))) (catches c u.1 (omega (arith, h))) l.part refl (λ rest e. l.no_catch rest))

    -- ---- `switch`

    record ClausesOf (bs : List B) : Type 0 where
      cs : List (Clause all)
      trees_are : clauses_trees cs ≡ map case_in bs
      pieces_are : map clause_pieces cs ≡ map (shown.shown_case function) (map case_in bs)
      numbers_are : clauses_numbers cs ≡ joined (map numbers_case (map case_in bs))
      bounds_are : map (λ (c : Clause all). max (opt_bound c.test) (bound_lines c.lines)) cs ≡ map opened_case (map case_in bs)
      defaults_are : defaults cs ≡ sum_by (λ (c : ReadCase). cond c.is_default 1 0) (map (readable.in_case all.functions) (map case_in bs))

    clauses_of : (bs : List B) → list_all (λ (c : ReadCase). c.readable) (map (readable.in_case all.functions) (map case_in bs)) ≡ true → highest (map (high_case all.tall) (map case_in bs)) ≤ all.high → ClausesOf bs
    clauses_of [] r low = record { cs = []; trees_are = refl; pieces_are = refl; numbers_are = refl; bounds_are = refl; defaults_are = refl }
    clauses_of (b ∷ bs) r low =
        let p = both _ _ r in
        let x = cases b p.0 (omega (arith, low)) in
        let rest = clauses_of bs p.1 (omega (arith, low)) in
        record {
          cs = x.clause ∷ rest.cs;
          trees_are = ap (λ z. z ∷ clauses_trees rest.cs) x.tree_is ∙ ap (λ zs. case_in b ∷ zs) rest.trees_are;
          pieces_are = ap (λ z. z ∷ map clause_pieces rest.cs) x.pieces_are ∙ ap (λ zs. shown.shown_case function (case_in b) ∷ zs) rest.pieces_are;
          numbers_are = ap (λ ns. ns ++ clauses_numbers rest.cs) x.numbers_are ∙ ap (λ ns. numbers_case (case_in b) ++ ns) rest.numbers_are;
          bounds_are = ap (λ n. n ∷ map (λ (c : Clause all). max (opt_bound c.test) (bound_lines c.lines)) rest.cs) x.bound_is ∙ ap (λ ns. opened_case (case_in b) ∷ ns) rest.bounds_are;
          defaults_are =
              ap (λ n. n + defaults rest.cs) x.default_is ∙ ap (λ n. cond (readable.in_case all.functions (case_in b)).is_default 1 0 + n) rest.defaults_are
              ∙ sym (sum_by-cons (λ (c : ReadCase). cond c.is_default 1 0) (readable.in_case all.functions (case_in b)) (map (readable.in_case all.functions) (map case_in bs)));
        }

    at_most : (m n : ℕ) → m ≡ n → nat_le n 1 ≡ true → m ≤ 1
    at_most m n same e = grind (arith, nat_tests)

    read_switch : (x : Expr) (bs : List B) → LayerReads (of (StmtForm-F.Switch x bs))
    unfolding head
    read_switch x bs at = of_part (λ r low.
        let h = low_parts at (of (StmtForm-F.Switch x bs)) low in
        let p = both _ _ r in
        let q = both _ _ p.1 in
        let w = clauses_of bs q.0 (omega (arith, h)) in
        let t : Stmt = record { at = at; form = roll-StmtForm (of (StmtForm-F.Switch x bs)) } in
        let ns = joined (map numbers_case (map case_in bs)) in
        subst (λ ns. StmtPart all (max (suc (depth.expr function inside 1 true x)) (highest ns)) false (head_pieces (codes "switch") (text.expr function 1 true x) ++ shown.clauses (λ c. c) (map (shown.shown_case function) (map case_in bs))) (order.in_expr x ++ joined (map numbers_case (map case_in bs))) t) w.bounds_are
        (subst (λ ps. StmtPart all (max (suc (depth.expr function inside 1 true x)) (clauses_bound w.cs)) false (head_pieces (codes "switch") (text.expr function 1 true x) ++ shown.in_switch (shown.is_empty ps) (flat_map (λ c. c) ps)) (order.in_expr x ++ ns) t) w.pieces_are
        (subst (λ ms. StmtPart all (max (suc (depth.expr function inside 1 true x)) (clauses_bound w.cs)) false (head_pieces (codes "switch") (text.expr function 1 true x) ++ body_pieces w.cs) (order.in_expr x ++ ms) t) w.numbers_are
        (switch_part at _ low w.cs (out-roll-StmtForm (of (StmtForm-F.Switch x bs)) ∙ ap (λ cs. StmtForm-F.Switch x cs) (sym w.trees_are)) (at_most _ _ w.defaults_are q.1) (any all function inside reads x p.0 (omega (arith, h)))))))

    -- ---- every form

    layer_reads : (y : StmtForm-F A B C D E) → LayerReads (of y)
    layer_reads (StmtForm-F.Var ds) = read_var ds
    layer_reads (StmtForm-F.FuncDecl f) = read_declaration f
    layer_reads (StmtForm-F.Eval x) = read_eval x
    layer_reads (StmtForm-F.Block es) = read_block es
    layer_reads StmtForm-F.Empty = read_empty
    layer_reads (StmtForm-F.If x a None) = read_if x a
    layer_reads (StmtForm-F.If x a (Some b)) = read_else x a b
    layer_reads (StmtForm-F.DoWhile a x) = read_do a x
    layer_reads (StmtForm-F.While x a) = read_while x a
    layer_reads (StmtForm-F.For from test step a) = read_for from test step a
    layer_reads (StmtForm-F.ForIn to x a) = read_for_in to x a
    layer_reads StmtForm-F.Continue = read_continue
    layer_reads StmtForm-F.Break = read_break
    layer_reads (StmtForm-F.Return x) = read_return x
    layer_reads (StmtForm-F.Switch x bs) = read_switch x bs
    layer_reads (StmtForm-F.Throw x) = read_throw x
    layer_reads (StmtForm-F.Try es h f) = read_try es h f

  every : (t : Stmt) → StmtReads t
  every = ind-Stmt FormReads CaseReads CatchReads FinallyReads StmtReads
      (λ x y is. subst (λ l. FormReads (roll-StmtForm l)) is (from_layer _ (layer_reads (λ e. e.0) (λ e. e.0) (λ e. e.0) (λ e. e.0) (λ e. e.0) (λ e. e.1) (λ e. e.1) (λ e. e.1) (λ e. e.1) y)))
      (λ x y is. subst (λ l. CaseReads (roll-Case l)) is (from_case (λ e. e.0) (λ e. e.1) y.test y.body))
      (λ x y is. subst (λ l. CatchReads (roll-Catch l)) is (from_catch (λ e. e.0) (λ e. e.1) y.at y.name y.body))
      (λ x y is. subst (λ l. FinallyReads (roll-Finally l)) is (from_finally (λ e. e.0) (λ e. e.1) y.body))
      (λ x y is. subst (λ l. StmtReads (roll-Stmt l)) is (from_form _ y.form.1))

  -- every readable element reads
  pub elements_read : ElementsRead all function inside
  elements_read t r low = (every t).element r low
