-- The codes compute, each form opened where it is reached.
use Rattle.std.proofs.Common.{subst, ◌≡◌, ◌∙◌, ℕ, List, [], ◌∷◌, ◌++◌, ap, refl}
use Rattle.std.specs.Prelude.{codes}
use Rattle.std.specs.Char.Utf16.{utf16_chars}
use Rattle.std.specs.Fmt.{digits}
use Rattle.js_value.specs.Conversions.{is_same_value, to_text}
use Rattle.js_value.specs.Texts.{quoted_unit}
use Rattle.js_value.specs.declared.place.FuncNo.{FuncNo}
use Rattle.js_tree.specs.Mentions.{Names, hoisted_vars, hoisted_functions}
use Rattle.js_tree.specs.Trees.{no}
use Rattle.js_tree.specs.declared.expression.ExprForm.TheFolds.{fold_out-ExprForm, fold_out-Expr}
use Rattle.js_tree.specs.declared.expression.ExprForm.TheVariants as e
use Rattle.js_tree.specs.declared.statement.Script.{Script}
use Rattle.js_tree.specs.declared.statement.StmtForm.TheFolds.{map-StmtForm, fold-StmtForm, fold-Case, fold-Catch, fold-Finally, fold_out-StmtForm, fold_out-Stmt, fold-roll-Catch}
use Rattle.js_tree.specs.declared.statement.StmtForm.{StmtForm, out-StmtForm}
use Rattle.js_tree.specs.declared.statement.Case.{Case}
use Rattle.js_tree.specs.declared.statement.Catch.{Catch, roll-Catch}
use Rattle.js_tree.specs.declared.statement.Finally.{Finally}
use Rattle.js_tree.specs.declared.statement.Stmt.{Stmt}
use Rattle.js_value.specs.declared.place.Place.{Place}
use Rattle.std.specs.Prelude.{map}
use Rattle.js_tree.specs.declared.statement.StmtForm.TheVariants as s
use Rattle.plain_heap.specs.Heap.{resolve}
use Rattle.js_machine.specs.Machine.Codes as C
use Rattle.js_machine.specs.Machine.Codes.{Bound, code}
use Rattle.lone_functions.specs.Alone.{alone}
use Rattle.js_machine.specs.Machine.Listed.{Row, queue_of, listing_by}
use Rattle.js_machine.specs.Machine.Realm.{realm, realm_names, realm_name}
use Rattle.js_machine.specs.Machine.RunText.{code_line, run_text}
use Rattle.js_machine.specs.Machine.Walks.{Normally}
use Rattle.script_text.specs.CodeLine.{add, add_all, empty_line, code_pieces, code_text}
use Rattle.script_text.specs.Expressions.{tokens, name, reference}
use Rattle.script_text.specs.Pieces.{Piece, LineEnd, Bind, Release, word, opening, closing}
use Rattle.script_text.specs.Printing.{function_to}
use Rattle.script_text.specs.Statements.{begin_braces, end_braces}
use Rattle.machine_cases.specs.CodeCases.{CodeCases, inner_tree, nested_code, nested_tree, two_names, own_name, after_two_names, two_names_rows}
use Rattle.js_tree.specs.declared.statement.Func.{Func}
use Rattle.js_machine.specs.Machine.Expressions.{Return}

ruleset forms = (fold_out-Expr, fold_out-ExprForm, fold_out-Stmt, fold_out-StmtForm, e.outs-Name, e.outs-Binary, e.outs-Func, s.outs-Return)

-- what the folds come to where some names are bound
module _ (captured : Names) where
  abbrev in_form : StmtForm → Bound StmtForm
  in_form = fold-StmtForm (Bound StmtForm) (Bound Case) (Bound Catch) (Bound Finally) (Bound Stmt) (C.of_stmt_form captured) (C.of_case captured) (C.of_catch captured) (C.of_finally captured) (C.of_stmt captured)

  abbrev in_case : Case → Bound Case
  in_case = fold-Case (Bound StmtForm) (Bound Case) (Bound Catch) (Bound Finally) (Bound Stmt) (C.of_stmt_form captured) (C.of_case captured) (C.of_catch captured) (C.of_finally captured) (C.of_stmt captured)

  abbrev in_catch : Catch → Bound Catch
  in_catch = fold-Catch (Bound StmtForm) (Bound Case) (Bound Catch) (Bound Finally) (Bound Stmt) (C.of_stmt_form captured) (C.of_case captured) (C.of_catch captured) (C.of_finally captured) (C.of_stmt captured)

  abbrev in_finally : Finally → Bound Finally
  in_finally = fold-Finally (Bound StmtForm) (Bound Case) (Bound Catch) (Bound Finally) (Bound Stmt) (C.of_stmt_form captured) (C.of_case captured) (C.of_catch captured) (C.of_finally captured) (C.of_stmt captured)

  pub form_bound : (f : StmtForm) (bound : Names) → in_form f bound
      ≡ C.of_stmt_form captured (map-StmtForm StmtForm Case Catch Finally Stmt (Bound StmtForm) (Bound Case) (Bound Catch) (Bound Finally) (Bound Stmt) in_form in_case in_catch in_finally (C.stmt captured) (out-StmtForm f)) bound
  form_bound f bound =
      ap (λ g. g bound) (fold_out-StmtForm (Bound StmtForm) (Bound Case) (Bound Catch) (Bound Finally) (Bound Stmt) (C.of_stmt_form captured) (C.of_case captured) (C.of_catch captured) (C.of_finally captured) (C.of_stmt captured) f)

  pub stmt_bound : (t : Stmt) (bound : Names) → C.stmt captured t bound ≡ record { at = t.at; form = in_form t.form bound }
  stmt_bound t bound =
      ap (λ g. g bound) (fold_out-Stmt (Bound StmtForm) (Bound Case) (Bound Catch) (Bound Finally) (Bound Stmt) (C.of_stmt_form captured) (C.of_case captured) (C.of_catch captured) (C.of_finally captured) (C.of_stmt captured) t)

  pub catch_bound : (at : Place) (name : List ℕ) (body : List Stmt) (bound : Names)
      → in_catch (roll-Catch (record { at = at; name = name; body = body })) bound ≡ roll-Catch (record { at = at; name = name; body = C.each (name ∷ bound) (map (C.stmt captured) body) })
  catch_bound at name body bound =
      ap (λ g. g bound) (fold-roll-Catch (Bound StmtForm) (Bound Case) (Bound Catch) (Bound Finally) (Bound Stmt) (C.of_stmt_form captured) (C.of_case captured) (C.of_catch captured) (C.of_finally captured) (C.of_stmt captured) (record { at = at; name = name; body = body }))

pub ruleset rolled = (stmt_bound, form_bound, catch_bound, e.rolls-Name, e.rolls-Binary, e.rolls-Func, s.rolls-Return, s.rolls-Eval)

pub line_of : (s : Script) (f : FuncNo) (names : Names) {ps : List Piece} → code_pieces s f ≡ ps → code_text s f names ≡ (add_all ps (empty_line names)).bytes
unfolding code_text
line_of s f names e = ap (λ ps. (add_all ps (empty_line names)).bytes) e

-- a function without a name that returns something
abbrev returning : Names → List Piece → List Piece → List Piece
returning names parameters value =
    word (codes "function") ++ Bind names ∷ (opening (codes "(") ++ parameters ++ closing (codes ")") ++ begin_braces ++ (word (codes "return") ++ value ++ closing (codes ";") ++ LineEnd ∷ []) ++ end_braces) ++ Release ∷ []

abbrev inner : List Piece
inner = returning [] [] (reference (codes "b") ++ word (codes "+") ++ reference (codes "a") ++ word (codes "+") ++ reference (codes "b"))

inner_pieced : code_pieces two_names (no 1) ≡ inner
unfolding tokens function_to hoisted_vars hoisted_functions
inner_pieced = simp (forms)

outer_pieced : code_pieces two_names (no 0) ≡ returning (codes "a" ∷ codes "b" ∷ []) (name (codes "a") ++ closing (codes ",") ++ name (codes "b")) inner
unfolding tokens function_to hoisted_vars hoisted_functions
outer_pieced = simp (forms)

own_pieced : code_pieces own_name (no 0) ≡ returning [] [] (reference (codes "g"))
unfolding tokens function_to hoisted_vars hoisted_functions
own_pieced = simp (forms)

both : code_text two_names (no 1) (codes "b" ∷ codes "a" ∷ []) ≡ codes "function ( ) { return %1 + %2 + %1 ; }"
unfolding add digits quoted_unit utf16_chars lib.Utf8.encode
both = line_of two_names (no 1) (codes "b" ∷ codes "a" ∷ []) inner_pieced

-- ---- trees

tree_of_both : code two_names.funcs (no 1) (codes "b" ∷ codes "a" ∷ []) ≡ inner_tree (codes "%1") (codes "%2")
unfolding code alone digits hoisted_vars hoisted_functions
tree_of_both = simp (forms, rolled)

tree_of_one : code two_names.funcs (no 1) (codes "a" ∷ []) ≡ inner_tree (codes "b") (codes "%1")
unfolding code alone digits hoisted_vars hoisted_functions
tree_of_one = simp (forms, rolled)

tree_of_nested : code nested_code (no 0) (codes "m" ∷ codes "e" ∷ []) ≡ nested_tree
unfolding code alone digits hoisted_vars hoisted_functions
tree_of_nested = simp (forms, rolled, e.outs-Call, s.outs-Eval, s.outs-Try, fold-roll-Catch, e.rolls-Call, s.rolls-Try)

tree_pieced : code_pieces (inner_tree (codes "%1") (codes "%2")) (no 0) ≡ returning [] [] (reference (codes "%1") ++ word (codes "+") ++ reference (codes "%2") ++ word (codes "+") ++ reference (codes "%1"))
unfolding tokens function_to hoisted_vars hoisted_functions
tree_pieced = simp (forms)

tree_line : code_line (inner_tree (codes "%1") (codes "%2")) ≡ codes "function ( ) { return %1 + %2 + %1 ; }"
unfolding code_line add digits quoted_unit utf16_chars lib.Utf8.encode
tree_line = line_of (inner_tree (codes "%1") (codes "%2")) (no 0) [] tree_pieced

-- ---- the listing shows the code of the inner function alone

abbrev bound : Names
bound = codes "b" ∷ codes "a" ∷ []

abbrev rows : (FuncNo → Names → Script) → List Row
rows code_of = listing_by code_of (λ f. bound) after_two_names Normally

shows : (code_of : FuncNo → Names → Script) → rows code_of ≡ rows (λ f names. code_of (no 1) bound)
unfolding is_same_value resolve queue_of listing_by realm
shows code_of = refl

shown : rows (λ f names. inner_tree (codes "%1") (codes "%2")) ≡ two_names_rows
unfolding is_same_value resolve queue_of listing_by realm
shown = refl

the_listing : listing_by (code two_names.funcs) (λ f. bound) after_two_names Normally ≡ two_names_rows
the_listing = shows (code two_names.funcs) ∙ ap (λ tree. rows (λ f names. tree)) tree_of_both ∙ shown

pub code_cases : CodeCases
unfolding add digits quoted_unit utf16_chars lib.Utf8.encode
code_cases = record {
  both_bound = both;
  one_bound = line_of two_names (no 1) (codes "a" ∷ []) inner_pieced;
  parameters = line_of two_names (no 0) [] outer_pieced;
  own_bound = line_of own_name (no 0) (codes "g" ∷ []) own_pieced;
  both_tree = tree_of_both;
  one_tree = tree_of_one;
  nested_tree_is = tree_of_nested;
  listed = the_listing;
  line_of_tree = tree_line;
}
