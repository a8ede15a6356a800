-- What a simple statement counts.
use Rattle.std.proofs.Common.{◌≡◌, ℕ, ◌+◌, true, refl, ap, ◌∙◌}
use Rattle.js_tree.specs.declared.statement.Stmt.{Stmt}
use Rattle.js_tree.specs.declared.statement.Case.{Case}
use Rattle.js_tree.specs.declared.statement.Catch.{Catch}
use Rattle.js_tree.specs.declared.statement.Finally.{Finally}
use Rattle.js_tree.specs.declared.statement.StmtForm.{StmtForm, out-StmtForm}
use Rattle.js_tree.specs.declared.statement.StmtForm.TheOpen.{StmtForm-F}
use Rattle.js_tree.specs.declared.statement.StmtForm.TheFolds.{map-StmtForm, fold_out-StmtForm, fold_out-Stmt}
use Rattle.js_tree.specs.Count.{of_stmt_form, of_case, of_catch, of_finally, of_stmt, in_stmt_form, in_case, in_catch, in_finally, in_stmt, in_declarators}
use Rattle.js_tree.specs.Parts.{declarators_in}
use Rattle.simple_scripts.specs.SimpleScripts.{is_simple_form, is_simple_statement}

simple_layer : (l : StmtForm-F StmtForm Case Catch Finally Stmt) → is_simple_form l ≡ true
    → of_stmt_form (map-StmtForm StmtForm Case Catch Finally Stmt ℕ ℕ ℕ ℕ ℕ in_stmt_form in_case in_catch in_finally in_stmt l) ≡ in_declarators (declarators_in l)
simple_layer (StmtForm-F.Var ds) h = refl
simple_layer l h = cc

-- a `var` statement counts one, and what its declarators count
pub in_stmt-simple : (s : Stmt) → is_simple_statement s ≡ true → in_stmt s ≡ in_declarators (declarators_in (out-StmtForm s.form)) + 1
in_stmt-simple s h =
    fold_out-Stmt ℕ ℕ ℕ ℕ ℕ of_stmt_form of_case of_catch of_finally of_stmt s
    ∙ ap (λ n. n + 1) (fold_out-StmtForm ℕ ℕ ℕ ℕ ℕ of_stmt_form of_case of_catch of_finally of_stmt s.form ∙ simple_layer (out-StmtForm s.form) h)
