-- Statements that are the same but for places, form by form.
use Rattle.std.proofs.Common.{◌≡◌, ap, sym, ◌∙◌}
use Rattle.std.specs.Option.{option_map}
use Rattle.js_value.specs.declared.place.Place.{Place}
use Rattle.js_tree.specs.Refusals.{place}
use Rattle.js_tree.specs.declared.statement.Case.{Case, roll-Case}
use Rattle.js_tree.specs.declared.statement.Catch.{Catch}
use Rattle.js_tree.specs.declared.statement.Finally.{Finally, roll-Finally}
use Rattle.js_tree.specs.declared.statement.Stmt.{Stmt}
use Rattle.js_tree.specs.declared.statement.StmtForm.{StmtForm, roll-StmtForm, out-StmtForm}
use Rattle.js_tree.specs.declared.statement.StmtForm.TheFolds.{map-StmtForm, fold-StmtForm, fold-Case, fold-Catch, fold-Finally, fold_out-StmtForm, fold_out-Stmt}
use Rattle.js_tree.specs.declared.statement.StmtForm.TheOpen.{StmtForm-F, Case-F, Finally-F}
use Rattle.reading_back.proofs.StatementClaims.{IsStmt}
use Rattle.reading_back.specs.Unplaced as unplaced

abbrev pub StmtLayer : Type 0
StmtLayer = StmtForm-F StmtForm Case Catch Finally Stmt

abbrev pub of_case : Case-F StmtForm Case Catch Finally Stmt → Case
of_case c = roll-Case (record { test = option_map unplaced.expr c.test; body = c.body })

abbrev pub of_finally : Finally-F StmtForm Case Catch Finally Stmt → Finally
of_finally f = roll-Finally f

abbrev pub unplaced_form : StmtForm → StmtForm
unplaced_form = fold-StmtForm StmtForm Case Catch Finally Stmt unplaced.of_stmt_form of_case unplaced.of_catch of_finally unplaced.of_stmt

abbrev pub unplaced_case : Case → Case
unplaced_case = fold-Case StmtForm Case Catch Finally Stmt unplaced.of_stmt_form of_case unplaced.of_catch of_finally unplaced.of_stmt

abbrev pub unplaced_catch : Catch → Catch
unplaced_catch = fold-Catch StmtForm Case Catch Finally Stmt unplaced.of_stmt_form of_case unplaced.of_catch of_finally unplaced.of_stmt

abbrev pub unplaced_finally : Finally → Finally
unplaced_finally = fold-Finally StmtForm Case Catch Finally Stmt unplaced.of_stmt_form of_case unplaced.of_catch of_finally unplaced.of_stmt

-- the parts without their places
abbrev pub unplaced_parts : StmtLayer → StmtLayer
unplaced_parts layer = unplaced.in_stmt_form (map-StmtForm StmtForm Case Catch Finally Stmt StmtForm Case Catch Finally Stmt unplaced_form unplaced_case unplaced_catch unplaced_finally unplaced.stmt layer)

pub unplaced_is : (at : Place) (form : StmtForm) (layer : StmtLayer) → out-StmtForm form ≡ layer → unplaced.stmt (record { at = at; form = form }) ≡ unplaced.of_stmt (record { at = at; form = unplaced.of_stmt_form (map-StmtForm StmtForm Case Catch Finally Stmt StmtForm Case Catch Finally Stmt unplaced_form unplaced_case unplaced_catch unplaced_finally unplaced.stmt layer) })
unplaced_is at form layer e =
    fold_out-Stmt StmtForm Case Catch Finally Stmt unplaced.of_stmt_form of_case unplaced.of_catch of_finally unplaced.of_stmt (record { at = at; form = form })
    ∙ ap (λ (f : StmtForm). unplaced.of_stmt (record { at = at; form = f })) (fold_out-StmtForm StmtForm Case Catch Finally Stmt unplaced.of_stmt_form of_case unplaced.of_catch of_finally unplaced.of_stmt form
    ∙ ap (λ (l : StmtLayer). unplaced.of_stmt_form (map-StmtForm StmtForm Case Catch Finally Stmt StmtForm Case Catch Finally Stmt unplaced_form unplaced_case unplaced_catch unplaced_finally unplaced.stmt l)) e)

-- the same form with parts that are the same
pub same_stmts : (at other : Place) (form model : StmtForm) (layer mold : StmtLayer) → out-StmtForm form ≡ layer → out-StmtForm model ≡ mold → unplaced_parts layer ≡ unplaced_parts mold
    → IsStmt (record { at = other; form = model }) (record { at = at; form = form })
same_stmts at other form model layer mold e f same = record {
  same = unplaced_is at form layer e ∙ ap (λ (l : StmtLayer). unplaced.of_stmt (record { at = place 0; form = roll-StmtForm l })) same ∙ sym (unplaced_is other model mold f);
}
