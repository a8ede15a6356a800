-- What is hoisted is the same without places.
use Rattle.std.proofs.Common.{◌≡◌, List, [], ◌∷◌, ◌++◌, map, refl, ap, ◌∙◌}
use Rattle.std.specs.List.{flat_map}
use Rattle.js_tree.specs.Mentions.{Names, joined, declared_in, start_vars, target_vars, form_vars, vars_in, distinct, declares, hoisted_vars, hoisted_functions}
use Rattle.js_tree.specs.declared.statement.Declarator.{Declarator}
use Rattle.js_tree.specs.declared.statement.ForStart.{ForStart}
use Rattle.js_tree.specs.declared.statement.ForStart.TheVariants as start
use Rattle.js_tree.specs.declared.statement.ForTarget.{ForTarget}
use Rattle.js_tree.specs.declared.statement.ForTarget.TheVariants as target
use Rattle.js_tree.specs.declared.statement.Case.{Case}
use Rattle.js_tree.specs.declared.statement.Catch.{Catch}
use Rattle.js_tree.specs.declared.statement.Finally.{Finally, roll-Finally}
use Rattle.js_tree.specs.declared.statement.Stmt.{Stmt}
use Rattle.js_tree.specs.declared.statement.StmtForm.{StmtForm, out-StmtForm, out-roll-StmtForm}
use Rattle.js_tree.specs.declared.statement.StmtForm.TheFolds.{map-StmtForm, fold_out-StmtForm, fold_out-Stmt}
use Rattle.js_tree.specs.declared.statement.StmtForm.TheOpen.{StmtForm-F}
use Rattle.reading_back.specs.Unplaced as unplaced
use Rattle.early_back.proofs.PlaceFree.{stmt_same}
use Rattle.early_back.proofs.RelatedStatements.{forget_form, stmt_form, case, catch, finally, unplaced_case}

declared_same : (ds : List Declarator) → declared_in (map unplaced.declarator ds) ≡ declared_in ds
declared_same [] = refl
declared_same (d ∷ ds) = ap (λ ns. d.name ∷ ns) (declared_same ds)

start_same : (from : ForStart) → start_vars (unplaced.for_start from) ≡ start_vars from
start_same start.Nothing = refl
start_same (start.Expr x) = refl
start_same (start.Var ds) = declared_same ds

target_same : (to : ForTarget) → target_vars (unplaced.for_target to) ≡ target_vars to
target_same (target.Expr x) = refl
target_same (target.Var at name) = refl

form_same : (l : StmtForm-F Names Names Names Names Names) → form_vars (forget_form l) ≡ form_vars l
form_same (StmtForm-F.Var ds) = declared_same ds
form_same (StmtForm-F.For from test step body) = ap (λ ns. ns ++ body) (start_same from)
form_same (StmtForm-F.ForIn to object body) = ap (λ ns. ns ++ body) (target_same to)
form_same l = refl

vars_same : (t : Stmt) → vars_in (unplaced.stmt t) ≡ vars_in t
vars_same =
    stmt_same
    form_vars (λ c. joined c.body) (λ c. joined c.body) (λ f. joined f.body) (λ s. s.form) form_vars (λ c. joined c.body) (λ c. joined c.body) (λ f. joined f.body) (λ s. s.form)
    form_same (λ c. refl) (λ c. refl) (λ f. refl) (λ at f. refl)

-- over statements
pub over : {A : Type 0} (f : Stmt → List A) → ((t : Stmt) → f (unplaced.stmt t) ≡ f t) → (ts : List Stmt) → flat_map f (map unplaced.stmt ts) ≡ flat_map f ts
over f h [] = refl
over f h (t ∷ ts) = ap (λ xs. xs ++ flat_map f (map unplaced.stmt ts)) (h t) ∙ ap (λ xs. f t ++ xs) (over f h ts)

pub hoisted_vars_same : (body : List Stmt) → hoisted_vars (map unplaced.stmt body) ≡ hoisted_vars body
unfolding hoisted_vars
hoisted_vars_same body = ap distinct (over vars_in vars_same body)

declares_layer : (l : StmtForm-F StmtForm Case Catch Finally Stmt)
    → declares (unplaced.in_stmt_form (map-StmtForm StmtForm Case Catch Finally Stmt StmtForm Case Catch Finally Stmt stmt_form case catch finally unplaced.stmt l)) ≡ declares l
declares_layer (StmtForm-F.FuncDecl f) = refl
declares_layer l = refl

pub unplaced_form : (t : Stmt) → out-StmtForm (unplaced.stmt t).form
    ≡ unplaced.in_stmt_form (map-StmtForm StmtForm Case Catch Finally Stmt StmtForm Case Catch Finally Stmt stmt_form case catch finally unplaced.stmt (out-StmtForm t.form))
unplaced_form t =
    ap (λ (u : Stmt). out-StmtForm u.form) (fold_out-Stmt StmtForm Case Catch Finally Stmt unplaced.of_stmt_form unplaced_case unplaced.of_catch (λ f. roll-Finally f) unplaced.of_stmt t)
    ∙ ap out-StmtForm (fold_out-StmtForm StmtForm Case Catch Finally Stmt unplaced.of_stmt_form unplaced_case unplaced.of_catch (λ f. roll-Finally f) unplaced.of_stmt t.form)
    ∙ out-roll-StmtForm _

pub hoisted_functions_same : (body : List Stmt) → hoisted_functions (map unplaced.stmt body) ≡ hoisted_functions body
unfolding hoisted_functions
hoisted_functions_same body = over (λ (s : Stmt). declares (out-StmtForm s.form)) (λ t. ap declares (unplaced_form t) ∙ declares_layer (out-StmtForm t.form)) body
