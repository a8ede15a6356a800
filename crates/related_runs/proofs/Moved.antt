-- The code of a script whose functions are numbered behind others, by one layer of the tree at a time; and what it declares.
use Rattle.std.proofs.Common.{◌≡◌, refl, ap, sym, subst, ◌∙◌, ℕ, ◌+◌, List, [], ◌∷◌, ◌++◌, arith}
use Rattle.std.specs.Prelude.{length, map, Option, Some, None}
use Rattle.std.specs.List.{flat_map}
use Rattle.std.specs.Option.{option_map}
use Rattle.std.proofs.lemmas.Iterator.Adapters.{option_map_id}
use Rattle.std.proofs.lemmas.List.{map-id}
use Rattle.js_value.specs.declared.place.FuncNo.{FuncNo}
use Rattle.js_tree.specs.Mentions.{form_vars, vars_in, joined, declared_in, start_vars, target_vars, declares, hoisted_vars, hoisted_functions, distinct}
use Rattle.js_tree.specs.declared.expression.Expr.{Expr}
use Rattle.js_tree.specs.declared.expression.Field.{Field, out-Field, out-roll-Field, fold-Field}
use Rattle.js_tree.specs.declared.expression.ExprForm.{ExprForm, out-ExprForm, out-roll-ExprForm, fold-ExprForm}
use Rattle.js_tree.specs.declared.expression.ExprForm.TheFolds.{map-ExprForm, map-Field, fold_out-ExprForm, fold_out-Expr, fold_out-Field}
use Rattle.js_tree.specs.declared.expression.ExprForm.TheOpen.{ExprForm-F, Field-F}
use Rattle.js_tree.specs.declared.statement.Case.{Case, roll-Case, out-Case, out-roll-Case, fold-Case}
use Rattle.js_tree.specs.declared.statement.Catch.{Catch, roll-Catch, out-Catch, out-roll-Catch, fold-Catch}
use Rattle.js_tree.specs.declared.statement.Declarator.{Declarator}
use Rattle.js_tree.specs.declared.statement.Finally.{Finally, roll-Finally, out-Finally, out-roll-Finally, fold-Finally}
use Rattle.js_tree.specs.declared.statement.ForStart.{ForStart}
use Rattle.js_tree.specs.declared.statement.ForStart.TheVariants as start
use Rattle.js_tree.specs.declared.statement.ForTarget.{ForTarget}
use Rattle.js_tree.specs.declared.statement.ForTarget.TheVariants as target
use Rattle.js_tree.specs.declared.statement.Func.{Func}
use Rattle.js_tree.specs.declared.statement.Script.{Script}
use Rattle.js_tree.specs.declared.statement.Stmt.{Stmt, roll-Stmt}
use Rattle.js_tree.specs.declared.statement.StmtForm.{StmtForm, roll-StmtForm, out-StmtForm, out-roll-StmtForm, fold-StmtForm}
use Rattle.js_tree.specs.declared.statement.StmtForm.TheFolds.{map-StmtForm, fold-roll-StmtForm, fold-roll-Case, fold-roll-Catch, fold-roll-Finally, fold_out-StmtForm, fold_out-Case, fold_out-Catch, fold_out-Finally, fold_out-Stmt, ind-Stmt}
use Rattle.js_tree.specs.declared.statement.StmtForm.TheOpen.{StmtForm-F, Case-F, Catch-F, Finally-F, Stmt-F}
use Rattle.js_machine.specs.Machine.Renumbered as R
use Rattle.js_machine.specs.Machine.Walks.{behind}

-- ---- one layer with other numbers

module _ (number : FuncNo → FuncNo) where
  abbrev pub numbered_form : {A B C : Type 0} → ExprForm-F A B C → ExprForm-F A B C
  numbered_form (ExprForm-F.Func f) = ExprForm-F.Func (number f)
  numbered_form layer = layer

  abbrev pub numbered_field : {A B C : Type 0} → Field-F A B C → Field-F A B C
  numbered_field (Field-F.Getter at key f) = Field-F.Getter at key (number f)
  numbered_field (Field-F.Setter at key f) = Field-F.Setter at key (number f)
  numbered_field layer = layer

  module _ (expr : Expr → Expr) where
    abbrev pub moved_declarator : Declarator → Declarator
    moved_declarator d = record d { init = option_map expr d.init }

    abbrev pub moved_start : ForStart → ForStart
    moved_start start.Nothing = start.Nothing
    moved_start (start.Expr x) = start.Expr (expr x)
    moved_start (start.Var ds) = start.Var (map moved_declarator ds)

    abbrev pub moved_target : ForTarget → ForTarget
    moved_target (target.Expr x) = target.Expr (expr x)
    moved_target (target.Var at text) = target.Var at text

    abbrev pub moved_stmt : {A B C D E : Type 0} → StmtForm-F A B C D E → StmtForm-F A B C D E
    moved_stmt (StmtForm-F.Var ds) = StmtForm-F.Var (map moved_declarator ds)
    moved_stmt (StmtForm-F.FuncDecl f) = StmtForm-F.FuncDecl (number f)
    moved_stmt (StmtForm-F.Eval x) = StmtForm-F.Eval (expr x)
    moved_stmt (StmtForm-F.If test a b) = StmtForm-F.If (expr test) a b
    moved_stmt (StmtForm-F.DoWhile body test) = StmtForm-F.DoWhile body (expr test)
    moved_stmt (StmtForm-F.While test body) = StmtForm-F.While (expr test) body
    moved_stmt (StmtForm-F.For from test step body) = StmtForm-F.For (moved_start from) (option_map expr test) (option_map expr step) body
    moved_stmt (StmtForm-F.ForIn to object body) = StmtForm-F.ForIn (moved_target to) (expr object) body
    moved_stmt (StmtForm-F.Return x) = StmtForm-F.Return (option_map expr x)
    moved_stmt (StmtForm-F.Switch x cases) = StmtForm-F.Switch (expr x) cases
    moved_stmt (StmtForm-F.Throw x) = StmtForm-F.Throw (expr x)
    moved_stmt layer = layer

abbrev pub FormLayer : Type 0
FormLayer = ExprForm-F ExprForm Field Expr

abbrev pub StmtLayer : Type 0
StmtLayer = StmtForm-F StmtForm Case Catch Finally Stmt

-- a way to number code anew, with what it does to each layer
pub record Mover : Type 0 where
  pub number : FuncNo → FuncNo
  pub form : ExprForm → ExprForm
  pub field : Field → Field
  pub expr : Expr → Expr
  pub stmt_form : StmtForm → StmtForm
  pub case : Case → Case
  pub catch : Catch → Catch
  pub finally : Finally → Finally
  pub stmt : Stmt → Stmt
  pub expr_out : (e : Expr) → out-ExprForm (expr e).form ≡ numbered_form number (map-ExprForm ExprForm Field Expr ExprForm Field Expr form field expr (out-ExprForm e.form))
  pub field_out : (f : Field) → out-Field (field f) ≡ numbered_field number (map-Field ExprForm Field Expr ExprForm Field Expr form field expr (out-Field f))
  pub stmt_out : (s : Stmt) → out-StmtForm (stmt s).form
      ≡ moved_stmt number expr (map-StmtForm StmtForm Case Catch Finally Stmt StmtForm Case Catch Finally Stmt stmt_form case catch finally stmt (out-StmtForm s.form))
  pub case_out : (c : Case) → out-Case (case c) ≡ record { test = option_map expr (out-Case c).test; body = map stmt (out-Case c).body }
  pub catch_out : (c : Catch) → out-Catch (catch c) ≡ record { at = (out-Catch c).at; name = (out-Catch c).name; body = map stmt (out-Catch c).body }
  pub finally_out : (f : Finally) → out-Finally (finally f) ≡ record { body = map stmt (out-Finally f).body }
  pub vars : (s : Stmt) → vars_in (stmt s) ≡ vars_in s

-- ---- as the functions of a script are numbered behind others

module _ (number : FuncNo → FuncNo) where
  abbrev expr : Expr → Expr
  expr = R.expr number

  abbrev form : ExprForm → ExprForm
  form = fold-ExprForm ExprForm Field Expr (R.of_form number) (R.of_field number) (λ x. record { at = x.at; form = x.form })

  abbrev field : Field → Field
  field = fold-Field ExprForm Field Expr (R.of_form number) (R.of_field number) (λ x. record { at = x.at; form = x.form })

  form_rolled : (l : FormLayer) → out-ExprForm (R.of_form number l) ≡ numbered_form number l
  form_rolled (ExprForm-F.Func f) = out-roll-ExprForm _
  form_rolled l = out-roll-ExprForm l

  field_rolled : (l : Field-F ExprForm Field Expr) → out-Field (R.of_field number l) ≡ numbered_field number l
  field_rolled (Field-F.Getter at key f) = out-roll-Field _
  field_rolled (Field-F.Setter at key f) = out-roll-Field _
  field_rolled l = out-roll-Field l

  expr_out : (e : Expr) → out-ExprForm (expr e).form ≡ numbered_form number (map-ExprForm ExprForm Field Expr ExprForm Field Expr form field expr (out-ExprForm e.form))
  expr_out e =
      ap (λ (x : Expr). out-ExprForm x.form) (fold_out-Expr ExprForm Field Expr (R.of_form number) (R.of_field number) (λ x. record { at = x.at; form = x.form }) e)
      ∙ ap out-ExprForm (fold_out-ExprForm ExprForm Field Expr (R.of_form number) (R.of_field number) (λ x. record { at = x.at; form = x.form }) e.form) ∙ form_rolled _

  field_out : (f : Field) → out-Field (field f) ≡ numbered_field number (map-Field ExprForm Field Expr ExprForm Field Expr form field expr (out-Field f))
  field_out f = ap out-Field (fold_out-Field ExprForm Field Expr (R.of_form number) (R.of_field number) (λ x. record { at = x.at; form = x.form }) f) ∙ field_rolled _

  -- ---- statements

  abbrev of_case : Case-F StmtForm Case Catch Finally Stmt → Case
  of_case c = roll-Case (record { test = option_map expr c.test; body = c.body })

  abbrev of_catch : Catch-F StmtForm Case Catch Finally Stmt → Catch
  of_catch c = roll-Catch (record { at = c.at; name = c.name; body = c.body })

  abbrev of_finally : Finally-F StmtForm Case Catch Finally Stmt → Finally
  of_finally f = roll-Finally (record { body = f.body })

  abbrev of_stmt : Stmt-F StmtForm Case Catch Finally Stmt → Stmt
  of_stmt t = record { at = t.at; form = t.form }

  abbrev stmt : Stmt → Stmt
  stmt = R.stmt number

  abbrev stmt_form : StmtForm → StmtForm
  stmt_form = fold-StmtForm StmtForm Case Catch Finally Stmt (R.of_stmt_form number) of_case of_catch of_finally of_stmt

  abbrev case : Case → Case
  case = fold-Case StmtForm Case Catch Finally Stmt (R.of_stmt_form number) of_case of_catch of_finally of_stmt

  abbrev catch : Catch → Catch
  catch = fold-Catch StmtForm Case Catch Finally Stmt (R.of_stmt_form number) of_case of_catch of_finally of_stmt

  abbrev finally : Finally → Finally
  finally = fold-Finally StmtForm Case Catch Finally Stmt (R.of_stmt_form number) of_case of_catch of_finally of_stmt

  abbrev stmt_layer : StmtLayer → StmtLayer
  stmt_layer = map-StmtForm StmtForm Case Catch Finally Stmt StmtForm Case Catch Finally Stmt stmt_form case catch finally stmt

  stmt_rolled : (l : StmtLayer) → R.of_stmt_form number l ≡ roll-StmtForm (moved_stmt number expr l)
  stmt_rolled (StmtForm-F.Var ds) = refl
  stmt_rolled (StmtForm-F.FuncDecl f) = refl
  stmt_rolled (StmtForm-F.Eval x) = refl
  stmt_rolled (StmtForm-F.Block body) = refl
  stmt_rolled StmtForm-F.Empty = refl
  stmt_rolled (StmtForm-F.If test a b) = refl
  stmt_rolled (StmtForm-F.DoWhile body test) = refl
  stmt_rolled (StmtForm-F.While test body) = refl
  stmt_rolled (StmtForm-F.For from test step body) = refl
  stmt_rolled (StmtForm-F.ForIn to object body) = refl
  stmt_rolled StmtForm-F.Continue = refl
  stmt_rolled StmtForm-F.Break = refl
  stmt_rolled (StmtForm-F.Return x) = refl
  stmt_rolled (StmtForm-F.Switch x cases) = refl
  stmt_rolled (StmtForm-F.Throw x) = refl
  stmt_rolled (StmtForm-F.Try body handler final) = refl

  stmt_out : (s : Stmt) → out-StmtForm (stmt s).form ≡ moved_stmt number expr (stmt_layer (out-StmtForm s.form))
  stmt_out s =
      ap (λ (t : Stmt). out-StmtForm t.form) (fold_out-Stmt StmtForm Case Catch Finally Stmt (R.of_stmt_form number) of_case of_catch of_finally of_stmt s)
      ∙ ap out-StmtForm (fold_out-StmtForm StmtForm Case Catch Finally Stmt (R.of_stmt_form number) of_case of_catch of_finally of_stmt s.form ∙ stmt_rolled _) ∙ out-roll-StmtForm _

  case_out : (c : Case) → out-Case (case c) ≡ record { test = option_map expr (out-Case c).test; body = map stmt (out-Case c).body }
  case_out c = ap out-Case (fold_out-Case StmtForm Case Catch Finally Stmt (R.of_stmt_form number) of_case of_catch of_finally of_stmt c) ∙ out-roll-Case _

  catch_out : (c : Catch) → out-Catch (catch c) ≡ record { at = (out-Catch c).at; name = (out-Catch c).name; body = map stmt (out-Catch c).body }
  catch_out c = ap out-Catch (fold_out-Catch StmtForm Case Catch Finally Stmt (R.of_stmt_form number) of_case of_catch of_finally of_stmt c) ∙ out-roll-Catch _

  finally_out : (f : Finally) → out-Finally (finally f) ≡ record { body = map stmt (out-Finally f).body }
  finally_out f = ap out-Finally (fold_out-Finally StmtForm Case Catch Finally Stmt (R.of_stmt_form number) of_case of_catch of_finally of_stmt f) ∙ out-roll-Finally _

  -- ---- the names that it declares

  abbrev Texts : Type 0
  Texts = List (List ℕ)

  abbrev vars_form : StmtForm → Texts
  vars_form = fold-StmtForm Texts Texts Texts Texts Texts form_vars (λ c. joined c.body) (λ c. joined c.body) (λ f. joined f.body) (λ s. s.form)

  abbrev vars_case : Case → Texts
  vars_case = fold-Case Texts Texts Texts Texts Texts form_vars (λ c. joined c.body) (λ c. joined c.body) (λ f. joined f.body) (λ s. s.form)

  abbrev vars_catch : Catch → Texts
  vars_catch = fold-Catch Texts Texts Texts Texts Texts form_vars (λ c. joined c.body) (λ c. joined c.body) (λ f. joined f.body) (λ s. s.form)

  abbrev vars_finally : Finally → Texts
  vars_finally = fold-Finally Texts Texts Texts Texts Texts form_vars (λ c. joined c.body) (λ c. joined c.body) (λ f. joined f.body) (λ s. s.form)

  abbrev FormIs : StmtForm → Type 0
  FormIs f = vars_form (stmt_form f) ≡ vars_form f

  abbrev CaseIs : Case → Type 0
  CaseIs c = vars_case (case c) ≡ vars_case c

  abbrev CatchIs : Catch → Type 0
  CatchIs c = vars_catch (catch c) ≡ vars_catch c

  abbrev FinallyIs : Finally → Type 0
  FinallyIs f = vars_finally (finally f) ≡ vars_finally f

  abbrev StmtIs : Stmt → Type 0
  StmtIs s = vars_in (stmt s) ≡ vars_in s

  abbrev KnownStmt : Type 0
  KnownStmt = (s : Stmt) × StmtIs s

  abbrev KnownCase : Type 0
  KnownCase = (c : Case) × CaseIs c

  abbrev Known : Type 0
  Known = StmtForm-F ((f : StmtForm) × FormIs f) KnownCase ((c : Catch) × CatchIs c) ((f : Finally) × FinallyIs f) KnownStmt

  abbrev layer : Known → StmtLayer
  layer = map-StmtForm ((f : StmtForm) × FormIs f) KnownCase ((c : Catch) × CatchIs c) ((f : Finally) × FinallyIs f) KnownStmt StmtForm Case Catch Finally Stmt (λ k. k.0) (λ k. k.0) (λ k. k.0) (λ k. k.0) (λ k. k.0)

  abbrev vars_layer : StmtLayer → StmtForm-F Texts Texts Texts Texts Texts
  vars_layer = map-StmtForm StmtForm Case Catch Finally Stmt Texts Texts Texts Texts Texts vars_form vars_case vars_catch vars_finally vars_in

  bodies : (ks : List KnownStmt) → map vars_in (map stmt (map (λ (k : KnownStmt). k.0) ks)) ≡ map vars_in (map (λ (k : KnownStmt). k.0) ks)
  bodies [] = refl
  bodies (k ∷ ks) = ap (λ ns. ns ∷ map vars_in (map stmt (map (λ (k : KnownStmt). k.0) ks))) k.1 ∙ ap (λ nss. vars_in k.0 ∷ nss) (bodies ks)

  clauses : (ks : List KnownCase) → map vars_case (map case (map (λ (k : KnownCase). k.0) ks)) ≡ map vars_case (map (λ (k : KnownCase). k.0) ks)
  clauses [] = refl
  clauses (k ∷ ks) = ap (λ ns. ns ∷ map vars_case (map case (map (λ (k : KnownCase). k.0) ks))) k.1 ∙ ap (λ nss. vars_case k.0 ∷ nss) (clauses ks)

  declared_same : (ds : List Declarator) → declared_in (map (moved_declarator number expr) ds) ≡ declared_in ds
  declared_same [] = refl
  declared_same (d ∷ ds) = ap (λ ns. d.name ∷ ns) (declared_same ds)

  start_same : (from : ForStart) → start_vars (moved_start number expr from) ≡ start_vars from
  start_same start.Nothing = refl
  start_same (start.Expr x) = refl
  start_same (start.Var ds) = declared_same ds

  target_same : (to : ForTarget) → target_vars (moved_target number expr to) ≡ target_vars to
  target_same (target.Expr x) = refl
  target_same (target.Var at name) = refl

  layer_vars : (y : Known) → form_vars (vars_layer (moved_stmt number expr (stmt_layer (layer y)))) ≡ form_vars (vars_layer (layer y))
  layer_vars (StmtForm-F.Var ds) = declared_same ds
  layer_vars (StmtForm-F.FuncDecl f) = refl
  layer_vars (StmtForm-F.Eval x) = refl
  layer_vars (StmtForm-F.Block body) = ap joined (bodies body)
  layer_vars StmtForm-F.Empty = refl
  layer_vars (StmtForm-F.If test a None) = rw a.1 refl
  layer_vars (StmtForm-F.If test a (Some b)) = rw (a.1, b.1) refl
  layer_vars (StmtForm-F.DoWhile body test) = body.1
  layer_vars (StmtForm-F.While test body) = body.1
  layer_vars (StmtForm-F.For from test step body) = rw (start_same from, body.1) refl
  layer_vars (StmtForm-F.ForIn to object body) = rw (target_same to, body.1) refl
  layer_vars StmtForm-F.Continue = refl
  layer_vars StmtForm-F.Break = refl
  layer_vars (StmtForm-F.Return x) = refl
  layer_vars (StmtForm-F.Switch x cases) = ap joined (clauses cases)
  layer_vars (StmtForm-F.Throw x) = refl
  layer_vars (StmtForm-F.Try body None None) = rw (bodies body) refl
  layer_vars (StmtForm-F.Try body (Some c) None) = rw (bodies body, c.1) refl
  layer_vars (StmtForm-F.Try body None (Some f)) = rw (bodies body, f.1) refl
  layer_vars (StmtForm-F.Try body (Some c) (Some f)) = rw (bodies body, c.1, f.1) refl

  from_layer : (y : Known) → FormIs (roll-StmtForm (layer y))
  from_layer y =
      let l : StmtLayer = layer y in
      ap vars_form (fold-roll-StmtForm StmtForm Case Catch Finally Stmt (R.of_stmt_form number) of_case of_catch of_finally of_stmt l ∙ stmt_rolled (stmt_layer l))
      ∙ fold-roll-StmtForm Texts Texts Texts Texts Texts form_vars (λ c. joined c.body) (λ c. joined c.body) (λ f. joined f.body) (λ s. s.form) (moved_stmt number expr (stmt_layer l))
      ∙ layer_vars y
      ∙ sym (fold-roll-StmtForm Texts Texts Texts Texts Texts form_vars (λ c. joined c.body) (λ c. joined c.body) (λ f. joined f.body) (λ s. s.form) l)

  abbrev known : List KnownStmt → List Stmt
  known ks = map (λ (k : KnownStmt). k.0) ks

  from_case : (y : Case-F ((f : StmtForm) × FormIs f) KnownCase ((c : Catch) × CatchIs c) ((f : Finally) × FinallyIs f) KnownStmt) → CaseIs (roll-Case (record { test = y.test; body = known y.body }))
  from_case y =
      let l : Case-F StmtForm Case Catch Finally Stmt = record { test = y.test; body = known y.body } in
      ap vars_case (fold-roll-Case StmtForm Case Catch Finally Stmt (R.of_stmt_form number) of_case of_catch of_finally of_stmt l)
      ∙ fold-roll-Case Texts Texts Texts Texts Texts form_vars (λ c. joined c.body) (λ c. joined c.body) (λ f. joined f.body) (λ s. s.form) (record { test = option_map expr y.test; body = map stmt (known y.body) })
      ∙ ap joined (bodies y.body)
      ∙ sym (fold-roll-Case Texts Texts Texts Texts Texts form_vars (λ c. joined c.body) (λ c. joined c.body) (λ f. joined f.body) (λ s. s.form) l)

  from_catch : (y : Catch-F ((f : StmtForm) × FormIs f) KnownCase ((c : Catch) × CatchIs c) ((f : Finally) × FinallyIs f) KnownStmt) → CatchIs (roll-Catch (record { at = y.at; name = y.name; body = known y.body }))
  from_catch y =
      let l : Catch-F StmtForm Case Catch Finally Stmt = record { at = y.at; name = y.name; body = known y.body } in
      ap vars_catch (fold-roll-Catch StmtForm Case Catch Finally Stmt (R.of_stmt_form number) of_case of_catch of_finally of_stmt l)
      ∙ fold-roll-Catch Texts Texts Texts Texts Texts form_vars (λ c. joined c.body) (λ c. joined c.body) (λ f. joined f.body) (λ s. s.form) (record { at = y.at; name = y.name; body = map stmt (known y.body) })
      ∙ ap joined (bodies y.body)
      ∙ sym (fold-roll-Catch Texts Texts Texts Texts Texts form_vars (λ c. joined c.body) (λ c. joined c.body) (λ f. joined f.body) (λ s. s.form) l)

  from_finally : (y : Finally-F ((f : StmtForm) × FormIs f) KnownCase ((c : Catch) × CatchIs c) ((f : Finally) × FinallyIs f) KnownStmt) → FinallyIs (roll-Finally (record { body = known y.body }))
  from_finally y =
      let l : Finally-F StmtForm Case Catch Finally Stmt = record { body = known y.body } in
      ap vars_finally (fold-roll-Finally StmtForm Case Catch Finally Stmt (R.of_stmt_form number) of_case of_catch of_finally of_stmt l)
      ∙ fold-roll-Finally Texts Texts Texts Texts Texts form_vars (λ c. joined c.body) (λ c. joined c.body) (λ f. joined f.body) (λ s. s.form) (record { body = map stmt (known y.body) })
      ∙ ap joined (bodies y.body)
      ∙ sym (fold-roll-Finally Texts Texts Texts Texts Texts form_vars (λ c. joined c.body) (λ c. joined c.body) (λ f. joined f.body) (λ s. s.form) l)

  from_form : (x : Stmt-F StmtForm Case Catch Finally Stmt) → FormIs x.form → StmtIs (roll-Stmt x)
  from_form x h =
      ap vars_in (fold_out-Stmt StmtForm Case Catch Finally Stmt (R.of_stmt_form number) of_case of_catch of_finally of_stmt (roll-Stmt x))
      ∙ fold_out-Stmt Texts Texts Texts Texts Texts form_vars (λ c. joined c.body) (λ c. joined c.body) (λ f. joined f.body) (λ s. s.form) (record { at = x.at; form = stmt_form x.form })
      ∙ h
      ∙ sym (fold_out-Stmt Texts Texts Texts Texts Texts form_vars (λ c. joined c.body) (λ c. joined c.body) (λ f. joined f.body) (λ s. s.form) (roll-Stmt x))

  vars_same : (s : Stmt) → StmtIs s
  vars_same = ind-Stmt FormIs CaseIs CatchIs FinallyIs StmtIs
      (λ x y is. subst (λ l. FormIs (roll-StmtForm l)) is (from_layer y))
      (λ x y is. subst (λ l. CaseIs (roll-Case l)) is (from_case y))
      (λ x y is. subst (λ l. CatchIs (roll-Catch l)) is (from_catch y))
      (λ x y is. subst (λ l. FinallyIs (roll-Finally l)) is (from_finally y))
      (λ x y is. subst (λ l. StmtIs (roll-Stmt l)) is (from_form _ y.form.1))

  pub renumbering : Mover
  renumbering = record {
    number = number;
    form = form;
    field = field;
    expr = expr;
    stmt_form = stmt_form;
    case = case;
    catch = catch;
    finally = finally;
    stmt = stmt;
    expr_out = expr_out;
    field_out = field_out;
    stmt_out = stmt_out;
    case_out = case_out;
    catch_out = catch_out;
    finally_out = finally_out;
    vars = vars_same;
  }

-- ---- behind no functions code stays as it is

same_option : {A : Type 0} (o : Option A) → o ≡ option_map (λ a. a) o
same_option o = sym (option_map_id o)

same_list : {A : Type 0} (xs : List A) → xs ≡ map (λ a. a) xs
same_list xs = sym (map-id xs)

-- the elements of an array's initialiser
abbrev pub items_of : FormLayer → List (Option Expr)
items_of (ExprForm-F.ArrayLit es) = es
items_of l = []

same_items : (es : List (Option Expr)) → es ≡ items_of (map-ExprForm ExprForm Field Expr ExprForm Field Expr (λ f. f) (λ f. f) (λ e. e) (ExprForm-F.ArrayLit es))
same_items [] = refl
same_items (None ∷ es) = ap (λ es. None ∷ es) (same_items es)
same_items (Some e ∷ es) = ap (λ es. Some e ∷ es) (same_items es)

same_form : (l : FormLayer) → l ≡ numbered_form (λ f. f) (map-ExprForm ExprForm Field Expr ExprForm Field Expr (λ f. f) (λ f. f) (λ e. e) l)
same_form (ExprForm-F.ArrayLit es) = ap (λ es. ExprForm-F.ArrayLit es) (same_items es)
same_form (ExprForm-F.ObjectLit fs) = ap (λ fs. ExprForm-F.ObjectLit fs) (same_list fs)
same_form (ExprForm-F.Call e es) = ap (λ es. ExprForm-F.Call e es) (same_list es)
same_form (ExprForm-F.New e es) = ap (λ es. ExprForm-F.New e es) (same_list es)
same_form (ExprForm-F.HostCall kind name es) = ap (λ es. ExprForm-F.HostCall kind name es) (same_list es)
same_form l = refl

same_field : (l : Field-F ExprForm Field Expr) → l ≡ numbered_field (λ f. f) (map-Field ExprForm Field Expr ExprForm Field Expr (λ f. f) (λ f. f) (λ e. e) l)
same_field (Field-F.Value at key e) = refl
same_field (Field-F.Getter at key f) = refl
same_field (Field-F.Setter at key f) = refl

same_declarators : (ds : List Declarator) → ds ≡ map (moved_declarator (λ f. f) (λ e. e)) ds
same_declarators [] = refl
same_declarators (d ∷ ds) = ap (λ o. record d { init = o } ∷ ds) (same_option d.init) ∙ ap (λ ds. moved_declarator (λ f. f) (λ e. e) d ∷ ds) (same_declarators ds)

same_start : (from : ForStart) → from ≡ moved_start (λ f. f) (λ e. e) from
same_start start.Nothing = refl
same_start (start.Expr x) = refl
same_start (start.Var ds) = ap (λ ds. start.Var ds) (same_declarators ds)

same_target : (to : ForTarget) → to ≡ moved_target (λ f. f) (λ e. e) to
same_target (target.Expr x) = refl
same_target (target.Var at name) = refl

same_stmt : (l : StmtLayer) → l ≡ moved_stmt (λ f. f) (λ e. e) (map-StmtForm StmtForm Case Catch Finally Stmt StmtForm Case Catch Finally Stmt (λ f. f) (λ c. c) (λ c. c) (λ f. f) (λ s. s) l)
same_stmt (StmtForm-F.Var ds) = ap (λ ds. StmtForm-F.Var ds) (same_declarators ds)
same_stmt (StmtForm-F.Block body) = ap (λ body. StmtForm-F.Block body) (same_list body)
same_stmt (StmtForm-F.If test a None) = refl
same_stmt (StmtForm-F.If test a (Some b)) = refl
same_stmt (StmtForm-F.For from test step body) =
    ap (λ from. StmtForm-F.For from test step body) (same_start from) ∙ ap (λ test. StmtForm-F.For (moved_start (λ f. f) (λ e. e) from) test step body) (same_option test)
    ∙ ap (λ step. StmtForm-F.For (moved_start (λ f. f) (λ e. e) from) (option_map (λ e. e) test) step body) (same_option step)
same_stmt (StmtForm-F.ForIn to object body) = ap (λ to. StmtForm-F.ForIn to object body) (same_target to)
same_stmt (StmtForm-F.Return x) = ap (λ x. StmtForm-F.Return x) (same_option x)
same_stmt (StmtForm-F.Switch x cases) = ap (λ cases. StmtForm-F.Switch x cases) (same_list cases)
same_stmt (StmtForm-F.Try body None None) = ap (λ body. StmtForm-F.Try body None None) (same_list body)
same_stmt (StmtForm-F.Try body (Some c) None) = ap (λ body. StmtForm-F.Try body (Some c) None) (same_list body)
same_stmt (StmtForm-F.Try body None (Some f)) = ap (λ body. StmtForm-F.Try body None (Some f)) (same_list body)
same_stmt (StmtForm-F.Try body (Some c) (Some f)) = ap (λ body. StmtForm-F.Try body (Some c) (Some f)) (same_list body)
same_stmt l = refl

pub staying : Mover
staying = record {
  number = λ f. f;
  form = λ f. f;
  field = λ f. f;
  expr = λ e. e;
  stmt_form = λ f. f;
  case = λ c. c;
  catch = λ c. c;
  finally = λ f. f;
  stmt = λ s. s;
  expr_out = λ e. same_form (out-ExprForm e.form);
  field_out = λ f. same_field (out-Field f);
  stmt_out = λ s. same_stmt (out-StmtForm s.form);
  case_out = λ c. ap (λ o. record { test = o; body = (out-Case c).body }) (same_option (out-Case c).test) ∙ ap (λ b. record { test = option_map (λ e. e) (out-Case c).test; body = b }) (same_list (out-Case c).body);
  catch_out = λ c. ap (λ b. record { at = (out-Catch c).at; name = (out-Catch c).name; body = b }) (same_list (out-Catch c).body);
  finally_out = λ f. ap (λ b. record { body = b }) (same_list (out-Finally f).body);
  vars = λ s. refl;
}

-- ---- a script behind functions

module _ (m : Mover) where
  abbrev pub moved_func : Func → Func
  moved_func f = record f { body = map m.stmt f.body }

  abbrev pub moved_script : List Func → Script → Script
  moved_script functions s = record s { body = map m.stmt s.body; funcs = functions ++ map moved_func s.funcs }

  over : {A : Type 0} (p q : Stmt → List A) → ((s : Stmt) → p (m.stmt s) ≡ q s) → (ss : List Stmt) → flat_map p (map m.stmt ss) ≡ flat_map q ss
  over p q h [] = refl
  over p q h (s ∷ ss) = ap (λ xs. xs ++ flat_map p (map m.stmt ss)) (h s) ∙ ap (λ xs. q s ++ xs) (over p q h ss)

  pub vars_moved : (body : List Stmt) → hoisted_vars (map m.stmt body) ≡ hoisted_vars body
  unfolding hoisted_vars
  vars_moved body = ap distinct (over vars_in vars_in m.vars body)

  declared_layer : (l : StmtLayer) → declares (moved_stmt m.number m.expr (map-StmtForm StmtForm Case Catch Finally Stmt StmtForm Case Catch Finally Stmt m.stmt_form m.case m.catch m.finally m.stmt l)) ≡ map m.number (declares l)
  declared_layer (StmtForm-F.FuncDecl f) = refl
  declared_layer l = refl

  numbers : (xs ys : List FuncNo) → map m.number (xs ++ ys) ≡ map m.number xs ++ map m.number ys
  numbers [] ys = refl
  numbers (x ∷ xs) ys = ap (λ ns. m.number x ∷ ns) (numbers xs ys)

  pub functions_moved : (body : List Stmt) → hoisted_functions (map m.stmt body) ≡ map m.number (hoisted_functions body)
  unfolding hoisted_functions
  functions_moved [] = refl
  functions_moved (s ∷ ss) =
      ap (λ ns. ns ++ flat_map (λ (s : Stmt). declares (out-StmtForm s.form)) (map m.stmt ss)) (ap declares (m.stmt_out s) ∙ declared_layer (out-StmtForm s.form))
      ∙ ap (λ ns. map m.number (declares (out-StmtForm s.form)) ++ ns) (functions_moved ss)
      ∙ sym (numbers (declares (out-StmtForm s.form)) (flat_map (λ (s : Stmt). declares (out-StmtForm s.form)) ss))

-- the way in which code is numbered behind these functions
abbrev pub mover : List Func → Mover
mover [] = staying
mover (f ∷ fs) = renumbering (λ g. record { 0 = length (f ∷ fs) + g.0 })

map_same : (fs : List Func) → fs ≡ map (moved_func staying) fs
unfolding staying
map_same [] = refl
map_same (f ∷ fs) = ap (λ b. record f { body = b } ∷ fs) (same_list f.body) ∙ ap (λ fs. moved_func staying f ∷ fs) (map_same fs)

pub behind_is : (functions : List Func) (s : Script) → behind functions s ≡ moved_script (mover functions) functions s
unfolding behind staying renumbering
behind_is [] s = ap (λ b. record s { body = b }) (same_list s.body) ∙ ap (λ fs. record s { body = map (λ t. t) s.body; funcs = fs }) (map_same s.funcs)
behind_is (f ∷ fs) s = refl

none_before : (n : ℕ) → n ≡ 0 + n
none_before n = omega arith

pub number_is : (functions : List Func) (g : FuncNo) → (mover functions).number g ≡ record { 0 = length functions + g.0 }
unfolding staying renumbering
number_is [] g = ap (λ n. record { 0 = n }) (none_before g.0)
number_is (f ∷ fs) g = refl
