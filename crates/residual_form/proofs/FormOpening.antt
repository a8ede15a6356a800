-- What the cases of the residual form open: the folds over expressions and statements, field by field.
use Rattle.std.proofs.Common.{◌≡◌, ap, Bool, false, ℕ}
use Rattle.js_tree.specs.declared.expression.Expr.{Expr}
use Rattle.js_tree.specs.declared.expression.Field.{Field}
use Rattle.js_tree.specs.declared.expression.ExprForm.{ExprForm, out-ExprForm}
use Rattle.js_tree.specs.declared.expression.ExprForm.TheFolds.{map-ExprForm, fold_out-ExprForm, fold_out-Field, fold_out-Expr}
use Rattle.js_tree.specs.declared.statement.Stmt.{Stmt}
use Rattle.js_tree.specs.declared.statement.StmtForm.{StmtForm, out-StmtForm}
use Rattle.js_tree.specs.declared.statement.Case.{Case, fold-Case}
use Rattle.js_tree.specs.declared.statement.Catch.{Catch, fold-Catch}
use Rattle.js_tree.specs.declared.statement.Finally.{Finally, fold-Finally}
use Rattle.js_tree.specs.declared.statement.StmtForm.TheFolds.{map-StmtForm, fold_out-StmtForm, fold_out-Stmt}
use Rattle.residual_form.specs.Bodies.{Body}
use Rattle.residual_form.specs.Statements.{Role}
use Rattle.residual_form.specs.Creations.{Made}
use Rattle.residual_form.specs.Creations as C
use Rattle.residual_form.specs.Statements as S
use Rattle.residual_form.specs.Values.{Part}
use Rattle.residual_form.specs.Values as V

module _ (b : Body) where
  abbrev pub opened_expr : ExprForm → Part
  opened_expr f = V.of_form b (map-ExprForm ExprForm Field Expr Part Bool Part (V.in_form b) (V.in_field b) (V.in_expr b) (out-ExprForm f))

  abbrev pub in_case : Case → Bool
  in_case = fold-Case Role Bool Bool Bool Role (S.of_stmt_form b) (λ c. false) (λ c. false) (λ f. false) (λ s. s.form)

  abbrev pub in_catch : Catch → Bool
  in_catch = fold-Catch Role Bool Bool Bool Role (S.of_stmt_form b) (λ c. false) (λ c. false) (λ f. false) (λ s. s.form)

  abbrev pub in_finally : Finally → Bool
  in_finally = fold-Finally Role Bool Bool Bool Role (S.of_stmt_form b) (λ c. false) (λ c. false) (λ f. false) (λ s. s.form)

  abbrev pub opened_stmt : StmtForm → Role
  opened_stmt f = S.of_stmt_form b (map-StmtForm StmtForm Case Catch Finally Stmt Role Bool Bool Bool Role (S.in_stmt_form b) in_case in_catch in_finally (S.in_stmt b) (out-StmtForm f))

  pub expr_number : (x : Expr) → (V.in_expr b x).number ≡ (V.in_form b x.form).number
  expr_number x = ap (λ (p : Part). p.number) (fold_out-Expr Part Bool Part (V.of_form b) (V.of_field b) (λ e. e.form) x)

  pub expr_creator : (x : Expr) → (V.in_expr b x).creator ≡ (V.in_form b x.form).creator
  expr_creator x = ap (λ (p : Part). p.creator) (fold_out-Expr Part Bool Part (V.of_form b) (V.of_field b) (λ e. e.form) x)

  pub expr_operand : (x : Expr) → (V.in_expr b x).operand ≡ (V.in_form b x.form).operand
  expr_operand x = ap (λ (p : Part). p.operand) (fold_out-Expr Part Bool Part (V.of_form b) (V.of_field b) (λ e. e.form) x)

  pub expr_value : (x : Expr) → (V.in_expr b x).value ≡ (V.in_form b x.form).value
  expr_value x = ap (λ (p : Part). p.value) (fold_out-Expr Part Bool Part (V.of_form b) (V.of_field b) (λ e. e.form) x)

  pub form_number : (f : ExprForm) → (V.in_form b f).number ≡ (opened_expr f).number
  form_number f = ap (λ (p : Part). p.number) (fold_out-ExprForm Part Bool Part (V.of_form b) (V.of_field b) (λ e. e.form) f)

  pub form_creator : (f : ExprForm) → (V.in_form b f).creator ≡ (opened_expr f).creator
  form_creator f = ap (λ (p : Part). p.creator) (fold_out-ExprForm Part Bool Part (V.of_form b) (V.of_field b) (λ e. e.form) f)

  pub form_operand : (f : ExprForm) → (V.in_form b f).operand ≡ (opened_expr f).operand
  form_operand f = ap (λ (p : Part). p.operand) (fold_out-ExprForm Part Bool Part (V.of_form b) (V.of_field b) (λ e. e.form) f)

  pub form_value : (f : ExprForm) → (V.in_form b f).value ≡ (opened_expr f).value
  form_value f = ap (λ (p : Part). p.value) (fold_out-ExprForm Part Bool Part (V.of_form b) (V.of_field b) (λ e. e.form) f)

  pub stmt_statement : (x : Stmt) → (S.in_stmt b x).statement ≡ (S.in_stmt_form b x.form).statement
  stmt_statement x = ap (λ (r : Role). r.statement) (fold_out-Stmt Role Bool Bool Bool Role (S.of_stmt_form b) (λ c. false) (λ c. false) (λ f. false) (λ s. s.form) x)

  pub stmt_block : (x : Stmt) → (S.in_stmt b x).block ≡ (S.in_stmt_form b x.form).block
  stmt_block x = ap (λ (r : Role). r.block) (fold_out-Stmt Role Bool Bool Bool Role (S.of_stmt_form b) (λ c. false) (λ c. false) (λ f. false) (λ s. s.form) x)

  pub role_statement : (f : StmtForm) → (S.in_stmt_form b f).statement ≡ (opened_stmt f).statement
  role_statement f = ap (λ (r : Role). r.statement) (fold_out-StmtForm Role Bool Bool Bool Role (S.of_stmt_form b) (λ c. false) (λ c. false) (λ f. false) (λ s. s.form) f)

  pub role_block : (f : StmtForm) → (S.in_stmt_form b f).block ≡ (opened_stmt f).block
  role_block f = ap (λ (r : Role). r.block) (fold_out-StmtForm Role Bool Bool Bool Role (S.of_stmt_form b) (λ c. false) (λ c. false) (λ f. false) (λ s. s.form) f)

  abbrev pub opened_made : ExprForm → Made
  opened_made f = C.of_form b (map-ExprForm ExprForm Field Expr Made ℕ Made (C.in_form b) (C.in_field b) (C.in_expr b) (out-ExprForm f))

  pub expr_count : (x : Expr) → (C.in_expr b x).count ≡ (C.in_form b x.form).count
  expr_count x = ap (λ (m : Made). m.count) (fold_out-Expr Made ℕ Made (C.of_form b) (C.of_field b) (λ e. e.form) x)

  pub expr_maker : (x : Expr) → (C.in_expr b x).creator ≡ (C.in_form b x.form).creator
  expr_maker x = ap (λ (m : Made). m.creator) (fold_out-Expr Made ℕ Made (C.of_form b) (C.of_field b) (λ e. e.form) x)

  pub form_count : (f : ExprForm) → (C.in_form b f).count ≡ (opened_made f).count
  form_count f = ap (λ (m : Made). m.count) (fold_out-ExprForm Made ℕ Made (C.of_form b) (C.of_field b) (λ e. e.form) f)

  pub form_maker : (f : ExprForm) → (C.in_form b f).creator ≡ (opened_made f).creator
  form_maker f = ap (λ (m : Made). m.creator) (fold_out-ExprForm Made ℕ Made (C.of_form b) (C.of_field b) (λ e. e.form) f)

-- what every case opens
pub ruleset opened = (expr_count, expr_maker, form_count, form_maker, fold_out-Expr, fold_out-ExprForm, fold_out-Field, fold_out-Stmt, fold_out-StmtForm, expr_number, expr_creator, expr_operand, expr_value, form_number, form_creator, form_operand, form_value, stmt_statement, stmt_block, role_statement, role_block)
