-- The cases of the early checks compute, each fold opened form by form.
use Rattle.std.proofs.Common.{◌≡◌, ap, refl, [], fold, None, Some, map}
use Rattle.js_tree.specs.declared.expression.Expr.{Expr}
use Rattle.js_tree.specs.declared.expression.Field.{Field}
use Rattle.js_tree.specs.declared.expression.ExprForm.{ExprForm, out-ExprForm}
use Rattle.js_tree.specs.declared.expression.ExprForm.TheOpen.{ExprForm-F, Field-F, Expr-F}
use Rattle.js_tree.specs.declared.expression.ExprForm.TheFolds.{map-ExprForm, fold-ExprForm, fold-Field, fold-Expr, fold_out-ExprForm, fold_out-Field, fold_out-Expr}
use Rattle.js_tree.specs.declared.statement.Stmt.{Stmt}
use Rattle.js_tree.specs.declared.statement.Case.{Case}
use Rattle.js_tree.specs.declared.statement.Catch.{Catch}
use Rattle.js_tree.specs.declared.statement.Finally.{Finally}
use Rattle.js_tree.specs.declared.statement.StmtForm.{StmtForm, out-StmtForm}
use Rattle.js_tree.specs.declared.statement.StmtForm.TheOpen.{StmtForm-F, Case-F, Catch-F, Finally-F, Stmt-F}
use Rattle.js_tree.specs.declared.statement.StmtForm.TheFolds.{map-StmtForm, fold-StmtForm, fold-Case, fold-Catch, fold-Finally, fold-Stmt, fold_out-StmtForm, fold-roll-Case, fold-roll-Catch, fold-roll-Finally, fold_out-Stmt}
use Rattle.js_tree.specs.declared.statement.StmtForm.TheVariants.{outs-Block, outs-Empty, outs-If, outs-DoWhile, outs-While, outs-For, outs-ForIn, outs-Continue, outs-Break, outs-Return, outs-Switch, outs-Try, outs-FuncDecl, outs-Eval, outs-Var}
use Rattle.js_tree.specs.declared.expression.ExprForm.TheVariants.{outs-Assign, outs-Name, outs-Literal, outs-ObjectLit, outs-Func, outs-Binary, outs-Input}
use Rattle.js_tree.specs.declared.expression.Field.TheVariants.{outs-Value, outs-Getter}
use Rattle.js_tree.specs.Early.{jump_faults, mention_faults, lesser, early_fault}
use Rattle.js_tree.specs.declared.refusal.Feature.TheVariants as feature
use Rattle.js_tree.specs.declared.refusal.ReadRefused.TheVariants.{Syntax, Unsupported}
use Rattle.js_tree.specs.Refusals.{place}
use Rattle.js_tree.specs.Mentions.{mentions, hoisted_vars, hoisted_functions, repeated, as_expression}
use Rattle.js_tree.specs.EarlyCases.{EarlyCases, jump_trees, property_rows, own_name_rows, mention_rows, least_rows, empty, break_and_return, own_name, own_name_parameter, own_name_var, two_types, own_name_and_return}

-- folds that take a place last

module _ (P X Y B : Type 0) (form : ExprForm-F (P → X × Y) B (X × Y) → P → X × Y) (field : Field-F (P → X × Y) B (X × Y) → B) (expr : Expr-F (P → X × Y) B (X × Y) → X × Y) where
  pub expr_first : (x : Expr) → (fold-Expr (P → X × Y) B (X × Y) form field expr x).0 ≡ (expr (record { at = x.at; form = fold-ExprForm (P → X × Y) B (X × Y) form field expr x.form })).0
  expr_first x = ap (λ p. p.0) (fold_out-Expr (P → X × Y) B (X × Y) form field expr x)

  pub expr_second : (x : Expr) → (fold-Expr (P → X × Y) B (X × Y) form field expr x).1 ≡ (expr (record { at = x.at; form = fold-ExprForm (P → X × Y) B (X × Y) form field expr x.form })).1
  expr_second x = ap (λ p. p.1) (fold_out-Expr (P → X × Y) B (X × Y) form field expr x)

  pub form_first : (f : ExprForm) (at : P) → (fold-ExprForm (P → X × Y) B (X × Y) form field expr f at).0 ≡ (form (map-ExprForm ExprForm Field Expr (P → X × Y) B (X × Y) (fold-ExprForm (P → X × Y) B (X × Y) form field expr) (fold-Field (P → X × Y) B (X × Y) form field expr) (fold-Expr (P → X × Y) B (X × Y) form field expr) (out-ExprForm f)) at).0
  form_first f at = ap (λ g. (g at).0) (fold_out-ExprForm (P → X × Y) B (X × Y) form field expr f)

  pub form_second : (f : ExprForm) (at : P) → (fold-ExprForm (P → X × Y) B (X × Y) form field expr f at).1 ≡ (form (map-ExprForm ExprForm Field Expr (P → X × Y) B (X × Y) (fold-ExprForm (P → X × Y) B (X × Y) form field expr) (fold-Field (P → X × Y) B (X × Y) form field expr) (fold-Expr (P → X × Y) B (X × Y) form field expr) (out-ExprForm f)) at).1
  form_second f at = ap (λ g. (g at).1) (fold_out-ExprForm (P → X × Y) B (X × Y) form field expr f)

module _ (P A B C D E : Type 0) (form : StmtForm-F (P → A) B C D E → P → A) (clause : Case-F (P → A) B C D E → B) (handler : Catch-F (P → A) B C D E → C)
    (final : Finally-F (P → A) B C D E → D) (stmt : Stmt-F (P → A) B C D E → E) where
  stmt_form_at : (f : StmtForm) (at : P) → fold-StmtForm (P → A) B C D E form clause handler final stmt f at
      ≡ form (map-StmtForm StmtForm Case Catch Finally Stmt (P → A) B C D E (fold-StmtForm (P → A) B C D E form clause handler final stmt) (fold-Case (P → A) B C D E form clause handler final stmt) (fold-Catch (P → A) B C D E form clause handler final stmt) (fold-Finally (P → A) B C D E form clause handler final stmt) (fold-Stmt (P → A) B C D E form clause handler final stmt) (out-StmtForm f)) at
  stmt_form_at f at = ap (λ g. g at) (fold_out-StmtForm (P → A) B C D E form clause handler final stmt f)

jumps : map (λ row. jump_faults row.0) jump_trees ≡ map (λ row. row.1) jump_trees
jumps = simp (fold_out-Stmt, stmt_form_at, fold_out-StmtForm, fold-roll-Case, fold-roll-Catch, fold-roll-Finally, outs-Block, outs-Empty, outs-If, outs-DoWhile, outs-While, outs-For, outs-ForIn, outs-Continue, outs-Break, outs-Return, outs-Switch, outs-Try, outs-FuncDecl, outs-Eval)

properties : map (λ row. repeated [] row.0) property_rows ≡ map (λ row. row.1) property_rows
properties = refl

own_names : map (λ row. as_expression row.0) own_name_rows ≡ map (λ row. row.1) own_name_rows
own_names = refl

mentioned : map (λ row. mention_faults row.0) mention_rows ≡ map (λ row. row.1) mention_rows
mentioned = refl

least : map (λ row. fold lesser None row.0) least_rows ≡ map (λ row. row.1) least_rows
least = refl

empty_fault : early_fault empty ≡ None
unfolding early_fault mentions hoisted_vars hoisted_functions
empty_fault = simp (fold_out-Stmt, stmt_form_at, fold_out-StmtForm, outs-Empty, outs-Break, outs-Return, outs-Eval, outs-Var, expr_first, expr_second, form_first, form_second, fold_out-Field, outs-Value, outs-Getter, outs-Assign, outs-Name, outs-Literal, outs-ObjectLit, outs-Func, outs-Binary, outs-Input)

break_and_return_fault : early_fault break_and_return ≡ Some (Syntax (place 0))
unfolding early_fault mentions hoisted_vars hoisted_functions
break_and_return_fault = simp (fold_out-Stmt, stmt_form_at, fold_out-StmtForm, outs-Empty, outs-Break, outs-Return, outs-Eval, outs-Var, expr_first, expr_second, form_first, form_second, fold_out-Field, outs-Value, outs-Getter, outs-Assign, outs-Name, outs-Literal, outs-ObjectLit, outs-Func, outs-Binary, outs-Input)

own_name_fault : early_fault own_name ≡ Some (Unsupported (place 21) feature.OwnName)
unfolding early_fault mentions hoisted_vars hoisted_functions
own_name_fault = simp (fold_out-Stmt, stmt_form_at, fold_out-StmtForm, outs-Empty, outs-Break, outs-Return, outs-Eval, outs-Var, expr_first, expr_second, form_first, form_second, fold_out-Field, outs-Value, outs-Getter, outs-Assign, outs-Name, outs-Literal, outs-ObjectLit, outs-Func, outs-Binary, outs-Input)

own_name_parameter_fault : early_fault own_name_parameter ≡ None
unfolding early_fault mentions hoisted_vars hoisted_functions
own_name_parameter_fault = simp (fold_out-Stmt, stmt_form_at, fold_out-StmtForm, outs-Empty, outs-Break, outs-Return, outs-Eval, outs-Var, expr_first, expr_second, form_first, form_second, fold_out-Field, outs-Value, outs-Getter, outs-Assign, outs-Name, outs-Literal, outs-ObjectLit, outs-Func, outs-Binary, outs-Input)

own_name_var_fault : early_fault own_name_var ≡ None
unfolding early_fault mentions hoisted_vars hoisted_functions
own_name_var_fault = simp (fold_out-Stmt, stmt_form_at, fold_out-StmtForm, outs-Empty, outs-Break, outs-Return, outs-Eval, outs-Var, expr_first, expr_second, form_first, form_second, fold_out-Field, outs-Value, outs-Getter, outs-Assign, outs-Name, outs-Literal, outs-ObjectLit, outs-Func, outs-Binary, outs-Input)

two_types_fault : early_fault two_types ≡ Some (Unsupported (place 32) feature.AbstractType)
unfolding early_fault mentions hoisted_vars hoisted_functions
two_types_fault = simp (fold_out-Stmt, stmt_form_at, fold_out-StmtForm, outs-Empty, outs-Break, outs-Return, outs-Eval, outs-Var, expr_first, expr_second, form_first, form_second, fold_out-Field, outs-Value, outs-Getter, outs-Assign, outs-Name, outs-Literal, outs-ObjectLit, outs-Func, outs-Binary, outs-Input)

own_name_and_return_fault : early_fault own_name_and_return ≡ Some (Unsupported (place 21) feature.OwnName)
unfolding early_fault mentions hoisted_vars hoisted_functions
own_name_and_return_fault = simp (fold_out-Stmt, stmt_form_at, fold_out-StmtForm, outs-Empty, outs-Break, outs-Return, outs-Eval, outs-Var, expr_first, expr_second, form_first, form_second, fold_out-Field, outs-Value, outs-Getter, outs-Assign, outs-Name, outs-Literal, outs-ObjectLit, outs-Func, outs-Binary, outs-Input)

pub early_cases : EarlyCases
early_cases = record { jumps = jumps; properties = properties; own_names = own_names; mentioned = mentioned; least = least; empty_fault = empty_fault; break_and_return_fault = break_and_return_fault; own_name_fault = own_name_fault; own_name_parameter_fault = own_name_parameter_fault; own_name_var_fault = own_name_var_fault; two_types_fault = two_types_fault; own_name_and_return_fault = own_name_and_return_fault }
