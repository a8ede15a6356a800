-- The cases of host calls, closed and flat scripts compute, each fold opened form by form.
use Rattle.std.proofs.Common.{◌≡◌, ap, map, Bool}
use Rattle.js_value.specs.declared.place.FuncNo.{FuncNo}
use Rattle.js_tree.specs.declared.expression.Expr.{Expr}
use Rattle.js_tree.specs.declared.expression.Field.{Field}
use Rattle.js_tree.specs.declared.expression.ExprForm.{ExprForm, out-ExprForm}
use Rattle.js_tree.specs.declared.expression.ExprForm.TheFolds.{map-ExprForm, fold_out-ExprForm, fold_out-Field, fold_out-Expr}
use Rattle.js_tree.specs.declared.expression.ExprForm.TheVariants.{outs-Name, outs-ArrayLit, outs-ObjectLit, outs-Func, outs-Member, outs-Call, outs-New, outs-Assign, outs-Comma, outs-Input, outs-HostCall}
use Rattle.js_tree.specs.declared.expression.Field.TheVariants.{outs-Value, outs-Getter, outs-Setter}
use Rattle.js_tree.specs.declared.statement.StmtForm.TheFolds.{fold_out-StmtForm, fold-roll-Case, fold-roll-Catch, fold-roll-Finally, fold_out-Stmt}
use Rattle.js_tree.specs.declared.statement.StmtForm.TheVariants.{outs-Var, outs-FuncDecl, outs-Eval, outs-Block, outs-Empty, outs-If, outs-DoWhile, outs-While, outs-For, outs-ForIn, outs-Break, outs-Return, outs-Switch, outs-Throw, outs-Try}
use Rattle.js_tree.specs.Early.{host_forms, is_closed}
use Rattle.js_tree.specs.Flat.{Flatness, of_form, of_field, in_form, in_field, in_expr, is_flat}
use Rattle.js_tree.specs.FlatCases.{FlatCases, host_rows, closed_rows, called_rows, part_rows, flat_rows}

module _ (callable : FuncNo → Bool) where
  expr_flat : (x : Expr) → (in_expr callable x).flat ≡ (in_form callable x.form).flat
  expr_flat x = ap (λ (r : Flatness). r.flat) (fold_out-Expr Flatness Bool Flatness (of_form callable) (of_field callable) (λ e. e.form) x)

  expr_callable : (x : Expr) → (in_expr callable x).callable ≡ (in_form callable x.form).callable
  expr_callable x = ap (λ (r : Flatness). r.callable) (fold_out-Expr Flatness Bool Flatness (of_form callable) (of_field callable) (λ e. e.form) x)

  form_flat : (f : ExprForm) → (in_form callable f).flat
      ≡ (of_form callable (map-ExprForm ExprForm Field Expr Flatness Bool Flatness (in_form callable) (in_field callable) (in_expr callable) (out-ExprForm f))).flat
  form_flat f = ap (λ (r : Flatness). r.flat) (fold_out-ExprForm Flatness Bool Flatness (of_form callable) (of_field callable) (λ e. e.form) f)

  form_callable : (f : ExprForm) → (in_form callable f).callable
      ≡ (of_form callable (map-ExprForm ExprForm Field Expr Flatness Bool Flatness (in_form callable) (in_field callable) (in_expr callable) (out-ExprForm f))).callable
  form_callable f = ap (λ (r : Flatness). r.callable) (fold_out-ExprForm Flatness Bool Flatness (of_form callable) (of_field callable) (λ e. e.form) f)

hosts : map (λ row. host_forms row.0) host_rows ≡ map (λ row. row.1) host_rows
unfolding host_forms
hosts = simp (fold_out-Expr, fold_out-ExprForm, fold_out-Stmt, fold_out-StmtForm, fold-roll-Case, fold-roll-Catch, fold-roll-Finally, outs-Name, outs-ArrayLit, outs-Call, outs-Input, outs-HostCall, outs-FuncDecl, outs-Eval, outs-Empty, outs-Switch, outs-Try)

closed : map (λ row. is_closed row.0) closed_rows ≡ map (λ row. row.1) closed_rows
unfolding is_closed
closed = simp (fold_out-Expr, fold_out-ExprForm, fold_out-Stmt, fold_out-StmtForm, outs-Name, outs-Call, outs-Input, outs-HostCall, outs-Var, outs-FuncDecl, outs-Eval, outs-Empty, outs-Return)

called : map (λ row. is_flat row.0) called_rows ≡ map (λ row. row.1) called_rows
unfolding is_flat
called = simp (expr_flat, expr_callable, form_flat, form_callable, fold_out-Stmt, fold_out-StmtForm, outs-Name, outs-Func, outs-Member, outs-Call, outs-New, outs-Comma, outs-Eval)

parts : map (λ row. is_flat row.0) part_rows ≡ map (λ row. row.1) part_rows
unfolding is_flat
parts = simp (expr_flat, expr_callable, form_flat, form_callable, fold_out-Stmt, fold_out-StmtForm, outs-Name, outs-Func, outs-Call, outs-Assign, outs-Eval, outs-FuncDecl, outs-While)

flat : map (λ row. is_flat row.0) flat_rows ≡ map (λ row. row.1) flat_rows
unfolding is_flat
flat = simp (expr_flat, expr_callable, form_flat, form_callable, fold_out-Field, fold_out-Stmt, fold_out-StmtForm, fold-roll-Case, outs-Name, outs-ArrayLit, outs-ObjectLit, outs-Value, outs-Getter, outs-Setter, outs-Call, outs-New, outs-Assign, outs-Input, outs-HostCall, outs-Var, outs-Eval, outs-Block, outs-Empty, outs-If, outs-DoWhile, outs-While, outs-For, outs-ForIn, outs-Break, outs-Switch, outs-Throw, outs-Try)

pub flat_cases : FlatCases
flat_cases = record { hosts = hosts; closed = closed; called = called; parts = parts; flat = flat }
