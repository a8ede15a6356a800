-- The cases of functions alone compute, each fold opened form by form.
use Rattle.std.proofs.Common.{◌≡◌, map}
use Rattle.js_tree.specs.declared.expression.ExprForm.TheFolds.{fold_out-Expr, fold_out-ExprForm, fold_out-Field}
use Rattle.js_tree.specs.declared.expression.ExprForm.TheVariants as e
use Rattle.js_tree.specs.declared.expression.Field.TheVariants as field
use Rattle.js_tree.specs.declared.statement.StmtForm.TheFolds.{fold_out-Stmt, fold_out-StmtForm, fold-roll-Catch}
use Rattle.js_tree.specs.declared.statement.StmtForm.TheVariants as s
use Rattle.js_tree.specs.Trees.{no}
use Rattle.lone_functions.specs.Alone.{alone}
use Rattle.lone_functions.specs.AloneCases.{AloneCases, number_rows, accessor_rows, place_rows}

by_numbers : map (λ row. alone row.0 (no row.1)) number_rows ≡ map (λ row. row.2) number_rows
unfolding alone
by_numbers = simp (fold_out-Stmt, fold_out-StmtForm, fold_out-Expr, fold_out-ExprForm, e.outs-Name, s.outs-FuncDecl, s.outs-Eval, e.rolls-Name, s.rolls-FuncDecl, s.rolls-Eval)

with_accessors : map (λ row. alone row.0 (no row.1)) accessor_rows ≡ map (λ row. row.2) accessor_rows
unfolding alone
with_accessors = simp (fold_out-Stmt, fold_out-StmtForm, fold_out-Expr, fold_out-ExprForm, fold_out-Field, e.outs-Func, e.outs-ObjectLit, field.outs-Value, field.outs-Getter, field.outs-Setter, s.outs-FuncDecl, s.outs-Eval, e.rolls-Func, e.rolls-ObjectLit, field.rolls-Value, field.rolls-Getter, field.rolls-Setter, s.rolls-FuncDecl, s.rolls-Eval)

at_places : map (λ row. alone row.0 (no row.1)) place_rows ≡ map (λ row. row.2) place_rows
unfolding alone
at_places = simp (fold_out-Stmt, fold_out-StmtForm, fold_out-Expr, fold_out-ExprForm, fold-roll-Catch, e.outs-Name, s.outs-Var, s.outs-ForIn, s.outs-Empty, s.outs-Try, e.rolls-Name, s.rolls-Var, s.rolls-ForIn, s.rolls-Empty, s.rolls-Try)

pub alone_cases : AloneCases
alone_cases = record { by_numbers = by_numbers; with_accessors = with_accessors; at_places = at_places }
