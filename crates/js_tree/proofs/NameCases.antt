-- The cases of free and of hoisted names compute, each fold opened form by form.
use Rattle.std.proofs.Common.{◌≡◌, map}
use Rattle.js_tree.specs.declared.expression.ExprForm.TheFolds.{fold_out-Field}
use Rattle.js_tree.specs.declared.expression.ExprForm.TheVariants.{outs-This, outs-Name, outs-ObjectLit, outs-Func, outs-Member, outs-Index, outs-Call, outs-Assign, outs-Step, outs-Input}
use Rattle.js_tree.specs.declared.expression.Field.TheVariants.{outs-Value}
use Rattle.js_tree.specs.declared.statement.StmtForm.TheFolds.{fold_out-StmtForm, fold-roll-Case, fold-roll-Catch, fold-roll-Finally, fold_out-Stmt}
use Rattle.js_tree.specs.declared.statement.StmtForm.TheVariants.{outs-Var, outs-FuncDecl, outs-Eval, outs-Block, outs-If, outs-DoWhile, outs-While, outs-For, outs-ForIn, outs-Switch, outs-Try}
use Rattle.js_tree.specs.Mentions.{hoisted_vars, hoisted_functions, free_names}
use Rattle.js_tree.specs.NameCases.{NameCases, order_rows, named_rows, bound_rows, own_rows, inner_rows, inner_own_rows, inner_bound_rows, catch_rows, var_rows, function_rows}
use Rattle.js_tree.specs.Trees.{no}
use Rattle.js_tree.proofs.EarlyCases.{expr_first, expr_second, form_first, form_second}

order : map (λ row. free_names row.0 (no row.1)) order_rows ≡ map (λ row. row.2) order_rows
unfolding free_names hoisted_vars hoisted_functions
order = simp (fold_out-Stmt, fold_out-StmtForm, expr_first, expr_second, form_first, form_second, outs-Name, outs-Index, outs-Call, outs-Assign, outs-Step, outs-Eval, outs-ForIn)

named : map (λ row. free_names row.0 (no row.1)) named_rows ≡ map (λ row. row.2) named_rows
unfolding free_names hoisted_vars hoisted_functions
named = simp (fold_out-Stmt, fold_out-StmtForm, expr_first, form_first, fold_out-Field, outs-This, outs-Name, outs-ObjectLit, outs-Value, outs-Member, outs-Input, outs-Eval)

bound : map (λ row. free_names row.0 (no row.1)) bound_rows ≡ map (λ row. row.2) bound_rows
unfolding free_names hoisted_vars hoisted_functions
bound = simp (fold_out-Stmt, fold_out-StmtForm, expr_first, form_first, outs-Name, outs-Var, outs-FuncDecl, outs-Eval, outs-Block)

own : map (λ row. free_names row.0 (no row.1)) own_rows ≡ map (λ row. row.2) own_rows
unfolding free_names hoisted_vars hoisted_functions
own = simp (fold_out-Stmt, fold_out-StmtForm, expr_first, form_first, outs-Name, outs-Eval)

inner : map (λ row. free_names row.0 (no row.1)) inner_rows ≡ map (λ row. row.2) inner_rows
unfolding free_names hoisted_vars hoisted_functions
inner = simp (fold_out-Stmt, fold_out-StmtForm, expr_first, expr_second, form_first, form_second, outs-Name, outs-Func, outs-Assign, outs-Eval)

inner_own : map (λ row. free_names row.0 (no row.1)) inner_own_rows ≡ map (λ row. row.2) inner_own_rows
unfolding free_names hoisted_vars hoisted_functions
inner_own = simp (fold_out-Stmt, fold_out-StmtForm, expr_first, expr_second, form_first, form_second, outs-Name, outs-Func, outs-Assign, outs-Eval)

inner_bound : map (λ row. free_names row.0 (no row.1)) inner_bound_rows ≡ map (λ row. row.2) inner_bound_rows
unfolding free_names hoisted_vars hoisted_functions
inner_bound = simp (fold_out-Stmt, fold_out-StmtForm, expr_first, expr_second, form_first, form_second, outs-Name, outs-Func, outs-Assign, outs-Var, outs-Eval)

catch : map (λ row. free_names row.0 (no row.1)) catch_rows ≡ map (λ row. row.2) catch_rows
unfolding free_names hoisted_vars hoisted_functions
catch = simp (fold_out-Stmt, fold_out-StmtForm, expr_first, expr_second, form_first, form_second, fold-roll-Catch, fold-roll-Finally, outs-Name, outs-Func, outs-Assign, outs-Eval, outs-Try)

vars : map (λ row. hoisted_vars row.0) var_rows ≡ map (λ row. row.1) var_rows
unfolding hoisted_vars
vars = simp (fold_out-Stmt, fold_out-StmtForm, fold-roll-Case, fold-roll-Catch, fold-roll-Finally, outs-Var, outs-FuncDecl, outs-Eval, outs-Block, outs-If, outs-DoWhile, outs-While, outs-For, outs-ForIn, outs-Switch, outs-Try)

functions : map (λ row. hoisted_functions row.0) function_rows ≡ map (λ row. row.1) function_rows
unfolding hoisted_functions
functions = simp (outs-Var, outs-FuncDecl, outs-Eval, outs-Block)

pub name_cases : NameCases
name_cases = record { order = order; named = named; bound = bound; own = own; inner = inner; inner_own = inner_own; inner_bound = inner_bound; catch = catch; vars = vars; functions = functions }
