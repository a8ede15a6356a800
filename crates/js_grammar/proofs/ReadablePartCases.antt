-- The cases of parts compute, with each fold opened form by form.
use Rattle.std.proofs.Common.{true, false, map}
use Rattle.js_tree.specs.declared.expression.ExprForm.TheFolds.{fold_out-ExprForm, fold_out-Field, fold_out-Expr}
use Rattle.js_tree.specs.declared.expression.ExprForm.TheVariants.{outs-This, outs-Name, outs-ArrayLit, outs-ObjectLit, outs-Func, outs-Member, outs-Index, outs-Call, outs-New, outs-Unary, outs-Binary, outs-Logic, outs-Conditional, outs-Assign, outs-Step, outs-Comma, outs-HostCall}
use Rattle.js_tree.specs.declared.expression.Field.TheVariants.{outs-Value}
use Rattle.js_tree.specs.declared.statement.StmtForm.TheFolds.{fold_out-StmtForm, fold-roll-Case, fold-roll-Catch, fold-roll-Finally, fold_out-Stmt}
use Rattle.js_tree.specs.declared.statement.StmtForm.TheVariants.{outs-Var, outs-FuncDecl, outs-Eval, outs-Block, outs-Empty, outs-If, outs-DoWhile, outs-While, outs-For, outs-ForIn, outs-Return, outs-Switch, outs-Throw, outs-Try}
use Rattle.js_tree.specs.NameCases.{function}
use Rattle.js_tree.proofs.EarlyCases.{expr_first, expr_second, form_first, form_second}
use Rattle.js_grammar.specs.FunctionOrder.{are_in_source_order}
use Rattle.js_grammar.specs.ReadableCases.{only, does, low, empty}
use Rattle.js_grammar.specs.ReadablePartCases.{ReadablePartCases, All, AreInOrder, no_name, no_var, leaf_forms, member_forms, call_forms, operator_forms, loose_forms, assigning_forms, tested_forms, for_forms, holding_forms, closing_forms, scripts, longer_scripts, returns, two_in_expressions, two_in_statements, two_in_clauses}
use Rattle.js_grammar.proofs.ReadableCases.{readable_opened, low_line_starts, low_line_goes_on, expr_readable, stmt_form_at}

leaves_cases : All true (map only leaf_forms)
unfolding readable_opened
leaves_cases = simp (fold_out-Expr, fold_out-ExprForm, fold_out-Stmt, stmt_form_at, fold_out-StmtForm, expr_first, form_first, outs-This, outs-ArrayLit, outs-ObjectLit, outs-Eval)

members_cases : All true (map only (member_forms low))
unfolding readable_opened
members_cases = simp (low_line_starts, low_line_goes_on, fold_out-Expr, fold_out-ExprForm, fold_out-Field, fold_out-Stmt, stmt_form_at, fold_out-StmtForm, expr_first, form_first, outs-Name, outs-ArrayLit, outs-ObjectLit, outs-Value, outs-Member, outs-Index, outs-Eval)

no_members_cases : All false (map only (member_forms no_name))
unfolding readable_opened
no_members_cases = simp (low_line_starts, low_line_goes_on, fold_out-Expr, fold_out-ExprForm, fold_out-Field, fold_out-Stmt, stmt_form_at, fold_out-StmtForm, outs-Name, outs-ArrayLit, outs-ObjectLit, outs-Value, outs-Member, outs-Index, outs-Eval)

calls_cases : All true (map only (call_forms low))
unfolding readable_opened
calls_cases = simp (low_line_starts, low_line_goes_on, fold_out-Expr, fold_out-ExprForm, fold_out-Stmt, stmt_form_at, fold_out-StmtForm, expr_first, form_first, outs-Name, outs-Call, outs-New, outs-HostCall, outs-Eval)

no_calls_cases : All false (map only (call_forms no_name))
unfolding readable_opened
no_calls_cases = simp (low_line_starts, low_line_goes_on, fold_out-Expr, fold_out-ExprForm, fold_out-Stmt, stmt_form_at, fold_out-StmtForm, outs-Name, outs-Call, outs-New, outs-HostCall, outs-Eval)

operators_cases : All true (map only (operator_forms low))
unfolding readable_opened
operators_cases = simp (low_line_starts, low_line_goes_on, fold_out-Expr, fold_out-ExprForm, fold_out-Stmt, stmt_form_at, fold_out-StmtForm, expr_first, form_first, outs-Name, outs-Unary, outs-Binary, outs-Logic, outs-Eval)

no_operators_cases : All false (map only (operator_forms no_name))
unfolding readable_opened
no_operators_cases = simp (low_line_starts, low_line_goes_on, fold_out-Expr, fold_out-ExprForm, fold_out-Stmt, stmt_form_at, fold_out-StmtForm, outs-Name, outs-Unary, outs-Binary, outs-Logic, outs-Eval)

loose_cases : All true (map only (loose_forms low))
unfolding readable_opened
loose_cases = simp (low_line_starts, low_line_goes_on, fold_out-Expr, fold_out-ExprForm, fold_out-Stmt, stmt_form_at, fold_out-StmtForm, expr_first, form_first, outs-Name, outs-Conditional, outs-Comma, outs-Eval)

no_loose_cases : All false (map only (loose_forms no_name))
unfolding readable_opened
no_loose_cases = simp (low_line_starts, low_line_goes_on, fold_out-Expr, fold_out-ExprForm, fold_out-Stmt, stmt_form_at, fold_out-StmtForm, outs-Name, outs-Conditional, outs-Comma, outs-Eval)

assigning_cases : All true (map only (assigning_forms low))
unfolding readable_opened
assigning_cases = simp (low_line_starts, low_line_goes_on, fold_out-Expr, fold_out-ExprForm, fold_out-Stmt, stmt_form_at, fold_out-StmtForm, expr_first, form_first, form_second, outs-Name, outs-Assign, outs-Step, outs-Eval)

no_assigning_cases : All false (map only (assigning_forms no_name))
unfolding readable_opened
no_assigning_cases = simp (low_line_starts, low_line_goes_on, fold_out-Expr, fold_out-ExprForm, fold_out-Stmt, stmt_form_at, fold_out-StmtForm, outs-Name, outs-Assign, outs-Step, outs-Eval)

tested_cases : All true (map does (tested_forms low))
unfolding readable_opened
tested_cases = simp (expr_readable, low_line_starts, low_line_goes_on, fold_out-Expr, fold_out-ExprForm, fold_out-Stmt, stmt_form_at, fold_out-StmtForm, fold-roll-Case, expr_first, form_first, outs-Name, outs-Var, outs-Empty, outs-If, outs-DoWhile, outs-While, outs-Switch, outs-Throw)

no_tested_cases : All false (map does (tested_forms no_name))
unfolding readable_opened
no_tested_cases = simp (expr_readable, low_line_starts, low_line_goes_on, fold_out-Expr, fold_out-ExprForm, fold_out-Stmt, stmt_form_at, fold_out-StmtForm, fold-roll-Case, outs-Name, outs-Var, outs-Empty, outs-If, outs-DoWhile, outs-While, outs-Switch, outs-Throw)

for_headers_cases : All true (map does (for_forms low))
unfolding readable_opened
for_headers_cases = simp (expr_readable, low_line_starts, low_line_goes_on, fold_out-Expr, fold_out-ExprForm, fold_out-Stmt, stmt_form_at, fold_out-StmtForm, expr_first, expr_second, form_first, form_second, outs-Name, outs-Empty, outs-For, outs-ForIn)

no_for_headers_cases : All false (map does (for_forms no_name))
unfolding readable_opened
no_for_headers_cases = simp (expr_readable, low_line_starts, low_line_goes_on, fold_out-Expr, fold_out-ExprForm, fold_out-Stmt, stmt_form_at, fold_out-StmtForm, outs-Name, outs-Empty, outs-For, outs-ForIn)

holding_cases : All true (map does (holding_forms empty))
unfolding readable_opened
holding_cases = simp (expr_readable, low_line_starts, low_line_goes_on, fold_out-Expr, fold_out-ExprForm, fold_out-Stmt, stmt_form_at, fold_out-StmtForm, form_first, outs-Name, outs-Block, outs-Empty, outs-If, outs-DoWhile, outs-While, outs-For, outs-ForIn)

no_holding_cases : All false (map does (holding_forms no_var))
unfolding readable_opened
no_holding_cases = simp (expr_readable, low_line_starts, low_line_goes_on, fold_out-Expr, fold_out-ExprForm, fold_out-Stmt, stmt_form_at, fold_out-StmtForm, outs-Name, outs-Block, outs-Empty, outs-If, outs-DoWhile, outs-While, outs-For, outs-ForIn, outs-Var)

closing_cases : All true (map does (closing_forms empty))
unfolding readable_opened
closing_cases = simp (expr_readable, low_line_starts, low_line_goes_on, fold_out-Expr, fold_out-ExprForm, fold_out-Stmt, stmt_form_at, fold_out-StmtForm, fold-roll-Case, fold-roll-Catch, fold-roll-Finally, expr_first, form_first, outs-Name, outs-Empty, outs-Switch, outs-Try)

no_closing_cases : All false (map does (closing_forms no_var))
unfolding readable_opened
no_closing_cases = simp (expr_readable, low_line_starts, low_line_goes_on, fold_out-Expr, fold_out-ExprForm, fold_out-Stmt, stmt_form_at, fold_out-StmtForm, fold-roll-Case, fold-roll-Catch, fold-roll-Finally, outs-Name, outs-Empty, outs-Switch, outs-Try, outs-Var)

in_scripts_cases : All true (scripts empty)
unfolding readable_opened
in_scripts_cases = simp (low_line_starts, low_line_goes_on, fold_out-Stmt, stmt_form_at, fold_out-StmtForm, outs-FuncDecl, outs-Empty)

in_longer_scripts_cases : All true (longer_scripts empty)
unfolding readable_opened
in_longer_scripts_cases = simp (low_line_starts, low_line_goes_on, fold_out-Stmt, stmt_form_at, fold_out-StmtForm, outs-FuncDecl, outs-Empty)

not_in_scripts_cases : All false (scripts no_var)
unfolding readable_opened
not_in_scripts_cases = simp (low_line_starts, low_line_goes_on, fold_out-Stmt, stmt_form_at, fold_out-StmtForm, outs-FuncDecl, outs-Empty, outs-Var)

not_in_longer_scripts_cases : All false (longer_scripts no_var)
unfolding readable_opened
not_in_longer_scripts_cases = simp (low_line_starts, low_line_goes_on, fold_out-Stmt, stmt_form_at, fold_out-StmtForm, outs-FuncDecl, outs-Var)

returned_cases : All true (returns low)
unfolding readable_opened
returned_cases = simp (low_line_starts, low_line_goes_on, fold_out-Expr, fold_out-ExprForm, fold_out-Stmt, stmt_form_at, fold_out-StmtForm, expr_first, form_first, outs-Name, outs-FuncDecl, outs-Return)

not_returned_cases : All false (returns no_name)
unfolding readable_opened
not_returned_cases = simp (low_line_starts, low_line_goes_on, fold_out-Expr, fold_out-ExprForm, fold_out-Stmt, stmt_form_at, fold_out-StmtForm, outs-Name, outs-FuncDecl, outs-Return)

expressions_in_order_cases : AreInOrder true (two_in_expressions (function 0) (function 1))
unfolding are_in_source_order
expressions_in_order_cases = simp (fold_out-Expr, fold_out-ExprForm, fold_out-Field, fold_out-Stmt, fold_out-StmtForm, outs-Name, outs-ArrayLit, outs-ObjectLit, outs-Value, outs-Func, outs-Member, outs-Index, outs-Call, outs-New, outs-Unary, outs-Binary, outs-Logic, outs-Conditional, outs-Assign, outs-Step, outs-Comma, outs-HostCall, outs-Eval)

expressions_out_of_order_cases : AreInOrder false (two_in_expressions (function 1) (function 0))
unfolding are_in_source_order
expressions_out_of_order_cases = simp (fold_out-Expr, fold_out-ExprForm, fold_out-Field, fold_out-Stmt, fold_out-StmtForm, outs-Name, outs-ArrayLit, outs-ObjectLit, outs-Value, outs-Func, outs-Member, outs-Index, outs-Call, outs-New, outs-Unary, outs-Binary, outs-Logic, outs-Conditional, outs-Assign, outs-Step, outs-Comma, outs-HostCall, outs-Eval)

statements_in_order_cases : AreInOrder true (two_in_statements (function 0) (function 1))
unfolding are_in_source_order
statements_in_order_cases = simp (fold_out-Expr, fold_out-ExprForm, fold_out-Stmt, fold_out-StmtForm, outs-Name, outs-Func, outs-Var, outs-Eval, outs-Block, outs-Empty, outs-If, outs-DoWhile, outs-While, outs-For, outs-ForIn)

statements_out_of_order_cases : AreInOrder false (two_in_statements (function 1) (function 0))
unfolding are_in_source_order
statements_out_of_order_cases = simp (fold_out-Expr, fold_out-ExprForm, fold_out-Stmt, fold_out-StmtForm, outs-Name, outs-Func, outs-Var, outs-Eval, outs-Block, outs-Empty, outs-If, outs-DoWhile, outs-While, outs-For, outs-ForIn)

clauses_in_order_cases : AreInOrder true (two_in_clauses (function 0) (function 1))
unfolding are_in_source_order
clauses_in_order_cases = simp (fold_out-Expr, fold_out-ExprForm, fold_out-Stmt, fold_out-StmtForm, fold-roll-Case, fold-roll-Catch, fold-roll-Finally, outs-Name, outs-Func, outs-Eval, outs-Block, outs-Return, outs-Switch, outs-Throw, outs-Try)

clauses_out_of_order_cases : AreInOrder false (two_in_clauses (function 1) (function 0))
unfolding are_in_source_order
clauses_out_of_order_cases = simp (fold_out-Expr, fold_out-ExprForm, fold_out-Stmt, fold_out-StmtForm, fold-roll-Case, fold-roll-Catch, fold-roll-Finally, outs-Name, outs-Func, outs-Eval, outs-Block, outs-Return, outs-Switch, outs-Throw, outs-Try)

pub readable_part_cases : ReadablePartCases
readable_part_cases = record {
  leaves = leaves_cases;
  members = members_cases;
  no_members = no_members_cases;
  calls = calls_cases;
  no_calls = no_calls_cases;
  operators = operators_cases;
  no_operators = no_operators_cases;
  loose = loose_cases;
  no_loose = no_loose_cases;
  assigning = assigning_cases;
  no_assigning = no_assigning_cases;
  tested = tested_cases;
  no_tested = no_tested_cases;
  for_headers = for_headers_cases;
  no_for_headers = no_for_headers_cases;
  holding = holding_cases;
  no_holding = no_holding_cases;
  closing = closing_cases;
  no_closing = no_closing_cases;
  in_scripts = in_scripts_cases;
  not_in_scripts = not_in_scripts_cases;
  in_longer_scripts = in_longer_scripts_cases;
  not_in_longer_scripts = not_in_longer_scripts_cases;
  returned = returned_cases;
  not_returned = not_returned_cases;
  expressions_in_order = expressions_in_order_cases;
  expressions_out_of_order = expressions_out_of_order_cases;
  statements_in_order = statements_in_order_cases;
  statements_out_of_order = statements_out_of_order_cases;
  clauses_in_order = clauses_in_order_cases;
  clauses_out_of_order = clauses_out_of_order_cases;
}
