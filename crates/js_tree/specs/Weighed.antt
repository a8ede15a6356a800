-- What a script weighs, where each statement and expression, each input and each host call weighs what is given for it.
use Rattle.std.specs.Prelude.{ℕ, ◌+◌, List, map, sum, Option, Some, None}
use Rattle.js_tree.specs.declared.expression.Expr.{Expr, fold-Expr}
use Rattle.js_tree.specs.declared.expression.Field.{Field, fold-Field}
use Rattle.js_tree.specs.declared.expression.ExprForm.{ExprForm, fold-ExprForm}
use Rattle.js_tree.specs.declared.expression.ExprForm.TheOpen.{ExprForm-F, Expr-F, Field-F}
use Rattle.js_tree.specs.declared.statement.Declarator.{Declarator}
use Rattle.js_tree.specs.declared.statement.ForStart.{ForStart}
use Rattle.js_tree.specs.declared.statement.ForStart.TheVariants as start
use Rattle.js_tree.specs.declared.statement.ForTarget.{ForTarget}
use Rattle.js_tree.specs.declared.statement.ForTarget.TheVariants as target
use Rattle.js_tree.specs.declared.statement.Stmt.{Stmt, fold-Stmt}
use Rattle.js_tree.specs.declared.statement.Case.{Case, fold-Case}
use Rattle.js_tree.specs.declared.statement.Catch.{Catch, fold-Catch}
use Rattle.js_tree.specs.declared.statement.Finally.{Finally, fold-Finally}
use Rattle.js_tree.specs.declared.statement.StmtForm.{StmtForm, fold-StmtForm}
use Rattle.js_tree.specs.declared.statement.StmtForm.TheOpen.{StmtForm-F, Case-F, Catch-F, Finally-F, Stmt-F}
use Rattle.js_tree.specs.declared.statement.Func.{Func}
use Rattle.js_tree.specs.declared.statement.Script.{Script}
use Rattle.js_tree.specs.declared.weights.Weights.{Weights}

abbrev pub or_zero : Option ℕ → ℕ
or_zero None = 0
or_zero (Some n) = n

module _ (weights : Weights) where
  abbrev pub of_form : ExprForm-F ℕ ℕ ℕ → ℕ
  of_form ExprForm-F.This = 0
  of_form (ExprForm-F.Name text) = 0
  of_form (ExprForm-F.Literal value) = 0
  of_form (ExprForm-F.ArrayLit items) = sum (map or_zero items)
  of_form (ExprForm-F.ObjectLit fields) = sum fields
  of_form (ExprForm-F.Func f) = 0
  of_form (ExprForm-F.Member object key) = object
  of_form (ExprForm-F.Index object key) = object + key
  of_form (ExprForm-F.Call callee args) = callee + sum args
  of_form (ExprForm-F.New callee args) = callee + sum args
  of_form (ExprForm-F.Unary op a) = a
  of_form (ExprForm-F.Binary op a b) = a + b
  of_form (ExprForm-F.Logic op a b) = a + b
  of_form (ExprForm-F.Conditional test a b) = test + a + b
  of_form (ExprForm-F.Assign a op b) = a + b
  of_form (ExprForm-F.Step op a) = a
  of_form (ExprForm-F.Comma a b) = a + b
  of_form (ExprForm-F.Input kind text) = weights.input
  of_form (ExprForm-F.HostCall kind text args) = sum args + weights.host_call

  abbrev pub of_field : Field-F ℕ ℕ ℕ → ℕ
  of_field (Field-F.Value at key e) = e
  of_field (Field-F.Getter at key f) = 0
  of_field (Field-F.Setter at key f) = 0

  abbrev pub of_expr : Expr-F ℕ ℕ ℕ → ℕ
  of_expr e = e.form + weights.node

  abbrev pub in_form : ExprForm → ℕ
  in_form = fold-ExprForm ℕ ℕ ℕ of_form of_field of_expr

  abbrev pub in_field : Field → ℕ
  in_field = fold-Field ℕ ℕ ℕ of_form of_field of_expr

  abbrev pub in_expr : Expr → ℕ
  in_expr = fold-Expr ℕ ℕ ℕ of_form of_field of_expr

  abbrev pub in_maybe : Option Expr → ℕ
  in_maybe None = 0
  in_maybe (Some e) = in_expr e

  abbrev pub in_exprs : List Expr → ℕ
  in_exprs es = sum (map in_expr es)

  abbrev pub in_elements : List (Option Expr) → ℕ
  in_elements es = sum (map in_maybe es)

  abbrev pub in_fields : List Field → ℕ
  in_fields fs = sum (map in_field fs)

  -- ---- statements

  abbrev pub in_declarators : List Declarator → ℕ
  in_declarators ds = sum (map (λ d. in_maybe d.init) ds)

  abbrev pub in_start : ForStart → ℕ
  in_start start.Nothing = 0
  in_start (start.Expr e) = in_expr e
  in_start (start.Var ds) = in_declarators ds

  abbrev pub in_target : ForTarget → ℕ
  in_target (target.Expr e) = in_expr e
  in_target (target.Var at name) = 0

  abbrev pub of_stmt_form : StmtForm-F ℕ ℕ ℕ ℕ ℕ → ℕ
  of_stmt_form (StmtForm-F.Var ds) = in_declarators ds
  of_stmt_form (StmtForm-F.FuncDecl f) = 0
  of_stmt_form (StmtForm-F.Eval e) = in_expr e
  of_stmt_form (StmtForm-F.Block body) = sum body
  of_stmt_form StmtForm-F.Empty = 0
  of_stmt_form (StmtForm-F.If test a b) = in_expr test + a + or_zero b
  of_stmt_form (StmtForm-F.DoWhile body test) = body + in_expr test
  of_stmt_form (StmtForm-F.While test body) = in_expr test + body
  of_stmt_form (StmtForm-F.For from test step body) = in_start from + in_maybe test + in_maybe step + body
  of_stmt_form (StmtForm-F.ForIn to e body) = in_target to + in_expr e + body
  of_stmt_form StmtForm-F.Continue = 0
  of_stmt_form StmtForm-F.Break = 0
  of_stmt_form (StmtForm-F.Return e) = in_maybe e
  of_stmt_form (StmtForm-F.Switch e cases) = in_expr e + sum cases
  of_stmt_form (StmtForm-F.Throw e) = in_expr e
  of_stmt_form (StmtForm-F.Try body handler final) = sum body + or_zero handler + or_zero final

  abbrev pub of_case : Case-F ℕ ℕ ℕ ℕ ℕ → ℕ
  of_case c = in_maybe c.test + sum c.body

  abbrev pub of_catch : Catch-F ℕ ℕ ℕ ℕ ℕ → ℕ
  of_catch c = sum c.body

  abbrev pub of_finally : Finally-F ℕ ℕ ℕ ℕ ℕ → ℕ
  of_finally f = sum f.body

  abbrev pub of_stmt : Stmt-F ℕ ℕ ℕ ℕ ℕ → ℕ
  of_stmt s = s.form + weights.node

  abbrev pub in_stmt_form : StmtForm → ℕ
  in_stmt_form = fold-StmtForm ℕ ℕ ℕ ℕ ℕ of_stmt_form of_case of_catch of_finally of_stmt

  abbrev pub in_stmt : Stmt → ℕ
  in_stmt = fold-Stmt ℕ ℕ ℕ ℕ ℕ of_stmt_form of_case of_catch of_finally of_stmt

  abbrev pub in_stmts : List Stmt → ℕ
  in_stmts ss = sum (map in_stmt ss)

  abbrev pub in_case : Case → ℕ
  in_case = fold-Case ℕ ℕ ℕ ℕ ℕ of_stmt_form of_case of_catch of_finally of_stmt

  abbrev pub in_cases : List Case → ℕ
  in_cases cs = sum (map in_case cs)

  abbrev pub in_catch : Catch → ℕ
  in_catch = fold-Catch ℕ ℕ ℕ ℕ ℕ of_stmt_form of_case of_catch of_finally of_stmt

  abbrev pub in_finally : Finally → ℕ
  in_finally = fold-Finally ℕ ℕ ℕ ℕ ℕ of_stmt_form of_case of_catch of_finally of_stmt

  abbrev pub in_func : Func → ℕ
  in_func f = in_stmts f.body

  abbrev pub in_script : Script → ℕ
  in_script s = in_stmts s.body + sum (map in_func s.funcs)
