-- How many statements and expressions there are: each weighs one, whatever it is.
use Rattle.std.specs.Prelude.{ℕ, List, Option}
use Rattle.js_tree.specs.declared.expression.Expr.{Expr}
use Rattle.js_tree.specs.declared.expression.Field.{Field}
use Rattle.js_tree.specs.declared.expression.ExprForm.{ExprForm}
use Rattle.js_tree.specs.declared.expression.ExprForm.TheOpen.{ExprForm-F, Expr-F, Field-F}
use Rattle.js_tree.specs.declared.statement.Declarator.{Declarator}
use Rattle.js_tree.specs.declared.statement.Stmt.{Stmt}
use Rattle.js_tree.specs.declared.statement.Case.{Case}
use Rattle.js_tree.specs.declared.statement.Catch.{Catch}
use Rattle.js_tree.specs.declared.statement.Finally.{Finally}
use Rattle.js_tree.specs.declared.statement.StmtForm.{StmtForm}
use Rattle.js_tree.specs.declared.statement.StmtForm.TheOpen.{StmtForm-F, Case-F, Catch-F, Finally-F, Stmt-F}
use Rattle.js_tree.specs.declared.statement.Func.{Func}
use Rattle.js_tree.specs.declared.statement.Script.{Script}
use Rattle.js_tree.specs.declared.weights.Weights.{Weights}
use Rattle.js_tree.specs.Weighed as weighed
pub use Rattle.js_tree.specs.Weighed.{or_zero}

abbrev pub each : Weights
each = record { node = 1; input = 0; host_call = 0 }

abbrev pub of_form : ExprForm-F ℕ ℕ ℕ → ℕ
of_form = weighed.of_form each

abbrev pub of_field : Field-F ℕ ℕ ℕ → ℕ
of_field = weighed.of_field each

abbrev pub of_expr : Expr-F ℕ ℕ ℕ → ℕ
of_expr = weighed.of_expr each

abbrev pub in_form : ExprForm → ℕ
in_form = weighed.in_form each

abbrev pub in_field : Field → ℕ
in_field = weighed.in_field each

abbrev pub in_expr : Expr → ℕ
in_expr = weighed.in_expr each

abbrev pub in_maybe : Option Expr → ℕ
in_maybe = weighed.in_maybe each

abbrev pub in_declarators : List Declarator → ℕ
in_declarators = weighed.in_declarators each

abbrev pub of_stmt_form : StmtForm-F ℕ ℕ ℕ ℕ ℕ → ℕ
of_stmt_form = weighed.of_stmt_form each

abbrev pub of_case : Case-F ℕ ℕ ℕ ℕ ℕ → ℕ
of_case = weighed.of_case each

abbrev pub of_catch : Catch-F ℕ ℕ ℕ ℕ ℕ → ℕ
of_catch = weighed.of_catch each

abbrev pub of_finally : Finally-F ℕ ℕ ℕ ℕ ℕ → ℕ
of_finally = weighed.of_finally each

abbrev pub of_stmt : Stmt-F ℕ ℕ ℕ ℕ ℕ → ℕ
of_stmt = weighed.of_stmt each

abbrev pub in_stmt_form : StmtForm → ℕ
in_stmt_form = weighed.in_stmt_form each

abbrev pub in_case : Case → ℕ
in_case = weighed.in_case each

abbrev pub in_catch : Catch → ℕ
in_catch = weighed.in_catch each

abbrev pub in_finally : Finally → ℕ
in_finally = weighed.in_finally each

abbrev pub in_stmt : Stmt → ℕ
in_stmt = weighed.in_stmt each

abbrev pub in_stmts : List Stmt → ℕ
in_stmts = weighed.in_stmts each

abbrev pub in_func : Func → ℕ
in_func = weighed.in_func each

abbrev pub nodes : Script → ℕ
nodes = weighed.in_script each
