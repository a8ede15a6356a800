-- How many functions parts of code name.
use Rattle.std.specs.Prelude.{ℕ, List, ◌++◌, map, sum, length, Option, Some, None}
use Rattle.js_tree.specs.declared.expression.Expr.{Expr}
use Rattle.js_tree.specs.declared.expression.Field.{Field, fold-Field}
use Rattle.js_tree.specs.declared.expression.ExprForm.{ExprForm, fold-ExprForm}
use Rattle.js_tree.specs.declared.statement.Case.{Case, fold-Case}
use Rattle.js_tree.specs.declared.statement.Catch.{Catch, fold-Catch}
use Rattle.js_tree.specs.declared.statement.Declarator.{Declarator}
use Rattle.js_tree.specs.declared.statement.Finally.{Finally, fold-Finally}
use Rattle.js_tree.specs.declared.statement.Stmt.{Stmt}
use Rattle.js_tree.specs.declared.statement.StmtForm.{StmtForm, fold-StmtForm}
use Rattle.js_tree.specs.Mentions.{joined}
use Rattle.js_grammar.specs.FunctionOrder as order
use Rattle.js_grammar.specs.FunctionOrder.{Numbers}

-- ---- the functions that these parts name

abbrev pub of_form : ExprForm → Numbers
of_form = fold-ExprForm Numbers Numbers Numbers order.in_form order.in_field (λ x. x.form)

abbrev pub of_field : Field → Numbers
of_field = fold-Field Numbers Numbers Numbers order.in_form order.in_field (λ x. x.form)

abbrev pub of_stmt_form : StmtForm → Numbers
of_stmt_form =
    fold-StmtForm Numbers Numbers Numbers Numbers Numbers order.in_stmt_form (λ c. order.in_maybe c.test ++ joined c.body) (λ c. joined c.body)
    (λ f. joined f.body) (λ t. t.form)

abbrev pub of_case : Case → Numbers
of_case =
    fold-Case Numbers Numbers Numbers Numbers Numbers order.in_stmt_form (λ c. order.in_maybe c.test ++ joined c.body) (λ c. joined c.body)
    (λ f. joined f.body) (λ t. t.form)

abbrev pub of_catch : Catch → Numbers
of_catch =
    fold-Catch Numbers Numbers Numbers Numbers Numbers order.in_stmt_form (λ c. order.in_maybe c.test ++ joined c.body) (λ c. joined c.body)
    (λ f. joined f.body) (λ t. t.form)

abbrev pub of_finally : Finally → Numbers
of_finally =
    fold-Finally Numbers Numbers Numbers Numbers Numbers order.in_stmt_form (λ c. order.in_maybe c.test ++ joined c.body) (λ c. joined c.body)
    (λ f. joined f.body) (λ t. t.form)

-- ---- how many they are

abbrev pub in_form : ExprForm → ℕ
in_form form = length (of_form form)

abbrev pub in_field : Field → ℕ
in_field f = length (of_field f)

abbrev pub in_expr : Expr → ℕ
in_expr x = length (order.in_expr x)

abbrev pub in_maybe : Option Expr → ℕ
in_maybe x = length (order.in_maybe x)

abbrev pub in_exprs : List Expr → ℕ
in_exprs all = sum (map in_expr all)

abbrev pub in_elements : List (Option Expr) → ℕ
in_elements all = sum (map in_maybe all)

abbrev pub in_fields : List Field → ℕ
in_fields all = sum (map in_field all)

abbrev pub in_declarators : List Declarator → ℕ
in_declarators all = sum (map (λ (d : Declarator). in_maybe d.init) all)

abbrev pub in_stmt_form : StmtForm → ℕ
in_stmt_form form = length (of_stmt_form form)

abbrev pub in_stmt : Stmt → ℕ
in_stmt t = length (order.in_stmt t)

abbrev pub in_stmts : List Stmt → ℕ
in_stmts all = sum (map in_stmt all)

abbrev pub in_case : Case → ℕ
in_case c = length (of_case c)

abbrev pub in_cases : List Case → ℕ
in_cases all = sum (map in_case all)

abbrev pub in_catch : Catch → ℕ
in_catch c = length (of_catch c)

abbrev pub in_finally : Finally → ℕ
in_finally f = length (of_finally f)

abbrev pub in_handler : Option Catch → ℕ
in_handler None = 0
in_handler (Some c) = in_catch c

abbrev pub in_last : Option Finally → ℕ
in_last None = 0
in_last (Some f) = in_finally f
