-- The functions that a script's code names, in source order: an outer one comes before those inside it.
use Rattle.std.specs.Prelude.{◌==◌, ◌&&◌, ◌+◌, ℕ, Bool, true, false, List, [], ◌∷◌, ◌++◌, Option, Some, None}
use Rattle.std.specs.List.{flat_map}
use Rattle.js_tree.specs.declared.expression.Expr.{Expr, fold-Expr}
use Rattle.js_tree.specs.declared.expression.ExprForm.TheOpen.{ExprForm-F, Field-F}
use Rattle.js_tree.specs.declared.statement.Declarator.{Declarator}
use Rattle.js_tree.specs.declared.statement.ForStart.{ForStart}
use Rattle.js_tree.specs.declared.statement.ForStart.TheVariants as start
use Rattle.js_tree.specs.declared.statement.ForTarget.{ForTarget}
use Rattle.js_tree.specs.declared.statement.ForTarget.TheVariants as target
use Rattle.js_tree.specs.declared.statement.Func.{Func}
use Rattle.js_tree.specs.declared.statement.Script.{Script}
use Rattle.js_tree.specs.declared.statement.Stmt.{Stmt, fold-Stmt}
use Rattle.js_tree.specs.declared.statement.StmtForm.TheOpen.{StmtForm-F}
use Rattle.js_tree.specs.Mentions.{joined, of_none}

abbrev pub Numbers : Type 0
Numbers = List ℕ

-- ---- expressions (11)

abbrev pub in_form : ExprForm-F Numbers Numbers Numbers → Numbers
in_form ExprForm-F.This = []
in_form (ExprForm-F.Name text) = []
in_form (ExprForm-F.Literal value) = []
in_form (ExprForm-F.ArrayLit items) = flat_map of_none items
in_form (ExprForm-F.ObjectLit fields) = joined fields
in_form (ExprForm-F.Func f) = f.0 ∷ []
in_form (ExprForm-F.Member object key) = object
in_form (ExprForm-F.Index object key) = object ++ key
in_form (ExprForm-F.Call callee args) = callee ++ joined args
in_form (ExprForm-F.New callee args) = callee ++ joined args
in_form (ExprForm-F.Unary op a) = a
in_form (ExprForm-F.Binary op a b) = a ++ b
in_form (ExprForm-F.Logic op a b) = a ++ b
in_form (ExprForm-F.Conditional test a b) = test ++ a ++ b
in_form (ExprForm-F.Assign a op b) = a ++ b
in_form (ExprForm-F.Step op a) = a
in_form (ExprForm-F.Comma a b) = a ++ b
in_form (ExprForm-F.Input kind text) = []
in_form (ExprForm-F.HostCall kind text args) = joined args

abbrev pub in_field : Field-F Numbers Numbers Numbers → Numbers
in_field (Field-F.Value at key x) = x
in_field (Field-F.Getter at key f) = f.0 ∷ []
in_field (Field-F.Setter at key f) = f.0 ∷ []

abbrev pub in_expr : Expr → Numbers
in_expr = fold-Expr Numbers Numbers Numbers in_form in_field (λ x. x.form)

abbrev pub in_maybe : Option Expr → Numbers
in_maybe None = []
in_maybe (Some x) = in_expr x

-- ---- statements (12)

abbrev pub in_declarators : List Declarator → Numbers
in_declarators ds = flat_map (λ (d : Declarator). in_maybe d.init) ds

abbrev pub in_start : ForStart → Numbers
in_start start.Nothing = []
in_start (start.Expr x) = in_expr x
in_start (start.Var ds) = in_declarators ds

abbrev pub in_target : ForTarget → Numbers
in_target (target.Expr x) = in_expr x
in_target (target.Var at name) = []

abbrev pub in_stmt_form : StmtForm-F Numbers Numbers Numbers Numbers Numbers → Numbers
in_stmt_form (StmtForm-F.Var ds) = in_declarators ds
in_stmt_form (StmtForm-F.FuncDecl f) = f.0 ∷ []
in_stmt_form (StmtForm-F.Eval x) = in_expr x
in_stmt_form (StmtForm-F.Block body) = joined body
in_stmt_form StmtForm-F.Empty = []
in_stmt_form (StmtForm-F.If test a b) = in_expr test ++ a ++ of_none b
in_stmt_form (StmtForm-F.DoWhile body test) = body ++ in_expr test
in_stmt_form (StmtForm-F.While test body) = in_expr test ++ body
in_stmt_form (StmtForm-F.For from test step body) = in_start from ++ in_maybe test ++ in_maybe step ++ body
in_stmt_form (StmtForm-F.ForIn to object body) = in_target to ++ in_expr object ++ body
in_stmt_form StmtForm-F.Continue = []
in_stmt_form StmtForm-F.Break = []
in_stmt_form (StmtForm-F.Return x) = in_maybe x
in_stmt_form (StmtForm-F.Switch x cases) = in_expr x ++ joined cases
in_stmt_form (StmtForm-F.Throw x) = in_expr x
in_stmt_form (StmtForm-F.Try body handler final) = joined body ++ of_none handler ++ of_none final

abbrev pub in_stmt : Stmt → Numbers
in_stmt =
    fold-Stmt Numbers Numbers Numbers Numbers Numbers in_stmt_form (λ c. in_maybe c.test ++ joined c.body) (λ c. joined c.body)
    (λ f. joined f.body) (λ t. t.form)

abbrev pub in_body : List Stmt → Numbers
in_body body = flat_map in_stmt body

-- ---- scripts (14)

-- The functions from number n on stand in the order in which these are named: the next one first, and those inside it
-- before those behind it.
abbrev pub are_named_from : ℕ → Numbers → List Func → Bool
are_named_from n [] [] = true
are_named_from n (next ∷ behind) (f ∷ fs) = next == n && are_named_from (n + 1) (in_body f.body ++ behind) fs
are_named_from n _ _ = false

-- each function is named once, in source order
unfoldable pub are_in_source_order : Script → Bool
are_in_source_order s = are_named_from 0 (in_body s.body) s.funcs
