-- What of code stands for more than itself, in source order: the functions that it names, and the inputs that it takes.
use Rattle.std.specs.Prelude.{ℕ, List, [], ◌∷◌, ◌++◌, map, Option, Some, None}
use Rattle.std.specs.List.{flat_map}
use Rattle.js_value.specs.declared.place.FuncNo.{FuncNo}
use Rattle.js_value.specs.declared.primitive.Kind.{Kind}
use Rattle.js_tree.specs.Mentions.{joined, of_none}
use Rattle.js_tree.specs.declared.expression.Expr.{Expr, fold-Expr}
use Rattle.js_tree.specs.declared.expression.ExprForm.{ExprForm, fold-ExprForm}
use Rattle.js_tree.specs.declared.expression.ExprForm.TheOpen.{ExprForm-F, Field-F}
use Rattle.js_tree.specs.declared.expression.Field.{Field, fold-Field}
use Rattle.js_tree.specs.declared.statement.Case.{Case, fold-Case}
use Rattle.js_tree.specs.declared.statement.Catch.{Catch, fold-Catch}
use Rattle.js_tree.specs.declared.statement.Declarator.{Declarator}
use Rattle.js_tree.specs.declared.statement.Finally.{Finally, fold-Finally}
use Rattle.js_tree.specs.declared.statement.ForStart.{ForStart}
use Rattle.js_tree.specs.declared.statement.ForStart.TheVariants as start
use Rattle.js_tree.specs.declared.statement.ForTarget.{ForTarget}
use Rattle.js_tree.specs.declared.statement.ForTarget.TheVariants as target
use Rattle.js_tree.specs.declared.statement.Stmt.{Stmt, fold-Stmt}
use Rattle.js_tree.specs.declared.statement.StmtForm.{StmtForm, fold-StmtForm}
use Rattle.js_tree.specs.declared.statement.StmtForm.TheOpen.{StmtForm-F, Case-F, Catch-F, Finally-F}
use Rattle.readable_trees.specs.declared.items.Item as D
use Rattle.readable_trees.specs.declared.items.Item.TheVariants as d

pub data Item : Type 0 where
  Function : FuncNo → Item
  Input : Kind → List ℕ → Item

abbrev pub Items : Type 0
Items = List Item

-- what gathered items stand for
abbrev pub item_of : D.Item → Item
item_of (d.Function f) = Function f
item_of (d.Input kind text) = Input kind text.now

abbrev pub told : List D.Item → Items
told all = map item_of all

-- ---- expressions (11)

abbrev pub of_form : ExprForm-F Items Items Items → Items
of_form ExprForm-F.This = []
of_form (ExprForm-F.Name text) = []
of_form (ExprForm-F.Literal value) = []
of_form (ExprForm-F.ArrayLit items) = flat_map of_none items
of_form (ExprForm-F.ObjectLit fields) = joined fields
of_form (ExprForm-F.Func f) = Function f ∷ []
of_form (ExprForm-F.Member object key) = object
of_form (ExprForm-F.Index object key) = object ++ key
of_form (ExprForm-F.Call callee args) = callee ++ joined args
of_form (ExprForm-F.New callee args) = callee ++ joined args
of_form (ExprForm-F.Unary op a) = a
of_form (ExprForm-F.Binary op a b) = a ++ b
of_form (ExprForm-F.Logic op a b) = a ++ b
of_form (ExprForm-F.Conditional test a b) = test ++ a ++ b
of_form (ExprForm-F.Assign a op b) = a ++ b
of_form (ExprForm-F.Step op a) = a
of_form (ExprForm-F.Comma a b) = a ++ b
of_form (ExprForm-F.Input kind text) = Input kind text ∷ []
of_form (ExprForm-F.HostCall kind text args) = joined args

abbrev pub of_field : Field-F Items Items Items → Items
of_field (Field-F.Value at key x) = x
of_field (Field-F.Getter at key f) = Function f ∷ []
of_field (Field-F.Setter at key f) = Function f ∷ []

abbrev pub in_form : ExprForm → Items
in_form = fold-ExprForm Items Items Items of_form of_field (λ x. x.form)

abbrev pub in_field : Field → Items
in_field = fold-Field Items Items Items of_form of_field (λ x. x.form)

abbrev pub in_expr : Expr → Items
in_expr = fold-Expr Items Items Items of_form of_field (λ x. x.form)

abbrev pub in_exprs : List Expr → Items
in_exprs all = joined (map in_expr all)

abbrev pub in_fields : List Field → Items
in_fields all = joined (map in_field all)

abbrev pub in_maybe : Option Expr → Items
in_maybe None = []
in_maybe (Some x) = in_expr x

abbrev pub in_elements : List (Option Expr) → Items
in_elements all = flat_map in_maybe all

-- ---- statements (12)

abbrev pub in_declarators : List Declarator → Items
in_declarators ds = flat_map (λ (d : Declarator). in_maybe d.init) ds

abbrev pub in_start : ForStart → Items
in_start start.Nothing = []
in_start (start.Expr x) = in_expr x
in_start (start.Var ds) = in_declarators ds

abbrev pub in_target : ForTarget → Items
in_target (target.Expr x) = in_expr x
in_target (target.Var at name) = []

abbrev pub in_header : ForStart → Option Expr → Option Expr → Items
in_header from test step = in_start from ++ in_maybe test ++ in_maybe step

abbrev pub of_stmt_form : StmtForm-F Items Items Items Items Items → Items
of_stmt_form (StmtForm-F.Var ds) = in_declarators ds
of_stmt_form (StmtForm-F.FuncDecl f) = Function f ∷ []
of_stmt_form (StmtForm-F.Eval x) = in_expr x
of_stmt_form (StmtForm-F.Block body) = joined body
of_stmt_form StmtForm-F.Empty = []
of_stmt_form (StmtForm-F.If test a b) = in_expr test ++ a ++ of_none b
of_stmt_form (StmtForm-F.DoWhile body test) = body ++ in_expr test
of_stmt_form (StmtForm-F.While test body) = in_expr test ++ body
of_stmt_form (StmtForm-F.For from test step body) = in_start from ++ in_maybe test ++ in_maybe step ++ body
of_stmt_form (StmtForm-F.ForIn to object body) = in_target to ++ in_expr object ++ body
of_stmt_form StmtForm-F.Continue = []
of_stmt_form StmtForm-F.Break = []
of_stmt_form (StmtForm-F.Return x) = in_maybe x
of_stmt_form (StmtForm-F.Switch x cases) = in_expr x ++ joined cases
of_stmt_form (StmtForm-F.Throw x) = in_expr x
of_stmt_form (StmtForm-F.Try body handler final) = joined body ++ of_none handler ++ of_none final

abbrev pub of_case : Case-F Items Items Items Items Items → Items
of_case c = in_maybe c.test ++ joined c.body

abbrev pub of_catch : Catch-F Items Items Items Items Items → Items
of_catch c = joined c.body

abbrev pub of_finally : Finally-F Items Items Items Items Items → Items
of_finally f = joined f.body

abbrev pub in_stmt_form : StmtForm → Items
in_stmt_form = fold-StmtForm Items Items Items Items Items of_stmt_form of_case of_catch of_finally (λ t. t.form)

abbrev pub in_case : Case → Items
in_case = fold-Case Items Items Items Items Items of_stmt_form of_case of_catch of_finally (λ t. t.form)

abbrev pub in_catch : Catch → Items
in_catch = fold-Catch Items Items Items Items Items of_stmt_form of_case of_catch of_finally (λ t. t.form)

abbrev pub in_finally : Finally → Items
in_finally = fold-Finally Items Items Items Items Items of_stmt_form of_case of_catch of_finally (λ t. t.form)

abbrev pub in_stmt : Stmt → Items
in_stmt = fold-Stmt Items Items Items Items Items of_stmt_form of_case of_catch of_finally (λ t. t.form)

abbrev pub in_stmts : List Stmt → Items
in_stmts all = joined (map in_stmt all)

abbrev pub in_cases : List Case → Items
in_cases all = joined (map in_case all)

abbrev pub in_handler : Option Catch → Items
in_handler None = []
in_handler (Some handler) = in_catch handler

abbrev pub in_last : Option Finally → Items
in_last None = []
in_last (Some last) = in_finally last
