-- How high trees are: one more than their highest part, where properties, declarators and clauses have no height of their own.
use Rattle.std.specs.Prelude.{ℕ, zero, suc, max, List, map, Option, Some, None}
use Rattle.js_value.specs.declared.place.FuncNo.{FuncNo}
use Rattle.js_tree.specs.declared.expression.Expr.{Expr, fold-Expr}
use Rattle.js_tree.specs.declared.expression.ExprForm.TheOpen.{ExprForm-F, Field-F}
use Rattle.js_tree.specs.declared.statement.Declarator.{Declarator}
use Rattle.js_tree.specs.declared.statement.ForStart.{ForStart}
use Rattle.js_tree.specs.declared.statement.ForStart.TheVariants as start
use Rattle.js_tree.specs.declared.statement.ForTarget.{ForTarget}
use Rattle.js_tree.specs.declared.statement.ForTarget.TheVariants as target
use Rattle.js_tree.specs.declared.statement.Func.{Func}
use Rattle.js_tree.specs.declared.statement.Stmt.{Stmt, fold-Stmt}
use Rattle.js_tree.specs.declared.statement.StmtForm.TheOpen.{StmtForm-F, Case-F, Catch-F, Finally-F}
use Rattle.js_grammar.specs.Heights.{body_of}
use Rattle.script_nesting.specs.Highest.{highest, or_zero}

-- The function gives the height of the highest statement of a function by its number.
module _ (body : FuncNo → ℕ) where
  -- ---- expressions (11): the highest part of a form

  abbrev pub of_form : ExprForm-F ℕ ℕ ℕ → ℕ
  of_form ExprForm-F.This = 0
  of_form (ExprForm-F.Name text) = 0
  of_form (ExprForm-F.Literal value) = 0
  of_form (ExprForm-F.ArrayLit items) = highest (map or_zero items)
  of_form (ExprForm-F.ObjectLit fields) = highest fields
  of_form (ExprForm-F.Func f) = body f
  of_form (ExprForm-F.Member object key) = object
  of_form (ExprForm-F.Index object key) = max object key
  of_form (ExprForm-F.Call callee args) = max callee (highest args)
  of_form (ExprForm-F.New callee args) = max callee (highest args)
  of_form (ExprForm-F.Unary op a) = a
  of_form (ExprForm-F.Binary op a b) = max a b
  of_form (ExprForm-F.Logic op a b) = max a b
  of_form (ExprForm-F.Conditional test a b) = max (max test a) b
  of_form (ExprForm-F.Assign a op b) = max a b
  of_form (ExprForm-F.Step op a) = a
  of_form (ExprForm-F.Comma a b) = max a b
  of_form (ExprForm-F.Input kind text) = 0
  of_form (ExprForm-F.HostCall kind text args) = highest args

  abbrev pub of_field : Field-F ℕ ℕ ℕ → ℕ
  of_field (Field-F.Value at key x) = x
  of_field (Field-F.Getter at key f) = body f
  of_field (Field-F.Setter at key f) = body f

  abbrev pub height : Expr → ℕ
  height = fold-Expr ℕ ℕ ℕ of_form of_field (λ e. suc e.form)

  abbrev pub of_maybe : Option Expr → ℕ
  of_maybe None = 0
  of_maybe (Some x) = height x

  -- ---- statements (12): the highest part of a form

  abbrev pub of_declarators : List Declarator → ℕ
  of_declarators ds = highest (map (λ (d : Declarator). of_maybe d.init) ds)

  abbrev pub of_start : ForStart → ℕ
  of_start start.Nothing = 0
  of_start (start.Expr x) = height x
  of_start (start.Var ds) = of_declarators ds

  abbrev pub of_target : ForTarget → ℕ
  of_target (target.Expr x) = height x
  of_target (target.Var at name) = 0

  abbrev pub of_stmt_form : StmtForm-F ℕ ℕ ℕ ℕ ℕ → ℕ
  of_stmt_form (StmtForm-F.Var ds) = of_declarators ds
  of_stmt_form (StmtForm-F.FuncDecl f) = body f
  of_stmt_form (StmtForm-F.Eval x) = height x
  of_stmt_form (StmtForm-F.Block statements) = highest statements
  of_stmt_form StmtForm-F.Empty = 0
  of_stmt_form (StmtForm-F.If test a b) = max (max (height test) a) (or_zero b)
  of_stmt_form (StmtForm-F.DoWhile a test) = max a (height test)
  of_stmt_form (StmtForm-F.While test a) = max (height test) a
  of_stmt_form (StmtForm-F.For from test step a) = max (max (max (of_start from) (of_maybe test)) (of_maybe step)) a
  of_stmt_form (StmtForm-F.ForIn to object a) = max (max (of_target to) (height object)) a
  of_stmt_form StmtForm-F.Continue = 0
  of_stmt_form StmtForm-F.Break = 0
  of_stmt_form (StmtForm-F.Return x) = of_maybe x
  of_stmt_form (StmtForm-F.Switch x cases) = max (height x) (highest cases)
  of_stmt_form (StmtForm-F.Throw x) = height x
  of_stmt_form (StmtForm-F.Try statements handler final) = max (max (highest statements) (or_zero handler)) (or_zero final)

  abbrev pub of_case : Case-F ℕ ℕ ℕ ℕ ℕ → ℕ
  of_case c = max (of_maybe c.test) (highest c.body)

  abbrev pub of_catch : Catch-F ℕ ℕ ℕ ℕ ℕ → ℕ
  of_catch c = highest c.body

  abbrev pub of_finally : Finally-F ℕ ℕ ℕ ℕ ℕ → ℕ
  of_finally f = highest f.body

  abbrev pub stmt_height : Stmt → ℕ
  stmt_height = fold-Stmt ℕ ℕ ℕ ℕ ℕ of_stmt_form of_case of_catch of_finally (λ t. suc t.form)

  abbrev pub body_height : List Stmt → ℕ
  body_height ts = highest (map stmt_height ts)

-- ---- functions by their numbers (13)

-- with functions inside it to a depth
unfoldable pub function_height : ℕ → List Func → FuncNo → ℕ
function_height zero funcs f = 0
function_height (suc depth) funcs f = body_height (function_height depth funcs) (body_of funcs f)
