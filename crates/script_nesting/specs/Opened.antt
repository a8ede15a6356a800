-- How many parts are open at once while the tokens of a tree are read as they are printed: statements, the bodies of functions,
-- all that stands in brackets or parentheses, operands of prefix operators, the right sides of assignments and the branches of conditionals.
use Rattle.std.specs.Prelude.{ℕ, zero, suc, max, ◌+◌, ◌&&◌, ◌||◌, Bool, true, false, not, nat_lt, List, map, Option, Some, None}
use Rattle.js_value.specs.declared.place.FuncNo.{FuncNo}
use Rattle.js_tree.specs.declared.expression.Expr.{Expr, fold-Expr}
use Rattle.js_tree.specs.declared.expression.ExprForm.TheFolds.{map-ExprForm}
use Rattle.js_tree.specs.declared.expression.ExprForm.TheOpen.{ExprForm-F, Field-F}
use Rattle.js_tree.specs.declared.statement.Declarator.{Declarator}
use Rattle.js_tree.specs.declared.statement.ForStart.{ForStart}
use Rattle.js_tree.specs.declared.statement.ForStart.TheVariants as start
use Rattle.js_tree.specs.declared.statement.ForTarget.{ForTarget}
use Rattle.js_tree.specs.declared.statement.ForTarget.TheVariants as target
use Rattle.js_tree.specs.declared.statement.Func.{Func}
use Rattle.js_tree.specs.declared.statement.Stmt.{Stmt, fold-Stmt}
use Rattle.js_tree.specs.declared.statement.StmtForm.TheOpen.{StmtForm-F, Case-F, Catch-F, Finally-F}
use Rattle.js_grammar.specs.Heights.{body_of}
use Rattle.script_text.specs.Expressions as text
use Rattle.script_text.specs.Expressions.{Printed, binary_level, logic_level, is_postfix}
use Rattle.script_text.specs.Pieces.{Piece}
use Rattle.script_text.specs.Printing.{function_to}
use Rattle.script_nesting.specs.Highest.{highest, or_zero}

pub record Deep : Type 0 where
  -- as it is printed without parentheses around it
  pub printed : Printed
  -- how many parts are open at once inside it, by whether `in` is an operator where it stands
  pub opened : Bool → ℕ

-- ---- parts of expressions, where a looser one is in parentheses

abbrev pub if_grouped : Bool → Bool → Deep → ℕ
if_grouped true allows_in d = suc (d.opened true)
if_grouped false allows_in d = d.opened allows_in

abbrev pub at : ℕ → Bool → Deep → ℕ
at wanted allows_in d = if_grouped (nat_lt d.printed.level wanted || d.printed.is_in && not allows_in) allows_in d

abbrev pub object : Bool → Deep → ℕ
object allows_in d = if_grouped (nat_lt d.printed.level 16 || d.printed.is_number) allows_in d

abbrev pub callee_of_new : Bool → Deep → ℕ
callee_of_new allows_in d = if_grouped (nat_lt d.printed.level 16 || d.printed.calls) allows_in d

abbrev pub value : Deep → ℕ
value d = at 2 true d

abbrev pub element : Option Deep → ℕ
element None = 0
element (Some d) = value d

abbrev pub stepped : Bool → Bool → Deep → ℕ
stepped true allows_in a = at 16 allows_in a
stepped false allows_in a = suc (at 14 allows_in a)

-- ---- statements inside others are open themselves

abbrev pub of_stmts : List ℕ → ℕ
of_stmts ns = highest (map suc ns)

abbrev pub of_else : Option ℕ → ℕ
of_else None = 0
of_else (Some n) = suc n

-- The functions give the tokens of a function by its number, and how many parts are open at once inside it.
module _ (function : Bool → FuncNo → List Piece) (inside : FuncNo → ℕ) where
  -- ---- expressions (11)

  abbrev pub of_layer : ExprForm-F Deep (List Piece × ℕ) Deep → Bool → ℕ
  of_layer ExprForm-F.This allows_in = 0
  of_layer (ExprForm-F.Name text) allows_in = 0
  of_layer (ExprForm-F.Literal v) allows_in = 0
  of_layer (ExprForm-F.ArrayLit items) allows_in = suc (highest (map element items))
  of_layer (ExprForm-F.ObjectLit fields) allows_in = highest (map (λ f. f.1) fields)
  of_layer (ExprForm-F.Func f) allows_in = inside f
  of_layer (ExprForm-F.Member base key) allows_in = object allows_in base
  of_layer (ExprForm-F.Index base key) allows_in = max (at 16 allows_in base) (suc (at 1 true key))
  of_layer (ExprForm-F.Call callee args) allows_in = max (at 16 allows_in callee) (suc (highest (map value args)))
  of_layer (ExprForm-F.New callee args) allows_in = max (callee_of_new allows_in callee) (suc (highest (map value args)))
  of_layer (ExprForm-F.Unary op a) allows_in = suc (at 14 allows_in a)
  of_layer (ExprForm-F.Binary op a b) allows_in = max (at (binary_level op) allows_in a) (at (binary_level op + 1) allows_in b)
  of_layer (ExprForm-F.Logic op a b) allows_in = max (at (logic_level op) allows_in a) (at (logic_level op + 1) allows_in b)
  of_layer (ExprForm-F.Conditional test a b) allows_in = max (max (at 4 allows_in test) (suc (at 2 true a))) (suc (at 2 allows_in b))
  of_layer (ExprForm-F.Assign a op b) allows_in = max (at 16 allows_in a) (suc (at 2 allows_in b))
  of_layer (ExprForm-F.Step op a) allows_in = stepped (is_postfix op) allows_in a
  of_layer (ExprForm-F.Comma a b) allows_in = max (at 1 allows_in a) (at 2 allows_in b)
  of_layer (ExprForm-F.Input kind text) allows_in = 1
  of_layer (ExprForm-F.HostCall kind text args) allows_in = suc (highest (map value args))

  abbrev printed_layer : ExprForm-F Deep (List Piece × ℕ) Deep → ExprForm-F Printed (List Piece) Printed
  printed_layer = map-ExprForm Deep (List Piece × ℕ) Deep Printed (List Piece) Printed (λ d. d.printed) (λ f. f.0) (λ d. d.printed)

  abbrev pub of_form : ExprForm-F Deep (List Piece × ℕ) Deep → Deep
  of_form l = record { printed = text.of_form function (printed_layer l); opened = of_layer l }

  abbrev pub of_field : Field-F Deep (List Piece × ℕ) Deep → List Piece × ℕ
  of_field (Field-F.Value name key x) = (text.of_field function (Field-F.Value name key x.printed), value x)
  of_field (Field-F.Getter name key f) = (text.of_field function (Field-F.Getter name key f), inside f)
  of_field (Field-F.Setter name key f) = (text.of_field function (Field-F.Setter name key f), inside f)

  abbrev pub deep : Expr → Deep
  deep = fold-Expr Deep (List Piece × ℕ) Deep of_form of_field (λ e. e.form)

  -- an expression where one of at least a level is taken
  abbrev pub expr : ℕ → Bool → Expr → ℕ
  expr wanted allows_in x = at wanted allows_in (deep x)

  abbrev pub maybe_expr : ℕ → Bool → Option Expr → ℕ
  maybe_expr wanted allows_in None = 0
  maybe_expr wanted allows_in (Some x) = expr wanted allows_in x

  -- ---- statements (12)

  abbrev pub declarators : Bool → List Declarator → ℕ
  declarators allows_in ds = highest (map (λ (d : Declarator). maybe_expr 2 allows_in d.init) ds)

  abbrev pub for_start : ForStart → ℕ
  for_start start.Nothing = 0
  for_start (start.Expr x) = expr 1 false x
  for_start (start.Var ds) = declarators false ds

  abbrev pub for_target : ForTarget → ℕ
  for_target (target.Expr x) = expr 16 false x
  for_target (target.Var at name) = 0

  abbrev pub of_stmt_form : StmtForm-F ℕ ℕ ℕ ℕ ℕ → ℕ
  of_stmt_form (StmtForm-F.Var ds) = declarators true ds
  of_stmt_form (StmtForm-F.FuncDecl f) = inside f
  of_stmt_form (StmtForm-F.Eval x) = if_grouped (deep x).printed.starts true (deep x)
  of_stmt_form (StmtForm-F.Block body) = of_stmts body
  of_stmt_form StmtForm-F.Empty = 0
  of_stmt_form (StmtForm-F.If test a b) = max (max (suc (expr 1 true test)) (suc a)) (of_else b)
  of_stmt_form (StmtForm-F.DoWhile a test) = max (suc a) (suc (expr 1 true test))
  of_stmt_form (StmtForm-F.While test a) = max (suc (expr 1 true test)) (suc a)
  of_stmt_form (StmtForm-F.For from test step a) =
      max (suc (max (max (for_start from) (maybe_expr 1 true test)) (maybe_expr 1 true step))) (suc a)
  of_stmt_form (StmtForm-F.ForIn to object a) = max (suc (max (for_target to) (expr 1 true object))) (suc a)
  of_stmt_form StmtForm-F.Continue = 0
  of_stmt_form StmtForm-F.Break = 0
  of_stmt_form (StmtForm-F.Return x) = maybe_expr 1 true x
  of_stmt_form (StmtForm-F.Switch x cases) = max (suc (expr 1 true x)) (highest cases)
  of_stmt_form (StmtForm-F.Throw x) = expr 1 true x
  of_stmt_form (StmtForm-F.Try body handler final) = max (max (of_stmts body) (or_zero handler)) (or_zero final)

  abbrev pub of_case : Case-F ℕ ℕ ℕ ℕ ℕ → ℕ
  of_case c = max (maybe_expr 1 true c.test) (of_stmts c.body)

  -- the name stands in parentheses
  abbrev pub of_catch : Catch-F ℕ ℕ ℕ ℕ ℕ → ℕ
  of_catch c = max 1 (of_stmts c.body)

  abbrev pub of_finally : Finally-F ℕ ℕ ℕ ℕ ℕ → ℕ
  of_finally f = of_stmts f.body

  abbrev pub of_stmt : Stmt → ℕ
  of_stmt = fold-Stmt ℕ ℕ ℕ ℕ ℕ of_stmt_form of_case of_catch of_finally (λ t. t.form)

  -- the elements of a script or of a function's body (14)
  abbrev pub of_body : List Stmt → ℕ
  of_body ts = of_stmts (map of_stmt ts)

-- ---- functions by their numbers (13)

-- A function with those inside it to a depth: its parameters in their parentheses, and its body.
unfoldable pub in_function : ℕ → List Func → FuncNo → ℕ
in_function zero funcs f = 0
in_function (suc depth) funcs f = suc (of_body (function_to depth funcs) (in_function depth funcs) (body_of funcs f))
