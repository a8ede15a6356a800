-- How high a tree is: a leaf has height 1, every other statement or expression one more than its highest part.
use Rattle.std.specs.Prelude.{ℕ, zero, suc, Bool, true, false, ◌&&◌, List, [], slice_get, Option, Some, None}
use Rattle.std.specs.List.{list_all}
use Rattle.js_value.specs.declared.place.FuncNo.{FuncNo}
use Rattle.js_tree.specs.declared.expression.Expr.{Expr}
use Rattle.js_tree.specs.declared.expression.Field.{Field, out-Field}
use Rattle.js_tree.specs.declared.expression.ExprForm.{ExprForm, out-ExprForm}
use Rattle.js_tree.specs.declared.expression.ExprForm.TheOpen.{ExprForm-F, Field-F}
use Rattle.js_tree.specs.declared.statement.Case.{Case, out-Case}
use Rattle.js_tree.specs.declared.statement.Catch.{Catch, out-Catch}
use Rattle.js_tree.specs.declared.statement.Declarator.{Declarator}
use Rattle.js_tree.specs.declared.statement.Finally.{Finally, out-Finally}
use Rattle.js_tree.specs.declared.statement.ForStart.{ForStart}
use Rattle.js_tree.specs.declared.statement.ForStart.TheVariants as start
use Rattle.js_tree.specs.declared.statement.ForTarget.{ForTarget}
use Rattle.js_tree.specs.declared.statement.ForTarget.TheVariants as target
use Rattle.js_tree.specs.declared.statement.Func.{Func}
use Rattle.js_tree.specs.declared.statement.Stmt.{Stmt}
use Rattle.js_tree.specs.declared.statement.StmtForm.{StmtForm, out-StmtForm}
use Rattle.js_tree.specs.declared.statement.StmtForm.TheOpen.{StmtForm-F}

abbrev pub or_true : {A : Type 0} → (A → Bool) → Option A → Bool
or_true holds None = true
or_true holds (Some a) = holds a

-- ---- the parts of an expression are low enough: other expressions, and the statements of functions

module _ (fits : Expr → Bool) (inside : FuncNo → Bool) where
  -- properties and the functions of accessors have no height of their own
  abbrev pub field_fits : Field-F ExprForm Field Expr → Bool
  field_fits (Field-F.Value at key x) = fits x
  field_fits (Field-F.Getter at key f) = inside f
  field_fits (Field-F.Setter at key f) = inside f

  abbrev pub parts_fit : ExprForm-F ExprForm Field Expr → Bool
  parts_fit ExprForm-F.This = true
  parts_fit (ExprForm-F.Name text) = true
  parts_fit (ExprForm-F.Literal value) = true
  parts_fit (ExprForm-F.ArrayLit items) = list_all (or_true fits) items
  parts_fit (ExprForm-F.ObjectLit fields) = list_all (λ f. field_fits (out-Field f)) fields
  parts_fit (ExprForm-F.Func f) = inside f
  parts_fit (ExprForm-F.Member object key) = fits object
  parts_fit (ExprForm-F.Index object key) = fits object && fits key
  parts_fit (ExprForm-F.Call callee args) = fits callee && list_all fits args
  parts_fit (ExprForm-F.New callee args) = fits callee && list_all fits args
  parts_fit (ExprForm-F.Unary op a) = fits a
  parts_fit (ExprForm-F.Binary op a b) = fits a && fits b
  parts_fit (ExprForm-F.Logic op a b) = fits a && fits b
  parts_fit (ExprForm-F.Conditional test a b) = fits test && fits a && fits b
  parts_fit (ExprForm-F.Assign a op b) = fits a && fits b
  parts_fit (ExprForm-F.Step op a) = fits a
  parts_fit (ExprForm-F.Comma a b) = fits a && fits b
  parts_fit (ExprForm-F.Input kind text) = true
  parts_fit (ExprForm-F.HostCall kind text args) = list_all fits args

-- ---- the parts of a statement are low enough: declarators and clauses have no height of their own

module _ (fits : Expr → Bool) (holds : Stmt → Bool) (inside : FuncNo → Bool) where
  abbrev pub declarators_fit : List Declarator → Bool
  declarators_fit ds = list_all (λ (d : Declarator). or_true fits d.init) ds

  abbrev pub start_fits : ForStart → Bool
  start_fits start.Nothing = true
  start_fits (start.Expr x) = fits x
  start_fits (start.Var ds) = declarators_fit ds

  abbrev pub target_fits : ForTarget → Bool
  target_fits (target.Expr x) = fits x
  target_fits (target.Var at name) = true

  abbrev pub case_fits : Case → Bool
  case_fits c = or_true fits (out-Case c).test && list_all holds (out-Case c).body

  abbrev pub stmt_parts_fit : StmtForm-F StmtForm Case Catch Finally Stmt → Bool
  stmt_parts_fit (StmtForm-F.Var ds) = declarators_fit ds
  stmt_parts_fit (StmtForm-F.FuncDecl f) = inside f
  stmt_parts_fit (StmtForm-F.Eval x) = fits x
  stmt_parts_fit (StmtForm-F.Block body) = list_all holds body
  stmt_parts_fit StmtForm-F.Empty = true
  stmt_parts_fit (StmtForm-F.If test a b) = fits test && holds a && or_true holds b
  stmt_parts_fit (StmtForm-F.DoWhile body test) = holds body && fits test
  stmt_parts_fit (StmtForm-F.While test body) = fits test && holds body
  stmt_parts_fit (StmtForm-F.For from test step body) = start_fits from && or_true fits test && or_true fits step && holds body
  stmt_parts_fit (StmtForm-F.ForIn to object body) = target_fits to && fits object && holds body
  stmt_parts_fit StmtForm-F.Continue = true
  stmt_parts_fit StmtForm-F.Break = true
  stmt_parts_fit (StmtForm-F.Return x) = or_true fits x
  stmt_parts_fit (StmtForm-F.Switch x cases) = fits x && list_all case_fits cases
  stmt_parts_fit (StmtForm-F.Throw x) = fits x
  stmt_parts_fit (StmtForm-F.Try body handler final) =
      list_all holds body && or_true (λ (c : Catch). list_all holds (out-Catch c).body) handler
      && or_true (λ (f : Finally). list_all holds (out-Finally f).body) final

-- ---- trees that are no higher than a number, where their functions are these

abbrev pub body_of : List Func → FuncNo → List Stmt
body_of functions f = elim (slice_get functions f.0) [ None ↦ [] | Some g ↦ g.body ]

abbrev mutual
  pub is_within : List Func → ℕ → Expr → Bool
  is_within functions zero x = false
  is_within functions (suc n) x =
      parts_fit (is_within functions n) (λ f. list_all (is_stmt_within functions n) (body_of functions f))
      (out-ExprForm x.form)

  pub is_stmt_within : List Func → ℕ → Stmt → Bool
  is_stmt_within functions zero t = false
  is_stmt_within functions (suc n) t =
      stmt_parts_fit (is_within functions n) (is_stmt_within functions n)
      (λ f. list_all (is_stmt_within functions n) (body_of functions f)) (out-StmtForm t.form)
