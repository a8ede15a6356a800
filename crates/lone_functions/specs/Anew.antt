-- Code copied for a script in which the function with the number `first` comes first: every place is 0.
use Rattle.std.specs.Prelude.{ℕ, ◌-◌, map, None}
use Rattle.std.specs.Option.{option_map}
use Rattle.js_value.specs.declared.place.FuncNo.{FuncNo}
use Rattle.js_tree.specs.Refusals.{place}
use Rattle.js_tree.specs.declared.expression.Expr.{Expr, fold-Expr}
use Rattle.js_tree.specs.declared.expression.Field.{Field, roll-Field, fold-Field}
use Rattle.js_tree.specs.declared.expression.ExprForm.{ExprForm, roll-ExprForm, fold-ExprForm}
use Rattle.js_tree.specs.declared.expression.ExprForm.TheOpen.{ExprForm-F, Field-F, Expr-F}
use Rattle.js_tree.specs.declared.statement.Case.{Case, roll-Case, fold-Case}
use Rattle.js_tree.specs.declared.statement.Catch.{Catch, roll-Catch, fold-Catch}
use Rattle.js_tree.specs.declared.statement.Declarator.{Declarator}
use Rattle.js_tree.specs.declared.statement.Finally.{Finally, roll-Finally, fold-Finally}
use Rattle.js_tree.specs.declared.statement.ForStart.{ForStart}
use Rattle.js_tree.specs.declared.statement.ForStart.TheVariants as start
use Rattle.js_tree.specs.declared.statement.ForTarget.{ForTarget}
use Rattle.js_tree.specs.declared.statement.ForTarget.TheVariants as target
use Rattle.js_tree.specs.declared.statement.Func.{Func}
use Rattle.js_tree.specs.declared.statement.Name.{Name}
use Rattle.js_tree.specs.declared.statement.Stmt.{Stmt, fold-Stmt}
use Rattle.js_tree.specs.declared.statement.StmtForm.{StmtForm, roll-StmtForm, fold-StmtForm}
use Rattle.js_tree.specs.declared.statement.StmtForm.TheOpen.{StmtForm-F, Case-F, Catch-F, Finally-F, Stmt-F}

module _ (first : ℕ) where
  abbrev pub number : FuncNo → FuncNo
  number f = record { 0 = f.0 - first }

  -- ---- expressions (11)

  abbrev pub of_form : ExprForm-F ExprForm Field Expr → ExprForm
  of_form (ExprForm-F.Func f) = roll-ExprForm (ExprForm-F.Func (number f))
  of_form layer = roll-ExprForm layer

  abbrev pub of_field : Field-F ExprForm Field Expr → Field
  of_field (Field-F.Value at key x) = roll-Field (Field-F.Value (place 0) key x)
  of_field (Field-F.Getter at key f) = roll-Field (Field-F.Getter (place 0) key (number f))
  of_field (Field-F.Setter at key f) = roll-Field (Field-F.Setter (place 0) key (number f))

  abbrev pub of_expr : Expr-F ExprForm Field Expr → Expr
  of_expr x = record { at = place 0; form = x.form }

  abbrev pub form : ExprForm → ExprForm
  form = fold-ExprForm ExprForm Field Expr of_form of_field of_expr

  abbrev pub field : Field → Field
  field = fold-Field ExprForm Field Expr of_form of_field of_expr

  abbrev pub expr : Expr → Expr
  expr = fold-Expr ExprForm Field Expr of_form of_field of_expr

  -- ---- statements (12)

  abbrev pub declarator : Declarator → Declarator
  declarator d = record { at = place 0; name = d.name; init = option_map expr d.init }

  abbrev pub for_start : ForStart → ForStart
  for_start start.Nothing = start.Nothing
  for_start (start.Expr x) = start.Expr (expr x)
  for_start (start.Var ds) = start.Var (map declarator ds)

  abbrev pub for_target : ForTarget → ForTarget
  for_target (target.Expr x) = target.Expr (expr x)
  for_target (target.Var at text) = target.Var (place 0) text

  abbrev pub of_stmt_form : StmtForm-F StmtForm Case Catch Finally Stmt → StmtForm
  of_stmt_form (StmtForm-F.Var ds) = roll-StmtForm (StmtForm-F.Var (map declarator ds))
  of_stmt_form (StmtForm-F.FuncDecl f) = roll-StmtForm (StmtForm-F.FuncDecl (number f))
  of_stmt_form (StmtForm-F.Eval x) = roll-StmtForm (StmtForm-F.Eval (expr x))
  of_stmt_form (StmtForm-F.If test a b) = roll-StmtForm (StmtForm-F.If (expr test) a b)
  of_stmt_form (StmtForm-F.DoWhile body test) = roll-StmtForm (StmtForm-F.DoWhile body (expr test))
  of_stmt_form (StmtForm-F.While test body) = roll-StmtForm (StmtForm-F.While (expr test) body)
  of_stmt_form (StmtForm-F.For from test step body) = roll-StmtForm (StmtForm-F.For (for_start from) (option_map expr test) (option_map expr step) body)
  of_stmt_form (StmtForm-F.ForIn to object body) = roll-StmtForm (StmtForm-F.ForIn (for_target to) (expr object) body)
  of_stmt_form (StmtForm-F.Return x) = roll-StmtForm (StmtForm-F.Return (option_map expr x))
  of_stmt_form (StmtForm-F.Switch x cases) = roll-StmtForm (StmtForm-F.Switch (expr x) cases)
  of_stmt_form (StmtForm-F.Throw x) = roll-StmtForm (StmtForm-F.Throw (expr x))
  of_stmt_form layer = roll-StmtForm layer

  abbrev pub of_case : Case-F StmtForm Case Catch Finally Stmt → Case
  of_case c = roll-Case (record { test = option_map expr c.test; body = c.body })

  abbrev pub of_catch : Catch-F StmtForm Case Catch Finally Stmt → Catch
  of_catch c = roll-Catch (record { at = place 0; name = c.name; body = c.body })

  abbrev pub of_finally : Finally-F StmtForm Case Catch Finally Stmt → Finally
  of_finally f = roll-Finally f

  abbrev pub of_stmt : Stmt-F StmtForm Case Catch Finally Stmt → Stmt
  of_stmt t = record { at = place 0; form = t.form }

  abbrev pub stmt_form : StmtForm → StmtForm
  stmt_form = fold-StmtForm StmtForm Case Catch Finally Stmt of_stmt_form of_case of_catch of_finally of_stmt

  abbrev pub stmt : Stmt → Stmt
  stmt = fold-Stmt StmtForm Case Catch Finally Stmt of_stmt_form of_case of_catch of_finally of_stmt

  abbrev pub case : Case → Case
  case = fold-Case StmtForm Case Catch Finally Stmt of_stmt_form of_case of_catch of_finally of_stmt

  abbrev pub catch : Catch → Catch
  catch = fold-Catch StmtForm Case Catch Finally Stmt of_stmt_form of_case of_catch of_finally of_stmt

  abbrev pub final : Finally → Finally
  final = fold-Finally StmtForm Case Catch Finally Stmt of_stmt_form of_case of_catch of_finally of_stmt

  -- ---- functions (13)

  abbrev pub name : Name → Name
  name n = record { at = place 0; text = n.text }

  abbrev pub func : Func → Func
  func f = record { at = place 0; name = option_map name f.name; params = map name f.params; directive = f.directive; body = map stmt f.body }

  abbrev pub nameless : Func → Func
  nameless f = record { at = place 0; name = None; params = map name f.params; directive = f.directive; body = map stmt f.body }
