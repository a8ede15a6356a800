-- Trees without their places: two trees are the same but for places where these are equal.
use Rattle.std.specs.Prelude.{map}
use Rattle.std.specs.Option.{option_map}
use Rattle.js_tree.specs.Refusals.{place}
use Rattle.js_tree.specs.declared.expression.Expr.{Expr, fold-Expr}
use Rattle.js_tree.specs.declared.expression.Field.{Field, roll-Field, fold-Field}
use Rattle.js_tree.specs.declared.expression.ExprForm.{ExprForm, roll-ExprForm, fold-ExprForm}
use Rattle.js_tree.specs.declared.expression.ExprForm.TheOpen.{Field-F, Expr-F}
use Rattle.js_tree.specs.declared.statement.Case.{Case, roll-Case}
use Rattle.js_tree.specs.declared.statement.Catch.{Catch, roll-Catch}
use Rattle.js_tree.specs.declared.statement.Declarator.{Declarator}
use Rattle.js_tree.specs.declared.statement.Finally.{Finally, roll-Finally}
use Rattle.js_tree.specs.declared.statement.ForStart.{ForStart}
use Rattle.js_tree.specs.declared.statement.ForStart.TheVariants as start
use Rattle.js_tree.specs.declared.statement.ForTarget.{ForTarget}
use Rattle.js_tree.specs.declared.statement.ForTarget.TheVariants as target
use Rattle.js_tree.specs.declared.statement.Func.{Func}
use Rattle.js_tree.specs.declared.statement.Name.{Name}
use Rattle.js_tree.specs.declared.statement.Script.{Script}
use Rattle.js_tree.specs.declared.statement.Stmt.{Stmt, fold-Stmt}
use Rattle.js_tree.specs.declared.statement.StmtForm.{StmtForm, roll-StmtForm}
use Rattle.js_tree.specs.declared.statement.StmtForm.TheOpen.{StmtForm-F, Catch-F, Stmt-F}

-- ---- expressions (11)

abbrev pub of_field : Field-F ExprForm Field Expr → Field
of_field (Field-F.Value at key x) = roll-Field (Field-F.Value (place 0) key x)
of_field (Field-F.Getter at key f) = roll-Field (Field-F.Getter (place 0) key f)
of_field (Field-F.Setter at key f) = roll-Field (Field-F.Setter (place 0) key f)

abbrev pub of_expr : Expr-F ExprForm Field Expr → Expr
of_expr x = record { at = place 0; form = x.form }

abbrev pub form : ExprForm → ExprForm
form = fold-ExprForm ExprForm Field Expr roll-ExprForm of_field of_expr

abbrev pub field : Field → Field
field = fold-Field ExprForm Field Expr roll-ExprForm of_field of_expr

abbrev pub expr : Expr → Expr
expr = fold-Expr ExprForm Field Expr roll-ExprForm of_field of_expr

-- ---- statements (12)

abbrev pub name : Name → Name
name n = record { at = place 0; text = n.text }

abbrev pub declarator : Declarator → Declarator
declarator d = record { at = place 0; name = d.name; init = option_map expr d.init }

abbrev pub for_start : ForStart → ForStart
for_start start.Nothing = start.Nothing
for_start (start.Expr x) = start.Expr (expr x)
for_start (start.Var ds) = start.Var (map declarator ds)

abbrev pub for_target : ForTarget → ForTarget
for_target (target.Expr x) = target.Expr (expr x)
for_target (target.Var at text) = target.Var (place 0) text

abbrev pub in_stmt_form : StmtForm-F StmtForm Case Catch Finally Stmt → StmtForm-F StmtForm Case Catch Finally Stmt
in_stmt_form (StmtForm-F.Var ds) = StmtForm-F.Var (map declarator ds)
in_stmt_form (StmtForm-F.FuncDecl f) = StmtForm-F.FuncDecl f
in_stmt_form (StmtForm-F.Eval x) = StmtForm-F.Eval (expr x)
in_stmt_form (StmtForm-F.Block body) = StmtForm-F.Block body
in_stmt_form StmtForm-F.Empty = StmtForm-F.Empty
in_stmt_form (StmtForm-F.If test a b) = StmtForm-F.If (expr test) a b
in_stmt_form (StmtForm-F.DoWhile body test) = StmtForm-F.DoWhile body (expr test)
in_stmt_form (StmtForm-F.While test body) = StmtForm-F.While (expr test) body
in_stmt_form (StmtForm-F.For from test step body) = StmtForm-F.For (for_start from) (option_map expr test) (option_map expr step) body
in_stmt_form (StmtForm-F.ForIn to object body) = StmtForm-F.ForIn (for_target to) (expr object) body
in_stmt_form StmtForm-F.Continue = StmtForm-F.Continue
in_stmt_form StmtForm-F.Break = StmtForm-F.Break
in_stmt_form (StmtForm-F.Return x) = StmtForm-F.Return (option_map expr x)
in_stmt_form (StmtForm-F.Switch x cases) = StmtForm-F.Switch (expr x) cases
in_stmt_form (StmtForm-F.Throw x) = StmtForm-F.Throw (expr x)
in_stmt_form (StmtForm-F.Try body handler final) = StmtForm-F.Try body handler final

abbrev pub of_stmt_form : StmtForm-F StmtForm Case Catch Finally Stmt → StmtForm
of_stmt_form f = roll-StmtForm (in_stmt_form f)

abbrev pub of_catch : Catch-F StmtForm Case Catch Finally Stmt → Catch
of_catch c = roll-Catch (record { at = place 0; name = c.name; body = c.body })

abbrev pub of_stmt : Stmt-F StmtForm Case Catch Finally Stmt → Stmt
of_stmt t = record { at = place 0; form = t.form }

abbrev pub stmt : Stmt → Stmt
stmt = fold-Stmt StmtForm Case Catch Finally Stmt of_stmt_form (λ c. roll-Case (record { test = option_map expr c.test; body = c.body })) of_catch (λ f. roll-Finally f) of_stmt

-- ---- functions and scripts (13, 14)

abbrev pub func : Func → Func
func f = record { at = place 0; name = option_map name f.name; params = map name f.params; directive = f.directive; body = map stmt f.body }

abbrev pub script : Script → Script
script s = record { directive = s.directive; body = map stmt s.body; funcs = map func s.funcs }
