-- Code whose functions have other numbers.
use Rattle.std.specs.Prelude.{ℕ, ◌+◌, ◌++◌, List, map, length}
use Rattle.std.specs.Option.{option_map}
use Rattle.js_value.specs.declared.place.FuncNo.{FuncNo}
use Rattle.js_tree.specs.declared.expression.Expr.{Expr, fold-Expr}
use Rattle.js_tree.specs.declared.expression.Field.{Field, roll-Field}
use Rattle.js_tree.specs.declared.expression.ExprForm.{ExprForm, roll-ExprForm}
use Rattle.js_tree.specs.declared.expression.ExprForm.TheOpen.{ExprForm-F, Field-F, Expr-F}
use Rattle.js_tree.specs.declared.statement.Case.{Case, roll-Case}
use Rattle.js_tree.specs.declared.statement.Catch.{Catch, roll-Catch}
use Rattle.js_tree.specs.declared.statement.Declarator.{Declarator}
use Rattle.js_tree.specs.declared.statement.Finally.{Finally, roll-Finally}
use Rattle.js_tree.specs.declared.statement.ForStart.{ForStart}
use Rattle.js_tree.specs.declared.statement.ForStart.TheVariants as start
use Rattle.js_tree.specs.declared.statement.ForTarget.{ForTarget}
use Rattle.js_tree.specs.declared.statement.ForTarget.TheVariants as target
use Rattle.js_tree.specs.declared.statement.Func.{Func}
use Rattle.js_tree.specs.declared.statement.Script.{Script}
use Rattle.js_tree.specs.declared.statement.Stmt.{Stmt, fold-Stmt}
use Rattle.js_tree.specs.declared.statement.StmtForm.{StmtForm, roll-StmtForm}
use Rattle.js_tree.specs.declared.statement.StmtForm.TheOpen.{StmtForm-F, Case-F, Catch-F, Finally-F, Stmt-F}

module _ (number : FuncNo → FuncNo) where
  -- ---- expressions (11)

  abbrev pub of_form : ExprForm-F ExprForm Field Expr → ExprForm
  of_form (ExprForm-F.Func f) = roll-ExprForm (ExprForm-F.Func (number f))
  of_form layer = roll-ExprForm layer

  abbrev pub of_field : Field-F ExprForm Field Expr → Field
  of_field (Field-F.Getter at key f) = roll-Field (Field-F.Getter at key (number f))
  of_field (Field-F.Setter at key f) = roll-Field (Field-F.Setter at key (number f))
  of_field layer = roll-Field layer

  abbrev pub expr : Expr → Expr
  expr = fold-Expr ExprForm Field Expr of_form of_field (λ x. record { at = x.at; form = x.form })

  -- ---- statements (12)

  abbrev pub declarator : Declarator → Declarator
  declarator d = record d { init = option_map expr d.init }

  abbrev pub for_start : ForStart → ForStart
  for_start start.Nothing = start.Nothing
  for_start (start.Expr x) = start.Expr (expr x)
  for_start (start.Var ds) = start.Var (map declarator ds)

  abbrev pub for_target : ForTarget → ForTarget
  for_target (target.Expr x) = target.Expr (expr x)
  for_target (target.Var at text) = target.Var at text

  abbrev pub of_stmt_form : StmtForm-F StmtForm Case Catch Finally Stmt → StmtForm
  of_stmt_form (StmtForm-F.Var ds) = roll-StmtForm (StmtForm-F.Var (map declarator ds))
  of_stmt_form (StmtForm-F.FuncDecl f) = roll-StmtForm (StmtForm-F.FuncDecl (number f))
  of_stmt_form (StmtForm-F.Eval x) = roll-StmtForm (StmtForm-F.Eval (expr x))
  of_stmt_form (StmtForm-F.If test a b) = roll-StmtForm (StmtForm-F.If (expr test) a b)
  of_stmt_form (StmtForm-F.DoWhile body test) = roll-StmtForm (StmtForm-F.DoWhile body (expr test))
  of_stmt_form (StmtForm-F.While test body) = roll-StmtForm (StmtForm-F.While (expr test) body)
  of_stmt_form (StmtForm-F.For from test step body) = roll-StmtForm (StmtForm-F.For (for_start from) (option_map expr test) (option_map expr step) body)
  of_stmt_form (StmtForm-F.ForIn to object body) = roll-StmtForm (StmtForm-F.ForIn (for_target to) (expr object) body)
  of_stmt_form (StmtForm-F.Return x) = roll-StmtForm (StmtForm-F.Return (option_map expr x))
  of_stmt_form (StmtForm-F.Switch x cases) = roll-StmtForm (StmtForm-F.Switch (expr x) cases)
  of_stmt_form (StmtForm-F.Throw x) = roll-StmtForm (StmtForm-F.Throw (expr x))
  of_stmt_form layer = roll-StmtForm layer

  abbrev pub stmt : Stmt → Stmt
  stmt =
      fold-Stmt StmtForm Case Catch Finally Stmt of_stmt_form (λ c. roll-Case (record { test = option_map expr c.test; body = c.body }))
      (λ c. roll-Catch (record { at = c.at; name = c.name; body = c.body })) (λ f. roll-Finally (record { body = f.body })) (λ t. record { at = t.at; form = t.form })

  -- ---- functions (13)

  abbrev pub func : Func → Func
  func f = record f { body = map stmt f.body }

-- a script whose own functions are numbered behind these
abbrev pub script_behind : List Func → Script → Script
script_behind functions s =
    let number : FuncNo → FuncNo = λ f. record { 0 = length functions + f.0 } in
    record s { body = map (stmt number) s.body; funcs = functions ++ map (func number) s.funcs }
