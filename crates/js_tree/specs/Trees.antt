-- Short ways to write trees, for cases.
use Rattle.std.specs.Prelude.{ℕ, false, List, [], ◌∷◌, Option}
use Rattle.js_value.specs.declared.place.FuncNo.{FuncNo}
use Rattle.js_tree.specs.Refusals.{place}
use Rattle.js_tree.specs.declared.expression.Expr.{Expr}
use Rattle.js_tree.specs.declared.expression.ExprForm.{ExprForm}
use Rattle.js_tree.specs.declared.expression.ExprForm.TheVariants as e
use Rattle.js_tree.specs.declared.statement.Case.{Case, roll-Case}
use Rattle.js_tree.specs.declared.statement.Catch.{Catch, roll-Catch}
use Rattle.js_tree.specs.declared.statement.Declarator.{Declarator}
use Rattle.js_tree.specs.declared.statement.Finally.{Finally, roll-Finally}
use Rattle.js_tree.specs.declared.statement.Func.{Func}
use Rattle.js_tree.specs.declared.statement.Name.{Name}
use Rattle.js_tree.specs.declared.statement.Script.{Script}
use Rattle.js_tree.specs.declared.statement.Stmt.{Stmt}
use Rattle.js_tree.specs.declared.statement.StmtForm.{StmtForm}

abbrev pub expr : ℕ → ExprForm → Expr
expr at form = record { at = place at; form = form }

abbrev pub name : ℕ → List ℕ → Expr
name at text = expr at (e.Name text)

abbrev pub stmt : ℕ → StmtForm → Stmt
stmt at form = record { at = place at; form = form }

abbrev pub no : ℕ → FuncNo
no n = record { 0 = n }

abbrev pub declared : ℕ → List ℕ → Name
declared at text = record { at = place at; text = text }

abbrev pub func : ℕ → Option Name → List Name → List Stmt → Func
func at name params body = record { at = place at; name = name; params = params; directive = false; body = body }

abbrev pub declarator : ℕ → List ℕ → Option Expr → Declarator
declarator at name init = record { at = place at; name = name; init = init }

abbrev pub clause : Option Expr → List Stmt → Case
clause test body = roll-Case (record { test = test; body = body })

abbrev pub handler : ℕ → List ℕ → List Stmt → Catch
handler at name body = roll-Catch (record { at = place at; name = name; body = body })

abbrev pub final : List Stmt → Finally
final body = roll-Finally (record { body = body })

abbrev pub script : List Stmt → List Func → Script
script body funcs = record { directive = false; body = body; funcs = funcs }

abbrev pub one : Stmt → Script
one t = script (t ∷ []) []
