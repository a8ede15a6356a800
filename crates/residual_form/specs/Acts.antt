-- What the statements of a wrapper's body do with a temporary. The insides of function expressions are left out.
use Rattle.std.specs.Prelude.{ℕ, ◌+◌, ◌&&◌, ◌||◌, ◌==◌, Bool, true, false, not, if◌then◌else◌, List, map, sum}
use Rattle.std.specs.Str.{bytes_eq}
use Rattle.js_tree.specs.declared.expression.Expr.{Expr}
use Rattle.js_tree.specs.declared.expression.ExprForm.{out-ExprForm}
use Rattle.js_tree.specs.declared.expression.ExprForm.TheOpen.{ExprForm-F}
use Rattle.js_tree.specs.declared.statement.Stmt.{Stmt, fold-Stmt}
use Rattle.js_tree.specs.declared.statement.StmtForm.{StmtForm, fold-StmtForm}
use Rattle.js_tree.specs.declared.statement.StmtForm.TheOpen.{StmtForm-F}
use Rattle.js_tree.specs.Count.{or_zero}
use Rattle.residual_form.specs.declared.act.Act.{Act}
use Rattle.residual_form.specs.declared.act.Act.TheVariants as act
use Rattle.residual_form.specs.Names.{mentions}
use Rattle.residual_form.specs.Paths.{Form}

abbrev pub is_name : List ℕ → Form → Bool
is_name name (ExprForm-F.Name text) = bytes_eq text name
is_name name _ = false

-- the expression is this name
abbrev pub names : List ℕ → Expr → Bool
names name e = is_name name (out-ExprForm e.form)

abbrev pub is_host_call : Form → Bool
is_host_call (ExprForm-F.HostCall kind text args) = true
is_host_call _ = false

-- An assignment assigns its target where that is a name, and reads all its other parts.
abbrev pub assigns : Act → List ℕ → Expr → Expr → Bool
assigns act.Reads name target value = (not (names name target) && mentions name target) || mentions name value
assigns act.Assigns name target value = names name target
assigns act.TakesAnswer name target value = names name target && is_host_call (out-ExprForm value.form)

abbrev pub reads : Act → List ℕ → Expr → Bool
reads act.Reads name e = mentions name e
reads _ name e = false

abbrev pub does_form : Act → List ℕ → Expr → Form → Bool
does_form a name e (ExprForm-F.Assign target op value) = assigns a name target value
does_form a name e _ = reads a name e

abbrev pub does : Act → List ℕ → Expr → Bool
does a name e = does_form a name e (out-ExprForm e.form)

module _ (a : Act) (name : List ℕ) where
  abbrev pub in_expr : Expr → ℕ
  in_expr e = if does a name e then 1 else 0

  abbrev pub of_stmt_form : StmtForm-F ℕ ℕ ℕ ℕ ℕ → ℕ
  of_stmt_form (StmtForm-F.Eval e) = in_expr e
  of_stmt_form (StmtForm-F.Throw e) = in_expr e
  of_stmt_form (StmtForm-F.Block body) = sum body
  of_stmt_form (StmtForm-F.If test a b) = in_expr test + a + or_zero b
  of_stmt_form _ = 0

  abbrev pub in_stmt_form : StmtForm → ℕ
  in_stmt_form = fold-StmtForm ℕ ℕ ℕ ℕ ℕ of_stmt_form (λ c. 0) (λ c. 0) (λ f. 0) (λ s. s.form)

  abbrev pub in_stmt : Stmt → ℕ
  in_stmt = fold-Stmt ℕ ℕ ℕ ℕ ℕ of_stmt_form (λ c. 0) (λ c. 0) (λ f. 0) (λ s. s.form)

  abbrev pub in_stmts : List Stmt → ℕ
  in_stmts ss = sum (map in_stmt ss)

  abbrev pub is_done : List Stmt → Bool
  is_done ss = not (in_stmts ss == 0)

abbrev pub is_assigned_once : List ℕ → List Stmt → Bool
is_assigned_once name ss = in_stmts act.Assigns name ss == 1
