-- How many objects the body of a wrapper makes.
use Rattle.std.specs.Prelude.{ℕ, ◌+◌, Bool, false, if◌then◌else◌, List, [], ◌∷◌, map, sum, Option, Some, None}
use Rattle.js_tree.specs.declared.expression.Expr.{Expr, fold-Expr}
use Rattle.js_tree.specs.declared.expression.Field.{Field, fold-Field}
use Rattle.js_tree.specs.declared.expression.ExprForm.{ExprForm, fold-ExprForm}
use Rattle.js_tree.specs.declared.expression.ExprForm.TheOpen.{ExprForm-F, Field-F}
use Rattle.js_tree.specs.declared.statement.Func.{Func}
use Rattle.js_tree.specs.declared.statement.Script.{Script}
use Rattle.js_tree.specs.declared.statement.Stmt.{Stmt, fold-Stmt}
use Rattle.js_tree.specs.declared.statement.StmtForm.{StmtForm, fold-StmtForm}
use Rattle.js_tree.specs.declared.statement.StmtForm.TheOpen.{StmtForm-F}
use Rattle.js_tree.specs.Count.{or_zero}
use Rattle.residual_form.specs.declared.paths.TheConstants.{CREATE}
use Rattle.residual_form.specs.Bodies.{Body, is_bound}
use Rattle.residual_form.specs.Form.{is_residual, body_of}

-- How many objects an expression makes, and whether it is a temporary bound to `Object.create`.
pub record Made : Type 0 where
  pub count : ℕ
  pub creator : Bool

abbrev pub so_many : ℕ → Made
so_many n = record { count = n; creator = false }

abbrev pub by_call : Made → ℕ
by_call callee = if callee.creator then 1 else 0

abbrev pub in_item : Option Made → ℕ
in_item None = 0
in_item (Some m) = m.count

module _ (b : Body) where
  -- each array literal, object literal, function expression and call of `Object.create` makes one; the forms that no wrapper's
  -- body has make none
  abbrev pub of_form : ExprForm-F Made ℕ Made → Made
  of_form (ExprForm-F.Name name) = record { count = 0; creator = is_bound b (map (λ n. n.now) CREATE) name }
  of_form (ExprForm-F.ArrayLit items) = so_many (sum (map in_item items) + 1)
  of_form (ExprForm-F.ObjectLit fields) = so_many (sum fields + 1)
  of_form (ExprForm-F.Func f) = so_many 1
  of_form (ExprForm-F.Call callee args) = so_many (by_call callee)
  of_form (ExprForm-F.Conditional test x y) = so_many (x.count + y.count)
  of_form (ExprForm-F.Assign target op value) = so_many value.count
  of_form _ = so_many 0

  abbrev pub of_field : Field-F Made ℕ Made → ℕ
  of_field (Field-F.Value at key e) = e.count
  of_field _ = 0

  abbrev pub in_form : ExprForm → Made
  in_form = fold-ExprForm Made ℕ Made of_form of_field (λ e. e.form)

  abbrev pub in_field : Field → ℕ
  in_field = fold-Field Made ℕ Made of_form of_field (λ e. e.form)

  abbrev pub in_expr : Expr → Made
  in_expr = fold-Expr Made ℕ Made of_form of_field (λ e. e.form)

  abbrev pub made : Expr → ℕ
  made e = (in_expr e).count

  abbrev pub maybe_made : Option Expr → ℕ
  maybe_made None = 0
  maybe_made (Some e) = made e

  abbrev pub in_items : List (Option Expr) → ℕ
  in_items es = sum (map maybe_made es)

  abbrev pub in_fields : List Field → ℕ
  in_fields fs = sum (map in_field fs)

  abbrev pub of_stmt_form : StmtForm-F ℕ ℕ ℕ ℕ ℕ → ℕ
  of_stmt_form (StmtForm-F.Eval e) = made e
  of_stmt_form (StmtForm-F.Block body) = sum body
  of_stmt_form (StmtForm-F.If test a other) = a + or_zero other
  of_stmt_form _ = 0

  abbrev pub in_stmt_form : StmtForm → ℕ
  in_stmt_form = fold-StmtForm ℕ ℕ ℕ ℕ ℕ of_stmt_form (λ c. 0) (λ c. 0) (λ f. 0) (λ s. s.form)

  abbrev pub in_stmt : Stmt → ℕ
  in_stmt = fold-Stmt ℕ ℕ ℕ ℕ ℕ of_stmt_form (λ c. 0) (λ c. 0) (λ f. 0) (λ s. s.form)

  abbrev pub in_stmts : List Stmt → ℕ
  in_stmts ss = sum (map in_stmt ss)

abbrev pub in_body : Body → ℕ
in_body b = in_stmts b b.statements

abbrev pub of_functions : List Func → ℕ
of_functions [] = 0
of_functions (f ∷ inner) = in_body (body_of inner f.body)

-- a script without a wrapper, or not in residual form, has none
unfoldable pub creations : Script → ℕ
creations s = if is_residual s then of_functions s.funcs else 0
