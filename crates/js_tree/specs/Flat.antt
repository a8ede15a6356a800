-- Flat scripts: each part of their code runs at most once.
use Rattle.std.specs.Prelude.{ℕ, ◌+◌, ◌&&◌, ◌==◌, Bool, true, false, if◌then◌else◌, List, [], ◌∷◌, Option, Some, None, is_none}
use Rattle.std.specs.List.{list_all}
use Rattle.js_value.specs.declared.place.FuncNo.{FuncNo}
use Rattle.js_tree.specs.declared.expression.Expr.{Expr, fold-Expr}
use Rattle.js_tree.specs.declared.expression.Field.{Field, fold-Field}
use Rattle.js_tree.specs.declared.expression.ExprForm.{ExprForm, fold-ExprForm}
use Rattle.js_tree.specs.declared.expression.ExprForm.TheOpen.{ExprForm-F, Field-F}
use Rattle.js_tree.specs.declared.statement.Declarator.{Declarator}
use Rattle.js_tree.specs.declared.statement.Func.{Func}
use Rattle.js_tree.specs.declared.statement.Script.{Script}
use Rattle.js_tree.specs.declared.statement.Stmt.{Stmt, fold-Stmt}
use Rattle.js_tree.specs.declared.statement.Case.{Case, fold-Case}
use Rattle.js_tree.specs.declared.statement.StmtForm.{StmtForm, fold-StmtForm}
use Rattle.js_tree.specs.declared.statement.StmtForm.TheOpen.{StmtForm-F, Case-F}

abbrev pub all : List Bool → Bool
all bs = list_all (λ b. b) bs

abbrev pub or_true : Option Bool → Bool
or_true None = true
or_true (Some b) = b

-- An expression is flat or not. A function expression without a name is callable in place where its body is flat.
pub record Flatness : Type 0 where
  pub flat : Bool
  pub callable : Bool

abbrev pub plain : Bool → Flatness
plain b = record { flat = b; callable = false }

abbrev pub all_flat : List Flatness → Bool
all_flat xs = list_all (λ (x : Flatness). x.flat) xs

abbrev pub maybe_flat : Option Flatness → Bool
maybe_flat None = true
maybe_flat (Some x) = x.flat

module _ (callable : FuncNo → Bool) where
  -- no call but of a function called in place, no `new`, no accessor in an initialiser; the two forms are no calls
  abbrev pub of_form : ExprForm-F Flatness Bool Flatness → Flatness
  of_form ExprForm-F.This = plain true
  of_form (ExprForm-F.Name text) = plain true
  of_form (ExprForm-F.Literal value) = plain true
  of_form (ExprForm-F.ArrayLit items) = plain (list_all maybe_flat items)
  of_form (ExprForm-F.ObjectLit fields) = plain (all fields)
  of_form (ExprForm-F.Func f) = record { flat = true; callable = callable f }
  of_form (ExprForm-F.Member object key) = plain object.flat
  of_form (ExprForm-F.Index object key) = plain (object.flat && key.flat)
  of_form (ExprForm-F.Call callee args) = plain (callee.callable && all_flat args)
  of_form (ExprForm-F.New callee args) = plain false
  of_form (ExprForm-F.Unary op a) = plain a.flat
  of_form (ExprForm-F.Binary op a b) = plain (a.flat && b.flat)
  of_form (ExprForm-F.Logic op a b) = plain (a.flat && b.flat)
  of_form (ExprForm-F.Conditional test a b) = plain (test.flat && a.flat && b.flat)
  of_form (ExprForm-F.Assign a op b) = plain (a.flat && b.flat)
  of_form (ExprForm-F.Step op a) = plain a.flat
  of_form (ExprForm-F.Comma a b) = plain (a.flat && b.flat)
  of_form (ExprForm-F.Input kind text) = plain true
  of_form (ExprForm-F.HostCall kind text args) = plain (all_flat args)

  abbrev pub of_field : Field-F Flatness Bool Flatness → Bool
  of_field (Field-F.Value at key e) = e.flat
  of_field _ = false

  abbrev pub in_form : ExprForm → Flatness
  in_form = fold-ExprForm Flatness Bool Flatness of_form of_field (λ e. e.form)

  abbrev pub in_field : Field → Bool
  in_field = fold-Field Flatness Bool Flatness of_form of_field (λ e. e.form)

  abbrev pub in_expr : Expr → Flatness
  in_expr = fold-Expr Flatness Bool Flatness of_form of_field (λ e. e.form)

  abbrev pub expr_flat : Expr → Bool
  expr_flat e = (in_expr e).flat

  abbrev pub maybe_expr_flat : Option Expr → Bool
  maybe_expr_flat None = true
  maybe_expr_flat (Some e) = expr_flat e

  abbrev pub declarators_flat : List Declarator → Bool
  declarators_flat ds = list_all (λ (d : Declarator). maybe_expr_flat d.init) ds

  -- no loop, no `throw`, no `try`
  abbrev pub of_stmt_form : StmtForm-F Bool Bool Bool Bool Bool → Bool
  of_stmt_form (StmtForm-F.Var ds) = declarators_flat ds
  of_stmt_form (StmtForm-F.FuncDecl f) = true
  of_stmt_form (StmtForm-F.Eval e) = expr_flat e
  of_stmt_form (StmtForm-F.Block body) = all body
  of_stmt_form StmtForm-F.Empty = true
  of_stmt_form (StmtForm-F.If test a b) = expr_flat test && a && or_true b
  of_stmt_form StmtForm-F.Continue = true
  of_stmt_form StmtForm-F.Break = true
  of_stmt_form (StmtForm-F.Return e) = maybe_expr_flat e
  of_stmt_form (StmtForm-F.Switch e cases) = expr_flat e && all cases
  of_stmt_form _ = false

  abbrev pub of_case : Case-F Bool Bool Bool Bool Bool → Bool
  of_case c = maybe_expr_flat c.test && all c.body

  abbrev pub stmt_form_flat : StmtForm → Bool
  stmt_form_flat = fold-StmtForm Bool Bool Bool Bool Bool of_stmt_form of_case (λ c. all c.body) (λ f. all f.body) (λ s. s.form)

  abbrev pub stmt_flat : Stmt → Bool
  stmt_flat = fold-Stmt Bool Bool Bool Bool Bool of_stmt_form of_case (λ c. all c.body) (λ f. all f.body) (λ s. s.form)

  abbrev pub case_flat : Case → Bool
  case_flat = fold-Case Bool Bool Bool Bool Bool of_stmt_form of_case (λ c. all c.body) (λ f. all f.body) (λ s. s.form)

  abbrev pub body_flat : List Stmt → Bool
  body_flat body = list_all stmt_flat body

-- Whether a function has no name and a flat body. The first of the list has number n, and inner functions come behind.
abbrev pub callable_from : ℕ → List Func → FuncNo → Bool
callable_from n [] f = false
callable_from n (g ∷ gs) f =
    if f.0 == n then is_none g.name && body_flat (callable_from (n + 1) gs) g.body
    else callable_from (n + 1) gs f

-- The flat part of a script is its global code and the bodies of the functions called in place in the flat part.
unfoldable pub is_flat : Script → Bool
is_flat s = body_flat (callable_from 0 s.funcs) s.body
