-- What folds give at the operators of sums, and at a `var` statement.
use Rattle.std.proofs.Common.{◌≡◌, ℕ, ◌+◌, List, ap, ◌∙◌}
use Rattle.js_value.specs.declared.place.Place.{Place}
use Rattle.js_value.specs.declared.operator.BinaryOp.{BinaryOp}
use Rattle.js_value.specs.declared.operator.UnaryOp.{UnaryOp}
use Rattle.js_tree.specs.declared.expression.Expr.{Expr}
use Rattle.js_tree.specs.declared.expression.ExprForm.{ExprForm}
use Rattle.js_tree.specs.declared.expression.ExprForm.TheOpen.{ExprForm-F, Expr-F, Field-F}
use Rattle.js_tree.specs.declared.expression.ExprForm.TheFolds.{fold-ExprForm, fold-Expr}
use Rattle.js_tree.specs.declared.expression.ExprForm.TheVariants as form
use Rattle.js_tree.specs.Count.{of_stmt_form, of_case, of_catch, of_finally, of_stmt, in_stmt, in_declarators}
use Rattle.js_tree.specs.declared.statement.Declarator.{Declarator}
use Rattle.js_tree.specs.declared.statement.Stmt.{fold-Stmt}
use Rattle.js_tree.specs.declared.statement.StmtForm.TheOpen.{StmtForm-F, Case-F, Catch-F, Finally-F, Stmt-F}
use Rattle.js_tree.specs.declared.statement.StmtForm.TheFolds.{fold_out-StmtForm, fold_out-Stmt}
use Rattle.js_tree.specs.declared.statement.StmtForm.TheVariants.{Var, outs-Var}
use Rattle.js_tree.proofs.Folds.{fold-of_expr, fold-Unary, fold-Binary}
use Rattle.simple_scripts.specs.Simple.{expr}

module _ (A B C : Type 0) (on_form : ExprForm-F A B C → A) (on_field : Field-F A B C → B) (on_expr : Expr-F A B C → C) where
  abbrev in_expr : Expr → C
  in_expr = fold-Expr A B C on_form on_field on_expr

  -- an expression by what the fold gives for its form
  by_form : (at : Place) (f : ExprForm) (a : A) → fold-ExprForm A B C on_form on_field on_expr f ≡ a → in_expr (expr at f) ≡ on_expr (record { at = at; form = a })
  by_form at f a e = fold-of_expr A B C on_form on_field on_expr (expr at f) ∙ ap (λ b. on_expr (record { at = at; form = b })) e

  pub fold_unary : (at : Place) (op : UnaryOp) (a : Expr) → in_expr (expr at (form.Unary op a)) ≡ on_expr (record { at = at; form = on_form (ExprForm-F.Unary op (in_expr a)) })
  fold_unary at op a = by_form at (form.Unary op a) (on_form (ExprForm-F.Unary op (in_expr a))) (fold-Unary A B C on_form on_field on_expr op a)

  pub fold_binary : (at : Place) (op : BinaryOp) (a b : Expr)
      → in_expr (expr at (form.Binary op a b)) ≡ on_expr (record { at = at; form = on_form (ExprForm-F.Binary op (in_expr a) (in_expr b)) })
  fold_binary at op a b = by_form at (form.Binary op a b) (on_form (ExprForm-F.Binary op (in_expr a) (in_expr b))) (fold-Binary A B C on_form on_field on_expr op a b)

-- a fold of a `var` statement
pub fold-var : (A B C D E : Type 0) (f : StmtForm-F A B C D E → A) (g : Case-F A B C D E → B) (h : Catch-F A B C D E → C) (i : Finally-F A B C D E → D) (k : Stmt-F A B C D E → E)
    (at : Place) (ds : List Declarator) → fold-Stmt A B C D E f g h i k (record { at = at; form = Var ds }) ≡ k (record { at = at; form = f (StmtForm-F.Var ds) })
fold-var A B C D E f g h i k at ds =
    let form = fold_out-StmtForm A B C D E f g h i k (Var ds) in
    fold_out-Stmt A B C D E f g h i k (record { at = at; form = Var ds }) ∙ ap (λ a. k (record { at = at; form = a })) (rw (outs-Var ds) at form)

-- it counts one, and what its declarators count
pub in_stmt-var : (at : Place) (ds : List Declarator) → in_stmt (record { at = at; form = Var ds }) ≡ in_declarators ds + 1
in_stmt-var at ds = fold-var ℕ ℕ ℕ ℕ ℕ of_stmt_form of_case of_catch of_finally of_stmt at ds
