-- A fold over expressions, form by form, as far as simple scripts have them.
use Rattle.std.proofs.Common.{◌≡◌, ℕ, List, ap, ◌∙◌}
use Rattle.js_value.specs.declared.primitive.Primitive.{Primitive}
use Rattle.js_value.specs.declared.operator.BinaryOp.{BinaryOp}
use Rattle.js_value.specs.declared.operator.UnaryOp.{UnaryOp}
use Rattle.js_tree.specs.declared.expression.Expr.{Expr}
use Rattle.js_tree.specs.declared.expression.Field.{Field}
use Rattle.js_tree.specs.declared.expression.ExprForm.{ExprForm, out-ExprForm}
use Rattle.js_tree.specs.declared.expression.ExprForm.TheOpen.{ExprForm-F, Field-F, Expr-F}
use Rattle.js_tree.specs.declared.expression.ExprForm.TheFolds.{map-ExprForm, fold-ExprForm, fold-Field, fold-Expr, fold_out-ExprForm, fold_out-Expr}
use Rattle.js_tree.specs.declared.expression.ExprForm.TheVariants.{Literal, outs-Literal, Name, outs-Name, Unary, outs-Unary, Binary, outs-Binary}

module _ (A B C : Type 0) (form : ExprForm-F A B C → A) (field : Field-F A B C → B) (expr : Expr-F A B C → C) where
  of_form : ExprForm → A
  of_form = fold-ExprForm A B C form field expr

  pub fold-layer : (f : ExprForm) (layer : ExprForm-F ExprForm Field Expr) → out-ExprForm f ≡ layer
      → fold-ExprForm A B C form field expr f
      ≡ form (map-ExprForm ExprForm Field Expr A B C (fold-ExprForm A B C form field expr) (fold-Field A B C form field expr) (fold-Expr A B C form field expr) layer)
  fold-layer f layer e =
      fold_out-ExprForm A B C form field expr f
      ∙ ap (λ l. form (map-ExprForm ExprForm Field Expr A B C (fold-ExprForm A B C form field expr) (fold-Field A B C form field expr) (fold-Expr A B C form field expr) l)) e

  pub fold-Literal : (value : Primitive) → fold-ExprForm A B C form field expr (Literal value) ≡ form (ExprForm-F.Literal value)
  fold-Literal value = fold-layer (Literal value) (ExprForm-F.Literal value) (outs-Literal value)

  pub fold-Name : (name : List ℕ) → fold-ExprForm A B C form field expr (Name name) ≡ form (ExprForm-F.Name name)
  fold-Name name = fold-layer (Name name) (ExprForm-F.Name name) (outs-Name name)

  pub fold-Unary : (op : UnaryOp) (a : Expr) → fold-ExprForm A B C form field expr (Unary op a) ≡ form (ExprForm-F.Unary op (fold-Expr A B C form field expr a))
  fold-Unary op a = fold-layer (Unary op a) (ExprForm-F.Unary op a) (outs-Unary op a)

  pub fold-Binary : (op : BinaryOp) (a b : Expr) → fold-ExprForm A B C form field expr (Binary op a b) ≡ form (ExprForm-F.Binary op (fold-Expr A B C form field expr a) (fold-Expr A B C form field expr b))
  fold-Binary op a b = fold-layer (Binary op a b) (ExprForm-F.Binary op a b) (outs-Binary op a b)

  -- an expression goes by its form
  pub fold-of_expr : (e : Expr) → fold-Expr A B C form field expr e ≡ expr (record { at = e.at; form = fold-ExprForm A B C form field expr e.form })
  fold-of_expr e = fold_out-Expr A B C form field expr e
