-- Folds at the expressions of constants.
use Rattle.std.proofs.Common.{◌≡◌, ℕ, ap, ◌∙◌}
use Rattle.js_value.specs.declared.primitive.Primitive.{Primitive}
use Rattle.js_value.specs.declared.operator.UnaryOp.TheVariants as unary
use Rattle.js_tree.specs.declared.expression.Expr.{Expr, fold-Expr}
use Rattle.js_tree.proofs.Folds.{fold-of_expr, fold-Literal, fold-Unary}
use Rattle.js_tree.specs.declared.expression.ExprForm.TheOpen.{ExprForm-F, Field-F, Expr-F}
use Rattle.js_tree.specs.Refusals.{place}
use Rattle.js_tree.specs.Trees.{expr}
use Rattle.js_tree.specs.declared.expression.ExprForm.TheVariants as form

module _ (A B C : Type 0) (f : ExprForm-F A B C → A) (g : Field-F A B C → B) (h : Expr-F A B C → C) where
  -- a fold of a literal
  pub fold-literal : (at : ℕ) (value : Primitive) → fold-Expr A B C f g h (expr at (form.Literal value)) ≡ h (record { at = place at; form = f (ExprForm-F.Literal value) })
  fold-literal at value = fold-of_expr A B C f g h (expr at (form.Literal value)) ∙ ap (λ a. h (record { at = place at; form = a })) (fold-Literal A B C f g h value)

  -- a fold of a negation
  pub fold-minus : (at : ℕ) (e : Expr) → fold-Expr A B C f g h (expr at (form.Unary unary.Minus e)) ≡ h (record { at = place at; form = f (ExprForm-F.Unary unary.Minus (fold-Expr A B C f g h e)) })
  fold-minus at e = fold-of_expr A B C f g h (expr at (form.Unary unary.Minus e)) ∙ ap (λ a. h (record { at = place at; form = a })) (fold-Unary A B C f g h unary.Minus e)
