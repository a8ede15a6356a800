-- How many objects an array literal makes.
use Rattle.std.proofs.Common.{◌≡◌, ◌+◌, ℕ, List, [], ◌∷◌, refl, ap, ◌∙◌, map, sum, min, arith}
use Rattle.std.specs.Prelude.{Option, Some, None}
use Rattle.js_tree.specs.declared.expression.Expr.{Expr}
use Rattle.js_tree.specs.declared.expression.ExprForm.TheVariants.{ArrayLit, outs-ArrayLit}
use Rattle.js_tree.proofs.Folds.{fold-layer}
use Rattle.residual_form.specs.Bodies.{Body}
use Rattle.residual_form.specs.Creations.{Made, in_item, of_form, of_field, in_form, made, maybe_made, in_items}

pub capped : (r i a n : ℕ) → i ≡ min a 18446744073709551615 → r ≡ min (i + 1) 18446744073709551615 → n ≡ a + 1 → r ≡ min n 18446744073709551615
capped r i a n hi hr hn = omega arith

module _ (b : Body) where
  item_is : (g : Option Expr → Option Made) → in_item (g None) ≡ 0 → ((e : Expr) → in_item (g (Some e)) ≡ made b e) → (o : Option Expr) → in_item (g o) ≡ maybe_made b o
  item_is g n s None = n
  item_is g n s (Some e) = s e

  items : (g : Option Expr → Option Made) → in_item (g None) ≡ 0 → ((e : Expr) → in_item (g (Some e)) ≡ made b e) → (all : List (Option Expr))
      → map in_item (map g all) ≡ map (maybe_made b) all
  items g n s [] = refl
  items g n s (x ∷ xs) = ap (λ k. k ∷ map in_item (map g xs)) (item_is g n s x) ∙ ap (λ ks. maybe_made b x ∷ ks) (items g n s xs)

  pub count-ArrayLit : (all : List (Option Expr)) → (in_form b (ArrayLit all)).count ≡ in_items b all + 1
  count-ArrayLit all =
      ap (λ (m : Made). m.count) (fold-layer Made ℕ Made (of_form b) (of_field b) (λ e. e.form) _ _ (outs-ArrayLit all))
      ∙ ap (λ ks. sum ks + 1) (items _ refl (λ e. refl) all)
