-- Whether a name is mentioned in the forms of expressions that have lists of parts.
use Rattle.std.proofs.Common.{◌≡◌, ◌<◌, ℕ, List, [], ◌∷◌, refl, ap, sym, ◌∙◌, Bool, true, false, map, length, get_or}
use Rattle.std.proofs.lemmas.List.Folds.{list_any_at}
use Rattle.std.specs.Prelude.{◌||◌, Option, Some, None}
use Rattle.std.specs.List.{list_any}
use Rattle.js_value.specs.declared.primitive.Kind.{Kind}
use Rattle.js_tree.specs.declared.expression.Expr.{Expr}
use Rattle.js_tree.specs.declared.expression.Field.{Field}
use Rattle.js_tree.specs.declared.expression.ExprForm.{ExprForm, out-ExprForm}
use Rattle.js_tree.specs.declared.expression.ExprForm.TheOpen.{ExprForm-F}
use Rattle.js_tree.specs.declared.expression.ExprForm.TheFolds.{map-ExprForm}
use Rattle.js_tree.specs.declared.expression.ExprForm.TheVariants.{Call, outs-Call, New, outs-New, HostCall, outs-HostCall, ArrayLit, outs-ArrayLit, ObjectLit, outs-ObjectLit}
use Rattle.js_tree.proofs.Folds.{fold-layer}
use Rattle.residual_form.specs.Names.{or_false, of_form, of_field, in_form, in_field, mentions, maybe_mentions}

pub list_any-along : {A B : Type 0} (p : B → Bool) (v : A → B) (q : A → Bool) → ((x : A) → p (v x) ≡ q x) → (xs : List A) → list_any p (map v xs) ≡ list_any q xs
list_any-along p v q s [] = refl
list_any-along p v q s (x ∷ xs) = ap (λ b. b || list_any p (map v xs)) (s x) ∙ ap (λ b. q x || b) (list_any-along p v q s xs)

module _ (name : List ℕ) where
  form_is : (form : ExprForm) (layer : ExprForm-F ExprForm Field Expr) → out-ExprForm form ≡ layer
      → in_form name form ≡ of_form name (map-ExprForm ExprForm Field Expr Bool Bool Bool (in_form name) (in_field name) (mentions name) layer)
  form_is form layer e = fold-layer Bool Bool Bool (of_form name) (of_field name) (λ e. e.form) form layer e

  pub any-Call : (callee : Expr) (args : List Expr) → in_form name (Call callee args) ≡ (mentions name callee || list_any (mentions name) args)
  any-Call callee args =
      form_is _ _ (outs-Call callee args)
      ∙ ap (λ b. mentions name callee || b) (list_any-along (λ b. b) (mentions name) (mentions name) (λ x. refl) args)

  pub any-New : (callee : Expr) (args : List Expr) → in_form name (New callee args) ≡ (mentions name callee || list_any (mentions name) args)
  any-New callee args =
      form_is _ _ (outs-New callee args)
      ∙ ap (λ b. mentions name callee || b) (list_any-along (λ b. b) (mentions name) (mentions name) (λ x. refl) args)

  pub any-HostCall : (kind : Kind) (text : List ℕ) (args : List Expr) → in_form name (HostCall kind text args) ≡ list_any (mentions name) args
  any-HostCall kind text args = form_is _ _ (outs-HostCall kind text args) ∙ list_any-along (λ b. b) (mentions name) (mentions name) (λ x. refl) args

  maybe_is : (g : Option Expr → Option Bool) → or_false (g None) ≡ false → ((e : Expr) → or_false (g (Some e)) ≡ mentions name e) → (o : Option Expr) → or_false (g o) ≡ maybe_mentions name o
  maybe_is g n s None = n
  maybe_is g n s (Some e) = s e

  array-any : (g : Option Expr → Option Bool) → or_false (g None) ≡ false → ((e : Expr) → or_false (g (Some e)) ≡ mentions name e) → (items : List (Option Expr))
      → list_any or_false (map g items) ≡ list_any (maybe_mentions name) items
  array-any g n s items = list_any-along or_false g (maybe_mentions name) (maybe_is g n s) items

  pub any-ArrayLit : (items : List (Option Expr)) → in_form name (ArrayLit items) ≡ list_any (maybe_mentions name) items
  any-ArrayLit items = form_is _ _ (outs-ArrayLit items) ∙ array-any _ refl (λ e. refl) items

  pub any-ObjectLit : (fields : List Field) → in_form name (ObjectLit fields) ≡ list_any (in_field name) fields
  any-ObjectLit fields = form_is _ _ (outs-ObjectLit fields) ∙ list_any-along (λ b. b) (in_field name) (in_field name) (λ f. refl) fields

-- a list of truths that has a true one
pub any_at : {A : Type 0} (p : A → Bool) (xs : List A) (i : ℕ) (x : A) → i < length xs → x ≡ get_or xs i x → p x ≡ true → true ≡ list_any (λ b. b) (map p xs)
any_at p xs i x l is h = sym (list_any-along (λ b. b) p p (λ y. refl) xs ∙ list_any_at p xs i x l (ap p (sym is) ∙ h))
