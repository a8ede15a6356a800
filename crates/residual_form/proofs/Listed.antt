-- What is said of the forms that have lists of parts: literals of arrays and objects, and blocks.
use Rattle.std.proofs.Common.{◌≡◌, List, [], ◌∷◌, refl, ap, ◌∙◌, Bool, false, map}
use Rattle.std.specs.Prelude.{◌&&◌, Option, Some, None}
use Rattle.std.specs.List.{list_all}
use Rattle.js_tree.specs.declared.expression.Expr.{Expr}
use Rattle.js_tree.specs.declared.expression.Field.{Field}
use Rattle.js_tree.specs.declared.expression.ExprForm.{ExprForm, out-ExprForm}
use Rattle.js_tree.specs.declared.expression.ExprForm.TheOpen.{ExprForm-F}
use Rattle.js_tree.specs.declared.expression.ExprForm.TheFolds.{map-ExprForm}
use Rattle.js_tree.specs.declared.expression.ExprForm.TheVariants.{ArrayLit, outs-ArrayLit, ObjectLit, outs-ObjectLit}
use Rattle.js_tree.proofs.Folds.{fold-layer}
use Rattle.js_tree.specs.declared.statement.Stmt.{Stmt}
use Rattle.js_tree.specs.declared.statement.StmtForm.TheFolds.{fold_out-StmtForm}
use Rattle.js_tree.specs.declared.statement.StmtForm.TheVariants.{Block, outs-Block}
use Rattle.residual_form.specs.Bodies.{Body}
use Rattle.residual_form.specs.Statements as T
use Rattle.residual_form.specs.Statements.{Role}
use Rattle.residual_form.specs.Values.{Part, is_item, is_item_of, is_value, of_form, of_field, in_form, in_field, in_expr}

list_all-along : {A B : Type 0} (p : B → Bool) (v : A → B) (q : A → Bool) → ((x : A) → p (v x) ≡ q x) → (xs : List A) → list_all p (map v xs) ≡ list_all q xs
list_all-along p v q s [] = refl
list_all-along p v q s (x ∷ xs) = ap (λ b. b && list_all p (map v xs)) (s x) ∙ ap (λ b. q x && b) (list_all-along p v q s xs)

module _ (b : Body) where
  form_is : (form : ExprForm) (layer : ExprForm-F ExprForm Field Expr) → out-ExprForm form ≡ layer
      → (in_form b form).value ≡ (of_form b (map-ExprForm ExprForm Field Expr Part Bool Part (in_form b) (in_field b) (in_expr b) layer)).value
  form_is form layer e = ap (λ (p : Part). p.value) (fold-layer Part Bool Part (of_form b) (of_field b) (λ e. e.form) form layer e)

  item_is : (g : Option Expr → Option Part) → is_item (g None) ≡ false → ((e : Expr) → is_item (g (Some e)) ≡ is_value b e) → (o : Option Expr) → is_item (g o) ≡ is_item_of b o
  item_is g n s None = n
  item_is g n s (Some e) = s e

  items : (g : Option Expr → Option Part) → is_item (g None) ≡ false → ((e : Expr) → is_item (g (Some e)) ≡ is_value b e) → (all : List (Option Expr))
      → list_all is_item (map g all) ≡ list_all (is_item_of b) all
  items g n s all = list_all-along is_item g (is_item_of b) (item_is g n s) all

  pub value-ArrayLit : (all : List (Option Expr)) → (in_form b (ArrayLit all)).value ≡ list_all (is_item_of b) all
  value-ArrayLit all = form_is _ _ (outs-ArrayLit all) ∙ items _ refl (λ e. refl) all

  pub value-ObjectLit : (fields : List Field) → (in_form b (ObjectLit fields)).value ≡ list_all (in_field b) fields
  value-ObjectLit fields = form_is _ _ (outs-ObjectLit fields) ∙ list_all-along (λ f. f) (in_field b) (in_field b) (λ f. refl) fields

  pub block-Block : (body : List Stmt) → (T.in_stmt_form b (Block body)).block ≡ list_all (T.is_statement b) body
  block-Block body =
      ap (λ (r : Role). r.block) (fold_out-StmtForm Role Bool Bool Bool Role (T.of_stmt_form b) (λ c. false) (λ c. false) (λ f. false) (λ s. s.form) (Block body))
      ∙ rw (outs-Block body) (list_all-along (λ (r : Role). r.statement) (T.in_stmt b) (T.is_statement b) (λ s. refl) body)
