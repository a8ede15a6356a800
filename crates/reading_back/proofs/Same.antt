-- Expressions that are the same but for places, form by form.
use Rattle.std.proofs.Common.{◌≡◌, Bool, true, false, refl, ap, sym, ◌∙◌}
use Rattle.js_value.specs.declared.place.Place.{Place}
use Rattle.js_tree.specs.Refusals.{place}
use Rattle.js_tree.specs.declared.expression.Expr.{Expr}
use Rattle.js_tree.specs.declared.expression.Field.{Field}
use Rattle.js_tree.specs.declared.expression.ExprForm.{ExprForm, roll-ExprForm, out-ExprForm, out-roll-ExprForm}
use Rattle.js_tree.specs.declared.expression.ExprForm.TheOpen.{ExprForm-F}
use Rattle.js_tree.specs.declared.expression.ExprForm.TheFolds.{map-ExprForm, fold_out-Expr}
use Rattle.js_tree.proofs.Folds.{fold-layer}
use Rattle.js_grammar.specs.Expressions.{is_name, is_target}
use Rattle.reading_back.proofs.Claims.{IsExpr}
use Rattle.reading_back.specs.Unplaced as unplaced

abbrev pub Layer : Type 0
Layer = ExprForm-F ExprForm Field Expr

-- the parts without their places
abbrev pub unplaced_layer : Layer → Layer
unplaced_layer = map-ExprForm ExprForm Field Expr ExprForm Field Expr unplaced.form unplaced.field unplaced.expr

unplaced_is : (at : Place) (form : ExprForm) (layer : Layer) → out-ExprForm form ≡ layer → unplaced.expr (record { at = at; form = form }) ≡ record { at = place 0; form = roll-ExprForm (unplaced_layer layer) }
unplaced_is at form layer e =
    fold_out-Expr ExprForm Field Expr roll-ExprForm unplaced.of_field unplaced.of_expr (record { at = at; form = form })
    ∙ ap (λ (f : ExprForm). record { at = place 0; form = f }) (fold-layer ExprForm Field Expr roll-ExprForm unplaced.of_field unplaced.of_expr form layer e)

-- the same form with parts that are the same
pub same_layers : (at other : Place) (form model : ExprForm) (layer mold : Layer) → out-ExprForm form ≡ layer → out-ExprForm model ≡ mold → unplaced_layer layer ≡ unplaced_layer mold
    → IsExpr (record { at = other; form = model }) (record { at = at; form = form })
same_layers at other form model layer mold e f same = record {
  same = unplaced_is at form layer e ∙ ap (λ (l : Layer). record { at = place 0; form = roll-ExprForm l }) same ∙ sym (unplaced_is other model mold f);
}

-- ---- what can be assigned to

abbrev pub name_layer : Layer → Bool
name_layer (ExprForm-F.Name text) = true
name_layer l = false

abbrev pub target_layer : Layer → Bool
target_layer (ExprForm-F.Name text) = true
target_layer (ExprForm-F.Member object key) = true
target_layer (ExprForm-F.Index object key) = true
target_layer l = false

pub name_is : (x : Expr) → is_name x ≡ name_layer (out-ExprForm x.form)
name_is x = by (out-ExprForm x.form)
  where
    by : (l : Layer) → elim l as (λ _. Bool) [ ExprForm-F.Name text ↦ true | _ ↦ false ] ≡ name_layer l
    by (ExprForm-F.Name text) = refl
    by l = refl

pub target_is : (x : Expr) → is_target x ≡ target_layer (out-ExprForm x.form)
target_is x = by (out-ExprForm x.form)
  where
    by : (l : Layer) → elim l as (λ _. Bool) [ ExprForm-F.Name text ↦ true | ExprForm-F.Member object key ↦ true | ExprForm-F.Index object key ↦ true | _ ↦ false ] ≡ target_layer l
    by (ExprForm-F.Name text) = refl
    by (ExprForm-F.Member object key) = refl
    by (ExprForm-F.Index object key) = refl
    by l = refl

name_along : (l : Layer) → name_layer (unplaced_layer l) ≡ name_layer l
name_along (ExprForm-F.Name text) = refl
name_along l = refl

target_along : (l : Layer) → target_layer (unplaced_layer l) ≡ target_layer l
target_along (ExprForm-F.Name text) = refl
target_along (ExprForm-F.Member object key) = refl
target_along (ExprForm-F.Index object key) = refl
target_along l = refl

pub unplaced_form : (x : Expr) → out-ExprForm (unplaced.expr x).form ≡ unplaced_layer (out-ExprForm x.form)
unplaced_form x = ap (λ (y : Expr). out-ExprForm y.form) (unplaced_is x.at x.form (out-ExprForm x.form) refl) ∙ out-roll-ExprForm (unplaced_layer (out-ExprForm x.form))

unplaced_name : (x : Expr) → name_layer (out-ExprForm (unplaced.expr x).form) ≡ is_name x
unplaced_name x = ap name_layer (unplaced_form x) ∙ name_along (out-ExprForm x.form) ∙ sym (name_is x)

unplaced_target : (x : Expr) → target_layer (out-ExprForm (unplaced.expr x).form) ≡ is_target x
unplaced_target x = ap target_layer (unplaced_form x) ∙ target_along (out-ExprForm x.form) ∙ sym (target_is x)

-- what is the same but for places is a name, or a target, where the other one is
pub same_name : {e x : Expr} → IsExpr e x → is_name x ≡ is_name e
same_name {e = e} {x = x} h = sym (unplaced_name x) ∙ ap (λ (y : Expr). name_layer (out-ExprForm y.form)) h.same ∙ unplaced_name e

pub same_target : {e x : Expr} → IsExpr e x → is_target x ≡ is_target e
same_target {e = e} {x = x} h = sym (unplaced_target x) ∙ ap (λ (y : Expr). target_layer (out-ExprForm y.form)) h.same ∙ unplaced_target e
