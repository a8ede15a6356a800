-- What is said of the parts that are open stands beside the printed expression.
use Rattle.std.proofs.Common.{◌≡◌, ℕ, Bool, List, [], ◌∷◌, map, refl, ap, sym, ◌∙◌, subst}
use Rattle.std.specs.Prelude.{Option, Some, None}
use Rattle.js_value.specs.declared.place.FuncNo.{FuncNo}
use Rattle.js_tree.specs.Refusals.{place}
use Rattle.js_tree.specs.declared.expression.Expr.{Expr, roll-Expr}
use Rattle.js_tree.specs.declared.expression.Field.{Field, roll-Field, out-Field}
use Rattle.js_tree.specs.declared.expression.ExprForm.{ExprForm, roll-ExprForm}
use Rattle.js_tree.specs.declared.expression.ExprForm.TheFolds.{map-ExprForm, map-Field, fold-ExprForm, fold-Field, fold_out-Expr, fold_out-Field, fold-roll-ExprForm, fold-roll-Field, ind-Expr}
use Rattle.js_tree.specs.declared.expression.ExprForm.TheOpen.{ExprForm-F, Field-F, Expr-F}
use Rattle.script_text.specs.Expressions as text
use Rattle.script_text.specs.Expressions.{Printed}
use Rattle.script_text.specs.Pieces.{Piece}
use Rattle.script_nesting.specs.Opened as depth
use Rattle.script_nesting.specs.Opened.{Deep}

abbrev Both : Type 0
Both = List Piece × ℕ

module _ (function : Bool → FuncNo → List Piece) (inside : FuncNo → ℕ) where
  abbrev pub deep_form : ExprForm → Deep
  deep_form = fold-ExprForm Deep Both Deep (depth.of_form function inside) (depth.of_field function inside) (λ e. e.form)

  abbrev pub deep_field : Field → Both
  deep_field = fold-Field Deep Both Deep (depth.of_form function inside) (depth.of_field function inside) (λ e. e.form)

  abbrev deep : Expr → Deep
  deep = depth.deep function inside

  abbrev pub deep_layer : ExprForm-F ExprForm Field Expr → ExprForm-F Deep Both Deep
  deep_layer = map-ExprForm ExprForm Field Expr Deep Both Deep deep_form deep_field deep

  abbrev printed_layer : ExprForm-F ExprForm Field Expr → ExprForm-F Printed (List Piece) Printed
  printed_layer = map-ExprForm ExprForm Field Expr Printed (List Piece) Printed (text.printed_form function) (text.printed_field function) (text.printed function)

  abbrev only_printed : ExprForm-F Deep Both Deep → ExprForm-F Printed (List Piece) Printed
  only_printed = map-ExprForm Deep Both Deep Printed (List Piece) Printed (λ d. d.printed) (λ f. f.0) (λ d. d.printed)

  abbrev SameForm : ExprForm → Type 0
  SameForm form = (deep_form form).printed ≡ text.printed_form function form

  abbrev SameField : Field → Type 0
  SameField f = (deep_field f).0 ≡ text.printed_field function f

  abbrev Same : Expr → Type 0
  Same x = (deep x).printed ≡ text.printed function x

  module _ {A B C : Type 0} (form_in : A → ExprForm) (field_in : B → Field) (expr_in : C → Expr) (fields : (b : B) → SameField (field_in b)) (exprs : (c : C) → Same (expr_in c)) where
    abbrev of : ExprForm-F A B C → ExprForm-F ExprForm Field Expr
    of = map-ExprForm A B C ExprForm Field Expr form_in field_in expr_in

    args : (cs : List C) → map (λ (d : Deep). d.printed) (map deep (map expr_in cs)) ≡ map (text.printed function) (map expr_in cs)
    args [] = refl
    args (c ∷ cs) = ap (λ p. p ∷ map (λ (d : Deep). d.printed) (map deep (map expr_in cs))) (exprs c) ∙ ap (λ ps. text.printed function (expr_in c) ∷ ps) (args cs)

    properties : (bs : List B) → map (λ (f : Both). f.0) (map deep_field (map field_in bs)) ≡ map (text.printed_field function) (map field_in bs)
    properties [] = refl
    properties (b ∷ bs) = ap (λ p. p ∷ map (λ (f : Both). f.0) (map deep_field (map field_in bs))) (fields b) ∙ ap (λ ps. text.printed_field function (field_in b) ∷ ps) (properties bs)

    -- options are mapped by functions of Rattle's own
    items : (gt : Option C → Option Expr) (gd : Option Expr → Option Deep) (gp : Option Deep → Option Printed) (gq : Option Expr → Option Printed)
        → gp (gd (gt None)) ≡ gq (gt None) → ((c : C) → gp (gd (gt (Some c))) ≡ Some (deep (expr_in c)).printed) → ((c : C) → gq (gt (Some c)) ≡ Some (text.printed function (expr_in c)))
        → (cs : List (Option C)) → map gp (map gd (map gt cs)) ≡ map gq (map gt cs)
    items gt gd gp gq none left right [] = refl
    items gt gd gp gq none left right (o ∷ cs) =
        ap (λ p. p ∷ map gp (map gd (map gt cs))) (one o) ∙ ap (λ ps. gq (gt o) ∷ ps) (items gt gd gp gq none left right cs)
      where
        one : (o : Option C) → gp (gd (gt o)) ≡ gq (gt o)
        one None = none
        one (Some c) = left c ∙ ap Some (exprs c) ∙ sym (right c)

    layer : (y : ExprForm-F A B C) → only_printed (deep_layer (of y)) ≡ printed_layer (of y)
    layer ExprForm-F.This = refl
    layer (ExprForm-F.Name text) = refl
    layer (ExprForm-F.Literal v) = refl
    layer (ExprForm-F.ArrayLit cs) = ap ExprForm-F.ArrayLit (items _ _ _ _ refl (λ c. refl) (λ c. refl) cs)
    layer (ExprForm-F.ObjectLit bs) = ap ExprForm-F.ObjectLit (properties bs)
    layer (ExprForm-F.Func f) = refl
    layer (ExprForm-F.Member a key) = ap (λ p. ExprForm-F.Member p key) (exprs a)
    layer (ExprForm-F.Index a b) = ap (λ p. ExprForm-F.Index p (deep (expr_in b)).printed) (exprs a) ∙ ap (λ p. ExprForm-F.Index (text.printed function (expr_in a)) p) (exprs b)
    layer (ExprForm-F.Call a cs) = ap (λ p. ExprForm-F.Call p (map (λ (d : Deep). d.printed) (map deep (map expr_in cs)))) (exprs a) ∙ ap (λ ps. ExprForm-F.Call (text.printed function (expr_in a)) ps) (args cs)
    layer (ExprForm-F.New a cs) = ap (λ p. ExprForm-F.New p (map (λ (d : Deep). d.printed) (map deep (map expr_in cs)))) (exprs a) ∙ ap (λ ps. ExprForm-F.New (text.printed function (expr_in a)) ps) (args cs)
    layer (ExprForm-F.Unary op a) = ap (λ p. ExprForm-F.Unary op p) (exprs a)
    layer (ExprForm-F.Binary op a b) = ap (λ p. ExprForm-F.Binary op p (deep (expr_in b)).printed) (exprs a) ∙ ap (λ p. ExprForm-F.Binary op (text.printed function (expr_in a)) p) (exprs b)
    layer (ExprForm-F.Logic op a b) = ap (λ p. ExprForm-F.Logic op p (deep (expr_in b)).printed) (exprs a) ∙ ap (λ p. ExprForm-F.Logic op (text.printed function (expr_in a)) p) (exprs b)
    layer (ExprForm-F.Conditional t a b) =
        ap (λ p. ExprForm-F.Conditional p (deep (expr_in a)).printed (deep (expr_in b)).printed) (exprs t)
        ∙ ap (λ p. ExprForm-F.Conditional (text.printed function (expr_in t)) p (deep (expr_in b)).printed) (exprs a)
        ∙ ap (λ p. ExprForm-F.Conditional (text.printed function (expr_in t)) (text.printed function (expr_in a)) p) (exprs b)
    layer (ExprForm-F.Assign a op b) = ap (λ p. ExprForm-F.Assign p op (deep (expr_in b)).printed) (exprs a) ∙ ap (λ p. ExprForm-F.Assign (text.printed function (expr_in a)) op p) (exprs b)
    layer (ExprForm-F.Step op a) = ap (λ p. ExprForm-F.Step op p) (exprs a)
    layer (ExprForm-F.Comma a b) = ap (λ p. ExprForm-F.Comma p (deep (expr_in b)).printed) (exprs a) ∙ ap (λ p. ExprForm-F.Comma (text.printed function (expr_in a)) p) (exprs b)
    layer (ExprForm-F.Input k text) = refl
    layer (ExprForm-F.HostCall k name cs) = ap (λ ps. ExprForm-F.HostCall k name ps) (args cs)

    form_same : (y : ExprForm-F A B C) → SameForm (roll-ExprForm (of y))
    form_same y =
        ap (λ (d : Deep). d.printed) (fold-roll-ExprForm Deep Both Deep (depth.of_form function inside) (depth.of_field function inside) (λ e. e.form) (of y))
        ∙ ap (text.of_form function) (layer y) ∙ sym (fold-roll-ExprForm Printed (List Piece) Printed (text.of_form function) (text.of_field function) (λ e. e.form) (of y))

    abbrev of_field : Field-F A B C → Field-F ExprForm Field Expr
    of_field = map-Field A B C ExprForm Field Expr form_in field_in expr_in

    field_layer : (y : Field-F A B C) → (depth.of_field function inside (map-Field ExprForm Field Expr Deep Both Deep deep_form deep_field deep (of_field y))).0
        ≡ text.of_field function (map-Field ExprForm Field Expr Printed (List Piece) Printed (text.printed_form function) (text.printed_field function) (text.printed function) (of_field y))
    field_layer (Field-F.Value at key x) = ap (λ p. text.of_field function (Field-F.Value at key p)) (exprs x)
    field_layer (Field-F.Getter at key f) = refl
    field_layer (Field-F.Setter at key f) = refl

    field_same : (y : Field-F A B C) → SameField (roll-Field (of_field y))
    field_same y =
        ap (λ (f : Both). f.0) (fold-roll-Field Deep Both Deep (depth.of_form function inside) (depth.of_field function inside) (λ e. e.form) (of_field y))
        ∙ field_layer y ∙ sym (fold-roll-Field Printed (List Piece) Printed (text.of_form function) (text.of_field function) (λ e. e.form) (of_field y))

  expr_same : (x : Expr-F ExprForm Field Expr) → SameForm x.form → Same (roll-Expr x)
  expr_same x h =
      ap (λ (d : Deep). d.printed) (fold_out-Expr Deep Both Deep (depth.of_form function inside) (depth.of_field function inside) (λ e. e.form) (roll-Expr x))
      ∙ h ∙ sym (fold_out-Expr Printed (List Piece) Printed (text.of_form function) (text.of_field function) (λ e. e.form) (roll-Expr x))

  pub printed_is : (x : Expr) → (depth.deep function inside x).printed ≡ text.printed function x
  printed_is = ind-Expr SameForm SameField Same
      (λ x y is. subst (λ l. SameForm (roll-ExprForm l)) is (form_same (λ e. e.0) (λ e. e.0) (λ e. e.0) (λ e. e.1) (λ e. e.1) y))
      (λ x y is. subst (λ l. SameField (roll-Field l)) is (field_same (λ e. e.0) (λ e. e.0) (λ e. e.0) (λ e. e.1) (λ e. e.1) y))
      (λ x y is. subst (λ l. Same (roll-Expr l)) is (expr_same _ y.form.1))

  -- and beside the forms and properties inside
  pub printed_form_is : (form : ExprForm) → (deep_form form).printed ≡ text.printed_form function form
  printed_form_is form =
      let x : Expr = record { at = place 0; form = form } in
      sym (ap (λ (d : Deep). d.printed) (fold_out-Expr Deep Both Deep (depth.of_form function inside) (depth.of_field function inside) (λ e. e.form) x))
      ∙ printed_is x ∙ fold_out-Expr Printed (List Piece) Printed (text.of_form function) (text.of_field function) (λ e. e.form) x

  same_property : (l : Field-F ExprForm Field Expr) → (depth.of_field function inside (map-Field ExprForm Field Expr Deep Both Deep deep_form deep_field deep l)).0
      ≡ text.of_field function (map-Field ExprForm Field Expr Printed (List Piece) Printed (text.printed_form function) (text.printed_field function) (text.printed function) l)
  same_property (Field-F.Value at key x) = ap (λ p. text.of_field function (Field-F.Value at key p)) (printed_is x)
  same_property (Field-F.Getter at key f) = refl
  same_property (Field-F.Setter at key f) = refl

  pub printed_field_is : (f : Field) → (deep_field f).0 ≡ text.printed_field function f
  printed_field_is f =
      ap (λ (b : Both). b.0) (fold_out-Field Deep Both Deep (depth.of_form function inside) (depth.of_field function inside) (λ e. e.form) f)
      ∙ same_property (out-Field f) ∙ sym (fold_out-Field Printed (List Piece) Printed (text.of_form function) (text.of_field function) (λ e. e.form) f)
