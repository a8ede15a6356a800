-- What two folds say of an expression and of that without its places, where it is so of each form.
use Rattle.std.proofs.Common.{◌≡◌, List, [], ◌∷◌, map, refl, ap, sym, ◌∙◌, subst}
use Rattle.std.specs.Prelude.{Option, Some, None}
use Rattle.js_value.specs.declared.place.Place.{Place}
use Rattle.js_tree.specs.declared.expression.Expr.{Expr, roll-Expr, fold-Expr}
use Rattle.js_tree.specs.declared.expression.Field.{Field, roll-Field, fold-Field}
use Rattle.js_tree.specs.declared.expression.ExprForm.{ExprForm, roll-ExprForm, fold-ExprForm}
use Rattle.js_tree.specs.declared.expression.ExprForm.TheFolds.{map-ExprForm, map-Field, fold-roll-ExprForm, fold-roll-Field, fold_out-Expr, ind-Expr}
use Rattle.js_tree.specs.declared.expression.ExprForm.TheOpen.{ExprForm-F, Field-F, Expr-F}
use Rattle.js_tree.specs.Refusals.{place}
use Rattle.reading_back.specs.Unplaced as unplaced

-- a property without its place
abbrev pub forget_field : {A B C : Type 0} → Field-F A B C → Field-F A B C
forget_field (Field-F.Value at key x) = Field-F.Value (place 0) key x
forget_field (Field-F.Getter at key f) = Field-F.Getter (place 0) key f
forget_field (Field-F.Setter at key f) = Field-F.Setter (place 0) key f

-- two that are related
abbrev pub Two : {A B : Type 0} → (A → B → Type 0) → Type 0
Two {A = A} {B = B} R = (a : A) × (b : B) × R a b

module _ {A B C K L M : Type 0} (form : ExprForm-F A B C → A) (field : Field-F A B C → B) (expr : Expr-F A B C → C)
    (form_of : ExprForm-F K L M → K) (field_of : Field-F K L M → L) (expr_of : Expr-F K L M → M)
    (FormsAre : K → A → Type 0) (FieldsAre : L → B → Type 0) (ExprsAre : M → C → Type 0) where
  abbrev pub Forms : Type 0
  Forms = Two FormsAre

  abbrev pub Fields : Type 0
  Fields = Two FieldsAre

  abbrev pub Exprs : Type 0
  Exprs = Two ExprsAre

  abbrev pub left : ExprForm-F Forms Fields Exprs → ExprForm-F K L M
  left = map-ExprForm Forms Fields Exprs K L M (λ p. p.0) (λ p. p.0) (λ p. p.0)

  abbrev pub right : ExprForm-F Forms Fields Exprs → ExprForm-F A B C
  right = map-ExprForm Forms Fields Exprs A B C (λ p. p.1) (λ p. p.1) (λ p. p.1)

  abbrev pub left_field : Field-F Forms Fields Exprs → Field-F K L M
  left_field = map-Field Forms Fields Exprs K L M (λ p. p.0) (λ p. p.0) (λ p. p.0)

  abbrev pub right_field : Field-F Forms Fields Exprs → Field-F A B C
  right_field = map-Field Forms Fields Exprs A B C (λ p. p.1) (λ p. p.1) (λ p. p.1)

  -- it is so of each form where it is so of the parts
  pub record EachForm : Type 0 where
    pub forms : (y : ExprForm-F Forms Fields Exprs) → FormsAre (form_of (left y)) (form (right y))
    pub fields : (y : Field-F Forms Fields Exprs) → FieldsAre (field_of (forget_field (left_field y))) (field (right_field y))
    pub exprs : (at : Place) (p : Forms) → ExprsAre (expr_of (record { at = place 0; form = p.0 })) (expr (record { at = at; form = p.1 }))

  abbrev in_form : ExprForm → A
  in_form = fold-ExprForm A B C form field expr

  abbrev in_field : Field → B
  in_field = fold-Field A B C form field expr

  abbrev in_expr : Expr → C
  in_expr = fold-Expr A B C form field expr

  abbrev of_form : ExprForm → K
  of_form = fold-ExprForm K L M form_of field_of expr_of

  abbrev of_field : Field → L
  of_field = fold-Field K L M form_of field_of expr_of

  abbrev of_expr : Expr → M
  of_expr = fold-Expr K L M form_of field_of expr_of

  abbrev FormIs : ExprForm → Type 0
  FormIs f = FormsAre (of_form (unplaced.form f)) (in_form f)

  abbrev FieldIs : Field → Type 0
  FieldIs f = FieldsAre (of_field (unplaced.field f)) (in_field f)

  abbrev ExprIs : Expr → Type 0
  ExprIs x = ExprsAre (of_expr (unplaced.expr x)) (in_expr x)

  abbrev KnownForm : Type 0
  KnownForm = (f : ExprForm) × FormIs f

  abbrev KnownField : Type 0
  KnownField = (f : Field) × FieldIs f

  abbrev KnownExpr : Type 0
  KnownExpr = (x : Expr) × ExprIs x

  abbrev Layer : Type 0
  Layer = ExprForm-F ExprForm Field Expr

  abbrev Known : Type 0
  Known = ExprForm-F KnownForm KnownField KnownExpr

  abbrev form_pair : KnownForm → Forms
  form_pair k = (of_form (unplaced.form k.0), in_form k.0, k.1)

  abbrev field_pair : KnownField → Fields
  field_pair k = (of_field (unplaced.field k.0), in_field k.0, k.1)

  abbrev expr_pair : KnownExpr → Exprs
  expr_pair k = (of_expr (unplaced.expr k.0), in_expr k.0, k.1)

  abbrev pairs : Known → ExprForm-F Forms Fields Exprs
  pairs = map-ExprForm KnownForm KnownField KnownExpr Forms Fields Exprs form_pair field_pair expr_pair

  abbrev layer : Known → Layer
  layer = map-ExprForm KnownForm KnownField KnownExpr ExprForm Field Expr (λ k. k.0) (λ k. k.0) (λ k. k.0)

  abbrev unplaced_layer : Layer → Layer
  unplaced_layer = map-ExprForm ExprForm Field Expr ExprForm Field Expr unplaced.form unplaced.field unplaced.expr

  abbrev of_layer : Layer → ExprForm-F K L M
  of_layer = map-ExprForm ExprForm Field Expr K L M of_form of_field of_expr

  abbrev in_layer : Layer → ExprForm-F A B C
  in_layer = map-ExprForm ExprForm Field Expr A B C in_form in_field in_expr

  abbrev put : {X Y Z : Type 0} → Option Z → ExprForm-F X Y Z → ExprForm-F X Y Z
  put o (ExprForm-F.ArrayLit xs) = ExprForm-F.ArrayLit (o ∷ xs)
  put o l = l

  left_elements : (ks : List (Option KnownExpr)) → of_layer (unplaced_layer (layer (ExprForm-F.ArrayLit ks))) ≡ left (pairs (ExprForm-F.ArrayLit ks))
  left_elements [] = refl
  left_elements (None ∷ ks) = ap (put None) (left_elements ks)
  left_elements (Some k ∷ ks) = ap (put (Some (of_expr (unplaced.expr k.0)))) (left_elements ks)

  right_elements : (ks : List (Option KnownExpr)) → in_layer (layer (ExprForm-F.ArrayLit ks)) ≡ right (pairs (ExprForm-F.ArrayLit ks))
  right_elements [] = refl
  right_elements (None ∷ ks) = ap (put None) (right_elements ks)
  right_elements (Some k ∷ ks) = ap (put (Some (in_expr k.0))) (right_elements ks)

  left_parts : (ks : List KnownExpr) → map of_expr (map unplaced.expr (map (λ (k : KnownExpr). k.0) ks)) ≡ map (λ (p : Exprs). p.0) (map expr_pair ks)
  left_parts [] = refl
  left_parts (k ∷ ks) = ap (λ xs. of_expr (unplaced.expr k.0) ∷ xs) (left_parts ks)

  right_parts : (ks : List KnownExpr) → map in_expr (map (λ (k : KnownExpr). k.0) ks) ≡ map (λ (p : Exprs). p.1) (map expr_pair ks)
  right_parts [] = refl
  right_parts (k ∷ ks) = ap (λ xs. in_expr k.0 ∷ xs) (right_parts ks)

  left_fields : (ks : List KnownField) → map of_field (map unplaced.field (map (λ (k : KnownField). k.0) ks)) ≡ map (λ (p : Fields). p.0) (map field_pair ks)
  left_fields [] = refl
  left_fields (k ∷ ks) = ap (λ xs. of_field (unplaced.field k.0) ∷ xs) (left_fields ks)

  right_fields : (ks : List KnownField) → map in_field (map (λ (k : KnownField). k.0) ks) ≡ map (λ (p : Fields). p.1) (map field_pair ks)
  right_fields [] = refl
  right_fields (k ∷ ks) = ap (λ xs. in_field k.0 ∷ xs) (right_fields ks)

  left_is : (y : Known) → of_layer (unplaced_layer (layer y)) ≡ left (pairs y)
  left_is (ExprForm-F.ArrayLit ks) = left_elements ks
  left_is (ExprForm-F.ObjectLit ks) = ap (λ xs. ExprForm-F.ObjectLit xs) (left_fields ks)
  left_is (ExprForm-F.Call a ks) = ap (λ xs. ExprForm-F.Call (of_expr (unplaced.expr a.0)) xs) (left_parts ks)
  left_is (ExprForm-F.New a ks) = ap (λ xs. ExprForm-F.New (of_expr (unplaced.expr a.0)) xs) (left_parts ks)
  left_is (ExprForm-F.HostCall kind text ks) = ap (λ xs. ExprForm-F.HostCall kind text xs) (left_parts ks)
  left_is y = refl

  right_is : (y : Known) → in_layer (layer y) ≡ right (pairs y)
  right_is (ExprForm-F.ArrayLit ks) = right_elements ks
  right_is (ExprForm-F.ObjectLit ks) = ap (λ xs. ExprForm-F.ObjectLit xs) (right_fields ks)
  right_is (ExprForm-F.Call a ks) = ap (λ xs. ExprForm-F.Call (in_expr a.0) xs) (right_parts ks)
  right_is (ExprForm-F.New a ks) = ap (λ xs. ExprForm-F.New (in_expr a.0) xs) (right_parts ks)
  right_is (ExprForm-F.HostCall kind text ks) = ap (λ xs. ExprForm-F.HostCall kind text xs) (right_parts ks)
  right_is y = refl

  module _ (each : EachForm) where
    from_layer : (y : Known) → FormIs (roll-ExprForm (layer y))
    from_layer y =
        let l : Layer = layer y in
        let of_is : of_form (unplaced.form (roll-ExprForm l)) ≡ form_of (left (pairs y)) =
        ap of_form (fold-roll-ExprForm ExprForm Field Expr roll-ExprForm unplaced.of_field unplaced.of_expr l)
        ∙ fold-roll-ExprForm K L M form_of field_of expr_of (unplaced_layer l) ∙ ap form_of (left_is y) in
        let in_is : in_form (roll-ExprForm l) ≡ form (right (pairs y)) = fold-roll-ExprForm A B C form field expr l ∙ ap form (right_is y) in
        subst (λ k. FormsAre k (in_form (roll-ExprForm l))) (sym of_is) (subst (λ a. FormsAre (form_of (left (pairs y))) a) (sym in_is) (each.forms (pairs y)))

    abbrev field_layer : Field-F KnownForm KnownField KnownExpr → Field-F ExprForm Field Expr
    field_layer = map-Field KnownForm KnownField KnownExpr ExprForm Field Expr (λ k. k.0) (λ k. k.0) (λ k. k.0)

    abbrev field_pairs : Field-F KnownForm KnownField KnownExpr → Field-F Forms Fields Exprs
    field_pairs = map-Field KnownForm KnownField KnownExpr Forms Fields Exprs form_pair field_pair expr_pair

    left_field_is : (y : Field-F KnownForm KnownField KnownExpr)
        → of_field (unplaced.of_field (map-Field ExprForm Field Expr ExprForm Field Expr unplaced.form unplaced.field unplaced.expr (field_layer y))) ≡ field_of (forget_field (left_field (field_pairs y)))
    left_field_is (Field-F.Value at key x) = fold-roll-Field K L M form_of field_of expr_of (Field-F.Value (place 0) key (unplaced.expr x.0))
    left_field_is (Field-F.Getter at key f) = fold-roll-Field K L M form_of field_of expr_of (Field-F.Getter (place 0) key f)
    left_field_is (Field-F.Setter at key f) = fold-roll-Field K L M form_of field_of expr_of (Field-F.Setter (place 0) key f)

    right_field_is : (y : Field-F KnownForm KnownField KnownExpr) → field (map-Field ExprForm Field Expr A B C in_form in_field in_expr (field_layer y)) ≡ field (right_field (field_pairs y))
    right_field_is (Field-F.Value at key x) = refl
    right_field_is y = refl

    from_field : (y : Field-F KnownForm KnownField KnownExpr) → FieldIs (roll-Field (field_layer y))
    from_field y =
        let l : Field-F ExprForm Field Expr = field_layer y in
        let of_is : of_field (unplaced.field (roll-Field l)) ≡ field_of (forget_field (left_field (field_pairs y))) =
        ap of_field (fold-roll-Field ExprForm Field Expr roll-ExprForm unplaced.of_field unplaced.of_expr l) ∙ left_field_is y in
        let in_is : in_field (roll-Field l) ≡ field (right_field (field_pairs y)) = fold-roll-Field A B C form field expr l ∙ right_field_is y in
        subst (λ k. FieldsAre k (in_field (roll-Field l))) (sym of_is)
        (subst (λ b. FieldsAre (field_of (forget_field (left_field (field_pairs y)))) b) (sym in_is) (each.fields (field_pairs y)))

    from_form : (x : Expr-F ExprForm Field Expr) → FormIs x.form → ExprIs (roll-Expr x)
    from_form x h =
        let e : Expr = roll-Expr x in
        let of_is : of_expr (unplaced.expr e) ≡ expr_of (record { at = place 0; form = of_form (unplaced.form x.form) }) =
        ap of_expr (fold_out-Expr ExprForm Field Expr roll-ExprForm unplaced.of_field unplaced.of_expr e)
        ∙ fold_out-Expr K L M form_of field_of expr_of (record { at = place 0; form = unplaced.form x.form }) in
        let in_is : in_expr e ≡ expr (record { at = x.at; form = in_form x.form }) = fold_out-Expr A B C form field expr e in
        subst (λ m. ExprsAre m (in_expr e)) (sym of_is)
        (subst (λ c. ExprsAre (expr_of (record { at = place 0; form = of_form (unplaced.form x.form) })) c) (sym in_is)
        (each.exprs x.at (of_form (unplaced.form x.form), in_form x.form, h)))

    pub related : (x : Expr) → ExprIs x
    related = ind-Expr FormIs FieldIs ExprIs
        (λ x y is. subst (λ l. FormIs (roll-ExprForm l)) is (from_layer y))
        (λ x y is. subst (λ l. FieldIs (roll-Field l)) is (from_field y))
        (λ x y is. subst (λ l. ExprIs (roll-Expr l)) is (from_form _ y.form.1))
