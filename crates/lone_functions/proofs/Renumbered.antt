-- Copied code names the functions that the code names, by their new numbers.
use Rattle.std.proofs.Common.{◌≡◌, ℕ, ◌-◌, ◌++◌, List, [], ◌∷◌, map, refl, ap, sym, ◌∙◌, subst}
use Rattle.std.specs.Prelude.{Option, Some, None}
use Rattle.std.specs.List.{flat_map}
use Rattle.std.specs.Option.{option_map}
use Rattle.std.proofs.lemmas.List.{map-append}
use Rattle.js_tree.specs.declared.expression.Expr.{Expr, roll-Expr}
use Rattle.js_tree.specs.declared.expression.Field.{Field, roll-Field}
use Rattle.js_tree.specs.declared.expression.ExprForm.{ExprForm, roll-ExprForm}
use Rattle.js_tree.specs.declared.expression.ExprForm.TheFolds.{map-ExprForm, map-Field, fold-roll-ExprForm, fold-roll-Field, fold_out-Expr, ind-Expr}
use Rattle.js_tree.specs.declared.expression.ExprForm.TheOpen.{ExprForm-F, Field-F, Expr-F}
use Rattle.js_tree.specs.Refusals.{place}
use Rattle.js_tree.specs.Mentions.{joined, of_none}
use Rattle.js_grammar.specs.FunctionOrder as order
use Rattle.js_grammar.specs.FunctionOrder.{Numbers}
use Rattle.lone_functions.specs.Anew as anew
use Rattle.lone_functions.specs.Named.{of_form, of_field}

abbrev pub Layer : Type 0
Layer = ExprForm-F ExprForm Field Expr

abbrev pub FieldLayer : Type 0
FieldLayer = Field-F ExprForm Field Expr

module _ (first : ℕ) where
  abbrev pub less : Numbers → Numbers
  less ns = map (λ n. n - first) ns

  -- ---- lists of parts

  pub append-less : (a b c d : Numbers) → a ≡ less c → b ≡ less d → a ++ b ≡ less (c ++ d)
  append-less a b c d h k = ap (λ x. x ++ b) h ∙ ap (λ x. less c ++ x) k ∙ sym (map-append (λ n. n - first) c d)

  pub parts-less : {A B C D : Type 0} (p : D → Numbers) (g : C → D) (h : B → C) (q : D → Numbers) (k : B → D) (part : A → B)
      → ((x : A) → p (g (h (part x))) ≡ less (q (k (part x)))) → (xs : List A) → flat_map p (map g (map h (map part xs))) ≡ less (flat_map q (map k (map part xs)))
  parts-less p g h q k part s [] = refl
  parts-less p g h q k part s (x ∷ xs) = append-less _ _ _ _ (s x) (parts-less p g h q k part s xs)

  pub each-less : {A : Type 0} (p : A → Numbers) (h : A → A) → ((x : A) → p (h x) ≡ less (p x)) → (xs : List A) → flat_map p (map h xs) ≡ less (flat_map p xs)
  each-less p h s [] = refl
  each-less p h s (x ∷ xs) = append-less _ _ _ _ (s x) (each-less p h s xs)

  -- ---- expressions (11)

  abbrev FormNumbers : ExprForm → Type 0
  FormNumbers form = of_form (anew.form first form) ≡ less (of_form form)

  abbrev FieldNumbers : Field → Type 0
  FieldNumbers f = of_field (anew.field first f) ≡ less (of_field f)

  abbrev pub ExprNumbers : Expr → Type 0
  ExprNumbers x = order.in_expr (anew.expr first x) ≡ less (order.in_expr x)

  abbrev numbers_layer : Layer → ExprForm-F Numbers Numbers Numbers
  numbers_layer = map-ExprForm ExprForm Field Expr Numbers Numbers Numbers of_form of_field order.in_expr

  abbrev copied_layer : Layer → Layer
  copied_layer = map-ExprForm ExprForm Field Expr ExprForm Field Expr (anew.form first) (anew.field first) (anew.expr first)

  abbrev numbers_field : FieldLayer → Numbers
  numbers_field l = order.in_field (map-Field ExprForm Field Expr Numbers Numbers Numbers of_form of_field order.in_expr l)

  abbrev copied_field : FieldLayer → FieldLayer
  copied_field = map-Field ExprForm Field Expr ExprForm Field Expr (anew.form first) (anew.field first) (anew.expr first)

  rolled : (l : Layer) → of_form (roll-ExprForm l) ≡ order.in_form (numbers_layer l)
  rolled l = fold-roll-ExprForm Numbers Numbers Numbers order.in_form order.in_field (λ x. x.form) l

  rolled_field : (l : FieldLayer) → of_field (roll-Field l) ≡ numbers_field l
  rolled_field l = fold-roll-Field Numbers Numbers Numbers order.in_form order.in_field (λ x. x.form) l

  from_layer : (l : Layer) → of_form (anew.of_form first (copied_layer l)) ≡ less (order.in_form (numbers_layer l)) → FormNumbers (roll-ExprForm l)
  from_layer l h =
      ap of_form (fold-roll-ExprForm ExprForm Field Expr (anew.of_form first) (anew.of_field first) (anew.of_expr first) l) ∙ h ∙ ap less (sym (rolled l))

  from_field : (l : FieldLayer) → of_field (anew.of_field first (copied_field l)) ≡ less (numbers_field l) → FieldNumbers (roll-Field l)
  from_field l h =
      ap of_field (fold-roll-Field ExprForm Field Expr (anew.of_form first) (anew.of_field first) (anew.of_expr first) l) ∙ h ∙ ap less (sym (rolled_field l))

  from_form : (x : Expr-F ExprForm Field Expr) → FormNumbers x.form → ExprNumbers (roll-Expr x)
  from_form x h =
      let e : Expr = roll-Expr x in
      ap order.in_expr (fold_out-Expr ExprForm Field Expr (anew.of_form first) (anew.of_field first) (anew.of_expr first) e)
      ∙ fold_out-Expr Numbers Numbers Numbers order.in_form order.in_field (λ y. y.form) (record { at = place 0; form = anew.form first x.form })
      ∙ h
      ∙ ap less (sym (fold_out-Expr Numbers Numbers Numbers order.in_form order.in_field (λ y. y.form) e))

  module _ {A B C : Type 0} (form_in : A → ExprForm) (field_in : B → Field) (expr_in : C → Expr) (fields : (b : B) → FieldNumbers (field_in b)) (exprs : (c : C) → ExprNumbers (expr_in c)) where
    abbrev of : ExprForm-F A B C → Layer
    of = map-ExprForm A B C ExprForm Field Expr form_in field_in expr_in

    abbrev of_field_layer : Field-F A B C → FieldLayer
    of_field_layer = map-Field A B C ExprForm Field Expr form_in field_in expr_in

    two_parts : (a b : C) → order.in_expr (anew.expr first (expr_in a)) ++ order.in_expr (anew.expr first (expr_in b)) ≡ less (order.in_expr (expr_in a) ++ order.in_expr (expr_in b))
    two_parts a b = append-less _ _ _ _ (exprs a) (exprs b)

    -- parts in a list, and those that may be absent
    all_parts : (cs : List C) → joined (map order.in_expr (map (anew.expr first) (map expr_in cs))) ≡ less (joined (map order.in_expr (map expr_in cs)))
    all_parts cs = parts-less (λ n. n) order.in_expr (anew.expr first) (λ n. n) order.in_expr expr_in exprs cs

    element : (g : Option Expr → Option Numbers) (h : Option Expr → Option Expr) (part : Option C → Option Expr) → of_none (g (h (part None))) ≡ less (of_none (g (part None)))
        → ((c : C) → of_none (g (h (part (Some c)))) ≡ less (of_none (g (part (Some c))))) → (o : Option C) → of_none (g (h (part o))) ≡ less (of_none (g (part o)))
    element g h part none some None = none
    element g h part none some (Some c) = some c

    elements : (g : Option Expr → Option Numbers) (h : Option Expr → Option Expr) (part : Option C → Option Expr) → of_none (g (h (part None))) ≡ less (of_none (g (part None)))
        → ((c : C) → of_none (g (h (part (Some c)))) ≡ less (of_none (g (part (Some c))))) → (cs : List (Option C))
        → flat_map of_none (map g (map h (map part cs))) ≡ less (flat_map of_none (map g (map part cs)))
    elements g h part none some cs = parts-less of_none g h of_none g part (element g h part none some) cs

    layer_numbers : (y : ExprForm-F A B C) → of_form (anew.of_form first (copied_layer (of y))) ≡ less (order.in_form (numbers_layer (of y)))
    layer_numbers ExprForm-F.This = rolled _
    layer_numbers (ExprForm-F.Name text) = rolled _
    layer_numbers (ExprForm-F.Literal v) = rolled _
    layer_numbers (ExprForm-F.ArrayLit cs) = rolled _ ∙ elements _ _ _ refl (λ c. exprs c) cs
    layer_numbers (ExprForm-F.ObjectLit bs) = rolled _ ∙ parts-less (λ n. n) of_field (anew.field first) (λ n. n) of_field field_in fields bs
    layer_numbers (ExprForm-F.Func f) = rolled _
    layer_numbers (ExprForm-F.Member a key) = rolled _ ∙ exprs a
    layer_numbers (ExprForm-F.Index a b) = rolled _ ∙ two_parts a b
    layer_numbers (ExprForm-F.Call a cs) = rolled _ ∙ append-less _ _ _ _ (exprs a) (all_parts cs)
    layer_numbers (ExprForm-F.New a cs) = rolled _ ∙ append-less _ _ _ _ (exprs a) (all_parts cs)
    layer_numbers (ExprForm-F.Unary op a) = rolled _ ∙ exprs a
    layer_numbers (ExprForm-F.Binary op a b) = rolled _ ∙ two_parts a b
    layer_numbers (ExprForm-F.Logic op a b) = rolled _ ∙ two_parts a b
    layer_numbers (ExprForm-F.Conditional t a b) = rolled _ ∙ append-less _ _ _ _ (two_parts t a) (exprs b)
    layer_numbers (ExprForm-F.Assign a op b) = rolled _ ∙ two_parts a b
    layer_numbers (ExprForm-F.Step op a) = rolled _ ∙ exprs a
    layer_numbers (ExprForm-F.Comma a b) = rolled _ ∙ two_parts a b
    layer_numbers (ExprForm-F.Input k text) = rolled _
    layer_numbers (ExprForm-F.HostCall k text cs) = rolled _ ∙ all_parts cs

    field_numbers : (y : Field-F A B C) → of_field (anew.of_field first (copied_field (of_field_layer y))) ≡ less (numbers_field (of_field_layer y))
    field_numbers (Field-F.Value at key x) = rolled_field _ ∙ exprs x
    field_numbers (Field-F.Getter at key f) = rolled_field _
    field_numbers (Field-F.Setter at key f) = rolled_field _

  pub expr_numbers : (x : Expr) → ExprNumbers x
  expr_numbers = ind-Expr FormNumbers FieldNumbers ExprNumbers
      (λ x y is. subst (λ l. FormNumbers (roll-ExprForm l)) is (from_layer _ (layer_numbers (λ e. e.0) (λ e. e.0) (λ e. e.0) (λ e. e.1) (λ e. e.1) y)))
      (λ x y is. subst (λ l. FieldNumbers (roll-Field l)) is (from_field _ (field_numbers (λ e. e.0) (λ e. e.0) (λ e. e.0) (λ e. e.1) (λ e. e.1) y)))
      (λ x y is. subst (λ l. ExprNumbers (roll-Expr l)) is (from_form _ y.form.1))

  pub maybe_numbers : (o : Option Expr) → order.in_maybe (option_map (anew.expr first) o) ≡ less (order.in_maybe o)
  maybe_numbers None = refl
  maybe_numbers (Some x) = expr_numbers x
