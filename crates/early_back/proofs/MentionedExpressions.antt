-- What an expression mentions is what that without its places mentions, but for places.
use Rattle.std.proofs.Common.{◌≡◌, List, [], ◌∷◌, ◌++◌, map, refl, ap, ◌∙◌}
use Rattle.std.specs.Prelude.{Option, Some, None}
use Rattle.std.specs.List.{flat_map}
use Rattle.std.specs.Option.{option_map}
use Rattle.js_value.specs.declared.place.FuncNo.{FuncNo}
use Rattle.js_value.specs.declared.place.Place.{Place}
use Rattle.js_tree.specs.declared.expression.Expr.{Expr}
use Rattle.js_tree.specs.declared.expression.ExprForm.TheOpen.{ExprForm-F, Field-F}
use Rattle.js_tree.specs.declared.expression.ExprForm.TheFolds.{map-ExprForm, map-Field}
use Rattle.js_tree.specs.Mentions as M
use Rattle.js_tree.specs.Mentions.{Mention, Mentioned, FieldMentions, Property, all_of, repeated}
use Rattle.js_tree.specs.Refusals.{place}
use Rattle.reading_back.specs.Unplaced as unplaced
use Rattle.early_back.proofs.Forgotten.{forgotten, forget_property, joins, repeated_is}
use Rattle.early_back.proofs.RelatedExpressions as R

abbrev At : Type 0
At = Place → Mentioned

-- the same but for places
abbrev pub Same : Mentioned → Mentioned → Type 0
Same m n = (m.0 ≡ forgotten n.0) × (m.1 ≡ forgotten n.1)

abbrev SameAt : At → At → Type 0
SameAt m n = (at : Place) → Same (m (place 0)) (n at)

abbrev SameField : FieldMentions → FieldMentions → Type 0
SameField m n = (m.0 ≡ forget_property n.0) × (m.1 ≡ forgotten n.1)

abbrev Exprs : Type 0
Exprs = R.Two Same

abbrev Fields : Type 0
Fields = R.Two SameField

abbrev Layer : Type 0
Layer = ExprForm-F (R.Two SameAt) Fields Exprs

abbrev left : Layer → ExprForm-F At FieldMentions Mentioned
left = map-ExprForm (R.Two SameAt) Fields Exprs At FieldMentions Mentioned (λ p. p.0) (λ p. p.0) (λ p. p.0)

abbrev right : Layer → ExprForm-F At FieldMentions Mentioned
right = map-ExprForm (R.Two SameAt) Fields Exprs At FieldMentions Mentioned (λ p. p.1) (λ p. p.1) (λ p. p.1)

abbrev FieldLayer : Type 0
FieldLayer = Field-F (R.Two SameAt) Fields Exprs

abbrev left_field : FieldLayer → Field-F At FieldMentions Mentioned
left_field = map-Field (R.Two SameAt) Fields Exprs At FieldMentions Mentioned (λ p. p.0) (λ p. p.0) (λ p. p.0)

abbrev right_field : FieldLayer → Field-F At FieldMentions Mentioned
right_field = map-Field (R.Two SameAt) Fields Exprs At FieldMentions Mentioned (λ p. p.1) (λ p. p.1) (λ p. p.1)

-- ---- lists of parts

all_are : (ps : List Exprs) → all_of (map (λ (p : Exprs). p.0) ps) ≡ forgotten (all_of (map (λ (p : Exprs). p.1) ps))
all_are [] = refl
all_are (p ∷ ps) = joins p.0.0 (all_of (map (λ (p : Exprs). p.0) ps)) p.1.0 (all_of (map (λ (p : Exprs). p.1) ps)) p.2.0 (all_are ps)

inside_fields : (ps : List Fields) → flat_map (λ (f : FieldMentions). f.1) (map (λ (p : Fields). p.0) ps) ≡ forgotten (flat_map (λ (f : FieldMentions). f.1) (map (λ (p : Fields). p.1) ps))
inside_fields [] = refl
inside_fields (p ∷ ps) =
    joins p.0.1 (flat_map (λ (f : FieldMentions). f.1) (map (λ (p : Fields). p.0) ps)) p.1.1 (flat_map (λ (f : FieldMentions). f.1) (map (λ (p : Fields). p.1) ps)) p.2.1 (inside_fields ps)

properties : (ps : List Fields) → map (λ (f : FieldMentions). f.0) (map (λ (p : Fields). p.0) ps) ≡ map forget_property (map (λ (f : FieldMentions). f.0) (map (λ (p : Fields). p.1) ps))
properties [] = refl
properties (p ∷ ps) =
    ap (λ (q : Property). q ∷ map (λ (f : FieldMentions). f.0) (map (λ (p : Fields). p.0) ps)) p.2.0
    ∙ ap (λ qs. forget_property p.1.0 ∷ qs) (properties ps)

object_is : (ps : List Fields)
    → flat_map (λ (f : FieldMentions). f.1) (map (λ (p : Fields). p.0) ps) ++ repeated [] (map (λ (f : FieldMentions). f.0) (map (λ (p : Fields). p.0) ps))
    ≡ forgotten (flat_map (λ (f : FieldMentions). f.1) (map (λ (p : Fields). p.1) ps) ++ repeated [] (map (λ (f : FieldMentions). f.0) (map (λ (p : Fields). p.1) ps)))
object_is ps = joins _ _ _ _ (inside_fields ps) (ap (repeated []) (properties ps) ∙ repeated_is [] (map (λ (f : FieldMentions). f.0) (map (λ (p : Fields). p.1) ps)))

-- by what is inside functions
module _ (inside declared unplaced_inside unplaced_declared : FuncNo → List Mention) (inside_is : (f : FuncNo) → unplaced_inside f ≡ forgotten (inside f)) where
  twice : (m n : List Mention) → m ≡ forgotten n → Same (M.both m) (M.both n)
  twice m n h = (h, h)

  elements : (ps : List (Option Exprs)) (at : Place)
      → (M.form_mentions unplaced_inside unplaced_declared (left (ExprForm-F.ArrayLit ps)) (place 0)).0 ≡ forgotten (M.form_mentions inside declared (right (ExprForm-F.ArrayLit ps)) at).0
  elements [] at = refl
  elements (None ∷ ps) at = elements ps at
  elements (Some p ∷ ps) at = joins p.0.0 _ p.1.0 _ p.2.0 (elements ps at)

  forms : (y : Layer) → SameAt (M.form_mentions unplaced_inside unplaced_declared (left y)) (M.form_mentions inside declared (right y))
  forms ExprForm-F.This at = (refl, refl)
  forms (ExprForm-F.Name text) at = (refl, refl)
  forms (ExprForm-F.Literal value) at = (refl, refl)
  forms (ExprForm-F.ArrayLit ps) at = (elements ps at, elements ps at)
  forms (ExprForm-F.ObjectLit ps) at = (object_is ps, object_is ps)
  forms (ExprForm-F.Func f) at = (inside_is f, inside_is f)
  forms (ExprForm-F.Member a key) at = (a.2.0, a.2.0)
  forms (ExprForm-F.Index a b) at = twice _ _ (joins a.0.0 b.0.0 a.1.0 b.1.0 a.2.0 b.2.0)
  forms (ExprForm-F.Call a ps) at = twice _ _ (joins a.0.0 _ a.1.0 _ a.2.0 (all_are ps))
  forms (ExprForm-F.New a ps) at = twice _ _ (joins a.0.0 _ a.1.0 _ a.2.0 (all_are ps))
  forms (ExprForm-F.Unary op a) at = (a.2.0, a.2.0)
  forms (ExprForm-F.Binary op a b) at = twice _ _ (joins a.0.0 b.0.0 a.1.0 b.1.0 a.2.0 b.2.0)
  forms (ExprForm-F.Logic op a b) at = twice _ _ (joins a.0.0 b.0.0 a.1.0 b.1.0 a.2.0 b.2.0)
  forms (ExprForm-F.Conditional t a b) at = twice _ _ (joins (t.0.0 ++ a.0.0) b.0.0 (t.1.0 ++ a.1.0) b.1.0 (joins t.0.0 a.0.0 t.1.0 a.1.0 t.2.0 a.2.0) b.2.0)
  forms (ExprForm-F.Assign a op b) at = twice _ _ (joins a.0.1 b.0.0 a.1.1 b.1.0 a.2.1 b.2.0)
  forms (ExprForm-F.Step op a) at = (a.2.1, a.2.1)
  forms (ExprForm-F.Comma a b) at = twice _ _ (joins a.0.0 b.0.0 a.1.0 b.1.0 a.2.0 b.2.0)
  forms (ExprForm-F.Input kind text) at = (refl, refl)
  forms (ExprForm-F.HostCall kind text ps) at = (all_are ps, all_are ps)

  fields : (y : FieldLayer) → SameField (M.field_mentions unplaced_inside unplaced_declared (R.forget_field (left_field y))) (M.field_mentions inside declared (right_field y))
  fields (Field-F.Value at key x) = (refl, x.2.0)
  fields (Field-F.Getter at key f) = (refl, inside_is f)
  fields (Field-F.Setter at key f) = (refl, inside_is f)

  each : R.EachForm (M.form_mentions inside declared) (M.field_mentions inside declared) (λ x. x.form x.at) (M.form_mentions unplaced_inside unplaced_declared) (M.field_mentions unplaced_inside unplaced_declared) (λ x. x.form x.at) SameAt SameField Same
  each = record { forms = forms; fields = fields; exprs = λ at p. p.2 at }

  pub expr_is : (x : Expr) → Same (M.expr_mentions unplaced_inside unplaced_declared (unplaced.expr x)) (M.expr_mentions inside declared x)
  expr_is = R.related _ _ _ _ _ _ SameAt SameField Same each

  pub maybe_is : (o : Option Expr) → M.maybe_mentions unplaced_inside unplaced_declared (option_map unplaced.expr o) ≡ forgotten (M.maybe_mentions inside declared o)
  maybe_is None = refl
  maybe_is (Some x) = (expr_is x).0
