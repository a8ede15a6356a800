-- The tokens of an expression and of a field, the fold opened once.
use Rattle.std.proofs.Common.{◌≡◌, ◌∙◌, Bool, List}
use Rattle.js_value.specs.declared.place.FuncNo.{FuncNo}
use Rattle.js_tree.specs.declared.expression.Expr.{Expr}
use Rattle.js_tree.specs.declared.expression.Field.{Field, out-Field}
use Rattle.js_tree.specs.declared.expression.ExprForm.{ExprForm, out-ExprForm}
use Rattle.js_tree.specs.declared.expression.ExprForm.TheFolds.{map-ExprForm, map-Field, fold_out-ExprForm, fold_out-Field, fold_out-Expr}
use Rattle.script_text.specs.Expressions as E
use Rattle.script_text.specs.Expressions.{Printed}
use Rattle.script_text.specs.Pieces.{Piece}

module _ (function : Bool → FuncNo → List Piece) where
  abbrev pub printed_layer : Expr → Printed
  printed_layer e = E.of_form function (map-ExprForm ExprForm Field Expr Printed (List Piece) Printed (E.printed_form function) (E.printed_field function) (E.printed function) (out-ExprForm e.form))

  pub opened : (e : Expr) → E.printed function e ≡ printed_layer e
  opened e =
      fold_out-Expr Printed (List Piece) Printed (E.of_form function) (E.of_field function) (λ e. e.form) e
      ∙ fold_out-ExprForm Printed (List Piece) Printed (E.of_form function) (E.of_field function) (λ e. e.form) e.form

  pub field_opened : (f : Field) → E.printed_field function f
      ≡ E.of_field function (map-Field ExprForm Field Expr Printed (List Piece) Printed (E.printed_form function) (E.printed_field function) (E.printed function) (out-Field f))
  field_opened f = fold_out-Field Printed (List Piece) Printed (E.of_form function) (E.of_field function) (λ e. e.form) f
