-- What it says of the parts that an expression is readable.
use Rattle.std.proofs.Common.{◌≡◌, ℕ, Bool, true, false, cond, List, refl, ap, sym, ◌∙◌}
use Rattle.std.specs.Prelude.{◌&&◌, not, Option, Some, None, is_none}
use Rattle.js_tree.specs.declared.expression.Expr.{Expr}
use Rattle.js_tree.specs.declared.expression.Field.{Field}
use Rattle.js_tree.specs.declared.expression.ExprForm.{ExprForm, out-ExprForm}
use Rattle.js_tree.specs.declared.expression.ExprForm.TheFolds.{map-ExprForm, fold_out-Expr, fold_out-ExprForm}
use Rattle.js_tree.specs.declared.expression.ExprForm.TheOpen.{ExprForm-F}
use Rattle.js_tree.specs.Lexing.{reserved_word}
use Rattle.js_tree.specs.declared.refusal.Feature.{Feature}
use Rattle.js_tree.specs.declared.refusal.Feature.TheVariants as feature
use Rattle.js_tree.specs.declared.statement.Func.{Func}
use Rattle.js_grammar.specs.Marks
use Rattle.js_grammar.specs.ReadableWords.{is_identifier}
use Rattle.reading_back.proofs.Words.{IsPlain}
use Rattle.js_value.specs.declared.operator.BinaryOp.{BinaryOp}
use Rattle.js_value.specs.declared.operator.BinaryOp.TheVariants as binary
use Rattle.js_value.specs.declared.operator.UnaryOp.{UnaryOp}
use Rattle.js_value.specs.declared.operator.UnaryOp.TheVariants as unary
use Rattle.js_grammar.specs.Expressions as E
use Rattle.js_grammar.specs.ReadableExpressions.{ReadExpr, of_form, of_field, in_form, in_field, in_expr, is_delete}
use Rattle.js_grammar.specs.Reading.{grammar}
use Rattle.script_text.specs.Expressions.{Printed, is_in}
use Rattle.script_text.specs.Pieces.{Piece}
use Rattle.reading_back.proofs.Joining.{is_in_op}
use Rattle.reading_back.proofs.Same.{Layer, name_layer, target_layer, name_is, target_is}

abbrev form_name_by : Bool → Bool → Option Feature
form_name_by a b = cond a (Some feature.AbstractForm) (cond b (Some feature.ResidualForm) None)

pub both : (a b : Bool) → (a && b) ≡ true → (a ≡ true) × (b ≡ true)
both true b e = (refl, e)
both false b e = absurd (cc)

module _ (functions : List Func) where
  abbrev mapped : Layer → ExprForm-F ReadExpr Bool ReadExpr
  mapped = map-ExprForm ExprForm Field Expr ReadExpr Bool ReadExpr (in_form functions) (in_field functions) (in_expr functions)

  expr_is : (x : Expr) → in_expr functions x ≡ of_form functions (mapped (out-ExprForm x.form))
  expr_is x = fold_out-Expr ReadExpr Bool ReadExpr (of_form functions) (of_field functions) (λ y. y.form) x ∙ fold_out-ExprForm ReadExpr Bool ReadExpr (of_form functions) (of_field functions) (λ y. y.form) x.form

  layer_name : (l : Layer) → (of_form functions (mapped l)).is_name ≡ name_layer l
  layer_name (ExprForm-F.Name text) = refl
  layer_name l = refl

  layer_target : (l : Layer) → (of_form functions (mapped l)).is_target ≡ target_layer l
  layer_target (ExprForm-F.Name text) = refl
  layer_target (ExprForm-F.Member object key) = refl
  layer_target (ExprForm-F.Index object key) = refl
  layer_target l = refl

  -- a name, or a target, as reading takes it
  pub read_name : (x : Expr) → (in_expr functions x).is_name ≡ E.is_name x
  read_name x = ap (λ (r : ReadExpr). r.is_name) (expr_is x) ∙ layer_name (out-ExprForm x.form) ∙ sym (name_is x)

  pub read_target : (x : Expr) → (in_expr functions x).is_target ≡ E.is_target x
  read_target x = ap (λ (r : ReadExpr). r.is_target) (expr_is x) ∙ layer_target (out-ExprForm x.form) ∙ sym (target_is x)

delete_is : (op : UnaryOp) → E.is_delete grammar op ≡ is_delete op
delete_is unary.Plus = refl
delete_is unary.Minus = refl
delete_is unary.Not = refl
delete_is unary.BitNot = refl
delete_is unary.TypeOf = refl
delete_is unary.Void = refl
delete_is unary.Delete = refl

pub not_true : (b : Bool) → not b ≡ true → b ≡ false
not_true true e = absurd (cc)
not_true false e = refl

-- 11.4.1: the operand of `delete` is no name
pub no_deleted_name : (functions : List Func) (op : UnaryOp) (x : Expr) → not (is_delete op && (in_expr functions x).is_name) ≡ true → (E.is_delete grammar op && E.is_name x) ≡ false
no_deleted_name functions op x e =
    ap (λ b. b && E.is_name x) (delete_is op) ∙ ap (λ b. is_delete op && b) (sym (read_name functions x)) ∙ not_true (is_delete op && (in_expr functions x).is_name) e

-- 11.8
pub is_in_is : (op : BinaryOp) (a b : Printed) → let x : ExprForm-F Printed (List Piece) Printed = ExprForm-F.Binary op a b in is_in x ≡ is_in_op op
is_in_is binary.Add a b = refl
is_in_is binary.Sub a b = refl
is_in_is binary.Mul a b = refl
is_in_is binary.Div a b = refl
is_in_is binary.Rem a b = refl
is_in_is binary.Shl a b = refl
is_in_is binary.Sar a b = refl
is_in_is binary.Shr a b = refl
is_in_is binary.BitAnd a b = refl
is_in_is binary.BitOr a b = refl
is_in_is binary.BitXor a b = refl
is_in_is binary.Less a b = refl
is_in_is binary.Greater a b = refl
is_in_is binary.LessEqual a b = refl
is_in_is binary.GreaterEqual a b = refl
is_in_is binary.Equal a b = refl
is_in_is binary.NotEqual a b = refl
is_in_is binary.Same a b = refl
is_in_is binary.NotSame a b = refl
is_in_is binary.In a b = refl
is_in_is binary.InstanceOf a b = refl

pub no_feature : {A : Type 0} (o : Option A) → is_none o ≡ true → o ≡ None
no_feature None e = refl
no_feature (Some a) e = absurd (cc)

neither : (a b : Bool) → form_name_by a b ≡ None → (a ≡ false) × (b ≡ false)
neither true b e = absurd (cc)
neither false true e = absurd (cc)
neither false false e = (refl, refl)

-- 7.6.1: an identifier is read as a name
pub plain_name : (text : List ℕ) → is_identifier text ≡ true → IsPlain text
plain_name text e =
    let a = both _ _ e in
    let b = both _ _ a.0 in
    let c = both _ _ b.0 in
    let n = neither (Marks.is_abstract text) (Marks.is_residual text) (no_feature (Marks.form_name text) a.1) in
    record { no_word = no_feature (reserved_word text) c.1; no_input = n.0; no_call = n.1; no_bar = no_feature (Marks.barred text) b.1 }
