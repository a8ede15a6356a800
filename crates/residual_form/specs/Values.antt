-- Operands and values: what is assigned and read in a residual.
use Rattle.std.specs.Prelude.{ℕ, ◌&&◌, ◌||◌, Bool, true, false, not, List, [], ◌∷◌, map, Option, Some, None, is_none, codes}
use Rattle.std.specs.List.{list_all}
use Rattle.std.specs.Str.{bytes_eq}
use Rattle.js_value.specs.declared.place.FuncNo.{FuncNo}
use Rattle.js_value.specs.declared.primitive.Primitive.{Primitive}
use Rattle.js_value.specs.declared.primitive.Primitive.TheVariants as primitive
use Rattle.js_value.specs.declared.operator.UnaryOp.TheVariants as unary
use Rattle.js_tree.specs.declared.expression.Expr.{Expr, fold-Expr}
use Rattle.js_tree.specs.declared.expression.Field.{Field, fold-Field}
use Rattle.js_tree.specs.declared.expression.ExprForm.{ExprForm, fold-ExprForm}
use Rattle.js_tree.specs.declared.expression.ExprForm.TheOpen.{ExprForm-F, Field-F}
use Rattle.js_tree.specs.declared.statement.Func.{Func}
use Rattle.js_tree.specs.Mentions.{item_for}
use Rattle.residual_form.specs.declared.paths.TheConstants.{CREATE}
use Rattle.residual_form.specs.Bodies.{Body, is_temporary, is_bound}

-- undefined is a primitive literal by its name
abbrev pub is_operand_name : Body → List ℕ → Bool
is_operand_name b name = is_temporary b name || bytes_eq name (codes "undefined")

-- null, a boolean, a string other than `__proto__`, a number
abbrev pub is_literal : Primitive → Bool
is_literal (primitive.Text units) = not (bytes_eq units (codes "__proto__"))
is_literal value = true

abbrev pub is_number : Primitive → Bool
is_number (primitive.Number n) = true
is_number _ = false

abbrev pub has_name : Option Func → Bool
has_name None = true
has_name (Some f) = not (is_none f.name)

-- a function of the script behind the wrapper's own, which is the first one, without a name
abbrev pub is_nameless : List Func → FuncNo → Bool
is_nameless inner f = not (has_name (item_for 1 inner f))

-- What an expression is: a number literal, a temporary bound to `Object.create`, an operand, a value.
pub record Part : Type 0 where
  pub number : Bool
  pub creator : Bool
  pub operand : Bool
  pub value : Bool

-- an operand, which is a value too, where this holds
abbrev pub operand_if : Bool → Part
operand_if b = record { number = false; creator = false; operand = b; value = b }

-- a value that is no operand, where this holds
abbrev pub value_if : Bool → Part
value_if b = record { number = false; creator = false; operand = false; value = b }

abbrev pub is_item : Option Part → Bool
is_item None = false
is_item (Some p) = p.value

abbrev pub is_operand_alone : List Part → Bool
is_operand_alone (p ∷ []) = p.operand
is_operand_alone _ = false

module _ (b : Body) where
  abbrev pub of_form : ExprForm-F Part Bool Part → Part
  -- an operand: a temporary, `this`, or a primitive literal, a number also with `-`
  of_form ExprForm-F.This = operand_if true
  of_form (ExprForm-F.Name name) =
      record { number = false; creator = is_bound b (map (λ n. n.now) CREATE) name; operand = is_operand_name b name; value = is_operand_name b name }
  of_form (ExprForm-F.Literal v) = record { number = is_number v; creator = false; operand = is_literal v; value = is_literal v }
  of_form (ExprForm-F.Unary unary.Minus a) = operand_if a.number
  -- `A ? X : X`
  of_form (ExprForm-F.Conditional test x y) = value_if (test.operand && x.value && y.value)
  -- an array or object literal of values with data properties
  of_form (ExprForm-F.ArrayLit items) = value_if (list_all is_item items)
  of_form (ExprForm-F.ObjectLit fields) = value_if (list_all (λ f. f) fields)
  -- a function expression without a name
  of_form (ExprForm-F.Func f) = value_if (is_nameless b.inner f)
  -- `C(A)` with C bound to `Object.create`
  of_form (ExprForm-F.Call callee args) = value_if (callee.creator && is_operand_alone args)
  of_form _ = value_if false

  abbrev pub of_field : Field-F Part Bool Part → Bool
  of_field (Field-F.Value at key e) = e.value
  of_field _ = false

  abbrev pub in_form : ExprForm → Part
  in_form = fold-ExprForm Part Bool Part of_form of_field (λ e. e.form)

  abbrev pub in_field : Field → Bool
  in_field = fold-Field Part Bool Part of_form of_field (λ e. e.form)

  abbrev pub in_expr : Expr → Part
  in_expr = fold-Expr Part Bool Part of_form of_field (λ e. e.form)

  abbrev pub is_operand : Expr → Bool
  is_operand e = (in_expr e).operand

  abbrev pub is_value : Expr → Bool
  is_value e = (in_expr e).value

  abbrev pub is_item_of : Option Expr → Bool
  is_item_of None = false
  is_item_of (Some e) = is_value e

  abbrev pub is_one_operand : List Expr → Bool
  is_one_operand (e ∷ []) = is_operand e
  is_one_operand _ = false
