-- Expressions that reading can give (11).
use Rattle.std.specs.Prelude.{◌==◌, ◌&&◌, ℕ, Bool, true, false, not, List, length, slice_get, Option, Some, None, is_none}
use Rattle.std.specs.List.{list_all}
use Rattle.js_value.specs.declared.operator.BinaryOp.{BinaryOp}
use Rattle.js_value.specs.declared.operator.BinaryOp.TheVariants as binary
use Rattle.js_value.specs.declared.operator.UnaryOp.{UnaryOp}
use Rattle.js_value.specs.declared.operator.UnaryOp.TheVariants as unary
use Rattle.js_tree.specs.declared.expression.Expr.{Expr, fold-Expr}
use Rattle.js_tree.specs.declared.expression.Field.{Field, fold-Field}
use Rattle.js_tree.specs.declared.expression.ExprForm.{ExprForm, fold-ExprForm}
use Rattle.js_tree.specs.declared.expression.ExprForm.TheOpen.{ExprForm-F, Field-F}
use Rattle.js_tree.specs.declared.statement.Func.{Func}
use Rattle.js_grammar.specs.ReadableWords.{is_readable_text, is_identifier_name, is_identifier, is_readable_literal}

-- 11.1.5: the function of an accessor has no name, and so many parameters
abbrev pub is_accessor : ℕ → Option Func → Bool
is_accessor parameters None = false
is_accessor parameters (Some f) = is_none f.name && length f.params == parameters

-- whether reading can give an expression, whether it is a target, and whether it is a name
pub record ReadExpr : Type 0 where
  pub readable : Bool
  pub is_target : Bool
  pub is_name : Bool

abbrev pub value : Bool → ReadExpr
value readable = record { readable = readable; is_target = false; is_name = false }

abbrev pub member : Bool → ReadExpr
member readable = record { readable = readable; is_target = true; is_name = false }

abbrev pub are_readable : List ReadExpr → Bool
are_readable xs = list_all (λ (x : ReadExpr). x.readable) xs

abbrev pub is_element : Option ReadExpr → Bool
is_element None = true
is_element (Some x) = x.readable

-- 11.13.2: an operator that an assignment can be compounded with
abbrev pub is_compound : Option BinaryOp → Bool
is_compound None = true
is_compound (Some op) = elim op [
  | binary.Mul ↦ true
  | binary.Div ↦ true
  | binary.Rem ↦ true
  | binary.Add ↦ true
  | binary.Sub ↦ true
  | binary.Shl ↦ true
  | binary.Sar ↦ true
  | binary.Shr ↦ true
  | binary.BitAnd ↦ true
  | binary.BitXor ↦ true
  | binary.BitOr ↦ true
  | _ ↦ false
]

abbrev pub is_delete : UnaryOp → Bool
is_delete op = elim op [ unary.Delete ↦ true | _ ↦ false ]

module _ (functions : List Func) where
  abbrev pub of_field : Field-F ReadExpr Bool ReadExpr → Bool
  of_field (Field-F.Value at key x) = is_readable_text key && x.readable
  of_field (Field-F.Getter at key f) = is_readable_text key && is_accessor 0 (slice_get functions f.0)
  of_field (Field-F.Setter at key f) = is_readable_text key && is_accessor 1 (slice_get functions f.0)

  -- the operand of `delete` is no name (11.4.1), and that of `++` and `--` (11.3, 11.4.4, 11.4.5) and the first part of an
  -- assignment (11.13) are targets
  abbrev pub of_form : ExprForm-F ReadExpr Bool ReadExpr → ReadExpr
  of_form ExprForm-F.This = value true
  of_form (ExprForm-F.Name text) = record { readable = is_identifier text; is_target = true; is_name = true }
  of_form (ExprForm-F.Literal literal) = value (is_readable_literal literal)
  of_form (ExprForm-F.ArrayLit items) = value (list_all is_element items)
  of_form (ExprForm-F.ObjectLit fields) = value (list_all (λ b. b) fields)
  of_form (ExprForm-F.Func f) = value true
  of_form (ExprForm-F.Member object key) = member (object.readable && is_identifier_name key)
  of_form (ExprForm-F.Index object key) = member (object.readable && key.readable)
  of_form (ExprForm-F.Call callee args) = value (callee.readable && are_readable args)
  of_form (ExprForm-F.New callee args) = value (callee.readable && are_readable args)
  of_form (ExprForm-F.Unary op a) = value (a.readable && not (is_delete op && a.is_name))
  of_form (ExprForm-F.Binary op a b) = value (a.readable && b.readable)
  of_form (ExprForm-F.Logic op a b) = value (a.readable && b.readable)
  of_form (ExprForm-F.Conditional test a b) = value (test.readable && a.readable && b.readable)
  of_form (ExprForm-F.Assign a op b) = value (a.readable && a.is_target && is_compound op && b.readable)
  of_form (ExprForm-F.Step op a) = value (a.readable && a.is_target)
  of_form (ExprForm-F.Comma a b) = value (a.readable && b.readable)
  of_form (ExprForm-F.Input kind text) = value (is_readable_text text)
  of_form (ExprForm-F.HostCall kind text args) = value (is_readable_text text && are_readable args)

  abbrev pub in_form : ExprForm → ReadExpr
  in_form = fold-ExprForm ReadExpr Bool ReadExpr of_form of_field (λ x. x.form)

  abbrev pub in_field : Field → Bool
  in_field = fold-Field ReadExpr Bool ReadExpr of_form of_field (λ x. x.form)

  abbrev pub in_expr : Expr → ReadExpr
  in_expr = fold-Expr ReadExpr Bool ReadExpr of_form of_field (λ x. x.form)

  abbrev pub is_expr : Expr → Bool
  is_expr x = (in_expr x).readable

  abbrev pub is_maybe : Option Expr → Bool
  is_maybe None = true
  is_maybe (Some x) = is_expr x
