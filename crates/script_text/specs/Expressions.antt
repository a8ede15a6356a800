-- The tokens of expressions as they are printed (11), with parentheses where a part is looser than its place takes.
use Rattle.std.specs.Prelude.{ℕ, ◌+◌, ◌-◌, ◌&&◌, ◌||◌, Bool, true, false, not, if◌then◌else◌, nat_lt, List, [], ◌∷◌, ◌++◌, length, slice_get, codes, Option, Some, None}
use Rattle.std.specs.List.{list_all}
use Rattle.std.specs.Option.{option_map}
use Rattle.js_value.specs.declared.place.FuncNo.{FuncNo}
use Rattle.js_value.specs.declared.primitive.Kind.{Kind}
use Rattle.js_value.specs.declared.primitive.Kind.TheVariants as kind
use Rattle.js_value.specs.declared.primitive.Primitive.{Primitive}
use Rattle.js_value.specs.declared.primitive.Primitive.TheVariants as primitive
use Rattle.js_value.specs.declared.operator.BinaryOp.{BinaryOp}
use Rattle.js_value.specs.declared.operator.BinaryOp.TheVariants as binary
use Rattle.js_value.specs.declared.operator.UnaryOp.{UnaryOp}
use Rattle.js_value.specs.declared.operator.UnaryOp.TheVariants as unary
use Rattle.js_tree.specs.Lexing.{is_name_start, is_name_part}
use Rattle.js_tree.specs.declared.expression.LogicOp.{LogicOp}
use Rattle.js_tree.specs.declared.expression.LogicOp.TheVariants as logic
use Rattle.js_tree.specs.declared.expression.StepOp.{StepOp}
use Rattle.js_tree.specs.declared.expression.StepOp.TheVariants as step
use Rattle.js_tree.specs.declared.expression.Expr.{Expr, fold-Expr}
use Rattle.js_tree.specs.declared.expression.Field.{Field, fold-Field}
use Rattle.js_tree.specs.declared.expression.ExprForm.{ExprForm, fold-ExprForm}
use Rattle.js_tree.specs.declared.expression.ExprForm.TheOpen.{ExprForm-F, Field-F}
use Rattle.script_text.specs.declared.gap.Gap.{Gap}
use Rattle.script_text.specs.declared.gap.Gap.TheVariants.{Tight, Loose}
use Rattle.script_text.specs.Pieces.{Piece, Reference, Named, Quoted, Number, word, closing, opening, inner, prefix, behind_commas, separated}

-- ---- names, keys and literals (7.6, 7.8)

abbrev pub name : List ℕ → List Piece
name units = Named units Loose ∷ []

abbrev pub reference : List ℕ → List Piece
reference units = Reference units ∷ []

abbrev pub string : List ℕ → List Piece
string units = Quoted units Loose ∷ []

abbrev pub literal : Primitive → List Piece
literal primitive.Undefined = word (codes "undefined")
literal primitive.Null = word (codes "null")
literal (primitive.Boolean b) = word (if b then codes "true" else codes "false")
literal (primitive.Number n) = Number n ∷ []
literal (primitive.Text units) = string units

-- an identifier name of ASCII alone
abbrev pub is_ascii_start : ℕ → Bool
is_ascii_start u = nat_lt u 128 && is_name_start u

abbrev pub is_ascii_part : ℕ → Bool
is_ascii_part u = nat_lt u 128 && is_name_part u

abbrev pub are_ascii_parts : List ℕ → Bool
are_ascii_parts units = list_all is_ascii_part units

abbrev pub is_ascii_name : List ℕ → Bool
is_ascii_name [] = false
is_ascii_name (u ∷ us) = is_ascii_start u && are_ascii_parts us

-- a key of a literal is written as an identifier name where it is one of ASCII, else as a string
abbrev pub key_before : Gap → List ℕ → List Piece
key_before behind key = if is_ascii_name key then Named key behind ∷ [] else Quoted key behind ∷ []

-- a name that the parenthesis of parameters follows
abbrev pub called : List ℕ → List Piece
called units = Named units Tight ∷ []

-- ---- operators

abbrev pub operator : BinaryOp → List ℕ
operator binary.Add = codes "+"
operator binary.Sub = codes "-"
operator binary.Mul = codes "*"
operator binary.Div = codes "/"
operator binary.Rem = codes "%"
operator binary.Shl = codes "<<"
operator binary.Sar = codes ">>"
operator binary.Shr = codes ">>>"
operator binary.BitAnd = codes "&"
operator binary.BitOr = codes "|"
operator binary.BitXor = codes "^"
operator binary.Less = codes "<"
operator binary.Greater = codes ">"
operator binary.LessEqual = codes "<="
operator binary.GreaterEqual = codes ">="
operator binary.Equal = codes "=="
operator binary.NotEqual = codes "!="
operator binary.Same = codes "==="
operator binary.NotSame = codes "!=="
operator binary.In = codes "in"
operator binary.InstanceOf = codes "instanceof"

abbrev pub logic_operator : LogicOp → List ℕ
logic_operator logic.And = codes "&&"
logic_operator logic.Or = codes "||"

abbrev pub assignment_operator : Option BinaryOp → List ℕ
assignment_operator None = codes "="
assignment_operator (Some op) = operator op ++ codes "="

abbrev pub unary_operator : UnaryOp → List Piece
unary_operator unary.Plus = prefix (codes "+")
unary_operator unary.Minus = prefix (codes "-")
unary_operator unary.Not = prefix (codes "!")
unary_operator unary.BitNot = prefix (codes "~")
unary_operator unary.TypeOf = word (codes "typeof")
unary_operator unary.Void = word (codes "void")
unary_operator unary.Delete = word (codes "delete")

-- ---- levels, from loose to tight: 1 comma, 2 assignment, 3 conditional, 4 to 13 operators with two operands, 14 prefix
-- operators, 15 postfix operators, 16 calls, `new` and members, 17 primary expressions

abbrev pub binary_level : BinaryOp → ℕ
binary_level binary.Mul = 13
binary_level binary.Div = 13
binary_level binary.Rem = 13
binary_level binary.Add = 12
binary_level binary.Sub = 12
binary_level binary.Shl = 11
binary_level binary.Sar = 11
binary_level binary.Shr = 11
binary_level binary.Less = 10
binary_level binary.Greater = 10
binary_level binary.LessEqual = 10
binary_level binary.GreaterEqual = 10
binary_level binary.InstanceOf = 10
binary_level binary.In = 10
binary_level binary.Equal = 9
binary_level binary.NotEqual = 9
binary_level binary.Same = 9
binary_level binary.NotSame = 9
binary_level binary.BitAnd = 8
binary_level binary.BitXor = 7
binary_level binary.BitOr = 6

abbrev pub logic_level : LogicOp → ℕ
logic_level logic.And = 5
logic_level logic.Or = 4

abbrev pub is_postfix : StepOp → Bool
is_postfix step.PreUp = false
is_postfix step.PreDown = false
is_postfix step.PostUp = true
is_postfix step.PostDown = true

abbrev pub level : {A B C : Type 0} → ExprForm-F A B C → ℕ
level (ExprForm-F.Comma a b) = 1
level (ExprForm-F.Assign a op b) = 2
level (ExprForm-F.Conditional test a b) = 3
level (ExprForm-F.Logic op a b) = logic_level op
level (ExprForm-F.Binary op a b) = binary_level op
level (ExprForm-F.Unary op a) = 14
level (ExprForm-F.Step op a) = if is_postfix op then 15 else 14
level (ExprForm-F.Call callee args) = 16
level (ExprForm-F.New callee args) = 16
level (ExprForm-F.Member object key) = 16
level (ExprForm-F.Index object key) = 16
level _ = 17

-- ---- an expression without parentheses around it

pub record Printed : Type 0 where
  pub level : ℕ
  pub is_number : Bool
  -- it is an operator `in`
  pub is_in : Bool
  -- it has a call outside brackets
  pub calls : Bool
  -- its first token is `{`, `function` or a string
  pub starts : Bool
  -- its tokens, by whether `in` is an operator where it stands
  pub pieces : Bool → List Piece

-- its tokens, where `in` is an operator or not
unfoldable pub tokens : Printed → Bool → List Piece
tokens p allows_in = p.pieces allows_in

abbrev pub grouped : List Piece → List Piece
grouped pieces = opening (codes "(") ++ pieces ++ closing (codes ")")

-- `in` is an operator inside parentheses
abbrev pub if_grouped : Bool → Bool → Printed → List Piece
if_grouped true allows_in p = grouped (tokens p true)
if_grouped false allows_in p = tokens p allows_in

-- where an expression of at least a level is taken; in the first part of a `for` header an operator `in` is grouped
abbrev pub at : ℕ → Bool → Printed → List Piece
at wanted allows_in p = if_grouped (nat_lt p.level wanted || p.is_in && not allows_in) allows_in p

-- before a point, where a number is grouped (7.8.3)
abbrev pub object : Bool → Printed → List Piece
object allows_in p = if_grouped (nat_lt p.level 16 || p.is_number) allows_in p

-- 11.2.2: `new` takes the first arguments behind it, so that a call in its callee is grouped
abbrev pub callee_of_new : Bool → Printed → List Piece
callee_of_new allows_in p = if_grouped (nat_lt p.level 16 || p.calls) allows_in p

-- an argument, an element, an initialiser or the value of a property
abbrev pub value : Printed → List Piece
value p = at 2 true p

-- ---- what an expression is

abbrev pub is_number : {A B C : Type 0} → ExprForm-F A B C → Bool
is_number (ExprForm-F.Literal (primitive.Number n)) = true
is_number _ = false

abbrev pub is_in : {A B C : Type 0} → ExprForm-F A B C → Bool
is_in (ExprForm-F.Binary binary.In a b) = true
is_in _ = false

abbrev pub calls : {A B : Type 0} → ExprForm-F A B Printed → Bool
calls (ExprForm-F.Call callee args) = true
calls (ExprForm-F.Member object key) = object.calls
calls (ExprForm-F.Index object key) = object.calls
calls _ = false

-- the first token of a part that isn't grouped
abbrev pub starts_at : ℕ → Printed → Bool
starts_at wanted p = not (nat_lt p.level wanted) && p.starts

abbrev pub starts : {A B : Type 0} → ExprForm-F A B Printed → Bool
starts (ExprForm-F.Literal (primitive.Text units)) = true
starts (ExprForm-F.ObjectLit fields) = true
starts (ExprForm-F.Func f) = true
starts (ExprForm-F.Member object key) = starts_at 16 object
starts (ExprForm-F.Index object key) = starts_at 16 object
starts (ExprForm-F.Call callee args) = starts_at 16 callee
starts (ExprForm-F.Binary op a b) = starts_at (binary_level op) a
starts (ExprForm-F.Logic op a b) = starts_at (logic_level op) a
starts (ExprForm-F.Conditional test a b) = starts_at 4 test
starts (ExprForm-F.Assign a op b) = starts_at 16 a
starts (ExprForm-F.Step op a) = is_postfix op && starts_at 16 a
starts (ExprForm-F.Comma a b) = starts_at 1 a
starts _ = false

-- ---- parts

abbrev pub element : Option Printed → List Piece
element None = []
element (Some p) = value p

-- 11.1.4: an elision at the end takes a comma of its own
abbrev pub is_elision : {X : Type 0} → Option (Option X) → Bool
is_elision (Some None) = true
is_elision _ = false

abbrev pub ends_in_elision : {X : Type 0} → List (Option X) → Bool
ends_in_elision items = is_elision (slice_get items (length items - 1))

abbrev pub last_comma : Bool → List Piece
last_comma true = closing (codes ",")
last_comma false = []

unfoldable pub index : Printed → List Piece
index key = inner (codes "[") ++ at 1 true key ++ closing (codes "]")

abbrev pub in_parentheses : List Piece → List Piece
in_parentheses args = inner (codes "(") ++ args ++ closing (codes ")")

-- `? a`, `: b`
unfoldable pub branch : List ℕ → Bool → Printed → List Piece
branch sign allows_in p = word sign ++ at 2 allows_in p

abbrev pub stepped : StepOp → Bool → Printed → List Piece
stepped step.PreUp allows_in a = prefix (codes "++") ++ at 14 allows_in a
stepped step.PreDown allows_in a = prefix (codes "--") ++ at 14 allows_in a
stepped step.PostUp allows_in a = at 16 allows_in a ++ closing (codes "++")
stepped step.PostDown allows_in a = at 16 allows_in a ++ closing (codes "--")

abbrev pub kind_text : Kind → List ℕ
kind_text kind.Number = codes "\"number\""
kind_text kind.Boolean = codes "\"boolean\""
kind_text kind.Text = codes "\"string\""

-- the two literals of an input or of a host call
unfoldable pub two_literals : Kind → List ℕ → List Piece
two_literals kind text = word (kind_text kind) ++ closing (codes ",") ++ string text

abbrev pub input : Kind → List ℕ → List Piece
input kind text = word (codes "__abstract") ++ inner (codes "(") ++ two_literals kind text ++ closing (codes ")")

abbrev pub host_call_start : Kind → List ℕ → List Piece
host_call_start kind text = word (codes "__residual") ++ inner (codes "(") ++ two_literals kind text

unfoldable pub host_call : Kind → List ℕ → List Piece → List Piece
host_call kind text args = host_call_start kind text ++ args ++ closing (codes ")")

-- ---- the forms (11)

-- The function gives the tokens of a function by its number, behind the word that begins it: with or without its name.
module _ (function : Bool → FuncNo → List Piece) where
  -- 11.1.5
  abbrev pub of_field : Field-F Printed (List Piece) Printed → List Piece
  of_field (Field-F.Value at key x) = key_before Loose key ++ closing (codes ":") ++ value x
  of_field (Field-F.Getter at key f) = word (codes "get") ++ key_before Tight key ++ function false f
  of_field (Field-F.Setter at key f) = word (codes "set") ++ key_before Tight key ++ function false f

  abbrev pub pieces : ExprForm-F Printed (List Piece) Printed → Bool → List Piece
  pieces ExprForm-F.This allows_in = word (codes "this")
  pieces (ExprForm-F.Name units) allows_in = reference units
  pieces (ExprForm-F.Literal value) allows_in = literal value
  pieces (ExprForm-F.ArrayLit items) allows_in =
      opening (codes "[") ++ separated element items ++ last_comma (ends_in_elision items) ++ closing (codes "]")
  pieces (ExprForm-F.ObjectLit fields) allows_in = opening (codes "{") ++ separated (λ f. f) fields ++ closing (codes "}")
  pieces (ExprForm-F.Func f) allows_in = word (codes "function") ++ function true f
  pieces (ExprForm-F.Member base key) allows_in = object allows_in base ++ inner (codes ".") ++ name key
  pieces (ExprForm-F.Index base key) allows_in = at 16 allows_in base ++ index key
  pieces (ExprForm-F.Call callee args) allows_in = at 16 allows_in callee ++ in_parentheses (separated value args)
  pieces (ExprForm-F.New callee args) allows_in =
      word (codes "new") ++ callee_of_new allows_in callee ++ in_parentheses (separated value args)
  pieces (ExprForm-F.Unary op a) allows_in = unary_operator op ++ at 14 allows_in a
  pieces (ExprForm-F.Binary op a b) allows_in =
      at (binary_level op) allows_in a ++ word (operator op) ++ at (binary_level op + 1) allows_in b
  pieces (ExprForm-F.Logic op a b) allows_in =
      at (logic_level op) allows_in a ++ word (logic_operator op) ++ at (logic_level op + 1) allows_in b
  pieces (ExprForm-F.Conditional test a b) allows_in =
      at 4 allows_in test ++ branch (codes "?") true a ++ branch (codes ":") allows_in b
  pieces (ExprForm-F.Assign a op b) allows_in = at 16 allows_in a ++ word (assignment_operator op) ++ at 2 allows_in b
  pieces (ExprForm-F.Step op a) allows_in = stepped op allows_in a
  pieces (ExprForm-F.Comma a b) allows_in = at 1 allows_in a ++ closing (codes ",") ++ at 2 allows_in b
  pieces (ExprForm-F.Input kind text) allows_in = input kind text
  pieces (ExprForm-F.HostCall kind text args) allows_in = host_call kind text (behind_commas value args)

  abbrev pub of_form : ExprForm-F Printed (List Piece) Printed → Printed
  of_form form = record {
    level = level form;
    is_number = is_number form;
    is_in = is_in form;
    calls = calls form;
    starts = starts form;
    pieces = pieces form;
  }

  abbrev pub printed_form : ExprForm → Printed
  printed_form = fold-ExprForm Printed (List Piece) Printed of_form of_field (λ e. e.form)

  abbrev pub printed_field : Field → List Piece
  printed_field = fold-Field Printed (List Piece) Printed of_form of_field (λ e. e.form)

  abbrev pub printed : Expr → Printed
  printed = fold-Expr Printed (List Piece) Printed of_form of_field (λ e. e.form)

  -- an expression where one of at least a level is taken
  abbrev pub expr : ℕ → Bool → Expr → List Piece
  expr wanted allows_in e = at wanted allows_in (printed e)

  abbrev pub argument : Expr → List Piece
  argument e = value (printed e)

  -- the inside of an array literal
  abbrev pub elements : List (Option Expr) → List Piece
  elements items = separated (λ e. element (option_map printed e)) items ++ last_comma (ends_in_elision items)

  abbrev pub maybe_expr : Option Expr → List Piece
  maybe_expr None = []
  maybe_expr (Some e) = expr 1 true e
