-- Expressions (11.3 to 11.13), from tight to loose.
use Rattle.std.specs.Prelude.{◌&&◌, Bool, true, false, if◌then◌else◌, Option, Some, None, Ok}
use Rattle.std.specs.Option.{option_or}
use Rattle.js_value.specs.declared.place.Place.{Place}
use Rattle.js_value.specs.declared.operator.BinaryOp.{BinaryOp}
use Rattle.js_value.specs.declared.operator.UnaryOp.{UnaryOp}
use Rattle.js_value.specs.declared.operator.UnaryOp.TheVariants as unary_op
use Rattle.js_tree.specs.declared.expression.Expr.{Expr}
use Rattle.js_tree.specs.declared.expression.ExprForm.{out-ExprForm}
use Rattle.js_tree.specs.declared.expression.ExprForm.TheOpen.{ExprForm-F}
use Rattle.js_tree.specs.declared.expression.ExprForm.TheVariants as e
use Rattle.js_tree.specs.declared.expression.LogicOp.{LogicOp}
use Rattle.js_tree.specs.declared.expression.StepOp.{StepOp}
use Rattle.js_tree.specs.declared.refusal.Feature.TheVariants as feature
use Rattle.js_tree.specs.declared.refusal.ReadRefused.TheVariants.{Syntax}
use Rattle.js_tree.specs.declared.token.TokenForm.{TokenForm}
use Rattle.js_tree.specs.declared.token.Token.{Token}
use Rattle.js_grammar.specs.Rest.{Reading, ◌>>=◌, ◌>>◌, give, here, next, expect, refuse, unsupported, on_later_line, repeat, part, finish}
use Rattle.js_grammar.specs.Marks
use Rattle.js_grammar.specs.Functions.{Grammar}
use Rattle.js_grammar.specs.Operators
use Rattle.js_grammar.specs.Primary.{left_hand_side}

-- ---- targets: a name or a member (11.13.1, 11.3, 11.4.4, 12.6.4)

abbrev pub is_target : Expr → Bool
is_target x = elim (out-ExprForm x.form)
    [ ExprForm-F.Name text ↦ true | ExprForm-F.Member object key ↦ true | ExprForm-F.Index object key ↦ true | _ ↦ false ]

abbrev pub if_target : {A : Type 0} → Expr → Reading A → Reading A
if_target x read = if is_target x then read else refuse (Syntax x.at)

abbrev pub is_name : Expr → Bool
is_name x = elim (out-ExprForm x.form) [ ExprForm-F.Name text ↦ true | _ ↦ false ]

-- the token directly before is a postfix operator, where it ends an expression
abbrev pub is_postfix : Option Token → Bool
is_postfix None = false
is_postfix (Some t) = elim (Operators.postfix_operator t.form) [ None ↦ false | Some op ↦ true ]

abbrev pub behind_postfix : Reading Bool
behind_postfix = λ s. Ok (is_postfix s.last, s)

module _ (g : Grammar) where
  -- ---- operators with one operand (11.3, 11.4)

  -- one on a later line belongs to what follows
  unfoldable pub postfix : Reading Expr
  postfix = do
    x ← left_hand_side g
    later ← on_later_line
    if later then give x else next Operators.postfix_operator (λ op. if_target x (finish x.at (e.Step op x))) (give x)

  abbrev pub is_delete : UnaryOp → Bool
  is_delete op = elim op [ unary_op.Delete ↦ true | _ ↦ false ]

  -- `delete` of a name isn't supported
  abbrev pub unary_behind : Place → UnaryOp → Reading Expr
  unary_behind at op = do
    x ← part g.unary
    if is_delete op && is_name x then unsupported at feature.DeleteName else finish at (e.Unary op x)

  abbrev pub step_behind : Place → StepOp → Reading Expr
  step_behind at op = do
    x ← part g.unary
    if_target x (finish at (e.Step op x))

  unfoldable pub unary : Reading Expr
  unary = do
    at ← here
    next Operators.unary_operator (unary_behind at) (next Operators.prefix_step (step_behind at) postfix)

  -- ---- operators with two operands (11.5 to 11.11), grouped to the left

  abbrev pub more_binary : (TokenForm → Option BinaryOp) → Reading Expr → (Expr → Reading Expr) → Expr → Reading Expr
  more_binary operator tighter again left = next operator (λ op. do
    right ← tighter
    both ← finish left.at (e.Binary op left right)
    again both) (give left)

  abbrev pub binary_level : (TokenForm → Option BinaryOp) → Reading Expr → Reading Expr
  binary_level operator tighter = tighter >>= repeat (more_binary operator tighter)

  abbrev pub more_logic : (TokenForm → Option LogicOp) → Reading Expr → (Expr → Reading Expr) → Expr → Reading Expr
  more_logic operator tighter again left = next operator (λ op. do
    right ← tighter
    both ← finish left.at (e.Logic op left right)
    again both) (give left)

  abbrev pub logic_level : (TokenForm → Option LogicOp) → Reading Expr → Reading Expr
  logic_level operator tighter = tighter >>= repeat (more_logic operator tighter)

  -- 11.5
  unfoldable pub multiplicative : Reading Expr
  multiplicative = binary_level Operators.multiplicative_operator unary

  -- 11.6
  unfoldable pub additive : Reading Expr
  additive = binary_level Operators.additive_operator multiplicative

  -- 11.7
  unfoldable pub shift : Reading Expr
  shift = binary_level Operators.shift_operator additive

  -- 11.8, with `in` where it is an operator
  abbrev pub relational_operator : Bool → TokenForm → Option BinaryOp
  relational_operator allows_in t = option_or (Operators.relational_operator t) (if allows_in then Operators.in_operator t else None)

  unfoldable pub relational : Bool → Reading Expr
  relational allows_in = binary_level (relational_operator allows_in) shift

  -- 11.9
  unfoldable pub equality : Bool → Reading Expr
  equality allows_in = binary_level Operators.equality_operator (relational allows_in)

  -- 11.10
  unfoldable pub bit_and : Bool → Reading Expr
  bit_and allows_in = binary_level Operators.bit_and_operator (equality allows_in)

  unfoldable pub bit_xor : Bool → Reading Expr
  bit_xor allows_in = binary_level Operators.bit_xor_operator (bit_and allows_in)

  unfoldable pub bit_or : Bool → Reading Expr
  bit_or allows_in = binary_level Operators.bit_or_operator (bit_xor allows_in)

  -- 11.11
  unfoldable pub logical_and : Bool → Reading Expr
  logical_and allows_in = logic_level Operators.and_operator (bit_or allows_in)

  unfoldable pub logical_or : Bool → Reading Expr
  logical_or allows_in = logic_level Operators.or_operator (logical_and allows_in)

  -- 11.12: `in` is an operator in the middle part everywhere
  unfoldable pub conditional : Bool → Reading Expr
  conditional allows_in = do
    test ← logical_or allows_in
    next Marks.question (λ _. do
      yes_part ← part (g.assignment true)
      expect Marks.colon
      no_part ← part (g.assignment allows_in)
      finish test.at (e.Conditional test yes_part no_part)) (give test)

  -- ---- assignment (11.13)

  abbrev pub assigned : Bool → Expr → Option BinaryOp → Reading Expr
  assigned allows_in target op = if_target target (do
    value ← part (g.assignment allows_in)
    finish target.at (e.Assign target op value))

  -- An operator on a later line doesn't go on with an expression that ends in a postfix operator.
  unfoldable pub assignment : Bool → Reading Expr
  assignment allows_in = do
    x ← conditional allows_in
    later ← on_later_line
    stepped ← behind_postfix
    if later && stepped then give x else next Operators.assignment_operator (assigned allows_in x) (give x)
