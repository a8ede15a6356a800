-- Primary expressions, members, `new` and calls (11.1, 11.2).
use Rattle.std.specs.Prelude.{ℕ, ◌&&◌, Bool, true, false, if◌then◌else◌, List, [], ◌∷◌, ◌++◌, Option, Some, None}
use Rattle.js_value.specs.declared.place.Place.{Place}
use Rattle.js_tree.specs.declared.expression.Expr.{Expr}
use Rattle.js_tree.specs.declared.expression.ExprForm.TheVariants as e
use Rattle.js_tree.specs.declared.expression.Field.{Field}
use Rattle.js_tree.specs.declared.expression.Field.TheVariants as field
use Rattle.js_tree.specs.declared.refusal.Feature.{Feature}
use Rattle.js_tree.specs.declared.refusal.Feature.TheVariants as feature
use Rattle.js_tree.specs.declared.token.TokenForm.{TokenForm}
use Rattle.js_grammar.specs.Rest.{Reading, ◌>>=◌, ◌>>◌, give, here, at_end, sees, sees_second, next, expect, unexpected, unless, unsupported}
use Rattle.js_grammar.specs.Rest.{repeat, part, finish}
use Rattle.js_grammar.specs.Marks
use Rattle.js_grammar.specs.Functions.{Grammar, function_expression, accessor, no_parameter, one_parameter}
use Rattle.js_grammar.specs.Operators

-- ---- the two forms for inputs and host calls

-- What stands next in such a form. The text may end there, but anything else makes it another shape.
abbrev pub in_shape : {A : Type 0} → Place → Feature → (TokenForm → Option A) → Reading A
in_shape at what want = do
  ended ← at_end
  if ended then unexpected else next want give (unsupported at what)

-- `("number", "n")`
unfoldable pub abstract_behind : Place → Reading Expr
abstract_behind at = do
  in_shape at feature.AbstractForm Marks.left_parenthesis
  part (do
    kind ← in_shape at feature.AbstractForm Marks.kind_string
    in_shape at feature.AbstractForm Marks.comma
    name ← in_shape at feature.AbstractForm Marks.string
    in_shape at feature.AbstractForm Marks.right_parenthesis
    finish at (e.Input kind name))

-- whether an argument follows
abbrev pub comma_or_end : TokenForm → Option Bool
comma_or_end t = elim (Marks.comma t) [ Some _ ↦ Some true | None ↦ elim (Marks.right_parenthesis t) [ Some _ ↦ Some false | None ↦ None ] ]

-- 11.1.2: a name, unless it is barred
abbrev pub name_behind : Place → List ℕ → Reading Expr
name_behind at text = unless at (Marks.barred text) (finish at (e.Name text))

-- 11.2.2, or no operand
unfoldable pub new_or_none : Place → Reading Expr → Reading Expr
new_or_none at new =
    next Marks.new_word (λ _. new) (
    next Operators.regular_expression (λ _. unsupported at feature.RegularExpression) unexpected)

module _ (g : Grammar) where
  -- 11.14: any expression, behind the first token of something around it
  abbrev pub more_commas : Bool → (Expr → Reading Expr) → Expr → Reading Expr
  more_commas allows_in again left = next Marks.comma (λ _. do
    right ← g.assignment allows_in
    both ← finish left.at (e.Comma left right)
    again both) (give left)

  unfoldable pub expression_by : Reading Expr → Bool → Reading Expr
  expression_by first allows_in = do
    left ← first
    repeat (more_commas allows_in) left

  abbrev pub expression : Reading Expr
  expression = expression_by (g.assignment true) true

  abbrev pub more_host_arguments : Place → (List Expr → Reading (List Expr)) → List Expr → Reading (List Expr)
  more_host_arguments at again so_far = do
    follows ← in_shape at feature.ResidualForm comma_or_end
    if follows then (do
      x ← g.assignment true
      again (so_far ++ (x ∷ []))) else give so_far

  -- `("number", "now", a, b)`
  unfoldable pub residual_behind : Place → Reading Expr
  residual_behind at = do
    in_shape at feature.ResidualForm Marks.left_parenthesis
    part (do
      kind ← in_shape at feature.ResidualForm Marks.kind_string
      in_shape at feature.ResidualForm Marks.comma
      name ← in_shape at feature.ResidualForm Marks.string
      args ← repeat (more_host_arguments at) []
      finish at (e.HostCall kind name args))

  -- ---- primary expressions (11.1)

  -- a name, or one of the two forms
  abbrev pub named_behind : Place → List ℕ → Reading Expr
  named_behind at text =
      if Marks.is_abstract text then abstract_behind at
      else (if Marks.is_residual text then residual_behind at else name_behind at text)

  -- 11.1.4: elements behind those so far, with a comma behind each that isn't the last, and elisions
  abbrev pub more_elements : (List (Option Expr) → Reading (List (Option Expr))) → List (Option Expr) → Reading (List (Option Expr))
  more_elements again so_far =
      next Marks.right_bracket (λ _. give so_far) (next Marks.comma (λ _. again (so_far ++ (None ∷ []))) (do
        x ← g.assignment true
        next Marks.comma (λ _. again (so_far ++ (Some x ∷ []))) (do
          expect Marks.right_bracket
          give (so_far ++ (Some x ∷ [])))))

  unfoldable pub array_behind : Place → Reading Expr
  array_behind at = do
    items ← part (repeat more_elements [])
    finish at (e.ArrayLit items)

  -- 11.1.5
  abbrev pub valued : Reading Field
  valued = do
    at ← here
    key ← expect Marks.property_name
    expect Marks.colon
    x ← g.assignment true
    give (field.Value at key x)

  abbrev pub getter : Reading Field
  getter = do
    start ← here
    expect Marks.identifier
    at ← here
    key ← expect Marks.property_name
    f ← accessor g start (no_parameter g)
    give (field.Getter at key f)

  abbrev pub setter : Reading Field
  setter = do
    start ← here
    expect Marks.identifier
    at ← here
    key ← expect Marks.property_name
    f ← accessor g start (one_parameter g)
    give (field.Setter at key f)

  -- `get` and `set` are names of properties too, where no name follows them
  unfoldable pub property : Reading Field
  property = do
    gets ← sees (Marks.accessor_word (Marks.get_word))
    sets ← sees (Marks.accessor_word (Marks.set_word))
    named ← sees_second Marks.property_name
    if gets && named then getter else (if sets && named then setter else valued)

  abbrev pub more_fields : (List Field → Reading (List Field)) → List Field → Reading (List Field)
  more_fields again so_far =
      next Marks.right_brace (λ _. give so_far) (do
        x ← property
        next Marks.comma (λ _. again (so_far ++ (x ∷ []))) (do
          expect Marks.right_brace
          give (so_far ++ (x ∷ []))))

  unfoldable pub object_behind : Place → Reading Expr
  object_behind at = do
    fields ← repeat more_fields []
    finish at (e.ObjectLit fields)

  -- 11.1.6
  unfoldable pub group_behind : Reading Expr
  group_behind = part (do
    x ← expression
    expect Marks.right_parenthesis
    give x)

  -- 13
  abbrev pub function_here : Place → Reading Expr
  function_here at = do
    f ← function_expression g at
    finish at (e.Func f)

  -- 11.1.4 to 11.1.6, or `new`
  unfoldable pub enclosed_or_new : Place → Reading Expr → Reading Expr
  enclosed_or_new at new =
      next Marks.left_bracket (λ _. array_behind at) (
      next Marks.left_brace (λ _. object_behind at) (
      next Marks.left_parenthesis (λ _. group_behind) (new_or_none at new)))

  abbrev pub primary_or_new : Reading Expr → Reading Expr
  primary_or_new new = do
    at ← here
    function ← sees Marks.function_word
    if function then function_here at else (
        next Marks.literal (λ f. finish at f) (
        next Marks.identifier (λ text. named_behind at text) (enclosed_or_new at new)))

  -- ---- members, `new`, calls (11.2)

  -- 11.2.4: arguments behind those so far, up to the parenthesis that closes
  abbrev pub more_arguments : (List Expr → Reading (List Expr)) → List Expr → Reading (List Expr)
  more_arguments again so_far = do
    x ← g.assignment true
    next Marks.comma (λ _. again (so_far ++ (x ∷ []))) (do
      expect Marks.right_parenthesis
      give (so_far ++ (x ∷ [])))

  unfoldable pub arguments_behind : Reading (List Expr)
  arguments_behind = part (next Marks.right_parenthesis (λ _. give []) (repeat more_arguments []))

  -- 11.2.2; without arguments it is as with none
  unfoldable pub new_behind : Place → Reading Expr
  new_behind at = do
    callee ← g.member
    args ← next Marks.left_parenthesis (λ _. arguments_behind) (give [])
    finish at (e.New callee args)

  abbrev pub operand : Reading Expr
  operand = do
    at ← here
    primary_or_new (new_behind at)

  -- 11.2.1
  abbrev pub index_behind : Expr → Reading Expr
  index_behind object = do
    key ← part (do
      x ← expression
      expect Marks.right_bracket
      give x)
    finish object.at (e.Index object key)

  abbrev pub dotted_behind : Expr → Reading Expr
  dotted_behind object = do
    key ← expect Marks.identifier_name
    finish object.at (e.Member object key)

  -- 11.2.3
  abbrev pub call_behind : Expr → Reading Expr
  call_behind callee = do
    args ← arguments_behind
    finish callee.at (e.Call callee args)

  abbrev pub more_members : Bool → (Expr → Reading Expr) → Expr → Reading Expr
  more_members calls again left = do
    opens ← sees Marks.left_parenthesis
    next Marks.dot (λ _. dotted_behind left >>= again) (
        next Marks.left_bracket (λ _. index_behind left >>= again) (
        if calls && opens then (do
          expect Marks.left_parenthesis
          call_behind left >>= again) else give left))

  -- 11.2: with calls, or as `new` takes it
  unfoldable pub member : Reading Expr
  member = operand >>= repeat (more_members false)

  unfoldable pub left_hand_side : Reading Expr
  left_hand_side = operand >>= repeat (more_members true)
