-- Names and functions (13, 14).
use Rattle.std.specs.Prelude.{◌&&◌, Bool, true, false, if◌then◌else◌, List, [], ◌∷◌, ◌++◌, Option, Some, None, Ok}
use Rattle.std.specs.Option.{option_or}
use Rattle.js_value.specs.declared.place.Place.{Place}
use Rattle.js_value.specs.declared.place.FuncNo.{FuncNo}
use Rattle.js_value.specs.declared.primitive.Primitive.TheVariants as primitive
use Rattle.js_tree.specs.declared.expression.Expr.{Expr}
use Rattle.js_tree.specs.declared.expression.ExprForm.{out-ExprForm}
use Rattle.js_tree.specs.declared.expression.ExprForm.TheOpen.{ExprForm-F}
use Rattle.js_tree.specs.declared.refusal.Feature.TheVariants as feature
use Rattle.js_tree.specs.declared.statement.Name.{Name}
use Rattle.js_tree.specs.declared.statement.Func.{Func}
use Rattle.js_tree.specs.declared.statement.Stmt.{Stmt}
use Rattle.js_tree.specs.declared.statement.StmtForm.{out-StmtForm}
use Rattle.js_tree.specs.declared.statement.StmtForm.TheOpen.{StmtForm-F}
use Rattle.js_tree.specs.declared.token.Token.{Token}
use Rattle.js_grammar.specs.Rest.{Reading, ◌>>=◌, ◌>>◌, give, here, sees, next, expect, unless, unsupported, repeat, part, numbered}
use Rattle.js_grammar.specs.Marks.{left_brace, right_brace, left_parenthesis, right_parenthesis, comma, identifier, string, barred}
use Rattle.js_grammar.specs.Marks.{form_name, function_word, is_use_strict}

-- The productions that others refer to before they are defined. Each is used behind a token of the production that refers to it.
pub record Grammar : Type 0 where
  -- 11.13, with or without the operator `in`
  pub assignment : Bool → Reading Expr
  -- 11.4
  pub unary : Reading Expr
  -- 11.2
  pub member : Reading Expr
  -- 12
  pub statement : Reading Stmt
  -- 14: a statement or a function declaration
  pub element : Reading Stmt

-- a name that something declares
unfoldable pub declared_name : Reading Name
declared_name = do
  at ← here
  text ← expect identifier
  unless at (option_or (barred text) (form_name text)) (give (record { at = at; text = text }))

abbrev pub more_parameters : (List Name → Reading (List Name)) → List Name → Reading (List Name)
more_parameters again so_far = do
  name ← declared_name
  next comma (λ _. again (so_far ++ (name ∷ []))) (do
    expect right_parenthesis
    give (so_far ++ (name ∷ [])))

-- 13: names with commas between, up to the parenthesis that closes
unfoldable pub parameters : Reading (List Name)
parameters = next right_parenthesis (λ _. give []) (repeat more_parameters [])

-- ---- directive prologues (14.1)

abbrev pub is_string_literal : Expr → Bool
is_string_literal x = elim (out-ExprForm x.form) [ ExprForm-F.Literal value ↦ elim value [ primitive.Text text ↦ true | _ ↦ false ] | _ ↦ false ]

-- a statement of one string; parentheses before it leave no trace
abbrev pub is_string_statement : Stmt → Bool
is_string_statement t = elim (out-StmtForm t.form) [ StmtForm-F.Eval x ↦ is_string_literal x | _ ↦ false ]

-- a statement whose first token is a string, and that is this string, behind directives alone
abbrev pub is_directive : Bool → Bool → Stmt → Bool
is_directive leads is_string t = leads && is_string && is_string_statement t

abbrev pub starts_with_use_strict : List Token → Bool
starts_with_use_strict [] = false
starts_with_use_strict (t ∷ ts) = is_use_strict t

abbrev pub is_use_strict_next : Reading Bool
is_use_strict_next = λ s. Ok (starts_with_use_strict s.tokens, s)

-- ---- source elements (14)

module _ (g : Grammar) where
  -- one more element; `leads` where all elements before it are statements of one string each
  abbrev pub element_behind : Bool → Reading (Stmt × Bool)
  element_behind leads = do
    at ← here
    is_string ← sees string
    is_strict ← is_use_strict_next
    s ← part g.element
    if is_strict && is_directive leads is_string s then unsupported at feature.StrictCode else give (s, is_directive leads is_string s)

  abbrev pub more_elements : Reading Bool → (List Stmt × Bool → Reading (List Stmt)) → List Stmt × Bool → Reading (List Stmt)
  more_elements closed again so_far = do
    done ← closed
    if done then give so_far.0 else (do
      x ← element_behind so_far.1
      again (so_far.0 ++ (x.0 ∷ []), x.1))

  -- elements up to where `closed` holds
  unfoldable pub elements : Reading Bool → Reading (List Stmt)
  elements closed = repeat (more_elements closed) ([], true)

  -- 13: a body in its braces
  unfoldable pub function_body : Reading (List Stmt)
  function_body = do
    expect left_brace
    body ← part (elements (sees right_brace))
    expect right_brace
    give body

  -- what stands behind the name of a function, or behind the key of an accessor
  unfoldable pub function_behind : Place → Option Name → Reading (List Name) → Reading Func
  function_behind at name params_of = do
    expect left_parenthesis
    params ← part params_of
    body ← function_body
    give (record { at = at; name = name; params = params; directive = false; body = body })

  -- 11.1.5: a getter has no parameter, a setter has one
  abbrev pub no_parameter : Reading (List Name)
  no_parameter = do
    expect right_parenthesis
    give []

  abbrev pub one_parameter : Reading (List Name)
  one_parameter = do
    name ← declared_name
    expect right_parenthesis
    give (name ∷ [])

  unfoldable pub accessor : Place → Reading (List Name) → Reading FuncNo
  accessor at params = numbered at (function_behind at None params)

  -- a function that may be without a name
  unfoldable pub function_expression : Place → Reading FuncNo
  function_expression at = do
    expect function_word
    named ← sees identifier
    numbered at (if named then (do
      name ← declared_name
      function_behind at (Some name) parameters) else function_behind at None parameters)

  unfoldable pub function_declaration : Place → Reading FuncNo
  function_declaration at = do
    expect function_word
    numbered at (do
      name ← declared_name
      function_behind at (Some name) parameters)
