-- Tokens by what they are in a production (7.6, 7.7, 7.8).
use Rattle.std.specs.Prelude.{ℕ, ◌-◌, ◌==◌, ◌&&◌, Bool, true, false, if◌then◌else◌, codes, List, [], ◌∷◌, map, Option, Some, None}
use Rattle.std.specs.Str.{bytes_eq}
use Rattle.std.specs.Fmt.{signed_decimal}
use Rattle.js_value.specs.declared.primitive.Kind.{Kind}
use Rattle.js_value.specs.declared.primitive.Kind.TheVariants as kind
use Rattle.js_value.specs.declared.primitive.Primitive.TheVariants as primitive
use Rattle.js_tree.specs.declared.expression.ExprForm.{ExprForm}
use Rattle.js_tree.specs.declared.expression.ExprForm.TheVariants as e
use Rattle.js_tree.specs.declared.refusal.Feature.{Feature}
use Rattle.js_tree.specs.declared.refusal.Feature.TheVariants as feature
use Rattle.js_tree.specs.declared.token.Keyword.{Keyword}
use Rattle.js_tree.specs.declared.token.Keyword.TheVariants as word
use Rattle.js_tree.specs.contracts.token.KeywordPartialEq.TheImpl.{ghosts as words}
use Rattle.js_tree.specs.contracts.token.PunctuatorPartialEq.TheImpl.{ghosts as marks}
use Rattle.js_tree.specs.declared.token.Punctuator.{Punctuator}
use Rattle.js_tree.specs.declared.token.Punctuator.TheVariants as mark
use Rattle.js_tree.specs.declared.token.TheConstants.{KEYWORDS}
use Rattle.js_tree.specs.declared.token.TokenForm.{TokenForm}
use Rattle.js_tree.specs.declared.token.TokenForm.TheVariants as form
use Rattle.js_tree.specs.declared.token.Token.{Token}

-- ---- single tokens

-- `==` of punctuators and of reserved words
abbrev pub same_mark : Punctuator → Punctuator → Bool
same_mark = marks.eq

abbrev pub same_word : Keyword → Keyword → Bool
same_word = words.eq

abbrev pub punctuator : Punctuator → TokenForm → Option (Unit {0})
punctuator mark (form.Punctuator found) = if same_mark found mark then Some tt else None
punctuator mark _ = None

abbrev pub reserved : Keyword → TokenForm → Option (Unit {0})
reserved word (form.Reserved found) = if same_word found word then Some tt else None
reserved word _ = None

abbrev pub left_brace : TokenForm → Option (Unit {0})
left_brace = punctuator mark.LeftBrace

abbrev pub right_brace : TokenForm → Option (Unit {0})
right_brace = punctuator mark.RightBrace

abbrev pub left_parenthesis : TokenForm → Option (Unit {0})
left_parenthesis = punctuator mark.LeftParenthesis

abbrev pub right_parenthesis : TokenForm → Option (Unit {0})
right_parenthesis = punctuator mark.RightParenthesis

abbrev pub left_bracket : TokenForm → Option (Unit {0})
left_bracket = punctuator mark.LeftBracket

abbrev pub right_bracket : TokenForm → Option (Unit {0})
right_bracket = punctuator mark.RightBracket

abbrev pub dot : TokenForm → Option (Unit {0})
dot = punctuator mark.Dot

abbrev pub semicolon : TokenForm → Option (Unit {0})
semicolon = punctuator mark.Semicolon

abbrev pub comma : TokenForm → Option (Unit {0})
comma = punctuator mark.Comma

abbrev pub question : TokenForm → Option (Unit {0})
question = punctuator mark.Question

abbrev pub colon : TokenForm → Option (Unit {0})
colon = punctuator mark.Colon

abbrev pub equals : TokenForm → Option (Unit {0})
equals = punctuator mark.Assign

abbrev pub case_word : TokenForm → Option (Unit {0})
case_word = reserved word.Case

abbrev pub catch_word : TokenForm → Option (Unit {0})
catch_word = reserved word.Catch

abbrev pub default_word : TokenForm → Option (Unit {0})
default_word = reserved word.Default

abbrev pub else_word : TokenForm → Option (Unit {0})
else_word = reserved word.Else

abbrev pub finally_word : TokenForm → Option (Unit {0})
finally_word = reserved word.Finally

abbrev pub function_word : TokenForm → Option (Unit {0})
function_word = reserved word.Function

abbrev pub in_word : TokenForm → Option (Unit {0})
in_word = reserved word.In

abbrev pub new_word : TokenForm → Option (Unit {0})
new_word = reserved word.New

abbrev pub var_word : TokenForm → Option (Unit {0})
var_word = reserved word.Var

abbrev pub while_word : TokenForm → Option (Unit {0})
while_word = reserved word.While

-- ---- names and literals

-- 7.6
abbrev pub identifier : TokenForm → Option (List ℕ)
identifier (form.Name text) = Some text
identifier _ = None

abbrev pub string : TokenForm → Option (List ℕ)
string (form.Str text) = Some text
string _ = None

-- the spelling of a word in a table
abbrev pub spelling : Keyword → List (List ℕ × Keyword) → List ℕ
spelling word [] = []
spelling word (row ∷ rows) = if same_word row.1 word then row.0 else spelling word rows

-- 7.6.1
abbrev pub spelled : Keyword → List ℕ
spelled word = spelling word (map (λ row. (row.0.now, row.1)) KEYWORDS)

-- 7.6: a name or a reserved word
abbrev pub identifier_name : TokenForm → Option (List ℕ)
identifier_name (form.Name text) = Some text
identifier_name (form.Reserved keyword) = Some (spelled keyword)
identifier_name _ = None

-- 11.1.5: an identifier name, a string or a number
abbrev pub property_name : TokenForm → Option (List ℕ)
property_name (form.Name text) = Some text
property_name (form.Reserved keyword) = Some (spelled keyword)
property_name (form.Str text) = Some text
property_name (form.Number n) = Some (signed_decimal n)
property_name _ = None

-- 11.1: `this` and the literals of 7.8
abbrev pub literal : TokenForm → Option ExprForm
literal (form.Reserved word.This) = Some e.This
literal (form.Reserved word.Null) = Some (e.Literal primitive.Null)
literal (form.Reserved word.True) = Some (e.Literal (primitive.Boolean true))
literal (form.Reserved word.False) = Some (e.Literal (primitive.Boolean false))
literal (form.Number n) = Some (e.Literal (primitive.Number n))
literal (form.Str text) = Some (e.Literal (primitive.Text text))
literal _ = None

-- names that aren't supported, except as property names
abbrev pub barred : List ℕ → Option Feature
barred name =
    if bytes_eq name (codes "eval") then Some feature.Eval
    else (if bytes_eq name (codes "arguments") then Some feature.Arguments else None)

-- the names of the two forms
abbrev pub is_abstract : List ℕ → Bool
is_abstract name = bytes_eq name (codes "__abstract")

abbrev pub is_residual : List ℕ → Bool
is_residual name = bytes_eq name (codes "__residual")

abbrev pub form_name : List ℕ → Option Feature
form_name name = if is_abstract name then Some feature.AbstractForm else (if is_residual name then Some feature.ResidualForm else None)

abbrev pub get_word : List ℕ
get_word = codes "get"

abbrev pub set_word : List ℕ
set_word = codes "set"

-- `get` or `set` before a property name begins an accessor
abbrev pub accessor_word : List ℕ → TokenForm → Option (Unit {0})
accessor_word expected (form.Name text) = if bytes_eq text expected then Some tt else None
accessor_word expected _ = None

abbrev pub kind_of : List ℕ → Option Kind
kind_of text =
    if bytes_eq text (codes "number") then Some kind.Number
    else (if bytes_eq text (codes "boolean") then Some kind.Boolean else (if bytes_eq text (codes "string") then Some kind.Text else None))

abbrev pub kind_string : TokenForm → Option Kind
kind_string (form.Str text) = kind_of text
kind_string _ = None

abbrev pub is_text : List ℕ → TokenForm → Bool
is_text expected (form.Str text) = bytes_eq text expected
is_text expected _ = false

-- 14.1: the string `use strict`, written without escapes, so that it takes twelve bytes with its quotes
abbrev pub is_use_strict : Token → Bool
is_use_strict t = is_text (codes "use strict") t.form && t.end.0 - t.at.0 == 12
