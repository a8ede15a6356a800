-- The tokens that pieces are (7), but for their places.
use Rattle.std.specs.Prelude.{ℕ, ◌-◌, ◌==◌, Bool, true, false, if◌then◌else◌, List, [], ◌∷◌, length, map, take, drop, slice_index, Option, Some, None}
use Rattle.js_tree.specs.Lexing.{lookup, reserved_word}
use Rattle.js_tree.specs.declared.token.TheConstants.{PUNCTUATORS}
use Rattle.js_tree.specs.declared.token.Keyword.{Keyword}
use Rattle.js_tree.specs.declared.token.Punctuator.{Punctuator}
use Rattle.js_tree.specs.declared.token.Token.{Token}
use Rattle.js_tree.specs.declared.token.TokenForm.{TokenForm}
use Rattle.js_tree.specs.declared.token.TokenForm.TheVariants as form
use Rattle.script_text.specs.Pieces as pieces
use Rattle.script_text.specs.Pieces.{Piece}

-- what a token is, and whether a line end stands before it
pub record Shape : Type 0 where
  pub form : TokenForm
  pub line_before : Bool

abbrev pub shape : TokenForm → Bool → Shape
shape form line = record { form = form; line_before = line }

abbrev pub shape_of : Token → Shape
shape_of t = shape t.form t.line_before

-- ---- what the text of a piece is

abbrev pub reserved_or_name : List ℕ → Option Keyword → TokenForm
reserved_or_name text (Some k) = form.Reserved k
reserved_or_name text None = form.Name text

-- an identifier name (7.6)
abbrev pub name_form : List ℕ → TokenForm
name_form text = reserved_or_name text (reserved_word text)

-- a string without escapes, or a name of ASCII; 34 is `"`
abbrev pub string_or_name : List ℕ → TokenForm
string_or_name text = if slice_index text 0 == 34 then form.Str (take (length text - 2) (drop 1 text)) else name_form text

abbrev pub mark_or_else : List ℕ → Option Punctuator → TokenForm
mark_or_else text (Some p) = form.Punctuator p
mark_or_else text None = string_or_name text

-- a punctuator, a reserved word, a string without escapes or a name of ASCII
unfoldable pub form_of : List ℕ → TokenForm
form_of text = mark_or_else text (lookup (map (λ row. (row.0.now, row.1)) PUNCTUATORS) text)

-- ---- the tokens of pieces

-- where a line end stands before the first of them or not
abbrev pub tokens_from : Bool → List Piece → List Shape
tokens_from line [] = []
tokens_from line (pieces.Token text is_tight behind ∷ more) = shape (form_of text) line ∷ tokens_from false more
tokens_from line (pieces.LineEnd ∷ more) = tokens_from true more
tokens_from line (pieces.Open ∷ more) = tokens_from line more
tokens_from line (pieces.Close ∷ more) = tokens_from line more
tokens_from line (pieces.Reference name ∷ more) = shape (name_form name) line ∷ tokens_from false more
tokens_from line (pieces.Named name behind ∷ more) = shape (name_form name) line ∷ tokens_from false more
tokens_from line (pieces.Quoted text behind ∷ more) = shape (form.Str text) line ∷ tokens_from false more
tokens_from line (pieces.Number n ∷ more) = shape (form.Number n) line ∷ tokens_from false more
tokens_from line (pieces.Bind names ∷ more) = tokens_from line more
tokens_from line (pieces.Release ∷ more) = tokens_from line more
