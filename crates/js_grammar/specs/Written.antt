-- Short texts for cases: tokens with a space between them.
use Rattle.std.specs.Prelude.{ℕ, pos, ◌+◌, ◌-◌, ◌*◌, ◌==◌, Bool, true, false, if◌then◌else◌, List, [], ◌∷◌, length, map, take, drop, fold}
use Rattle.std.specs.Prelude.{slice_index, Option, Some, None}
use Rattle.std.specs.Char.{is_ascii_digit}
use Rattle.std.specs.List.{slice_split}
use Rattle.js_tree.specs.Refusals.{place}
use Rattle.js_tree.specs.Lexing.{lookup, reserved_word}
use Rattle.js_tree.specs.declared.token.TheConstants.{PUNCTUATORS}
use Rattle.js_tree.specs.declared.token.Keyword.{Keyword}
use Rattle.js_tree.specs.declared.token.Punctuator.{Punctuator}
use Rattle.js_tree.specs.declared.token.TokenForm.{TokenForm}
use Rattle.js_tree.specs.declared.token.TokenForm.TheVariants as form
use Rattle.js_tree.specs.declared.token.Token.{Token}
use Rattle.js_tree.specs.declared.token.Tokens.{Tokens}

-- ---- tokens

abbrev pub number_or_name : List ℕ → TokenForm
number_or_name w = if is_ascii_digit (slice_index w 0) then form.Number (pos (fold (λ n c. 10 * n + (c - 48)) 0 w)) else form.Name w

-- a `_` in a string is a space; 34 is `"`, 39 is `'`, 95 is `_`
abbrev pub string_text : List ℕ → List ℕ
string_text w = map (λ c. if c == 95 then 32 else c) (take (length w - 2) (drop 1 w))

abbrev pub string_or_else : List ℕ → TokenForm
string_or_else w =
    if slice_index w 0 == 34 then form.Str (string_text w)
    else (if slice_index w 0 == 39 then form.Str (string_text w) else number_or_name w)

abbrev pub mark_or_else : List ℕ → Option Punctuator → TokenForm
mark_or_else w None = string_or_else w
mark_or_else w (Some p) = form.Punctuator p

abbrev pub word_or_else : List ℕ → Option Keyword → TokenForm
word_or_else w None = mark_or_else w (lookup (map (λ row. (row.0.now, row.1)) PUNCTUATORS) w)
word_or_else w (Some k) = form.Reserved k

abbrev pub form_of : List ℕ → TokenForm
form_of w = word_or_else w (reserved_word w)

-- words from a place on; no word stands between two spaces, and a line feed is a line end
abbrev pub tokens_at : ℕ → Bool → List (List ℕ) → List Token
tokens_at at line [] = []
tokens_at at line (w ∷ ws) =
    if length w == 0 then tokens_at (at + 1) line ws
    else (if slice_index w 0 == 10 then tokens_at (at + 2) true ws
    else (record { at = place at; end = place (at + length w); line_before = line; form = form_of w } ∷ tokens_at (at + length w + 1) false ws))

unfoldable pub tokens_of : List ℕ → Tokens
tokens_of text = record { items = tokens_at 0 false (slice_split (λ c. c == 32) text); end = place (length text) }
