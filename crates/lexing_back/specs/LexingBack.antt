-- The text of a script gives the tokens of its pieces (7).
use Rattle.std.specs.Prelude.{◌≡◌, ℕ, true, false, List, map, IsOkAnd}
use Rattle.js_tree.specs.Lexing.{lexed}
use Rattle.js_tree.specs.declared.statement.Script.{Script}
use Rattle.js_tree.specs.declared.token.Tokens.{Tokens}
use Rattle.js_grammar.specs.Readable.{are_parts_readable}
use Rattle.script_text.specs.Printing.{script_text, script_pieces}
use Rattle.script_text.specs.Tokens.{Shape, shape_of, tokens_from}

-- A text has no fault of tokens, and its tokens are these, but for their places.
abbrev pub HasTokens : List ℕ → List Shape → Type 0
HasTokens text shapes = IsOkAnd (lexed text) (λ (ts : Tokens). map shape_of ts.items ≡ shapes)

-- Each script whose parts are such as reading gives has a text with the tokens that were written.
pub record LexesBack : Type 0 where
  pub script : (s : Script) → are_parts_readable s ≡ true → HasTokens (script_text s) (tokens_from false (script_pieces s))
