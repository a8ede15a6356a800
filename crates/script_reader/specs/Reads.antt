-- The script of a text: its tokens (7), read as the grammar says (11 to 14), with the early checks (16).
use Rattle.std.specs.Prelude.{ℕ, List, Result, Ok, Err}
use Rattle.js_tree.specs.Lexing.{lexed}
use Rattle.js_tree.specs.declared.refusal.ReadRefused.{ReadRefused}
use Rattle.js_tree.specs.declared.statement.Script.{Script}
use Rattle.js_tree.specs.declared.token.Tokens.{Tokens}
use Rattle.js_grammar.specs.Checked.{read_checked}

abbrev pub read_tokens : Result Tokens ReadRefused → ℕ → Result Script ReadRefused
read_tokens (Ok tokens) limit = read_checked tokens limit
read_tokens (Err e) limit = Err e

-- The script of a text, or the first fault: at most so many parts are open at once, and no tree is higher.
unfoldable pub reads : List ℕ → ℕ → Result Script ReadRefused
reads text limit = read_tokens (lexed text) limit
