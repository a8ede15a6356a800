-- The script of tokens with its early checks (16).
use Rattle.std.specs.Prelude.{ℕ, Option, Some, None, Result, Ok, Err}
use Rattle.js_tree.specs.Early.{early_fault}
use Rattle.js_tree.specs.declared.refusal.ReadRefused.{ReadRefused}
use Rattle.js_tree.specs.declared.statement.Script.{Script}
use Rattle.js_tree.specs.declared.token.Tokens.{Tokens}
use Rattle.js_grammar.specs.Reading.{read}

abbrev pub unless_fault : Script → Option ReadRefused → Result Script ReadRefused
unless_fault s None = Ok s
unless_fault s (Some e) = Err e

abbrev pub checked : Result Script ReadRefused → Result Script ReadRefused
checked (Ok s) = unless_fault s (early_fault s)
checked (Err e) = Err e

-- the script of tokens, or why it isn't read
unfoldable pub read_checked : Tokens → ℕ → Result Script ReadRefused
read_checked tokens limit = checked (read tokens limit)
