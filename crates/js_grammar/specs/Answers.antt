-- How cases of reading are said.
use Rattle.std.specs.Prelude.{◌≡◌, ℕ, true, List, map, Option, Some, None, Result, Ok, Err}
use Rattle.js_tree.specs.declared.refusal.ReadRefused.{ReadRefused}
use Rattle.js_tree.specs.declared.statement.Script.{Script}
use Rattle.js_grammar.specs.Reading.{read_by}
use Rattle.js_grammar.specs.Written.{tokens_of}

abbrev pub Answer : Type 0
Answer = Result Script ReadRefused

-- the script of a short text, with so many parts open at once, where trees of any height are allowed
unfoldable pub read_text : ℕ → List ℕ → Answer
read_text limit text = read_by (λ _ _. true) (λ _ _. true) (tokens_of text) limit

abbrev pub fault : Answer → Option ReadRefused
fault (Ok s) = None
fault (Err e) = Some e

-- the texts are read
abbrev pub AreRead : List (List ℕ) → Type 0
AreRead rows = map (λ text. fault (read_text 50 text)) rows ≡ map (λ _. None) rows

-- the texts have these answers
abbrev pub AreAnswered : List (List ℕ × Answer) → Type 0
AreAnswered rows = map (λ row. read_text 50 row.0) rows ≡ map (λ row. row.1) rows

-- the two texts of each pair are the same tree
abbrev pub AreGrouped : List (List ℕ × List ℕ) → Type 0
AreGrouped rows = map (λ pair. read_text 50 pair.0) rows ≡ map (λ pair. read_text 50 pair.1) rows

-- and one, so that they are read
abbrev pub AreReadPairs : List (List ℕ × List ℕ) → Type 0
AreReadPairs rows = map (λ pair. fault (read_text 50 pair.0)) rows ≡ map (λ _. None) rows

-- the texts are read with so many open parts, or have these faults
abbrev pub AreOpen : List (List ℕ × ℕ × Option ReadRefused) → Type 0
AreOpen rows = map (λ row. fault (read_text row.1 row.0)) rows ≡ map (λ row. row.2) rows
