-- Whatever places a readable script is given, it has no early fault, and is readable.
use Rattle.std.specs.Prelude.{◌≡◌, true, None}
use Rattle.js_tree.specs.declared.statement.Script.{Script}
use Rattle.js_tree.specs.Early.{early_fault}
use Rattle.js_tree.specs.EarlyCases.{two_types}
use Rattle.js_grammar.specs.Readable.{is_readable}
use Rattle.reading_back.specs.Unplaced as unplaced

-- a script that is the same but for places as a readable one has no early fault
abbrev pub EarlyBack : Type 0
EarlyBack = (s t : Script) → unplaced.script s ≡ unplaced.script t → is_readable s ≡ true → early_fault t ≡ None

-- and reading can give it too
abbrev pub ReadableBack : Type 0
ReadableBack = (s t : Script) → unplaced.script s ≡ unplaced.script t → is_readable s ≡ true → is_readable t ≡ true

-- That the one has no fault wouldn't do: `two_types` has one, since an input stands behind another one with its name and
-- another type, but where all places are the same, none stands behind another.
abbrev pub NoneBefore : Type 0
NoneBefore = early_fault (unplaced.script two_types) ≡ None
