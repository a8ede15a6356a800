-- Scripts that are the same but for places have the same text.
use Rattle.std.specs.Prelude.{◌≡◌}
use Rattle.js_tree.specs.declared.statement.Script.{Script}
use Rattle.reading_back.specs.Unplaced as unplaced
use Rattle.script_text.specs.Printing.{script_text}

abbrev pub SameText : Type 0
SameText = (s t : Script) → unplaced.script s ≡ unplaced.script t → script_text s ≡ script_text t
