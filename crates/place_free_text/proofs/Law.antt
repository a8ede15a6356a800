-- Scripts that are the same but for places have the same text.
use Rattle.std.proofs.Common.{◌≡◌, ap, sym, ◌∙◌}
use Rattle.js_tree.specs.declared.statement.Script.{Script}
use Rattle.reading_back.specs.Unplaced as unplaced
use Rattle.script_text.specs.Pieces.{text_of}
use Rattle.script_text.specs.Printing.{script_text}
use Rattle.place_free_text.specs.SameText.{SameText}
use Rattle.place_free_text.proofs.Functions.{pieces_same}

unplaced_text : (s : Script) → script_text (unplaced.script s) ≡ script_text s
unfolding script_text
unplaced_text s = ap text_of (pieces_same s)

pub same_text : SameText
same_text s t same = sym (unplaced_text s) ∙ ap script_text same ∙ unplaced_text t
