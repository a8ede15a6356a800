use Rattle.std.proofs.Common.{◌≡◌, length}
use Rattle.std.specs.Char.Utf16.{utf16_chars}
use Rattle.std.specs.List.{list_all}
use Rattle.js_tree.specs.Lexing.{is_name_part}
use Rattle.js_grammar.specs.ReadableWords.{passes}
use Rattle.readable_trees.proofs.words.are_name_parts.Given as goal

abbrev pub invariant-loop-units : goal.invariant-loop-units
invariant-loop-units l = list_all (passes is_name_part) (utf16_chars l.units) ≡ list_all (passes is_name_part) (utf16_chars l.initial.units)

abbrev pub decreases-loop-units : goal.decreases-loop-units
decreases-loop-units l = length l.units
