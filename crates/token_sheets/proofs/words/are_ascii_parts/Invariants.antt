use Rattle.std.proofs.Common.{◌≡◌, take, true}
use Rattle.script_text.specs.Expressions.{are_ascii_parts}
use Rattle.token_sheets.proofs.words.are_ascii_parts.Given as goal

abbrev pub invariant-loop-u : goal.invariant-loop-u
invariant-loop-u l = are_ascii_parts (take l.u-index l.key) ≡ true
