use Rattle.std.proofs.Common.{◌≡◌, take}
use Rattle.js_value.proofs.conversion.text_of_ascii.Given as goal

abbrev pub invariant-loop-b : goal.invariant-loop-b
invariant-loop-b l = l.units.items ≡ take l.b-index l.bytes
