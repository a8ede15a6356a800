use Rattle.std.proofs.Common.{◌≡◌, min, take}
use Rattle.js_value.specs.Conversions.{digits_value}
use Rattle.pp_words.proofs.item.capped.Given as goal

abbrev pub invariant-loop-b : goal.invariant-loop-b
invariant-loop-b l = l.value ≡ min (digits_value (take l.b-index l.digits)) 9007199254740992
