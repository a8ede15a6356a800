use Rattle.std.proofs.Common.{◌≡◌, min, take}
use Rattle.js_value.specs.Conversions.{digits_value}
use Rattle.own_properties.proofs.index.capped.Given as goal

abbrev pub invariant-loop-u : goal.invariant-loop-u
invariant-loop-u l = l.value ≡ min (digits_value (take l.u-index l.digits)) 9007199254740992
