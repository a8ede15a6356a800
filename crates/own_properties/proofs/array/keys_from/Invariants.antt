use Rattle.std.proofs.Common.{◌≡◌, ◌++◌, length}
use Rattle.own_properties.specs.Lengths.{are_at_least, keys_of}
use Rattle.own_properties.proofs.array.keys_from.Given as goal

abbrev pub invariant-loop-key : goal.invariant-loop-key
invariant-loop-key l = l.keys.items ++ keys_of (are_at_least l.stop l.rest) ≡ keys_of (are_at_least l.stop l.properties)

abbrev pub decreases-loop-key : goal.decreases-loop-key
decreases-loop-key l = length l.rest
