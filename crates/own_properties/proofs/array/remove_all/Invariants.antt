use Rattle.std.proofs.Common.{◌≡◌, take}
use Rattle.own_properties.specs.Lengths.{without_all}
use Rattle.own_properties.proofs.array.remove_all.Given as goal

abbrev pub invariant-loop-key : goal.invariant-loop-key
invariant-loop-key l = l.properties ≡ without_all (take l.key-index l.keys) l.initial.properties
