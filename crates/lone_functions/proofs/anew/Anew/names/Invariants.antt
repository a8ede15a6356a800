use Rattle.std.proofs.Common.{◌≡◌, map, take}
use Rattle.lone_functions.specs.Anew as spec
use Rattle.lone_functions.proofs.anew.Anew.names.Given as goal

abbrev pub invariant-loop-name : goal.invariant-loop-name
invariant-loop-name l = l.copies ≡ map (spec.name l.self.first) (take l.name-index l.all)
