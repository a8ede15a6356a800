use Rattle.std.proofs.Common.{◌≡◌, map, take}
use Rattle.lone_functions.specs.Anew as spec
use Rattle.lone_functions.proofs.anew.Anew.declarators.Given as goal

abbrev pub invariant-loop-d : goal.invariant-loop-d
invariant-loop-d l = l.copies ≡ map (spec.declarator l.self.first) (take l.d-index l.all)
