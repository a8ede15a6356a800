use Rattle.std.proofs.Common.{◌≡◌, min, take}
use Rattle.lone_functions.specs.Named as spec
use Rattle.lone_functions.proofs.named.in_declarators.Given as goal

abbrev pub invariant-loop-declarator : goal.invariant-loop-declarator
invariant-loop-declarator l = l.count ≡ min (spec.in_declarators (take l.declarator-index l.all)) 18446744073709551615
