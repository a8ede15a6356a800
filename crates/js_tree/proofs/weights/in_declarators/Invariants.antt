use Rattle.std.proofs.Common.{◌≡◌, min, take}
use Rattle.js_tree.specs.Weighed as spec
use Rattle.js_tree.proofs.weights.in_declarators.Given as goal

abbrev pub invariant-loop-declarator : goal.invariant-loop-declarator
invariant-loop-declarator l = l.count ≡ min (spec.in_declarators l.weights (take l.declarator-index l.all)) 18446744073709551615
