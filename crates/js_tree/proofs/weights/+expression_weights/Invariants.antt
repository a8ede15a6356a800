use Rattle.std.proofs.Common.{◌≡◌, min, take}
use Rattle.js_tree.specs.Weighed as spec
use Rattle.js_tree.proofs.weights.+expression_weights.Given as goal

abbrev pub invariant-in_elements-loop-e : goal.invariant-in_elements-loop-e
invariant-in_elements-loop-e l = l.count ≡ min (spec.in_elements l.weights (take l.e-index l.all)) 18446744073709551615

abbrev pub invariant-in_exprs-loop-e : goal.invariant-in_exprs-loop-e
invariant-in_exprs-loop-e l = l.count ≡ min (spec.in_exprs l.weights (take l.e-index l.all)) 18446744073709551615

abbrev pub invariant-in_fields-loop-f : goal.invariant-in_fields-loop-f
invariant-in_fields-loop-f l = l.count ≡ min (spec.in_fields l.weights (take l.f-index l.all)) 18446744073709551615
