use Rattle.std.proofs.Common.{◌≡◌, min, take}
use Rattle.js_tree.specs.Weighed as spec
use Rattle.js_tree.proofs.weights.+statement_weights.Given as goal

abbrev pub invariant-in_stmts-loop-s : goal.invariant-in_stmts-loop-s
invariant-in_stmts-loop-s l = l.count ≡ min (spec.in_stmts l.weights (take l.s-index l.all)) 18446744073709551615

abbrev pub invariant-in_cases-loop-c : goal.invariant-in_cases-loop-c
invariant-in_cases-loop-c l = l.count ≡ min (spec.in_cases l.weights (take l.c-index l.all)) 18446744073709551615
