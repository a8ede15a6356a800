use Rattle.std.proofs.Common.{◌≡◌, ◌+◌, min, take, map, sum}
use Rattle.js_tree.specs.Weighed as spec
use Rattle.js_tree.proofs.weights.in_script.Given as goal

abbrev pub invariant-loop-f : goal.invariant-loop-f
invariant-loop-f l = l.count ≡ min (spec.in_stmts l.weights l.script.body + sum (map (spec.in_func l.weights) (take l.f-index l.script.funcs))) 18446744073709551615
