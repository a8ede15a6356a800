use Rattle.std.proofs.Common.{◌≡◌, ◌++◌, take}
use Rattle.readable_trees.specs.Items as spec
use Rattle.readable_trees.proofs.items.in_declarators.Given as goal

abbrev pub invariant-loop-d : goal.invariant-loop-d
invariant-loop-d l = spec.told l.items.items ≡ spec.told l.fn.items.items ++ spec.in_declarators (take l.d-index l.all)
