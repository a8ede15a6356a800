use Rattle.std.proofs.Common.{◌≡◌, ◌++◌, take}
use Rattle.readable_trees.specs.Inputs as spec
use Rattle.readable_trees.specs.Items.{told}
use Rattle.readable_trees.proofs.inputs.in_functions.Given as goal

abbrev pub invariant-loop-f : goal.invariant-loop-f
invariant-loop-f l = told l.items.items ≡ told l.fn.items.items ++ spec.in_functions (take l.f-index l.all)
