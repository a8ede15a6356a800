use Rattle.std.proofs.Common.{◌≡◌, ◌++◌, take}
use Rattle.readable_trees.specs.Items as spec
use Rattle.readable_trees.proofs.items.+expr_items.Given as goal

abbrev pub invariant-in_exprs-loop-e : goal.invariant-in_exprs-loop-e
invariant-in_exprs-loop-e l = spec.told l.items.items ≡ spec.told l.fn.items.items ++ spec.in_exprs (take l.e-index l.all)

abbrev pub invariant-in_elements-loop-e : goal.invariant-in_elements-loop-e
invariant-in_elements-loop-e l = spec.told l.items.items ≡ spec.told l.fn.items.items ++ spec.in_elements (take l.e-index l.all)

abbrev pub invariant-in_fields-loop-field : goal.invariant-in_fields-loop-field
invariant-in_fields-loop-field l = spec.told l.items.items ≡ spec.told l.fn.items.items ++ spec.in_fields (take l.field-index l.all)
