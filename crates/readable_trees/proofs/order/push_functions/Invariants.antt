use Rattle.std.proofs.Common.{◌≡◌, ◌++◌, map, length}
use Rattle.js_value.specs.declared.place.FuncNo.{FuncNo}
use Rattle.readable_trees.specs.Items.{told}
use Rattle.readable_trees.specs.Inputs.{numbers}
use Rattle.readable_trees.proofs.order.push_functions.Given as goal

abbrev pub invariant-loop-item : goal.invariant-loop-item
invariant-loop-item l = numbers (told l.items.items) ++ map (λ (f : FuncNo). f.0) l.behind.items ≡ numbers (told l.initial.items.items) ++ map (λ (f : FuncNo). f.0) l.initial.behind.items

abbrev pub decreases-loop-item : goal.decreases-loop-item
decreases-loop-item l = length l.items.items
