use Rattle.std.proofs.Common.{◌≡◌, ◌++◌, take}
use Rattle.readable_trees.specs.Items as spec
use Rattle.readable_trees.proofs.items.+stmt_items.Given as goal

abbrev pub invariant-in_stmts-loop-s : goal.invariant-in_stmts-loop-s
invariant-in_stmts-loop-s l = spec.told l.items.items ≡ spec.told l.fn.items.items ++ spec.in_stmts (take l.s-index l.all)

abbrev pub invariant-in_cases-loop-c : goal.invariant-in_cases-loop-c
invariant-in_cases-loop-c l = spec.told l.items.items ≡ spec.told l.fn.items.items ++ spec.in_cases (take l.c-index l.all)
