use Rattle.std.proofs.Common.{◌≡◌, min, take}
use Rattle.lone_functions.specs.Named as spec
use Rattle.lone_functions.proofs.named.+statement_functions.Given as goal

abbrev pub invariant-in_stmts-loop-s : goal.invariant-in_stmts-loop-s
invariant-in_stmts-loop-s l = l.count ≡ min (spec.in_stmts (take l.s-index l.all)) 18446744073709551615

abbrev pub invariant-in_cases-loop-c : goal.invariant-in_cases-loop-c
invariant-in_cases-loop-c l = l.count ≡ min (spec.in_cases (take l.c-index l.all)) 18446744073709551615
