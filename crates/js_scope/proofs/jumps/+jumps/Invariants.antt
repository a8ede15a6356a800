use Rattle.std.proofs.Common.{◌≡◌, take}
use Rattle.js_scope.specs.Jumps as spec
use Rattle.js_scope.proofs.jumps.+jumps.Given as goal

abbrev pub invariant-in_stmts-loop-s : goal.invariant-in_stmts-loop-s
invariant-in_stmts-loop-s l = l.least ≡ spec.with_jumps l.fn.least (spec.in_stmts l.jump (take l.s-index l.all))

abbrev pub invariant-in_cases-loop-c : goal.invariant-in_cases-loop-c
invariant-in_cases-loop-c l = l.least ≡ spec.with_jumps l.fn.least (spec.in_cases l.jump (take l.c-index l.all))
