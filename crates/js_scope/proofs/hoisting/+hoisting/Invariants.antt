use Rattle.std.proofs.Common.{◌≡◌, take}
use Rattle.js_scope.specs.Hoisting as spec
use Rattle.js_scope.proofs.hoisting.+hoisting.Given as goal

abbrev pub invariant-in_stmts-loop-s : goal.invariant-in_stmts-loop-s
invariant-in_stmts-loop-s l = l.vars ≡ spec.add_all l.fn.vars (spec.in_stmts (take l.s-index l.all))

abbrev pub invariant-in_cases-loop-c : goal.invariant-in_cases-loop-c
invariant-in_cases-loop-c l = l.vars ≡ spec.add_all l.fn.vars (spec.in_cases (take l.c-index l.all))
