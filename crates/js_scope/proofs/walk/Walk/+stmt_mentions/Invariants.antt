use Rattle.std.proofs.Common.{◌≡◌, ◌++◌, take}
use Rattle.js_scope.specs.Mentioning as spec
use Rattle.js_scope.proofs.walk.Walk.+stmt_mentions.Given as goal

abbrev pub invariant-in_stmts-loop-s : goal.invariant-in_stmts-loop-s
invariant-in_stmts-loop-s l = spec.told l.mentions.items ≡ spec.told l.fn.mentions.items ++ spec.in_stmts l.self (take l.s-index l.all)

abbrev pub invariant-in_cases-loop-c : goal.invariant-in_cases-loop-c
invariant-in_cases-loop-c l = spec.told l.mentions.items ≡ spec.told l.fn.mentions.items ++ spec.in_cases l.self (take l.c-index l.all)
