use Rattle.std.proofs.Common.{◌≡◌, ◌++◌, take}
use Rattle.js_scope.specs.Mentioning as spec
use Rattle.js_scope.proofs.walk.Walk.in_declarators.Given as goal

abbrev pub invariant-loop-d : goal.invariant-loop-d
invariant-loop-d l = spec.told l.mentions.items ≡ spec.told l.fn.mentions.items ++ spec.in_declarators l.self (take l.d-index l.all)
