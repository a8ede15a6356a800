use Rattle.std.proofs.Common.{◌≡◌, take}
use Rattle.js_tree.specs.Mentions as names
use Rattle.js_scope.specs.Hoisting as spec
use Rattle.js_scope.proofs.hoisting.declarators.Given as goal

abbrev pub invariant-loop-d : goal.invariant-loop-d
invariant-loop-d l = l.vars ≡ spec.add_all l.fn.vars (names.declared_in (take l.d-index l.all))
