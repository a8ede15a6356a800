use Rattle.std.proofs.Common.{◌≡◌, [], take}
use Rattle.js_scope.specs.Hoisting.{add_all}
use Rattle.js_scope.proofs.names.Names.of.Given as goal

abbrev pub invariant-loop-name : goal.invariant-loop-name
invariant-loop-name l = l.names ≡ add_all [] (take l.name-index l.all)
