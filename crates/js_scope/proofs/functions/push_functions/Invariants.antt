use Rattle.std.proofs.Common.{◌≡◌, ◌++◌, take}
use Rattle.js_tree.specs.Mentions as tree
use Rattle.js_scope.proofs.functions.push_functions.Given as goal

abbrev pub invariant-loop-f : goal.invariant-loop-f
invariant-loop-f l = l.names ≡ l.fn.names ++ tree.names_of l.first l.behind (take l.f-index l.numbers)
