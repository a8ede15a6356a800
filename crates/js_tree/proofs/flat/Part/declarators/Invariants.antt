use Rattle.std.proofs.Common.{◌≡◌, take, true}
use Rattle.js_tree.specs.Called.{callable_behind}
use Rattle.js_tree.specs.Flat.{declarators_flat}
use Rattle.js_tree.proofs.flat.Part.declarators.Given as goal

abbrev pub invariant-loop-d : goal.invariant-loop-d
invariant-loop-d g l = declarators_flat (callable_behind l.self.funcs.now l.self.first) (take l.d-index l.all) ≡ true
