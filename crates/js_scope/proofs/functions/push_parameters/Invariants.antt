use Rattle.std.proofs.Common.{◌≡◌, ◌++◌, take, map}
use Rattle.js_tree.specs.declared.statement.Name.{Name}
use Rattle.js_scope.proofs.functions.push_parameters.Given as goal

abbrev pub invariant-loop-parameter : goal.invariant-loop-parameter
invariant-loop-parameter l = l.names ≡ l.fn.names ++ map (λ (p : Name). p.text) (take l.parameter-index l.parameters)
