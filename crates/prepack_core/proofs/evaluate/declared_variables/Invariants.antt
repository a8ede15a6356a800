use Rattle.std.proofs.Common.{◌≡◌, take, []}
use Rattle.simple_scripts.specs.Simple.{declared_names}
use Rattle.prepack_core.specs.Evaluates.{declared_after}
use Rattle.prepack_core.proofs.evaluate.declared_variables.Given as goal

abbrev pub invariant-loop-statement : goal.invariant-loop-statement
invariant-loop-statement l = l.variables ≡ declared_after [] (declared_names (take l.statement-index l.body))
