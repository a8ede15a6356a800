use Rattle.std.proofs.Common.{◌≡◌, map, take}
use Rattle.residual_form.specs.Snapshot.{variable}
use Rattle.prepack_core.proofs.residual.declarators.Given as goal

abbrev pub invariant-loop-i : goal.invariant-loop-i
invariant-loop-i l = l.declarators ≡ map variable (take l.i l.variables)
