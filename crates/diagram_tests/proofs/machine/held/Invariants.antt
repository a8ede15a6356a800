use Rattle.std.proofs.Common.{◌≤◌}
use Rattle.diagram_tests.proofs.machine.held.Given as goal

abbrev pub invariant-loop-i : goal.invariant-loop-i
invariant-loop-i l = l.holding ≤ l.i
