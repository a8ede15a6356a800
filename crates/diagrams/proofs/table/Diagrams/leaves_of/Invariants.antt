use Rattle.diagrams.specs.Leaves.{IsReached, visits_left}
use Rattle.diagrams.proofs.table.Diagrams.leaves_of.Given as goal

abbrev pub invariant-loop-next : goal.invariant-loop-next
invariant-loop-next l = IsReached l.self l.fn.d l.reached.keys l.leaves.keys l.next

abbrev pub decreases-loop-next : goal.decreases-loop-next
decreases-loop-next l = visits_left l.next l.reached.keys
