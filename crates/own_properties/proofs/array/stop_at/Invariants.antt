use Rattle.std.proofs.Common.{◌≡◌, ◌≤◌, length}
use Rattle.plain_heap.specs.Methods.{stop_at}
use Rattle.own_properties.specs.Defining.{entries}
use Rattle.own_properties.proofs.array.stop_at.Given as goal

abbrev pub invariant-loop-key : goal.invariant-loop-key
invariant-loop-key l = (stop_at l.stop (entries l.rest) ≡ stop_at l.wanted (entries l.properties)) × (l.stop ≤ 4294967295)

abbrev pub decreases-loop-key : goal.decreases-loop-key
decreases-loop-key l = length l.rest
