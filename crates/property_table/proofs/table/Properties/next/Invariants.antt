use Rattle.std.proofs.Common.{length, ◌≡◌}
use Rattle.property_table.specs.Slots.{in_order}
use Rattle.property_table.proofs.table.Properties.next.Given as goal

abbrev pub decreases-loop-self : goal.decreases-loop-self
decreases-loop-self g l = length l.self-inside.slots.now

abbrev pub invariant-loop-self : goal.invariant-loop-self
invariant-loop-self g l =
    in_order l.self-inside.map.now.entries l.self-inside.slots.now ≡ in_order l.initial.self-inside.map.now.entries l.initial.self-inside.slots.now
