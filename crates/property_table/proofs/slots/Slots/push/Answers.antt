use Rattle.std.proofs.Common.{arith}
use Rattle.property_table.proofs.Placing.{pushed}
use Rattle.property_table.proofs.slots.Slots.push.Goals as goal

pub invariant_of-self : goal.invariant_of-self
invariant_of-self c =
    let before = c.args.self.now in
    record { placed = grind (arith, pushed before.indices.items before.slot_of.items before.placed) }
