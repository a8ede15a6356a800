use Rattle.std.proofs.Common.{◌≡◌, ◌-◌, arith}
use Rattle.std.specs.Prelude.{slice_index}
use Rattle.std.proofs.lemmas.List.{get_or_read}
use Rattle.property_table.proofs.Placing.{slot_within, taken_out}
use Rattle.property_table.proofs.slots.Slots.take_out.Goals as goal

pub index_mut-requires : goal.index_mut-requires
index_mut-requires c =
    let before = c.args.self.now in
    let at = c.len.result - 1 in
    let is : c.index-last.result.now ≡ slice_index before.slot_of.items at = get_or_read before.slot_of.items at c.index-last.result.now (omega arith) c.index-last.ensures 0 in
    omega (arith, is, slot_within before.indices.items before.slot_of.items before.placed at (omega arith))

pub index_mut-requires-2 : goal.index_mut-requires-2
index_mut-requires-2 c =
    let before = c.args.self.now in
    let is : c.index-slot.result.now ≡ slice_index before.slot_of.items c.args.n = get_or_read before.slot_of.items c.args.n c.index-slot.result.now c.requires c.index-slot.ensures 0 in
    omega (arith, is, slot_within before.indices.items before.slot_of.items before.placed c.args.n c.requires)

pub invariant_of-self : goal.invariant_of-self
invariant_of-self c =
    let before = c.args.self.now in
    record { placed = grind (arith, get_or_read, taken_out before.indices.items before.slot_of.items before.placed c.args.n c.requires) }
