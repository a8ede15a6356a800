use Rattle.std.proofs.Common.{ap, ◌∙◌}
use Rattle.plain_heap.specs.Heap.{lookup}
use Rattle.property_table.proofs.Ordered.{same_lookup}
use Rattle.property_table.proofs.table.PropertyTable.get.Goals as goal

pub returns : goal.returns
returns g c =
    let t = c.self.inside in
    let key = c.args.key.now in
    record { value = c.get.ensures.value ∙ same_lookup t.map.entries t.slots.indices.items t.slots.slot_of.items t.slots.placed c.self.invariant key ∙ ap (lookup key) c.self.view_is }
