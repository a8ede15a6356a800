use Rattle.std.proofs.Common.{ap, sym, ◌∙◌, length}
use Rattle.plain_heap.specs.Valid.{are_distinct}
use Rattle.property_table.proofs.Ordered.{all_length, all_distinct}
use Rattle.property_table.proofs.table.PropertyTable.len.Goals as goal

pub returns-clause-len : goal.returns-clause-len
returns-clause-len g c =
    let t = c.self.inside in
    c.len.ensures.len ∙ sym (all_length t.map.entries t.slots.indices.items t.slots.slot_of.items t.slots.placed c.self.invariant) ∙ ap length c.self.view_is

pub returns-clause-once : goal.returns-clause-once
returns-clause-once g c =
    let t = c.self.inside in
    ap are_distinct (sym c.self.view_is) ∙ all_distinct t.map.entries t.slots.indices.items t.slots.slot_of.items t.slots.placed c.self.invariant
