use Rattle.std.proofs.Common.{ap, sym, ◌∙◌}
use Rattle.std.specs.Prelude.{is_some}
use Rattle.plain_heap.specs.Heap.{lookup, without}
use Rattle.property_table.specs.Slots.{in_order}
use Rattle.property_table.proofs.Cells.{without_missing, none_from}
use Rattle.property_table.proofs.Ordered.{same_lookup, same_named, found_at, without_place}
use Rattle.property_table.proofs.table.PropertyTable.remove.Goals as goal

pub returns-in-Some-clause-found : goal.returns-in-Some-clause-found
returns-in-Some-clause-found g c =
    let t = c.self.inside in
    let key = c.args.key.now in
    sym (ap (λ now. is_some (lookup key now)) (sym c.self.view_is) ∙ found_at t.map.entries t.slots.indices.items t.slots.slot_of.items t.slots.placed c.self.invariant key c.in-Some.n (sym c.in-Some.ensures.index))

pub returns-in-Some-clause-removed : goal.returns-in-Some-clause-removed
returns-in-Some-clause-removed g c =
    let t = c.self.inside in
    let key = c.args.key.now in
    same_named c.swap_remove_index.new.self.entries c.take_out.new.self.indices.items c.close_up.new.self.indices.items c.close_up.ensures.named
    ∙ ap (in_order c.swap_remove_index.new.self.entries) c.take_out.ensures.indices
    ∙ without_place t.map.entries t.slots.indices.items t.slots.slot_of.items t.slots.placed c.self.invariant key c.in-Some.n c.swap_remove_index.new.self.entries c.swap_remove_index.result (sym c.in-Some.ensures.index) c.swap_remove_index.ensures.entry c.swap_remove_index.ensures.entries
    ∙ ap (without key) c.self.view_is

pub returns-in-None-clause-found : goal.returns-in-None-clause-found
returns-in-None-clause-found g c =
    let t = c.self.inside in
    let key = c.args.key.now in
    c.in-None.ensures.found ∙ ap is_some (same_lookup t.map.entries t.slots.indices.items t.slots.slot_of.items t.slots.placed c.self.invariant key ∙ ap (lookup key) c.self.view_is)

pub returns-in-None-clause-removed : goal.returns-in-None-clause-removed
returns-in-None-clause-removed g c =
    let t = c.self.inside in
    let key = c.args.key.now in
    let found = c.in-None.ensures.found ∙ ap is_some (same_lookup t.map.entries t.slots.indices.items t.slots.slot_of.items t.slots.placed c.self.invariant key ∙ ap (lookup key) c.self.view_is) in
    sym (without_missing key c.args.self.now (none_from (lookup key c.args.self.now) found))
