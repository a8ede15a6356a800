use Rattle.std.proofs.Common.{ap, sym, ◌∙◌}
use Rattle.std.specs.Prelude.{is_some}
use Rattle.plain_heap.specs.Heap.{lookup, put_at}
use Rattle.property_table.proofs.Ordered.{same_lookup, found_at, put_place, kept_set}
use Rattle.property_table.proofs.table.PropertyTable.replace.Goals as goal

pub invariant_of-self : goal.invariant_of-self
invariant_of-self g c =
    let t = c.self.inside in
    kept_set t.map.entries t.slots.indices.items t.slots.slot_of.items c.in-Some.n c.args.value c.self.invariant

pub returns-in-Some-clause-found : goal.returns-in-Some-clause-found
returns-in-Some-clause-found g c =
    let t = c.self.inside in
    let key = c.args.key.now in
    sym (ap (λ now. is_some (lookup key now)) (sym c.self.view_is) ∙ found_at t.map.entries t.slots.indices.items t.slots.slot_of.items t.slots.placed c.self.invariant key c.in-Some.n (sym c.in-Some.ensures.index))

pub returns-in-Some-clause-ok : goal.returns-in-Some-clause-ok
returns-in-Some-clause-ok g c =
    let t = c.self.inside in
    let key = c.args.key.now in
    put_place t.map.entries t.slots.indices.items t.slots.slot_of.items t.slots.placed c.self.invariant key c.args.value c.in-Some.n (sym c.in-Some.ensures.index) ∙ ap (put_at key c.args.value) c.self.view_is

pub returns-in-None-clause-found : goal.returns-in-None-clause-found
returns-in-None-clause-found g c =
    let t = c.self.inside in
    let key = c.args.key.now in
    c.in-None.ensures.found ∙ ap is_some (same_lookup t.map.entries t.slots.indices.items t.slots.slot_of.items t.slots.placed c.self.invariant key ∙ ap (lookup key) c.self.view_is)
