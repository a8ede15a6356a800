use Rattle.std.proofs.Common.{◌≡◌, refl, ap, ◌∙◌, Some, [], ◌∷◌, ◌++◌, length}
use Rattle.indexmap.proofs.CallerLemmas.{insert_entry-new}
use Rattle.js_value.specs.Conversions.{is_same_text}
use Rattle.plain_heap.specs.Heap.{lookup, put_at}
use Rattle.property_table.specs.Slots.{in_order}
use Rattle.property_table.proofs.Ordered.{same_lookup, miss, put_new, kept_new}
use Rattle.property_table.proofs.table.PropertyTable.add.Goals as goal

pub invariant_of-self-2 : goal.invariant_of-self-2
invariant_of-self-2 g c =
    let t = c.self.inside in
    let es = t.map.entries in
    let key = c.args.key in
    let none = same_lookup es t.slots.indices.items t.slots.slot_of.items t.slots.placed c.self.invariant key ∙ ap (lookup key) c.self.view_is ∙ c.requires in
    let new = c.in_ok-insert.ensures.entries ∙ insert_entry-new is_same_text t.map key c.args.value none in
    rw (c.push.ensures.slot_of, c.push.ensures.indices, c.in_ok-reserve.ensures.slot_of, c.in_ok-reserve.ensures.indices) (kept_new es c.insert.new.self.entries t.slots.indices.items t.slots.slot_of.items (key, c.args.value) _ _ c.self.invariant new c.insert.ensures.unique)

pub returns-clause-ok : goal.returns-clause-ok
returns-clause-ok g c =
    let t = c.self.inside in
    let es = t.map.entries in
    let slots = t.slots.indices.items in
    let key = c.args.key in
    let none = same_lookup es slots t.slots.slot_of.items t.slots.placed c.self.invariant key ∙ ap (lookup key) c.self.view_is ∙ c.requires in
    let new : c.insert.new.self.entries ≡ es ++ (key, c.args.value) ∷ [] = c.in_ok-insert.ensures.entries ∙ insert_entry-new is_same_text t.map key c.args.value none in
    let last : c.push.new.self.indices.items ≡ slots ++ Some (length es) ∷ [] =
    rw (c.push.ensures.indices, c.in_ok-reserve.ensures.indices, c.in_ok-reserve.ensures.slot_of, c.self.invariant.number) refl
    in
    ap (in_order c.insert.new.self.entries) last ∙ ap (λ l. in_order l (slots ++ Some (length es) ∷ [])) new
    ∙ put_new es slots t.slots.slot_of.items t.slots.placed c.self.invariant key c.args.value (miss es key none) ∙ ap (put_at key c.args.value) c.self.view_is
