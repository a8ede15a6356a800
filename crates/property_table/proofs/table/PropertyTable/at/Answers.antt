use Rattle.std.proofs.Common.{◌≡◌, ◌∙◌, ap, sym, length, get_or, Some, None, arith}
use Rattle.std.specs.Prelude.{slice_get}
use Rattle.std.specs.Map.Iter.{deref_pair}
use Rattle.std.specs.Option.{option_map}
use Rattle.std.proofs.lemmas.List.{get_or_read}
use Rattle.property_table.proofs.Ordered.{all_length, at_full}
use Rattle.property_table.proofs.Walking.{is_left, is_next, is_shown}
use Rattle.property_table.proofs.table.PropertyTable.at.Goals as goal

pub index-requires : goal.index-requires
index-requires g c =
    let t = c.self.inside in
    let count : length c.args.self.now ≡ length t.map.entries = ap length (sym c.self.view_is) ∙ all_length t.map.entries t.slots.indices.items t.slots.slot_of.items t.slots.placed c.self.invariant in
    omega (arith, count)

pub returns-in-Some-get_index : goal.returns-in-Some-get_index
returns-in-Some-get_index g c =
    let t = c.self.inside in
    let slots = t.slots.indices.items in
    let es = t.map.entries in
    let p = deref_pair c.in-Some-get_index.property in
    let count : length c.args.self.now ≡ length es = ap length (sym c.self.view_is) ∙ all_length es slots t.slots.slot_of.items t.slots.placed c.self.invariant in
    let full : length slots ≡ length es = omega (arith, count) in
    let at : get_or slots c.args.i None ≡ Some c.in-Some.n = sym (get_or_read slots c.args.i c.index.result.now (omega (arith, count)) c.index.ensures None) ∙ c.in-Some.is in
    let entry : slice_get es c.in-Some.n ≡ Some p = sym c.get_index.ensures.entry ∙ ap (option_map deref_pair) c.in-Some-get_index.is in
    ap (λ now. slice_get now c.args.i) (sym c.self.view_is) ∙ at_full es slots t.slots.slot_of.items t.slots.placed c.self.invariant full c.args.i c.in-Some.n p at entry

pub loop-preserved : goal.loop-preserved
loop-preserved g c = is_left deref_pair c.args.self.now c.loop.properties c.next.new.self c.loop.counter c.loop.invariant (omega (arith, c.requires)) c.next.result c.next.ensures.some c.next.ensures.none

pub unwrap-requires : goal.unwrap-requires
unwrap-requires g c = is_next deref_pair c.args.self.now c.loop.properties c.next-2.new.self c.loop.counter c.loop.invariant (omega (arith, c.requires)) c.next-2.result c.next-2.ensures.some c.next-2.ensures.none

pub returns : goal.returns
returns g c =
    let end : c.args.i ≡ c.loop.counter = omega arith in
    ap (slice_get c.args.self.now) end
    ∙ is_shown deref_pair c.args.self.now c.loop.properties c.next-2.new.self c.loop.counter c.loop.invariant (omega (arith, c.requires)) c.unwrap.result c.next-2.result c.unwrap.ensures c.next-2.ensures.some
