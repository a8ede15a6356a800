use Rattle.std.proofs.Common.{◌∙◌, refl, sym, ap}
use Rattle.std.specs.Option.{option_map}
use Rattle.plain_heap.specs.Heap.{Properties}
use Rattle.plain_heap.specs.Methods.{Changed, settled, define_by, define_plain}
use Rattle.heap_values.specs.Meaning.{descriptor_of, property_of}
use Rattle.own_properties.specs.Defining.{changed_to, settled_as, entries, with_table}
use Rattle.own_properties.proofs.Entries.{looked_up, put_in}
use Rattle.own_properties.proofs.plain.define.Goals as goal

pub returns-in-Err-clause-answer : goal.returns-in-Err-clause-answer
unfolding define_plain
returns-in-Err-clause-answer c = λ o.
    let before = with_table o c.args.extensible c.args.properties.now in
    ap (λ found. settled (define_by c.args.key.now (descriptor_of c.args.d.now) before found)) (looked_up c.args.key.now c.args.properties.now ∙ ap (option_map property_of) (sym c.get.ensures.value))
    ∙ c.in_ok-property.ensures.says c.args.key.now before refl ∙ ap (λ to. changed_to c.args.key.now to before) c.in-Err.is ∙ ap (λ answer. settled_as answer before) (sym c.answer.ensures)

pub returns-in_ok-insert-in-Ok-clause-answer : goal.returns-in_ok-insert-in-Ok-clause-answer
unfolding define_plain
returns-in_ok-insert-in-Ok-clause-answer c = λ o.
    let before = with_table o c.args.extensible c.args.properties.now in
    ap (λ found. settled (define_by c.args.key.now (descriptor_of c.args.d.now) before found)) (looked_up c.args.key.now c.args.properties.now ∙ ap (option_map property_of) (sym c.get.ensures.value))
    ∙ c.in_ok-property.ensures.says c.args.key.now before refl ∙ ap (λ to. changed_to c.args.key.now to before) c.in-Ok.is
    ∙ ap (λ (ps : Properties). Changed (record before { properties = ps })) (put_in c.args.key.now c.in-Ok.property c.args.properties.now ∙ ap entries (sym c.in_ok-insert-in-Ok.ensures.ok))
