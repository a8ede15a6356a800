use Rattle.std.proofs.Common.{◌∙◌, ◌+◌, sym, ap, subst}
use Rattle.std.specs.Prelude.{Ok, Err, is_some}
use Rattle.std.specs.Option.{option_copied, option_map}
use Rattle.plain_heap.specs.Heap.{Properties, lookup, put_at}
use Rattle.plain_heap.specs.Methods as methods
use Rattle.plain_heap.specs.Methods.{length_key, Changed, Refused}
use Rattle.plain_heap.specs.Values.{number}
use Rattle.plain_heap.proofs.Properties.{lookup_put_other}
use Rattle.heap_values.specs.Meaning.{descriptor_of, property_of}
use Rattle.own_properties.specs.Defining.{Changes, entries, settled_as, with_table}
use Rattle.own_properties.specs.declared.plain.Unchanged.TheVariants as unchanged
use Rattle.own_properties.proofs.Entries.{put_in}
use Rattle.own_properties.proofs.Lowering.{then_says, stays_so, length_found, key_found, raised}
use Rattle.own_properties.proofs.array.append.Goals as goal

pub returns-in-Err-clause-answer : goal.returns-in-Err-clause-answer
returns-in-Err-clause-answer c = λ o.
    let before = with_table o c.args.extensible c.args.properties.now in
    then_says c.args.key.now (descriptor_of c.args.d.now) before (option_map property_of (option_copied c.get.result)) (Err c.in-Err.unchanged) (λ o. methods.define_plain length_key (methods.value_field (number (c.args.index + 1))) o) (λ o. methods.Rejected o)
    (key_found c.args.key.now o c.args.extensible c.args.properties.now (option_copied c.get.result) c.get.ensures.value)
    (subst (λ to. Changes (option_map property_of (option_copied c.get.result)) c.args.extensible (descriptor_of c.args.d.now) to) c.in-Err.is c.in_ok-element.ensures)
    ∙ stays_so c.in-Err.unchanged before (λ o. methods.define_plain length_key (methods.value_field (number (c.args.index + 1))) o)
    ∙ ap (λ answer. settled_as answer before) (sym c.answer.ensures)

pub set-requires : goal.set-requires
set-requires c =
    ap (λ ps. is_some (lookup c.args.length.now ps)) c.in_ok-insert-in-Ok-2.ensures.ok
    ∙ ap (λ key. is_some (lookup key (put_at c.args.key.now c.in-Ok.element c.args.properties.now))) c.requires.named
    ∙ ap (λ found. is_some found) (lookup_put_other c.args.key.now length_key c.in-Ok.element c.args.properties.now c.requires.apart) ∙ c.requires.there

pub returns-in_ok-insert-in-Ok-2-clause-answer : goal.returns-in_ok-insert-in-Ok-2-clause-answer
returns-in_ok-insert-in-Ok-2-clause-answer c = λ o.
    let old = c.args.properties.now in
    raised o c.args.extensible old c.args.key.now (descriptor_of c.args.d.now) (methods.value_field (number (c.args.index + 1))) c.in-Ok.element (option_copied c.get.result) (option_copied c.get-2.result) (Ok c.in-Ok-2.p)
    (key_found c.args.key.now o c.args.extensible old (option_copied c.get.result) c.get.ensures.value)
    (length_found c.args.length.now o c.args.extensible old (option_copied c.get-2.result) c.requires.named c.get-2.ensures.value) c.requires.apart
    (subst (λ to. Changes (option_map property_of (option_copied c.get.result)) c.args.extensible (descriptor_of c.args.d.now) to) c.in-Ok.is c.in_ok-element.ensures)
    (subst (λ to. Changes (option_map property_of (option_copied c.get-2.result)) c.args.extensible (methods.value_field (number (c.args.index + 1))) to) c.in-Ok-2.is
    (subst (λ d. Changes (option_map property_of (option_copied c.get-2.result)) c.args.extensible d c.in_ok-p.field-0) (c.of_value-raised.ensures ∙ ap methods.value_field c.number.ensures) c.in_ok-p.ensures))
    ∙ ap (λ (ps : Properties). Changed (record (with_table o c.args.extensible old) { properties = ps }))
    (ap (put_at length_key (property_of c.in-Ok-2.p)) (put_in c.args.key.now c.in-Ok.element old)
    ∙ ap (λ key. put_at key (property_of c.in-Ok-2.p) (entries (put_at c.args.key.now c.in-Ok.element old))) (sym c.requires.named)
    ∙ put_in c.args.length.now c.in-Ok-2.p (put_at c.args.key.now c.in-Ok.element old)
    ∙ ap entries (ap (put_at c.args.length.now c.in-Ok-2.p) (sym c.in_ok-insert-in-Ok-2.ensures.ok) ∙ sym c.set.ensures))

pub returns-in_ok-insert-in-Err-Rejected-clause-answer : goal.returns-in_ok-insert-in-Err-Rejected-clause-answer
returns-in_ok-insert-in-Err-Rejected-clause-answer c = λ o.
    let old = c.args.properties.now in
    raised o c.args.extensible old c.args.key.now (descriptor_of c.args.d.now) (methods.value_field (number (c.args.index + 1))) c.in-Ok.element (option_copied c.get.result) (option_copied c.get-2.result) (Err unchanged.Rejected)
    (key_found c.args.key.now o c.args.extensible old (option_copied c.get.result) c.get.ensures.value)
    (length_found c.args.length.now o c.args.extensible old (option_copied c.get-2.result) c.requires.named c.get-2.ensures.value) c.requires.apart
    (subst (λ to. Changes (option_map property_of (option_copied c.get.result)) c.args.extensible (descriptor_of c.args.d.now) to) c.in-Ok.is c.in_ok-element.ensures)
    (subst (λ to. Changes (option_map property_of (option_copied c.get-2.result)) c.args.extensible (methods.value_field (number (c.args.index + 1))) to) (c.in-Err-Rejected.is ∙ ap (λ u. Err u) c.in-Err-Rejected.field-0-is)
    (subst (λ d. Changes (option_map property_of (option_copied c.get-2.result)) c.args.extensible d c.in_ok-p.field-0) (c.of_value-raised.ensures ∙ ap methods.value_field c.number.ensures) c.in_ok-p.ensures))
    ∙ ap (λ (ps : Properties). Refused (record (with_table o c.args.extensible old) { properties = ps })) (put_in c.args.key.now c.in-Ok.element old ∙ ap entries (sym c.in_ok-insert-in-Err-Rejected.ensures.ok))

pub returns-in-Err-OfAbsent-clause-answer : goal.returns-in-Err-OfAbsent-clause-answer
returns-in-Err-OfAbsent-clause-answer c = λ o.
    let old = c.args.properties.now in
    raised o c.args.extensible old c.args.key.now (descriptor_of c.args.d.now) (methods.value_field (number (c.args.index + 1))) c.in-Ok.element (option_copied c.get.result) (option_copied c.get-2.result) (Err unchanged.OfAbsent)
    (key_found c.args.key.now o c.args.extensible old (option_copied c.get.result) c.get.ensures.value)
    (length_found c.args.length.now o c.args.extensible old (option_copied c.get-2.result) c.requires.named c.get-2.ensures.value) c.requires.apart
    (subst (λ to. Changes (option_map property_of (option_copied c.get.result)) c.args.extensible (descriptor_of c.args.d.now) to) c.in-Ok.is c.in_ok-element.ensures)
    (subst (λ to. Changes (option_map property_of (option_copied c.get-2.result)) c.args.extensible (methods.value_field (number (c.args.index + 1))) to) (c.in-Err-OfAbsent.is ∙ ap (λ u. Err u) c.in-Err-OfAbsent.field-0-is)
    (subst (λ d. Changes (option_map property_of (option_copied c.get-2.result)) c.args.extensible d c.in_ok-p.field-0) (c.of_value-raised.ensures ∙ ap methods.value_field c.number.ensures) c.in_ok-p.ensures))
