use Rattle.std.proofs.Common.{◌∙◌, sym, ap, subst}
use Rattle.std.specs.Prelude.{Some, Ok, Err, true}
use Rattle.std.specs.Option.{option_copied, option_map}
use Rattle.std.proofs.lemmas.Result.{IfOk-weaker}
use Rattle.plain_heap.specs.Methods as methods
use Rattle.plain_heap.specs.Methods.{length_key}
use Rattle.heap_values.specs.Meaning.{descriptor_of, property_of}
use Rattle.own_properties.specs.Defining.{Changes, settled_as, with_table}
use Rattle.own_properties.proofs.Lowering.{then_says, stays_so, length_found}
use Rattle.own_properties.proofs.array.shorten.Goals as goal

pub returns-in-Ok-clause-answer : goal.returns-in-Ok-clause-answer
returns-in-Ok-clause-answer c =
    let found = option_map property_of (option_copied c.get.result) in
    let asked = record (descriptor_of c.args.d.now) { writable = Some true } in
    let changes = subst (λ to. Changes found c.args.extensible asked to) c.in-Ok.is (subst (λ d. Changes found c.args.extensible d c.in_ok-first.field-0) c.in_ok-open.ensures c.in_ok-first.ensures) in
    IfOk-weaker c.shorten_from.result _ _ (λ answer says o.
    then_says length_key asked (with_table o c.args.extensible c.args.properties.now) found (Ok c.in-Ok.first) (methods.shorten c.args.wanted (descriptor_of c.args.d.now)) (λ o. methods.Rejected o)
    (length_found c.args.length.now o c.args.extensible c.args.properties.now (option_copied c.get.result) c.requires.named c.get.ensures.value) changes
    ∙ says o) c.shorten_from.ensures.answer

pub returns-clause-answer : goal.returns-clause-answer
returns-clause-answer c = λ o.
    let found = option_map property_of (option_copied c.get.result) in
    let asked = record (descriptor_of c.args.d.now) { writable = Some true } in
    let changes = subst (λ to. Changes found c.args.extensible asked to) c.in-Err.is (subst (λ d. Changes found c.args.extensible d c.in_ok-first.field-0) c.in_ok-open.ensures c.in_ok-first.ensures) in
    then_says length_key asked (with_table o c.args.extensible c.args.properties.now) found (Err c.in-Err.unchanged) (methods.shorten c.args.wanted (descriptor_of c.args.d.now)) (λ o. methods.Rejected o)
    (length_found c.args.length.now o c.args.extensible c.args.properties.now (option_copied c.get.result) c.requires.named c.get.ensures.value) changes
    ∙ stays_so c.in-Err.unchanged (with_table o c.args.extensible c.args.properties.now) (methods.shorten c.args.wanted (descriptor_of c.args.d.now))
    ∙ ap (λ answer. settled_as answer (with_table o c.args.extensible c.args.properties.now)) (sym c.answer.ensures)
