use Rattle.std.proofs.Common.{◌∙◌, sym, ap, subst}
use Rattle.std.specs.Prelude.{Some, Err}
use Rattle.heap_values.specs.Meaning.{descriptor_of, property_of}
use Rattle.own_properties.specs.Defining.{Changes, settled_as, with_table}
use Rattle.own_properties.proofs.Lowering.{shortened_done, shortened_rejected, shortened_unknown, last_fields}
use Rattle.own_properties.proofs.array.shorten_from.Goals as goal

pub returns-in_ok-cut-in-Ok-clause-answer : goal.returns-in_ok-cut-in-Ok-clause-answer
returns-in_ok-cut-in-Ok-clause-answer c = λ o.
    shortened_done o c.args.extensible c.args.properties.now c.cut.new.properties (descriptor_of c.args.d.now) c.args.wanted c.stop_at-stop.result c.args.first c.stop_at-stop.ensures.is c.in-Ok.p
    (subst (λ to. Changes (Some (property_of c.args.first)) c.args.extensible (last_fields (descriptor_of c.args.d.now) c.stop_at-stop.result) to) c.in-Ok.is
    (subst (λ d. Changes (Some (property_of c.args.first)) c.args.extensible d c.in_ok-p.field-0) c.last_change.ensures c.in_ok-p.ensures))
    c.in_ok-cut-in-Ok.ensures.ok
    ∙ ap (λ answer. settled_as answer (with_table o c.args.extensible c.cut.new.properties)) (sym c.ended.ensures.is)

pub returns-in_ok-cut-in-Err-Rejected-clause-answer : goal.returns-in_ok-cut-in-Err-Rejected-clause-answer
returns-in_ok-cut-in-Err-Rejected-clause-answer c = λ o.
    shortened_rejected o c.args.extensible c.args.properties.now c.cut-in-Err-Rejected.new.properties (descriptor_of c.args.d.now) c.args.wanted c.stop_at-stop.result c.args.first c.stop_at-stop.ensures.is
    (subst (λ to. Changes (Some (property_of c.args.first)) c.args.extensible (last_fields (descriptor_of c.args.d.now) c.stop_at-stop.result) to) (c.in-Err-Rejected.is ∙ ap (λ u. Err u) c.in-Err-Rejected.field-0-is)
    (subst (λ d. Changes (Some (property_of c.args.first)) c.args.extensible d c.in_ok-p.field-0) c.last_change.ensures c.in_ok-p.ensures))
    c.in_ok-cut-in-Err-Rejected.ensures.ok

pub returns-in-Err-OfAbsent-clause-answer : goal.returns-in-Err-OfAbsent-clause-answer
returns-in-Err-OfAbsent-clause-answer c = λ o.
    shortened_unknown o c.args.extensible c.args.properties.now c.args.properties.now (descriptor_of c.args.d.now) c.args.wanted c.stop_at-stop.result c.args.first c.stop_at-stop.ensures.is
    (subst (λ to. Changes (Some (property_of c.args.first)) c.args.extensible (last_fields (descriptor_of c.args.d.now) c.stop_at-stop.result) to) (c.in-Err-OfAbsent.is ∙ ap (λ u. Err u) c.in-Err-OfAbsent.field-0-is)
    (subst (λ d. Changes (Some (property_of c.args.first)) c.args.extensible d c.in_ok-p.field-0) c.last_change.ensures c.in_ok-p.ensures))
