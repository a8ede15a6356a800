use Rattle.std.proofs.Common.{ap, ◌∙◌, sym}
use Rattle.std.specs.Prelude.{◌||◌}
use Rattle.std.specs.List.{list_any}
use Rattle.residual_form.specs.Names.{in_form, in_field, mentions, maybe_mentions}
use Rattle.residual_form.proofs.Mentioned.{any-Call, any-New, any-ArrayLit, any-ObjectLit, any-HostCall}
use Rattle.residual_form.proofs.sought.+expr_mentions.Goals as goal

pub form_mentions-returns-in-ArrayLit : goal.form_mentions-returns-in-ArrayLit
form_mentions-returns-in-ArrayLit t c =
    let n = c.args.name.now in
    let w = c.in-ArrayLit in
    c.elements_mention.ensures ∙ ap (list_any (maybe_mentions n)) c.as_slice.ensures ∙ sym (ap (in_form n) w.is ∙ any-ArrayLit n w.items)

pub form_mentions-returns-in-ObjectLit : goal.form_mentions-returns-in-ObjectLit
form_mentions-returns-in-ObjectLit t c =
    let n = c.args.name.now in
    let w = c.in-ObjectLit in
    c.fields_mention.ensures ∙ ap (list_any (in_field n)) c.as_slice-in-ObjectLit.ensures ∙ sym (ap (in_form n) w.is ∙ any-ObjectLit n w.fields)

pub form_mentions-returns-in-HostCall : goal.form_mentions-returns-in-HostCall
form_mentions-returns-in-HostCall t c =
    let n = c.args.name.now in
    let w = c.in-HostCall in
    c.exprs_mention-in-HostCall.ensures ∙ ap (list_any (mentions n)) c.as_slice-in-HostCall.ensures ∙ sym (ap (in_form n) w.is ∙ any-HostCall n w.field-0 w.field-1 w.args)

pub form_mentions-returns-else-mentions-2 : goal.form_mentions-returns-else-mentions-2
form_mentions-returns-else-mentions-2 t c =
    let n = c.args.name.now in
    let w = c.in-Call in
    c.exprs_mention.ensures ∙ ap (list_any (mentions n)) c.as_slice-else-mentions-2.ensures
    ∙ sym (ap (in_form n) w.is ∙ any-Call n w.callee w.args ∙ ap (λ b. b || list_any (mentions n) w.args) (sym c.mentions-in-Call.ensures ∙ c.if-mentions-2.false))

pub form_mentions-returns-else-mentions-3 : goal.form_mentions-returns-else-mentions-3
form_mentions-returns-else-mentions-3 t c =
    let n = c.args.name.now in
    let w = c.in-New in
    c.exprs_mention-else-mentions-3.ensures ∙ ap (list_any (mentions n)) c.as_slice-else-mentions-3.ensures
    ∙ sym (ap (in_form n) w.is ∙ any-New n w.callee w.args ∙ ap (λ b. b || list_any (mentions n) w.args) (sym c.mentions-in-New.ensures ∙ c.if-mentions-3.false))
