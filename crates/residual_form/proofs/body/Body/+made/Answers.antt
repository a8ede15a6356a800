use Rattle.std.proofs.Common.{ap, ◌∙◌, min}
use Rattle.residual_form.specs.Bodies.{seen}
use Rattle.residual_form.specs.Creations.{in_form, in_items}
use Rattle.residual_form.proofs.Totals.{capped, count-ArrayLit}
use Rattle.residual_form.proofs.body.Body.+made.Goals as goal

pub made_by_form-returns-in-ArrayLit : goal.made_by_form-returns-in-ArrayLit
made_by_form-returns-in-ArrayLit t c =
    let b = seen c.args.self.now in
    let w = c.in-ArrayLit in
    capped c.saturating_add.result c.made_by_items.result (in_items b w.items) _
    (c.made_by_items.ensures ∙ ap (λ es. min (in_items b es) 18446744073709551615) c.as_slice.ensures)
    c.saturating_add.ensures
    (ap (λ f. (in_form b f).count) w.is ∙ count-ArrayLit b w.items)
