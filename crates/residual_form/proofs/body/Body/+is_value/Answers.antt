use Rattle.std.proofs.Common.{ap, ◌∙◌, sym}
use Rattle.std.specs.List.{list_all}
use Rattle.residual_form.specs.Bodies.{seen}
use Rattle.residual_form.specs.Values.{in_form, in_field, is_item_of}
use Rattle.residual_form.proofs.Listed.{value-ArrayLit, value-ObjectLit}
use Rattle.residual_form.proofs.body.Body.+is_value.Goals as goal

pub is_value_form-returns-in-ArrayLit : goal.is_value_form-returns-in-ArrayLit
is_value_form-returns-in-ArrayLit t c =
    let b = seen c.args.self.now in
    let w = c.in-ArrayLit in
    c.are_items.ensures ∙ ap (list_all (is_item_of b)) c.as_slice.ensures ∙ sym (ap (λ f. (in_form b f).value) w.is ∙ value-ArrayLit b w.items)

pub is_value_form-returns-in-ObjectLit : goal.is_value_form-returns-in-ObjectLit
is_value_form-returns-in-ObjectLit t c =
    let b = seen c.args.self.now in
    let w = c.in-ObjectLit in
    c.are_fields.ensures ∙ ap (list_all (in_field b)) c.as_slice-in-ObjectLit.ensures ∙ sym (ap (λ f. (in_form b f).value) w.is ∙ value-ObjectLit b w.fields)
