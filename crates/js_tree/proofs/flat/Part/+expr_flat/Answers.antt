use Rattle.std.proofs.Common.{ap, ◌∙◌, sym}
use Rattle.std.specs.List.{list_all}
use Rattle.js_tree.specs.Called.{callable_behind}
use Rattle.js_tree.specs.Flat.{in_form, in_field, expr_flat, maybe_expr_flat}
use Rattle.js_tree.proofs.Flatness.{flat-ArrayLit, flat-ObjectLit, flat-HostCall}
use Rattle.js_tree.proofs.flat.Part.+expr_flat.Goals as goal

pub form-returns-in-ArrayLit : goal.form-returns-in-ArrayLit
form-returns-in-ArrayLit g t c =
    let k = callable_behind c.args.self.now.funcs.now c.args.self.now.first in
    let w = c.in-ArrayLit in
    c.elements.ensures ∙ ap (list_all (maybe_expr_flat k)) c.as_slice.ensures ∙ sym (ap (λ f. (in_form k f).flat) w.is ∙ flat-ArrayLit k w.items)

pub form-returns-in-ObjectLit : goal.form-returns-in-ObjectLit
form-returns-in-ObjectLit g t c =
    let k = callable_behind c.args.self.now.funcs.now c.args.self.now.first in
    let w = c.in-ObjectLit in
    c.fields.ensures ∙ ap (list_all (in_field k)) c.as_slice-in-ObjectLit.ensures ∙ sym (ap (λ f. (in_form k f).flat) w.is ∙ flat-ObjectLit k w.fields)

pub form-returns-in-HostCall : goal.form-returns-in-HostCall
form-returns-in-HostCall g t c =
    let k = callable_behind c.args.self.now.funcs.now c.args.self.now.first in
    let w = c.in-HostCall in
    c.are_flat-in-HostCall.ensures ∙ ap (list_all (expr_flat k)) c.as_slice-in-HostCall.ensures
    ∙ sym (ap (λ f. (in_form k f).flat) w.is ∙ flat-HostCall k w.field-0 w.field-1 w.args)
