use Rattle.std.proofs.Common.{ap, ◌∙◌, sym}
use Rattle.std.specs.Prelude.{◌&&◌}
use Rattle.std.specs.List.{list_all}
use Rattle.js_grammar.specs.ReadableExpressions.{in_form, in_field, is_expr, is_maybe}
use Rattle.readable_trees.proofs.Forms.{readable-Call, readable-New, readable-ArrayLit, readable-ObjectLit, readable-HostCall}
use Rattle.readable_trees.proofs.expressions.Code.+is_expr.Goals as goal

pub is_form-returns-in-ArrayLit : goal.is_form-returns-in-ArrayLit
is_form-returns-in-ArrayLit t c =
    let fs = c.args.self.now.functions.now in
    let w = c.in-ArrayLit in
    c.are_items.ensures ∙ ap (list_all (is_maybe fs)) c.as_slice.ensures ∙ sym (ap (λ f. (in_form fs f).readable) w.is ∙ readable-ArrayLit fs w.items)

pub is_form-returns-in-ObjectLit : goal.is_form-returns-in-ObjectLit
is_form-returns-in-ObjectLit t c =
    let fs = c.args.self.now.functions.now in
    let w = c.in-ObjectLit in
    c.are_fields.ensures ∙ ap (list_all (in_field fs)) c.as_slice-in-ObjectLit.ensures ∙ sym (ap (λ f. (in_form fs f).readable) w.is ∙ readable-ObjectLit fs w.fields)

pub is_form-returns-then-is_readable_text : goal.is_form-returns-then-is_readable_text
is_form-returns-then-is_readable_text t c =
    let fs = c.args.self.now.functions.now in
    let w = c.in-HostCall in
    c.are_exprs-then-is_readable_text.ensures ∙ ap (list_all (is_expr fs)) c.as_slice-then-is_readable_text.ensures
    ∙ sym (ap (λ f. (in_form fs f).readable) w.is ∙ readable-HostCall fs w.field-0 w.text w.args
    ∙ ap (λ b. b && list_all (is_expr fs) w.args) (sym c.is_readable_text-in-HostCall.ensures ∙ c.if-is_readable_text.true))

pub is_form-returns-then-is_expr-3 : goal.is_form-returns-then-is_expr-3
is_form-returns-then-is_expr-3 t c =
    let fs = c.args.self.now.functions.now in
    let w = c.in-Call in
    c.are_exprs.ensures ∙ ap (list_all (is_expr fs)) c.as_slice-then-is_expr-3.ensures
    ∙ sym (ap (λ f. (in_form fs f).readable) w.is ∙ readable-Call fs w.callee w.args
    ∙ ap (λ b. b && list_all (is_expr fs) w.args) (sym c.is_expr-in-Call.ensures ∙ c.if-is_expr-3.true))

pub is_form-returns-then-is_expr-4 : goal.is_form-returns-then-is_expr-4
is_form-returns-then-is_expr-4 t c =
    let fs = c.args.self.now.functions.now in
    let w = c.in-New in
    c.are_exprs-then-is_expr-4.ensures ∙ ap (list_all (is_expr fs)) c.as_slice-then-is_expr-4.ensures
    ∙ sym (ap (λ f. (in_form fs f).readable) w.is ∙ readable-New fs w.callee w.args
    ∙ ap (λ b. b && list_all (is_expr fs) w.args) (sym c.is_expr-in-New.ensures ∙ c.if-is_expr-4.true))
