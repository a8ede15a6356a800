use Rattle.std.proofs.Common.{ap, sym, ◌∙◌}
use Rattle.js_tree.specs.declared.statement.StmtForm.TheVariants as s
use Rattle.script_text.specs.Statements.{Shown, shown_form}
use Rattle.js_printer.proofs.StatementForms.{shown-form, ends-If, ends-Else, ends-While, ends-For, ends-ForIn}
use Rattle.js_printer.proofs.statements.+ends_in_brace.Goals as goal

pub ends_in_brace-returns : goal.ends_in_brace-returns
ends_in_brace-returns t c = λ function. c.form_ends_in_brace.ensures function ∙ ap (λ f. (shown_form function f).ends_in_brace) c.deref.ensures ∙ sym (ap (λ (x : Shown). x.ends_in_brace) (shown-form function c.args.s.now))

pub form_ends_in_brace-returns-in-While : goal.form_ends_in_brace-returns-in-While
form_ends_in_brace-returns-in-While t c = λ function.
    let w = c.in-While in
    c.ends_in_brace-in-While.ensures function ∙ sym (ap (λ f. (shown_form function f).ends_in_brace) w.is ∙ ends-While function w.field-0 w.body)

pub form_ends_in_brace-returns-in-For : goal.form_ends_in_brace-returns-in-For
form_ends_in_brace-returns-in-For t c = λ function.
    let w = c.in-For in
    c.ends_in_brace-in-For.ensures function ∙ sym (ap (λ f. (shown_form function f).ends_in_brace) w.is ∙ ends-For function w.field-0 w.field-1 w.field-2 w.body)

pub form_ends_in_brace-returns-in-ForIn : goal.form_ends_in_brace-returns-in-ForIn
form_ends_in_brace-returns-in-ForIn t c = λ function.
    let w = c.in-ForIn in
    c.ends_in_brace-in-ForIn.ensures function ∙ sym (ap (λ f. (shown_form function f).ends_in_brace) w.is ∙ ends-ForIn function w.field-0 w.field-1 w.body)

pub form_ends_in_brace-returns-in-None : goal.form_ends_in_brace-returns-in-None
form_ends_in_brace-returns-in-None t c = λ function.
    let w = c.in-If in
    c.ends_in_brace.ensures function
    ∙ sym (ap (λ f. (shown_form function f).ends_in_brace) (w.is ∙ ap (λ o. s.If w.field-0 w.a o) c.in-None.is) ∙ ends-If function w.field-0 w.a)

pub form_ends_in_brace-returns-in-Some : goal.form_ends_in_brace-returns-in-Some
form_ends_in_brace-returns-in-Some t c = λ function.
    let w = c.in-If in
    c.ends_in_brace-in-Some.ensures function
    ∙ sym (ap (λ f. (shown_form function f).ends_in_brace) (w.is ∙ ap (λ o. s.If w.field-0 w.a o) c.in-Some.is) ∙ ends-Else function w.field-0 w.a c.in-Some.b)
