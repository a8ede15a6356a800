use Rattle.std.proofs.Common.{◌≡◌, ◌-◌, take, drop, length, refl, ap, sym, ◌∙◌}
use Rattle.std.specs.Prelude.{codes}
use Rattle.script_text.specs.Pieces.{Piece, closing, behind_commas, separated}
use Rattle.token_sheets.specs.Sheets.{put_all}
use Rattle.script_text.specs.Expressions.{argument, printed_field, element, printed, last_comma, ends_in_elision}
use Rattle.std.specs.Option.{option_map}
use Rattle.std.specs.Prelude.{List, Option}
use Rattle.js_tree.specs.declared.expression.Expr.{Expr}
use Rattle.js_printer.proofs.expressions.Printer.+expression.Goals.{elements-in_default, elements-in-len1-up+else-loop-e-test, elements-in-Some+in_ok-expr, elements-in_default-first, elements-in-Some-e+in_ok-expr-2, elements-in_default-e}
use Rattle.script_text.specs.Printing.{function_to}
use Rattle.js_printer.proofs.Putting.{on_ok_along, commas-push, separated-whole, separated-none}
use Rattle.token_sheets.proofs.Putting.{put_all-append}
use Rattle.js_printer.proofs.Forms.{put-This, put-Name, put-Literal, put-ArrayLit, put-ObjectLit, put-Func, put-Member, put-Index, put-Call, put-New, put-Unary, put-Binary, put-Logic, put-Conditional, put-Assign, put-Step, put-Comma, put-Input, put-HostCall}
use Rattle.js_printer.proofs.expressions.Printer.+expression.Goals as goal

pub form-returns-in-This : goal.form-returns-in-This
form-returns-in-This g t c =
    let w = c.in-This in
    on_ok_along c.word.result _ _ _ c.word.ensures (rw (w.is, put-This (function_to c.args.self.now.depth c.args.self.now.funcs.now) c.args.allows_in c.args.page.now) refl)

pub form-returns-in-Name : goal.form-returns-in-Name
form-returns-in-Name g t c =
    let w = c.in-Name in
    on_ok_along c.reference.result _ _ _ c.reference.ensures (rw (w.is, put-Name (function_to c.args.self.now.depth c.args.self.now.funcs.now) c.args.allows_in w.units c.args.page.now) refl)

pub form-returns-in-Literal : goal.form-returns-in-Literal
form-returns-in-Literal g t c =
    let w = c.in-Literal in
    on_ok_along c.literal.result _ _ _ c.literal.ensures (rw (w.is, put-Literal (function_to c.args.self.now.depth c.args.self.now.funcs.now) c.args.allows_in w.value c.args.page.now) refl)

pub form-returns-in_ok-elements-in-ArrayLit : goal.form-returns-in_ok-elements-in-ArrayLit
form-returns-in_ok-elements-in-ArrayLit g t c =
    let w = c.in-ArrayLit in
    on_ok_along c.closing.result _ _ _ c.closing.ensures (rw (w.is, put-ArrayLit (function_to c.args.self.now.depth c.args.self.now.funcs.now) c.args.allows_in w.items c.args.page.now, c.in_ok-elements-in-ArrayLit.ensures, c.in_ok-opening-in-ArrayLit.ensures, c.as_slice.ensures) refl)

pub form-returns-in_ok-fields-in-ObjectLit : goal.form-returns-in_ok-fields-in-ObjectLit
form-returns-in_ok-fields-in-ObjectLit g t c =
    let w = c.in-ObjectLit in
    on_ok_along c.closing-in-ObjectLit.result _ _ _ c.closing-in-ObjectLit.ensures (rw (w.is, put-ObjectLit (function_to c.args.self.now.depth c.args.self.now.funcs.now) c.args.allows_in w.fields c.args.page.now, c.in_ok-fields-in-ObjectLit.ensures, c.in_ok-opening-in-ObjectLit.ensures, c.as_slice-in-ObjectLit.ensures) refl)

pub form-returns-in_ok-word-in-Func : goal.form-returns-in_ok-word-in-Func
form-returns-in_ok-word-in-Func g t c =
    let w = c.in-Func in
    on_ok_along c.function.result _ _ _ c.function.ensures (rw (w.is, put-Func (function_to c.args.self.now.depth c.args.self.now.funcs.now) c.args.allows_in w.f c.args.page.now, c.in_ok-word-in-Func.ensures) refl)

pub form-returns-in_ok-inner-in-Member : goal.form-returns-in_ok-inner-in-Member
form-returns-in_ok-inner-in-Member g t c =
    let w = c.in-Member in
    on_ok_along c.named.result _ _ _ c.named.ensures (rw (w.is, put-Member (function_to c.args.self.now.depth c.args.self.now.funcs.now) c.args.allows_in w.object w.key c.args.page.now, c.in_ok-inner-in-Member.ensures, c.in_ok-object-in-Member.ensures) refl)

pub form-returns-in_ok-expr-in-Index : goal.form-returns-in_ok-expr-in-Index
form-returns-in_ok-expr-in-Index g t c =
    let w = c.in-Index in
    on_ok_along c.index.result _ _ _ c.index.ensures (rw (w.is, put-Index (function_to c.args.self.now.depth c.args.self.now.funcs.now) c.args.allows_in w.object w.key c.args.page.now, c.in_ok-expr-in-Index.ensures) refl)

pub form-returns-in_ok-expr-in-Call : goal.form-returns-in_ok-expr-in-Call
form-returns-in_ok-expr-in-Call g t c =
    let w = c.in-Call in
    on_ok_along c.arguments.result _ _ _ c.arguments.ensures (rw (w.is, put-Call (function_to c.args.self.now.depth c.args.self.now.funcs.now) c.args.allows_in w.callee w.args c.args.page.now, c.in_ok-expr-in-Call.ensures, c.as_slice-in-Call.ensures) refl)

pub form-returns-in_ok-callee_of_new-in-New : goal.form-returns-in_ok-callee_of_new-in-New
form-returns-in_ok-callee_of_new-in-New g t c =
    let w = c.in-New in
    on_ok_along c.arguments-in-New.result _ _ _ c.arguments-in-New.ensures (rw (w.is, put-New (function_to c.args.self.now.depth c.args.self.now.funcs.now) c.args.allows_in w.callee w.args c.args.page.now, c.in_ok-callee_of_new-in-New.ensures, c.in_ok-word-in-New.ensures, c.as_slice-in-New.ensures) refl)

pub form-returns-in_ok-unary_operator-in-Unary : goal.form-returns-in_ok-unary_operator-in-Unary
form-returns-in_ok-unary_operator-in-Unary g t c =
    let w = c.in-Unary in
    on_ok_along c.expr-in-Unary.result _ _ _ c.expr-in-Unary.ensures (rw (w.is, put-Unary (function_to c.args.self.now.depth c.args.self.now.funcs.now) c.args.allows_in w.op w.a c.args.page.now, c.in_ok-unary_operator-in-Unary.ensures) refl)

pub form-returns-in_ok-word-in-Binary : goal.form-returns-in_ok-word-in-Binary
form-returns-in_ok-word-in-Binary g t c =
    let w = c.in-Binary in
    on_ok_along c.expr-in-Binary-2.result _ _ _ c.expr-in-Binary-2.ensures (rw (w.is, put-Binary (function_to c.args.self.now.depth c.args.self.now.funcs.now) c.args.allows_in w.op w.a w.b c.args.page.now, c.in_ok-word-in-Binary.ensures, c.in_ok-expr-in-Binary.ensures, c.operator.ensures, c.binary_level-level.ensures) refl)

pub form-returns-in_ok-word-in-Logic : goal.form-returns-in_ok-word-in-Logic
form-returns-in_ok-word-in-Logic g t c =
    let w = c.in-Logic in
    on_ok_along c.expr-in-Logic-2.result _ _ _ c.expr-in-Logic-2.ensures (rw (w.is, put-Logic (function_to c.args.self.now.depth c.args.self.now.funcs.now) c.args.allows_in w.op w.a w.b c.args.page.now, c.in_ok-word-in-Logic.ensures, c.in_ok-expr-in-Logic.ensures, c.logic_operator.ensures, c.logic_level-level.ensures) refl)

pub form-returns-in_ok-choice-in-Conditional : goal.form-returns-in_ok-choice-in-Conditional
form-returns-in_ok-choice-in-Conditional g t c =
    let w = c.in-Conditional in
    on_ok_along c.choice-in-Conditional.result _ _ _ c.choice-in-Conditional.ensures (rw (w.is, put-Conditional (function_to c.args.self.now.depth c.args.self.now.funcs.now) c.args.allows_in w.test w.a w.b c.args.page.now, c.in_ok-choice-in-Conditional.ensures, c.in_ok-expr-in-Conditional.ensures) refl)

pub form-returns-in_ok-word-in-Assign : goal.form-returns-in_ok-word-in-Assign
form-returns-in_ok-word-in-Assign g t c =
    let w = c.in-Assign in
    on_ok_along c.expr-in-Assign-2.result _ _ _ c.expr-in-Assign-2.ensures (rw (w.is, put-Assign (function_to c.args.self.now.depth c.args.self.now.funcs.now) c.args.allows_in w.a w.op w.b c.args.page.now, c.in_ok-word-in-Assign.ensures, c.in_ok-expr-in-Assign.ensures, c.assignment_operator.ensures) refl)

pub form-returns-in-Step : goal.form-returns-in-Step
form-returns-in-Step g t c =
    let w = c.in-Step in
    on_ok_along c.step.result _ _ _ c.step.ensures (rw (w.is, put-Step (function_to c.args.self.now.depth c.args.self.now.funcs.now) c.args.allows_in w.op w.a c.args.page.now) refl)

pub form-returns-in_ok-closing-in-Comma : goal.form-returns-in_ok-closing-in-Comma
form-returns-in_ok-closing-in-Comma g t c =
    let w = c.in-Comma in
    on_ok_along c.expr-in-Comma-2.result _ _ _ c.expr-in-Comma-2.ensures (rw (w.is, put-Comma (function_to c.args.self.now.depth c.args.self.now.funcs.now) c.args.allows_in w.a w.b c.args.page.now, c.in_ok-closing-in-Comma.ensures, c.in_ok-expr-in-Comma.ensures) refl)

pub form-returns-in-Input : goal.form-returns-in-Input
form-returns-in-Input g t c =
    let w = c.in-Input in
    on_ok_along c.input.result _ _ _ c.input.ensures (rw (w.is, put-Input (function_to c.args.self.now.depth c.args.self.now.funcs.now) c.args.allows_in w.kind w.text c.args.page.now) refl)

pub form-returns-in-HostCall : goal.form-returns-in-HostCall
form-returns-in-HostCall g t c =
    let w = c.in-HostCall in
    on_ok_along c.host_call.result _ _ _ c.host_call.ensures (rw (w.is, put-HostCall (function_to c.args.self.now.depth c.args.self.now.funcs.now) c.args.allows_in w.kind w.text w.args c.args.page.now, c.as_slice-in-HostCall.ensures) refl)

pub values-loop-e-preserved : goal.values-loop-e-preserved
values-loop-e-preserved g t c =
    let F = function_to c.args.self.now.depth c.args.self.now.funcs.now in
    c.in_ok-expr-2.ensures ∙ ap (put_all (argument F c.e-item.result)) (c.in_ok-closing.ensures ∙ ap (put_all (closing (codes ","))) c.loop-e.invariant) ∙ sym (commas-push (argument F) _ _ _ c.loop-e-test.true c.e-item.is _)

pub values_behind-loop-e-preserved : goal.values_behind-loop-e-preserved
values_behind-loop-e-preserved g t c =
    let F = function_to c.args.self.now.depth c.args.self.now.funcs.now in
    c.in_ok-expr.ensures ∙ ap (put_all (argument F c.e-item.result)) (c.in_ok-closing.ensures ∙ ap (put_all (closing (codes ","))) c.loop-e.invariant) ∙ sym (commas-push (argument F) _ _ _ c.loop-e-test.true c.e-item.is _)

pub fields-loop-f-preserved : goal.fields-loop-f-preserved
fields-loop-f-preserved g t c =
    let F = function_to c.args.self.now.depth c.args.self.now.funcs.now in
    c.in_ok-field-2.ensures ∙ ap (put_all (printed_field F c.f-item.result)) (c.in_ok-closing.ensures ∙ ap (put_all (closing (codes ","))) c.loop-f.invariant) ∙ sym (commas-push (printed_field F) _ _ _ c.loop-f-test.true c.f-item.is _)

pub values-returns-after-loop-e : goal.values-returns-after-loop-e
values-returns-after-loop-e g t c =
    let F = function_to c.args.self.now.depth c.args.self.now.funcs.now in
    c.loop-e.invariant ∙ ap (put_all (behind_commas (argument F) _)) c.in_ok-expr.ensures
    ∙ separated-whole (argument F) c.args.all.now c.loop-e.e-index c.first-item.result c.in-len1-up.len_at_least c.loop-e-test.false c.first-item.is c.args.page.now

pub fields-returns-after-loop-f : goal.fields-returns-after-loop-f
fields-returns-after-loop-f g t c =
    let F = function_to c.args.self.now.depth c.args.self.now.funcs.now in
    c.loop-f.invariant ∙ ap (put_all (behind_commas (printed_field F) _)) c.in_ok-field.ensures
    ∙ separated-whole (printed_field F) c.args.all.now c.loop-f.f-index c.first-item.result c.in-len1-up.len_at_least c.loop-f-test.false c.first-item.is c.args.page.now

pub elements-loop-e-preserved : goal.elements-loop-e-preserved
elements-loop-e-preserved g t c =
    let F = function_to c.args.self.now.depth c.args.self.now.funcs.now in
    let el : Option Expr → List Piece = λ e. element (option_map (printed F) e) in
    let before = c.in_ok-closing.ensures ∙ ap (put_all (closing (codes ","))) c.loop-e.invariant in
    let step = sym (commas-push el _ _ _ c.loop-e-test.true c.e-item.is _) in
    elim c.match-e.branch [
      | elements-in-Some-e+in_ok-expr-2 w ↦
          w.page-is ∙ w.in_ok-expr-2.ensures ∙ ap (λ q. put_all (el q) c.closing.new.self) (sym w.in-Some-e.is)
          ∙ ap (put_all (el c.e-item.result)) before ∙ step
      | elements-in_default-e w ↦ w.page-is ∙ ap (λ q. put_all (el q) c.closing.new.self) (sym w.in_default-e.is) ∙ ap (put_all (el c.e-item.result)) before ∙ step
    ]

pub elements-returns : goal.elements-returns
elements-returns g t c =
    let F = function_to c.args.self.now.depth c.args.self.now.funcs.now in
    let el : Option Expr → List Piece = λ e. element (option_map (printed F) e) in
    let first : c.if-all-lt1.page ≡ put_all (separated el c.args.all.now) c.args.page.now = elim c.if-all-lt1.branch [
      | elements-in_default w ↦ w.page-is ∙ separated-none el c.args.all.now w.in_default.len_below c.args.page.now
      | elements-in-len1-up+else-loop-e-test w ↦
          let one : w.match-first.page ≡ put_all (el w.first-item.result) c.args.page.now = elim w.match-first.branch [
            | elements-in-Some+in_ok-expr u ↦ u.page-is ∙ u.in_ok-expr.ensures ∙ ap (λ q. put_all (el q) c.args.page.now) (sym u.in-Some.is)
            | elements-in_default-first u ↦ u.page-is ∙ ap (λ q. put_all (el q) c.args.page.now) (sym u.in_default-first.is)
          ] in
          let more = take w.loop-e.e-index (take (length c.args.all.now - 1) (drop 1 c.args.all.now)) in
          w.page-is ∙ w.loop-e.invariant ∙ ap (put_all (behind_commas el more)) one
          ∙ separated-whole el c.args.all.now w.loop-e.e-index w.first-item.result w.in-len1-up.len_at_least w.loop-e-test.false w.first-item.is c.args.page.now
    ] in
    let comma = last_comma (ends_in_elision c.args.all.now) in
    on_ok_along c.last_comma.result _ _ _ c.last_comma.ensures (ap (put_all comma) first ∙ sym (put_all-append (separated el c.args.all.now) comma c.args.page.now))
