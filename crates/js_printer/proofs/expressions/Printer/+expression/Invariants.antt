use Rattle.std.proofs.Common.{◌≡◌, take}
use Rattle.std.specs.Option.{option_map}
use Rattle.script_text.specs.Pieces.{behind_commas}
use Rattle.token_sheets.specs.Sheets.{put_all}
use Rattle.script_text.specs.Printing.{function_to}
use Rattle.script_text.specs.Expressions.{printed, printed_field, argument, element}
use Rattle.js_printer.proofs.expressions.Printer.+expression.Given as goal

abbrev pub invariant-values_behind-loop-e : goal.invariant-values_behind-loop-e
invariant-values_behind-loop-e g l =
    l.page ≡ put_all (behind_commas (argument (function_to l.self.depth l.self.funcs.now)) (take l.e-index l.all)) l.initial.page

abbrev pub invariant-elements-loop-e : goal.invariant-elements-loop-e
invariant-elements-loop-e g l =
    l.page ≡ put_all (behind_commas (λ e. element (option_map (printed (function_to l.self.depth l.self.funcs.now)) e)) (take l.e-index l.more)) l.initial.page

abbrev pub invariant-fields-loop-f : goal.invariant-fields-loop-f
invariant-fields-loop-f g l =
    l.page ≡ put_all (behind_commas (printed_field (function_to l.self.depth l.self.funcs.now)) (take l.f-index l.more)) l.initial.page

abbrev pub invariant-values-loop-e : goal.invariant-values-loop-e
invariant-values-loop-e g l =
    l.page ≡ put_all (behind_commas (argument (function_to l.self.depth l.self.funcs.now)) (take l.e-index l.more)) l.initial.page
