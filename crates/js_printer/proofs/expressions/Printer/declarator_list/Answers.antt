use Rattle.std.proofs.Common.{ap, ◌∙◌, sym, take, drop, length, ◌-◌}
use Rattle.std.specs.Prelude.{codes}
use Rattle.script_text.specs.Pieces.{behind_commas, closing}
use Rattle.token_sheets.specs.Sheets.{put_all}
use Rattle.script_text.specs.Printing.{function_to}
use Rattle.script_text.specs.Statements.{declarator}
use Rattle.js_printer.proofs.Putting.{separated-whole, commas-push}
use Rattle.js_printer.proofs.expressions.Printer.declarator_list.Goals as goal

pub loop-d-preserved : goal.loop-d-preserved
loop-d-preserved g c =
    let D = declarator (function_to c.args.self.now.depth c.args.self.now.funcs.now) c.args.allows_in in
    c.in_ok-declarator-2.ensures ∙ ap (put_all (D c.d-item.result)) (c.in_ok-closing.ensures ∙ ap (put_all (closing (codes ","))) c.loop-d.invariant) ∙ sym (commas-push D _ _ _ c.loop-d-test.true c.d-item.is _)

pub returns-after-loop-d : goal.returns-after-loop-d
returns-after-loop-d g c =
    let D = declarator (function_to c.args.self.now.depth c.args.self.now.funcs.now) c.args.allows_in in
    let more = take c.loop-d.d-index (take (length c.args.all.now - 1) (drop 1 c.args.all.now)) in
    c.loop-d.invariant ∙ ap (put_all (behind_commas D more)) c.in_ok-declarator.ensures
    ∙ separated-whole D c.args.all.now c.loop-d.d-index c.first-item.result c.in-len1-up.len_at_least c.loop-d-test.false c.first-item.is c.args.page.now
