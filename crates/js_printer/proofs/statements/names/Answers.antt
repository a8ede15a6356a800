use Rattle.std.proofs.Common.{ap, ◌∙◌, sym, take, drop, length, ◌-◌}
use Rattle.std.specs.Prelude.{codes}
use Rattle.script_text.specs.Pieces.{behind_commas, closing}
use Rattle.token_sheets.specs.Sheets.{put_all}
use Rattle.script_text.specs.Statements.{parameter}
use Rattle.js_printer.proofs.Putting.{separated-whole, commas-push}
use Rattle.js_printer.proofs.statements.names.Goals as goal

pub returns-after-loop-x : goal.returns-after-loop-x
returns-after-loop-x c =
    let more = take c.loop-x.x-index (take (length c.args.all.now - 1) (drop 1 c.args.all.now)) in
    c.loop-x.invariant ∙ ap (put_all (behind_commas parameter more)) c.in_ok-named.ensures
    ∙ separated-whole parameter c.args.all.now c.loop-x.x-index c.first-item.result c.in-len1-up.len_at_least c.loop-x-test.false c.first-item.is c.args.page.now

pub loop-x-preserved : goal.loop-x-preserved
loop-x-preserved c =
    c.in_ok-named-2.ensures ∙ ap (put_all (parameter c.x-item.result)) (c.in_ok-closing.ensures ∙ ap (put_all (closing (codes ","))) c.loop-x.invariant) ∙ sym (commas-push parameter _ _ _ c.loop-x-test.true c.x-item.is _)
