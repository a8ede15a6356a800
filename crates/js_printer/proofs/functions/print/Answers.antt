use Rattle.std.proofs.Common.{◌≡◌, ◌∙◌, ap, sym, subst}
use Rattle.script_text.specs.Pieces.{blank}
use Rattle.script_text.specs.Printing.{script_pieces, script_text}
use Rattle.js_printer.specs.GivesBack.{GivesBack}
use Rattle.token_sheets.specs.Sheets.{put_all, bytes_of}
use Rattle.js_printer.proofs.Back.{gives_back}
use Rattle.token_sheets.proofs.Putting.{put_all-Lines}
use Rattle.js_printer.proofs.functions.print.Goals as goal

pub returns-clause-back : goal.returns-clause-back
unfolding script_text
returns-clause-back c =
    let s = c.args.script.now in
    let pieces = script_pieces s in
    let is : c.into_bytes.result ≡ script_text s =
    c.into_bytes.ensures ∙ ap bytes_of (c.in_ok-script.ensures ∙ ap (put_all pieces) c.lines-page.ensures ∙ put_all-Lines pieces blank) in
    λ readable. subst (λ b. GivesBack b s) (sym is) (gives_back c.lexing_back.ensures c.reading_back.ensures c.early_back.ensures.faults c.early_back.ensures.readable s readable)
