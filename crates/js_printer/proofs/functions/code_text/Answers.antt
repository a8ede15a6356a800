use Rattle.std.proofs.Common.{◌∙◌, ap}
use Rattle.token_sheets.specs.Sheets.{put_all, bytes_of}
use Rattle.script_text.specs.CodeLine.{code_text, code_pieces, empty_line}
use Rattle.token_sheets.proofs.Putting.{put_all-Code}
use Rattle.js_printer.proofs.functions.code_text.Goals as goal

pub returns : goal.returns
unfolding code_text
returns c =
    let pieces = code_pieces c.args.script.now c.args.f in
    c.into_bytes.ensures ∙ ap bytes_of (c.in_ok-code.ensures ∙ ap (put_all pieces) c.in_ok-page.ensures
    ∙ put_all-Code pieces (empty_line c.args.names.now))
