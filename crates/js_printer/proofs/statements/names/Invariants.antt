use Rattle.std.proofs.Common.{◌≡◌, take}
use Rattle.script_text.specs.Pieces.{behind_commas}
use Rattle.token_sheets.specs.Sheets.{put_all}
use Rattle.script_text.specs.Statements.{parameter}
use Rattle.js_printer.proofs.statements.names.Given as goal

abbrev pub invariant-loop-x : goal.invariant-loop-x
invariant-loop-x l = l.page ≡ put_all (behind_commas parameter (take l.x-index l.more)) l.initial.page
