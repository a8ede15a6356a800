use Rattle.std.proofs.Common.{◌≡◌, take}
use Rattle.script_text.specs.Pieces.{behind_commas}
use Rattle.token_sheets.specs.Sheets.{put_all}
use Rattle.script_text.specs.Printing.{function_to}
use Rattle.script_text.specs.Statements.{declarator}
use Rattle.js_printer.proofs.expressions.Printer.declarator_list.Given as goal

abbrev pub invariant-loop-d : goal.invariant-loop-d
invariant-loop-d g l = l.page ≡ put_all (behind_commas (declarator (function_to l.self.depth l.self.funcs.now) l.allows_in) (take l.d-index l.more)) l.initial.page
