use Rattle.std.proofs.Common.{◌≡◌, take}
use Rattle.std.specs.List.{flat_map}
use Rattle.token_sheets.specs.Sheets.{put_all}
use Rattle.script_text.specs.Printing.{function_to}
use Rattle.script_text.specs.Statements.{lines, shown, shown_case}
use Rattle.js_printer.proofs.expressions.Printer.+statement.Given as goal

abbrev pub invariant-lines-loop-s : goal.invariant-lines-loop-s
invariant-lines-loop-s g l = l.page ≡ put_all (lines (shown (function_to l.self.depth l.self.funcs.now)) (take l.s-index l.body)) l.initial.page

abbrev pub invariant-clause_list-loop-c : goal.invariant-clause_list-loop-c
invariant-clause_list-loop-c g l = l.page ≡ put_all (flat_map (shown_case (function_to l.self.depth l.self.funcs.now)) (take l.c-index l.all)) l.initial.page
