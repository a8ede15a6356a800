use Rattle.std.proofs.Common.{refl}
use Rattle.js_printer.proofs.Putting.{on_ok_along}
use Rattle.js_printer.proofs.statements.use_strict.Goals as goal

pub returns : goal.returns
returns c = on_ok_along c.end_line.result _ _ _ c.end_line.ensures (rw (c.in_ok-closing.ensures, c.in_ok-word.ensures) refl)
