use Rattle.js_printer.proofs.expressions.host_call_start.Goals as goal

pub returns : goal.returns
returns c = cc (c.in_ok-two_literals.ensures, c.in_ok-inner.ensures, c.in_ok-word.ensures)
