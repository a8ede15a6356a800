use Rattle.std.proofs.Common.{arith}
use Rattle.lone_functions.proofs.Counted.{form_Try}
use Rattle.lone_functions.proofs.named.+statement_functions.Goals as goal

pub in_stmt_form-returns-in-Try : goal.in_stmt_form-returns-in-Try
in_stmt_form-returns-in-Try t c =
    let size = form_Try c.in-Try.body c.in-Try.handler c.in-Try.last in
    rw (c.in-Try.is, size, c.saturating_add-in-Try-2.ensures, c.in_last.ensures, c.saturating_add-in-Try.ensures, c.in_handler.ensures, c.in_stmts-in-Try.ensures, c.as_slice-in-Try.ensures) (grind arith)
