use Rattle.std.proofs.Common.{sym, ◌∙◌}
use Rattle.residual_form.specs.Names.{in_stmt, in_case}
use Rattle.residual_form.proofs.Mentioned.{any_at}
use Rattle.residual_form.proofs.sought.+stmt_sought.Goals as goal

pub in_cases-returns-then-in_case : goal.in_cases-returns-then-in_case
in_cases-returns-then-in_case t c =
    any_at (in_case c.args.name.now c.args.sought) c.args.all.now c.loop-c.c-index c.c-item.result c.loop-c-test.true c.c-item.is (sym c.in_case.ensures ∙ c.if-in_case.true)

pub in_stmts-returns-then-in_stmt : goal.in_stmts-returns-then-in_stmt
in_stmts-returns-then-in_stmt t c =
    any_at (in_stmt c.args.name.now c.args.sought) c.args.all.now c.loop-s.s-index c.s-item.result c.loop-s-test.true c.s-item.is (sym c.in_stmt.ensures ∙ c.if-in_stmt.true)
