use Rattle.std.proofs.Common.{◌≡◌, take, false}
use Rattle.residual_form.specs.Names as spec
use Rattle.residual_form.proofs.sought.+stmt_sought.Given as goal

abbrev pub invariant-in_stmts-loop-s : goal.invariant-in_stmts-loop-s
invariant-in_stmts-loop-s l = spec.in_stmts l.name l.sought (take l.s-index l.all) ≡ false

abbrev pub invariant-in_cases-loop-c : goal.invariant-in_cases-loop-c
invariant-in_cases-loop-c l = spec.in_cases l.name l.sought (take l.c-index l.all) ≡ false
