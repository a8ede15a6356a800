use Rattle.std.proofs.Common.{◌≡◌, min, take}
use Rattle.residual_form.specs.Acts as spec
use Rattle.residual_form.proofs.act.+acts.Given as goal

abbrev pub invariant-in_stmts-loop-s : goal.invariant-in_stmts-loop-s
invariant-in_stmts-loop-s l = l.count ≡ min (spec.in_stmts l.act l.name (take l.s-index l.all)) 18446744073709551615
