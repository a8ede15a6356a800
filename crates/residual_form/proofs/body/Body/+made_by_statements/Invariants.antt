use Rattle.std.proofs.Common.{◌≡◌, min, take}
use Rattle.residual_form.specs.Bodies.{seen}
use Rattle.residual_form.specs.Creations as spec
use Rattle.residual_form.proofs.body.Body.+made_by_statements.Given as goal

abbrev pub invariant-made_by_stmts-loop-s : goal.invariant-made_by_stmts-loop-s
invariant-made_by_stmts-loop-s l = l.count ≡ min (spec.in_stmts (seen l.self) (take l.s-index l.all)) 18446744073709551615
