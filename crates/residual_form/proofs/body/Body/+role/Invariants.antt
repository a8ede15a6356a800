use Rattle.std.proofs.Common.{◌≡◌, take, true}
use Rattle.std.specs.List.{list_all}
use Rattle.residual_form.specs.Bodies.{seen}
use Rattle.residual_form.specs.Statements as spec
use Rattle.residual_form.proofs.body.Body.+role.Given as goal

abbrev pub invariant-are_all-loop-s : goal.invariant-are_all-loop-s
invariant-are_all-loop-s l = list_all (spec.is_statement (seen l.self)) (take l.s-index l.all) ≡ true
