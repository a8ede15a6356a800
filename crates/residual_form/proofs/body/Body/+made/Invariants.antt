use Rattle.std.proofs.Common.{◌≡◌, min, take}
use Rattle.residual_form.specs.Bodies.{seen}
use Rattle.residual_form.specs.Creations as spec
use Rattle.residual_form.proofs.body.Body.+made.Given as goal

abbrev pub invariant-made_by_items-loop-e : goal.invariant-made_by_items-loop-e
invariant-made_by_items-loop-e l = l.count ≡ min (spec.in_items (seen l.self) (take l.e-index l.all)) 18446744073709551615

abbrev pub invariant-made_by_fields-loop-f : goal.invariant-made_by_fields-loop-f
invariant-made_by_fields-loop-f l = l.count ≡ min (spec.in_fields (seen l.self) (take l.f-index l.all)) 18446744073709551615
