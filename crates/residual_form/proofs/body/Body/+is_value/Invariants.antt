use Rattle.std.proofs.Common.{◌≡◌, take, true}
use Rattle.std.specs.List.{list_all}
use Rattle.residual_form.specs.Bodies.{seen}
use Rattle.residual_form.specs.Values as spec
use Rattle.residual_form.proofs.body.Body.+is_value.Given as goal

abbrev pub invariant-are_items-loop-e : goal.invariant-are_items-loop-e
invariant-are_items-loop-e l = list_all (spec.is_item_of (seen l.self)) (take l.e-index l.all) ≡ true

abbrev pub invariant-are_fields-loop-f : goal.invariant-are_fields-loop-f
invariant-are_fields-loop-f l = list_all (spec.in_field (seen l.self)) (take l.f-index l.all) ≡ true
