use Rattle.std.proofs.Common.{◌≡◌, map, take}
use Rattle.std.specs.Option.{option_map}
use Rattle.lone_functions.specs.Anew as spec
use Rattle.lone_functions.proofs.anew.Anew.+expression_copies.Given as goal

abbrev pub invariant-exprs-loop-e : goal.invariant-exprs-loop-e
invariant-exprs-loop-e l = l.copies ≡ map (spec.expr l.self.first) (take l.e-index l.all)

abbrev pub invariant-elements-loop-e : goal.invariant-elements-loop-e
invariant-elements-loop-e l = l.copies ≡ map (option_map (spec.expr l.self.first)) (take l.e-index l.all)

abbrev pub invariant-fields-loop-f : goal.invariant-fields-loop-f
invariant-fields-loop-f l = l.copies ≡ map (spec.field l.self.first) (take l.f-index l.all)
