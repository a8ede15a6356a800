use Rattle.std.proofs.Common.{◌≡◌, ◌++◌, take}
use Rattle.std.specs.List.{flat_map}
use Rattle.js_scope.specs.Mentioning as spec
use Rattle.js_scope.proofs.walk.Walk.+expr_mentions.Given as goal

abbrev pub invariant-in_exprs-loop-e : goal.invariant-in_exprs-loop-e
invariant-in_exprs-loop-e l = spec.told l.mentions.items ≡ spec.told l.fn.mentions.items ++ spec.in_exprs l.self (take l.e-index l.all)

abbrev pub invariant-in_elements-loop-e : goal.invariant-in_elements-loop-e
invariant-in_elements-loop-e l = spec.told l.mentions.items ≡ spec.told l.fn.mentions.items ++ flat_map (spec.in_maybe l.self) (take l.e-index l.all)

abbrev pub invariant-in_fields-loop-field : goal.invariant-in_fields-loop-field
invariant-in_fields-loop-field l = spec.told l.mentions.items ≡ spec.told l.fn.mentions.items ++ spec.in_fields l.self (take l.field-index l.all)
