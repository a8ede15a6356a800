use Rattle.std.proofs.Common.{◌≡◌, ◌++◌, take}
use Rattle.std.specs.List.{flat_map}
use Rattle.js_tree.specs.Mentions as tree
use Rattle.js_scope.specs.Mentioning as spec
use Rattle.js_scope.proofs.mention.push_owned.Given as goal

abbrev pub invariant-loop-mention : goal.invariant-loop-mention
invariant-loop-mention l = spec.told l.mentions.items ≡ spec.told l.fn.mentions.items ++ flat_map (tree.owned_one (spec.own_of l.inside.name)) (spec.told (take l.mention-index l.inside.mentions.items))
