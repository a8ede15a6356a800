use Rattle.std.proofs.Common.{◌≡◌, ◌++◌, take}
use Rattle.js_tree.specs.Mentions as tree
use Rattle.js_scope.specs.Mentioning as spec
use Rattle.js_scope.proofs.mention.push_unbound_of.Given as goal

abbrev pub invariant-loop-mention : goal.invariant-loop-mention
invariant-loop-mention l = spec.told l.mentions.items ≡ spec.told l.fn.mentions.items ++ tree.unbound l.names (spec.told (take l.mention-index l.inside))
