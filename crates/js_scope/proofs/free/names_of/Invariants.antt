use Rattle.std.proofs.Common.{◌≡◌, take}
use Rattle.js_scope.specs.FreeNames.{names_in}
use Rattle.js_scope.specs.Mentioning as mentioning
use Rattle.js_scope.proofs.free.names_of.Given as goal

abbrev pub invariant-loop-mention : goal.invariant-loop-mention
invariant-loop-mention l = l.names ≡ names_in (mentioning.told (take l.mention-index l.mentions))
