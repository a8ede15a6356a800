use Rattle.std.proofs.Common.{◌≡◌, take}
use Rattle.js_scope.specs.FreeNames.{unread}
use Rattle.js_scope.specs.Mentioning.{told}
use Rattle.js_scope.proofs.unread.unread_mentions.Given as goal

abbrev pub invariant-loop-mention : goal.invariant-loop-mention
invariant-loop-mention l = told l.others.items ≡ unread (told (take l.mention-index l.mentions))
