use Rattle.std.proofs.Common.{◌≡◌, [], take}
use Rattle.js_scope.specs.FreeNames.{names_in}
use Rattle.js_scope.specs.Hoisting.{add_all}
use Rattle.js_scope.specs.Mentioning.{told}
use Rattle.js_scope.proofs.first.first_mentions.Given as goal

abbrev pub invariant-loop-mention : goal.invariant-loop-mention
invariant-loop-mention l = record {
  gathered : l.names ≡ add_all [] (names_in (told (take l.mention-index l.mentions)));
  first : l.names ≡ names_in (told l.first.items);
}
