use Rattle.std.proofs.Common.{◌≡◌, ◌++◌, map, length}
use Rattle.js_scope.specs.FreeNames.{table_of}
use Rattle.js_scope.specs.Mentioning as mentioning
use Rattle.js_scope.proofs.free.names_of_each.Given as goal

abbrev pub invariant-loop-inside : goal.invariant-loop-inside
invariant-loop-inside l = l.names ++ table_of (map mentioning.inside_of l.insides.items) ≡ table_of (map mentioning.inside_of l.initial.insides.items)

abbrev pub decreases-loop-inside : goal.decreases-loop-inside
decreases-loop-inside l = length l.insides.items
