use Rattle.std.proofs.Common.{◌≡◌, ◌++◌, [], take, map}
use Rattle.js_tree.specs.Mentions as tree
use Rattle.js_scope.specs.Mentioning as spec
use Rattle.js_scope.specs.Properties as properties
use Rattle.js_scope.proofs.properties.push_repeats.Given as goal

abbrev pub invariant-loop-field : goal.invariant-loop-field
invariant-loop-field l = record {
  told : spec.told l.mentions.items ≡ spec.told l.fn.mentions.items ++ tree.repeated [] (map properties.property (take l.field-index l.fields));
  seen : l.seen ≡ properties.seen_in (map properties.property (take l.field-index l.fields));
}
