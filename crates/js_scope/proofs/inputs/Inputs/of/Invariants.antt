use Rattle.std.proofs.Common.{◌≡◌, ℕ, List, take}
use Rattle.std.specs.List.{list_any}
use Rattle.js_value.specs.declared.place.Place.{Place}
use Rattle.js_value.specs.declared.primitive.Kind.{Kind}
use Rattle.js_tree.specs.Early.{differs}
use Rattle.js_scope.specs.Inputs.{is_retyped}
use Rattle.js_scope.specs.Mentioning.{told}
use Rattle.js_scope.proofs.inputs.Inputs.of.Given as goal

abbrev pub invariant-loop-mention : goal.invariant-loop-mention
invariant-loop-mention l = (p : Place) (k : Kind) (q : List ℕ) → is_retyped l.inputs p k q ≡ list_any (differs p k q) (told (take l.mention-index l.all))
