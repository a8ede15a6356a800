use Rattle.std.proofs.Common.{◌≡◌, ℕ, List, ◌++◌, take}
use Rattle.js_tree.specs.Parts.{is_among}
use Rattle.simple_scripts.specs.Simple as spec
use Rattle.simple_scripts.specs.NameSet.{has}
use Rattle.simple_scripts.proofs.NameSets.{names_of}
use Rattle.simple_scripts.proofs.names.declared.Given as goal

abbrev pub invariant-loop-one : goal.invariant-loop-one
invariant-loop-one l = (q : List ℕ) → has l.names q ≡ is_among (spec.declared_names (take l.s-index l.statements) ++ names_of (take l.one-index l.one-items)) q

abbrev pub invariant-loop-s : goal.invariant-loop-s
invariant-loop-s l = (q : List ℕ) → has l.names q ≡ is_among (spec.declared_names (take l.s-index l.statements)) q
