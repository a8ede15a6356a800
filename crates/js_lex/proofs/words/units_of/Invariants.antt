use Rattle.std.proofs.Common.{◌≡◌, take}
use Rattle.js_tree.specs.Lexing as spec
use Rattle.js_lex.proofs.words.units_of.Given as goal

abbrev pub invariant-loop-c : goal.invariant-loop-c
invariant-loop-c l = l.units.items ≡ spec.units (take l.c-index l.z)
