use Rattle.std.proofs.Common.{◌≡◌, take}
use Rattle.js_tree.specs.Lexing as spec
use Rattle.js_lex.proofs.characters.width.Given as goal

abbrev pub invariant-loop-c : goal.invariant-loop-c
invariant-loop-c l = l.bytes ≡ spec.width (take l.c-index l.z)
