use Rattle.std.proofs.Common.{◌≡◌, min, take}
use Rattle.js_tree.specs.Lexing as spec
use Rattle.js_lex.proofs.numbers.value.Given as goal

abbrev pub invariant-loop-c : goal.invariant-loop-c
invariant-loop-c l = l.n ≡ min (spec.value l.radix (take l.c-index l.digits)) 9007199254740992
