use Rattle.std.proofs.Common.{◌≡◌, map, take}
use Rattle.lone_functions.specs.Anew as spec
use Rattle.lone_functions.proofs.anew.Anew.+statement_copies.Given as goal

abbrev pub invariant-stmts-loop-s : goal.invariant-stmts-loop-s
invariant-stmts-loop-s l = l.copies ≡ map (spec.stmt l.self.first) (take l.s-index l.all)

abbrev pub invariant-cases-loop-c : goal.invariant-cases-loop-c
invariant-cases-loop-c l = l.copies ≡ map (spec.case l.self.first) (take l.c-index l.all)
