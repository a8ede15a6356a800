use Rattle.std.proofs.Common.{take}
use Rattle.diagrams.specs.Meaning.{Extends}
use Rattle.diagrams.specs.Leaves.{AreGuards}
use Rattle.diagrams.proofs.table.Diagrams.leaves_with_guards.Given as goal

abbrev pub invariant-loop-leaf : goal.invariant-loop-leaf
invariant-loop-leaf l = record {
  kept : Extends l.fn.self l.self;
  guards : AreGuards l.self l.d (take l.leaf-index l.leaf-items) l.guarded;
}
