use Rattle.std.proofs.Common.{◌<◌, length}
use Rattle.diagrams.specs.Meaning.{Extends}
use Rattle.diagram_tests.specs.Kept.{GuardsAreWithin}
use Rattle.diagram_tests.proofs.machine.after_each.Given as goal

abbrev pub invariant-loop-i : goal.invariant-loop-i
invariant-loop-i l = record {
  kept : Extends l.fn.diagrams l.diagrams;
  guards : GuardsAreWithin l.diagrams l.guarded;
  within : l.sum.0 < length l.diagrams;
}
