use Rattle.std.proofs.Common.{List, ◌+◌, ◌≤◌}
use Rattle.diagrams.specs.declared.node.Diagram.{Diagram}
use Rattle.diagrams.specs.declared.case.Waiting.{Waiting}
use Rattle.diagrams.specs.Cases.{IsWithin}
use Rattle.diagrams.specs.Search.{Descends, load, cost, weight}
use Rattle.diagrams.proofs.table.Diagrams.descend.Given as goal

abbrev pub invariant-loop-d : goal.invariant-loop-d
invariant-loop-d l = record {
  within : IsWithin l.self l.case;
  lighter : load l.waiting.items + cost (weight l.case) ≤ load l.initial.waiting.items + cost (weight l.initial.case);
  goes : (new : List Waiting) (d : Diagram) → Descends l.self l.waiting.items l.case new d → Descends l.self l.initial.waiting.items l.initial.case new d;
}

abbrev pub decreases-loop-d : goal.decreases-loop-d
decreases-loop-d l = weight l.case
