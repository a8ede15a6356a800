use Rattle.diagrams.specs.Meaning.{Extends}
use Rattle.diagrams.specs.Search.{Pending, load}
use Rattle.diagrams.proofs.table.Diagrams.answer.Given as goal

abbrev pub invariant-loop-first : goal.invariant-loop-first
invariant-loop-first l = record {
  kept : Extends l.fn.self l.self;
  pending : Pending l.self l.fn.case l.waiting.items l.found;
}

abbrev pub decreases-loop-first : goal.decreases-loop-first
decreases-loop-first l = load l.waiting.items
