use Rattle.std.proofs.Common.{◌≡◌, ◌<◌, length}
use Rattle.diagrams.specs.Meaning.{chosen_by, meaning}
use Rattle.diagrams.proofs.table.Diagrams.at.Given as goal

abbrev pub invariant-loop-n : goal.invariant-loop-n
invariant-loop-n l = record {
  within : l.here.0 < length l.self;
  same : meaning l.self (chosen_by l.chosen) l.here ≡ meaning l.self (chosen_by l.chosen) l.fn.d;
}

abbrev pub decreases-loop-n : goal.decreases-loop-n
decreases-loop-n l = l.here.0
