use Rattle.std.proofs.Common.{◌-◌}
use Rattle.token_marks.specs.Levels.{number}
use Rattle.token_marks.proofs.operators.+tight.Given as goal

abbrev pub decreases-tight : goal.decreases-tight
decreases-tight l = 10 - number l.level
