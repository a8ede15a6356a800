use Rattle.std.proofs.Common.{length}
use Rattle.token_marks.proofs.trees.+last_has_init.Given as goal

abbrev pub decreases-last_has_init : goal.decreases-last_has_init
decreases-last_has_init l = length l.all.now
