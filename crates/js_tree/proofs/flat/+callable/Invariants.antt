use Rattle.std.proofs.Common.{◌-◌, length}
use Rattle.js_tree.proofs.flat.+callable.Given as goal

abbrev pub decreases-callable : goal.decreases-callable
decreases-callable l = length l.funcs.now - l.first
