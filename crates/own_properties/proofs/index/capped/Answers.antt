use Rattle.std.proofs.Common.{arith}
use Rattle.js_value.proofs.SpelledNumbers.{capped_more}
use Rattle.own_properties.proofs.index.capped.Goals as goal

pub loop-u-preserved : goal.loop-u-preserved
loop-u-preserved c = let more = capped_more c.args.digits.now c.loop-u.u-index c.loop-u.value (omega arith) c.requires c.loop-u.invariant in cc (c.min-value.ensures, c.from.ensures)
