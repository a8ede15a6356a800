use Rattle.std.proofs.Common.{arith}
use Rattle.js_value.proofs.SpelledNumbers.{capped_more}
use Rattle.pp_words.proofs.item.capped.Goals as goal

pub loop-b-preserved : goal.loop-b-preserved
loop-b-preserved c = let more = capped_more c.args.digits.now c.loop-b.b-index c.loop-b.value (omega arith) c.requires c.loop-b.invariant in cc (c.min-value.ensures, c.from.ensures)
