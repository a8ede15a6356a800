use Rattle.std.proofs.Common.{◌≡◌, take}
use Rattle.host_box.proofs.event.all_copied.Given as goal

abbrev pub invariant-loop-value : goal.invariant-loop-value
invariant-loop-value l = l.all ≡ take l.value-index l.values
