use Rattle.property_table.proofs.Moving.{AreMoving}
use Rattle.property_table.proofs.slots.move_up.Given as goal

abbrev pub invariant-loop-slot : goal.invariant-loop-slot
invariant-loop-slot l = AreMoving l.fn.indices l.indices l.fn.slot_of l.slot_of l.count l.slot
