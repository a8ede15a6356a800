use Rattle.std.proofs.Common.{arith}
use Rattle.property_table.proofs.Moving.{start, ended, skipped, here, one_more}
use Rattle.property_table.proofs.slots.move_up.Goals as goal
use Rattle.property_table.proofs.slots.move_up.Goals.{in-Some, in_default}

pub loop-slot-init : goal.loop-slot-init
loop-slot-init c = start c.args.indices.now c.args.slot_of.now c.requires

pub offset_bounds-slot_of-n : goal.offset_bounds-slot_of-n
offset_bounds-slot_of-n c =
    let l = c.loop-slot in
    omega (arith, (here c.args.indices.now l.indices c.args.slot_of.now l.slot_of l.count l.slot l.invariant c.in-Some.n (omega arith) c.in-Some.is).0)

pub bounds-slot_of-n : goal.bounds-slot_of-n
bounds-slot_of-n c =
    let l = c.loop-slot in
    (here c.args.indices.now l.indices c.args.slot_of.now l.slot_of l.count l.slot l.invariant c.in-Some.n (omega arith) c.in-Some.is).0

pub loop-slot-preserved : goal.loop-slot-preserved
loop-slot-preserved c =
    let l = c.loop-slot in
    elim c.match-indices-slot.branch [
      | in-Some w ↦
          rw (w.indices-is, w.slot_of-is, w.count-is) (one_more c.args.indices.now l.indices c.args.slot_of.now l.slot_of l.count l.slot l.invariant w.in-Some.n (omega arith) w.in-Some.is)
      | in_default w ↦
          rw (w.indices-is, w.slot_of-is, w.count-is) (skipped c.args.indices.now l.indices c.args.slot_of.now l.slot_of l.count l.slot l.invariant (omega arith) w.in_default.is)
    ]

pub returns-clause-placed : goal.returns-clause-placed
returns-clause-placed c =
    (ended c.args.indices.now c.loop-slot.indices c.args.slot_of.now c.loop-slot.slot_of c.loop-slot.count c.loop-slot.slot c.loop-slot.invariant c.requires (omega arith)).0
