use Rattle.plain_heap.specs.Methods.{get}
use Rattle.heap_arena.proofs.heap.Heap.get.Goals as goal

pub returns-in-Some : goal.returns-in-Some
unfolding get
returns-in-Some c = rw (← c.in-Some.ensures) (c.got_by.ensures c.in-Some.found.holder)
