use Rattle.std.proofs.Common.{refl}
use Rattle.heap_arena.specs.Meaning.{heap_of}
use Rattle.heap_arena.proofs.heap.Heap.new.Goals as goal

pub returns-clause-heap : goal.returns-clause-heap
unfolding heap_of
returns-clause-heap c = rw (c.new.ensures.items, c.new-2.ensures.items) refl
