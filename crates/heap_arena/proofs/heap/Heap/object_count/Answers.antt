use Rattle.std.proofs.Common.{rules}
use Rattle.heap_arena.proofs.Views.{objects-heap_of}
use Rattle.heap_arena.proofs.heap.Heap.object_count.Goals as goal

pub returns : goal.returns
returns c = rw (← c.self.view_is, objects-heap_of) (search rules)
