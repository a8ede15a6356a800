use Rattle.std.proofs.Common.{◌≡◌, suc, Some}
use Rattle.plain_heap.specs.Methods.{get_property, property_along}
use Rattle.heap_arena.specs.Meaning.{heap_of}
use Rattle.heap_arena.proofs.heap.Heap.find_along.Given as goal

abbrev pub invariant-loop-object : goal.invariant-loop-object
invariant-loop-object l = get_property (heap_of l.self) l.key l.start ≡ property_along (suc l.left) (heap_of l.self) l.key (Some l.at)

abbrev pub decreases-loop-object : goal.decreases-loop-object
decreases-loop-object l = l.left
