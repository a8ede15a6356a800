use Rattle.plain_heap.specs.Methods.{can_put}
use Rattle.heap_arena.specs.Meaning.{heap_of, object_of}
use Rattle.heap_arena.proofs.heap.Heap.can_put.Goals as goal

pub returns-in-Some-own : goal.returns-in-Some-own
unfolding can_put
returns-in-Some-own c =
    rw (← c.in-Some.ensures, ← c.in-Some-own.ensures)
    (c.can_put_own.ensures (heap_of c.args.self.now) c.args.key.now (object_of c.args.self.now.environments c.in-Some.object.now))

pub returns-in-Some-find_along : goal.returns-in-Some-find_along
unfolding can_put
returns-in-Some-find_along c =
    rw (← c.in-Some.ensures, ← c.in_default-own.ensures, ← c.in-Some-find_along.ensures) (c.can_put_inherited.ensures c.in-Some-find_along.found.holder)
