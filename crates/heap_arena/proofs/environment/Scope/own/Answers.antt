use Rattle.std.proofs.Common.{refl}
use Rattle.plain_heap.specs.Heap.{resolve}
use Rattle.heap_arena.proofs.Lookups.{lookup-zip}
use Rattle.heap_arena.proofs.environment.Scope.own.Goals as goal

pub returns-in-Some : goal.returns-in-Some
unfolding resolve
returns-in-Some c = rw (lookup-zip, ← c.as_slice.ensures, ← c.in-Some.ensures) (cc)

pub returns-in-None : goal.returns-in-None
unfolding resolve
returns-in-None c = rw (lookup-zip, ← c.as_slice.ensures, ← c.in-None.ensures) refl
