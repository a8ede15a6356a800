use Rattle.std.proofs.Common.{◌≡◌, length}
use Rattle.plain_heap.specs.Heap.{resolve}
use Rattle.heap_values.specs.Meaning.{environment_at}
use Rattle.heap_arena.specs.Environments.{environments}
use Rattle.heap_arena.proofs.environment.resolve_in.Given as goal

abbrev pub invariant-loop-scope : goal.invariant-loop-scope
invariant-loop-scope l = resolve (environment_at (environments l.scopes) l.fn.s) l.name ≡ resolve (environment_at (environments l.older) l.at) l.name

abbrev pub decreases-loop-scope : goal.decreases-loop-scope
decreases-loop-scope l = length l.older
