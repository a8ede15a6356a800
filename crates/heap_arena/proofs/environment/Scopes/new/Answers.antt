use Rattle.heap_arena.proofs.Scoping.{environments-none}
use Rattle.heap_arena.proofs.environment.Scopes.new.Goals as goal

pub returns : goal.returns
returns c = rw c.new.ensures.items environments-none
