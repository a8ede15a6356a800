use Rattle.std.proofs.Common.{rules}
use Rattle.heap_arena.proofs.Scoping.{length-environments}
use Rattle.heap_arena.proofs.environment.Scopes.len.Goals as goal

pub returns : goal.returns
returns c = rw (← c.self.view_is, length-environments) (search rules)
