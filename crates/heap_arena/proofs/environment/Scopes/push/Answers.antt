use Rattle.std.proofs.Common.{rules}
use Rattle.heap_arena.proofs.Scoping.{length-environments, environments-append}
use Rattle.heap_arena.proofs.environment.Scopes.push.Goals as goal

pub returns-clause-number : goal.returns-clause-number
returns-clause-number c = rw (← c.self.view_is, length-environments) (search rules)

pub returns-clause-made : goal.returns-clause-made
returns-clause-made c = rw (c.in_ok-push.ensures.items, ← c.self.view_is) (environments-append _ _)
