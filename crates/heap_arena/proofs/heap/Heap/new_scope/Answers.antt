use Rattle.heap_arena.proofs.Views.{with_scope, scopes-later}
use Rattle.heap_arena.proofs.heap.Heap.new_scope.Goals as goal

pub invariant_of-self-2 : goal.invariant_of-self-2
invariant_of-self-2 c = rw c.in_ok-number.ensures.made (scopes-later c.self.inside.scopes _ c.self.inside.objects.items c.self.invariant)

pub returns-clause-heap : goal.returns-clause-heap
returns-clause-heap c =
    rw (c.in_ok-number.ensures.made, ← c.self.view_is) (with_scope c.self.inside.scopes _ c.self.inside.objects.items c.self.inside.cells.items c.self.invariant)
