use Rattle.std.proofs.Common.{rules}
use Rattle.heap_arena.proofs.Views.{with_new_object, objects-heap_of}
use Rattle.heap_arena.proofs.heap.Heap.new_object.Goals as goal

pub returns-clause-number : goal.returns-clause-number
returns-clause-number c = rw (← c.self.view_is, objects-heap_of) (search rules)

pub returns-clause-made : goal.returns-clause-made
returns-clause-made c =
    let deep = rw (← c.self.view_is) at c.in_ok-depth.ensures in
    rw (c.in_ok-push.ensures.items, ← c.self.view_is)
    (with_new_object c.self.inside.objects.items c.self.inside.cells.items c.self.inside.scopes c.args.class c.args.prototype c.in_ok-depth.depth c.in_ok-properties.properties (c.in_ok-properties.ensures c.self.inside.scopes) deep)
