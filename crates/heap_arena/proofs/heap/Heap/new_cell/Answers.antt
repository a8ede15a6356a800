use Rattle.std.proofs.Common.{rules}
use Rattle.heap_arena.proofs.Views.{with_cell, cells-heap_of}
use Rattle.heap_arena.proofs.heap.Heap.new_cell.Goals as goal

pub returns-clause-number : goal.returns-clause-number
returns-clause-number c = rw (← c.self.view_is, cells-heap_of) (search rules)

pub returns-clause-made : goal.returns-clause-made
returns-clause-made c =
    rw (c.in_ok-push.ensures.items, ← c.self.view_is) (with_cell c.self.inside.objects.items c.self.inside.cells.items c.self.inside.scopes c.args.v)
