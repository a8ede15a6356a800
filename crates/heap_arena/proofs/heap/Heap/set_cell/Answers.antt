use Rattle.heap_arena.proofs.Views.{with_cell_set}
use Rattle.heap_arena.proofs.heap.Heap.set_cell.Goals as goal

pub returns-clause-set : goal.returns-clause-set
returns-clause-set c =
    rw (c.set_at.ensures, ← c.self.view_is, ← c.index.ensures) (with_cell_set c.self.inside.objects.items c.self.inside.cells.items c.self.inside.scopes c.index.result c.args.v)
