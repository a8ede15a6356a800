use Rattle.std.proofs.Common.{◌∙◌, ap}
use Rattle.std.specs.Prelude.{slice_get}
use Rattle.std.specs.Option.{option_map}
use Rattle.heap_values.specs.Meaning.{value_of}
use Rattle.heap_arena.proofs.Views.{cell-heap_of}
use Rattle.heap_arena.proofs.heap.Heap.cell.Goals as goal

pub returns : goal.returns
returns c =
    rw (← c.self.view_is, cell-heap_of, ← c.index.ensures) (ap (option_map value_of) (c.get_at.ensures ∙ ap (λ cells. slice_get cells c.index.result) c.as_slice.ensures.value))
