use Rattle.std.proofs.Common.{◌∙◌, ap}
use Rattle.std.specs.Prelude.{slice_get}
use Rattle.std.specs.Option.{option_map}
use Rattle.heap_arena.specs.Meaning.{object_of}
use Rattle.heap_arena.proofs.Views.{object_at-heap_of}
use Rattle.heap_arena.proofs.heap.Heap.object.Goals as goal

pub returns : goal.returns
returns c =
    rw (← c.self.view_is, object_at-heap_of, ← c.index.ensures) (ap (option_map (object_of c.self.inside.scopes)) (c.get_at.ensures ∙ ap (λ objects. slice_get objects c.index.result) c.as_slice.ensures.value))
