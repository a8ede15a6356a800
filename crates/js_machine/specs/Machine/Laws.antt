-- What holds of runs.
use Rattle.std.specs.Prelude.{◌≡◌, ℕ, ◌+◌, List}
use Rattle.js_value.specs.declared.place.Place.{Place}
use Rattle.js_value.specs.declared.why.Why.{Why}
use Rattle.plain_heap.specs.Heap.{Heap}
use Rattle.js_machine.specs.Machine.Events.{Tree}
use Rattle.js_machine.specs.Machine.Walks.{World, HostEvent, Ending, Ended, Left, walk}

-- more steps don't change a run that ended or left
pub record MoreSteps : Type 0 where
  pub ended : (w : World) (n m : ℕ) (calls made : List HostEvent) (t : Tree) (ending : Ending) (h : Heap) → walk w n calls t ≡ Ended made ending h
      → walk w (n + m) calls t ≡ Ended made ending h
  pub left : (w : World) (n m : ℕ) (calls : List HostEvent) (t : Tree) (why : Why) (at : Place) → walk w n calls t ≡ Left why at → walk w (n + m) calls t ≡ Left why at
