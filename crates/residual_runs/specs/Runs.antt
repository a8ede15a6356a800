-- Runs that go on with an answer after so many steps, or throw.
use Rattle.std.specs.Prelude.{◌≡◌, ℕ, ◌+◌, List}
use Rattle.plain_heap.specs.Heap.{Heap}
use Rattle.plain_heap.specs.Values.{Value}
use Rattle.js_machine.specs.Machine.Events.{Tree, Run}
use Rattle.js_machine.specs.Machine.Walks.{World, HostEvent, walk}

-- where a run is: the host calls that were made, and the heap
pub record State : Type 0 where
  pub calls : List HostEvent
  pub heap : Heap

module _ {A : Type 0} (w : World) (m : Run A) (before : State) (steps : ℕ) where
  -- after so many steps it goes on with this answer from that state, whatever comes then
  pub record Runs (a : A) (after : State) : Type 0 where
    pub at : (n : ℕ) (k : A → Heap → Tree) (r : Value → Heap → Tree) → walk w (steps + n) before.calls (m before.heap k r) ≡ walk w n after.calls (k a after.heap)

  -- after so many steps it throws this value
  pub record Throws (v : Value) (after : State) : Type 0 where
    pub at : (n : ℕ) (k : A → Heap → Tree) (r : Value → Heap → Tree) → walk w (steps + n) before.calls (m before.heap k r) ≡ walk w n after.calls (r v after.heap)
