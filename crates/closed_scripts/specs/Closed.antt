-- What holds of a closed script: it has neither an input nor a host call, in its functions neither.
use Rattle.std.specs.Prelude.{◌≡◌, ◌≤◌, ◌<◌, ◌⊎◌, ℕ, Bool, List, []}
use Rattle.js_value.specs.declared.place.Place.{Place}
use Rattle.js_value.specs.declared.why.Why.{Why}
use Rattle.js_tree.specs.declared.statement.Script.{Script}
use Rattle.plain_heap.specs.Heap.{Heap}
use Rattle.plain_heap.specs.Values.{Value}
use Rattle.js_machine.specs.Machine.Choices.{Opened, OpenEnded, Stopped, OpenOutOfSteps, Wanting, EndsWithin, open_run, open_steps}
use Rattle.js_machine.specs.Machine.Events.{Leaves}
use Rattle.js_machine.specs.Machine.Levels.{script_tree}
use Rattle.js_machine.specs.Machine.Realm.{realm}
use Rattle.js_machine.specs.Machine.Walks.{World, HostEvent, Ending, Normally, Thrown, Outcome, Ended, Left, OutOfSteps, Unknown, plain}
use Rattle.js_machine.specs.Machine.Worlds.{IsClosed}
use Rattle.closed_scripts.specs.Known.{IsKnown, IsKnownHeap, IsPlain}

-- what a run along choices comes to where the run in a world comes to this
abbrev pub as_opened : Outcome → Opened
as_opened (Ended calls ending h) = OpenEnded calls ending h
as_opened (Left why at) = Stopped (Leaves why) at
as_opened OutOfSteps = OpenOutOfSteps
as_opened Unknown = Wanting

-- what it comes to: no host call was made, and nothing that it leaves has a symbol
pub data IsClosedOutcome : Outcome → Type 0 where
  ended : (h : Heap) → IsKnownHeap h → IsClosedOutcome (Ended [] Normally h)
  threw : (v : Value) (h : Heap) → IsKnown v → IsKnownHeap h → IsClosedOutcome (Ended [] (Thrown v) h)
  left : (why : Why) (at : Place) → IsClosedOutcome (Left why at)
  out_of_steps : IsClosedOutcome OutOfSteps

pub record ClosedScripts : Type 0 where
  -- from a heap without symbols: steps and turns until it ends, throws or leaves, with a heap that has none
  pub events : (s : Script) (turns : ℕ) (h : Heap) → IsClosed s → IsKnownHeap h → IsPlain (script_tree turns s h)
  -- the heap of the realm has no symbols
  pub start : IsKnownHeap realm
  pub outcomes : (s : Script) (w : World) (n : ℕ) → IsClosed s → IsClosedOutcome (plain s w n)
  -- in every world it does the same
  pub worlds : (s : Script) (w other : World) (n : ℕ) → IsClosed s → plain s w n ≡ plain s other n
  -- along every list of choices it does what it does in a world, and takes none of them
  pub choices : (s : Script) (w : World) (choices : List Bool) (n : ℕ) → IsClosed s → open_run s choices n ≡ record { came_to = as_opened (plain s w n); left = choices }
  -- the steps of its open tree are its steps: with fewer it is out of steps, and where it isn't it took no more than its budget
  pub fewer : (s : Script) (w : World) (n : ℕ) → IsClosed s → n < open_steps 0 [] (script_tree n s realm) → plain s w n ≡ OutOfSteps
  pub enough : (s : Script) (w : World) (n : ℕ) → IsClosed s → (plain s w n ≡ OutOfSteps) ⊎ (open_steps 0 [] (script_tree n s realm) ≤ n)
  -- a run that ends or throws does so within its budget, along every list of choices
  pub ends : (s : Script) (w : World) (n : ℕ) (calls : List HostEvent) (ending : Ending) (h : Heap) → IsClosed s → plain s w n ≡ Ended calls ending h → EndsWithin s n
