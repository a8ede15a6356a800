-- Runs keep heaps valid.
use Rattle.std.specs.Prelude.{◌≡◌, ℕ, Bool, List}
use Rattle.js_tree.specs.declared.statement.Script.{Script}
use Rattle.plain_heap.specs.Heap.{Heap}
use Rattle.plain_heap.specs.Values.{Value}
use Rattle.js_machine.specs.Machine.Choices.{OpenEnded, open_run}
use Rattle.js_machine.specs.Machine.Levels.{script_tree}
use Rattle.js_machine.specs.Machine.Realm.{realm}
use Rattle.js_machine.specs.Machine.Walks.{Start, World, HostEvent, Ending, Normally, Thrown, Ended, plain_from}
use Rattle.valid_runs.specs.Kept.{Keeps, IsValue, IsSound}

-- how a run ended: what it threw is a value of the heap that it left
pub data IsEnding (h : Heap) : Ending → Type 0 where
  normally : IsEnding h Normally
  thrown : {v : Value} → IsValue h v → IsEnding h (Thrown v)

pub record EndsWell (start h : Heap) (ending : Ending) : Type 0 where
  pub keeps : Keeps start h
  pub ended : IsEnding h ending

pub record ValidRuns : Type 0 where
  -- the heap of the realm is valid
  pub start : Keeps realm realm
  -- a script's events on a heap that keeps the realm, whatever inputs, answers and tests give
  pub events : (s : Script) (turns : ℕ) (h : Heap) → Keeps realm h → IsSound h (script_tree turns s h)
  -- from every start that keeps the realm, in every world
  pub ends : (start : Start) (s : Script) (w : World) (n : ℕ) (calls : List HostEvent) (ending : Ending) (h : Heap) → Keeps realm start.heap → plain_from start s w n ≡ Ended calls ending h
      → EndsWell start.heap h ending
  -- along every list of choices
  pub along : (s : Script) (choices : List Bool) (n : ℕ) (calls : List HostEvent) (ending : Ending) (h : Heap) → (open_run s choices n).came_to ≡ OpenEnded calls ending h → EndsWell realm h ending
