-- Runs of a simple script by its own rules. It asks no world for anything, and tests no input and no answer.
use Rattle.std.specs.Prelude.{ℕ, zero, suc, Bool, List, []}
use Rattle.js_value.specs.declared.place.Place.{Place}
use Rattle.js_value.specs.declared.why.Why.{Why}
use Rattle.js_tree.specs.declared.statement.Script.{Script}
use Rattle.simple_runs.specs.Events.{Heap, Tree, Step, Leave, End, NoRule}
use Rattle.simple_runs.specs.Simple.{script_tree}

-- ---- plain runs

pub data Outcome : Type 0 where
  -- with the heap that the code left; it makes no host call and throws nothing
  Ended : Heap → Outcome
  Left : Why → Place → Outcome
  OutOfSteps : Outcome
  -- a form was met that simple scripts don't have
  Unruled : Outcome

abbrev pub spend : ℕ → (ℕ → Outcome) → Outcome
spend zero rest = OutOfSteps
spend (suc n) rest = rest n

-- the run through these events with a budget of steps
abbrev pub walk : ℕ → Tree → Outcome
walk n (Step at t) = spend n (λ m. walk m t)
walk n (Leave why at) = Left why at
walk n (End heap) = Ended heap
walk n NoRule = Unruled

-- the run of a script, with a budget of steps
unfoldable pub plain : Script → ℕ → Outcome
plain s n = walk n (script_tree s)

-- ---- open runs

pub data Opened : Type 0 where
  OpenEnded : Heap → Opened
  Stopped : Why → Place → Opened
  OpenOutOfSteps : Opened
  OpenUnruled : Opened

abbrev pub opened : Outcome → Opened
opened (Ended heap) = OpenEnded heap
opened (Left why at) = Stopped why at
opened OutOfSteps = OpenOutOfSteps
opened Unruled = OpenUnruled

-- The run along choices at the tests of inputs and answers is the plain one, whatever the choices.
unfoldable pub open_run : Script → List Bool → ℕ → Opened
open_run s choices n = opened (plain s n)

-- all these runs together, which are one, end within so many steps
abbrev pub IsOpenEnded : Opened → Type 0
IsOpenEnded (OpenEnded heap) = Unit {0}
IsOpenEnded _ = ⊥

abbrev pub EndsWithin : Script → ℕ → Type 0
EndsWithin s n = IsOpenEnded (open_run s [] n)
