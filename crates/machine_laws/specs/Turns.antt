-- How many turns loops may have.
use Rattle.std.specs.Prelude.{◌≡◌, ◌≤◌, ◌⊎◌, ℕ, []}
use Rattle.js_tree.specs.declared.statement.Script.{Script}
use Rattle.js_machine.specs.Machine.Levels.{script_tree}
use Rattle.js_machine.specs.Machine.Walks.{World, Outcome, OutOfSteps, walk, plain_from, behind, Start}

-- the run of a script on a start, in a world, with a budget of steps, whose loops have at most so many turns each; in a plain run they
-- have as many as the budget
abbrev pub run_with : ℕ → Start → Script → World → ℕ → Outcome
run_with turns start s w n = walk w n [] (script_tree turns (behind start.functions s) start.heap)

pub record MoreTurns : Type 0 where
  -- with any bound that is no lower than the budget the run is the plain run
  pub enough : (start : Start) (s : Script) (w : World) (n turns : ℕ) → n ≤ turns → run_with turns start s w n ≡ plain_from start s w n
  -- whatever the bound and the budget, a greater bound changes only a run that is out of steps
  pub greater : (start : Start) (s : Script) (w : World) (n turns more : ℕ) → turns ≤ more
      → (run_with turns start s w n ≡ OutOfSteps) ⊎ (run_with turns start s w n ≡ run_with more start s w n)
