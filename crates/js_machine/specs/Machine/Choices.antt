-- Runs of a script along choices: inputs and answers are symbols, and what the test of a symbol gives is chosen.
use Rattle.std.specs.Prelude.{◌≡◌, ℕ, zero, suc, ◌+◌, ◌≤◌, Bool, true, false, if◌then◌else◌, List, [], ◌∷◌, Option, Some, None, length}
use Rattle.js_value.specs.declared.place.Place.{Place}
use Rattle.js_tree.specs.declared.statement.Script.{Script}
use Rattle.plain_heap.specs.Values as value
use Rattle.plain_heap.specs.Values.{Value, Symbolic, Symbol, Threw, Answer}
use Rattle.js_machine.specs.Machine.Levels.{script_tree}
use Rattle.js_machine.specs.Machine.Realm.{realm}
use Rattle.js_machine.specs.Machine.Events.{Tree, Step, Turn, Ask, Input, Call, Spent, End, Fail, StopKind, Stop}
use Rattle.js_machine.specs.Machine.Walks.{HostEvent, called, Ending, Normally, Thrown}
use Rattle.js_machine.specs.Machine.Operators.{is_same_symbol}
use Rattle.js_value.specs.declared.primitive.Kind.{Kind}
use Rattle.plain_heap.specs.Heap.{Heap}

pub data Opened : Type 0 where
  -- with the host calls made, how the code ended, and the heap that it left
  OpenEnded : List HostEvent → Ending → Heap → Opened
  Stopped : StopKind → Place → Opened
  OpenOutOfSteps : Opened
  -- a choice is wanted and none is left
  Wanting : Opened

-- what the run came to, and the choices that were left then
pub record OpenRun : Type 0 where
  pub came_to : Opened
  pub left : List Bool

-- ---- tests

-- what the tests so far gave
abbrev pub Kept : Type 0
Kept = List (Symbol × Bool)

abbrev pub kept_answer : Symbol → Kept → Option Bool
kept_answer s [] = None
kept_answer s (k ∷ kept) = if is_same_symbol s k.0 then Some k.1 else kept_answer s kept

abbrev pub next_choice : Symbol → Kept → List Bool → (Kept → List Bool → Bool → OpenRun) → OpenRun
next_choice s kept [] rest = record { came_to = Wanting; left = [] }
next_choice s kept (b ∷ choices) rest = rest ((s, b) ∷ kept) choices b

-- A symbol that was tested before gives the same again; for another one the next choice is taken and kept.
abbrev pub tested : Option Bool → Symbol → Kept → List Bool → (Kept → List Bool → Bool → OpenRun) → OpenRun
tested (Some b) s kept choices rest = rest kept choices b
tested None s kept choices rest = next_choice s kept choices rest

-- ---- the run

abbrev pub open_spend : ℕ → List Bool → (ℕ → OpenRun) → OpenRun
open_spend zero choices rest = record { came_to = OpenOutOfSteps; left = choices }
open_spend (suc n) choices rest = rest n

-- an answer to the call with this number, and whether it is thrown
abbrev pub answer : Kind → ℕ → Value
answer k n = Symbolic (Answer k n)

abbrev pub thrown : ℕ → Value
thrown n = Symbolic (Threw n)

-- the run through these events with a budget of steps, when these host calls were made
abbrev pub open_walk : ℕ → List HostEvent → Kept → List Bool → Tree → OpenRun
open_walk n calls kept choices (Step at t) = open_spend n choices (λ m. open_walk m calls kept choices t)
open_walk n calls kept choices (Turn at t) = open_spend n choices (λ m. open_walk m calls kept choices t)
open_walk n calls kept choices (Ask at s f) = tested (kept_answer s kept) s kept choices (λ kept choices b. open_walk n calls kept choices (f b))
open_walk n calls kept choices (Input at k name f) = open_walk n calls kept choices (f (Symbolic (value.Input k name)))
open_walk n calls kept choices (Call at k name arguments f) =
    open_walk n (called calls name arguments k (answer k (length calls)) (thrown (length calls))) kept choices (f (answer k (length calls)) (thrown (length calls)))
open_walk n calls kept choices (Stop why at) = record { came_to = Stopped why at; left = choices }
open_walk n calls kept choices Spent = record { came_to = OpenOutOfSteps; left = choices }
open_walk n calls kept choices (End h) = record { came_to = OpenEnded calls Normally h; left = choices }
open_walk n calls kept choices (Fail v h) = record { came_to = OpenEnded calls (Thrown v) h; left = choices }

unfoldable pub open_run : Script → List Bool → ℕ → OpenRun
open_run s choices n = open_walk n [] [] choices (script_tree n s realm)

-- the run took all its choices
abbrev pub IsWhole : Script → List Bool → ℕ → Type 0
IsWhole s choices n = (open_run s choices n).left ≡ []

abbrev pub EndsOrWants : Opened → Type 0
EndsOrWants (OpenEnded calls ending h) = Unit {0}
EndsOrWants Wanting = Unit {0}
EndsOrWants _ = ⊥

-- ---- the steps of all these runs together: each step that runs along several lists of choices have in common counts once

-- behind both answers to a test that wasn't made before
abbrev pub steps_behind : Option Bool → Symbol → Kept → (Kept → Bool → ℕ) → ℕ
steps_behind (Some b) s kept count = count kept b
steps_behind None s kept count = count ((s, true) ∷ kept) true + count ((s, false) ∷ kept) false

-- when so many host calls were made
abbrev pub open_steps : ℕ → Kept → Tree → ℕ
open_steps calls kept (Step at t) = suc (open_steps calls kept t)
open_steps calls kept (Turn at t) = suc (open_steps calls kept t)
open_steps calls kept (Ask at s f) = steps_behind (kept_answer s kept) s kept (λ kept b. open_steps calls kept (f b))
open_steps calls kept (Input at k name f) = open_steps calls kept (f (Symbolic (value.Input k name)))
open_steps calls kept (Call at k name arguments f) = open_steps (suc calls) kept (f (answer k calls) (thrown calls))
open_steps calls kept (Stop why at) = 0
open_steps calls kept Spent = 0
open_steps calls kept (End h) = 0
open_steps calls kept (Fail v h) = 0

-- All these runs together take at most so many steps, and each of them ends or wants a choice.
pub record EndsWithin (s : Script) (n : ℕ) : Type 0 where
  pub few : open_steps 0 [] (script_tree n s realm) ≤ n
  pub ends : (choices : List Bool) → EndsOrWants (open_run s choices n).came_to
