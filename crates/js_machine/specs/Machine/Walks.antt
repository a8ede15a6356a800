-- Runs of a script: the walk through its events in a world, with a budget of steps.
use Rattle.std.specs.Prelude.{ℕ, zero, suc, ◌++◌, Bool, true, false, if◌then◌else◌, List, [], ◌∷◌, length, slice_get, Option, Some, None}
use Rattle.js_value.specs.declared.place.Place.{Place}
use Rattle.js_value.specs.declared.primitive.Kind.{Kind}
use Rattle.js_value.specs.declared.primitive.Kind.TheVariants as kind
use Rattle.js_value.specs.declared.primitive.Primitive.{Primitive}
use Rattle.js_value.specs.declared.primitive.Primitive.TheVariants as primitive
use Rattle.js_value.specs.declared.why.Why.{Why}
use Rattle.js_value.specs.declared.why.Why.TheVariants.{NoInput, InputKind, NoAnswer, AnswerKind}
use Rattle.js_tree.specs.declared.statement.Script.{Script}
use Rattle.plain_heap.specs.Heap.{Heap, lookup}
use Rattle.plain_heap.specs.Values.{Value, Prim, truth}
use Rattle.js_machine.specs.Machine.Levels.{script_tree}
use Rattle.js_machine.specs.Machine.Realm.{realm}
use Rattle.js_machine.specs.Machine.Events.{Tree, Step, Turn, Ask, Input, Call, Spent, End, Fail, Lacks, Leaves, StopKind, Stop}
use Rattle.js_tree.specs.declared.statement.Func.{Func}
use Rattle.js_machine.specs.Machine.Renumbered.{script_behind}
use Rattle.js_value.specs.Numbers.{is_safe}

-- the answer to a host call: a value, which the call gives or throws
pub record Answer : Type 0 where
  pub value : Primitive
  pub threw : Bool

-- what a run is given: the values of the inputs by their names, and the answers to its host calls in order
pub record World : Type 0 where
  pub inputs : List (List ℕ × Primitive)
  pub answers : List Answer

-- a host call that was made, with its answer and whether that was thrown
pub record HostEvent : Type 0 where
  pub name : List ℕ
  pub arguments : List Value
  pub kind : Kind
  pub answer : Value
  pub threw : Value

pub data Ending : Type 0 where
  Normally : Ending
  Thrown : Value → Ending

pub data Outcome : Type 0 where
  -- with the host calls made, how the code ended, and the heap that it left
  Ended : List HostEvent → Ending → Heap → Outcome
  Left : Why → Place → Outcome
  OutOfSteps : Outcome
  -- a symbol was met, which no run in a world does
  Unknown : Outcome

-- a value of a kind, a number in the range of the profile
abbrev pub is_of_kind : Kind → Primitive → Bool
is_of_kind kind.Number (primitive.Number n) = is_safe n
is_of_kind kind.Boolean (primitive.Boolean b) = true
is_of_kind kind.Text (primitive.Text t) = true
is_of_kind _ _ = false

abbrev pub spend : ℕ → (ℕ → Outcome) → Outcome
spend zero rest = OutOfSteps
spend (suc n) rest = rest n

-- a value that there must be, of a kind
abbrev pub given : Place → Why → Why → Kind → Option Primitive → (Value → Outcome) → Outcome
given at missing other k None rest = Left missing at
given at missing other k (Some p) rest = if is_of_kind k p then rest (Prim p) else Left other at

-- the answer to a host call, of a kind, and whether it is thrown
abbrev pub answered : Place → Kind → Option Answer → (Value → Value → Outcome) → Outcome
answered at k None rest = Left NoAnswer at
answered at k (Some answer) rest = if is_of_kind k answer.value then rest (Prim answer.value) (truth answer.threw) else Left AnswerKind at

abbrev pub called : List HostEvent → List ℕ → List Value → Kind → Value → Value → List HostEvent
called calls name arguments k answer threw = calls ++ record { name = name; arguments = arguments; kind = k; answer = answer; threw = threw } ∷ []

-- a symbol is met
abbrev pub stopped : StopKind → Place → Outcome
stopped (Leaves why) at = Left why at
stopped (Lacks what) at = Unknown

abbrev pub walk : World → ℕ → List HostEvent → Tree → Outcome
walk w n calls (Step at t) = spend n (λ m. walk w m calls t)
walk w n calls (Turn at t) = spend n (λ m. walk w m calls t)
walk w n calls (Ask at symbol f) = Unknown
walk w n calls (Input at k name f) = given at NoInput InputKind k (lookup name w.inputs) (λ v. walk w n calls (f v))
walk w n calls (Call at k name arguments f) = answered at k (slice_get w.answers (length calls)) (λ v threw. walk w n (called calls name arguments k v threw) (f v threw))
walk w n calls (Stop why at) = stopped why at
walk w n calls Spent = OutOfSteps
walk w n calls (End h) = Ended calls Normally h
walk w n calls (Fail v h) = Ended calls (Thrown v) h

-- ---- starts

-- what a run begins with: a heap, and the functions that it names
pub record Start : Type 0 where
  pub heap : Heap
  pub functions : List Func

abbrev pub realm_start : Start
realm_start = record { heap = realm; functions = [] }

-- a script whose own functions are numbered behind these
unfoldable pub behind : List Func → Script → Script
behind [] script = script
behind (f ∷ fs) script = script_behind (f ∷ fs) script

-- The run of a script on a start, in a world, with a budget of steps. Each turn of a loop takes a step, so it has no more turns than
-- steps.
unfoldable pub plain_from : Start → Script → World → ℕ → Outcome
plain_from start script w n = walk w n [] (script_tree n (behind start.functions script) start.heap)

abbrev pub plain : Script → World → ℕ → Outcome
plain = plain_from realm_start
