-- A walk through sound events ends well.
use Rattle.std.proofs.Common.{◌≡◌, refl, subst, ℕ, zero, suc, Bool, true, false, List, [], ◌∷◌}
use Rattle.std.specs.Prelude.{length, slice_get, if◌then◌else◌, Option, Some, None}
use Rattle.js_value.specs.declared.place.Place.{Place}
use Rattle.js_value.specs.declared.primitive.Kind.{Kind}
use Rattle.js_value.specs.declared.primitive.Primitive.{Primitive}
use Rattle.js_value.specs.declared.primitive.Primitive.TheVariants as primitive
use Rattle.js_value.specs.declared.why.Why.{Why}
use Rattle.js_value.specs.declared.why.Why.TheVariants.{NoAnswer}
use Rattle.js_tree.specs.declared.statement.Script.{Script}
use Rattle.plain_heap.specs.Values.{Value, Prim, Symbol}
use Rattle.plain_heap.specs.Heap.{Heap, lookup}
use Rattle.plain_heap.specs.Methods.{array_index}
use Rattle.plain_heap.specs.Valid.{is_valid}
use Rattle.js_machine.specs.Machine.Choices.{Opened, OpenEnded, Stopped, OpenOutOfSteps, Wanting, OpenRun, Kept, kept_answer, tested, open_walk, open_run}
use Rattle.js_machine.specs.Machine.Events.{Tree, StopKind, Leaves, Lacks}
use Rattle.js_machine.specs.Machine.Realm.{realm}
use Rattle.js_machine.specs.Machine.Walks.{Start, World, HostEvent, Answer, Ending, Outcome, Ended, Left, OutOfSteps, Unknown, is_of_kind, given, answered, stopped, walk, behind, plain_from}
use Rattle.valid_runs.specs.Kept.{Keeps, IsOutside, of_primitive, of_symbol, IsSound, steps, turns, asks, inputs, calls, stops, out_of_turns, ends, fails}
use Rattle.valid_runs.specs.Runs.{normally, thrown, EndsWell, ValidRuns}
use Rattle.valid_runs.proofs.Growing.{same}
use Rattle.valid_runs.proofs.Levels.{sound_events}

-- ---- in a world

data Well (start : Heap) : Outcome → Type 0 where
  well : (made : List HostEvent) {ending : Ending} {h : Heap} → EndsWell start h ending → Well start (Ended made ending h)
  left : (why : Why) (at : Place) → Well start (Left why at)
  out : Well start OutOfSteps
  unknown : Well start Unknown

its_end : {start h : Heap} {made : List HostEvent} {ending : Ending} → Well start (Ended made ending h) → EndsWell start h ending
its_end (well made is) = is

stopped_well : (start : Heap) (why : StopKind) (at : Place) → Well start (stopped why at)
stopped_well start (Leaves why) at = left why at
stopped_well start (Lacks what) at = unknown

by_kind : {start : Heap} (b : Bool) {rest : Outcome} (other : Why) (at : Place) → Well start rest → Well start (if b then rest else Left other at)
by_kind true other at is = is
by_kind false other at is = left other at

given_well : {start : Heap} (at : Place) (missing other : Why) (k : Kind) (p : Option Primitive) {rest : Value → Outcome} → ((v : Value) → IsOutside v → Well start (rest v)) → Well start (given at missing other k p rest)
given_well at missing other k None h = left missing at
given_well at missing other k (Some p) h = by_kind (is_of_kind k p) other at (h (Prim p) (of_primitive p))

answered_well : {start : Heap} (at : Place) (k : Kind) (answer : Option Answer) {rest : Value → Value → Outcome} → ((v threw : Value) → IsOutside v → IsOutside threw → Well start (rest v threw)) → Well start (answered at k answer rest)
answered_well at k None h = left NoAnswer at
answered_well at k (Some answer) h = by_kind (is_of_kind k answer.value) _ at (h _ _ (of_primitive answer.value) (of_primitive (primitive.Boolean answer.threw)))

walked : {start : Heap} (w : World) (n : ℕ) (made : List HostEvent) {t : Tree} → IsSound start t → Well start (walk w n made t)
walked w zero made (steps at is) = out
walked w (suc n) made (steps at is) = walked w n made is
walked w zero made (turns at is) = out
walked w (suc n) made (turns at is) = walked w n made is
walked w n made (asks at s is) = unknown
walked w n made (inputs at k name is) = given_well at _ _ k (lookup name w.inputs) (λ v from. walked w n made (is v from))
walked w n made (calls at k name arguments is) = answered_well at k (slice_get w.answers (length made)) (λ v threw from other. walked w n _ (is v threw from other))
walked {start = start} w n made (stops why at) = stopped_well start why at
walked w n made out_of_turns = out
walked w n made (ends h keeps) = well made (record { keeps = keeps; ended = normally })
walked w n made (fails v h keeps is) = well made (record { keeps = keeps; ended = thrown is })

ends_well : (start : Start) (s : Script) (w : World) (n : ℕ) (made : List HostEvent) (ending : Ending) (h : Heap) → Keeps realm start.heap → plain_from start s w n ≡ Ended made ending h → EndsWell start.heap h ending
unfolding plain_from
ends_well start s w n made ending h fit e = its_end (subst (Well start.heap) e (walked w n [] (sound_events (behind start.functions s) n start.heap fit)))

-- ---- along choices

data OpenWell (start : Heap) : Opened → Type 0 where
  open_well : (made : List HostEvent) {ending : Ending} {h : Heap} → EndsWell start h ending → OpenWell start (OpenEnded made ending h)
  open_stopped : (why : StopKind) (at : Place) → OpenWell start (Stopped why at)
  open_out : OpenWell start OpenOutOfSteps
  wanting : OpenWell start Wanting

open_end : {start h : Heap} {made : List HostEvent} {ending : Ending} → OpenWell start (OpenEnded made ending h) → EndsWell start h ending
open_end (open_well made is) = is

record RunWell (start : Heap) (r : OpenRun) : Type 0 where
  came_to : OpenWell start r.came_to

tested_well : {start : Heap} (found : Option Bool) (s : Symbol) (kept : Kept) (choices : List Bool) {rest : Kept → List Bool → Bool → OpenRun}
    → ((kept : Kept) (choices : List Bool) (b : Bool) → RunWell start (rest kept choices b)) → RunWell start (tested found s kept choices rest)
tested_well (Some b) s kept choices h = h kept choices b
tested_well None s kept [] h = record { came_to = wanting }
tested_well None s kept (b ∷ choices) h = h ((s, b) ∷ kept) choices b

walked_open : {start : Heap} (n : ℕ) (made : List HostEvent) (kept : Kept) (choices : List Bool) {t : Tree} → IsSound start t → RunWell start (open_walk n made kept choices t)
walked_open zero made kept choices (steps at is) = record { came_to = open_out }
walked_open (suc n) made kept choices (steps at is) = walked_open n made kept choices is
walked_open zero made kept choices (turns at is) = record { came_to = open_out }
walked_open (suc n) made kept choices (turns at is) = walked_open n made kept choices is
walked_open n made kept choices (asks at s is) = tested_well (kept_answer s kept) s kept choices (λ kept choices b. walked_open n made kept choices (is b))
walked_open n made kept choices (inputs at k name is) = walked_open n made kept choices (is _ (of_symbol _))
walked_open n made kept choices (calls at k name arguments is) = walked_open n _ kept choices (is _ _ (of_symbol _) (of_symbol _))
walked_open n made kept choices (stops why at) = record { came_to = open_stopped why at }
walked_open n made kept choices out_of_turns = record { came_to = open_out }
walked_open n made kept choices (ends h keeps) = record { came_to = open_well made (record { keeps = keeps; ended = normally }) }
walked_open n made kept choices (fails v h keeps is) = record { came_to = open_well made (record { keeps = keeps; ended = thrown is }) }

-- ---- the realm

valid_realm : is_valid realm ≡ true
unfolding is_valid realm array_index
valid_realm = refl

opens_well : (s : Script) (choices : List Bool) (n : ℕ) (made : List HostEvent) (ending : Ending) (h : Heap) → (open_run s choices n).came_to ≡ OpenEnded made ending h → EndsWell realm h ending
unfolding open_run
opens_well s choices n made ending h e = open_end (subst (OpenWell realm) e (walked_open n [] [] choices (sound_events s n realm (same valid_realm))).came_to)

pub valid_runs : ValidRuns
valid_runs = record { start = same valid_realm; events = sound_events; ends = ends_well; along = opens_well }
