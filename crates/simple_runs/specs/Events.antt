-- What the run of a simple script does, one event after another, and how runs are put together.
use Rattle.std.specs.Prelude.{ℕ, if◌then◌else◌, List, [], ◌∷◌, Option, Some, None, Result, Ok, Err, ℤ}
use Rattle.std.specs.Str.{bytes_eq}
use Rattle.js_value.specs.declared.place.Place.{Place}
use Rattle.js_value.specs.declared.primitive.Primitive.{Primitive}
use Rattle.js_value.specs.declared.primitive.Primitive.TheVariants.{Undefined, Number}
use Rattle.js_value.specs.declared.why.Why.{Why}

-- The properties that the global object got, in the order of their creation: names with values. Each is writable and
-- enumerable and not configurable.
abbrev pub Heap : Type 0
Heap = List (List ℕ × Primitive)

-- what a run does: its events in order
pub data Tree : Type 0 where
  -- the evaluation of a node begins
  Step : Place → Tree → Tree
  -- the run leaves the profile
  Leave : Why → Place → Tree
  -- the code ends
  End : Heap → Tree
  -- a form that simple scripts don't have
  NoRule : Tree

-- A run goes from a heap to what comes after its answer.
abbrev pub Run : Type 0 → Type 0
Run A = Heap → (A → Heap → Tree) → Tree

infixl 20 ◌>>=◌
abbrev pub ◌>>=◌ : {A B : Type 0} → Run A → (A → Run B) → Run B
m >>= next = λ heap k. m heap (λ a h. next a h k)

abbrev pub give : {A : Type 0} → A → Run A
give a = λ heap k. k a heap

abbrev pub leave : {A : Type 0} → Why → Place → Run A
leave why at = λ heap k. Leave why at

abbrev pub no_rule : {A : Type 0} → Run A
no_rule = λ heap k. NoRule

abbrev pub step : {A : Type 0} → Place → Run A → Run A
step at m = λ heap k. Step at (m heap k)

-- ---- the heap

abbrev pub lookup : List ℕ → Heap → Option Primitive
lookup name [] = None
lookup name (p ∷ ps) = if bytes_eq name p.0 then Some p.1 else lookup name ps

-- The value goes to the property of this name, which keeps its place, or to a new one at the end.
abbrev pub put : List ℕ → Primitive → Heap → Heap
put name value [] = (name, value) ∷ []
put name value (p ∷ ps) = if bytes_eq name p.0 then (p.0, value) ∷ ps else (p ∷ put name value ps)

abbrev pub put_unless : Option Primitive → List ℕ → Heap → Heap
put_unless None name heap = put name Undefined heap
put_unless (Some value) name heap = heap

-- 10.5, step 8: a name that isn't bound yet is bound to undefined
abbrev pub declare : List ℕ → Heap → Heap
declare name heap = put_unless (lookup name heap) name heap

abbrev pub change : (Heap → Heap) → Run (Unit {0})
change f = λ heap k. k tt (f heap)

abbrev pub or_no_rule : Option Primitive → Run Primitive
or_no_rule None = no_rule
or_no_rule (Some value) = give value

-- ---- numbers

abbrev pub or_leave : Place → Result ℤ Why → Run Primitive
or_leave at (Ok n) = give (Number n)
or_leave at (Err why) = leave why at
