-- What a run does, one event after another, and how runs are put together.
use Rattle.std.specs.Prelude.{ℕ, zero, suc, Bool, true, false, List, [], ◌∷◌, Result, Ok, Err}
use Rattle.js_value.specs.declared.place.Place.{Place}
use Rattle.js_value.specs.declared.primitive.Kind.{Kind}
use Rattle.js_value.specs.declared.why.Why.{Why}
use Rattle.plain_heap.specs.Values.{Value, Symbol}
use Rattle.plain_heap.specs.Heap.{Heap}

-- where a symbol stands though a known value must stand there: as the base of a property, as its key, as the length of an array or
-- of what is like one, or as another number that a built-in takes
pub data Need : Type 0 where
  Base : Need
  Key : Need
  Length : Need
  Argument : Need

-- why a run can't go on: it leaves the profile, or a symbol stands where it can't
pub data StopKind : Type 0 where
  Leaves : Why → StopKind
  Lacks : Need → StopKind

pub data Tree : Type 0 where
  -- the evaluation of a node begins
  Step : Place → Tree → Tree
  -- a turn of a built-in begins
  Turn : Place → Tree → Tree
  -- whether a symbol is true (9.2)
  Ask : Place → Symbol → (Bool → Tree) → Tree
  -- the value of the input of this kind and name
  Input : Place → Kind → List ℕ → (Value → Tree) → Tree
  -- the answer to a host call, and whether it is thrown: the kind that it is to have, the name, and the arguments
  Call : Place → Kind → List ℕ → List Value → (Value → Value → Tree) → Tree
  -- the run can't go on
  Stop : StopKind → Place → Tree
  -- a loop has had as many turns as were allowed for
  Spent : Tree
  -- the code ends
  End : Heap → Tree
  -- the code throws
  Fail : Value → Heap → Tree

-- A run goes from a heap to what comes after its answer or after what it throws.
abbrev pub Run : Type 0 → Type 0
Run A = Heap → (A → Heap → Tree) → (Value → Heap → Tree) → Tree

infixl 20 ◌>>=◌
abbrev pub ◌>>=◌ : {A B : Type 0} → Run A → (A → Run B) → Run B
◌>>=◌ m next = λ s k h. m s (λ a s. next a s k h) h

abbrev pub give : {A : Type 0} → A → Run A
give a = λ s k h. k a s

abbrev pub throw : {A : Type 0} → Value → Run A
throw v = λ s k h. h v s

abbrev pub stop : {A : Type 0} → StopKind → Place → Run A
stop why at = λ s k h. Stop why at

abbrev pub leave : {A : Type 0} → Why → Place → Run A
leave why at = stop (Leaves why) at

abbrev pub spent : {A : Type 0} → Run A
spent = λ s k h. Spent

-- ---- the heap

abbrev pub change : (Heap → Heap) → Run (Unit {0})
change f = λ s k h. k tt (f s)

-- what comes behind a change that gave this and left this heap
abbrev pub made : {A : Type 0} → A × Heap → (A → Heap → Tree) → Tree
made r k = k r.0 r.1

-- a change that makes something and gives what it made
abbrev pub make : {A : Type 0} → (Heap → A × Heap) → Run A
make f = λ s k h. made (f s) k

abbrev pub look : {A : Type 0} → (Heap → A) → Run A
look f = λ s k h. k (f s) s

-- ---- events

abbrev pub step : {A : Type 0} → Place → Run A → Run A
step at m = λ s k h. Step at (m s k h)

abbrev pub turn : Place → Run (Unit {0})
turn at = λ s k h. Turn at (k tt s)

abbrev pub ask : Place → Symbol → Run Bool
ask at symbol = λ s k h. Ask at symbol (λ b. k b s)

abbrev pub take_input : Place → Kind → List ℕ → Run Value
take_input at kind name = λ s k h. Input at kind name (λ v. k v s)

-- the answer, and whether it is thrown
abbrev pub call_host : Place → Kind → List ℕ → List Value → Run (Value × Value)
call_host at kind name arguments = λ s k h. Call at kind name arguments (λ v threw. k (v, threw) s)

-- ---- choices

abbrev pub choose : {A : Type 0} → Bool → Run A → Run A → Run A
choose true m n = m
choose false m n = n

abbrev pub or_stop : {A : Type 0} → Place → Result A StopKind → Run A
or_stop at (Ok a) = give a
or_stop at (Err why) = stop why at

abbrev pub or_leave : {A : Type 0} → Place → Result A Why → Run A
or_leave at (Ok a) = give a
or_leave at (Err why) = leave why at

-- ---- lists and loops

-- one after another, for what they change
abbrev pub in_turn : {A : Type 0} → (A → Run (Unit {0})) → List A → Run (Unit {0})
in_turn f [] = give tt
in_turn f (x ∷ xs) = do
  _ ← f x
  in_turn f xs

-- one after another, for what they give
abbrev pub each : {A B : Type 0} → (A → Run B) → List A → Run (List B)
each f [] = give []
each f (x ∷ xs) = do
  y ← f x
  ys ← each f xs
  give (y ∷ ys)

-- what one turn of a loop says of the loop
pub data Next (A : Type 0) : Type 0 where
  Again : Next A
  Done : A → Next A

abbrev pub unless_done : {A : Type 0} → Run A → Next A → Run A
unless_done again Again = again
unless_done again (Done a) = give a

-- turns until one is the last, at most so many
unfoldable pub repeat : {A : Type 0} → ℕ → Run (Next A) → Run A
repeat zero once = spent
repeat (suc k) once = do
  t ← once
  unless_done (repeat k once) t

-- ---- what is thrown

-- a thrown value goes to the handler
abbrev pub catching : {A : Type 0} → (Value → Run A) → Run A → Run A
catching handler m = λ s k h. m s k (λ v s. handler v s k h)
