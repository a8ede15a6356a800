-- Computations that do alike: from the same heap, with whatever alike comes afterwards, their trees of events correspond.
use Rattle.std.proofs.Common.{ℕ, ◌≤◌, ◌<◌, Bool, true, false, cond, List, [], ◌∷◌, arith}
use Rattle.std.specs.Prelude.{Result, Ok, Err}
use Rattle.js_value.specs.declared.place.Place.{Place}
use Rattle.js_value.specs.declared.primitive.Kind.{Kind}
use Rattle.js_value.specs.declared.why.Why.{Why}
use Rattle.plain_heap.specs.Values.{Value, Symbol}
use Rattle.plain_heap.specs.Heap.{Heap}
use Rattle.js_machine.specs.Machine.Expressions.{Completion}
use Rattle.js_machine.specs.Machine.Events.{StopKind, Leaves, Tree, Step, Turn, Ask, Input, Call, Stop, End, Fail}
use Rattle.js_machine.specs.Machine.Events.{Run, ◌>>=◌, give, throw, stop, leave, change, make, look, step, turn, ask, take_input, call_host, choose, or_stop, or_leave, in_turn, each, Next, repeat, catching}

-- A relation between trees of events where so many steps may be taken, which every event keeps.
pub record TreeRelation : Type 1 where
  pub Related : ℕ → Tree → Tree → Type 0
  pub steps : (n : ℕ) (at : Place) (t u : Tree) → ((j : ℕ) → j < n → Related j t u) → Related n (Step at t) (Step at u)
  pub turns : (n : ℕ) (at : Place) (t u : Tree) → ((j : ℕ) → j < n → Related j t u) → Related n (Turn at t) (Turn at u)
  pub asks : (n : ℕ) (at : Place) (symbol : Symbol) (f g : Bool → Tree) → ((b : Bool) → Related n (f b) (g b)) → Related n (Ask at symbol f) (Ask at symbol g)
  pub inputs : (n : ℕ) (at : Place) (k : Kind) (name : List ℕ) (f g : Value → Tree) → ((v : Value) → Related n (f v) (g v)) → Related n (Input at k name f) (Input at k name g)
  pub calls : (n : ℕ) (at : Place) (k : Kind) (name : List ℕ) (arguments : List Value) (f g : Value → Value → Tree) → ((v threw : Value) → Related n (f v threw) (g v threw))
      → Related n (Call at k name arguments f) (Call at k name arguments g)
  pub stops : (n : ℕ) (why : StopKind) (at : Place) → Related n (Stop why at) (Stop why at)
  pub ends : (n : ℕ) (s : Heap) → Related n (End s) (End s)
  pub fails : (n : ℕ) (v : Value) (s : Heap) → Related n (Fail v s) (Fail v s)

-- a tree that begins with the evaluation of a node
pub data Begins : Tree → Type 0 where
  begun : (at : Place) (t : Tree) → Begins (Step at t)

module _ (w : TreeRelation) where
  -- what comes afterwards, where at most so many steps may be taken
  pub record Kept {A : Type 0} (n : ℕ) (k l : A → Heap → Tree) : Type 0 where
    pub at : (j : ℕ) → j ≤ n → (a : A) (s : Heap) → w.Related j (k a s) (l a s)

  -- what comes after a step
  pub record Left {A : Type 0} (n : ℕ) (k l : A → Heap → Tree) : Type 0 where
    pub at : (j : ℕ) → j < n → (a : A) (s : Heap) → w.Related j (k a s) (l a s)

  pub record Alike {A : Type 0} (m n : Run A) : Type 0 where
    pub at : (i : ℕ) (s : Heap) (k l : A → Heap → Tree) (h g : Value → Heap → Tree) → Kept i k l → Kept i h g → w.Related i (m s k h) (n s l g)

  -- alike, and a step is taken before what comes afterwards
  pub record Stepped {A : Type 0} (m n : Run A) : Type 0 where
    pub at : (i : ℕ) (s : Heap) (k l : A → Heap → Tree) (h g : Value → Heap → Tree) → Left i k l → Left i h g → w.Related i (m s k h) (n s l g)
    pub begins : (s : Heap) (l : A → Heap → Tree) (g : Value → Heap → Tree) → Begins (n s l g)

  pub sooner : {A : Type 0} {n j : ℕ} {k l : A → Heap → Tree} → j ≤ n → Kept n k l → Kept j k l
  sooner le kept = record { at = λ i below a s. kept.at i (omega (arith, le, below)) a s }

  behind : {A : Type 0} {n j : ℕ} {k l : A → Heap → Tree} → j < n → Left n k l → Kept j k l
  behind le kept = record { at = λ i below a s. kept.at i (omega (arith, le, below)) a s }

  pub left : {A : Type 0} {n : ℕ} {k l : A → Heap → Tree} → Kept n k l → Left n k l
  left kept = record { at = λ i below a s. kept.at i (omega (arith, below)) a s }

  here : (n : ℕ) → n ≤ n
  here n = omega arith

  pub plainly : {A : Type 0} {m n : Run A} → Stepped m n → Alike m n
  plainly h = record { at = λ i s k l e g kept caught. h.at i s k l e g (left kept) (left caught) }

  -- ---- steps of rules

  pub bind : {A B : Type 0} {m n : Run A} {f g : A → Run B} → Alike m n → ((a : A) → Alike (f a) (g a)) → Alike (m >>= f) (n >>= g)
  bind {f = f} {g = g} h next = record {
    at = λ i s k l d e kept caught. h.at i s (λ a t. f a t k d) (λ a t. g a t l e) d e (record { at = λ j le a t. (next a).at j t k l d e (sooner le kept) (sooner le caught) }) caught;
  }

  pub bind_step : {A B : Type 0} {m n : Run A} {f g : A → Run B} → Stepped m n → ((a : A) → Alike (f a) (g a)) → Stepped (m >>= f) (n >>= g)
  bind_step {f = f} {g = g} h next = record {
    at = λ i s k l d e kept caught. h.at i s (λ a t. f a t k d) (λ a t. g a t l e) d e (record { at = λ j le a t. (next a).at j t k l d e (behind le kept) (behind le caught) }) caught;
    begins = λ s l e. h.begins s (λ a t. g a t l e) e;
  }

  pub gives : {A : Type 0} (a : A) → Alike (give a) (give a)
  gives a = record { at = λ i s k l d e kept caught. kept.at i (here i) a s }

  pub throws : {A : Type 0} (v : Value) → Alike (throw {A = A} v) (throw v)
  throws v = record { at = λ i s k l d e kept caught. caught.at i (here i) v s }

  pub stops_at : {A : Type 0} (why : StopKind) (at : Place) → Alike (stop {A = A} why at) (stop why at)
  stops_at why at = record { at = λ i s k l d e kept caught. w.stops i why at }

  pub left_at : {A : Type 0} (why : Why) (at : Place) → Alike (leave {A = A} why at) (leave why at)
  left_at why at = stops_at (Leaves why) at

  pub changes : (f : Heap → Heap) → Alike (change f) (change f)
  changes f = record { at = λ i s k l d e kept caught. kept.at i (here i) tt (f s) }

  pub makes : {A : Type 0} (f : Heap → A × Heap) → Alike (make f) (make f)
  makes f = record { at = λ i s k l d e kept caught. kept.at i (here i) (f s).0 (f s).1 }

  pub looks : {A : Type 0} (f : Heap → A) → Alike (look f) (look f)
  looks f = record { at = λ i s k l d e kept caught. kept.at i (here i) (f s) s }

  -- ---- events

  pub takes_step : {A : Type 0} {m n : Run A} (at : Place) → Alike m n → Stepped (step at m) (step at n)
  takes_step {m = m} {n = n} at h = record {
    at = λ i s k l d e kept caught. w.steps i at (m s k d) (n s l e) (λ j below. h.at j s k l d e (behind below kept) (behind below caught));
    begins = λ s l e. begun at (n s l e);
  }

  pub takes_turn : (at : Place) → Alike (turn at) (turn at)
  takes_turn at = record { at = λ i s k l d e kept caught. w.turns i at (k tt s) (l tt s) (λ j below. kept.at j (omega (arith, below)) tt s) }

  pub asks : (at : Place) (symbol : Symbol) → Alike (ask at symbol) (ask at symbol)
  asks at symbol = record { at = λ i s k l d e kept caught. w.asks i at symbol (λ b. k b s) (λ b. l b s) (λ b. kept.at i (here i) b s) }

  pub takes_input : (at : Place) (kind : Kind) (name : List ℕ) → Alike (take_input at kind name) (take_input at kind name)
  takes_input at kind name = record { at = λ i s k l d e kept caught. w.inputs i at kind name (λ v. k v s) (λ v. l v s) (λ v. kept.at i (here i) v s) }

  pub calls_host : (at : Place) (kind : Kind) (name : List ℕ) (arguments : List Value) → Alike (call_host at kind name arguments) (call_host at kind name arguments)
  calls_host at kind name arguments = record { at = λ i s k l d e kept caught. w.calls i at kind name arguments (λ v threw. k (v, threw) s) (λ v threw. l (v, threw) s) (λ v threw. kept.at i (here i) (v, threw) s) }

  -- ---- choices, lists, and what is thrown

  pub chooses : {A : Type 0} {m n p q : Run A} (b : Bool) → Alike m n → Alike p q → Alike (choose b m p) (choose b n q)
  chooses true h l = h
  chooses false h l = l

  pub tests : {A : Type 0} {m n p q : Run A} (b : Bool) → Alike m n → Alike p q → Alike (cond b m p) (cond b n q)
  tests true h l = h
  tests false h l = l

  pub or_stops : {A : Type 0} (at : Place) (r : Result A StopKind) → Alike (or_stop at r) (or_stop at r)
  or_stops at (Ok a) = gives a
  or_stops at (Err why) = stops_at why at

  pub or_leaves : {A : Type 0} (at : Place) (r : Result A Why) → Alike (or_leave at r) (or_leave at r)
  or_leaves at (Ok a) = gives a
  or_leaves at (Err why) = left_at why at

  pub in_turns : {A : Type 0} {f g : A → Run (Unit {0})} → ((a : A) → Alike (f a) (g a)) → (xs : List A) → Alike (in_turn f xs) (in_turn g xs)
  in_turns h [] = gives tt
  in_turns h (x ∷ xs) = bind (h x) (λ _. in_turns h xs)

  pub eaches : {A B : Type 0} {f g : A → Run B} → ((a : A) → Alike (f a) (g a)) → (xs : List A) → Alike (each f xs) (each g xs)
  eaches h [] = gives []
  eaches h (x ∷ xs) = bind (h x) (λ y. bind (eaches h xs) (λ ys. gives (y ∷ ys)))

  pub catches : {A : Type 0} {m n : Run A} {f g : Value → Run A} → ((v : Value) → Alike (f v) (g v)) → Alike m n → Alike (catching f m) (catching g n)
  catches {f = f} {g = g} handles h = record {
    at = λ i s k l d e kept caught. h.at i s k l (λ v t. f v t k d) (λ v t. g v t l e) kept (record { at = λ j le v t. (handles v).at j t k l d e (sooner le kept) (sooner le caught) });
  }

  -- ---- loops

  -- with so many turns and with so many, where a step is taken in each turn
  pub record LoopsAlike (turns more : ℕ) : Type 0 where
    pub at : {once again : Run (Next Completion)} → Stepped once again → Alike (repeat turns once) (repeat more again)
