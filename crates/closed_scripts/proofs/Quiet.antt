-- Computations that are quiet: from a heap without symbols, with whatever is quiet afterwards, their events are plain.
use Rattle.std.proofs.Common.{ℕ, zero, suc, Bool, true, false, cond, List, [], ◌∷◌}
use Rattle.std.specs.Prelude.{Result, Ok, Err, Option, Some, None}
use Rattle.js_value.specs.declared.place.Place.{Place}
use Rattle.js_value.specs.declared.why.Why.{Why}
use Rattle.plain_heap.specs.Values.{Value}
use Rattle.plain_heap.specs.Heap.{Heap}
use Rattle.js_machine.specs.Machine.Events.{Tree, Run, ◌>>=◌, give, throw, leave, change, make, look, step, turn, choose, or_leave, in_turn, each, Next, Again, Done, repeat, unless_done, catching}
use Rattle.closed_scripts.specs.Known.{Each, none, also, IsKnown, IsKnownHeap, IsPlain, steps, turns, leaves, out_of_turns}

-- what comes afterwards
pub record After {A : Type 0} (Is : A → Type 0) (k : A → Heap → Tree) : Type 0 where
  pub at : (a : A) → Is a → (s : Heap) → IsKnownHeap s → IsPlain (k a s)

pub record Quiet {A : Type 0} (Is : A → Type 0) (m : Run A) : Type 0 where
  pub at : (s : Heap) → IsKnownHeap s → (k : A → Heap → Tree) (d : Value → Heap → Tree) → After Is k → After IsKnown d → IsPlain (m s k d)

-- where nothing is asked of what is given
pub data Any {A : Type 0} : A → Type 0 where
  any : (a : A) → Any a

-- of what is there, if something is
pub data Given {A : Type 0} (Is : A → Type 0) : Option A → Type 0 where
  nothing : Given Is None
  just : {a : A} → Is a → Given Is (Some a)

-- of what is given, where it isn't a reason to leave
pub data Passed {A : Type 0} (Is : A → Type 0) : Result A Why → Type 0 where
  passes : {a : A} → Is a → Passed Is (Ok a)
  fails_so : (why : Why) → Passed Is (Err why)

-- of what was made, and the heap with it
pub record Made {A : Type 0} (Is : A → Type 0) (r : A × Heap) : Type 0 where
  pub value : Is r.0
  pub heap : IsKnownHeap r.1

-- ---- steps of rules

pub bind : {A B : Type 0} {P : A → Type 0} {Q : B → Type 0} {m : Run A} {f : A → Run B} → Quiet P m → ((a : A) → P a → Quiet Q (f a)) → Quiet Q (m >>= f)
bind {f = f} h next = record {
  at = λ s known k d kept caught. h.at s known (λ a t. f a t k d) d (record { at = λ a is t known. (next a is).at t known k d kept caught }) caught;
}

pub bind_any : {A B : Type 0} {Q : B → Type 0} {m : Run A} {f : A → Run B} → Quiet Any m → ((a : A) → Quiet Q (f a)) → Quiet Q (m >>= f)
bind_any h next = bind h (λ a is. next a)

pub gives : {A : Type 0} {Is : A → Type 0} {a : A} → Is a → Quiet Is (give a)
gives {a = a} is = record { at = λ s known k d kept caught. kept.at a is s known }

pub gives_any : {A : Type 0} (a : A) → Quiet Any (give a)
gives_any a = gives (any a)

pub throws : {A : Type 0} {Is : A → Type 0} {v : Value} → IsKnown v → Quiet Is (throw v)
throws {v = v} is = record { at = λ s known k d kept caught. caught.at v is s known }

pub left_at : {A : Type 0} {Is : A → Type 0} (why : Why) (at : Place) → Quiet Is (leave why at)
left_at why at = record { at = λ s known k d kept caught. leaves why at }

pub changes : {f : Heap → Heap} → ((s : Heap) → IsKnownHeap s → IsKnownHeap (f s)) → Quiet Any (change f)
changes {f = f} h = record { at = λ s known k d kept caught. kept.at tt (any tt) (f s) (h s known) }

pub makes : {A : Type 0} {Is : A → Type 0} {f : Heap → A × Heap} → ((s : Heap) → IsKnownHeap s → Made Is (f s)) → Quiet Is (make f)
makes {f = f} h = record { at = λ s known k d kept caught. kept.at (f s).0 (h s known).value (f s).1 (h s known).heap }

pub looks : {A : Type 0} (Is : A → Type 0) (f : Heap → A) → ((s : Heap) → IsKnownHeap s → Is (f s)) → Quiet Is (look f)
looks Is f h = record { at = λ s known k d kept caught. kept.at (f s) (h s known) s known }

pub looks_any : {A : Type 0} (f : Heap → A) → Quiet Any (look f)
looks_any f = looks Any f (λ s known. any (f s))

-- ---- events

pub takes_step : {A : Type 0} {Is : A → Type 0} {m : Run A} (at : Place) → Quiet Is m → Quiet Is (step at m)
takes_step at h = record { at = λ s known k d kept caught. steps at (h.at s known k d kept caught) }

pub takes_turn : (at : Place) → Quiet Any (turn at)
takes_turn at = record { at = λ s known k d kept caught. turns at (kept.at tt (any tt) s known) }

-- ---- choices, lists, and what is thrown

pub chooses : {A : Type 0} {Is : A → Type 0} {m n : Run A} (b : Bool) → Quiet Is m → Quiet Is n → Quiet Is (choose b m n)
chooses true h l = h
chooses false h l = l

pub tests : {A : Type 0} {Is : A → Type 0} {m n : Run A} (b : Bool) → Quiet Is m → Quiet Is n → Quiet Is (cond b m n)
tests true h l = h
tests false h l = l

pub or_leaves : {A : Type 0} {Is : A → Type 0} (at : Place) {r : Result A Why} → Passed Is r → Quiet Is (or_leave at r)
or_leaves at (passes is) = gives is
or_leaves at (fails_so why) = left_at why at

pub or_leaves_any : {A : Type 0} (at : Place) (r : Result A Why) → Quiet Any (or_leave at r)
or_leaves_any at (Ok a) = gives_any a
or_leaves_any at (Err why) = left_at why at

pub in_turns : {A : Type 0} {Is : A → Type 0} {f : A → Run (Unit {0})} → ((a : A) → Is a → Quiet Any (f a)) → {xs : List A} → Each Is xs → Quiet Any (in_turn f xs)
in_turns h none = gives_any tt
in_turns h (also is all) = bind_any (h _ is) (λ _. in_turns h all)

pub in_turns_any : {A : Type 0} {f : A → Run (Unit {0})} → ((a : A) → Quiet Any (f a)) → (xs : List A) → Quiet Any (in_turn f xs)
in_turns_any h [] = gives_any tt
in_turns_any h (x ∷ xs) = bind_any (h x) (λ _. in_turns_any h xs)

pub eaches : {A B : Type 0} {P : A → Type 0} {Q : B → Type 0} {f : A → Run B} → ((a : A) → P a → Quiet Q (f a)) → {xs : List A} → Each P xs → Quiet (Each Q) (each f xs)
eaches h none = gives none
eaches h (also is all) = bind (h _ is) (λ y one. bind (eaches h all) (λ ys others. gives (also one others)))

pub catches : {A : Type 0} {Is : A → Type 0} {m : Run A} {f : Value → Run A} → ((v : Value) → IsKnown v → Quiet Is (f v)) → Quiet Is m → Quiet Is (catching f m)
catches {f = f} handles h = record {
  at = λ s known k d kept caught. h.at s known k (λ v t. f v t k d) kept (record { at = λ v is t known. (handles v is).at t known k d kept caught });
}

-- ---- loops

pub data IsNext {A : Type 0} (Is : A → Type 0) : Next A → Type 0 where
  goes_on : IsNext Is Again
  is_done : {a : A} → Is a → IsNext Is (Done a)

unless_done_too : {A : Type 0} {Is : A → Type 0} {m : Run A} → Quiet Is m → {t : Next A} → IsNext Is t → Quiet Is (unless_done m t)
unless_done_too h goes_on = h
unless_done_too h (is_done is) = gives is

pub repeats : {A : Type 0} {Is : A → Type 0} {m : Run (Next A)} → Quiet (IsNext Is) m → (k : ℕ) → Quiet Is (repeat k m)
unfolding repeat
repeats h zero = record { at = λ s known k d kept caught. out_of_turns }
repeats h (suc n) = bind h (λ t is. unless_done_too (repeats h n) is)
