-- Computations that are sound on a heap: with whatever is sound afterwards, their events are sound.
use Rattle.std.proofs.Common.{ℕ, zero, suc, Bool, true, false, cond, List, [], ◌∷◌}
use Rattle.js_value.specs.declared.place.Place.{Place}
use Rattle.plain_heap.specs.Values.{Value, Symbol}
use Rattle.plain_heap.specs.Heap.{Heap}
use Rattle.js_machine.specs.Machine.Realm.{realm}
use Rattle.js_machine.specs.Machine.Events.{Tree, Run, StopKind, ◌>>=◌, give, throw, stop, change, make, look, step, turn, ask, choose, in_turn, each, Next, Again, Done, repeat, unless_done, catching}
use Rattle.valid_runs.specs.Kept.{Keeps, IsValue, IsSound, steps, turns, asks, stops, out_of_turns}
use Rattle.valid_runs.proofs.Growing.{◌⊚◌, same, Each, none, also, Values, later}

-- what comes afterwards, on any later heap
pub record After {A : Type 0} (start s : Heap) (Is : Heap → A → Type 0) (k : A → Heap → Tree) : Type 0 where
  pub at : (a : A) (t : Heap) → Keeps s t → Is t a → IsSound start (k a t)

-- on this heap, which keeps the realm
pub record At {A : Type 0} (s : Heap) (Is : Heap → A → Type 0) (m : Run A) : Type 0 where
  pub at : (start : Heap) → Keeps realm s → (k : A → Heap → Tree) (d : Value → Heap → Tree) → After start s Is k → After start s IsValue d → IsSound start (m s k d)

-- what gives something on the heap as it is, if it doesn't throw
pub record Steady {A : Type 0} (s : Heap) (Is : A → Type 0) (m : Run A) : Type 0 where
  pub at : (start : Heap) → Keeps realm s → (k : A → Heap → Tree) (d : Value → Heap → Tree) → ((a : A) → Is a → IsSound start (k a s)) → After start s IsValue d → IsSound start (m s k d)

-- where nothing is asked of what is given
pub data Any {A : Type 0} (h : Heap) : A → Type 0 where
  any : (a : A) → Any h a

-- what was made, and the heap with it
pub record Made {A : Type 0} (s : Heap) (Is : Heap → A → Type 0) (r : A × Heap) : Type 0 where
  pub keeps : Keeps s r.1
  pub value : Is r.1 r.0

pub after_later : {A : Type 0} {start s t : Heap} {Is : Heap → A → Type 0} {k : A → Heap → Tree} → Keeps s t → After start s Is k → After start t Is k
after_later up kept = record { at = λ a u more is. kept.at a u (up ⊚ more) is }

-- ---- steps of rules

pub bind : {A B : Type 0} {s : Heap} {P : Heap → A → Type 0} {Q : Heap → B → Type 0} {m : Run A} {f : A → Run B} → At s P m → ((t : Heap) → Keeps s t → (a : A) → P t a → At t Q (f a)) → At s Q (m >>= f)
bind {f = f} h next = record {
  at = λ start fit k d kept caught. h.at start fit (λ a t. f a t k d) d (record { at = λ a t up is. (next t up a is).at start (fit ⊚ up) k d (after_later up kept) (after_later up caught) }) caught;
}

pub bind_any : {A B : Type 0} {s : Heap} {Q : Heap → B → Type 0} {m : Run A} {f : A → Run B} → At s Any m → ((t : Heap) → Keeps s t → (a : A) → At t Q (f a)) → At s Q (m >>= f)
bind_any h next = bind h (λ t up a is. next t up a)

pub first : {A B : Type 0} {s : Heap} {P : A → Type 0} {Q : Heap → B → Type 0} {m : Run A} {f : A → Run B} → Steady s P m → ((a : A) → P a → At s Q (f a)) → At s Q (m >>= f)
first {f = f} h next = record {
  at = λ start fit k d kept caught. h.at start fit (λ a t. f a t k d) d (λ a is. (next a is).at start fit k d kept caught) caught;
}

pub first_any : {A B : Type 0} {s : Heap} {Q : Heap → B → Type 0} {m : Run A} {f : A → Run B} → Steady s (Any s) m → ((a : A) → At s Q (f a)) → At s Q (m >>= f)
first_any h next = first h (λ a is. next a)

pub then_steady : {A B : Type 0} {s : Heap} {P : A → Type 0} {Q : B → Type 0} {m : Run A} {f : A → Run B} → Steady s P m → ((a : A) → P a → Steady s Q (f a)) → Steady s Q (m >>= f)
then_steady {f = f} h next = record {
  at = λ start fit k d kept caught. h.at start fit (λ a t. f a t k d) d (λ a is. (next a is).at start fit k d kept caught) caught;
}

pub then_steady_any : {A B : Type 0} {s : Heap} {Q : B → Type 0} {m : Run A} {f : A → Run B} → Steady s (Any s) m → ((a : A) → Steady s Q (f a)) → Steady s Q (m >>= f)
then_steady_any h next = then_steady h (λ a is. next a)

-- what keeps the heap as it is is sound on it
pub moves : {A : Type 0} {s : Heap} {Is : Heap → A → Type 0} {m : Run A} → Steady s (Is s) m → At s Is m
moves {s = s} h = record { at = λ start fit k d kept caught. h.at start fit k d (λ a is. kept.at a s (same fit.valid) is) caught }

-- on a heap that keeps the realm
pub on_realm : {A : Type 0} {s : Heap} {Is : Heap → A → Type 0} {m : Run A} → (Keeps realm s → At s Is m) → At s Is m
on_realm h = record { at = λ start fit k d kept caught. (h fit).at start fit k d kept caught }

pub gives_same : {A : Type 0} {s : Heap} {Is : A → Type 0} {a : A} → Is a → Steady s Is (give a)
gives_same {a = a} is = record { at = λ start fit k d kept caught. kept a is }

pub gives_same_any : {A : Type 0} {s : Heap} (a : A) → Steady s (Any s) (give a)
gives_same_any a = gives_same (any a)

pub gives : {A : Type 0} {s : Heap} {Is : Heap → A → Type 0} {a : A} → Is s a → At s Is (give a)
gives is = moves (gives_same is)

pub gives_any : {A : Type 0} {s : Heap} (a : A) → At s Any (give a)
gives_any a = gives (any a)

pub throws : {A : Type 0} {s : Heap} {Is : Heap → A → Type 0} {v : Value} → IsValue s v → At s Is (throw v)
throws {s = s} {v = v} is = record { at = λ start fit k d kept caught. caught.at v s (same fit.valid) is }

pub left_same : {A : Type 0} {s : Heap} {Is : A → Type 0} (why : StopKind) (at : Place) → Steady s Is (stop why at)
left_same why at = record { at = λ start fit k d kept caught. stops why at }

pub left_at : {A : Type 0} {s : Heap} {Is : Heap → A → Type 0} (why : StopKind) (at : Place) → At s Is (stop why at)
left_at why at = moves (left_same why at)

pub changes : {s : Heap} {f : Heap → Heap} → (Keeps realm s → Keeps s (f s)) → At s Any (change f)
changes {s = s} {f = f} h = record { at = λ start fit k d kept caught. kept.at tt (f s) (h fit) (any tt) }

pub makes : {A : Type 0} {s : Heap} {Is : Heap → A → Type 0} {f : Heap → A × Heap} → (Keeps realm s → Made s Is (f s)) → At s Is (make f)
makes {s = s} {f = f} h = record { at = λ start fit k d kept caught. kept.at (f s).0 (f s).1 (h fit).keeps (h fit).value }

pub looks : {A : Type 0} {s : Heap} (Is : A → Type 0) (f : Heap → A) → (Keeps realm s → Is (f s)) → Steady s Is (look f)
looks {s = s} Is f h = record { at = λ start fit k d kept caught. kept (f s) (h fit) }

pub looks_any : {A : Type 0} {s : Heap} (f : Heap → A) → Steady s (Any s) (look f)
looks_any {s = s} f = looks (Any s) f (λ fit. any (f s))

-- ---- events

pub takes_step : {A : Type 0} {s : Heap} {Is : Heap → A → Type 0} {m : Run A} (at : Place) → At s Is m → At s Is (step at m)
takes_step at h = record { at = λ start fit k d kept caught. steps at (h.at start fit k d kept caught) }

pub takes_turn : {s : Heap} (at : Place) → Steady s (Any s) (turn at)
takes_turn at = record { at = λ start fit k d kept caught. turns at (kept tt (any tt)) }

pub asked : {s : Heap} (at : Place) (symbol : Symbol) → Steady s (Any s) (ask at symbol)
asked at symbol = record { at = λ start fit k d kept caught. asks at symbol (λ b. kept b (any b)) }

-- ---- choices, lists, and what is thrown

pub chooses : {A : Type 0} {s : Heap} {Is : Heap → A → Type 0} {m n : Run A} (b : Bool) → At s Is m → At s Is n → At s Is (choose b m n)
chooses true h l = h
chooses false h l = l

pub tests : {A : Type 0} {s : Heap} {Is : Heap → A → Type 0} {m n : Run A} (b : Bool) → At s Is m → At s Is n → At s Is (cond b m n)
tests true h l = h
tests false h l = l

pub chooses_same : {A : Type 0} {s : Heap} {Is : A → Type 0} {m n : Run A} (b : Bool) → Steady s Is m → Steady s Is n → Steady s Is (choose b m n)
chooses_same true h l = h
chooses_same false h l = l

pub tests_same : {A : Type 0} {s : Heap} {Is : A → Type 0} {m n : Run A} (b : Bool) → Steady s Is m → Steady s Is n → Steady s Is (cond b m n)
tests_same true h l = h
tests_same false h l = l

-- from this heap on
pub from_here : {A : Type 0} {s : Heap} {Is : Heap → A → Type 0} {m : Run A} → (Keeps s s → At s Is m) → At s Is m
from_here h = on_realm (λ fit. h (same fit.valid))

turns_from : {A : Type 0} {s : Heap} {P : A → Type 0} {f : A → Run (Unit {0})} → ((t : Heap) → Keeps s t → (a : A) → P a → At t Any (f a)) → {t : Heap} → Keeps s t → {xs : List A} → Each P xs → At t Any (in_turn f xs)
turns_from h up none = gives_any tt
turns_from h {t = t} up (also {x = x} is all) = bind_any (h t up x is) (λ u more _. turns_from h (up ⊚ more) all)

pub in_turns : {A : Type 0} {s : Heap} {P : A → Type 0} {f : A → Run (Unit {0})} → ((t : Heap) → Keeps s t → (a : A) → P a → At t Any (f a)) → {xs : List A} → Each P xs → At s Any (in_turn f xs)
in_turns h all = from_here (λ up. turns_from h up all)

any_turns_from : {A : Type 0} {s : Heap} {f : A → Run (Unit {0})} → ((t : Heap) → Keeps s t → (a : A) → At t Any (f a)) → {t : Heap} → Keeps s t → (xs : List A) → At t Any (in_turn f xs)
any_turns_from h up [] = gives_any tt
any_turns_from h {t = t} up (x ∷ xs) = bind_any (h t up x) (λ u more _. any_turns_from h (up ⊚ more) xs)

pub in_turns_any : {A : Type 0} {s : Heap} {f : A → Run (Unit {0})} → ((t : Heap) → Keeps s t → (a : A) → At t Any (f a)) → (xs : List A) → At s Any (in_turn f xs)
in_turns_any h xs = from_here (λ up. any_turns_from h up xs)

values_from : {A : Type 0} {s : Heap} {f : A → Run Value} → ((t : Heap) → Keeps s t → (a : A) → At t IsValue (f a)) → {t : Heap} → Keeps s t → (xs : List A) → At t Values (each f xs)
values_from h up [] = gives none
values_from h {t = t} up (x ∷ xs) = bind (h t up x) (λ u more y is. bind (values_from h (up ⊚ more) xs) (λ v most ys all. gives (also (later most is) all)))

pub all_values : {A : Type 0} {s : Heap} {f : A → Run Value} → ((t : Heap) → Keeps s t → (a : A) → At t IsValue (f a)) → (xs : List A) → At s Values (each f xs)
all_values h xs = from_here (λ up. values_from h up xs)

pub catches : {A : Type 0} {s : Heap} {Is : Heap → A → Type 0} {m : Run A} {f : Value → Run A} → ((t : Heap) → Keeps s t → (v : Value) → IsValue t v → At t Is (f v)) → At s Is m → At s Is (catching f m)
catches {f = f} handles h = record {
  at = λ start fit k d kept caught. h.at start fit k (λ v t. f v t k d) kept (record { at = λ v t up is. (handles t up v is).at start (fit ⊚ up) k d (after_later up kept) (after_later up caught) });
}

-- ---- loops

pub data IsNext {A : Type 0} (Is : Heap → A → Type 0) (h : Heap) : Next A → Type 0 where
  goes_on : IsNext Is h Again
  is_done : {a : A} → Is h a → IsNext Is h (Done a)

unless_done_too : {A : Type 0} {s : Heap} {Is : Heap → A → Type 0} {m : Run A} → At s Is m → {t : Next A} → IsNext Is s t → At s Is (unless_done m t)
unless_done_too h goes_on = h
unless_done_too h (is_done is) = gives is

repeats_from : {A : Type 0} {s : Heap} {Is : Heap → A → Type 0} {m : Run (Next A)} → ((t : Heap) → Keeps s t → At t (IsNext Is) m) → (n : ℕ) {t : Heap} → Keeps s t → At t Is (repeat n m)
unfolding repeat
repeats_from h zero up = record { at = λ start fit k d kept caught. out_of_turns }
repeats_from h (suc n) {t = t} up = bind (h t up) (λ u more next is. unless_done_too (repeats_from h n (up ⊚ more)) is)

pub repeats : {A : Type 0} {s : Heap} {Is : Heap → A → Type 0} {m : Run (Next A)} → ((t : Heap) → Keeps s t → At t (IsNext Is) m) → (n : ℕ) → At s Is (repeat n m)
repeats h n = from_here (λ up. repeats_from h n up)
