-- Two runs that go together: from heaps that correspond, with whatever corresponds afterwards, their trees of events are related.
use Rattle.std.proofs.Common.{◌≡◌, refl, subst, ℕ, zero, suc, Bool, true, false, cond, List, [], ◌∷◌}
use Rattle.std.specs.Prelude.{Result, Ok, Err}
use Rattle.std.specs.List.{list_any}
use Rattle.js_machine.specs.Machine.Operators.{is_object}
use Rattle.js_value.specs.Conversions.{to_boolean}
use Rattle.js_value.specs.declared.place.Place.{Place}
use Rattle.js_value.specs.declared.primitive.Kind.{Kind}
use Rattle.js_value.specs.declared.primitive.Primitive.{Primitive}
use Rattle.js_value.specs.declared.why.Why.{Why}
use Rattle.plain_heap.specs.Values.{Value, Prim, Symbolic, Symbol}
use Rattle.plain_heap.specs.Heap.{Heap}
use Rattle.js_machine.specs.Machine.Events.{Need, Leaves, Lacks, Tree, Step, Turn, Ask, Input, Call, Stop, Spent, End, Fail}
use Rattle.js_machine.specs.Machine.Events.{Run, ◌>>=◌, give, throw, stop, leave, spent, change, make, look, step, turn, ask, take_input, call_host, choose, or_leave, in_turn, each, Next, Again, Done, repeat, unless_done, catching}
use Rattle.related_states.specs.Related.{Correspondence, BothEach, none, also, SameValue, SameHeaps}

-- a symbol on the right stands for this value
abbrev pub Means : Correspondence → Primitive → Symbol → Type 0
Means x p s = x.Stands (Prim p) (Symbolic s)

-- A relation between trees of events, which every event keeps. What a symbol makes possible is owed only where there is one.
pub record TreeRelation (x : Correspondence) : Type 1 where
  pub Related : Tree → Tree → Type 0
  pub steps : (at place : Place) (t u : Tree) → Related t u → Related (Step at t) (Step place u)
  pub turns : (at place : Place) (t u : Tree) → Related t u → Related (Turn at t) (Turn place u)
  pub inputs : (at place : Place) (k : Kind) (name : List ℕ) (f g : Value → Tree) → ((v u : Value) → SameValue x v u → Related (f v) (g u)) → Related (Input at k name f) (Input place k name g)
  pub calls : (at place : Place) (k : Kind) (name : List ℕ) (vs us : List Value) (f g : Value → Value → Tree) → BothEach (SameValue x) vs us → list_any is_object vs ≡ false
      → ((v u threw thrown : Value) → SameValue x v u → SameValue x threw thrown → Related (f v threw) (g u thrown)) → Related (Call at k name vs f) (Call place k name us g)
  pub leaves : (why : Why) (at place : Place) → Related (Stop (Leaves why) at) (Stop (Leaves why) place)
  pub runs_out : Related Spent Spent
  pub ends : (h g : Heap) → SameHeaps x h g → Related (End h) (End g)
  pub fails : (v u : Value) (h g : Heap) → SameValue x v u → SameHeaps x h g → Related (Fail v h) (Fail u g)
  -- the test of a symbol gives what its value gives
  pub asks : (p : Primitive) (s : Symbol) → Means x p s → (at : Place) (t : Tree) (g : Bool → Tree) → Related t (g (to_boolean p)) → Related t (Ask at s g)
  -- a symbol stands where it can't
  pub wants : (p : Primitive) (s : Symbol) → Means x p s → (what : Need) (at : Place) (t : Tree) → Related t (Stop (Lacks what) at)
  -- what is done with a symbol's value leaves the profile
  pub leaves_first : (p : Primitive) (s : Symbol) → Means x p s → (why : Why) (at : Place) (u : Tree) → Related (Stop (Leaves why) at) u

-- what is made on both sides, and the heaps with it
pub record Makes (x : Correspondence) {A B : Type 0} (R : A → B → Type 0) (a : A × Heap) (b : B × Heap) : Type 0 where
  pub gives : R a.0 b.0
  pub heaps : SameHeaps x a.1 b.1

abbrev pub Equal : {A : Type 0} → A → A → Type 0
Equal a b = a ≡ b

module _ {x : Correspondence} (w : TreeRelation x) where
  -- what comes afterwards
  pub record Kept {A B : Type 0} (R : A → B → Type 0) (k : A → Heap → Tree) (l : B → Heap → Tree) : Type 0 where
    pub at : (a : A) (b : B) → R a b → (s t : Heap) → SameHeaps x s t → w.Related (k a s) (l b t)

  pub record Together {A B : Type 0} (R : A → B → Type 0) (m : Run A) (n : Run B) : Type 0 where
    pub at : (s t : Heap) → SameHeaps x s t → (k : A → Heap → Tree) (l : B → Heap → Tree) (d e : Value → Heap → Tree) → Kept R k l → Kept (SameValue x) d e → w.Related (m s k d) (n t l e)

  -- ---- steps of rules

  pub bind : {A B C D : Type 0} {R : A → B → Type 0} {S : C → D → Type 0} {m : Run A} {n : Run B} {f : A → Run C} {g : B → Run D}
      → Together R m n → ((a : A) (b : B) → R a b → Together S (f a) (g b)) → Together S (m >>= f) (n >>= g)
  bind {f = f} {g = g} h next = record {
    at = λ s t same k l d e kept caught. h.at s t same (λ a s. f a s k d) (λ b t. g b t l e) d e (record { at = λ a b r s t same. (next a b r).at s t same k l d e kept caught }) caught;
  }

  -- where both give the same
  pub bind_same : {A C D : Type 0} {S : C → D → Type 0} {m n : Run A} {f : A → Run C} {g : A → Run D}
      → Together Equal m n → ((a : A) → Together S (f a) (g a)) → Together S (m >>= f) (n >>= g)
  bind_same {S = S} {f = f} {g = g} h next = bind h (λ a b e. subst (λ b. Together S (f a) (g b)) e (next a))

  pub gives : {A B : Type 0} {R : A → B → Type 0} {a : A} {b : B} → R a b → Together R (give a) (give b)
  gives {a = a} {b = b} r = record { at = λ s t same k l d e kept caught. kept.at a b r s t same }

  pub gives_same : {A : Type 0} (a : A) → Together Equal (give a) (give a)
  gives_same a = gives refl

  pub throws : {A B : Type 0} {R : A → B → Type 0} {v u : Value} → SameValue x v u → Together R (throw v) (throw u)
  throws {v = v} {u = u} r = record { at = λ s t same k l d e kept caught. caught.at v u r s t same }

  pub left_at : {A B : Type 0} {R : A → B → Type 0} (why : Why) (at place : Place) → Together R (leave why at) (leave why place)
  left_at why at place = record { at = λ s t same k l d e kept caught. w.leaves why at place }

  pub runs_out : {A B : Type 0} {R : A → B → Type 0} → Together R spent spent
  runs_out = record { at = λ s t same k l d e kept caught. w.runs_out }

  pub changes : {f g : Heap → Heap} → ((s t : Heap) → SameHeaps x s t → SameHeaps x (f s) (g t)) → Together Equal (change f) (change g)
  changes {f = f} {g = g} h = record { at = λ s t same k l d e kept caught. kept.at tt tt refl (f s) (g t) (h s t same) }

  pub looks : {A B : Type 0} {R : A → B → Type 0} {f : Heap → A} {g : Heap → B} → ((s t : Heap) → SameHeaps x s t → R (f s) (g t)) → Together R (look f) (look g)
  looks {f = f} {g = g} h = record { at = λ s t same k l d e kept caught. kept.at (f s) (g t) (h s t same) s t same }

  pub makes : {A B : Type 0} {R : A → B → Type 0} {f : Heap → A × Heap} {g : Heap → B × Heap} → ((s t : Heap) → SameHeaps x s t → Makes x R (f s) (g t)) → Together R (make f) (make g)
  makes {f = f} {g = g} h = record { at = λ s t same k l d e kept caught. kept.at (f s).0 (g t).0 (h s t same).gives (f s).1 (g t).1 (h s t same).heaps }

  -- one thing, and then another
  pub first : {A B : Type 0} {R : A → B → Type 0} {m n : Run (Unit {0})} {p : Run A} {q : Run B} → Together Equal m n → Together R p q → Together R (m >>= (λ _. p)) (n >>= (λ _. q))
  first {m = m} {n = n} {p = p} {q = q} h l = bind {m = m} {n = n} {f = λ _. p} {g = λ _. q} h (λ _ _ _. l)

  -- ---- events

  pub takes_step : {A B : Type 0} {R : A → B → Type 0} {m : Run A} {n : Run B} (at place : Place) → Together R m n → Together R (step at m) (step place n)
  takes_step {m = m} {n = n} at place h = record { at = λ s t same k l d e kept caught. w.steps at place (m s k d) (n t l e) (h.at s t same k l d e kept caught) }

  pub takes_turn : (at place : Place) → Together Equal (turn at) (turn place)
  takes_turn at place = record { at = λ s t same k l d e kept caught. w.turns at place (k tt s) (l tt t) (kept.at tt tt refl s t same) }

  -- what is known on the left is asked for on the right
  pub asks : {s : Symbol} {p : Primitive} → Means x p s → (at : Place) → Together Equal (give (to_boolean p)) (ask at s)
  asks {s = s} {p = p} is at = record { at = λ g t same k l d e kept caught. w.asks p s is at (k (to_boolean p) g) (λ b. l b t) (kept.at (to_boolean p) (to_boolean p) refl g t same) }

  pub wants : {A B : Type 0} {R : A → B → Type 0} {m : Run A} {s : Symbol} {p : Primitive} → Means x p s → (what : Need) (at : Place) → Together R m (stop (Lacks what) at)
  wants {m = m} {s = s} {p = p} is what at = record { at = λ g t same k l d e kept caught. w.wants p s is what at (m g k d) }

  pub leaves_first : {A B : Type 0} {R : A → B → Type 0} {n : Run B} {s : Symbol} {p : Primitive} → Means x p s → (why : Why) (at : Place) → Together R (leave why at) n
  leaves_first {n = n} {s = s} {p = p} is why at = record { at = λ g t same k l d e kept caught. w.leaves_first p s is why at (n t l e) }

  pub takes_input : (at place : Place) (kind : Kind) (name : List ℕ) → Together (SameValue x) (take_input at kind name) (take_input place kind name)
  takes_input at place kind name = record { at = λ s t same k l d e kept caught. w.inputs at place kind name (λ v. k v s) (λ v. l v t) (λ v u r. kept.at v u r s t same) }

  -- an answer, and whether it is thrown
  pub record SameAnswer (a b : Value × Value) : Type 0 where
    pub value : SameValue x a.0 b.0
    pub threw : SameValue x a.1 b.1

  pub calls_host : (at place : Place) (kind : Kind) (name : List ℕ) {vs us : List Value} → BothEach (SameValue x) vs us → list_any is_object vs ≡ false → Together SameAnswer (call_host at kind name vs) (call_host place kind name us)
  calls_host at place kind name {vs = vs} {us = us} all free = record {
    at = λ s t same k l d e kept caught. w.calls at place kind name vs us (λ v threw. k (v, threw) s) (λ v threw. l (v, threw) t) all free
        (λ v u threw thrown r q. kept.at (v, threw) (u, thrown) (record { value = r; threw = q }) s t same);
  }

  -- ---- choices, lists, and what is thrown

  pub chooses : {A B : Type 0} {R : A → B → Type 0} {m p : Run A} {n q : Run B} (b : Bool) → Together R m n → Together R p q → Together R (choose b m p) (choose b n q)
  chooses true h l = h
  chooses false h l = l

  pub tests : {A B : Type 0} {R : A → B → Type 0} {m p : Run A} {n q : Run B} (b : Bool) → Together R m n → Together R p q → Together R (cond b m p) (cond b n q)
  tests true h l = h
  tests false h l = l

  pub or_leaves : {A : Type 0} (at place : Place) (r : Result A Why) → Together Equal (or_leave at r) (or_leave place r)
  or_leaves at place (Ok a) = gives_same a
  or_leaves at place (Err why) = left_at why at place

  pub in_turns : {A B : Type 0} {R : A → B → Type 0} {f : A → Run (Unit {0})} {g : B → Run (Unit {0})} → ((a : A) (b : B) → R a b → Together Equal (f a) (g b))
      → {xs : List A} {ys : List B} → BothEach R xs ys → Together Equal (in_turn f xs) (in_turn g ys)
  in_turns h none = gives_same tt
  in_turns h (also r all) = bind_same (h _ _ r) (λ u. in_turns h all)

  pub in_turns_same : {A : Type 0} {f g : A → Run (Unit {0})} → ((a : A) → Together Equal (f a) (g a)) → (xs : List A) → Together Equal (in_turn f xs) (in_turn g xs)
  in_turns_same h [] = gives_same tt
  in_turns_same h (y ∷ ys) = bind_same (h y) (λ u. in_turns_same h ys)

  pub eaches : {A C D : Type 0} {S : C → D → Type 0} {f : A → Run C} {g : A → Run D} → ((a : A) → Together S (f a) (g a)) → (xs : List A) → Together (BothEach S) (each f xs) (each g xs)
  eaches h [] = gives none
  eaches h (y ∷ ys) = bind (h y) (λ c d r. bind (eaches h ys) (λ cs ds all. gives (also r all)))

  pub eaches_both : {A B C D : Type 0} {R : A → B → Type 0} {S : C → D → Type 0} {f : A → Run C} {g : B → Run D} → ((a : A) (b : B) → R a b → Together S (f a) (g b)) → {xs : List A} {ys : List B} → BothEach R xs ys
      → Together (BothEach S) (each f xs) (each g ys)
  eaches_both h none = gives none
  eaches_both h (also r all) = bind (h _ _ r) (λ c d s. bind (eaches_both h all) (λ cs ds ss. gives (also s ss)))

  pub catches : {A B : Type 0} {R : A → B → Type 0} {m : Run A} {n : Run B} {f : Value → Run A} {g : Value → Run B}
      → ((v u : Value) → SameValue x v u → Together R (f v) (g u)) → Together R m n → Together R (catching f m) (catching g n)
  catches {f = f} {g = g} handles h = record {
    at = λ s t same k l d e kept caught. h.at s t same k l (λ v s. f v s k d) (λ v t. g v t l e) kept (record { at = λ v u r s t same. (handles v u r).at s t same k l d e kept caught });
  }

  -- ---- loops

  pub data SameNext {A B : Type 0} (R : A → B → Type 0) : Next A → Next B → Type 0 where
    again_both : SameNext R Again Again
    done_both : {a : A} {b : B} → R a b → SameNext R (Done a) (Done b)

  unless_done_both : {A B : Type 0} {R : A → B → Type 0} {m : Run A} {n : Run B} → Together R m n → (a : Next A) (b : Next B) → SameNext R a b → Together R (unless_done m a) (unless_done n b)
  unless_done_both h _ _ again_both = h
  unless_done_both h _ _ (done_both r) = gives r

  pub repeats : {A B : Type 0} {R : A → B → Type 0} {m : Run (Next A)} {n : Run (Next B)} → Together (SameNext R) m n → (turns : ℕ) → Together R (repeat turns m) (repeat turns n)
  unfolding repeat
  repeats h zero = runs_out
  repeats h (suc k) = bind h (λ a b r. unless_done_both (repeats h k) a b r)
