-- How runs are put together.
use Rattle.std.proofs.Common.{◌≡◌, ℕ, suc, ◌+◌, ap, subst, ◌∙◌, zero-add, arith}
use Rattle.js_value.specs.declared.place.Place.{Place}
use Rattle.plain_heap.specs.Heap.{Heap}
use Rattle.plain_heap.specs.Values.{Value}
use Rattle.js_machine.specs.Machine.Events.{Tree, Step, Run, ◌>>=◌}
use Rattle.js_machine.specs.Machine.Walks.{World, walk}
use Rattle.residual_runs.specs.Runs.{State, Runs, Throws}

pub sums : (i j n : ℕ) → (i + j) + n ≡ i + (j + n)
sums i j n = omega arith

next : (i n : ℕ) → (1 + i) + n ≡ suc (i + n)
next i n = omega arith

module _ (w : World) where
  -- no step is taken
  pub at_once : {A : Type 0} {m : Run A} {calls : _} {before after : Heap} {a : A} → ((k : A → Heap → Tree) (r : Value → Heap → Tree) → m before k r ≡ k a after)
      → Runs w m (record { calls = calls; heap = before }) 0 a (record { calls = calls; heap = after })
  at_once {calls = calls} {after = after} {a = a} is = record { at = λ n k r. ap (walk w (0 + n) calls) (is k r) ∙ ap (λ n. walk w n calls (k a after)) (zero-add n) }

  pub followed : {A B : Type 0} {m : Run A} {f : A → Run B} {before mid after : State} {i j : ℕ} {a : A} {b : B} → Runs w m before i a mid → Runs w (f a) mid j b after → Runs w (m >>= f) before (i + j) b after
  followed {m = m} {f = f} {before = before} {i = i} {j = j} first second = record {
    at = λ n k r.
        ap (λ n. walk w n before.calls (m before.heap (λ a s. f a s k r) r)) (sums i j n)
        ∙ first.at (j + n) (λ a s. f a s k r) r
        ∙ second.at n k r;
  }

  -- a step first
  pub behind_step : {A : Type 0} {m other : Run A} {before after : State} {i : ℕ} {a : A} (at : Place) → ((k : A → Heap → Tree) (r : Value → Heap → Tree) → other before.heap k r ≡ Step at (m before.heap k r))
      → Runs w m before i a after → Runs w other before (1 + i) a after
  behind_step {m = m} {before = before} {i = i} at is runs = record {
    at = λ n k r. ap (walk w ((1 + i) + n) before.calls) (is k r) ∙ ap (λ n. walk w n before.calls (Step at (m before.heap k r))) (next i n) ∙ runs.at n k r;
  }

  -- ---- runs that throw

  -- what comes afterwards isn't done
  pub throws_first : {A B : Type 0} {m : Run A} {f : A → Run B} {before after : State} {i : ℕ} {v : Value} → Throws w m before i v after → Throws w (m >>= f) before i v after
  throws_first {f = f} first = record { at = λ n k r. first.at n (λ a s. f a s k r) r }

  pub throws_then : {A B : Type 0} {m : Run A} {f : A → Run B} {before mid after : State} {i j : ℕ} {a : A} {v : Value} → Runs w m before i a mid → Throws w (f a) mid j v after → Throws w (m >>= f) before (i + j) v after
  throws_then {m = m} {f = f} {before = before} {i = i} {j = j} first second = record {
    at = λ n k r.
        ap (λ n. walk w n before.calls (m before.heap (λ a s. f a s k r) r)) (sums i j n)
        ∙ first.at (j + n) (λ a s. f a s k r) r
        ∙ second.at n k r;
  }

  pub throws_behind_step : {A : Type 0} {m other : Run A} {before after : State} {i : ℕ} {v : Value} (at : Place) → ((k : A → Heap → Tree) (r : Value → Heap → Tree) → other before.heap k r ≡ Step at (m before.heap k r))
      → Throws w m before i v after → Throws w other before (1 + i) v after
  throws_behind_step {m = m} {before = before} {i = i} at is runs = record {
    at = λ n k r. ap (walk w ((1 + i) + n) before.calls) (is k r) ∙ ap (λ n. walk w n before.calls (Step at (m before.heap k r))) (next i n) ∙ runs.at n k r;
  }

  -- the same number of steps by other words
  pub counted : {A : Type 0} {m : Run A} {before after : State} {i j : ℕ} {a : A} → i ≡ j → Runs w m before i a after → Runs w m before j a after
  counted {m = m} {before = before} {after = after} {a = a} is runs = subst (λ i. Runs w m before i a after) is runs
