-- The bound on turns shows only in a run that is out of steps, and where it is no lower than the budget it doesn't show at all.
use Rattle.std.proofs.Common.{◌≡◌, ℕ, zero, suc, ◌≤◌, ◌<◌, ◌⊎◌, inl, inr, List, [], refl, sym, arith}
use Rattle.js_tree.specs.declared.statement.Script.{Script}
use Rattle.plain_heap.specs.Heap.{Heap}
use Rattle.plain_heap.specs.Values.{Value}
use Rattle.js_machine.specs.Machine.Expressions.{Completion}
use Rattle.js_machine.specs.Machine.Events.{Tree, Spent, Run, Next, Again, Done, repeat, unless_done}
use Rattle.js_machine.specs.Machine.Walks.{World, HostEvent, OutOfSteps, walk, plain_from, behind, Start}
use Rattle.machine_laws.specs.Turns.{MoreTurns, run_with}
use Rattle.machine_laws.proofs.Alike.{TreeRelation, Begins, begun, Kept, Stepped, LoopsAlike, sooner, left}
use Rattle.machine_laws.proofs.AlikeLevels.{script_trees}
use Rattle.machine_laws.proofs.Walks.{OutcomeRelation, walks}

-- ---- loops with two bounds, where the first allows for enough turns, or its end is related to what the second does then

module _ (w : TreeRelation) (Enough : ℕ → ℕ → Type 0) (fewer : (i j a : ℕ) → j < i → Enough i (suc a) → Enough j a)
    (spent : (i : ℕ) → Enough i zero → w.Related i Spent Spent) (cut : (i : ℕ) (t : Tree) → Enough i zero → Begins t → w.Related i Spent t)
    {once again : Run (Next Completion)} (h : Stepped w once again) where
  after : (a b i : ℕ) (k l : Completion → Heap → Tree) (d e : Value → Heap → Tree) → Kept w i k l → ((s : Heap) → w.Related i (repeat a once s k d) (repeat b again s l e))
      → (t : Next Completion) (s : Heap) → w.Related i (unless_done (repeat a once) t s k d) (unless_done (repeat b again) t s l e)
  after a b i k l d e kept next Again s = next s
  after a b i k l d e kept next (Done x) s = kept.at i (omega arith) x s

  repeats : (a b i : ℕ) → a ≤ b → Enough i a → (s : Heap) (k l : Completion → Heap → Tree) (d e : Value → Heap → Tree) → Kept w i k l → Kept w i d e
      → w.Related i (repeat a once s k d) (repeat b again s l e)
  unfolding repeat
  repeats zero zero i le enough s k l d e kept caught = spent i enough
  repeats zero (suc b) i le enough s k l d e kept caught = cut i _ enough (h.begins s (λ t s. unless_done (repeat b again) t s l e) e)
  repeats (suc a) zero i le enough s k l d e kept caught = absurd (omega (arith, le))
  repeats (suc a) (suc b) i le enough s k l d e kept caught =
      h.at i s (λ t s. unless_done (repeat a once) t s k d) (λ t s. unless_done (repeat b again) t s l e) d e (record {
        at = λ j below t s.
            let here = sooner w (omega (arith, below)) kept in
            after a b j k l d e here (λ s. repeats a b j (omega (arith, le)) (fewer i j a below enough) s k l d e here (sooner w (omega (arith, below)) caught)) t s;
      }) (left w caught)

-- ---- with budgets up to a number

abbrev same_to : ℕ → OutcomeRelation
same_to most = record {
  Holds = λ n o p. n ≤ most → o ≡ p;
  same = λ n o le. refl;
  later = λ n o p h le. h (omega (arith, le));
}

begins_out : (w : World) (calls : List HostEvent) (t : Tree) → Begins t → walk w zero calls t ≡ OutOfSteps
begins_out w calls _ (begun at t) = refl

cut_at_end : (most i : ℕ) (t : Tree) → i ≤ zero → Begins t → (walks (same_to most)).Related i Spent t
cut_at_end most zero t enough b w calls le = sym (begins_out w calls t b)
cut_at_end most (suc i) t enough b w calls le = absurd (omega (arith, enough))

enough_turns : (most more : ℕ) → most ≤ more → LoopsAlike (walks (same_to most)) most more
enough_turns most more le = record {
  at = λ h. record {
    at = λ i s k l d e kept caught w calls below. repeats (walks (same_to most)) (λ i a. i ≤ a) (λ i j a below enough. omega (arith, below, enough))
        (λ i enough w calls le. refl) (cut_at_end most) h most more i le below s k l d e kept caught w calls below;
  };
}

-- ---- with any budget

abbrev same_or_out : OutcomeRelation
same_or_out = record {
  Holds = λ n o p. (o ≡ OutOfSteps) ⊎ (o ≡ p);
  same = λ n o. inr refl;
  later = λ n o p h. h;
}

any_turns : (turns more : ℕ) → turns ≤ more → LoopsAlike (walks same_or_out) turns more
any_turns turns more le = record {
  at = λ h. record {
    at = λ i s k l d e kept caught. repeats (walks same_or_out) (λ i a. Unit {0}) (λ i j a below enough. tt)
        (λ i enough w calls. inl refl) (λ i t enough b w calls. inl refl) h turns more i le tt s k l d e kept caught;
  };
}

-- ---- runs

enough_for : (start : Start) (s : Script) (w : World) (n turns : ℕ) → n ≤ turns → run_with turns start s w n ≡ plain_from start s w n
unfolding plain_from
enough_for start s w n turns le = sym (script_trees (walks (same_to n)) (behind start.functions s) n turns (enough_turns n turns le) n start.heap w [] (omega arith))

pub more_turns : MoreTurns
more_turns = record {
  enough = enough_for;
  greater = λ start s w n turns more le. script_trees (walks same_or_out) (behind start.functions s) turns more (any_turns turns more le) n start.heap w [];
}
