-- The run of a script in a world, and its run along this world's own choices.
use Rattle.std.specs.Prelude.{◌≡◌, ℕ, ◌+◌, nat_eq, Bool, List, [], Some}
use Rattle.std.proofs.Common.{refl, ap, subst}
use Rattle.js_value.specs.declared.place.Place.{Place}
use Rattle.js_value.specs.declared.primitive.Kind.{Kind}
use Rattle.js_value.specs.declared.why.Why.{Why}
use Rattle.js_tree.specs.declared.statement.Script.{Script}
use Rattle.plain_heap.specs.Heap.{Heap}
use Rattle.plain_heap.specs.Values.{Value, Prim, Symbolic}
use Rattle.js_machine.specs.Machine.Choices.{Opened, OpenEnded, Stopped, OpenOutOfSteps, IsWhole, open_run}
use Rattle.js_machine.specs.Machine.Events.{Need, Lacks}
use Rattle.js_machine.specs.Machine.Levels.{script_tree}
use Rattle.js_machine.specs.Machine.Realm.{realm}
use Rattle.js_machine.specs.Machine.Walks.{World, HostEvent, Ending, Normally, Thrown, Outcome, Ended, Left, OutOfSteps, plain}
use Rattle.related_states.specs.Related.{Correspondence, BothEach, SameValue, SameHeaps}
use Rattle.related_runs.specs.Itself.{Itself}
use Rattle.run_laws.specs.Symbols.{meant, own_choices}

-- ---- values for symbols: all else is the same in both runs

-- a symbol stands for its value
abbrev pub Stands : World → Value → Value → Type 0
Stands w (Prim p) (Symbolic s) = meant w s ≡ Some p
Stands w _ _ = ⊥

pub equal_numbers : (o q p r : ℕ) → o ≡ q → p ≡ r → nat_eq o p ≡ nat_eq q r
equal_numbers o q p r e f = subst (λ q. nat_eq o p ≡ nat_eq q r) e (ap (nat_eq o) f)

abbrev pub valued : World → Correspondence
valued w = record {
  Objects = λ o q. o ≡ q;
  Cells = λ c d. c ≡ d;
  Functions = λ ns f g. Itself ns f g;
  Stands = Stands w;
  ObjectCounts = λ m n. m ≡ n;
  CellCounts = λ m n. m ≡ n;
  MadeObject = λ o. Unit {0};
  MadeCell = λ c. Unit {0};
  new_object = λ m n e made. e;
  new_cell = λ m n e made. e;
  next_object = λ m n e made. ap (λ k. k + 1) e;
  next_cell = λ m n e made. ap (λ k. k + 1) e;
  one_object = equal_numbers;
  one_cell = equal_numbers;
  realm = λ o h. refl;
}

-- a host call, its answer, and whether that was thrown
pub data SameEvent (w : World) : HostEvent → HostEvent → Type 0 where
  same_event : (name : List ℕ) {vs us : List Value} → BothEach (SameValue (valued w)) vs us → (k : Kind) {v u threw thrown : Value} → SameValue (valued w) v u → SameValue (valued w) threw thrown
      → SameEvent w (record { name = name; arguments = vs; kind = k; answer = v; threw = threw }) (record { name = name; arguments = us; kind = k; answer = u; threw = thrown })

pub data SameEnding (w : World) : Ending → Ending → Type 0 where
  same_normally : SameEnding w Normally Normally
  same_thrown : {v u : Value} → SameValue (valued w) v u → SameEnding w (Thrown v) (Thrown u)

-- the run in the world leaves, or the other stops with a need, or the one is the other with values for symbols
pub data Valued (w : World) : Outcome → Opened → Type 0 where
  leaves : {why : Why} {at : Place} {o : Opened} → Valued w (Left why at) o
  needs : {o : Outcome} {what : Need} {at : Place} → Valued w o (Stopped (Lacks what) at)
  both_end : {calls others : List HostEvent} {e f : Ending} {h g : Heap} → BothEach (SameEvent w) calls others → SameEnding w e f → SameHeaps (valued w) h g → Valued w (Ended calls e h) (OpenEnded others f g)
  both_out : Valued w OutOfSteps OpenOutOfSteps

-- the truth values that the tested symbols have in the world
abbrev pub choices_of : World → Script → ℕ → List Bool
choices_of w s n = own_choices w n 0 [] (script_tree n s realm)

-- of every script, in every world, with every budget; a script's inputs that the world doesn't give make it leave
pub record SymbolsValued : Type 0 where
  pub valued : (w : World) (s : Script) (n : ℕ) → Valued w (plain s w n) (open_run s (choices_of w s n) n).came_to
  -- and that run takes all these choices
  pub whole : (w : World) (s : Script) (n : ℕ) → IsWhole s (choices_of w s n) n
