-- Whatever script comes after two starts that correspond.
use Rattle.std.specs.Prelude.{◌≡◌, ℕ, true, false, List}
use Rattle.js_value.specs.declared.place.Place.{Place}
use Rattle.js_value.specs.declared.why.Why.{Why}
use Rattle.js_tree.specs.declared.statement.Script.{Script}
use Rattle.plain_heap.specs.Heap.{Heap}
use Rattle.plain_heap.specs.Values.{Value}
use Rattle.js_machine.specs.Machine.Walks.{World, Start, realm_start, HostEvent, Ending, Normally, Thrown, Outcome, Ended, Left, OutOfSteps, plain_from}
use Rattle.related_states.specs.Related.{Correspondence, Decided, correspondence, SameValue, SameHeaps}
use Rattle.related_runs.specs.Starts.{SameTables, with_later}

-- ---- outcomes that correspond

module _ (x : Correspondence) where
  pub data SameEnd : Ending → Ending → Type 0 where
    normally : SameEnd Normally Normally
    thrown : {v u : Value} → SameValue x v u → SameEnd (Thrown v) (Thrown u)

  -- both end, with the same host calls and heaps that correspond; both leave with one cause; or both are out of steps
  pub data SameOutcome : Outcome → Outcome → Type 0 where
    both_ended : (calls : List HostEvent) {e f : Ending} {h g : Heap} → SameEnd e f → SameHeaps x h g → SameOutcome (Ended calls e h) (Ended calls f g)
    both_left : (why : Why) {at place : Place} → SameOutcome (Left why at) (Left why place)
    both_spent : SameOutcome OutOfSteps OutOfSteps

-- ---- starts that correspond

-- all that is made is made on both sides, and nothing stands for another value
pub record IsPlain (d : Decided) : Type 0 where
  pub no_symbols : (v u : Value) → d.stands v u ≡ false
  pub objects : (o : ℕ) → d.made_object o ≡ true
  pub cells : (c : ℕ) → d.made_cell c ≡ true

-- what corresponds in the runs of a script that comes behind both
abbrev pub after : Decided → Start → Start → Correspondence
after d a b = with_later (correspondence d) a.functions b.functions

-- functions that correspond have codes that are the same but for captured names, numbers of functions and places
pub record SameStarts (d : Decided) (a b : Start) : Type 0 where
  pub heaps : SameHeaps (after d a b) a.heap b.heap
  pub tables : SameTables (correspondence d) a.functions b.functions

-- Of every later script, in every world and with every budget. There are starts that correspond: that of an empty history does to itself.
pub record LaterRuns : Type 0 where
  pub realm : (d : Decided) × IsPlain d × SameStarts d realm_start realm_start
  pub same : (d : Decided) → IsPlain d → (a b : Start) → SameStarts d a b → (s : Script) (w : World) (n : ℕ) → SameOutcome (after d a b) (plain_from a s w n) (plain_from b s w n)
