-- The listing of the variables of a simple script, and when two runs agree.
use Rattle.std.specs.Prelude.{◌≡◌, ℕ, Bool, true, false, List, [], ◌∷◌, map}
use Rattle.js_value.specs.declared.primitive.Primitive.{Primitive}
use Rattle.simple_runs.specs.Events.{Heap}
use Rattle.simple_runs.specs.Runs.{Outcome, Ended}

-- a property of an object
pub record Line : Type 0 where
  pub key : List ℕ
  pub value : Primitive
  pub writable : Bool
  pub enumerable : Bool
  pub configurable : Bool

pub data Row : Type 0 where
  -- what differs of the global object
  GlobalObject : List Line → Row

abbrev pub line : List ℕ × Primitive → Line
line p = record { key = p.0; value = p.1; writable = true; enumerable = true; configurable = false }

-- the rows of a heap: that of the global object, where something differs
abbrev pub listing : Heap → List Row
listing [] = []
listing (p ∷ ps) = GlobalObject (map line (p ∷ ps)) ∷ []

-- both ended, with equal listings
abbrev pub Agree : Outcome → Outcome → Type 0
Agree (Ended heap) (Ended other) = listing other ≡ listing heap
Agree _ _ = ⊥
