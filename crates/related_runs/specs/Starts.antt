-- The functions of two starts, and those of a script that comes behind them.
use Rattle.std.specs.Prelude.{◌≡◌, ◌⊎◌, ℕ, ◌+◌, List, length, slice_get, Option, Some}
use Rattle.js_value.specs.declared.place.FuncNo.{FuncNo}
use Rattle.js_tree.specs.declared.statement.Func.{Func}
use Rattle.related_states.specs.Related.{Correspondence, Names}
use Rattle.related_runs.specs.Codes.{SameFunc, SameStmt}
use Rattle.related_runs.specs.Itself.{Diagonal}

-- both are there
pub data BothThere {A B : Type 0} (R : A → B → Type 0) : Option A → Option B → Type 0 where
  there : {a : A} {b : B} → R a b → BothThere R (Some a) (Some b)

-- functions that correspond are there, and have codes that do
pub record SameTables (x : Correspondence) (functions others : List Func) : Type 0 where
  pub called : (ns : Names) (f g : FuncNo) → x.Functions ns f g → BothThere (SameFunc x functions others (SameStmt x functions others) ns) (slice_get functions f.0) (slice_get others g.0)

-- a function of the script that comes behind these
pub record LaterFunction (functions others : List Func) (ns : Names) (f g : FuncNo) : Type 0 where
  pub names : Diagonal ns
  pub behind : ℕ
  pub first : f ≡ record { 0 = length functions + behind }
  pub second : g ≡ record { 0 = length others + behind }

-- with the functions of a script that comes behind these
abbrev pub with_later : Correspondence → List Func → List Func → Correspondence
with_later x functions others = record x { Functions = λ ns f g. x.Functions ns f g ⊎ LaterFunction functions others ns f g }
