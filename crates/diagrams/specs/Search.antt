-- How answers to cases are found by their parts.
use Rattle.std.specs.Prelude.{◌≡◌, ℕ, ◌+◌, ◌<◌, ◌≤◌, zero, suc, ◌⊎◌, Bool, true, false, List, [], ◌∷◌, Some, length, slice_get}
use Rattle.diagrams.specs.declared.node.CondNo.{CondNo}
use Rattle.diagrams.specs.declared.node.Diagram.{Diagram}
use Rattle.diagrams.specs.declared.node.NodeForm.TheVariants.{Node}
use Rattle.diagrams.specs.declared.case.Case.{Case}
use Rattle.diagrams.specs.declared.case.Split.{Split}
use Rattle.diagrams.specs.declared.case.Known.{Known}
use Rattle.diagrams.specs.declared.case.Known.TheVariants.{Answer, Tests}
use Rattle.diagrams.specs.declared.case.Waiting.{Waiting}
use Rattle.diagrams.specs.declared.case.Waiting.TheVariants.{Yes, No}
use Rattle.diagrams.specs.Meaning.{Nodes, Assignment, meaning, AgreeBehind, DependsBehind}
use Rattle.diagrams.specs.Table.{StartsAt}
use Rattle.diagrams.specs.Cases.{IsWithin, Answers, case_meaning}

-- a diagram tests this condition first
pub record HasTest (nodes : Nodes) (test : ℕ) (d : Diagram) : Type 0 where
  pub high : Diagram
  pub low : Diagram
  pub top : slice_get nodes d.0 ≡ Some (Node (record { 0 = test }) high low)

-- what is known of a case is right
abbrev pub TellsOf : Nodes → Case → Known → Type 0
TellsOf nodes c (Answer d) = Answers nodes c d
TellsOf nodes c (Tests test) = HasTest nodes test.0 c.value

-- the earlier of a condition and the one that a diagram tests first
pub record Earlier (nodes : Nodes) (test : CondNo) (d : Diagram) (first : CondNo) : Type 0 where
  pub least : first.0 ≤ test.0
  pub starts : StartsAt nodes first.0 d
  pub either : (first ≡ test) ⊎ HasTest nodes first.0 d

-- what a diagram is where a condition has this truth
pub record IsPart (nodes : Nodes) (d : Diagram) (test : CondNo) (truth : Bool) (p : Diagram) : Type 0 where
  pub within : p.0 < length nodes
  pub least : p.0 ≤ d.0
  pub less : HasTest nodes test.0 d → p.0 < d.0
  pub behind : DependsBehind nodes test.0 p
  pub means : (σ : Assignment) → σ test.0 ≡ truth → meaning nodes σ d ≡ meaning nodes σ p

-- one of a case's diagrams tests this condition first
abbrev pub IsTested : Nodes → ℕ → Case → Type 0
IsTested nodes test c = HasTest nodes test c.value ⊎ (HasTest nodes test c.same ⊎ HasTest nodes test c.other)

-- how much there is to search
abbrev pub weight : Case → ℕ
weight c = c.value.0 + c.same.0 + c.other.0

-- what a case is where a condition has this truth
pub record IsPartOfCase (nodes : Nodes) (c : Case) (test : CondNo) (truth : Bool) (p : Case) : Type 0 where
  pub within : IsWithin nodes p
  pub less : weight p < weight c
  pub same : (σ τ : Assignment) → AgreeBehind test.0 σ τ → case_meaning nodes σ p ≡ case_meaning nodes τ p
  pub means : (σ : Assignment) → σ test.0 ≡ truth → case_meaning nodes σ c ≡ case_meaning nodes σ p

-- a case divided by a condition
pub record IsSplit (nodes : Nodes) (s : Split) : Type 0 where
  pub within : IsWithin nodes s.whole
  pub high : IsPartOfCase nodes s.whole s.test true s.yes
  pub low : IsPartOfCase nodes s.whole s.test false s.no

abbrev pub whole_of : Waiting → Case
whole_of (Yes s) = s.whole
whole_of (No s d) = s.whole

-- a divided case waits for the answer to this part
abbrev pub WaitsFor : Nodes → Waiting → Case → Type 0
WaitsFor nodes (Yes s) asked = IsSplit nodes s × (asked ≡ s.yes)
WaitsFor nodes (No s d) asked = IsSplit nodes s × Answers nodes s.yes d × (asked ≡ s.no)

-- each waits for the one before it, the first for this case, and the last is the root
abbrev pub Chain : Nodes → Case → List Waiting → Case → Type 0
Chain nodes root [] asked = asked ≡ root
Chain nodes root (w ∷ waiting) asked = WaitsFor nodes w asked × Chain nodes root waiting (whole_of w)

-- a diagram answers what the first waits for
pub record Pending (nodes : Nodes) (root : Case) (waiting : List Waiting) (d : Diagram) : Type 0 where
  pub asked : Case
  pub chain : Chain nodes root waiting asked
  pub answers : Answers nodes asked d

-- where those in a list wait for a case, those in the other wait for what this diagram answers
abbrev pub Descends : Nodes → List Waiting → Case → List Waiting → Diagram → Type 0
Descends nodes waiting c new d = (root : Case) → Chain nodes root waiting c → Pending nodes root new d

-- a diagram answers what a divided case waits for
abbrev pub Resumes : Nodes → Waiting → Diagram → Type 0
Resumes nodes (Yes s) d = IsSplit nodes s × Answers nodes s.yes d
Resumes nodes (No s y) d = IsSplit nodes s × Answers nodes s.yes y × Answers nodes s.no d

-- a bound on the steps of a search
abbrev pub cost : ℕ → ℕ
cost zero = 1
cost (suc n) = 3 + cost n + cost n

abbrev pub load_of : Waiting → ℕ
load_of (Yes s) = 2 + cost (weight s.no)
load_of (No s d) = 1

abbrev pub load : List Waiting → ℕ
load [] = 0
load (w ∷ waiting) = load_of w + load waiting
