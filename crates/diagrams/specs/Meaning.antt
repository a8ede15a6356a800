-- What a diagram means: a number for each assignment of truth to the conditions.
use Rattle.std.specs.Prelude.{◌≡◌, ℕ, ◌<◌, Bool, false, not, if◌then◌else◌, ◌==◌, List, [], ◌∷◌, ◌++◌, length, get_or}
use Rattle.diagrams.specs.declared.node.CondNo.{CondNo}
use Rattle.diagrams.specs.declared.node.Diagram.{Diagram}
use Rattle.diagrams.specs.declared.node.NodeForm.{NodeForm}
use Rattle.diagrams.specs.declared.node.NodeForm.TheVariants.{Leaf, Node}

-- the nodes of a table, each by its position
abbrev pub Nodes : Type 0
Nodes = List NodeForm

-- the truth of each condition
abbrev pub Assignment : Type 0
Assignment = ℕ → Bool

-- the truth of the first conditions is given; the others are false
abbrev pub chosen_by : List Bool → Assignment
chosen_by truths c = get_or truths c false

-- what a node means where the nodes before it mean these numbers
abbrev pub node_value : Assignment → List ℕ → NodeForm → ℕ
node_value σ values (Leaf n) = n
node_value σ values (Node test high low) = if σ test.0 then get_or values high.0 0 else get_or values low.0 0

-- what nodes mean, in order, behind others that mean these numbers
abbrev pub values_behind : Assignment → List ℕ → Nodes → List ℕ
values_behind σ values [] = values
values_behind σ values (node ∷ nodes) = values_behind σ (values ++ node_value σ values node ∷ []) nodes

-- what a diagram means
unfoldable pub meaning : Nodes → Assignment → Diagram → ℕ
meaning nodes σ d = get_or (values_behind σ [] nodes) d.0 0

-- what a top means
abbrev pub form_meaning : Nodes → Assignment → NodeForm → ℕ
form_meaning nodes σ (Leaf n) = n
form_meaning nodes σ (Node test high low) = if σ test.0 then meaning nodes σ high else meaning nodes σ low

-- what a test means, whose parts are these
abbrev pub tested : CondNo → Diagram → Diagram → Nodes → Assignment → ℕ
tested test high low nodes σ = form_meaning nodes σ (Node test high low)

-- a guard holds where it means another number than 0
abbrev pub holds : ℕ → Bool
holds n = not (n == 0)

-- one diagram where a guard holds, and another where it doesn't
abbrev pub selected : Diagram → Diagram → Diagram → Nodes → Assignment → ℕ
selected g a b nodes σ = if holds (meaning nodes σ g) then meaning nodes σ a else meaning nodes σ b

-- a guard where another holds too
abbrev pub both : Diagram → Diagram → Nodes → Assignment → ℕ
both g h nodes σ = if holds (meaning nodes σ g) then meaning nodes σ h else 0

-- where a guard doesn't hold
abbrev pub negated : Diagram → Nodes → Assignment → ℕ
negated g nodes σ = if holds (meaning nodes σ g) then 0 else 1

-- where a diagram means this number
abbrev pub reads_as : Diagram → ℕ → Nodes → Assignment → ℕ
reads_as d n nodes σ = if meaning nodes σ d == n then 1 else 0

-- a table has only grown
pub record Extends (old new : Nodes) : Type 0 where
  pub more : Nodes
  pub is : new ≡ old ++ more

-- a diagram of a table that in each later table means this
pub record Means (nodes : Nodes) (d : Diagram) (wanted : Nodes → Assignment → ℕ) : Type 0 where
  pub within : d.0 < length nodes
  pub reads : (later : Nodes) → Extends nodes later → (σ : Assignment) → meaning later σ d ≡ wanted later σ

-- assignments that agree on the conditions behind this one
abbrev pub AgreeBehind : ℕ → Assignment → Assignment → Type 0
AgreeBehind test σ τ = (c : ℕ) → test < c → σ c ≡ τ c

-- what a diagram means depends on conditions behind this one alone
pub record DependsBehind (nodes : Nodes) (test : ℕ) (d : Diagram) : Type 0 where
  pub same : (σ τ : Assignment) → AgreeBehind test σ τ → meaning nodes σ d ≡ meaning nodes τ d
