-- Questions that are asked of diagrams, and their answers.
use Rattle.std.specs.Prelude.{◌≡◌, ℕ, ◌<◌, if◌then◌else◌, ◌==◌, List, Option, Some, None, length, slice_get}
use Rattle.diagrams.specs.declared.node.Diagram.{Diagram}
use Rattle.diagrams.specs.declared.case.Case.{Case}
use Rattle.diagrams.specs.Meaning.{Nodes, Assignment, meaning}

-- what the diagram that is asked for means
abbrev pub case_meaning : Nodes → Assignment → Case → ℕ
case_meaning nodes σ c = if meaning nodes σ c.value == c.leaf then meaning nodes σ c.same else meaning nodes σ c.other

-- a case of a table's diagrams
pub record IsWithin (nodes : Nodes) (c : Case) : Type 0 where
  pub value : c.value.0 < length nodes
  pub same : c.same.0 < length nodes
  pub other : c.other.0 < length nodes

-- the diagram that is asked for
pub record Answers (nodes : Nodes) (c : Case) (d : Diagram) : Type 0 where
  pub asked : IsWithin nodes c
  pub within : d.0 < length nodes
  pub means : (σ : Assignment) → meaning nodes σ d ≡ case_meaning nodes σ c

-- remembered answers
pub record AreRight (nodes : Nodes) (answers : List (Case × Diagram)) : Type 0 where
  pub right : (i : ℕ) (c : Case) (d : Diagram) → slice_get answers i ≡ Some (c, d) → Answers nodes c d

abbrev pub IfKnown : Nodes → Case → Option Diagram → Type 0
IfKnown nodes c None = Unit {0}
IfKnown nodes c (Some d) = Answers nodes c d
