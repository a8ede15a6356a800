-- Tables of nodes in which diagrams are ordered, reduced and shared.
use Rattle.std.specs.Prelude.{◌≡◌, ◌≢◌, ℕ, ◌<◌, ◌≤◌, suc, Some, slice_get}
use Rattle.diagrams.specs.declared.node.CondNo.{CondNo}
use Rattle.diagrams.specs.declared.node.Diagram.{Diagram}
use Rattle.diagrams.specs.declared.node.NodeForm.{NodeForm}
use Rattle.diagrams.specs.declared.node.NodeForm.TheVariants.{Leaf, Node}
use Rattle.diagrams.specs.Meaning.{Nodes}

-- a top tests no condition before this one
abbrev pub TestsFrom : ℕ → NodeForm → Type 0
TestsFrom least (Leaf n) = Unit {0}
TestsFrom least (Node test high low) = least ≤ test.0

-- a diagram's top tests no condition before this one
pub record StartsAt (nodes : Nodes) (least : ℕ) (d : Diagram) : Type 0 where
  pub top : (form : NodeForm) → slice_get nodes d.0 ≡ Some form → TestsFrom least form

-- the parts of a test come before it, differ, and test later conditions alone
pub record IsTest (nodes : Nodes) (number : ℕ) (test : CondNo) (high low : Diagram) : Type 0 where
  pub high_before : high.0 < number
  pub low_before : low.0 < number
  pub apart : high.0 ≢ low.0
  pub high_behind : StartsAt nodes (suc test.0) high
  pub low_behind : StartsAt nodes (suc test.0) low

-- a node may stand at this position
abbrev pub Stands : Nodes → ℕ → NodeForm → Type 0
Stands nodes number (Leaf n) = Unit {0}
Stands nodes number (Node test high low) = IsTest nodes number test high low

-- each node may stand where it does, and stands there alone
pub record IsTable (nodes : Nodes) : Type 0 where
  pub stands : (i : ℕ) (form : NodeForm) → slice_get nodes i ≡ Some form → Stands nodes i form
  pub once : (i j : ℕ) (form : NodeForm) → slice_get nodes i ≡ Some form → slice_get nodes j ≡ Some form → i ≡ j
