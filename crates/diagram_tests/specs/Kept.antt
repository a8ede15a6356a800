-- Diagrams that are kept aside while others are made.
use Rattle.std.specs.Prelude.{◌≡◌, ℕ, ◌<◌, List, Some, length, slice_get}
use Rattle.diagrams.specs.declared.node.Diagram.{Diagram}
use Rattle.diagrams.specs.Meaning.{Nodes}

-- they are diagrams of the table
abbrev pub AreWithin : Nodes → List Diagram → Type 0
AreWithin nodes ds = (i : ℕ) (d : Diagram) → slice_get ds i ≡ Some d → d.0 < length nodes

abbrev pub GuardsAreWithin : Nodes → List (ℕ × Diagram) → Type 0
GuardsAreWithin nodes guarded = (i n : ℕ) (g : Diagram) → slice_get guarded i ≡ Some (n, g) → g.0 < length nodes
