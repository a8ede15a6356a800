-- The leaves of a diagram.
use Rattle.std.specs.Prelude.{◌≡◌, ℕ, ◌+◌, ◌*◌, ◌<◌, zero, suc, List, [], ◌∷◌, Some, length, map, slice_get}
use Rattle.diagrams.specs.declared.node.Diagram.{Diagram}
use Rattle.diagrams.specs.declared.node.NodeForm.{NodeForm}
use Rattle.diagrams.specs.declared.node.NodeForm.TheVariants.{Leaf, Node}
use Rattle.diagrams.specs.Meaning.{Nodes, Assignment, Means, meaning, reads_as}

abbrev pub IsAmong : {A : Type 0} → A → List A → Type 0
IsAmong x xs = (i : ℕ) × (slice_get xs i ≡ Some x)

-- somewhere a diagram means this number
abbrev pub IsRead : Nodes → Diagram → ℕ → Type 0
IsRead nodes d n = (σ : Assignment) × (meaning nodes σ d ≡ n)

-- each number that a diagram means somewhere, once
pub record AreLeaves (nodes : Nodes) (d : Diagram) (leaves : List ℕ) : Type 0 where
  pub all : (σ : Assignment) → IsAmong (meaning nodes σ d) leaves
  pub read : (i n : ℕ) → slice_get leaves i ≡ Some n → IsRead nodes d n
  pub once : (i j n : ℕ) → slice_get leaves i ≡ Some n → slice_get leaves j ≡ Some n → i ≡ j

-- these leaves, each with the guard that holds where a diagram means it
pub record AreGuards (nodes : Nodes) (d : Diagram) (leaves : List ℕ) (guarded : List (ℕ × Diagram)) : Type 0 where
  pub each : map (λ p. p.0) guarded ≡ leaves
  pub guards : (i n : ℕ) (g : Diagram) → slice_get guarded i ≡ Some (n, g) → Means nodes g (reads_as d n)

-- each number that a diagram means somewhere, once, with the guard that holds there
pub record AreGuarded (nodes : Nodes) (d : Diagram) (guarded : List (ℕ × Diagram)) : Type 0 where
  pub guards : (i n : ℕ) (g : Diagram) → slice_get guarded i ≡ Some (n, g) → Means nodes g (reads_as d n)
  pub all : (σ : Assignment) → (g : Diagram) × IsAmong (meaning nodes σ d, g) guarded
  pub read : (i n : ℕ) (g : Diagram) → slice_get guarded i ≡ Some (n, g) → IsRead nodes d n
  pub once : (i j n : ℕ) (g h : Diagram) → slice_get guarded i ≡ Some (n, g) → slice_get guarded j ≡ Some (n, h) → i ≡ j

-- ---- the walk over a diagram

-- a top was visited: its leaf was noted, or its parts are reached
abbrev pub IsVisited : List Diagram → List ℕ → NodeForm → Type 0
IsVisited reached leaves (Leaf n) = IsAmong n leaves
IsVisited reached leaves (Node test high low) = IsAmong high reached × IsAmong low reached

-- wherever the one is, the other is somewhere
abbrev pub IsBelow : Nodes → Diagram → Diagram → Type 0
IsBelow nodes d v = (σ : Assignment) → IsRead nodes d (meaning nodes σ v)

-- diagrams that are reached from one, of which the first few were visited, and the leaves that were met
pub record IsReached (nodes : Nodes) (d : Diagram) (reached : List Diagram) (leaves : List ℕ) (next : ℕ) : Type 0 where
  pub root : IsAmong d reached
  pub within : (i : ℕ) (v : Diagram) → slice_get reached i ≡ Some v → v.0 < length nodes
  pub below : (i : ℕ) (v : Diagram) → slice_get reached i ≡ Some v → IsBelow nodes d v
  pub visited : (i : ℕ) (v : Diagram) (form : NodeForm) → i < next → slice_get reached i ≡ Some v → slice_get nodes v.0 ≡ Some form → IsVisited reached leaves form
  pub read : (i n : ℕ) → slice_get leaves i ≡ Some n → IsRead nodes d n
  pub once : (i j n : ℕ) → slice_get leaves i ≡ Some n → slice_get leaves j ≡ Some n → i ≡ j

-- the first of those that aren't visited yet is, and the walk goes on
abbrev pub Visits : Nodes → Diagram → List Diagram → List ℕ → List Diagram → List ℕ → Type 0
Visits nodes v reached leaves new_reached new_leaves =
    (d : Diagram) (next : ℕ) → slice_get reached next ≡ Some v → IsReached nodes d reached leaves next → IsReached nodes d new_reached new_leaves (next + 1)

-- a bound on the visits that are left
abbrev pub visits : ℕ → ℕ
visits zero = 1
visits (suc n) = 3 * visits n

abbrev pub visits_left : ℕ → List Diagram → ℕ
visits_left n [] = 0
visits_left zero (d ∷ reached) = visits d.0 + visits_left zero reached
visits_left (suc n) (d ∷ reached) = visits_left n reached
