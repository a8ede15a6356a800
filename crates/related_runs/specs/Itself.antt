-- What is the same in two codes, where the names around it are bound under the same names.
use Rattle.std.specs.Prelude.{◌≡◌, ℕ, List, [], ◌∷◌}
use Rattle.related_states.specs.Related.{Names}

-- each name with itself
pub data Diagonal : Names → Type 0 where
  no_more : Diagonal []
  one_more : {ns : Names} (n : List ℕ) → Diagonal ns → Diagonal ((n, n) ∷ ns)

pub record Itself {A : Type 0} (ns : Names) (a b : A) : Type 0 where
  pub names : Diagonal ns
  pub same : a ≡ b
