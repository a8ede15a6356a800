-- The entries of a table from which a property was taken.
use Rattle.std.proofs.Common.{◌≡◌, ◌∷◌, [], ℕ, List, Bool, true, false, ap, refl, if◌then◌else◌}
use Rattle.js_value.specs.Conversions.{is_same_text}
use Rattle.plain_heap.specs.Heap.{Key, without}
use Rattle.heap_values.specs.declared.property.Property.{Property}
use Rattle.own_properties.specs.Defining.{entries, entry_of}

pub without-entries : (key : Key) (ps : List (List ℕ × Property)) → entries (without key ps) ≡ without key (entries ps)
without-entries key [] = refl
without-entries key (p ∷ ps) = by_first (is_same_text p.0 key) (without-entries key ps)
  where
    by_first : (same : Bool) → entries (without key ps) ≡ without key (entries ps) → entries (if same then ps else (p ∷ without key ps)) ≡ (if same then entries ps else (entry_of p ∷ without key (entries ps)))
    by_first true rest = refl
    by_first false rest = ap (λ others. entry_of p ∷ others) rest
