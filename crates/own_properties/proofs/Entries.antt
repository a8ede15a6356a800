-- The properties of a table as the definitions see them.
use Rattle.std.proofs.Common.{◌≡◌, refl, ap, Bool, true, false, List, [], ◌∷◌}
use Rattle.std.specs.Option.{option_map}
use Rattle.js_value.specs.Conversions.{is_same_text}
use Rattle.plain_heap.specs.Heap.{Key, lookup, put_at}
use Rattle.heap_values.specs.Meaning.{property_of}
use Rattle.heap_values.specs.declared.property.Property.{Property}
use Rattle.own_properties.specs.Defining.{entries}

pub looked_up : (key : Key) (table : List (Key × Property)) → lookup key (entries table) ≡ option_map property_of (lookup key table)
looked_up key [] = refl
looked_up key (p ∷ ps) = by (is_same_text p.0 key) refl (looked_up key ps)
  where
    by : (same : Bool) → is_same_text p.0 key ≡ same → lookup key (entries ps) ≡ option_map property_of (lookup key ps) → lookup key (entries (p ∷ ps)) ≡ option_map property_of (lookup key (p ∷ ps))
    by true h rest = rw h refl
    by false h rest = rw h rest

pub put_in : (key : Key) (v : Property) (table : List (Key × Property)) → put_at key (property_of v) (entries table) ≡ entries (put_at key v table)
put_in key v [] = refl
put_in key v (p ∷ ps) = by (is_same_text p.0 key) refl (put_in key v ps)
  where
    by : (same : Bool) → is_same_text p.0 key ≡ same → put_at key (property_of v) (entries ps) ≡ entries (put_at key v ps) → put_at key (property_of v) (entries (p ∷ ps)) ≡ entries (put_at key v (p ∷ ps))
    by true h rest = rw h refl
    by false h rest = rw h (ap (λ l. (p.0, property_of p.1) ∷ l) rest)
