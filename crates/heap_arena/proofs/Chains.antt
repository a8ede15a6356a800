-- Properties along a chain of prototypes.
use Rattle.std.proofs.Common.{◌≡◌, ℕ, zero, suc, Some, None, ap, refl}
use Rattle.plain_heap.specs.Heap.{Heap, Key, ObjectState, Property, object_at, depth_of}
use Rattle.plain_heap.specs.Methods.{get_property, own_property, property_along}

module _ (h : Heap) (key : Key) where
  pub nothing : None ≡ get_property h key None
  unfolding get_property
  nothing = refl

  pub none_there : (o : ℕ) → object_at h o ≡ None → None ≡ get_property h key (Some o)
  unfolding get_property
  none_there o none = rw none refl

  pub begins : (o : ℕ) (state : ObjectState) → object_at h o ≡ Some state → get_property h key (Some o) ≡ property_along (suc state.depth) h key (Some o)
  unfolding get_property
  begins o state there = ap (λ n. property_along n h key (Some o)) (ap depth_of there)

  pub found_there : (n o : ℕ) (state : ObjectState) (p : Property) → object_at h o ≡ Some state → own_property key state ≡ Some p → property_along (suc n) h key (Some o) ≡ Some (o, p)
  found_there n o state p there own = rw (there, own) refl

  pub goes_on : (n o : ℕ) (state : ObjectState) → object_at h o ≡ Some state → own_property key state ≡ None → property_along (suc n) h key (Some o) ≡ property_along n h key state.prototype
  goes_on n o state there own = rw (there, own) refl

  pub ends_past : (n o : ℕ) → object_at h o ≡ None → property_along (suc n) h key (Some o) ≡ None
  ends_past n o none = rw none refl

  pub ends : (n : ℕ) → property_along n h key None ≡ None
  ends zero = refl
  ends (suc n) = refl
