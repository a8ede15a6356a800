-- Chains of prototypes (15.2.4.6) and the names of `for`-`in` (12.6.4) in two heaps that correspond.
use Rattle.std.proofs.Common.{◌≡◌, refl, ap, ◌∙◌, ℕ, zero, suc, Bool, true, false, cond, List, [], ◌∷◌, ◌++◌}
use Rattle.std.specs.Prelude.{◌&&◌, not, unwrap_or, Option, Some}
use Rattle.std.specs.Option.{option_map}
use Rattle.plain_heap.specs.Values.{ObjNo}
use Rattle.plain_heap.specs.Heap.{Heap, Key, Property, Properties, ObjectState, is_array_class, is_enumerable, depth_at}
use Rattle.js_machine.specs.Machine.Objects as O
use Rattle.js_machine.specs.Machine.Statements as S
use Rattle.related_states.specs.Related.{Correspondence, BothOption, nothing, just, BothEach, none, also, SameEntry, entry, SameState, same_state, SameHeaps}
use Rattle.related_states.proofs.Properties.{enumerable_both}
use Rattle.related_states.proofs.Heaps.{then_option, prototype_both, depth_same}

module _ (x : Correspondence) where
  -- ---- chains of prototypes and enumeration

  pub prototype_of_both : (h g : Heap) → SameHeaps x h g → {o q : ObjNo} → x.Objects o q → BothOption x.Objects (O.prototype_of h o) (O.prototype_of g q)
  prototype_of_both h g same r = then_option x.Objects (λ s t st. prototype_both x st) (same.objects _ _ r)

  among_same : (n : ℕ) (h g : Heap) → SameHeaps x h g → {o q : ObjNo} → x.Objects o q → {p r : Option ObjNo} → BothOption x.Objects p r → O.is_among_next n h o p ≡ O.is_among_next n g q r
  among_same zero h g same r p = refl
  among_same (suc n) h g same r nothing = refl
  among_same (suc n) h g same r (just p) = rw (x.one_object _ _ _ _ p r, among_same n h g same r (prototype_of_both h g same p)) refl

  pub prototype_same : (h g : Heap) → SameHeaps x h g → {o q p r : ObjNo} → x.Objects o q → x.Objects p r → O.is_prototype_of o p h ≡ O.is_prototype_of q r g
  unfolding O.is_prototype_of
  prototype_same h g same {q = q} {p = p} {r = r} s t = among_same (depth_at h (Some p)) h g same s (prototype_of_both h g same t) ∙ ap (λ n. O.is_among_next n g q (O.prototype_of g r)) (depth_same x h g same (just t))

  one_name : (k : Key) (p q : Property) (ps qs : Properties) (t : Bool) → S.keys_of ps ≡ S.keys_of qs → S.keys_of (cond t ((k, p) ∷ ps) ps) ≡ S.keys_of (cond t ((k, q) ∷ qs) qs)
  one_name k p q ps qs true e = ap (λ ks. k ∷ ks) e
  one_name k p q ps qs false e = e

  own_names_same : (array : Bool) (seen : List Key) {ps qs : Properties} → BothEach (SameEntry x array) ps qs → S.own_names seen ps ≡ S.own_names seen qs
  own_names_same array seen none = refl
  own_names_same array seen (also (entry k {p = p} {q = q} h n) all) = rw (enumerable_both x h) (one_name k p q _ _ (is_enumerable q && not (S.is_among seen k)) (own_names_same array seen all))

  keys_same : (array : Bool) {ps qs : Properties} → BothEach (SameEntry x array) ps qs → S.keys_of ps ≡ S.keys_of qs
  keys_same array none = refl
  keys_same array (also (entry k h n) all) = ap (λ ks. k ∷ ks) (keys_same array all)

  names_same : (n : ℕ) (h g : Heap) → SameHeaps x h g → (seen : List Key) {o q : Option ObjNo} → BothOption x.Objects o q → S.names_along n h seen o ≡ S.names_along n g seen q
  names_same zero h g same seen r = refl
  names_same (suc n) h g same seen nothing = refl
  names_same (suc n) h g same seen (just r) = by_state (same.objects _ _ r) (λ seen o q p. names_same n h g same seen p)
    where
      by_state : {a b : Option ObjectState} → BothOption (SameState x) a b → ((seen : List Key) (o q : Option ObjNo) → BothOption x.Objects o q → S.names_along n h seen o ≡ S.names_along n g seen q)
          → unwrap_or (option_map (λ (state : ObjectState). S.own_names seen state.properties ++ S.names_along n h (seen ++ S.keys_of state.properties) state.prototype) a) []
          ≡ unwrap_or (option_map (λ (state : ObjectState). S.own_names seen state.properties ++ S.names_along n g (seen ++ S.keys_of state.properties) state.prototype) b) []
      by_state nothing rest = refl
      by_state (just (same_state {c = class} {qs = qs} c p dp e ps)) rest = rw (own_names_same (is_array_class class) seen ps, keys_same (is_array_class class) ps, rest (seen ++ S.keys_of qs) _ _ p) refl

  pub enumerated_same : (h g : Heap) → SameHeaps x h g → {o q : ObjNo} → x.Objects o q → S.enumerated o h ≡ S.enumerated q g
  unfolding S.enumerated
  enumerated_same h g same {o = o} {q = q} r = names_same (depth_at h (Some o)) h g same [] (just r) ∙ ap (λ n. S.names_along n g [] (Some q)) (depth_same x h g same (just r))
