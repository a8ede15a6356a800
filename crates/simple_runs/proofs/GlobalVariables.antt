-- The global object with variables behind its own properties: reading, writing and declaring them.
use Rattle.std.proofs.Common.{◌≡◌, ℕ, Bool, true, false, List, [], ◌∷◌, ◌++◌, map, refl, ap, ◌∙◌, arith}
use Rattle.std.specs.Prelude.{if◌then◌else◌, not, Some, None, unwrap_or}
use Rattle.std.specs.List.{list_all}
use Rattle.std.specs.Option.{option_map}
use Rattle.std.specs.Str.{bytes_eq}
use Rattle.std.specs.Cmp.Lexicographic.{nat_list_eq_equiv}
use Rattle.std.proofs.lemmas.Bool.{and_parts, both_ways}
use Rattle.std.proofs.lemmas.Slice.Eq.{bytes_eq-Decides}
use Rattle.js_value.specs.Conversions.{is_same_text}
use Rattle.js_value.specs.declared.primitive.Primitive.{Primitive}
use Rattle.simple_scripts.specs.SimpleNames.{is_simple_name, is_taken}
use Rattle.plain_heap.specs.Heap.{Key, Property, Properties, ObjectState, data_property, object_at, lookup, put_at}
use Rattle.plain_heap.specs.Values.{Prim}
use Rattle.simple_runs.specs.Events as simple
use Rattle.js_machine.specs.Machine.RealmObjects.{global}
use Rattle.js_machine.specs.Machine.Realm.{realm}
use Rattle.simple_runs.specs.SimpleRuns.{variable}

flip_same : (a b : List ℕ) → is_same_text a b ≡ bytes_eq b a
flip_same a b = nat_list_eq_equiv.symm a b

-- the property that a variable's value is
abbrev pub of_value : Primitive → Property
of_value p = data_property (Prim p) true true false

pub lookup_variables : (name : List ℕ) (vs : simple.Heap) → lookup name (map variable vs) ≡ option_map of_value (simple.lookup name vs)
lookup_variables name [] = refl
lookup_variables name (v ∷ vs) = rw (flip_same v.0 name) (by_same (bytes_eq name v.0) (lookup_variables name vs))
  where
    by_same : (b : Bool) → lookup name (map variable vs) ≡ option_map of_value (simple.lookup name vs) → (if b then Some (of_value v.1) else lookup name (map variable vs)) ≡ option_map of_value (if b then Some v.1 else simple.lookup name vs)
    by_same true rest = refl
    by_same false rest = rest

pub put_variables : (name : List ℕ) (p : Primitive) (vs : simple.Heap) → put_at name (of_value p) (map variable vs) ≡ map variable (simple.put name p vs)
put_variables name p [] = refl
put_variables name p (v ∷ vs) = rw (flip_same v.0 name) (by_same (bytes_eq name v.0) (put_variables name p vs))
  where
    by_same : (b : Bool) → put_at name (of_value p) (map variable vs) ≡ map variable (simple.put name p vs) → (if b then (v.0, of_value p) ∷ map variable vs else (variable v ∷ put_at name (of_value p) (map variable vs))) ≡ map variable (if b then (v.0, p) ∷ vs else (v ∷ simple.put name p vs))
    by_same true rest = refl
    by_same false rest = ap (λ ps. variable v ∷ ps) rest

-- ---- behind properties of other keys

module _ {A : Type 0} where
  pub lookup_behind : (key : Key) (own ps : List (Key × A)) → lookup key own ≡ None → lookup key (own ++ ps) ≡ lookup key ps
  lookup_behind key [] ps none = refl
  lookup_behind key (p ∷ own) ps none = by_same (is_same_text p.0 key) (lookup_behind key own ps) none
    where
      by_same : (b : Bool) → (lookup key own ≡ None → lookup key (own ++ ps) ≡ lookup key ps) → (if b then Some p.1 else lookup key own) ≡ None → (if b then Some p.1 else lookup key (own ++ ps)) ≡ lookup key ps
      by_same true rest none = grind (arith, none)
      by_same false rest none = rest none

  pub put_behind : (key : Key) (a : A) (own ps : List (Key × A)) → lookup key own ≡ None → put_at key a (own ++ ps) ≡ own ++ put_at key a ps
  put_behind key a [] ps none = refl
  put_behind key a (p ∷ own) ps none = by_same (is_same_text p.0 key) (put_behind key a own ps) none
    where
      by_same : (b : Bool) → (lookup key own ≡ None → put_at key a (own ++ ps) ≡ own ++ put_at key a ps) → (if b then Some p.1 else lookup key own) ≡ None → (if b then (p.0, a) ∷ (own ++ ps) else (p ∷ put_at key a (own ++ ps))) ≡ p ∷ (own ++ put_at key a ps)
      by_same true rest none = grind (arith, none)
      by_same false rest none = ap (λ qs. p ∷ qs) (rest none)

-- ---- the realm's global object

abbrev pub global_own : Properties
global_own = unwrap_or (option_map (λ (state : ObjectState). state.properties) (object_at realm global)) []

abbrev are_taken : Properties → Bool
are_taken own = list_all (λ (p : Key × Property). is_taken p.0) own

own_taken : are_taken global_own ≡ true
unfolding realm
own_taken = refl

pub not_taken : (name : List ℕ) → is_simple_name name ≡ true → is_taken name ≡ false
unfolding is_simple_name
not_taken name is = by_taken (is_taken name) (and_parts _ (not (is_taken name)) is).1
  where
    by_taken : (b : Bool) → not b ≡ true → b ≡ false
    by_taken true h = cc
    by_taken false h = refl

none_own : (name : List ℕ) (own : Properties) → are_taken own ≡ true → is_taken name ≡ false → lookup name own ≡ None
none_own name [] taken free = refl
none_own name (p ∷ own) taken free = by_same (is_same_text p.0 name) refl (λ taken. none_own name own taken free)
  where
    parts : (is_taken p.0 ≡ true) × (are_taken own ≡ true)
    parts = and_parts (is_taken p.0) (are_taken own) taken

    by_same : (b : Bool) → is_same_text p.0 name ≡ b → (are_taken own ≡ true → lookup name own ≡ None) → (if b then Some p.1 else lookup name own) ≡ None
    by_same true same rest = absurd (both_ways _ (ap is_taken ((bytes_eq-Decides p.0 name).0 same) ∙ free) parts.0)
    by_same false other rest = rest parts.1

pub no_own : (name : List ℕ) → is_simple_name name ≡ true → lookup name global_own ≡ None
no_own name is = none_own name global_own own_taken (not_taken name is)
