-- What the rules for names come to where code has declared variables: resolving, reading, writing and declaring them.
use Rattle.std.proofs.Common.{◌≡◌, ℕ, Bool, true, false, List, [], ◌∷◌, ◌++◌, map, refl, ap, ◌∙◌}
use Rattle.std.specs.Prelude.{codes, Option, Some, None}
use Rattle.std.specs.Option.{option_map}
use Rattle.std.proofs.lemmas.Bool.{both_ways}
use Rattle.std.proofs.lemmas.Slice.Eq.{bytes_eq-Decides}
use Rattle.js_value.specs.Conversions.{is_same_text}
use Rattle.js_value.specs.declared.primitive.Primitive.{Primitive}
use Rattle.js_value.specs.declared.primitive.Primitive.TheVariants as primitive
use Rattle.simple_scripts.specs.SimpleNames.{is_simple_name, is_taken}
use Rattle.plain_heap.specs.Heap.{Heap, Properties, ObjectState, Plain, lookup, put_at}
use Rattle.plain_heap.specs.Heap as H
use Rattle.plain_heap.specs.Methods as M
use Rattle.plain_heap.specs.Values.{Value, Prim, ObjNo}
use Rattle.simple_runs.specs.Events as simple
use Rattle.js_machine.specs.Machine.Functions.{bind_global_var}
use Rattle.js_machine.specs.Machine.References.{Reference, NameReference, OnGlobal, global_context, resolve_name, get_value, put_value}
use Rattle.js_machine.specs.Machine.RealmObjects.{global}
use Rattle.js_machine.specs.Machine.Objects as CC
use Rattle.js_machine.specs.Machine.Objects.{Site}
use Rattle.js_machine.specs.Machine.Events.{Tree}
use Rattle.simple_runs.specs.SimpleRuns.{variable}
use Rattle.simple_runs.proofs.GlobalVariables.{of_value, lookup_variables, put_variables, lookup_behind, put_behind, not_taken}

proto_taken : is_taken (codes "__proto__") ≡ true
proto_taken = refl

-- no simple name is `__proto__`
plain_key : (name : List ℕ) → is_simple_name name ≡ true → is_same_text name (codes "__proto__") ≡ false
plain_key name is = by_same (is_same_text name (codes "__proto__")) refl
  where
    by_same : (b : Bool) → is_same_text name (codes "__proto__") ≡ b → b ≡ false
    by_same true same = absurd (both_ways _ (not_taken name is) (ap is_taken ((bytes_eq-Decides name (codes "__proto__")).0 same) ∙ proto_taken))
    by_same false other = refl

module _ (own : Properties) (prototype : Option ObjNo) (rest : List ObjectState) where
  abbrev pub object_with : simple.Heap → ObjectState
  object_with vs = record { class = Plain; prototype = prototype; depth = 1; extensible = true; properties = own ++ map variable vs }

  abbrev pub heap_with : simple.Heap → Heap
  heap_with vs = record { objects = object_with vs ∷ rest; cells = [] }

  module _ (free : (name : List ℕ) → is_simple_name name ≡ true → lookup name own ≡ None) where
    looked_up : (name : List ℕ) (vs : simple.Heap) → is_simple_name name ≡ true → lookup name (own ++ map variable vs) ≡ option_map of_value (simple.lookup name vs)
    looked_up name vs is = lookup_behind name own (map variable vs) (free name is) ∙ lookup_variables name vs

    put_there : (name : List ℕ) (q : Primitive) (vs : simple.Heap) → is_simple_name name ≡ true → put_at name (of_value q) (own ++ map variable vs) ≡ own ++ map variable (simple.put name q vs)
    put_there name q vs is = put_behind name (of_value q) own (map variable vs) (free name is) ∙ ap (λ ps. own ++ ps) (put_variables name q vs)

    pub got_value : (name : List ℕ) → is_simple_name name ≡ true → (vs : simple.Heap) (p : Primitive) → simple.lookup name vs ≡ Some p → M.get (heap_with vs) global name ≡ M.GotValue (Prim p)
    unfolding M.get M.get_property
    got_value name is vs p bound = rw (looked_up name vs is, bound) refl

    module _ (site : Site) (name : List ℕ) (is : is_simple_name name ≡ true) (vs : simple.Heap) where
      pub resolved : (p : Primitive) → simple.lookup name vs ≡ Some p → (k : Reference → Heap → Tree) (r : Value → Heap → Tree)
          → resolve_name site (global_context false) name (heap_with vs) k r ≡ k (NameReference name OnGlobal false) (heap_with vs)
      unfolding resolve_name H.resolve CC.has_property M.has_property M.get_property
      resolved p bound k r = rw (plain_key name is, looked_up name vs is, bound) refl

      pub read : (p : Primitive) → simple.lookup name vs ≡ Some p → (k r : Value → Heap → Tree)
          → get_value site (NameReference name OnGlobal false) (heap_with vs) k r ≡ k (Prim p) (heap_with vs)
      unfolding get_value CC.get M.get M.get_property
      read p bound k r = rw (plain_key name is, looked_up name vs is, bound) refl

      pub written : (p q : Primitive) → simple.lookup name vs ≡ Some p → (k : Unit {0} → Heap → Tree) (r : Value → Heap → Tree)
          → put_value site (NameReference name OnGlobal false) (Prim q) (heap_with vs) k r ≡ k tt (heap_with (simple.put name q vs))
      unfolding put_value CC.put M.put M.can_put CC.define M.define M.define_plain
      written p q bound k r = rw (plain_key name is, looked_up name vs is, bound) (rw (plain_key name is, looked_up name vs is, bound, put_there name q vs is) refl)

      pub declared : (o : Option Primitive) → simple.lookup name vs ≡ o → (k : Unit {0} → Heap → Tree) (r : Value → Heap → Tree)
          → bind_global_var site name (heap_with vs) k r ≡ k tt (heap_with (simple.declare name vs))
      unfolding CC.get_own_property CC.define M.define M.define_plain
      declared (Some p) bound k r = rw (plain_key name is, looked_up name vs is, bound) refl
      declared None bound k r = rw (plain_key name is, looked_up name vs is, bound) (rw (plain_key name is, looked_up name vs is, bound, put_there name primitive.Undefined vs is) refl)
