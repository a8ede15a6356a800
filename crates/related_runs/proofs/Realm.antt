-- Each built-in in two runs that go together, where the calls of values do.
use Rattle.std.proofs.Common.{refl, ℕ, zero, suc, ◌-◌, Bool, true, false, cond, List, [], ◌∷◌}
use Rattle.std.specs.Prelude.{nat_eq, nat_lt, slice_get, Option, Some, None}
use Rattle.std.specs.Option.{option_and_then, option_map}
use Rattle.js_value.specs.declared.why.Why.TheVariants.{ClosedBuiltin}
use Rattle.js_machine.specs.Machine.RealmObjects.{function_prototype}
use Rattle.js_machine.specs.Machine.ObjectBuiltins as object
use Rattle.js_machine.specs.Machine.ObjectBuiltins.{Rule}
use Rattle.js_machine.specs.Machine.Realm as R
use Rattle.js_machine.specs.Machine.Realm.{Owned}
use Rattle.related_states.specs.Related.{Correspondence}
use Rattle.related_runs.proofs.Related.{TreeRelation, left_at}
use Rattle.related_runs.proofs.Operators.{Meanings}
use Rattle.related_runs.proofs.Arrays as a
use Rattle.related_runs.proofs.Arrays.{RuleTogether}
use Rattle.related_runs.proofs.Builtins as b

infixr 20 ◌also◌
-- of each item in turn
data Each {A : Type 0} (P : A → Type 0) : List A → Type 0 where
  none : Each P []
  ◌also◌ : {x : A} {xs : List A} → P x → Each P xs → Each P (x ∷ xs)

module _ {x : Correspondence} (w : TreeRelation x) (m : Meanings x) where
  -- a rule does alike, if there is one
  abbrev pub IfThere : Option Rule → Type 0
  IfThere None = Unit {0}
  IfThere (Some rule) = RuleTogether w rule

  closed_both : RuleTogether w R.closed
  unfolding R.closed
  closed_both = record { at = λ at place calls this all. left_at w ClosedBuiltin at place }

  constructors_both : Each IfThere R.constructors
  constructors_both =
      tt also tt also closed_both also tt also closed_both also tt also closed_both also tt also b.make_error_both w m 7 (x.realm 7 refl) also tt also b.make_error_both w m 9 (x.realm 9 refl) also tt also b.make_error_both w m 11 (x.realm 11 refl) also tt also b.make_error_both w m 13 (x.realm 13 refl) also none

  functions_both : Each (λ (f : Owned). RuleTogether w f.rule) R.functions
  functions_both = b.has_own_property_both w m also b.is_prototype_both w m also b.property_is_enumerable_both w m also b.create_both w m also b.get_prototype_of_both w m also b.get_own_property_descriptor_both w m
      also b.define_property_both w m also b.keys_both w m also b.prevent_extensions_both w m also b.is_extensible_both w m also b.seal_both w m also b.is_sealed_both w m also b.freeze_both w m also b.is_frozen_both w m
      also b.call_both w m also b.apply_both w m also a.concat_both w m also a.join_both w m also a.pop_both w m also a.push_both w m also a.slice_both w m also a.index_of_both w m also a.for_each_both w m also a.map_both w m
      also a.filter_both w m also a.is_array_both w m also none

  constructor_at : (rules : List (Option Rule)) (n : ℕ) → Each IfThere rules → IfThere (option_and_then (λ r. r) (slice_get rules n))
  constructor_at [] n none = tt
  constructor_at (r ∷ rules) zero (h also all) = h
  constructor_at (r ∷ rules) (suc n) (h also all) = constructor_at rules n all

  function_at : (fs : List Owned) (n : ℕ) → Each (λ (f : Owned). RuleTogether w f.rule) fs → IfThere (option_map (λ (f : Owned). f.rule) (slice_get fs n))
  function_at [] n none = tt
  function_at (f ∷ fs) zero (h also all) = h
  function_at (f ∷ fs) (suc n) (h also all) = function_at fs n all

  either : (c : Bool) (r q : Option Rule) → IfThere r → IfThere q → IfThere (cond c r q)
  either true r q h l = h
  either false r q h l = l

  pub constructor_rule_both : (n : ℕ) → IfThere (R.constructor_rule n)
  unfolding R.constructor_rule
  constructor_rule_both n = constructor_at R.constructors n constructors_both

  pub builtin_rule_both : (n : ℕ) → IfThere (R.builtin_rule n)
  unfolding R.builtin_rule
  builtin_rule_both n = either (nat_eq n function_prototype) (Some object.nothing) (cond (nat_lt n R.count_of_owners) (R.constructor_rule n) (R.owned_rule n)) (b.nothing_both w m)
      (either (nat_lt n R.count_of_owners) (R.constructor_rule n) (R.owned_rule n) (constructor_rule_both n) (function_at R.functions (n - R.count_of_owners) functions_both))
