-- Each built-in does alike, where the calls of values do.
use Rattle.std.proofs.Common.{ℕ, zero, suc, ◌-◌, Bool, true, false, cond, List, [], ◌∷◌}
use Rattle.std.specs.Prelude.{nat_eq, nat_lt, slice_get, Option, Some, None}
use Rattle.std.specs.Option.{option_and_then, option_map}
use Rattle.js_value.specs.declared.why.Why.TheVariants.{ClosedBuiltin}
use Rattle.js_machine.specs.Machine.RealmObjects.{function_prototype, error_base, error_prototype, TypeError, RangeError, ReferenceError}
use Rattle.js_machine.specs.Machine.ObjectBuiltins as object
use Rattle.js_machine.specs.Machine.ObjectBuiltins.{Rule}
use Rattle.js_machine.specs.Machine.Realm as R
use Rattle.js_machine.specs.Machine.Realm.{Owned}
use Rattle.machine_laws.proofs.Alike.{TreeRelation, left_at}
use Rattle.machine_laws.proofs.AlikeArrays as a
use Rattle.machine_laws.proofs.AlikeBuiltins as b
use Rattle.machine_laws.proofs.AlikeBuiltins.{RuleAlike}

infixr 20 ◌also◌
-- of each item in turn
data Each {A : Type 0} (P : A → Type 0) : List A → Type 0 where
  none : Each P []
  ◌also◌ : {x : A} {xs : List A} → P x → Each P xs → Each P (x ∷ xs)

module _ (w : TreeRelation) where
  -- a rule does alike, if there is one
  abbrev pub IfThere : Option Rule → Type 0
  IfThere None = Unit {0}
  IfThere (Some rule) = RuleAlike w rule

  closed_too : RuleAlike w R.closed
  unfolding R.closed
  closed_too = record { at = λ at calls this arguments. left_at w ClosedBuiltin at }

  constructors_too : Each IfThere R.constructors
  constructors_too =
      tt also tt also closed_too also tt also closed_too also tt also closed_too also tt also b.make_error_too w error_base also tt also b.make_error_too w (error_prototype TypeError) also tt also b.make_error_too w (error_prototype RangeError) also tt also b.make_error_too w (error_prototype ReferenceError) also none

  functions_too : Each (λ (f : Owned). RuleAlike w f.rule) R.functions
  functions_too = b.has_own_property_too w also b.is_prototype_too w also b.property_is_enumerable_too w also b.create_too w also b.get_prototype_of_too w also b.get_own_property_descriptor_too w
      also b.define_property_too w also b.keys_too w also b.prevent_extensions_too w also b.is_extensible_too w also b.seal_too w also b.is_sealed_too w also b.freeze_too w also b.is_frozen_too w
      also b.call_too w also b.apply_too w also a.concat_too w also a.join_too w also a.pop_too w also a.push_too w also a.slice_too w also a.index_of_too w also a.for_each_too w also a.map_too w
      also a.filter_too w also a.is_array_too w also none

  constructor_at : (rules : List (Option Rule)) (n : ℕ) → Each IfThere rules → IfThere (option_and_then (λ r. r) (slice_get rules n))
  constructor_at [] n none = tt
  constructor_at (r ∷ rules) zero (h also all) = h
  constructor_at (r ∷ rules) (suc n) (h also all) = constructor_at rules n all

  function_at : (fs : List Owned) (n : ℕ) → Each (λ (f : Owned). RuleAlike w f.rule) fs → IfThere (option_map (λ (f : Owned). f.rule) (slice_get fs n))
  function_at [] n none = tt
  function_at (f ∷ fs) zero (h also all) = h
  function_at (f ∷ fs) (suc n) (h also all) = function_at fs n all

  either : (c : Bool) (r q : Option Rule) → IfThere r → IfThere q → IfThere (cond c r q)
  either true r q h l = h
  either false r q h l = l

  pub constructor_rule_too : (n : ℕ) → IfThere (R.constructor_rule n)
  unfolding R.constructor_rule
  constructor_rule_too n = constructor_at R.constructors n constructors_too

  pub builtin_rule_too : (n : ℕ) → IfThere (R.builtin_rule n)
  unfolding R.builtin_rule
  builtin_rule_too n = either (nat_eq n function_prototype) (Some object.nothing) (cond (nat_lt n R.count_of_owners) (R.constructor_rule n) (R.owned_rule n)) (b.nothing_too w)
      (either (nat_lt n R.count_of_owners) (R.constructor_rule n) (R.owned_rule n) (constructor_rule_too n) (function_at R.functions (n - R.count_of_owners) functions_too))
