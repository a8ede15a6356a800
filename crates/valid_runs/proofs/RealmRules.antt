-- Each built-in is sound, where the calls of values are.
use Rattle.std.proofs.Common.{ℕ, ◌-◌, zero, suc, Bool, true, false, cond, List, arith}
use Rattle.std.specs.Prelude.{nat_eq, nat_lt, slice_get, Option, Some, None}
use Rattle.std.specs.Option.{option_and_then, option_map}
use Rattle.js_value.specs.declared.why.Why.TheVariants.{ClosedBuiltin}
use Rattle.js_machine.specs.Machine.RealmObjects.{function_prototype, error_base, error_prototype, TypeError, RangeError, ReferenceError}
use Rattle.js_machine.specs.Machine.ObjectBuiltins.{Rule}
use Rattle.js_machine.specs.Machine.Realm as R
use Rattle.js_machine.specs.Machine.Realm.{Owned}
use Rattle.js_machine.specs.Machine.Events.{Leaves}
use Rattle.valid_runs.proofs.Growing.{Each, none, also, Given, nothing, just}
use Rattle.valid_runs.proofs.Sound.{left_at}
use Rattle.valid_runs.proofs.Arrays as a
use Rattle.valid_runs.proofs.Builtins as b
use Rattle.valid_runs.proofs.Builtins.{RuleSound}

closed_too : RuleSound R.closed
unfolding R.closed
closed_too = record { at = λ at calls is values. left_at (Leaves ClosedBuiltin) at }

-- a rule, or none
record IfThere (rule : Option Rule) : Type 0 where
  sound : Given RuleSound rule

no_rule : IfThere None
no_rule = record { sound = nothing }

one : {rule : Rule} → RuleSound rule → IfThere (Some rule)
one is = record { sound = just is }

constructors_too : Each IfThere R.constructors
constructors_too =
    also no_rule (also no_rule (also (one closed_too) (also no_rule (also (one closed_too) (also no_rule (also (one closed_too) (also no_rule (also (one (b.make_error_too error_base (omega arith))) (also no_rule
    (also (one (b.make_error_too (error_prototype TypeError) (omega arith))) (also no_rule (also (one (b.make_error_too (error_prototype RangeError) (omega arith))) (also no_rule
    (also (one (b.make_error_too (error_prototype ReferenceError) (omega arith))) none))))))))))))))

record OwnedSound (f : Owned) : Type 0 where
  rule : RuleSound f.rule

functions_too : Each OwnedSound R.functions
functions_too =
    also (record { rule = b.has_own_property_too }) (also (record { rule = b.is_prototype_too }) (also (record { rule = b.property_is_enumerable_too }) (also (record { rule = b.create_too }) (also (record { rule = b.get_prototype_of_too })
    (also (record { rule = b.get_own_property_descriptor_too }) (also (record { rule = b.define_property_too }) (also (record { rule = b.keys_too }) (also (record { rule = b.prevent_extensions_too }) (also (record { rule = b.is_extensible_too })
    (also (record { rule = b.seal_too }) (also (record { rule = b.is_sealed_too }) (also (record { rule = b.freeze_too }) (also (record { rule = b.is_frozen_too }) (also (record { rule = b.call_too }) (also (record { rule = b.apply_too })
    (also (record { rule = a.concat_too }) (also (record { rule = a.join_too }) (also (record { rule = a.pop_too }) (also (record { rule = a.push_too }) (also (record { rule = a.slice_too }) (also (record { rule = a.index_of_too })
    (also (record { rule = a.for_each_too }) (also (record { rule = a.map_too }) (also (record { rule = a.filter_too }) (also (record { rule = a.is_array_too }) none)))))))))))))))))))))))))

got_each : {A : Type 0} {Is : A → Type 0} {xs : List A} → Each Is xs → (n : ℕ) → Given Is (slice_get xs n)
got_each none n = nothing
got_each (also is all) zero = just is
got_each (also is all) (suc n) = got_each all n

given_by : {A : Type 0} {Is : A → Type 0} (b : Bool) {x y : Option A} → Given Is x → Given Is y → Given Is (cond b x y)
given_by true h l = h
given_by false h l = l

owned_too : {f : Option Owned} → Given OwnedSound f → Given RuleSound (option_map (λ (f : Owned). f.rule) f)
owned_too nothing = nothing
owned_too (just is) = just is.rule

pub constructor_rule_too : (n : ℕ) → Given RuleSound (R.constructor_rule n)
unfolding R.constructor_rule
constructor_rule_too n = by_item (got_each constructors_too n)
  where
    by_item : {r : Option (Option Rule)} → Given IfThere r → Given RuleSound (option_and_then (λ r. r) r)
    by_item nothing = nothing
    by_item (just is) = is.sound

pub builtin_rule_too : (n : ℕ) → Given RuleSound (R.builtin_rule n)
unfolding R.builtin_rule
builtin_rule_too n = given_by (nat_eq n function_prototype) (just b.nothing_too) (given_by (nat_lt n R.count_of_owners) (constructor_rule_too n) (owned_too (got_each functions_too (n - R.count_of_owners))))
