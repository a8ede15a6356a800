-- Each built-in is quiet, where the calls of values are.
use Rattle.std.proofs.Common.{ℕ, ◌-◌}
use Rattle.std.specs.Prelude.{nat_eq, nat_lt, Option, Some, None}
use Rattle.std.specs.Option.{option_and_then}
use Rattle.js_value.specs.declared.why.Why.TheVariants.{ClosedBuiltin}
use Rattle.js_machine.specs.Machine.RealmObjects.{function_prototype, error_base, error_prototype, TypeError, RangeError, ReferenceError}
use Rattle.js_machine.specs.Machine.ObjectBuiltins.{Rule}
use Rattle.js_machine.specs.Machine.Realm as R
use Rattle.js_machine.specs.Machine.Realm.{Owned}
use Rattle.closed_scripts.specs.Known.{Each, none, also}
use Rattle.closed_scripts.proofs.Quiet.{Given, nothing, just, left_at}
use Rattle.closed_scripts.proofs.Heaps.{got_each, given_by, mapped}
use Rattle.closed_scripts.proofs.Arrays as a
use Rattle.closed_scripts.proofs.Builtins as b
use Rattle.closed_scripts.proofs.Builtins.{RuleQuiet}

closed_too : RuleQuiet R.closed
unfolding R.closed
closed_too = record { at = λ at calls is values. left_at ClosedBuiltin at }

-- a rule, or none
record IfThere (rule : Option Rule) : Type 0 where
  quiet : Given RuleQuiet rule

no_rule : IfThere None
no_rule = record { quiet = nothing }

one : {rule : Rule} → RuleQuiet rule → IfThere (Some rule)
one is = record { quiet = just is }

constructors_too : Each IfThere R.constructors
constructors_too =
    also no_rule (also no_rule (also (one closed_too) (also no_rule (also (one closed_too) (also no_rule (also (one closed_too) (also no_rule (also (one (b.make_error_too error_base)) (also no_rule (also (one (b.make_error_too (error_prototype TypeError)))
    (also no_rule (also (one (b.make_error_too (error_prototype RangeError))) (also no_rule (also (one (b.make_error_too (error_prototype ReferenceError))) none))))))))))))))

record OwnedQuiet (f : Owned) : Type 0 where
  rule : RuleQuiet f.rule

functions_too : Each OwnedQuiet R.functions
functions_too =
    also (record { rule = b.has_own_property_too }) (also (record { rule = b.is_prototype_too }) (also (record { rule = b.property_is_enumerable_too }) (also (record { rule = b.create_too }) (also (record { rule = b.get_prototype_of_too })
    (also (record { rule = b.get_own_property_descriptor_too }) (also (record { rule = b.define_property_too }) (also (record { rule = b.keys_too }) (also (record { rule = b.prevent_extensions_too }) (also (record { rule = b.is_extensible_too })
    (also (record { rule = b.seal_too }) (also (record { rule = b.is_sealed_too }) (also (record { rule = b.freeze_too }) (also (record { rule = b.is_frozen_too }) (also (record { rule = b.call_too }) (also (record { rule = b.apply_too })
    (also (record { rule = a.concat_too }) (also (record { rule = a.join_too }) (also (record { rule = a.pop_too }) (also (record { rule = a.push_too }) (also (record { rule = a.slice_too }) (also (record { rule = a.index_of_too })
    (also (record { rule = a.for_each_too }) (also (record { rule = a.map_too }) (also (record { rule = a.filter_too }) (also (record { rule = a.is_array_too }) none)))))))))))))))))))))))))

pub constructor_rule_too : (n : ℕ) → Given RuleQuiet (R.constructor_rule n)
unfolding R.constructor_rule
constructor_rule_too n = by_item (got_each constructors_too n)
  where
    by_item : {r : Option (Option Rule)} → Given IfThere r → Given RuleQuiet (option_and_then (λ r. r) r)
    by_item nothing = nothing
    by_item (just is) = is.quiet

pub builtin_rule_too : (n : ℕ) → Given RuleQuiet (R.builtin_rule n)
unfolding R.builtin_rule
builtin_rule_too n = given_by (nat_eq n function_prototype) (just b.nothing_too)
    (given_by (nat_lt n R.count_of_owners) (constructor_rule_too n) (mapped (λ (f : Owned). f.rule) (λ f is. is.rule) (got_each functions_too (n - R.count_of_owners))))
