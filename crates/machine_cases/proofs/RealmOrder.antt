-- The cases of the realm compute.
use Rattle.std.proofs.Common.{refl}
use Rattle.std.specs.Fmt.{digits}
use Rattle.js_value.specs.Conversions.{to_text}
use Rattle.js_value.specs.Texts.{quoted_unit}
use Rattle.js_machine.specs.Machine.Realm.{realm, realm_names, realm_name}
use Rattle.machine_cases.specs.RealmOrder.{RealmOrder}

pub realm_order : RealmOrder
unfolding digits to_text quoted_unit realm realm_names realm_name
realm_order = record {
  owners_are = refl;
  functions_are = refl;
  global_is = refl;
  object_prototype_is = refl;
  object_is = refl;
  function_prototype_is = refl;
  function_is = refl;
  array_prototype_is = refl;
  array_is = refl;
  error_prototype_is = refl;
  error_is = refl;
  type_error_prototype_is = refl;
  type_error_is = refl;
  range_error_prototype_is = refl;
  range_error_is = refl;
  reference_error_prototype_is = refl;
  reference_error_is = refl;
  lengths_are = refl;
}
