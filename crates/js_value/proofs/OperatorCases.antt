-- The cases of conversions and operators compute.
use Rattle.std.proofs.Common.{refl}
use Rattle.std.specs.Fmt.{digits}
use Rattle.js_value.specs.Conversions.{to_boolean, to_number, number_of_text, to_integer, to_uint32, to_text, is_same_value}
use Rattle.js_value.specs.OperatorCases.{OperatorCases}
use Rattle.js_value.specs.Operators.{binary_row, unary_row, add, loosely_equal, type_of}

pub operator_cases : OperatorCases
unfolding digits to_boolean to_number number_of_text to_integer to_uint32 to_text is_same_value binary_row unary_row add loosely_equal type_of
operator_cases = record { to_boolean_is = refl; to_number_is = refl; to_integer_is = refl; to_uint32_is = refl; to_text_is = refl; same_value_is = refl; multiplicative = refl; additive = refl; shift = refl; bitwise = refl; relational = refl; equality = refl; no_row = refl; unary = refl; no_delete = refl }
