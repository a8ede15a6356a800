-- Variables that the residual of a simple script declares.
use Rattle.std.specs.Prelude.{ℕ, Bool, true, false, ◌&&◌, List}
use Rattle.std.specs.List.{list_all}
use Rattle.js_value.specs.Numbers.{is_safe}
use Rattle.js_value.specs.declared.primitive.Primitive.{Primitive}
use Rattle.js_value.specs.declared.primitive.Primitive.TheVariants as primitive
use Rattle.simple_scripts.specs.SimpleNames.{is_simple_name}

-- undefined, or a number of the profile
abbrev pub is_plain_value : Primitive → Bool
is_plain_value primitive.Undefined = true
is_plain_value (primitive.Number n) = is_safe n
is_plain_value _ = false

-- a simple name with such a value
abbrev pub is_plain_variable : List ℕ × Primitive → Bool
is_plain_variable v = is_simple_name v.0 && is_plain_value v.1

abbrev pub are_plain_variables : List (List ℕ × Primitive) → Bool
are_plain_variables vs = list_all is_plain_variable vs
