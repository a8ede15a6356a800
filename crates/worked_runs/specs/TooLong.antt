-- The addition of two texts that are too long together (11.6.1).
use Rattle.std.specs.Prelude.{◌≡◌, ◌++◌, ℕ, false, nat_le, List, length, Option, Some, Err}
use Rattle.std.specs.Option.{option_map}
use Rattle.js_value.specs.Operators.{Entry, binary_row, greatest_length}
use Rattle.js_value.specs.declared.operator.BinaryOp.TheVariants as binary
use Rattle.js_value.specs.declared.primitive.Primitive.{Primitive}
use Rattle.js_value.specs.declared.primitive.Primitive.TheVariants.{Text}
use Rattle.js_value.specs.declared.why.Why.TheVariants.{TextLength}

-- what an addition gives
abbrev pub sum : Primitive → Primitive → Option Entry
sum a b = option_map (λ row. row a b) (binary_row binary.Add)

pub record TooLong : Type 0 where
  pub text_length : (s t : List ℕ) → nat_le (length (s ++ t)) greatest_length ≡ false → sum (Text s) (Text t) ≡ Some (Err TextLength)
