-- The values of simple scripts as primitives.
use Rattle.std.specs.Prelude.{ℕ, List, map}
use Rattle.js_value.specs.declared.primitive.Primitive.{Primitive}
use Rattle.js_value.specs.declared.primitive.Primitive.TheVariants as primitive
use Rattle.simple_runs.specs.Events.{Heap}
use Rattle.prepack_core.specs.declared.value.Value.{Value}
use Rattle.prepack_core.specs.declared.value.Value.TheVariants.{Undefined, Number}

abbrev pub primitive_of : Value → Primitive
primitive_of Undefined = primitive.Undefined
primitive_of (Number n) = primitive.Number n.value

-- variables as the properties of the global object
abbrev pub shown : List (List ℕ × Value) → Heap
shown vs = map (λ v. (v.0, primitive_of v.1)) vs
