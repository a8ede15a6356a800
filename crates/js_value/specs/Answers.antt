-- What an operator answers in code.
use Rattle.std.specs.Prelude.{◌≡◌, Result, Ok, Err}
use Rattle.js_value.specs.Operators.{Entry}
use Rattle.js_value.specs.declared.primitive.Primitive.{Primitive}
use Rattle.js_value.specs.declared.refused.Refused.{Refused}
use Rattle.js_value.specs.declared.refused.Refused.TheVariants.{Left, NoMemory}

-- The answer is the table's entry, a value or the cause for leaving, or there is no memory.
abbrev pub Answers : Entry → Result Primitive Refused → Type 0
Answers entry (Ok value) = entry ≡ Ok value
Answers entry (Err (Left why)) = entry ≡ Err why
Answers entry (Err NoMemory) = Unit {0}
