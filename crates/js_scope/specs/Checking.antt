-- How the answer of the early checks stands to a script's first fault.
use Rattle.std.specs.Prelude.{◌≡◌, ◌≢◌, Option, Some, None, Result, Ok, Err}
use Rattle.js_tree.specs.declared.refusal.ReadRefused.{ReadRefused}
use Rattle.js_tree.specs.declared.refusal.ReadRefused.TheVariants.{NoMemory}

-- no fault, or this one, unless there was no memory to find out
abbrev pub Tells : {U : Type 0} → Option ReadRefused → Result U ReadRefused → Type 0
Tells fault (Ok u) = fault ≡ None
Tells fault (Err e) = e ≢ NoMemory → fault ≡ Some e
