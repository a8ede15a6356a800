-- How an answer stands to its definition.
use Rattle.std.specs.Prelude.{◌≡◌, ◌≢◌, ℕ, Result, Ok, Err}
use Rattle.js_value.specs.declared.place.Place.{Place}
use Rattle.js_tree.specs.declared.refusal.Feature.{Feature}
use Rattle.js_tree.specs.declared.refusal.ReadRefused.{ReadRefused}
use Rattle.js_tree.specs.declared.refusal.ReadRefused.TheVariants.{Syntax, Unsupported, NoMemory}

abbrev pub place : ℕ → Place
place at = record { 0 = at }

-- two of the refusals, at a byte of the text
abbrev pub syntax : {A : Type 0} → ℕ → Result A ReadRefused
syntax at = Err (Syntax (place at))

abbrev pub unsupported : {A : Type 0} → ℕ → Feature → Result A ReadRefused
unsupported at what = Err (Unsupported (place at) what)

-- this answer, unless there is no memory for it
abbrev pub Gives : {A : Type 0} → Result A ReadRefused → Result A ReadRefused → Type 0
Gives answer (Ok x) = answer ≡ Ok x
Gives answer (Err e) = e ≢ NoMemory → answer ≡ Err e
