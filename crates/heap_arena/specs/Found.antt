-- What is found along prototypes, and what [[Get]] and [[Put]] come to, in the definitions.
use Rattle.std.specs.Prelude.{ℕ, Bool, true, false, Option, Some}
use Rattle.plain_heap.specs.Heap as heap
use Rattle.plain_heap.specs.Methods as methods
use Rattle.plain_heap.specs.Values as values
use Rattle.heap_values.specs.Meaning.{property_of, value_of}
use Rattle.heap_arena.specs.declared.found.Found.{Found}
use Rattle.heap_arena.specs.declared.found.Got.{Got}
use Rattle.heap_arena.specs.declared.found.Got.TheVariants as got
use Rattle.heap_arena.specs.declared.found.Putting.{Putting}
use Rattle.heap_arena.specs.declared.found.Putting.TheVariants as putting

abbrev pub found_of : Found → ℕ × heap.Property
found_of f = (f.holder, property_of f.property.now)

abbrev pub got_of : Got → methods.Got
got_of (got.Value v) = methods.GotValue (value_of v.now)
got_of got.Undefined = methods.GotValue values.undefined
got_of (got.Getter f) = methods.CallGetter f

-- of the value that is put
abbrev pub putting_of : values.Value → Putting → methods.Putting
putting_of v putting.Refuse = methods.Refuse
putting_of v putting.Change = methods.Define (methods.value_field v)
putting_of v putting.Make = methods.Define (methods.data_fields v true true true)
putting_of v (putting.Setter f) = methods.CallSetter f

abbrev pub is_own_data : Option heap.Property → Bool
is_own_data (Some (heap.Data p)) = true
is_own_data _ = false
