-- What the heap in code is in the definitions.
use Rattle.std.specs.Prelude.{ℕ, nat_lt, Bool, true, List, map}
use Rattle.std.specs.List.{list_all}
use Rattle.plain_heap.specs.Heap as heap
use Rattle.heap_values.specs.Meaning.{class_of, value_of}
use Rattle.own_properties.specs.Defining.{entries}
use Rattle.heap_values.specs.declared.class.Class.{Class}
use Rattle.heap_values.specs.declared.class.Class.TheVariants as class
use Rattle.heap_values.specs.declared.value.Value.{Value}
use Rattle.heap_arena.specs.declared.object.Object.{Object}

abbrev pub object_of : List heap.Environment → Object → heap.ObjectState
object_of environments o =
    record { class = class_of environments o.class; prototype = o.prototype; depth = o.depth; extensible = o.extensible; properties = entries o.properties }

-- objects and cells by their numbers, and the environments that the numbers of scopes stand for
pub record Store : Type 0 where
  pub objects : List Object
  pub cells : List Value
  pub environments : List heap.Environment

unfoldable pub heap_of : Store → heap.Heap
heap_of s = record { objects = map (object_of s.environments) s.objects; cells = map value_of s.cells }

-- ---- each function's scope is there

abbrev pub is_scope_there : ℕ → Class → Bool
is_scope_there scopes (class.Function f s strict) = nat_lt s scopes
is_scope_there scopes _ = true

abbrev pub are_scopes_there : ℕ → List Object → Bool
are_scopes_there scopes objects = list_all (λ (o : Object). is_scope_there scopes o.class) objects
