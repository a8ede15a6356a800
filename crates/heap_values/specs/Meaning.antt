-- What values, properties, descriptors and classes of the code are in the definitions.
use Rattle.std.specs.Prelude.{ℕ, List, [], slice_index_or}
use Rattle.std.specs.Option.{option_map}
use Rattle.plain_heap.specs.Values as values
use Rattle.plain_heap.specs.Heap as heap
use Rattle.plain_heap.specs.Methods as methods
use Rattle.heap_values.specs.declared.value.Value.{Value}
use Rattle.heap_values.specs.declared.value.Value.TheVariants as value
use Rattle.heap_values.specs.declared.property.Property.{Property}
use Rattle.heap_values.specs.declared.property.Property.TheVariants as property
use Rattle.heap_values.specs.declared.class.Class.{Class}
use Rattle.heap_values.specs.declared.class.Class.TheVariants as class
use Rattle.heap_values.specs.declared.descriptor.Descriptor.{Descriptor}

abbrev pub value_of : Value → values.Value
value_of (value.Prim p) = values.Prim p
value_of (value.Object o) = values.Object o
value_of value.Absent = values.Absent

abbrev pub property_of : Property → heap.Property
property_of (property.Data v w e c) = heap.Data (record { value = value_of v; writable = w; enumerable = e; configurable = c })
property_of (property.Accessor g s e c) = heap.Accessor (record { get = g; set = s; enumerable = e; configurable = c })

abbrev pub descriptor_of : Descriptor → methods.Descriptor
descriptor_of d =
    record { value = option_map value_of d.value; writable = d.writable; get = d.get; set = d.set; enumerable = d.enumerable; configurable = d.configurable }

-- the environment that a number of a scope stands for
abbrev pub environment_at : List heap.Environment → ℕ → heap.Environment
environment_at environments s = slice_index_or environments s []

abbrev pub class_of : List heap.Environment → Class → heap.Class
class_of environments class.Plain = heap.Plain
class_of environments class.Array = heap.Array
class_of environments (class.Function f s strict) = heap.Function f (environment_at environments s) strict
class_of environments (class.Builtin n) = heap.Builtin n
