-- What a change of the properties in a table is in the definitions.
use Rattle.std.specs.Prelude.{◌≡◌, Bool, List, map, Option, Result, Ok, Err}
use Rattle.plain_heap.specs.Heap as heap
use Rattle.plain_heap.specs.Heap.{Key, Properties, ObjectState}
use Rattle.plain_heap.specs.Methods.{Descriptor, Defining, define_by, with_property, Settled, Changed, Refused, NotALength, OfAbsent, settled}
use Rattle.heap_values.specs.Meaning.{property_of}
use Rattle.heap_values.specs.declared.property.Property.{Property}
use Rattle.own_properties.specs.declared.answer.Defined.{Defined}
use Rattle.own_properties.specs.declared.answer.Defined.TheVariants as defined
use Rattle.own_properties.specs.declared.plain.Unchanged.{Unchanged}
use Rattle.own_properties.specs.declared.plain.Unchanged.TheVariants as unchanged

-- the properties that a table means
abbrev pub entry_of : Key × Property → Key × heap.Property
entry_of e = (e.0, property_of e.1)

abbrev pub entries : List (Key × Property) → Properties
entries table = map entry_of table

-- an object with these properties
abbrev pub with_table : ObjectState → Bool → List (Key × Property) → ObjectState
with_table o extensible table = record o { extensible = extensible; properties = entries table }

-- what the answer says, where these are the properties afterwards
abbrev pub settled_as : Defined → ObjectState → Settled
settled_as defined.Done after = Changed after
settled_as defined.Rejected after = Refused after
settled_as defined.BadLength after = NotALength
settled_as defined.OfAbsent after = OfAbsent

abbrev pub answer_of : Unchanged → Defined
answer_of unchanged.Rejected = defined.Rejected
answer_of unchanged.OfAbsent = defined.OfAbsent

-- what becomes of an object whose property is so, or why nothing does
abbrev pub changed_to : Key → Result Property Unchanged → ObjectState → Settled
changed_to key (Ok p) o = Changed (with_property key (property_of p) o)
changed_to key (Err u) o = settled_as (answer_of u) o

-- whatever object has this property at whatever key
pub record Changes (found : Option heap.Property) (extensible : Bool) (d : Descriptor) (to : Result Property Unchanged) : Type 0 where
  pub says : (key : Key) (o : ObjectState) → o.extensible ≡ extensible → settled (define_by key d o found) ≡ changed_to key to o

-- whatever object has these properties
abbrev pub Says : (ObjectState → Defining) → Bool → List (Key × Property) → List (Key × Property) → Defined → Type 0
Says defining extensible before after answer = (o : ObjectState) → settled (defining (with_table o extensible before)) ≡ settled_as answer (with_table o extensible after)
