-- What a change of a property comes to in the heap (8.12.9, 15.4.5.1).
use Rattle.std.specs.Prelude.{unwrap_or}
use Rattle.std.specs.Option.{option_map}
use Rattle.plain_heap.specs.Heap.{Heap, Key, ObjectState, object_at, set_object}
use Rattle.plain_heap.specs.Methods.{Descriptor, Settled, Changed, Refused, NotALength, OfAbsent, define, settled}
use Rattle.plain_heap.specs.Values.{ObjNo}
use Rattle.own_properties.specs.declared.answer.Defined.{Defined}
use Rattle.own_properties.specs.declared.answer.Defined.TheVariants as defined

-- the answer and the heap afterwards
abbrev pub settled_in : ObjNo → Heap → Settled → Defined × Heap
settled_in o h (Changed state) = (defined.Done, set_object o state h)
settled_in o h (Refused state) = (defined.Rejected, set_object o state h)
settled_in o h NotALength = (defined.BadLength, h)
settled_in o h OfAbsent = (defined.OfAbsent, h)

-- nothing is done where the object isn't there
abbrev pub define_at : ObjNo → Key → Descriptor → Heap → Defined × Heap
define_at o key d h = unwrap_or (option_map (λ (state : ObjectState). settled_in o h (settled (define key d state))) (object_at h o)) (defined.Done, h)
