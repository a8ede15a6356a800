-- The parts of an object by its number, and of none where no object has it.
use Rattle.std.specs.Prelude.{Bool, false, [], Option, unwrap_or}
use Rattle.std.specs.Option.{option_and_then, option_map}
use Rattle.plain_heap.specs.Heap.{Class, Heap, ObjectState, Properties, object_at}
use Rattle.plain_heap.specs.Values.{ObjNo}

abbrev pub class_at : Heap → ObjNo → Option Class
class_at h o = option_map (λ (state : ObjectState). state.class) (object_at h o)

abbrev pub prototype_at : Heap → ObjNo → Option ObjNo
prototype_at h o = option_and_then (λ (state : ObjectState). state.prototype) (object_at h o)

abbrev pub is_extensible_at : Heap → ObjNo → Bool
is_extensible_at h o = unwrap_or (option_map (λ (state : ObjectState). state.extensible) (object_at h o)) false

abbrev pub properties_at : Heap → ObjNo → Properties
properties_at h o = unwrap_or (option_map (λ (state : ObjectState). state.properties) (object_at h o)) []
