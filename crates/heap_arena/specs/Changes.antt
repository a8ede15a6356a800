-- Changes of an object by its number, where it is there; nothing changes otherwise.
use Rattle.std.specs.Prelude.{false, Option, unwrap_or}
use Rattle.std.specs.Option.{option_and_then, option_map}
use Rattle.plain_heap.specs.Heap.{Heap, Key, ObjectState, object_at, set_object}
use Rattle.plain_heap.specs.Methods.{delete}
use Rattle.plain_heap.specs.Values.{ObjNo}

abbrev pub with_state : ObjNo → Heap → Option ObjectState → Heap
with_state o h state = unwrap_or (option_map (λ s. set_object o s h) state) h

-- 15.2.3.10: no property can be added any more
abbrev pub closed : ObjectState → ObjectState
closed state = record state { extensible = false }

abbrev pub closed_at : ObjNo → Heap → Heap
closed_at o h = with_state o h (option_map closed (object_at h o))

-- 8.12.7: the object without a property; none where it can't be deleted
abbrev pub deleted_state : ObjNo → Key → Heap → Option ObjectState
deleted_state o key h = option_and_then (delete key) (object_at h o)

abbrev pub deleted_at : ObjNo → Key → Heap → Heap
deleted_at o key h = with_state o h (deleted_state o key h)
