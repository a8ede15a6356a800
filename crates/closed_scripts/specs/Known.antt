-- Values, properties, objects and heaps without symbols, and the events of a run that neither meets a symbol nor asks a world.
use Rattle.std.specs.Prelude.{List, [], ◌∷◌}
use Rattle.js_value.specs.declared.place.Place.{Place}
use Rattle.js_value.specs.declared.primitive.Primitive.{Primitive}
use Rattle.js_value.specs.declared.why.Why.{Why}
use Rattle.plain_heap.specs.Values.{Value, Prim, Object, Absent, ObjNo}
use Rattle.plain_heap.specs.Heap.{Key, Property, DataProperty, AccessorProperty, Data, Accessor, ObjectState, Heap}
use Rattle.js_machine.specs.Machine.Events.{Tree, Step, Turn, Stop, Leaves, Spent, End, Fail}

-- of each item of a list
pub data Each {A : Type 0} (Is : A → Type 0) : List A → Type 0 where
  none : Each Is []
  also : {x : A} {xs : List A} → Is x → Each Is xs → Each Is (x ∷ xs)

-- ---- no symbols

pub data IsKnown : Value → Type 0 where
  is_primitive : (p : Primitive) → IsKnown (Prim p)
  is_object : (o : ObjNo) → IsKnown (Object o)
  is_absent : IsKnown Absent

pub data IsKnownProperty : Property → Type 0 where
  of_data : (p : DataProperty) → IsKnown p.value → IsKnownProperty (Data p)
  of_accessor : (p : AccessorProperty) → IsKnownProperty (Accessor p)

pub record IsKnownEntry (entry : Key × Property) : Type 0 where
  pub property : IsKnownProperty entry.1

pub record IsKnownState (o : ObjectState) : Type 0 where
  pub properties : Each IsKnownEntry o.properties

pub record IsKnownHeap (h : Heap) : Type 0 where
  pub objects : Each IsKnownState h.objects
  pub cells : Each IsKnown h.cells

-- ---- events: steps and turns, until the code ends, throws or leaves, or a loop has had its turns

pub data IsPlain : Tree → Type 0 where
  steps : (at : Place) {t : Tree} → IsPlain t → IsPlain (Step at t)
  turns : (at : Place) {t : Tree} → IsPlain t → IsPlain (Turn at t)
  leaves : (why : Why) (at : Place) → IsPlain (Stop (Leaves why) at)
  out_of_turns : IsPlain Spent
  ends : (h : Heap) → IsKnownHeap h → IsPlain (End h)
  fails : (v : Value) (h : Heap) → IsKnown v → IsKnownHeap h → IsPlain (Fail v h)
