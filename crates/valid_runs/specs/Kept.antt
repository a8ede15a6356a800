-- What a run keeps: a heap stays valid, its objects and cells stay, and the values that code has are values of the heap.
use Rattle.std.specs.Prelude.{◌≡◌, ◌<◌, ◌≤◌, ℕ, true, Bool, List, length, Some}
use Rattle.js_value.specs.declared.place.Place.{Place}
use Rattle.js_value.specs.declared.primitive.Kind.{Kind}
use Rattle.js_value.specs.declared.primitive.Primitive.{Primitive}
use Rattle.plain_heap.specs.Values.{Value, Prim, Object, Symbolic, Symbol, ObjNo}
use Rattle.plain_heap.specs.Heap.{Heap, ObjectState, object_at}
use Rattle.plain_heap.specs.Valid.{is_valid}
use Rattle.js_machine.specs.Machine.Events.{Tree, Step, Turn, Ask, Input, Call, Stop, StopKind, Spent, End, Fail}

-- ---- heaps

-- an object is still in its place, with its class, its prototype and its depth
pub record IsStill (after : Heap) (o : ObjNo) (state : ObjectState) : Type 0 where
  pub now : ObjectState
  pub is : object_at after o ≡ Some now
  pub class : now.class ≡ state.class
  pub prototype : now.prototype ≡ state.prototype
  pub depth : now.depth ≡ state.depth

-- a valid heap, in which each object of an earlier one is still in its place and each number of an object or a cell is still one
pub record Keeps (before after : Heap) : Type 0 where
  pub valid : is_valid after ≡ true
  pub objects : (o : ObjNo) (state : ObjectState) → object_at before o ≡ Some state → IsStill after o state
  pub object_count : length before.objects ≤ length after.objects
  pub cell_count : length before.cells ≤ length after.cells

-- ---- values

pub record IsObject (h : Heap) (o : ObjNo) : Type 0 where
  pub below : o < length h.objects

-- a value that code has: a primitive, an object that is there, or a symbol, and never that of a built-in that is left out
pub data IsValue (h : Heap) : Value → Type 0 where
  is_primitive : (p : Primitive) → IsValue h (Prim p)
  is_object : {o : ObjNo} → IsObject h o → IsValue h (Object o)
  is_symbol : (s : Symbol) → IsValue h (Symbolic s)

-- what an input or the answer to a host call may be
pub data IsOutside : Value → Type 0 where
  of_primitive : (p : Primitive) → IsOutside (Prim p)
  of_symbol : (s : Symbol) → IsOutside (Symbolic s)

-- ---- events: whatever is answered, the heaps at the end keep the one at the start, and what is thrown is a value of its heap

pub data IsSound (start : Heap) : Tree → Type 0 where
  steps : (at : Place) {t : Tree} → IsSound start t → IsSound start (Step at t)
  turns : (at : Place) {t : Tree} → IsSound start t → IsSound start (Turn at t)
  asks : (at : Place) (s : Symbol) {f : Bool → Tree} → ((b : Bool) → IsSound start (f b)) → IsSound start (Ask at s f)
  inputs : (at : Place) (k : Kind) (name : List ℕ) {f : Value → Tree} → ((v : Value) → IsOutside v → IsSound start (f v)) → IsSound start (Input at k name f)
  calls : (at : Place) (k : Kind) (name : List ℕ) (arguments : List Value) {f : Value → Value → Tree} → ((v threw : Value) → IsOutside v → IsOutside threw → IsSound start (f v threw))
      → IsSound start (Call at k name arguments f)
  stops : (why : StopKind) (at : Place) → IsSound start (Stop why at)
  out_of_turns : IsSound start Spent
  ends : (h : Heap) → Keeps start h → IsSound start (End h)
  fails : (v : Value) (h : Heap) → Keeps start h → IsValue h v → IsSound start (Fail v h)
