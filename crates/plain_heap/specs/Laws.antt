-- What holds of properties for every object, and of every heap that is valid.
use Rattle.std.specs.Prelude.{◌≡◌, ◌≤◌, ◌&&◌, ℕ, nat_lt, length, Bool, List, [], ◌∷◌, ◌++◌, true, false, Option, Some, None}
use Rattle.std.specs.List.{list_all}
use Rattle.js_value.specs.Conversions.{is_same_text}
use Rattle.plain_heap.specs.Heap.{Key, Property, Class, ObjectState, Heap, object_at, set_object, is_function, cell, resolve, new_cell, set_cell, new_state, new_object, add_object, depth_at, Environment, Function}
use Rattle.plain_heap.specs.Methods.{Descriptor, own_property, with_property, delete, put, Define, define, Defining, Defined, Rejected, BadLength, IfSame, get, GotValue, CallGetter, CallSetter}
use Rattle.plain_heap.specs.Values.{Value, ObjNo, CellNo}
use Rattle.plain_heap.specs.Valid.{are_distinct, if_some, is_value, is_cell, is_class, is_object, is_valid, are_cells}
use Rattle.js_value.specs.declared.place.FuncNo.{FuncNo}

-- a property that is set is there, the others are what they were, and each key stays distinct
pub record SetsProperties : Type 0 where
  pub there : (key : Key) (p : Property) (o : ObjectState) → own_property key (with_property key p o) ≡ Some p
  pub others : (key other : Key) (p : Property) (o : ObjectState) → is_same_text key other ≡ false → own_property other (with_property key p o) ≡ own_property other o
  pub distinct : (key : Key) (p : Property) (o : ObjectState) → are_distinct o.properties ≡ true → are_distinct (with_property key p o).properties ≡ true

-- 8.12.7: a property that was deleted isn't there, and one that is made again comes last
pub record DeletesProperties : Type 0 where
  pub gone : (key : Key) (o after : ObjectState) → are_distinct o.properties ≡ true → delete key o ≡ Some after → own_property key after ≡ None
  pub last : (key : Key) (p : Property) (o after : ObjectState) → are_distinct o.properties ≡ true → delete key o ≡ Some after
      → (with_property key p after).properties ≡ after.properties ++ (key, p) ∷ []

-- 8.12.3 and 8.12.5: a value that was put, without a setter, is what is got afterwards
pub record GetsWhatWasPut : Type 0 where
  pub gets : (h : Heap) (o : ObjNo) (key : Key) (v : Value) (d : Descriptor) (state after : ObjectState) → object_at h o ≡ Some state → put h o key v ≡ Define d
      → define key d state ≡ Defined after → get (set_object o after h) o key ≡ GotValue v

-- ---- valid heaps

-- a valid heap, in which every number is still one
pub record IsKept (h after : Heap) : Type 0 where
  pub valid : is_valid after ≡ true
  pub objects : length h.objects ≤ length after.objects
  pub cells : length h.cells ≤ length after.cells

abbrev pub add_objects : List ObjectState → Heap → Heap
add_objects states h = record h { objects = h.objects ++ states }

-- new cells and objects, and a cell that is set
pub record MakesValid : Type 0 where
  pub cell : (h : Heap) (v : Value) → is_valid h ≡ true → is_cell h v ≡ true → IsKept h (new_cell v h)
  pub set : (h : Heap) (c : CellNo) (v : Value) → is_valid h ≡ true → is_cell h v ≡ true → IsKept h (set_cell c v h)
  pub object : (h : Heap) (class : Class) (prototype : Option ObjNo) → is_valid h ≡ true → if_some (λ o. nat_lt o (length h.objects)) prototype ≡ true
      → is_class h (new_state class prototype (depth_at h prototype)) class ≡ true → IsKept h (new_object class prototype h)
  -- objects that may refer to one another, and two of them, as a function and its prototype
  pub objects : (h : Heap) (states : List ObjectState) → is_valid h ≡ true → list_all (is_object (add_objects states h)) states ≡ true → IsKept h (add_objects states h)
  pub pair : (h : Heap) (a b : ObjectState) → is_valid h ≡ true → is_object (add_object b (add_object a h)) a ≡ true → is_object (add_object b (add_object a h)) b ≡ true
      → IsKept h (add_object b (add_object a h))

-- an object that is changed
pub record ChangesValid : Type 0 where
  pub object : (h : Heap) (o : ObjNo) (state after : ObjectState) → is_valid h ≡ true → object_at h o ≡ Some state → after.class ≡ state.class → after.prototype ≡ state.prototype → after.depth ≡ state.depth
      → is_object h after ≡ true → IsKept h (set_object o after h)
  pub closes : (h : Heap) (o : ObjNo) (state : ObjectState) → is_valid h ≡ true → object_at h o ≡ Some state → IsKept h (set_object o (record state { extensible = false }) h)
  pub deletes : (h : Heap) (o : ObjNo) (key : Key) (state after : ObjectState) → is_valid h ≡ true → object_at h o ≡ Some state → delete key state ≡ Some after
      → IsKept h (set_object o after h)

-- the values of a change are values of this heap, and its getter and setter are functions there
abbrev pub is_change : Heap → Descriptor → Bool
is_change h d = if_some (is_value h) d.value && if_some (if_some (is_function h)) d.get && if_some (if_some (is_function h)) d.set

-- the object that a change leaves, whether it is made or rejected, by any answers to its questions
abbrev pub outcome : (Value → Value → Bool) → Defining → Option ObjectState
outcome same (Defined o) = Some o
outcome same (Rejected o) = Some o
outcome same BadLength = None
outcome same (IfSame v w rest) = outcome same (rest (same v w))

-- 8.12.9, 15.4.5.1 and 8.12.5: properties of objects and arrays
pub record DefinesValid : Type 0 where
  pub defines : (h : Heap) (o : ObjNo) (key : Key) (d : Descriptor) (same : Value → Value → Bool) (state after : ObjectState) → is_valid h ≡ true → object_at h o ≡ Some state → is_change h d ≡ true
      → outcome same (define key d state) ≡ Some after → IsKept h (set_object o after h)
  pub puts : (h : Heap) (o : ObjNo) (key : Key) (v : Value) (d : Descriptor) (same : Value → Value → Bool) (state after : ObjectState) → is_valid h ≡ true → object_at h o ≡ Some state → is_value h v ≡ true
      → put h o key v ≡ Define d → outcome same (define key d state) ≡ Some after → IsKept h (set_object o after h)

-- what a valid heap gives: values, functions and cells that are there
pub record GivesValues : Type 0 where
  pub gets : (h : Heap) (o : ObjNo) (key : Key) (v : Value) → is_valid h ≡ true → get h o key ≡ GotValue v → is_value h v ≡ true
  pub getters : (h : Heap) (o f : ObjNo) (key : Key) → is_valid h ≡ true → get h o key ≡ CallGetter f → is_function h f ≡ true
  pub setters : (h : Heap) (o f : ObjNo) (key : Key) (v : Value) → is_valid h ≡ true → put h o key v ≡ CallSetter f → is_function h f ≡ true
  pub cells : (h : Heap) (c : CellNo) (v : Value) → is_valid h ≡ true → cell h c ≡ Some v → is_cell h v ≡ true
  pub environments : (h : Heap) (o : ObjNo) (state : ObjectState) (f : FuncNo) (names : Environment) (strict : Bool) → is_valid h ≡ true → object_at h o ≡ Some state
      → state.class ≡ Function f names strict → are_cells h names ≡ true
  pub names : (h : Heap) (names : Environment) (name : List ℕ) (c : CellNo) → are_cells h names ≡ true → resolve names name ≡ Some c → nat_lt c (length h.cells) ≡ true
