-- The heap: objects with their properties (8.6), and cells; and environments (10.2), which name cells.
use Rattle.std.specs.Prelude.{ℕ, suc, Bool, true, false, if◌then◌else◌, List, [], ◌∷◌, ◌++◌, length, codes, slice_get, slice_set, Option, Some, None}
use Rattle.std.specs.Option.{option_and_then}
use Rattle.js_value.specs.Conversions.{is_same_text}
use Rattle.js_value.specs.declared.place.FuncNo.{FuncNo}
use Rattle.plain_heap.specs.Values.{Value, ObjNo, CellNo, number}

abbrev pub Key : Type 0
Key = List ℕ

-- ---- properties (8.6.1)

pub record DataProperty : Type 0 where
  pub value : Value
  pub writable : Bool
  pub enumerable : Bool
  pub configurable : Bool

-- a getter and a setter are functions, or undefined
pub record AccessorProperty : Type 0 where
  pub get : Option ObjNo
  pub set : Option ObjNo
  pub enumerable : Bool
  pub configurable : Bool

pub data Property : Type 0 where
  Data : DataProperty → Property
  Accessor : AccessorProperty → Property

abbrev pub is_enumerable : Property → Bool
is_enumerable (Data p) = p.enumerable
is_enumerable (Accessor p) = p.enumerable

abbrev pub is_configurable : Property → Bool
is_configurable (Data p) = p.configurable
is_configurable (Accessor p) = p.configurable

-- each key once, in the order of their creation
abbrev pub Properties : Type 0
Properties = List (Key × Property)

abbrev pub lookup : {A : Type 0} → Key → List (Key × A) → Option A
lookup key [] = None
lookup key (p ∷ ps) = if is_same_text p.0 key then Some p.1 else lookup key ps

-- the value goes to its key, which keeps its place, or to a new one at the end
abbrev pub put_at : {A : Type 0} → Key → A → List (Key × A) → List (Key × A)
put_at key a [] = (key, a) ∷ []
put_at key a (p ∷ ps) = if is_same_text p.0 key then (p.0, a) ∷ ps else (p ∷ put_at key a ps)

abbrev pub without : {A : Type 0} → Key → List (Key × A) → List (Key × A)
without key [] = []
without key (p ∷ ps) = if is_same_text p.0 key then ps else (p ∷ without key ps)

-- ---- environments (10.2): the names that all code around some code binds with their cells, the innermost first; none in global code

abbrev pub Environment : Type 0
Environment = List (List ℕ × CellNo)

-- 10.2.2.1: the cell that a name is bound to
unfoldable pub resolve : Environment → List ℕ → Option CellNo
resolve names name = lookup name names

-- ---- objects (8.6.2)

-- Its class says what an object is beside its properties. A function has its code, the environment in which it was made, and whether
-- its code is strict (13.2); a built-in is named by its number in the realm.
pub data Class : Type 0 where
  Plain : Class
  Array : Class
  Function : FuncNo → Environment → Bool → Class
  Builtin : ℕ → Class

abbrev pub is_function_class : Class → Bool
is_function_class (Function f names strict) = true
is_function_class (Builtin n) = true
is_function_class _ = false

abbrev pub is_array_class : Class → Bool
is_array_class Array = true
is_array_class _ = false

-- an object as it is at the moment
pub record ObjectState : Type 0 where
  pub class : Class
  pub prototype : Option ObjNo
  -- how many prototypes it has, one behind the other; no rule changes a prototype
  pub depth : ℕ
  pub extensible : Bool
  pub properties : Properties

abbrev pub data_property : Value → Bool → Bool → Bool → Property
data_property v w e c = Data (record { value = v; writable = w; enumerable = e; configurable = c })

-- the properties of a new object: an array has its length (15.4.5.2)
abbrev pub first_properties : Class → Properties
first_properties Array = (codes "length", data_property (number 0) true false false) ∷ []
first_properties _ = []

abbrev pub new_state : Class → Option ObjNo → ℕ → ObjectState
new_state class prototype depth = record { class = class; prototype = prototype; depth = depth; extensible = true; properties = first_properties class }

-- ---- the heap

pub record Heap : Type 0 where
  pub objects : List ObjectState
  pub cells : List Value

abbrev pub object_at : Heap → ObjNo → Option ObjectState
object_at h o = slice_get h.objects o

abbrev pub set_object : ObjNo → ObjectState → Heap → Heap
set_object o state h = record h { objects = slice_set h.objects o state }

-- the number of the next object is the count of those that there are
abbrev pub add_object : ObjectState → Heap → Heap
add_object state h = record h { objects = h.objects ++ state ∷ [] }

-- how many objects a chain of prototypes has
abbrev pub depth_of : Option ObjectState → ℕ
depth_of None = 0
depth_of (Some o) = suc o.depth

abbrev pub depth_at : Heap → Option ObjNo → ℕ
depth_at h o = depth_of (option_and_then (object_at h) o)

abbrev pub new_object : Class → Option ObjNo → Heap → Heap
new_object class prototype h = add_object (new_state class prototype (depth_at h prototype)) h

abbrev pub new_cell : Value → Heap → Heap
new_cell v h = record h { cells = h.cells ++ v ∷ [] }

-- an object or a cell that is made: its number, and the heap with it
abbrev pub make_object : Class → Option ObjNo → Heap → ObjNo × Heap
make_object class prototype h = (length h.objects, new_object class prototype h)

abbrev pub make_cell : Value → Heap → CellNo × Heap
make_cell v h = (length h.cells, new_cell v h)

abbrev pub cell : Heap → CellNo → Option Value
cell h c = slice_get h.cells c

abbrev pub set_cell : CellNo → Value → Heap → Heap
set_cell c v h = record h { cells = slice_set h.cells c v }

abbrev pub is_class : (Class → Bool) → Option ObjectState → Bool
is_class test None = false
is_class test (Some o) = test o.class

abbrev pub is_function : Heap → ObjNo → Bool
is_function h o = is_class is_function_class (object_at h o)

abbrev pub is_array : Heap → ObjNo → Bool
is_array h o = is_class is_array_class (object_at h o)

abbrev pub or_else : {A : Type 0} → Option A → Option A → Option A
or_else (Some a) other = Some a
or_else None other = other
