-- What holds of heaps that correspond.
use Rattle.std.specs.Prelude.{◌≡◌, true, length, Option}
use Rattle.std.specs.Option.{option_and_then}
use Rattle.js_value.specs.Conversions.{is_same_text}
use Rattle.plain_heap.specs.Values.{Value, ObjNo, CellNo}
use Rattle.plain_heap.specs.Heap.{Heap, Key, ObjectState, object_at, set_object, add_object, new_cell, set_cell, depth_at, is_array_class, is_array, is_function}
use Rattle.plain_heap.specs.Methods.{Descriptor, own_property, get, put, has_property, delete, define, length_key}
use Rattle.related_states.specs.Related.{Correspondence, Decided, correspondence, BothOption, SameValue, SameProperty, SameState, SameHeaps, SameDescriptor, SameLength, SameGot, SamePutting, SameDefining}

-- The internal methods of two objects that correspond do corresponding things (8.12, 15.4.5.1).
pub record MethodsCorrespond (x : Correspondence) (h g : Heap) : Type 0 where
  pub own : (o q : ObjNo) (key : Key) → x.Objects o q → BothOption (SameProperty x) (option_and_then (own_property key) (object_at h o)) (option_and_then (own_property key) (object_at g q))
  pub gets : (o q : ObjNo) (key : Key) → x.Objects o q → SameGot x (get h o key) (get g q key)
  pub puts : (o q : ObjNo) (key : Key) (v u : Value) → x.Objects o q → SameValue x v u → SamePutting x (put h o key v) (put g q key u)
  pub has : (o q : ObjNo) (key : Key) → x.Objects o q → has_property h o key ≡ has_property g q key
  pub deletes : (o q : ObjNo) (key : Key) → x.Objects o q → BothOption (SameState x) (option_and_then (delete key) (object_at h o)) (option_and_then (delete key) (object_at g q))
  pub functions : (o q : ObjNo) → x.Objects o q → is_function h o ≡ is_function g q
  pub arrays : (o q : ObjNo) → x.Objects o q → is_array h o ≡ is_array g q
  pub depths : (o q : Option ObjNo) → BothOption x.Objects o q → depth_at h o ≡ depth_at g q

-- What changes one object or one cell of the first heap, and the corresponding one of the second alike, keeps them corresponding.
pub record ChangesCorrespond (x : Correspondence) (h g : Heap) : Type 0 where
  pub set_object : (o q : ObjNo) (a b : ObjectState) → x.Objects o q → SameState x a b → SameHeaps x (set_object o a h) (set_object q b g)
  pub add_object : (a b : ObjectState) → x.MadeObject (length h.objects) → SameState x a b → SameHeaps x (add_object a h) (add_object b g)
  pub set_cell : (c d : CellNo) (v u : Value) → x.Cells c d → SameValue x v u → SameHeaps x (set_cell c v h) (set_cell d u g)
  pub new_cell : (v u : Value) → x.MadeCell (length h.cells) → SameValue x v u → SameHeaps x (new_cell v h) (new_cell u g)

-- of two heaps that correspond by relations that can be decided
pub record HeapsCorrespond : Type 0 where
  pub methods : (d : Decided) (h g : Heap) → SameHeaps (correspondence d) h g → MethodsCorrespond (correspondence d) h g
  pub changes : (d : Decided) (h g : Heap) → SameHeaps (correspondence d) h g → ChangesCorrespond (correspondence d) h g
  -- [[DefineOwnProperty]], where the length that an array is to have is the same number
  pub defines : (d : Decided) (key : Key) (f e : Descriptor) (o q : ObjectState) → SameState (correspondence d) o q → SameDescriptor (correspondence d) f e
      → (is_array_class o.class ≡ true → is_same_text key length_key ≡ true → SameLength f.value e.value) → SameDefining (correspondence d) (define key f o) (define key e q)
