-- What [[Put]] comes to on the objects to which a residual assigns, and when it meets no setter above them.
use Rattle.std.specs.Prelude.{◌≡◌, ℕ, nat_le, nat_lt, true, false, Ok, Option, Some, None}
use Rattle.js_value.specs.Conversions.{is_same_text}
use Rattle.plain_heap.specs.Heap.{Key, Property, Data, Accessor, DataProperty, ObjectState, Heap, data_property, depth_at, is_array_class, object_at}
use Rattle.plain_heap.specs.Methods.{array_index, checked_key, get_property, greatest_length, length_key, length_of, own_property, with_property}
use Rattle.plain_heap.specs.Values.{Value, ObjNo, number}
use Rattle.js_machine.specs.Machine.Realm.{realm}
use Rattle.js_machine.specs.Machine.RealmObjects.{array_prototype, object_prototype}
use Rattle.residual_runs.specs.Statements.{Puts}

-- ---- properties that leave the length of an array as it is

-- all of an object that is no array; of an array those that aren't its length and no elements, and elements below its length
pub data IsBesideLength (key : Key) (state : ObjectState) : Type 0 where
  of_no_array : is_array_class state.class ≡ false → IsBesideLength key state
  no_element : is_same_text key length_key ≡ false → array_index key ≡ None → IsBesideLength key state
  element_below : (n old : ℕ) (length : DataProperty) → is_same_text key length_key ≡ false → array_index key ≡ Some n
      → own_property length_key state ≡ Some (Data length) → length_of length.value ≡ Some old → nat_lt n old ≡ true → IsBesideLength key state

-- ---- what an assignment meets along prototypes

-- nothing, or a data property that can be written
abbrev pub IsOpen : Option (ObjNo × Property) → Type 0
IsOpen None = Unit {0}
IsOpen (Some (holder, Data p)) = p.writable ≡ true
IsOpen (Some (holder, Accessor p)) = ⊥

pub record IsOpenAbove (h : Heap) (state : ObjectState) (key : Key) : Type 0 where
  -- as in every valid heap
  pub depth : state.depth ≡ depth_at h state.prototype
  pub open_above : IsOpen (get_property h key state.prototype)

-- ---- what [[Put]] makes of an object

pub record PutsRight : Type 0 where
  -- a property that the object hasn't comes last, with all attributes
  pub new_property : (h : Heap) (o : ObjNo) (state : ObjectState) (key : Key) (v : Value) → object_at h o ≡ Some state → checked_key key ≡ Ok key → IsBesideLength key state
      → own_property key state ≡ None → state.extensible ≡ true → IsOpenAbove h state key → Puts h o key v (with_property key (data_property v true true true) state)
  -- one that it has and that can be written gets the value, and keeps its place and its attributes
  pub own : (h : Heap) (o : ObjNo) (state : ObjectState) (key : Key) (p : DataProperty) (v : Value) → object_at h o ≡ Some state → checked_key key ≡ Ok key → IsBesideLength key state
      → own_property key state ≡ Some (Data p) → p.writable ≡ true → Puts h o key v (with_property key (Data (record p { value = v })) state)
  -- the length of an array can be raised while it can be written
  pub length : (h : Heap) (o : ObjNo) (state : ObjectState) (p : DataProperty) (old n : ℕ) → object_at h o ≡ Some state → is_array_class state.class ≡ true
      → own_property length_key state ≡ Some (Data p) → p.writable ≡ true → length_of p.value ≡ Some old → nat_le old n ≡ true → nat_le n greatest_length ≡ true
      → Puts h o length_key (number n) (with_property length_key (Data (record p { value = number n })) state)
  -- the prototypes of `{}` and `[]` as they are at the start are met by no assignment
  pub open_object : (h : Heap) (key : Key) → object_at h object_prototype ≡ object_at realm object_prototype → IsOpen (get_property h key (Some object_prototype))
  pub open_array : (h : Heap) (key : Key) → object_at h object_prototype ≡ object_at realm object_prototype → object_at h array_prototype ≡ object_at realm array_prototype
      → IsOpen (get_property h key (Some array_prototype))
