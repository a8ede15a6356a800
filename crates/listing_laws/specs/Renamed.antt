-- When two heaps are the same but for the numbers of their objects, cells and functions, as far as a walk can tell.
use Rattle.std.specs.Prelude.{◌≡◌, ◌≤◌, Bool, true, List, length, map, nat_lt, Option, Some}
use Rattle.std.specs.List.{list_all}
use Rattle.std.specs.Option.{option_map}
use Rattle.js_value.specs.declared.place.FuncNo.{FuncNo}
use Rattle.js_tree.specs.Mentions.{Names}
use Rattle.js_tree.specs.declared.statement.Func.{Func}
use Rattle.js_tree.specs.declared.statement.Script.{Script}
use Rattle.plain_heap.specs.Heap.{Key, Property, Data, Accessor, Class, Plain, Array, Function, Builtin, ObjectState, Heap, Environment, object_at, cell}
use Rattle.plain_heap.specs.Valid.{is_valid}
use Rattle.plain_heap.specs.Values.{Value, Object, ObjNo, CellNo}
use Rattle.js_machine.specs.Machine.Codes.{code}
use Rattle.js_machine.specs.Machine.Listed.{FreeNames, Item, AnObject, ACell, captured, in_cells, next_of, is_same_item, has_item, thrown_item, queue_of, listing_by, free_in, Agree}
use Rattle.js_machine.specs.Machine.Realm.{realm_count}
use Rattle.js_machine.specs.Machine.Walks.{HostEvent, Ended, Ending, Normally, Thrown}

-- ---- new numbers for objects and cells

pub record Renaming : Type 0 where
  pub objects : ObjNo → ObjNo
  pub cells : CellNo → CellNo

abbrev pub renamed_item : Renaming → Item → Item
renamed_item r (AnObject o) = AnObject (r.objects o)
renamed_item r (ACell c) = ACell (r.cells c)

abbrev pub renamed_value : Renaming → Value → Value
renamed_value r (Object o) = Object (r.objects o)
renamed_value r v = v

abbrev pub renamed_property : Renaming → Property → Property
renamed_property r (Data p) = Data (record p { value = renamed_value r p.value })
renamed_property r (Accessor p) = Accessor (record p { get = option_map r.objects p.get; set = option_map r.objects p.set })

abbrev pub renamed_entry : Renaming → Key × Property → Key × Property
renamed_entry r p = (p.0, renamed_property r p.1)

abbrev pub renamed_ending : Renaming → Ending → Ending
renamed_ending r Normally = Normally
renamed_ending r (Thrown v) = Thrown (renamed_value r v)

-- ---- what a listing is taken of: a heap, how the code ended, and the functions that the heap names

pub record Listable : Type 0 where
  pub heap : Heap
  pub ending : Ending
  pub free : FreeNames
  pub code : FuncNo → Names → Script

-- Items among which the walk stays, with the objects of the realm among them. What isn't among them is garbage.
pub record IsClosed (a : Listable) (is_member : Item → Bool) : Type 0 where
  pub realm : (o : ObjNo) → nat_lt o realm_count ≡ true → is_member (AnObject o) ≡ true
  pub thrown : list_all is_member (thrown_item a.ending) ≡ true
  pub onwards : (x : Item) → is_member x ≡ true → list_all is_member (next_of a.free a.heap x) ≡ true

module _ (r : Renaming) (a b : Listable) where
  -- the same code once captured names stand by their numbers, and the same cells at the places of these names
  pub record IsSameFunction (f : FuncNo) (around : Environment) (g : FuncNo) (other : Environment) : Type 0 where
    pub code : b.code g (captured b.free g other) ≡ a.code f (captured a.free f around)
    pub cells : in_cells other (captured b.free g other) ≡ map r.cells (in_cells around (captured a.free f around))

  abbrev pub IsSameClass : Class → Class → Type 0
  IsSameClass Plain Plain = Unit {0}
  IsSameClass Array Array = Unit {0}
  IsSameClass (Function f around strict) (Function g other also) = IsSameFunction f around g other × (also ≡ strict)
  IsSameClass (Builtin m) (Builtin n) = n ≡ m
  IsSameClass _ _ = ⊥

  pub record IsSameObject (s t : ObjectState) : Type 0 where
    pub class : IsSameClass s.class t.class
    pub prototype : t.prototype ≡ option_map r.objects s.prototype
    pub extensible : t.extensible ≡ s.extensible
    pub properties : t.properties ≡ map (renamed_entry r) s.properties

  -- both are there
  abbrev pub AreSameObjects : Option ObjectState → Option ObjectState → Type 0
  AreSameObjects (Some s) (Some t) = IsSameObject s t
  AreSameObjects _ _ = ⊥

  abbrev pub AreSameCells : Option Value → Option Value → Type 0
  AreSameCells (Some v) (Some w) = w ≡ renamed_value r v
  AreSameCells _ _ = ⊥

  -- of items among which the walk of the first one stays; nothing is said of garbage
  pub record IsRenamed (is_member : Item → Bool) : Type 0 where
    pub closed : IsClosed a is_member
    -- objects of the realm keep their numbers, and others are still others
    pub realm : (o : ObjNo) → nat_lt o realm_count ≡ true → r.objects o ≡ o
    pub others : (o : ObjNo) → is_member (AnObject o) ≡ true → nat_lt (r.objects o) realm_count ≡ nat_lt o realm_count
    pub apart : (x y : Item) → is_member x ≡ true → is_member y ≡ true → is_same_item (renamed_item r x) (renamed_item r y) ≡ is_same_item x y
    pub objects : (o : ObjNo) → is_member (AnObject o) ≡ true → AreSameObjects (object_at a.heap o) (object_at b.heap (r.objects o))
    pub cells : (c : CellNo) → is_member (ACell c) ≡ true → AreSameCells (cell a.heap c) (cell b.heap (r.cells c))
    pub ending : b.ending ≡ renamed_ending r a.ending

-- ---- the laws

-- what a run left that ended so, with the functions that its heap names
abbrev pub left_by : List Func → Ending → Heap → Listable
left_by functions ending h = record { heap = h; ending = ending; free = free_in functions; code = code functions }

pub record SameListing : Type 0 where
  -- the same walk
  pub queue : (r : Renaming) (a b : Listable) (is_member : Item → Bool) → IsRenamed r a b is_member
      → queue_of b.free b.heap b.ending ≡ map (renamed_item r) (queue_of a.free a.heap a.ending)
  -- equal listings
  pub rows : (r : Renaming) (a b : Listable) (is_member : Item → Bool) → IsRenamed r a b is_member
      → listing_by b.code b.free b.heap b.ending ≡ listing_by a.code a.free a.heap a.ending
  -- two runs that ended so agree
  pub agree : (r : Renaming) (functions others : List Func) (calls : List HostEvent) (e f : Ending) (g h : Heap) (is_member : Item → Bool)
      → IsRenamed r (left_by functions e g) (left_by others f h) is_member → Agree functions (Ended calls e g) others (Ended calls f h)

abbrev pub is_there : Heap → Item → Bool
is_there h (AnObject o) = nat_lt o (length h.objects)
is_there h (ACell c) = nat_lt c (length h.cells)

-- in a valid heap that has the objects of the realm the queue of the walk is such a set, all of whose items are there
pub record QueueIsClosed : Type 0 where
  pub closed : (a : Listable) → is_valid a.heap ≡ true → realm_count ≤ length a.heap.objects → list_all (is_there a.heap) (thrown_item a.ending) ≡ true
      → IsClosed a (has_item (queue_of a.free a.heap a.ending))
  pub there : (a : Listable) → is_valid a.heap ≡ true → realm_count ≤ length a.heap.objects → list_all (is_there a.heap) (thrown_item a.ending) ≡ true
      → list_all (is_there a.heap) (queue_of a.free a.heap a.ending) ≡ true
