-- The listing of a heap: all that a script can reach, numbered by one walk, and when two runs agree.
use Rattle.std.specs.Prelude.{◌≡◌, ℕ, zero, suc, ◌+◌, ◌&&◌, nat_eq, nat_le, nat_lt, Bool, true, false, not, if◌then◌else◌, is_some, List, [], ◌∷◌, ◌++◌, drop, take, length, map, slice_get, Option, Some, None, unwrap_or, option_to_list}
use Rattle.std.specs.List.{filter, flat_map, list_any, position, range_with_len}
use Rattle.std.specs.Option.{option_map}
use Rattle.js_value.specs.Conversions.{is_same_text, is_same_truth}
use Rattle.js_value.specs.declared.place.FuncNo.{FuncNo}
use Rattle.js_tree.specs.Mentions.{Names, free_names}
use Rattle.js_tree.specs.declared.statement.Func.{Func}
use Rattle.js_tree.specs.declared.statement.Script.{Script}
use Rattle.plain_heap.specs.Heap.{Key, Property, Properties, Data, Accessor, Class, Array, Function, ObjectState, Heap, cell, lookup, object_at, resolve, Environment}
use Rattle.plain_heap.specs.Methods.{is_same_function}
use Rattle.plain_heap.specs.Values.{Value, Object, ObjNo, CellNo, undefined, object_or_null, object_or_undefined}
use Rattle.js_machine.specs.Machine.Codes.{code, of_functions}
use Rattle.js_machine.specs.Machine.RealmObjects.{global}
use Rattle.js_machine.specs.Machine.Operators.{is_same}
use Rattle.js_machine.specs.Machine.Realm.{realm, realm_count}
use Rattle.js_machine.specs.Machine.Walks.{Outcome, Ended, Ending, Normally, Thrown}

-- ---- the walk

pub data Item : Type 0 where
  AnObject : ObjNo → Item
  ACell : CellNo → Item

abbrev pub is_same_item : Item → Item → Bool
is_same_item (AnObject m) (AnObject n) = nat_eq m n
is_same_item (ACell m) (ACell n) = nat_eq m n
is_same_item _ _ = false

abbrev pub in_value : Value → List Item
in_value (Object o) = AnObject o ∷ []
in_value v = []

-- the value, or the getter and then the setter
abbrev pub in_property : Property → List Item
in_property (Data p) = in_value p.value
in_property (Accessor p) = in_value (object_or_undefined p.get) ++ in_value (object_or_undefined p.set)

-- the free names of each function
abbrev pub FreeNames : Type 0
FreeNames = FuncNo → Names

-- the free names of a function that its environment binds, in the order in which they come first
abbrev pub captured : FreeNames → FuncNo → Environment → Names
captured free f environment = filter (λ name. is_some (resolve environment name)) (free f)

abbrev pub in_cells : Environment → Names → List CellNo
in_cells environment names = flat_map (λ name. option_to_list (resolve environment name)) names

abbrev pub in_class : FreeNames → Class → List Item
in_class free (Function f environment strict) = map (λ c. ACell c) (in_cells environment (captured free f environment))
in_class free class = []

-- what an item leads to, in order: of an object its prototype, its properties, and the cells that it has captured
abbrev pub in_object : FreeNames → ObjectState → List Item
in_object free o = in_value (object_or_null o.prototype) ++ flat_map (λ (p : Key × Property). in_property p.1) o.properties ++ in_class free o.class

abbrev pub next_of : FreeNames → Heap → Item → List Item
next_of free h (AnObject o) = unwrap_or (option_map (in_object free) (object_at h o)) []
next_of free h (ACell c) = in_value (unwrap_or (cell h c) undefined)

abbrev pub has_item : List Item → Item → Bool
has_item items item = list_any (is_same_item item) items

-- those items enter the queue that haven't entered before
abbrev pub enter : List Item → List Item → List Item
enter queue [] = queue
enter queue (item ∷ more) = if has_item queue item then enter queue more else enter (queue ++ item ∷ []) more

-- the object of the realm with the least number that hasn't entered
abbrev pub left_of_realm : List Item → Option ObjNo
left_of_realm queue = unwrap_or (option_map (λ n. Some n) (position (λ o. not (has_item queue (AnObject o))) (range_with_len 0 realm_count))) None

-- the queue, and how many of its items were taken
abbrev pub Walked : Type 0
Walked = ℕ × List Item

-- What the next item leads to enters. At the end of the queue the realm goes on, until all of it has entered.
abbrev pub advance : FreeNames → Heap → Walked → Option Item → Walked
advance free h walked (Some item) = (suc walked.0, enter walked.1 (next_of free h item))
advance free h walked None = (walked.0, unwrap_or (option_map (λ o. walked.1 ++ AnObject o ∷ []) (left_of_realm walked.1)) walked.1)

-- the items in the order in which they enter the queue
abbrev pub queue_from : ℕ → FreeNames → Heap → Walked → List Item
queue_from zero free h walked = walked.1
queue_from (suc n) free h walked = queue_from n free h (advance free h walked (slice_get walked.1 walked.0))

abbrev pub thrown_item : Ending → List Item
thrown_item Normally = []
thrown_item (Thrown v) = in_value v

-- it begins with the global object and the thrown one; each object and each cell is taken once, and each object of the realm enters once
unfoldable pub queue_of : FreeNames → Heap → Ending → List Item
queue_of free h ending = queue_from (length h.objects + length h.cells + realm_count) free h (0, enter (AnObject global ∷ []) (thrown_item ending))

-- ---- numbers: objects that aren't of the realm, and cells, are counted from 1 as they enter

abbrev pub is_new_object : Item → Bool
is_new_object (AnObject o) = nat_le realm_count o
is_new_object (ACell c) = false

abbrev pub is_cell : Item → Bool
is_cell (AnObject o) = false
is_cell (ACell c) = true

abbrev pub rank : (Item → Bool) → List Item → Item → ℕ
rank sort queue item = unwrap_or (option_map (λ n. n + 1) (position (is_same_item item) (filter sort queue))) 0

-- ---- rows

pub data ListedValue : Type 0 where
  -- a primitive, or a symbol
  Listed : Value → ListedValue
  NewObject : ℕ → ListedValue
  RealmObject : ObjNo → ListedValue

pub data ListedProperty : Type 0 where
  -- with its key, its value, and whether it is writable, enumerable and configurable
  DataLine : Key → ListedValue → Bool → Bool → Bool → ListedProperty
  -- with its key, its getter and its setter, and whether it is enumerable and configurable
  AccessorLine : Key → ListedValue → ListedValue → Bool → Bool → ListedProperty

-- a function has its code, whether it is strict, and the numbers of the cells that it has captured
pub data Sort : Type 0 where
  PlainObject : Sort
  ArrayObject : Sort
  FunctionObject : Script → Bool → List ℕ → Sort

pub data Row : Type 0 where
  -- with its number, its prototype, whether it can't be extended, and its properties
  NewRow : ℕ → Sort → ListedValue → Bool → List ListedProperty → Row
  CellRow : ℕ → ListedValue → Row
  -- what differs of an object of the realm: whether it can't be extended, the keys that are gone, the properties that are others, and
  -- those that are new
  RealmRow : ObjNo → Bool → List Key → List ListedProperty → List ListedProperty → Row

abbrev pub listed_value : List Item → Value → ListedValue
listed_value queue (Object o) = if nat_lt o realm_count then RealmObject o else NewObject (rank is_new_object queue (AnObject o))
listed_value queue v = Listed v

abbrev pub listed_property : List Item → Key × Property → ListedProperty
listed_property queue (key, Data p) = DataLine key (listed_value queue p.value) p.writable p.enumerable p.configurable
listed_property queue (key, Accessor p) =
    AccessorLine key (listed_value queue (object_or_undefined p.get)) (listed_value queue (object_or_undefined p.set)) p.enumerable p.configurable

-- ---- what differs of an object of the realm

abbrev pub is_same_property : Property → Property → Bool
is_same_property (Data p) (Data q) = is_same p.value q.value && is_same_truth p.writable q.writable && is_same_truth p.enumerable q.enumerable && is_same_truth p.configurable q.configurable
is_same_property (Accessor p) (Accessor q) = is_same_function p.get q.get && is_same_function p.set q.set && is_same_truth p.enumerable q.enumerable && is_same_truth p.configurable q.configurable
is_same_property _ _ = false

abbrev pub key_position : Key → Properties → Option ℕ
key_position key ps = position (λ (p : Key × Property). is_same_text p.0 key) ps

-- how many of the properties now are the longest front whose keys come in the order of those at the start
abbrev pub old_count : Properties → Properties → ℕ
old_count start [] = 0
old_count start (p ∷ ps) = unwrap_or (option_map (λ n. suc (old_count (drop (suc n) start) ps)) (key_position p.0 start)) 0

abbrev pub gone_keys : Properties → Properties → List Key
gone_keys start old = map (λ (p : Key × Property). p.0) (filter (λ (p : Key × Property). not (is_some (lookup p.0 old))) start)

abbrev pub is_changed : Properties → Key × Property → Bool
is_changed start p = not (unwrap_or (option_map (is_same_property p.1) (lookup p.0 start)) false)

abbrev pub realm_row : List Item → ObjNo → Bool → Properties → Properties → Properties → Row
realm_row queue o fixed start old new =
    RealmRow o fixed (gone_keys start old) (map (listed_property queue) (filter (is_changed start) old)) (map (listed_property queue) new)

abbrev pub differs : Row → Bool
differs (RealmRow o false [] [] []) = false
differs row = true

abbrev pub realm_properties : ObjNo → Properties
realm_properties o = unwrap_or (option_map (λ (state : ObjectState). state.properties) (object_at realm o)) []

abbrev pub row_of_realm : List Item → ObjNo → ObjectState → Row
row_of_realm queue o now =
    let start = realm_properties o in
    let n = old_count start now.properties in
    realm_row queue o (not now.extensible) start (take n now.properties) (drop n now.properties)

-- ---- the listing

-- by the code of a function that has captured these names
module _ (code_of : FuncNo → Names → Script) (free : FreeNames) where
  abbrev pub sort_of : List Item → Class → Sort
  sort_of queue Array = ArrayObject
  sort_of queue (Function f environment strict) =
      let names = captured free f environment in
      FunctionObject (code_of f names) strict (map (λ c. rank is_cell queue (ACell c)) (in_cells environment names))
  sort_of queue class = PlainObject

  abbrev pub object_row : List Item → ObjNo → ObjectState → Row
  object_row queue o state =
      if nat_lt o realm_count then row_of_realm queue o state
      else NewRow (rank is_new_object queue (AnObject o)) (sort_of queue state.class) (listed_value queue (object_or_null state.prototype)) (not state.extensible) (map (listed_property queue) state.properties)

  abbrev pub row_of : Heap → List Item → Item → List Row
  row_of h queue (AnObject o) = unwrap_or (option_map (λ state. object_row queue o state ∷ []) (object_at h o)) []
  row_of h queue (ACell c) = CellRow (rank is_cell queue (ACell c)) (listed_value queue (unwrap_or (cell h c) undefined)) ∷ []

  -- the rows in the order of the walk, without those of the realm in which nothing differs
  unfoldable pub listing_by : Heap → Ending → List Row
  listing_by h ending =
      let queue = queue_of free h ending in
      filter differs (flat_map (row_of h queue) queue)

-- ---- the listing of a heap that names functions of this table; their numbers mean nothing in another one

abbrev pub free_in : List Func → FreeNames
free_in functions = free_names (of_functions functions)

abbrev pub queue : List Func → Heap → Ending → List Item
queue functions h ending = queue_of (free_in functions) h ending

abbrev pub listing : List Func → Heap → Ending → List Row
listing functions h ending = listing_by (code functions) (free_in functions) h ending

-- ---- agreement of two runs: the same host calls, both ended normally or both threw the same as it is listed, and equal listings

abbrev pub IsSameEnding : Ending → List Item → Ending → List Item → Type 0
IsSameEnding Normally queue Normally other_queue = Unit {0}
IsSameEnding (Thrown v) queue (Thrown w) other_queue = listed_value other_queue w ≡ listed_value queue v
IsSameEnding _ queue _ other_queue = ⊥

-- each with the functions that its heap names
abbrev pub Agree : List Func → Outcome → List Func → Outcome → Type 0
Agree functions (Ended calls ending h) others (Ended other_calls other_ending other_h) =
    (other_calls ≡ calls) × IsSameEnding ending (queue functions h ending) other_ending (queue others other_h other_ending) × (listing others other_h other_ending ≡ listing functions h ending)
Agree functions _ others _ = ⊥
