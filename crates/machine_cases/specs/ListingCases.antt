-- Listings of heaps, worked out by hand.
use Rattle.std.specs.Prelude.{◌≡◌, true, false, if◌then◌else◌, map, List, [], ◌∷◌, ◌++◌, codes, Option, Some, None, unwrap_or}
use Rattle.std.specs.Option.{option_map}
use Rattle.js_value.specs.Conversions.{is_same_text}
use Rattle.js_value.specs.declared.place.FuncNo.{FuncNo}
use Rattle.js_tree.specs.Mentions.{Names}
use Rattle.js_tree.specs.Trees.{no, declared, func, script}
use Rattle.js_tree.specs.declared.statement.Script.{Script}
use Rattle.plain_heap.specs.Heap.{Accessor, Array, new_cell, Heap, Key, Property, Properties, ObjectState, Plain, data_property, add_object, object_at, set_object, without}
use Rattle.plain_heap.specs.Methods.{length_key}
use Rattle.plain_heap.specs.Values.{Object, ObjNo, undefined, null, number}
use Rattle.js_machine.specs.Machine.Listed.{AccessorLine, ArrayObject, CellRow, Listed, NewObject, RealmObject, DataLine, PlainObject, FunctionObject, Row, NewRow, RealmRow, listing_by}
use Rattle.js_machine.specs.Machine.RealmObjects.{global, object_prototype, function_prototype, array_prototype}
use Rattle.js_machine.specs.Machine.Realm.{realm}
use Rattle.js_machine.specs.Machine.Walks.{Ending, Normally, Thrown}
use Rattle.machine_cases.specs.MethodCases.{depth_below}
use Rattle.js_machine.specs.Machine.Creating.{function_state, prototype_state}

-- In the place of its code a function shows its number, as a place, and the free names that it has captured, as its parameters.
abbrev pub shown : FuncNo → Names → Script
shown f names = script [] (func f.0 None (map (λ name. declared 0 name) names) [] ∷ [])

-- where no function has free names
abbrev pub rows : Heap → Ending → List Row
rows h ending = listing_by shown (λ f. []) h ending

-- an object with other properties
abbrev pub changed : ObjNo → (Properties → Properties) → Heap → Heap
changed o f h = unwrap_or (option_map (λ (state : ObjectState). set_object o (record state { properties = f state.properties }) h) (object_at h o)) h

abbrev pub added : ObjNo → Key → Property → Heap → Heap
added o key p h = changed o (λ ps. ps ++ (key, p) ∷ []) h

abbrev pub plain : Option ObjNo → Properties → ObjectState
plain prototype properties = record { class = Plain; prototype = prototype; depth = depth_below prototype; extensible = true; properties = properties }

-- a variable of global code that holds an object
abbrev pub holding : Key → ObjNo → Heap → Heap
holding key o h = added global key (data_property (Object o) true true false) h

-- ---- the heap after `var x = 3;`

abbrev pub after_number : Heap
after_number = added global (codes "x") (data_property (number 3) true true false) realm

abbrev pub number_rows : List Row
number_rows = RealmRow global false [] [] (DataLine (codes "x") (Listed (number 3)) true true false ∷ []) ∷ []

-- ---- after `var a = {}; a.self = a;`

abbrev pub after_cycle : Heap
after_cycle = add_object (plain (Some object_prototype) ((codes "self", data_property (Object 41) true true true) ∷ [])) (holding (codes "a") 41 realm)

abbrev pub cycle_rows : List Row
cycle_rows =
    RealmRow global false [] [] (DataLine (codes "a") (NewObject 1) true true false ∷ [])
    ∷ NewRow 1 PlainObject (RealmObject object_prototype) false (DataLine (codes "self") (NewObject 1) true true true ∷ [])
    ∷ []

-- ---- after `function F() {} var p = F.prototype; F.prototype = {};`

abbrev pub after_function : Heap
after_function =
    add_object (plain (Some object_prototype) []) (add_object (prototype_state 41) (add_object (function_state (no 0) [] false 0 43) (holding (codes "p") 42 (holding (codes "F") 41 realm))))

abbrev pub function_rows : List Row
function_rows =
    RealmRow global false [] [] (DataLine (codes "F") (NewObject 1) true true false ∷ DataLine (codes "p") (NewObject 2) true true false ∷ [])
    ∷ NewRow 1 (FunctionObject (shown (no 0) []) false []) (RealmObject function_prototype) false
    (DataLine (codes "length") (Listed (number 0)) false false false ∷ DataLine (codes "prototype") (NewObject 3) true false false ∷ [])
    ∷ NewRow 2 PlainObject (RealmObject object_prototype) false (DataLine (codes "constructor") (NewObject 1) true false true ∷ [])
    ∷ NewRow 3 PlainObject (RealmObject object_prototype) false []
    ∷ []

-- ---- after `var a = Object.create(null); a.k = 1; Object.defineProperty = 1; delete Array.prototype.push;`

abbrev pub set_to_one : Properties → Properties
set_to_one ps = map (λ (p : Key × Property). if is_same_text p.0 (codes "defineProperty") then (p.0, data_property (number 1) true false true) else p) ps

abbrev pub after_realm_changes : Heap
after_realm_changes =
    changed array_prototype (without (codes "push")) (changed 2 set_to_one (add_object (plain None ((codes "k", data_property (number 1) true true true) ∷ [])) (holding (codes "a") 41 realm)))

abbrev pub realm_change_rows : List Row
realm_change_rows =
    RealmRow global false [] [] (DataLine (codes "a") (NewObject 1) true true false ∷ [])
    ∷ RealmRow 2 false [] (DataLine (codes "defineProperty") (Listed (number 1)) true false true ∷ []) []
    ∷ NewRow 1 PlainObject (Listed null) false (DataLine (codes "k") (Listed (number 1)) true true true ∷ [])
    ∷ RealmRow array_prototype false (codes "push" ∷ []) [] []
    ∷ []

-- ---- after `Array.prototype.x = 1; delete this.Array;`

abbrev pub after_deletion : Heap
after_deletion = changed global (without (codes "Array")) (added array_prototype (codes "x") (data_property (number 1) true true true) realm)

abbrev pub deletion_rows : List Row
deletion_rows =
    RealmRow global false (codes "Array" ∷ []) [] [] ∷ RealmRow array_prototype false [] [] (DataLine (codes "x") (Listed (number 1)) true true true ∷ []) ∷ []

-- ---- after `throw {k: 1};`, where the object has no name

abbrev pub after_throw : Heap
after_throw = add_object (plain (Some object_prototype) ((codes "k", data_property (number 1) true true true) ∷ [])) realm

abbrev pub throw_rows : List Row
throw_rows = NewRow 1 PlainObject (RealmObject object_prototype) false (DataLine (codes "k") (Listed (number 1)) true true true ∷ []) ∷ []

-- ---- an array that can't be extended and has an accessor whose getter is an object of the realm

abbrev pub fixed_array : ObjectState
fixed_array = record {
  class = Array;
  prototype = Some array_prototype;
  depth = 2;
  extensible = false;
  properties =
      (length_key, data_property (number 1) true false false)
      ∷ (codes "0", Accessor (record { get = Some function_prototype; set = None; enumerable = true; configurable = false }))
      ∷ [];
}

abbrev pub after_array : Heap
after_array = add_object fixed_array (holding (codes "a") 41 realm)

abbrev pub array_rows : List Row
array_rows =
    RealmRow global false [] [] (DataLine (codes "a") (NewObject 1) true true false ∷ [])
    ∷ NewRow 1 ArrayObject (RealmObject array_prototype) true (DataLine length_key (Listed (number 1)) true false false ∷ AccessorLine (codes "0") (RealmObject function_prototype) (Listed undefined) true false ∷ [])
    ∷ []

-- ---- a function that has captured a cell: after `var f = (function () { var n = 1; return function () { return n; }; })();`, where the
-- outer function is left out, and a second free name is one of the global object

abbrev pub after_capture : Heap
after_capture = new_cell (number 1) (add_object (prototype_state 41) (add_object (function_state (no 0) ((codes "n", 0) ∷ []) false 0 42) (holding (codes "f") 41 realm)))

abbrev pub capture_rows : List Row
capture_rows =
    RealmRow global false [] [] (DataLine (codes "f") (NewObject 1) true true false ∷ [])
    ∷ NewRow 1 (FunctionObject (shown (no 0) (codes "n" ∷ [])) false (1 ∷ [])) (RealmObject function_prototype) false
    (DataLine (codes "length") (Listed (number 0)) false false false ∷ DataLine (codes "prototype") (NewObject 2) true false false ∷ [])
    ∷ NewRow 2 PlainObject (RealmObject object_prototype) false (DataLine (codes "constructor") (NewObject 1) true false true ∷ [])
    ∷ CellRow 1 (Listed (number 1))
    ∷ []

pub record ListingCases : Type 0 where
  pub nothing : rows realm Normally ≡ []
  pub a_number : rows after_number Normally ≡ number_rows
  pub a_cycle : rows after_cycle Normally ≡ cycle_rows
  pub a_function : rows after_function Normally ≡ function_rows
  pub realm_changes : rows after_realm_changes Normally ≡ realm_change_rows
  pub a_deletion : rows after_deletion Normally ≡ deletion_rows
  pub thrown_object : rows after_throw (Thrown (Object 41)) ≡ throw_rows
  pub unreached_object : rows after_throw Normally ≡ []
  pub an_array : rows after_array Normally ≡ array_rows
  pub a_capture : listing_by shown (λ f. codes "n" ∷ codes "m" ∷ []) after_capture Normally ≡ capture_rows
