-- Heaps that runs leave, worked out by hand.
use Rattle.std.specs.Prelude.{true, false, length, ◌+◌, [], ◌∷◌, codes, Some, None}
use Rattle.js_tree.specs.Trees.{no}
use Rattle.plain_heap.specs.Heap.{Accessor, Heap, ObjectState, Plain, Properties, data_property, depth_at, add_object, new_cell, set_cell}
use Rattle.plain_heap.specs.Values.{Object, Value, number, truth}
use Rattle.machine_cases.specs.ListingCases.{added, holding, plain}
use Rattle.js_machine.specs.Machine.RealmObjects.{global, object_prototype}
use Rattle.js_machine.specs.Machine.Realm.{realm}
use Rattle.js_machine.specs.Machine.Creating.{function_state, prototype_state}

-- an object that a literal makes on a heap that began as `start`
abbrev literal_on : Heap → Properties → ObjectState
literal_on start properties = record { class = Plain; prototype = Some object_prototype; depth = depth_at start (Some object_prototype); extensible = true; properties = properties }

-- what `make` makes where 43 objects and no cells are
abbrev pub made_by : Heap → Heap
made_by before =
    new_cell (number 0)
    (add_object (prototype_state 46) (add_object (function_state (no 2) ((codes "n", 0) ∷ []) false 0 47)
    (add_object (prototype_state 44) (add_object (function_state (no 1) ((codes "n", 0) ∷ []) false 0 45)
    (add_object (literal_on before ((codes "inc", data_property (Object 44) true true true) ∷ (codes "get", data_property (Object 46) true true true) ∷ [])) before)))))

-- after two calls of `inc`
abbrev pub counter_from : Heap → Heap
counter_from start =
    set_cell 0 (number 2) (made_by (add_object (prototype_state 41) (add_object (function_state (no 0) [] false 0 42)
    (holding (codes "c") 43 (holding (codes "make") 41 start)))))

abbrev pub after_counter : Heap
after_counter = counter_from realm

-- what a call of the maker makes, by its argument
abbrev pub reader_by : Value → Heap → Heap
reader_by v before =
    let o = length before.objects in
    new_cell v (add_object (prototype_state o) (add_object (function_state (no 1) ((codes "n", length before.cells) ∷ []) false 0 (o + 1)) before))

abbrev pub makers_from : Heap → Heap
makers_from start =
    reader_by (number 3) (reader_by (number 2) (reader_by (number 1)
    (add_object (prototype_state 41) (add_object (function_state (no 0) [] false 1 42)
    (holding (codes "c") 47 (holding (codes "b") 45 (holding (codes "a") 43 (holding (codes "make") 41 start))))))))

abbrev pub after_makers : Heap
after_makers = makers_from realm

abbrev pub after_inherited_setter : Heap
after_inherited_setter =
    add_object (plain (Some object_prototype) ((codes "value", data_property (number 1) true true true) ∷ (codes "writable", data_property (truth true) true true true) ∷ []))
    (add_object (record (plain (Some 41) ((codes "v", data_property (number 1) true false false) ∷ [])) { depth = 2 })
    (add_object (prototype_state 43) (add_object (function_state (no 0) [] false 1 44)
    (add_object (plain (Some object_prototype) ((codes "set", data_property (Object 43) true true true) ∷ []))
    (add_object (plain (Some object_prototype) ((codes "v", Accessor (record { get = None; set = Some 43; enumerable = false; configurable = false })) ∷ []))
    (added global (codes "hits") (data_property (number 0) true true false) (holding (codes "o") 45 (holding (codes "p") 41 realm))))))))

abbrev pub after_throwing_setter : Heap
after_throwing_setter =
    add_object (prototype_state 43) (add_object (function_state (no 0) [] false 0 44)
    (add_object (plain (Some object_prototype) ((codes "set", data_property (Object 43) true true true) ∷ (codes "configurable", data_property (truth true) true true true) ∷ []))
    (add_object (plain (Some object_prototype) ((codes "v", data_property (number 1) true true true) ∷ []))
    (added object_prototype (codes "v") (Accessor (record { get = None; set = Some 43; enumerable = false; configurable = true }))
    (holding (codes "o") 41 realm)))))
