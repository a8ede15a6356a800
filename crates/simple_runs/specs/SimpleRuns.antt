-- How the run of a simple script by the rules of the whole language stands to its run by the rules of simple scripts.
use Rattle.std.specs.Prelude.{◌≡◌, ℕ, Bool, true, false, List, [], ◌++◌, map, Some, IsTrue, unwrap_or}
use Rattle.std.specs.Option.{option_map}
use Rattle.js_value.specs.declared.primitive.Primitive.{Primitive}
use Rattle.simple_scripts.specs.SimpleScripts.{is_simple}
use Rattle.simple_scripts.specs.SimpleNames.{is_simple_name}
use Rattle.js_tree.specs.declared.statement.Script.{Script}
use Rattle.plain_heap.specs.Heap.{Heap, Key, ObjectState, Property, data_property, object_at, set_object}
use Rattle.plain_heap.specs.Methods.{get, GotValue}
use Rattle.plain_heap.specs.Values.{Prim}
use Rattle.simple_runs.specs.Events.{lookup}
use Rattle.simple_runs.specs.Runs as simple
use Rattle.js_machine.specs.Machine.Events.{Leaves}
use Rattle.js_machine.specs.Machine.Choices.{OpenRun, Opened, OpenEnded, Stopped, OpenOutOfSteps, EndsWithin, open_run}
use Rattle.js_machine.specs.Machine.RealmObjects.{global}
use Rattle.js_machine.specs.Machine.Realm.{realm}
use Rattle.js_machine.specs.Machine.Walks.{World, Outcome, Ended, Left, OutOfSteps, Normally, plain}
use Rattle.js_machine.specs.Machine.Worlds.{IsClosed, IsTyped}

-- a variable of global code is a property of the global object, which can be written and enumerated and not be configured
abbrev pub variable : List ℕ × Primitive → Key × Property
variable v = (v.0, data_property (Prim v.1) true true false)

abbrev pub with_variables : List (List ℕ × Primitive) → ObjectState → ObjectState
with_variables vs state = record state { properties = state.properties ++ map variable vs }

-- the objects that are there from the start, with these variables behind the global object's own properties
unfoldable pub realm_with : List (List ℕ × Primitive) → Heap
realm_with vs = unwrap_or (option_map (λ (state : ObjectState). set_object global (with_variables vs state) realm) (object_at realm global)) realm

-- what an outcome by the rules of simple scripts says of the outcome by those of the whole language: a form without a rule is never met
abbrev pub Says : simple.Outcome → Outcome → Type 0
Says (simple.Ended vs) o = o ≡ Ended [] Normally (realm_with vs)
Says (simple.Left why at) o = o ≡ Left why at
Says simple.OutOfSteps o = o ≡ OutOfSteps
Says simple.Unruled o = ⊥

-- the same of a run along choices, which takes none of them
abbrev pub came : Opened → List Bool → OpenRun
came o choices = record { came_to = o; left = choices }

abbrev pub SaysOpened : simple.Opened → List Bool → OpenRun → Type 0
SaysOpened (simple.OpenEnded vs) choices o = o ≡ came (OpenEnded [] Normally (realm_with vs)) choices
SaysOpened (simple.Stopped why at) choices o = o ≡ came (Stopped (Leaves why) at) choices
SaysOpened simple.OpenOutOfSteps choices o = o ≡ came OpenOutOfSteps choices
SaysOpened simple.OpenUnruled choices o = ⊥

pub record SimpleRuns : Type 0 where
  -- the same values of the same variables, the same place and cause, the same count of steps, in any world
  pub runs : (s : Script) (w : World) (n : ℕ) → IsTrue (is_simple s) → Says (simple.plain s n) (plain s w n)
  -- it has no input and no host call, so every world is typed for it
  pub closed : (s : Script) → IsTrue (is_simple s) → IsClosed s
  pub typed : (s : Script) (w : World) → IsTrue (is_simple s) → IsTyped w s
  -- what the global object then gives for the name of a variable
  pub values : (vs : List (List ℕ × Primitive)) (name : List ℕ) (p : Primitive) → IsTrue (is_simple_name name) → lookup name vs ≡ Some p → get (realm_with vs) global name ≡ GotValue (Prim p)
  -- along choices, which it needs none of
  pub opens : (s : Script) (choices : List Bool) (n : ℕ) → IsTrue (is_simple s) → SaysOpened (simple.open_run s choices n) choices (open_run s choices n)
  pub ends_within : (s : Script) (n : ℕ) → IsTrue (is_simple s) → simple.EndsWithin s n → EndsWithin s n
