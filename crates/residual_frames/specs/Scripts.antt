-- How a script of a residual runs as a whole: the variables of global code are bound, and then its statements run (10.5, 14).
use Rattle.std.specs.Prelude.{◌≡◌, ℕ, ◌+◌, true, false, List, [], ◌∷◌, Ok, Option, Some, None}
use Rattle.std.specs.Option.{option_and_then}
use Rattle.js_tree.specs.Mentions.{Names, hoisted_functions, hoisted_vars}
use Rattle.js_tree.specs.declared.statement.Script.{Script}
use Rattle.plain_heap.specs.Heap.{Heap, ObjectState, Property, object_at, set_object}
use Rattle.plain_heap.specs.Methods.{checked_key, data_fields, own_property}
use Rattle.plain_heap.specs.Values.{Value, undefined}
use Rattle.js_machine.specs.Machine.Events.{Run, in_turn}
use Rattle.js_machine.specs.Machine.Expressions.{Completion, site}
use Rattle.js_machine.specs.Machine.Functions.{bind_global_var}
use Rattle.js_machine.specs.Machine.Levels.{Setting, beginning, evaluation, script_tree_within}
use Rattle.js_machine.specs.Machine.RealmObjects.{global}
use Rattle.js_machine.specs.Machine.References.{global_context}
use Rattle.js_machine.specs.Machine.Statements.{statements}
use Rattle.js_machine.specs.Machine.Walks.{World, Ended, Normally, Thrown, walk}
use Rattle.residual_runs.specs.Runs.{State, Runs, Throws}
use Rattle.residual_runs.specs.Statements.{Defines, execute}

abbrev pub own_of_global : List ℕ → Heap → Option Property
own_of_global name h = option_and_then (own_property name) (object_at h global)

module _ (set : Setting) (most : ℕ) (w : World) where
  -- the variables of global code are bound, one after another
  abbrev pub binding : Names → Run (Unit {0})
  binding names = in_turn (bind_global_var (site (evaluation set most most) beginning)) names

  pub record BindingsRun : Type 0 where
    pub none : (s : State) → Runs w (binding []) s 0 tt s
    -- one that the global object has, and one that it gets
    pub there : (name : List ℕ) (names : Names) (s after : State) (i : ℕ) (p : Property) → checked_key name ≡ Ok name → own_of_global name s.heap ≡ Some p
        → Runs w (binding names) s i tt after → Runs w (binding (name ∷ names)) s i tt after
    pub new : (name : List ℕ) (names : Names) (s after : State) (i : ℕ) (state : ObjectState) → own_of_global name s.heap ≡ None → Defines s.heap global name (data_fields undefined true true false) state
        → Runs w (binding names) (record s { heap = set_object global state s.heap }) i tt after → Runs w (binding (name ∷ names)) s i tt after

module _ (script : Script) (most turns : ℕ) (w : World) (h : Heap) where
  abbrev pub setting : Setting
  setting = record { functions = script.funcs; turns = turns }

  abbrev pub start : State
  start = record { calls = []; heap = h }

  -- a script without function declarations whose variables are bound in so many steps
  pub record Binds (mid : State) (i : ℕ) : Type 0 where
    pub no_functions : hoisted_functions script.body ≡ []
    pub bound : Runs w (binding setting most w (hoisted_vars script.body)) start i tt mid

  pub record ScriptRuns : Type 0 where
    -- with at least as many steps the script ends, or throws, as its statements do
    pub ends : (mid after : State) (i j n : ℕ) (completion : Completion) → Binds mid i → Runs w (statements (execute setting most (global_context script.directive) most) script.body) mid j completion after
        → walk w ((i + j) + n) [] (script_tree_within most turns script h) ≡ Ended after.calls Normally after.heap
    pub throws : (mid after : State) (i j n : ℕ) (v : Value) → Binds mid i → Throws w (statements (execute setting most (global_context script.directive) most) script.body) mid j v after
        → walk w ((i + j) + n) [] (script_tree_within most turns script h) ≡ Ended after.calls (Thrown v) after.heap

pub record ScriptsRun : Type 0 where
  pub bindings : (set : Setting) (most : ℕ) (w : World) → BindingsRun set most w
  pub scripts : (script : Script) (most turns : ℕ) (w : World) (h : Heap) → ScriptRuns script most turns w h
