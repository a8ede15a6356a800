-- The run of a whole script.
use Rattle.std.proofs.Common.{◌≡◌, ℕ, ◌+◌, true, false, List, [], ◌∷◌, refl, ap, ◌∙◌}
use Rattle.std.specs.Prelude.{Ok, Some, None}
use Rattle.js_tree.specs.Mentions.{Names, hoisted_vars}
use Rattle.js_tree.specs.declared.statement.Script.{Script}
use Rattle.plain_heap.specs.Heap.{Heap, ObjectState, Property, set_object}
use Rattle.plain_heap.specs.Methods.{checked_key, data_fields}
use Rattle.plain_heap.specs.Values.{Value, undefined}
use Rattle.js_machine.specs.Machine.Events.{End, Fail, in_turn}
use Rattle.js_machine.specs.Machine.Expressions.{Completion, site}
use Rattle.js_machine.specs.Machine.Functions as functions
use Rattle.js_machine.specs.Machine.Levels.{Setting, beginning, evaluation, script_tree_within}
use Rattle.js_machine.specs.Machine.Objects as objects
use Rattle.js_machine.specs.Machine.RealmObjects.{global}
use Rattle.js_machine.specs.Machine.References.{global_context}
use Rattle.js_machine.specs.Machine.Statements.{statements}
use Rattle.js_machine.specs.Machine.Walks.{World, Ended, Normally, Thrown, walk}
use Rattle.residual_runs.specs.Runs.{State, Runs, Throws}
use Rattle.residual_runs.specs.Statements.{Defines, execute}
use Rattle.residual_runs.proofs.Runs.{at_once, sums}
use Rattle.residual_runs.proofs.Statements.{define_is}
use Rattle.residual_frames.specs.Scripts.{own_of_global, binding, setting, Binds, ScriptsRun}

module _ (set : Setting) (most : ℕ) (w : World) where
  there : (name : List ℕ) (names : Names) (s after : State) (i : ℕ) (p : Property) → checked_key name ≡ Ok name → own_of_global name s.heap ≡ Some p
      → Runs w (binding set most w names) s i tt after → Runs w (binding set most w (name ∷ names)) s i tt after
  unfolding objects.get_own_property
  there name names s after i p named own runs = record { at = λ n k r. rw named (rw own (runs.at n k r)) }

  new : (name : List ℕ) (names : Names) (s after : State) (i : ℕ) (state : ObjectState) → own_of_global name s.heap ≡ None → Defines s.heap global name (data_fields undefined true true false) state
      → Runs w (binding set most w names) (record s { heap = set_object global state s.heap }) i tt after → Runs w (binding set most w (name ∷ names)) s i tt after
  unfolding objects.get_own_property
  new name names s after i state own defines runs = record {
    at = λ n k r.
        rw defines.named (rw own
        (ap (walk w (i + n) s.calls) (define_is (site (evaluation set most most) beginning) global name (data_fields undefined true true false) true s.heap state defines (λ _ s. binding set most w names s k r) r)
        ∙ runs.at n k r));
  }

module _ (script : Script) (most turns : ℕ) (w : World) (h : Heap) where
  -- the events of the code behind what binds its variables
  code_is : {mid : State} {i : ℕ} → Binds script most turns w h mid i
      → script_tree_within most turns script h
      ≡ binding (setting script most turns w h) most w (hoisted_vars script.body) h (λ _ s. statements (execute (setting script most turns w h) most (global_context script.directive) most) script.body s (λ completion s. End s) Fail) Fail
  unfolding functions.enter_global
  code_is binds =
      ap (λ fs. in_turn (functions.bind_global_function script.funcs (site (evaluation (setting script most turns w h) most most) beginning) script.directive) fs h (λ _ s. binding (setting script most turns w h) most w (hoisted_vars script.body) s (λ _ s. statements (execute (setting script most turns w h) most (global_context script.directive) most) script.body s (λ completion s. End s) Fail) Fail) Fail)
      binds.no_functions

  ends : (mid after : State) (i j n : ℕ) (completion : Completion) → Binds script most turns w h mid i
      → Runs w (statements (execute (setting script most turns w h) most (global_context script.directive) most) script.body) mid j completion after
      → walk w ((i + j) + n) [] (script_tree_within most turns script h) ≡ Ended after.calls Normally after.heap
  ends mid after i j n completion binds runs =
      ap (walk w ((i + j) + n) []) (code_is binds)
      ∙ ap (λ n. walk w n [] (binding (setting script most turns w h) most w (hoisted_vars script.body) h (λ _ s. statements (execute (setting script most turns w h) most (global_context script.directive) most) script.body s (λ completion s. End s) Fail) Fail)) (sums i j n)
      ∙ binds.bound.at (j + n) (λ _ s. statements (execute (setting script most turns w h) most (global_context script.directive) most) script.body s (λ completion s. End s) Fail) Fail
      ∙ runs.at n (λ completion s. End s) Fail

  throws : (mid after : State) (i j n : ℕ) (v : Value) → Binds script most turns w h mid i
      → Throws w (statements (execute (setting script most turns w h) most (global_context script.directive) most) script.body) mid j v after
      → walk w ((i + j) + n) [] (script_tree_within most turns script h) ≡ Ended after.calls (Thrown v) after.heap
  throws mid after i j n v binds runs =
      ap (walk w ((i + j) + n) []) (code_is binds)
      ∙ ap (λ n. walk w n [] (binding (setting script most turns w h) most w (hoisted_vars script.body) h (λ _ s. statements (execute (setting script most turns w h) most (global_context script.directive) most) script.body s (λ completion s. End s) Fail) Fail)) (sums i j n)
      ∙ binds.bound.at (j + n) (λ _ s. statements (execute (setting script most turns w h) most (global_context script.directive) most) script.body s (λ completion s. End s) Fail) Fail
      ∙ runs.at n (λ completion s. End s) Fail

pub scripts_run : ScriptsRun
scripts_run = record {
  bindings = λ set most w. record { none = λ s. at_once w (λ k r. refl); there = there set most w; new = new set most w };
  scripts = λ script most turns w h. record { ends = ends script most turns w h; throws = throws script most turns w h };
}
