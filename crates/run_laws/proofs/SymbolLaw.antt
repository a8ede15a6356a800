-- Of each script: its run in a world, and its run along this world's own choices, from the realm.
use Rattle.std.proofs.Common.{◌≡◌, refl, ℕ, [], arith}
use Rattle.js_tree.specs.declared.statement.Script.{Script}
use Rattle.plain_heap.specs.Values.{Prim}
use Rattle.js_machine.specs.Machine.Choices.{open_run}
use Rattle.js_machine.specs.Machine.Levels.{script_tree}
use Rattle.js_machine.specs.Machine.Realm.{realm}
use Rattle.js_machine.specs.Machine.Walks.{World, plain, plain_from, behind}
use Rattle.related_states.specs.Related.{none}
use Rattle.related_runs.proofs.Levels.{script_trees}
use Rattle.related_runs.proofs.Itself.{same_script}
use Rattle.run_laws.specs.SymbolLaw.{valued, Valued, choices_of, SymbolsValued}
use Rattle.run_laws.proofs.Meant.{meanings}
use Rattle.run_laws.proofs.RealmItself.{realm_itself}
use Rattle.run_laws.proofs.Followed.{follows, takes_all}

module _ (w : World) where
  run_valued : (s : Script) (n : ℕ) → Valued w (plain s w n) (open_run s (choices_of w s n) n).came_to
  unfolding plain_from behind open_run
  run_valued s n = (script_trees (follows w) (meanings w) s s (same_script (valued w) s (λ ns d f. record { names = d; same = refl }) (λ ns f g h. h)) n realm realm (realm_itself (valued w) (λ o. refl) (λ o q e. e) refl refl)).at
      n [] [] none [] (record { at = λ s b e. grind (arith, e) })

  run_whole : (s : Script) (n : ℕ) → (open_run s (choices_of w s n) n).left ≡ []
  unfolding open_run
  run_whole s n = takes_all w n [] [] (script_tree n s realm)

pub symbols_valued : SymbolsValued
symbols_valued = record {
  valued = run_valued;
  whole = run_whole;
}
