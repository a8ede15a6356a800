-- What holds wherever enough nodes may be active at once holds of a run, and with its end its text is known.
use Rattle.std.proofs.Common.{◌≡◌, ℕ, [], List, Option}
use Rattle.js_tree.specs.declared.statement.Script.{Script}
use Rattle.js_machine.specs.Machine.Levels.{script_tree, script_tree_within}
use Rattle.js_machine.specs.Machine.Realm.{realm}
use Rattle.js_machine.specs.Machine.RunText.{outcome_text}
use Rattle.js_machine.specs.Machine.Walks.{Outcome, behind, plain, plain_from, walk}
use Rattle.machine_cases.specs.RunCases.{deep, no_world}

module _ (s : Script) (o : Outcome) (run : (d turns : ℕ) → walk no_world 200 [] (script_tree_within (deep d) turns s realm) ≡ o) where
  -- 1,200 is 1,170 beyond thirty
  pub at_most : plain s no_world 200 ≡ o
  unfolding plain_from behind script_tree
  at_most = run 1170 200

  pub text_at_most : (t : Option (List ℕ)) → outcome_text s.funcs o ≡ t → outcome_text s.funcs (plain s no_world 200) ≡ t
  text_at_most t of_end = rw at_most of_end
