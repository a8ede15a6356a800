-- What the text of the residual of variables says.
use Rattle.std.specs.Prelude.{◌≡◌, ℕ, List, [], Ok, IsTrue}
use Rattle.js_value.specs.declared.primitive.Primitive.{Primitive}
use Rattle.js_tree.specs.Count.{nodes}
use Rattle.js_tree.specs.declared.statement.Script.{Script}
use Rattle.residual_form.specs.Form.{is_residual, is_fresh}
use Rattle.residual_form.specs.Snapshot.{snapshot}
use Rattle.script_text.specs.Printing.{script_text}
use Rattle.script_reader.specs.Reads.{reads}
use Rattle.js_machine.specs.Machine.Walks.{World, Ended, Normally, plain}
use Rattle.simple_runs.specs.SimpleRuns.{realm_with}

-- The text is that of the variables' `var` statement. It reads back to a script in residual form with this text, fresh for every
-- source, which leaves the variables.
pub record Rebuilds (vs : List (List ℕ × Primitive)) (written : List ℕ) : Type 0 where
  pub spelled : written ≡ script_text (snapshot vs)
  pub residual : Script
  pub reads_back : reads written 1024 ≡ Ok residual
  pub form : IsTrue (is_residual residual)
  pub fresh : (s : Script) → IsTrue (is_fresh residual s)
  pub text : written ≡ script_text residual
  pub runs : (w : World) → plain residual w (nodes residual) ≡ Ended [] Normally (realm_with vs)
