-- The text of the residual of variables gives back a script that rebuilds them.
use Rattle.std.proofs.Common.{◌≡◌, ℕ, List, [], ap, sym, ◌∙◌, subst, arith}
use Rattle.std.specs.Prelude.{Ok, IsTrue}
use Rattle.std.specs.List.{IsDistinct}
use Rattle.std.specs.Map.{keys_of}
use Rattle.std.specs.Str.{bytes_eq}
use Rattle.js_value.specs.declared.primitive.Primitive.{Primitive}
use Rattle.js_tree.specs.Count.{nodes}
use Rattle.js_tree.specs.declared.statement.Script.{Script}
use Rattle.js_grammar.specs.Checked.{read_checked}
use Rattle.js_grammar.specs.Readable.{is_readable}
use Rattle.residual_form.specs.Small.{is_without_wrapper}
use Rattle.residual_form.specs.SmallForm.{SmallForm}
use Rattle.residual_form.specs.Snapshot.{snapshot}
use Rattle.script_text.specs.Printing.{script_text}
use Rattle.script_reader.specs.Reads.{read_tokens, reads}
use Rattle.js_machine.specs.Machine.Walks.{World, Ended, Normally, plain}
use Rattle.js_printer.specs.GivesBack.{GivesBack}
use Rattle.place_free_text.specs.SameText.{SameText}
use Rattle.simple_runs.specs.Placed.{Places, placed}
use Rattle.simple_runs.specs.PlainVariables.{are_plain_variables}
use Rattle.simple_runs.specs.SimpleRuns.{realm_with}
use Rattle.prepack_core.specs.Written.{Rebuilds}
use Rattle.prepack_core.proofs.LowSnapshots.{low}
use Rattle.prepack_core.proofs.Placing.{placing}
use Rattle.prepack_core.proofs.ReadableSnapshots.{readable}

-- what is said of the residual of variables, wherever its parts lie
abbrev pub HasNoWrapper : Type 0
HasNoWrapper = (vs : List (List ℕ × Primitive)) (at : ℕ) (places : ℕ → Places) → IsTrue (are_plain_variables vs) → IsTrue (is_without_wrapper (placed at places vs))

abbrev pub LeavesThem : Type 0
LeavesThem =
    (vs : List (List ℕ × Primitive)) (at : ℕ) (places : ℕ → Places) (w : World) → IsTrue (are_plain_variables vs) → IsDistinct bytes_eq (keys_of vs)
    → plain (placed at places vs) w (nodes (placed at places vs)) ≡ Ended [] Normally (realm_with vs)

module _ (vs : List (List ℕ × Primitive)) (written : List ℕ) (plain_ones : IsTrue (are_plain_variables vs)) (back : GivesBack written (snapshot vs)) where
  read_so : read_checked back.tokens 1024 ≡ Ok back.reads.tree
  read_so = back.within 1024 (omega (arith, low vs))

  reads_so : reads written 1024 ≡ Ok back.reads.tree
  unfolding reads
  reads_so = ap (λ r. read_tokens r 1024) back.lexes ∙ read_so

  rebuilt : HasNoWrapper → LeavesThem → SmallForm → SameText → IsDistinct bytes_eq (keys_of vs) → written ≡ script_text (snapshot vs) → Rebuilds vs written
  rebuilt bare leaves small same_text distinct spelled =
      let tree = back.reads.tree in
      let is = placing tree vs back.reads.same in
      let without : IsTrue (is_without_wrapper tree) = subst (λ (t : Script). IsTrue (is_without_wrapper t)) (sym is.same) (bare vs is.at is.places plain_ones) in
      record {
        spelled = spelled;
        residual = tree;
        reads_back = reads_so;
        form = small.form tree without;
        fresh = λ s. small.fresh tree s without;
        text = spelled ∙ same_text (snapshot vs) tree (sym back.reads.same);
        runs = λ w. subst (λ (t : Script). plain t w (nodes t) ≡ Ended [] Normally (realm_with vs)) (sym is.same) (leaves vs is.at is.places w plain_ones distinct);
      }

pub written_so : (vs : List (List ℕ × Primitive)) (s : Script) (bytes written : List ℕ) → s ≡ snapshot vs → written ≡ bytes → bytes ≡ script_text s → (IsTrue (is_readable s) → GivesBack bytes s)
    → IsTrue (are_plain_variables vs) → IsDistinct bytes_eq (keys_of vs) → HasNoWrapper → LeavesThem → SmallForm → SameText → Rebuilds vs written
written_so vs s bytes written is same text back plain_ones distinct bare leaves small same_text =
    let readable_so : IsTrue (is_readable s) = subst (λ (t : Script). IsTrue (is_readable t)) (sym is) (readable vs plain_ones) in
    let gives : GivesBack written (snapshot vs) = subst (λ (b : List ℕ). GivesBack b (snapshot vs)) (sym same) (subst (λ (t : Script). GivesBack bytes t) is (back readable_so)) in
    rebuilt vs written plain_ones gives bare leaves small same_text distinct (same ∙ text ∙ ap script_text is)
