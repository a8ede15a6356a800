-- The residual of a script's variables keeps what is promised.
use Rattle.std.proofs.Common.{◌≡◌, ℕ, ◌*◌, ◌≤◌, Bool, true, false, cond, List, [], ◌∷◌, ◌++◌, length, map, refl, ap, sym, ◌∙◌, subst, inl, arith}
use Rattle.std.specs.Prelude.{◌≢◌, Option, Some, Ok, Err}
use Rattle.js_value.specs.declared.place.Place.{Place}
use Rattle.js_value.specs.declared.primitive.Primitive.{Primitive}
use Rattle.js_value.specs.declared.why.Why.{Why}
use Rattle.js_tree.specs.declared.refusal.Feature.TheVariants.{NotBuilt}
use Rattle.js_tree.specs.declared.refusal.ReadRefused.{ReadRefused}
use Rattle.js_tree.specs.declared.refusal.ReadRefused.TheVariants as refused
use Rattle.js_tree.specs.declared.refusal.ReadRefused.TheVariants.{Unsupported}
use Rattle.js_tree.specs.declared.statement.Script.{Script}
use Rattle.js_tree.specs.Count.{nodes}
use Rattle.js_tree.specs.Refusals.{place}
use Rattle.simple_scripts.specs.SimpleScripts.{is_simple}
use Rattle.script_reader.specs.Reads.{reads}
use Rattle.plain_heap.specs.Heap.{Heap, Key}
use Rattle.plain_heap.specs.Values.{ObjNo}
use Rattle.js_machine.specs.Machine.Choices.{OpenRun, OpenEnded, Stopped, EndsOrWants, open_run}
use Rattle.js_machine.specs.Machine.Events.{Leaves}
use Rattle.js_machine.specs.Machine.Listed.{ListedProperty, Row, RealmRow, listing}
use Rattle.js_machine.specs.Machine.RealmObjects.{global}
use Rattle.js_machine.specs.Machine.Walks.{World, HostEvent, Ending, Outcome, Ended, Normally, plain}
use Rattle.simple_runs.specs.Listing.{line, listing as simple_listing}
use Rattle.simple_runs.specs.Runs as simple
use Rattle.simple_runs.specs.SimpleListings.{SimpleListings, line_of, row_of}
use Rattle.simple_runs.specs.SimpleRuns.{SimpleRuns, Says, SaysOpened, came, realm_with}
use Rattle.prepack_core.specs.declared.evaluate.Stop.{Stop}
use Rattle.prepack_core.specs.declared.evaluate.Stop.TheVariants as stop
use Rattle.prepack_core.specs.declared.report.Report.{Report}
use Rattle.prepack_core.specs.Evaluates.{Evaluates, IsReportOf, report_of_refusal}
use Rattle.residual_form.specs.Snapshot.{snapshot}
use Rattle.script_text.specs.Printing.{script_text}
use Rattle.prepack_core.specs.Written.{Rebuilds}
use Rattle.prepack_core.specs.Promises.{if_built, taken, variable_in, AreVariables, IsResidualOf, IsFinished, IsReason, IsUnsupported}

-- a source within the limit has fewer nodes than the least budget
pub few_steps : (nodes length steps : ℕ) → 21 * nodes ≤ 20 * length → length ≤ 1048576 → 1000000 ≤ steps → nodes ≤ steps
few_steps nodes length steps few short enough = omega arith

-- a simple script is taken
pub taken-simple : (source : List ℕ) (s : Script) (b : Bool) → reads source 200 ≡ Ok s → b ≡ is_simple s → b ≡ true → taken source ≡ Ok s
unfolding taken
taken-simple source s b read is simple = ap if_built read ∙ ap (λ c. cond c (Ok s) (Err (Unsupported (place 0) NotBuilt))) (sym is ∙ simple)

-- another script isn't built
pub taken-not_built : (source : List ℕ) (s : Script) (b : Bool) → reads source 200 ≡ Ok s → b ≡ is_simple s → b ≡ false → IsUnsupported source (place 0) NotBuilt
unfolding taken
taken-not_built source s b read is other = ap if_built read ∙ ap (λ c. cond c (Ok s) (Err (Unsupported (place 0) NotBuilt))) (sym is ∙ other)

taken-refused : (source : List ℕ) (e : ReadRefused) → reads source 200 ≡ Err e → taken source ≡ Err e
unfolding taken
taken-refused source e read = ap if_built read

-- the report of a refusal says why the source has no residual
pub refused_reason : (n : ℕ) (source : List ℕ) (e : ReadRefused) (r : Report) → (e ≢ refused.NoMemory → reads source 200 ≡ Err e) → r ≡ report_of_refusal e → IsReason n source r
refused_reason n source (refused.Syntax at) r gives is = rw is (taken-refused source (refused.Syntax at) (gives (λ same. cc)))
refused_reason n source (refused.Unsupported at feature) r gives is = rw is (taken-refused source (refused.Unsupported at feature) (gives (λ same. cc)))
refused_reason n source (refused.Nested at) r gives is = rw is (taken-refused source (refused.Nested at) (gives (λ same. cc)))
refused_reason n source refused.NoMemory r gives is = rw is tt

-- ---- simple scripts by the rules of the whole language

module _ (law : SimpleRuns) (s : Script) (is : is_simple s ≡ true) where
  says_ended : (o : simple.Outcome) (p : Outcome) (vs : List (List ℕ × Primitive)) → o ≡ simple.Ended vs → Says o p → p ≡ Ended [] Normally (realm_with vs)
  says_ended o p vs ended says = rw ended at says

  ends : (w : World) (n : ℕ) (vs : List (List ℕ × Primitive)) → simple.plain s n ≡ simple.Ended vs → plain s w n ≡ Ended [] Normally (realm_with vs)
  ends w n vs ended = says_ended (simple.plain s n) (plain s w n) vs ended (law.runs s w n is)

  says_opened : (o : simple.Opened) (choices : List Bool) (r : OpenRun) (vs : List (List ℕ × Primitive)) → o ≡ simple.OpenEnded vs → SaysOpened o choices r → EndsOrWants r.came_to
  says_opened o choices r vs ended says = let opened : r ≡ came (OpenEnded [] Normally (realm_with vs)) choices = rw ended at says in rw opened tt

  opens : (choices : List Bool) (n : ℕ) (vs : List (List ℕ × Primitive)) → simple.plain s n ≡ simple.Ended vs → EndsOrWants (open_run s choices n).came_to
  unfolding simple.open_run
  opens choices n vs ended = says_opened (simple.open_run s choices n) choices (open_run s choices n) vs (ap simple.opened ended) (law.opens s choices n is)

  says_stopped : (o : simple.Opened) (choices : List Bool) (r : OpenRun) (why : Why) (at : Place) → o ≡ simple.Stopped why at → SaysOpened o choices r → r ≡ came (Stopped (Leaves why) at) choices
  says_stopped o choices r why at stopped says = rw stopped at says

  stops : (choices : List Bool) (n : ℕ) (why : Why) (at : Place) → simple.plain s n ≡ simple.Left why at → open_run s choices n ≡ came (Stopped (Leaves why) at) choices
  unfolding simple.open_run
  stops choices n why at left = says_stopped (simple.open_run s choices n) choices (open_run s choices n) why at (ap simple.opened left) (law.opens s choices n is)

-- ---- what a simple script leaves

same_heap : (calls made : List HostEvent) (e f : Ending) (h g : Heap) → Ended calls e h ≡ Ended made f g → h ≡ g
same_heap calls made e f h g same = cc

no_row : (vs : List (List ℕ × Primitive)) → map row_of (simple_listing vs) ≡ [] → vs ≡ []
no_row [] none = refl
no_row (v ∷ vs) none = cc

some_first : (v u : List ℕ × Primitive) (os ps : List (Option (List ℕ × Primitive))) → Some v ∷ os ≡ Some u ∷ ps → v ≡ u
some_first v u os ps same = cc

some_rest : (v u : List ℕ × Primitive) (os ps : List (Option (List ℕ × Primitive))) → Some v ∷ os ≡ Some u ∷ ps → os ≡ ps
some_rest v u os ps same = cc

some_same : (vs us : List (List ℕ × Primitive)) → map (λ v. Some v) vs ≡ map (λ v. Some v) us → vs ≡ us
some_same [] [] same = refl
some_same [] (u ∷ us) same = cc
some_same (v ∷ vs) [] same = cc
some_same (v ∷ vs) (u ∷ us) same =
    let os = map (λ (v : List ℕ × Primitive). Some v) vs in
    let ps = map (λ (v : List ℕ × Primitive). Some v) us in
    ap (λ w. w ∷ vs) (some_first v u os ps same) ∙ ap (λ ws. u ∷ ws) (some_same vs us (some_rest v u os ps same))

lines_in : (vs : List (List ℕ × Primitive)) → map variable_in (map line_of (map line vs)) ≡ map (λ v. Some v) vs
lines_in [] = refl
lines_in (v ∷ vs) = ap (λ rest. Some v ∷ rest) (lines_in vs)

-- the variables that a row of variables shows are these
same_lines : (o p : ObjNo) (f g : Bool) (gone lost : List Key) (others others2 new new2 : List ListedProperty) (rest : List Row)
    → RealmRow o f gone others new ∷ [] ≡ RealmRow p g lost others2 new2 ∷ rest → (others ≡ others2) × (new ≡ new2)
same_lines o p f g gone lost others others2 new new2 rest same = (cc, cc)

are_these : (s : Script) (vs us : List (List ℕ × Primitive)) → AreVariables s (map row_of (simple_listing vs)) us → vs ≡ us
are_these s [] us are = absurd (nonempty are.row)
  where
    nonempty : {A : Type 0} {x : A} {xs : List A} → [] ≡ x ∷ xs → ⊥
    nonempty same = cc
are_these s (v ∷ vs) us are =
    let same = same_lines global global false are.fixed [] [] [] are.others (map line_of (map line (v ∷ vs))) are.new [] are.row in
    some_same (v ∷ vs) us (sym (lines_in (v ∷ vs)) ∙ ap (λ ls. map variable_in ls) same.1 ∙ ap (λ ls. map variable_in (ls ++ are.new)) same.0 ∙ are.lines)

pub residual_of : (n : ℕ) (source text : List ℕ) (s : Script) (vs : List (List ℕ × Primitive)) → SimpleRuns → SimpleListings → is_simple s ≡ true → reads source 200 ≡ Ok s → nodes s ≤ n
    → Evaluates s (Ok vs) → Rebuilds vs text → IsResidualOf n source text
unfolding snapshot script_text
residual_of n source text s vs law listings is read enough runs written = record {
  script = s;
  reads_source = read;
  residual = written.residual;
  reads_back = written.reads_back;
  form = written.form;
  fresh = written.fresh s;
  text = written.text;
  alike = λ w typed stays.
      listings.agree s.funcs written.residual.funcs (simple.Ended vs) (simple.Ended vs) (plain s w n) (plain written.residual w (nodes written.residual)) (ends law s is w n vs (runs n enough)) (written.runs w) refl;
  paths = λ choices. opens law s is choices n vs (runs n enough);
  variables = λ closed w calls h us ran are has. written.spelled ∙ ap (λ us. script_text (snapshot us)) (are_these s vs us (subst (λ rows. AreVariables s rows us) (listed w calls h ran) are));
  nothing = λ closed w calls h ran none. written.spelled ∙ ap (λ us. script_text (snapshot us)) (no_row vs (sym (listed w calls h ran) ∙ none));
}
  where
    listed : (w : World) (calls : List HostEvent) (h : Heap) → plain s w n ≡ Ended calls Normally h → listing s.funcs h Normally ≡ map row_of (simple_listing vs)
    listed w calls h ran =
        ap (λ g. listing s.funcs g Normally) (same_heap calls [] Normally Normally h (realm_with vs) (sym ran ∙ ends law s is w n vs (runs n enough)))
        ∙ listings.rows s.funcs vs

-- an outcome that ended has opened to its end
opened_end : (o : simple.Outcome) (vs : List (List ℕ × Primitive)) → o ≡ simple.Ended vs → simple.IsOpenEnded (simple.opened o)
opened_end o vs ended = rw ended tt

-- a simple script that ends is one that the budget is enough for
pub finished_of : (n : ℕ) (source : List ℕ) (s : Script) (vs : List (List ℕ × Primitive)) → SimpleRuns → is_simple s ≡ true → taken source ≡ Ok s → nodes s ≤ n → Evaluates s (Ok vs) → IsFinished n source
unfolding simple.open_run
finished_of n source s vs law is takes enough runs =
    (s, takes, record { ends = λ choices. opens law s is choices n vs (runs n enough); few = inl (law.ends_within s n is (opened_end (simple.plain s n) vs (runs n enough))) })

pub reason_of : (n : ℕ) (source : List ℕ) (s : Script) (stopped : Stop) (r : Report) → SimpleRuns → is_simple s ≡ true → taken source ≡ Ok s → nodes s ≤ n → Evaluates s (Err stopped) → IsReportOf stopped r → IsReason n source r
reason_of n source s (stop.Left d) r law is read enough runs reported =
    let stopped = stops law s is [] n d.why d.at (runs n enough) in
    rw reported (s, read, ap (λ o. o.left) stopped, ap (λ o. o.came_to) stopped)
reason_of n source s stop.NoMemory r law is read enough runs reported = rw reported tt
