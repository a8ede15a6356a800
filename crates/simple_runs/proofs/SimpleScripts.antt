-- A simple script runs by the rules of the whole language as by its own.
use Rattle.std.proofs.Common.{◌≡◌, ℕ, zero, suc, ◌≤◌, Bool, true, false, List, [], ◌∷◌, ◌++◌, map, drop, refl, ap, sym, ◌∙◌, arith}
use Rattle.std.specs.Prelude.{not, ◌&&◌, ◌||◌, Some}
use Rattle.std.specs.List.{list_all, list_any, flat_map}
use Rattle.std.proofs.lemmas.Bool.{and_parts}
use Rattle.std.proofs.lemmas.Cmp.{nat_list_eq_equiv}
use Rattle.std.proofs.lemmas.List.Concat.{flat_map-append}
use Rattle.std.proofs.lemmas.List.Folds.{list_all-append}
use Rattle.std.specs.Str.{bytes_eq}
use Rattle.js_tree.specs.Mentions.{Names, vars_in, form_vars, joined, declares, hoisted_vars, hoisted_functions, distinct_behind}
use Rattle.js_tree.specs.Parts.{is_among, declarators_in, has_functions}
use Rattle.simple_scripts.specs.Simple.{names_in_init, declarators_of, declared_names, read_names, reads_declared}
use Rattle.simple_scripts.specs.SimpleScripts.{is_simple, is_simple_declarator, is_simple_init, is_simple_form, is_simple_statement}
use Rattle.simple_scripts.specs.SimpleNames.{is_simple_name}
use Rattle.js_tree.specs.declared.statement.Case.{Case}
use Rattle.js_tree.specs.declared.statement.Catch.{Catch}
use Rattle.js_tree.specs.declared.statement.Declarator.{Declarator}
use Rattle.js_tree.specs.declared.statement.Finally.{Finally}
use Rattle.js_tree.specs.declared.statement.Script.{Script}
use Rattle.js_tree.specs.declared.statement.Stmt.{Stmt}
use Rattle.js_tree.specs.declared.statement.StmtForm.{StmtForm, out-StmtForm}
use Rattle.js_tree.specs.declared.statement.StmtForm.TheFolds.{fold_out-StmtForm, fold_out-Stmt}
use Rattle.js_tree.specs.declared.statement.StmtForm.TheOpen.{StmtForm-F}
use Rattle.plain_heap.specs.Heap.{Heap, ObjectState}
use Rattle.plain_heap.specs.Methods.{get}
use Rattle.simple_runs.specs.Events as simple
use Rattle.simple_runs.specs.Runs as simple_runs
use Rattle.simple_runs.specs.Simple as rules
use Rattle.js_machine.specs.Machine.Choices.{Kept, OpenRun, OpenEnded, EndsOrWants, EndsWithin, open_walk, open_steps, open_run}
use Rattle.js_machine.specs.Machine.Expressions.{site}
use Rattle.js_machine.specs.Machine.Functions.{enter_global}
use Rattle.js_machine.specs.Machine.Levels.{Setting, script_tree, script_tree_within, most_active, evaluation, beginning, within}
use Rattle.js_machine.specs.Machine.References.{global_context}
use Rattle.js_machine.specs.Machine.RealmObjects.{global, object_prototype}
use Rattle.js_machine.specs.Machine.Realm.{realm}
use Rattle.js_machine.specs.Machine.Statements.{statements}
use Rattle.js_machine.specs.Machine.Events.{Tree, End, Fail}
use Rattle.js_machine.specs.Machine.Walks.{behind, World, Ended, Normally, walk, plain, plain_from}
use Rattle.simple_runs.specs.SimpleRuns.{realm_with, came, Says, SaysOpened, SimpleRuns}
use Rattle.simple_runs.proofs.Declaring.{entered}
use Rattle.simple_runs.proofs.GlobalNames.{heap_with, got_value}
use Rattle.simple_runs.proofs.GlobalVariables.{global_own, no_own}
use Rattle.simple_runs.proofs.NoInputs.{simple_closed, simple_typed}
use Rattle.simple_runs.proofs.SimpleExpressions.{Follows}
use Rattle.simple_runs.proofs.SimpleStatements.{is_among_declared, are_among_declared, statements_follow}
use Rattle.simple_runs.proofs.Variables.{declare_all, all_more, declare_all_bound, plain_declare_all}

-- ---- the names that a simple script declares

abbrev names_of : List Declarator → List (List ℕ)
names_of ds = flat_map (λ (d : Declarator). d.name ∷ []) ds

abbrev read_in : List Declarator → List (List ℕ)
read_in ds = flat_map (λ (d : Declarator). names_in_init d.init) ds

names_mapped : (ds : List Declarator) → map (λ (d : Declarator). d.name) ds ≡ names_of ds
names_mapped [] = refl
names_mapped (d ∷ ds) = ap (λ ns. d.name ∷ ns) (names_mapped ds)

vars_by_form : (s : Stmt) (l : StmtForm-F StmtForm Case Catch Finally Stmt) → out-StmtForm s.form ≡ l → is_simple_form l ≡ true → vars_in s ≡ names_of (declarators_in l)
vars_by_form s (StmtForm-F.Var ds) is form =
    let by_form = fold_out-StmtForm Names Names Names Names Names form_vars (λ c. joined c.body) (λ c. joined c.body) (λ f. joined f.body) (λ s. s.form) s.form in
    fold_out-Stmt Names Names Names Names Names form_vars (λ c. joined c.body) (λ c. joined c.body) (λ f. joined f.body) (λ s. s.form) s ∙ (rw is at by_form) ∙ names_mapped ds
vars_by_form s _ is form = cc

declared_first : (s : Stmt) (ss : List Stmt) → declared_names (s ∷ ss) ≡ names_of (declarators_in (out-StmtForm s.form)) ++ declared_names ss
declared_first s ss = flat_map-append (λ (d : Declarator). d.name ∷ []) (declarators_in (out-StmtForm s.form)) (declarators_of ss)

read_first : (s : Stmt) (ss : List Stmt) → read_names (s ∷ ss) ≡ read_in (declarators_in (out-StmtForm s.form)) ++ read_names ss
read_first s ss = flat_map-append (λ (d : Declarator). names_in_init d.init) (declarators_in (out-StmtForm s.form)) (declarators_of ss)

vars_are : (ss : List Stmt) → list_all is_simple_statement ss ≡ true → flat_map vars_in ss ≡ declared_names ss
vars_are [] all = refl
vars_are (s ∷ ss) all =
    let parts = and_parts (is_simple_statement s) (list_all is_simple_statement ss) all in
    ap (λ ns. ns ++ flat_map vars_in ss) (vars_by_form s (out-StmtForm s.form) refl parts.0) ∙ ap (λ ns. names_of (declarators_in (out-StmtForm s.form)) ++ ns) (vars_are ss parts.1) ∙ sym (declared_first s ss)

declares_none : (l : StmtForm-F StmtForm Case Catch Finally Stmt) → is_simple_form l ≡ true → declares l ≡ []
declares_none (StmtForm-F.Var ds) form = refl
declares_none _ form = cc

no_functions : (ss : List Stmt) → list_all is_simple_statement ss ≡ true → hoisted_functions ss ≡ []
unfolding hoisted_functions
no_functions [] all = refl
no_functions (s ∷ ss) all =
    let parts = and_parts (is_simple_statement s) (list_all is_simple_statement ss) all in
    rw (declares_none (out-StmtForm s.form) parts.0) (no_functions ss parts.1)

vars_hoisted : (ss : List Stmt) → list_all is_simple_statement ss ≡ true → hoisted_vars ss ≡ distinct_behind [] (declared_names ss)
unfolding hoisted_vars
vars_hoisted ss all = ap (distinct_behind []) (vars_are ss all)

-- ---- each declarator is a simple one of names that are declared

declarators_simple : (l : StmtForm-F StmtForm Case Catch Finally Stmt) → is_simple_form l ≡ true → list_all is_simple_declarator (declarators_in l) ≡ true
declarators_simple (StmtForm-F.Var ds) form = form
declarators_simple _ form = cc

names_simple : (ds : List Declarator) → list_all is_simple_declarator ds ≡ true → list_all is_simple_name (names_of ds) ≡ true
names_simple [] all = refl
names_simple (d ∷ ds) all =
    let parts = and_parts (is_simple_declarator d) (list_all is_simple_declarator ds) all in
    rw ((and_parts (is_simple_name d.name) (is_simple_init d.init) parts.0).0) (names_simple ds parts.1)

declared_simple : (ss : List Stmt) → list_all is_simple_statement ss ≡ true → list_all is_simple_name (declared_names ss) ≡ true
declared_simple [] all = refl
declared_simple (s ∷ ss) all =
    let parts = and_parts (is_simple_statement s) (list_all is_simple_statement ss) all in
    let ds = declarators_in (out-StmtForm s.form) in
    rw (declared_first s ss, list_all-append is_simple_name (names_of ds) (declared_names ss), names_simple ds (declarators_simple (out-StmtForm s.form) parts.0)) (declared_simple ss parts.1)

declarators_among : (names : List (List ℕ)) (ds : List Declarator) → list_all is_simple_declarator ds ≡ true → list_all (is_among names) (names_of ds) ≡ true → list_all (is_among names) (read_in ds) ≡ true
    → list_all (is_among_declared names) ds ≡ true
declarators_among names [] all declared read = refl
declarators_among names (d ∷ ds) all declared read =
    let parts = and_parts (is_simple_declarator d) (list_all is_simple_declarator ds) all in
    let these = and_parts (is_among names d.name) (list_all (is_among names) (names_of ds)) declared in
    let those = and_parts (list_all (is_among names) (names_in_init d.init)) (list_all (is_among names) (read_in ds)) (sym (list_all-append (is_among names) (names_in_init d.init) (read_in ds)) ∙ read) in
    rw (parts.0, these.0, those.0) (declarators_among names ds parts.1 these.1 those.1)

all_among_declared : (names : List (List ℕ)) (ss : List Stmt) → list_all is_simple_statement ss ≡ true → list_all (is_among names) (declared_names ss) ≡ true → list_all (is_among names) (read_names ss) ≡ true
    → list_all (are_among_declared names) ss ≡ true
all_among_declared names [] all declared read = refl
all_among_declared names (s ∷ ss) all declared read =
    let parts = and_parts (is_simple_statement s) (list_all is_simple_statement ss) all in
    let ds = declarators_in (out-StmtForm s.form) in
    let these = and_parts (list_all (is_among names) (names_of ds)) (list_all (is_among names) (declared_names ss)) (sym (ap (list_all (is_among names)) (declared_first s ss) ∙ list_all-append (is_among names) (names_of ds) (declared_names ss)) ∙ declared) in
    let those = and_parts (list_all (is_among names) (read_in ds)) (list_all (is_among names) (read_names ss)) (sym (ap (list_all (is_among names)) (read_first s ss) ∙ list_all-append (is_among names) (read_in ds) (read_names ss)) ∙ read) in
    rw (declarators_among names ds (declarators_simple (out-StmtForm s.form) parts.0) these.0 those.0) (all_among_declared names ss parts.1 these.1 those.1)

among_more : (n : List ℕ) (names : List (List ℕ)) (m : List ℕ) → is_among names m ≡ true → is_among (n ∷ names) m ≡ true
among_more n names m among = by_first (bytes_eq m n)
  where
    by_first : (b : Bool) → (b || list_any (bytes_eq m) names) ≡ true
    by_first true = refl
    by_first false = among

among_themselves : (names : List (List ℕ)) → list_all (is_among names) names ≡ true
among_themselves [] = refl
among_themselves (n ∷ names) = rw (nat_list_eq_equiv.refl n) (all_more (is_among names) (is_among (n ∷ names)) names (among_more n names) (among_themselves names))

-- ---- the heaps

pub other_objects : List ObjectState
other_objects = drop 1 realm.objects

abbrev pub with_names : simple.Heap → Heap
with_names = heap_with global_own (Some object_prototype) other_objects

abbrev FollowsIt : simple.Tree → Tree → Type 0
FollowsIt = Follows global_own (Some object_prototype) other_objects

pub starts : realm ≡ with_names []
unfolding realm other_objects
starts = refl

pub realm_is : (vs : simple.Heap) → realm_with vs ≡ with_names vs
unfolding realm realm_with other_objects
realm_is vs = refl

-- ---- the script

code_follows : (most turns : ℕ) (s : Script) → s.directive ≡ false → 60 ≤ most → list_all is_simple_statement s.body ≡ true → reads_declared s.body ≡ true
    → FollowsIt (rules.script_tree s) (script_tree_within most turns s realm)
unfolding rules.script_tree enter_global reads_declared realm
code_follows zero turns s sloppy deep forms read = absurd (omega (arith, deep))
code_follows (suc d) turns s sloppy deep forms read =
    let names = declared_names s.body in
    let set : Setting = record { functions = s.funcs; turns = turns } in
    let start = statements ((within set (suc d) (suc d)).stmt (global_context false)) s.body in
    rw (
      sloppy,
      no_functions s.body forms,
      vars_hoisted s.body forms,
      starts,
      entered global_own (Some object_prototype) other_objects no_own (site (evaluation set (suc d) (suc d)) beginning) [] names [] (λ _ h. start h (λ completion h. End h) Fail) Fail (declared_simple s.body forms) refl,
    )
    (statements_follow global_own (Some object_prototype) other_objects no_own set (suc d) d (omega (arith, deep)) names s.body (declare_all [] names) (λ _ vs. simple.End vs) (λ completion h. End h) Fail
    forms (all_among_declared names s.body forms (among_themselves names) read) (declare_all_bound names [], plain_declare_all names [] refl) (λ vs ready. refl))

walk_follows : (w : World) (n : ℕ) (t : simple.Tree) (u : Tree) → FollowsIt t u → Says (simple_runs.walk n t) (walk w n [] u)
walk_follows w zero (simple.Step at t) u f = ap (walk w zero []) f.1
walk_follows w (suc n) (simple.Step at t) u f = rw f.1 (walk_follows w n t f.0 f.2)
walk_follows w n (simple.Leave why at) u f = ap (walk w n []) f
walk_follows w n (simple.End vs) u f = ap (walk w n []) f ∙ ap (Ended [] Normally) (sym (realm_is vs))
walk_follows w n simple.NoRule u f = absurd f

open_follows : (n : ℕ) (kept : Kept) (choices : List Bool) (t : simple.Tree) (u : Tree) → FollowsIt t u → SaysOpened (simple_runs.opened (simple_runs.walk n t)) choices (open_walk n [] kept choices u)
open_follows zero kept choices (simple.Step at t) u f = ap (open_walk zero [] kept choices) f.1
open_follows (suc n) kept choices (simple.Step at t) u f = rw f.1 (open_follows n kept choices t f.0 f.2)
open_follows n kept choices (simple.Leave why at) u f = ap (open_walk n [] kept choices) f
open_follows n kept choices (simple.End vs) u f = ap (open_walk n [] kept choices) f ∙ ap (λ h. came (OpenEnded [] Normally h) choices) (sym (realm_is vs))
open_follows n kept choices simple.NoRule u f = absurd f

few_follow : (n calls : ℕ) (kept : Kept) (t : simple.Tree) (u : Tree) → FollowsIt t u → simple_runs.IsOpenEnded (simple_runs.opened (simple_runs.walk n t)) → open_steps calls kept u ≤ n
few_follow zero calls kept (simple.Step at t) u f ended = absurd ended
few_follow (suc n) calls kept (simple.Step at t) u f ended = rw f.1 (omega (arith, few_follow n calls kept t f.0 f.2 ended))
few_follow n calls kept (simple.Leave why at) u f ended = absurd ended
few_follow n calls kept (simple.End vs) u f ended = rw f (omega arith)
few_follow n calls kept simple.NoRule u f ended = absurd f

-- ---- the laws

not_true : (b : Bool) → not b ≡ true → b ≡ false
not_true true is = sym is
not_true false is = refl

follows_script : (turns : ℕ) (s : Script) → is_simple s ≡ true → FollowsIt (rules.script_tree s) (script_tree turns s realm)
unfolding is_simple script_tree
follows_script turns s is =
    let read = and_parts (not s.directive && not (has_functions s.funcs) && list_all is_simple_statement s.body) (reads_declared s.body) is in
    let forms = and_parts (not s.directive && not (has_functions s.funcs)) (list_all is_simple_statement s.body) read.0 in
    code_follows most_active turns s (not_true s.directive (and_parts (not s.directive) (not (has_functions s.funcs)) forms.0).0) (omega arith) forms.1 read.1

pub runs_as_simple : (s : Script) (w : World) (n : ℕ) → is_simple s ≡ true → Says (simple_runs.plain s n) (plain s w n)
unfolding simple_runs.plain behind plain_from
runs_as_simple s w n is = walk_follows w n (rules.script_tree s) (script_tree n s realm) (follows_script n s is)

opens_as_simple : (s : Script) (choices : List Bool) (n : ℕ) → is_simple s ≡ true → SaysOpened (simple_runs.open_run s choices n) choices (open_run s choices n)
unfolding simple_runs.plain simple_runs.open_run open_run
opens_as_simple s choices n is = open_follows n [] choices (rules.script_tree s) (script_tree n s realm) (follows_script n s is)

ends_as_said : (o : simple_runs.Opened) (choices : List Bool) (r : OpenRun) → simple_runs.IsOpenEnded o → SaysOpened o choices r → EndsOrWants r.came_to
ends_as_said (simple_runs.OpenEnded vs) choices r is says = rw says tt
ends_as_said _ choices r is says = absurd is

ends_as_simple : (s : Script) (n : ℕ) → is_simple s ≡ true → simple_runs.EndsWithin s n → EndsWithin s n
unfolding simple_runs.plain simple_runs.open_run
ends_as_simple s n is ended = record {
  few = few_follow n 0 [] (rules.script_tree s) (script_tree n s realm) (follows_script n s is) ended;
  ends = λ choices. ends_as_said (simple_runs.open_run s choices n) choices (open_run s choices n) ended (opens_as_simple s choices n is);
}

pub simple_runs_hold : SimpleRuns
simple_runs_hold = record {
  runs = runs_as_simple;
  closed = simple_closed;
  typed = λ s w is. simple_typed s is w;
  values = λ vs name p is bound. ap (λ h. get h global name) (realm_is vs) ∙ got_value global_own (Some object_prototype) other_objects no_own name is vs p bound;
  opens = opens_as_simple;
  ends_within = ends_as_simple;
}
