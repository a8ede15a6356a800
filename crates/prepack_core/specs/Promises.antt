-- What the program promises of a source and of what it writes for it.
use Rattle.std.specs.Prelude.{◌≡◌, ℕ, ◌≤◌, ◌⊎◌, Bool, if◌then◌else◌, List, [], ◌∷◌, ◌++◌, map, Option, Some, None, Result, Ok, Err, IsTrue, All, Contains, codes}
use Rattle.js_value.specs.declared.place.Place.{Place}
use Rattle.js_value.specs.declared.primitive.Primitive.{Primitive}
use Rattle.js_value.specs.declared.primitive.Primitive.TheVariants as primitive
use Rattle.js_value.specs.declared.why.Why.{Why}
use Rattle.js_tree.specs.declared.statement.Script.{Script}
use Rattle.js_tree.specs.declared.refusal.Feature.{Feature}
use Rattle.js_tree.specs.declared.refusal.Feature.TheVariants.{NotBuilt}
use Rattle.js_tree.specs.declared.refusal.ReadRefused.{ReadRefused}
use Rattle.js_tree.specs.declared.refusal.ReadRefused.TheVariants.{Syntax, Unsupported, Nested}
use Rattle.js_tree.specs.Count.{nodes}
use Rattle.js_tree.specs.Flat.{is_flat}
use Rattle.js_tree.specs.Mentions.{Names, hoisted_vars, hoisted_functions, names_of}
use Rattle.simple_scripts.specs.SimpleScripts.{is_simple}
use Rattle.js_tree.specs.Refusals.{place}
use Rattle.plain_heap.specs.Heap.{Heap}
use Rattle.plain_heap.specs.Values.{Prim}
use Rattle.js_machine.specs.Machine.Choices.{Stopped, open_run, IsWhole, EndsWithin, EndsOrWants}
use Rattle.residual_form.specs.Form.{is_residual, is_fresh}
use Rattle.residual_form.specs.Snapshot.{snapshot}
use Rattle.script_text.specs.Printing.{script_text}
use Rattle.js_machine.specs.Machine.Events.{Leaves}
use Rattle.js_machine.specs.Machine.Listed.{Listed, ListedProperty, DataLine, Row, RealmRow, listing, Agree}
use Rattle.js_machine.specs.Machine.RealmObjects.{global}
use Rattle.js_machine.specs.Machine.Walks.{World, HostEvent, Outcome, Ended, Left, Normally, plain}
use Rattle.js_machine.specs.Machine.Worlds.{IsClosed, IsTyped}
use Rattle.script_reader.specs.Reads.{reads}
use Rattle.prepack_core.specs.declared.report.Report.{Report}
use Rattle.prepack_core.specs.declared.report.Report.TheVariants as report

-- ---- the script that is taken from a text

-- simple scripts alone are evaluated yet
abbrev pub if_built : Result Script ReadRefused → Result Script ReadRefused
if_built (Ok s) = if is_simple s then Ok s else Err (Unsupported (place 0) NotBuilt)
if_built (Err e) = Err e

-- The script of a text, or why it isn't evaluated. Every fault of reading comes before that it isn't built.
unfoldable pub taken : List ℕ → Result Script ReadRefused
taken text = if_built (reads text 200)

-- ---- residuals

abbrev pub IsLeft : Outcome → Type 0
IsLeft (Left why at) = Unit {0}
IsLeft _ = ⊥

-- 10.5: the variables and the functions of the global code
abbrev pub declared_names : Script → Names
declared_names s = hoisted_vars s.body ++ names_of 0 s.funcs (hoisted_functions s.body)

-- the name and the primitive of a line
abbrev pub variable_in : ListedProperty → Option (List ℕ × Primitive)
variable_in (DataLine key (Listed (Prim p)) writable enumerable configurable) = Some (key, p)
variable_in _ = None

-- There is no row but that of the global object, and its lines are these variables: declared names that hold primitives other than the
-- string `__proto__`.
pub record AreVariables (s : Script) (rows : List Row) (vs : List (List ℕ × Primitive)) : Type 0 where
  pub fixed : Bool
  pub others : List ListedProperty
  pub new : List ListedProperty
  pub row : rows ≡ RealmRow global fixed [] others new ∷ []
  pub lines : map variable_in (others ++ new) ≡ map (λ v. Some v) vs
  pub declared : All (λ (v : List ℕ × Primitive). Contains (declared_names s) v.0 × (v.1 ≡ primitive.Text (codes "__proto__") → ⊥)) vs

-- a script has by itself this listing
abbrev pub HasListing : Script → List Row → Type 0
HasListing r rows =
    (w : World) → (calls : List HostEvent) × (h : Heap) × (plain r w (nodes r) ≡ Ended calls Normally h) × (listing r.funcs h Normally ≡ rows)

-- The text written is a residual of the source, under a budget of steps for the source.
pub record IsResidualOf (n : ℕ) (source written : List ℕ) : Type 0 where
  -- the source is a script
  pub script : Script
  pub reads_source : reads source 200 ≡ Ok script
  -- what is written is a script in residual form, whose temporaries are none of the source's names, and the text of that script
  pub residual : Script
  pub reads_back : reads written 1024 ≡ Ok residual
  pub form : IsTrue (is_residual residual)
  pub fresh : IsTrue (is_fresh residual script)
  pub text : written ≡ script_text residual
  -- In every world in which the source's run doesn't leave the profile, both end, with the same host calls, the same completion
  -- and equal listings. The residual takes no more steps than it has nodes.
  pub alike : (w : World) → IsTyped w script → (IsLeft (plain script w n) → ⊥)
      → Agree script.funcs (plain script w n) residual.funcs (plain residual w (nodes residual))
  -- along every list of choices the source ends or wants a choice
  pub paths : (choices : List Bool) → EndsOrWants (open_run script choices n).came_to
  -- where a closed source leaves variables alone, the residual is their `var` statement
  pub variables : IsClosed script → (w : World) (calls : List HostEvent) (h : Heap) (vs : List (List ℕ × Primitive)) → plain script w n ≡ Ended calls Normally h
      → AreVariables script (listing script.funcs h Normally) vs → HasListing (snapshot vs) (listing script.funcs h Normally) → written ≡ script_text (snapshot vs)
  -- where it leaves nothing, nothing is written
  pub nothing : IsClosed script → (w : World) (calls : List HostEvent) (h : Heap) → plain script w n ≡ Ended calls Normally h
      → listing script.funcs h Normally ≡ [] → written ≡ []

-- ---- sources without a residual

-- the source is a script whose run along these choices, all of which it takes, stops at a place, since it leaves the profile there
abbrev pub IsStuck : ℕ → List ℕ → Place → Why → List Bool → Type 0
IsStuck n source at why choices = (s : Script) × (taken source ≡ Ok s) × IsWhole s choices n × ((open_run s choices n).came_to ≡ Stopped (Leaves why) at)

-- Along every list of choices a script ends or wants a choice; all these runs together take few steps, or it is flat and has few nodes.
pub record Finishes (s : Script) (n : ℕ) : Type 0 where
  pub ends : (choices : List Bool) → EndsOrWants (open_run s choices n).came_to
  pub few : EndsWithin s n ⊎ (IsTrue (is_flat s) × (nodes s ≤ n))

-- the source is a script that ends within the budget
abbrev pub IsFinished : ℕ → List ℕ → Type 0
IsFinished n source = (s : Script) × (taken source ≡ Ok s) × Finishes s n

-- the source is no script, at this place
abbrev pub IsNoScript : List ℕ → Place → Type 0
IsNoScript source at = taken source ≡ Err (Syntax at)

-- the source isn't read, for a feature at a place
abbrev pub IsUnsupported : List ℕ → Place → Feature → Type 0
IsUnsupported source at feature = taken source ≡ Err (Unsupported at feature)

-- the source isn't read, since something at a place is nested too deep
abbrev pub IsNested : List ℕ → Place → Type 0
IsNested source at = taken source ≡ Err (Nested at)

-- why a source of at most the limit has no residual
abbrev pub IsReason : ℕ → List ℕ → Report → Type 0
IsReason n source (report.Syntax at) = IsNoScript source at
IsReason n source (report.Unsupported at feature) = IsUnsupported source at feature
IsReason n source (report.Nested at) = IsNested source at
IsReason n source (report.Stuck at why) = IsStuck n source at why []
IsReason n source report.NoMemory = Unit {0}
IsReason n source _ = ⊥
