-- How the listing of what a simple script leaves stands to its listing by the rules of simple scripts.
use Rattle.std.specs.Prelude.{◌≡◌, ℕ, false, List, [], map}
use Rattle.js_value.specs.declared.primitive.Primitive.{Primitive}
use Rattle.js_tree.specs.declared.statement.Func.{Func}
use Rattle.plain_heap.specs.Values.{Prim}
use Rattle.simple_runs.specs.Listing as simple
use Rattle.simple_runs.specs.Runs as simple_runs
use Rattle.js_machine.specs.Machine.Listed.{Listed, ListedProperty, DataLine, Row, RealmRow, listing, Agree}
use Rattle.js_machine.specs.Machine.RealmObjects.{global}
use Rattle.js_machine.specs.Machine.Walks.{Outcome, Normally}
use Rattle.simple_runs.specs.SimpleRuns.{realm_with, Says}

abbrev pub line_of : simple.Line → ListedProperty
line_of l = DataLine l.key (Listed (Prim l.value)) l.writable l.enumerable l.configurable

-- nothing differs of the global object but that these properties are new
abbrev pub row_of : simple.Row → Row
row_of (simple.GlobalObject lines) = RealmRow global false [] [] (map line_of lines)

-- whatever functions the heap may name, of which a simple script makes none
pub record SimpleListings : Type 0 where
  -- the same row with the same lines in the same order, or none
  pub rows : (functions : List Func) (vs : List (List ℕ × Primitive)) → listing functions (realm_with vs) Normally ≡ map row_of (simple.listing vs)
  -- runs that agree by the rules of simple scripts agree
  pub agree : (functions others : List Func) (a b : simple_runs.Outcome) (o p : Outcome) → Says a o → Says b p → simple.Agree a b → Agree functions o others p
