-- The text of a run: its host calls, how it ended, and its listing.
use Rattle.std.specs.Prelude.{true, ℕ, Bool, if◌then◌else◌, List, [], ◌∷◌, ◌++◌, codes, Option, Some, None, unwrap_or}
use Rattle.std.specs.Fmt.{decimal}
use Rattle.std.specs.List.{flat_map}
use Rattle.js_value.specs.Conversions.{to_text}
use Rattle.js_value.specs.Texts.{quoted}
use Rattle.js_value.specs.declared.primitive.Primitive.TheVariants as primitive
use Rattle.js_tree.specs.declared.statement.Func.{Func}
use Rattle.js_tree.specs.declared.statement.Script.{Script}
use Rattle.plain_heap.specs.Heap.{Key}
use Rattle.plain_heap.specs.Values.{Value, Prim, Absent}
use Rattle.js_machine.specs.Machine.Listed.{listing, queue, Listed, NewObject, RealmObject, ListedValue, ListedProperty, DataLine, AccessorLine, Sort, PlainObject, ArrayObject, FunctionObject, Row, NewRow, CellRow, RealmRow, Item, listed_value}
use Rattle.js_machine.specs.Machine.Realm.{realm_name}
use Rattle.js_machine.specs.Machine.Walks.{HostEvent, Ending, Normally, Thrown, Outcome, Ended}
use Rattle.script_text.specs.CodeLine.{code_text}

-- 10 is the line feed
abbrev pub line : List ℕ → List ℕ
line t = t ++ 10 ∷ []

-- ---- values: a literal, a number behind `#`, or the name of an object of the realm

abbrev pub value_text : Value → List ℕ
value_text (Prim (primitive.Text t)) = quoted t
value_text (Prim p) = to_text p
-- a built-in that is left out, of which an attribute was changed
value_text Absent = codes "absent"
-- no run in a world has symbols, and no listing has objects here
value_text v = []

abbrev pub listed_text : ListedValue → List ℕ
listed_text (Listed v) = value_text v
listed_text (NewObject n) = codes "#" ++ decimal n
listed_text (RealmObject o) = unwrap_or (realm_name o) []

-- ---- properties

abbrev pub flag : Bool → List ℕ → List ℕ
flag b letter = if b then letter else codes "-"

abbrev pub property_text : ListedProperty → List ℕ
property_text (DataLine key v w e c) = line (codes "  " ++ quoted key ++ codes " = " ++ listed_text v ++ codes " " ++ flag w (codes "w") ++ flag e (codes "e") ++ flag c (codes "c"))
property_text (AccessorLine key get set e c) =
    line (codes "  " ++ quoted key ++ codes " get " ++ listed_text get ++ codes " set " ++ listed_text set ++ codes " " ++ flag e (codes "e") ++ flag c (codes "c"))

abbrev pub gone_text : Key → List ℕ
gone_text key = line (codes "  -" ++ quoted key)

abbrev pub fixed_text : Bool → List ℕ
fixed_text fixed = if fixed then codes " fixed" else []

abbrev pub strict_text : Bool → List ℕ
strict_text strict = if strict then codes " strict" else []

-- ---- host calls, and how the run ended

abbrev pub arguments_text : List Value → List ℕ
arguments_text [] = []
arguments_text (v ∷ vs) = value_text v ++ flat_map (λ w. codes ", " ++ value_text w) vs

-- whether an answer was thrown is known in a run in a world
abbrev pub answer_text : Value → List ℕ
answer_text (Prim (primitive.Boolean true)) = codes " throws "
answer_text threw = codes " = "

abbrev pub call_text : HostEvent → List ℕ
call_text c = line (codes "call " ++ quoted c.name ++ codes "(" ++ arguments_text c.arguments ++ codes ")" ++ answer_text c.threw ++ value_text c.answer)

abbrev pub ending_text : List Item → Ending → List ℕ
ending_text queue Normally = line (codes "normal")
ending_text queue (Thrown v) = line (codes "throw " ++ listed_text (listed_value queue v))

-- ---- rows

abbrev pub cells_text : List ℕ → List ℕ
cells_text [] = []
cells_text (n ∷ ns) = line (codes "  cells" ++ flat_map (λ m. codes " @" ++ decimal m) (n ∷ ns))

abbrev pub sort_text : Sort → List ℕ
sort_text PlainObject = codes "object"
sort_text ArrayObject = codes "array"
sort_text (FunctionObject code strict cells) = codes "function"

abbrev pub mark_text : Sort → List ℕ
mark_text (FunctionObject code strict cells) = strict_text strict
mark_text sort = []

-- the tokens of a function that stands alone
unfoldable pub code_line : Script → List ℕ
code_line code = code_text code (record { 0 = 0 }) []

abbrev pub code_lines : Sort → List ℕ
code_lines (FunctionObject code strict cells) = line (codes "  code " ++ code_line code) ++ cells_text cells
code_lines sort = []

abbrev pub row_text : Row → List ℕ
row_text (NewRow n sort prototype fixed properties) =
    line (codes "#" ++ decimal n ++ codes " " ++ sort_text sort ++ codes " " ++ listed_text prototype ++ mark_text sort ++ fixed_text fixed) ++ code_lines sort ++ flat_map property_text properties
row_text (CellRow n v) = line (codes "@" ++ decimal n ++ codes " = " ++ listed_text v)
row_text (RealmRow o fixed gone others new) =
    line (unwrap_or (realm_name o) [] ++ fixed_text fixed) ++ flat_map gone_text gone ++ flat_map property_text others ++ flat_map property_text new

-- the queue is that of the walk by which the rows were listed
unfoldable pub run_text : List HostEvent → List Item → Ending → List Row → List ℕ
run_text calls queue ending rows = flat_map call_text calls ++ ending_text queue ending ++ flat_map row_text rows

-- ---- the text of a run that ended, whose heap names functions of this table

abbrev pub outcome_text : List Func → Outcome → Option (List ℕ)
outcome_text functions (Ended calls ending h) = Some (run_text calls (queue functions h ending) ending (listing functions h ending))
outcome_text functions _ = None
