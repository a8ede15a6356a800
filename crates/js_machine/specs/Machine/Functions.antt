-- Entering code (10.4), calls and constructions of functions (13.2.1, 13.2.2), declaration binding in global code (10.5).
use Rattle.std.specs.Prelude.{ℕ, ◌&&◌, Bool, true, false, not, if◌then◌else◌, List, [], slice_get, codes, Option, Some, None}
use Rattle.js_value.specs.declared.place.FuncNo.{FuncNo}
use Rattle.js_value.specs.declared.place.Place.{Place}
use Rattle.js_value.specs.declared.primitive.Primitive.TheVariants as primitive
use Rattle.js_value.specs.declared.why.Why.TheVariants.{PrimitiveThis}
use Rattle.js_tree.specs.Mentions.{hoisted_functions, hoisted_vars}
use Rattle.js_tree.specs.declared.statement.Func.{Func}
use Rattle.js_tree.specs.declared.statement.Stmt.{Stmt}
use Rattle.plain_heap.specs.Values.{Value, Prim, Object, ObjNo, undefined}
use Rattle.plain_heap.specs.Heap.{Property, Data, Accessor, Plain, Environment}
use Rattle.plain_heap.specs.Methods.{data_fields}
use Rattle.js_machine.specs.Machine.Expressions.{site, Completion, Return}
use Rattle.js_machine.specs.Machine.References.{Context}
use Rattle.js_machine.specs.Machine.RealmObjects.{TypeError, global, object_prototype}
use Rattle.js_machine.specs.Machine.Objects.{Site, throw_error, get, put, define, get_own_property, make_with}
use Rattle.js_machine.specs.Machine.Statements.{statements}
use Rattle.js_machine.specs.Machine.Events.{◌>>=◌, Run, give, leave, in_turn, make}
use Rattle.js_machine.specs.Machine.Creating.{enter_function, function_name, function}

-- ---- 10.4.3: entering function code

-- steps 1 to 3; in strict code it is the value that was handed in, and no objects are made of primitives
abbrev pub this_value : Place → Bool → Value → Run Value
this_value at true v = give v
this_value at false (Object o) = give (Object o)
this_value at false (Prim primitive.Undefined) = give (Object global)
this_value at false (Prim primitive.Null) = give (Object global)
this_value at false v = leave PrimitiveThis at

-- ---- 13.2.1: [[Call]]

abbrev pub returned : Completion → Value
returned (Return v) = v
returned _ = undefined

unfoldable pub function_call : List Func → (Context → Stmt → Run Completion) → Place → Environment → Bool → Value → List Value → Func → Run Value
function_call functions stmt at outer strict this arguments f = do
  this ← this_value at strict this
  environment ← make (enter_function functions f outer strict arguments)
  completion ← statements (stmt (record { environment = environment; this = this; strict = strict })) f.body
  give (returned completion)

-- a number that names no function of the code; a valid start has none
abbrev pub call_found : List Func → (Context → Stmt → Run Completion) → Place → Environment → Bool → Value → List Value → Option Func → Run Value
call_found functions stmt at outer strict this arguments None = throw_error TypeError
call_found functions stmt at outer strict this arguments (Some f) = function_call functions stmt at outer strict this arguments f

unfoldable pub call_function : List Func → (Context → Stmt → Run Completion) → Place → FuncNo → Environment → Bool → Value → List Value → Run Value
call_function functions stmt at f outer strict this arguments = call_found functions stmt at outer strict this arguments (slice_get functions f.0)

-- ---- 13.2.2: [[Construct]]

-- steps 5 to 7
abbrev pub prototype_or_default : Value → ObjNo
prototype_or_default (Object o) = o
prototype_or_default v = object_prototype

-- steps 9 and 10
abbrev pub object_or : ObjNo → Value → Value
object_or o (Object other) = Object other
object_or o v = Object o

abbrev pub constructed : ObjNo → Value → Run Value
constructed o v = give (object_or o v)

-- steps 1 to 8, behind step 5
abbrev pub construct_with : Site → ObjNo → List Value → Value → Run Value
construct_with site f arguments prototype = do
  o ← make_with Plain (prototype_or_default prototype)
  v ← site.call (Object f) (Object o) arguments
  constructed o v

unfoldable pub construct_function : Site → ObjNo → List Value → Run Value
construct_function site f arguments = do
  prototype ← get site f (codes "prototype")
  construct_with site f arguments prototype

-- ---- declaration binding in global code, this project's own

-- what a function declaration asks of a property that isn't configurable
abbrev pub can_declare : Property → Bool
can_declare (Data p) = p.writable && p.enumerable
can_declare (Accessor p) = false

abbrev pub is_fixed : Property → Bool
is_fixed (Data p) = not p.configurable
is_fixed (Accessor p) = not p.configurable

-- a property that is made for a name can be written and enumerated, and not be configured; one that the object refuses throws
abbrev pub declare : Site → List ℕ → Run (Unit {0})
declare site name = define site global name (data_fields undefined true true false) true

-- A name is bound where the global object has an own property of it.
abbrev pub declare_function : Site → List ℕ → Option Property → Run (Unit {0})
declare_function site name None = declare site name
declare_function site name (Some p) = if not (is_fixed p) then declare site name else (if can_declare p then give tt else throw_error TypeError)

abbrev pub declare_named : Site → Value → List ℕ → Run (Unit {0})
declare_named site f name = do
  p ← get_own_property site global name
  _ ← declare_function site name p
  put site global name f true

abbrev pub bind_global_function : List Func → Site → Bool → FuncNo → Run (Unit {0})
bind_global_function functions site strict f = do
  o ← make (function functions f [] strict)
  in_turn (declare_named site (Object o)) (function_name functions f)

abbrev pub declare_var : Site → List ℕ → Option Property → Run (Unit {0})
declare_var site name None = declare site name
declare_var site name (Some p) = give tt

abbrev pub bind_global_var : Site → List ℕ → Run (Unit {0})
bind_global_var site name = do
  p ← get_own_property site global name
  declare_var site name p

-- functions first, each in its order, and then variables
unfoldable pub enter_global : List Func → Site → Bool → List Stmt → Run (Unit {0})
enter_global functions site strict body = do
  _ ← in_turn (bind_global_function functions site strict) (hoisted_functions body)
  in_turn (bind_global_var site) (hoisted_vars body)
