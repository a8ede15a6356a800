-- What rules make: objects, functions (13.2), and the variables of a function's code (10.5). Nothing here calls or throws.
use Rattle.std.specs.Prelude.{ℕ, ◌+◌, ◌||◌, Bool, true, false, List, [], ◌∷◌, ◌++◌, length, map, slice_get, codes, unwrap_or, Option, Some, None}
use Rattle.std.specs.List.{flat_map}
use Rattle.js_value.specs.declared.place.FuncNo.{FuncNo}
use Rattle.js_tree.specs.Mentions.{Names, distinct, hoisted_functions, hoisted_vars, own_name}
use Rattle.js_tree.specs.declared.statement.Func.{Func}
use Rattle.js_tree.specs.declared.statement.Name.{Name}
use Rattle.plain_heap.specs.Values.{Value, Object, ObjNo, CellNo, undefined, number}
use Rattle.plain_heap.specs.Heap.{Heap, Environment, ObjectState, Plain, Function, data_property, add_object, lookup, make_cell, set_cell}
use Rattle.plain_heap.specs.Methods.{length_key}
use Rattle.js_machine.specs.Machine.RealmObjects.{object_prototype, function_prototype}

-- A change of the heap that gives something.
abbrev pub Change : Type 0 → Type 0
Change A = Heap → A × Heap

-- the change that comes behind one that gave this and left this heap
abbrev pub behind : {A B : Type 0} → A × Heap → (A → Change B) → B × Heap
behind r next = next r.0 r.1

infixl 20 ◌>>=◌
abbrev pub ◌>>=◌ : {A B : Type 0} → Change A → (A → Change B) → Change B
◌>>=◌ m next = λ h. behind (m h) next

abbrev pub give : {A : Type 0} → A → Change A
give a = λ h. (a, h)

abbrev pub change : (Heap → Heap) → Change (Unit {0})
change f = λ h. (tt, f h)

abbrev pub each : {A B : Type 0} → (A → Change B) → List A → Change (List B)
each f [] = give []
each f (x ∷ xs) = do
  y ← f x
  ys ← each f xs
  give (y ∷ ys)

abbrev pub in_turn : {A : Type 0} → (A → Change (Unit {0})) → List A → Change (Unit {0})
in_turn f [] = give tt
in_turn f (x ∷ xs) = do
  _ ← f x
  in_turn f xs

-- ---- 13.2: function objects

-- steps 14 to 18: its length, and the object that comes with it
abbrev pub function_state : FuncNo → Environment → Bool → ℕ → ObjNo → ObjectState
function_state f names strict parameters prototype = record {
  class = Function f names strict;
  prototype = Some function_prototype;
  depth = 2;
  extensible = true;
  properties = (length_key, data_property (number parameters) false false false) ∷ (codes "prototype", data_property (Object prototype) true false false) ∷ [];
}

abbrev pub prototype_state : ObjNo → ObjectState
prototype_state f = record {
  class = Plain;
  prototype = Some object_prototype;
  depth = 1;
  extensible = true;
  properties = (codes "constructor", data_property (Object f) true false true) ∷ [];
}

-- the object that comes with it has the next number
unfoldable pub make_function : FuncNo → Environment → Bool → ℕ → Change ObjNo
make_function f names strict parameters h =
    let o = length h.objects in (o, add_object (prototype_state o) (add_object (function_state f names strict parameters (o + 1)) h))

abbrev pub parameters_of : Option Func → ℕ
parameters_of None = 0
parameters_of (Some f) = length f.params

-- code is strict where it or code around it has a directive (10.1.1)
abbrev pub is_strict_in : Bool → Option Func → Bool
is_strict_in strict None = strict
is_strict_in strict (Some f) = strict || f.directive

-- of the function with this number, where the code around it is strict or not
unfoldable pub function : List Func → FuncNo → Environment → Bool → Change ObjNo
function functions f names strict = let code = slice_get functions f.0 in make_function f names (is_strict_in strict code) (parameters_of code)

-- ---- 13: function expressions, of which one with a name has it in an environment of its own

abbrev pub own_named : List Func → FuncNo → Environment → Bool → List ℕ → Change ObjNo
own_named functions f names strict name = do
  c ← make_cell undefined
  o ← function functions f ((name, c) ∷ names) strict
  _ ← change (set_cell c (Object o))
  give o

abbrev pub named : List Func → FuncNo → Environment → Bool → Option Name → Change ObjNo
named functions f names strict None = function functions f names strict
named functions f names strict (Some name) = own_named functions f names strict name.text

abbrev pub name_of : Option Func → Option Name
name_of None = None
name_of (Some f) = f.name

unfoldable pub function_expression : List Func → FuncNo → Environment → Bool → Change ObjNo
function_expression functions f names strict = named functions f names strict (name_of (slice_get functions f.0))

-- ---- 10.5: declaration binding in function code

abbrev pub own_names : Option Func → Names
own_names None = []
own_names (Some f) = own_name f.name

abbrev pub function_name : List Func → FuncNo → Names
function_name functions f = own_names (slice_get functions f.0)

-- every name once: parameters, functions, variables
abbrev pub declared_names : List Func → Func → Names
declared_names functions f = distinct (map (λ (p : Name). p.text) f.params ++ flat_map (function_name functions) (hoisted_functions f.body) ++ hoisted_vars f.body)

-- step 8: every name begins as undefined
abbrev pub declare : List ℕ → Change (List ℕ × CellNo)
declare name = do
  c ← make_cell undefined
  give (name, c)

abbrev pub set_found : Value → Option CellNo → Change (Unit {0})
set_found v None = give tt
set_found v (Some c) = change (set_cell c v)

-- a name of the environment gets a value
abbrev pub bind : Environment → List ℕ → Value → Change (Unit {0})
bind names name v = set_found v (lookup name names)

-- the argument at a position, or undefined
abbrev pub argument : List Value → ℕ → Value
argument arguments n = unwrap_or (slice_get arguments n) undefined

-- step 4: of two parameters with one name the later one wins
abbrev pub bind_parameters : Environment → List Value → ℕ → List Name → Change (Unit {0})
bind_parameters names arguments n [] = give tt
bind_parameters names arguments n (p ∷ ps) = do
  _ ← bind names p.text (argument arguments n)
  bind_parameters names arguments (n + 1) ps

-- step 5: the function's own name is that of a declaration
abbrev pub bind_function : List Func → Environment → Bool → FuncNo → Change (Unit {0})
bind_function functions names strict f = do
  o ← function functions f names strict
  in_turn (λ name. bind names name (Object o)) (function_name functions f)

-- the environment of the code that is entered
unfoldable pub enter_function : List Func → Func → Environment → Bool → List Value → Change Environment
enter_function functions f outer strict arguments = do
  names ← each declare (declared_names functions f)
  _ ← bind_parameters (names ++ outer) arguments 0 f.params
  _ ← in_turn (bind_function functions (names ++ outer) strict) (hoisted_functions f.body)
  give (names ++ outer)
