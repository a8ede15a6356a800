-- Functions and environments that are made leave a heap without symbols.
use Rattle.std.proofs.Common.{ℕ, ◌+◌, List, [], ◌∷◌, Bool, true, false}
use Rattle.std.specs.Prelude.{codes, slice_get, ◌++◌, Option, Some, None}
use Rattle.js_value.specs.declared.place.FuncNo.{FuncNo}
use Rattle.js_value.specs.declared.primitive.Primitive.TheVariants as primitive
use Rattle.js_tree.specs.Mentions.{hoisted_functions}
use Rattle.js_tree.specs.declared.statement.Name.{Name}
use Rattle.js_tree.specs.declared.statement.Func.{Func}
use Rattle.plain_heap.specs.Values.{Value, CellNo}
use Rattle.plain_heap.specs.Heap.{Heap, Environment, lookup}
use Rattle.plain_heap.specs.Methods.{length_key}
use Rattle.js_machine.specs.Machine.Creating as C
use Rattle.js_machine.specs.Machine.Creating.{Change, ◌>>=◌}
use Rattle.closed_scripts.specs.Known.{Each, none, also, IsKnown, is_primitive, is_object, IsKnownHeap}
use Rattle.closed_scripts.proofs.Quiet.{Any, any, Made}
use Rattle.closed_scripts.proofs.Heaps.{AnyNo, number_of, cell_made, cell_set, object_added, plain_entry, got_each, or_default}

-- a change that keeps a heap without symbols
pub record Keeps {A : Type 0} (Is : A → Type 0) (m : Change A) : Type 0 where
  pub at : (h : Heap) → IsKnownHeap h → Made Is (m h)

then_keeps : {A B : Type 0} {P : A → Type 0} {Q : B → Type 0} {m : Change A} {f : A → Change B} → Keeps P m → ((a : A) → P a → Keeps Q (f a)) → Keeps Q (m >>= f)
then_keeps {m = m} h next = record { at = λ s known. (next (m s).0 (h.at s known).value).at (m s).1 (h.at s known).heap }

gives : {A : Type 0} {Is : A → Type 0} {a : A} → Is a → Keeps Is (C.give a)
gives {a = a} is = record { at = λ s known. record { value = is; heap = known } }

changes : {f : Heap → Heap} → ((h : Heap) → IsKnownHeap h → IsKnownHeap (f h)) → Keeps Any (C.change f)
changes h = record { at = λ s known. record { value = any tt; heap = h s known } }

eaches : {A B : Type 0} {f : A → Change B} → ((a : A) → Keeps Any (f a)) → (xs : List A) → Keeps Any (C.each f xs)
eaches h [] = gives (any [])
eaches h (x ∷ xs) = then_keeps (h x) (λ y _. then_keeps (eaches h xs) (λ ys _. gives (any (y ∷ ys))))

in_turns : {A : Type 0} {f : A → Change (Unit {0})} → ((a : A) → Keeps Any (f a)) → (xs : List A) → Keeps Any (C.in_turn f xs)
in_turns h [] = gives (any tt)
in_turns h (x ∷ xs) = then_keeps (h x) (λ _ _. in_turns h xs)

-- ---- functions (13, 13.2)

make_function_too : (f : FuncNo) (names : Environment) (strict : Bool) (parameters : ℕ) → Keeps AnyNo (C.make_function f names strict parameters)
unfolding C.make_function
make_function_too f names strict parameters = record {
  at = λ h known. record {
    value = number_of _;
    heap = object_added (object_added known (record { properties = also (plain_entry length_key false false false (is_primitive _)) (also (plain_entry (codes "prototype") true false false (is_object _)) none) }))
        (record { properties = also (plain_entry (codes "constructor") true false true (is_object _)) none });
  };
}

function_too : (functions : List Func) (f : FuncNo) (names : Environment) (strict : Bool) → Keeps AnyNo (C.function functions f names strict)
unfolding C.function
function_too functions f names strict = make_function_too f names _ _

named_too : (functions : List Func) (f : FuncNo) (names : Environment) (strict : Bool) (name : Option Name) → Keeps AnyNo (C.named functions f names strict name)
named_too functions f names strict None = function_too functions f names strict
named_too functions f names strict (Some name) = then_keeps (record { at = cell_made (is_primitive primitive.Undefined) }) (λ c _. then_keeps (function_too functions f ((name.text, c) ∷ names) strict) (λ o _.
    then_keeps (changes (λ h known. cell_set known c (is_object o))) (λ _ _. gives (number_of o))))

function_expression_too : (functions : List Func) (f : FuncNo) (names : Environment) (strict : Bool) → Keeps AnyNo (C.function_expression functions f names strict)
unfolding C.function_expression
function_expression_too functions f names strict = named_too functions f names strict (C.name_of (slice_get functions f.0))

-- ---- 10.5

declare_too : (name : List ℕ) → Keeps Any (C.declare name)
declare_too name = then_keeps (record { at = cell_made (is_primitive primitive.Undefined) }) (λ c _. gives (any (name, c)))

set_found_too : {v : Value} → IsKnown v → (c : Option CellNo) → Keeps Any (C.set_found v c)
set_found_too is None = gives (any tt)
set_found_too is (Some c) = changes (λ h known. cell_set known c is)

bind_too : (names : Environment) (name : List ℕ) {v : Value} → IsKnown v → Keeps Any (C.bind names name v)
bind_too names name is = set_found_too is (lookup name names)

pub argument_too : {arguments : List Value} → Each IsKnown arguments → (n : ℕ) → IsKnown (C.argument arguments n)
argument_too all n = or_default (got_each all n) (is_primitive primitive.Undefined)

bind_parameters_too : (names : Environment) {arguments : List Value} → Each IsKnown arguments → (n : ℕ) (ps : List Name) → Keeps Any (C.bind_parameters names arguments n ps)
bind_parameters_too names all n [] = gives (any tt)
bind_parameters_too names all n (p ∷ ps) = then_keeps (bind_too names p.text (argument_too all n)) (λ _ _. bind_parameters_too names all (n + 1) ps)

bind_function_too : (functions : List Func) (names : Environment) (strict : Bool) (f : FuncNo) → Keeps Any (C.bind_function functions names strict f)
bind_function_too functions names strict f = then_keeps (function_too functions f names strict) (λ o _. in_turns (λ name. bind_too names name (is_object o)) (C.function_name functions f))

enter_function_too : (functions : List Func) (f : Func) (outer : Environment) (strict : Bool) {arguments : List Value} → Each IsKnown arguments → Keeps Any (C.enter_function functions f outer strict arguments)
unfolding C.enter_function
enter_function_too functions f outer strict all = then_keeps (eaches declare_too (C.declared_names functions f)) (λ names _. then_keeps (bind_parameters_too (names ++ outer) all 0 f.params) (λ _ _.
    then_keeps (in_turns (bind_function_too functions (names ++ outer) strict) (hoisted_functions f.body)) (λ _ _. gives (any (names ++ outer)))))

-- ---- what runs make of these

pub expression_made : (functions : List Func) (f : FuncNo) (names : Environment) (strict : Bool) (h : Heap) → IsKnownHeap h → Made AnyNo (C.function_expression functions f names strict h)
expression_made functions f names strict = (function_expression_too functions f names strict).at

pub function_made : (functions : List Func) (f : FuncNo) (names : Environment) (strict : Bool) (h : Heap) → IsKnownHeap h → Made AnyNo (C.function functions f names strict h)
function_made functions f names strict = (function_too functions f names strict).at

pub function_entered : (functions : List Func) (f : Func) (outer : Environment) (strict : Bool) {arguments : List Value} → Each IsKnown arguments → (h : Heap) → IsKnownHeap h → Made Any (C.enter_function functions f outer strict arguments h)
function_entered functions f outer strict all = (enter_function_too functions f outer strict all).at
