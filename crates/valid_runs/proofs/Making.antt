-- Functions and environments that are made keep a heap (13, 13.2, 10.5).
use Rattle.std.proofs.Common.{◌≡◌, refl, ap, ℕ, zero, suc, ◌+◌, Bool, true, List, [], ◌∷◌, ◌++◌, arith}
use Rattle.std.specs.Prelude.{unwrap_or, nat_lt, length, slice_get, Option, Some, None}
use Rattle.std.proofs.lemmas.Bool.{and_from}
use Rattle.std.proofs.lemmas.List.{length-append}
use Rattle.js_value.specs.declared.place.FuncNo.{FuncNo}
use Rattle.js_value.specs.declared.primitive.Primitive.TheVariants as primitive
use Rattle.js_tree.specs.Mentions.{hoisted_functions}
use Rattle.js_tree.specs.declared.statement.Func.{Func}
use Rattle.js_tree.specs.declared.statement.Name.{Name}
use Rattle.plain_heap.specs.Values.{Value, Object, CellNo, undefined}
use Rattle.plain_heap.specs.Heap.{is_class, is_function_class, Heap, Environment, ObjectState, add_object, lookup, set_cell, make_cell}
use Rattle.plain_heap.specs.Valid.{is_depth, is_value, are_cells}
use Rattle.plain_heap.specs.Valid as valid
use Rattle.plain_heap.proofs.Grown.{Grown, less_kept, at_added, all_added, depth_kept}
use Rattle.plain_heap.proofs.Making.{right_whole}
use Rattle.js_machine.specs.Machine.Creating as C
use Rattle.js_machine.specs.Machine.Creating.{Change, ◌>>=◌}
use Rattle.js_machine.specs.Machine.Realm.{realm}
use Rattle.js_machine.specs.Machine.RealmObjects.{object_prototype, function_prototype}
use Rattle.valid_runs.specs.Kept.{Keeps, IsValue, is_primitive, is_object}
use Rattle.valid_runs.proofs.Growing.{less_than, IsFunction, later_made, function_there, ◌⊚◌, same, grown, none, also, Values, later, later_values, AreCells, later_cells}
use Rattle.valid_runs.proofs.Sound.{Any, any, Made}
use Rattle.valid_runs.proofs.Heaps.{IsCell, cell_made, cell_set, pair_added}

-- a change that keeps a heap which keeps the realm
pub record Makes {A : Type 0} (s : Heap) (Is : Heap → A → Type 0) (m : Change A) : Type 0 where
  pub at : Keeps realm s → Made s Is (m s)

then_makes : {A B : Type 0} {s : Heap} {P : Heap → A → Type 0} {Q : Heap → B → Type 0} {m : Change A} {f : A → Change B} → Makes s P m → ((t : Heap) → Keeps s t → (a : A) → P t a → Makes t Q (f a)) → Makes s Q (m >>= f)
then_makes {s = s} {m = m} {f = f} h next = record {
  at = λ fit.
      let was = h.at fit in
      let now = (next (m s).1 was.keeps (m s).0 was.value).at (fit ⊚ was.keeps) in record { keeps = was.keeps ⊚ now.keeps; value = now.value };
}

gives : {A : Type 0} {s : Heap} {Is : Heap → A → Type 0} {a : A} → Is s a → Makes s Is (C.give a)
gives is = record { at = λ fit. record { keeps = same fit.valid; value = is } }

changes : {s : Heap} {f : Heap → Heap} → (Keeps realm s → Keeps s (f s)) → Makes s Any (C.change f)
changes h = record { at = λ fit. record { keeps = h fit; value = any tt } }

turns_from : {A : Type 0} {s : Heap} {f : A → Change (Unit {0})} → ((t : Heap) → Keeps s t → (a : A) → Makes t Any (f a)) → {t : Heap} → Keeps s t → (xs : List A) → Makes t Any (C.in_turn f xs)
turns_from h up [] = gives (any tt)
turns_from h {t = t} up (x ∷ xs) = then_makes (h t up x) (λ u more _ _. turns_from h (up ⊚ more) xs)

in_turns : {A : Type 0} {s : Heap} {f : A → Change (Unit {0})} → ((t : Heap) → Keeps s t → (a : A) → Makes t Any (f a)) → (xs : List A) → Makes s Any (C.in_turn f xs)
in_turns h xs = record { at = λ fit. (turns_from h (same fit.valid) xs).at fit }

-- ---- functions (13, 13.2)

module _ {s : Heap} (fit : Keeps realm s) where
  function_depth : is_depth s 2 (Some function_prototype) ≡ true
  unfolding realm
  function_depth = depth_kept realm s (grown fit) 2 (Some function_prototype) refl

  prototype_depth : is_depth s 1 (Some object_prototype) ≡ true
  unfolding realm
  prototype_depth = depth_kept realm s (grown fit) 1 (Some object_prototype) refl

-- a heap with two objects more
two_more : (s : Heap) (a b : ObjectState) → length (add_object b (add_object a s)).objects ≡ length s.objects + 2
two_more s a b = let one = length-append s.objects (a ∷ []) in let two = length-append (s.objects ++ a ∷ []) (b ∷ []) in omega (arith, one, two)

two_grow : (s : Heap) (a b : ObjectState) → Grown s (add_object b (add_object a s))
two_grow s a b = record {
  objects = λ o state at. record { now = state; is = at_added (s.objects ++ a ∷ []) (b ∷ []) o state (at_added s.objects (a ∷ []) o state at); class = refl; prototype = refl; depth = refl };
  object_count = let count = two_more s a b in omega (arith, count);
  cell_count = omega arith;
}

last_at : {A : Type 0} (xs : List A) (a : A) → slice_get (xs ++ a ∷ []) (length xs) ≡ Some a
last_at [] a = refl
last_at (x ∷ xs) a = last_at xs a

module _ {s : Heap} (fit : Keeps realm s) (f : FuncNo) {names : Environment} (cells : AreCells s names) (strict : Bool) (parameters : ℕ) where
  the_function : ObjectState
  the_function = C.function_state f names strict parameters (length s.objects + 1)

  the_prototype : ObjectState
  the_prototype = C.prototype_state (length s.objects)

  function_right : valid.is_object (add_object the_prototype (add_object the_function s)) the_function ≡ true
  unfolding the_function the_prototype
  function_right =
      let after = add_object the_prototype (add_object the_function s) in
      let count = two_more s the_function the_prototype in
      right_whole after the_function (depth_kept s after (two_grow s the_function the_prototype) 2 (Some function_prototype) (function_depth fit)) refl
      (and_from (is_value after (Object (length s.objects + 1))) true (less_than (length s.objects + 1) (length after.objects) (omega (arith, count))) refl) cells.are

  prototype_right : valid.is_object (add_object the_prototype (add_object the_function s)) the_prototype ≡ true
  unfolding the_function the_prototype
  prototype_right =
      let after = add_object the_prototype (add_object the_function s) in
      let count = two_more s the_function the_prototype in
      right_whole after the_prototype (depth_kept s after (two_grow s the_function the_prototype) 1 (Some object_prototype) (prototype_depth fit)) refl
      (and_from (is_value after (Object (length s.objects))) true (less_than (length s.objects) (length after.objects) (omega (arith, count))) refl) refl

  function_added : Made s IsFunction (C.make_function f names strict parameters s)
  unfolding C.make_function the_function the_prototype
  function_added = record {
    keeps = pair_added s the_function the_prototype fit.valid function_right prototype_right;
    value = record { is = ap (is_class is_function_class) (at_added (s.objects ++ the_function ∷ []) (the_prototype ∷ []) (length s.objects) the_function (last_at s.objects the_function)) };
  }

function_too : {s : Heap} (functions : List Func) (f : FuncNo) {names : Environment} → AreCells s names → (strict : Bool) → Makes s IsFunction (C.function functions f names strict)
unfolding C.function
function_too functions f cells strict = record { at = λ fit. function_added fit f cells _ _ }

cell_too : {s : Heap} {v : Value} → IsValue s v → Makes s IsCell (make_cell v)
cell_too {s = s} is = record { at = λ fit. cell_made s fit.valid is }

set_too : {s : Heap} (c : CellNo) {v : Value} → IsValue s v → Makes s Any (C.change (set_cell c v))
set_too {s = s} c is = changes (λ fit. cell_set s c fit.valid is)

pub with_cell : {s : Heap} (name : List ℕ) {c : CellNo} → IsCell s c → {names : Environment} → AreCells s names → AreCells s ((name, c) ∷ names)
with_cell {s = s} name {c = c} is {names = names} cells = record { are = and_from (nat_lt c (length s.cells)) (are_cells s names) is.below cells.are }

named_too : {s : Heap} (functions : List Func) (f : FuncNo) {names : Environment} → AreCells s names → (strict : Bool) (name : Option Name) → Makes s IsFunction (C.named functions f names strict name)
named_too functions f cells strict None = function_too functions f cells strict
named_too functions f cells strict (Some name) = then_makes (cell_too (is_primitive primitive.Undefined)) (λ t up c is. then_makes (function_too functions f (with_cell name.text is (later_cells up cells)) strict) (λ u more o there.
    then_makes (set_too c (is_object (function_there there.is))) (λ v most _ _. gives (later_made most there))))

function_expression_too : {s : Heap} (functions : List Func) (f : FuncNo) {names : Environment} → AreCells s names → (strict : Bool) → Makes s IsFunction (C.function_expression functions f names strict)
unfolding C.function_expression
function_expression_too functions f cells strict = named_too functions f cells strict (C.name_of (slice_get functions f.0))

-- ---- 10.5

-- the cell of a name
record IsBound (h : Heap) (n : List ℕ × CellNo) : Type 0 where
  cell : IsCell h n.1

later_cell : {h after : Heap} → Keeps h after → {c : CellNo} → IsCell h c → IsCell after c
later_cell {h = h} {after = after} up {c = c} is = record { below = less_kept c (length h.cells) (length after.cells) up.cell_count is.below }

declare_one_too : {s : Heap} (name : List ℕ) → Makes s IsBound (C.declare name)
declare_one_too name = then_makes (cell_too (is_primitive primitive.Undefined)) (λ t up c is. gives {a = (name, c)} (record { cell = is }))

declare_too : {s : Heap} (names : List (List ℕ)) → Makes s AreCells (C.each C.declare names)
declare_too [] = gives (record { are = refl })
declare_too (name ∷ names) = then_makes (declare_one_too name) (λ t up n is. then_makes (declare_too names) (λ u more others are. gives (with_cell n.0 (later_cell more is.cell) are)))

set_found_too : {s : Heap} {v : Value} → IsValue s v → (c : Option CellNo) → Makes s Any (C.set_found v c)
set_found_too is None = gives (any tt)
set_found_too is (Some c) = set_too c is

bind_too : {s : Heap} (names : Environment) (name : List ℕ) {v : Value} → IsValue s v → Makes s Any (C.bind names name v)
bind_too names name is = set_found_too is (lookup name names)

or_undefined : {s : Heap} {arguments : List Value} → Values s arguments → (n : ℕ) → IsValue s (unwrap_or (slice_get arguments n) undefined)
or_undefined none n = is_primitive primitive.Undefined
or_undefined (also is all) zero = is
or_undefined (also is all) (suc n) = or_undefined all n

pub argument_too : {s : Heap} {arguments : List Value} → Values s arguments → (n : ℕ) → IsValue s (C.argument arguments n)
argument_too all n = or_undefined all n

bind_parameters_too : {s : Heap} (names : Environment) {arguments : List Value} → Values s arguments → (n : ℕ) (ps : List Name) → Makes s Any (C.bind_parameters names arguments n ps)
bind_parameters_too names all n [] = gives (any tt)
bind_parameters_too names all n (p ∷ ps) = then_makes (bind_too names p.text (argument_too all n)) (λ t up _ _. bind_parameters_too names (later_values up all) (n + 1) ps)

bind_function_too : {s : Heap} (functions : List Func) {names : Environment} → AreCells s names → (strict : Bool) (f : FuncNo) → Makes s Any (C.bind_function functions names strict f)
bind_function_too functions {names = names} cells strict f = then_makes (function_too functions f cells strict) (λ t up o there. in_turns (λ u more name. bind_too names name (later more (is_object (function_there there.is)))) (C.function_name functions f))

joined_cells : {s : Heap} {names outer : Environment} → AreCells s names → AreCells s outer → AreCells s (names ++ outer)
joined_cells {names = names} {outer = outer} inner cells = record { are = all_added _ names outer inner.are cells.are }

enter_function_too : {s : Heap} (functions : List Func) (f : Func) {outer : Environment} → AreCells s outer → (strict : Bool) {arguments : List Value} → Values s arguments → Makes s AreCells (C.enter_function functions f outer strict arguments)
unfolding C.enter_function
enter_function_too functions f {outer = outer} cells strict all = then_makes (declare_too (C.declared_names functions f)) (λ t up names are. let bound = joined_cells are (later_cells up cells) in
    then_makes (bind_parameters_too (names ++ outer) (later_values up all) 0 f.params) (λ u more _ _.
    then_makes (in_turns (λ v most. bind_function_too functions (later_cells most (later_cells more bound)) strict) (hoisted_functions f.body)) (λ v most _ _. gives (later_cells most (later_cells more bound)))))

-- ---- what runs make of these

pub expression_made : {s : Heap} (functions : List Func) (f : FuncNo) {names : Environment} → AreCells s names → (strict : Bool) → Keeps realm s → Made s IsFunction (C.function_expression functions f names strict s)
expression_made functions f cells strict = (function_expression_too functions f cells strict).at

pub function_made : {s : Heap} (functions : List Func) (f : FuncNo) {names : Environment} → AreCells s names → (strict : Bool) → Keeps realm s → Made s IsFunction (C.function functions f names strict s)
function_made functions f cells strict = (function_too functions f cells strict).at

pub function_entered : {s : Heap} (functions : List Func) (f : Func) {outer : Environment} → AreCells s outer → (strict : Bool) {arguments : List Value} → Values s arguments → Keeps realm s → Made s AreCells (C.enter_function functions f outer strict arguments s)
function_entered functions f cells strict all = (enter_function_too functions f cells strict all).at
