-- What was so in a heap is so in each heap that keeps it.
use Rattle.std.proofs.Common.{◌≡◌, ◌<◌, ◌≤◌, refl, ◌∙◌, ℕ, zero, suc, true, false, List, [], ◌∷◌, arith}
use Rattle.std.specs.Prelude.{◌&&◌, nat_eq, unwrap_or, nat_lt, length, slice_get, Option, Some, None}
use Rattle.std.specs.Option.{option_map}
use Rattle.std.proofs.lemmas.Bool.{and_parts, and_from}
use Rattle.plain_heap.specs.Values.{Value, Prim, Object, Absent, Symbolic, ObjNo, CellNo}
use Rattle.plain_heap.specs.Heap.{Heap, Environment, Property, ObjectState, object_at, is_function}
use Rattle.plain_heap.specs.Heap as heap
use Rattle.plain_heap.specs.Methods.{Descriptor}
use Rattle.plain_heap.specs.Valid.{if_some, is_value, is_cell, is_property, is_valid, are_cells, is_depth}
use Rattle.plain_heap.specs.Laws.{is_change}
use Rattle.plain_heap.proofs.Grown.{Grown, function_kept, StillThere, less_kept, all_kept}
use Rattle.valid_runs.specs.Kept.{Keeps, IsStill, IsObject, IsValue, is_primitive, is_object, is_symbol, IsOutside, of_primitive, of_symbol}

-- ---- the order of heaps

still_itself : {h : Heap} (o : ObjNo) (state : ObjectState) → object_at h o ≡ Some state → IsStill h o state
still_itself o state at = record { now = state; is = at; class = refl; prototype = refl; depth = refl }

pub same : {h : Heap} → is_valid h ≡ true → Keeps h h
same valid = record { valid = valid; objects = still_itself; object_count = omega arith; cell_count = omega arith }

infixl 20 ◌⊚◌
pub ◌⊚◌ : {a b c : Heap} → Keeps a b → Keeps b c → Keeps a c
◌⊚◌ {a = a} {b = b} {c = c} up more = record {
  valid = more.valid;
  objects = λ o state at. twice (up.objects o state at);
  object_count = le_le (length a.objects) (length b.objects) (length c.objects) up.object_count more.object_count;
  cell_count = le_le (length a.cells) (length b.cells) (length c.cells) up.cell_count more.cell_count;
}
  where
    le_le : (l m n : ℕ) → l ≤ m → m ≤ n → l ≤ n
    le_le l m n p q = omega (arith, p, q)

    twice : {o : ObjNo} {state : ObjectState} → IsStill b o state → IsStill c o state
    twice {o = o} was = let now = more.objects o was.now was.is in record { now = now.now; is = now.is; class = now.class ∙ was.class; prototype = now.prototype ∙ was.prototype; depth = now.depth ∙ was.depth }

pub grown : {h after : Heap} → Keeps h after → Grown h after
grown {after = after} up = record { objects = λ o state at. there (up.objects o state at); object_count = up.object_count; cell_count = up.cell_count }
  where
    there : {o : ObjNo} {state : ObjectState} → IsStill after o state → StillThere after o state
    there is = record { now = is.now; is = is.is; class = is.class; prototype = is.prototype; depth = is.depth }

-- ---- values

pub data Each {A : Type 0} (Is : A → Type 0) : List A → Type 0 where
  none : Each Is []
  also : {x : A} {xs : List A} → Is x → Each Is xs → Each Is (x ∷ xs)

pub data Given {A : Type 0} (Is : A → Type 0) : Option A → Type 0 where
  nothing : Given Is None
  just : {a : A} → Is a → Given Is (Some a)

abbrev pub Values : Heap → List Value → Type 0
Values h vs = Each (IsValue h) vs

pub later_object : {h after : Heap} → Keeps h after → {o : ObjNo} → IsObject h o → IsObject after o
later_object {h = h} {after = after} up {o = o} is = record { below = less o (length h.objects) (length after.objects) is.below up.object_count }
  where
    less : (i m n : ℕ) → i < m → m ≤ n → i < n
    less i m n p q = omega (arith, p, q)

pub later : {h after : Heap} → Keeps h after → {v : Value} → IsValue h v → IsValue after v
later up (is_primitive p) = is_primitive p
later up (is_object is) = is_object (later_object up is)
later up (is_symbol s) = is_symbol s

pub later_values : {h after : Heap} → Keeps h after → {vs : List Value} → Values h vs → Values after vs
later_values up none = none
later_values up (also is all) = also (later up is) (later_values up all)

pub from_outside : {h : Heap} {v : Value} → IsOutside v → IsValue h v
from_outside (of_primitive p) = is_primitive p
from_outside (of_symbol s) = is_symbol s

pub less_than : (m n : ℕ) → m < n → nat_lt m n ≡ true
less_than m n is = grind (arith, is)

is_less : (m n : ℕ) → nat_lt m n ≡ true → m < n
is_less m n is = grind (arith, is)

-- a value that code has is one of the heap, and one that a variable may have
pub value_is : {h : Heap} {v : Value} → IsValue h v → is_value h v ≡ true
value_is (is_primitive p) = refl
value_is {h = h} (is_object {o = o} is) = less_than o (length h.objects) is.below
value_is (is_symbol s) = refl

pub cell_is : {h : Heap} {v : Value} → IsValue h v → is_cell h v ≡ true
cell_is (is_primitive p) = refl
cell_is {h = h} (is_object {o = o} is) = and_from (nat_lt o (length h.objects)) true (less_than o (length h.objects) is.below) refl
cell_is (is_symbol s) = refl

pub is_there : {h : Heap} {o : ObjNo} → is_value h (Object o) ≡ true → IsObject h o
is_there {h = h} {o = o} is = record { below = is_less o (length h.objects) is }

pub from_cell : {h : Heap} (v : Value) → is_cell h v ≡ true → IsValue h v
from_cell (Prim p) is = is_primitive p
from_cell {h = h} (Object o) is = is_object (is_there (and_parts (nat_lt o (length h.objects)) true is).0)
from_cell Absent is = absurd (cc)
from_cell (Symbolic s) is = is_symbol s

-- what is at a place is there
below_length : {A : Type 0} (xs : List A) (i : ℕ) (a : A) → slice_get xs i ≡ Some a → i < length xs
below_length [] i a at = grind (arith, at)
below_length (x ∷ xs) zero a at = omega arith
below_length (x ∷ xs) (suc i) a at = let rest = below_length xs i a at in omega (arith, rest)

pub found_there : {h : Heap} {o : ObjNo} {state : ObjectState} → object_at h o ≡ Some state → IsObject h o
found_there {h = h} {o = o} {state = state} at = record { below = below_length h.objects o state at }

pub function_there : {h : Heap} {f : ObjNo} → is_function h f ≡ true → IsObject h f
function_there {h = h} {f = f} is = by_object (object_at h f) refl is
  where
    by_object : (found : Option ObjectState) → object_at h f ≡ found → heap.is_class heap.is_function_class found ≡ true → IsObject h f
    by_object None at is = absurd (cc)
    by_object (Some state) at is = found_there at

pub prototype_there : {h : Heap} (depth : ℕ) {p : ObjNo} → is_depth h depth (Some p) ≡ true → IsObject h p
prototype_there {h = h} depth {p = p} is = by_object (object_at h p) refl is
  where
    by_object : (found : Option ObjectState) → object_at h p ≡ found → unwrap_or (option_map (λ (state : ObjectState). nat_eq depth (suc state.depth)) found) false ≡ true → IsObject h p
    by_object None at is = absurd (cc)
    by_object (Some state) at is = found_there at

-- ---- environments, properties and changes

pub record AreCells (h : Heap) (names : Environment) : Type 0 where
  pub are : are_cells h names ≡ true

pub later_cells : {h after : Heap} → Keeps h after → {names : Environment} → AreCells h names → AreCells after names
later_cells {h = h} {after = after} up {names = names} is = record {
  are = all_kept (λ (n : List ℕ × CellNo). nat_lt n.1 (length h.cells)) (λ (n : List ℕ × CellNo). nat_lt n.1 (length after.cells)) names (λ n. less_kept n.1 (length h.cells) (length after.cells) up.cell_count) is.are;
}

pub record IsProperty (h : Heap) (p : Property) : Type 0 where
  pub is : is_property h p ≡ true

-- a descriptor whose value is one of the heap, and whose getter and setter are functions there
pub record IsChange (h : Heap) (d : Descriptor) : Type 0 where
  pub value : if_some (is_value h) d.value ≡ true
  pub get : if_some (if_some (is_function h)) d.get ≡ true
  pub set : if_some (if_some (is_function h)) d.set ≡ true

pub change_is : {h : Heap} {d : Descriptor} → IsChange h d → is_change h d ≡ true
change_is {h = h} {d = d} is =
    and_from (if_some (is_value h) d.value && if_some (if_some (is_function h)) d.get) (if_some (if_some (is_function h)) d.set)
    (and_from (if_some (is_value h) d.value) (if_some (if_some (is_function h)) d.get) is.value is.get) is.set

pub record IsFunction (h : Heap) (f : ObjNo) : Type 0 where
  pub is : is_function h f ≡ true

pub later_made : {h after : Heap} → Keeps h after → {f : ObjNo} → IsFunction h f → IsFunction after f
later_made {h = h} {after = after} up {f = f} is = record { is = function_kept h after (grown up) f is.is }
