-- New cells and objects keep a heap valid.
use Rattle.std.proofs.Common.{◌≡◌, refl, true, List, [], ◌∷◌, arith, ap, ◌∙◌, sym}
use Rattle.std.specs.Prelude.{◌<◌, suc, length, ℕ, nat_lt, ◌&&◌, Option, Some, None, nat_eq}
use Rattle.std.specs.List.{list_all}
use Rattle.std.proofs.lemmas.Bool.{and_parts, and_from}
use Rattle.std.proofs.lemmas.List.{append_assoc, length-append, length-set}
use Rattle.plain_heap.specs.Heap.{Heap, Key, Property, Class, Plain, Array, Function, Builtin, ObjectState, object_at, first_properties, new_cell, set_cell, new_state, new_object, add_object, depth_at}
use Rattle.plain_heap.specs.Values.{ObjNo, CellNo, Value}
use Rattle.plain_heap.specs.Valid.{if_some, is_property, are_distinct, is_class, is_object, is_cell, is_valid, is_depth}
use Rattle.plain_heap.specs.Laws.{IsKept, MakesValid, add_objects}
use Rattle.plain_heap.proofs.Grown.{Grown, StillThere, all_kept, all_added, all_set, at_added, at_place, is_right, object_kept, class_kept, cell_kept, depth_kept, At}

-- the two parts of a valid heap
pub record IsAll (h : Heap) (objects : List ObjectState) (cells : List Value) : Type 0 where
  pub objects_are : list_all (is_object h) objects ≡ true
  pub cells_are : list_all (is_cell h) cells ≡ true

pub parts : (h : Heap) → is_valid h ≡ true → IsAll h h.objects h.cells
unfolding is_valid
parts h is = let both = and_parts (list_all (is_object h) h.objects) (list_all (is_cell h) h.cells) is in record { objects_are = both.0; cells_are = both.1 }

pub whole : (h : Heap) → IsAll h h.objects h.cells → is_valid h ≡ true
unfolding is_valid
whole h is = rw (is.objects_are, is.cells_are) refl

-- the four parts of a valid object
pub record IsRight (h : Heap) (o : ObjectState) : Type 0 where
  pub ends : is_depth h o.depth o.prototype ≡ true
  pub distinct : are_distinct o.properties ≡ true
  pub properties : list_all (λ (p : Key × Property). is_property h p.1) o.properties ≡ true
  pub class : is_class h o o.class ≡ true

pub right_parts : (h : Heap) (o : ObjectState) → is_object h o ≡ true → IsRight h o
right_parts h o is =
    let outer = and_parts (is_right h o) (is_class h o o.class) is in
    let middle = and_parts (is_depth h o.depth o.prototype && are_distinct o.properties) (list_all (λ (p : Key × Property). is_property h p.1) o.properties) outer.0 in
    let inner = and_parts (is_depth h o.depth o.prototype) (are_distinct o.properties) middle.0 in
    record { ends = inner.0; distinct = inner.1; properties = middle.1; class = outer.1 }

pub right_whole : (h : Heap) (o : ObjectState) → is_depth h o.depth o.prototype ≡ true → are_distinct o.properties ≡ true
    → list_all (λ (p : Key × Property). is_property h p.1) o.properties ≡ true → is_class h o o.class ≡ true → is_object h o ≡ true
right_whole h o ends distinct properties class = rw (ends, distinct, properties, class) refl

-- what was there is right in a heap that has grown
pub still : (h after : Heap) → Grown h after → is_valid h ≡ true → IsAll after h.objects h.cells
still h after grown valid =
    let was = parts h valid in
    record {
      objects_are = all_kept (is_object h) (is_object after) h.objects (object_kept h after grown) was.objects_are;
      cells_are = all_kept (is_cell h) (is_cell after) h.cells (cell_kept h after grown) was.cells_are;
    }

pub kept : (h after : Heap) → Grown h after → IsAll after after.objects after.cells → IsKept h after
kept h after grown is = record { valid = whole after is; objects = grown.object_count; cells = grown.cell_count }

same_object : (o : ObjNo) (after : Heap) (state : ObjectState) → object_at after o ≡ Some state → StillThere after o state
same_object o after state at = record { now = state; is = at; class = refl; prototype = refl; depth = refl }

cell_grows : (h : Heap) (v : Value) → Grown h (new_cell v h)
cell_grows h v = record {
  objects = λ o state at. same_object o (new_cell v h) state at;
  object_count = omega arith;
  cell_count = let count = length-append h.cells (v ∷ []) in omega arith;
}

makes_cell : (h : Heap) (v : Value) → is_valid h ≡ true → is_cell h v ≡ true → IsKept h (new_cell v h)
makes_cell h v valid is =
    let after = new_cell v h in
    let grown = cell_grows h v in
    let was = still h after grown valid in
    kept h after grown (record {
      objects_are = was.objects_are;
      cells_are = all_added (is_cell after) h.cells (v ∷ []) was.cells_are (and_from (is_cell after v) true (cell_kept h after grown v is) refl);
    })

set_grows : (h : Heap) (c : CellNo) (v : Value) → Grown h (set_cell c v h)
set_grows h c v = record {
  objects = λ o state at. same_object o (set_cell c v h) state at;
  object_count = omega arith;
  cell_count = let count = length-set h.cells c v in omega arith;
}

sets_cell : (h : Heap) (c : CellNo) (v : Value) → is_valid h ≡ true → is_cell h v ≡ true → IsKept h (set_cell c v h)
sets_cell h c v valid is =
    let after = set_cell c v h in
    let grown = set_grows h c v in
    let was = still h after grown valid in
    kept h after grown (record {
      objects_are = was.objects_are;
      cells_are = all_set (is_cell after) h.cells c v was.cells_are (cell_kept h after grown v is);
    })

-- ---- objects

below : (i n : ℕ) → nat_lt i n ≡ true → i < n
below i n is = grind (arith, is)

objects_grow : (h : Heap) (states : List ObjectState) → Grown h (add_objects states h)
objects_grow h states = record {
  objects = λ o state at. same_object o (add_objects states h) state (at_added h.objects states o state at);
  object_count = let count = length-append h.objects states in omega arith;
  cell_count = omega arith;
}

adds_objects : (h : Heap) (states : List ObjectState) → is_valid h ≡ true → list_all (is_object (add_objects states h)) states ≡ true → IsKept h (add_objects states h)
adds_objects h states valid are =
    let after = add_objects states h in
    let grown = objects_grow h states in
    let was = still h after grown valid in
    kept h after grown (record {
      objects_are = all_added (is_object after) h.objects states was.objects_are are;
      cells_are = was.cells_are;
    })

-- an object that is made is one deeper than its prototype
equal : (n : ℕ) → nat_eq n n ≡ true
equal n = grind arith

begins_deeper : (h : Heap) (o : Option ObjNo) → if_some (λ o. nat_lt o (length h.objects)) o ≡ true → is_depth h (depth_at h o) o ≡ true
begins_deeper h None is = refl
begins_deeper h (Some o) is = by_place (at_place h.objects o (below o (length h.objects) is))
  where
    by_place : At h.objects o → is_depth h (depth_at h (Some o)) (Some o) ≡ true
    by_place at = rw at.is (equal (suc at.element.depth))

first_distinct : (class : Class) → are_distinct (first_properties class) ≡ true
first_distinct Plain = refl
first_distinct Array = refl
first_distinct (Function f names strict) = refl
first_distinct (Builtin n) = refl

first_right : (h : Heap) (class : Class) → list_all (λ (p : Key × Property). is_property h p.1) (first_properties class) ≡ true
first_right h Plain = refl
first_right h Array = refl
first_right h (Function f names strict) = refl
first_right h (Builtin n) = refl

makes_object : (h : Heap) (class : Class) (prototype : Option ObjNo) → is_valid h ≡ true → if_some (λ o. nat_lt o (length h.objects)) prototype ≡ true
    → is_class h (new_state class prototype (depth_at h prototype)) class ≡ true → IsKept h (new_object class prototype h)
makes_object h class prototype valid inside right =
    let state = new_state class prototype (depth_at h prototype) in
    let after = add_objects (state ∷ []) h in
    let grown = objects_grow h (state ∷ []) in
    let ends = depth_kept h after grown (depth_at h prototype) prototype (begins_deeper h prototype inside) in
    let is = right_whole after state ends (first_distinct class) (first_right after class) (class_kept h after grown state class right) in
    adds_objects h (state ∷ []) valid (and_from (is_object after state) true is refl)

pair_is : (h : Heap) (a b : ObjectState) → add_objects (a ∷ b ∷ []) h ≡ add_object b (add_object a h)
pair_is h a b = ap (λ (objects : List ObjectState). record h { objects = objects }) (sym (append_assoc h.objects (a ∷ []) (b ∷ [])))

adds_pair : (h : Heap) (a b : ObjectState) → is_valid h ≡ true → is_object (add_object b (add_object a h)) a ≡ true → is_object (add_object b (add_object a h)) b ≡ true
    → IsKept h (add_object b (add_object a h))
adds_pair h a b valid first second =
    let both : list_all (is_object (add_objects (a ∷ b ∷ []) h)) (a ∷ b ∷ []) ≡ true = ap (λ g. list_all (is_object g) (a ∷ b ∷ [])) (pair_is h a b) ∙ rw (first, second) refl in
    rw (sym (pair_is h a b)) (adds_objects h (a ∷ b ∷ []) valid both)

pub makes_valid : MakesValid
makes_valid = record { cell = makes_cell; set = sets_cell; object = makes_object; objects = adds_objects; pair = adds_pair }
