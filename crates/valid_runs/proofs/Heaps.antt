-- What a valid heap gives, and that each change which is given values of the heap keeps it (8.12, 15.4.5).
use Rattle.std.proofs.Common.{◌≡◌, refl, ap, ◌∙◌, sym, ℕ, zero, suc, Bool, true, false, List, [], ◌∷◌, ◌++◌, arith}
use Rattle.std.specs.Prelude.{if◌then◌else◌, nat_lt, length, slice_get, slice_set, Option, Some, None}
use Rattle.std.proofs.lemmas.List.{length-append}
use Rattle.plain_heap.specs.Values.{Value, Prim, ObjNo, CellNo}
use Rattle.plain_heap.specs.Heap.{Heap, Key, Class, Plain, Array, Function, Builtin, ObjectState, is_array_class, object_at, set_object, add_object, new_state, depth_at, make_object, make_cell, set_cell, new_cell, is_configurable, without, Property}
use Rattle.plain_heap.specs.Methods.{Descriptor, Defining, Defined, Rejected, BadLength, IfSame, define, define_array, define_plain, delete, delete_by, own_property, array_index}
use Rattle.plain_heap.specs.Valid.{if_some, is_class, is_object, is_valid}
use Rattle.plain_heap.specs.Laws.{IsKept, add_objects}
use Rattle.plain_heap.proofs.Properties.{some_is, only_some}
use Rattle.plain_heap.proofs.Grown.{at_added}
use Rattle.plain_heap.proofs.Making.{makes_valid, right_parts}
use Rattle.plain_heap.proofs.Changing.{IsLike, HasLength, right_at, stays_kept, like_self, has_length, length_is, prevents, deletes}
use Rattle.plain_heap.proofs.Defining.{Ends, plain_ends, like_with}
use Rattle.plain_heap.proofs.Lengths.{IsArray, array_ends}
use Rattle.valid_runs.specs.Kept.{Keeps, IsStill, IsObject, IsValue}
use Rattle.valid_runs.proofs.Growing.{less_than, IsChange, change_is, cell_is}
use Rattle.valid_runs.proofs.Sound.{Made}

-- ---- an object in the place of another

record IsAs (o after : ObjectState) : Type 0 where
  class : after.class ≡ o.class
  prototype : after.prototype ≡ o.prototype
  depth : after.depth ≡ o.depth

record IsPlaced (xs : List ObjectState) (i : ℕ) (state : ObjectState) : Type 0 where
  now : ObjectState
  is : slice_get xs i ≡ Some now
  like : IsAs state now

as_it_was : (o : ObjectState) → IsAs o o
as_it_was o = record { class = refl; prototype = refl; depth = refl }

placed : (xs : List ObjectState) (i j : ℕ) (after old state : ObjectState) → slice_get xs i ≡ Some old → IsAs old after → slice_get xs j ≡ Some state → IsPlaced (slice_set xs i after) j state
placed [] i j after old state was like at = grind (arith, at)
placed (x ∷ xs) zero zero after old state was like at =
    let one = sym (some_is x old was) ∙ some_is x state at in
    record { now = after; is = refl; like = record { class = like.class ∙ ap (λ o. o.class) one; prototype = like.prototype ∙ ap (λ o. o.prototype) one; depth = like.depth ∙ ap (λ o. o.depth) one } }
placed (x ∷ xs) zero (suc j) after old state was like at = record { now = state; is = at; like = as_it_was state }
placed (x ∷ xs) (suc i) zero after old state was like at = record { now = state; is = at; like = as_it_was state }
placed (x ∷ xs) (suc i) (suc j) after old state was like at = let next = placed xs i j after old state was like at in record { now = next.now; is = next.is; like = next.like }

object_set : (s : Heap) (o : ObjNo) (state after : ObjectState) → object_at s o ≡ Some state → IsAs state after → IsKept s (set_object o after s) → Keeps s (set_object o after s)
object_set s o state after at like kept = record {
  valid = kept.valid;
  objects = λ p other was. still p other (placed s.objects o p after state other at like was);
  object_count = kept.objects;
  cell_count = kept.cells;
}
  where
    still : (p : ObjNo) (other : ObjectState) → IsPlaced (slice_set s.objects o after) p other → IsStill (set_object o after s) p other
    still p other now = record { now = now.now; is = now.is; class = now.like.class; prototype = now.like.prototype; depth = now.like.depth }

-- a heap with more objects
objects_added : (s : Heap) (states : List ObjectState) → IsKept s (add_objects states s) → Keeps s (add_objects states s)
objects_added s states kept = record {
  valid = kept.valid;
  objects = λ o state at. record { now = state; is = at_added s.objects states o state at; class = refl; prototype = refl; depth = refl };
  object_count = kept.objects;
  cell_count = kept.cells;
}

-- a heap with other cells
cells_kept : (s after : Heap) → after.objects ≡ s.objects → IsKept s after → Keeps s after
cells_kept s after e kept = record {
  valid = kept.valid;
  objects = λ o state at. record { now = state; is = ap (λ objects. slice_get objects o) e ∙ at; class = refl; prototype = refl; depth = refl };
  object_count = kept.objects;
  cell_count = kept.cells;
}

-- ---- 8.12.9 and 15.4.5.1

-- the heap is kept with this object in its place
pub record IsFit (s : Heap) (o : ObjNo) (after : ObjectState) : Type 0 where
  pub keeps : Keeps s (set_object o after s)

like_as : {s : Heap} {o after : ObjectState} → IsLike s o after → IsAs o after
like_as like = record { class = like.class; prototype = like.prototype; depth = like.depth }

fit : (s : Heap) (o : ObjNo) (state after : ObjectState) → is_valid s ≡ true → object_at s o ≡ Some state → IsLike s state after → is_class s after state.class ≡ true → IsFit s o after
fit s o state after valid at like class = record { keeps = object_set s o state after at (like_as like) (stays_kept s o state after valid at like class) }

array_class : (class : Class) → is_array_class class ≡ true → class ≡ Array
array_class Array is = refl
array_class Plain is = absurd (cc)
array_class (Function f names strict) is = absurd (cc)
array_class (Builtin n) is = absurd (cc)

any_properties : (h : Heap) (o after : ObjectState) (class : Class) → is_array_class class ≡ false → is_class h o class ≡ true → is_class h after class ≡ true
any_properties h o after Array other is = absurd (cc)
any_properties h o after Plain other is = is
any_properties h o after (Function f names strict) other is = is
any_properties h o after (Builtin n) other is = is

length_there : (h : Heap) (base o : ObjectState) → IsArray h base o → HasLength o.properties
length_there h base o array = record {
  property = array.property;
  at = array.is.at;
  is = record { enumerable = array.is.enumerable; configurable = array.is.configurable; wanted = array.count; number = array.number_is; below = array.is.below };
}

ends_as : {D E : ObjectState → Type 0} → ((o : ObjectState) → D o → E o) → (m : Defining) → Ends D D m → Ends E E m
ends_as f (Defined o) is = f o is
ends_as f (Rejected o) is = f o is
ends_as f BadLength is = refl
ends_as f (IfSame v w rest) is = λ b. ends_as f (rest b) (is b)

pub defined : (s : Heap) (o : ObjNo) (key : Key) (d : Descriptor) (state : ObjectState) → is_valid s ≡ true → object_at s o ≡ Some state → IsChange s d → Ends (IsFit s o) (IsFit s o) (define key d state)
unfolding define
defined s o key d state valid at change = by_class (is_array_class state.class) refl
  where
    right : is_object s state ≡ true
    right = right_at s o state valid at

    of_array : state.class ≡ Array → HasLength state.properties → Ends (IsFit s o) (IsFit s o) (define_array key d state)
    of_array class has =
        ends_as (λ after array. fit s o state after valid at array.is.like (ap (is_class s after) class ∙ length_is after.properties (length_there s state after array))) (define_array key d state)
        (array_ends s state state key d has.property has.is.wanted
        (record { like = like_self s state right; at = has.at; enumerable = has.is.enumerable; configurable = has.is.configurable; below = has.is.below }) has.is.number (change_is change))

    by_class : (b : Bool) → is_array_class state.class ≡ b → Ends (IsFit s o) (IsFit s o) (if b then define_array key d state else define_plain key d state)
    by_class true class = let array = array_class state.class class in of_array array (has_length state.properties (ap (is_class s state) (sym array) ∙ (right_parts s state right).class))
    by_class false class =
        let like = like_self s state right in
        ends_as (λ after like. fit s o state after valid at like (any_properties s state after state.class class (right_parts s state right).class)) (define_plain key d state)
        (plain_ends (IsLike s state) (IsLike s state) s state state key d like (change_is change) (λ p is. like_with s state state key p like is) like)

-- ---- 8.12.7

deleted_as : (key : Key) (state after : ObjectState) (p : Option Property) → delete_by key state p ≡ Some after → IsAs state after
deleted_as key state after None is = let one = sym (some_is state after is) in record { class = ap (λ o. o.class) one; prototype = ap (λ o. o.prototype) one; depth = ap (λ o. o.depth) one }
deleted_as key state after (Some p) is =
    let one = sym (only_some (is_configurable p) (record state { properties = without key state.properties }) after is).1 in
    record { class = ap (λ o. o.class) one; prototype = ap (λ o. o.prototype) one; depth = ap (λ o. o.depth) one }

pub deleted : (s : Heap) (o : ObjNo) (key : Key) (state after : ObjectState) → is_valid s ≡ true → object_at s o ≡ Some state → delete key state ≡ Some after → Keeps s (set_object o after s)
unfolding delete
deleted s o key state after valid at is = object_set s o state after at (deleted_as key state after (own_property key state) is) (deletes s o key state after valid at is)

-- ---- preventing extensions

pub closed : (s : Heap) (o : ObjNo) (state : ObjectState) → is_valid s ≡ true → object_at s o ≡ Some state → Keeps s (set_object o (record state { extensible = false }) s)
closed s o state valid at = object_set s o state (record state { extensible = false }) at (record { class = refl; prototype = refl; depth = refl }) (prevents s o state valid at)

-- ---- cells

pub record IsCell (h : Heap) (c : CellNo) : Type 0 where
  pub below : nat_lt c (length h.cells) ≡ true

pub cell_set : (s : Heap) (c : CellNo) {v : Value} → is_valid s ≡ true → IsValue s v → Keeps s (set_cell c v s)
cell_set s c {v = v} valid is = cells_kept s (set_cell c v s) refl (makes_valid.set s c v valid (cell_is is))

pub cell_made : (s : Heap) {v : Value} → is_valid s ≡ true → IsValue s v → Made s IsCell (make_cell v s)
cell_made s {v = v} valid is = record {
  keeps = cells_kept s (new_cell v s) refl (makes_valid.cell s v valid (cell_is is));
  value = record { below = let count = length-append s.cells (v ∷ []) in grind (arith, count) };
}

-- ---- objects

pub last_there : (s : Heap) (state : ObjectState) → IsObject (add_object state s) (length s.objects)
last_there s state = record { below = let count = length-append s.objects (state ∷ []) in omega (arith, count) }

-- the classes of objects that rules make
pub data IsMade : Class → Type 0 where
  makes_plain : IsMade Plain
  makes_array : IsMade Array

first_class : (s : Heap) (class : Class) (prototype : Option ObjNo) → IsMade class → is_class s (new_state class prototype (depth_at s prototype)) class ≡ true
unfolding array_index
first_class s _ prototype makes_plain = refl
first_class s _ prototype makes_array = refl

pub object_made : (s : Heap) {class : Class} (prototype : Option ObjNo) → IsMade class → is_valid s ≡ true → if_some (λ o. nat_lt o (length s.objects)) prototype ≡ true → Made s IsObject (make_object class prototype s)
object_made s {class = class} prototype made valid inside = record {
  keeps = objects_added s (new_state class prototype (depth_at s prototype) ∷ []) (makes_valid.object s class prototype valid inside (first_class s class prototype made));
  value = last_there s (new_state class prototype (depth_at s prototype));
}

pub object_made_with : (s : Heap) {class : Class} {prototype : ObjNo} → IsMade class → is_valid s ≡ true → IsObject s prototype → Made s IsObject (make_object class (Some prototype) s)
object_made_with s {prototype = prototype} made valid is = object_made s (Some prototype) made valid (less_than prototype (length s.objects) is.below)

pub pair_added : (s : Heap) (a b : ObjectState) → is_valid s ≡ true → is_object (add_object b (add_object a s)) a ≡ true → is_object (add_object b (add_object a s)) b ≡ true → Keeps s (add_object b (add_object a s))
pair_added s a b valid one two = record {
  valid = kept.valid;
  objects = λ o state at. record { now = state; is = at_added (s.objects ++ a ∷ []) (b ∷ []) o state (at_added s.objects (a ∷ []) o state at); class = refl; prototype = refl; depth = refl };
  object_count = kept.objects;
  cell_count = kept.cells;
}
  where
    kept : IsKept s (add_object b (add_object a s))
    kept = makes_valid.pair s a b valid one two
