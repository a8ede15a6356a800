-- What was right in a heap is right in one that has grown from it.
use Rattle.std.proofs.Common.{◌≡◌, refl, Bool, true, false, List, [], ◌∷◌, ◌++◌, arith}
use Rattle.std.specs.Prelude.{◌≤◌, ◌<◌, zero, suc, length, ℕ, nat_lt, ◌&&◌, Option, Some, None, slice_get, slice_set, unwrap_or, nat_eq}
use Rattle.std.specs.List.{list_all}
use Rattle.std.specs.Option.{option_map}
use Rattle.std.proofs.lemmas.Bool.{and_parts, and_from}
use Rattle.plain_heap.specs.Heap.{Heap, Key, Property, Data, Accessor, Class, Plain, Array, Function, Builtin, ObjectState, object_at, is_function, is_function_class, Environment}
use Rattle.plain_heap.specs.Heap as heap
use Rattle.plain_heap.specs.Values.{ObjNo, CellNo, Value, Prim, Object, Absent, Symbolic}
use Rattle.plain_heap.specs.Valid.{if_some, is_value, is_property, is_class, is_object, is_cell, are_distinct, is_depth, are_cells}

-- ---- lists

module _ {A : Type 0} where
  pub all_kept : (p q : A → Bool) (xs : List A) → ((x : A) → p x ≡ true → q x ≡ true) → list_all p xs ≡ true → list_all q xs ≡ true
  all_kept p q [] keep is = refl
  all_kept p q (x ∷ xs) keep is =
      let parts = and_parts (p x) (list_all p xs) is in
      and_from (q x) (list_all q xs) (keep x parts.0) (all_kept p q xs keep parts.1)

  pub all_added : (p : A → Bool) (xs ys : List A) → list_all p xs ≡ true → list_all p ys ≡ true → list_all p (xs ++ ys) ≡ true
  all_added p [] ys is more = more
  all_added p (x ∷ xs) ys is more =
      let parts = and_parts (p x) (list_all p xs) is in
      and_from (p x) (list_all p (xs ++ ys)) parts.0 (all_added p xs ys parts.1 more)

  pub all_set : (p : A → Bool) (xs : List A) (i : ℕ) (a : A) → list_all p xs ≡ true → p a ≡ true → list_all p (slice_set xs i a) ≡ true
  all_set p [] i a is one = refl
  all_set p (x ∷ xs) zero a is one = and_from (p a) (list_all p xs) one (and_parts (p x) (list_all p xs) is).1
  all_set p (x ∷ xs) (suc i) a is one =
      let parts = and_parts (p x) (list_all p xs) is in
      and_from (p x) (list_all p (slice_set xs i a)) parts.0 (all_set p xs i a parts.1 one)

  pub one_of_all : (p : A → Bool) (xs : List A) (i : ℕ) (a : A) → list_all p xs ≡ true → slice_get xs i ≡ Some a → p a ≡ true
  one_of_all p [] i a is at = grind (arith, at)
  one_of_all p (x ∷ xs) zero a is at = grind (arith, at, and_parts (p x) (list_all p xs) is)
  one_of_all p (x ∷ xs) (suc i) a is at = one_of_all p xs i a (and_parts (p x) (list_all p xs) is).1 at

  pub at_added : (xs ys : List A) (i : ℕ) (a : A) → slice_get xs i ≡ Some a → slice_get (xs ++ ys) i ≡ Some a
  at_added [] ys i a at = grind (arith, at)
  at_added (x ∷ xs) ys zero a at = at
  at_added (x ∷ xs) ys (suc i) a at = at_added xs ys i a at

  -- an element that there is
  pub record At (xs : List A) (i : ℕ) : Type 0 where
    pub element : A
    pub is : slice_get xs i ≡ Some element

  pub at_place : (xs : List A) (i : ℕ) → i < length xs → At xs i
  at_place [] i below = grind (arith, below)
  at_place (x ∷ xs) zero below = record { element = x; is = refl }
  at_place (x ∷ xs) (suc i) below = let at = at_place xs i (omega arith) in record { element = at.element; is = at.is }

-- ---- heaps that have grown

-- an object of this class and with this prototype
pub record StillThere (after : Heap) (o : ObjNo) (state : ObjectState) : Type 0 where
  pub now : ObjectState
  pub is : object_at after o ≡ Some now
  pub class : now.class ≡ state.class
  pub prototype : now.prototype ≡ state.prototype
  pub depth : now.depth ≡ state.depth

pub record Grown (h after : Heap) : Type 0 where
  pub objects : (o : ObjNo) (state : ObjectState) → object_at h o ≡ Some state → StillThere after o state
  pub object_count : length h.objects ≤ length after.objects
  pub cell_count : length h.cells ≤ length after.cells

pub less_kept : (i m n : ℕ) → m ≤ n → nat_lt i m ≡ true → nat_lt i n ≡ true
less_kept i m n le is = grind (arith, le, is)

pub depth_kept : (h after : Heap) → Grown h after → (depth : ℕ) (p : Option ObjNo) → is_depth h depth p ≡ true → is_depth after depth p ≡ true
depth_kept h after grown depth None is = is
depth_kept h after grown depth (Some p) is = by_object (object_at h p) refl is
  where
    by_object : (found : Option ObjectState) → object_at h p ≡ found → unwrap_or (option_map (λ (state : ObjectState). nat_eq depth (suc state.depth)) found) false ≡ true → is_depth after depth (Some p) ≡ true
    by_object None at is = grind (arith, is)
    by_object (Some state) at is = let still = grown.objects p state at in rw (still.is, still.depth) is

-- what is right of an object of any class
abbrev pub is_right : Heap → ObjectState → Bool
is_right h o = is_depth h o.depth o.prototype && are_distinct o.properties && list_all (λ (p : Key × Property). is_property h p.1) o.properties

module _ (h after : Heap) (grown : Grown h after) where
  pub value_kept : (v : Value) → is_value h v ≡ true → is_value after v ≡ true
  value_kept (Object o) is = less_kept o (length h.objects) (length after.objects) grown.object_count is
  value_kept (Prim p) is = is
  value_kept Absent is = is
  value_kept (Symbolic s) is = is

  pub function_kept : (f : ObjNo) → is_function h f ≡ true → is_function after f ≡ true
  function_kept f is = by_object (object_at h f) refl is
    where
      by_object : (found : Option ObjectState) → object_at h f ≡ found → heap.is_class is_function_class found ≡ true → is_function after f ≡ true
      by_object None at is = grind (arith, is)
      by_object (Some state) at is = let still = grown.objects f state at in rw (still.is, still.class) is

  pub functions_kept : (f : Option ObjNo) → if_some (is_function h) f ≡ true → if_some (is_function after) f ≡ true
  functions_kept None is = refl
  functions_kept (Some f) is = function_kept f is

  pub property_kept : (p : Property) → is_property h p ≡ true → is_property after p ≡ true
  property_kept (Data p) is = value_kept p.value is
  property_kept (Accessor p) is =
      let parts = and_parts (if_some (is_function h) p.get) (if_some (is_function h) p.set) is in
      and_from (if_some (is_function after) p.get) (if_some (is_function after) p.set) (functions_kept p.get parts.0) (functions_kept p.set parts.1)

  cells_kept : (names : Environment) → are_cells h names ≡ true → are_cells after names ≡ true
  cells_kept names is = all_kept (λ (n : List ℕ × CellNo). nat_lt n.1 (length h.cells)) (λ (n : List ℕ × CellNo). nat_lt n.1 (length after.cells)) names (λ n. less_kept n.1 (length h.cells) (length after.cells) grown.cell_count) is

  pub class_kept : (o : ObjectState) (class : Class) → is_class h o class ≡ true → is_class after o class ≡ true
  class_kept o Plain is = is
  class_kept o Array is = is
  class_kept o (Builtin n) is = is
  class_kept o (Function f names strict) is = cells_kept names is

  pub properties_kept : (ps : List (Key × Property)) → list_all (λ (p : Key × Property). is_property h p.1) ps ≡ true → list_all (λ (p : Key × Property). is_property after p.1) ps ≡ true
  properties_kept ps is = all_kept (λ (p : Key × Property). is_property h p.1) (λ (p : Key × Property). is_property after p.1) ps (λ p. property_kept p.1) is

  pub cell_kept : (v : Value) → is_cell h v ≡ true → is_cell after v ≡ true
  cell_kept v is = grind (arith, is, value_kept v)

  -- an object without its class
  pub right_kept : (o : ObjectState) → is_right h o ≡ true → is_right after o ≡ true
  right_kept o is =
      let outer = and_parts (is_depth h o.depth o.prototype && are_distinct o.properties) (list_all (λ (p : Key × Property). is_property h p.1) o.properties) is in
      let inner = and_parts (is_depth h o.depth o.prototype) (are_distinct o.properties) outer.0 in
      rw (depth_kept h after grown o.depth o.prototype inner.0, inner.1, properties_kept o.properties outer.1) refl

  pub object_kept : (o : ObjectState) → is_object h o ≡ true → is_object after o ≡ true
  object_kept o is =
      let parts = and_parts (is_right h o) (is_class h o o.class) is in
      and_from (is_right after o) (is_class after o o.class) (right_kept o parts.0) (class_kept o o.class parts.1)
