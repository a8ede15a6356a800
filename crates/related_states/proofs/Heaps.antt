-- What two heaps that correspond give, and that they still do when both change alike.
use Rattle.std.proofs.Common.{◌≡◌, refl, subst, ℕ, zero, suc, Bool, true, false, cond, List, [], ◌∷◌, ◌++◌, arith}
use Rattle.std.specs.Prelude.{◌+◌, nat_eq, unwrap_or, length, slice_get, slice_set, codes, Option, Some, None}
use Rattle.std.specs.Option.{option_map, option_and_then}
use Rattle.std.proofs.lemmas.List.{length-append, length-set}
use Rattle.plain_heap.specs.Values.{Value, ObjNo, CellNo, undefined}
use Rattle.plain_heap.specs.Heap.{Heap, Key, Property, Data, Accessor, Properties, Class, ObjectState, object_at, set_object, add_object, new_state, first_properties, new_cell, set_cell, cell, lookup, or_else, depth_of, depth_at, is_function, is_array, is_class, is_array_class, is_function_class, is_enumerable}
use Rattle.plain_heap.specs.Heap as H
use Rattle.plain_heap.specs.Methods as M
use Rattle.plain_heap.specs.Methods.{Descriptor, Got, Putting, own_property, property_along, get_property, value_field, data_fields}
use Rattle.related_states.specs.Related.{Correspondence, BothOption, nothing, just, BothEach, none, also, SameValue, known, held, SameProperty, same_data, same_accessor, SameEntry, entry, SameClass, same_plain, same_array, same_function, same_builtin, SameState, same_state, SameHeaps, same_fields, SameGot, same_value, same_getter, SamePutting, same_refusal, same_define, same_setter}
use Rattle.related_states.proofs.Properties.{both_by, some_both, or_both, found_both, plainly_found, without_both, configurable_both}

-- ---- lists

at_end : {A : Type 0} (xs : List A) (a : A) (i : ℕ) → slice_get (xs ++ a ∷ []) i ≡ or_else (slice_get xs i) (cond (nat_eq i (length xs)) (Some a) None)
at_end [] a zero = refl
at_end [] a (suc i) = grind arith
at_end (y ∷ xs) a zero = refl
at_end (y ∷ xs) a (suc i) = grind (arith, at_end xs a i)

at_set : {A : Type 0} (xs : List A) (a : A) (i j : ℕ) → slice_get (slice_set xs i a) j ≡ cond (nat_eq j i) (option_map (λ y. a) (slice_get xs j)) (slice_get xs j)
at_set [] a i j = grind arith
at_set (y ∷ xs) a zero zero = refl
at_set (y ∷ xs) a zero (suc j) = grind arith
at_set (y ∷ xs) a (suc i) zero = grind arith
at_set (y ∷ xs) a (suc i) (suc j) = grind (arith, at_set xs a i j)

pub else_both : {A B : Type 0} {R : A → B → Type 0} {a c : Option A} {b d : Option B} → BothOption R a b → BothOption R c d → BothOption R (or_else a c) (or_else b d)
else_both nothing h = h
else_both (just r) h = just r

pub map_both : {A B C D : Type 0} {R : A → B → Type 0} (S : C → D → Type 0) {f : A → C} {g : B → D} → ((a : A) (b : B) → R a b → S (f a) (g b)) → {a : Option A} {b : Option B} → BothOption R a b → BothOption S (option_map f a) (option_map g b)
map_both S h nothing = nothing
map_both S h (just r) = just (h _ _ r)

pub then_option : {A B C D : Type 0} {R : A → B → Type 0} (S : C → D → Type 0) {f : A → Option C} {g : B → Option D} → ((a : A) (b : B) → R a b → BothOption S (f a) (g b)) → {a : Option A} {b : Option B} → BothOption R a b
    → BothOption S (option_and_then f a) (option_and_then g b)
then_option S h nothing = nothing
then_option S h (just r) = h _ _ r

-- two lists whose elements at numbers that correspond do
record Listed {A B : Type 0} (N : ℕ → ℕ → Type 0) (R : A → B → Type 0) (xs : List A) (ys : List B) : Type 0 where
  at : (i j : ℕ) → N i j → BothOption R (slice_get xs i) (slice_get ys j)

module _ {A B : Type 0} {N : ℕ → ℕ → Type 0} {R : A → B → Type 0} (unique : (o q p r : ℕ) → N o q → N p r → nat_eq o p ≡ nat_eq q r) where
  added : {xs : List A} {ys : List B} {a : A} {b : B} → Listed N R xs ys → N (length xs) (length ys) → R a b → Listed N R (xs ++ a ∷ []) (ys ++ b ∷ [])
  added {xs = xs} {ys = ys} {a = a} {b = b} all new r = record {
    at = λ i j n. rw (at_end xs a i, at_end ys b j) (else_both (all.at i j n) (both_by (BothOption R) (unique i j (length xs) (length ys) n new) (just r) nothing));
  }

  put : {xs : List A} {ys : List B} {a : A} {b : B} (i j : ℕ) → Listed N R xs ys → N i j → R a b → Listed N R (slice_set xs i a) (slice_set ys j b)
  put {xs = xs} {ys = ys} {a = a} {b = b} i j all same r = record {
    at = λ k l n. rw (at_set xs a i k, at_set ys b j l) (both_by (BothOption R) (unique k l i j n same) (map_both R (λ _ _ _. r) (all.at k l n)) (all.at k l n));
  }

grown : (N : ℕ → ℕ → Type 0) {A B : Type 0} (xs : List A) (ys : List B) (a : A) (b : B) → N (length xs + 1) (length ys + 1) → N (length (xs ++ a ∷ [])) (length (ys ++ b ∷ []))
grown N xs ys a b n = rw (length-append xs (a ∷ []), length-append ys (b ∷ [])) n

kept_count : (N : ℕ → ℕ → Type 0) {A B : Type 0} (xs : List A) (ys : List B) (i j : ℕ) (a : A) (b : B) → N (length xs) (length ys) → N (length (slice_set xs i a)) (length (slice_set ys j b))
kept_count N xs ys i j a b n = rw (length-set xs i a, length-set ys j b) n

module _ (x : Correspondence) where
  -- ---- 8.12.2: along chains of prototypes

  pub data FoundAt : ObjNo × Property → ObjNo × Property → Type 0 where
    found_at : {o q : ObjNo} {p r : Property} → x.Objects o q → SameProperty x p r → FoundAt (o, p) (q, r)

  pub own_both : (key : Key) {o q : ObjectState} → SameState x o q → BothOption (SameProperty x) (own_property key o) (own_property key q)
  own_both key (same_state {c = class} c p dp e ps) = plainly_found x (found_both x (is_array_class class) key ps)

  pub prototype_both : {o q : ObjectState} → SameState x o q → BothOption x.Objects o.prototype q.prototype
  prototype_both (same_state c p dp e ps) = p

  depth_of_same : {a b : Option ObjectState} → BothOption (SameState x) a b → depth_of a ≡ depth_of b
  depth_of_same nothing = refl
  depth_of_same (just (same_state c p d e ps)) = refl

  pub depth_same : (h g : Heap) → SameHeaps x h g → {o q : Option ObjNo} → BothOption x.Objects o q → depth_at h o ≡ depth_at g q
  depth_same h g same nothing = refl
  depth_same h g same (just r) = depth_of_same (same.objects _ _ r)

  along_both : (n : ℕ) (h g : Heap) → SameHeaps x h g → (key : Key) {o q : Option ObjNo} → BothOption x.Objects o q → BothOption FoundAt (property_along n h key o) (property_along n g key q)
  along_both zero h g same key r = nothing
  along_both (suc n) h g same key nothing = nothing
  along_both (suc n) h g same key (just r) = then_option FoundAt (λ s t st. else_both (map_both FoundAt (λ p q pr. found_at r pr) (own_both key st)) (along_both n h g same key (prototype_both st))) (same.objects _ _ r)

  pub get_property_both : (h g : Heap) → SameHeaps x h g → (key : Key) {o q : Option ObjNo} → BothOption x.Objects o q → BothOption FoundAt (get_property h key o) (get_property g key q)
  unfolding get_property
  get_property_both h g same key {o = o} {q = q} r = subst (λ n. BothOption FoundAt (property_along (depth_at h o) h key o) (property_along n g key q)) (depth_same h g same r) (along_both (depth_at h o) h g same key r)

  -- ---- 8.12.3 to 8.12.7

  got_both : {a b : Option (ObjNo × Property)} → BothOption FoundAt a b → SameGot x (M.got a) (M.got b)
  got_both nothing = same_value (held (known _))
  got_both (just (found_at r (same_data h w e c))) = same_value h
  got_both (just (found_at r (same_accessor nothing s e c))) = same_value (held (known _))
  got_both (just (found_at r (same_accessor (just f) s e c))) = same_getter f

  pub get_both : (h g : Heap) → SameHeaps x h g → {o q : ObjNo} → x.Objects o q → (key : Key) → SameGot x (M.get h o key) (M.get g q key)
  unfolding M.get
  get_both h g same r key = got_both (get_property_both h g same key (just r))

  inherited_same : (e : Bool) {a b : Option (ObjNo × Property)} → BothOption FoundAt a b → M.can_put_inherited e a ≡ M.can_put_inherited e b
  inherited_same e nothing = refl
  inherited_same e (just (found_at r (same_data h w n c))) = refl
  inherited_same e (just (found_at r (same_accessor g s n c))) = some_both s

  can_by_same : (h g : Heap) → SameHeaps x h g → (key : Key) {o q : ObjectState} → SameState x o q → {a b : Option Property} → BothOption (SameProperty x) a b → M.can_put_by h key o a ≡ M.can_put_by g key q b
  can_by_same h g same key (same_state c p dp e ps) nothing = inherited_same e (get_property_both h g same key p)
  can_by_same h g same key st (just (same_data v w n c)) = refl
  can_by_same h g same key st (just (same_accessor gt s n c)) = some_both s

  can_in_same : (h g : Heap) → SameHeaps x h g → (key : Key) {a b : Option ObjectState} → BothOption (SameState x) a b → M.can_put_in h key a ≡ M.can_put_in g key b
  can_in_same h g same key nothing = refl
  can_in_same h g same key (just st) = can_by_same h g same key st (own_both key st)

  can_put_same : (h g : Heap) → SameHeaps x h g → {o q : ObjNo} → x.Objects o q → (key : Key) → M.can_put h o key ≡ M.can_put g q key
  unfolding M.can_put
  can_put_same h g same r key = can_in_same h g same key (same.objects _ _ r)

  put_found_both : {v u : Value} → SameValue x v u → {a b : Option (ObjNo × Property)} → BothOption FoundAt a b → SamePutting x (M.put_found v a) (M.put_found u b)
  put_found_both v nothing = same_define (same_fields (just (held v)) (Some true) nothing nothing (Some true) (Some true))
  put_found_both v (just (found_at r (same_data h w e c))) = same_define (same_fields (just (held v)) (Some true) nothing nothing (Some true) (Some true))
  put_found_both v (just (found_at r (same_accessor g nothing e c))) = same_refusal
  put_found_both v (just (found_at r (same_accessor g (just f) e c))) = same_setter f

  put_by_both : (h g : Heap) → SameHeaps x h g → {o q : ObjNo} → x.Objects o q → (key : Key) {v u : Value} → SameValue x v u → {a b : Option Property} → BothOption (SameProperty x) a b
      → SamePutting x (M.put_by h o key v a) (M.put_by g q key u b)
  put_by_both h g same r key v nothing = put_found_both v (get_property_both h g same key (just r))
  put_by_both h g same r key v (just (same_data d w e c)) = same_define (same_fields (just (held v)) None nothing nothing None None)
  put_by_both h g same r key v (just (same_accessor gt s e c)) = put_found_both v (get_property_both h g same key (just r))

  own_at : (h g : Heap) → SameHeaps x h g → {o q : ObjNo} → x.Objects o q → (key : Key) → BothOption (SameProperty x) (option_and_then (own_property key) (object_at h o)) (option_and_then (own_property key) (object_at g q))
  own_at h g same r key = then_option (SameProperty x) (λ s t st. own_both key st) (same.objects _ _ r)

  pub put_both : (h g : Heap) → SameHeaps x h g → {o q : ObjNo} → x.Objects o q → (key : Key) {v u : Value} → SameValue x v u → SamePutting x (M.put h o key v) (M.put g q key u)
  unfolding M.put
  put_both h g same r key v = both_by (SamePutting x) (can_put_same h g same r key) (put_by_both h g same r key v (own_at h g same r key)) same_refusal

  pub own_property_both : (h g : Heap) → SameHeaps x h g → {o q : ObjNo} → x.Objects o q → (key : Key)
      → BothOption (SameProperty x) (option_and_then (own_property key) (object_at h o)) (option_and_then (own_property key) (object_at g q))
  own_property_both = own_at

  pub has_same : (h g : Heap) → SameHeaps x h g → {o q : ObjNo} → x.Objects o q → (key : Key) → M.has_property h o key ≡ M.has_property g q key
  unfolding M.has_property
  has_same h g same r key = some_both (get_property_both h g same key (just r))

  delete_by_both : (key : Key) {o q : ObjectState} → SameState x o q → {a b : Option Property} → BothOption (SameProperty x) a b → BothOption (SameState x) (M.delete_by key o a) (M.delete_by key q b)
  delete_by_both key st nothing = just st
  delete_by_both key (same_state {c = class} c p dp e ps) (just h) = both_by (BothOption (SameState x)) (configurable_both x h) (just (same_state c p dp e (without_both x (is_array_class class) key ps))) nothing

  delete_state : (key : Key) {o q : ObjectState} → SameState x o q → BothOption (SameState x) (M.delete key o) (M.delete key q)
  unfolding M.delete
  delete_state key st = delete_by_both key st (own_both key st)

  pub delete_both : (h g : Heap) → SameHeaps x h g → {o q : ObjNo} → x.Objects o q → (key : Key)
      → BothOption (SameState x) (option_and_then (M.delete key) (object_at h o)) (option_and_then (M.delete key) (object_at g q))
  delete_both h g same r key = then_option (SameState x) (λ s t st. delete_state key st) (same.objects _ _ r)

  -- ---- classes

  pub class_both : {o q : ObjectState} → SameState x o q → SameClass x o.class q.class
  class_both (same_state c p dp e ps) = c

  function_class_same : {c d : Class} → SameClass x c d → is_function_class c ≡ is_function_class d
  function_class_same same_plain = refl
  function_class_same same_array = refl
  function_class_same (same_function ns strict f s) = refl
  function_class_same (same_builtin n) = refl

  pub array_class_same : {c d : Class} → SameClass x c d → is_array_class c ≡ is_array_class d
  array_class_same same_plain = refl
  array_class_same same_array = refl
  array_class_same (same_function ns strict f s) = refl
  array_class_same (same_builtin n) = refl

  is_function_at : {a b : Option ObjectState} → BothOption (SameState x) a b → is_class is_function_class a ≡ is_class is_function_class b
  is_function_at nothing = refl
  is_function_at (just st) = function_class_same (class_both st)

  is_array_at : {a b : Option ObjectState} → BothOption (SameState x) a b → is_class is_array_class a ≡ is_class is_array_class b
  is_array_at nothing = refl
  is_array_at (just st) = array_class_same (class_both st)

  pub function_same : (h g : Heap) → SameHeaps x h g → {o q : ObjNo} → x.Objects o q → is_function h o ≡ is_function g q
  function_same h g same r = is_function_at (same.objects _ _ r)

  pub array_same : (h g : Heap) → SameHeaps x h g → {o q : ObjNo} → x.Objects o q → is_array h o ≡ is_array g q
  array_same h g same r = is_array_at (same.objects _ _ r)

  -- ---- cells

  pub cell_both : (h g : Heap) → SameHeaps x h g → {c d : CellNo} → x.Cells c d → SameValue x (unwrap_or (cell h c) undefined) (unwrap_or (cell g d) undefined)
  cell_both h g same r = or_both (same.cells _ _ r) (known _)

  -- ---- changes

  objects_of : {h g : Heap} → SameHeaps x h g → Listed x.Objects (SameState x) h.objects g.objects
  objects_of same = record { at = same.objects }

  cells_of : {h g : Heap} → SameHeaps x h g → Listed x.Cells (SameValue x) h.cells g.cells
  cells_of same = record { at = same.cells }

  pub set_object_both : (h g : Heap) → SameHeaps x h g → {o q : ObjNo} → x.Objects o q → {s t : ObjectState} → SameState x s t → SameHeaps x (set_object o s h) (set_object q t g)
  set_object_both h g same {o = o} {q = q} r {s = s} {t = t} st = record {
    cells = same.cells;
    cell_counts = same.cell_counts;
    objects = (put x.one_object o q (objects_of same) r st).at;
    object_counts = kept_count x.ObjectCounts h.objects g.objects o q s t same.object_counts;
  }

  pub add_object_both : (h g : Heap) → SameHeaps x h g → x.MadeObject (length h.objects) → {s t : ObjectState} → SameState x s t → SameHeaps x (add_object s h) (add_object t g)
  add_object_both h g same made {s = s} {t = t} st = record {
    cells = same.cells;
    cell_counts = same.cell_counts;
    objects = (added x.one_object (objects_of same) (x.new_object _ _ same.object_counts made) st).at;
    object_counts = grown x.ObjectCounts h.objects g.objects s t (x.next_object _ _ same.object_counts made);
  }

  pub new_cell_both : (h g : Heap) → SameHeaps x h g → x.MadeCell (length h.cells) → {v u : Value} → SameValue x v u → SameHeaps x (new_cell v h) (new_cell u g)
  new_cell_both h g same made {v = v} {u = u} r = record {
    objects = same.objects;
    object_counts = same.object_counts;
    cells = (added x.one_cell (cells_of same) (x.new_cell _ _ same.cell_counts made) r).at;
    cell_counts = grown x.CellCounts h.cells g.cells v u (x.next_cell _ _ same.cell_counts made);
  }

  pub set_cell_both : (h g : Heap) → SameHeaps x h g → {c d : CellNo} → x.Cells c d → {v u : Value} → SameValue x v u → SameHeaps x (set_cell c v h) (set_cell d u g)
  set_cell_both h g same {c = c} {d = d} n {v = v} {u = u} r = record {
    objects = same.objects;
    object_counts = same.object_counts;
    cells = (put x.one_cell c d (cells_of same) n r).at;
    cell_counts = kept_count x.CellCounts h.cells g.cells c d v u same.cell_counts;
  }

  -- the properties of a new object
  pub first_both : (class : Class) → BothEach (SameEntry x (is_array_class class)) (first_properties class) (first_properties class)
  first_both H.Plain = none
  first_both H.Array = also (entry (codes "length") (same_data (held (known _)) true false false) (λ a e. refl)) none
  first_both (H.Function f s strict) = none
  first_both (H.Builtin n) = none
