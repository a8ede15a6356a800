-- The walks of two heaps that are the same but for numbers go the same way, item by item.
use Rattle.std.proofs.Common.{◌≡◌, ℕ, zero, suc, Bool, true, false, cond, List, [], ◌∷◌, ◌++◌, length, map, refl, ap, sym, ◌∙◌, arith}
use Rattle.std.specs.Prelude.{not, nat_lt, if◌then◌else◌, slice_get, Option, Some, None, unwrap_or}
use Rattle.std.specs.List.{flat_map, list_all, position_or_len, range_with_len}
use Rattle.std.specs.Option.{option_map}
use Rattle.std.proofs.lemmas.Bool.{and_parts}
use Rattle.std.proofs.lemmas.List.{map-append}
use Rattle.std.proofs.lemmas.List.Folds.{list_all-append}
use Rattle.std.proofs.lemmas.Option.{slice_get-map}
use Rattle.plain_heap.specs.Heap.{Key, Property, Data, Accessor, Class, Plain, Array, Function, Builtin, ObjectState, object_at, cell}
use Rattle.plain_heap.specs.Values.{Value, Object, Prim, ObjNo, CellNo, undefined, object_or_null, object_or_undefined}
use Rattle.js_machine.specs.Machine.Listed.{Item, AnObject, ACell, captured, in_cells, in_value, in_property, in_class, in_object, next_of, has_item, enter, left_of_realm, advance, queue_from}
use Rattle.js_machine.specs.Machine.Realm.{realm_count}
use Rattle.listing_laws.specs.Renamed.{Renaming, renamed_item, renamed_value, renamed_property, renamed_entry, Listable, IsSameClass, IsSameObject, AreSameObjects, AreSameCells, IsRenamed}

-- ---- what values and properties lead to

pub in_renamed_value : (r : Renaming) (v : Value) → in_value (renamed_value r v) ≡ map (renamed_item r) (in_value v)
in_renamed_value r (Object o) = refl
in_renamed_value r v = refl

in_renamed_prototype : (r : Renaming) (p : Option ObjNo) → in_value (object_or_null (option_map r.objects p)) ≡ map (renamed_item r) (in_value (object_or_null p))
in_renamed_prototype r None = refl
in_renamed_prototype r (Some o) = refl

in_renamed_function : (r : Renaming) (p : Option ObjNo) → in_value (object_or_undefined (option_map r.objects p)) ≡ map (renamed_item r) (in_value (object_or_undefined p))
in_renamed_function r None = refl
in_renamed_function r (Some o) = refl

in_renamed_property : (r : Renaming) (p : Property) → in_property (renamed_property r p) ≡ map (renamed_item r) (in_property p)
in_renamed_property r (Data p) = in_renamed_value r p.value
in_renamed_property r (Accessor p) =
    ap (λ items. items ++ in_value (object_or_undefined (option_map r.objects p.set))) (in_renamed_function r p.get)
    ∙ ap (λ items. map (renamed_item r) (in_value (object_or_undefined p.get)) ++ items) (in_renamed_function r p.set)
    ∙ sym (map-append (renamed_item r) (in_value (object_or_undefined p.get)) (in_value (object_or_undefined p.set)))

abbrev pub in_properties : List (Key × Property) → List Item
in_properties ps = flat_map (λ (p : Key × Property). in_property p.1) ps

in_renamed_properties : (r : Renaming) (ps : List (Key × Property)) → in_properties (map (renamed_entry r) ps) ≡ map (renamed_item r) (in_properties ps)
in_renamed_properties r [] = refl
in_renamed_properties r (p ∷ ps) =
    ap (λ items. items ++ in_properties (map (renamed_entry r) ps)) (in_renamed_property r p.1)
    ∙ ap (λ items. map (renamed_item r) (in_property p.1) ++ items) (in_renamed_properties r ps)
    ∙ sym (map-append (renamed_item r) (in_property p.1) (in_properties ps))

cell_items : (r : Renaming) (cs : List CellNo) → map (λ c. ACell c) (map r.cells cs) ≡ map (renamed_item r) (map (λ c. ACell c) cs)
cell_items r [] = refl
cell_items r (c ∷ cs) = ap (λ items. ACell (r.cells c) ∷ items) (cell_items r cs)

-- ---- fronts of a list by two tests that agree on it

same_place : (p q t : ℕ → Bool) (xs : List ℕ) → list_all t xs ≡ true → ((x : ℕ) → t x ≡ true → p x ≡ q x) → position_or_len p xs ≡ position_or_len q xs
same_place p q t [] all same = refl
same_place p q t (x ∷ xs) all same =
    let parts = and_parts (t x) (list_all t xs) all in
    rw (same x parts.0, same_place p q t xs parts.1 same) refl

pub all_below : list_all (λ o. nat_lt o realm_count) (range_with_len 0 realm_count) ≡ true
all_below = refl

pub realm_numbers : length (range_with_len 0 realm_count) ≡ realm_count
realm_numbers = refl

module _ (r : Renaming) (a b : Listable) (is_member : Item → Bool) (h : IsRenamed r a b is_member) where
  abbrev ren : Item → Item
  ren = renamed_item r

  abbrev all : List Item → Type 0
  all q = list_all is_member q ≡ true

  pub has_renamed : (q : List Item) (x : Item) → all q → is_member x ≡ true → has_item (map ren q) (ren x) ≡ has_item q x
  has_renamed [] x members is = refl
  has_renamed (y ∷ q) x members is =
      let parts = and_parts (is_member y) (list_all is_member q) members in
      rw (h.apart x y is parts.0, has_renamed q x parts.1 is) refl

  pub all_push : (q : List Item) (x : Item) → all q → is_member x ≡ true → all (q ++ x ∷ [])
  all_push q x members is = rw (list_all-append is_member q (x ∷ []), members, is) refl

  pub enter_all : (q xs : List Item) → all q → all xs → all (enter q xs)
  enter_all q [] members more = members
  enter_all q (x ∷ xs) members more =
      let parts = and_parts (is_member x) (list_all is_member xs) more in
      by_had (has_item q x) (enter_all q xs members parts.1) (enter_all (q ++ x ∷ []) xs (all_push q x members parts.0) parts.1)
    where
      by_had : (had : Bool) → all (enter q xs) → all (enter (q ++ x ∷ []) xs) → all (if had then enter q xs else enter (q ++ x ∷ []) xs)
      by_had true old new = old
      by_had false old new = new

  pub enter_renamed : (q xs : List Item) → all q → all xs → enter (map ren q) (map ren xs) ≡ map ren (enter q xs)
  enter_renamed q [] members more = refl
  enter_renamed q (x ∷ xs) members more =
      let parts = and_parts (is_member x) (list_all is_member xs) more in
      rw (has_renamed q x members parts.0)
      (by_had (has_item q x) (enter_renamed q xs members parts.1)
      (ap (λ l. enter l (map ren xs)) (sym (map-append ren q (x ∷ []))) ∙ enter_renamed (q ++ x ∷ []) xs (all_push q x members parts.0) parts.1))
    where
      by_had : (had : Bool) → enter (map ren q) (map ren xs) ≡ map ren (enter q xs) → enter (map ren q ++ ren x ∷ []) (map ren xs) ≡ map ren (enter (q ++ x ∷ []) xs)
          → (if had then enter (map ren q) (map ren xs) else enter (map ren q ++ ren x ∷ []) (map ren xs)) ≡ map ren (if had then enter q xs else enter (q ++ x ∷ []) xs)
      by_had true old new = old
      by_had false old new = new

  -- ---- the realm

  realm_had : (q : List Item) (o : ObjNo) → all q → nat_lt o realm_count ≡ true → not (has_item (map ren q) (AnObject o)) ≡ not (has_item q (AnObject o))
  realm_had q o members below =
      ap not (ap (λ p. has_item (map ren q) (AnObject p)) (sym (h.realm o below)) ∙ has_renamed q (AnObject o) members (h.closed.realm o below))

  pub left_renamed : (q : List Item) → all q → left_of_realm (map ren q) ≡ left_of_realm q
  left_renamed q members =
      ap (λ n. unwrap_or (option_map (λ n. Some n) (cond (nat_lt n (length (range_with_len 0 realm_count))) (Some n) None)) None)
      (same_place (λ o. not (has_item (map ren q) (AnObject o))) (λ o. not (has_item q (AnObject o))) (λ o. nat_lt o realm_count) (range_with_len 0 realm_count) all_below (λ o below. realm_had q o members below))

  -- ---- what items lead to

  class_renamed : (c d : Class) → IsSameClass r a b c d → in_class b.free d ≡ map ren (in_class a.free c)
  class_renamed Plain Plain same = refl
  class_renamed Array Array same = refl
  class_renamed (Builtin m) (Builtin n) same = refl
  class_renamed (Function f s strict) (Function g t also) same = ap (λ cs. map (λ c. ACell c) cs) same.0.cells ∙ cell_items r (in_cells s (captured a.free f s))
  class_renamed Plain Array same = absurd same
  class_renamed Plain (Function g t also) same = absurd same
  class_renamed Plain (Builtin n) same = absurd same
  class_renamed Array Plain same = absurd same
  class_renamed Array (Function g t also) same = absurd same
  class_renamed Array (Builtin n) same = absurd same
  class_renamed (Function f s strict) Plain same = absurd same
  class_renamed (Function f s strict) Array same = absurd same
  class_renamed (Function f s strict) (Builtin n) same = absurd same
  class_renamed (Builtin m) Plain same = absurd same
  class_renamed (Builtin m) Array same = absurd same
  class_renamed (Builtin m) (Function g t also) same = absurd same

  object_renamed : (s t : ObjectState) → IsSameObject r a b s t → in_object b.free t ≡ map ren (in_object a.free s)
  object_renamed s t same =
      let first = in_value (object_or_null s.prototype) in
      let second = in_properties s.properties in
      let third = in_class a.free s.class in
      ap (λ p. in_value (object_or_null p) ++ in_properties t.properties ++ in_class b.free t.class) same.prototype
      ∙ ap (λ items. items ++ in_properties t.properties ++ in_class b.free t.class) (in_renamed_prototype r s.prototype)
      ∙ ap (λ ps. map ren first ++ in_properties ps ++ in_class b.free t.class) same.properties
      ∙ ap (λ items. map ren first ++ items ++ in_class b.free t.class) (in_renamed_properties r s.properties)
      ∙ ap (λ items. map ren first ++ map ren second ++ items) (class_renamed s.class t.class same.class)
      ∙ ap (λ items. items ++ map ren third) (sym (map-append ren first second))
      ∙ sym (map-append ren (first ++ second) third)

  by_objects : (s t : Option ObjectState) → AreSameObjects r a b s t
      → unwrap_or (option_map (in_object b.free) t) [] ≡ map ren (unwrap_or (option_map (in_object a.free) s) [])
  by_objects (Some s) (Some t) same = object_renamed s t same
  by_objects None t same = absurd same
  by_objects (Some s) None same = absurd same

  by_cells : (v w : Option Value) → AreSameCells r a b v w → in_value (unwrap_or w undefined) ≡ map ren (in_value (unwrap_or v undefined))
  by_cells (Some v) (Some w) same = ap in_value same ∙ in_renamed_value r v
  by_cells None w same = absurd same
  by_cells (Some v) None same = absurd same

  pub next_renamed : (x : Item) → is_member x ≡ true → next_of b.free b.heap (ren x) ≡ map ren (next_of a.free a.heap x)
  next_renamed (AnObject o) is = by_objects (object_at a.heap o) (object_at b.heap (r.objects o)) (h.objects o is)
  next_renamed (ACell c) is = by_cells (cell a.heap c) (cell b.heap (r.cells c)) (h.cells c is)

  -- ---- one step of the walk

  abbrev pub IsGood : Option Item → Type 0
  IsGood None = Unit {0}
  IsGood (Some x) = is_member x ≡ true

  pub found_good : (q : List Item) (k : ℕ) → all q → IsGood (slice_get q k)
  found_good [] k members = tt
  found_good (x ∷ q) zero members = (and_parts (is_member x) (list_all is_member q) members).0
  found_good (x ∷ q) (suc k) members = found_good q k (and_parts (is_member x) (list_all is_member q) members).1

  below_by : (n m : ℕ) (o : ObjNo) → unwrap_or (option_map (λ n. Some n) (cond (nat_lt n m) (Some n) None)) None ≡ Some o → nat_lt o m ≡ true
  below_by n m o is = grind (arith, is)

  pub left_below : (q : List Item) (o : ObjNo) → left_of_realm q ≡ Some o → nat_lt o realm_count ≡ true
  left_below q o is = below_by (position_or_len (λ o. not (has_item q (AnObject o))) (range_with_len 0 realm_count)) realm_count o is

  abbrev pub with_left : List Item → Option ObjNo → List Item
  with_left q left = unwrap_or (option_map (λ o. q ++ AnObject o ∷ []) left) q

  with_left_renamed : (q : List Item) (left : Option ObjNo) → left_of_realm q ≡ left → with_left (map ren q) left ≡ map ren (with_left q left)
  with_left_renamed q None is = refl
  with_left_renamed q (Some o) is =
      ap (λ p. map ren q ++ AnObject p ∷ []) (sym (h.realm o (left_below q o is))) ∙ sym (map-append ren q (AnObject o ∷ []))

  with_left_all : (q : List Item) (left : Option ObjNo) → left_of_realm q ≡ left → all q → all (with_left q left)
  with_left_all q None is members = members
  with_left_all q (Some o) is members = all_push q (AnObject o) members (h.closed.realm o (left_below q o is))

  pub advance_all : (k : ℕ) (q : List Item) (x : Option Item) → all q → IsGood x → all (advance a.free a.heap (k, q) x).1
  advance_all k q (Some x) members good = enter_all q (next_of a.free a.heap x) members (h.closed.onwards x good)
  advance_all k q None members good = with_left_all q (left_of_realm q) refl members

  advance_renamed : (k : ℕ) (q : List Item) (x : Option Item) → all q → IsGood x
      → advance b.free b.heap (k, map ren q) (option_map ren x) ≡ ((advance a.free a.heap (k, q) x).0, map ren (advance a.free a.heap (k, q) x).1)
  advance_renamed k q (Some x) members good =
      ap (λ items. (suc k, enter (map ren q) items)) (next_renamed x good) ∙ ap (λ items. (suc k, items)) (enter_renamed q (next_of a.free a.heap x) members (h.closed.onwards x good))
  advance_renamed k q None members good =
      ap (λ left. (k, with_left (map ren q) left)) (left_renamed q members) ∙ ap (λ items. (k, items)) (with_left_renamed q (left_of_realm q) refl)

  pub queue_from_renamed : (n k : ℕ) (q : List Item) → all q → queue_from n b.free b.heap (k, map ren q) ≡ map ren (queue_from n a.free a.heap (k, q))
  queue_from_renamed zero k q members = refl
  queue_from_renamed (suc n) k q members =
      let good = found_good q k members in
      let w = advance a.free a.heap (k, q) (slice_get q k) in
      ap (λ x. queue_from n b.free b.heap (advance b.free b.heap (k, map ren q) x)) (slice_get-map ren q k)
      ∙ ap (queue_from n b.free b.heap) (advance_renamed k q (slice_get q k) members good)
      ∙ queue_from_renamed n w.0 w.1 (advance_all k q (slice_get q k) members good)

  pub queue_from_all : (n k : ℕ) (q : List Item) → all q → all (queue_from n a.free a.heap (k, q))
  queue_from_all zero k q members = members
  queue_from_all (suc n) k q members =
      let w = advance a.free a.heap (k, q) (slice_get q k) in
      queue_from_all n w.0 w.1 (advance_all k q (slice_get q k) members (found_good q k members))
