-- Heaps that are the same but for numbers have equal listings.
use Rattle.std.proofs.Common.{◌≡◌, ℕ, ◌+◌, ◌≤◌, ◌<◌, max, Bool, true, false, List, [], ◌∷◌, length, map, refl, ap, sym, ◌∙◌, arith}
use Rattle.std.specs.Prelude.{◌||◌, eqb, nat_lt, Option, Some, None}
use Rattle.std.specs.List.{filter, flat_map, list_all, list_any, IsDistinct, AllByRecursion}
use Rattle.std.proofs.lemmas.Bool.{and_parts, both_ways}
use Rattle.std.proofs.lemmas.List.{length-map}
use Rattle.std.proofs.lemmas.Map.Steps.{length-le_from_distinct_below}
use Rattle.std.proofs.lemmas.Option.{slice_get_within}
use Rattle.js_tree.specs.declared.statement.Func.{Func}
use Rattle.plain_heap.specs.Heap.{Heap, ObjectState, object_at, cell}
use Rattle.plain_heap.specs.Values.{Value, ObjNo, CellNo}
use Rattle.js_machine.specs.Machine.Listed.{Item, AnObject, ACell, is_same_item, enter, queue_from, queue_of, thrown_item, row_of, listing_by, differs, IsSameEnding, Agree}
use Rattle.js_machine.specs.Machine.RealmObjects.{global}
use Rattle.js_machine.specs.Machine.Realm.{realm_count}
use Rattle.js_machine.specs.Machine.Walks.{Ending, Normally, Thrown, HostEvent, Ended}
use Rattle.listing_laws.specs.Renamed.{Renaming, renamed_item, renamed_ending, Listable, AreSameObjects, AreSameCells, IsRenamed, SameListing, left_by, is_there}
use Rattle.listing_laws.proofs.Walking.{in_renamed_value, enter_all, enter_renamed, queue_from_renamed, queue_from_all}
use Rattle.listing_laws.proofs.Finished.{entered_distinct, finished}
use Rattle.listing_laws.proofs.Rows.{rows_same, thrown_same}

-- ---- items that are there are at most as many as there are objects and cells

abbrev number_of : Heap → Item → ℕ
number_of h (AnObject o) = o
number_of h (ACell c) = length h.objects + c

numbers_differ : (h : Heap) (x y : Item) → is_there h x ≡ true → is_there h y ≡ true → is_same_item x y ≡ false → eqb (number_of h x) (number_of h y) ≡ false
numbers_differ h (AnObject m) (AnObject n) here there other = other
numbers_differ h (ACell m) (ACell n) here there other = grind (arith, other)
numbers_differ h (AnObject m) (ACell n) here there other = grind (arith, here)
numbers_differ h (ACell m) (AnObject n) here there other = grind (arith, there)

all_differ : (h : Heap) (x : Item) (q : List Item) → is_there h x ≡ true → list_all (is_there h) q ≡ true → AllByRecursion (λ y. is_same_item x y ≡ false) q
    → AllByRecursion (λ n. eqb (number_of h x) n ≡ false) (map (number_of h) q)
all_differ h x [] here all others = tt
all_differ h x (y ∷ q) here all others =
    let parts = and_parts (is_there h y) (list_all (is_there h) q) all in
    (numbers_differ h x y here parts.0 others.0, all_differ h x q here parts.1 others.1)

numbers_distinct : (h : Heap) (q : List Item) → list_all (is_there h) q ≡ true → IsDistinct is_same_item q → IsDistinct eqb (map (number_of h) q)
unfolding IsDistinct
numbers_distinct h [] all apart = tt
numbers_distinct h (x ∷ q) all apart =
    let parts = and_parts (is_there h x) (list_all (is_there h) q) all in
    (all_differ h x q parts.0 parts.1 apart.0, numbers_distinct h q parts.1 apart.1)

number_below : (h : Heap) (x : Item) → is_there h x ≡ true → number_of h x < length h.objects + length h.cells
number_below h (AnObject o) here = grind (arith, here)
number_below h (ACell c) here = grind (arith, here)

numbers_below : (h : Heap) (q : List Item) (n : ℕ) → list_all (is_there h) q ≡ true → list_any (eqb n) (map (number_of h) q) ≡ true → n < length h.objects + length h.cells
numbers_below h [] n all any = absurd (both_ways false refl any)
numbers_below h (x ∷ q) n all any =
    let parts = and_parts (is_there h x) (list_all (is_there h) q) all in
    by_first (eqb n (number_of h x)) refl (number_below h x parts.0) (numbers_below h q n parts.1) any
  where
    by_first : (b : Bool) → eqb n (number_of h x) ≡ b → number_of h x < length h.objects + length h.cells → (list_any (eqb n) (map (number_of h) q) ≡ true → n < length h.objects + length h.cells)
        → (b || list_any (eqb n) (map (number_of h) q)) ≡ true → n < length h.objects + length h.cells
    by_first true is below rest any = grind (arith, is, below)
    by_first false is below rest any = rest any

few_items : (h : Heap) (q : List Item) → list_all (is_there h) q ≡ true → IsDistinct is_same_item q → length q ≤ length h.objects + length h.cells
few_items h q all apart =
    rw (sym (length-map q (number_of h)))
    (length-le_from_distinct_below (map (number_of h) q) (length h.objects + length h.cells) (numbers_distinct h q all apart) (λ n any. numbers_below h q n all any))

-- ---- members are there, in both heaps

module _ (r : Renaming) (a b : Listable) (is_member : Item → Bool) (h : IsRenamed r a b is_member) where
  abbrev ren : Item → Item
  ren = renamed_item r

  both_objects : (o : ObjNo) (s t : Option ObjectState) → object_at a.heap o ≡ s → object_at b.heap (r.objects o) ≡ t → AreSameObjects r a b s t
      → (is_there a.heap (AnObject o) ≡ true) × (is_there b.heap (AnObject (r.objects o)) ≡ true)
  both_objects o (Some s) (Some t) is_s is_t same = (below o (length a.heap.objects) (slice_get_within a.heap.objects o s is_s), below (r.objects o) (length b.heap.objects) (slice_get_within b.heap.objects (r.objects o) t is_t))
    where
      below : (m n : ℕ) → m < n → nat_lt m n ≡ true
      below m n lt = grind (arith, lt)
  both_objects o None t is_s is_t same = absurd same
  both_objects o (Some s) None is_s is_t same = absurd same

  both_cells : (c : CellNo) (v w : Option Value) → cell a.heap c ≡ v → cell b.heap (r.cells c) ≡ w → AreSameCells r a b v w
      → (is_there a.heap (ACell c) ≡ true) × (is_there b.heap (ACell (r.cells c)) ≡ true)
  both_cells c (Some v) (Some w) is_v is_w same = (below c (length a.heap.cells) (slice_get_within a.heap.cells c v is_v), below (r.cells c) (length b.heap.cells) (slice_get_within b.heap.cells (r.cells c) w is_w))
    where
      below : (m n : ℕ) → m < n → nat_lt m n ≡ true
      below m n lt = grind (arith, lt)
  both_cells c None w is_v is_w same = absurd same
  both_cells c (Some v) None is_v is_w same = absurd same

  both_there : (x : Item) → is_member x ≡ true → (is_there a.heap x ≡ true) × (is_there b.heap (ren x) ≡ true)
  both_there (AnObject o) is = both_objects o (object_at a.heap o) (object_at b.heap (r.objects o)) refl refl (h.objects o is)
  both_there (ACell c) is = both_cells c (cell a.heap c) (cell b.heap (r.cells c)) refl refl (h.cells c is)

  all_there : (q : List Item) → list_all is_member q ≡ true → (list_all (is_there a.heap) q ≡ true) × (list_all (is_there b.heap) (map ren q) ≡ true)
  all_there [] members = (refl, refl)
  all_there (x ∷ q) members =
      let parts = and_parts (is_member x) (list_all is_member q) members in
      let here = both_there x parts.0 in
      let more = all_there q parts.1 in
      (rw (here.0, more.0) refl, rw (here.1, more.1) refl)

  others_renamed : (x : Item) (q : List Item) → is_member x ≡ true → list_all is_member q ≡ true → AllByRecursion (λ y. is_same_item x y ≡ false) q
      → AllByRecursion (λ y. is_same_item (ren x) y ≡ false) (map ren q)
  others_renamed x [] is members others = tt
  others_renamed x (y ∷ q) is members others =
      let parts = and_parts (is_member y) (list_all is_member q) members in
      (h.apart x y is parts.0 ∙ others.0, others_renamed x q is parts.1 others.1)

  distinct_renamed : (q : List Item) → list_all is_member q ≡ true → IsDistinct is_same_item q → IsDistinct is_same_item (map ren q)
  unfolding IsDistinct
  distinct_renamed [] members apart = tt
  distinct_renamed (x ∷ q) members apart =
      let parts = and_parts (is_member x) (list_all is_member q) members in
      (others_renamed x q parts.0 parts.1 apart.0, distinct_renamed q parts.1 apart.1)

  abbrev size : Heap → ℕ
  size heap = length heap.objects + length heap.cells

  pub few_in_first : (q : List Item) → IsDistinct is_same_item q → list_all is_member q ≡ true → length q ≤ size a.heap
  few_in_first q apart members = few_items a.heap q (all_there q members).0 apart

  few_in_second : (q : List Item) → IsDistinct is_same_item q → list_all is_member q ≡ true → length q ≤ size b.heap
  few_in_second q apart members =
      rw (sym (length-map q ren)) (few_items b.heap (map ren q) (all_there q members).1 (distinct_renamed q members apart))

  -- ---- the whole walk

  abbrev pub start : List Item
  start = enter (AnObject global ∷ []) (thrown_item a.ending)

  global_member : list_all is_member (AnObject global ∷ []) ≡ true
  global_member = rw (h.closed.realm global refl) refl

  pub start_members : list_all is_member start ≡ true
  start_members = enter_all r a b is_member h (AnObject global ∷ []) (thrown_item a.ending) global_member h.closed.thrown

  pub start_apart : IsDistinct is_same_item start
  unfolding IsDistinct
  start_apart = entered_distinct (AnObject global ∷ []) (thrown_item a.ending) (tt, tt)

  thrown_renamed : (e : Ending) → thrown_item (renamed_ending r e) ≡ map ren (thrown_item e)
  thrown_renamed Normally = refl
  thrown_renamed (Thrown v) = in_renamed_value r v

  start_renamed : enter (AnObject global ∷ []) (thrown_item b.ending) ≡ map ren start
  start_renamed =
      ap (λ e. enter (AnObject global ∷ []) (thrown_item e)) h.ending
      ∙ ap (enter (AnObject global ∷ [])) (thrown_renamed a.ending)
      ∙ ap (λ o. enter (AnObject o ∷ []) (map ren (thrown_item a.ending))) (sym (h.realm global refl))
      ∙ enter_renamed r a b is_member h (AnObject global ∷ []) (thrown_item a.ending) global_member h.closed.thrown

  steps : Heap → ℕ
  steps heap = length heap.objects + length heap.cells + realm_count

  abbrev walked : ℕ → List Item
  walked n = queue_from n a.free a.heap (0, start)

  same_walk : walked (steps b.heap) ≡ walked (steps a.heap)
  unfolding steps
  same_walk =
      let most = max (steps a.heap) (steps b.heap) in
      sym (finished r a b is_member h (size b.heap) few_in_second (steps b.heap) most start start_apart start_members (omega arith) (omega arith))
      ∙ finished r a b is_member h (size a.heap) few_in_first (steps a.heap) most start start_apart start_members (omega arith) (omega arith)

  pub queue_renamed : queue_of b.free b.heap b.ending ≡ map ren (queue_of a.free a.heap a.ending)
  unfolding queue_of steps
  queue_renamed =
      ap (λ q. queue_from (steps b.heap) b.free b.heap (0, q)) start_renamed
      ∙ queue_from_renamed r a b is_member h (steps b.heap) 0 start start_members
      ∙ ap (map ren) same_walk

  pub queue_members : list_all is_member (queue_of a.free a.heap a.ending) ≡ true
  unfolding queue_of
  queue_members = queue_from_all r a b is_member h (length a.heap.objects + length a.heap.cells + realm_count) 0 start start_members

  pub rows_renamed : listing_by b.code b.free b.heap b.ending ≡ listing_by a.code a.free a.heap a.ending
  unfolding listing_by
  rows_renamed =
      let q = queue_of a.free a.heap a.ending in
      ap (λ queue. filter differs (flat_map (row_of b.code b.free b.heap queue) queue)) queue_renamed
      ∙ ap (filter differs) (rows_same r a b is_member h q queue_members q queue_members)

-- ---- the laws

same_ending : (r : Renaming) (a b : Listable) (is_member : Item → Bool) (h : IsRenamed r a b is_member) (e f : Ending) → f ≡ renamed_ending r e → a.ending ≡ e
    → IsSameEnding e (queue_of a.free a.heap a.ending) f (map (renamed_item r) (queue_of a.free a.heap a.ending))
same_ending r a b is_member h Normally f is ends = rw is tt
same_ending r a b is_member h (Thrown v) f is ends =
    let q = queue_of a.free a.heap a.ending in
    rw is (thrown_same r a b is_member h q (queue_members r a b is_member h) v (ap (λ e. list_all is_member (thrown_item e)) (sym ends) ∙ h.closed.thrown))

renamed_agree : (r : Renaming) (functions others : List Func) (calls : List HostEvent) (e f : Ending) (g h : Heap) (is_member : Item → Bool)
    → IsRenamed r (left_by functions e g) (left_by others f h) is_member → Agree functions (Ended calls e g) others (Ended calls f h)
renamed_agree r functions others calls e f g h is_member same =
    let a = left_by functions e g in
    let b = left_by others f h in
    (refl, rw (queue_renamed r a b is_member same) (same_ending r a b is_member same e f same.ending refl), rows_renamed r a b is_member same)

pub same_listing : SameListing
same_listing = record {
  queue = λ r a b is_member h. queue_renamed r a b is_member h;
  rows = λ r a b is_member h. rows_renamed r a b is_member h;
  agree = renamed_agree;
}
