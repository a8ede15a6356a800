-- The rows of two heaps that are the same but for numbers are equal, by walks that go the same way.
use Rattle.std.proofs.Common.{◌≡◌, ℕ, zero, suc, Bool, true, false, cond, List, [], ◌∷◌, ◌++◌, length, map, take, drop, refl, ap, sym, ◌∙◌, arith}
use Rattle.std.specs.Prelude.{not, ◌&&◌, nat_eq, nat_le, nat_lt, if◌then◌else◌, is_some, slice_get, Option, Some, None, unwrap_or}
use Rattle.std.specs.List.{filter, flat_map, list_all, position_or_len}
use Rattle.std.specs.Option.{option_map}
use Rattle.std.proofs.lemmas.Bool.{and_parts}
use Rattle.std.proofs.lemmas.List.Folds.{list_all-append}
use Rattle.js_value.specs.Conversions.{is_same_text}
use Rattle.plain_heap.specs.Heap.{Key, Property, Properties, Data, Accessor, Class, Plain, Array, Function, Builtin, ObjectState, cell, lookup, object_at}
use Rattle.plain_heap.specs.Methods.{is_same_function}
use Rattle.plain_heap.specs.Values.{Value, Object, Prim, ObjNo, CellNo, undefined, object_or_null, object_or_undefined}
use Rattle.js_machine.specs.Machine.Listed.{Item, AnObject, ACell, captured, in_cells, in_value, in_property, in_class, in_object, is_same_item, is_new_object, is_cell, rank, listed_value, listed_property, is_same_property, key_position, old_count, gone_keys, is_changed, row_of_realm, realm_properties, sort_of, object_row, row_of, CellRow, ListedValue, Row}
use Rattle.js_machine.specs.Machine.Operators.{is_same}
use Rattle.js_machine.specs.Machine.Realm.{realm, realm_count}
use Rattle.listing_laws.specs.Renamed.{Renaming, renamed_item, renamed_value, renamed_property, renamed_entry, Listable, IsSameClass, IsSameObject, AreSameObjects, AreSameCells, IsRenamed}
use Rattle.listing_laws.proofs.Walking.{in_properties}

-- ---- the realm's own properties hold no new objects

abbrev pub is_old : Value → Bool
is_old (Object o) = nat_lt o realm_count
is_old v = true

abbrev pub is_old_function : Option ObjNo → Bool
is_old_function None = true
is_old_function (Some o) = nat_lt o realm_count

abbrev pub is_old_property : Property → Bool
is_old_property (Data p) = is_old p.value
is_old_property (Accessor p) = is_old_function p.get && is_old_function p.set

abbrev pub are_old : Properties → Bool
are_old ps = list_all (λ (p : Key × Property). is_old_property p.1) ps

realm_old : list_all (λ (o : ObjectState). are_old o.properties) realm.objects ≡ true
unfolding realm
realm_old = refl

old_at : (os : List ObjectState) (o : ℕ) → list_all (λ (o : ObjectState). are_old o.properties) os ≡ true
    → are_old (unwrap_or (option_map (λ (state : ObjectState). state.properties) (slice_get os o)) []) ≡ true
old_at [] o all = refl
old_at (s ∷ os) zero all = (and_parts (are_old s.properties) (list_all (λ (o : ObjectState). are_old o.properties) os) all).0
old_at (s ∷ os) (suc o) all = old_at os o (and_parts (are_old s.properties) (list_all (λ (o : ObjectState). are_old o.properties) os) all).1

pub start_old : (o : ObjNo) → are_old (realm_properties o) ≡ true
start_old o = old_at realm.objects o realm_old

module _ (r : Renaming) (a b : Listable) (is_member : Item → Bool) (h : IsRenamed r a b is_member) where
  abbrev ren : Item → Item
  ren = renamed_item r

  abbrev all : List Item → Type 0
  all q = list_all is_member q ≡ true

  -- ---- ranks

  -- a sort of items that renaming keeps
  abbrev KeepsSort : (Item → Bool) → Type 0
  KeepsSort sort = (x : Item) → is_member x ≡ true → sort (ren x) ≡ sort x

  filter_renamed : (sort : Item → Bool) → KeepsSort sort → (q : List Item) → all q → filter sort (map ren q) ≡ map ren (filter sort q)
  filter_renamed sort keeps [] members = refl
  filter_renamed sort keeps (x ∷ q) members =
      let parts = and_parts (is_member x) (list_all is_member q) members in
      rw (keeps x parts.0, filter_renamed sort keeps q parts.1) (by_sort (sort x))
    where
      by_sort : (s : Bool) → cond s (ren x ∷ map ren (filter sort q)) (map ren (filter sort q)) ≡ map ren (cond s (x ∷ filter sort q) (filter sort q))
      by_sort true = refl
      by_sort false = refl

  filter_all : (sort : Item → Bool) (q : List Item) → all q → all (filter sort q)
  filter_all sort [] members = refl
  filter_all sort (x ∷ q) members =
      let parts = and_parts (is_member x) (list_all is_member q) members in
      by_sort (sort x) parts.0 (filter_all sort q parts.1)
    where
      by_sort : (s : Bool) → is_member x ≡ true → all (filter sort q) → all (cond s (x ∷ filter sort q) (filter sort q))
      by_sort true is more = rw (is, more) refl
      by_sort false is more = more

  place_renamed : (q : List Item) (x : Item) → all q → is_member x ≡ true → position_or_len (is_same_item (ren x)) (map ren q) ≡ position_or_len (is_same_item x) q
  place_renamed [] x members is = refl
  place_renamed (y ∷ q) x members is =
      let parts = and_parts (is_member y) (list_all is_member q) members in
      rw (h.apart x y is parts.0, place_renamed q x parts.1 is) refl

  length_renamed : (q : List Item) → length (map ren q) ≡ length q
  length_renamed [] = refl
  length_renamed (x ∷ q) = ap suc (length_renamed q)

  abbrev rank_at : ℕ → ℕ → ℕ
  rank_at n m = unwrap_or (option_map (λ n. suc n) (cond (nat_lt n m) (Some n) None)) 0

  rank_renamed : (sort : Item → Bool) → KeepsSort sort → (q : List Item) (x : Item) → all q → is_member x ≡ true → rank sort (map ren q) (ren x) ≡ rank sort q x
  rank_renamed sort keeps q x members is =
      rw (filter_renamed sort keeps q members, place_renamed (filter sort q) x (filter_all sort q members) is, length_renamed (filter sort q)) refl

  not_below : (c m n : ℕ) → nat_lt m c ≡ nat_lt n c → nat_le c m ≡ nat_le c n
  not_below c m n is = turned c m ∙ ap not is ∙ sym (turned c n)
    where
      turned : (c m : ℕ) → nat_le c m ≡ not (nat_lt m c)
      turned c m = grind arith

  new_kept : KeepsSort is_new_object
  new_kept (AnObject o) is = not_below realm_count (r.objects o) o (h.others o is)
  new_kept (ACell c) is = refl

  cells_kept : KeepsSort is_cell
  cells_kept (AnObject o) is = refl
  cells_kept (ACell c) is = refl

  -- ---- values and properties

  module _ (q : List Item) (members : all q) where
    object_listed : (o : ObjNo) → is_member (AnObject o) ≡ true → listed_value (map ren q) (Object (r.objects o)) ≡ listed_value q (Object o)
    object_listed o is = by_realm (nat_lt o realm_count) refl
      where
        by_realm : (old : Bool) → nat_lt o realm_count ≡ old → listed_value (map ren q) (Object (r.objects o)) ≡ listed_value q (Object o)
        by_realm true below = ap (λ p. listed_value (map ren q) (Object p)) (h.realm o below) ∙ rw below refl
        by_realm false above = rw (h.others o is, above, rank_renamed is_new_object new_kept q (AnObject o) members is) refl

    value_listed : (v : Value) → all (in_value v) → listed_value (map ren q) (renamed_value r v) ≡ listed_value q v
    value_listed (Object o) is = object_listed o (and_parts (is_member (AnObject o)) true is).0
    value_listed v is = refl

    prototype_listed : (p : Option ObjNo) → all (in_value (object_or_null p)) → listed_value (map ren q) (object_or_null (option_map r.objects p)) ≡ listed_value q (object_or_null p)
    prototype_listed None is = refl
    prototype_listed (Some o) is = object_listed o (and_parts (is_member (AnObject o)) true is).0

    function_listed : (p : Option ObjNo) → all (in_value (object_or_undefined p)) → listed_value (map ren q) (object_or_undefined (option_map r.objects p)) ≡ listed_value q (object_or_undefined p)
    function_listed None is = refl
    function_listed (Some o) is = object_listed o (and_parts (is_member (AnObject o)) true is).0

    property_listed : (key : Key) (p : Property) → all (in_property p) → listed_property (map ren q) (key, renamed_property r p) ≡ listed_property q (key, p)
    property_listed key (Data p) is = rw (value_listed p.value is) refl
    property_listed key (Accessor p) is =
        let parts = and_parts (list_all is_member (in_value (object_or_undefined p.get))) (list_all is_member (in_value (object_or_undefined p.set)))
        (sym (list_all-append is_member (in_value (object_or_undefined p.get)) (in_value (object_or_undefined p.set))) ∙ is) in
        rw (function_listed p.get parts.0, function_listed p.set parts.1) refl

    abbrev AllListed : Properties → Type 0
    AllListed ps = all (in_properties ps)

    listed_parts : (p : Key × Property) (ps : Properties) → AllListed (p ∷ ps) → all (in_property p.1) × AllListed ps
    listed_parts p ps is =
        and_parts (list_all is_member (in_property p.1)) (list_all is_member (in_properties ps)) (sym (list_all-append is_member (in_property p.1) (in_properties ps)) ∙ is)

    properties_listed : (ps : Properties) → AllListed ps → map (listed_property (map ren q)) (map (renamed_entry r) ps) ≡ map (listed_property q) ps
    properties_listed [] is = refl
    properties_listed (p ∷ ps) is =
        let parts = listed_parts p ps is in
        rw (property_listed p.0 p.1 parts.0, properties_listed ps parts.1) refl

    -- ---- what differs of an object of the realm

    taken_renamed : (n : ℕ) (ps : Properties) → take n (map (renamed_entry r) ps) ≡ map (renamed_entry r) (take n ps)
    taken_renamed zero ps = refl
    taken_renamed (suc n) [] = refl
    taken_renamed (suc n) (p ∷ ps) = ap (λ ps. renamed_entry r p ∷ ps) (taken_renamed n ps)

    dropped_renamed : (n : ℕ) (ps : Properties) → drop n (map (renamed_entry r) ps) ≡ map (renamed_entry r) (drop n ps)
    dropped_renamed zero ps = refl
    dropped_renamed (suc n) [] = refl
    dropped_renamed (suc n) (p ∷ ps) = dropped_renamed n ps

    taken_all : (n : ℕ) (ps : Properties) → AllListed ps → AllListed (take n ps)
    taken_all zero ps is = refl
    taken_all (suc n) [] is = refl
    taken_all (suc n) (p ∷ ps) is =
        let parts = listed_parts p ps is in
        rw (list_all-append is_member (in_property p.1) (in_properties (take n ps)), parts.0, taken_all n ps parts.1) refl

    dropped_all : (n : ℕ) (ps : Properties) → AllListed ps → AllListed (drop n ps)
    dropped_all zero ps is = is
    dropped_all (suc n) [] is = refl
    dropped_all (suc n) (p ∷ ps) is = dropped_all n ps (listed_parts p ps is).1

    count_renamed : (start ps : Properties) → old_count start (map (renamed_entry r) ps) ≡ old_count start ps
    count_renamed start [] = refl
    count_renamed start (p ∷ ps) = by_place (λ start. count_renamed start ps) (key_position p.0 start)
      where
        by_place : ((start : Properties) → old_count start (map (renamed_entry r) ps) ≡ old_count start ps) → (f : Option ℕ) → unwrap_or (option_map (λ n. suc (old_count (drop (suc n) start) (map (renamed_entry r) ps))) f) 0 ≡ unwrap_or (option_map (λ n. suc (old_count (drop (suc n) start) ps)) f) 0
        by_place rest None = refl
        by_place rest (Some n) = ap suc (rest (drop (suc n) start))

    looked_up : (key : Key) (ps : Properties) → lookup key (map (renamed_entry r) ps) ≡ option_map (renamed_property r) (lookup key ps)
    looked_up key [] = refl
    looked_up key (p ∷ ps) = rw (looked_up key ps) (by_same (is_same_text p.0 key))
      where
        by_same : (s : Bool) → (if s then Some (renamed_property r p.1) else option_map (renamed_property r) (lookup key ps)) ≡ option_map (renamed_property r) (if s then Some p.1 else lookup key ps)
        by_same true = refl
        by_same false = refl

    gone_by : (old : Properties) (start : Properties) → gone_keys start (map (renamed_entry r) old) ≡ gone_keys start old
    gone_by old [] = refl
    gone_by old (p ∷ start) = rw (looked_up p.0 old) (by_found (lookup p.0 old) (gone_by old start))
      where
        by_found : (f : Option Property) → gone_keys start (map (renamed_entry r) old) ≡ gone_keys start old
            → map (λ (p : Key × Property). p.0) (cond (not (is_some (option_map (renamed_property r) f))) (p ∷ filter (λ (p : Key × Property). not (is_some (lookup p.0 (map (renamed_entry r) old)))) start) (filter (λ (p : Key × Property). not (is_some (lookup p.0 (map (renamed_entry r) old)))) start))
            ≡ map (λ (p : Key × Property). p.0) (cond (not (is_some f)) (p ∷ filter (λ (p : Key × Property). not (is_some (lookup p.0 old))) start) (filter (λ (p : Key × Property). not (is_some (lookup p.0 old))) start))
        by_found None more = ap (λ keys. p.0 ∷ keys) more
        by_found (Some f) more = more

    -- an object of the realm is the same object before and after
    object_same : (o m : ObjNo) → is_member (AnObject o) ≡ true → nat_lt m realm_count ≡ true → nat_eq (r.objects o) m ≡ nat_eq o m
    object_same o m is old =
        ap (nat_eq (r.objects o)) (sym (h.realm m old)) ∙ h.apart (AnObject o) (AnObject m) is (h.closed.realm m old)

    value_same : (v w : Value) → all (in_value v) → is_old w ≡ true → is_same (renamed_value r v) w ≡ is_same v w
    value_same (Object o) (Object m) is old = object_same o m (and_parts (is_member (AnObject o)) true is).0 old
    value_same (Object o) w is old = refl
    value_same v w is old = refl

    function_same : (p s : Option ObjNo) → all (in_value (object_or_undefined p)) → is_old_function s ≡ true → is_same_function (option_map r.objects p) s ≡ is_same_function p s
    function_same (Some o) (Some m) is old = object_same o m (and_parts (is_member (AnObject o)) true is).0 old
    function_same (Some o) None is old = refl
    function_same None s is old = refl

    property_same : (p s : Property) → all (in_property p) → is_old_property s ≡ true → is_same_property (renamed_property r p) s ≡ is_same_property p s
    property_same (Data p) (Data s) is old = rw (value_same p.value s.value is old) refl
    property_same (Accessor p) (Accessor s) is old =
        let parts = and_parts (list_all is_member (in_value (object_or_undefined p.get))) (list_all is_member (in_value (object_or_undefined p.set)))
        (sym (list_all-append is_member (in_value (object_or_undefined p.get)) (in_value (object_or_undefined p.set))) ∙ is) in
        let olds = and_parts (is_old_function s.get) (is_old_function s.set) old in
        rw (function_same p.get s.get parts.0 olds.0, function_same p.set s.set parts.1 olds.1) refl
    property_same (Data p) (Accessor s) is old = refl
    property_same (Accessor p) (Data s) is old = refl

    found_old : (start : Properties) (key : Key) (s : Property) → are_old start ≡ true → lookup key start ≡ Some s → is_old_property s ≡ true
    found_old [] key s olds is = absurd (cc)
    found_old (p ∷ start) key s olds is =
        let parts = and_parts (is_old_property p.1) (are_old start) olds in
        by_same (is_same_text p.0 key) parts.0 (found_old start key s parts.1) is
      where
        by_same : (b : Bool) → is_old_property p.1 ≡ true → (lookup key start ≡ Some s → is_old_property s ≡ true) → (if b then Some p.1 else lookup key start) ≡ Some s → is_old_property s ≡ true
        by_same true old rest is = sym (ap is_old_property (ap (λ found. unwrap_or found p.1) is)) ∙ old
        by_same false old rest is = rest is

    changed_renamed : (start : Properties) → are_old start ≡ true → (p : Key × Property) → all (in_property p.1) → is_changed start (renamed_entry r p) ≡ is_changed start p
    changed_renamed start olds p is = by_found (lookup p.0 start) refl
      where
        by_found : (f : Option Property) → lookup p.0 start ≡ f → not (unwrap_or (option_map (is_same_property (renamed_property r p.1)) f) false) ≡ not (unwrap_or (option_map (is_same_property p.1) f) false)
        by_found None found = refl
        by_found (Some s) found = ap not (property_same p.1 s is (found_old start p.0 s olds found))

    filtered_renamed : (start : Properties) → are_old start ≡ true → (ps : Properties) → AllListed ps
        → map (listed_property (map ren q)) (filter (is_changed start) (map (renamed_entry r) ps)) ≡ map (listed_property q) (filter (is_changed start) ps)
    filtered_renamed start olds [] is = refl
    filtered_renamed start olds (p ∷ ps) is =
        let parts = listed_parts p ps is in
        rw (changed_renamed start olds p parts.0) (by_changed (is_changed start p) (property_listed p.0 p.1 parts.0) (filtered_renamed start olds ps parts.1))
      where
        by_changed : (c : Bool) → listed_property (map ren q) (renamed_entry r p) ≡ listed_property q p
            → map (listed_property (map ren q)) (filter (is_changed start) (map (renamed_entry r) ps)) ≡ map (listed_property q) (filter (is_changed start) ps)
            → map (listed_property (map ren q)) (cond c (renamed_entry r p ∷ filter (is_changed start) (map (renamed_entry r) ps)) (filter (is_changed start) (map (renamed_entry r) ps)))
            ≡ map (listed_property q) (cond c (p ∷ filter (is_changed start) ps) (filter (is_changed start) ps))
        by_changed true line more = rw (line, more) refl
        by_changed false line more = more

    realm_row_same : (o : ObjNo) (s t : ObjectState) → IsSameObject r a b s t → AllListed s.properties → row_of_realm (map ren q) o t ≡ row_of_realm q o s
    realm_row_same o s t same is =
        let start = realm_properties o in
        let n = old_count start s.properties in
        rw (
          same.extensible,
          same.properties,
          count_renamed start s.properties,
          taken_renamed n s.properties,
          dropped_renamed n s.properties,
          gone_by (take n s.properties) start,
          filtered_renamed start (start_old o) (take n s.properties) (taken_all n s.properties is),
          properties_listed (drop n s.properties) (dropped_all n s.properties is),
        ) refl

    -- ---- rows

    cells_ranked : (cs : List CellNo) → all (map (λ c. ACell c) cs) → map (λ c. rank is_cell (map ren q) (ACell c)) (map r.cells cs) ≡ map (λ c. rank is_cell q (ACell c)) cs
    cells_ranked [] is = refl
    cells_ranked (c ∷ cs) is =
        let parts = and_parts (is_member (ACell c)) (list_all is_member (map (λ c. ACell c) cs)) is in
        rw (rank_renamed is_cell cells_kept q (ACell c) members parts.0, cells_ranked cs parts.1) refl

    sort_same : (c d : Class) → IsSameClass r a b c d → all (in_class a.free c) → sort_of b.code b.free (map ren q) d ≡ sort_of a.code a.free q c
    sort_same Plain Plain same is = refl
    sort_same Array Array same is = refl
    sort_same (Builtin m) (Builtin n) same is = refl
    sort_same (Function f s strict) (Function g t also) same is =
        rw (same.0.code, same.0.cells, same.1, cells_ranked (in_cells s (captured a.free f s)) is) refl
    sort_same Plain Array same is = absurd same
    sort_same Plain (Function g t also) same is = absurd same
    sort_same Plain (Builtin n) same is = absurd same
    sort_same Array Plain same is = absurd same
    sort_same Array (Function g t also) same is = absurd same
    sort_same Array (Builtin n) same is = absurd same
    sort_same (Function f s strict) Plain same is = absurd same
    sort_same (Function f s strict) Array same is = absurd same
    sort_same (Function f s strict) (Builtin n) same is = absurd same
    sort_same (Builtin m) Plain same is = absurd same
    sort_same (Builtin m) Array same is = absurd same
    sort_same (Builtin m) (Function g t also) same is = absurd same

    row_same : (o : ObjNo) (s t : ObjectState) → is_member (AnObject o) ≡ true → IsSameObject r a b s t → all (in_object a.free s)
        → object_row b.code b.free (map ren q) (r.objects o) t ≡ object_row a.code a.free q o s
    row_same o s t is same reach = by_realm (nat_lt o realm_count) refl
      where
        first : (list_all is_member (in_value (object_or_null s.prototype) ++ in_properties s.properties) ≡ true) × (list_all is_member (in_class a.free s.class) ≡ true)
        first = and_parts _ _ (sym (list_all-append is_member (in_value (object_or_null s.prototype) ++ in_properties s.properties) (in_class a.free s.class)) ∙ reach)

        second : (list_all is_member (in_value (object_or_null s.prototype)) ≡ true) × (list_all is_member (in_properties s.properties) ≡ true)
        second = and_parts _ _ (sym (list_all-append is_member (in_value (object_or_null s.prototype)) (in_properties s.properties)) ∙ first.0)

        by_realm : (old : Bool) → nat_lt o realm_count ≡ old → object_row b.code b.free (map ren q) (r.objects o) t ≡ object_row a.code a.free q o s
        by_realm true below =
            ap (λ p. object_row b.code b.free (map ren q) p t) (h.realm o below) ∙ rw below (realm_row_same o s t same second.1)
        by_realm false above =
            rw (h.others o is, above, rank_renamed is_new_object new_kept q (AnObject o) members is, sort_same s.class t.class same.class first.1, same.prototype, prototype_listed s.prototype second.0, same.extensible, same.properties, properties_listed s.properties second.1) refl

    abbrev object_rows : Listable → List Item → ObjNo → Option ObjectState → List (Row)
    object_rows x queue o s = unwrap_or (option_map (λ state. object_row x.code x.free queue o state ∷ []) s) []

    rows_by : (o : ObjNo) (s t : Option ObjectState) → is_member (AnObject o) ≡ true → AreSameObjects r a b s t → all (unwrap_or (option_map (in_object a.free) s) [])
        → object_rows b (map ren q) (r.objects o) t ≡ object_rows a q o s
    rows_by o (Some s) (Some t) is same reach = ap (λ row. row ∷ []) (row_same o s t is same reach)
    rows_by o None t is same reach = absurd same
    rows_by o (Some s) None is same reach = absurd same

    abbrev cell_row : ℕ → ListedValue → Row
    cell_row n v = CellRow n v

    cell_by : (c : CellNo) (v w : Option Value) → is_member (ACell c) ≡ true → AreSameCells r a b v w → all (in_value (unwrap_or v undefined))
        → cell_row (rank is_cell (map ren q) (ACell (r.cells c))) (listed_value (map ren q) (unwrap_or w undefined)) ≡ cell_row (rank is_cell q (ACell c)) (listed_value q (unwrap_or v undefined))
    cell_by c (Some v) (Some w) is same reach = rw (rank_renamed is_cell cells_kept q (ACell c) members is, same, value_listed v reach) refl
    cell_by c None w is same reach = absurd same
    cell_by c (Some v) None is same reach = absurd same

    row_of_same : (x : Item) → is_member x ≡ true → row_of b.code b.free b.heap (map ren q) (ren x) ≡ row_of a.code a.free a.heap q x
    row_of_same (AnObject o) is = rows_by o (object_at a.heap o) (object_at b.heap (r.objects o)) is (h.objects o is) (h.closed.onwards (AnObject o) is)
    row_of_same (ACell c) is = ap (λ row. row ∷ []) (cell_by c (cell a.heap c) (cell b.heap (r.cells c)) is (h.cells c is) (h.closed.onwards (ACell c) is))

    pub rows_same : (xs : List Item) → all xs → flat_map (row_of b.code b.free b.heap (map ren q)) (map ren xs) ≡ flat_map (row_of a.code a.free a.heap q) xs
    rows_same [] is = refl
    rows_same (x ∷ xs) is =
        let parts = and_parts (is_member x) (list_all is_member xs) is in
        rw (row_of_same x parts.0, rows_same xs parts.1) refl

    -- what is thrown is the same as it is listed
    pub thrown_same : (v : Value) → all (in_value v) → listed_value (map ren q) (renamed_value r v) ≡ listed_value q v
    thrown_same = value_listed
