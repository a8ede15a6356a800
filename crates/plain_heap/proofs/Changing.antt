-- An object that is changed keeps a heap valid.
use Rattle.std.proofs.Common.{◌≡◌, refl, ap, ◌∙◌, Bool, true, false, List, [], ◌∷◌, arith, sym}
use Rattle.std.specs.Prelude.{zero, suc, ℕ, nat_lt, ◌&&◌, not, Option, Some, None, slice_get, slice_set, is_some}
use Rattle.std.specs.Cmp.Lexicographic.{same_text}
use Rattle.std.specs.List.{list_all}
use Rattle.std.proofs.lemmas.Bool.{and_parts}
use Rattle.std.proofs.lemmas.List.{length-set}
use Rattle.js_value.specs.Conversions.{is_same_text}
use Rattle.plain_heap.specs.Heap.{Heap, Key, Property, Data, Accessor, DataProperty, Class, Plain, Array, Function, Builtin, ObjectState, object_at, set_object, is_configurable, without, lookup}
use Rattle.plain_heap.specs.Methods.{own_property, length_key, length_of, array_index, delete, delete_by}
use Rattle.plain_heap.specs.Values.{ObjNo}
use Rattle.plain_heap.specs.Valid.{if_some, is_property, are_distinct, is_length, is_class, is_object, is_valid}
use Rattle.plain_heap.specs.Laws.{IsKept, ChangesValid}
use Rattle.plain_heap.proofs.Properties.{has, same_sym, same_as, some_is, only_some}
use Rattle.plain_heap.proofs.Grown.{Grown, StillThere, all_set, one_of_all, object_kept}
use Rattle.plain_heap.proofs.Making.{parts, right_parts, right_whole, still, kept}

-- ---- an object in the place of another

-- an object at this place, of the same class and with the same prototype and depth
record Now (xs : List ObjectState) (j : ℕ) (state : ObjectState) : Type 0 where
  now : ObjectState
  is : slice_get xs j ≡ Some now
  class : now.class ≡ state.class
  prototype : now.prototype ≡ state.prototype
  depth : now.depth ≡ state.depth

now_set : (xs : List ObjectState) (i j : ℕ) (after old state : ObjectState) → slice_get xs i ≡ Some old → after.class ≡ old.class → after.prototype ≡ old.prototype → after.depth ≡ old.depth
    → slice_get xs j ≡ Some state → Now (slice_set xs i after) j state
now_set [] i j after old state was class prototype depth at = grind (arith, at)
now_set (x ∷ xs) zero zero after old state was class prototype depth at =
    let same = sym (some_is x old was) ∙ some_is x state at in
    record { now = after; is = refl; class = class ∙ ap (λ o. o.class) same; prototype = prototype ∙ ap (λ o. o.prototype) same; depth = depth ∙ ap (λ o. o.depth) same }
now_set (x ∷ xs) zero (suc j) after old state was class prototype depth at = record { now = state; is = at; class = refl; prototype = refl; depth = refl }
now_set (x ∷ xs) (suc i) zero after old state was class prototype depth at = record { now = state; is = at; class = refl; prototype = refl; depth = refl }
now_set (x ∷ xs) (suc i) (suc j) after old state was class prototype depth at =
    let next = now_set xs i j after old state was class prototype depth at in
    record { now = next.now; is = next.is; class = next.class; prototype = next.prototype; depth = next.depth }

set_grows : (h : Heap) (o : ObjNo) (state after : ObjectState) → object_at h o ≡ Some state → after.class ≡ state.class → after.prototype ≡ state.prototype → after.depth ≡ state.depth → Grown h (set_object o after h)
set_grows h o state after was class prototype depth = record {
  objects = λ p other at. there (now_set h.objects o p after state other was class prototype depth at);
  object_count = let count = length-set h.objects o after in omega arith;
  cell_count = omega arith;
}
  where
    there : {p : ObjNo} {other : ObjectState} → Now (slice_set h.objects o after) p other → StillThere (set_object o after h) p other
    there now = record { now = now.now; is = now.is; class = now.class; prototype = now.prototype; depth = now.depth }

pub sets_object : (h : Heap) (o : ObjNo) (state after : ObjectState) → is_valid h ≡ true → object_at h o ≡ Some state → after.class ≡ state.class → after.prototype ≡ state.prototype → after.depth ≡ state.depth
    → is_object h after ≡ true → IsKept h (set_object o after h)
sets_object h o state after valid was class prototype depth is =
    let grown = set_grows h o state after was class prototype depth in
    let there = still h (set_object o after h) grown valid in
    kept h (set_object o after h) grown (record {
      objects_are = all_set (is_object (set_object o after h)) h.objects o after there.objects_are (object_kept h (set_object o after h) grown after is);
      cells_are = there.cells_are;
    })

pub right_at : (h : Heap) (o : ObjNo) (state : ObjectState) → is_valid h ≡ true → object_at h o ≡ Some state → is_object h state ≡ true
right_at h o state valid at = one_of_all (is_object h) h.objects o state (parts h valid).objects_are at

-- ---- what a change leaves of an object that was right

abbrev pub all_right : Heap → ObjectState → Bool
all_right h o = list_all (λ (p : Key × Property). is_property h p.1) o.properties

-- an object that is as it was but for its properties, which are right
pub record IsLike (h : Heap) (o after : ObjectState) : Type 0 where
  pub class : after.class ≡ o.class
  pub prototype : after.prototype ≡ o.prototype
  pub depth : after.depth ≡ o.depth
  pub distinct : are_distinct after.properties ≡ true
  pub properties : all_right h after ≡ true

pub stays_kept : (h : Heap) (o : ObjNo) (state after : ObjectState) → is_valid h ≡ true → object_at h o ≡ Some state → IsLike h state after → is_class h after state.class ≡ true → IsKept h (set_object o after h)
stays_kept h o state after valid at like class =
    let was = right_parts h state (right_at h o state valid at) in
    sets_object h o state after valid at like.class like.prototype like.depth (right_whole h after (rw (like.prototype, like.depth) was.ends) like.distinct like.properties (rw like.class class))

-- ---- preventing extensions

closed_class : (h : Heap) (o : ObjectState) (class : Class) → is_class h o class ≡ true → is_class h (record o { extensible = false }) class ≡ true
closed_class h o Plain is = is
closed_class h o Array is = is
closed_class h o (Function f names strict) is = is
closed_class h o (Builtin n) is = is

pub prevents : (h : Heap) (o : ObjNo) (state : ObjectState) → is_valid h ≡ true → object_at h o ≡ Some state → IsKept h (set_object o (record state { extensible = false }) h)
prevents h o state valid at =
    let was = right_parts h state (right_at h o state valid at) in
    stays_kept h o state (record state { extensible = false }) valid at (record { class = refl; prototype = refl; depth = refl; distinct = was.distinct; properties = was.properties }) (closed_class h state state.class was.class)

-- ---- 8.12.7: deleting

module _ {A : Type 0} where
  has_without : (key k : Key) (ps : List (Key × A)) → has k ps ≡ false → has k (without key ps) ≡ false
  has_without key k [] is = refl
  has_without key k (p ∷ ps) is = grind (arith, is, has_without key k ps)

  distinct_without : (key : Key) (ps : List (Key × A)) → are_distinct ps ≡ true → are_distinct (without key ps) ≡ true
  distinct_without key [] is = refl
  distinct_without key (p ∷ ps) is = grind (arith, is, distinct_without key ps, has_without key p.0 ps)

  all_without : (test : Key × A → Bool) (key : Key) (ps : List (Key × A)) → list_all test ps ≡ true → list_all test (without key ps) ≡ true
  all_without test key [] is = refl
  all_without test key (p ∷ ps) is = grind (arith, is, all_without test key ps)

  lookup_without : (key other : Key) (ps : List (Key × A)) → is_same_text key other ≡ false → lookup other (without key ps) ≡ lookup other ps
  lookup_without key other [] differ = refl
  lookup_without key other (p ∷ ps) differ = grind (arith, same_as p.0 key other, lookup_without key other ps differ)

-- ---- the length of an array

abbrev pub below_length : Option ℕ → Key × Property → Bool
below_length found p = if_some (λ n. if_some (nat_lt n) found) (array_index p.0)

-- a property is the length of an array with these properties
pub record IsLengthOf (ps : List (Key × Property)) (p : DataProperty) : Type 0 where
  pub enumerable : p.enumerable ≡ false
  pub configurable : p.configurable ≡ false
  pub wanted : ℕ
  pub number : length_of p.value ≡ Some wanted
  pub below : list_all (below_length (Some wanted)) ps ≡ true

pub length_parts : (ps : List (Key × Property)) (p : DataProperty) → is_length ps (Some (Data p)) ≡ true → IsLengthOf ps p
length_parts ps p is = by_number (length_of p.value) refl (and_parts (not p.enumerable && not p.configurable && is_some (length_of p.value)) (list_all (below_length (length_of p.value)) ps) is)
  where
    is_false : (b : Bool) → not b ≡ true → b ≡ false
    is_false true is = sym is
    is_false false is = refl

    by_number : (found : Option ℕ) → length_of p.value ≡ found → ((not p.enumerable && not p.configurable && is_some found) ≡ true) × (list_all (below_length found) ps ≡ true) → IsLengthOf ps p
    by_number None at is = grind (arith, is)
    by_number (Some wanted) at is =
        let outer = and_parts (not p.enumerable && not p.configurable) true is.0 in
        let inner = and_parts (not p.enumerable) (not p.configurable) outer.0 in
        record { enumerable = is_false p.enumerable inner.0; configurable = is_false p.configurable inner.1; wanted = wanted; number = at; below = is.1 }

pub length_whole : (ps : List (Key × Property)) (p : DataProperty) → IsLengthOf ps p → is_length ps (Some (Data p)) ≡ true
length_whole ps p is = ap (λ found. not p.enumerable && not p.configurable && is_some found && list_all (below_length found) ps) is.number ∙ rw (is.enumerable, is.configurable, is.below) refl

-- an array has its length
pub record HasLength (ps : List (Key × Property)) : Type 0 where
  pub property : DataProperty
  pub at : lookup length_key ps ≡ Some (Data property)
  pub is : IsLengthOf ps property

pub has_length : (ps : List (Key × Property)) → is_length ps (lookup length_key ps) ≡ true → HasLength ps
has_length ps is = by_found (lookup length_key ps) refl is
  where
    by_found : (found : Option Property) → lookup length_key ps ≡ found → is_length ps found ≡ true → HasLength ps
    by_found None at is = grind (arith, is)
    by_found (Some (Accessor p)) at is = grind (arith, is)
    by_found (Some (Data p)) at is = record { property = p; at = at; is = length_parts ps p is }

pub length_is : (ps : List (Key × Property)) → HasLength ps → is_length ps (lookup length_key ps) ≡ true
length_is ps has = ap (is_length ps) has.at ∙ length_whole ps has.property has.is

-- ---- deleting from an array

without_length : (key : Key) (ps : List (Key × Property)) (p : Property) (b : Bool) → is_same_text key length_key ≡ b → lookup key ps ≡ Some p → is_configurable p ≡ true → HasLength ps → HasLength (without key ps)
without_length key ps p true same at free has =
    let property = some_is (Data has.property) p (sym has.at ∙ ap (λ k. lookup k ps) (same_text length_key key (sym (same_sym length_key key ∙ same))) ∙ at) in
    grind (arith, free, ap is_configurable property, has.is.configurable)
without_length key ps p false differ at free has = record {
  property = has.property;
  at = lookup_without key length_key ps differ ∙ has.at;
  is = record {
    enumerable = has.is.enumerable;
    configurable = has.is.configurable;
    wanted = has.is.wanted;
    number = has.is.number;
    below = all_without (below_length (Some has.is.wanted)) key ps has.is.below;
  };
}

without_class : (h : Heap) (key : Key) (o : ObjectState) (p : Property) (class : Class) → own_property key o ≡ Some p → is_configurable p ≡ true → is_class h o class ≡ true
    → is_class h (record o { properties = without key o.properties }) class ≡ true
without_class h key o p Array at free is = length_is (without key o.properties) (without_length key o.properties p (is_same_text key length_key) refl at free (has_length o.properties is))
without_class h key o p Plain at free is = is
without_class h key o p (Function f names strict) at free is = is
without_class h key o p (Builtin n) at free is = is

-- the object stays as it was
pub like_self : (h : Heap) (o : ObjectState) → is_object h o ≡ true → IsLike h o o
like_self h o is = let was = right_parts h o is in record { class = refl; prototype = refl; depth = refl; distinct = was.distinct; properties = was.properties }

like_without : (h : Heap) (key : Key) (o : ObjectState) → is_object h o ≡ true → IsLike h o (record o { properties = without key o.properties })
like_without h key o is =
    let was = right_parts h o is in
    record {
      class = refl;
      prototype = refl;
      depth = refl;
      distinct = distinct_without key o.properties was.distinct;
      properties = all_without (λ (p : Key × Property). is_property h p.1) key o.properties was.properties;
    }

deletes_by : (h : Heap) (o : ObjNo) (key : Key) (state after : ObjectState) (found : Option Property) → is_valid h ≡ true → object_at h o ≡ Some state → own_property key state ≡ found
    → delete_by key state found ≡ Some after → IsKept h (set_object o after h)
deletes_by h o key state after None valid at own is =
    let right = right_at h o state valid at in
    rw (sym (some_is state after is)) (sets_object h o state state valid at refl refl refl right)
deletes_by h o key state after (Some p) valid at own is =
    let right = right_at h o state valid at in
    let chose = only_some (is_configurable p) (record state { properties = without key state.properties }) after is in
    rw (sym chose.1) (stays_kept h o state (record state { properties = without key state.properties }) valid at (like_without h key state right) (without_class h key state p state.class own chose.0 (right_parts h state right).class))

pub deletes : (h : Heap) (o : ObjNo) (key : Key) (state after : ObjectState) → is_valid h ≡ true → object_at h o ≡ Some state → delete key state ≡ Some after → IsKept h (set_object o after h)
unfolding delete
deletes h o key state after valid at is = deletes_by h o key state after (own_property key state) valid at refl is

pub changes_valid : ChangesValid
changes_valid = record { object = sets_object; closes = prevents; deletes = deletes }
