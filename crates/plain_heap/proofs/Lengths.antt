-- [[DefineOwnProperty]] of arrays keeps a heap valid (15.4.5.1).
use Rattle.std.proofs.Common.{◌≡◌, refl, ap, ◌∙◌, Bool, true, false, List, [], ◌∷◌, arith, sym}
use Rattle.std.specs.Prelude.{◌≤◌, ℕ, ◌+◌, nat_lt, nat_le, nat_eq, max, pos, ◌&&◌, not, if◌then◌else◌, Option, Some, None, unwrap_or}
use Rattle.std.specs.Cmp.Lexicographic.{same_text}
use Rattle.std.specs.List.{list_all, filter}
use Rattle.std.specs.Fmt.{decimal}
use Rattle.std.specs.Option.{option_map}
use Rattle.std.proofs.lemmas.Bool.{and_parts}
use Rattle.js_value.specs.Conversions.{is_same_text, are_digits, digits_value}
use Rattle.js_value.specs.declared.primitive.Primitive.TheVariants as primitive
use Rattle.plain_heap.specs.Heap.{Heap, Class, Plain, Array, Function, Builtin, is_array_class, object_at, set_object, Key, Property, Properties, DataProperty, ObjectState, is_configurable, lookup, data_property}
use Rattle.plain_heap.specs.Methods.{Descriptor, Defining, Defined, Rejected, value_field, with_property, define_plain, then_if, length_key, length_of, greatest_length, array_index, define_element, above_fixed, stop_at, is_below, cut_at, shorten, set_length_to, set_length_by, set_length, define_in_array, define_array, define, put, Define}
use Rattle.plain_heap.specs.Values.{Value, ObjNo, Prim, number}
use Rattle.plain_heap.specs.Valid.{if_some, is_value, is_property, are_distinct, is_class, is_object, is_valid}
use Rattle.plain_heap.specs.Laws.{is_change, IsKept, DefinesValid, outcome}
use Rattle.plain_heap.proofs.Making.{right_parts}
use Rattle.plain_heap.proofs.Puts.{for_put}
use Rattle.plain_heap.proofs.Properties.{only_some, has}
use Rattle.plain_heap.proofs.Grown.{all_kept}
use Rattle.plain_heap.proofs.Changing.{IsLike, HasLength, below_length, right_at, stays_kept, like_self, has_length, length_is}
use Rattle.plain_heap.proofs.Defining.{Ends, ends_if, ends_then, plain_ends, IsArrayTo, put_length, put_element, below_kept, length_ends, define_writable, no_index, ends_outcome, like_with}

-- an array that is right
pub record IsArray (h : Heap) (base o : ObjectState) : Type 0 where
  pub property : DataProperty
  pub count : ℕ
  pub number_is : length_of property.value ≡ Some count
  pub is : IsArrayTo h base o property count

abbrev the_array : {h : Heap} {base o : ObjectState} {q : DataProperty} {n : ℕ} → length_of q.value ≡ Some n → IsArrayTo h base o q n → IsArray h base o
the_array number is = record { property = _; count = _; number_is = number; is = is }

-- ---- numbers

number_length : (n : ℕ) → nat_le n greatest_length ≡ true → length_of (number n) ≡ Some n
number_length n is = rw is refl

index_small : (key : Key) (n : ℕ) → array_index key ≡ Some n → nat_lt n greatest_length ≡ true
unfolding array_index
index_small key n is =
    let k = digits_value key in
    let chose = only_some (are_digits key && nat_lt k greatest_length && is_same_text (decimal k) key) k n is in
    let outer = and_parts (are_digits key && nat_lt k greatest_length) (is_same_text (decimal k) key) chose.0 in
    ap (λ m. nat_lt m greatest_length) (sym chose.1) ∙ (and_parts (are_digits key) (nat_lt k greatest_length) outer.0).1

next_small : (n g : ℕ) → nat_lt n g ≡ true → nat_le (n + 1) g ≡ true
next_small n g is = grind (arith, is)

before_next : (n : ℕ) → nat_lt n (n + 1) ≡ true
before_next n = grind (arith)

not_less : (m n : ℕ) → nat_lt m n ≡ false → n ≤ m + 1
not_less m n is = grind (arith, is)

is_at_most : (m n : ℕ) → nat_le m n ≡ true → m ≤ n
is_at_most m n is = grind (arith, is)

length_small : (v : Value) (n : ℕ) → length_of v ≡ Some n → nat_le n greatest_length ≡ true
length_small (Prim (primitive.Number (pos m))) n is =
    let chose = only_some (nat_le m greatest_length) m n is in
    ap (λ k. nat_le k greatest_length) (sym chose.1) ∙ chose.0
length_small v n is = grind (arith, is)

-- ---- 15.4.5.1, step 4: elements

element_ends : (h : Heap) (base o : ObjectState) (key : Key) (d : Descriptor) (q : DataProperty) (old index : ℕ) → IsArrayTo h base o q old → length_of q.value ≡ Some old → is_change h d ≡ true
    → is_same_text key length_key ≡ false → array_index key ≡ Some index → Ends (IsArray h base) (IsArray h base) (define_element key d o q old index)
element_ends h base o key d q old index array has change differ at =
    ends_if (IsArray h base) (IsArray h base) (nat_lt index old) (define_plain key d o)
    (if not q.writable then Rejected o else then_if (define_plain key d o) (λ o. define_plain length_key (value_field (number (index + 1))) o) (λ o. Rejected o)) inside
    (λ beyond. ends_if (IsArray h base) (IsArray h base) (not q.writable) (Rejected o) (then_if (define_plain key d o) (λ o. define_plain length_key (value_field (number (index + 1))) o) (λ o. Rejected o)) (λ s. the_array has array)
    (λ writable. ends_then (λ p. IsArrayTo h base p q (index + 1)) (IsArray h base) (IsArray h base) (IsArray h base) (define_plain key d o) (λ o. define_plain length_key (value_field (number (index + 1))) o) (λ o. Rejected o) (added beyond) (raised (is_true q.writable writable)) (λ p is. is)))
  where
    is_true : (b : Bool) → not b ≡ false → b ≡ true
    is_true true is = refl
    is_true false is = sym is

    inside : nat_lt index old ≡ true → Ends (IsArray h base) (IsArray h base) (define_plain key d o)
    inside less =
        plain_ends (IsArray h base) (IsArray h base) h base o key d array.like change
        (λ p is. the_array has (put_element h base o q old old key p array differ (omega arith) (ap (if_some (λ i. nat_lt i old)) at ∙ less) is)) (the_array has array)

    added : nat_lt index old ≡ false → Ends (λ p. IsArrayTo h base p q (index + 1)) (IsArray h base) (define_plain key d o)
    added beyond =
        plain_ends (λ p. IsArrayTo h base p q (index + 1)) (IsArray h base) h base o key d array.like change
        (λ p is. put_element h base o q old (index + 1) key p array differ (not_less index old beyond) (ap (if_some (λ i. nat_lt i (index + 1))) at ∙ before_next index) is) (the_array has array)

    raised : q.writable ≡ true → (p : ObjectState) → IsArrayTo h base p q (index + 1) → Ends (IsArray h base) (IsArray h base) (define_plain length_key (value_field (number (index + 1))) p)
    raised writable p is =
        rw (define_writable h base p q (index + 1) (number (index + 1)) None is writable)
        (the_array (number_length (index + 1) (next_small index greatest_length (index_small key index at))) (put_length h base p q (record { value = number (index + 1); writable = true; enumerable = false; configurable = false }) (index + 1) (index + 1) is refl refl refl is.below))

-- ---- step 3: the length

fold_small : (g n : ℕ) (ps : Properties) → nat_le n g ≡ true → ((p : Key × Property) → nat_le (above_fixed p) g ≡ true) → nat_le (stop_at n ps) g ≡ true
fold_small g n [] is each = is
fold_small g n (p ∷ ps) is each = fold_small g (max n (above_fixed p)) ps (max_small n (above_fixed p) g is (each p)) each
  where
    max_small : (m n g : ℕ) → nat_le m g ≡ true → nat_le n g ≡ true → nat_le (max m n) g ≡ true
    max_small m n g is other = grind (arith, is, other)

above_small : (p : Key × Property) → nat_le (above_fixed p) greatest_length ≡ true
above_small p = by_configurable (is_configurable p.1) (by_index (array_index p.0) refl)
  where
    by_index : (found : Option ℕ) → array_index p.0 ≡ found → nat_le (unwrap_or (option_map (λ n. n + 1) found) 0) greatest_length ≡ true
    by_index None at = refl
    by_index (Some n) at = next_small n greatest_length (index_small p.0 n at)

    by_configurable : (b : Bool) → nat_le (unwrap_or (option_map (λ n. n + 1) (array_index p.0)) 0) greatest_length ≡ true
        → nat_le (if b then 0 else unwrap_or (option_map (λ n. n + 1) (array_index p.0)) 0) greatest_length ≡ true
    by_configurable true is = refl
    by_configurable false is = is

module _ {A : Type 0} (test : Key × A → Bool) where
  filtered : (ps : List (Key × A)) → list_all test (filter test ps) ≡ true
  filtered [] = refl
  filtered (p ∷ ps) = grind (arith, filtered ps)

  all_filtered : (other : Key × A → Bool) (ps : List (Key × A)) → list_all other ps ≡ true → list_all other (filter test ps) ≡ true
  all_filtered other [] is = refl
  all_filtered other (p ∷ ps) is = grind (arith, is, all_filtered other ps)

  has_filtered : (key : Key) (ps : List (Key × A)) → has key ps ≡ false → has key (filter test ps) ≡ false
  has_filtered key [] is = refl
  has_filtered key (p ∷ ps) is = grind (arith, is, has_filtered key ps)

  distinct_filtered : (ps : List (Key × A)) → are_distinct ps ≡ true → are_distinct (filter test ps) ≡ true
  distinct_filtered [] is = refl
  distinct_filtered (p ∷ ps) is = grind (arith, is, distinct_filtered ps, has_filtered p.0 ps)

  lookup_filtered : (key : Key) (ps : List (Key × A)) → ((a : A) → test (key, a) ≡ true) → lookup key (filter test ps) ≡ lookup key ps
  lookup_filtered key [] is = refl
  lookup_filtered key (p ∷ ps) is = by_key (is_same_text p.0 key) refl (lookup_filtered key ps is)
    where
      by_test : (b : Bool) → is_same_text p.0 key ≡ false → lookup key (filter test ps) ≡ lookup key ps → lookup key (if b then (p ∷ filter test ps) else filter test ps) ≡ lookup key (p ∷ ps)
      by_test true differ same = rw differ same
      by_test false differ same = rw differ same

      by_key : (b : Bool) → is_same_text p.0 key ≡ b → lookup key (filter test ps) ≡ lookup key ps → lookup key (filter test (p ∷ ps)) ≡ lookup key (p ∷ ps)
      by_key true same rest = rw (ap (λ k. test (k, p.1)) (same_text p.0 key (sym same)) ∙ is p.1, same) refl
      by_key false differ rest = by_test (test p) differ rest

below_is : (n : ℕ) (p : Key × Property) → is_below n p ≡ true → below_length (Some n) p ≡ true
below_is n p is = by_index (array_index p.0) is
  where
    by_index : (found : Option ℕ) → unwrap_or (option_map (λ index. nat_lt index n) found) true ≡ true → if_some (λ i. nat_lt i n) found ≡ true
    by_index None is = refl
    by_index (Some i) is = is

cut_right : (h : Heap) (base o : ObjectState) (q : DataProperty) (old n : ℕ) → IsArrayTo h base o q old → IsArrayTo h base (cut_at n o) q n
cut_right h base o q old n array = record {
  like = record {
    class = array.like.class;
    prototype = array.like.prototype;
    depth = array.like.depth;
    distinct = distinct_filtered (is_below n) o.properties array.like.distinct;
    properties = all_filtered (is_below n) (λ (p : Key × Property). is_property h p.1) o.properties array.like.properties;
  };
  at = lookup_filtered (is_below n) length_key o.properties (λ p. rw no_index refl) ∙ array.at;
  enumerable = array.enumerable;
  configurable = array.configurable;
  below = all_kept (is_below n) (below_length (Some n)) (filter (is_below n) o.properties) (below_is n) (filtered (is_below n) o.properties);
}

shorten_ends : (h : Heap) (base o : ObjectState) (q : DataProperty) (old wanted : ℕ) (d : Descriptor) → IsArrayTo h base o q old → q.writable ≡ true → nat_le wanted greatest_length ≡ true
    → Ends (IsArray h base) (IsArray h base) (shorten wanted d o)
shorten_ends h base o q old wanted d array writable small =
    let stop = stop_at wanted o.properties in
    let cut = cut_right h base o q old stop array in
    let w = unwrap_or d.writable true in
    let last : ObjectState → Defining = λ o. if nat_eq stop wanted then Defined o else Rejected o in
    let next = put_length h base (cut_at stop o) q (record { value = number stop; writable = w; enumerable = false; configurable = false }) stop stop cut refl refl refl cut.below in
    let is = the_array (number_length stop (fold_small greatest_length wanted o.properties small above_small)) next in
    rw (define_writable h base (cut_at stop o) q stop (number stop) (Some w) cut writable)
    (ends_if (IsArray h base) (IsArray h base) (nat_eq stop wanted) (Defined (with_property length_key (data_property (number stop) w false false) (cut_at stop o)))
    (Rejected (with_property length_key (data_property (number stop) w false false) (cut_at stop o))) (λ s. is) (λ s. is))

-- an array whose length is writable, once its length is the one wanted
record IsOpen (h : Heap) (base o : ObjectState) (n : ℕ) : Type 0 where
  property : DataProperty
  is : IsArrayTo h base o property n
  writable : property.writable ≡ true

length_to_ends : (h : Heap) (base o : ObjectState) (d : Descriptor) (q : DataProperty) (old wanted : ℕ) (v : Value) → IsArrayTo h base o q old → length_of q.value ≡ Some old → is_change h d ≡ true
    → d.value ≡ Some v → length_of v ≡ Some wanted → Ends (IsArray h base) (IsArray h base) (set_length_to d o q old wanted)
length_to_ends h base o d q old wanted v array has change given number =
    ends_if (IsArray h base) (IsArray h base) (nat_le old wanted) (define_plain length_key d o) (if not q.writable then Rejected o else lowering) raised
    (λ s. ends_if (IsArray h base) (IsArray h base) (not q.writable) (Rejected o) lowering (λ s. the_array has array) (λ s. lowered))
  where
    lowering : Defining
    lowering = then_if (define_plain length_key (record d { writable = Some true }) o) (shorten wanted d) (λ o. Rejected o)

    raised : nat_le old wanted ≡ true → Ends (IsArray h base) (IsArray h base) (define_plain length_key d o)
    raised le =
        length_ends (IsArray h base) (IsArray h base) h base o q old wanted d array change (below_kept old wanted o.properties (is_at_most old wanted le) array.below)
        (λ r value writable is. the_array (ap length_of (value ∙ ap (λ found. unwrap_or found q.value) given) ∙ number) is) (the_array has array)

    lowered : Ends (IsArray h base) (IsArray h base) lowering
    lowered =
        ends_then (λ p. IsOpen h base p old) (IsArray h base) (IsArray h base) (IsArray h base) (define_plain length_key (record d { writable = Some true }) o) (shorten wanted d) (λ o. Rejected o)
        (length_ends (λ p. IsOpen h base p old) (IsArray h base) h base o q old old (record d { writable = Some true }) array change array.below (λ r value writable is. record { property = r; is = is; writable = writable }) (the_array has array))
        (λ p opened. shorten_ends h base p opened.property old wanted d opened.is opened.writable (length_small v wanted number)) (λ p is. is)

set_length_ends : (h : Heap) (base o : ObjectState) (d : Descriptor) (q : DataProperty) (old : ℕ) (v : Option Value) → IsArrayTo h base o q old → length_of q.value ≡ Some old → is_change h d ≡ true
    → d.value ≡ v → Ends (IsArray h base) (IsArray h base) (set_length d o q old v)
set_length_ends h base o d q old None array has change given =
    length_ends (IsArray h base) (IsArray h base) h base o q old old d array change array.below (λ r value writable is. the_array (ap length_of (value ∙ ap (λ found. unwrap_or found q.value) given) ∙ has) is) (the_array has array)
set_length_ends h base o d q old (Some v) array has change given = by_number (length_of v) refl
  where
    by_number : (found : Option ℕ) → length_of v ≡ found → Ends (IsArray h base) (IsArray h base) (set_length_by d o q old found)
    by_number None number = refl
    by_number (Some wanted) number = length_to_ends h base o d q old wanted v array has change given number

-- ---- steps 3 to 5

in_array_ends : (h : Heap) (base o : ObjectState) (key : Key) (d : Descriptor) (q : DataProperty) (old : ℕ) → IsArrayTo h base o q old → length_of q.value ≡ Some old → is_change h d ≡ true
    → Ends (IsArray h base) (IsArray h base) (define_in_array key d o q old)
in_array_ends h base o key d q old array has change =
    ends_if (IsArray h base) (IsArray h base) (is_same_text key length_key) (set_length d o q old d.value) (unwrap_or (option_map (define_element key d o q old) (array_index key)) (define_plain key d o))
    (λ same. set_length_ends h base o d q old d.value array has change refl) (λ differ. by_index differ (array_index key) refl)
  where
    by_index : is_same_text key length_key ≡ false → (found : Option ℕ) → array_index key ≡ found → Ends (IsArray h base) (IsArray h base) (unwrap_or (option_map (define_element key d o q old) found) (define_plain key d o))
    by_index differ None at =
        plain_ends (IsArray h base) (IsArray h base) h base o key d array.like change
        (λ p is. the_array has (put_element h base o q old old key p array differ (omega arith) (ap (if_some (λ i. nat_lt i old)) at) is)) (the_array has array)
    by_index differ (Some index) at = element_ends h base o key d q old index array has change differ at

pub array_ends : (h : Heap) (base o : ObjectState) (key : Key) (d : Descriptor) (q : DataProperty) (old : ℕ) → IsArrayTo h base o q old → length_of q.value ≡ Some old → is_change h d ≡ true
    → Ends (IsArray h base) (IsArray h base) (define_array key d o)
unfolding define_array
array_ends h base o key d q old array has change = rw (array.at, has) (in_array_ends h base o key d q old array has change)

-- ---- any object

array_class : (class : Class) → is_array_class class ≡ true → class ≡ Array
array_class Array is = refl
array_class Plain is = grind (arith, is)
array_class (Function f names strict) is = grind (arith, is)
array_class (Builtin n) is = grind (arith, is)

-- a class other than that of arrays says nothing of the properties
any_properties : (h : Heap) (o after : ObjectState) (class : Class) → is_array_class class ≡ false → is_class h o class ≡ true → is_class h after class ≡ true
any_properties h o after Array other is = grind (arith, other)
any_properties h o after Plain other is = is
any_properties h o after (Function f names strict) other is = is
any_properties h o after (Builtin n) other is = is

array_has : (h : Heap) (base o : ObjectState) → IsArray h base o → HasLength o.properties
array_has h base o array = record {
  property = array.property;
  at = array.is.at;
  is = record { enumerable = array.is.enumerable; configurable = array.is.configurable; wanted = array.count; number = array.number_is; below = array.is.below };
}

pub defines : (h : Heap) (o : ObjNo) (key : Key) (d : Descriptor) (same : Value → Value → Bool) (state after : ObjectState) → is_valid h ≡ true → object_at h o ≡ Some state → is_change h d ≡ true
    → outcome same (define key d state) ≡ Some after → IsKept h (set_object o after h)
unfolding define
defines h o key d same state after valid at change is = by_class (is_array_class state.class) refl is
  where
    right : is_object h state ≡ true
    right = right_at h o state valid at

    other_kept : is_array_class state.class ≡ false → IsLike h state after → IsKept h (set_object o after h)
    other_kept other like = stays_kept h o state after valid at like (any_properties h state after state.class other (right_parts h state right).class)

    array_kept : state.class ≡ Array → IsArray h state after → IsKept h (set_object o after h)
    array_kept class array = stays_kept h o state after valid at array.is.like (ap (is_class h after) class ∙ length_is after.properties (array_has h state after array))

    of_array : state.class ≡ Array → HasLength state.properties → outcome same (define_array key d state) ≡ Some after → IsKept h (set_object o after h)
    of_array class has is =
        array_kept class
        (ends_outcome (IsArray h state) same (define_array key d state) after
        (array_ends h state state key d has.property has.is.wanted
        (record { like = like_self h state right; at = has.at; enumerable = has.is.enumerable; configurable = has.is.configurable; below = has.is.below }) has.is.number change) is)

    by_class : (b : Bool) → is_array_class state.class ≡ b → outcome same (if b then define_array key d state else define_plain key d state) ≡ Some after → IsKept h (set_object o after h)
    by_class true class is =
        let array = array_class state.class class in
        of_array array (has_length state.properties (ap (is_class h state) (sym array) ∙ (right_parts h state right).class)) is
    by_class false class is =
        let like = like_self h state right in
        other_kept class
        (ends_outcome (IsLike h state) same (define_plain key d state) after
        (plain_ends (IsLike h state) (IsLike h state) h state state key d like change (λ p is. like_with h state state key p like is) like) is)

-- 8.12.5
puts : (h : Heap) (o : ObjNo) (key : Key) (v : Value) (d : Descriptor) (same : Value → Value → Bool) (state after : ObjectState) → is_valid h ≡ true → object_at h o ≡ Some state → is_value h v ≡ true
    → put h o key v ≡ Define d → outcome same (define key d state) ≡ Some after → IsKept h (set_object o after h)
puts h o key v d same state after valid at value was is =
    let change = for_put h o key v d was in
    defines h o key d same state after valid at (ap (is_change h) change.is ∙ rw value refl) is

pub defines_valid : DefinesValid
defines_valid = record { defines = defines; puts = puts }
