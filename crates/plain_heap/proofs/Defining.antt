-- [[DefineOwnProperty]] keeps a heap valid (8.12.9).
use Rattle.std.proofs.Common.{◌≡◌, refl, ap, ◌∙◌, Bool, true, false, List, [], ◌∷◌, arith, sym}
use Rattle.std.specs.Prelude.{◌≤◌, ℕ, nat_lt, ◌&&◌, ◌||◌, not, if◌then◌else◌, Option, Some, None, unwrap_or}
use Rattle.std.specs.Cmp.Lexicographic.{same_text}
use Rattle.std.specs.List.{list_all}
use Rattle.std.proofs.lemmas.Bool.{and_parts, and_from}
use Rattle.js_value.specs.Conversions.{is_same_text, is_same_truth}
use Rattle.plain_heap.specs.Heap.{Heap, Key, Property, Data, Accessor, DataProperty, AccessorProperty, ObjectState, is_function, put_at, lookup, data_property}
use Rattle.plain_heap.specs.Methods.{Descriptor, Defining, Defined, Rejected, BadLength, IfSame, is_accessor, is_data, is_generic, own_property, with_property, made, changed, is_barred, if_allowed, if_data_allowed, if_accessor_allowed, if_same_value, is_same_function, define_by, define_plain, then_if, length_key, array_index}
use Rattle.plain_heap.specs.Values.{Value, ObjNo, undefined}
use Rattle.plain_heap.specs.Valid.{if_some, is_value, is_property}
use Rattle.plain_heap.specs.Laws.{is_change, outcome}
use Rattle.plain_heap.proofs.Properties.{some_is, distinct_put, lookup_put, lookup_put_other}
use Rattle.plain_heap.proofs.Grown.{less_kept, all_kept}
use Rattle.plain_heap.proofs.Changing.{IsLike, below_length}

-- ---- what holds of each outcome: of objects whose change was made, and of those whose change was rejected

abbrev pub Ends : (ObjectState → Type 0) → (ObjectState → Type 0) → Defining → Type 0
Ends D R (Defined o) = D o
Ends D R (Rejected o) = R o
Ends D R BadLength = true ≡ true
Ends D R (IfSame v w rest) = (same : Bool) → Ends D R (rest same)

pub ends_if : (D R : ObjectState → Type 0) (b : Bool) (m n : Defining) → (b ≡ true → Ends D R m) → (b ≡ false → Ends D R n) → Ends D R (if b then m else n)
ends_if D R true m n yes_ no_ = yes_ refl
ends_if D R false m n yes_ no_ = no_ refl

pub ends_then : (D R D' R' : ObjectState → Type 0) (m : Defining) (done rejected : ObjectState → Defining) → Ends D R m → ((o : ObjectState) → D o → Ends D' R' (done o))
    → ((o : ObjectState) → R o → Ends D' R' (rejected o)) → Ends D' R' (then_if m done rejected)
ends_then D R D' R' (Defined o) done rejected is on off = on o is
ends_then D R D' R' (Rejected o) done rejected is on off = off o is
ends_then D R D' R' BadLength done rejected is on off = refl
ends_then D R D' R' (IfSame v w rest) done rejected is on off = λ same. ends_then D R D' R' (rest same) done rejected (is same) on off

-- a property that isn't configurable doesn't become an accessor
abbrev pub keeps_sort : Property → Descriptor → Bool
keeps_sort (Data p) d = p.configurable || not (is_accessor d)
keeps_sort (Accessor p) d = true

same_ends : (D R : ObjectState → Type 0) (v : Option Value) (old : Value) (done rejected : Defining) → Ends D R done → Ends D R rejected → Ends D R (if_same_value v old done rejected)
same_ends D R None old done rejected is other = is
same_ends D R (Some v) old done rejected is other = λ same. ends_if D R same done rejected (λ s. is) (λ s. other)

data_ends : (D R : ObjectState → Type 0) (p : DataProperty) (d : Descriptor) (done rejected : Defining) → Ends D R done → Ends D R rejected → Ends D R (if_data_allowed p d done rejected)
data_ends D R p d done rejected is other =
    ends_if D R (p.configurable || p.writable) done (if unwrap_or d.writable false then rejected else if_same_value d.value p.value done rejected) (λ s. is)
    (λ s. ends_if D R (unwrap_or d.writable false) rejected (if_same_value d.value p.value done rejected) (λ s. other) (λ s. same_ends D R d.value p.value done rejected is other))

accessor_ends : (D R : ObjectState → Type 0) (p : AccessorProperty) (d : Descriptor) (done rejected : Defining) → Ends D R done → Ends D R rejected → Ends D R (if_accessor_allowed p d done rejected)
accessor_ends D R p d done rejected is other = ends_if D R (p.configurable || is_same_function (unwrap_or d.set p.set) p.set && is_same_function (unwrap_or d.get p.get) p.get) done rejected (λ s. is) (λ s. other)

generic_sort : (d : Descriptor) → is_generic d ≡ true → is_accessor d ≡ false
generic_sort d is = grind (arith, is)

allowed_ends : (D R : ObjectState → Type 0) (p : Property) (d : Descriptor) (done rejected : Defining) → (keeps_sort p d ≡ true → Ends D R done) → Ends D R rejected → Ends D R (if_allowed p d done rejected)
allowed_ends D R (Data p) d done rejected is other =
    ends_if D R (is_generic d) done (if is_accessor d then (if p.configurable then done else rejected) else if_data_allowed p d done rejected) (λ s. is (grind (arith, generic_sort d s)))
    (λ s. ends_if D R (is_accessor d) (if p.configurable then done else rejected) (if_data_allowed p d done rejected) (λ s. ends_if D R p.configurable done rejected (λ s. is (grind (arith, s))) (λ s. other)) (λ s. data_ends D R p d done rejected (is (grind (arith, s))) other))
allowed_ends D R (Accessor p) d done rejected is other =
    ends_if D R (is_generic d) done (if is_data d then (if p.configurable then done else rejected) else if_accessor_allowed p d done rejected) (λ s. is refl)
    (λ s. ends_if D R (is_data d) (if p.configurable then done else rejected) (if_accessor_allowed p d done rejected) (λ s. ends_if D R p.configurable done rejected (λ s. is refl) (λ s. other)) (λ s. accessor_ends D R p d done rejected (is refl) other))

old_ends : (D R : ObjectState → Type 0) (key : Key) (d : Descriptor) (o : ObjectState) (p : Property) → (is_barred p d ≡ false → keeps_sort p d ≡ true → D (with_property key (changed p d) o)) → R o
    → Ends D R (define_by key d o (Some p))
old_ends D R key d o p old stays =
    ends_if D R (is_barred p d) (Rejected o) (if_allowed p d (Defined (with_property key (changed p d) o)) (Rejected o)) (λ s. stays)
    (λ s. allowed_ends D R p d (Defined (with_property key (changed p d) o)) (Rejected o) (λ sort. old s sort) stays)

-- what one property becomes: it is made, or it is changed where that isn't barred
pub by_ends : (D R : ObjectState → Type 0) (key : Key) (d : Descriptor) (o : ObjectState) (found : Option Property) → (found ≡ None → D (with_property key (made d) o))
    → ((p : Property) → found ≡ Some p → is_barred p d ≡ false → keeps_sort p d ≡ true → D (with_property key (changed p d) o)) → R o → Ends D R (define_by key d o found)
by_ends D R key d o None new old stays = ends_if D R o.extensible (Defined (with_property key (made d) o)) (Rejected o) (λ s. new refl) (λ s. stays)
by_ends D R key d o (Some p) new old stays = old_ends D R key d o p (old p refl) stays

-- ---- properties that are right

or_right : {A : Type 0} (test : A → Bool) (default : A) (a : Option A) → test default ≡ true → if_some test a ≡ true → test (unwrap_or a default) ≡ true
or_right test default None is other = is
or_right test default (Some a) is other = other

record IsRightChange (h : Heap) (d : Descriptor) : Type 0 where
  value : if_some (is_value h) d.value ≡ true
  get : if_some (if_some (is_function h)) d.get ≡ true
  set : if_some (if_some (is_function h)) d.set ≡ true

change_parts : (h : Heap) (d : Descriptor) → is_change h d ≡ true → IsRightChange h d
change_parts h d is =
    let outer = and_parts (if_some (is_value h) d.value && if_some (if_some (is_function h)) d.get) (if_some (if_some (is_function h)) d.set) is in
    let inner = and_parts (if_some (is_value h) d.value) (if_some (if_some (is_function h)) d.get) outer.0 in
    record { value = inner.0; get = inner.1; set = outer.1 }

accessor_right : (h : Heap) (get set : Option ObjNo) (e c : Bool) → if_some (is_function h) get ≡ true → if_some (is_function h) set ≡ true
    → is_property h (Accessor (record { get = get; set = set; enumerable = e; configurable = c })) ≡ true
accessor_right h get set e c got put = and_from (if_some (is_function h) get) (if_some (is_function h) set) got put

right_if : (h : Heap) (b : Bool) (p q : Property) → is_property h p ≡ true → is_property h q ≡ true → is_property h (if b then p else q) ≡ true
right_if h true p q is other = is
right_if h false p q is other = other

made_right : (h : Heap) (d : Descriptor) → is_change h d ≡ true → is_property h (made d) ≡ true
made_right h d is =
    let parts = change_parts h d is in
    right_if h (is_accessor d) (Accessor (record { get = unwrap_or d.get None; set = unwrap_or d.set None; enumerable = unwrap_or d.enumerable false; configurable = unwrap_or d.configurable false }))
    (data_property (unwrap_or d.value undefined) (unwrap_or d.writable false) (unwrap_or d.enumerable false) (unwrap_or d.configurable false))
    (accessor_right h (unwrap_or d.get None) (unwrap_or d.set None) (unwrap_or d.enumerable false) (unwrap_or d.configurable false) (or_right (if_some (is_function h)) None d.get refl parts.get) (or_right (if_some (is_function h)) None d.set refl parts.set))
    (or_right (is_value h) undefined d.value refl parts.value)

changed_right : (h : Heap) (p : Property) (d : Descriptor) → is_change h d ≡ true → is_property h p ≡ true → is_property h (changed p d) ≡ true
changed_right h (Data p) d is was =
    let parts = change_parts h d is in
    right_if h (is_accessor d) (Accessor (record { get = unwrap_or d.get None; set = unwrap_or d.set None; enumerable = unwrap_or d.enumerable p.enumerable; configurable = unwrap_or d.configurable p.configurable }))
    (data_property (unwrap_or d.value p.value) (unwrap_or d.writable p.writable) (unwrap_or d.enumerable p.enumerable) (unwrap_or d.configurable p.configurable))
    (accessor_right h (unwrap_or d.get None) (unwrap_or d.set None) (unwrap_or d.enumerable p.enumerable) (unwrap_or d.configurable p.configurable) (or_right (if_some (is_function h)) None d.get refl parts.get) (or_right (if_some (is_function h)) None d.set refl parts.set))
    (or_right (is_value h) p.value d.value was parts.value)
changed_right h (Accessor p) d is was =
    let parts = change_parts h d is in
    let own = and_parts (if_some (is_function h) p.get) (if_some (is_function h) p.set) was in
    right_if h (is_data d) (data_property (unwrap_or d.value undefined) (unwrap_or d.writable false) (unwrap_or d.enumerable p.enumerable) (unwrap_or d.configurable p.configurable))
    (Accessor (record { get = unwrap_or d.get p.get; set = unwrap_or d.set p.set; enumerable = unwrap_or d.enumerable p.enumerable; configurable = unwrap_or d.configurable p.configurable }))
    (or_right (is_value h) undefined d.value refl parts.value)
    (accessor_right h (unwrap_or d.get p.get) (unwrap_or d.set p.set) (unwrap_or d.enumerable p.enumerable) (unwrap_or d.configurable p.configurable) (or_right (if_some (is_function h)) p.get d.get own.0 parts.get) (or_right (if_some (is_function h)) p.set d.set own.1 parts.set))

-- ---- lists of properties

all_put : (test : Key × Property → Bool) (key : Key) (p : Property) (ps : List (Key × Property)) → test (key, p) ≡ true → list_all test ps ≡ true → list_all test (put_at key p ps) ≡ true
all_put test key p [] is all = and_from (test (key, p)) true is refl
all_put test key p (q ∷ ps) is all = by_key (is_same_text q.0 key) refl (all_put test key p ps is (and_parts (test q) (list_all test ps) all).1)
  where
    by_key : (b : Bool) → is_same_text q.0 key ≡ b → list_all test (put_at key p ps) ≡ true → list_all test (if b then (q.0, p) ∷ ps else (q ∷ put_at key p ps)) ≡ true
    by_key true same rest = and_from (test (q.0, p)) (list_all test ps) (ap (λ k. test (k, p)) (same_text q.0 key (sym same)) ∙ is) (and_parts (test q) (list_all test ps) all).1
    by_key false same rest = and_from (test q) (list_all test (put_at key p ps)) (and_parts (test q) (list_all test ps) all).0 rest

pub found_right : {A : Type 0} (test : Key × A → Bool) (same : (k m : Key) (p : A) → test (k, p) ≡ test (m, p)) (key : Key) (p : A) (ps : List (Key × A)) → list_all test ps ≡ true → lookup key ps ≡ Some p → test (key, p) ≡ true
found_right test same key p [] all at = grind (arith, at)
found_right test same key p (q ∷ ps) all at = by_key (is_same_text q.0 key) (found_right test same key p ps (and_parts (test q) (list_all test ps) all).1) at
  where
    by_key : (b : Bool) → (lookup key ps ≡ Some p → test (key, p) ≡ true) → (if b then Some q.1 else lookup key ps) ≡ Some p → test (key, p) ≡ true
    by_key true rest at = same key q.0 p ∙ (ap (λ r. test (q.0, r)) (sym (some_is q.1 p at)) ∙ (and_parts (test q) (list_all test ps) all).0)
    by_key false rest at = rest at

-- ---- objects that are no arrays

pub like_with : (h : Heap) (base o : ObjectState) (key : Key) (p : Property) → IsLike h base o → is_property h p ≡ true → IsLike h base (with_property key p o)
like_with h base o key p like is = record {
  class = like.class;
  prototype = like.prototype;
  depth = like.depth;
  distinct = distinct_put key p o.properties like.distinct;
  properties = all_put (λ (q : Key × Property). is_property h q.1) key p o.properties is like.properties;
}

own_right : (h : Heap) (base o : ObjectState) (key : Key) (p : Property) → IsLike h base o → own_property key o ≡ Some p → is_property h p ≡ true
own_right h base o key p like at = found_right (λ (q : Key × Property). is_property h q.1) (λ k m p. refl) key p o.properties like.properties at

-- a property is set to one that is right, or the object stays
pub plain_ends : (D R : ObjectState → Type 0) (h : Heap) (base o : ObjectState) (key : Key) (d : Descriptor) → IsLike h base o → is_change h d ≡ true
    → ((p : Property) → is_property h p ≡ true → D (with_property key p o)) → R o → Ends D R (define_plain key d o)
unfolding define_plain
plain_ends D R h base o key d like is done stays =
    by_ends D R key d o (own_property key o) (λ s. done (made d) (made_right h d is)) (λ p at barred sort. done (changed p d) (changed_right h p d is (own_right h base o key p like at))) stays

-- ---- 8.12.9 of the length of an array

pub no_index : array_index length_key ≡ None
unfolding array_index
no_index = refl

-- an object like another, with a length and only indices below this number
pub record IsArrayTo (h : Heap) (base o : ObjectState) (q : DataProperty) (n : ℕ) : Type 0 where
  pub like : IsLike h base o
  pub at : lookup length_key o.properties ≡ Some (Data q)
  pub enumerable : q.enumerable ≡ false
  pub configurable : q.configurable ≡ false
  pub below : list_all (below_length (Some n)) o.properties ≡ true

length_below : (n : ℕ) (p : Property) → below_length (Some n) (length_key, p) ≡ true
length_below n p = rw no_index refl

pub put_length : (h : Heap) (base o : ObjectState) (q r : DataProperty) (n m : ℕ) → IsArrayTo h base o q n → is_property h (Data r) ≡ true → r.enumerable ≡ false → r.configurable ≡ false
    → list_all (below_length (Some m)) o.properties ≡ true → IsArrayTo h base (with_property length_key (Data r) o) r m
put_length h base o q r n m array is enumerable configurable below = record {
  like = like_with h base o length_key (Data r) array.like is;
  at = lookup_put length_key (Data r) o.properties;
  enumerable = enumerable;
  configurable = configurable;
  below = all_put (below_length (Some m)) length_key (Data r) o.properties (length_below m (Data r)) below;
}

if_less : (m n : ℕ) (i : Option ℕ) → m ≤ n → if_some (λ i. nat_lt i m) i ≡ true → if_some (λ i. nat_lt i n) i ≡ true
if_less m n None le is = refl
if_less m n (Some i) le is = less_kept i m n le is

pub below_kept : (m n : ℕ) (ps : List (Key × Property)) → m ≤ n → list_all (below_length (Some m)) ps ≡ true → list_all (below_length (Some n)) ps ≡ true
below_kept m n ps le is = all_kept (below_length (Some m)) (below_length (Some n)) ps (λ p. if_less m n (array_index p.0) le) is

pub put_element : (h : Heap) (base o : ObjectState) (q : DataProperty) (n m : ℕ) (key : Key) (p : Property) → IsArrayTo h base o q n → is_same_text key length_key ≡ false → n ≤ m
    → if_some (λ i. nat_lt i m) (array_index key) ≡ true → is_property h p ≡ true → IsArrayTo h base (with_property key p o) q m
put_element h base o q n m key p array differ le index is = record {
  like = like_with h base o key p array.like is;
  at = lookup_put_other key length_key p o.properties differ ∙ array.at;
  enumerable = array.enumerable;
  configurable = array.configurable;
  below = all_put (below_length (Some m)) key p o.properties index (below_kept n m o.properties le array.below);
}

unbarred : (c e : Bool) (dc de : Option Bool) → (not c && (unwrap_or dc false || not (is_same_truth (unwrap_or de e) e))) ≡ false → c ≡ false → e ≡ false → (unwrap_or dc c ≡ false) × (unwrap_or de e ≡ false)
unbarred true e dc de is c0 e0 = grind (arith, c0)
unbarred false true dc de is c0 e0 = grind (arith, e0)
unbarred false false None None is c0 e0 = (refl, refl)
unbarred false false None (Some false) is c0 e0 = (refl, refl)
unbarred false false None (Some true) is c0 e0 = grind (arith, is)
unbarred false false (Some false) None is c0 e0 = (refl, refl)
unbarred false false (Some false) (Some false) is c0 e0 = (refl, refl)
unbarred false false (Some false) (Some true) is c0 e0 = grind (arith, is)
unbarred false false (Some true) de is c0 e0 = grind (arith, is)

still_data : (c a : Bool) → (c || not a) ≡ true → c ≡ false → a ≡ false
still_data true a is c0 = grind (arith, c0)
still_data false true is c0 = sym is
still_data false false is c0 = refl

-- what the length becomes
abbrev next_length : DataProperty → Descriptor → DataProperty
next_length p d = record { value = unwrap_or d.value p.value; writable = unwrap_or d.writable p.writable; enumerable = unwrap_or d.enumerable p.enumerable; configurable = unwrap_or d.configurable p.configurable }

changed_data : (p : DataProperty) (d : Descriptor) → is_accessor d ≡ false → changed (Data p) d ≡ Data (next_length p d)
changed_data p d is = rw is refl

pub length_ends : (D R : ObjectState → Type 0) (h : Heap) (base o : ObjectState) (q : DataProperty) (n m : ℕ) (d : Descriptor) → IsArrayTo h base o q n → is_change h d ≡ true
    → list_all (below_length (Some m)) o.properties ≡ true
    → ((r : DataProperty) → r.value ≡ unwrap_or d.value q.value → r.writable ≡ unwrap_or d.writable q.writable → IsArrayTo h base (with_property length_key (Data r) o) r m → D (with_property length_key (Data r) o)) → R o
    → Ends D R (define_plain length_key d o)
unfolding define_plain
length_ends D R h base o q n m d array is below done stays =
    let right = own_right h base o length_key (Data q) array.like array.at in
    rw array.at
    (old_ends D R length_key d o (Data q) (λ barred sort.
    let is_data_still = still_data q.configurable (is_accessor d) sort array.configurable in
    let parts = unbarred q.configurable q.enumerable d.configurable d.enumerable barred array.configurable array.enumerable in
    let next = put_length h base o q (next_length q d) n m array (ap (is_property h) (sym (changed_data q d is_data_still)) ∙ changed_right h (Data q) d is right) parts.1 parts.0 below in
    rw (changed_data q d is_data_still) (done (next_length q d) refl refl next)) stays)

-- a length that is writable takes any value
pub define_writable : (h : Heap) (base o : ObjectState) (q : DataProperty) (n : ℕ) (v : Value) (w : Option Bool) → IsArrayTo h base o q n → q.writable ≡ true
    → define_plain length_key (record { value = Some v; writable = w; get = None; set = None; enumerable = None; configurable = None }) o
    ≡ Defined (with_property length_key (data_property v (unwrap_or w true) false false) o)
unfolding define_plain
define_writable h base o q n v w array writable = rw (array.at, array.enumerable, array.configurable, writable) refl

pub ends_outcome : (D : ObjectState → Type 0) (same : Value → Value → Bool) (m : Defining) (after : ObjectState) → Ends D D m → outcome same m ≡ Some after → D after
ends_outcome D same (Defined o) after is at = rw (sym (some_is o after at)) is
ends_outcome D same (Rejected o) after is at = rw (sym (some_is o after at)) is
ends_outcome D same BadLength after is at = grind (arith, at)
ends_outcome D same (IfSame v w rest) after is at = ends_outcome D same (rest (same v w)) after (is (same v w)) at
