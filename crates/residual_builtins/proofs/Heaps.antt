-- What [[Put]] comes to, by the steps of its clauses.
use Rattle.std.proofs.Common.{◌≡◌, inl, inr, ℕ, suc, ◌&&◌, Bool, true, false, [], ◌∷◌, refl, ap, subst, sym, ◌∙◌, nat_le}
use Rattle.std.specs.Prelude.{if◌then◌else◌, not, ◌||◌, unwrap_or, Ok, Option, Some, None}
use Rattle.std.specs.List.{list_all}
use Rattle.std.specs.Option.{option_and_then, option_map}
use Rattle.std.proofs.lemmas.Bool.{both_ways}
use Rattle.js_value.specs.Conversions.{is_same_text, is_same_truth}
use Rattle.plain_heap.specs.Heap.{Key, Property, Properties, Data, Accessor, DataProperty, ObjectState, Heap, data_property, depth_at, depth_of, is_array_class, lookup, object_at, or_else}
use Rattle.plain_heap.specs.Methods as methods
use Rattle.plain_heap.specs.Methods.{Descriptor, Defining, Defined, array_index, data_fields, length_key, length_of, own_property, value_field, with_property}
use Rattle.plain_heap.specs.Values.{Value, ObjNo, number}
use Rattle.js_machine.specs.Machine.Objects.{is_array_state}
use Rattle.js_machine.specs.Machine.Realm.{realm}
use Rattle.js_machine.specs.Machine.RealmObjects.{array_prototype, object_prototype}
use Rattle.residual_runs.specs.Statements.{Puts}
use Rattle.residual_builtins.specs.Heaps.{IsBesideLength, of_no_array, no_element, element_below, IsOpen, IsOpenAbove, PutsRight}

-- ---- [[DefineOwnProperty]] beside the length

and_false : (b : Bool) → (b && false) ≡ false
and_false true = refl
and_false false = refl

beside : (key : Key) (state : ObjectState) (d : Descriptor) → IsBesideLength key state → methods.define key d state ≡ methods.define_plain key d state
unfolding methods.define methods.define_array
beside key state d (of_no_array is) = rw is refl
beside key state d (no_element other is) = by_class (is_array_class state.class)
  where
    of_length : (length : Option Property) → methods.define_array_by key d state length ≡ methods.define_plain key d state
    of_length None = refl
    of_length (Some (Accessor p)) = refl
    of_length (Some (Data p)) = by_value (length_of p.value)
      where
        by_value : (old : Option ℕ) → unwrap_or (option_map (methods.define_in_array key d state p) old) (methods.define_plain key d state) ≡ methods.define_plain key d state
        by_value None = refl
        by_value (Some old) = rw (other, is) refl

    by_class : (b : Bool) → (if b then methods.define_array_by key d state (own_property length_key state) else methods.define_plain key d state) ≡ methods.define_plain key d state
    by_class true = of_length (own_property length_key state)
    by_class false = refl
beside key state d (element_below n old length other is own value below) = by_class (is_array_class state.class)
  where
    by_class : (b : Bool) → (if b then methods.define_array_by key d state (own_property length_key state) else methods.define_plain key d state) ≡ methods.define_plain key d state
    by_class true = rw (own, value) (rw (other, is) (rw below refl))
    by_class false = refl

no_length : (key : Key) (state : ObjectState) → IsBesideLength key state → (is_array_state (Some state) && is_same_text key length_key) ≡ false
no_length key state (of_no_array is) = rw is refl
no_length key state (no_element other is) = rw other (and_false (is_array_class state.class))
no_length key state (element_below n old length other is own value below) = rw other (and_false (is_array_class state.class))

-- ---- a new property

found_above : (h : Heap) (o : ObjNo) (state : ObjectState) (key : Key) → object_at h o ≡ Some state → own_property key state ≡ None → state.depth ≡ depth_at h state.prototype
    → methods.get_property h key (Some o) ≡ methods.get_property h key state.prototype
unfolding methods.get_property
found_above h o state key there own depth =
    ap (λ s. methods.property_along (depth_of s) h key (Some o)) there
    ∙ ap (λ s. option_and_then (λ (s : ObjectState). or_else (option_map (λ (p : Property). (o, p)) (own_property key s)) (methods.property_along state.depth h key s.prototype)) s) there
    ∙ ap (λ p. or_else (option_map (λ (p : Property). (o, p)) p) (methods.property_along state.depth h key state.prototype)) own
    ∙ ap (λ n. methods.property_along n h key state.prototype) depth

may_be_put : (extensible : Bool) (p : Option (ObjNo × Property)) → extensible ≡ true → IsOpen p → methods.can_put_inherited extensible p ≡ true
may_be_put extensible None is none = is
may_be_put extensible (Some (holder, Data p)) is writable = rw (is, writable) refl
may_be_put extensible (Some (holder, Accessor p)) is none = absurd none

put_so : (v : Value) (p : Option (ObjNo × Property)) → IsOpen p → methods.put_found v p ≡ methods.Define (data_fields v true true true)
put_so v None is = refl
put_so v (Some (holder, Data p)) is = refl
put_so v (Some (holder, Accessor p)) is = absurd is

put_new : (h : Heap) (o : ObjNo) (state : ObjectState) (key : Key) (v : Value) → object_at h o ≡ Some state → own_property key state ≡ None → state.extensible ≡ true → IsOpenAbove h state key
    → methods.put h o key v ≡ methods.Define (data_fields v true true true)
unfolding methods.put methods.can_put
put_new h o state key v there own extensible above =
    rw there (rw own (rw (may_be_put state.extensible (methods.get_property h key state.prototype) extensible above.open_above)
    (rw (found_above h o state key there own above.depth) (put_so v (methods.get_property h key state.prototype) above.open_above))))

define_new : (key : Key) (d : Descriptor) (state : ObjectState) → own_property key state ≡ None → state.extensible ≡ true → methods.define_plain key d state ≡ Defined (with_property key (methods.made d) state)
unfolding methods.define_plain
define_new key d state own extensible = rw own (rw extensible refl)

new_property : (h : Heap) (o : ObjNo) (state : ObjectState) (key : Key) (v : Value) → object_at h o ≡ Some state → methods.checked_key key ≡ Ok key → IsBesideLength key state
    → own_property key state ≡ None → state.extensible ≡ true → IsOpenAbove h state key → Puts h o key v (with_property key (data_property v true true true) state)
new_property h o state key v there named is own extensible above = record {
  descriptor = data_fields v true true true;
  put = put_new h o state key v there own extensible above;
  defines = record {
    named = named;
    before = state;
    there = there;
    length = inl (no_length key state is);
    defined = beside key state (data_fields v true true true) is ∙ define_new key (data_fields v true true true) state own extensible;
  };
}

-- ---- an own property

same_truth : (b : Bool) → is_same_truth b b ≡ true
same_truth true = refl
same_truth false = refl

never_barred : (configurable enumerable : Bool) → (not configurable && (false || not (is_same_truth enumerable enumerable))) ≡ false
never_barred true enumerable = refl
never_barred false enumerable = rw (same_truth enumerable) refl

or_true : (b : Bool) → (b || true) ≡ true
or_true true = refl
or_true false = refl

put_own : (h : Heap) (o : ObjNo) (state : ObjectState) (key : Key) (p : DataProperty) (v : Value) → object_at h o ≡ Some state → own_property key state ≡ Some (Data p) → p.writable ≡ true
    → methods.put h o key v ≡ methods.Define (value_field v)
unfolding methods.put methods.can_put
put_own h o state key p v there own writable = rw there (rw own (rw writable refl))

define_own : (key : Key) (v : Value) (state : ObjectState) (p : DataProperty) → own_property key state ≡ Some (Data p) → p.writable ≡ true
    → methods.define_plain key (value_field v) state ≡ Defined (with_property key (Data (record p { value = v })) state)
unfolding methods.define_plain
define_own key v state p own writable = rw own (rw (never_barred p.configurable p.enumerable) (rw writable (rw (or_true p.configurable) refl)))

own_property_put : (h : Heap) (o : ObjNo) (state : ObjectState) (key : Key) (p : DataProperty) (v : Value) → object_at h o ≡ Some state → methods.checked_key key ≡ Ok key → IsBesideLength key state
    → own_property key state ≡ Some (Data p) → p.writable ≡ true → Puts h o key v (with_property key (Data (record p { value = v })) state)
own_property_put h o state key p v there named is own writable = record {
  descriptor = value_field v;
  put = put_own h o state key p v there own writable;
  defines = record {
    named = named;
    before = state;
    there = there;
    length = inl (no_length key state is);
    defined = beside key state (value_field v) is ∙ define_own key v state p own writable;
  };
}

-- ---- the length of an array

define_length : (state : ObjectState) (p : DataProperty) (old n : ℕ) → is_array_class state.class ≡ true → own_property length_key state ≡ Some (Data p) → length_of p.value ≡ Some old → nat_le old n ≡ true
    → nat_le n methods.greatest_length ≡ true → methods.define length_key (value_field (number n)) state ≡ methods.define_plain length_key (value_field (number n)) state
unfolding methods.define methods.define_array
define_length state p old n is own value raised short = rw is (rw (own, value) (rw short (rw raised refl)))

length_put : (h : Heap) (o : ObjNo) (state : ObjectState) (p : DataProperty) (old n : ℕ) → object_at h o ≡ Some state → is_array_class state.class ≡ true
    → own_property length_key state ≡ Some (Data p) → p.writable ≡ true → length_of p.value ≡ Some old → nat_le old n ≡ true → nat_le n methods.greatest_length ≡ true
    → Puts h o length_key (number n) (with_property length_key (Data (record p { value = number n })) state)
length_put h o state p old n there is own writable value raised short = record {
  descriptor = value_field (number n);
  put = put_own h o state length_key p (number n) there own writable;
  defines = record {
    named = refl;
    before = state;
    there = there;
    length = inr tt;
    defined = define_length state p old n is own value raised short ∙ define_own length_key (number n) state p own writable;
  };
}

-- ---- prototypes as they are at the start

abbrev is_open : Key × Property → Bool
is_open (key, Data p) = p.writable
is_open (key, Accessor p) = false

and_left : (a b : Bool) → (a && b) ≡ true → a ≡ true
and_left true b both = refl
and_left false b both = both

and_right : (a b : Bool) → (a && b) ≡ true → b ≡ true
and_right true b both = both
and_right false b both = absurd (both_ways false refl both)

one_open : (o : ObjNo) (key : Key) (p : Property) → is_open (key, p) ≡ true → IsOpen (Some (o, p))
one_open o key (Data p) writable = writable
one_open o key (Accessor p) is = absurd (both_ways false refl is)

own_open : (o : ObjNo) (key : Key) (ps : Properties) → list_all is_open ps ≡ true → IsOpen (option_map (λ (p : Property). (o, p)) (lookup key ps))
own_open o key [] are = tt
own_open o key ((other, p) ∷ ps) are =
    by_same (is_same_text other key) (one_open o other p (and_left (is_open (other, p)) (list_all is_open ps) are)) (own_open o key ps (and_right (is_open (other, p)) (list_all is_open ps) are))
  where
    by_same : (b : Bool) → IsOpen (Some (o, p)) → IsOpen (option_map (λ (p : Property). (o, p)) (lookup key ps)) → IsOpen (option_map (λ (p : Property). (o, p)) (if b then Some p else lookup key ps))
    by_same true here others = here
    by_same false here others = others

either_open : (a b : Option (ObjNo × Property)) → IsOpen a → IsOpen b → IsOpen (or_else a b)
either_open None b first second = second
either_open (Some x) b first second = first

along_open : (n : ℕ) (h : Heap) (o : ObjNo) (key : Key) (state : ObjectState) → object_at h o ≡ Some state → list_all is_open state.properties ≡ true → IsOpen (methods.property_along n h key state.prototype)
    → IsOpen (methods.property_along (suc n) h key (Some o))
along_open n h o key state there are above =
    subst (λ s. IsOpen (option_and_then (λ (s : ObjectState). or_else (option_map (λ (p : Property). (o, p)) (own_property key s)) (methods.property_along n h key s.prototype)) s)) (sym there)
    (either_open (option_map (λ (p : Property). (o, p)) (own_property key state)) (methods.property_along n h key state.prototype) (own_open o key state.properties are) above)

-- an object of the realm at the start, with so many prototypes
record Start (o : ObjNo) (depth : ℕ) (prototype : Option ObjNo) : Type 0 where
  state : ObjectState
  at : object_at realm o ≡ Some state
  deep : state.depth ≡ depth
  above : state.prototype ≡ prototype
  open_all : list_all is_open state.properties ≡ true

object_start : Start object_prototype 0 None
unfolding realm
object_start = record { state = _; at = refl; deep = refl; above = refl; open_all = refl }

array_start : Start array_prototype 1 (Some object_prototype)
unfolding realm
array_start = record { state = _; at = refl; deep = refl; above = refl; open_all = refl }

object_along : (h : Heap) (key : Key) → object_at h object_prototype ≡ object_at realm object_prototype → IsOpen (methods.property_along 1 h key (Some object_prototype))
object_along h key same =
    along_open 0 h object_prototype key object_start.state (same ∙ object_start.at) object_start.open_all (subst (λ o. IsOpen (methods.property_along 0 h key o)) (sym object_start.above) tt)

array_along : (h : Heap) (key : Key) → object_at h object_prototype ≡ object_at realm object_prototype → object_at h array_prototype ≡ object_at realm array_prototype
    → IsOpen (methods.property_along 2 h key (Some array_prototype))
array_along h key same also =
    along_open 1 h array_prototype key array_start.state (also ∙ array_start.at) array_start.open_all (subst (λ o. IsOpen (methods.property_along 1 h key o)) (sym array_start.above) (object_along h key same))

open_object : (h : Heap) (key : Key) → object_at h object_prototype ≡ object_at realm object_prototype → IsOpen (methods.get_property h key (Some object_prototype))
unfolding methods.get_property
open_object h key same =
    subst (λ n. IsOpen (methods.property_along n h key (Some object_prototype))) (sym (ap depth_of (same ∙ object_start.at) ∙ ap (λ n. suc n) object_start.deep)) (object_along h key same)

open_array : (h : Heap) (key : Key) → object_at h object_prototype ≡ object_at realm object_prototype → object_at h array_prototype ≡ object_at realm array_prototype
    → IsOpen (methods.get_property h key (Some array_prototype))
unfolding methods.get_property
open_array h key same also =
    subst (λ n. IsOpen (methods.property_along n h key (Some array_prototype))) (sym (ap depth_of (also ∙ array_start.at) ∙ ap (λ n. suc n) array_start.deep)) (array_along h key same also)

-- ---- all together

pub puts_right : PutsRight
puts_right = record {
  new_property = new_property;
  own = own_property_put;
  length = length_put;
  open_object = open_object;
  open_array = open_array;
}
