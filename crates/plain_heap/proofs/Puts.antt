-- What [[DefineOwnProperty]] leaves where it takes a value.
use Rattle.std.proofs.Common.{◌≡◌, refl, ap, ◌∙◌, Bool, true, false, arith, sym}
use Rattle.std.specs.Cmp.Lexicographic.{same_text}
use Rattle.std.specs.Option.{option_and_then, option_map}
use Rattle.std.proofs.lemmas.List.{length-set, get_or-set_same}
use Rattle.std.proofs.lemmas.Option.{slice_get_within, slice_get_read}
use Rattle.std.specs.Prelude.{◌<◌, zero, suc, length, slice_set, ℕ, ◌+◌, nat_lt, nat_le, nat_eq, pos, if◌then◌else◌, ◌||◌, not, Option, Some, None, unwrap_or}
use Rattle.plain_heap.specs.Methods.{put, put_by, put_found, setter, Putting, Define, Refuse, can_put, get, get_property, property_along, GotValue, array_index, then_if, define_element, length_key, length_of, greatest_length, stop_at, cut_at, shorten, set_length_by, set_length, define_in_array, define_array_by, define_array, define, value_field, own_property, BadLength, IfSame, Descriptor, Defining, Defined, Rejected, with_property, define_plain, define_by, if_allowed, if_data_allowed, if_same_value, is_barred, made, changed}
use Rattle.plain_heap.specs.Values.{ObjNo, Value, Prim, number}
use Rattle.js_value.specs.Conversions.{is_same_text}
use Rattle.plain_heap.specs.Laws.{GetsWhatWasPut}
use Rattle.plain_heap.specs.Heap.{Heap, object_at, set_object, Key, Property, Data, Accessor, DataProperty, ObjectState, is_array_class, depth_at}
use Rattle.plain_heap.proofs.Properties.{lookup_put, lookup_put_other, same_sym, only_some}
use Rattle.js_value.specs.declared.primitive.Primitive.TheVariants as primitive

-- a change that has a value, and neither getter nor setter
abbrev pub with_value : Value → Option Bool → Option Bool → Option Bool → Descriptor
with_value v w e c = record { value = Some v; writable = w; get = None; set = None; enumerable = e; configurable = c }

-- the object is as before but for this property, which is data with this value
pub record Holds (key : Key) (v : Value) (o after : ObjectState) : Type 0 where
  pub property : DataProperty
  pub value : property.value ≡ v
  pub is : after ≡ with_property key (Data property) o

abbrev the_object : Defining → ObjectState → ObjectState
the_object (Defined o) other = o
the_object _ other = other

chosen : (b : Bool) (o x after : ObjectState) → (if b then Defined x else Rejected o) ≡ Defined after → x ≡ after
chosen true o x after e = ap (λ r. the_object r o) e
chosen false o x after e = grind (arith, e)

unbarred : (b : Bool) (o after : ObjectState) (m : Defining) → (if b then Rejected o else m) ≡ Defined after → m ≡ Defined after
unbarred true o after m e = grind (arith, e)
unbarred false o after m e = e

chosen_if_data : (p : DataProperty) (v : Value) (w e c : Option Bool) (o x after : ObjectState) → if_data_allowed p (with_value v w e c) (Defined x) (Rejected o) ≡ Defined after → x ≡ after
chosen_if_data p v w e c o x after is = by_writable (p.configurable || p.writable) is
  where
    by_writable : (b : Bool) → (if b then Defined x else (if unwrap_or w false then Rejected o else if_same_value (Some v) p.value (Defined x) (Rejected o))) ≡ Defined after → x ≡ after
    by_writable true is = ap (λ r. the_object r o) is
    by_writable false is = grind (arith, unbarred (unwrap_or w false) o after (if_same_value (Some v) p.value (Defined x) (Rejected o)) is)

plain_by : (key : Key) (v : Value) (w e c : Option Bool) (o after : ObjectState) (found : Option Property) → define_by key (with_value v w e c) o found ≡ Defined after → Holds key v o after
plain_by key v w e c o after None is = record {
  property = record { value = v; writable = unwrap_or w false; enumerable = unwrap_or e false; configurable = unwrap_or c false };
  value = refl;
  is = sym (chosen o.extensible o (with_property key (made (with_value v w e c)) o) after is);
}
plain_by key v w e c o after (Some (Data p)) is = record {
  property = record { value = v; writable = unwrap_or w p.writable; enumerable = unwrap_or e p.enumerable; configurable = unwrap_or c p.configurable };
  value = refl;
  is =
      sym
      (chosen_if_data p v w e c o (with_property key (changed (Data p) (with_value v w e c)) o) after
      (unbarred (is_barred (Data p) (with_value v w e c)) o after (if_allowed (Data p) (with_value v w e c) (Defined (with_property key (changed (Data p) (with_value v w e c)) o)) (Rejected o)) is));
}
plain_by key v w e c o after (Some (Accessor p)) is = record {
  property = record { value = v; writable = unwrap_or w false; enumerable = unwrap_or e p.enumerable; configurable = unwrap_or c p.configurable };
  value = refl;
  is =
      sym
      (chosen p.configurable o (with_property key (changed (Accessor p) (with_value v w e c)) o) after
      (unbarred (is_barred (Accessor p) (with_value v w e c)) o after (if_allowed (Accessor p) (with_value v w e c) (Defined (with_property key (changed (Accessor p) (with_value v w e c)) o)) (Rejected o)) is));
}

pub plain_holds : (key : Key) (v : Value) (w e c : Option Bool) (o after : ObjectState) → define_plain key (with_value v w e c) o ≡ Defined after → Holds key v o after
unfolding define_plain
plain_holds key v w e c o after is = plain_by key v w e c o after (own_property key o) is

-- the own property is data with this value
pub record Gives (key : Key) (v : Value) (after : ObjectState) : Type 0 where
  pub property : DataProperty
  pub value : property.value ≡ v
  pub is : own_property key after ≡ Some (Data property)

gives_held : (key : Key) (v : Value) (o after : ObjectState) → Holds key v o after → Gives key v after
gives_held key v o after held = record {
  property = held.property;
  value = held.value;
  is = rw held.is (lookup_put key (Data held.property) o.properties);
}

plain_gives : (key : Key) (v : Value) (w e c : Option Bool) (o after : ObjectState) → define_plain key (with_value v w e c) o ≡ Defined after → Gives key v after
plain_gives key v w e c o after is = gives_held key v o after (plain_holds key v w e c o after is)

-- a value that another property is set to changes nothing here
kept : (key other : Key) (v u : Value) (o after : ObjectState) → is_same_text other key ≡ false → Gives key v o → Holds other u o after → Gives key v after
kept key other v u o after differ gives held = record {
  property = gives.property;
  value = gives.value;
  is = rw held.is (lookup_put_other other key (Data held.property) o.properties differ ∙ gives.is);
}

-- ---- what another method goes on with

record WentOn (m : Defining) (next : ObjectState → Defining) (after : ObjectState) : Type 0 where
  middle : ObjectState
  first : m ≡ Defined middle
  second : next middle ≡ Defined after

went_on : (m : Defining) (next : ObjectState → Defining) (after : ObjectState) → then_if m next (λ o. Rejected o) ≡ Defined after → WentOn m next after
went_on (Defined o) next after is = record { middle = o; first = refl; second = is }
went_on (Rejected o) next after is = grind (arith, is)
went_on BadLength next after is = grind (arith, is)
went_on (IfSame v w rest) next after is = grind (arith, is)

-- ---- elements of arrays

element_gives : (key : Key) (v : Value) (w e c : Option Bool) (o after : ObjectState) (length : DataProperty) (old index : ℕ) → is_same_text length_key key ≡ false
    → define_element key (with_value v w e c) o length old index ≡ Defined after → Gives key v after
element_gives key v w e c o after length old index differ is = by_index (nat_lt index old) is
  where
    by_middle : WentOn (define_plain key (with_value v w e c) o) (λ o. define_plain length_key (value_field (number (index + 1))) o) after → Gives key v after
    by_middle on = kept key length_key v (number (index + 1)) on.middle after differ (plain_gives key v w e c o on.middle on.first) (plain_holds length_key (number (index + 1)) None None None on.middle after on.second)

    by_writable : (b : Bool) → (if not b then Rejected o else then_if (define_plain key (with_value v w e c) o) (λ o. define_plain length_key (value_field (number (index + 1))) o) (λ o. Rejected o)) ≡ Defined after → Gives key v after
    by_writable false is = grind (arith, is)
    by_writable true is = by_middle (went_on (define_plain key (with_value v w e c) o) (λ o. define_plain length_key (value_field (number (index + 1))) o) after is)

    by_index : (b : Bool) → (if b then define_plain key (with_value v w e c) o else (if not length.writable then Rejected o else then_if (define_plain key (with_value v w e c) o) (λ o. define_plain length_key (value_field (number (index + 1))) o) (λ o. Rejected o))) ≡ Defined after → Gives key v after
    by_index true is = plain_gives key v w e c o after is
    by_index false is = by_writable length.writable is

-- ---- the length of an array

length_is : (v : Value) (wanted : ℕ) → length_of v ≡ Some wanted → v ≡ number wanted
length_is (Prim (primitive.Number (pos n))) wanted is = ap number (only_some (nat_le n greatest_length) n wanted is).1
length_is v wanted is = grind (arith, is)

equal_numbers : (m n : ℕ) → nat_eq m n ≡ true → m ≡ n
equal_numbers m n same = grind (arith, same)

-- the value of a property, known by another name
renamed : (key : Key) (v u : Value) (o : ObjectState) → v ≡ u → Gives key u o → Gives key v o
renamed key v u o same gives = record { property = gives.property; value = gives.value ∙ sym same; is = gives.is }

chosen_object : (b : Bool) (o after : ObjectState) → (if b then Defined o else Rejected o) ≡ Defined after → (b ≡ true) × (o ≡ after)
chosen_object true o after is = (refl, ap (λ r. the_object r o) is)
chosen_object false o after is = grind (arith, is)

shortened : (v : Value) (w e c : Option Bool) (o after : ObjectState) (wanted : ℕ) → v ≡ number wanted → shorten wanted (with_value v w e c) o ≡ Defined after → Gives length_key v after
shortened v w e c o after wanted same is = ended (went_on first last after is)
  where
    first : Defining
    first = define_plain length_key (with_value (number (stop_at wanted o.properties)) (Some (unwrap_or w true)) None None) (cut_at (stop_at wanted o.properties) o)

    last : ObjectState → Defining
    last p = if nat_eq (stop_at wanted o.properties) wanted then Defined p else Rejected p

    ended : WentOn first last after → Gives length_key v after
    ended on =
        let chose = chosen_object (nat_eq (stop_at wanted o.properties) wanted) on.middle after on.second in
        let gives : Gives length_key (number (stop_at wanted o.properties)) after = rw (sym chose.1) (plain_gives length_key (number (stop_at wanted o.properties)) (Some (unwrap_or w true)) None None (cut_at (stop_at wanted o.properties) o) on.middle on.first) in
        renamed length_key v (number (stop_at wanted o.properties)) after (same ∙ ap number (sym (equal_numbers (stop_at wanted o.properties) wanted chose.0))) gives

set_length_gives : (v : Value) (w e c : Option Bool) (o after : ObjectState) (length : DataProperty) (old : ℕ) (found : Option ℕ) → length_of v ≡ found
    → set_length_by (with_value v w e c) o length old found ≡ Defined after → Gives length_key v after
set_length_gives v w e c o after length old None named is = grind (arith, is)
set_length_gives v w e c o after length old (Some wanted) named is = by_order (nat_le old wanted) is
  where
    lowered : WentOn (define_plain length_key (with_value v (Some true) e c) o) (shorten wanted (with_value v w e c)) after → Gives length_key v after
    lowered on = shortened v w e c on.middle after wanted (length_is v wanted named) on.second

    by_writable : (b : Bool) → (if not b then Rejected o else then_if (define_plain length_key (with_value v (Some true) e c) o) (shorten wanted (with_value v w e c)) (λ o. Rejected o)) ≡ Defined after → Gives length_key v after
    by_writable false is = grind (arith, is)
    by_writable true is = lowered (went_on (define_plain length_key (with_value v (Some true) e c) o) (shorten wanted (with_value v w e c)) after is)

    by_order : (b : Bool) → (if b then define_plain length_key (with_value v w e c) o else (if not length.writable then Rejected o else then_if (define_plain length_key (with_value v (Some true) e c) o) (shorten wanted (with_value v w e c)) (λ o. Rejected o))) ≡ Defined after → Gives length_key v after
    by_order true is = plain_gives length_key v w e c o after is
    by_order false is = by_writable length.writable is

-- ---- 15.4.5.1, and any object

in_array_gives : (key : Key) (v : Value) (w e c : Option Bool) (o after : ObjectState) (length : DataProperty) (old : ℕ) (b : Bool) (found : Option ℕ) → is_same_text key length_key ≡ b
    → (if b then set_length (with_value v w e c) o length old (Some v) else unwrap_or (option_map (define_element key (with_value v w e c) o length old) found) (define_plain key (with_value v w e c) o)) ≡ Defined after
    → Gives key v after
in_array_gives key v w e c o after length old true found same is = rw (same_text key length_key (sym same)) (set_length_gives v w e c o after length old (length_of v) refl is)
in_array_gives key v w e c o after length old false None differ is = plain_gives key v w e c o after is
in_array_gives key v w e c o after length old false (Some index) differ is = element_gives key v w e c o after length old index (same_sym length_key key ∙ differ) is

array_gives : (key : Key) (v : Value) (w e c : Option Bool) (o after : ObjectState) (found : Option Property) → define_array_by key (with_value v w e c) o found ≡ Defined after → Gives key v after
array_gives key v w e c o after None is = plain_gives key v w e c o after is
array_gives key v w e c o after (Some (Accessor p)) is = plain_gives key v w e c o after is
array_gives key v w e c o after (Some (Data length)) is = by_length (length_of length.value) is
  where
    by_length : (old : Option ℕ) → unwrap_or (option_map (define_in_array key (with_value v w e c) o length) old) (define_plain key (with_value v w e c) o) ≡ Defined after → Gives key v after
    by_length None is = plain_gives key v w e c o after is
    by_length (Some old) is = in_array_gives key v w e c o after length old (is_same_text key length_key) (array_index key) refl is

pub define_gives : (key : Key) (v : Value) (w e c : Option Bool) (o after : ObjectState) → define key (with_value v w e c) o ≡ Defined after → Gives key v after
unfolding define define_array
define_gives key v w e c o after is = by_class (is_array_class o.class) is
  where
    by_class : (b : Bool) → (if b then define_array key (with_value v w e c) o else define_plain key (with_value v w e c) o) ≡ Defined after → Gives key v after
    by_class true is = array_gives key v w e c o after (own_property length_key o) is
    by_class false is = plain_gives key v w e c o after is

-- ---- 8.12.5 and then 8.12.3

-- what is to be defined for a put
pub record IsForPut (v : Value) (d : Descriptor) : Type 0 where
  pub w : Option Bool
  pub e : Option Bool
  pub c : Option Bool
  pub is : d ≡ with_value v w e c

abbrev the_change : Putting → Descriptor → Descriptor
the_change (Define d) other = d
the_change _ other = other

when_found : (v : Value) (d : Descriptor) (found : Option (ObjNo × Property)) → put_found v found ≡ Define d → IsForPut v d
when_found v d None is = record { w = Some true; e = Some true; c = Some true; is = sym (ap (λ p. the_change p d) is) }
when_found v d (Some (holder, Data p)) is = record { w = Some true; e = Some true; c = Some true; is = sym (ap (λ p. the_change p d) is) }
when_found v d (Some (holder, Accessor p)) is = by_setter p.set is
  where
    by_setter : (f : Option ObjNo) → setter f ≡ Define d → IsForPut v d
    by_setter None is = grind (arith, is)
    by_setter (Some f) is = grind (arith, is)

when_own : (h : Heap) (o : ObjNo) (key : Key) (v : Value) (d : Descriptor) (found : Option Property) → put_by h o key v found ≡ Define d → IsForPut v d
when_own h o key v d (Some (Data p)) is = record { w = None; e = None; c = None; is = sym (ap (λ p. the_change p d) is) }
when_own h o key v d (Some (Accessor p)) is = when_found v d (get_property h key (Some o)) is
when_own h o key v d None is = when_found v d (get_property h key (Some o)) is

pub for_put : (h : Heap) (o : ObjNo) (key : Key) (v : Value) (d : Descriptor) → put h o key v ≡ Define d → IsForPut v d
unfolding put
for_put h o key v d is = by_can_put (can_put h o key) is
  where
    by_can_put : (b : Bool) → (if b then put_by h o key v (option_and_then (own_property key) (object_at h o)) else Refuse) ≡ Define d → IsForPut v d
    by_can_put true is = when_own h o key v d (option_and_then (own_property key) (object_at h o)) is
    by_can_put false is = grind (arith, is)

-- an own property is found first
found_first : (n : ℕ) (h : Heap) (key : Key) (o : ObjNo) (state : ObjectState) (p : Property) → 0 < n → object_at h o ≡ Some state → own_property key state ≡ Some p
    → property_along n h key (Some o) ≡ Some (o, p)
found_first zero h key o state p more is own = grind (arith, more)
found_first (suc n) h key o state p more is own = rw (is, own) refl

there : (h : Heap) (o : ObjNo) (state after : ObjectState) → object_at h o ≡ Some state → object_at (set_object o after h) o ≡ Some after
there h o state after is =
    let within = slice_get_within h.objects o state is in
    slice_get_read (slice_set h.objects o after) (length h.objects) o after (sym (length-set h.objects o after)) within (sym (get_or-set_same h.objects o after after within))

got_own : (h : Heap) (o : ObjNo) (key : Key) (v : Value) (state after : ObjectState) → object_at h o ≡ Some state → Gives key v after → get (set_object o after h) o key ≡ GotValue v
unfolding get get_property
got_own h o key v state after is gives =
    let now = there h o state after is in
    rw (found_first (depth_at (set_object o after h) (Some o)) (set_object o after h) key o after (Data gives.property) (rw now (omega arith)) now gives.is) (ap (λ u. GotValue u) gives.value)

gets_put : (h : Heap) (o : ObjNo) (key : Key) (v : Value) (d : Descriptor) (state after : ObjectState) → object_at h o ≡ Some state → put h o key v ≡ Define d
    → define key d state ≡ Defined after → get (set_object o after h) o key ≡ GotValue v
gets_put h o key v d state after is was made =
    let change = for_put h o key v d was in
    got_own h o key v state after is (define_gives key v change.w change.e change.c state after (ap (λ c. define key c state) (sym change.is) ∙ made))

pub gets_what_was_put : GetsWhatWasPut
gets_what_was_put = record { gets = gets_put }
