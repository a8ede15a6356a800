-- Lists of properties: looking up, putting and leaving out.
use Rattle.std.proofs.Common.{◌≡◌, refl, ap, ◌∙◌, Bool, true, false, List, [], ◌∷◌, ◌++◌, arith, sym}
use Rattle.std.specs.Prelude.{if◌then◌else◌, Option, Some, None, unwrap_or}
use Rattle.std.specs.Cmp.Lexicographic.{nat_list_eq_equiv}
use Rattle.std.specs.List.{list_any}
use Rattle.js_value.specs.Conversions.{is_same_text}
use Rattle.plain_heap.specs.Heap.{Key, Property, ObjectState, is_configurable, lookup, put_at, without}
use Rattle.plain_heap.specs.Laws.{SetsProperties, DeletesProperties}
use Rattle.plain_heap.specs.Methods.{own_property, delete, delete_by}
use Rattle.plain_heap.specs.Valid.{are_distinct}

same_self : (key : Key) → is_same_text key key ≡ true
same_self key = nat_list_eq_equiv.refl key

pub same_as : (k m n : Key) → is_same_text k m ≡ true → is_same_text k n ≡ is_same_text m n
same_as k m n = nat_list_eq_equiv.congr k m n

pub same_sym : (k m : Key) → is_same_text k m ≡ is_same_text m k
same_sym k m = nat_list_eq_equiv.symm k m

same_with : (k m n : Key) → is_same_text k m ≡ true → is_same_text n k ≡ is_same_text n m
same_with k m n h = same_sym n k ∙ same_as k m n h ∙ same_sym m n

module _ {A : Type 0} where
  -- some key is this one
  abbrev pub has : Key → List (Key × A) → Bool
  has key ps = list_any (λ q. is_same_text q.0 key) ps

  has_same : (k m : Key) (ps : List (Key × A)) → is_same_text k m ≡ true → has k ps ≡ has m ps
  has_same k m [] h = refl
  has_same k m (p ∷ ps) h = rw (same_with k m p.0 h, has_same k m ps h) refl

  pub lookup_put : (key : Key) (a : A) (ps : List (Key × A)) → lookup key (put_at key a ps) ≡ Some a
  lookup_put key a [] = rw (same_self key) refl
  lookup_put key a (p ∷ ps) = grind (arith, lookup_put key a ps)

  pub lookup_put_other : (key other : Key) (a : A) (ps : List (Key × A)) → is_same_text key other ≡ false → lookup other (put_at key a ps) ≡ lookup other ps
  lookup_put_other key other a [] h = rw h refl
  lookup_put_other key other a (p ∷ ps) h = grind (arith, same_as p.0 key other, lookup_put_other key other a ps h)

  has_put_other : (key other : Key) (a : A) (ps : List (Key × A)) → is_same_text key other ≡ false → has other (put_at key a ps) ≡ has other ps
  has_put_other key other a [] h = rw h refl
  has_put_other key other a (p ∷ ps) h = grind (arith, same_as p.0 key other, has_put_other key other a ps h)

  pub distinct_put : (key : Key) (a : A) (ps : List (Key × A)) → are_distinct ps ≡ true → are_distinct (put_at key a ps) ≡ true
  distinct_put key a [] h = refl
  distinct_put key a (p ∷ ps) h = grind (arith, distinct_put key a ps, has_put_other key p.0 a ps, same_sym p.0 key)

  lookup_none : (key : Key) (ps : List (Key × A)) → has key ps ≡ false → lookup key ps ≡ None
  lookup_none key [] h = refl
  lookup_none key (p ∷ ps) h = grind (arith, lookup_none key ps)

  pub gone : (key : Key) (ps : List (Key × A)) → are_distinct ps ≡ true → lookup key (without key ps) ≡ None
  gone key [] h = refl
  gone key (p ∷ ps) h = grind (arith, gone key ps, lookup_none key ps, has_same p.0 key ps)

  pub put_last : (key : Key) (a : A) (ps : List (Key × A)) → lookup key ps ≡ None → put_at key a ps ≡ ps ++ (key, a) ∷ []
  put_last key a [] h = refl
  put_last key a (p ∷ ps) h = grind (arith, put_last key a ps)

pub sets_properties : SetsProperties
sets_properties = record {
  there = λ key p o. lookup_put key p o.properties;
  others = λ key other p o h. lookup_put_other key other p o.properties h;
  distinct = λ key p o h. distinct_put key p o.properties h;
}

pub some_is : {A : Type 0} (x y : A) → Some x ≡ Some y → x ≡ y
some_is x y is = ap (λ found. unwrap_or found x) is

pub only_some : {B : Type 0} (b : Bool) (x y : B) → (if b then Some x else None) ≡ Some y → (b ≡ true) × (x ≡ y)
only_some true x y is = (refl, some_is x y is)
only_some false x y is = grind (arith, is)

gone_by : (key : Key) (o after : ObjectState) (found : Option Property) → are_distinct o.properties ≡ true → lookup key o.properties ≡ found → delete_by key o found ≡ Some after
    → own_property key after ≡ None
gone_by key o after None distinct is e = rw (sym (ap (λ found. unwrap_or found o) e)) is
gone_by key o after (Some p) distinct is e = rw (sym (only_some (is_configurable p) (record o { properties = without key o.properties }) after e).1) (gone key o.properties distinct)

deletes_gone : (key : Key) (o after : ObjectState) → are_distinct o.properties ≡ true → delete key o ≡ Some after → own_property key after ≡ None
unfolding delete
deletes_gone key o after distinct e = gone_by key o after (lookup key o.properties) distinct refl e

pub deletes_properties : DeletesProperties
deletes_properties = record {
  gone = deletes_gone;
  last = λ key p o after distinct e. put_last key p after.properties (deletes_gone key o after distinct e);
}
