-- What lowering the length of an array and adding an element come to, by what the changes of single properties come to.
use Rattle.std.proofs.Common.{◌≡◌, ◌∙◌, refl, sym, ap, ℕ, Bool, true, false, List, nat_eq}
use Rattle.std.specs.Prelude.{if◌then◌else◌, Option, Some, None, Result, Ok, Err, unwrap_or}
use Rattle.std.specs.List.{filter}
use Rattle.std.specs.Option.{option_map}
use Rattle.js_value.specs.Conversions.{is_same_text}
use Rattle.plain_heap.specs.Heap as heap
use Rattle.plain_heap.specs.Heap.{Key, ObjectState, DataProperty, Data, Accessor, Properties, lookup, put_at}
use Rattle.plain_heap.specs.Methods.{define_array, define_array_by, define_in_array, length_of, Descriptor, Defining, Defined, Rejected, Settled, Refused, cut_at, define_by, define_plain, is_below, length_key, no_fields, own_property, settled, shorten, stop_at, then_if, with_property}
use Rattle.plain_heap.specs.Values.{number}
use Rattle.plain_heap.proofs.Properties.{lookup_put, lookup_put_other}
use Rattle.heap_values.specs.Meaning.{property_of}
use Rattle.heap_values.specs.declared.property.Property.{Property}
use Rattle.own_properties.specs.Defining.{Changes, answer_of, changed_to, entries, settled_as, with_table}
use Rattle.own_properties.specs.Lengths.{IsLength}
use Rattle.own_properties.specs.declared.answer.Defined.TheVariants as answer
use Rattle.own_properties.specs.declared.plain.Unchanged.{Unchanged}
use Rattle.own_properties.specs.declared.plain.Unchanged.TheVariants as unchanged
use Rattle.own_properties.proofs.Entries.{looked_up}
use Rattle.own_properties.proofs.Shortening.{after_settled, then_settled, stop_stays, put_below, put_twice}

pub plain_says : (key : Key) (d : Descriptor) (o : ObjectState) (found : Option heap.Property) (to : Result Property Unchanged) → own_property key o ≡ found → Changes found o.extensible d to
    → settled (define_plain key d o) ≡ changed_to key to o
unfolding define_plain
plain_says key d o found to is changes = ap (λ p. settled (define_by key d o p)) is ∙ changes.says key o refl

-- a change, and what comes behind it
pub then_says : (key : Key) (d : Descriptor) (o : ObjectState) (found : Option heap.Property) (to : Result Property Unchanged) (done rejected : ObjectState → Defining) → own_property key o ≡ found
    → Changes found o.extensible d to → settled (then_if (define_plain key d o) done rejected) ≡ after_settled (changed_to key to o) done rejected
then_says key d o found to done rejected is changes =
    then_settled (define_plain key d o) done rejected ∙ ap (λ s. after_settled s done rejected) (plain_says key d o found to is changes)

pub stays_so : (u : Unchanged) (o : ObjectState) (done : ObjectState → Defining) → after_settled (settled_as (answer_of u) o) done (λ o. Rejected o) ≡ settled_as (answer_of u) o
stays_so unchanged.Rejected o done = refl
stays_so unchanged.OfAbsent o done = refl

pub length_found : (length : Key) (o : ObjectState) (extensible : Bool) (table : List (Key × Property)) (found : Option Property) → length ≡ length_key → found ≡ lookup length table
    → own_property length_key (with_table o extensible table) ≡ option_map property_of found
length_found length o extensible table found named is = ap (λ key. lookup key (entries table)) (sym named) ∙ looked_up length table ∙ ap (option_map property_of) (sym is)

abbrev pub last_fields : Descriptor → ℕ → Descriptor
last_fields d stop = record no_fields { value = Some (number stop); writable = Some (unwrap_or d.writable true) }

abbrev last_done : ℕ → ℕ → ObjectState → Defining
last_done stop wanted o = if nat_eq stop wanted then Defined o else Rejected o

module _ (o : ObjectState) (extensible : Bool) (old new : List (Key × Property)) (d : Descriptor) (wanted stop : ℕ) (first : Property) (stop_is : stop ≡ stop_at wanted (entries old)) where
  abbrev before : ObjectState
  before = with_property length_key (property_of first) (with_table o extensible old)

  abbrev shortened : ℕ → Settled
  shortened n = settled (then_if (define_plain length_key (last_fields d n) (cut_at n before)) (last_done n wanted) (λ o. Rejected o))

  there : own_property length_key (cut_at stop before) ≡ Some (property_of first)
  there = ap (lookup length_key) (put_below stop (property_of first) (entries old)) ∙ lookup_put length_key (property_of first) (filter (is_below stop) (entries old))

  by_last : (to : Result Property Unchanged) → Changes (Some (property_of first)) extensible (last_fields d stop) to
      → settled (shorten wanted d before) ≡ after_settled (changed_to length_key to (cut_at stop before)) (last_done stop wanted) (λ o. Rejected o)
  by_last to changes =
      ap shortened (stop_stays wanted (property_of first) (entries old) ∙ sym stop_is)
      ∙ then_says length_key (last_fields d stop) (cut_at stop before) (Some (property_of first)) to (last_done stop wanted) (λ o. Rejected o) there changes

  by_wanted : (b : Bool) (x : ObjectState) → settled (if b then Defined x else Rejected x) ≡ settled_as (if b then answer.Done else answer.Rejected) x
  by_wanted true x = refl
  by_wanted false x = refl

  pub shortened_done : (p : Property) → Changes (Some (property_of first)) extensible (last_fields d stop) (Ok p)
      → entries new ≡ put_at length_key (property_of p) (filter (is_below stop) (entries old))
      → settled (shorten wanted d before) ≡ settled_as (if nat_eq stop wanted then answer.Done else answer.Rejected) (with_table o extensible new)
  shortened_done p changes is =
      by_last (Ok p) changes ∙ by_wanted (nat_eq stop wanted) (with_property length_key (property_of p) (cut_at stop before))
      ∙ ap (λ (ps : Properties). settled_as (if nat_eq stop wanted then answer.Done else answer.Rejected) (record (with_table o extensible new) { properties = ps }))
      (ap (put_at length_key (property_of p)) (put_below stop (property_of first) (entries old)) ∙ put_twice length_key (property_of first) (property_of p) (filter (is_below stop) (entries old)) ∙ sym is)

  pub shortened_rejected : Changes (Some (property_of first)) extensible (last_fields d stop) (Err unchanged.Rejected)
      → entries new ≡ put_at length_key (property_of first) (filter (is_below stop) (entries old))
      → settled (shorten wanted d before) ≡ settled_as answer.Rejected (with_table o extensible new)
  shortened_rejected changes is =
      by_last (Err unchanged.Rejected) changes
      ∙ ap (λ (ps : Properties). Refused (record (with_table o extensible new) { properties = ps })) (put_below stop (property_of first) (entries old) ∙ sym is)

  pub shortened_unknown : Changes (Some (property_of first)) extensible (last_fields d stop) (Err unchanged.OfAbsent)
      → settled (shorten wanted d before) ≡ settled_as answer.OfAbsent (with_table o extensible new)
  shortened_unknown changes = by_last (Err unchanged.OfAbsent) changes

-- ---- an element behind the others

pub key_found : (key : Key) (o : ObjectState) (extensible : Bool) (table : List (Key × Property)) (found : Option Property) → found ≡ lookup key table
    → own_property key (with_table o extensible table) ≡ option_map property_of found
key_found key o extensible table found is = looked_up key table ∙ ap (option_map property_of) (sym is)

pub raised : (o : ObjectState) (extensible : Bool) (old : List (Key × Property)) (key : Key) (d : Descriptor) (next : Descriptor) (element : Property) (found last : Option Property) (to : Result Property Unchanged)
    → own_property key (with_table o extensible old) ≡ option_map property_of found → own_property length_key (with_table o extensible old) ≡ option_map property_of last → is_same_text key length_key ≡ false
    → Changes (option_map property_of found) extensible d (Ok element) → Changes (option_map property_of last) extensible next to
    → settled (then_if (define_plain key d (with_table o extensible old)) (λ o. define_plain length_key next o) (λ o. Rejected o))
    ≡ changed_to length_key to (with_property key (property_of element) (with_table o extensible old))
raised o extensible old key d next element found last to is there apart first second =
    then_says key d (with_table o extensible old) (option_map property_of found) (Ok element) (λ o. define_plain length_key next o) (λ o. Rejected o) is first
    ∙ plain_says length_key next (with_property key (property_of element) (with_table o extensible old)) (option_map property_of last) to
    (lookup_put_other key length_key (property_of element) (entries old) apart ∙ there) second

-- ---- arrays by their lengths

pub array_has : (key : Key) (d : Descriptor) (o : ObjectState) (p : DataProperty) (n : ℕ) → IsLength (own_property length_key o) p n → define_array key d o ≡ define_in_array key d o p n
unfolding define_array
array_has key d o p n is = ap (define_array_by key d o) is.there ∙ ap (λ length. unwrap_or (option_map (define_in_array key d o p) length) (define_plain key d o)) is.number

without_length : (key : Key) (d : Descriptor) (o : ObjectState) (found : Option heap.Property) → ((p : DataProperty) (n : ℕ) → IsLength found p n → ⊥) → define_array_by key d o found ≡ define_plain key d o
without_length key d o None none = refl
without_length key d o (Some (Accessor p)) none = refl
without_length key d o (Some (Data p)) none = by (length_of p.value) refl
  where
    by : (length : Option ℕ) → length_of p.value ≡ length → unwrap_or (option_map (define_in_array key d o p) length) (define_plain key d o) ≡ define_plain key d o
    by None is = refl
    by (Some n) is = absurd (none p n (record { there = refl; number = is }))

pub array_has_none : (key : Key) (d : Descriptor) (o : ObjectState) → ((p : DataProperty) (n : ℕ) → IsLength (own_property length_key o) p n → ⊥) → define_array key d o ≡ define_plain key d o
unfolding define_array
array_has_none key d o none = without_length key d o (own_property length_key o) none
