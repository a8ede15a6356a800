-- The internal methods of objects by their numbered steps (8.12), and those of arrays (15.4.5). What calls a function is left
-- to the caller, who is told of the getter or the setter.
use Rattle.std.specs.Prelude.{ℕ, zero, suc, ◌+◌, ◌^◌, ◌-◌, ◌&&◌, ◌||◌, max, nat_eq, nat_le, nat_lt, pos, Bool, true, false, not, if◌then◌else◌, codes, fold, length, Option, Some, None, Result, Ok, Err, is_some, unwrap_or}
use Rattle.std.specs.Fmt.{decimal}
use Rattle.std.specs.List.{filter}
use Rattle.std.specs.Option.{option_and_then, option_eq, option_map}
use Rattle.js_value.specs.Conversions.{are_digits, digits_value, is_same_text, is_same_truth, is_same_value}
use Rattle.js_value.specs.declared.primitive.Primitive.TheVariants as primitive
use Rattle.js_value.specs.declared.why.Why.{Why}
use Rattle.js_value.specs.declared.why.Why.TheVariants.{ProtoKey}
use Rattle.plain_heap.specs.Values.{Value, ObjNo, Prim, Object, undefined, number}
use Rattle.plain_heap.specs.Heap.{Key, Property, Properties, Data, Accessor, DataProperty, AccessorProperty, ObjectState, Heap, is_configurable, is_enumerable, is_array_class, lookup, put_at, without, data_property, object_at, or_else, depth_at}

-- A property operation on this key leaves the profile.
abbrev pub checked_key : Key → Result Key Why
checked_key key = if is_same_text key (codes "__proto__") then Err ProtoKey else Ok key

-- ---- 8.10: property descriptors

-- what is asked of a property; a field may be absent
pub record Descriptor : Type 0 where
  pub value : Option Value
  pub writable : Option Bool
  pub get : Option (Option ObjNo)
  pub set : Option (Option ObjNo)
  pub enumerable : Option Bool
  pub configurable : Option Bool

abbrev pub no_fields : Descriptor
no_fields = record { value = None; writable = None; get = None; set = None; enumerable = None; configurable = None }

-- 8.10.1: IsAccessorDescriptor
abbrev pub is_accessor : Descriptor → Bool
is_accessor d = is_some d.get || is_some d.set

-- 8.10.2: IsDataDescriptor
abbrev pub is_data : Descriptor → Bool
is_data d = is_some d.value || is_some d.writable

-- 8.10.3: IsGenericDescriptor
abbrev pub is_generic : Descriptor → Bool
is_generic d = not (is_accessor d) && not (is_data d)

abbrev pub value_field : Value → Descriptor
value_field v = record no_fields { value = Some v }

-- a data property with these attributes
abbrev pub data_fields : Value → Bool → Bool → Bool → Descriptor
data_fields v w e c = record no_fields { value = Some v; writable = Some w; enumerable = Some e; configurable = Some c }

-- ---- 8.12.1: [[GetOwnProperty]]

abbrev pub own_property : Key → ObjectState → Option Property
own_property key o = lookup key o.properties

-- ---- 8.12.2: [[GetProperty]]

-- Along a chain of prototypes, of which there are at most so many: the property and the object that has it.
abbrev pub property_along : ℕ → Heap → Key → Option ObjNo → Option (ObjNo × Property)
property_along zero h key o = None
property_along (suc n) h key None = None
property_along (suc n) h key (Some o) =
    option_and_then (λ (state : ObjectState). or_else (option_map (λ (p : Property). (o, p)) (own_property key state)) (property_along n h key state.prototype)) (object_at h o)

unfoldable pub get_property : Heap → Key → Option ObjNo → Option (ObjNo × Property)
get_property h key o = property_along (depth_at h o) h key o

-- ---- 8.12.3: [[Get]]

pub data Got : Type 0 where
  GotValue : Value → Got
  -- the getter is to be called on the object that was asked
  CallGetter : ObjNo → Got

abbrev pub getter : Option ObjNo → Got
getter None = GotValue undefined
getter (Some f) = CallGetter f

abbrev pub got : Option (ObjNo × Property) → Got
-- step 2
got None = GotValue undefined
-- step 3
got (Some (holder, Data p)) = GotValue p.value
-- steps 4 to 6
got (Some (holder, Accessor p)) = getter p.get

unfoldable pub get : Heap → ObjNo → Key → Got
get h o key = got (get_property h key (Some o))

-- ---- 8.12.4: [[CanPut]]

-- steps 5 to 8, by the inherited property
abbrev pub can_put_inherited : Bool → Option (ObjNo × Property) → Bool
can_put_inherited extensible None = extensible
can_put_inherited extensible (Some (holder, Accessor p)) = is_some p.set
can_put_inherited extensible (Some (holder, Data p)) = extensible && p.writable

-- step 2 by an own property, else steps 3 to 8
abbrev pub can_put_by : Heap → Key → ObjectState → Option Property → Bool
can_put_by h key o (Some (Accessor p)) = is_some p.set
can_put_by h key o (Some (Data p)) = p.writable
can_put_by h key o None = can_put_inherited o.extensible (get_property h key o.prototype)

abbrev pub can_put_in : Heap → Key → Option ObjectState → Bool
can_put_in h key None = false
can_put_in h key (Some o) = can_put_by h key o (own_property key o)

unfoldable pub can_put : Heap → ObjNo → Key → Bool
can_put h o key = can_put_in h key (object_at h o)

-- ---- 8.12.5: [[Put]], where [[CanPut]] says that it may be

pub data Putting : Type 0 where
  -- step 1
  Refuse : Putting
  -- steps 3 and 6: [[DefineOwnProperty]] with this descriptor
  Define : Descriptor → Putting
  -- step 5: the setter is to be called on the object
  CallSetter : ObjNo → Putting

abbrev pub setter : Option ObjNo → Putting
setter None = Refuse
setter (Some f) = CallSetter f

-- steps 4 to 6, by the property found along the chain
abbrev pub put_found : Value → Option (ObjNo × Property) → Putting
put_found v (Some (holder, Accessor p)) = setter p.set
put_found v _ = Define (data_fields v true true true)

-- steps 2 to 6, by the own property
abbrev pub put_by : Heap → ObjNo → Key → Value → Option Property → Putting
put_by h o key v (Some (Data p)) = Define (value_field v)
put_by h o key v _ = put_found v (get_property h key (Some o))

unfoldable pub put : Heap → ObjNo → Key → Value → Putting
put h o key v = if can_put h o key then put_by h o key v (option_and_then (own_property key) (object_at h o)) else Refuse

-- ---- 8.12.6: [[HasProperty]]

unfoldable pub has_property : Heap → ObjNo → Key → Bool
has_property h o key = is_some (get_property h key (Some o))

-- ---- 8.12.7: [[Delete]]

abbrev pub delete_by : Key → ObjectState → Option Property → Option ObjectState
-- step 2
delete_by key o None = Some o
-- steps 3 to 5
delete_by key o (Some p) = if is_configurable p then Some (record o { properties = without key o.properties }) else None

-- the object without the property; none where the property can't be deleted
unfoldable pub delete : Key → ObjectState → Option ObjectState
delete key o = delete_by key o (own_property key o)

-- ---- 8.12.9: [[DefineOwnProperty]]

-- What it comes to: the object afterwards, whether the change was made or rejected; or a question first, whether two values are
-- the same (9.12). A rejected change leaves the object as it was, but for one rule of arrays.
pub data Defining : Type 0 where
  Defined : ObjectState → Defining
  Rejected : ObjectState → Defining
  -- 15.4.5.1, step 3.d: a length that isn't one, which is a RangeError
  BadLength : Defining
  IfSame : Value → Value → (Bool → Defining) → Defining

-- step 4: a new property; an absent field is undefined or false
abbrev pub made : Descriptor → Property
made d =
    if is_accessor d then Accessor (record { get = unwrap_or d.get None; set = unwrap_or d.set None; enumerable = unwrap_or d.enumerable false; configurable = unwrap_or d.configurable false })
    else data_property (unwrap_or d.value undefined) (unwrap_or d.writable false) (unwrap_or d.enumerable false) (unwrap_or d.configurable false)

-- step 7: what a property that isn't configurable never allows
abbrev pub is_barred : Property → Descriptor → Bool
is_barred p d = not (is_configurable p) && (unwrap_or d.configurable false || not (is_same_truth (unwrap_or d.enumerable (is_enumerable p)) (is_enumerable p)))

-- steps 9.b, 9.c and 12: a field that is there is taken over; where the property changes its sort, the others of the new sort are
-- undefined or false
abbrev pub changed : Property → Descriptor → Property
changed (Data p) d =
    if is_accessor d then Accessor (record { get = unwrap_or d.get None; set = unwrap_or d.set None; enumerable = unwrap_or d.enumerable p.enumerable; configurable = unwrap_or d.configurable p.configurable })
    else data_property (unwrap_or d.value p.value) (unwrap_or d.writable p.writable) (unwrap_or d.enumerable p.enumerable) (unwrap_or d.configurable p.configurable)
changed (Accessor p) d =
    if is_data d then data_property (unwrap_or d.value undefined) (unwrap_or d.writable false) (unwrap_or d.enumerable p.enumerable) (unwrap_or d.configurable p.configurable)
    else Accessor (record { get = unwrap_or d.get p.get; set = unwrap_or d.set p.set; enumerable = unwrap_or d.enumerable p.enumerable; configurable = unwrap_or d.configurable p.configurable })

abbrev pub is_same_function : Option ObjNo → Option ObjNo → Bool
is_same_function = option_eq nat_eq

-- step 10.a.ii: a value that is there must be the one that the property has
abbrev pub if_same_value : Option Value → Value → Defining → Defining → Defining
if_same_value None old done rejected = done
if_same_value (Some v) old done rejected = IfSame v old (λ same. if same then done else rejected)

-- step 10.a
abbrev pub if_data_allowed : DataProperty → Descriptor → Defining → Defining → Defining
if_data_allowed p d done rejected =
    if p.configurable || p.writable then done
    else (if unwrap_or d.writable false then rejected else if_same_value d.value p.value done rejected)

-- step 11.a
abbrev pub if_accessor_allowed : AccessorProperty → Descriptor → Defining → Defining → Defining
if_accessor_allowed p d done rejected =
    if p.configurable || is_same_function (unwrap_or d.set p.set) p.set && is_same_function (unwrap_or d.get p.get) p.get then done else rejected

-- steps 8 to 11, where 9.a asks that a property that changes its sort is configurable
abbrev pub if_allowed : Property → Descriptor → Defining → Defining → Defining
if_allowed (Data p) d done rejected =
    if is_generic d then done
    else (if is_accessor d then (if p.configurable then done else rejected) else if_data_allowed p d done rejected)
if_allowed (Accessor p) d done rejected =
    if is_generic d then done
    else (if is_data d then (if p.configurable then done else rejected) else if_accessor_allowed p d done rejected)

abbrev pub with_property : Key → Property → ObjectState → ObjectState
with_property key p o = record o { properties = put_at key p o.properties }

abbrev pub define_by : Key → Descriptor → ObjectState → Option Property → Defining
-- steps 3 and 4
define_by key d o None = if o.extensible then Defined (with_property key (made d) o) else Rejected o
-- steps 7 to 13
define_by key d o (Some p) = if is_barred p d then Rejected o else if_allowed p d (Defined (with_property key (changed p d) o)) (Rejected o)

-- the method of objects that are no arrays
unfoldable pub define_plain : Key → Descriptor → ObjectState → Defining
define_plain key d o = define_by key d o (own_property key o)

-- ---- 15.4: array indices

-- 2^32 - 1, the greatest length
abbrev pub greatest_length : ℕ
greatest_length = 2 ^ 32 - 1

-- the number that a key spells in the one way in which ToString writes it, if it is below the greatest length
unfoldable pub array_index : Key → Option ℕ
array_index key =
    let n = digits_value key in
    if are_digits key && nat_lt n greatest_length && is_same_text (decimal n) key then Some n else None

-- ---- 15.4.5.1: [[DefineOwnProperty]] of arrays

abbrev pub length_key : Key
length_key = codes "length"

-- the number from 0 to 2^32 - 1 that a value is
abbrev pub length_of : Value → Option ℕ
length_of (Prim (primitive.Number (pos n))) = if nat_le n greatest_length then Some n else None
length_of _ = None

-- 8.12.9 where it stands inside another method, which goes on with the object afterwards
abbrev pub then_if : Defining → (ObjectState → Defining) → (ObjectState → Defining) → Defining
then_if (Defined o) done rejected = done o
then_if (Rejected o) done rejected = rejected o
then_if BadLength done rejected = BadLength
then_if (IfSame v w rest) done rejected = IfSame v w (λ same. then_if (rest same) done rejected)

-- step 4: an element; at or behind the length it raises it
abbrev pub define_element : Key → Descriptor → ObjectState → DataProperty → ℕ → ℕ → Defining
define_element key d o length old index =
    if nat_lt index old then define_plain key d o
    else (if not length.writable then Rejected o
    else then_if (define_plain key d o) (λ o. define_plain length_key (value_field (number (index + 1))) o) (λ o. Rejected o))

-- one above the index of an element that can't be deleted, else 0
abbrev pub above_fixed : Key × Property → ℕ
above_fixed p = if is_configurable p.1 then 0 else unwrap_or (option_map (λ n. n + 1) (array_index p.0)) 0

-- step 3.l: the length at which deleting elements from the top down ends, which is the one wanted unless an element behind it can't
-- be deleted
abbrev pub stop_at : ℕ → Properties → ℕ
stop_at wanted ps = fold (λ n p. max n (above_fixed p)) wanted ps

abbrev pub is_below : ℕ → Key × Property → Bool
is_below n p = unwrap_or (option_map (λ index. nat_lt index n) (array_index p.0)) true

abbrev pub cut_at : ℕ → ObjectState → ObjectState
cut_at n o = record o { properties = filter (is_below n) o.properties }

-- steps 3.l to 3.n, once the length is the one wanted: elements are deleted, the length is where that ended, and it is made not
-- writable where that was asked for
abbrev pub shorten : ℕ → Descriptor → ObjectState → Defining
shorten wanted d o =
    let stop = stop_at wanted o.properties in
    then_if (define_plain length_key (record no_fields { value = Some (number stop); writable = Some (unwrap_or d.writable true) }) (cut_at stop o)) (λ o. if nat_eq stop wanted then Defined o else Rejected o) (λ o. Rejected o)

-- steps 3.f to 3.n; until elements are deleted the length stays writable (3.i)
abbrev pub set_length_to : Descriptor → ObjectState → DataProperty → ℕ → ℕ → Defining
set_length_to d o length old wanted =
    if nat_le old wanted then define_plain length_key d o
    else (if not length.writable then Rejected o
    else then_if (define_plain length_key (record d { writable = Some true }) o) (shorten wanted d) (λ o. Rejected o))

-- steps 3.c and 3.d
abbrev pub set_length_by : Descriptor → ObjectState → DataProperty → ℕ → Option ℕ → Defining
set_length_by d o length old None = BadLength
set_length_by d o length old (Some wanted) = set_length_to d o length old wanted

-- step 3
abbrev pub set_length : Descriptor → ObjectState → DataProperty → ℕ → Option Value → Defining
set_length d o length old None = define_plain length_key d o
set_length d o length old (Some v) = set_length_by d o length old (length_of v)

-- steps 3 to 5
abbrev pub define_in_array : Key → Descriptor → ObjectState → DataProperty → ℕ → Defining
define_in_array key d o length old =
    if is_same_text key length_key then set_length d o length old d.value else unwrap_or (option_map (define_element key d o length old) (array_index key)) (define_plain key d o)

-- step 1: an array has a length, a data property whose value is a number from 0 to 2^32 - 1
abbrev pub define_array_by : Key → Descriptor → ObjectState → Option Property → Defining
define_array_by key d o (Some (Data length)) = unwrap_or (option_map (define_in_array key d o length) (length_of length.value)) (define_plain key d o)
define_array_by key d o _ = define_plain key d o

unfoldable pub define_array : Key → Descriptor → ObjectState → Defining
define_array key d o = define_array_by key d o (own_property length_key o)

-- [[DefineOwnProperty]] of any object
unfoldable pub define : Key → Descriptor → ObjectState → Defining
define key d o = if is_array_class o.class then define_array key d o else define_plain key d o

-- ---- what a change comes to where no symbol stands: then no question is left open

pub data Settled : Type 0 where
  Changed : ObjectState → Settled
  Refused : ObjectState → Settled
  NotALength : Settled
  -- the value of a built-in that is left out would have to be compared
  OfAbsent : Settled

-- 9.12 on known values, of which none is left out
abbrev pub is_same_known : Value → Value → Option Bool
is_same_known (Prim p) (Prim q) = Some (is_same_value p q)
is_same_known (Object m) (Object n) = Some (nat_eq m n)
is_same_known (Prim p) (Object n) = Some false
is_same_known (Object m) (Prim q) = Some false
is_same_known _ _ = None

abbrev pub settled_if : Option Bool → (Bool → Settled) → Settled
settled_if None rest = OfAbsent
settled_if (Some same) rest = rest same

abbrev pub settled : Defining → Settled
settled (Defined o) = Changed o
settled (Rejected o) = Refused o
settled BadLength = NotALength
settled (IfSame v w rest) = settled_if (is_same_known v w) (λ same. settled (rest same))
