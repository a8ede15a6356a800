-- The built-ins of objects, functions and errors (15.2, 15.3, 15.11), each by the numbered steps of its clause.
use Rattle.std.specs.Prelude.{◌++◌, ℕ, zero, suc, ◌+◌, ◌&&◌, unsigned_abs, Bool, true, false, not, List, [], ◌∷◌, drop, codes, Option, Some, None, is_some, unwrap_or}
use Rattle.std.specs.Fmt.{decimal}
use Rattle.std.specs.Option.{option_map}
use Rattle.js_value.specs.declared.place.Place.{Place}
use Rattle.js_value.specs.declared.primitive.Primitive.TheVariants as primitive
use Rattle.js_value.specs.declared.why.Why.TheVariants.{BuiltinArgument}
use Rattle.plain_heap.specs.Values.{Value, Prim, Object, ObjNo, undefined, text, truth, object_or_null, object_or_undefined}
use Rattle.plain_heap.specs.Heap.{Key, Property, Properties, Data, Accessor, Plain, Heap, ObjectState, is_configurable, is_enumerable, is_function, object_at, set_object, make_object}
use Rattle.plain_heap.specs.Methods.{Descriptor, no_fields, data_fields, length_key, is_accessor, is_data}
use Rattle.js_machine.specs.Machine.Expressions.{is_callable}
use Rattle.js_machine.specs.Machine.RealmObjects.{TypeError}
use Rattle.js_machine.specs.Machine.Objects.{Site, make_plain, make_array, throw_error, present, get, define, make_property, get_own_property, has_property, prototype_of, is_prototype_of, to_object, make_with}
use Rattle.js_machine.specs.Machine.Operators.{test, to_key, to_string, to_list_length}
use Rattle.js_machine.specs.Machine.Events.{◌>>=◌, Run, give, leave, change, look, turn, choose, in_turn, make}
use Rattle.js_machine.specs.Machine.Creating.{argument}

-- what a built-in does when it is called, with its `this` and its arguments
abbrev pub Rule : Type 0
Rule = Site → Value → List Value → Run Value

-- an argument that must be an object
abbrev pub object_argument : Value → Run ObjNo
object_argument (Object o) = give o
object_argument v = throw_error TypeError

abbrev pub properties_of : ObjNo → Heap → Properties
properties_of o h = unwrap_or (option_map (λ (state : ObjectState). state.properties) (object_at h o)) []

-- ---- 15.2.4: properties of Object.prototype

-- 15.2.4.5
unfoldable pub has_own_property : Rule
has_own_property site this arguments = do
  key ← to_key site.at (argument arguments 0)
  o ← to_object site.at this
  p ← get_own_property site o key
  give (truth (is_some p))

-- 15.2.4.6
abbrev pub is_prototype_of_value : Site → Value → Value → Run Value
is_prototype_of_value site this (Object v) = do
  o ← to_object site.at this
  is ← look (is_prototype_of o v)
  give (truth is)
is_prototype_of_value site this v = give (truth false)

unfoldable pub is_prototype : Rule
is_prototype site this arguments = is_prototype_of_value site this (argument arguments 0)

-- 15.2.4.7
unfoldable pub property_is_enumerable : Rule
property_is_enumerable site this arguments = do
  key ← to_key site.at (argument arguments 0)
  o ← to_object site.at this
  p ← get_own_property site o key
  give (truth (unwrap_or (option_map is_enumerable p) false))

-- ---- 15.2.3: properties of Object

-- 15.2.3.2
unfoldable pub get_prototype_of : Rule
get_prototype_of site this arguments = do
  o ← object_argument (argument arguments 0)
  prototype ← look (λ h. prototype_of h o)
  give (object_or_null prototype)

-- 8.10.4: FromPropertyDescriptor
abbrev pub fields_of : Property → List (Key × Value)
fields_of (Data p) =
    (codes "value", p.value) ∷ (codes "writable", truth p.writable) ∷ (codes "enumerable", truth p.enumerable) ∷ (codes "configurable", truth p.configurable) ∷ []
fields_of (Accessor p) =
    (codes "get", object_or_undefined p.get) ∷ (codes "set", object_or_undefined p.set) ∷ (codes "enumerable", truth p.enumerable) ∷ (codes "configurable", truth p.configurable) ∷ []

abbrev pub make_field : Site → ObjNo → Key × Value → Run (Unit {0})
make_field site o field = do
  v ← present site.at field.1
  make_property site o field.0 v

unfoldable pub from_descriptor : Site → Option Property → Run Value
from_descriptor site None = give undefined
from_descriptor site (Some p) = do
  o ← make_plain
  _ ← in_turn (make_field site o) (fields_of p)
  give (Object o)

-- 15.2.3.3
unfoldable pub get_own_property_descriptor : Rule
get_own_property_descriptor site this arguments = do
  o ← object_argument (argument arguments 0)
  key ← to_key site.at (argument arguments 1)
  p ← get_own_property site o key
  from_descriptor site p

-- 15.2.3.5; a second argument leaves the profile
abbrev pub prototype_argument : Value → Run (Option ObjNo)
prototype_argument (Object o) = give (Some o)
prototype_argument (Prim primitive.Null) = give None
prototype_argument v = throw_error TypeError

abbrev pub no_properties : Place → Value → Run (Unit {0})
no_properties at (Prim primitive.Undefined) = give tt
no_properties at v = leave BuiltinArgument at

unfoldable pub create : Rule
create site this arguments = do
  prototype ← prototype_argument (argument arguments 0)
  _ ← no_properties site.at (argument arguments 1)
  o ← make (make_object Plain prototype)
  give (Object o)

-- 8.10.5: ToPropertyDescriptor. A field that the object hasn't is absent.
abbrev pub field_got : Value → Run (Option Value)
field_got v = give (Some v)

abbrev pub field_there : Site → ObjNo → Key → Run (Option Value)
field_there site o key = do
  v ← get site o key
  field_got v

abbrev pub field : Site → ObjNo → Key → Run (Option Value)
field site o key = do
  there ← has_property site o key
  choose there (field_there site o key) (give None)

abbrev pub tested : Site → Option Value → Run (Option Bool)
tested site None = give None
tested site (Some v) = do
  b ← test site.at v
  give (Some b)

abbrev pub flag : Site → ObjNo → Key → Run (Option Bool)
flag site o key = do
  v ← field site o key
  tested site v

-- steps 7.b and 8.b
abbrev pub function_or_undefined : Option Value → Run (Option (Option ObjNo))
function_or_undefined None = give None
function_or_undefined (Some (Prim primitive.Undefined)) = give (Some None)
function_or_undefined (Some (Object f)) = do
  callable ← look (λ h. is_function h f)
  choose callable (give (Some (Some f))) (throw_error TypeError)
function_or_undefined (Some v) = throw_error TypeError

abbrev pub accessor_field : Site → ObjNo → Key → Run (Option (Option ObjNo))
accessor_field site o key = do
  v ← field site o key
  function_or_undefined v

-- step 9
abbrev pub checked : Descriptor → Run Descriptor
checked d = choose (is_accessor d && is_data d) (throw_error TypeError) (give d)

-- the fields so far, and the one that was taken last
abbrev pub set_taken : Descriptor → Option (Option ObjNo) → Run Descriptor
set_taken d set = checked (record d { set = set })

abbrev pub get_taken : Site → ObjNo → Descriptor → Option (Option ObjNo) → Run Descriptor
get_taken site o d get = do
  set ← accessor_field site o (codes "set")
  set_taken (record d { get = get }) set

abbrev pub writable_taken : Site → ObjNo → Descriptor → Option Bool → Run Descriptor
writable_taken site o d writable = do
  get ← accessor_field site o (codes "get")
  get_taken site o (record d { writable = writable }) get

abbrev pub value_taken : Site → ObjNo → Descriptor → Option Value → Run Descriptor
value_taken site o d value = do
  writable ← flag site o (codes "writable")
  writable_taken site o (record d { value = value }) writable

abbrev pub configurable_taken : Site → ObjNo → Descriptor → Option Bool → Run Descriptor
configurable_taken site o d configurable = do
  value ← field site o (codes "value")
  value_taken site o (record d { configurable = configurable }) value

abbrev pub enumerable_taken : Site → ObjNo → Option Bool → Run Descriptor
enumerable_taken site o enumerable = do
  configurable ← flag site o (codes "configurable")
  configurable_taken site o (record no_fields { enumerable = enumerable }) configurable

unfoldable pub to_descriptor : Site → Value → Run Descriptor
to_descriptor site attributes = do
  o ← object_argument attributes
  enumerable ← flag site o (codes "enumerable")
  enumerable_taken site o enumerable

-- 15.2.3.6
abbrev pub define_taken : Site → ObjNo → Key → Descriptor → Run Value
define_taken site o key d = do
  _ ← define site o key d true
  give (Object o)

unfoldable pub define_property : Rule
define_property site this arguments = do
  o ← object_argument (argument arguments 0)
  key ← to_key site.at (argument arguments 1)
  d ← to_descriptor site (argument arguments 2)
  define_taken site o key d

-- a property as a descriptor with all its fields
abbrev pub all_fields : Property → Descriptor
all_fields (Data p) = data_fields p.value p.writable p.enumerable p.configurable
all_fields (Accessor p) = record no_fields { get = Some p.get; set = Some p.set; enumerable = Some p.enumerable; configurable = Some p.configurable }

-- 15.2.3.8, step 2.b
abbrev pub sealed : Descriptor → Descriptor
sealed d = record d { configurable = Some false }

-- 15.2.3.9, steps 2.b and 2.c; only a data property has an attribute writable
abbrev pub frozen : Descriptor → Descriptor
frozen d = record d { writable = option_map (λ w. false) d.writable; configurable = Some false }

abbrev pub redefine : Site → ObjNo → (Descriptor → Descriptor) → Key → Option Property → Run (Unit {0})
redefine site o to key None = give tt
redefine site o to key (Some p) = define site o key (to (all_fields p)) true

-- one own property, which is a turn
abbrev pub restrict : Site → ObjNo → (Descriptor → Descriptor) → Key × Property → Run (Unit {0})
restrict site o to p = do
  _ ← turn site.at
  now ← get_own_property site o p.0
  redefine site o to p.0 now

abbrev pub fix : ObjNo → Heap → Heap
fix o h = unwrap_or (option_map (λ (state : ObjectState). set_object o (record state { extensible = false }) h) (object_at h o)) h

abbrev pub restrict_all : (Descriptor → Descriptor) → Rule
restrict_all to site this arguments = do
  o ← object_argument (argument arguments 0)
  ps ← look (properties_of o)
  _ ← in_turn (restrict site o to) ps
  _ ← change (fix o)
  give (Object o)

-- 15.2.3.8
unfoldable pub seal : Rule
seal = restrict_all sealed

-- 15.2.3.9
unfoldable pub freeze : Rule
freeze = restrict_all frozen

-- 15.2.3.10
unfoldable pub prevent_extensions : Rule
prevent_extensions site this arguments = do
  o ← object_argument (argument arguments 0)
  _ ← change (fix o)
  give (Object o)

-- 15.2.3.11, step 2
abbrev pub is_sealed_property : Property → Bool
is_sealed_property p = not (is_configurable p)

-- 15.2.3.12, step 2
abbrev pub is_frozen_property : Property → Bool
is_frozen_property (Data p) = not p.writable && not p.configurable
is_frozen_property (Accessor p) = not p.configurable

abbrev pub is_extensible_in : ObjNo → Heap → Bool
is_extensible_in o h = unwrap_or (option_map (λ (state : ObjectState). state.extensible) (object_at h o)) false

-- each own property is a turn, up to the first that fails
abbrev pub all_pass : Site → (Property → Bool) → Properties → Run Bool
all_pass site test [] = give true
all_pass site test (p ∷ ps) = do
  _ ← turn site.at
  choose (test p.1) (all_pass site test ps) (give false)

abbrev pub is_restricted : (Property → Bool) → Rule
is_restricted test site this arguments = do
  o ← object_argument (argument arguments 0)
  ps ← look (properties_of o)
  all ← all_pass site test ps
  extensible ← look (is_extensible_in o)
  give (truth (all && not extensible))

-- 15.2.3.11
unfoldable pub is_sealed : Rule
is_sealed = is_restricted is_sealed_property

-- 15.2.3.12
unfoldable pub is_frozen : Rule
is_frozen = is_restricted is_frozen_property

-- 15.2.3.13
unfoldable pub is_extensible : Rule
is_extensible site this arguments = do
  o ← object_argument (argument arguments 0)
  extensible ← look (is_extensible_in o)
  give (truth extensible)

-- 15.2.3.14, step 5: each own property is a turn, and the enumerable ones are numbered from 0
abbrev pub list_keys : Site → ObjNo → ℕ → Properties → Run (Unit {0})
list_keys site array n [] = give tt
list_keys site array n (p ∷ ps) = do
  _ ← turn site.at
  choose (is_enumerable p.1) (do
    _ ← make_property site array (decimal n) (text p.0)
    list_keys site array (n + 1) ps) (list_keys site array n ps)

unfoldable pub keys : Rule
keys site this arguments = do
  o ← object_argument (argument arguments 0)
  ps ← look (properties_of o)
  array ← make_array
  _ ← list_keys site array 0 ps
  give (Object array)

-- ---- 15.3.4: properties of Function.prototype

-- 15.3.4: Function.prototype itself
unfoldable pub nothing : Rule
nothing site this arguments = give undefined

-- 15.3.4.4
unfoldable pub call : Rule
call site this arguments = do
  callable ← look (is_callable this)
  choose callable (site.call this (argument arguments 0) (drop 1 arguments)) (throw_error TypeError)

-- 15.3.4.3, steps 6 to 8: the items from a position on, of which so many are left, behind those so far; each is a turn
abbrev pub items_from : Site → ObjNo → ℕ → ℕ → List Value → Run (List Value)
items_from site o zero n so_far = give so_far
items_from site o (suc left) n so_far = do
  _ ← turn site.at
  v ← get site o (decimal n)
  items_from site o left (n + 1) (so_far ++ (v ∷ []))

-- steps 4 and 5
abbrev pub items_got : Site → ObjNo → Value → Run (List Value)
items_got site o l = do
  n ← to_list_length site.at l
  items_from site o (unsigned_abs n) 0 []

-- steps 2 to 5
abbrev pub items : Site → Value → Run (List Value)
items site (Prim primitive.Undefined) = give []
items site (Prim primitive.Null) = give []
items site v = do
  o ← object_argument v
  l ← get site o length_key
  items_got site o l

-- step 9
abbrev pub apply_to : Site → Value → Value → List Value → Run Value
apply_to site f this items = site.call f this items

abbrev pub apply_callable : Site → Value → List Value → Run Value
apply_callable site f arguments = do
  vs ← items site (argument arguments 1)
  apply_to site f (argument arguments 0) vs

unfoldable pub apply : Rule
apply site this arguments = do
  callable ← look (is_callable this)
  choose callable (apply_callable site this arguments) (throw_error TypeError)

-- ---- 15.11: errors

-- 15.11.1.1 and 15.11.2.1; the message is writable and configurable
abbrev pub with_message : Site → ObjNo → Value → Run (Unit {0})
with_message site o (Prim primitive.Undefined) = give tt
with_message site o v = do
  t ← to_string site.at v
  define site o (codes "message") (data_fields t true false true) false

-- with the prototype that the constructor had from the start
unfoldable pub make_error : ObjNo → Rule
make_error prototype site this arguments = do
  o ← make_with Plain prototype
  _ ← with_message site o (argument arguments 0)
  give (Object o)
