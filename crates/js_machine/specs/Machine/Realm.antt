-- The objects that are there from the start (15), in the order of their numbers.
use Rattle.std.specs.Prelude.{ℕ, ◌+◌, ◌-◌, nat_eq, nat_lt, true, false, if◌then◌else◌, List, [], ◌∷◌, ◌++◌, length, map, slice_get, codes, Option, Some, None, unwrap_or}
use Rattle.std.specs.List.{enumerate_from, filter}
use Rattle.std.specs.Option.{option_and_then, option_map}
use Rattle.js_value.specs.declared.why.Why.TheVariants.{ClosedBuiltin}
use Rattle.plain_heap.specs.Values.{Value, Object, Absent, ObjNo, undefined, number, text}
use Rattle.plain_heap.specs.Heap.{Key, Property, Properties, ObjectState, Class, Plain, Array, Builtin, Heap, data_property}
use Rattle.plain_heap.specs.Methods.{length_key}
use Rattle.js_machine.specs.Machine.ObjectBuiltins as object
use Rattle.js_machine.specs.Machine.ObjectBuiltins.{Rule}
use Rattle.js_machine.specs.Machine.ArrayBuiltins as array
use Rattle.js_machine.specs.Machine.RealmObjects.{object_prototype, function_prototype, object_constructor, function_constructor, array_constructor, error_base, error_constructor, native_error_constructor, error_prototype, ErrorKind, TypeError, RangeError, ReferenceError, array_prototype}
use Rattle.js_machine.specs.Machine.Events.{leave}

-- ---- functions that belong to other objects of the realm

pub record Owned : Type 0 where
  pub owner : ObjNo
  pub key : Key
  -- its `length`
  pub parameters : ℕ
  pub rule : Rule

abbrev pub owned : ObjNo → List ℕ → ℕ → Rule → Owned
owned owner key parameters rule = record { owner = owner; key = key; parameters = parameters; rule = rule }

-- in the order of their numbers, which come after those of the owners
abbrev pub functions : List Owned
functions =
    owned object_prototype (codes "hasOwnProperty") 1 object.has_own_property
    ∷ owned object_prototype (codes "isPrototypeOf") 1 object.is_prototype
    ∷ owned object_prototype (codes "propertyIsEnumerable") 1 object.property_is_enumerable
    ∷ owned object_constructor (codes "create") 2 object.create
    ∷ owned object_constructor (codes "getPrototypeOf") 1 object.get_prototype_of
    ∷ owned object_constructor (codes "getOwnPropertyDescriptor") 2 object.get_own_property_descriptor
    ∷ owned object_constructor (codes "defineProperty") 3 object.define_property
    ∷ owned object_constructor (codes "keys") 1 object.keys
    ∷ owned object_constructor (codes "preventExtensions") 1 object.prevent_extensions
    ∷ owned object_constructor (codes "isExtensible") 1 object.is_extensible
    ∷ owned object_constructor (codes "seal") 1 object.seal
    ∷ owned object_constructor (codes "isSealed") 1 object.is_sealed
    ∷ owned object_constructor (codes "freeze") 1 object.freeze
    ∷ owned object_constructor (codes "isFrozen") 1 object.is_frozen
    ∷ owned function_prototype (codes "call") 1 object.call
    ∷ owned function_prototype (codes "apply") 2 object.apply
    ∷ owned array_prototype (codes "concat") 1 array.concat
    ∷ owned array_prototype (codes "join") 1 array.join
    ∷ owned array_prototype (codes "pop") 0 array.pop
    ∷ owned array_prototype (codes "push") 1 array.push
    ∷ owned array_prototype (codes "slice") 2 array.slice
    ∷ owned array_prototype (codes "indexOf") 1 array.index_of
    ∷ owned array_prototype (codes "forEach") 1 array.for_each
    ∷ owned array_prototype (codes "map") 1 array.map_rule
    ∷ owned array_prototype (codes "filter") 1 array.filter_rule
    ∷ owned array_constructor (codes "isArray") 1 array.is_array_rule
    ∷ []

-- ---- properties

-- writable and configurable, as almost all are
abbrev pub usual : Key → Value → Key × Property
usual key v = (key, data_property v true false true)

-- with no attribute
abbrev pub fixed : Key → Value → Key × Property
fixed key v = (key, data_property v false false false)

-- a built-in that is left out exists and has no value
abbrev pub absent : List Key → Properties
absent keys = map (λ key. usual key Absent) keys

-- ---- owners

abbrev pub count_of_owners : ℕ
count_of_owners = 15

abbrev pub owned_properties : ObjNo → Properties
owned_properties owner =
    map (λ (f : ℕ × Owned). usual f.1.key (Object f.0)) (filter (λ (f : ℕ × Owned). nat_eq f.1.owner owner) (enumerate_from count_of_owners functions))

pub record Owner : Type 0 where
  pub name : List ℕ
  pub class : Class
  pub prototype : Option ObjNo
  -- its own properties, but for the functions that it owns and for those that are left out
  pub first : Properties
  pub left_out : Properties

abbrev pub owner : List ℕ → Class → Option ObjNo → Properties → Properties → Owner
owner name class prototype first left_out = record { name = name; class = class; prototype = prototype; first = first; left_out = left_out }

-- a constructor: its number, and that of its prototype property
abbrev pub constructor : List ℕ → ObjNo → ObjNo → Properties → Owner
constructor name n prototype left_out =
    owner name (Builtin n) (Some function_prototype) (fixed length_key (number 1) ∷ fixed (codes "prototype") (Object prototype) ∷ []) left_out

-- 15.11.4 and 15.11.7.7
abbrev pub error_prototype_of : ErrorKind → List ℕ → List ℕ → Owner
error_prototype_of error name kind =
    owner name Plain (Some error_base) (usual (codes "constructor") (Object (native_error_constructor error)) ∷ usual (codes "name") (text kind) ∷ usual (codes "message") (text []) ∷ []) []

abbrev pub owners : List Owner
owners =
    owner (codes "global") Plain (Some object_prototype)
    (fixed (codes "undefined") undefined
    ∷ usual (codes "Object") (Object object_constructor)
    ∷ usual (codes "Function") (Object function_constructor)
    ∷ usual (codes "Array") (Object array_constructor)
    ∷ usual (codes "Error") (Object error_constructor)
    ∷ usual (codes "TypeError") (Object (native_error_constructor TypeError))
    ∷ usual (codes "RangeError") (Object (native_error_constructor RangeError))
    ∷ usual (codes "ReferenceError") (Object (native_error_constructor ReferenceError))
    ∷ [])
    (fixed (codes "NaN") Absent
    ∷ fixed (codes "Infinity") Absent
    ∷ absent (codes "eval" ∷ codes "parseInt" ∷ codes "parseFloat" ∷ codes "isNaN" ∷ codes "isFinite" ∷ codes "decodeURI" ∷ codes "decodeURIComponent" ∷ codes "encodeURI" ∷ codes "encodeURIComponent" ∷ codes "String" ∷ codes "Boolean" ∷ codes "Number" ∷ codes "Date" ∷ codes "RegExp" ∷ codes "EvalError" ∷ codes "SyntaxError" ∷ codes "URIError" ∷ codes "Math" ∷ codes "JSON" ∷ codes "__abstract" ∷ codes "__residual" ∷ []))
    ∷ owner (codes "Object.prototype") Plain None (usual (codes "constructor") (Object object_constructor) ∷ []) (absent (codes "toString" ∷ codes "toLocaleString" ∷ codes "valueOf" ∷ []))
    ∷ constructor (codes "Object") object_constructor object_prototype (absent (codes "getOwnPropertyNames" ∷ codes "defineProperties" ∷ []))
    ∷ owner (codes "Function.prototype") (Builtin function_prototype) (Some object_prototype) (fixed length_key (number 0) ∷ usual (codes "constructor") (Object function_constructor) ∷ []) (absent (codes "toString" ∷ codes "bind" ∷ []))
    ∷ constructor (codes "Function") function_constructor function_prototype []
    ∷ owner (codes "Array.prototype") Array (Some object_prototype)
    ((length_key, data_property (number 0) true false false) ∷ usual (codes "constructor") (Object array_constructor) ∷ [])
    (absent (codes "toString" ∷ codes "toLocaleString" ∷ codes "reverse" ∷ codes "shift" ∷ codes "sort" ∷ codes "splice" ∷ codes "unshift" ∷ codes "lastIndexOf" ∷ codes "every" ∷ codes "some" ∷ codes "reduce" ∷ codes "reduceRight" ∷ []))
    ∷ constructor (codes "Array") array_constructor array_prototype []
    ∷ owner (codes "Error.prototype") Plain (Some object_prototype) (usual (codes "constructor") (Object error_constructor) ∷ usual (codes "name") (text (codes "Error")) ∷ usual (codes "message") (text []) ∷ []) (absent (codes "toString" ∷ []))
    ∷ constructor (codes "Error") error_constructor error_base []
    ∷ error_prototype_of TypeError (codes "TypeError.prototype") (codes "TypeError")
    ∷ constructor (codes "TypeError") (native_error_constructor TypeError) (error_prototype TypeError) []
    ∷ error_prototype_of RangeError (codes "RangeError.prototype") (codes "RangeError")
    ∷ constructor (codes "RangeError") (native_error_constructor RangeError) (error_prototype RangeError) []
    ∷ error_prototype_of ReferenceError (codes "ReferenceError.prototype") (codes "ReferenceError")
    ∷ constructor (codes "ReferenceError") (native_error_constructor ReferenceError) (error_prototype ReferenceError) []
    ∷ []

-- ---- the heap at the start

-- how many prototypes each owner has, in the order of their numbers
abbrev pub owner_depth : ℕ → ℕ
owner_depth n = unwrap_or (slice_get (1 ∷ 0 ∷ 2 ∷ 1 ∷ 2 ∷ 1 ∷ 2 ∷ 1 ∷ 2 ∷ 2 ∷ 2 ∷ 2 ∷ 2 ∷ 2 ∷ 2 ∷ []) n) 0

abbrev pub owner_state : ℕ × Owner → ObjectState
owner_state o = record { class = o.1.class; prototype = o.1.prototype; depth = owner_depth o.0; extensible = true; properties = o.1.first ++ owned_properties o.0 ++ o.1.left_out }

abbrev pub function_state : ℕ × Owned → ObjectState
function_state f = record { class = Builtin f.0; prototype = Some function_prototype; depth = 2; extensible = true; properties = fixed length_key (number f.1.parameters) ∷ [] }

unfoldable pub realm : Heap
realm = record {
  objects = map owner_state (enumerate_from 0 owners) ++ map function_state (enumerate_from count_of_owners functions);
  cells = [];
}

abbrev pub realm_count : ℕ
realm_count = length owners + length functions

-- ---- names: that of the owner, a point and the key for a function

abbrev pub owner_name : ObjNo → List ℕ
owner_name n = unwrap_or (option_map (λ (o : Owner). o.name) (slice_get owners n)) []

abbrev pub owned_name : Owned → List ℕ
owned_name f = owner_name f.owner ++ codes "." ++ f.key

unfoldable pub realm_names : List (List ℕ)
realm_names = map (λ (o : Owner). o.name) owners ++ map owned_name functions

unfoldable pub realm_name : ObjNo → Option (List ℕ)
realm_name n = slice_get realm_names n

-- ---- what the built-ins do when they are called (15) and constructed from

-- Object, Function and Array can be neither called nor constructed from (15.2.1, 15.3.1, 15.4.1)
unfoldable pub closed : Rule
closed site this arguments = leave ClosedBuiltin site.at

abbrev pub constructors : List (Option Rule)
constructors =
    None
    ∷ None
    ∷ Some closed
    ∷ None
    ∷ Some closed
    ∷ None
    ∷ Some closed
    ∷ None
    ∷ Some (object.make_error error_base)
    ∷ None
    ∷ Some (object.make_error (error_prototype TypeError))
    ∷ None
    ∷ Some (object.make_error (error_prototype RangeError))
    ∷ None
    ∷ Some (object.make_error (error_prototype ReferenceError))
    ∷ []

-- what a built-in constructor does; the other built-ins have no [[Construct]] (15)
unfoldable pub constructor_rule : ℕ → Option Rule
constructor_rule n = option_and_then (λ r. r) (slice_get constructors n)

abbrev pub owned_rule : ℕ → Option Rule
owned_rule n = option_map (λ (f : Owned). f.rule) (slice_get functions (n - count_of_owners))

-- what a built-in does; a constructor does the same when it is called (15.11.1, 15.11.7.1)
unfoldable pub builtin_rule : ℕ → Option Rule
builtin_rule n = if nat_eq n function_prototype then Some object.nothing else (if nat_lt n count_of_owners then constructor_rule n else owned_rule n)
