-- The objects that are there from the start (15), in order: their classes and prototypes, their own properties with values and
-- attributes, and what their functions are called and how long they are.
use Rattle.std.specs.Prelude.{◌≡◌, ℕ, ◌++◌, Bool, true, List, [], ◌∷◌, map, codes, Option, Some, None, length}
use Rattle.std.specs.List.{flat_map, range_with_len}
use Rattle.std.specs.Option.{option_and_then, option_map}
use Rattle.plain_heap.specs.Heap.{Array, Builtin, Class, Key, ObjectState, Plain, Property, object_at}
use Rattle.plain_heap.specs.Values.{ObjNo}
use Rattle.js_machine.specs.Machine.Listed.{listed_property}
use Rattle.js_machine.specs.Machine.ObjectBuiltins.{properties_of}
use Rattle.js_machine.specs.Machine.Realm.{realm, realm_name}
use Rattle.js_machine.specs.Machine.RunText.{line, property_text}

-- each own property on one line: key, value, and `w`, `e` and `c` for writable, enumerable and configurable
abbrev pub own_text : ObjNo → List ℕ
own_text o = flat_map (λ (p : Key × Property). property_text (listed_property [] p)) (properties_of o realm)

-- what an object is beside its properties, with the names of objects of the realm
pub record Kind : Type 0 where
  pub name : Option (List ℕ)
  pub class : Class
  pub prototype : Option (List ℕ)
  pub extensible : Bool

abbrev pub kind_of : ObjNo → Option Kind
kind_of o =
    option_map (λ (state : ObjectState). record { name = realm_name o; class = state.class; prototype = option_and_then realm_name state.prototype; extensible = state.extensible }) (object_at realm o)

-- those of so many objects from a number on
abbrev pub kinds : ℕ → ℕ → List (Option Kind)
kinds first count = map kind_of (range_with_len first count)

-- all of them can be extended
abbrev pub kind : List ℕ → Class → Option (List ℕ) → Option Kind
kind name class prototype = Some (record { name = Some name; class = class; prototype = prototype; extensible = true })

abbrev pub owner_kinds : List (Option Kind)
owner_kinds =
    kind (codes "global") Plain (Some (codes "Object.prototype"))
    ∷ kind (codes "Object.prototype") Plain None
    ∷ kind (codes "Object") (Builtin 2) (Some (codes "Function.prototype"))
    ∷ kind (codes "Function.prototype") (Builtin 3) (Some (codes "Object.prototype"))
    ∷ kind (codes "Function") (Builtin 4) (Some (codes "Function.prototype"))
    ∷ kind (codes "Array.prototype") Array (Some (codes "Object.prototype"))
    ∷ kind (codes "Array") (Builtin 6) (Some (codes "Function.prototype"))
    ∷ kind (codes "Error.prototype") Plain (Some (codes "Object.prototype"))
    ∷ kind (codes "Error") (Builtin 8) (Some (codes "Function.prototype"))
    ∷ kind (codes "TypeError.prototype") Plain (Some (codes "Error.prototype"))
    ∷ kind (codes "TypeError") (Builtin 10) (Some (codes "Function.prototype"))
    ∷ kind (codes "RangeError.prototype") Plain (Some (codes "Error.prototype"))
    ∷ kind (codes "RangeError") (Builtin 12) (Some (codes "Function.prototype"))
    ∷ kind (codes "ReferenceError.prototype") Plain (Some (codes "Error.prototype"))
    ∷ kind (codes "ReferenceError") (Builtin 14) (Some (codes "Function.prototype"))
    ∷ []

-- the functions that belong to other objects, whose names come below
abbrev pub function_kinds : List (Option Kind)
function_kinds = map (λ n. Some (record { name = realm_name n; class = Builtin n; prototype = Some (codes "Function.prototype"); extensible = true })) (range_with_len 15 26)

-- ---- own properties

-- the global object
abbrev pub global_text : List ℕ
global_text =
    line (codes "  \"undefined\" = undefined ---")
    ++ line (codes "  \"Object\" = Object w-c")
    ++ line (codes "  \"Function\" = Function w-c")
    ++ line (codes "  \"Array\" = Array w-c")
    ++ line (codes "  \"Error\" = Error w-c")
    ++ line (codes "  \"TypeError\" = TypeError w-c")
    ++ line (codes "  \"RangeError\" = RangeError w-c")
    ++ line (codes "  \"ReferenceError\" = ReferenceError w-c")
    ++ line (codes "  \"NaN\" = absent ---")
    ++ line (codes "  \"Infinity\" = absent ---")
    ++ line (codes "  \"eval\" = absent w-c")
    ++ line (codes "  \"parseInt\" = absent w-c")
    ++ line (codes "  \"parseFloat\" = absent w-c")
    ++ line (codes "  \"isNaN\" = absent w-c")
    ++ line (codes "  \"isFinite\" = absent w-c")
    ++ line (codes "  \"decodeURI\" = absent w-c")
    ++ line (codes "  \"decodeURIComponent\" = absent w-c")
    ++ line (codes "  \"encodeURI\" = absent w-c")
    ++ line (codes "  \"encodeURIComponent\" = absent w-c")
    ++ line (codes "  \"String\" = absent w-c")
    ++ line (codes "  \"Boolean\" = absent w-c")
    ++ line (codes "  \"Number\" = absent w-c")
    ++ line (codes "  \"Date\" = absent w-c")
    ++ line (codes "  \"RegExp\" = absent w-c")
    ++ line (codes "  \"EvalError\" = absent w-c")
    ++ line (codes "  \"SyntaxError\" = absent w-c")
    ++ line (codes "  \"URIError\" = absent w-c")
    ++ line (codes "  \"Math\" = absent w-c")
    ++ line (codes "  \"JSON\" = absent w-c")
    ++ line (codes "  \"__abstract\" = absent w-c")
    ++ line (codes "  \"__residual\" = absent w-c")

-- Object.prototype
abbrev pub object_prototype_text : List ℕ
object_prototype_text =
    line (codes "  \"constructor\" = Object w-c")
    ++ line (codes "  \"hasOwnProperty\" = Object.prototype.hasOwnProperty w-c")
    ++ line (codes "  \"isPrototypeOf\" = Object.prototype.isPrototypeOf w-c")
    ++ line (codes "  \"propertyIsEnumerable\" = Object.prototype.propertyIsEnumerable w-c")
    ++ line (codes "  \"toString\" = absent w-c")
    ++ line (codes "  \"toLocaleString\" = absent w-c")
    ++ line (codes "  \"valueOf\" = absent w-c")

-- Object
abbrev pub object_text : List ℕ
object_text =
    line (codes "  \"length\" = 1 ---")
    ++ line (codes "  \"prototype\" = Object.prototype ---")
    ++ line (codes "  \"create\" = Object.create w-c")
    ++ line (codes "  \"getPrototypeOf\" = Object.getPrototypeOf w-c")
    ++ line (codes "  \"getOwnPropertyDescriptor\" = Object.getOwnPropertyDescriptor w-c")
    ++ line (codes "  \"defineProperty\" = Object.defineProperty w-c")
    ++ line (codes "  \"keys\" = Object.keys w-c")
    ++ line (codes "  \"preventExtensions\" = Object.preventExtensions w-c")
    ++ line (codes "  \"isExtensible\" = Object.isExtensible w-c")
    ++ line (codes "  \"seal\" = Object.seal w-c")
    ++ line (codes "  \"isSealed\" = Object.isSealed w-c")
    ++ line (codes "  \"freeze\" = Object.freeze w-c")
    ++ line (codes "  \"isFrozen\" = Object.isFrozen w-c")
    ++ line (codes "  \"getOwnPropertyNames\" = absent w-c")
    ++ line (codes "  \"defineProperties\" = absent w-c")

-- Function.prototype
abbrev pub function_prototype_text : List ℕ
function_prototype_text =
    line (codes "  \"length\" = 0 ---")
    ++ line (codes "  \"constructor\" = Function w-c")
    ++ line (codes "  \"call\" = Function.prototype.call w-c")
    ++ line (codes "  \"apply\" = Function.prototype.apply w-c")
    ++ line (codes "  \"toString\" = absent w-c")
    ++ line (codes "  \"bind\" = absent w-c")

-- Function
abbrev pub function_text : List ℕ
function_text =
    line (codes "  \"length\" = 1 ---")
    ++ line (codes "  \"prototype\" = Function.prototype ---")

-- Array.prototype
abbrev pub array_prototype_text : List ℕ
array_prototype_text =
    line (codes "  \"length\" = 0 w--")
    ++ line (codes "  \"constructor\" = Array w-c")
    ++ line (codes "  \"concat\" = Array.prototype.concat w-c")
    ++ line (codes "  \"join\" = Array.prototype.join w-c")
    ++ line (codes "  \"pop\" = Array.prototype.pop w-c")
    ++ line (codes "  \"push\" = Array.prototype.push w-c")
    ++ line (codes "  \"slice\" = Array.prototype.slice w-c")
    ++ line (codes "  \"indexOf\" = Array.prototype.indexOf w-c")
    ++ line (codes "  \"forEach\" = Array.prototype.forEach w-c")
    ++ line (codes "  \"map\" = Array.prototype.map w-c")
    ++ line (codes "  \"filter\" = Array.prototype.filter w-c")
    ++ line (codes "  \"toString\" = absent w-c")
    ++ line (codes "  \"toLocaleString\" = absent w-c")
    ++ line (codes "  \"reverse\" = absent w-c")
    ++ line (codes "  \"shift\" = absent w-c")
    ++ line (codes "  \"sort\" = absent w-c")
    ++ line (codes "  \"splice\" = absent w-c")
    ++ line (codes "  \"unshift\" = absent w-c")
    ++ line (codes "  \"lastIndexOf\" = absent w-c")
    ++ line (codes "  \"every\" = absent w-c")
    ++ line (codes "  \"some\" = absent w-c")
    ++ line (codes "  \"reduce\" = absent w-c")
    ++ line (codes "  \"reduceRight\" = absent w-c")

-- Array
abbrev pub array_text : List ℕ
array_text =
    line (codes "  \"length\" = 1 ---")
    ++ line (codes "  \"prototype\" = Array.prototype ---")
    ++ line (codes "  \"isArray\" = Array.isArray w-c")

-- Error.prototype
abbrev pub error_prototype_text : List ℕ
error_prototype_text =
    line (codes "  \"constructor\" = Error w-c")
    ++ line (codes "  \"name\" = \"Error\" w-c")
    ++ line (codes "  \"message\" = \"\" w-c")
    ++ line (codes "  \"toString\" = absent w-c")

-- Error
abbrev pub error_text : List ℕ
error_text =
    line (codes "  \"length\" = 1 ---")
    ++ line (codes "  \"prototype\" = Error.prototype ---")

-- TypeError.prototype
abbrev pub type_error_prototype_text : List ℕ
type_error_prototype_text =
    line (codes "  \"constructor\" = TypeError w-c")
    ++ line (codes "  \"name\" = \"TypeError\" w-c")
    ++ line (codes "  \"message\" = \"\" w-c")

-- TypeError
abbrev pub type_error_text : List ℕ
type_error_text =
    line (codes "  \"length\" = 1 ---")
    ++ line (codes "  \"prototype\" = TypeError.prototype ---")

-- RangeError.prototype
abbrev pub range_error_prototype_text : List ℕ
range_error_prototype_text =
    line (codes "  \"constructor\" = RangeError w-c")
    ++ line (codes "  \"name\" = \"RangeError\" w-c")
    ++ line (codes "  \"message\" = \"\" w-c")

-- RangeError
abbrev pub range_error_text : List ℕ
range_error_text =
    line (codes "  \"length\" = 1 ---")
    ++ line (codes "  \"prototype\" = RangeError.prototype ---")

-- ReferenceError.prototype
abbrev pub reference_error_prototype_text : List ℕ
reference_error_prototype_text =
    line (codes "  \"constructor\" = ReferenceError w-c")
    ++ line (codes "  \"name\" = \"ReferenceError\" w-c")
    ++ line (codes "  \"message\" = \"\" w-c")

-- ReferenceError
abbrev pub reference_error_text : List ℕ
reference_error_text =
    line (codes "  \"length\" = 1 ---")
    ++ line (codes "  \"prototype\" = ReferenceError.prototype ---")

-- ---- the functions that belong to other objects: the name of each, and its one property
abbrev pub function_row : ObjNo → Option (List ℕ) × List ℕ
function_row o = (realm_name o, own_text o)

abbrev pub of_length : List ℕ → List ℕ → Option (List ℕ) × List ℕ
of_length name length = (Some name, line (codes "  \"length\" = " ++ length ++ codes " ---"))

abbrev pub function_rows : List (Option (List ℕ) × List ℕ)
function_rows =
    of_length (codes "Object.prototype.hasOwnProperty") (codes "1")
    ∷ of_length (codes "Object.prototype.isPrototypeOf") (codes "1")
    ∷ of_length (codes "Object.prototype.propertyIsEnumerable") (codes "1")
    ∷ of_length (codes "Object.create") (codes "2")
    ∷ of_length (codes "Object.getPrototypeOf") (codes "1")
    ∷ of_length (codes "Object.getOwnPropertyDescriptor") (codes "2")
    ∷ of_length (codes "Object.defineProperty") (codes "3")
    ∷ of_length (codes "Object.keys") (codes "1")
    ∷ of_length (codes "Object.preventExtensions") (codes "1")
    ∷ of_length (codes "Object.isExtensible") (codes "1")
    ∷ of_length (codes "Object.seal") (codes "1")
    ∷ of_length (codes "Object.isSealed") (codes "1")
    ∷ of_length (codes "Object.freeze") (codes "1")
    ∷ of_length (codes "Object.isFrozen") (codes "1")
    ∷ of_length (codes "Function.prototype.call") (codes "1")
    ∷ of_length (codes "Function.prototype.apply") (codes "2")
    ∷ of_length (codes "Array.prototype.concat") (codes "1")
    ∷ of_length (codes "Array.prototype.join") (codes "1")
    ∷ of_length (codes "Array.prototype.pop") (codes "0")
    ∷ of_length (codes "Array.prototype.push") (codes "1")
    ∷ of_length (codes "Array.prototype.slice") (codes "2")
    ∷ of_length (codes "Array.prototype.indexOf") (codes "1")
    ∷ of_length (codes "Array.prototype.forEach") (codes "1")
    ∷ of_length (codes "Array.prototype.map") (codes "1")
    ∷ of_length (codes "Array.prototype.filter") (codes "1")
    ∷ of_length (codes "Array.isArray") (codes "1")
    ∷ []

pub record RealmOrder : Type 0 where
  pub owners_are : kinds 0 15 ≡ owner_kinds
  pub functions_are : kinds 15 26 ≡ function_kinds
  pub global_is : own_text 0 ≡ global_text
  pub object_prototype_is : own_text 1 ≡ object_prototype_text
  pub object_is : own_text 2 ≡ object_text
  pub function_prototype_is : own_text 3 ≡ function_prototype_text
  pub function_is : own_text 4 ≡ function_text
  pub array_prototype_is : own_text 5 ≡ array_prototype_text
  pub array_is : own_text 6 ≡ array_text
  pub error_prototype_is : own_text 7 ≡ error_prototype_text
  pub error_is : own_text 8 ≡ error_text
  pub type_error_prototype_is : own_text 9 ≡ type_error_prototype_text
  pub type_error_is : own_text 10 ≡ type_error_text
  pub range_error_prototype_is : own_text 11 ≡ range_error_prototype_text
  pub range_error_is : own_text 12 ≡ range_error_text
  pub reference_error_prototype_is : own_text 13 ≡ reference_error_prototype_text
  pub reference_error_is : own_text 14 ≡ reference_error_text
  pub lengths_are : map function_row (range_with_len 15 26) ≡ function_rows
