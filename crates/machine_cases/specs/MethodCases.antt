-- Cases of the internal methods, worked out by hand from 8.12 and 15.4.5: what each step of theirs refuses, and what it does.
use Rattle.std.specs.Prelude.{◌≡◌, ℕ, nat_eq, neg_ℤ, pos, Bool, true, false, List, [], ◌∷◌, ◌++◌, map, codes, Option, Some, None}
use Rattle.js_value.specs.Conversions.{is_same_value}
use Rattle.js_value.specs.declared.primitive.Primitive.TheVariants as primitive
use Rattle.plain_heap.specs.Values.{Value, Prim, Object, Absent, undefined, number, text}
use Rattle.plain_heap.specs.Heap.{Key, Property, Properties, Accessor, Class, Plain, Array, Function, Builtin, ObjectState, Heap, data_property, resolve, Environment}
use Rattle.plain_heap.specs.Methods.{Descriptor, no_fields, value_field, data_fields, Got, GotValue, CallGetter, get, can_put, Putting, Refuse, Define, CallSetter, put, has_property, delete, Defining, Defined, Rejected, BadLength, IfSame, define, array_index, length_key}
use Rattle.plain_heap.specs.Valid.{is_valid}

abbrev pub a : Key
a = codes "a"

abbrev pub b : Key
b = codes "b"

abbrev pub c : Key
c = codes "c"

-- a data property, writable, enumerable and configurable or not
abbrev pub open_data : ℕ → Property
open_data n = data_property (number n) true true true

abbrev pub fixed_data : ℕ → Property
fixed_data n = data_property (number n) false false false

abbrev pub accessor : Option ℕ → Option ℕ → Bool → Property
accessor get set configurable = Accessor (record { get = get; set = set; enumerable = false; configurable = configurable })

-- where the prototype, if there is one, has none
abbrev pub depth_below : Option ℕ → ℕ
depth_below None = 0
depth_below (Some o) = 1

abbrev pub state : Class → Option ℕ → Bool → Properties → ObjectState
state class prototype extensible properties = record { class = class; prototype = prototype; depth = depth_below prototype; extensible = extensible; properties = properties }

abbrev pub plain : Properties → ObjectState
plain properties = state Plain None true properties

abbrev pub closed : Properties → ObjectState
closed properties = state Plain None false properties

-- an array whose length is writable or not, with elements and other properties
abbrev pub array : ℕ → Bool → Properties → ObjectState
array n writable properties = state Array None true ((length_key, data_property (number n) writable false false) ∷ properties)

-- ---- 15.4: array indices

abbrev pub index_rows : List (Key × Option ℕ)
index_rows =
    (codes "0", Some 0)
    ∷ (codes "7", Some 7)
    ∷ (codes "10", Some 10)
    ∷ (codes "4294967294", Some 4294967294)
    ∷ (codes "4294967295", None)
    ∷ (codes "4294967296", None)
    ∷ (codes "18446744073709551616", None)
    ∷ (codes "00", None)
    ∷ (codes "01", None)
    ∷ (codes "-1", None)
    ∷ (codes "+1", None)
    ∷ (codes "1.0", None)
    ∷ (codes " 1", None)
    ∷ (codes "1e3", None)
    ∷ (codes "a", None)
    ∷ ([], None)
    ∷ []

-- ---- 8.12.2 to 8.12.6

-- Object 0 is a function. Object 1 has one property of each sort. Object 2 inherits from it and has `a` as well; object 3
-- inherits from it and can't be extended; object 4 inherits nothing and can't be extended.
abbrev pub family : Heap
family = record {
  objects =
      state (Builtin 0) None true []
      ∷ plain ((a, open_data 1) ∷ (b, fixed_data 2) ∷ (c, accessor (Some 0) None true) ∷ (codes "d", accessor None (Some 0) true) ∷ [])
      ∷ state Plain (Some 1) true ((a, open_data 5) ∷ (codes "e", fixed_data 6) ∷ (codes "f", accessor None None true) ∷ [])
      ∷ state Plain (Some 1) false []
      ∷ state Plain None false []
      ∷ [];
  cells = [];
}

abbrev pub get_rows : List (ℕ × Key × Got)
get_rows =
    -- own data, and inherited data
    (2, a, GotValue (number 5))
    ∷ (3, a, GotValue (number 1))
    ∷ (3, b, GotValue (number 2))
    -- step 2: no property
    ∷ (2, codes "g", GotValue undefined)
    ∷ (4, a, GotValue undefined)
    -- step 5: no getter
    ∷ (2, codes "d", GotValue undefined)
    -- step 6: an inherited getter
    ∷ (2, c, CallGetter 0)
    ∷ []

abbrev pub can_put_rows : List (ℕ × Key × Bool)
can_put_rows =
    -- step 2.a: own accessors without and with a setter
    (2, codes "f", false)
    ∷ (1, codes "d", true)
    -- step 2.b: own data that isn't and that is writable
    ∷ (2, codes "e", false)
    ∷ (2, a, true)
    -- step 4: no prototype
    ∷ (4, a, false)
    ∷ (1, codes "g", true)
    -- step 6: nothing is inherited
    ∷ (2, codes "g", true)
    ∷ (3, codes "g", false)
    -- step 7: an inherited accessor; extensible or not is all one
    ∷ (2, c, false)
    ∷ (3, codes "d", true)
    -- step 8: inherited data that isn't writable, and that is
    ∷ (2, b, false)
    ∷ (3, a, false)
    ∷ []

abbrev pub new_seven : Putting
new_seven = Define (data_fields (number 7) true true true)

-- what putting 7 comes to
abbrev pub put_rows : List (ℕ × Key × Putting)
put_rows =
    -- step 1
    (2, codes "e", Refuse)
    ∷ (2, codes "f", Refuse)
    ∷ (2, b, Refuse)
    ∷ (2, c, Refuse)
    ∷ (3, a, Refuse)
    ∷ (4, a, Refuse)
    -- step 3
    ∷ (2, a, Define (value_field (number 7)))
    -- step 5
    ∷ (1, codes "d", CallSetter 0)
    ∷ (2, codes "d", CallSetter 0)
    ∷ (3, codes "d", CallSetter 0)
    -- step 6
    ∷ (2, codes "g", new_seven)
    ∷ (1, codes "g", new_seven)
    ∷ []

abbrev pub has_rows : List (ℕ × Key × Bool)
has_rows = (2, a, true) ∷ (2, b, true) ∷ (3, codes "d", true) ∷ (3, codes "e", false) ∷ (4, a, false) ∷ []

-- ---- 8.12.7

abbrev pub delete_rows : List (Key × Properties × Option ObjectState)
delete_rows =
    -- step 2
    (c, (a, open_data 1) ∷ [], Some (plain ((a, open_data 1) ∷ [])))
    -- step 3
    ∷ (a, (a, open_data 1) ∷ (b, open_data 2) ∷ [], Some (plain ((b, open_data 2) ∷ [])))
    ∷ (b, (a, open_data 1) ∷ (b, accessor None None true) ∷ (c, open_data 3) ∷ [], Some (plain ((a, open_data 1) ∷ (c, open_data 3) ∷ [])))
    -- steps 4 and 5
    ∷ (a, (a, fixed_data 1) ∷ [], None)
    ∷ (a, (a, accessor None None false) ∷ [], None)
    ∷ []

-- ---- 8.12.9 and 15.4.5.1

-- whether the values of questions are the same, for values without objects
abbrev pub same : Value → Value → Bool
same (Prim p) (Prim q) = is_same_value p q
same (Object m) (Object n) = nat_eq m n
same _ _ = false

-- whether the change was made, and the object afterwards; none for a bad length
abbrev pub outcome : Defining → Option (Bool × ObjectState)
outcome (Defined o) = Some (true, o)
outcome (Rejected o) = Some (false, o)
outcome BadLength = None
outcome (IfSame v w rest) = outcome (rest (same v w))

abbrev pub made_one : ObjectState → Option (Bool × ObjectState)
made_one o = Some (true, o)

abbrev pub refused : ObjectState → Option (Bool × ObjectState)
refused o = Some (false, o)

abbrev pub DefineRow : Type 0
DefineRow = Key × Descriptor × ObjectState × Option (Bool × ObjectState)

abbrev pub answer_of : DefineRow → Option (Bool × ObjectState)
answer_of r = outcome (define r.0 r.1 r.2)

abbrev pub one : Property → ObjectState
one p = plain ((a, p) ∷ [])

-- the change is refused and the object stays
abbrev pub no_change : Descriptor → Property → DefineRow
no_change d p = (a, d, one p, refused (one p))

-- the property becomes another
abbrev pub becomes : Property → Descriptor → Property → DefineRow
becomes p d q = (a, d, one p, made_one (one q))

abbrev pub getter_field : Option ℕ → Descriptor
getter_field f = record no_fields { get = Some f }

abbrev pub setter_field : Option ℕ → Descriptor
setter_field f = record no_fields { set = Some f }

abbrev pub define_rows : List DefineRow
define_rows =
    -- step 3
    (b, value_field (number 1), closed ((a, open_data 1) ∷ []), refused (closed ((a, open_data 1) ∷ [])))
    -- step 4
    ∷ (b, no_fields, one (open_data 1), made_one (plain ((a, open_data 1) ∷ (b, data_property undefined false false false) ∷ [])))
    ∷ (b, value_field (number 3), one (open_data 1), made_one (plain ((a, open_data 1) ∷ (b, fixed_data 3) ∷ [])))
    ∷ (b, data_fields (number 3) true true true, one (open_data 1), made_one (plain ((a, open_data 1) ∷ (b, open_data 3) ∷ [])))
    ∷ (b, getter_field (Some 4), plain [], made_one (plain ((b, accessor (Some 4) None false) ∷ [])))
    ∷ (b, record no_fields { set = Some None; configurable = Some true }, plain [], made_one (plain ((b, accessor None None true) ∷ [])))
    -- step 5
    ∷ becomes (fixed_data 1) no_fields (fixed_data 1)
    -- step 7.a
    ∷ no_change (record no_fields { configurable = Some true }) (fixed_data 1)
    -- step 7.b
    ∷ no_change (record no_fields { enumerable = Some true }) (fixed_data 1)
    ∷ no_change (record no_fields { enumerable = Some false }) (data_property (number 1) true true false)
    ∷ becomes (fixed_data 1) (record no_fields { enumerable = Some false; configurable = Some false }) (fixed_data 1)
    -- step 8
    ∷ becomes (open_data 1) (record no_fields { enumerable = Some false }) (data_property (number 1) true false true)
    ∷ becomes (accessor (Some 0) None true) (record no_fields { configurable = Some false }) (accessor (Some 0) None false)
    -- step 9.a
    ∷ no_change (getter_field (Some 0)) (fixed_data 1)
    ∷ no_change (value_field (number 1)) (accessor (Some 0) None false)
    ∷ no_change (record no_fields { writable = Some false }) (accessor (Some 0) None false)
    -- step 9.b
    ∷ becomes (data_property (number 1) true false true) (getter_field (Some 4)) (accessor (Some 4) None true)
    -- step 9.c
    ∷ becomes (accessor (Some 4) (Some 5) true) (value_field (number 1)) (data_property (number 1) false false true)
    ∷ becomes (accessor (Some 4) None true) (record no_fields { writable = Some true }) (data_property undefined true false true)
    -- step 10.a.i
    ∷ no_change (record no_fields { writable = Some true }) (fixed_data 1)
    -- step 10.a.ii
    ∷ no_change (value_field (number 2)) (fixed_data 1)
    ∷ no_change (value_field (text (codes "1"))) (fixed_data 1)
    ∷ becomes (fixed_data 1) (value_field (number 1)) (fixed_data 1)
    ∷ becomes (fixed_data 1) (record no_fields { writable = Some false }) (fixed_data 1)
    -- step 10.a where it is writable
    ∷ becomes (data_property (number 1) true false false) (record no_fields { value = Some (number 2); writable = Some false }) (fixed_data 2)
    -- step 10.b
    ∷ becomes (data_property (number 1) false false true) (value_field (number 2)) (data_property (number 2) false false true)
    ∷ becomes (data_property (number 1) false false true) (record no_fields { writable = Some true }) (data_property (number 1) true false true)
    -- step 11.a.i and 11.a.ii
    ∷ no_change (setter_field (Some 4)) (accessor None None false)
    ∷ no_change (setter_field None) (accessor None (Some 4) false)
    ∷ no_change (getter_field (Some 5)) (accessor (Some 4) None false)
    ∷ no_change (getter_field None) (accessor (Some 4) None false)
    ∷ becomes (accessor (Some 4) None false) (record no_fields { get = Some (Some 4); set = Some None }) (accessor (Some 4) None false)
    -- step 11.b
    ∷ becomes (accessor (Some 4) (Some 5) true) (getter_field None) (accessor None (Some 5) true)
    ∷ []

abbrev pub zero_key : Key
zero_key = codes "0"

abbrev pub one_key : Key
one_key = codes "1"

abbrev pub five_key : Key
five_key = codes "5"

abbrev pub two_elements : Properties
two_elements = (zero_key, open_data 10) ∷ (one_key, open_data 11) ∷ []

abbrev pub array_rows : List DefineRow
array_rows =
    -- step 3.a
    (length_key, record no_fields { writable = Some false }, array 2 true two_elements, made_one (array 2 false two_elements))
    ∷ (length_key, record no_fields { enumerable = Some true }, array 2 true two_elements, refused (array 2 true two_elements))
    -- step 3.d
    ∷ (length_key, value_field (Prim (primitive.Number (neg_ℤ (pos 1)))), array 2 true two_elements, None)
    ∷ (length_key, value_field (number 4294967296), array 2 true two_elements, None)
    -- step 3.f
    ∷ (length_key, value_field (number 4294967295), array 2 true two_elements, made_one (array 4294967295 true two_elements))
    ∷ (length_key, value_field (number 2), array 2 false two_elements, made_one (array 2 false two_elements))
    ∷ (length_key, value_field (number 3), array 2 false two_elements, refused (array 2 false two_elements))
    -- step 3.g
    ∷ (length_key, value_field (number 1), array 2 false two_elements, refused (array 2 false two_elements))
    -- step 3.k
    ∷ (length_key, record no_fields { value = Some (number 0); configurable = Some true }, array 2 true two_elements, refused (array 2 true two_elements))
    -- step 3.l
    ∷ (length_key, value_field (number 1), array 2 true two_elements, made_one (array 1 true ((zero_key, open_data 10) ∷ [])))
    ∷ (length_key, value_field (number 0), array 2 true (two_elements ++ (a, open_data 3) ∷ []), made_one (array 0 true ((a, open_data 3) ∷ [])))
    -- step 3.l.iii: deleting from the top down ends at an element that can't be deleted, of which there are two here
    ∷ (length_key, value_field (number 0), array 6 true ((five_key, open_data 3) ∷ (zero_key, fixed_data 1) ∷ (one_key, fixed_data 2) ∷ []), refused (array 2 true ((zero_key, fixed_data 1) ∷ (one_key, fixed_data 2) ∷ [])))
    ∷ (
      length_key,
      record no_fields { value = Some (number 1); writable = Some false },
      array 6 true ((zero_key, fixed_data 1) ∷ (one_key, fixed_data 2) ∷ (five_key, open_data 3) ∷ []),
      refused (array 2 false ((zero_key, fixed_data 1) ∷ (one_key, fixed_data 2) ∷ [])),
    )
    -- an element below the new length doesn't matter
    ∷ (length_key, value_field (number 1), array 2 true ((zero_key, fixed_data 1) ∷ (one_key, open_data 2) ∷ []), made_one (array 1 true ((zero_key, fixed_data 1) ∷ [])))
    -- step 3.m
    ∷ (length_key, record no_fields { value = Some (number 0); writable = Some false }, array 2 true two_elements, made_one (array 0 false []))
    -- step 4.b
    ∷ (five_key, data_fields (number 7) true true true, array 2 false two_elements, refused (array 2 false two_elements))
    -- step 4.d, of an element and of one that would be new
    ∷ (zero_key, value_field (number 7), array 1 true ((zero_key, fixed_data 1) ∷ []), refused (array 1 true ((zero_key, fixed_data 1) ∷ [])))
    ∷ (
      five_key,
      value_field (number 7),
      state Array None false ((length_key, data_property (number 0) true false false) ∷ []),
      refused (state Array None false ((length_key, data_property (number 0) true false false) ∷ [])),
    )
    -- step 4.e
    ∷ (five_key, data_fields (number 7) true true true, array 2 true two_elements, made_one (array 6 true (two_elements ++ (five_key, open_data 7) ∷ [])))
    ∷ (one_key, value_field (number 7), array 2 false two_elements, made_one (array 2 false ((zero_key, open_data 10) ∷ (one_key, open_data 7) ∷ [])))
    -- step 5
    ∷ (a, data_fields (number 7) true true true, array 0 true [], made_one (array 0 true ((a, open_data 7) ∷ [])))
    ∷ (codes "01", data_fields (number 7) true true true, array 0 true [], made_one (array 0 true ((codes "01", open_data 7) ∷ [])))
    ∷ (codes "4294967295", data_fields (number 7) true true true, array 0 true [], made_one (array 0 true ((codes "4294967295", open_data 7) ∷ [])))
    ∷ []

-- ---- valid heaps

abbrev pub with_cells : List ObjectState → List Value → Heap
with_cells objects cells = record { objects = objects; cells = cells }

abbrev pub with_objects : List ObjectState → Heap
with_objects objects = with_cells objects []

abbrev pub function : Environment → ObjectState
function names = state (Function (record { 0 = 0 }) names false) None true []

abbrev pub valid_rows : List (Heap × Bool)
valid_rows =
    (family, true)
    ∷ (with_objects (array 2 true two_elements ∷ []), true)
    -- two prototypes of each other
    ∷ (with_objects (state Plain (Some 1) true [] ∷ state Plain (Some 0) true [] ∷ []), false)
    -- a prototype with a higher number
    ∷ (with_objects (state Plain (Some 1) true [] ∷ plain [] ∷ []), true)
    -- depths that are too low and too high
    ∷ (with_objects (record (state Plain (Some 1) true []) { depth = 0 } ∷ plain [] ∷ []), false)
    ∷ (with_objects (record (plain []) { depth = 1 } ∷ []), false)
    -- numbers of no object
    ∷ (with_objects (state Plain (Some 1) true [] ∷ []), false)
    ∷ (with_objects (plain ((a, data_property (Object 1) true true true) ∷ []) ∷ []), false)
    -- a getter that is no function
    ∷ (with_objects (plain ((a, accessor (Some 0) None true) ∷ []) ∷ []), false)
    -- one key twice
    ∷ (with_objects (plain ((a, open_data 1) ∷ (a, open_data 2) ∷ []) ∷ []), false)
    -- arrays without a length, with one that isn't above an index, and with one that is enumerable
    ∷ (with_objects (state Array None true [] ∷ []), false)
    ∷ (with_objects (array 1 true two_elements ∷ []), false)
    ∷ (with_objects (state Array None true ((length_key, data_property (number 0) true true false) ∷ []) ∷ []), false)
    -- cells: of values, of an object, of one that isn't there, and of a built-in that is left out, which a property may have
    ∷ (with_cells [] (number 1 ∷ text a ∷ []), true)
    ∷ (with_cells (plain [] ∷ []) (Object 0 ∷ []), true)
    ∷ (with_cells (plain [] ∷ []) (Object 1 ∷ []), false)
    ∷ (with_cells [] (Absent ∷ []), false)
    ∷ (with_objects (plain ((a, data_property Absent true true true) ∷ []) ∷ []), true)
    -- functions made in global code, in an environment with a cell, with one that isn't there, and with a name twice
    ∷ (with_cells (function [] ∷ []) [], true)
    ∷ (with_cells (function ((a, 0) ∷ []) ∷ []) (number 1 ∷ []), true)
    ∷ (with_cells (function ((b, 0) ∷ (a, 1) ∷ []) ∷ []) (number 1 ∷ []), false)
    ∷ (with_cells (function ((a, 0) ∷ (a, 0) ∷ []) ∷ []) (number 1 ∷ []), true)
    ∷ []

-- ---- 10.2.2.1: names in environments

-- code that binds `c` twice, in code that binds `a`, in code that binds `a` and `b`
abbrev pub nested : Environment
nested = (c, 3) ∷ (c, 4) ∷ (a, 2) ∷ (a, 0) ∷ (b, 1) ∷ []

abbrev pub resolve_rows : List (Environment × Key × Option ℕ)
resolve_rows =
    -- in global code nothing is bound
    ([], a, None)
    -- by the code itself, and by code around it, unless nearer code binds the name
    ∷ (nested, c, Some 3)
    ∷ (nested, a, Some 2)
    ∷ (nested, b, Some 1)
    ∷ (nested, codes "d", None)
    ∷ []

pub record MethodCases : Type 0 where
  pub indices : map (λ row. array_index row.0) index_rows ≡ map (λ row. row.1) index_rows
  pub gets : map (λ row. get family row.0 row.1) get_rows ≡ map (λ row. row.2) get_rows
  pub can_puts : map (λ row. can_put family row.0 row.1) can_put_rows ≡ map (λ row. row.2) can_put_rows
  pub puts : map (λ row. put family row.0 row.1 (number 7)) put_rows ≡ map (λ row. row.2) put_rows
  pub has : map (λ row. has_property family row.0 row.1) has_rows ≡ map (λ row. row.2) has_rows
  pub deletes : map (λ row. delete row.0 (plain row.1)) delete_rows ≡ map (λ row. row.2) delete_rows
  pub defines : map answer_of define_rows ≡ map (λ row. row.3) define_rows
  pub arrays : map answer_of array_rows ≡ map (λ row. row.3) array_rows
  pub valid : map (λ row. is_valid row.0) valid_rows ≡ map (λ row. row.1) valid_rows
  pub resolves : map (λ row. resolve row.0 row.1) resolve_rows ≡ map (λ row. row.2) resolve_rows
