-- Conversions and operators on all values (9, 11): on what is known by the table of js_value, on symbols by what their kinds say.
use Rattle.std.specs.Prelude.{ℕ, ◌&&◌, ◌||◌, nat_eq, ℤ, Bool, true, false, not, if◌then◌else◌, List, [], codes, Result, Ok, Err}
use Rattle.js_value.specs.Conversions.{to_boolean, to_number, to_text, to_integer, to_uint32, is_same_value, is_same_text}
use Rattle.js_value.specs.Operators.{add}
use Rattle.js_value.specs.contracts.operator.BinaryOpPartialEq.TheImpl as binary_op
use Rattle.js_value.specs.contracts.operator.UnaryOpPartialEq.TheImpl as unary_op
use Rattle.js_value.specs.contracts.primitive.KindPartialEq.TheImpl as kinds
use Rattle.js_value.specs.declared.operator.BinaryOp.{BinaryOp}
use Rattle.js_value.specs.declared.operator.BinaryOp.TheVariants as binary
use Rattle.js_value.specs.declared.operator.UnaryOp.{UnaryOp}
use Rattle.js_value.specs.declared.operator.UnaryOp.TheVariants as unary
use Rattle.js_value.specs.declared.place.Place.{Place}
use Rattle.js_value.specs.declared.primitive.Kind.{Kind}
use Rattle.js_value.specs.declared.primitive.Kind.TheVariants as kind
use Rattle.js_value.specs.declared.primitive.Primitive.{Primitive}
use Rattle.js_value.specs.declared.primitive.Primitive.TheVariants as primitive
use Rattle.js_value.specs.declared.why.Why.{Why}
use Rattle.js_value.specs.declared.why.Why.TheVariants.{ObjectToPrimitive, AbsentBuiltin}
use Rattle.plain_heap.specs.Values.{Value, Prim, Object, Absent, Symbolic, Symbol, Input, Answer, Threw, Unary, Binary, Operand, Known, Unknown, ObjNo, undefined, truth, text}
use Rattle.plain_heap.specs.Heap.{is_function}
use Rattle.js_machine.specs.Machine.Events.{◌>>=◌, Need, Key, Length, Argument, StopKind, Leaves, Lacks, Run, give, leave, look, ask, or_stop, or_leave}

-- ---- the types of values (8)

pub data ValueType : Type 0 where
  UndefinedType : ValueType
  NullType : ValueType
  BooleanType : ValueType
  NumberType : ValueType
  StringType : ValueType
  ObjectType : ValueType

abbrev pub kind_type : Kind → ValueType
kind_type kind.Number = NumberType
kind_type kind.Boolean = BooleanType
kind_type kind.Text = StringType

abbrev pub primitive_type : Primitive → ValueType
primitive_type primitive.Undefined = UndefinedType
primitive_type primitive.Null = NullType
primitive_type (primitive.Boolean b) = BooleanType
primitive_type (primitive.Number n) = NumberType
primitive_type (primitive.Text t) = StringType

abbrev pub is_string_type : ValueType → Bool
is_string_type StringType = true
is_string_type _ = false

abbrev pub is_number_type : ValueType → Bool
is_number_type NumberType = true
is_number_type _ = false

-- the type of what an operator gives
abbrev pub unary_type : UnaryOp → ValueType
unary_type unary.Plus = NumberType
unary_type unary.Minus = NumberType
unary_type unary.BitNot = NumberType
unary_type unary.Not = BooleanType
unary_type unary.Delete = BooleanType
unary_type unary.TypeOf = StringType
unary_type unary.Void = UndefinedType

-- by whether an operand is a string
abbrev pub binary_type : BinaryOp → Bool → ValueType
binary_type binary.Add true = StringType
binary_type binary.Add false = NumberType
binary_type binary.Sub some = NumberType
binary_type binary.Mul some = NumberType
binary_type binary.Div some = NumberType
binary_type binary.Rem some = NumberType
binary_type binary.Shl some = NumberType
binary_type binary.Sar some = NumberType
binary_type binary.Shr some = NumberType
binary_type binary.BitAnd some = NumberType
binary_type binary.BitOr some = NumberType
binary_type binary.BitXor some = NumberType
binary_type _ some = BooleanType

abbrev mutual
  pub symbol_type : Symbol → ValueType
  symbol_type (Input k name) = kind_type k
  symbol_type (Answer k n) = kind_type k
  symbol_type (Threw n) = BooleanType
  symbol_type (Unary op s) = unary_type op
  symbol_type (Binary op a b) = binary_type op (is_string_type (operand_type a) || is_string_type (operand_type b))

  pub operand_type : Operand → ValueType
  operand_type (Known p) = primitive_type p
  operand_type (Unknown s) = symbol_type s

abbrev pub is_same_type : ValueType → ValueType → Bool
is_same_type UndefinedType UndefinedType = true
is_same_type NullType NullType = true
is_same_type BooleanType BooleanType = true
is_same_type NumberType NumberType = true
is_same_type StringType StringType = true
is_same_type ObjectType ObjectType = true
is_same_type _ _ = false

abbrev pub is_object : Value → Bool
is_object (Object o) = true
is_object _ = false

abbrev pub result_map : {A B : Type 0} → (A → B) → Result A Why → Result B Why
result_map f (Ok a) = Ok (f a)
result_map f (Err why) = Err why

-- ---- 9.2: ToBoolean; the truth of a symbol is asked for, and that of its negation is the opposite

unfoldable pub test_symbol : Place → Symbol → Run Bool
test_symbol at (Unary unary.Not s) = do
  b ← test_symbol at s
  give (not b)
test_symbol at s = ask at s

unfoldable pub test : Place → Value → Run Bool
test at (Prim p) = give (to_boolean p)
test at (Object o) = give true
test at Absent = leave AbsentBuiltin at
test at (Symbolic s) = test_symbol at s

-- ---- 9.8: ToString

-- the text of a symbol is the symbol itself where it is a string, and else a symbol
abbrev pub symbol_text : Symbol → Symbol
symbol_text s = if is_string_type (symbol_type s) then s else Binary binary.Add (Known (primitive.Text [])) (Unknown s)

abbrev pub string_of : Value → Result Value Why
string_of (Prim p) = Ok (text (to_text p))
string_of (Object o) = Err ObjectToPrimitive
string_of Absent = Err AbsentBuiltin
string_of (Symbolic s) = Ok (Symbolic (symbol_text s))

unfoldable pub to_string : Place → Value → Run Value
to_string at v = or_leave at (string_of v)

-- the key of a property
abbrev pub key_of : Value → Result (List ℕ) StopKind
key_of (Prim p) = Ok (to_text p)
key_of (Object o) = Err (Leaves ObjectToPrimitive)
key_of Absent = Err (Leaves AbsentBuiltin)
key_of (Symbolic s) = Err (Lacks Key)

unfoldable pub to_key : Place → Value → Run (List ℕ)
to_key at v = or_stop at (key_of v)

-- ---- 9.3, 9.4 and 9.6 in built-ins

abbrev pub or_leaves : {A : Type 0} → Result A Why → Result A StopKind
or_leaves (Ok a) = Ok a
or_leaves (Err why) = Err (Leaves why)

abbrev pub number_of : (Primitive → Result ℤ Why) → Need → Value → Result ℤ StopKind
number_of convert what (Prim p) = or_leaves (convert p)
number_of convert what (Object o) = Err (Leaves ObjectToPrimitive)
number_of convert what Absent = Err (Leaves AbsentBuiltin)
number_of convert what (Symbolic s) = Err (Lacks what)

-- 15.4.5.1, step 3: the number that is to be an array's length
unfoldable pub to_length : Place → Value → Run ℤ
to_length at v = or_stop at (number_of to_number Length v)

-- ToUint32 of the length of what is like an array
unfoldable pub to_list_length : Place → Value → Run ℤ
to_list_length at v = or_stop at (number_of to_uint32 Length v)

-- ToInteger of an argument
unfoldable pub to_position : Place → Value → Run ℤ
to_position at v = or_stop at (number_of to_integer Argument v)

-- ---- 11.5 to 11.10 on values that are no objects, and 11.9 on objects

-- A symbol that is sure to have another type than the other operand is never strictly equal to it.
abbrev pub on_symbols : BinaryOp → Operand → Operand → Value
on_symbols binary.Same a b = if is_same_type (operand_type a) (operand_type b) then Symbolic (Binary binary.Same a b) else truth false
on_symbols binary.NotSame a b = if is_same_type (operand_type a) (operand_type b) then Symbolic (Binary binary.NotSame a b) else truth true
on_symbols op a b = Symbolic (Binary op a b)

abbrev pub is_same_object : Value → Value → Bool
is_same_object (Object m) (Object n) = nat_eq m n
is_same_object _ _ = false

-- 11.9.3, steps 1.f and 10 for an object, which leaves where steps 8 and 9 would make a primitive of it
abbrev pub object_equals : Value → Value → Result Bool Why
object_equals (Object m) (Object n) = Ok (nat_eq m n)
object_equals (Prim primitive.Undefined) _ = Ok false
object_equals (Prim primitive.Null) _ = Ok false
object_equals _ (Prim primitive.Undefined) = Ok false
object_equals _ (Prim primitive.Null) = Ok false
object_equals _ _ = Err ObjectToPrimitive

-- the operators that take a number from the left operand before they look at the right one (11.5, 11.6.2, 11.7, 11.10)
abbrev pub takes_numbers : BinaryOp → Bool
takes_numbers op = is_number_type (binary_type op true)

abbrev pub object_behind : Result ℤ Why → Why
object_behind (Ok n) = ObjectToPrimitive
object_behind (Err why) = why

-- why an operator leaves of which an operand is an object: a left operand that has no number comes first
abbrev pub to_primitive_fails : BinaryOp → Value → Why
to_primitive_fails op (Prim p) = if takes_numbers op then object_behind (to_number p) else ObjectToPrimitive
to_primitive_fails op _ = ObjectToPrimitive

abbrev pub on_objects : BinaryOp → Value → Value → Result Value Why
on_objects binary.Same a b = Ok (truth (is_same_object a b))
on_objects binary.NotSame a b = Ok (truth (not (is_same_object a b)))
on_objects binary.Equal a b = result_map truth (object_equals a b)
on_objects binary.NotEqual a b = result_map (λ equal. truth (not equal)) (object_equals a b)
on_objects op a b = Err (to_primitive_fails op a)

-- an operator with two operands, by its row of the table
abbrev pub operated : BinaryOp → (Primitive → Primitive → Result Primitive Why) → Value → Value → Result Value Why
operated op row Absent b = Err AbsentBuiltin
operated op row a Absent = Err AbsentBuiltin
operated op row (Prim a) (Prim b) = result_map Prim (row a b)
operated op row (Prim a) (Symbolic t) = Ok (on_symbols op (Known a) (Unknown t))
operated op row (Symbolic s) (Prim b) = Ok (on_symbols op (Unknown s) (Known b))
operated op row (Symbolic s) (Symbolic t) = Ok (on_symbols op (Unknown s) (Unknown t))
operated op row a b = on_objects op a b

unfoldable pub operate : Place → BinaryOp → (Primitive → Primitive → Result Primitive Why) → Value → Value → Run Value
operate at op row a b = or_leave at (operated op row a b)

-- `+` of two values that are known not to be objects, or leave
unfoldable pub plus : Place → Value → Value → Run Value
plus at a b = operate at binary.Add add a b

-- ---- 11.4 on values

abbrev pub type_text : ValueType → List ℕ
type_text UndefinedType = codes "undefined"
type_text NullType = codes "object"
type_text BooleanType = codes "boolean"
type_text NumberType = codes "number"
type_text StringType = codes "string"
type_text ObjectType = codes "object"

-- 11.4.3
abbrev pub object_type_text : Bool → List ℕ
object_type_text is_callable = if is_callable then codes "function" else codes "object"

-- by whether it can be called
abbrev pub unary_on_object : UnaryOp → Bool → Result Value Why
unary_on_object unary.TypeOf is_callable = Ok (text (object_type_text is_callable))
unary_on_object unary.Void is_callable = Ok undefined
unary_on_object unary.Not is_callable = Ok (truth false)
unary_on_object op is_callable = Err ObjectToPrimitive

-- `+` of a symbol that is a number is the symbol itself
abbrev pub unary_on_symbol : UnaryOp → Symbol → Value
unary_on_symbol unary.TypeOf s = text (type_text (symbol_type s))
unary_on_symbol unary.Void s = undefined
unary_on_symbol unary.Plus s = if is_number_type (symbol_type s) then Symbolic s else Symbolic (Unary unary.Plus s)
unary_on_symbol op s = Symbolic (Unary op s)

-- an operator with one operand, by its row of the table and by which objects can be called
abbrev pub operated_one : (ObjNo → Bool) → UnaryOp → (Primitive → Result Primitive Why) → Value → Result Value Why
operated_one is_callable op row (Prim a) = result_map Prim (row a)
operated_one is_callable op row (Object o) = unary_on_object op (is_callable o)
operated_one is_callable op row Absent = Err AbsentBuiltin
operated_one is_callable op row (Symbolic s) = Ok (unary_on_symbol op s)

unfoldable pub operate_one : Place → UnaryOp → (Primitive → Result Primitive Why) → Value → Run Value
operate_one at op row a = do
  is_callable ← look is_function
  or_leave at (operated_one is_callable op row a)

-- ---- 9.12: SameValue, and the strict equality of built-ins

-- the same symbol
abbrev mutual
  pub is_same_symbol : Symbol → Symbol → Bool
  is_same_symbol (Input k m) (Input l n) = kinds.ghosts.eq k l && is_same_text m n
  is_same_symbol (Answer k m) (Answer l n) = kinds.ghosts.eq k l && nat_eq m n
  is_same_symbol (Threw m) (Threw n) = nat_eq m n
  is_same_symbol (Unary op a) (Unary other b) = unary_op.ghosts.eq op other && is_same_symbol a b
  is_same_symbol (Binary op a b) (Binary other c d) = binary_op.ghosts.eq op other && is_same_operand a c && is_same_operand b d
  is_same_symbol _ _ = false

  pub is_same_operand : Operand → Operand → Bool
  is_same_operand (Known p) (Known q) = is_same_value p q
  is_same_operand (Unknown s) (Unknown t) = is_same_symbol s t
  is_same_operand _ _ = false

-- the same value whatever the inputs and answers are
abbrev pub is_same : Value → Value → Bool
is_same (Prim p) (Prim q) = is_same_value p q
is_same (Object m) (Object n) = nat_eq m n
is_same Absent Absent = true
is_same (Symbolic s) (Symbolic t) = is_same_symbol s t
is_same _ _ = false

-- whether two values are the same, or what is to be asked
pub data Sameness : Type 0 where
  Told : Bool → Sameness
  Asked : Symbol → Sameness

-- a symbol and a value of another type are never the same
abbrev pub asked_same : Operand → Operand → Sameness
asked_same a b = if is_same_type (operand_type a) (operand_type b) then Asked (Binary binary.Same a b) else Told false

-- a symbol and itself are the same without a question
abbrev pub sameness : Value → Value → Result Sameness Why
sameness Absent b = Err AbsentBuiltin
sameness a Absent = Err AbsentBuiltin
sameness (Symbolic s) (Symbolic t) = Ok (if is_same_symbol s t then Told true else asked_same (Unknown s) (Unknown t))
sameness (Prim a) (Symbolic t) = Ok (asked_same (Known a) (Unknown t))
sameness (Symbolic s) (Prim b) = Ok (asked_same (Unknown s) (Known b))
sameness a b = Ok (Told (is_same a b))

abbrev pub ask_unless_told : Place → Sameness → Run Bool
ask_unless_told at (Told same) = give same
ask_unless_told at (Asked symbol) = ask at symbol

unfoldable pub same_value : Place → Value → Value → Run Bool
same_value at a b = do
  same ← or_leave at (sameness a b)
  ask_unless_told at same
