-- Expressions (11): one rule for each form, in the order of the steps of its clause.
use Rattle.std.specs.Prelude.{ℕ, ◌+◌, Bool, true, false, if◌then◌else◌, List, [], ◌∷◌, codes, Option, Some, None, Result}
use Rattle.std.specs.Fmt.{decimal}
use Rattle.std.specs.List.{list_any}
use Rattle.js_value.specs.Operators.{binary_row, unary_row}
use Rattle.js_value.specs.declared.operator.BinaryOp.{BinaryOp}
use Rattle.js_value.specs.declared.operator.BinaryOp.TheVariants as binary
use Rattle.js_value.specs.declared.operator.UnaryOp.{UnaryOp}
use Rattle.js_value.specs.declared.operator.UnaryOp.TheVariants as unary
use Rattle.js_value.specs.declared.place.FuncNo.{FuncNo}
use Rattle.js_value.specs.declared.place.Place.{Place}
use Rattle.js_value.specs.declared.primitive.Kind.{Kind}
use Rattle.js_value.specs.declared.primitive.Primitive.{Primitive}
use Rattle.js_value.specs.declared.why.Why.{Why}
use Rattle.js_value.specs.declared.why.Why.TheVariants.{HostArgument}
use Rattle.js_tree.specs.declared.expression.Expr.{Expr}
use Rattle.js_tree.specs.declared.expression.Field.{Field, out-Field}
use Rattle.js_tree.specs.declared.expression.ExprForm.{ExprForm, out-ExprForm}
use Rattle.js_tree.specs.declared.expression.ExprForm.TheOpen.{ExprForm-F, Field-F}
use Rattle.js_tree.specs.declared.expression.LogicOp.{LogicOp}
use Rattle.js_tree.specs.declared.expression.LogicOp.TheVariants as logic
use Rattle.js_tree.specs.declared.expression.StepOp.{StepOp}
use Rattle.js_tree.specs.declared.expression.StepOp.TheVariants as stepping
use Rattle.js_tree.specs.declared.statement.Func.{Func}
use Rattle.js_tree.specs.declared.statement.Stmt.{Stmt}
use Rattle.plain_heap.specs.Values.{Value, Prim, Object, ObjNo, undefined, number, truth}
use Rattle.plain_heap.specs.Heap.{Key, Heap, is_function}
use Rattle.plain_heap.specs.Methods.{Descriptor, no_fields, value_field, length_key}
use Rattle.js_machine.specs.Machine.References.{Context, Reference, NameReference, PropertyReference, Nowhere, resolve_name, get_value, put_value}
use Rattle.js_machine.specs.Machine.RealmObjects.{TypeError, ReferenceError}
use Rattle.js_machine.specs.Machine.Objects.{Site, make_plain, make_array, throw_error, get, define, make_property, has_property, delete_of, check_base, is_prototype_of}
use Rattle.js_machine.specs.Machine.Operators.{is_object, test, to_key, operate, operate_one}
use Rattle.js_machine.specs.Machine.Events.{◌>>=◌, Run, give, leave, look, take_input, call_host, choose, in_turn, each, make, throw}
use Rattle.js_machine.specs.Machine.Creating.{function_expression, function}

-- 8.9: how a statement ends, throws aside
pub data Completion : Type 0 where
  Normal : Completion
  Break : Completion
  Continue : Completion
  Return : Value → Completion

-- how the parts of a node are evaluated, and how values are called (13.2.1) and constructed from (13.2.2)
pub record Ev : Type 0 where
  pub expr : Context → Expr → Run Value
  pub reference : Context → Expr → Run Reference
  pub stmt : Context → Stmt → Run Completion
  pub call : Place → Value → Value → List Value → Run Value
  pub construct : Place → Value → List Value → Run Value
  -- the functions that the code names by their positions
  pub functions : List Func
  -- so many turns a loop has at most
  pub turns : ℕ

abbrev pub site : Ev → Place → Site
site ev at = record { at = at; call = ev.call at }

-- ---- functions as values (13)

unfoldable pub function_rule : Ev → Context → FuncNo → Run Value
function_rule ev context f = do
  o ← make (function_expression ev.functions f context.environment context.strict)
  give (Object o)

-- a getter or a setter of an initialiser has no name
abbrev pub accessor_function : Ev → Context → FuncNo → Run ObjNo
accessor_function ev context f = make (function ev.functions f context.environment context.strict)

-- ---- 11.1: primary expressions

-- 11.1.2
unfoldable pub name_rule : Ev → Context → Place → List ℕ → Run Value
name_rule ev context at name = do
  r ← resolve_name (site ev at) context name
  get_value (site ev at) r

-- 11.1.4: the elements from a position on; an elision makes none
abbrev pub elements : Ev → Context → Place → ObjNo → ℕ → List (Option Expr) → Run (Unit {0})
elements ev context at o n [] = define (site ev at) o length_key (value_field (number n)) false
elements ev context at o n (None ∷ es) = elements ev context at o (n + 1) es
elements ev context at o n (Some e ∷ es) = do
  v ← ev.expr context e
  _ ← make_property (site ev at) o (decimal n) v
  elements ev context at o (n + 1) es

unfoldable pub array_rule : Ev → Context → Place → List (Option Expr) → Run Value
array_rule ev context at es = do
  o ← make_array
  _ ← elements ev context at o 0 es
  give (Object o)

-- 11.1.5: a getter or a setter of an initialiser
abbrev pub accessor_fields : Option (Option ObjNo) → Option (Option ObjNo) → Descriptor
accessor_fields get set = record no_fields { get = get; set = set; enumerable = Some true; configurable = Some true }

unfoldable pub field_rule : Ev → Context → Place → ObjNo → Field-F ExprForm Field Expr → Run (Unit {0})
field_rule ev context at o (Field-F.Value key_at key e) = do
  v ← ev.expr context e
  make_property (site ev at) o key v
field_rule ev context at o (Field-F.Getter key_at key f) = do
  g ← accessor_function ev context f
  define (site ev at) o key (accessor_fields (Some (Some g)) None) false
field_rule ev context at o (Field-F.Setter key_at key f) = do
  g ← accessor_function ev context f
  define (site ev at) o key (accessor_fields None (Some (Some g))) false

unfoldable pub object_rule : Ev → Context → Place → List Field → Run Value
object_rule ev context at fields = do
  o ← make_plain
  _ ← in_turn (λ f. field_rule ev context at o (out-Field f)) fields
  give (Object o)

-- ---- 11.2: left-hand-side expressions

-- 11.2.1, steps 5 to 8: the base is checked before the key
unfoldable pub member_reference : Ev → Context → Place → Expr → Key → Run Reference
member_reference ev context at object key = do
  base ← ev.expr context object
  _ ← check_base at base
  give (PropertyReference base key context.strict)

unfoldable pub index_reference : Ev → Context → Place → Expr → Expr → Run Reference
index_reference ev context at object index = do
  base ← ev.expr context object
  name ← ev.expr context index
  _ ← check_base at base
  key ← to_key at name
  give (PropertyReference base key context.strict)

unfoldable pub member_rule : Ev → Context → Place → Expr → Key → Run Value
member_rule ev context at object key = do
  r ← member_reference ev context at object key
  get_value (site ev at) r

unfoldable pub index_rule : Ev → Context → Place → Expr → Expr → Run Value
index_rule ev context at object index = do
  r ← index_reference ev context at object index
  get_value (site ev at) r

abbrev pub is_callable : Value → Heap → Bool
is_callable (Object o) h = is_function h o
is_callable v h = false

-- 11.2.3, steps 4 and 5
abbrev pub call_checked : Ev → Place → Value → Value → List Value → Run Value
call_checked ev at f this arguments = do
  callable ← look (is_callable f)
  choose callable (ev.call at f this arguments) (throw_error TypeError)

-- step 6: the `this` of a call
abbrev pub this_of : Reference → Value
this_of (NameReference name b strict) = undefined
this_of (PropertyReference base key strict) = base

-- a callee that is a name or a member, and one that is neither
abbrev pub call_reference : Ev → Context → Place → Expr → List Expr → Run Value
call_reference ev context at callee arguments = do
  r ← ev.reference context callee
  f ← get_value (site ev at) r
  values ← each (ev.expr context) arguments
  call_checked ev at f (this_of r) values

abbrev pub call_value : Ev → Context → Place → Expr → List Expr → Run Value
call_value ev context at callee arguments = do
  f ← ev.expr context callee
  values ← each (ev.expr context) arguments
  call_checked ev at f undefined values

abbrev pub is_reference : {A B C : Type 0} → ExprForm-F A B C → Bool
is_reference (ExprForm-F.Name name) = true
is_reference (ExprForm-F.Member object key) = true
is_reference (ExprForm-F.Index object key) = true
is_reference _ = false

-- 11.2.3
unfoldable pub call_rule : Ev → Context → Place → Expr → List Expr → Run Value
call_rule ev context at callee arguments =
    if is_reference (out-ExprForm callee.form) then call_reference ev context at callee arguments else call_value ev context at callee arguments

-- 11.2.2
unfoldable pub new_rule : Ev → Context → Place → Expr → List Expr → Run Value
new_rule ev context at callee arguments = do
  f ← ev.expr context callee
  values ← each (ev.expr context) arguments
  ev.construct at f values

-- ---- 11.3, 11.4.4 and 11.4.5: `++` and `--`

abbrev pub stepped : StepOp → BinaryOp
stepped stepping.PreUp = binary.Add
stepped stepping.PreDown = binary.Sub
stepped stepping.PostUp = binary.Add
stepped stepping.PostDown = binary.Sub

-- what the expression gives of the number before and after
abbrev pub of_step : StepOp → Value → Value → Value
of_step stepping.PreUp old new = new
of_step stepping.PreDown old new = new
of_step stepping.PostUp old new = old
of_step stepping.PostDown old new = old

-- ---- 11.8.6: `in`

abbrev pub in_value : Site → Value → Value → Run Value
in_value site name (Object o) = do
  key ← to_key site.at name
  has ← has_property site o key
  give (truth has)
in_value site name v = throw_error TypeError

-- ---- 11.8.7: `instanceof`, and 15.3.5.3

abbrev pub is_instance : Value → Value → Run Value
is_instance (Object o) (Object prototype) = do
  is ← look (is_prototype_of prototype o)
  give (truth is)
is_instance v w = throw_error TypeError

abbrev pub has_instance : Site → ObjNo → Value → Run Value
has_instance site f (Object o) = do
  prototype ← get site f (codes "prototype")
  is_instance (Object o) prototype
has_instance site f v = give (truth false)

abbrev pub instance_value : Site → Value → Value → Run Value
instance_value site v (Object f) = do
  callable ← look (is_callable (Object f))
  choose callable (has_instance site f v) (throw_error TypeError)
instance_value site v w = throw_error TypeError

-- ---- 11.5 to 11.10: operators with two operands

abbrev pub object_operator : Site → BinaryOp → Value → Value → Run Value
object_operator site binary.In a b = in_value site a b
object_operator site op a b = instance_value site a b

abbrev pub by_row : Site → BinaryOp → Value → Value → Option (Primitive → Primitive → Result Primitive Why) → Run Value
by_row site op a b (Some row) = operate site.at op row a b
by_row site op a b None = object_operator site op a b

abbrev pub binary_value : Site → BinaryOp → Value → Value → Run Value
binary_value site op a b = by_row site op a b (binary_row op)

unfoldable pub binary_rule : Ev → Context → Place → BinaryOp → Expr → Expr → Run Value
binary_rule ev context at op a b = do
  x ← ev.expr context a
  y ← ev.expr context b
  binary_value (site ev at) op x y

-- ---- 11.4: operators with one operand

abbrev pub delete_reference : Site → Reference → Run Value
delete_reference site (PropertyReference base key strict) = do
  done ← delete_of site base key strict
  give (truth done)
-- a name can't be deleted in any text that is read
delete_reference site (NameReference name b strict) = give (truth false)

-- 11.4.1
unfoldable pub delete_rule : Ev → Context → Place → Expr → Run Value
delete_rule ev context at a =
    if is_reference (out-ExprForm a.form) then (do
      r ← ev.reference context a
      delete_reference (site ev at) r)
    else (do
      _ ← ev.expr context a
      give (truth true))

-- 11.4.3, step 2: a name that is bound to nothing has a type all the same
abbrev pub value_or_undefined : Site → Reference → Run Value
value_or_undefined site (NameReference name Nowhere strict) = give undefined
value_or_undefined site r = get_value site r

abbrev pub is_name : {A B C : Type 0} → ExprForm-F A B C → Bool
is_name (ExprForm-F.Name name) = true
is_name _ = false

-- 11.4.3: the value of a name is taken at the name
abbrev pub operand_of_typeof : Ev → Context → Expr → Run Value
operand_of_typeof ev context a =
    if is_name (out-ExprForm a.form) then (do
      r ← ev.reference context a
      value_or_undefined (site ev a.at) r)
    else ev.expr context a

abbrev pub unary_by_row : Place → UnaryOp → Value → Option (Primitive → Result Primitive Why) → Run Value
unary_by_row at op v (Some row) = operate_one at op row v
-- `delete`, which has a rule of its own
unary_by_row at op v None = give (truth true)

abbrev pub unary_value : Place → UnaryOp → Value → Run Value
unary_value at op v = unary_by_row at op v (unary_row op)

unfoldable pub step_rule : Ev → Context → Place → StepOp → Expr → Run Value
step_rule ev context at op target = do
  r ← ev.reference context target
  v ← get_value (site ev at) r
  old ← unary_value at unary.Plus v
  new ← binary_value (site ev at) (stepped op) old (number 1)
  _ ← put_value (site ev at) r new
  give (of_step op old new)

unfoldable pub typeof_rule : Ev → Context → Place → Expr → Run Value
typeof_rule ev context at a = do
  v ← operand_of_typeof ev context a
  unary_value at unary.TypeOf v

unfoldable pub unary_rule : Ev → Context → Place → UnaryOp → Expr → Run Value
unary_rule ev context at unary.Delete a = delete_rule ev context at a
unary_rule ev context at unary.TypeOf a = typeof_rule ev context at a
unary_rule ev context at op a = do
  v ← ev.expr context a
  unary_value at op v

-- ---- 11.11: `&&` and `||`

unfoldable pub logic_rule : Ev → Context → Place → LogicOp → Expr → Expr → Run Value
logic_rule ev context at logic.And a b = do
  v ← ev.expr context a
  t ← test at v
  choose t (ev.expr context b) (give v)
logic_rule ev context at logic.Or a b = do
  v ← ev.expr context a
  t ← test at v
  choose t (give v) (ev.expr context b)

-- ---- 11.12

unfoldable pub conditional_rule : Ev → Context → Place → Expr → Expr → Expr → Run Value
conditional_rule ev context at e a b = do
  v ← ev.expr context e
  t ← test at v
  choose t (ev.expr context a) (ev.expr context b)

-- ---- 11.13: assignment, which evaluates its target first

-- 11.13.1
unfoldable pub assign_rule : Ev → Context → Place → Expr → Expr → Run Value
assign_rule ev context at target e = do
  r ← ev.reference context target
  v ← ev.expr context e
  _ ← put_value (site ev at) r v
  give v

-- 11.13.2
unfoldable pub compound_rule : Ev → Context → Place → BinaryOp → Expr → Expr → Run Value
compound_rule ev context at op target e = do
  r ← ev.reference context target
  old ← get_value (site ev at) r
  v ← ev.expr context e
  new ← binary_value (site ev at) op old v
  _ ← put_value (site ev at) r new
  give new

-- ---- 11.14

unfoldable pub comma_rule : Ev → Context → Expr → Expr → Run Value
comma_rule ev context a b = do
  _ ← ev.expr context a
  ev.expr context b

-- ---- host calls, this project's own: all arguments are evaluated before one is looked at

-- an answer that is thrown is thrown by the call
abbrev pub answered : Place → Value × Value → Run Value
answered at answer = do
  threw ← test at answer.1
  choose threw (throw answer.0) (give answer.0)

abbrev pub asked_host : Place → Kind → List ℕ → List Value → Run Value
asked_host at kind name arguments = do
  answer ← call_host at kind name arguments
  answered at answer

unfoldable pub host_rule : Ev → Context → Place → Kind → List ℕ → List Expr → Run Value
host_rule ev context at kind name arguments = do
  values ← each (ev.expr context) arguments
  if list_any is_object values then leave HostArgument at else asked_host at kind name values

-- ---- all forms

unfoldable pub expr_rule : Ev → Context → Place → ExprForm-F ExprForm Field Expr → Run Value
-- 11.1.1
expr_rule ev context at ExprForm-F.This = give context.this
expr_rule ev context at (ExprForm-F.Name name) = name_rule ev context at name
-- 11.1.3
expr_rule ev context at (ExprForm-F.Literal value) = give (Prim value)
expr_rule ev context at (ExprForm-F.ArrayLit es) = array_rule ev context at es
expr_rule ev context at (ExprForm-F.ObjectLit fields) = object_rule ev context at fields
expr_rule ev context at (ExprForm-F.Func f) = function_rule ev context f
expr_rule ev context at (ExprForm-F.Member object key) = member_rule ev context at object key
expr_rule ev context at (ExprForm-F.Index object index) = index_rule ev context at object index
expr_rule ev context at (ExprForm-F.Call callee arguments) = call_rule ev context at callee arguments
expr_rule ev context at (ExprForm-F.New callee arguments) = new_rule ev context at callee arguments
expr_rule ev context at (ExprForm-F.Unary op a) = unary_rule ev context at op a
expr_rule ev context at (ExprForm-F.Binary op a b) = binary_rule ev context at op a b
expr_rule ev context at (ExprForm-F.Logic op a b) = logic_rule ev context at op a b
expr_rule ev context at (ExprForm-F.Conditional e a b) = conditional_rule ev context at e a b
expr_rule ev context at (ExprForm-F.Assign target None e) = assign_rule ev context at target e
expr_rule ev context at (ExprForm-F.Assign target (Some op) e) = compound_rule ev context at op target e
expr_rule ev context at (ExprForm-F.Step op target) = step_rule ev context at op target
expr_rule ev context at (ExprForm-F.Comma a b) = comma_rule ev context a b
expr_rule ev context at (ExprForm-F.Input kind name) = take_input at kind name
expr_rule ev context at (ExprForm-F.HostCall kind name arguments) = host_rule ev context at kind name arguments

-- A name, a member or an index where it is a target, a callee, or the operand of `delete` or `typeof`. No other form stands there in
-- a tree that was read, and 8.7.2 would throw ReferenceError.
unfoldable pub reference_rule : Ev → Context → Place → ExprForm-F ExprForm Field Expr → Run Reference
reference_rule ev context at (ExprForm-F.Name name) = resolve_name (site ev at) context name
reference_rule ev context at (ExprForm-F.Member object key) = member_reference ev context at object key
reference_rule ev context at (ExprForm-F.Index object index) = index_reference ev context at object index
reference_rule ev context at _ = throw_error ReferenceError
