-- The rules of expressions are sound, where the evaluation of their parts is.
use Rattle.std.proofs.Common.{ℕ, ◌+◌, true, false, List, [], ◌∷◌, refl}
use Rattle.std.specs.Prelude.{codes, Option, Some, None, Result}
use Rattle.std.specs.List.{list_any}
use Rattle.std.specs.Fmt.{decimal}
use Rattle.js_value.specs.Operators.{binary_row, unary_row}
use Rattle.js_value.specs.declared.operator.BinaryOp.{BinaryOp}
use Rattle.js_value.specs.declared.operator.BinaryOp.TheVariants as binary
use Rattle.js_value.specs.declared.operator.UnaryOp.{UnaryOp}
use Rattle.js_value.specs.declared.operator.UnaryOp.TheVariants as unary
use Rattle.js_value.specs.declared.place.FuncNo.{FuncNo}
use Rattle.js_value.specs.declared.place.Place.{Place}
use Rattle.js_value.specs.declared.primitive.Kind.{Kind}
use Rattle.js_value.specs.declared.primitive.Primitive.{Primitive}
use Rattle.js_value.specs.declared.why.Why.{Why}
use Rattle.js_value.specs.declared.why.Why.TheVariants.{HostArgument}
use Rattle.js_tree.specs.declared.expression.Expr.{Expr}
use Rattle.js_tree.specs.declared.expression.Field.{Field, out-Field}
use Rattle.js_tree.specs.declared.expression.ExprForm.{ExprForm, out-ExprForm}
use Rattle.js_tree.specs.declared.expression.ExprForm.TheOpen.{ExprForm-F, Field-F}
use Rattle.js_tree.specs.declared.expression.LogicOp.{LogicOp}
use Rattle.js_tree.specs.declared.expression.LogicOp.TheVariants as logic
use Rattle.js_tree.specs.declared.expression.StepOp.{StepOp}
use Rattle.js_tree.specs.declared.expression.StepOp.TheVariants as stepping
use Rattle.js_tree.specs.declared.statement.Stmt.{Stmt}
use Rattle.plain_heap.specs.Values.{Value, Prim, Object, ObjNo}
use Rattle.plain_heap.specs.Heap.{Heap, Key}
use Rattle.plain_heap.specs.Methods.{length_key}
use Rattle.js_machine.specs.Machine.Expressions as E
use Rattle.js_machine.specs.Machine.Expressions.{Ev, Completion, Normal, Break, Continue, Return}
use Rattle.js_machine.specs.Machine.References.{Context, Reference, NameReference, PropertyReference, InCell, OnGlobal, Nowhere}
use Rattle.js_machine.specs.Machine.RealmObjects.{TypeError, ReferenceError}
use Rattle.js_machine.specs.Machine.Objects as objects
use Rattle.js_machine.specs.Machine.Operators as operators
use Rattle.js_machine.specs.Machine.Events.{Run, Leaves, each, take_input, call_host}
use Rattle.valid_runs.specs.Kept.{Keeps, IsObject, IsValue, is_primitive, is_object, is_symbol, inputs, calls}
use Rattle.valid_runs.proofs.Growing.{IsFunction, ◌⊚◌, same, Values, later, later_object, later_cells, AreCells, function_there, from_outside}
use Rattle.valid_runs.proofs.Sound.{At, Steady, Any, bind, bind_any, first, first_any, moves, gives, gives_same, throws, left_at, looks_any, chooses, tests, in_turns_any, all_values, makes}
use Rattle.valid_runs.proofs.Making.{expression_made, function_made}
use Rattle.valid_runs.proofs.Objects.{Calls, IsReference, is_name, is_property, later_reference, site_of, is_undefined, is_truth, make_plain_too, make_array_too, throw_error_too, test_too, to_key_too, operate_too, operate_one_too, check_base_too, get_too, define_too, make_property_too, has_property_too, delete_of_too, resolve_name_too, get_value_too, put_value_too, of_value}

is_instance_too : {s : Heap} (v w : Value) → At s IsValue (E.is_instance v w)
is_instance_too (Object o) (Object prototype) = first_any (looks_any (objects.is_prototype_of prototype o)) (λ is. gives (is_truth is))
is_instance_too v w = throw_error_too TypeError

module _ {s : Heap} (at : Place) where
  unary_by_row_too : (op : UnaryOp) (v : Value) (row : Option (Primitive → Result Primitive Why)) → Steady s (IsValue s) (E.unary_by_row at op v row)
  unary_by_row_too op v (Some row) = operate_one_too at op row v
  unary_by_row_too op v None = gives_same (is_truth true)

  unary_value_too : (op : UnaryOp) (v : Value) → Steady s (IsValue s) (E.unary_value at op v)
  unary_value_too op v = unary_by_row_too op v (unary_row op)

module _ {s : Heap} (at : Place) {call : Value → Value → List Value → Run Value} (c : Calls call) where
  -- ---- operators

  in_value_too : (name v : Value) → At s IsValue (E.in_value (site_of at call) name v)
  in_value_too name (Object o) = first_any (to_key_too at name) (λ key. first_any (has_property_too at c o key) (λ has. gives (is_truth has)))
  in_value_too name v = throw_error_too TypeError

  has_instance_too : {f : ObjNo} → IsObject s f → (v : Value) → At s IsValue (E.has_instance (site_of at call) f v)
  has_instance_too there (Object o) = bind (get_too at c there (codes "prototype")) (λ t up prototype _. is_instance_too (Object o) prototype)
  has_instance_too there v = gives (is_truth false)

  instance_value_too : (v : Value) {w : Value} → IsValue s w → At s IsValue (E.instance_value (site_of at call) v w)
  instance_value_too v (is_object {o = f} there) = first_any (looks_any (E.is_callable (Object f))) (λ callable. chooses callable (has_instance_too there v) (throw_error_too TypeError))
  instance_value_too v (is_primitive p) = throw_error_too TypeError
  instance_value_too v (is_symbol t) = throw_error_too TypeError

  object_operator_too : (op : BinaryOp) (a : Value) {b : Value} → IsValue s b → At s IsValue (E.object_operator (site_of at call) op a b)
  object_operator_too binary.In a {b = b} is = in_value_too a b
  object_operator_too op a is = instance_value_too a is

  by_row_too : (op : BinaryOp) (a : Value) {b : Value} → IsValue s b → (row : Option (Primitive → Primitive → Result Primitive Why)) → At s IsValue (E.by_row (site_of at call) op a b row)
  by_row_too op a {b = b} is (Some row) = moves (operate_too at op row a b)
  by_row_too op a is None = object_operator_too op a is

  pub binary_value_too : (op : BinaryOp) (a : Value) {b : Value} → IsValue s b → At s IsValue (E.binary_value (site_of at call) op a b)
  binary_value_too op a is = by_row_too op a is (binary_row op)

  delete_reference_too : (r : Reference) → At s IsValue (E.delete_reference (site_of at call) r)
  delete_reference_too (PropertyReference base key strict) = bind_any (delete_of_too at c base key strict) (λ t up done. gives (is_truth done))
  delete_reference_too (NameReference name b strict) = gives (is_truth false)

  value_or_undefined_too : {r : Reference} → IsReference s r → At s IsValue (E.value_or_undefined (site_of at call) r)
  value_or_undefined_too (is_name name Nowhere strict) = gives is_undefined
  value_or_undefined_too (is_name name (InCell n) strict) = get_value_too at c (is_name name (InCell n) strict)
  value_or_undefined_too (is_name name OnGlobal strict) = get_value_too at c (is_name name OnGlobal strict)
  value_or_undefined_too (is_property is key strict) = get_value_too at c (is_property is key strict)

-- ---- contexts, and how statements end

pub record IsContext (s : Heap) (context : Context) : Type 0 where
  pub cells : AreCells s context.environment
  pub this : IsValue s context.this

pub later_context : {s t : Heap} → Keeps s t → {context : Context} → IsContext s context → IsContext t context
later_context up is = record { cells = later_cells up is.cells; this = later up is.this }

pub data IsCompletion (s : Heap) : Completion → Type 0 where
  is_normal : IsCompletion s Normal
  is_break : IsCompletion s Break
  is_continue : IsCompletion s Continue
  is_return : {v : Value} → IsValue s v → IsCompletion s (Return v)

-- parts that are sound on any heap
pub record PartsSound (ev : Ev) : Type 0 where
  pub expr : {s : Heap} {context : Context} → IsContext s context → (e : Expr) → At s IsValue (ev.expr context e)
  pub reference : {s : Heap} {context : Context} → IsContext s context → (e : Expr) → At s IsReference (ev.reference context e)
  pub stmt : {s : Heap} {context : Context} → IsContext s context → (x : Stmt) → At s IsCompletion (ev.stmt context x)
  pub call : (at : Place) → Calls (ev.call at)
  pub construct : {s : Heap} (at : Place) {f : Value} {arguments : List Value} → IsValue s f → Values s arguments → At s IsValue (ev.construct at f arguments)

-- ---- host calls

take_input_too : {s : Heap} (at : Place) (kind : Kind) (name : List ℕ) → At s IsValue (take_input at kind name)
take_input_too {s = s} at kind name = record { at = λ start fit k d kept caught. inputs at kind name (λ v is. kept.at v s (same fit.valid) (from_outside is)) }

-- an answer, and whether it is thrown
record IsAnswer (s : Heap) (answer : Value × Value) : Type 0 where
  value : IsValue s answer.0

call_host_too : {s : Heap} (at : Place) (kind : Kind) (name : List ℕ) (arguments : List Value) → Steady s (IsAnswer s) (call_host at kind name arguments)
call_host_too at kind name arguments = record { at = λ start fit k d kept caught. calls at kind name arguments (λ v threw is other. kept (v, threw) (record { value = from_outside is })) }

answered_too : {s : Heap} (at : Place) {answer : Value × Value} → IsAnswer s answer → At s IsValue (E.answered at answer)
answered_too at {answer = answer} is = first_any (test_too at answer.1) (λ threw. chooses threw (throws is.value) (gives is.value))

asked_host_too : {s : Heap} (at : Place) (kind : Kind) (name : List ℕ) (arguments : List Value) → At s IsValue (E.asked_host at kind name arguments)
asked_host_too at kind name arguments = first (call_host_too at kind name arguments) (λ answer is. answered_too at is)

module _ {ev : Ev} (a : PartsSound ev) {s : Heap} {context : Context} (is : IsContext s context) where
  pub expr_too : (e : Expr) → At s IsValue (ev.expr context e)
  expr_too e = a.expr is e

  pub values_too : (es : List Expr) → At s Values (each (ev.expr context) es)
  values_too es = all_values (λ t up e. a.expr (later_context up is) e) es

  function_rule_too : (f : FuncNo) → At s IsValue (E.function_rule ev context f)
  unfolding E.function_rule
  function_rule_too f = bind (makes (expression_made ev.functions f is.cells context.strict)) (λ t up o there. gives (is_object (function_there there.is)))

  accessor_function_too : (f : FuncNo) → At s IsFunction (E.accessor_function ev context f)
  accessor_function_too f = makes (function_made ev.functions f is.cells context.strict)

module _ {ev : Ev} (a : PartsSound ev) (at : Place) where
  -- ---- 11.1

  name_rule_too : {s : Heap} (context : Context) (name : List ℕ) → At s IsValue (E.name_rule ev context at name)
  unfolding E.name_rule
  name_rule_too context name = first (resolve_name_too at (a.call at) context name) (λ r is. get_value_too at (a.call at) is)

  elements_too : {s : Heap} {context : Context} → IsContext s context → (o : ObjNo) (n : ℕ) (es : List (Option Expr)) → At s Any (E.elements ev context at o n es)
  elements_too is o n [] = define_too at (a.call at) o length_key (of_value (is_primitive _)) false
  elements_too is o n (None ∷ es) = elements_too is o (n + 1) es
  elements_too is o n (Some e ∷ es) = bind (expr_too a is e) (λ t up v value. bind_any (make_property_too at (a.call at) o (decimal n) value) (λ u more _. elements_too (later_context (up ⊚ more) is) o (n + 1) es))

  array_rule_too : {s : Heap} {context : Context} → IsContext s context → (es : List (Option Expr)) → At s IsValue (E.array_rule ev context at es)
  unfolding E.array_rule
  array_rule_too is es = bind make_array_too (λ t up o there. bind_any (elements_too (later_context up is) o 0 es) (λ u more _. gives (is_object (later_object more there))))

  field_rule_too : {s : Heap} {context : Context} → IsContext s context → (o : ObjNo) (x : Field-F ExprForm Field Expr) → At s Any (E.field_rule ev context at o x)
  unfolding E.field_rule
  field_rule_too is o (Field-F.Value key_at key e) = bind (expr_too a is e) (λ t up v value. make_property_too at (a.call at) o key value)
  field_rule_too is o (Field-F.Getter key_at key f) = bind (accessor_function_too a is f) (λ t up g there. define_too at (a.call at) o key {d = E.accessor_fields (Some (Some g)) None} (record { value = refl; get = there.is; set = refl }) false)
  field_rule_too is o (Field-F.Setter key_at key f) = bind (accessor_function_too a is f) (λ t up g there. define_too at (a.call at) o key {d = E.accessor_fields None (Some (Some g))} (record { value = refl; get = refl; set = there.is }) false)

  object_rule_too : {s : Heap} {context : Context} → IsContext s context → (fields : List Field) → At s IsValue (E.object_rule ev context at fields)
  unfolding E.object_rule
  object_rule_too is fields = bind make_plain_too (λ t up o there. bind_any (in_turns_any (λ u more f. field_rule_too (later_context (up ⊚ more) is) o (out-Field f)) fields) (λ u more _. gives (is_object (later_object more there))))

  -- ---- 11.2

  member_reference_too : {s : Heap} {context : Context} → IsContext s context → (object : Expr) (key : Key) → At s IsReference (E.member_reference ev context at object key)
  unfolding E.member_reference
  member_reference_too {context = context} is object key = bind (expr_too a is object) (λ t up base value. first_any (check_base_too at base) (λ _. gives (is_property value key context.strict)))

  index_reference_too : {s : Heap} {context : Context} → IsContext s context → (object index : Expr) → At s IsReference (E.index_reference ev context at object index)
  unfolding E.index_reference
  index_reference_too {context = context} is object index = bind (expr_too a is object) (λ t up base value. bind (expr_too a (later_context up is) index) (λ u more name text.
      first_any (check_base_too at base) (λ _. first_any (to_key_too at name) (λ key. gives (is_property (later more value) key context.strict)))))

  member_rule_too : {s : Heap} {context : Context} → IsContext s context → (object : Expr) (key : Key) → At s IsValue (E.member_rule ev context at object key)
  unfolding E.member_rule
  member_rule_too is object key = bind (member_reference_too is object key) (λ t up r there. get_value_too at (a.call at) there)

  index_rule_too : {s : Heap} {context : Context} → IsContext s context → (object index : Expr) → At s IsValue (E.index_rule ev context at object index)
  unfolding E.index_rule
  index_rule_too is object index = bind (index_reference_too is object index) (λ t up r there. get_value_too at (a.call at) there)

  call_checked_too : {s : Heap} (f : Value) {this : Value} {arguments : List Value} → IsValue s this → Values s arguments → At s IsValue (E.call_checked ev at f this arguments)
  call_checked_too f is all = first_any (looks_any (E.is_callable f)) (λ callable. chooses callable ((a.call at).at f is all) (throw_error_too TypeError))

  this_too : {s : Heap} {r : Reference} → IsReference s r → IsValue s (E.this_of r)
  this_too (is_name name b strict) = is_undefined
  this_too (is_property is key strict) = is

  call_rule_too : {s : Heap} {context : Context} → IsContext s context → (callee : Expr) (arguments : List Expr) → At s IsValue (E.call_rule ev context at callee arguments)
  unfolding E.call_rule
  call_rule_too is callee arguments = tests (E.is_reference (out-ExprForm callee.form))
      (bind (a.reference is callee) (λ t up r there. bind (get_value_too at (a.call at) there) (λ u more f _. bind (values_too a (later_context (up ⊚ more) is) arguments) (λ v most values all.
      call_checked_too f (this_too (later_reference (more ⊚ most) there)) all))))
      (bind (expr_too a is callee) (λ t up f _. bind (values_too a (later_context up is) arguments) (λ u more values all. call_checked_too f is_undefined all)))

  new_rule_too : {s : Heap} {context : Context} → IsContext s context → (callee : Expr) (arguments : List Expr) → At s IsValue (E.new_rule ev context at callee arguments)
  unfolding E.new_rule
  new_rule_too is callee arguments = bind (expr_too a is callee) (λ t up f value. bind (values_too a (later_context up is) arguments) (λ u more values all. a.construct at (later more value) all))

  -- ---- 11.3 to 11.10

  binary_rule_too : {s : Heap} {context : Context} → IsContext s context → (op : BinaryOp) (x y : Expr) → At s IsValue (E.binary_rule ev context at op x y)
  unfolding E.binary_rule
  binary_rule_too is op x y = bind (expr_too a is x) (λ t up v _. bind (expr_too a (later_context up is) y) (λ u more w value. binary_value_too at (a.call at) op v value))

  delete_rule_too : {s : Heap} {context : Context} → IsContext s context → (e : Expr) → At s IsValue (E.delete_rule ev context at e)
  unfolding E.delete_rule
  delete_rule_too is e = tests (E.is_reference (out-ExprForm e.form)) (bind (a.reference is e) (λ t up r _. delete_reference_too at (a.call at) r)) (bind (expr_too a is e) (λ t up _ _. gives (is_truth true)))

  typeof_rule_too : {s : Heap} {context : Context} → IsContext s context → (e : Expr) → At s IsValue (E.typeof_rule ev context at e)
  unfolding E.typeof_rule
  typeof_rule_too is e = bind (tests (E.is_name (out-ExprForm e.form)) (bind (a.reference is e) (λ t up r there. value_or_undefined_too e.at (a.call e.at) there)) (expr_too a is e))
      (λ t up v _. moves (unary_value_too at unary.TypeOf v))

  unary_rule_too : {s : Heap} {context : Context} → IsContext s context → (op : UnaryOp) (e : Expr) → At s IsValue (E.unary_rule ev context at op e)
  unfolding E.unary_rule
  unary_rule_too is unary.Delete e = delete_rule_too is e
  unary_rule_too is unary.TypeOf e = typeof_rule_too is e
  unary_rule_too is op e = bind (expr_too a is e) (λ t up v _. moves (unary_value_too at op v))

  of_step_too : {s : Heap} (op : StepOp) {old new : Value} → IsValue s old → IsValue s new → IsValue s (E.of_step op old new)
  of_step_too stepping.PreUp old new = new
  of_step_too stepping.PreDown old new = new
  of_step_too stepping.PostUp old new = old
  of_step_too stepping.PostDown old new = old

  step_rule_too : {s : Heap} {context : Context} → IsContext s context → (op : StepOp) (target : Expr) → At s IsValue (E.step_rule ev context at op target)
  unfolding E.step_rule
  step_rule_too is op target = bind (a.reference is target) (λ t up r there. bind (get_value_too at (a.call at) there) (λ u more v _. first (unary_value_too at unary.Plus v) (λ old value.
      bind (binary_value_too at (a.call at) (E.stepped op) old (is_primitive _)) (λ w most new result. bind_any (put_value_too at (a.call at) (later_reference (more ⊚ most) there) result) (λ x last _.
      gives (of_step_too op (later (most ⊚ last) value) (later last result)))))))

  -- ---- 11.11 to 11.14

  logic_rule_too : {s : Heap} {context : Context} → IsContext s context → (op : LogicOp) (x y : Expr) → At s IsValue (E.logic_rule ev context at op x y)
  unfolding E.logic_rule
  logic_rule_too is logic.And x y = bind (expr_too a is x) (λ t up v value. first_any (test_too at v) (λ b. chooses b (expr_too a (later_context up is) y) (gives value)))
  logic_rule_too is logic.Or x y = bind (expr_too a is x) (λ t up v value. first_any (test_too at v) (λ b. chooses b (gives value) (expr_too a (later_context up is) y)))

  conditional_rule_too : {s : Heap} {context : Context} → IsContext s context → (e x y : Expr) → At s IsValue (E.conditional_rule ev context at e x y)
  unfolding E.conditional_rule
  conditional_rule_too is e x y = bind (expr_too a is e) (λ t up v _. first_any (test_too at v) (λ b. chooses b (expr_too a (later_context up is) x) (expr_too a (later_context up is) y)))

  assign_rule_too : {s : Heap} {context : Context} → IsContext s context → (target e : Expr) → At s IsValue (E.assign_rule ev context at target e)
  unfolding E.assign_rule
  assign_rule_too is target e = bind (a.reference is target) (λ t up r there. bind (expr_too a (later_context up is) e) (λ u more v value. bind_any (put_value_too at (a.call at) (later_reference more there) value) (λ w most _.
      gives (later most value))))

  compound_rule_too : {s : Heap} {context : Context} → IsContext s context → (op : BinaryOp) (target e : Expr) → At s IsValue (E.compound_rule ev context at op target e)
  unfolding E.compound_rule
  compound_rule_too is op target e = bind (a.reference is target) (λ t up r there. bind (get_value_too at (a.call at) there) (λ u more old _. bind (expr_too a (later_context (up ⊚ more) is) e) (λ w most v value.
      bind (binary_value_too at (a.call at) op old value) (λ x last new result. bind_any (put_value_too at (a.call at) (later_reference (more ⊚ most ⊚ last) there) result) (λ y end _. gives (later end result))))))

  comma_rule_too : {s : Heap} {context : Context} → IsContext s context → (x y : Expr) → At s IsValue (E.comma_rule ev context x y)
  unfolding E.comma_rule
  comma_rule_too is x y = bind (expr_too a is x) (λ t up _ _. expr_too a (later_context up is) y)

  host_rule_too : {s : Heap} {context : Context} → IsContext s context → (kind : Kind) (name : List ℕ) (arguments : List Expr) → At s IsValue (E.host_rule ev context at kind name arguments)
  unfolding E.host_rule
  host_rule_too is kind name arguments = bind (values_too a is arguments) (λ t up values _. tests (list_any operators.is_object values) (left_at (Leaves HostArgument) at) (asked_host_too at kind name values))

  -- ---- all forms

  pub expr_rule_too : {s : Heap} {context : Context} → IsContext s context → (x : ExprForm-F ExprForm Field Expr) → At s IsValue (E.expr_rule ev context at x)
  unfolding E.expr_rule
  expr_rule_too is ExprForm-F.This = gives is.this
  expr_rule_too {context = context} is (ExprForm-F.Name name) = name_rule_too context name
  expr_rule_too is (ExprForm-F.Literal value) = gives (is_primitive value)
  expr_rule_too is (ExprForm-F.ArrayLit es) = array_rule_too is es
  expr_rule_too is (ExprForm-F.ObjectLit fields) = object_rule_too is fields
  expr_rule_too is (ExprForm-F.Func f) = function_rule_too a is f
  expr_rule_too is (ExprForm-F.Member object key) = member_rule_too is object key
  expr_rule_too is (ExprForm-F.Index object index) = index_rule_too is object index
  expr_rule_too is (ExprForm-F.Call callee arguments) = call_rule_too is callee arguments
  expr_rule_too is (ExprForm-F.New callee arguments) = new_rule_too is callee arguments
  expr_rule_too is (ExprForm-F.Unary op e) = unary_rule_too is op e
  expr_rule_too is (ExprForm-F.Binary op e f) = binary_rule_too is op e f
  expr_rule_too is (ExprForm-F.Logic op e f) = logic_rule_too is op e f
  expr_rule_too is (ExprForm-F.Conditional e f g) = conditional_rule_too is e f g
  expr_rule_too is (ExprForm-F.Assign target None e) = assign_rule_too is target e
  expr_rule_too is (ExprForm-F.Assign target (Some op) e) = compound_rule_too is op target e
  expr_rule_too is (ExprForm-F.Step op target) = step_rule_too is op target
  expr_rule_too is (ExprForm-F.Comma e f) = comma_rule_too is e f
  expr_rule_too is (ExprForm-F.Input kind name) = take_input_too at kind name
  expr_rule_too is (ExprForm-F.HostCall kind name arguments) = host_rule_too is kind name arguments

  pub reference_rule_too : {s : Heap} {context : Context} → IsContext s context → (x : ExprForm-F ExprForm Field Expr) → At s IsReference (E.reference_rule ev context at x)
  unfolding E.reference_rule
  reference_rule_too {context = context} is (ExprForm-F.Name name) = moves (resolve_name_too at (a.call at) context name)
  reference_rule_too is (ExprForm-F.Member object key) = member_reference_too is object key
  reference_rule_too is (ExprForm-F.Index object index) = index_reference_too is object index
  reference_rule_too is _ = throw_error_too ReferenceError
