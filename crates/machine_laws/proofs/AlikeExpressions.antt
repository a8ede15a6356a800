-- The rules of expressions do alike, where the evaluation of their parts does.
use Rattle.std.proofs.Common.{◌≡◌, ℕ, ◌+◌, true, false, List, [], ◌∷◌, subst}
use Rattle.std.specs.Prelude.{codes, Option, Some, None, Result}
use Rattle.std.specs.Fmt.{decimal}
use Rattle.std.specs.List.{list_any}
use Rattle.js_value.specs.Operators.{binary_row, unary_row}
use Rattle.js_value.specs.declared.operator.BinaryOp.{BinaryOp}
use Rattle.js_value.specs.declared.operator.BinaryOp.TheVariants as binary
use Rattle.js_value.specs.declared.operator.UnaryOp.{UnaryOp}
use Rattle.js_value.specs.declared.operator.UnaryOp.TheVariants as unary
use Rattle.js_value.specs.declared.place.FuncNo.{FuncNo}
use Rattle.js_value.specs.declared.place.Place.{Place}
use Rattle.js_value.specs.declared.primitive.Kind.{Kind}
use Rattle.js_value.specs.declared.primitive.Primitive.{Primitive}
use Rattle.js_value.specs.declared.why.Why.{Why}
use Rattle.js_value.specs.declared.why.Why.TheVariants.{HostArgument}
use Rattle.js_tree.specs.declared.expression.Expr.{Expr}
use Rattle.js_tree.specs.declared.expression.Field.{Field, out-Field}
use Rattle.js_tree.specs.declared.expression.ExprForm.{ExprForm, out-ExprForm}
use Rattle.js_tree.specs.declared.expression.ExprForm.TheOpen.{ExprForm-F, Field-F}
use Rattle.js_tree.specs.declared.expression.LogicOp.{LogicOp}
use Rattle.js_tree.specs.declared.expression.LogicOp.TheVariants as logic
use Rattle.js_tree.specs.declared.expression.StepOp.{StepOp}
use Rattle.js_tree.specs.declared.statement.Stmt.{Stmt}
use Rattle.plain_heap.specs.Values.{Value, Prim, Object, ObjNo, undefined, number, truth}
use Rattle.plain_heap.specs.Heap.{Key}
use Rattle.plain_heap.specs.Methods.{value_field, length_key}
use Rattle.js_machine.specs.Machine.Expressions as E
use Rattle.js_machine.specs.Machine.Expressions.{Ev}
use Rattle.js_machine.specs.Machine.References.{Context, Reference, NameReference, PropertyReference, Nowhere}
use Rattle.js_machine.specs.Machine.RealmObjects.{TypeError, ReferenceError, object_prototype, array_prototype}
use Rattle.js_machine.specs.Machine.Objects as objects
use Rattle.js_machine.specs.Machine.Operators as operators
use Rattle.js_machine.specs.Machine.Events.{◌>>=◌, Run, each, make, give}
use Rattle.plain_heap.specs.Heap.{Plain, Array}
use Rattle.machine_laws.proofs.Alike.{TreeRelation, Alike, Stepped, LoopsAlike, bind, plainly, gives, left_at, looks, takes_input, calls_host, chooses, tests, in_turns, eaches, makes, throws}
use Rattle.machine_laws.proofs.AlikeObjects.{CallsAlike, site_of, make_with_too, throw_error_too, test_too, to_key_too, operate_too, operate_one_too, check_base_too}
use Rattle.machine_laws.proofs.AlikeObjects.{get_too, define_too, make_property_too, has_property_too, delete_of_too, resolve_name_too, get_value_too, put_value_too}
use Rattle.js_machine.specs.Machine.Creating.{function_expression, function}

module _ (w : TreeRelation) where
  is_instance_too : (v x : Value) → Alike w (E.is_instance v x) (E.is_instance v x)
  is_instance_too (Object o) (Object prototype) = bind w (looks w (objects.is_prototype_of prototype o)) (λ is. gives w (truth is))
  is_instance_too v x = throw_error_too w TypeError

module _ (w : TreeRelation) (at : Place) where
  unary_by_row_too : (op : UnaryOp) (v : Value) (row : Option (Primitive → Result Primitive Why)) → Alike w (E.unary_by_row at op v row) (E.unary_by_row at op v row)
  unary_by_row_too op v (Some row) = operate_one_too w at op row v
  unary_by_row_too op v None = gives w (truth true)

  unary_value_too : (op : UnaryOp) (v : Value) → Alike w (E.unary_value at op v) (E.unary_value at op v)
  unary_value_too op v = unary_by_row_too op v (unary_row op)

module _ (w : TreeRelation) (at : Place) {call other : Value → Value → List Value → Run Value} (calls : CallsAlike w call other) where
  -- ---- operators

  in_value_too : (name v : Value) → Alike w (E.in_value (site_of at call) name v) (E.in_value (site_of at other) name v)
  in_value_too name (Object o) = bind w (to_key_too w at name) (λ key. bind w (has_property_too w at calls o key) (λ has. gives w (truth has)))
  in_value_too name v = throw_error_too w TypeError

  has_instance_too : (f : ObjNo) (v : Value) → Alike w (E.has_instance (site_of at call) f v) (E.has_instance (site_of at other) f v)
  has_instance_too f (Object o) = bind w (get_too w at calls f (codes "prototype")) (λ prototype. is_instance_too w (Object o) prototype)
  has_instance_too f v = gives w (truth false)

  instance_value_too : (v x : Value) → Alike w (E.instance_value (site_of at call) v x) (E.instance_value (site_of at other) v x)
  instance_value_too v (Object f) = bind w (looks w (E.is_callable (Object f))) (λ callable. chooses w callable (has_instance_too f v) (throw_error_too w TypeError))
  instance_value_too v x = throw_error_too w TypeError

  object_operator_too : (op : BinaryOp) (a b : Value) → Alike w (E.object_operator (site_of at call) op a b) (E.object_operator (site_of at other) op a b)
  object_operator_too binary.In a b = in_value_too a b
  object_operator_too op a b = instance_value_too a b

  by_row_too : (op : BinaryOp) (a b : Value) (row : Option (Primitive → Primitive → Result Primitive Why)) → Alike w (E.by_row (site_of at call) op a b row) (E.by_row (site_of at other) op a b row)
  by_row_too op a b (Some row) = operate_too w at op row a b
  by_row_too op a b None = object_operator_too op a b

  pub binary_value_too : (op : BinaryOp) (a b : Value) → Alike w (E.binary_value (site_of at call) op a b) (E.binary_value (site_of at other) op a b)
  binary_value_too op a b = by_row_too op a b (binary_row op)

  delete_reference_too : (r : Reference) → Alike w (E.delete_reference (site_of at call) r) (E.delete_reference (site_of at other) r)
  delete_reference_too (PropertyReference base key strict) = bind w (delete_of_too w at calls base key strict) (λ done. gives w (truth done))
  delete_reference_too (NameReference name b strict) = gives w (truth false)

  value_or_undefined_too : (r : Reference) → Alike w (E.value_or_undefined (site_of at call) r) (E.value_or_undefined (site_of at other) r)
  value_or_undefined_too (NameReference name Nowhere strict) = gives w undefined
  value_or_undefined_too r = get_value_too w at calls r

-- Two ways to evaluate parts: both take a step where a node is evaluated, and loops do alike where their turns do.
pub record PartsAlike (w : TreeRelation) (ev other : Ev) : Type 0 where
  pub expr : (context : Context) (e : Expr) → Stepped w (ev.expr context e) (other.expr context e)
  pub reference : (context : Context) (e : Expr) → Alike w (ev.reference context e) (other.reference context e)
  pub stmt : (context : Context) (x : Stmt) → Stepped w (ev.stmt context x) (other.stmt context x)
  pub call : (at : Place) → CallsAlike w (ev.call at) (other.call at)
  pub construct : (at : Place) (f : Value) (arguments : List Value) → Alike w (ev.construct at f arguments) (other.construct at f arguments)
  pub functions : ev.functions ≡ other.functions
  pub loops : LoopsAlike w ev.turns other.turns

module _ (w : TreeRelation) {ev other : Ev} (a : PartsAlike w ev other) (context : Context) where
  -- ---- functions as values

  function_rule_too : (f : FuncNo) → Alike w (E.function_rule ev context f) (E.function_rule other context f)
  unfolding E.function_rule
  function_rule_too f =
      subst (λ functions. Alike w (E.function_rule ev context f) (make (function_expression functions f context.environment context.strict) >>= (λ o. give (Object o))))
      a.functions (bind w (makes w (function_expression ev.functions f context.environment context.strict)) (λ o. gives w (Object o)))

  accessor_function_too : (f : FuncNo) → Alike w (E.accessor_function ev context f) (E.accessor_function other context f)
  accessor_function_too f =
      subst (λ functions. Alike w (make (function ev.functions f context.environment context.strict)) (make (function functions f context.environment context.strict)))
      a.functions (makes w (function ev.functions f context.environment context.strict))

  -- ---- parts

  pub expr_too : (e : Expr) → Alike w (ev.expr context e) (other.expr context e)
  expr_too e = plainly w (a.expr context e)

  values_too : (es : List Expr) → Alike w (each (ev.expr context) es) (each (other.expr context) es)
  values_too es = eaches w expr_too es

module _ (w : TreeRelation) {ev other : Ev} (a : PartsAlike w ev other) (context : Context) (at : Place) where
  -- ---- 11.1

  name_rule_too : (name : List ℕ) → Alike w (E.name_rule ev context at name) (E.name_rule other context at name)
  unfolding E.name_rule
  name_rule_too name = bind w (resolve_name_too w at (a.call at) context name) (λ r. get_value_too w at (a.call at) r)

  elements_too : (o : ObjNo) (n : ℕ) (es : List (Option Expr)) → Alike w (E.elements ev context at o n es) (E.elements other context at o n es)
  elements_too o n [] = define_too w at (a.call at) o length_key (value_field (number n)) false
  elements_too o n (None ∷ es) = elements_too o (n + 1) es
  elements_too o n (Some e ∷ es) = bind w (expr_too w a context e) (λ v. bind w (make_property_too w at (a.call at) o (decimal n) v) (λ _. elements_too o (n + 1) es))

  array_rule_too : (es : List (Option Expr)) → Alike w (E.array_rule ev context at es) (E.array_rule other context at es)
  unfolding E.array_rule
  array_rule_too es = bind w (make_with_too w Array array_prototype) (λ o. bind w (elements_too o 0 es) (λ _. gives w (Object o)))

  field_rule_too : (o : ObjNo) (f : Field-F ExprForm Field Expr) → Alike w (E.field_rule ev context at o f) (E.field_rule other context at o f)
  unfolding E.field_rule
  field_rule_too o (Field-F.Value key_at key e) = bind w (expr_too w a context e) (λ v. make_property_too w at (a.call at) o key v)
  field_rule_too o (Field-F.Getter key_at key f) =
      bind w (accessor_function_too w a context f) (λ g. define_too w at (a.call at) o key (E.accessor_fields (Some (Some g)) None) false)
  field_rule_too o (Field-F.Setter key_at key f) =
      bind w (accessor_function_too w a context f) (λ g. define_too w at (a.call at) o key (E.accessor_fields None (Some (Some g))) false)

  object_rule_too : (fields : List Field) → Alike w (E.object_rule ev context at fields) (E.object_rule other context at fields)
  unfolding E.object_rule
  object_rule_too fields = bind w (make_with_too w Plain object_prototype) (λ o. bind w (in_turns w (λ f. field_rule_too o (out-Field f)) fields) (λ _. gives w (Object o)))

  -- ---- 11.2

  member_reference_too : (object : Expr) (key : Key) → Alike w (E.member_reference ev context at object key) (E.member_reference other context at object key)
  unfolding E.member_reference
  member_reference_too object key = bind w (expr_too w a context object) (λ base. bind w (check_base_too w at base) (λ _. gives w (PropertyReference base key context.strict)))

  index_reference_too : (object index : Expr) → Alike w (E.index_reference ev context at object index) (E.index_reference other context at object index)
  unfolding E.index_reference
  index_reference_too object index = bind w (expr_too w a context object) (λ base. bind w (expr_too w a context index) (λ name.
      bind w (check_base_too w at base) (λ _. bind w (to_key_too w at name) (λ key. gives w (PropertyReference base key context.strict)))))

  member_rule_too : (object : Expr) (key : Key) → Alike w (E.member_rule ev context at object key) (E.member_rule other context at object key)
  unfolding E.member_rule
  member_rule_too object key = bind w (member_reference_too object key) (λ r. get_value_too w at (a.call at) r)

  index_rule_too : (object index : Expr) → Alike w (E.index_rule ev context at object index) (E.index_rule other context at object index)
  unfolding E.index_rule
  index_rule_too object index = bind w (index_reference_too object index) (λ r. get_value_too w at (a.call at) r)

  call_checked_too : (f this : Value) (arguments : List Value) → Alike w (E.call_checked ev at f this arguments) (E.call_checked other at f this arguments)
  call_checked_too f this arguments = bind w (looks w (E.is_callable f)) (λ callable. chooses w callable ((a.call at).at f this arguments) (throw_error_too w TypeError))

  call_reference_too : (callee : Expr) (arguments : List Expr) → Alike w (E.call_reference ev context at callee arguments) (E.call_reference other context at callee arguments)
  call_reference_too callee arguments = bind w (a.reference context callee) (λ r. bind w (get_value_too w at (a.call at) r) (λ f. bind w (values_too w a context arguments) (λ values.
      call_checked_too f (E.this_of r) values)))

  call_value_too : (callee : Expr) (arguments : List Expr) → Alike w (E.call_value ev context at callee arguments) (E.call_value other context at callee arguments)
  call_value_too callee arguments = bind w (expr_too w a context callee) (λ f. bind w (values_too w a context arguments) (λ values. call_checked_too f undefined values))

  call_rule_too : (callee : Expr) (arguments : List Expr) → Alike w (E.call_rule ev context at callee arguments) (E.call_rule other context at callee arguments)
  unfolding E.call_rule
  call_rule_too callee arguments = tests w (E.is_reference (out-ExprForm callee.form)) (call_reference_too callee arguments) (call_value_too callee arguments)

  new_rule_too : (callee : Expr) (arguments : List Expr) → Alike w (E.new_rule ev context at callee arguments) (E.new_rule other context at callee arguments)
  unfolding E.new_rule
  new_rule_too callee arguments = bind w (expr_too w a context callee) (λ f. bind w (values_too w a context arguments) (λ values. a.construct at f values))

  -- ---- 11.3 to 11.10

  binary_rule_too : (op : BinaryOp) (x y : Expr) → Alike w (E.binary_rule ev context at op x y) (E.binary_rule other context at op x y)
  unfolding E.binary_rule
  binary_rule_too op x y = bind w (expr_too w a context x) (λ v. bind w (expr_too w a context y) (λ u. binary_value_too w at (a.call at) op v u))

  delete_rule_too : (e : Expr) → Alike w (E.delete_rule ev context at e) (E.delete_rule other context at e)
  unfolding E.delete_rule
  delete_rule_too e = tests w (E.is_reference (out-ExprForm e.form)) (bind w (a.reference context e) (λ r. delete_reference_too w at (a.call at) r))
      (bind w (expr_too w a context e) (λ _. gives w (truth true)))

  operand_of_typeof_too : (e : Expr) → Alike w (E.operand_of_typeof ev context e) (E.operand_of_typeof other context e)
  operand_of_typeof_too e = tests w (E.is_name (out-ExprForm e.form)) (bind w (a.reference context e) (λ r. value_or_undefined_too w e.at (a.call e.at) r)) (expr_too w a context e)

  step_rule_too : (op : StepOp) (target : Expr) → Alike w (E.step_rule ev context at op target) (E.step_rule other context at op target)
  unfolding E.step_rule
  step_rule_too op target = bind w (a.reference context target) (λ r. bind w (get_value_too w at (a.call at) r) (λ v. bind w (unary_value_too w at unary.Plus v) (λ old.
      bind w (binary_value_too w at (a.call at) (E.stepped op) old (number 1)) (λ new. bind w (put_value_too w at (a.call at) r new) (λ _. gives w (E.of_step op old new))))))

  typeof_rule_too : (e : Expr) → Alike w (E.typeof_rule ev context at e) (E.typeof_rule other context at e)
  unfolding E.typeof_rule
  typeof_rule_too e = bind w (operand_of_typeof_too e) (λ v. unary_value_too w at unary.TypeOf v)

  unary_rule_too : (op : UnaryOp) (e : Expr) → Alike w (E.unary_rule ev context at op e) (E.unary_rule other context at op e)
  unfolding E.unary_rule
  unary_rule_too unary.Delete e = delete_rule_too e
  unary_rule_too unary.TypeOf e = typeof_rule_too e
  unary_rule_too op e = bind w (expr_too w a context e) (λ v. unary_value_too w at op v)

  -- ---- 11.11 to 11.14, and host calls

  logic_rule_too : (op : LogicOp) (x y : Expr) → Alike w (E.logic_rule ev context at op x y) (E.logic_rule other context at op x y)
  unfolding E.logic_rule
  logic_rule_too logic.And x y = bind w (expr_too w a context x) (λ v. bind w (test_too w at v) (λ t. chooses w t (expr_too w a context y) (gives w v)))
  logic_rule_too logic.Or x y = bind w (expr_too w a context x) (λ v. bind w (test_too w at v) (λ t. chooses w t (gives w v) (expr_too w a context y)))

  conditional_rule_too : (e x y : Expr) → Alike w (E.conditional_rule ev context at e x y) (E.conditional_rule other context at e x y)
  unfolding E.conditional_rule
  conditional_rule_too e x y = bind w (expr_too w a context e) (λ v. bind w (test_too w at v) (λ t. chooses w t (expr_too w a context x) (expr_too w a context y)))

  assign_rule_too : (target e : Expr) → Alike w (E.assign_rule ev context at target e) (E.assign_rule other context at target e)
  unfolding E.assign_rule
  assign_rule_too target e = bind w (a.reference context target) (λ r. bind w (expr_too w a context e) (λ v. bind w (put_value_too w at (a.call at) r v) (λ _. gives w v)))

  compound_rule_too : (op : BinaryOp) (target e : Expr) → Alike w (E.compound_rule ev context at op target e) (E.compound_rule other context at op target e)
  unfolding E.compound_rule
  compound_rule_too op target e = bind w (a.reference context target) (λ r. bind w (get_value_too w at (a.call at) r) (λ old. bind w (expr_too w a context e) (λ v.
      bind w (binary_value_too w at (a.call at) op old v) (λ new. bind w (put_value_too w at (a.call at) r new) (λ _. gives w new)))))

  comma_rule_too : (x y : Expr) → Alike w (E.comma_rule ev context x y) (E.comma_rule other context x y)
  unfolding E.comma_rule
  comma_rule_too x y = bind w (expr_too w a context x) (λ _. expr_too w a context y)

  answered_too : (answer : Value × Value) → Alike w (E.answered at answer) (E.answered at answer)
  answered_too answer = bind w (test_too w at answer.1) (λ threw. chooses w threw (throws w answer.0) (gives w answer.0))

  host_rule_too : (kind : Kind) (name : List ℕ) (arguments : List Expr) → Alike w (E.host_rule ev context at kind name arguments) (E.host_rule other context at kind name arguments)
  unfolding E.host_rule
  host_rule_too kind name arguments = bind w (values_too w a context arguments) (λ values.
      tests w (list_any operators.is_object values) (left_at w HostArgument at) (bind w (calls_host w at kind name values) answered_too))

  -- ---- all forms

  pub expr_rule_too : (x : ExprForm-F ExprForm Field Expr) → Alike w (E.expr_rule ev context at x) (E.expr_rule other context at x)
  unfolding E.expr_rule
  expr_rule_too ExprForm-F.This = gives w context.this
  expr_rule_too (ExprForm-F.Name name) = name_rule_too name
  expr_rule_too (ExprForm-F.Literal value) = gives w (Prim value)
  expr_rule_too (ExprForm-F.ArrayLit es) = array_rule_too es
  expr_rule_too (ExprForm-F.ObjectLit fields) = object_rule_too fields
  expr_rule_too (ExprForm-F.Func f) = function_rule_too w a context f
  expr_rule_too (ExprForm-F.Member object key) = member_rule_too object key
  expr_rule_too (ExprForm-F.Index object index) = index_rule_too object index
  expr_rule_too (ExprForm-F.Call callee arguments) = call_rule_too callee arguments
  expr_rule_too (ExprForm-F.New callee arguments) = new_rule_too callee arguments
  expr_rule_too (ExprForm-F.Unary op x) = unary_rule_too op x
  expr_rule_too (ExprForm-F.Binary op x y) = binary_rule_too op x y
  expr_rule_too (ExprForm-F.Logic op x y) = logic_rule_too op x y
  expr_rule_too (ExprForm-F.Conditional e x y) = conditional_rule_too e x y
  expr_rule_too (ExprForm-F.Assign target None e) = assign_rule_too target e
  expr_rule_too (ExprForm-F.Assign target (Some op) e) = compound_rule_too op target e
  expr_rule_too (ExprForm-F.Step op target) = step_rule_too op target
  expr_rule_too (ExprForm-F.Comma x y) = comma_rule_too x y
  expr_rule_too (ExprForm-F.Input kind name) = takes_input w at kind name
  expr_rule_too (ExprForm-F.HostCall kind name arguments) = host_rule_too kind name arguments

  pub reference_rule_too : (x : ExprForm-F ExprForm Field Expr) → Alike w (E.reference_rule ev context at x) (E.reference_rule other context at x)
  unfolding E.reference_rule
  reference_rule_too (ExprForm-F.Name name) = resolve_name_too w at (a.call at) context name
  reference_rule_too (ExprForm-F.Member object key) = member_reference_too object key
  reference_rule_too (ExprForm-F.Index object index) = index_reference_too object index
  reference_rule_too _ = throw_error_too w ReferenceError
