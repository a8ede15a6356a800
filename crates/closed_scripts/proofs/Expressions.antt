-- The rules of expressions are quiet, where the evaluation of their parts is.
use Rattle.std.proofs.Common.{ℕ, ◌+◌, true, false, List, ◌∷◌}
use Rattle.std.specs.Prelude.{codes, Option, Some, None, Result}
use Rattle.std.specs.Fmt.{decimal}
use Rattle.js_value.specs.Operators.{binary_row, unary_row}
use Rattle.js_value.specs.declared.operator.BinaryOp.{BinaryOp}
use Rattle.js_value.specs.declared.operator.BinaryOp.TheVariants as binary
use Rattle.js_value.specs.declared.operator.UnaryOp.{UnaryOp}
use Rattle.js_value.specs.declared.operator.UnaryOp.TheVariants as unary
use Rattle.js_value.specs.declared.place.FuncNo.{FuncNo}
use Rattle.js_value.specs.declared.place.Place.{Place}
use Rattle.js_value.specs.declared.primitive.Primitive.{Primitive}
use Rattle.js_value.specs.declared.why.Why.{Why}
use Rattle.js_tree.specs.declared.expression.Expr.{Expr}
use Rattle.js_tree.specs.declared.expression.Field.{Field, out-Field}
use Rattle.js_tree.specs.declared.expression.ExprForm.{ExprForm, out-ExprForm}
use Rattle.js_tree.specs.declared.expression.ExprForm.TheOpen.{ExprForm-F, Field-F}
use Rattle.js_tree.specs.declared.expression.LogicOp.{LogicOp}
use Rattle.js_tree.specs.declared.expression.LogicOp.TheVariants as logic
use Rattle.js_tree.specs.declared.expression.StepOp.{StepOp}
use Rattle.js_tree.specs.declared.expression.StepOp.TheVariants as stepping
use Rattle.js_tree.specs.declared.statement.Stmt.{Stmt}
use Rattle.plain_heap.specs.Values.{Value, Prim, Object, ObjNo}
use Rattle.plain_heap.specs.Heap.{Key, Plain, Array}
use Rattle.plain_heap.specs.Methods.{length_key}
use Rattle.js_machine.specs.Machine.Expressions as E
use Rattle.js_machine.specs.Machine.Expressions.{Ev, Completion, Normal, Break, Continue, Return}
use Rattle.js_machine.specs.Machine.References.{Context, Reference, NameReference, PropertyReference, InCell, OnGlobal, Nowhere}
use Rattle.js_machine.specs.Machine.RealmObjects.{TypeError, ReferenceError, object_prototype, array_prototype}
use Rattle.js_machine.specs.Machine.Objects as objects
use Rattle.js_machine.specs.Machine.Events.{Run, each}
use Rattle.closed_scripts.specs.Known.{Each, none, also, IsKnown, is_primitive, is_object}
use Rattle.closed_scripts.proofs.Closing.{ClosedExpr, ClosedStmt, ClosedField, ClosedForm, ClosedFieldForm, ClosedElement, closed_field}
use Rattle.closed_scripts.proofs.Quiet.{Quiet, Any, Given, nothing, just, bind, bind_any, gives, looks_any, chooses, tests, in_turns, eaches, makes}
use Rattle.closed_scripts.proofs.Heaps.{AnyNo, of_value}
use Rattle.closed_scripts.proofs.Making.{expression_made, function_made}
use Rattle.closed_scripts.proofs.Objects.{CallsQuiet, Values, IsReference, is_name, is_property, site_of, known_undefined, known_truth, make_with_too, throw_error_too, test_too, to_key_too, operate_too, operate_one_too, check_base_too, get_too, define_too, make_property_too, has_property_too, delete_of_too, resolve_name_too, get_value_too, put_value_too}

is_instance_too : (v x : Value) → Quiet IsKnown (E.is_instance v x)
is_instance_too (Object o) (Object prototype) = bind_any (looks_any (objects.is_prototype_of prototype o)) (λ is. gives (known_truth is))
is_instance_too v x = throw_error_too TypeError

module _ (at : Place) where
  unary_by_row_too : (op : UnaryOp) {v : Value} → IsKnown v → (row : Option (Primitive → Result Primitive Why)) → Quiet IsKnown (E.unary_by_row at op v row)
  unary_by_row_too op is (Some row) = operate_one_too at op row is
  unary_by_row_too op is None = gives (known_truth true)

  unary_value_too : (op : UnaryOp) {v : Value} → IsKnown v → Quiet IsKnown (E.unary_value at op v)
  unary_value_too op is = unary_by_row_too op is (unary_row op)

module _ (at : Place) {call : Value → Value → List Value → Run Value} (calls : CallsQuiet call) where
  -- ---- operators

  in_value_too : {name : Value} → IsKnown name → (v : Value) → Quiet IsKnown (E.in_value (site_of at call) name v)
  in_value_too is (Object o) = bind_any (to_key_too at is) (λ key. bind_any (has_property_too at calls o key) (λ has. gives (known_truth has)))
  in_value_too is v = throw_error_too TypeError

  has_instance_too : (f : ObjNo) (v : Value) → Quiet IsKnown (E.has_instance (site_of at call) f v)
  has_instance_too f (Object o) = bind (get_too at calls f (codes "prototype")) (λ prototype _. is_instance_too (Object o) prototype)
  has_instance_too f v = gives (known_truth false)

  instance_value_too : (v x : Value) → Quiet IsKnown (E.instance_value (site_of at call) v x)
  instance_value_too v (Object f) = bind_any (looks_any (E.is_callable (Object f))) (λ callable. chooses callable (has_instance_too f v) (throw_error_too TypeError))
  instance_value_too v x = throw_error_too TypeError

  object_operator_too : (op : BinaryOp) {a b : Value} → IsKnown a → IsKnown b → Quiet IsKnown (E.object_operator (site_of at call) op a b)
  object_operator_too binary.In {b = b} is other = in_value_too is b
  object_operator_too op {a = a} {b = b} is other = instance_value_too a b

  by_row_too : (op : BinaryOp) {a b : Value} → IsKnown a → IsKnown b → (row : Option (Primitive → Primitive → Result Primitive Why)) → Quiet IsKnown (E.by_row (site_of at call) op a b row)
  by_row_too op a b (Some row) = operate_too at op row a b
  by_row_too op a b None = object_operator_too op a b

  pub binary_value_too : (op : BinaryOp) {a b : Value} → IsKnown a → IsKnown b → Quiet IsKnown (E.binary_value (site_of at call) op a b)
  binary_value_too op a b = by_row_too op a b (binary_row op)

  delete_reference_too : (r : Reference) → Quiet IsKnown (E.delete_reference (site_of at call) r)
  delete_reference_too (PropertyReference base key strict) = bind_any (delete_of_too at calls base key strict) (λ done. gives (known_truth done))
  delete_reference_too (NameReference name b strict) = gives (known_truth false)

  value_or_undefined_too : {r : Reference} → IsReference r → Quiet IsKnown (E.value_or_undefined (site_of at call) r)
  value_or_undefined_too (is_name name Nowhere strict) = gives known_undefined
  value_or_undefined_too (is_name name (InCell c) strict) = get_value_too at calls (is_name name (InCell c) strict)
  value_or_undefined_too (is_name name OnGlobal strict) = get_value_too at calls (is_name name OnGlobal strict)
  value_or_undefined_too (is_property is key strict) = get_value_too at calls (is_property is key strict)

-- ---- contexts, and how statements end

pub record KnownContext (context : Context) : Type 0 where
  pub this : IsKnown context.this

pub data IsCompletion : Completion → Type 0 where
  is_normal : IsCompletion Normal
  is_break : IsCompletion Break
  is_continue : IsCompletion Continue
  is_return : {v : Value} → IsKnown v → IsCompletion (Return v)

-- parts that are quiet
pub record PartsQuiet (ev : Ev) : Type 0 where
  pub expr : (context : Context) → KnownContext context → (e : Expr) → ClosedExpr e → Quiet IsKnown (ev.expr context e)
  pub reference : (context : Context) → KnownContext context → (e : Expr) → ClosedExpr e → Quiet IsReference (ev.reference context e)
  pub stmt : (context : Context) → KnownContext context → (x : Stmt) → ClosedStmt x → Quiet IsCompletion (ev.stmt context x)
  pub call : (at : Place) → CallsQuiet (ev.call at)
  pub construct : (at : Place) (f : Value) (arguments : List Value) → Values arguments → Quiet IsKnown (ev.construct at f arguments)

module _ {ev : Ev} (a : PartsQuiet ev) {context : Context} (known : KnownContext context) where
  pub expr_too : {e : Expr} → ClosedExpr e → Quiet IsKnown (ev.expr context e)
  expr_too closed = a.expr context known _ closed

  values_too : {es : List Expr} → Each ClosedExpr es → Quiet Values (each (ev.expr context) es)
  values_too all = eaches (a.expr context known) all

  function_rule_too : (f : FuncNo) → Quiet IsKnown (E.function_rule ev context f)
  unfolding E.function_rule
  function_rule_too f = bind (makes (expression_made ev.functions f context.environment context.strict)) (λ o _. gives (is_object o))

  accessor_function_too : (f : FuncNo) → Quiet AnyNo (E.accessor_function ev context f)
  accessor_function_too f = makes (function_made ev.functions f context.environment context.strict)

module _ {ev : Ev} (a : PartsQuiet ev) {context : Context} (known : KnownContext context) (at : Place) where
  -- ---- 11.1

  name_rule_too : (name : List ℕ) → Quiet IsKnown (E.name_rule ev context at name)
  unfolding E.name_rule
  name_rule_too name = bind (resolve_name_too at (a.call at) context name) (λ r is. get_value_too at (a.call at) is)

  element_too : (o : ObjNo) (n : ℕ) {e : Option Expr} (es : List (Option Expr)) → Given ClosedExpr e → Quiet Any (E.elements ev context at o (n + 1) es) → Quiet Any (E.elements ev context at o n (e ∷ es))
  element_too o n es nothing rest = rest
  element_too o n es (just closed) rest = bind (expr_too a known closed) (λ v is. bind_any (make_property_too at (a.call at) o (decimal n) is) (λ _. rest))

  elements_too : (o : ObjNo) (n : ℕ) {es : List (Option Expr)} → Each ClosedElement es → Quiet Any (E.elements ev context at o n es)
  elements_too o n none = define_too at (a.call at) o length_key (of_value (is_primitive _)) false
  elements_too o n (also {xs = es} is all) = element_too o n es is.element (elements_too o (n + 1) all)

  array_rule_too : {es : List (Option Expr)} → Each ClosedElement es → Quiet IsKnown (E.array_rule ev context at es)
  unfolding E.array_rule
  array_rule_too all = bind (make_with_too Array array_prototype) (λ o _. bind_any (elements_too o 0 all) (λ _. gives (is_object o)))

  field_rule_too : (o : ObjNo) (x : Field-F ExprForm Field Expr) → ClosedFieldForm x → Quiet Any (E.field_rule ev context at o x)
  unfolding E.field_rule
  field_rule_too o (Field-F.Value key_at key e) closed = bind (expr_too a known closed) (λ v is. make_property_too at (a.call at) o key is)
  field_rule_too o (Field-F.Getter key_at key f) closed = bind (accessor_function_too a known f) (λ g _. define_too at (a.call at) o key {d = E.accessor_fields (Some (Some g)) None} (record { value = nothing }) false)
  field_rule_too o (Field-F.Setter key_at key f) closed = bind (accessor_function_too a known f) (λ g _. define_too at (a.call at) o key {d = E.accessor_fields None (Some (Some g))} (record { value = nothing }) false)

  object_rule_too : {fields : List Field} → Each ClosedField fields → Quiet IsKnown (E.object_rule ev context at fields)
  unfolding E.object_rule
  object_rule_too all = bind (make_with_too Plain object_prototype) (λ o _. bind_any (in_turns (λ f closed. field_rule_too o (out-Field f) (closed_field f closed)) all) (λ _. gives (is_object o)))

  -- ---- 11.2

  member_reference_too : {object : Expr} (key : Key) → ClosedExpr object → Quiet IsReference (E.member_reference ev context at object key)
  unfolding E.member_reference
  member_reference_too key closed = bind (expr_too a known closed) (λ base is. bind_any (check_base_too at is) (λ _. gives (is_property is key context.strict)))

  index_reference_too : {object index : Expr} → ClosedExpr object → ClosedExpr index → Quiet IsReference (E.index_reference ev context at object index)
  unfolding E.index_reference
  index_reference_too closed other = bind (expr_too a known closed) (λ base is. bind (expr_too a known other) (λ name text.
      bind_any (check_base_too at is) (λ _. bind_any (to_key_too at text) (λ key. gives (is_property is key context.strict)))))

  member_rule_too : {object : Expr} (key : Key) → ClosedExpr object → Quiet IsKnown (E.member_rule ev context at object key)
  unfolding E.member_rule
  member_rule_too key closed = bind (member_reference_too key closed) (λ r is. get_value_too at (a.call at) is)

  index_rule_too : {object index : Expr} → ClosedExpr object → ClosedExpr index → Quiet IsKnown (E.index_rule ev context at object index)
  unfolding E.index_rule
  index_rule_too closed other = bind (index_reference_too closed other) (λ r is. get_value_too at (a.call at) is)

  call_checked_too : (f : Value) {this : Value} {arguments : List Value} → IsKnown this → Values arguments → Quiet IsKnown (E.call_checked ev at f this arguments)
  call_checked_too f is all = bind_any (looks_any (E.is_callable f)) (λ callable. chooses callable ((a.call at).at f _ _ is all) (throw_error_too TypeError))

  this_too : {r : Reference} → IsReference r → IsKnown (E.this_of r)
  this_too (is_name name b strict) = known_undefined
  this_too (is_property is key strict) = is

  call_rule_too : {callee : Expr} {arguments : List Expr} → ClosedExpr callee → Each ClosedExpr arguments → Quiet IsKnown (E.call_rule ev context at callee arguments)
  unfolding E.call_rule
  call_rule_too {callee = callee} closed all = tests (E.is_reference (out-ExprForm callee.form))
      (bind (a.reference context known callee closed) (λ r is. bind (get_value_too at (a.call at) is) (λ f _. bind (values_too a known all) (λ values known. call_checked_too f (this_too is) known))))
      (bind (expr_too a known closed) (λ f _. bind (values_too a known all) (λ values known. call_checked_too f known_undefined known)))

  new_rule_too : {callee : Expr} {arguments : List Expr} → ClosedExpr callee → Each ClosedExpr arguments → Quiet IsKnown (E.new_rule ev context at callee arguments)
  unfolding E.new_rule
  new_rule_too closed all = bind (expr_too a known closed) (λ f _. bind (values_too a known all) (λ values known. a.construct at f values known))

  -- ---- 11.3 to 11.10

  binary_rule_too : (op : BinaryOp) {x y : Expr} → ClosedExpr x → ClosedExpr y → Quiet IsKnown (E.binary_rule ev context at op x y)
  unfolding E.binary_rule
  binary_rule_too op x y = bind (expr_too a known x) (λ v is. bind (expr_too a known y) (λ u other. binary_value_too at (a.call at) op is other))

  delete_rule_too : {e : Expr} → ClosedExpr e → Quiet IsKnown (E.delete_rule ev context at e)
  unfolding E.delete_rule
  delete_rule_too {e = e} closed = tests (E.is_reference (out-ExprForm e.form)) (bind (a.reference context known e closed) (λ r is. delete_reference_too at (a.call at) r))
      (bind (expr_too a known closed) (λ _ _. gives (known_truth true)))

  typeof_rule_too : {e : Expr} → ClosedExpr e → Quiet IsKnown (E.typeof_rule ev context at e)
  unfolding E.typeof_rule
  typeof_rule_too {e = e} closed = bind (tests (E.is_name (out-ExprForm e.form)) (bind (a.reference context known e closed) (λ r is. value_or_undefined_too e.at (a.call e.at) is)) (expr_too a known closed))
      (λ v is. unary_value_too at unary.TypeOf is)

  unary_rule_too : (op : UnaryOp) {e : Expr} → ClosedExpr e → Quiet IsKnown (E.unary_rule ev context at op e)
  unfolding E.unary_rule
  unary_rule_too unary.Delete closed = delete_rule_too closed
  unary_rule_too unary.TypeOf closed = typeof_rule_too closed
  unary_rule_too op closed = bind (expr_too a known closed) (λ v is. unary_value_too at op is)

  of_step_too : (op : StepOp) {old new : Value} → IsKnown old → IsKnown new → IsKnown (E.of_step op old new)
  of_step_too stepping.PreUp old new = new
  of_step_too stepping.PreDown old new = new
  of_step_too stepping.PostUp old new = old
  of_step_too stepping.PostDown old new = old

  step_rule_too : (op : StepOp) {target : Expr} → ClosedExpr target → Quiet IsKnown (E.step_rule ev context at op target)
  unfolding E.step_rule
  step_rule_too op closed = bind (a.reference context known _ closed) (λ r is. bind (get_value_too at (a.call at) is) (λ v value. bind (unary_value_too at unary.Plus value) (λ old old_known.
      bind (binary_value_too at (a.call at) (E.stepped op) old_known (is_primitive _)) (λ new new_known. bind_any (put_value_too at (a.call at) is new_known) (λ _. gives (of_step_too op old_known new_known))))))

  -- ---- 11.11 to 11.14

  logic_rule_too : (op : LogicOp) {x y : Expr} → ClosedExpr x → ClosedExpr y → Quiet IsKnown (E.logic_rule ev context at op x y)
  unfolding E.logic_rule
  logic_rule_too logic.And x y = bind (expr_too a known x) (λ v is. bind_any (test_too at is) (λ t. chooses t (expr_too a known y) (gives is)))
  logic_rule_too logic.Or x y = bind (expr_too a known x) (λ v is. bind_any (test_too at is) (λ t. chooses t (gives is) (expr_too a known y)))

  conditional_rule_too : {e x y : Expr} → ClosedExpr e → ClosedExpr x → ClosedExpr y → Quiet IsKnown (E.conditional_rule ev context at e x y)
  unfolding E.conditional_rule
  conditional_rule_too e x y = bind (expr_too a known e) (λ v is. bind_any (test_too at is) (λ t. chooses t (expr_too a known x) (expr_too a known y)))

  assign_rule_too : {target e : Expr} → ClosedExpr target → ClosedExpr e → Quiet IsKnown (E.assign_rule ev context at target e)
  unfolding E.assign_rule
  assign_rule_too target e = bind (a.reference context known _ target) (λ r is. bind (expr_too a known e) (λ v value. bind_any (put_value_too at (a.call at) is value) (λ _. gives value)))

  compound_rule_too : (op : BinaryOp) {target e : Expr} → ClosedExpr target → ClosedExpr e → Quiet IsKnown (E.compound_rule ev context at op target e)
  unfolding E.compound_rule
  compound_rule_too op target e = bind (a.reference context known _ target) (λ r is. bind (get_value_too at (a.call at) is) (λ old old_known. bind (expr_too a known e) (λ v value.
      bind (binary_value_too at (a.call at) op old_known value) (λ new new_known. bind_any (put_value_too at (a.call at) is new_known) (λ _. gives new_known)))))

  comma_rule_too : {x y : Expr} → ClosedExpr x → ClosedExpr y → Quiet IsKnown (E.comma_rule ev context x y)
  unfolding E.comma_rule
  comma_rule_too x y = bind (expr_too a known x) (λ _ _. expr_too a known y)

  -- ---- all forms

  pub expr_rule_too : (x : ExprForm-F ExprForm Field Expr) → ClosedForm x → Quiet IsKnown (E.expr_rule ev context at x)
  unfolding E.expr_rule
  expr_rule_too ExprForm-F.This closed = gives known.this
  expr_rule_too (ExprForm-F.Name name) closed = name_rule_too name
  expr_rule_too (ExprForm-F.Literal value) closed = gives (is_primitive value)
  expr_rule_too (ExprForm-F.ArrayLit es) closed = array_rule_too closed
  expr_rule_too (ExprForm-F.ObjectLit fields) closed = object_rule_too closed
  expr_rule_too (ExprForm-F.Func f) closed = function_rule_too a known f
  expr_rule_too (ExprForm-F.Member object key) closed = member_rule_too key closed
  expr_rule_too (ExprForm-F.Index object index) (x, y) = index_rule_too x y
  expr_rule_too (ExprForm-F.Call callee arguments) (x, all) = call_rule_too x all
  expr_rule_too (ExprForm-F.New callee arguments) (x, all) = new_rule_too x all
  expr_rule_too (ExprForm-F.Unary op e) closed = unary_rule_too op closed
  expr_rule_too (ExprForm-F.Binary op e f) (x, y) = binary_rule_too op x y
  expr_rule_too (ExprForm-F.Logic op e f) (x, y) = logic_rule_too op x y
  expr_rule_too (ExprForm-F.Conditional e f g) (x, y, z) = conditional_rule_too x y z
  expr_rule_too (ExprForm-F.Assign target None e) (x, y) = assign_rule_too x y
  expr_rule_too (ExprForm-F.Assign target (Some op) e) (x, y) = compound_rule_too op x y
  expr_rule_too (ExprForm-F.Step op target) closed = step_rule_too op closed
  expr_rule_too (ExprForm-F.Comma e f) (x, y) = comma_rule_too x y
  expr_rule_too (ExprForm-F.Input kind name) closed = absurd closed
  expr_rule_too (ExprForm-F.HostCall kind name arguments) closed = absurd closed

  pub reference_rule_too : (x : ExprForm-F ExprForm Field Expr) → ClosedForm x → Quiet IsReference (E.reference_rule ev context at x)
  unfolding E.reference_rule
  reference_rule_too (ExprForm-F.Name name) closed = resolve_name_too at (a.call at) context name
  reference_rule_too (ExprForm-F.Member object key) closed = member_reference_too key closed
  reference_rule_too (ExprForm-F.Index object index) (x, y) = index_reference_too x y
  reference_rule_too _ closed = throw_error_too ReferenceError
