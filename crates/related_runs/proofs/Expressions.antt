-- The rules of expressions (11), in two runs that go together where those of their parts do.
use Rattle.std.proofs.Common.{◌≡◌, refl, subst, ℕ, ◌+◌, Bool, true, false, cond, List}
use Rattle.std.specs.Prelude.{codes, Option, Some, None, Result}
use Rattle.std.specs.Fmt.{decimal}
use Rattle.std.specs.List.{list_any}
use Rattle.js_value.specs.Operators.{binary_row, unary_row}
use Rattle.js_value.specs.declared.operator.BinaryOp.{BinaryOp}
use Rattle.js_value.specs.declared.operator.BinaryOp.TheVariants as binary
use Rattle.js_value.specs.declared.operator.UnaryOp.{UnaryOp}
use Rattle.js_value.specs.declared.operator.UnaryOp.TheVariants as unary
use Rattle.js_value.specs.declared.place.FuncNo.{FuncNo}
use Rattle.js_value.specs.declared.place.Place.{Place}
use Rattle.js_value.specs.declared.primitive.Kind.{Kind}
use Rattle.js_value.specs.declared.primitive.Primitive.{Primitive}
use Rattle.js_value.specs.declared.primitive.Primitive.TheVariants as primitive
use Rattle.js_value.specs.declared.why.Why.{Why}
use Rattle.js_value.specs.declared.why.Why.TheVariants.{HostArgument}
use Rattle.js_tree.specs.declared.expression.Expr.{Expr}
use Rattle.js_tree.specs.declared.expression.Field.{Field}
use Rattle.js_tree.specs.declared.expression.ExprForm.{ExprForm}
use Rattle.js_tree.specs.declared.expression.ExprForm.TheOpen.{ExprForm-F, Field-F}
use Rattle.js_tree.specs.declared.expression.LogicOp.{LogicOp}
use Rattle.js_tree.specs.declared.expression.LogicOp.TheVariants as logic
use Rattle.js_tree.specs.declared.expression.StepOp.{StepOp}
use Rattle.js_tree.specs.declared.expression.StepOp.TheVariants as stepping
use Rattle.js_tree.specs.declared.statement.Func.{Func}
use Rattle.js_tree.specs.declared.statement.Stmt.{Stmt}
use Rattle.plain_heap.specs.Values.{Value, Prim, Object, ObjNo}
use Rattle.plain_heap.specs.Heap.{Key}
use Rattle.plain_heap.specs.Methods.{length_key}
use Rattle.js_machine.specs.Machine.Expressions as E
use Rattle.js_machine.specs.Machine.Expressions.{Ev, Completion, Normal, Break, Continue, Return}
use Rattle.js_machine.specs.Machine.References.{Context, Reference}
use Rattle.js_machine.specs.Machine.RealmObjects.{TypeError, ReferenceError}
use Rattle.js_machine.specs.Machine.Objects as O
use Rattle.js_machine.specs.Machine.Operators as P
use Rattle.js_machine.specs.Machine.Events.{Run, leave, look, each, make}
use Rattle.related_states.specs.Related.{Correspondence, Names, are_named, BothOption, nothing, just, BothEach, none, also, SameValue, known, object, held, same_fields}
use Rattle.related_states.proofs.Heaps.{function_same}
use Rattle.related_runs.proofs.Related.{TreeRelation, Together, Equal, bind, bind_same, gives, throws, left_at, looks, makes, takes_input, calls_host, chooses, in_turns, eaches_both}
use Rattle.related_runs.proofs.Operators.{Meanings, Seen, plain, objects, symbol, see, test_both, to_key_both, operate_both, operate_one_both}
use Rattle.related_runs.proofs.Objects.{CallsTogether, site_of, SameReference, same_property, SameContext, base_same, make_plain_both, make_array_both, throw_error_both, checked_both}
use Rattle.related_runs.proofs.Objects as R
use Rattle.related_runs.specs.Codes.{Code, SameForm, both_this, both_name, both_literal, both_array, both_object, both_function, both_member, both_index, both_call, both_new, both_unary, both_binary, both_logic, both_conditional, both_assign, both_step, both_comma, both_input, both_host, SameFieldOf, SameFields, same_value_field, same_getter_field, same_setter_field, SameClosure, SameInner}
use Rattle.related_runs.proofs.Codes.{reference_same, name_same}
use Rattle.related_runs.proofs.Creating.{Alters, function_both, function_expression_both}
use Rattle.related_runs.proofs.Enumerations.{prototype_same}
use Rattle.js_machine.specs.Machine.Creating as C
use Rattle.js_machine.specs.Machine.Creating.{Change}
use Rattle.related_states.proofs.Properties.{both_by}

-- how statements end
pub data SameCompletion (x : Correspondence) : Completion → Completion → Type 0 where
  same_normal : SameCompletion x Normal Normal
  same_break : SameCompletion x Break Break
  same_continue : SameCompletion x Continue Continue
  same_return : {v u : Value} → SameValue x v u → SameCompletion x (Return v) (Return u)

module _ {x : Correspondence} (w : TreeRelation x) where
  pub makes_alike : {A B : Type 0} {R : A → B → Type 0} {f : Change A} {g : Change B} → Alters x R f g → Together w R (make f) (make g)
  makes_alike h = makes w h.at

  callable_object : {o q : ObjNo} → x.Objects o q → Together w Equal (look (E.is_callable (Object o))) (look (E.is_callable (Object q)))
  callable_object r = looks w (λ h g same. function_same x h g same r)

module _ {x : Correspondence} (w : TreeRelation x) (m : Meanings x) (at place : Place) where
  -- what is done with values that are no objects is the same for a symbol
  unary_by_row_both : (op : UnaryOp) {v u : Value} → SameValue x v u → (row : Option (Primitive → Result Primitive Why)) → unary_row op ≡ row → Together w (SameValue x) (E.unary_by_row at op v row) (E.unary_by_row place op u row)
  unary_by_row_both op v (Some row) is = operate_one_both w m at place op row is v
  unary_by_row_both op v None is = gives w (known _)

  pub unary_value_both : (op : UnaryOp) {v u : Value} → SameValue x v u → Together w (SameValue x) (E.unary_value at op v) (E.unary_value place op u)
  unary_value_both op v = unary_by_row_both op v (unary_row op) refl

  callable_seen : {v u : Value} → Seen x v u → Together w Equal (look (E.is_callable v)) (look (E.is_callable u))
  callable_seen (plain p) = looks w (λ h g same. refl)
  callable_seen (objects r) = callable_object w r
  callable_seen (symbol k d) = looks w (λ h g same. refl)

  pub callable_both : {v u : Value} → SameValue x v u → Together w Equal (look (E.is_callable v)) (look (E.is_callable u))
  callable_both r = callable_seen (see m r)

module _ {x : Correspondence} (w : TreeRelation x) (m : Meanings x) (at place : Place) {call other : Value → Value → List Value → Run Value} (calls : CallsTogether w call other) where
  -- ---- operators

  -- an error on both sides, whatever a symbol is
  error_for : {A B : Type 0} {R : A → B → Type 0} → Together w R (O.throw_error TypeError) (O.throw_error TypeError)
  error_for = throw_error_both w m TypeError

  in_value_both : {n k : Value} → SameValue x n k → {v u : Value} → Seen x v u → Together w (SameValue x) (E.in_value (site_of at call) n v) (E.in_value (site_of place other) k u)
  in_value_both n (objects r) = bind_same w (to_key_both w m at place n) (λ key. bind_same w (R.has_property_both w m at place calls r key) (λ has. gives w (known (primitive.Boolean has))))
  in_value_both n (plain p) = error_for
  in_value_both n (symbol k d) = error_for

  is_instance_both : {o q : ObjNo} → x.Objects o q → {v u : Value} → Seen x v u → Together w (SameValue x) (E.is_instance (Object o) v) (E.is_instance (Object q) u)
  is_instance_both r (objects s) = bind_same w (looks w (λ h g same. prototype_same x h g same s r)) (λ is. gives w (known (primitive.Boolean is)))
  is_instance_both r (plain p) = error_for
  is_instance_both r (symbol k d) = error_for

  has_instance_both : {f g : ObjNo} → x.Objects f g → {v u : Value} → Seen x v u → Together w (SameValue x) (E.has_instance (site_of at call) f v) (E.has_instance (site_of place other) g u)
  has_instance_both f (objects r) = bind w (R.get_both_runs w m at place calls f (codes "prototype")) (λ a b p. is_instance_both r (see m p))
  has_instance_both f (plain p) = gives w (known _)
  has_instance_both f (symbol k d) = gives w (known _)

  instance_value_both : {v u : Value} → SameValue x v u → {a b : Value} → Seen x a b → Together w (SameValue x) (E.instance_value (site_of at call) v a) (E.instance_value (site_of place other) u b)
  instance_value_both v (objects f) = bind_same w (callable_object w f) (λ callable. chooses w callable (has_instance_both f (see m v)) error_for)
  instance_value_both v (plain p) = error_for
  instance_value_both v (symbol k d) = error_for

  object_operator_both : (op : BinaryOp) {v u a b : Value} → SameValue x v u → SameValue x a b → Together w (SameValue x) (E.object_operator (site_of at call) op v a) (E.object_operator (site_of place other) op u b)
  object_operator_both binary.In v a = in_value_both v (see m a)
  object_operator_both op v a = instance_value_both v (see m a)

  by_row_both : (op : BinaryOp) {v u a b : Value} → SameValue x v u → SameValue x a b → (row : Option (Primitive → Primitive → Result Primitive Why)) → binary_row op ≡ row
      → Together w (SameValue x) (E.by_row (site_of at call) op v a row) (E.by_row (site_of place other) op u b row)
  by_row_both op v a (Some row) is = operate_both w m at place op row is v a
  by_row_both op v a None is = object_operator_both op v a

  pub binary_value_both : (op : BinaryOp) {v u a b : Value} → SameValue x v u → SameValue x a b → Together w (SameValue x) (E.binary_value (site_of at call) op v a) (E.binary_value (site_of place other) op u b)
  binary_value_both op v a = by_row_both op v a (binary_row op) refl

  delete_reference_both : {r q : Reference} → SameReference x r q → Together w (SameValue x) (E.delete_reference (site_of at call) r) (E.delete_reference (site_of place other) q)
  delete_reference_both (same_property base key e) = bind_same w (R.delete_of_both w m at place calls base key e) (λ done. gives w (known (primitive.Boolean done)))
  delete_reference_both (R.in_cell_both a b s t c) = gives w (known _)
  delete_reference_both (R.on_global_both name e) = gives w (known _)
  delete_reference_both (R.nowhere_both name e) = gives w (known _)

  value_or_undefined_both : {r q : Reference} → SameReference x r q → Together w (SameValue x) (E.value_or_undefined (site_of at call) r) (E.value_or_undefined (site_of place other) q)
  value_or_undefined_both (R.nowhere_both name e) = gives w (known _)
  value_or_undefined_both (R.in_cell_both a b s t c) = R.get_value_both w m at place calls (R.in_cell_both a b s t c)
  value_or_undefined_both (R.on_global_both name e) = R.get_value_both w m at place calls (R.on_global_both name e)
  value_or_undefined_both (same_property base key e) = R.get_value_both w m at place calls (same_property base key e)

-- two ways to evaluate parts of codes that correspond
pub record PartsTogether {x : Correspondence} (w : TreeRelation x) {functions others : List Func} (code : Code x functions others) (ev other : Ev) : Type 0 where
  pub expr : {ns : Names} {a b : Context} → SameContext x ns a b → {e f : Expr} → code.Exprs ns e f → Together w (SameValue x) (ev.expr a e) (other.expr b f)
  pub reference : {ns : Names} {a b : Context} → SameContext x ns a b → {e f : Expr} → code.Exprs ns e f → Together w (SameReference x) (ev.reference a e) (other.reference b f)
  pub stmt : {ns : Names} {a b : Context} → SameContext x ns a b → {s t : Stmt} → code.Stmts ns s t → Together w (SameCompletion x) (ev.stmt a s) (other.stmt b t)
  pub call : (at place : Place) → CallsTogether w (ev.call at) (other.call place)
  pub construct : (at place : Place) {f g : Value} {vs us : List Value} → SameValue x f g → BothEach (SameValue x) vs us → Together w (SameValue x) (ev.construct at f vs) (other.construct place g us)
  pub first_table : functions ≡ ev.functions
  pub second_table : others ≡ other.functions
  pub turns : ev.turns ≡ other.turns

module _ {x : Correspondence} (w : TreeRelation x) (m : Meanings x) {functions others : List Func} {code : Code x functions others} {ev other : Ev} (a : PartsTogether w code ev other) where
  -- ---- functions as values

  -- the tables of functions are those of the two codes
  with_tables : {A B : Type 0} {R : A → B → Type 0} (f : List Func → Change A) (g : List Func → Change B) → Alters x R (f functions) (g others) → Together w R (make (f ev.functions)) (make (g other.functions))
  with_tables {R = R} f g h = subst (λ fs. Together w R (make (f fs)) (make (g other.functions))) a.first_table (subst (λ fs. Together w R (make (f functions)) (make (g fs))) a.second_table (makes_alike w h))

module _ {x : Correspondence} (w : TreeRelation x) (m : Meanings x) {functions others : List Func} {code : Code x functions others} {ev other : Ev} (a : PartsTogether w code ev other) {ns : Names} {c d : Context} (context : SameContext x ns c d) where
  function_rule_both : {f g : FuncNo} → SameClosure x functions others ns f g → Together w (SameValue x) (E.function_rule ev c f) (E.function_rule other d g)
  unfolding E.function_rule
  function_rule_both {f = f} {g = g} closure =
      bind w (with_tables w m a (λ fs. C.function_expression fs f c.environment c.strict) (λ fs. C.function_expression fs g d.environment d.strict) (function_expression_both m code context.strict closure context.environment)) (λ o q r. gives w (object r))

  accessor_both : {f g : FuncNo} → SameInner x functions others ns f g → Together w x.Objects (E.accessor_function ev c f) (E.accessor_function other d g)
  accessor_both {f = f} {g = g} inner = with_tables w m a (λ fs. C.function fs f c.environment c.strict) (λ fs. C.function fs g d.environment d.strict) (function_both m code context.strict inner context.environment)

  pub values_both : {es fs : List Expr} → BothEach (code.Exprs ns) es fs → Together w (BothEach (SameValue x)) (each (ev.expr c) es) (each (other.expr d) fs)
  values_both es = eaches_both w (λ _ _ e. a.expr context e) es

module _ {x : Correspondence} (w : TreeRelation x) (m : Meanings x) {functions others : List Func} {code : Code x functions others} {ev other : Ev} (a : PartsTogether w code ev other) {ns : Names} {c d : Context} (context : SameContext x ns c d) (at place : Place) where
  -- ---- 11.1

  name_rule_both : (n k : List ℕ) → are_named ns n k ≡ true → Together w (SameValue x) (E.name_rule ev c at n) (E.name_rule other d place k)
  unfolding E.name_rule
  name_rule_both n k named = bind w (R.resolve_name_both w m at place (a.call at place) context n k named) (λ r q ref. R.get_value_both w m at place (a.call at place) ref)

  elements_both : {o q : ObjNo} → x.Objects o q → (n : ℕ) {es fs : List (Option Expr)} → BothEach (BothOption (code.Exprs ns)) es fs → Together w Equal (E.elements ev c at o n es) (E.elements other d place q n fs)
  elements_both r n none = R.define_runs w m at place (a.call at place) r length_key (same_fields (just (held (known _))) None nothing nothing None None) false
  elements_both r n (also nothing es) = elements_both r (n + 1) es
  elements_both r n (also (just e) es) = bind w (a.expr context e) (λ v u value. bind w (R.make_property_both w m at place (a.call at place) r (decimal n) value) (λ _ _ _. elements_both r (n + 1) es))

  array_rule_both : {es fs : List (Option Expr)} → BothEach (BothOption (code.Exprs ns)) es fs → Together w (SameValue x) (E.array_rule ev c at es) (E.array_rule other d place fs)
  unfolding E.array_rule
  array_rule_both es = bind w (make_array_both w m) (λ o q r. bind w (elements_both r 0 es) (λ _ _ _. gives w (object r)))

  field_rule_both : {o q : ObjNo} → x.Objects o q → {f g : Field-F ExprForm Field Expr} → SameFieldOf x functions others code.Exprs ns f g → Together w Equal (E.field_rule ev c at o f) (E.field_rule other d place q g)
  unfolding E.field_rule
  field_rule_both r (same_value_field key e) = bind w (a.expr context e) (λ v u value. R.make_property_both w m at place (a.call at place) r key value)
  field_rule_both r (same_getter_field key f) =
      bind w (accessor_both w m a context f) (λ g l function. R.define_runs w m at place (a.call at place) r key (same_fields nothing None (just (just function)) nothing (Some true) (Some true)) false)
  field_rule_both r (same_setter_field key f) =
      bind w (accessor_both w m a context f) (λ g l function. R.define_runs w m at place (a.call at place) r key (same_fields nothing None nothing (just (just function)) (Some true) (Some true)) false)

  object_rule_both : {es fs : List Field} → BothEach (SameFields x functions others code.Exprs ns) es fs → Together w (SameValue x) (E.object_rule ev c at es) (E.object_rule other d place fs)
  unfolding E.object_rule
  object_rule_both fields = bind w (make_plain_both w m) (λ o q r. bind w (in_turns w (λ _ _ f. field_rule_both r f.form) fields) (λ _ _ _. gives w (object r)))

  -- ---- 11.2

  member_reference_both : {e f : Expr} → code.Exprs ns e f → (key : Key) → Together w (SameReference x) (E.member_reference ev c at e key) (E.member_reference other d place f key)
  unfolding E.member_reference
  member_reference_both e key = bind w (a.expr context e) (λ v u base. checked_both w m at place base (λ base. gives w (same_property base key context.strict)))

  index_reference_both : {e f i j : Expr} → code.Exprs ns e f → code.Exprs ns i j → Together w (SameReference x) (E.index_reference ev c at e i) (E.index_reference other d place f j)
  unfolding E.index_reference
  index_reference_both e i = bind w (a.expr context e) (λ v u base. bind w (a.expr context i) (λ n k name.
      checked_both w m at place base (λ base. bind_same w (to_key_both w m at place name) (λ key. gives w (same_property base key context.strict)))))

  member_rule_both : {e f : Expr} → code.Exprs ns e f → (key : Key) → Together w (SameValue x) (E.member_rule ev c at e key) (E.member_rule other d place f key)
  unfolding E.member_rule
  member_rule_both e key = bind w (member_reference_both e key) (λ r q ref. R.get_value_both w m at place (a.call at place) ref)

  index_rule_both : {e f i j : Expr} → code.Exprs ns e f → code.Exprs ns i j → Together w (SameValue x) (E.index_rule ev c at e i) (E.index_rule other d place f j)
  unfolding E.index_rule
  index_rule_both e i = bind w (index_reference_both e i) (λ r q ref. R.get_value_both w m at place (a.call at place) ref)

  call_checked_both : {f g this that : Value} {vs us : List Value} → SameValue x f g → SameValue x this that → BothEach (SameValue x) vs us → Together w (SameValue x) (E.call_checked ev at f this vs) (E.call_checked other place g that us)
  call_checked_both f this vs = bind_same w (callable_both w m at place f) (λ callable. chooses w callable ((a.call at place).at f this vs) (throw_error_both w m TypeError))

  this_both : {r q : Reference} → SameReference x r q → SameValue x (E.this_of r) (E.this_of q)
  this_both (R.in_cell_both n k s t c) = known _
  this_both (R.on_global_both name e) = known _
  this_both (R.nowhere_both name e) = known _
  this_both (same_property base key e) = base_same base

  call_reference_both : {e f : Expr} {es fs : List Expr} → code.Exprs ns e f → BothEach (code.Exprs ns) es fs → Together w (SameValue x) (E.call_reference ev c at e es) (E.call_reference other d place f fs)
  call_reference_both callee arguments = bind w (a.reference context callee) (λ r q ref. bind w (R.get_value_both w m at place (a.call at place) ref) (λ f g function. bind w (values_both w m a context arguments) (λ vs us values.
      call_checked_both function (this_both ref) values)))

  call_value_both : {e f : Expr} {es fs : List Expr} → code.Exprs ns e f → BothEach (code.Exprs ns) es fs → Together w (SameValue x) (E.call_value ev c at e es) (E.call_value other d place f fs)
  call_value_both callee arguments = bind w (a.expr context callee) (λ f g function. bind w (values_both w m a context arguments) (λ vs us values. call_checked_both function (known _) values))

  call_rule_both : {e f : Expr} {es fs : List Expr} → code.Exprs ns e f → BothEach (code.Exprs ns) es fs → Together w (SameValue x) (E.call_rule ev c at e es) (E.call_rule other d place f fs)
  unfolding E.call_rule
  call_rule_both {e = e} {f = f} callee arguments = both_by (Together w (SameValue x)) (reference_same (code.form ns e f callee)) (call_reference_both callee arguments) (call_value_both callee arguments)

  new_rule_both : {e f : Expr} {es fs : List Expr} → code.Exprs ns e f → BothEach (code.Exprs ns) es fs → Together w (SameValue x) (E.new_rule ev c at e es) (E.new_rule other d place f fs)
  unfolding E.new_rule
  new_rule_both callee arguments = bind w (a.expr context callee) (λ f g function. bind w (values_both w m a context arguments) (λ vs us values. a.construct at place function values))

  -- ---- 11.3 to 11.10

  binary_rule_both : (op : BinaryOp) {e f i j : Expr} → code.Exprs ns e f → code.Exprs ns i j → Together w (SameValue x) (E.binary_rule ev c at op e i) (E.binary_rule other d place op f j)
  unfolding E.binary_rule
  binary_rule_both op e i = bind w (a.expr context e) (λ v u value. bind w (a.expr context i) (λ n k operand. binary_value_both w m at place (a.call at place) op value operand))

  delete_rule_both : {e f : Expr} → code.Exprs ns e f → Together w (SameValue x) (E.delete_rule ev c at e) (E.delete_rule other d place f)
  unfolding E.delete_rule
  delete_rule_both {e = e} {f = f} same = both_by (Together w (SameValue x)) (reference_same (code.form ns e f same)) (bind w (a.reference context same) (λ r q ref. delete_reference_both w m at place (a.call at place) ref))
      (bind w (a.expr context same) (λ _ _ _. gives w (known (primitive.Boolean true))))

  operand_of_typeof_both : {e f : Expr} → code.Exprs ns e f → Together w (SameValue x) (E.operand_of_typeof ev c e) (E.operand_of_typeof other d f)
  operand_of_typeof_both {e = e} {f = f} same = both_by (Together w (SameValue x)) (name_same (code.form ns e f same)) (bind w (a.reference context same) (λ r q ref. value_or_undefined_both w m e.at f.at (a.call e.at f.at) ref)) (a.expr context same)

  stepped_both : (op : StepOp) {v u n k : Value} → SameValue x v u → SameValue x n k → SameValue x (E.of_step op v n) (E.of_step op u k)
  stepped_both stepping.PreUp v n = n
  stepped_both stepping.PreDown v n = n
  stepped_both stepping.PostUp v n = v
  stepped_both stepping.PostDown v n = v

  step_rule_both : (op : StepOp) {e f : Expr} → code.Exprs ns e f → Together w (SameValue x) (E.step_rule ev c at op e) (E.step_rule other d place op f)
  unfolding E.step_rule
  step_rule_both op target = bind w (a.reference context target) (λ r q ref. bind w (R.get_value_both w m at place (a.call at place) ref) (λ v u value. bind w (unary_value_both w m at place unary.Plus value) (λ n k old.
      bind w (binary_value_both w m at place (a.call at place) (E.stepped op) old (known _)) (λ n k new. bind w (R.put_value_both w m at place (a.call at place) ref new) (λ _ _ _. gives w (stepped_both op old new))))))

  typeof_rule_both : {e f : Expr} → code.Exprs ns e f → Together w (SameValue x) (E.typeof_rule ev c at e) (E.typeof_rule other d place f)
  unfolding E.typeof_rule
  typeof_rule_both e = bind w (operand_of_typeof_both e) (λ v u value. unary_value_both w m at place unary.TypeOf value)

  unary_rule_both : (op : UnaryOp) {e f : Expr} → code.Exprs ns e f → Together w (SameValue x) (E.unary_rule ev c at op e) (E.unary_rule other d place op f)
  unfolding E.unary_rule
  unary_rule_both unary.Delete e = delete_rule_both e
  unary_rule_both unary.TypeOf e = typeof_rule_both e
  unary_rule_both op e = bind w (a.expr context e) (λ v u value. unary_value_both w m at place op value)

  -- ---- 11.11 to 11.14, and host calls

  logic_rule_both : (op : LogicOp) {e f i j : Expr} → code.Exprs ns e f → code.Exprs ns i j → Together w (SameValue x) (E.logic_rule ev c at op e i) (E.logic_rule other d place op f j)
  unfolding E.logic_rule
  logic_rule_both logic.And e i = bind w (a.expr context e) (λ v u value. bind_same w (test_both w m at place value) (λ t. chooses w t (a.expr context i) (gives w value)))
  logic_rule_both logic.Or e i = bind w (a.expr context e) (λ v u value. bind_same w (test_both w m at place value) (λ t. chooses w t (gives w value) (a.expr context i)))

  conditional_rule_both : {e f i j k l : Expr} → code.Exprs ns e f → code.Exprs ns i j → code.Exprs ns k l → Together w (SameValue x) (E.conditional_rule ev c at e i k) (E.conditional_rule other d place f j l)
  unfolding E.conditional_rule
  conditional_rule_both e i k = bind w (a.expr context e) (λ v u value. bind_same w (test_both w m at place value) (λ t. chooses w t (a.expr context i) (a.expr context k)))

  assign_rule_both : {e f i j : Expr} → code.Exprs ns e f → code.Exprs ns i j → Together w (SameValue x) (E.assign_rule ev c at e i) (E.assign_rule other d place f j)
  unfolding E.assign_rule
  assign_rule_both target e = bind w (a.reference context target) (λ r q ref. bind w (a.expr context e) (λ v u value. bind w (R.put_value_both w m at place (a.call at place) ref value) (λ _ _ _. gives w value)))

  compound_rule_both : (op : BinaryOp) {e f i j : Expr} → code.Exprs ns e f → code.Exprs ns i j → Together w (SameValue x) (E.compound_rule ev c at op e i) (E.compound_rule other d place op f j)
  unfolding E.compound_rule
  compound_rule_both op target e = bind w (a.reference context target) (λ r q ref. bind w (R.get_value_both w m at place (a.call at place) ref) (λ v u old. bind w (a.expr context e) (λ n k value.
      bind w (binary_value_both w m at place (a.call at place) op old value) (λ n k new. bind w (R.put_value_both w m at place (a.call at place) ref new) (λ _ _ _. gives w new)))))

  comma_rule_both : {e f i j : Expr} → code.Exprs ns e f → code.Exprs ns i j → Together w (SameValue x) (E.comma_rule ev c e i) (E.comma_rule other d f j)
  unfolding E.comma_rule
  comma_rule_both e i = bind w (a.expr context e) (λ _ _ _. a.expr context i)

  is_object_same : {v u : Value} → Seen x v u → P.is_object v ≡ P.is_object u
  is_object_same (plain p) = refl
  is_object_same (objects r) = refl
  is_object_same (symbol k d) = refl

  objects_same : {vs us : List Value} → BothEach (SameValue x) vs us → list_any P.is_object vs ≡ list_any P.is_object us
  objects_same none = refl
  objects_same (also r all) = rw (is_object_same (see m r), objects_same all) refl

  -- an answer that is thrown is thrown by the call
  asked_host_both : (kind : Kind) (name : List ℕ) {vs us : List Value} → BothEach (SameValue x) vs us → list_any P.is_object vs ≡ false → Together w (SameValue x) (E.asked_host at kind name vs) (E.asked_host place kind name us)
  asked_host_both kind name all free = bind w (calls_host w at place kind name all free) (λ b c answer. bind_same w (test_both w m at place answer.threw) (λ threw. chooses w threw (throws w answer.value) (gives w answer.value)))

  sent_if : (kind : Kind) (name : List ℕ) {vs us : List Value} → BothEach (SameValue x) vs us → (t : Bool) → list_any P.is_object vs ≡ t
      → Together w (SameValue x) (cond t (leave HostArgument at) (E.asked_host at kind name vs)) (cond t (leave HostArgument place) (E.asked_host place kind name us))
  sent_if kind name all true is = left_at w HostArgument at place
  sent_if kind name all false is = asked_host_both kind name all is

  sent_both : (kind : Kind) (name : List ℕ) {vs us : List Value} → BothEach (SameValue x) vs us → {t : Bool} → list_any P.is_object vs ≡ t
      → Together w (SameValue x) (cond (list_any P.is_object vs) (leave HostArgument at) (E.asked_host at kind name vs)) (cond t (leave HostArgument place) (E.asked_host place kind name us))
  sent_both kind name {vs = vs} {us = us} all e = subst (λ t. Together w (SameValue x) (cond (list_any P.is_object vs) (leave HostArgument at) (E.asked_host at kind name vs)) (cond t (leave HostArgument place) (E.asked_host place kind name us))) e
      (sent_if kind name all (list_any P.is_object vs) refl)

  host_rule_both : (kind : Kind) (name : List ℕ) {es fs : List Expr} → BothEach (code.Exprs ns) es fs → Together w (SameValue x) (E.host_rule ev c at kind name es) (E.host_rule other d place kind name fs)
  unfolding E.host_rule
  host_rule_both kind name arguments = bind w (values_both w m a context arguments) (λ vs us values. sent_both kind name values (objects_same values))

  -- ---- all forms

  pub expr_rule_both : {f g : ExprForm-F ExprForm Field Expr} → SameForm x functions others code.Exprs ns f g → Together w (SameValue x) (E.expr_rule ev c at f) (E.expr_rule other d place g)
  unfolding E.expr_rule
  expr_rule_both both_this = gives w context.this
  expr_rule_both (both_name named) = name_rule_both _ _ named
  expr_rule_both (both_literal value) = gives w (known value)
  expr_rule_both (both_array es) = array_rule_both es
  expr_rule_both (both_object fields) = object_rule_both fields
  expr_rule_both (both_function f) = function_rule_both w m a context f
  expr_rule_both (both_member e key) = member_rule_both e key
  expr_rule_both (both_index e i) = index_rule_both e i
  expr_rule_both (both_call callee arguments) = call_rule_both callee arguments
  expr_rule_both (both_new callee arguments) = new_rule_both callee arguments
  expr_rule_both (both_unary op e) = unary_rule_both op e
  expr_rule_both (both_binary op e i) = binary_rule_both op e i
  expr_rule_both (both_logic op e i) = logic_rule_both op e i
  expr_rule_both (both_conditional e i k) = conditional_rule_both e i k
  expr_rule_both (both_assign None target e) = assign_rule_both target e
  expr_rule_both (both_assign (Some op) target e) = compound_rule_both op target e
  expr_rule_both (both_step op target) = step_rule_both op target
  expr_rule_both (both_comma e i) = comma_rule_both e i
  expr_rule_both (both_input kind name) = takes_input w at place kind name
  expr_rule_both (both_host kind name arguments) = host_rule_both kind name arguments

  pub reference_rule_both : {f g : ExprForm-F ExprForm Field Expr} → SameForm x functions others code.Exprs ns f g → Together w (SameReference x) (E.reference_rule ev c at f) (E.reference_rule other d place g)
  unfolding E.reference_rule
  reference_rule_both (both_name named) = R.resolve_name_both w m at place (a.call at place) context _ _ named
  reference_rule_both (both_member e key) = member_reference_both e key
  reference_rule_both (both_index e i) = index_reference_both e i
  reference_rule_both _ = throw_error_both w m ReferenceError
