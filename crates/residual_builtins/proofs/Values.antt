-- The runs of literals, of operators and of names on the global object.
use Rattle.std.proofs.Common.{inr, ◌++◌, length, ◌≡◌, ℕ, suc, ◌+◌, Bool, true, false, List, [], ◌∷◌, refl, ap, subst, sym, ◌∙◌, zero-add, arith}
use Rattle.std.specs.Prelude.{slice_get, slice_set, if◌then◌else◌, codes, Result, Ok, Option, Some, None}
use Rattle.std.specs.Fmt.{decimal}
use Rattle.std.specs.Option.{option_and_then, option_map}
use Rattle.std.proofs.lemmas.Bool.{both_ways}
use Rattle.js_value.specs.Operators.{binary_row, unary_row}
use Rattle.js_value.specs.declared.operator.BinaryOp.{BinaryOp}
use Rattle.js_value.specs.declared.operator.UnaryOp.{UnaryOp}
use Rattle.js_value.specs.declared.operator.UnaryOp.TheVariants as unary
use Rattle.js_value.specs.declared.place.Place.{Place}
use Rattle.js_value.specs.declared.primitive.Primitive.{Primitive}
use Rattle.js_value.specs.declared.why.Why.{Why}
use Rattle.js_tree.specs.declared.expression.Expr.{Expr}
use Rattle.js_tree.specs.declared.expression.Field.{Field, out-Field}
use Rattle.js_tree.specs.declared.expression.ExprForm.{out-ExprForm}
use Rattle.js_tree.specs.declared.expression.ExprForm.TheOpen.{ExprForm-F, Field-F}
use Rattle.js_tree.specs.declared.statement.Stmt.{Stmt}
use Rattle.plain_heap.specs.Heap.{new_state, depth_at, Key, Heap, ObjectState, Plain, Array, cell, data_property, depth_of, is_function, make_object, object_at, or_else, resolve, Property}
use Rattle.plain_heap.specs.Methods as methods
use Rattle.plain_heap.specs.Valid.{is_absent}
use Rattle.plain_heap.specs.Values.{Value, Object, ObjNo, CellNo, number, truth, undefined}
use Rattle.js_machine.specs.Machine.Events.{Run, ◌>>=◌}
use Rattle.js_machine.specs.Machine.Expressions as expressions
use Rattle.js_machine.specs.Machine.Expressions.{Ev, Normal, site, expr_rule, field_rule, elements, is_name}
use Rattle.js_machine.specs.Machine.Levels.{Setting, ev_of, within}
use Rattle.js_machine.specs.Machine.Objects as objects
use Rattle.js_machine.specs.Machine.Operators as operators
use Rattle.js_machine.specs.Machine.RealmObjects.{array_prototype, global, object_prototype}
use Rattle.js_machine.specs.Machine.References as references
use Rattle.js_machine.specs.Machine.References.{Context, Reference, NameReference, PropertyReference, InCell, OnGlobal}
use Rattle.js_machine.specs.Machine.Walks.{World}
use Rattle.residual_runs.specs.Runs.{State, Runs}
use Rattle.residual_runs.specs.Statements.{IsExpr, Defines, evaluate, execute}
use Rattle.residual_runs.proofs.Runs.{at_once, followed, counted}
use Rattle.residual_runs.proofs.Statements.{expr_runs, name_target, index_target, evaluated, removed, present_value, define_is}
use Rattle.residual_builtins.specs.Values.{changed, DeletesIndex, takes_value, parts, fields, FieldMade, elements_from, ElementMade, ValuesRun}

zero_more : (i : ℕ) → i + 0 ≡ i
zero_more i = omega arith

at_end : {A : Type 0} (xs : List A) (x : A) → slice_get (xs ++ x ∷ []) (length xs) ≡ Some x
at_end [] x = refl
at_end (y ∷ xs) x = at_end xs x

set_end : {A : Type 0} (xs : List A) (x : A) → slice_set (xs ++ x ∷ []) (length xs) x ≡ xs ++ x ∷ []
set_end [] x = refl
set_end (y ∷ xs) x = ap (λ ys. y ∷ ys) (set_end xs x)

module _ (set : Setting) (calls : ℕ) (context : Context) (w : World) (d : ℕ) where
  abbrev ev : Ev
  ev = parts set calls context w d

  -- ---- object literals

  no_fields : (at : Place) (o : ObjNo) (s : State) → Runs w (fields set calls context w d at o []) s 0 tt s
  no_fields at o s = at_once w (λ k r. refl)

  defined : (at : Place) (o : ObjNo) (key : Key) (descriptor : methods.Descriptor) (throws : Bool) (s : State) (state : ObjectState) → Defines s.heap o key descriptor state
      → Runs w (objects.define (site ev at) o key descriptor throws) s 0 tt (changed o state s)
  defined at o key descriptor throws s state defines = at_once w (define_is (site ev at) o key descriptor throws s.heap state defines)

  field_runs : (at : Place) (o : ObjNo) (f : Field) (before after : State) (i : ℕ) → FieldMade set calls context w d f o before i after
      → Runs w (field_rule ev context at o (out-Field f)) before i tt after
  unfolding field_rule
  field_runs at o f before after i made =
      subst (λ form. Runs w (field_rule ev context at o form) before i tt after) (sym made.is_field)
      (subst (λ after. Runs w (field_rule ev context at o (Field-F.Value made.key_at made.key made.value)) before i tt after) made.is
      (counted w (zero_more i)
      (followed w {f = λ v. objects.make_property (site ev at) o made.key v} made.run (defined at o made.key (methods.data_fields made.v true true true) false made.mid made.state made.defines))))

  next_field : (at : Place) (o : ObjNo) (f : Field) (fs : List Field) (before mid after : State) (i j : ℕ) → FieldMade set calls context w d f o before i mid
      → Runs w (fields set calls context w d at o fs) mid j tt after → Runs w (fields set calls context w d at o (f ∷ fs)) before (i + j) tt after
  next_field at o f fs before mid after i j made others = followed w {f = λ _. fields set calls context w d at o fs} (field_runs at o f before mid i made) others

  object_runs : (e : Expr) (fs : List Field) (s after : State) (i : ℕ) → IsExpr e (ExprForm-F.ObjectLit fs) → let made = make_object Plain (Some object_prototype) s.heap in
      Runs w (fields set calls context w d e.at made.0 fs) (record s { heap = made.1 }) i tt after → Runs w (evaluate set calls context (suc d) e) s (1 + i) (Object made.0) after
  unfolding expr_rule expressions.object_rule
  object_runs e fs s after i is filled =
      expr_runs set calls context w d e (ExprForm-F.ObjectLit fs) is (record { at = λ n k r. filled.at n (λ _ s'. k (Object (make_object Plain (Some object_prototype) s.heap).0) s') r })

  -- ---- array literals

  no_elements : (at : Place) (o : ObjNo) (n : ℕ) (s : State) (state : ObjectState) → Defines s.heap o methods.length_key (methods.value_field (number n)) state
      → Runs w (elements_from set calls context w d at o n []) s 0 tt (changed o state s)
  no_elements at o n s state defines = defined at o methods.length_key (methods.value_field (number n)) false s state defines

  element_runs : (at : Place) (o : ObjNo) (n : ℕ) (e : Expr) (es : List (Option Expr)) (before mid after : State) (i j : ℕ) → ElementMade set calls context w d e o n before i mid
      → Runs w (elements_from set calls context w d at o (n + 1) es) mid j tt after → Runs w (elements_from set calls context w d at o n (Some e ∷ es)) before (i + j) tt after
  element_runs at o n e es before mid after i j made others =
      counted w (ap (λ n. i + n) (zero-add j))
      (followed w {f = λ v. objects.make_property (site ev at) o (decimal n) v >>= (λ _. elements_from set calls context w d at o (n + 1) es)} made.run
      (followed w {f = λ _. elements_from set calls context w d at o (n + 1) es} (defined at o (decimal n) (methods.data_fields made.v true true true) false made.mid made.state made.defines)
      (subst (λ s. Runs w (elements_from set calls context w d at o (n + 1) es) s j tt after) (sym made.is) others)))

  array_runs : (e : Expr) (es : List (Option Expr)) (s after : State) (i : ℕ) → IsExpr e (ExprForm-F.ArrayLit es) → let made = make_object Array (Some array_prototype) s.heap in
      Runs w (elements_from set calls context w d e.at made.0 0 es) (record s { heap = made.1 }) i tt after → Runs w (evaluate set calls context (suc d) e) s (1 + i) (Object made.0) after
  unfolding expr_rule expressions.array_rule
  array_runs e es s after i is filled =
      expr_runs set calls context w d e (ExprForm-F.ArrayLit es) is (record { at = λ n k r. filled.at n (λ _ s'. k (Object (make_object Array (Some array_prototype) s.heap).0) s') r })

  -- the length of a new array is 0
  new_length : (h : Heap) → let made = make_object Array (Some array_prototype) h in let state = new_state Array (Some array_prototype) (depth_at h (Some array_prototype)) in
      Defines made.1 made.0 methods.length_key (methods.value_field (number 0)) state
  unfolding methods.define methods.define_array methods.define_plain
  new_length h = record {
    named = refl;
    before = new_state Array (Some array_prototype) (depth_at h (Some array_prototype));
    there = at_end h.objects (new_state Array (Some array_prototype) (depth_at h (Some array_prototype)));
    length = inr tt;
    defined = refl;
  }

  empty_array : (e : Expr) (s : State) → IsExpr e (ExprForm-F.ArrayLit []) → let made = make_object Array (Some array_prototype) s.heap in
      Runs w (evaluate set calls context (suc d) e) s 1 (Object made.0) (record s { heap = made.1 })
  empty_array e s is =
      let made = make_object Array (Some array_prototype) s.heap in
      let state = new_state Array (Some array_prototype) (depth_at s.heap (Some array_prototype)) in
      subst (λ objects. Runs w (evaluate set calls context (suc d) e) s 1 (Object made.0) (record s { heap = record (s.heap) { objects = objects } })) (set_end s.heap.objects state)
      (array_runs e [] s (changed made.0 state (record s { heap = made.1 })) 0 is (no_elements e.at made.0 0 (record s { heap = made.1 }) state (new_length s.heap)))

  -- ---- operators

  by_value : (at : Place) (op : UnaryOp) (row : Primitive → Result Primitive Why) (x v : Value) (s : State) → unary_row op ≡ Some row → operators.operated_one (is_function s.heap) op row x ≡ Ok v
      → Runs w (expressions.unary_value at op x) s 0 v s
  unfolding operators.operate_one
  by_value at op row x v s there gives = at_once w (λ k r. rw there (rw gives refl))

  unary_rule_is : (at : Place) (op : UnaryOp) (a : Expr) → takes_value op ≡ true → expressions.unary_rule ev context at op a ≡ (evaluate set calls context d a >>= (λ v. expressions.unary_value at op v))
  unfolding expressions.unary_rule
  unary_rule_is at unary.Plus a takes = refl
  unary_rule_is at unary.Minus a takes = refl
  unary_rule_is at unary.Not a takes = refl
  unary_rule_is at unary.BitNot a takes = refl
  unary_rule_is at unary.Void a takes = refl
  unary_rule_is at unary.TypeOf a takes = absurd (both_ways false refl takes)
  unary_rule_is at unary.Delete a takes = absurd (both_ways false refl takes)

  unary_runs : (e a : Expr) (op : UnaryOp) (row : Primitive → Result Primitive Why) (before after : State) (i : ℕ) (x v : Value)
      → IsExpr e (ExprForm-F.Unary op a) → takes_value op ≡ true → Runs w (evaluate set calls context d a) before i x after
      → unary_row op ≡ Some row → operators.operated_one (is_function after.heap) op row x ≡ Ok v → Runs w (evaluate set calls context (suc d) e) before (1 + i) v after
  unfolding expr_rule
  unary_runs e a op row before after i x v is takes runs there gives =
      expr_runs set calls context w d e (ExprForm-F.Unary op a) is
      (subst (λ m. Runs w m before i v after) (sym (unary_rule_is e.at op a takes))
      (counted w (zero_more i) (followed w {f = λ v. expressions.unary_value e.at op v} runs (by_value e.at op row x v after there gives))))

  binary_runs : (e a b : Expr) (op : BinaryOp) (row : Primitive → Primitive → Result Primitive Why) (before mid after : State) (i j : ℕ) (x y v : Value)
      → IsExpr e (ExprForm-F.Binary op a b) → Runs w (evaluate set calls context d a) before i x mid → Runs w (evaluate set calls context d b) mid j y after
      → binary_row op ≡ Some row → operators.operated op row x y ≡ Ok v → Runs w (evaluate set calls context (suc d) e) before (1 + (i + j)) v after
  unfolding expr_rule expressions.binary_rule operators.operate
  binary_runs e a b op row before mid after i j x y v is first second there gives =
      counted w (ap (λ n. 1 + (i + n)) (zero_more j))
      (expr_runs set calls context w d e (ExprForm-F.Binary op a b) is
      (followed w {f = λ x. evaluate set calls context d b >>= (λ y. expressions.binary_value (site ev e.at) op x y)} first
      (followed w {f = λ y. expressions.binary_value (site ev e.at) op x y} second (at_once w (λ k r. rw there (rw gives refl))))))

  typeof_runs : (e a : Expr) (row : Primitive → Result Primitive Why) (before after : State) (i : ℕ) (x v : Value)
      → IsExpr e (ExprForm-F.Unary unary.TypeOf a) → Runs w (expressions.operand_of_typeof ev context a) before i x after
      → unary_row unary.TypeOf ≡ Some row → operators.operated_one (is_function after.heap) unary.TypeOf row x ≡ Ok v → Runs w (evaluate set calls context (suc d) e) before (1 + i) v after
  unfolding expr_rule expressions.unary_rule expressions.typeof_rule
  typeof_runs e a row before after i x v is runs there gives =
      expr_runs set calls context w d e (ExprForm-F.Unary unary.TypeOf a) is
      (counted w (zero_more i) (followed w {f = λ v. expressions.unary_value e.at unary.TypeOf v} runs (by_value e.at unary.TypeOf row x v after there gives)))

  typeof_value : (e a : Expr) (row : Primitive → Result Primitive Why) (before after : State) (i : ℕ) (x v : Value)
      → IsExpr e (ExprForm-F.Unary unary.TypeOf a) → is_name (out-ExprForm a.form) ≡ false → Runs w (evaluate set calls context d a) before i x after
      → unary_row unary.TypeOf ≡ Some row → operators.operated_one (is_function after.heap) unary.TypeOf row x ≡ Ok v → Runs w (evaluate set calls context (suc d) e) before (1 + i) v after
  typeof_value e a row before after i x v is no_name runs there gives =
      typeof_runs e a row before after i x v is
      (subst (λ named. Runs w (if named then (references_of >>= (λ ref. expressions.value_or_undefined (site ev a.at) ref)) else evaluate set calls context d a) before i x after) (sym no_name) runs)
      there gives
    where
      references_of : Run Reference
      references_of = (within set d calls).reference context a

  -- ---- names on the global object

  global_name_runs : (e : Expr) (name : Key) (s : State) (v : Value) → IsExpr e (ExprForm-F.Name name) → resolve context.environment name ≡ None → methods.checked_key name ≡ Ok name
      → methods.has_property s.heap global name ≡ true → methods.get s.heap global name ≡ methods.GotValue v → is_absent v ≡ false → Runs w (evaluate set calls context (suc d) e) s 1 v s
  unfolding expr_rule expressions.name_rule references.resolve_name references.get_value objects.has_property objects.get
  global_name_runs e name s v is free named there got known =
      expr_runs set calls context w d e (ExprForm-F.Name name) is (at_once w (λ k r. rw free (rw named (rw there (rw named (rw got (present_value e.at v known s.heap k r)))))))

  deleted_index : (t : Stmt) (base : Expr) (key : Key) (before mid : State) (i : ℕ) (o : ObjNo) (state : ObjectState) → DeletesIndex t base key
      → Runs w (evaluate set calls context (suc d) base) before i (Object o) mid → methods.checked_key key ≡ Ok key → option_and_then (methods.delete key) (object_at mid.heap o) ≡ Some state
      → Runs w (execute set calls context (suc (suc (suc (suc d)))) t) before (4 + i) Normal (changed o state mid)
  unfolding expr_rule expressions.unary_rule expressions.delete_rule
  deleted_index t base key before mid i o state says runs named left =
      counted w (total i)
      (evaluated set calls context w (suc (suc (suc d))) t says.deletion before (changed o state mid) (1 + ((2 + i) + 0)) (truth true) says.is_statement
      (expr_runs set calls context w (suc (suc d)) says.deletion (ExprForm-F.Unary unary.Delete says.target) says.is_deletion
      (subst (λ form. Runs w (if expressions.is_reference form then (references_of >>= deletes) else (evaluate set calls context (suc (suc d)) says.target >>= (λ _ s k r. k (truth true) s))) before ((2 + i) + 0) (truth true) (changed o state mid)) (sym says.is_target)
      (followed w {f = deletes} (index_target set calls context w d says.target base says.index key o before mid i says.is_target says.is_index runs) gone))))
    where
      total : (i : ℕ) → 1 + (1 + ((2 + i) + 0)) ≡ 4 + i
      total i = omega arith

      references_of : Run Reference
      references_of = (within set (suc (suc d)) calls).reference context says.target

      deletes : Reference → Run Value
      deletes ref = expressions.delete_reference (site (ev_of set (within set (suc (suc d))) calls) says.deletion.at) ref

      gone : Runs w (deletes (PropertyReference (Object o) key context.strict)) mid 0 (truth true) (changed o state mid)
      gone = at_once w (λ k r. removed (site (ev_of set (within set (suc (suc d))) calls) says.deletion.at) o key context.strict state mid.heap named left (λ b s. k (truth b) s) r)

-- an own property is found first
own_first : (h : Heap) (o : ObjNo) (key : Key) (state : ObjectState) (p : Property) → object_at h o ≡ Some state → methods.own_property key state ≡ Some p
    → methods.get_property h key (Some o) ≡ Some (o, p)
unfolding methods.get_property
own_first h o key state p there own =
    ap (λ s. methods.property_along (depth_of s) h key (Some o)) there
    ∙ ap (λ s. option_and_then (λ (s : ObjectState). or_else (option_map (λ (p : Property). (o, p)) (methods.own_property key s)) (methods.property_along state.depth h key s.prototype)) s) there
    ∙ ap (λ p. or_else (option_map (λ (p : Property). (o, p)) p) (methods.property_along state.depth h key state.prototype)) own

has_own : (h : Heap) (o : ObjNo) (key : Key) (p : Property) → methods.get_property h key (Some o) ≡ Some (o, p) → methods.has_property h o key ≡ true
unfolding methods.has_property
has_own h o key p found = rw found refl

got_own : (h : Heap) (o : ObjNo) (key : Key) (v : Value) (w e c : Bool) → methods.get_property h key (Some o) ≡ Some (o, data_property v w e c) → methods.get h o key ≡ methods.GotValue v
unfolding methods.get
got_own h o key v w e c found = rw found refl

module _ (set : Setting) (calls : ℕ) (context : Context) (w : World) (d : ℕ) where
  undefined_name : (e : Expr) (s : State) (state : ObjectState) → IsExpr e (ExprForm-F.Name (codes "undefined")) → resolve context.environment (codes "undefined") ≡ None
      → object_at s.heap global ≡ Some state → methods.own_property (codes "undefined") state ≡ Some (data_property undefined false false false) → Runs w (evaluate set calls context (suc d) e) s 1 undefined s
  undefined_name e s state is free there own =
      global_name_runs set calls context w d e (codes "undefined") s undefined is free refl (has_own s.heap global (codes "undefined") (data_property undefined false false false) found)
      (got_own s.heap global (codes "undefined") undefined false false false found) refl
    where
      found : methods.get_property s.heap (codes "undefined") (Some global) ≡ Some (global, data_property undefined false false false)
      found = own_first s.heap global (codes "undefined") state (data_property undefined false false false) there own

  -- the value of a temporary is taken at its name
  typeof_temporary : (e a : Expr) (name : List ℕ) (c : CellNo) (row : Primitive → Result Primitive Why) (s : State) (x v : Value)
      → IsExpr e (ExprForm-F.Unary unary.TypeOf a) → IsExpr a (ExprForm-F.Name name) → resolve context.environment name ≡ Some c → cell s.heap c ≡ Some x
      → unary_row unary.TypeOf ≡ Some row → operators.operated_one (is_function s.heap) unary.TypeOf row x ≡ Ok v → Runs w (evaluate set calls context (suc (suc d)) e) s 2 v s
  unfolding references.get_value
  typeof_temporary e a name c row s x v is is_name bound holds there gives =
      typeof_runs set calls context w (suc d) e a row s s 1 x v is
      (subst (λ form. Runs w (if expressions.is_name form then (references_of >>= value_of) else evaluate set calls context (suc d) a) s (1 + 0) x s) (sym is_name)
      (followed w {f = value_of} (name_target set calls context w d a name c s is_name bound) got)) there gives
    where
      references_of : Run Reference
      references_of = (within set (suc d) calls).reference context a

      value_of : Reference → Run Value
      value_of ref = expressions.value_or_undefined (site (ev_of set (within set (suc d)) calls) a.at) ref

      got : Runs w (value_of (NameReference name (InCell c) context.strict)) s 0 x s
      got = at_once w (λ k r. rw holds refl)

pub values_run : ValuesRun
values_run = record {
  objects = λ set calls context w d. record { none = no_fields set calls context w d; field = next_field set calls context w d; object = object_runs set calls context w d };
  arrays = λ set calls context w d. record {
    none = no_elements set calls context w d;
    hole = λ at o n es before after i runs. runs;
    element = element_runs set calls context w d;
    array = array_runs set calls context w d;
    empty = empty_array set calls context w d;
  };
  operators = λ set calls context w d. record {
    of_one = unary_runs set calls context w d;
    of_two = binary_runs set calls context w d;
    typeof_temporary = typeof_temporary set calls context w d;
    typeof_value = typeof_value set calls context w d;
  };
  names = λ set calls context w d. record { global_name = global_name_runs set calls context w d; undefined_name = undefined_name set calls context w d; deleted_index = deleted_index set calls context w d };
}
