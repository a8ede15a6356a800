-- The runs of operands and of statements, one lemma for each form.
use Rattle.std.proofs.Common.{◌≡◌, ◌⊎◌, inl, inr, ℕ, suc, ◌+◌, ◌&&◌, Bool, true, false, List, [], ◌∷◌, refl, ap, subst, sym, ◌∙◌, zero-add, arith}
use Rattle.std.specs.Prelude.{ℤ, if◌then◌else◌, length, slice_get, Ok, Option, Some, None}
use Rattle.std.specs.List.{list_any}
use Rattle.std.specs.Option.{option_and_then}
use Rattle.std.proofs.lemmas.Bool.{both_ways}
use Rattle.js_value.specs.declared.place.FuncNo.{FuncNo}
use Rattle.js_value.specs.Conversions.{is_same_text, to_boolean, to_number, to_text}
use Rattle.js_value.specs.Numbers.{negated}
use Rattle.js_value.specs.Operators.{unary_row}
use Rattle.js_value.specs.declared.operator.UnaryOp.TheVariants as unary
use Rattle.js_value.specs.declared.place.Place.{Place}
use Rattle.js_value.specs.declared.primitive.Kind.{Kind}
use Rattle.js_value.specs.declared.primitive.Primitive.{Primitive}
use Rattle.js_value.specs.declared.primitive.Primitive.TheVariants as primitive
use Rattle.js_value.specs.declared.why.Why.TheVariants.{HostArgument}
use Rattle.js_tree.specs.declared.expression.Expr.{Expr}
use Rattle.js_tree.specs.declared.expression.Field.{Field}
use Rattle.js_tree.specs.declared.expression.ExprForm.{ExprForm}
use Rattle.js_tree.specs.declared.expression.ExprForm.TheOpen.{ExprForm-F}
use Rattle.js_tree.specs.declared.statement.Case.{Case}
use Rattle.js_tree.specs.declared.statement.Catch.{Catch}
use Rattle.js_tree.specs.declared.statement.Finally.{Finally}
use Rattle.js_tree.specs.declared.statement.Stmt.{Stmt}
use Rattle.js_tree.specs.declared.statement.StmtForm.{StmtForm}
use Rattle.js_tree.specs.declared.statement.StmtForm.TheOpen.{StmtForm-F}
use Rattle.plain_heap.specs.Heap.{Key, Heap, ObjectState, Plain, Builtin, is_function, cell, lookup, make_object, resolve, set_cell, set_object, object_at}
use Rattle.plain_heap.specs.Methods as methods
use Rattle.plain_heap.specs.Valid.{is_absent}
use Rattle.plain_heap.specs.Values.{Value, Prim, Object, Absent, Symbolic, ObjNo, CellNo, truth, undefined}
use Rattle.js_machine.specs.Machine.Creating.{function_expression}
use Rattle.js_machine.specs.Machine.Events.{Tree, Step, Run, ◌>>=◌, choose, each, leave, take_input}
use Rattle.js_machine.specs.Machine.Operators as operators
use Rattle.js_machine.specs.Machine.RealmObjects.{object_prototype, TypeError}
use Rattle.js_machine.specs.Machine.Expressions as expressions
use Rattle.js_machine.specs.Machine.Expressions.{Completion, Normal, Ev, site, expr_rule, reference_rule}
use Rattle.js_machine.specs.Machine.Levels.{Setting, within, ev_of, class_of, perform_call, builtin, call_class, run_rule}
use Rattle.js_machine.specs.Machine.ObjectBuiltins.{Rule}
use Rattle.js_machine.specs.Machine.Realm.{builtin_rule}
use Rattle.js_machine.specs.Machine.Objects as objects
use Rattle.js_machine.specs.Machine.Objects.{Site}
use Rattle.js_machine.specs.Machine.References as references
use Rattle.js_machine.specs.Machine.References.{Context, Reference, NameReference, PropertyReference, InCell}
use Rattle.js_machine.specs.Machine.Statements as rules
use Rattle.js_machine.specs.Machine.Statements.{statements, stmt_rule}
use Rattle.js_machine.specs.Machine.Walks.{World, Answer, called, is_of_kind, walk}
use Rattle.js_machine.proofs.Opening.{at_expr, at_reference, at_stmt, at_call, at_builtin}
use Rattle.residual_runs.specs.Runs.{State, Runs, Throws}
use Rattle.residual_runs.specs.Statements.{IsExpr, IsStmt, IsLengthField, Defines, Puts, AssignsName, AssignsMember, AssignsIndex, Deletes, BodiesRun, evaluate, execute}
use Rattle.residual_runs.proofs.Runs.{at_once, followed, behind_step, throws_first, throws_then, throws_behind_step, counted}

-- ---- properties

-- a value that is to be the length of an array stays the number that it is
length_kept : (at : Place) (d : methods.Descriptor) (v : Option Value) → d.value ≡ v → IsLengthField v → (h : Heap) (k : methods.Descriptor → Heap → Tree) (r : Value → Heap → Tree)
    → objects.with_length at d v h k r ≡ k d h
unfolding to_number operators.to_length
length_kept at d None is field h k r = refl
length_kept at d (Some (Prim (primitive.Number n))) is field h k r = ap (λ v. k (record d { value = v }) h) (sym is)
length_kept at d (Some (Prim primitive.Undefined)) is field h k r = absurd field
length_kept at d (Some (Prim primitive.Null)) is field h k r = absurd field
length_kept at d (Some (Prim (primitive.Boolean b))) is field h k r = absurd field
length_kept at d (Some (Prim (primitive.Text t))) is field h k r = absurd field
length_kept at d (Some (Object o)) is field h k r = absurd field
length_kept at d (Some Absent) is field h k r = absurd field
length_kept at d (Some (Symbolic x)) is field h k r = absurd field

numbered : (at : Place) (is_length : Bool) (d : methods.Descriptor) → (is_length ≡ false) ⊎ IsLengthField d.value → (h : Heap) (k : methods.Descriptor → Heap → Tree) (r : Value → Heap → Tree)
    → choose is_length (objects.with_length at d d.value) (λ s k r. k d s) h k r ≡ k d h
numbered at false d number h k r = refl
numbered at true d (inl other) h k r = absurd (both_ways true other refl)
numbered at true d (inr number) h k r = length_kept at d d.value refl number h k r

pub define_is : (site : Site) (o : ObjNo) (key : Key) (d : methods.Descriptor) (throws : Bool) (h : Heap) (after : ObjectState) → Defines h o key d after
    → (k : Unit {0} → Heap → Tree) (r : Value → Heap → Tree) → objects.define site o key d throws h k r ≡ k tt (set_object o after h)
unfolding objects.define
define_is site o key d throws h after p k r =
    rw p.named (rw p.there
    (numbered site.at (objects.is_array_state (Some p.before) && is_same_text key methods.length_key) d p.length h (λ d s. objects.define_at site o key d throws (Some p.before) s k r) r
    ∙ rw p.defined refl))

pub put_is : (site : Site) (o : ObjNo) (key : Key) (v : Value) (h : Heap) (after : ObjectState) → Puts h o key v after
    → (k : Unit {0} → Heap → Tree) (r : Value → Heap → Tree) → objects.put site o key v false h k r ≡ k tt (set_object o after h)
unfolding objects.put
put_is site o key v h after p k r = rw (p.defines.named, p.put) (define_is site o key p.descriptor false h after p.defines k r)

pub present_value : (at : Place) (v : Value) → is_absent v ≡ false → (h : Heap) (k r : Value → Heap → Tree) → objects.present at v h k r ≡ k v h
present_value at (Prim p) is h k r = refl
present_value at (Object o) is h k r = refl
present_value at (Symbolic x) is h k r = refl
present_value at Absent is h k r = absurd (both_ways true is refl)

pub removed : (at : Site) (o : ObjNo) (key : Key) (throws : Bool) (state : ObjectState) (h : Heap) → methods.checked_key key ≡ Ok key → option_and_then (methods.delete key) (object_at h o) ≡ Some state
    → (k : Bool → Heap → Tree) (r : Value → Heap → Tree) → objects.delete_of at (Object o) key throws h k r ≡ k true (set_object o state h)
unfolding objects.delete_of objects.delete
removed at o key throws state h named left k r = rw named (rw left refl)

module _ (set : Setting) (calls : ℕ) (context : Context) (w : World) where
  abbrev pub ev : ℕ → Ev
  ev d = ev_of set (within set d) calls

  -- ---- nodes

  pub expr_runs : (d : ℕ) {before after : State} {i : ℕ} {v : Value} (e : Expr) (form : ExprForm-F ExprForm Field Expr) → IsExpr e form
      → Runs w (expr_rule (ev d) context e.at form) before i v after → Runs w (evaluate set calls context (suc d) e) before (1 + i) v after
  expr_runs d {before = before} e form is runs =
      behind_step w e.at (λ k r. at_expr set d calls context e before.heap k r ∙ ap (λ form. Step e.at (expr_rule (ev d) context e.at form before.heap k r)) is) runs

  pub reference_runs : (d : ℕ) {before after : State} {i : ℕ} {v : Reference} (e : Expr) (form : ExprForm-F ExprForm Field Expr) → IsExpr e form
      → Runs w (reference_rule (ev d) context e.at form) before i v after → Runs w ((within set (suc d) calls).reference context e) before (1 + i) v after
  reference_runs d {before = before} e form is runs =
      behind_step w e.at (λ k r. at_reference set d calls context e before.heap k r ∙ ap (λ form. Step e.at (reference_rule (ev d) context e.at form before.heap k r)) is) runs

  pub stmt_runs : (d : ℕ) {before after : State} {i : ℕ} {v : Completion} (t : Stmt) (form : StmtForm-F StmtForm Case Catch Finally Stmt) → IsStmt t form
      → Runs w (stmt_rule (ev d) context t.at form) before i v after → Runs w (execute set calls context (suc d) t) before (1 + i) v after
  stmt_runs d {before = before} t form is runs =
      behind_step w t.at (λ k r. at_stmt set d calls context t before.heap k r ∙ ap (λ form. Step t.at (stmt_rule (ev d) context t.at form before.heap k r)) is) runs

  pub stmt_throws : (d : ℕ) {before after : State} {i : ℕ} {v : Value} (t : Stmt) (form : StmtForm-F StmtForm Case Catch Finally Stmt) → IsStmt t form
      → Throws w (stmt_rule (ev d) context t.at form) before i v after → Throws w (execute set calls context (suc d) t) before (1 + i) v after
  stmt_throws d {before = before} t form is runs =
      throws_behind_step w t.at (λ k r. at_stmt set d calls context t before.heap k r ∙ ap (λ form. Step t.at (stmt_rule (ev d) context t.at form before.heap k r)) is) runs

  -- ---- operands

  pub this_runs : (d : ℕ) (e : Expr) (s : State) → IsExpr e ExprForm-F.This → Runs w (evaluate set calls context (suc d) e) s 1 context.this s
  unfolding expr_rule
  this_runs d e s is = expr_runs d e ExprForm-F.This is (at_once w (λ k r. refl))

  pub literal_runs : (d : ℕ) (e : Expr) (p : Primitive) (s : State) → IsExpr e (ExprForm-F.Literal p) → Runs w (evaluate set calls context (suc d) e) s 1 (Prim p) s
  unfolding expr_rule
  literal_runs d e p s is = expr_runs d e (ExprForm-F.Literal p) is (at_once w (λ k r. refl))

  pub temporary_runs : (d : ℕ) (e : Expr) (name : List ℕ) (c : CellNo) (v : Value) (s : State) → IsExpr e (ExprForm-F.Name name) → resolve context.environment name ≡ Some c → cell s.heap c ≡ Some v
      → Runs w (evaluate set calls context (suc d) e) s 1 v s
  unfolding expr_rule expressions.name_rule references.resolve_name references.get_value
  temporary_runs d e name c v s is bound holds = expr_runs d e (ExprForm-F.Name name) is (at_once w (λ k r. rw (bound, holds) refl))

  pub function_runs : (d : ℕ) (e : Expr) (f : FuncNo) (s : State) → IsExpr e (ExprForm-F.Func f)
      → let made = function_expression set.functions f context.environment context.strict s.heap in
      Runs w (evaluate set calls context (suc d) e) s 1 (Object made.0) (record s { heap = made.1 })
  unfolding expr_rule expressions.function_rule
  function_runs d e f s is = expr_runs d e (ExprForm-F.Func f) is (at_once w (λ k r. refl))

  -- ---- assignments

  assigns : (d : ℕ) (t : Stmt) (assignment target value : Expr) {before mid last after : State} {i j : ℕ} (ref : Reference) (v : Value)
      → IsStmt t (StmtForm-F.Eval assignment) → IsExpr assignment (ExprForm-F.Assign target None value)
      → Runs w ((within set (suc d) calls).reference context target) before i ref mid → Runs w (evaluate set calls context (suc d) value) mid j v last
      → Runs w (references.put_value (site (ev (suc d)) assignment.at) ref v) last 0 tt after
      → Runs w (execute set calls context (suc (suc (suc d))) t) before (2 + (i + j)) Normal after
  unfolding stmt_rule rules.eval_rule expr_rule expressions.assign_rule
  assigns d t assignment target value {last = last} {after = after} {i = i} {j = j} ref v is_stmt is_expr first second third =
      counted w (sum i j)
      (stmt_runs (suc (suc d)) t (StmtForm-F.Eval assignment) is_stmt
      (followed w {f = λ _ s k r. k Normal s}
      (expr_runs (suc d) assignment (ExprForm-F.Assign target None value) is_expr
      (followed w {f = λ ref. (within set (suc d) calls).expr context value >>= (λ v. references.put_value (site (ev (suc d)) assignment.at) ref v >>= (λ _ s k r. k v s))} first
      (followed w {f = λ v. references.put_value (site (ev (suc d)) assignment.at) ref v >>= (λ _ s k r. k v s)} second
      (record { at = λ n k r. third.at n (λ _ s. k v s) r }))))
      (at_once w (λ k r. refl))))
    where
      sum : (i j : ℕ) → 1 + ((1 + (i + (j + 0))) + 0) ≡ 2 + (i + j)
      sum i j = omega arith

  pub name_target : (d : ℕ) (e : Expr) (name : List ℕ) (c : CellNo) (s : State) → IsExpr e (ExprForm-F.Name name) → resolve context.environment name ≡ Some c
      → Runs w ((within set (suc d) calls).reference context e) s 1 (NameReference name (InCell c) context.strict) s
  unfolding reference_rule references.resolve_name
  name_target d e name c s is bound = reference_runs d e (ExprForm-F.Name name) is (at_once w (λ k r. rw bound refl))

  pub member_target : (d : ℕ) (e base : Expr) (key : Key) (o : ObjNo) (before after : State) (i : ℕ) → IsExpr e (ExprForm-F.Member base key) → Runs w (evaluate set calls context d base) before i (Object o) after
      → Runs w ((within set (suc d) calls).reference context e) before (1 + i) (PropertyReference (Object o) key context.strict) after
  unfolding reference_rule expressions.member_reference
  member_target d e base key o before after i is runs =
      counted w (sum i)
      (reference_runs d e (ExprForm-F.Member base key) is
      (followed w {f = λ base. objects.check_base e.at base >>= (λ _ s k r. k (PropertyReference base key context.strict) s)} runs (at_once w (λ k r. refl))))
    where
      sum : (i : ℕ) → 1 + (i + 0) ≡ 1 + i
      sum i = omega arith

  cell_written : (at : Site) (name : List ℕ) (c : CellNo) (v : Value) (s : State) → Runs w (references.put_value at (NameReference name (InCell c) context.strict) v) s 0 tt (record s { heap = set_cell c v s.heap })
  unfolding references.put_value
  cell_written at name c v s = at_once w (λ k r. refl)

  property_written : (at : Site) (o : ObjNo) (key : Key) (v : Value) (s : State) (after : ObjectState) → context.strict ≡ false → Puts s.heap o key v after
      → Runs w (references.put_value at (PropertyReference (Object o) key context.strict) v) s 0 tt (record s { heap = set_object o after s.heap })
  unfolding references.put_value objects.put_of
  property_written at o key v s after sloppy p = at_once w (λ k r. ap (λ strict. objects.put at o key v strict s.heap k r) sloppy ∙ put_is at o key v s.heap after p k r)

  -- ---- statements

  pub evaluated : (d : ℕ) (t : Stmt) (e : Expr) (before after : State) (i : ℕ) (v : Value) → IsStmt t (StmtForm-F.Eval e) → Runs w (evaluate set calls context d e) before i v after
      → Runs w (execute set calls context (suc d) t) before (1 + i) Normal after
  unfolding stmt_rule rules.eval_rule
  evaluated d t e before after i v is runs =
      counted w (sum i) (stmt_runs d t (StmtForm-F.Eval e) is (followed w {f = λ _ s k r. k Normal s} runs (at_once w (λ k r. refl))))
    where
      sum : (i : ℕ) → 1 + (i + 0) ≡ 1 + i
      sum i = omega arith

  pub temporary_gets : (d : ℕ) (t : Stmt) (name : List ℕ) (value : Expr) (c : CellNo) (before after : State) (i : ℕ) (v : Value) → AssignsName t name value → resolve context.environment name ≡ Some c
      → Runs w (evaluate set calls context (suc d) value) before i v after
      → Runs w (execute set calls context (suc (suc (suc d))) t) before (3 + i) Normal (record after { heap = set_cell c v after.heap })
  temporary_gets d t name value c before after i v says bound runs =
      counted w (sum i)
      (assigns d t says.assignment says.target value (NameReference name (InCell c) context.strict) v says.is_statement says.is_assignment
      (name_target d says.target name c before says.is_target bound) runs (cell_written (site (ev (suc d)) says.assignment.at) name c v after))
    where
      sum : (i : ℕ) → 2 + (1 + i) ≡ 3 + i
      sum i = omega arith

  member_gets : (d : ℕ) (t : Stmt) (base value : Expr) (key : Key) (before mid after : State) (i j : ℕ) (o : ObjNo) (v : Value) (state : ObjectState) → AssignsMember t base key value
      → Runs w (evaluate set calls context d base) before i (Object o) mid → Runs w (evaluate set calls context (suc d) value) mid j v after → context.strict ≡ false → Puts after.heap o key v state
      → Runs w (execute set calls context (suc (suc (suc d))) t) before (3 + (i + j)) Normal (record after { heap = set_object o state after.heap })
  member_gets d t base value key before mid after i j o v state says first second sloppy puts =
      counted w (sum i j)
      (assigns d t says.assignment says.target value (PropertyReference (Object o) key context.strict) v says.is_statement says.is_assignment
      (member_target d says.target base key o before mid i says.is_target first) second (property_written (site (ev (suc d)) says.assignment.at) o key v after state sloppy puts))
    where
      sum : (i j : ℕ) → 2 + ((1 + i) + j) ≡ 3 + (i + j)
      sum i j = omega arith

  thrown : (d : ℕ) (t : Stmt) (e : Expr) (before after : State) (i : ℕ) (v : Value) → IsStmt t (StmtForm-F.Throw e) → Runs w (evaluate set calls context d e) before i v after
      → Throws w (execute set calls context (suc d) t) before (1 + i) v after
  unfolding stmt_rule rules.throw_rule
  thrown d t e before after i v is runs = stmt_throws d t (StmtForm-F.Throw e) is (record { at = λ n k r. runs.at n (λ v s. r v s) r })

  -- ---- values

  pub sum_zero : (i : ℕ) → 1 + (i + 0) ≡ 1 + i
  sum_zero i = omega arith

  negative_runs : (d : ℕ) (e a : Expr) (n m : ℤ) (s : State) → IsExpr e (ExprForm-F.Unary unary.Minus a) → IsExpr a (ExprForm-F.Literal (primitive.Number n)) → negated n ≡ Ok m
      → Runs w (evaluate set calls context (suc (suc d)) e) s 2 (Prim (primitive.Number m)) s
  unfolding expr_rule expressions.unary_rule unary_row operators.operate_one to_number
  negative_runs d e a n m s is literal negates =
      expr_runs (suc d) e (ExprForm-F.Unary unary.Minus a) is
      (followed w {f = λ v. expressions.unary_value e.at unary.Minus v} (literal_runs d a (primitive.Number n) s literal) (at_once w (λ k r. rw negates refl)))

  pub property_read : (at : Site) (o : ObjNo) (key : Key) (v : Value) (s : State) → methods.checked_key key ≡ Ok key → methods.get s.heap o key ≡ methods.GotValue v → is_absent v ≡ false
      → Runs w (references.get_value at (PropertyReference (Object o) key context.strict)) s 0 v s
  unfolding references.get_value objects.get_of objects.get
  property_read at o key v s named got known = at_once w (λ k r. rw (named, got) (present_value at.at v known s.heap k r))

  pub member_runs : (d : ℕ) (e base : Expr) (key : Key) (o : ObjNo) (v : Value) (before after : State) (i : ℕ) → IsExpr e (ExprForm-F.Member base key) → Runs w (evaluate set calls context d base) before i (Object o) after
      → methods.checked_key key ≡ Ok key → methods.get after.heap o key ≡ methods.GotValue v → is_absent v ≡ false → Runs w (evaluate set calls context (suc d) e) before (1 + i) v after
  unfolding expr_rule expressions.member_rule expressions.member_reference
  member_runs d e base key o v before after i is runs named got known =
      counted w (sum i)
      (expr_runs d e (ExprForm-F.Member base key) is
      (followed w {f = λ ref. references.get_value (site (ev d) e.at) ref}
      (followed w {f = λ base. objects.check_base e.at base >>= (λ _ s k r. k (PropertyReference base key context.strict) s)} runs (at_once w (λ k r. refl)))
      (property_read (site (ev d) e.at) o key v after named got known)))
    where
      sum : (i : ℕ) → 1 + ((i + 0) + 0) ≡ 1 + i
      sum i = omega arith

  tested : {A : Type 0} (at : Place) (t : Bool) (m n : Run A) (s : State) {after : State} {j : ℕ} {a : A} → Runs w (choose t m n) s j a after
      → Runs w (operators.test at (truth t) >>= (λ b. choose b m n)) s j a after
  unfolding operators.test to_boolean
  tested at t m n s runs = runs

  conditional_runs : (d : ℕ) (t : Bool) (e test a b : Expr) (before mid after : State) (i j : ℕ) (v : Value) → IsExpr e (ExprForm-F.Conditional test a b) → Runs w (evaluate set calls context d test) before i (truth t) mid
      → Runs w (choose t (evaluate set calls context d a) (evaluate set calls context d b)) mid j v after → Runs w (evaluate set calls context (suc d) e) before (1 + (i + j)) v after
  unfolding expr_rule expressions.conditional_rule
  conditional_runs d t e test a b before mid after i j v is first second =
      expr_runs d e (ExprForm-F.Conditional test a b) is
      (followed w {f = λ v. operators.test e.at v >>= (λ t. choose t (evaluate set calls context d a) (evaluate set calls context d b))} first
      (tested e.at t (evaluate set calls context d a) (evaluate set calls context d b) mid second))

  empty_runs : (d : ℕ) (e : Expr) (s : State) → IsExpr e (ExprForm-F.ObjectLit []) → let made = make_object Plain (Some object_prototype) s.heap in
      Runs w (evaluate set calls context (suc d) e) s 1 (Object made.0) (record s { heap = made.1 })
  unfolding expr_rule expressions.object_rule
  empty_runs d e s is = expr_runs d e (ExprForm-F.ObjectLit []) is (at_once w (λ k r. refl))

  -- ---- inputs and host calls

  input_runs : (d : ℕ) (e : Expr) (kind : Kind) (name : List ℕ) (p : Primitive) (s : State) → IsExpr e (ExprForm-F.Input kind name) → lookup name w.inputs ≡ Some p → is_of_kind kind p ≡ true
      → Runs w (evaluate set calls context (suc d) e) s 1 (Prim p) s
  unfolding expr_rule
  input_runs d e kind name p s is there right =
      expr_runs d e (ExprForm-F.Input kind name) is given
    where
      given : Runs w (take_input e.at kind name) s 0 (Prim p) s
      given = record { at = λ n k r. rw there (rw right (ap (λ n. walk w n s.calls (k (Prim p) s.heap)) (zero-add n))) }

  host_runs : (d : ℕ) (e : Expr) (kind : Kind) (name : List ℕ) (arguments : List Expr) (values : List Value) (answer : Answer) (before after : State) (i : ℕ) → IsExpr e (ExprForm-F.HostCall kind name arguments)
      → Runs w (each (evaluate set calls context d) arguments) before i values after → list_any operators.is_object values ≡ false → slice_get w.answers (length after.calls) ≡ Some answer → is_of_kind kind answer.value ≡ true → answer.threw ≡ false
      → Runs w (evaluate set calls context (suc d) e) before (1 + i) (Prim answer.value) (record after { calls = called after.calls name values kind (Prim answer.value) (truth false) })
  unfolding expr_rule expressions.host_rule operators.test to_boolean
  host_runs d e kind name arguments values answer before after i is runs plain there right normal =
      counted w (sum_zero i)
      (expr_runs d e (ExprForm-F.HostCall kind name arguments) is
      (followed w {f = λ values. if list_any operators.is_object values then leave HostArgument e.at else expressions.asked_host e.at kind name values} runs asked))
    where
      asked : Runs w (if list_any operators.is_object values then leave HostArgument e.at else expressions.asked_host e.at kind name values) after 0 (Prim answer.value) (record after { calls = called after.calls name values kind (Prim answer.value) (truth false) })
      asked = record { at = λ n k r. rw plain (rw there (rw right (rw normal (ap (λ n. walk w n (called after.calls name values kind (Prim answer.value) (truth false)) (k (Prim answer.value) after.heap)) (zero-add n))))) }

  pub no_arguments : (d : ℕ) (s : State) → Runs w (each (evaluate set calls context d) []) s 0 [] s
  no_arguments d s = at_once w (λ k r. refl)

  pub argument : (d : ℕ) (e : Expr) (es : List Expr) (before mid after : State) (i j : ℕ) (v : Value) (vs : List Value) → Runs w (evaluate set calls context d e) before i v mid → Runs w (each (evaluate set calls context d) es) mid j vs after
      → Runs w (each (evaluate set calls context d) (e ∷ es)) before (i + j) (v ∷ vs) after
  argument d e es before mid after i j v vs first second =
      followed w {f = λ v. each (evaluate set calls context d) es >>= (λ vs s k r. k (v ∷ vs) s)} first (record { at = λ n k r. second.at n (λ vs s. k (v ∷ vs) s) r })

  -- ---- conditions and blocks

  if_runs : (d : ℕ) (c : Bool) (t : Stmt) (e : Expr) (a : Stmt) (b : Option Stmt) (before mid after : State) (i j : ℕ) (completion : Completion) → IsStmt t (StmtForm-F.If e a b) → Runs w (evaluate set calls context d e) before i (truth c) mid
      → Runs w (choose c (execute set calls context d a) (rules.maybe_stmt (ev d) context b)) mid j completion after → Runs w (execute set calls context (suc d) t) before (1 + (i + j)) completion after
  unfolding stmt_rule rules.if_rule
  if_runs d c t e a b before mid after i j completion is first second =
      stmt_runs d t (StmtForm-F.If e a b) is
      (followed w {f = λ v. operators.test t.at v >>= (λ c. choose c (execute set calls context d a) (rules.maybe_stmt (ev d) context b))} first
      (tested t.at c (execute set calls context d a) (rules.maybe_stmt (ev d) context b) mid second))

  if_nothing : (d : ℕ) (t : Stmt) (e : Expr) (a : Stmt) (before after : State) (i : ℕ) → IsStmt t (StmtForm-F.If e a None) → Runs w (evaluate set calls context d e) before i (truth false) after
      → Runs w (execute set calls context (suc d) t) before (1 + i) Normal after
  if_nothing d t e a before after i is runs = counted w (sum_zero i) (if_runs d false t e a None before after after i 0 Normal is runs (at_once w (λ k r. refl)))

  block_runs : (d : ℕ) (t : Stmt) (body : List Stmt) (before after : State) (i : ℕ) (completion : Completion) → IsStmt t (StmtForm-F.Block body) → Runs w (statements (execute set calls context d) body) before i completion after
      → Runs w (execute set calls context (suc d) t) before (1 + i) completion after
  unfolding stmt_rule
  block_runs d t body before after i completion is runs = stmt_runs d t (StmtForm-F.Block body) is runs

  pub index_target : (d : ℕ) (e base index : Expr) (key : Key) (o : ObjNo) (before after : State) (i : ℕ) → IsExpr e (ExprForm-F.Index base index) → IsExpr index (ExprForm-F.Literal (primitive.Text key))
      → Runs w (evaluate set calls context (suc d) base) before i (Object o) after
      → Runs w ((within set (suc (suc d)) calls).reference context e) before (2 + i) (PropertyReference (Object o) key context.strict) after
  unfolding reference_rule expressions.index_reference operators.to_key to_text
  index_target d e base index key o before after i is literal runs =
      counted w (sum i)
      (reference_runs (suc d) e (ExprForm-F.Index base index) is
      (followed w {f = λ base. evaluate set calls context (suc d) index >>= (λ name. objects.check_base e.at base >>= (λ _. operators.to_key e.at name >>= (λ key s k r. k (PropertyReference base key context.strict) s)))} runs
      (followed w {f = λ name. objects.check_base e.at (Object o) >>= (λ _. operators.to_key e.at name >>= (λ key s k r. k (PropertyReference (Object o) key context.strict) s))} (literal_runs d index (primitive.Text key) after literal)
      (at_once w (λ k r. refl)))))
    where
      sum : (i : ℕ) → 1 + (i + (1 + 0)) ≡ 2 + i
      sum i = omega arith

  index_gets : (d : ℕ) (t : Stmt) (base value : Expr) (key : Key) (before mid after : State) (i j : ℕ) (o : ObjNo) (v : Value) (state : ObjectState) → AssignsIndex t base key value
      → Runs w (evaluate set calls context (suc d) base) before i (Object o) mid → Runs w (evaluate set calls context (suc (suc d)) value) mid j v after → context.strict ≡ false → Puts after.heap o key v state
      → Runs w (execute set calls context (suc (suc (suc (suc d)))) t) before (4 + (i + j)) Normal (record after { heap = set_object o state after.heap })
  index_gets d t base value key before mid after i j o v state says first second sloppy puts =
      counted w (sum i j)
      (assigns (suc d) t says.assignment says.target value (PropertyReference (Object o) key context.strict) v says.is_statement says.is_assignment
      (index_target d says.target base says.index key o before mid i says.is_target says.is_index first) second (property_written (site (ev (suc (suc d))) says.assignment.at) o key v after state sloppy puts))
    where
      sum : (i j : ℕ) → 2 + ((2 + i) + j) ≡ 4 + (i + j)
      sum i j = omega arith

  if_throws : (d : ℕ) (t : Stmt) (e : Expr) (a : Stmt) (b : Option Stmt) (before mid after : State) (i j : ℕ) (v : Value) → IsStmt t (StmtForm-F.If e a b) → Runs w (evaluate set calls context d e) before i (truth true) mid
      → Throws w (execute set calls context d a) mid j v after → Throws w (execute set calls context (suc d) t) before (1 + (i + j)) v after
  unfolding stmt_rule rules.if_rule operators.test to_boolean
  if_throws d t e a b before mid after i j v is first second =
      stmt_throws d t (StmtForm-F.If e a b) is
      (throws_then w {f = λ v. operators.test t.at v >>= (λ c. choose c (execute set calls context d a) (rules.maybe_stmt (ev d) context b))} first (record { at = λ n k r. second.at n k r }))

  block_throws : (d : ℕ) (t : Stmt) (body : List Stmt) (before after : State) (i : ℕ) (v : Value) → IsStmt t (StmtForm-F.Block body) → Throws w (statements (execute set calls context d) body) before i v after
      → Throws w (execute set calls context (suc d) t) before (1 + i) v after
  unfolding stmt_rule
  block_throws d t body before after i v is runs = stmt_throws d t (StmtForm-F.Block body) is runs

  deleted : (d : ℕ) (t : Stmt) (base : Expr) (key : Key) (before mid : State) (i : ℕ) (o : ObjNo) (state : ObjectState) → Deletes t base key → Runs w (evaluate set calls context d base) before i (Object o) mid
      → methods.checked_key key ≡ Ok key → option_and_then (methods.delete key) (object_at mid.heap o) ≡ Some state
      → Runs w (execute set calls context (suc (suc (suc d))) t) before (3 + i) Normal (record mid { heap = set_object o state mid.heap })
  unfolding expr_rule expressions.unary_rule expressions.delete_rule
  deleted d t base key before mid i o state says runs named left =
      counted w (total i)
      (evaluated (suc (suc d)) t says.deletion before (record mid { heap = set_object o state mid.heap }) (2 + i) (truth true) says.is_statement
      (counted w (sum i)
      (expr_runs (suc d) says.deletion (ExprForm-F.Unary unary.Delete says.target) says.is_deletion
      (subst (λ form. Runs w (if expressions.is_reference form then (references_of >>= deletes) else (evaluate set calls context (suc d) says.target >>= (λ _ s k r. k (truth true) s))) before ((1 + i) + 0) (truth true) (record mid { heap = set_object o state mid.heap })) (sym says.is_target)
      (followed w {f = deletes} (member_target d says.target base key o before mid i says.is_target runs) gone)))))
    where
      sum : (i : ℕ) → 1 + ((1 + i) + 0) ≡ 2 + i
      sum i = omega arith

      total : (i : ℕ) → 1 + (2 + i) ≡ 3 + i
      total i = omega arith

      references_of : Run Reference
      references_of = (within set (suc d) calls).reference context says.target

      deletes : Reference → Run Value
      deletes ref = expressions.delete_reference (site (ev (suc d)) says.deletion.at) ref

      gone : Runs w (deletes (PropertyReference (Object o) key context.strict)) mid 0 (truth true) (record mid { heap = set_object o state mid.heap })
      gone = at_once w (λ k r. removed (site (ev (suc d)) says.deletion.at) o key context.strict state mid.heap named left (λ b s. k (truth b) s) r)

  -- ---- one after another

  none : (d : ℕ) (s : State) → Runs w (statements (execute set calls context d) []) s 0 Normal s
  unfolding statements
  none d s = at_once w (λ k r. refl)

  following : (d : ℕ) (t : Stmt) (ts : List Stmt) (before mid after : State) (i j : ℕ) → Runs w (execute set calls context d t) before i Normal mid → Runs w (statements (execute set calls context d) ts) mid j Normal after
      → Runs w (statements (execute set calls context d) (t ∷ ts)) before (i + j) Normal after
  unfolding statements
  following d t ts before mid after i j first second = followed w {f = λ completion. rules.if_normal (statements (execute set calls context d) ts) completion} first second

  first_throws : (d : ℕ) (t : Stmt) (ts : List Stmt) (before after : State) (i : ℕ) (v : Value) → Throws w (execute set calls context d t) before i v after → Throws w (statements (execute set calls context d) (t ∷ ts)) before i v after
  unfolding statements
  first_throws d t ts before after i v first = throws_first w {f = λ completion. rules.if_normal (statements (execute set calls context d) ts) completion} first

  others_throw : (d : ℕ) (t : Stmt) (ts : List Stmt) (before mid after : State) (i j : ℕ) (v : Value) → Runs w (execute set calls context d t) before i Normal mid → Throws w (statements (execute set calls context d) ts) mid j v after
      → Throws w (statements (execute set calls context d) (t ∷ ts)) before (i + j) v after
  unfolding statements
  others_throw d t ts before mid after i j v first second = throws_then w {f = λ completion. rules.if_normal (statements (execute set calls context d) ts) completion} first second

-- ---- calls of built-ins

pub builtin_runs : (set : Setting) (calls : ℕ) (context : Context) (w : World) (d : ℕ) (e callee : Expr) (arguments : List Expr) (values : List Value) (name : List ℕ) (c : CellNo) (o : ObjNo) (n : ℕ) (rule : Rule) (before mid after : State) (i j : ℕ) (v : Value)
    → IsExpr e (ExprForm-F.Call callee arguments) → IsExpr callee (ExprForm-F.Name name) → resolve context.environment name ≡ Some c → cell before.heap c ≡ Some (Object o)
    → Runs w (each (evaluate set (suc calls) context (suc d)) arguments) before i values mid → is_function mid.heap o ≡ true → class_of o mid.heap ≡ Builtin n → builtin_rule n ≡ Some rule
    → ((site : Site) → Runs w (rule site undefined values) mid j v after)
    → Runs w (evaluate set (suc calls) context (suc (suc d)) e) before (2 + (i + j)) v after
unfolding expr_rule expressions.call_rule references.get_value
builtin_runs set calls context w d e callee arguments values name c o n rule before mid after i j v is is_name bound holds args callable class there runs =
    counted w (sum i j)
    (expr_runs set (suc calls) context w (suc d) e (ExprForm-F.Call callee arguments) is
    (subst (λ form. Runs w (if expressions.is_reference form then expressions.call_reference level context e.at callee arguments else expressions.call_value level context e.at callee arguments) before (1 + (0 + (i + j))) v after) (sym is_name) chosen))
  where
    sum : (i j : ℕ) → 1 + (1 + (0 + (i + j))) ≡ 2 + (i + j)
    sum i j = omega arith

    level : Ev
    level = ev_of set (within set (suc d)) (suc calls)

    called_so : (k r : Value → Heap → Tree) → level.call e.at (Object o) undefined values mid.heap k r ≡ rule (record { at = e.at; call = perform_call set (within set (suc d) calls) (builtin set (within set (suc d)) calls) e.at }) undefined values mid.heap k r
    called_so k r =
        at_call set (within set (suc d) (suc calls)) (builtin set (within set (suc d)) (suc calls)) e.at o undefined values mid.heap k r
        ∙ ap (λ class. call_class set (within set (suc d) (suc calls)) (builtin set (within set (suc d)) (suc calls)) e.at undefined values class mid.heap k r) class
        ∙ ap (λ rule. run_rule (builtin set (within set (suc d)) (suc calls)) e.at undefined values rule mid.heap k r) there
        ∙ at_builtin set (within set (suc d)) calls e.at rule undefined values mid.heap k r

    done : Runs w (expressions.call_checked level e.at (Object o) undefined values) mid j v after
    done = record {
      at = λ n k r.
          ap (λ b. walk w (j + n) mid.calls (choose b (level.call e.at (Object o) undefined values) (objects.throw_error TypeError) mid.heap k r)) callable
          ∙ ap (walk w (j + n) mid.calls) (called_so k r)
          ∙ (runs (record { at = e.at; call = perform_call set (within set (suc d) calls) (builtin set (within set (suc d)) calls) e.at })).at n k r;
    }

    got : Runs w (references.get_value (site level e.at) (NameReference name (InCell c) context.strict)) before 0 (Object o) before
    got = at_once w (λ k r. rw holds refl)

    chosen : Runs w (expressions.call_reference level context e.at callee arguments) before (1 + (0 + (i + j))) v after
    chosen =
        followed w {f = λ ref. references.get_value (site level e.at) ref >>= (λ f. each (evaluate set (suc calls) context (suc d)) arguments >>= (λ values. expressions.call_checked level e.at f (expressions.this_of ref) values))} (name_target set (suc calls) context w d callee name c before is_name bound)
        (followed w {f = λ f. each (evaluate set (suc calls) context (suc d)) arguments >>= (λ values. expressions.call_checked level e.at f undefined values)} got
        (followed w {f = λ values. expressions.call_checked level e.at (Object o) undefined values} args done))

-- ---- the law

pub bodies_run : BodiesRun
bodies_run = record {
  operands = λ set calls context w d. record { this = this_runs set calls context w d; literal = literal_runs set calls context w d; temporary = temporary_runs set calls context w d };
  values = λ set calls context w d. record {
    negative = negative_runs set calls context w d;
    member = member_runs set calls context w d;
    when_true = conditional_runs set calls context w d true;
    when_false = conditional_runs set calls context w d false;
    empty = empty_runs set calls context w d;
  };
  host = λ set calls context w d. record { input = input_runs set calls context w d; call = host_runs set calls context w d; no_arguments = no_arguments set calls context w d; argument = argument set calls context w d };
  functions = λ set calls context w d. record { function = function_runs set calls context w d };
  statements = λ set calls context w d. record {
    evaluated = evaluated set calls context w d;
    temporary = temporary_gets set calls context w d;
    member = member_gets set calls context w d;
    thrown = thrown set calls context w d;
    deleted = deleted set calls context w d;
    index = index_gets set calls context w d;
    if_throws = if_throws set calls context w d;
    block_throws = block_throws set calls context w d;
    if_true = if_runs set calls context w d true;
    if_false = λ t e a b before mid after i j completion is first second. if_runs set calls context w d false t e a (Some b) before mid after i j completion is first second;
    if_nothing = if_nothing set calls context w d;
    block = block_runs set calls context w d;
    none = none set calls context w d;
    next = following set calls context w d;
    throws_first = first_throws set calls context w d;
    throws_next = others_throw set calls context w d;
  };
  calls = record { builtin = builtin_runs };
}
