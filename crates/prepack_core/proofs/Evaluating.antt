-- Evaluations, put together.
use Rattle.std.proofs.Common.{◌≡◌, ℕ, ◌+◌, suc, List, refl, ap, sym, ◌∙◌, arith, add_assoc, add-zero, zero-add, subst, true}
use Rattle.std.specs.Prelude.{Option, Some, None, Result, Ok, Err}
use Rattle.js_value.specs.declared.place.Place.{Place}
use Rattle.js_value.specs.declared.primitive.Primitive.{Primitive}
use Rattle.js_value.specs.declared.operator.BinaryOp.{BinaryOp}
use Rattle.js_value.specs.declared.operator.BinaryOp.TheVariants as binary
use Rattle.js_value.specs.declared.operator.UnaryOp.{UnaryOp}
use Rattle.js_value.specs.declared.operator.UnaryOp.TheVariants as unary
use Rattle.js_tree.specs.declared.expression.Expr.{Expr}
use Rattle.js_tree.specs.declared.expression.ExprForm.{ExprForm}
use Rattle.js_tree.specs.declared.expression.ExprForm.TheVariants as form
use Rattle.js_tree.specs.declared.expression.ExprForm.TheOpen.{ExprForm-F}
use Rattle.js_tree.specs.Count.{in_expr, in_form, in_maybe, in_declarators, in_stmt, of_form, of_field, of_expr}
use Rattle.js_tree.proofs.Folds.{fold-of_expr, fold-Name, fold-Unary, fold-Binary}
use Rattle.prepack_core.proofs.Counted.{in_stmt-simple}
use Rattle.js_tree.specs.Parts.{declarators_in}
use Rattle.simple_scripts.specs.SimpleScripts.{is_simple_form, is_simple_statement}
use Rattle.js_tree.specs.declared.statement.Declarator.{Declarator}
use Rattle.js_tree.specs.declared.statement.Stmt.{Stmt}
use Rattle.js_tree.specs.declared.statement.StmtForm.{out-StmtForm}
use Rattle.js_tree.specs.declared.statement.StmtForm.TheOpen.{StmtForm-F}
use Rattle.simple_runs.specs.Events.{Heap, Tree, Step, Run, ◌>>=◌, step, lookup, put, change, or_no_rule}
use Rattle.simple_runs.specs.Simple.{evaluation, minus_rule, add_rule, subtract_rule, name_rule, negation, arithmetic, form_rule, expr_rule, declarator_rule, declarators_rule, statement_rule, statement}
use Rattle.simple_runs.specs.Runs.{walk}
use Rattle.prepack_core.specs.declared.value.Value.{Value}
use Rattle.prepack_core.specs.declared.evaluate.Departure.{Departure}
use Rattle.prepack_core.specs.declared.evaluate.Stop.{Stop}
use Rattle.prepack_core.specs.declared.evaluate.Stop.TheVariants as stop
use Rattle.prepack_core.specs.Values.{primitive_of}
use Rattle.prepack_core.specs.Evaluates.{Gives, Departs, Comes, RunsTo, form_evaluation, is_additive, combined}

walk-step : (s n : ℕ) (at : Place) (t : Tree) → walk (s + 1 + n) (Step at t) ≡ walk (s + n) t
walk-step s n at t = let e : s + 1 + n ≡ suc (s + n) = omega arith in ap (λ m. walk m (Step at t)) e

-- an answer, and what comes of it
pub gives_after : {A B : Type 0} (m : Run A) (f : A → Run B) (h h1 h2 : Heap) (s t : ℕ) (a : A) (b : B) → Gives m h s a h1 → Gives (f a) h1 t b h2 → Gives (m >>= f) h (s + t) b h2
gives_after m f h h1 h2 s t a b x y = record {
  goes = λ k n. ap (λ i. walk i (m h (λ v h. f v h k))) (add_assoc s t n) ∙ (x.goes (λ v h. f v h k) (t + n) ∙ y.goes k n);
}

-- an answer, behind which the run departs
pub departs_after : {A B : Type 0} (m : Run A) (f : A → Run B) (h h1 : Heap) (s t : ℕ) (a : A) (d : Departure) → Gives m h s a h1 → Departs (f a) h1 t d → Departs (m >>= f) h (s + t) d
departs_after m f h h1 s t a d x y = record {
  leaves = λ k n. ap (λ i. walk i (m h (λ v h. f v h k))) (add_assoc s t n) ∙ (x.goes (λ v h. f v h k) (t + n) ∙ y.leaves k n);
}

-- a departure before what was to follow
pub departs_first : {A B : Type 0} (m : Run A) (f : A → Run B) (h : Heap) (s t : ℕ) (d : Departure) → Departs m h s d → Departs (m >>= f) h (s + t) d
departs_first m f h s t d x = record {
  leaves = λ k n. ap (λ i. walk i (m h (λ v h. f v h k))) (add_assoc s t n) ∙ x.leaves (λ v h. f v h k) (t + n);
}

pub gives_step : {A : Type 0} (at : Place) (m : Run A) (h h1 : Heap) (s : ℕ) (a : A) → Gives m h s a h1 → Gives (step at m) h (s + 1) a h1
gives_step at m h h1 s a x = record { goes = λ k n. walk-step s n at (m h k) ∙ x.goes k n }

pub departs_step : {A : Type 0} (at : Place) (m : Run A) (h : Heap) (s : ℕ) (d : Departure) → Departs m h s d → Departs (step at m) h (s + 1) d
departs_step at m h s d x = record { leaves = λ k n. walk-step s n at (m h k) ∙ x.leaves k n }

pub comes_step : (at : Place) (m : Run Primitive) (h : Heap) (s : ℕ) (r : Result Value Departure) → Comes m h s r → Comes (step at m) h (s + 1) r
comes_step at m h s (Ok v) x = gives_step at m h h s (primitive_of v) x
comes_step at m h s (Err d) x = departs_step at m h s d x

pub comes_after : (m : Run Primitive) (f : Primitive → Run Primitive) (h : Heap) (s t : ℕ) (v : Value) (r : Result Value Departure) → Comes m h s (Ok v) → Comes (f (primitive_of v)) h t r → Comes (m >>= f) h (s + t) r
comes_after m f h s t v (Ok w) x y = gives_after m f h h h s t (primitive_of v) (primitive_of w) x y
comes_after m f h s t v (Err d) x y = departs_after m f h h s t (primitive_of v) d x y

-- ---- expressions, form by form

abbrev Answers : Type 0
Answers = Run Primitive

run_of_expr : (e : Expr) → evaluation e ≡ step e.at (form_evaluation e.form e.at)
run_of_expr e = fold-of_expr (Place → Answers) (Unit {0}) Answers form_rule (λ f. tt) expr_rule e

run_of_name : (name : List ℕ) (at : Place) → form_evaluation (form.Name name) at ≡ name_rule name
run_of_name name at = ap (λ (r : Place → Answers). r at) (fold-Name (Place → Answers) (Unit {0}) Answers form_rule (λ f. tt) expr_rule name)

run_of_minus : (a : Expr) (at : Place) → form_evaluation (form.Unary unary.Minus a) at ≡ minus_rule at (evaluation a)
run_of_minus a at = ap (λ (r : Place → Answers). r at) (fold-Unary (Place → Answers) (Unit {0}) Answers form_rule (λ f. tt) expr_rule unary.Minus a)

run_of_binary : (op : BinaryOp) (a b : Expr) (at : Place) → form_evaluation (form.Binary op a b) at ≡ form_rule (ExprForm-F.Binary op (evaluation a) (evaluation b)) at
run_of_binary op a b at = ap (λ (r : Place → Answers). r at) (fold-Binary (Place → Answers) (Unit {0}) Answers form_rule (λ f. tt) expr_rule op a b)

nodes_of_expr : (e : Expr) → in_expr e ≡ in_form e.form + 1
nodes_of_expr e = fold-of_expr ℕ ℕ ℕ of_form of_field of_expr e

nodes_of_name : (name : List ℕ) → in_form (form.Name name) ≡ 0
nodes_of_name name = fold-Name ℕ ℕ ℕ of_form of_field of_expr name

nodes_of_unary : (op : UnaryOp) (a : Expr) → in_form (form.Unary op a) ≡ in_expr a
nodes_of_unary op a = fold-Unary ℕ ℕ ℕ of_form of_field of_expr op a

nodes_of_binary : (op : BinaryOp) (a b : Expr) → in_form (form.Binary op a b) ≡ in_expr a + in_expr b
nodes_of_binary op a b = fold-Binary ℕ ℕ ℕ of_form of_field of_expr op a b

-- ---- the steps of the evaluator

-- an evaluation in other words, with as many steps
comes_same : (m m2 : Answers) (h : Heap) (s s2 : ℕ) (r : Result Value Departure) → m2 ≡ m → s2 ≡ s → Comes m h s r → Comes m2 h s2 r
comes_same m m2 h s s2 r e k x = subst (λ (w : Answers). Comes w h s2 r) (sym e) (subst (λ (n : ℕ). Comes m h n r) (sym k) x)

pub value_step : (e : Expr) (f : ExprForm) (h : Heap) (r : Result Value Departure) → f ≡ e.form → Comes (form_evaluation f e.at) h (in_form f) r → Comes (evaluation e) h (in_expr e) r
value_step e f h r same x =
    comes_same (step e.at (form_evaluation e.form e.at)) (evaluation e) h (in_form e.form + 1) (in_expr e) r (run_of_expr e) (nodes_of_expr e)
    (comes_step e.at (form_evaluation e.form e.at) h (in_form e.form) r (subst (λ (g : ExprForm). Comes (form_evaluation g e.at) h (in_form g) r) same x))

-- the same of a form
form_step : (f g : ExprForm) (at : Place) (h : Heap) (r : Result Value Departure) (m : Answers) (s : ℕ) → f ≡ g → form_evaluation g at ≡ m → in_form g ≡ s → Comes m h s r → Comes (form_evaluation f at) h (in_form f) r
form_step f g at h r m s same e k x =
    subst (λ (w : ExprForm). Comes (form_evaluation w at) h (in_form w) r) (sym same) (comes_same m (form_evaluation g at) h s (in_form g) r e k x)

pub minus_departs : (f : ExprForm) (a : Expr) (at : Place) (h : Heap) (d : Departure) → f ≡ form.Unary unary.Minus a → Comes (evaluation a) h (in_expr a) (Err d) → Comes (form_evaluation f at) h (in_form f) (Err d)
unfolding minus_rule
minus_departs f a at h d same x =
    form_step f (form.Unary unary.Minus a) at h (Err d) (minus_rule at (evaluation a)) (in_expr a + 0) same (run_of_minus a at) (nodes_of_unary unary.Minus a ∙ sym (add-zero (in_expr a)))
    (departs_first (evaluation a) (negation at) h (in_expr a) 0 d x)

pub minus_comes : (f : ExprForm) (a : Expr) (at : Place) (h : Heap) (v : Value) (r : Result Value Departure) → f ≡ form.Unary unary.Minus a → Comes (evaluation a) h (in_expr a) (Ok v)
    → Comes (negation at (primitive_of v)) h 0 r → Comes (form_evaluation f at) h (in_form f) r
unfolding minus_rule
minus_comes f a at h v r same x y =
    form_step f (form.Unary unary.Minus a) at h r (minus_rule at (evaluation a)) (in_expr a + 0) same (run_of_minus a at) (nodes_of_unary unary.Minus a ∙ sym (add-zero (in_expr a)))
    (comes_after (evaluation a) (negation at) h (in_expr a) 0 v r x y)

pub name_comes : (f : ExprForm) (name : List ℕ) (at : Place) (h : Heap) (v : Value) → f ≡ form.Name name → lookup name h ≡ Some (primitive_of v) → Comes (form_evaluation f at) h (in_form f) (Ok v)
unfolding name_rule
name_comes f name at h v same found =
    form_step f (form.Name name) at h (Ok v) (name_rule name) 0 same (run_of_name name at) (nodes_of_name name)
    (record { goes = λ k n. ap (λ o. walk (0 + n) (or_no_rule o h k)) found ∙ ap (λ m. walk m (k (primitive_of v) h)) (zero-add n) })

-- the rule of both additive operators
unfoldable additive : BinaryOp → Place → Answers → Answers → Answers
additive op at a b = do
  x ← a
  y ← b
  arithmetic at (combined op) x y

additive_is : (op : BinaryOp) (a b : Answers) (at : Place) → is_additive op ≡ true → form_rule (ExprForm-F.Binary op a b) at ≡ additive op at a b
unfolding additive add_rule subtract_rule
additive_is binary.Add a b at h = refl
additive_is binary.Sub a b at h = refl
additive_is op a b at h = cc

module _ (f : ExprForm) (op : BinaryOp) (a b : Expr) (at : Place) (h : Heap) (same : f ≡ form.Binary op a b) (adds : is_additive op ≡ true) where
  second : Primitive → Answers
  second x = evaluation b >>= (λ y. arithmetic at (combined op) x y)

  binary_by : (r : Result Value Departure) → Comes (additive op at (evaluation a) (evaluation b)) h (in_expr a + in_expr b) r → Comes (form_evaluation f at) h (in_form f) r
  binary_by r x =
      form_step f (form.Binary op a b) at h r (additive op at (evaluation a) (evaluation b)) (in_expr a + in_expr b) same
      (run_of_binary op a b at ∙ additive_is op (evaluation a) (evaluation b) at adds) (nodes_of_binary op a b) x

  pub binary_departs_first : (d : Departure) → Comes (evaluation a) h (in_expr a) (Err d) → Comes (form_evaluation f at) h (in_form f) (Err d)
  unfolding additive second
  binary_departs_first d x = binary_by (Err d) (departs_first (evaluation a) second h (in_expr a) (in_expr b) d x)

  pub binary_departs_second : (v : Value) (d : Departure) → Comes (evaluation a) h (in_expr a) (Ok v) → Comes (evaluation b) h (in_expr b) (Err d) → Comes (form_evaluation f at) h (in_form f) (Err d)
  unfolding additive second
  binary_departs_second v d x y =
      binary_by (Err d) (comes_after (evaluation a) second h (in_expr a) (in_expr b) v (Err d) x
      (comes_same _ _ h (in_expr b + 0) (in_expr b) (Err d) refl (sym (add-zero (in_expr b))) (departs_first (evaluation b) (λ z. arithmetic at (combined op) (primitive_of v) z) h (in_expr b) 0 d y)))

  pub binary_comes : (v w : Value) (r : Result Value Departure) → Comes (evaluation a) h (in_expr a) (Ok v) → Comes (evaluation b) h (in_expr b) (Ok w)
      → Comes (arithmetic at (combined op) (primitive_of v) (primitive_of w)) h 0 r → Comes (form_evaluation f at) h (in_form f) r
  unfolding additive second
  binary_comes v w r x y z =
      binary_by r (comes_after (evaluation a) second h (in_expr a) (in_expr b) v r x
      (comes_same _ _ h (in_expr b + 0) (in_expr b) r refl (sym (add-zero (in_expr b))) (comes_after (evaluation b) (λ u. arithmetic at (combined op) (primitive_of v) u) h (in_expr b) 0 w r y z)))

-- ---- declarators

pub declarator_without : (name : List ℕ) (init : Option Expr) (h : Heap) → init ≡ None → Gives (declarator_rule name init) h (in_maybe init) tt h
unfolding declarator_rule
declarator_without name init h none = rw none (record { goes = λ k n. ap (λ m. walk m (k tt h)) (zero-add n) })

gives_change : (f : Heap → Heap) (h : Heap) → Gives (change f) h 0 tt (f h)
gives_change f h = record { goes = λ k n. ap (λ m. walk m (k tt (f h))) (zero-add n) }

pub declarator_departs : (name : List ℕ) (init : Option Expr) (e : Expr) (h : Heap) (d : Departure) → init ≡ Some e → Comes (evaluation e) h (in_expr e) (Err d) → Departs (declarator_rule name init) h (in_maybe init) d
unfolding declarator_rule
declarator_departs name init e h d some x =
    rw some (subst (λ (n : ℕ). Departs (declarator_rule name (Some e)) h n d) (add-zero (in_expr e)) (departs_first (evaluation e) (λ v. change (put name v)) h (in_expr e) 0 d x))

pub declarator_runs : (name : List ℕ) (init : Option Expr) (e : Expr) (h : Heap) (v : Value) → init ≡ Some e → Comes (evaluation e) h (in_expr e) (Ok v)
    → Gives (declarator_rule name init) h (in_maybe init) tt (put name (primitive_of v) h)
unfolding declarator_rule
declarator_runs name init e h v some x =
    rw some (subst (λ (n : ℕ). Gives (declarator_rule name (Some e)) h n tt (put name (primitive_of v) h)) (add-zero (in_expr e))
    (gives_after (evaluation e) (λ w. change (put name w)) h h (put name (primitive_of v) h) (in_expr e) 0 (primitive_of v) tt x (gives_change (put name (primitive_of v)) h)))

-- ---- statements

simple_rule : {A B C D E : Type 0} (l : StmtForm-F A B C D E) → is_simple_form l ≡ true → statement_rule l ≡ declarators_rule (declarators_in l)
simple_rule (StmtForm-F.Var ds) h = refl
simple_rule l h = cc

pub statement_runs : (s : Stmt) (ds : List Declarator) (h g : Heap) (r : Result (Unit {0}) Stop) → is_simple_statement s ≡ true → ds ≡ declarators_in (out-StmtForm s.form) → RunsTo (declarators_rule ds) h (in_declarators ds) r g
    → RunsTo (statement s) h (in_stmt s) r g
statement_runs s ds h g (Ok u) simple is x =
    rw (in_stmt-simple s simple, simple_rule (out-StmtForm s.form) simple, ← is) (gives_step s.at (declarators_rule ds) h g (in_declarators ds) tt x)
statement_runs s ds h g (Err (stop.Left d)) simple is x =
    rw (in_stmt-simple s simple, simple_rule (out-StmtForm s.form) simple, ← is) (departs_step s.at (declarators_rule ds) h (in_declarators ds) d x)
statement_runs s ds h g (Err stop.NoMemory) simple is x = tt
