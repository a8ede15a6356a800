-- The residual of variables rebuilds them, a step for each statement and expression.
use Rattle.std.proofs.Common.{◌≡◌, ℕ, suc, pos, negsuc, ◌+◌, true, false, List, [], ◌∷◌, map, refl, ap, ◌∙◌, sym, zero-add, arith}
use Rattle.std.specs.Prelude.{ℤ, Option, Some, None, Ok, Err}
use Rattle.std.specs.List.{flat_map, AllByRecursion, IsDistinct}
use Rattle.std.specs.Map.{keys_of}
use Rattle.std.specs.Ordering.{int_eq}
use Rattle.std.specs.Str.{bytes_eq}
use Rattle.std.proofs.lemmas.Bool.{and_parts, both_ways, cond-true, cond-false, false_from_ne_true}
use Rattle.std.proofs.lemmas.Bool.Decides.{Decides-int_eq}
use Rattle.std.proofs.lemmas.Cmp.{nat_list_eq_equiv}
use Rattle.std.proofs.lemmas.List.Sums.{sum_by-cons}
use Rattle.std.proofs.lemmas.Map.Keys.{IsDistinct-head, IsDistinct-tail}
use Rattle.js_value.specs.Numbers.{is_safe, within, negated}
use Rattle.js_value.specs.declared.place.Place.{Place}
use Rattle.js_value.specs.declared.primitive.Primitive.{Primitive}
use Rattle.js_value.specs.declared.primitive.Primitive.TheVariants as primitive
use Rattle.js_value.specs.declared.why.Why.TheVariants.{MinusZero, Unsafe}
use Rattle.js_tree.specs.declared.expression.Expr.{Expr}
use Rattle.js_tree.specs.declared.statement.Declarator.{Declarator}
use Rattle.js_tree.specs.declared.statement.StmtForm.TheVariants.{outs-Var}
use Rattle.js_tree.specs.Refusals.{place}
use Rattle.js_tree.specs.Trees.{script, one}
use Rattle.simple_scripts.specs.Simple.{declared_names}
use Rattle.simple_scripts.proofs.Folds.{in_stmt-var}
use Rattle.js_tree.specs.Count.{of_form, of_field, of_expr, in_expr, in_maybe, in_declarators, nodes}
use Rattle.simple_runs.specs.Events.{Heap, Tree, Step, End, Run, give, step, lookup, put, put_unless, declare, or_leave}
use Rattle.simple_runs.specs.Simple.{minus_rule, form_rule, expr_rule, evaluation, declarator_rule, in_turn, declarators_rule, statement_rule, statement, declared, script_tree}
use Rattle.simple_runs.specs.Runs.{Ended, walk, plain}
use Rattle.simple_runs.proofs.Forms.{fold-literal, fold-minus}
use Rattle.simple_runs.proofs.Reading.{declarators_of-var}
use Rattle.simple_runs.proofs.Variables.{declare_all}
use Rattle.simple_runs.specs.Placed.{Places, literal, minus, constant_at, behind, variables_at, var_at, placed}
use Rattle.simple_runs.specs.PlainVariables.{is_plain_value, is_plain_variable, are_plain_variables}

-- ---- heaps

-- names that differ do so both ways
other_name : (a b : List ℕ) → bytes_eq a b ≡ false → bytes_eq b a ≡ false
other_name a b other = nat_list_eq_equiv.symm b a ∙ other

-- a property of another name stays where it is
put-past : (name : List ℕ) (value : Primitive) (e : List ℕ × Primitive) (heap : Heap) → bytes_eq name e.0 ≡ false → put name value (e ∷ heap) ≡ e ∷ put name value heap
put-past name value e heap other = cond-false (bytes_eq name e.0) ((e.0, value) ∷ heap) (e ∷ put name value heap) other

-- the first property gets the value where it has the name
put-first : (name : List ℕ) (old value : Primitive) (heap : Heap) → put name value ((name, old) ∷ heap) ≡ (name, value) ∷ heap
put-first name old value heap = cond-true (bytes_eq name name) ((name, value) ∷ heap) ((name, old) ∷ put name value heap) (nat_list_eq_equiv.refl name)

-- the same where the name may be bound
put_unless-past : (o : Option Primitive) (name : List ℕ) (e : List ℕ × Primitive) (heap : Heap) → bytes_eq name e.0 ≡ false → put_unless o name (e ∷ heap) ≡ e ∷ put_unless o name heap
put_unless-past None name e heap other = put-past name primitive.Undefined e heap other
put_unless-past (Some value) name e heap other = refl

-- a declaration goes past a property of another name
declare-past : (name : List ℕ) (e : List ℕ × Primitive) (heap : Heap) → bytes_eq name e.0 ≡ false → declare name (e ∷ heap) ≡ e ∷ declare name heap
declare-past name e heap other =
    ap (λ o. put_unless o name (e ∷ heap)) (cond-false (bytes_eq name e.0) (Some e.1) (lookup name heap) other) ∙ put_unless-past (lookup name heap) name e heap other

-- a name that none of these is
abbrev DiffersFromAll : List ℕ → List (List ℕ) → Type 0
DiffersFromAll name names = AllByRecursion (λ y. bytes_eq name y ≡ false) names

-- declarations of other names go past a property
declare_all-past : (names : List (List ℕ)) (e : List ℕ × Primitive) (heap : Heap) → DiffersFromAll e.0 names → declare_all (e ∷ heap) names ≡ e ∷ declare_all heap names
declare_all-past [] e heap others = refl
declare_all-past (name ∷ names) e heap others =
    ap (λ h. declare_all h names) (declare-past name e heap (other_name e.0 name others.0)) ∙ declare_all-past names e (declare name heap) others.1

-- the variable before it has its value
abbrev pub undefined_of : List ℕ × Primitive → List ℕ × Primitive
undefined_of v = (v.0, primitive.Undefined)

-- distinct names are bound in their order
declared-distinct : (vs : List (List ℕ × Primitive)) → IsDistinct bytes_eq (keys_of vs) → declared (keys_of vs) ≡ map undefined_of vs
declared-distinct [] distinct = refl
declared-distinct (v ∷ vs) distinct =
    declare_all-past (keys_of vs) (undefined_of v) [] (IsDistinct-head bytes_eq v.0 (keys_of vs) distinct)
    ∙ ap (λ heap. undefined_of v ∷ heap) (declared-distinct vs (IsDistinct-tail bytes_eq v.0 (keys_of vs) distinct))

-- the declarators of variables have their names
names-variables : (vs : List (List ℕ × Primitive)) (at : ℕ → Places) → flat_map (λ (d : Declarator). d.name ∷ []) (variables_at at vs) ≡ keys_of vs
names-variables [] at = refl
names-variables (v ∷ vs) at = ap (λ names. v.0 ∷ names) (names-variables vs (behind at))

-- ---- declarators

-- the evaluation of a literal
evaluation-literal : (at : ℕ) (n : ℤ) → evaluation (literal at n) ≡ step (place at) (give (primitive.Number n))
evaluation-literal at n = fold-literal (Place → Run Primitive) (Unit {0}) (Run Primitive) form_rule (λ f. tt) expr_rule at (primitive.Number n)

-- the evaluation of a negation
evaluation-minus : (at : ℕ) (e : Expr) → evaluation (minus at e) ≡ step (place at) (minus_rule (place at) (evaluation e))
evaluation-minus at e = fold-minus (Place → Run Primitive) (Unit {0}) (Run Primitive) form_rule (λ f. tt) expr_rule at e

-- a successor is not 0
not_zero : (n : ℕ) → int_eq (pos (suc n)) (pos 0) ≡ false
not_zero n = false_from_ne_true (int_eq (pos (suc n)) (pos 0)) (λ h. let e : pos (suc n) ≡ pos 0 = (Decides-int_eq (pos (suc n)) (pos 0)).0 h in cc)

-- the negation of a positive number
negated-suc : (n : ℕ) → is_safe (negsuc n) ≡ true → negated (pos (suc n)) ≡ Ok (negsuc n)
negated-suc n safe =
    cond-false (int_eq (pos (suc n)) (pos 0)) (Err MinusZero) (within (negsuc n)) (not_zero n) ∙ cond-true (is_safe (negsuc n)) (Ok (negsuc n)) (Err Unsafe) safe

-- a declarator with a literal takes a step and puts its value
declarator-literal : (name : List ℕ) (at : ℕ) (n : ℤ) (heap : Heap) (k : Unit {0} → Heap → Tree) → declarator_rule name (Some (literal at n)) heap k ≡ Step (place at) (k tt (put name (primitive.Number n) heap))
unfolding declarator_rule
declarator-literal name at n heap k = ap (λ (m : Run Primitive). m heap (λ value h. k tt (put name value h))) (evaluation-literal at n)

-- a declarator with a negated literal takes two steps and puts its value
declarator-minus : (name : List ℕ) (at next : ℕ) (n : ℕ) (heap : Heap) (k : Unit {0} → Heap → Tree) → is_safe (negsuc n) ≡ true
    → declarator_rule name (Some (minus at (literal next (pos (suc n))))) heap k ≡ Step (place at) (Step (place next) (k tt (put name (primitive.Number (negsuc n)) heap)))
unfolding declarator_rule minus_rule
declarator-minus name at next n heap k safe =
    let then : Primitive → Heap → Tree = λ value h. k tt (put name value h) in
    ap (λ (m : Run Primitive). m heap then) (evaluation-minus at (literal next (pos (suc n))))
    ∙ ap (λ (m : Run Primitive). Step (place at) (minus_rule (place at) m heap then)) (evaluation-literal next (pos (suc n)))
    ∙ ap (λ r. Step (place at) (Step (place next) (or_leave (place at) r heap then))) (negated-suc n safe)

-- a declarator goes past a property of another name
declarator-past : (name : List ℕ) (at : Places) (value : Primitive) (e : List ℕ × Primitive) (heap : Heap) (k : Unit {0} → Heap → Tree) → is_plain_value value ≡ true → bytes_eq name e.0 ≡ false
    → declarator_rule name (constant_at at value) (e ∷ heap) k ≡ declarator_rule name (constant_at at value) heap (λ u h. k u (e ∷ h))
unfolding declarator_rule
declarator-past name at primitive.Undefined e heap k plain other = refl
declarator-past name at (primitive.Number (pos n)) e heap k plain other =
    declarator-literal name at.value (pos n) (e ∷ heap) k
    ∙ ap (λ h. Step (place at.value) (k tt h)) (put-past name (primitive.Number (pos n)) e heap other)
    ∙ sym (declarator-literal name at.value (pos n) heap (λ u h. k u (e ∷ h)))
declarator-past name at (primitive.Number (negsuc n)) e heap k plain other =
    declarator-minus name at.value at.operand n (e ∷ heap) k plain
    ∙ ap (λ h. Step (place at.value) (Step (place at.operand) (k tt h))) (put-past name (primitive.Number (negsuc n)) e heap other)
    ∙ sym (declarator-minus name at.value at.operand n heap (λ u h. k u (e ∷ h)) plain)
declarator-past name at primitive.Null e heap k plain other = absurd (both_ways false refl plain)
declarator-past name at (primitive.Boolean b) e heap k plain other = absurd (both_ways false refl plain)
declarator-past name at (primitive.Text units) e heap k plain other = absurd (both_ways false refl plain)

-- declarators go past a property of another name
declarators-past : (vs : List (List ℕ × Primitive)) (at : ℕ → Places) (e : List ℕ × Primitive) (heap : Heap) (k : Unit {0} → Heap → Tree) → are_plain_variables vs ≡ true → DiffersFromAll e.0 (keys_of vs)
    → declarators_rule (variables_at at vs) (e ∷ heap) k ≡ declarators_rule (variables_at at vs) heap (λ u h. k u (e ∷ h))
declarators-past [] at e heap k readable others = refl
declarators-past (v ∷ vs) at e heap k readable others =
    let parts = and_parts (is_plain_variable v) (are_plain_variables vs) readable in
    let plain = (and_parts _ (is_plain_value v.1) parts.0).1 in
    let more = variables_at (behind at) vs in
    declarator-past v.0 (at 0) v.1 e heap (λ _ h. declarators_rule more h k) plain (other_name e.0 v.0 others.0)
    ∙ ap (declarator_rule v.0 (constant_at (at 0) v.1) heap) (λ i u h. declarators-past vs (behind at) e h k parts.1 others.1 i)

-- ---- steps

-- a step takes one from the budget
walk-step : (n m : ℕ) (at : Place) (t : Tree) → n ≡ suc m → walk n (Step at t) ≡ walk m t
walk-step n m at t e = ap (λ k. walk k (Step at t)) e

-- a literal is one expression
in_expr-literal : (at : ℕ) (n : ℤ) → in_expr (literal at n) ≡ 1
in_expr-literal at n = fold-literal ℕ ℕ ℕ of_form of_field of_expr at (primitive.Number n)

-- a negated literal is two expressions
in_expr-minus : (at next : ℕ) (n : ℤ) → in_expr (minus at (literal next n)) ≡ 2
in_expr-minus at next n = fold-minus ℕ ℕ ℕ of_form of_field of_expr at (literal next n) ∙ ap (λ m. m + 1) (in_expr-literal next n)

-- A declarator takes a step for each of its expressions, and its property, which comes first, gets the value.
walk-declarator : (name : List ℕ) (at : Places) (value : Primitive) (heap : Heap) (n : ℕ) (k : Unit {0} → Heap → Tree) → is_plain_value value ≡ true
    → walk (in_maybe (constant_at at value) + n) (declarator_rule name (constant_at at value) ((name, primitive.Undefined) ∷ heap) k) ≡ walk n (k tt ((name, value) ∷ heap))
unfolding declarator_rule
walk-declarator name at primitive.Undefined heap n k plain = ap (λ m. walk m (k tt ((name, primitive.Undefined) ∷ heap))) (zero-add n)
walk-declarator name at (primitive.Number (pos m)) heap n k plain =
    let count : in_expr (literal at.value (pos m)) + n ≡ suc n = omega (arith, in_expr-literal at.value (pos m)) in
    ap (walk (in_expr (literal at.value (pos m)) + n)) (declarator-literal name at.value (pos m) ((name, primitive.Undefined) ∷ heap) k)
    ∙ walk-step _ n (place at.value) (k tt (put name (primitive.Number (pos m)) ((name, primitive.Undefined) ∷ heap))) count
    ∙ ap (λ h. walk n (k tt h)) (put-first name primitive.Undefined (primitive.Number (pos m)) heap)
walk-declarator name at (primitive.Number (negsuc m)) heap n k plain =
    let count : in_expr (minus at.value (literal at.operand (pos (suc m)))) + n ≡ suc (suc n) = omega (arith, in_expr-minus at.value at.operand (pos (suc m))) in
    let end = k tt (put name (primitive.Number (negsuc m)) ((name, primitive.Undefined) ∷ heap)) in
    ap (walk (in_expr (minus at.value (literal at.operand (pos (suc m)))) + n)) (declarator-minus name at.value at.operand m ((name, primitive.Undefined) ∷ heap) k plain)
    ∙ walk-step _ (suc n) (place at.value) (Step (place at.operand) end) count
    ∙ ap (λ h. walk n (k tt h)) (put-first name primitive.Undefined (primitive.Number (negsuc m)) heap)
walk-declarator name at primitive.Null heap n k plain = absurd (both_ways false refl plain)
walk-declarator name at (primitive.Boolean b) heap n k plain = absurd (both_ways false refl plain)
walk-declarator name at (primitive.Text units) heap n k plain = absurd (both_ways false refl plain)

-- Declarators take a step for each of their expressions, and leave the variables.
pub walk-declarators : (vs : List (List ℕ × Primitive)) (at : ℕ → Places) (n : ℕ) (k : Unit {0} → Heap → Tree) → are_plain_variables vs ≡ true → IsDistinct bytes_eq (keys_of vs)
    → walk (in_declarators (variables_at at vs) + n) (declarators_rule (variables_at at vs) (map undefined_of vs) k) ≡ walk n (k tt vs)
walk-declarators [] at n k readable distinct = ap (λ m. walk m (k tt [])) (zero-add n)
walk-declarators (v ∷ vs) at n k readable distinct =
    let parts = and_parts (is_plain_variable v) (are_plain_variables vs) readable in
    let plain = (and_parts _ (is_plain_value v.1) parts.0).1 in
    let more = variables_at (behind at) vs in
    let first = in_maybe (constant_at (at 0) v.1) in
    let both : in_declarators (variables_at at (v ∷ vs)) ≡ first + in_declarators more = sum_by-cons (λ x. x) first (map (λ (d : Declarator). in_maybe d.init) more) in
    let count : in_declarators (variables_at at (v ∷ vs)) + n ≡ first + (in_declarators more + n) = omega arith in
    ap (λ m. walk m (declarators_rule (variables_at at (v ∷ vs)) (map undefined_of (v ∷ vs)) k)) count
    ∙ walk-declarator v.0 (at 0) v.1 (map undefined_of vs) (in_declarators more + n) (λ _ h. declarators_rule more h k) plain
    ∙ ap (walk (in_declarators more + n)) (declarators-past vs (behind at) v (map undefined_of vs) k parts.1 (IsDistinct-head bytes_eq v.0 (keys_of vs) distinct))
    ∙ walk-declarators vs (behind at) n (λ u h. k u (v ∷ h)) parts.1 (IsDistinct-tail bytes_eq v.0 (keys_of vs) distinct)

-- ---- the script

-- the run of a script of one `var` statement, from the heap with its names
script_tree-var : (at : ℕ) (ds : List Declarator) (heap : Heap) → declared (declared_names (var_at at ds ∷ [])) ≡ heap
    → script_tree (one (var_at at ds)) ≡ Step (place at) (declarators_rule ds heap (λ _ h. End h))
unfolding script_tree
script_tree-var at ds heap e =
    ap (λ h. in_turn statement (var_at at ds ∷ []) h (λ _ h. End h)) e ∙ ap (λ l. Step (place at) (statement_rule l heap (λ _ h. End h))) (outs-Var ds)

-- the empty script ends at once
walk-nothing : walk 0 (script_tree (script [] [])) ≡ Ended []
unfolding script_tree
walk-nothing = refl

-- the residual of variables with distinct names rebuilds them, wherever its parts lie
pub plain-placed : (vs : List (List ℕ × Primitive)) (at : ℕ) (places : ℕ → Places) → are_plain_variables vs ≡ true → IsDistinct bytes_eq (keys_of vs)
    → plain (placed at places vs) (nodes (placed at places vs)) ≡ Ended vs
unfolding plain placed
plain-placed [] at places readable distinct = walk-nothing
plain-placed (v ∷ vs) at places readable distinct =
    let ds = variables_at places (v ∷ vs) in
    let s = placed at places (v ∷ vs) in
    let heap : declared (declared_names (var_at at ds ∷ [])) ≡ map undefined_of (v ∷ vs) =
    ap (λ all. declared (flat_map (λ (d : Declarator). d.name ∷ []) all)) (declarators_of-var at ds) ∙ ap declared (names-variables (v ∷ vs) places) ∙ declared-distinct (v ∷ vs) distinct in
    let count : nodes s ≡ suc (in_declarators ds + 0) = omega (arith, in_stmt-var (place at) ds) in
    ap (walk (nodes s)) (script_tree-var at ds (map undefined_of (v ∷ vs)) heap)
    ∙ walk-step (nodes s) (in_declarators ds + 0) (place at) (declarators_rule ds (map undefined_of (v ∷ vs)) (λ _ h. End h)) count
    ∙ walk-declarators (v ∷ vs) places 0 (λ _ h. End h) readable distinct
