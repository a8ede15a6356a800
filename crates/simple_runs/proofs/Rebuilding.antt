-- The residual of variables has no wrapper and is a simple script, so its run rebuilds them by the rules of the whole language too.
use Rattle.std.proofs.Common.{◌≡◌, ℕ, suc, pos, negsuc, ◌≤◌, true, List, [], ◌∷◌, refl, ap, ◌∙◌, arith}
use Rattle.std.specs.Prelude.{if◌then◌else◌, int_le, neg_ℤ, nat_le, Some}
use Rattle.std.specs.List.{list_all, IsDistinct}
use Rattle.std.specs.Map.{keys_of}
use Rattle.std.specs.Str.{bytes_eq}
use Rattle.std.proofs.lemmas.Bool.{and_parts, leb-true}
use Rattle.js_value.specs.Numbers.{is_safe, greatest}
use Rattle.js_value.specs.declared.operator.UnaryOp.TheVariants as unary
use Rattle.js_value.specs.declared.primitive.Primitive.{Primitive}
use Rattle.js_value.specs.declared.primitive.Primitive.TheVariants as primitive
use Rattle.js_tree.specs.Count.{nodes}
use Rattle.js_tree.specs.declared.expression.ExprForm.TheVariants.{outs-Literal, outs-Unary}
use Rattle.js_tree.specs.declared.statement.Declarator.{Declarator}
use Rattle.js_tree.specs.declared.statement.StmtForm.TheVariants.{outs-Var}
use Rattle.residual_form.specs.Small.{is_number, is_primitive, is_constant, is_variables, is_without_wrapper}
use Rattle.simple_scripts.specs.Simple.{reads_declared}
use Rattle.simple_scripts.specs.SimpleScripts.{Sum, NoSum, LiteralAlone, sum_form, sum_in, is_simple_init, is_simple_declarator, is_simple}
use Rattle.simple_scripts.specs.SimpleNames.{greatest_literal, is_simple_name}
use Rattle.js_machine.specs.Machine.Walks.{World, Ended, Normally}
use Rattle.js_machine.specs.Machine.Walks as whole
use Rattle.simple_runs.specs.Placed.{Places, literal, minus, constant_at, behind, variables_at, placed}
use Rattle.simple_runs.specs.PlainVariables.{is_plain_value, is_plain_variable, are_plain_variables}
use Rattle.simple_runs.specs.Runs as simple
use Rattle.simple_runs.specs.SimpleRuns.{realm_with, Says}
use Rattle.simple_runs.proofs.Forms.{fold-literal, fold-minus}
use Rattle.simple_runs.proofs.Reading.{reads_declared-variables}
use Rattle.simple_runs.proofs.Running.{plain-placed}
use Rattle.simple_runs.proofs.SimpleScripts.{runs_as_simple}

-- ---- the residual has no wrapper

constant_is : (at : Places) (value : Primitive) → is_plain_value value ≡ true → is_constant (constant_at at value) ≡ true
constant_is at primitive.Undefined plain = refl
constant_is at (primitive.Number (pos n)) plain = ap (λ l. is_primitive l) (outs-Literal (primitive.Number (pos n)))
constant_is at (primitive.Number (negsuc n)) plain =
    ap (λ l. is_primitive l) (outs-Unary unary.Minus (literal at.operand (pos (suc n)))) ∙ ap (λ l. is_number l) (outs-Literal (primitive.Number (pos (suc n))))
constant_is at _ plain = cc

all_constant : (vs : List (List ℕ × Primitive)) (at : ℕ → Places) → are_plain_variables vs ≡ true → list_all (λ (d : Declarator). is_constant d.init) (variables_at at vs) ≡ true
all_constant [] at plain = refl
all_constant (v ∷ vs) at plain =
    let parts = and_parts (is_plain_variable v) (are_plain_variables vs) plain in
    rw (constant_is (at 0) v.1 (and_parts (is_simple_name v.0) (is_plain_value v.1) parts.0).1) (all_constant vs (behind at) parts.1)

pub without_wrapper : (vs : List (List ℕ × Primitive)) (at : ℕ) (places : ℕ → Places) → are_plain_variables vs ≡ true → is_without_wrapper (placed at places vs) ≡ true
unfolding is_without_wrapper placed
without_wrapper [] at places plain = refl
without_wrapper (v ∷ vs) at places plain = ap (λ l. is_variables l) (outs-Var (variables_at places (v ∷ vs))) ∙ all_constant (v ∷ vs) places plain

-- ---- it is simple

-- a negative number of the profile is not too small for a negated literal
safe_negsuc : (n : ℕ) → is_safe (negsuc n) ≡ true → suc n ≤ greatest_literal
safe_negsuc n safe =
    let low = (and_parts (int_le (neg_ℤ greatest) (negsuc n)) (int_le (negsuc n) greatest) safe).0 in
    let le : n ≤ 9007199254740990 = leb-true n 9007199254740990 low in
    omega arith

small_suc : (n : ℕ) → suc n ≤ greatest_literal → nat_le (suc n) greatest_literal ≡ true
small_suc n le = grind (arith, le)

sum-literal : (at n : ℕ) → nat_le n greatest_literal ≡ true → sum_in (literal at (pos n)) ≡ LiteralAlone
sum-literal at n small = fold-literal Sum (Unit {0}) Sum sum_form (λ f. tt) (λ e. e.form) at (primitive.Number (pos n)) ∙ ap (λ b. if b then LiteralAlone else NoSum) small

simple_literal : (at n : ℕ) → is_plain_value (primitive.Number (pos n)) ≡ true → is_simple_init (Some (literal at (pos n))) ≡ true
simple_literal at n plain = rw (sum-literal at n (and_parts (int_le (neg_ℤ greatest) (pos n)) (int_le (pos n) greatest) plain).1) refl

simple_minus : (at next n : ℕ) → is_plain_value (primitive.Number (negsuc n)) ≡ true → is_simple_init (Some (minus at (literal next (pos (suc n))))) ≡ true
simple_minus at next n plain =
    rw (
      fold-minus Sum (Unit {0}) Sum sum_form (λ f. tt) (λ e. e.form) at (literal next (pos (suc n))),
      sum-literal next (suc n) (small_suc n (safe_negsuc n plain)),
    )
    refl

simple_constant : (at : Places) (value : Primitive) → is_plain_value value ≡ true → is_simple_init (constant_at at value) ≡ true
simple_constant at primitive.Undefined plain = refl
simple_constant at (primitive.Number (pos n)) plain = simple_literal at.value n plain
simple_constant at (primitive.Number (negsuc n)) plain = simple_minus at.value at.operand n plain
simple_constant at _ plain = cc

simple_declarators : (vs : List (List ℕ × Primitive)) (at : ℕ → Places) → are_plain_variables vs ≡ true → list_all is_simple_declarator (variables_at at vs) ≡ true
simple_declarators [] at plain = refl
simple_declarators (v ∷ vs) at plain =
    let parts = and_parts (is_plain_variable v) (are_plain_variables vs) plain in
    let this = and_parts (is_simple_name v.0) (is_plain_value v.1) parts.0 in
    rw (this.0, simple_constant (at 0) v.1 this.1) (simple_declarators vs (behind at) parts.1)

nothing_read : reads_declared [] ≡ true
unfolding reads_declared
nothing_read = refl

simple-placed : (vs : List (List ℕ × Primitive)) (at : ℕ) (places : ℕ → Places) → are_plain_variables vs ≡ true → is_simple (placed at places vs) ≡ true
unfolding is_simple placed
simple-placed [] at places plain = nothing_read
simple-placed (v ∷ vs) at places plain =
    rw (outs-Var (variables_at places (v ∷ vs)), simple_declarators (v ∷ vs) places plain) (reads_declared-variables (v ∷ vs) at places)

-- ---- its run

said : (vs : List (List ℕ × Primitive)) (o : simple.Outcome) (p : whole.Outcome) → o ≡ simple.Ended vs → Says o p → p ≡ Ended [] Normally (realm_with vs)
said vs o p is says = rw is at says

pub rebuilds : (vs : List (List ℕ × Primitive)) (at : ℕ) (places : ℕ → Places) (w : World) → are_plain_variables vs ≡ true → IsDistinct bytes_eq (keys_of vs)
    → whole.plain (placed at places vs) w (nodes (placed at places vs)) ≡ Ended [] Normally (realm_with vs)
rebuilds vs at places w plain distinct =
    let s = placed at places vs in
    said vs (simple.plain s (nodes s)) (whole.plain s w (nodes s)) (plain-placed vs at places plain distinct) (runs_as_simple s w (nodes s) (simple-placed vs at places plain))
