-- Code that is the same but for places, numbers of functions and captured names; and environments in which its names are bound alike.
use Rattle.std.proofs.Common.{◌≡◌, refl, ap, sym, subst, ℕ, suc, Bool, true, false, cond, List, [], ◌∷◌, ◌++◌, arith}
use Rattle.std.specs.Prelude.{◌&&◌, ◌||◌, length, Some, None}
use Rattle.std.specs.Cmp.Lexicographic.{same_text}
use Rattle.js_value.specs.Conversions.{is_same_text}
use Rattle.js_tree.specs.declared.expression.Expr.{Expr}
use Rattle.js_tree.specs.declared.expression.Field.{Field}
use Rattle.js_tree.specs.declared.expression.ExprForm.{ExprForm}
use Rattle.js_tree.specs.declared.expression.ExprForm.TheOpen.{ExprForm-F}
use Rattle.js_tree.specs.declared.statement.Func.{Func}
use Rattle.js_tree.specs.declared.statement.Name.{Name}
use Rattle.plain_heap.specs.Values.{CellNo}
use Rattle.plain_heap.specs.Heap.{Environment, lookup}
use Rattle.js_machine.specs.Machine.Expressions as E
use Rattle.related_states.specs.Related.{Correspondence, Names, are_named, BothEach, none, also, SameFound, in_cells, both_free, SameEnvironment}
use Rattle.related_runs.specs.Codes.{inside, SameForm, both_this, both_name, both_literal, both_array, both_object, both_function, both_member, both_index, both_call, both_new, both_unary, both_binary, both_logic, both_conditional, both_assign, both_step, both_comma, both_input, both_host, SameParameter}

-- ---- environments

module _ {x : Correspondence} where
  free : (a b : List ℕ) → is_same_text a b ≡ true → SameFound x a b None None
  free a b e = subst (λ b. SameFound x a b None None) (same_text a b (sym e)) (both_free a)

  pub global_names : SameEnvironment x [] [] []
  global_names = record { at = free }

  pub one_more : {ns : Names} {s t : Environment} → SameEnvironment x ns s t → (n : List ℕ) {c d : CellNo} → x.Cells c d → SameEnvironment x ((n, n) ∷ ns) ((n, c) ∷ s) ((n, d) ∷ t)
  one_more {ns = ns} {s = s} {t = t} env n {c = c} {d = d} cell = record { at = λ a b e. by_tests a b (is_same_text n a) (is_same_text n b) e }
    where
      by_tests : (a b : List ℕ) (p q : Bool) → cond (p || q) (p && q) (are_named ns a b) ≡ true → SameFound x a b (cond p (Some c) (lookup a s)) (cond q (Some d) (lookup b t))
      by_tests a b true true e = in_cells cell
      by_tests a b true false e = grind (arith, e)
      by_tests a b false true e = grind (arith, e)
      by_tests a b false false e = env.at a b e

module _ (x : Correspondence) where
  -- names with their cells
  pub data Bound : List (List ℕ) → Environment → Environment → Type 0 where
    no_names : Bound [] [] []
    one_name : {ds : List (List ℕ)} {s t : Environment} (n : List ℕ) {c d : CellNo} → x.Cells c d → Bound ds s t → Bound (n ∷ ds) ((n, c) ∷ s) ((n, d) ∷ t)

module _ {x : Correspondence} where
  pub all_more : {ds : List (List ℕ)} {m k : Environment} → Bound x ds m k → {ns : Names} {s t : Environment} → SameEnvironment x ns s t → SameEnvironment x (inside ds ns) (m ++ s) (k ++ t)
  all_more no_names env = env
  all_more (one_name n cell names) env = one_more (all_more names env) n cell

module _ {x : Correspondence} {functions others : List Func} {X : Names → Expr → Expr → Type 0} {ns : Names} where
  pub reference_same : {f g : ExprForm-F ExprForm Field Expr} → SameForm x functions others X ns f g → E.is_reference f ≡ E.is_reference g
  reference_same both_this = refl
  reference_same (both_name e) = refl
  reference_same (both_literal p) = refl
  reference_same (both_array es) = refl
  reference_same (both_object es) = refl
  reference_same (both_function c) = refl
  reference_same (both_member e key) = refl
  reference_same (both_index e i) = refl
  reference_same (both_call e es) = refl
  reference_same (both_new e es) = refl
  reference_same (both_unary op e) = refl
  reference_same (both_binary op e i) = refl
  reference_same (both_logic op e i) = refl
  reference_same (both_conditional e i k) = refl
  reference_same (both_assign op e i) = refl
  reference_same (both_step op e) = refl
  reference_same (both_comma e i) = refl
  reference_same (both_input kind name) = refl
  reference_same (both_host kind name es) = refl

  pub name_same : {f g : ExprForm-F ExprForm Field Expr} → SameForm x functions others X ns f g → E.is_name f ≡ E.is_name g
  name_same (both_name e) = refl
  name_same both_this = refl
  name_same (both_literal p) = refl
  name_same (both_array es) = refl
  name_same (both_object es) = refl
  name_same (both_function c) = refl
  name_same (both_member e key) = refl
  name_same (both_index e i) = refl
  name_same (both_call e es) = refl
  name_same (both_new e es) = refl
  name_same (both_unary op e) = refl
  name_same (both_binary op e i) = refl
  name_same (both_logic op e i) = refl
  name_same (both_conditional e i k) = refl
  name_same (both_assign op e i) = refl
  name_same (both_step op e) = refl
  name_same (both_comma e i) = refl
  name_same (both_input kind name) = refl
  name_same (both_host kind name es) = refl

pub parameters_length : {ns : Names} {ps qs : List Name} → BothEach (SameParameter ns) ps qs → length ps ≡ length qs
parameters_length none = refl
parameters_length (also p all) = ap (λ n. suc n) (parameters_length all)
