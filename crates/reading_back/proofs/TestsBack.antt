-- A tree that passes the test of its height is no higher.
use Rattle.std.proofs.Common.{◌≡◌, ◌≤◌, ℕ, Bool, true, List, [], ◌∷◌, map, refl, ap, arith, zero, suc, max, false}
use Rattle.std.specs.Prelude.{◌&&◌, Option, Some, None}
use Rattle.std.specs.List.{list_all}
use Rattle.js_value.specs.declared.place.FuncNo.{FuncNo}
use Rattle.js_tree.specs.declared.expression.Expr.{Expr}
use Rattle.js_tree.specs.declared.expression.Field.{Field, out-Field}
use Rattle.js_tree.specs.declared.expression.ExprForm.{ExprForm, out-ExprForm}
use Rattle.js_tree.specs.declared.expression.ExprForm.TheFolds.{map-Field}
use Rattle.js_tree.specs.declared.expression.ExprForm.TheOpen.{ExprForm-F, Field-F}
use Rattle.js_tree.specs.declared.statement.Case.{Case, out-Case}
use Rattle.js_tree.specs.declared.statement.Catch.{Catch, out-Catch}
use Rattle.js_tree.specs.declared.statement.Declarator.{Declarator}
use Rattle.js_tree.specs.declared.statement.Finally.{Finally, out-Finally}
use Rattle.js_tree.specs.declared.statement.ForStart.{ForStart}
use Rattle.js_tree.specs.declared.statement.ForStart.TheVariants as start
use Rattle.js_tree.specs.declared.statement.ForTarget.{ForTarget}
use Rattle.js_tree.specs.declared.statement.ForTarget.TheVariants as target
use Rattle.js_tree.specs.declared.statement.Func.{Func}
use Rattle.js_tree.specs.declared.statement.Stmt.{Stmt}
use Rattle.js_tree.specs.declared.statement.StmtForm.{StmtForm, out-StmtForm}
use Rattle.js_tree.specs.declared.statement.StmtForm.TheOpen.{StmtForm-F}
use Rattle.js_grammar.specs.Heights as H
use Rattle.js_grammar.specs.Heights.{body_of, is_within, is_stmt_within, or_true}
use Rattle.script_nesting.specs.Highest.{highest, or_zero}
use Rattle.script_nesting.specs.Height as height
use Rattle.script_nesting.proofs.Equations.{high_form, high_field, heights, field_height_is, high_case, high_catch, high_finally, stmt_heights, case_height_is, catch_height_is, finally_height_is, height_is, stmt_height_is}

halves : (a b : Bool) → (a && b) ≡ true → (a ≡ true) × (b ≡ true)
halves true b e = (refl, e)
halves false b e = absurd (cc)

module _ (tall : FuncNo → ℕ) (n : ℕ) (fits : Expr → Bool) (holds : Stmt → Bool) (inside : FuncNo → Bool) (f : (x : Expr) → fits x ≡ true → height.height tall x ≤ n)
    (g : (t : Stmt) → holds t ≡ true → height.stmt_height tall t ≤ n) (h : (k : FuncNo) → inside k ≡ true → tall k ≤ n) where
  two : (a b : Bool) (k l : ℕ) → (a ≡ true → k ≤ n) → (b ≡ true → l ≤ n) → (a && b) ≡ true → max k l ≤ n
  two a b k l p q e = let r = halves a b e in omega (arith, p r.0, q r.1)

  each : {A : Type 0} (high : A → ℕ) (p : A → Bool) → ((x : A) → p x ≡ true → high x ≤ n) → (xs : List A) → list_all p xs ≡ true → highest (map high xs) ≤ n
  each high p one [] e = omega arith
  each high p one (x ∷ xs) e = two (p x) (list_all p xs) (high x) (highest (map high xs)) (one x) (each high p one xs) e

  items : (r : Option Expr → Option ℕ) → r None ≡ None → ((x : Expr) → r (Some x) ≡ Some (height.height tall x)) → (xs : List (Option Expr)) → list_all (or_true fits) xs ≡ true → highest (map or_zero (map r xs)) ≤ n
  items r none some [] e = omega arith
  items r none some (o ∷ xs) e = two (or_true fits o) (list_all (or_true fits) xs) (or_zero (r o)) (highest (map or_zero (map r xs))) (one o) (items r none some xs) e
    where
      one : (o : Option Expr) → or_true fits o ≡ true → or_zero (r o) ≤ n
      one None e = let z : or_zero (r None) ≡ 0 = ap or_zero none in omega (arith, z)
      one (Some x) e = let z : or_zero (r (Some x)) ≡ height.height tall x = ap or_zero (some x) in omega (arith, z, f x e)

  maybe : (o : Option Expr) → or_true fits o ≡ true → height.of_maybe tall o ≤ n
  maybe None e = omega arith
  maybe (Some x) e = f x e

  field_layer : (l : Field-F ExprForm Field Expr) → H.field_fits fits inside l ≡ true → height.of_field tall (map-Field ExprForm Field Expr ℕ ℕ ℕ (high_form tall) (high_field tall) (height.height tall) l) ≤ n
  field_layer (Field-F.Value at key x) e = f x e
  field_layer (Field-F.Getter at key k) e = h k e
  field_layer (Field-F.Setter at key k) e = h k e

  field : (x : Field) → H.field_fits fits inside (out-Field x) ≡ true → high_field tall x ≤ n
  field x e = omega (arith, field_layer (out-Field x) e, field_height_is tall x)

  call : (a : Expr) (xs : List Expr) → (fits a && list_all fits xs) ≡ true → max (height.height tall a) (highest (map (height.height tall) xs)) ≤ n
  call a xs e = two (fits a) (list_all fits xs) _ _ (f a) (each (height.height tall) fits f xs) e

  pair : (a b : Expr) → (fits a && fits b) ≡ true → max (height.height tall a) (height.height tall b) ≤ n
  pair a b e = two (fits a) (fits b) _ _ (f a) (f b) e

  pub parts : (l : ExprForm-F ExprForm Field Expr) → H.parts_fit fits inside l ≡ true → height.of_form tall (heights tall l) ≤ n
  parts ExprForm-F.This e = omega arith
  parts (ExprForm-F.Name text) e = omega arith
  parts (ExprForm-F.Literal value) e = omega arith
  parts (ExprForm-F.ArrayLit xs) e = items _ refl (λ x. refl) xs e
  parts (ExprForm-F.ObjectLit fs) e = each (high_field tall) (λ x. H.field_fits fits inside (out-Field x)) field fs e
  parts (ExprForm-F.Func k) e = h k e
  parts (ExprForm-F.Member a key) e = f a e
  parts (ExprForm-F.Index a b) e = pair a b e
  parts (ExprForm-F.Call a xs) e = call a xs e
  parts (ExprForm-F.New a xs) e = call a xs e
  parts (ExprForm-F.Unary op a) e = f a e
  parts (ExprForm-F.Binary op a b) e = pair a b e
  parts (ExprForm-F.Logic op a b) e = pair a b e
  parts (ExprForm-F.Conditional t a b) e = two (fits t && fits a) (fits b) _ _ (pair t a) (f b) e
  parts (ExprForm-F.Assign a op b) e = pair a b e
  parts (ExprForm-F.Step op a) e = f a e
  parts (ExprForm-F.Comma a b) e = pair a b e
  parts (ExprForm-F.Input kind text) e = omega arith
  parts (ExprForm-F.HostCall kind text xs) e = each (height.height tall) fits f xs e

  declarators : (ds : List Declarator) → H.declarators_fit fits holds inside ds ≡ true → height.of_declarators tall ds ≤ n
  declarators ds e = each (λ (d : Declarator). height.of_maybe tall d.init) (λ (d : Declarator). or_true fits d.init) (λ d. maybe d.init) ds e

  from_start : (s : ForStart) → H.start_fits fits holds inside s ≡ true → height.of_start tall s ≤ n
  from_start start.Nothing e = omega arith
  from_start (start.Expr x) e = f x e
  from_start (start.Var ds) e = declarators ds e

  to_target : (to : ForTarget) → H.target_fits fits holds inside to ≡ true → height.of_target tall to ≤ n
  to_target (target.Expr x) e = f x e
  to_target (target.Var at name) e = omega arith

  body : (ts : List Stmt) → list_all holds ts ≡ true → highest (map (height.stmt_height tall) ts) ≤ n
  body ts e = each (height.stmt_height tall) holds g ts e

  case : (c : Case) → H.case_fits fits holds inside c ≡ true → high_case tall c ≤ n
  case c e =
      let m = two (or_true fits (out-Case c).test) (list_all holds (out-Case c).body) _ _ (maybe (out-Case c).test) (body (out-Case c).body) e in
      omega (arith, m, case_height_is tall c)

  handler : (c : Catch) → list_all holds (out-Catch c).body ≡ true → high_catch tall c ≤ n
  handler c e = omega (arith, body (out-Catch c).body e, catch_height_is tall c)

  last : (c : Finally) → list_all holds (out-Finally c).body ≡ true → high_finally tall c ≤ n
  last c e = omega (arith, body (out-Finally c).body e, finally_height_is tall c)

  none : true ≡ true → 0 ≤ n
  none e = omega arith

  pub stmt_parts : (l : StmtForm-F StmtForm Case Catch Finally Stmt) → H.stmt_parts_fit fits holds inside l ≡ true → height.of_stmt_form tall (stmt_heights tall l) ≤ n
  stmt_parts (StmtForm-F.Var ds) e = declarators ds e
  stmt_parts (StmtForm-F.FuncDecl k) e = h k e
  stmt_parts (StmtForm-F.Eval x) e = f x e
  stmt_parts (StmtForm-F.Block ts) e = body ts e
  stmt_parts StmtForm-F.Empty e = omega arith
  stmt_parts (StmtForm-F.If x a None) e = two (fits x && holds a) true _ _ (two (fits x) (holds a) _ _ (f x) (g a)) none e
  stmt_parts (StmtForm-F.If x a (Some b)) e = two (fits x && holds a) (holds b) _ _ (two (fits x) (holds a) _ _ (f x) (g a)) (g b) e
  stmt_parts (StmtForm-F.DoWhile a x) e = two (holds a) (fits x) _ _ (g a) (f x) e
  stmt_parts (StmtForm-F.While x a) e = two (fits x) (holds a) _ _ (f x) (g a) e
  stmt_parts (StmtForm-F.For s x y a) e =
      two (H.start_fits fits holds inside s && or_true fits x && or_true fits y) (holds a) _ _
      (two (H.start_fits fits holds inside s && or_true fits x) (or_true fits y) _ _ (two (H.start_fits fits holds inside s) (or_true fits x) _ _ (from_start s) (maybe x)) (maybe y)) (g a) e
  stmt_parts (StmtForm-F.ForIn to x a) e = two (H.target_fits fits holds inside to && fits x) (holds a) _ _ (two (H.target_fits fits holds inside to) (fits x) _ _ (to_target to) (f x)) (g a) e
  stmt_parts StmtForm-F.Continue e = omega arith
  stmt_parts StmtForm-F.Break e = omega arith
  stmt_parts (StmtForm-F.Return x) e = maybe x e
  stmt_parts (StmtForm-F.Switch x cs) e = two (fits x) (list_all (λ c. H.case_fits fits holds inside c) cs) _ _ (f x) (each (high_case tall) (λ c. H.case_fits fits holds inside c) case cs) e
  stmt_parts (StmtForm-F.Throw x) e = f x e
  stmt_parts (StmtForm-F.Try ts None None) e = two (list_all holds ts && true) true _ _ (two (list_all holds ts) true _ _ (body ts) none) none e
  stmt_parts (StmtForm-F.Try ts (Some c) None) e = two (list_all holds ts && list_all holds (out-Catch c).body) true _ _ (two (list_all holds ts) (list_all holds (out-Catch c).body) _ _ (body ts) (handler c)) none e
  stmt_parts (StmtForm-F.Try ts None (Some l)) e = two (list_all holds ts && true) (list_all holds (out-Finally l).body) _ _ (two (list_all holds ts) true _ _ (body ts) none) (last l) e
  stmt_parts (StmtForm-F.Try ts (Some c) (Some l)) e =
      two (list_all holds ts && list_all holds (out-Catch c).body) (list_all holds (out-Finally l).body) _ _ (two (list_all holds ts) (list_all holds (out-Catch c).body) _ _ (body ts) (handler c)) (last l) e

-- where a function is no higher than the statements of its body
module _ (functions : List Func) (tall : FuncNo → ℕ) (low : (k : FuncNo) → tall k ≤ height.body_height tall (body_of functions k)) where
  abbrev inside : ℕ → FuncNo → Bool
  inside n k = list_all (is_stmt_within functions n) (body_of functions k)

  bodies : (n : ℕ) → ((t : Stmt) → is_stmt_within functions n t ≡ true → height.stmt_height tall t ≤ n) → (ts : List Stmt) → list_all (is_stmt_within functions n) ts ≡ true → height.body_height tall ts ≤ n
  bodies n h [] e = omega arith
  bodies n h (t ∷ ts) e = let r = halves (is_stmt_within functions n t) (list_all (is_stmt_within functions n) ts) e in omega (arith, h t r.0, bodies n h ts r.1)

  mutual
    pub no_higher : (n : ℕ) (e : Expr) → is_within functions n e ≡ true → height.height tall e ≤ n
    no_higher zero e w = absurd (cc)
    no_higher (suc n) e w =
        let m = parts tall n (is_within functions n) (is_stmt_within functions n) (inside n) (no_higher n) (stmt_no_higher n) (λ k b. omega (arith, low k, bodies n (stmt_no_higher n) (body_of functions k) b)) (out-ExprForm e.form) w in
        omega (arith, m, height_is tall e)

    pub stmt_no_higher : (n : ℕ) (t : Stmt) → is_stmt_within functions n t ≡ true → height.stmt_height tall t ≤ n
    stmt_no_higher zero t w = absurd (cc)
    stmt_no_higher (suc n) t w =
        let m = stmt_parts tall n (is_within functions n) (is_stmt_within functions n) (inside n) (no_higher n) (stmt_no_higher n) (λ k b. omega (arith, low k, bodies n (stmt_no_higher n) (body_of functions k) b)) (out-StmtForm t.form) w in
        omega (arith, m, stmt_height_is tall t)
