-- A tree that is the same but for places as a low one passes the test of its height, whichever functions are read already.
use Rattle.std.proofs.Common.{◌≡◌, ◌≤◌, ℕ, Bool, true, List, [], ◌∷◌, map, refl, ap, arith}
use Rattle.std.specs.Prelude.{◌&&◌, Option, Some, None}
use Rattle.std.specs.List.{list_all}
use Rattle.js_value.specs.declared.place.FuncNo.{FuncNo}
use Rattle.js_tree.specs.declared.expression.Expr.{Expr}
use Rattle.js_tree.specs.declared.expression.Field.{Field, out-Field}
use Rattle.js_tree.specs.declared.expression.ExprForm.{ExprForm}
use Rattle.js_tree.specs.declared.expression.ExprForm.TheFolds.{map-Field}
use Rattle.js_tree.specs.declared.expression.ExprForm.TheOpen.{ExprForm-F, Field-F}
use Rattle.js_tree.specs.declared.statement.Case.{Case, out-Case}
use Rattle.js_tree.specs.declared.statement.Catch.{Catch, out-Catch}
use Rattle.js_tree.specs.declared.statement.Declarator.{Declarator}
use Rattle.js_tree.specs.declared.statement.Finally.{Finally, out-Finally}
use Rattle.js_tree.specs.declared.statement.ForStart.{ForStart}
use Rattle.js_tree.specs.declared.statement.ForStart.TheVariants as start
use Rattle.js_tree.specs.declared.statement.ForTarget.{ForTarget}
use Rattle.js_tree.specs.declared.statement.ForTarget.TheVariants as target
use Rattle.js_tree.specs.declared.statement.Stmt.{Stmt}
use Rattle.js_tree.specs.declared.statement.StmtForm.{StmtForm}
use Rattle.js_tree.specs.declared.statement.StmtForm.TheOpen.{StmtForm-F}
use Rattle.js_grammar.specs.Heights as H
use Rattle.js_grammar.specs.Heights.{body_of, is_within, is_stmt_within, or_true}
use Rattle.script_nesting.specs.Highest.{highest, or_zero}
use Rattle.script_nesting.specs.Height as height
use Rattle.script_nesting.proofs.Equations.{high_form, high_field, heights, field_height_is, high_case, high_catch, high_finally, stmt_heights, case_height_is, catch_height_is, finally_height_is}

pub and : {a b : Bool} → a ≡ true → b ≡ true → (a && b) ≡ true
and p q = rw (p, q) refl

-- ---- what is no higher than a number is within it

module _ (tall : FuncNo → ℕ) where
  -- ---- parts

  module _ (n : ℕ) (fits : Expr → Bool) (holds : Stmt → Bool) (inside : FuncNo → Bool) (f : (x : Expr) → height.height tall x ≤ n → fits x ≡ true) (g : (t : Stmt) → height.stmt_height tall t ≤ n → holds t ≡ true)
      (h : (k : FuncNo) → tall k ≤ n → inside k ≡ true) where
    each : {A : Type 0} (high : A → ℕ) (p : A → Bool) → ((x : A) → high x ≤ n → p x ≡ true) → (xs : List A) → highest (map high xs) ≤ n → list_all p xs ≡ true
    each high p one [] le = refl
    each high p one (x ∷ xs) le = and (one x (omega (arith, le))) (each high p one xs (omega (arith, le)))

    -- options are mapped by a function of Rattle's own
    option : {A : Type 0} (high : A → ℕ) (p : A → Bool) → ((x : A) → high x ≤ n → p x ≡ true) → (r : Option A → Option ℕ) → ((x : A) → r (Some x) ≡ Some (high x)) → (o : Option A) → or_zero (r o) ≤ n → or_true p o ≡ true
    option high p one r some None le = refl
    option high p one r some (Some x) le = let e : or_zero (r (Some x)) ≡ high x = ap or_zero (some x) in one x (omega (arith, le, e))

    items : (r : Option Expr → Option ℕ) → ((x : Expr) → r (Some x) ≡ Some (height.height tall x)) → (xs : List (Option Expr)) → highest (map or_zero (map r xs)) ≤ n → list_all (or_true fits) xs ≡ true
    items r some [] le = refl
    items r some (x ∷ xs) le = and (option (height.height tall) fits f r some x (omega (arith, le))) (items r some xs (omega (arith, le)))

    maybe : (o : Option Expr) → height.of_maybe tall o ≤ n → or_true fits o ≡ true
    maybe None le = refl
    maybe (Some x) le = f x le

    field_layer : (l : Field-F ExprForm Field Expr) → height.of_field tall (map-Field ExprForm Field Expr ℕ ℕ ℕ (high_form tall) (high_field tall) (height.height tall) l) ≤ n → H.field_fits fits inside l ≡ true
    field_layer (Field-F.Value at key x) le = f x le
    field_layer (Field-F.Getter at key k) le = h k le
    field_layer (Field-F.Setter at key k) le = h k le

    field : (x : Field) → high_field tall x ≤ n → H.field_fits fits inside (out-Field x) ≡ true
    field x le = field_layer (out-Field x) (omega (arith, le, field_height_is tall x))

    pub parts : (l : ExprForm-F ExprForm Field Expr) → height.of_form tall (heights tall l) ≤ n → H.parts_fit fits inside l ≡ true
    parts ExprForm-F.This le = refl
    parts (ExprForm-F.Name text) le = refl
    parts (ExprForm-F.Literal value) le = refl
    parts (ExprForm-F.ArrayLit xs) le = items _ (λ x. refl) xs le
    parts (ExprForm-F.ObjectLit fs) le = each (high_field tall) (λ x. H.field_fits fits inside (out-Field x)) field fs le
    parts (ExprForm-F.Func k) le = h k le
    parts (ExprForm-F.Member a key) le = f a le
    parts (ExprForm-F.Index a b) le = and (f a (omega (arith, le))) (f b (omega (arith, le)))
    parts (ExprForm-F.Call a xs) le = and (f a (omega (arith, le))) (each (height.height tall) fits f xs (omega (arith, le)))
    parts (ExprForm-F.New a xs) le = and (f a (omega (arith, le))) (each (height.height tall) fits f xs (omega (arith, le)))
    parts (ExprForm-F.Unary op a) le = f a le
    parts (ExprForm-F.Binary op a b) le = and (f a (omega (arith, le))) (f b (omega (arith, le)))
    parts (ExprForm-F.Logic op a b) le = and (f a (omega (arith, le))) (f b (omega (arith, le)))
    parts (ExprForm-F.Conditional t a b) le = and (and (f t (omega (arith, le))) (f a (omega (arith, le)))) (f b (omega (arith, le)))
    parts (ExprForm-F.Assign a op b) le = and (f a (omega (arith, le))) (f b (omega (arith, le)))
    parts (ExprForm-F.Step op a) le = f a le
    parts (ExprForm-F.Comma a b) le = and (f a (omega (arith, le))) (f b (omega (arith, le)))
    parts (ExprForm-F.Input kind text) le = refl
    parts (ExprForm-F.HostCall kind text xs) le = each (height.height tall) fits f xs le

    declarators : (ds : List Declarator) → height.of_declarators tall ds ≤ n → H.declarators_fit fits holds inside ds ≡ true
    declarators ds le = each (λ (d : Declarator). height.of_maybe tall d.init) (λ (d : Declarator). or_true fits d.init) (λ d. maybe d.init) ds le

    from_start : (s : ForStart) → height.of_start tall s ≤ n → H.start_fits fits holds inside s ≡ true
    from_start start.Nothing le = refl
    from_start (start.Expr x) le = f x le
    from_start (start.Var ds) le = declarators ds le

    to_target : (to : ForTarget) → height.of_target tall to ≤ n → H.target_fits fits holds inside to ≡ true
    to_target (target.Expr x) le = f x le
    to_target (target.Var at name) le = refl

    body : (ts : List Stmt) → highest (map (height.stmt_height tall) ts) ≤ n → list_all holds ts ≡ true
    body ts le = each (height.stmt_height tall) holds g ts le

    case : (c : Case) → high_case tall c ≤ n → H.case_fits fits holds inside c ≡ true
    case c le = let e = case_height_is tall c in and (maybe (out-Case c).test (omega (arith, le, e))) (body (out-Case c).body (omega (arith, le, e)))

    handler : (c : Catch) → high_catch tall c ≤ n → list_all holds (out-Catch c).body ≡ true
    handler c le = body (out-Catch c).body (omega (arith, le, catch_height_is tall c))

    last : (c : Finally) → high_finally tall c ≤ n → list_all holds (out-Finally c).body ≡ true
    last c le = body (out-Finally c).body (omega (arith, le, finally_height_is tall c))

    pub stmt_parts : (l : StmtForm-F StmtForm Case Catch Finally Stmt) → height.of_stmt_form tall (stmt_heights tall l) ≤ n → H.stmt_parts_fit fits holds inside l ≡ true
    stmt_parts (StmtForm-F.Var ds) le = declarators ds le
    stmt_parts (StmtForm-F.FuncDecl k) le = h k le
    stmt_parts (StmtForm-F.Eval x) le = f x le
    stmt_parts (StmtForm-F.Block ts) le = body ts le
    stmt_parts StmtForm-F.Empty le = refl
    stmt_parts (StmtForm-F.If x a None) le = and (and (f x (omega (arith, le))) (g a (omega (arith, le)))) refl
    stmt_parts (StmtForm-F.If x a (Some b)) le = and (and (f x (omega (arith, le))) (g a (omega (arith, le)))) (g b (omega (arith, le)))
    stmt_parts (StmtForm-F.DoWhile a x) le = and (g a (omega (arith, le))) (f x (omega (arith, le)))
    stmt_parts (StmtForm-F.While x a) le = and (f x (omega (arith, le))) (g a (omega (arith, le)))
    stmt_parts (StmtForm-F.For s x y a) le = and (and (and (from_start s (omega (arith, le))) (maybe x (omega (arith, le)))) (maybe y (omega (arith, le)))) (g a (omega (arith, le)))
    stmt_parts (StmtForm-F.ForIn to x a) le = and (and (to_target to (omega (arith, le))) (f x (omega (arith, le)))) (g a (omega (arith, le)))
    stmt_parts StmtForm-F.Continue le = refl
    stmt_parts StmtForm-F.Break le = refl
    stmt_parts (StmtForm-F.Return x) le = maybe x le
    stmt_parts (StmtForm-F.Switch x cs) le = and (f x (omega (arith, le))) (each (high_case tall) (λ c. H.case_fits fits holds inside c) case cs (omega (arith, le)))
    stmt_parts (StmtForm-F.Throw x) le = f x le
    stmt_parts (StmtForm-F.Try ts None None) le = and (and (body ts (omega (arith, le))) refl) refl
    stmt_parts (StmtForm-F.Try ts (Some c) None) le = and (and (body ts (omega (arith, le))) (handler c (omega (arith, le)))) refl
    stmt_parts (StmtForm-F.Try ts None (Some l)) le = and (and (body ts (omega (arith, le))) refl) (last l (omega (arith, le)))
    stmt_parts (StmtForm-F.Try ts (Some c) (Some l)) le = and (and (body ts (omega (arith, le))) (handler c (omega (arith, le)))) (last l (omega (arith, le)))
