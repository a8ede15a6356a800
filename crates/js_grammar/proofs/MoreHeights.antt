-- A tree that is no higher than a number is no higher than a greater one.
use Rattle.std.proofs.Common.{◌≡◌, ℕ, zero, suc, ◌≤◌, Bool, true, false, List, [], ◌∷◌, refl, arith}
use Rattle.std.specs.Prelude.{◌&&◌, Option, Some, None}
use Rattle.std.specs.List.{list_all}
use Rattle.js_value.specs.declared.place.FuncNo.{FuncNo}
use Rattle.js_tree.specs.declared.expression.Expr.{Expr}
use Rattle.js_tree.specs.declared.expression.Field.{Field, out-Field}
use Rattle.js_tree.specs.declared.expression.ExprForm.{ExprForm, out-ExprForm}
use Rattle.js_tree.specs.declared.expression.ExprForm.TheOpen.{ExprForm-F, Field-F}
use Rattle.js_tree.specs.declared.statement.Case.{Case, out-Case}
use Rattle.js_tree.specs.declared.statement.Catch.{Catch, out-Catch}
use Rattle.js_tree.specs.declared.statement.Declarator.{Declarator}
use Rattle.js_tree.specs.declared.statement.Finally.{Finally, out-Finally}
use Rattle.js_tree.specs.declared.statement.ForStart.{ForStart}
use Rattle.js_tree.specs.declared.statement.ForStart.TheVariants as start
use Rattle.js_tree.specs.declared.statement.ForTarget.{ForTarget}
use Rattle.js_tree.specs.declared.statement.ForTarget.TheVariants as target
use Rattle.js_tree.specs.declared.statement.Func.{Func}
use Rattle.js_tree.specs.declared.statement.Stmt.{Stmt}
use Rattle.js_tree.specs.declared.statement.StmtForm.{StmtForm, out-StmtForm}
use Rattle.js_tree.specs.declared.statement.StmtForm.TheOpen.{StmtForm-F}
use Rattle.js_grammar.specs.Heights as H

-- one test implies another
abbrev Implies : Bool → Bool → Type 0
Implies a b = a ≡ true → b ≡ true

both : {a b c d : Bool} → Implies a c → Implies b d → Implies (a && b) (c && d)
both {a = true} {b = true} f g e = rw (f refl, g refl) refl
both {a = true} {b = false} f g e = absurd (cc)
both {a = false} f g e = absurd (cc)

all : {A : Type 0} {p q : A → Bool} → ((x : A) → Implies (p x) (q x)) → (xs : List A) → Implies (list_all p xs) (list_all q xs)
all f [] e = refl
all f (x ∷ xs) e = both (f x) (all f xs) e

maybe : {A : Type 0} {p q : A → Bool} → ((x : A) → Implies (p x) (q x)) → (o : Option A) → Implies (H.or_true p o) (H.or_true q o)
maybe f None e = refl
maybe f (Some x) e = f x e

module _ {fits low : Expr → Bool} {inside within : FuncNo → Bool} (f : (x : Expr) → Implies (fits x) (low x)) (g : (n : FuncNo) → Implies (inside n) (within n)) where
  field_more : (x : Field-F ExprForm Field Expr) → Implies (H.field_fits fits inside x) (H.field_fits low within x)
  field_more (Field-F.Value at key x) = f x
  field_more (Field-F.Getter at key n) = g n
  field_more (Field-F.Setter at key n) = g n

  parts_more : (x : ExprForm-F ExprForm Field Expr) → Implies (H.parts_fit fits inside x) (H.parts_fit low within x)
  parts_more ExprForm-F.This e = refl
  parts_more (ExprForm-F.Name text) e = refl
  parts_more (ExprForm-F.Literal value) e = refl
  parts_more (ExprForm-F.ArrayLit items) e = all (maybe f) items e
  parts_more (ExprForm-F.ObjectLit fields) e = all (λ x. field_more (out-Field x)) fields e
  parts_more (ExprForm-F.Func n) e = g n e
  parts_more (ExprForm-F.Member object key) e = f object e
  parts_more (ExprForm-F.Index object key) e = both (f object) (f key) e
  parts_more (ExprForm-F.Call callee args) e = both (f callee) (all f args) e
  parts_more (ExprForm-F.New callee args) e = both (f callee) (all f args) e
  parts_more (ExprForm-F.Unary op a) e = f a e
  parts_more (ExprForm-F.Binary op a b) e = both (f a) (f b) e
  parts_more (ExprForm-F.Logic op a b) e = both (f a) (f b) e
  parts_more (ExprForm-F.Conditional test a b) e = both (both (f test) (f a)) (f b) e
  parts_more (ExprForm-F.Assign a op b) e = both (f a) (f b) e
  parts_more (ExprForm-F.Step op a) e = f a e
  parts_more (ExprForm-F.Comma a b) e = both (f a) (f b) e
  parts_more (ExprForm-F.Input kind text) e = refl
  parts_more (ExprForm-F.HostCall kind text args) e = all f args e

  module _ {holds lows : Stmt → Bool} (h : (t : Stmt) → Implies (holds t) (lows t)) where
    declarators_more : (ds : List Declarator) → Implies (H.declarators_fit fits holds inside ds) (H.declarators_fit low lows within ds)
    declarators_more ds = all (λ (d : Declarator). maybe f d.init) ds

    start_more : (from : ForStart) → Implies (H.start_fits fits holds inside from) (H.start_fits low lows within from)
    start_more start.Nothing e = refl
    start_more (start.Expr x) e = f x e
    start_more (start.Var ds) e = declarators_more ds e

    target_more : (to : ForTarget) → Implies (H.target_fits fits holds inside to) (H.target_fits low lows within to)
    target_more (target.Expr x) e = f x e
    target_more (target.Var at name) e = refl

    case_more : (c : Case) → Implies (H.case_fits fits holds inside c) (H.case_fits low lows within c)
    case_more c = both (maybe f (out-Case c).test) (all h (out-Case c).body)

    stmt_parts_more : (x : StmtForm-F StmtForm Case Catch Finally Stmt) → Implies (H.stmt_parts_fit fits holds inside x) (H.stmt_parts_fit low lows within x)
    stmt_parts_more (StmtForm-F.Var ds) e = declarators_more ds e
    stmt_parts_more (StmtForm-F.FuncDecl n) e = g n e
    stmt_parts_more (StmtForm-F.Eval x) e = f x e
    stmt_parts_more (StmtForm-F.Block body) e = all h body e
    stmt_parts_more StmtForm-F.Empty e = refl
    stmt_parts_more (StmtForm-F.If test a b) e = both (both (f test) (h a)) (maybe h b) e
    stmt_parts_more (StmtForm-F.DoWhile body test) e = both (h body) (f test) e
    stmt_parts_more (StmtForm-F.While test body) e = both (f test) (h body) e
    stmt_parts_more (StmtForm-F.For from test step body) e = both (both (both (start_more from) (maybe f test)) (maybe f step)) (h body) e
    stmt_parts_more (StmtForm-F.ForIn to object body) e = both (both (target_more to) (f object)) (h body) e
    stmt_parts_more StmtForm-F.Continue e = refl
    stmt_parts_more StmtForm-F.Break e = refl
    stmt_parts_more (StmtForm-F.Return x) e = maybe f x e
    stmt_parts_more (StmtForm-F.Switch x cases) e = both (f x) (all case_more cases) e
    stmt_parts_more (StmtForm-F.Throw x) e = f x e
    stmt_parts_more (StmtForm-F.Try body handler final) e =
        both (both (all h body) (maybe (λ (c : Catch). all h (out-Catch c).body) handler)) (maybe (λ (x : Finally). all h (out-Finally x).body) final) e

module _ (functions : List Func) where
  mutual
    pub more_within : (n m : ℕ) (x : Expr) → n ≤ m → Implies (H.is_within functions n x) (H.is_within functions m x)
    more_within zero m x le e = absurd (cc)
    more_within (suc n) zero x le e = absurd (omega (arith, le))
    more_within (suc n) (suc m) x le e =
        parts_more (λ y. more_within n m y (omega (arith, le))) (λ f. all (λ t. more_stmt_within n m t (omega (arith, le))) (H.body_of functions f)) (out-ExprForm x.form) e

    pub more_stmt_within : (n m : ℕ) (t : Stmt) → n ≤ m → Implies (H.is_stmt_within functions n t) (H.is_stmt_within functions m t)
    more_stmt_within zero m t le e = absurd (cc)
    more_stmt_within (suc n) zero t le e = absurd (omega (arith, le))
    more_stmt_within (suc n) (suc m) t le e =
        stmt_parts_more (λ y. more_within n m y (omega (arith, le))) (λ f. all (λ t. more_stmt_within n m t (omega (arith, le))) (H.body_of functions f))
        (λ t. more_stmt_within n m t (omega (arith, le))) (out-StmtForm t.form) e
