-- Which functions can be called in place, by their numbers, and what is flat of the forms that have lists of parts.
use Rattle.std.proofs.Common.{◌≡◌, ◌<◌, ◌≤◌, ◌≢◌, ℕ, suc, zero, ◌+◌, ◌-◌, ◌⊎◌, inl, inr, List, [], ◌∷◌, refl, ap, ◌∙◌, true, false, Bool, length, get_or, map, arith, eq-eqb}
use Rattle.std.specs.Prelude.{◌&&◌, drop, slice_get, Option, Some, None, is_none, eqb}
use Rattle.std.specs.List.{list_all}
use Rattle.std.proofs.Math.Seq.{drop-cons}
use Rattle.std.proofs.lemmas.Bool.Decides.{eqb_tells}
use Rattle.std.proofs.lemmas.List.{length-drop}
use Rattle.std.proofs.lemmas.List.Folds.{list_all_at, list_all_more}
use Rattle.std.proofs.lemmas.Option.{slice_get_within, get_or_from_slice_get}
use Rattle.js_value.specs.declared.place.FuncNo.{FuncNo}
use Rattle.js_value.specs.declared.primitive.Kind.{Kind}
use Rattle.js_tree.specs.declared.expression.Expr.{Expr}
use Rattle.js_tree.specs.declared.expression.Field.{Field}
use Rattle.js_tree.specs.declared.expression.ExprForm.{ExprForm, out-ExprForm}
use Rattle.js_tree.specs.declared.expression.ExprForm.TheOpen.{ExprForm-F}
use Rattle.js_tree.specs.declared.expression.ExprForm.TheFolds.{map-ExprForm}
use Rattle.js_tree.specs.declared.expression.ExprForm.TheVariants.{Call, outs-Call, HostCall, outs-HostCall, ArrayLit, outs-ArrayLit, ObjectLit, outs-ObjectLit}
use Rattle.js_tree.specs.declared.statement.Func.{Func}
use Rattle.js_tree.specs.declared.statement.Stmt.{Stmt}
use Rattle.js_tree.specs.declared.statement.Case.{Case, out-Case}
use Rattle.js_tree.specs.declared.statement.StmtForm.TheFolds.{fold_out-StmtForm, fold_out-Case}
use Rattle.js_tree.specs.declared.statement.StmtForm.TheVariants.{Block, outs-Block, Switch, outs-Switch}
use Rattle.js_tree.specs.Called.{callable_behind}
use Rattle.js_tree.specs.Flat.{callable_from, body_flat, Flatness, all, maybe_flat, of_form, of_field, in_form, in_field, in_expr, expr_flat, maybe_expr_flat, of_stmt_form, of_case, stmt_form_flat, stmt_flat, case_flat}
use Rattle.js_tree.proofs.Folds.{fold-layer}

-- another number than that of the first
other : (n : ℕ) (g : Func) (gs : List Func) (f : FuncNo) → f.0 ≢ n → callable_from n (g ∷ gs) f ≡ callable_from (n + 1) gs f
other n g gs f differ = of (eqb_tells f.0 n)
  where
    of : ((eqb f.0 n ≡ true) × (f.0 ≡ n)) ⊎ ((eqb f.0 n ≡ false) × (f.0 ≢ n)) → callable_from n (g ∷ gs) f ≡ callable_from (n + 1) gs f
    of (inl e) = absurd (differ e.1)
    of (inr e) = rw e.0 refl

below : (n : ℕ) (gs : List Func) (f : FuncNo) → f.0 < n → callable_from n gs f ≡ false
below n [] f h = refl
below n (g ∷ gs) f h = other n g gs f (omega arith) ∙ below (n + 1) gs f (omega arith)

past : (n : ℕ) (gs : List Func) (f : FuncNo) → n + length gs ≤ f.0 → callable_from n gs f ≡ false
past n [] f h = refl
past n (g ∷ gs) f h = other n g gs f (omega arith) ∙ past (n + 1) gs f (omega arith)

pub callable-below : (funcs : List Func) (n : ℕ) (f : FuncNo) → f.0 < n → callable_behind funcs n f ≡ false
callable-below funcs n f h = below n (drop n funcs) f h

pub callable-past : (funcs : List Func) (n : ℕ) (f : FuncNo) → n ≤ f.0 → length funcs ≤ f.0 → callable_behind funcs n f ≡ false
callable-past funcs n f h k = let e = length-drop n funcs in past n (drop n funcs) f (omega arith)

-- the first of the functions
first : (n : ℕ) (g : Func) (gs : List Func) (f : FuncNo) → f.0 ≡ n → callable_from n (g ∷ gs) f ≡ (is_none g.name && body_flat (callable_from (n + 1) gs) g.body)
first n g gs f same = rw (eq-eqb f.0 n same) refl

after : (n : ℕ) → suc n ≡ n + 1
after n = omega arith

here : (funcs : List Func) (f : FuncNo) (g : Func) → slice_get funcs f.0 ≡ Some g
    → callable_behind funcs f.0 f ≡ (is_none g.name && body_flat (callable_behind funcs (f.0 + 1)) g.body)
here funcs f g is =
    ap (λ gs. callable_from f.0 gs f) (drop-cons funcs f.0 g (slice_get_within funcs f.0 g is))
    ∙ first f.0 (get_or funcs f.0 g) (drop (suc f.0) funcs) f refl
    ∙ ap (λ (h : Func). is_none h.name && body_flat (callable_from (f.0 + 1) (drop (suc f.0) funcs)) h.body) (get_or_from_slice_get funcs f.0 g g is)
    ∙ ap (λ m. is_none g.name && body_flat (callable_from (f.0 + 1) (drop m funcs)) g.body) (after f.0)

at_distance : (k : ℕ) (funcs : List Func) (n : ℕ) (f : FuncNo) (g : Func) → f.0 ≡ n + k → slice_get funcs f.0 ≡ Some g
    → callable_behind funcs n f ≡ (is_none g.name && body_flat (callable_behind funcs (f.0 + 1)) g.body)
at_distance zero funcs n f g e is = let same : n ≡ f.0 = omega arith in ap (λ m. callable_behind funcs m f) same ∙ here funcs f g is
at_distance (suc k) funcs n f g e is =
    let within = slice_get_within funcs f.0 g is in
    ap (λ gs. callable_from n gs f) (drop-cons funcs n g (omega arith))
    ∙ other n (get_or funcs n g) (drop (suc n) funcs) f (omega arith)
    ∙ ap (λ m. callable_from (n + 1) (drop m funcs) f) (after n)
    ∙ at_distance k funcs (n + 1) f g (omega arith) is

pub callable-at : (funcs : List Func) (n : ℕ) (f : FuncNo) (g : Func) → n ≤ f.0 → slice_get funcs f.0 ≡ Some g
    → callable_behind funcs n f ≡ (is_none g.name && body_flat (callable_behind funcs (f.0 + 1)) g.body)
callable-at funcs n f g h is = at_distance (f.0 - n) funcs n f g (omega arith) is

-- ---- lists of parts

list_all-along : {A B : Type 0} (p : B → Bool) (v : A → B) (q : A → Bool) → ((x : A) → p (v x) ≡ q x) → (xs : List A) → list_all p (map v xs) ≡ list_all q xs
list_all-along p v q s [] = refl
list_all-along p v q s (x ∷ xs) = ap (λ b. b && list_all p (map v xs)) (s x) ∙ ap (λ b. q x && b) (list_all-along p v q s xs)

module _ (callable : FuncNo → Bool) where
  form_is : (form : ExprForm) (layer : ExprForm-F ExprForm Field Expr) → out-ExprForm form ≡ layer
      → (in_form callable form).flat ≡ (of_form callable (map-ExprForm ExprForm Field Expr Flatness Bool Flatness (in_form callable) (in_field callable) (in_expr callable) layer)).flat
  form_is form layer e = ap (λ (x : Flatness). x.flat) (fold-layer Flatness Bool Flatness (of_form callable) (of_field callable) (λ e. e.form) form layer e)

  pub flat-Call : (callee : Expr) (args : List Expr) → (in_form callable (Call callee args)).flat ≡ ((in_expr callable callee).callable && list_all (expr_flat callable) args)
  flat-Call callee args =
      form_is _ _ (outs-Call callee args)
      ∙ ap (λ b. (in_expr callable callee).callable && b) (list_all-along (λ (x : Flatness). x.flat) (in_expr callable) (expr_flat callable) (λ x. refl) args)

  pub flat-HostCall : (kind : Kind) (text : List ℕ) (args : List Expr) → (in_form callable (HostCall kind text args)).flat ≡ list_all (expr_flat callable) args
  flat-HostCall kind text args = form_is _ _ (outs-HostCall kind text args) ∙ list_all-along (λ (x : Flatness). x.flat) (in_expr callable) (expr_flat callable) (λ x. refl) args

  maybe_is : (g : Option Expr → Option Flatness) → maybe_flat (g None) ≡ true → ((e : Expr) → maybe_flat (g (Some e)) ≡ expr_flat callable e) → (o : Option Expr) → maybe_flat (g o) ≡ maybe_expr_flat callable o
  maybe_is g n s None = n
  maybe_is g n s (Some e) = s e

  array-all : (g : Option Expr → Option Flatness) → maybe_flat (g None) ≡ true → ((e : Expr) → maybe_flat (g (Some e)) ≡ expr_flat callable e) → (items : List (Option Expr))
      → list_all maybe_flat (map g items) ≡ list_all (maybe_expr_flat callable) items
  array-all g n s items = list_all-along maybe_flat g (maybe_expr_flat callable) (maybe_is g n s) items

  pub flat-ArrayLit : (items : List (Option Expr)) → (in_form callable (ArrayLit items)).flat ≡ list_all (maybe_expr_flat callable) items
  flat-ArrayLit items = form_is _ _ (outs-ArrayLit items) ∙ array-all _ refl (λ e. refl) items

  pub flat-ObjectLit : (fields : List Field) → (in_form callable (ObjectLit fields)).flat ≡ list_all (in_field callable) fields
  flat-ObjectLit fields = form_is _ _ (outs-ObjectLit fields) ∙ list_all-along (λ b. b) (in_field callable) (in_field callable) (λ f. refl) fields

  pub flat-Block : (body : List Stmt) → stmt_form_flat callable (Block body) ≡ body_flat callable body
  flat-Block body =
      fold_out-StmtForm Bool Bool Bool Bool Bool (of_stmt_form callable) (of_case callable) (λ c. all c.body) (λ f. all f.body) (λ s. s.form) (Block body)
      ∙ rw (outs-Block body) (list_all-along (λ b. b) (stmt_flat callable) (stmt_flat callable) (λ s. refl) body)

  pub flat-Switch : (e : Expr) (cases : List Case) → stmt_form_flat callable (Switch e cases) ≡ (expr_flat callable e && list_all (case_flat callable) cases)
  flat-Switch e cases =
      fold_out-StmtForm Bool Bool Bool Bool Bool (of_stmt_form callable) (of_case callable) (λ c. all c.body) (λ f. all f.body) (λ s. s.form) (Switch e cases)
      ∙ rw (outs-Switch e cases) (ap (λ b. expr_flat callable e && b) (list_all-along (λ b. b) (case_flat callable) (case_flat callable) (λ c. refl) cases))

  pub flat-Case : (c : Case) → case_flat callable c ≡ (maybe_expr_flat callable (out-Case c).test && body_flat callable (out-Case c).body)
  flat-Case c =
      fold_out-Case Bool Bool Bool Bool Bool (of_stmt_form callable) (of_case callable) (λ c. all c.body) (λ f. all f.body) (λ s. s.form) c
      ∙ ap (λ b. maybe_expr_flat callable (out-Case c).test && b) (list_all-along (λ b. b) (stmt_flat callable) (stmt_flat callable) (λ s. refl) (out-Case c).body)

pub ruleset flatness = (list_all_at, list_all_more, flat-Call, flat-HostCall, flat-ArrayLit, flat-ObjectLit, flat-Block, flat-Switch, flat-Case)

pub ruleset callable_parts = (callable-below, callable-past, callable-at)
