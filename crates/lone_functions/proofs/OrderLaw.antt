-- Source order of a function alone.
use Rattle.std.proofs.Common.{◌≡◌, ◌≤◌, ℕ, suc, zero, ◌+◌, ◌-◌, ◌++◌, Bool, true, false, List, [], ◌∷◌, refl, ap, sym, ◌∙◌, subst, length, map, drop, get_or, arith, append_assoc, append-nil, length-append}
use Rattle.std.specs.Prelude.{◌==◌, ◌&&◌, None}
use Rattle.std.proofs.Math.Seq.{drop-cons}
use Rattle.js_tree.specs.Trees.{expr, stmt, no}
use Rattle.js_tree.specs.declared.expression.ExprForm.TheVariants as e
use Rattle.js_tree.specs.declared.statement.Func.{Func}
use Rattle.js_tree.specs.declared.statement.StmtForm.TheVariants as s
use Rattle.js_tree.specs.declared.expression.ExprForm.TheFolds.{fold_out-ExprForm, fold_out-Expr}
use Rattle.js_tree.specs.declared.statement.StmtForm.TheFolds.{fold_out-StmtForm, fold_out-Stmt}
use Rattle.js_grammar.specs.FunctionOrder.{Numbers, in_body, are_named_from, are_in_source_order}
use Rattle.lone_functions.specs.Alone.{with_inner, first_anew, alone}
use Rattle.lone_functions.specs.Anew as anew
use Rattle.lone_functions.specs.AloneLaw.{AloneLaw}
use Rattle.lone_functions.proofs.Renumbered.{less, append-less}
use Rattle.lone_functions.proofs.RenumberedStatements.{body_less}

both : (a b : Bool) → (a && b) ≡ true → (a ≡ true) × (b ≡ true)
both true b h = (refl, h)
both false b h = absurd (cc)

and : (a b : Bool) → a ≡ true → b ≡ true → (a && b) ≡ true
and a b h k = ap (λ x. x && b) h ∙ k

-- those that are named first, with those inside them
pub named_first : (n : ℕ) (ns behind : Numbers) (fs : List Func) → are_named_from n (ns ++ behind) fs ≡ true → are_named_from n ns (with_inner (length ns) fs) ≡ true
named_first n [] behind fs h = refl
named_first n (m ∷ ns) behind [] h = absurd (cc)
named_first n (m ∷ ns) behind (f ∷ fs) h =
    let inside : Numbers = in_body f.body in
    let p = both (m == n) (are_named_from (n + 1) (inside ++ ns ++ behind) fs) (h_is) in
    let rest = named_first (n + 1) (inside ++ ns) behind fs p.1 in
    and (m == n) _ p.0 (subst (λ k. are_named_from (n + 1) (inside ++ ns) (with_inner k fs) ≡ true) (length-append inside ns) rest)
  where
    h_is : ((m == n) && are_named_from (n + 1) ((in_body f.body ++ ns) ++ behind) fs) ≡ true
    h_is = ap (λ all. (m == n) && are_named_from (n + 1) all fs) (append_assoc (in_body f.body) ns behind) ∙ h

-- by their new numbers
pub named_anew : (first n : ℕ) (ns : Numbers) (fs : List Func) → first ≤ n → are_named_from n ns fs ≡ true → are_named_from (n - first) (less first ns) (map (anew.func first) fs) ≡ true
named_anew first n [] [] h k = refl
named_anew first n [] (f ∷ fs) h k = absurd (cc)
named_anew first n (m ∷ ns) [] h k = absurd (cc)
named_anew first n (m ∷ ns) (f ∷ fs) h k =
    let inside : Numbers = in_body f.body in
    let p = both (m == n) (are_named_from (n + 1) (inside ++ ns) fs) k in
    let next : (n + 1) - first ≡ (n - first) + 1 = omega arith in
    let rest = named_anew first (n + 1) (inside ++ ns) fs (omega arith) p.1 in
    and ((m - first) == (n - first)) _ (same_less m n first p.0)
    (subst (λ i. are_named_from i (in_body (map (anew.stmt first) f.body) ++ less first ns) (map (anew.func first) fs) ≡ true) next
    (subst (λ all. are_named_from ((n + 1) - first) all (map (anew.func first) fs) ≡ true) (sym (append-less first _ _ inside ns (body_less first f.body) refl)) rest))
  where
    same_less : (a b c : ℕ) → (a == b) ≡ true → ((a - c) == (b - c)) ≡ true
    same_less a b c h = grind arith

-- what is known of the functions from a number on
record From (n : ℕ) (g : Func) (gs : List Func) : Type 0 where
  behind : Numbers
  named : are_named_from (n + 1) (in_body g.body ++ behind) gs ≡ true

from_at : (k n : ℕ) (ns : Numbers) (fs : List Func) (g : Func) (gs : List Func) → drop k fs ≡ g ∷ gs → are_named_from n ns fs ≡ true → From (n + k) g gs
from_at zero n [] [] g gs d h = absurd (cc)
from_at zero n [] (f ∷ fs) g gs d h = absurd (cc)
from_at zero n (m ∷ ns) [] g gs d h = absurd (cc)
from_at zero n (m ∷ ns) (f ∷ fs) g gs d h =
    let p = both (m == n) (are_named_from (n + 1) (in_body f.body ++ ns) fs) h in
    let here : n ≡ n + 0 = omega arith in
    subst (λ l. begins l) d (record { behind = ns; named = subst (λ i. are_named_from (i + 1) (in_body f.body ++ ns) fs ≡ true) here p.1 })
  where
    begins : List Func → Type 0
    begins [] = From (n + 0) g gs
    begins (x ∷ xs) = From (n + 0) x xs
from_at (suc k) n [] [] g gs d h = absurd (cc)
from_at (suc k) n [] (f ∷ fs) g gs d h = absurd (cc)
from_at (suc k) n (m ∷ ns) [] g gs d h = absurd (cc)
from_at (suc k) n (m ∷ ns) (f ∷ fs) g gs d h =
    let p = both (m == n) (are_named_from (n + 1) (in_body f.body ++ ns) fs) h in
    let next : (n + 1) + k ≡ n + suc k = omega arith in
    subst (λ i. From i g gs) next (from_at k (n + 1) (in_body f.body ++ ns) fs g gs d p.1)

-- the one statement names the first function
first_named : in_body (stmt 0 (s.Eval (expr 0 (e.Func (no 0)))) ∷ []) ≡ 0 ∷ []
first_named = simp (fold_out-Stmt, fold_out-StmtForm, fold_out-Expr, fold_out-ExprForm, s.outs-Eval, e.outs-Func)

stands : (first : ℕ) (g : Func) (gs : List Func) → From first g gs → are_named_from 0 (0 ∷ []) (first_anew first (g ∷ gs)) ≡ true
stands first g gs known =
    let inside : Numbers = in_body g.body in
    let inner = named_anew first (first + 1) inside (with_inner (length inside) gs) (omega arith) (named_first (first + 1) inside known.behind gs known.named) in
    let one : (first + 1) - first ≡ 1 = omega arith in
    subst (λ i. are_named_from i (in_body (map (anew.stmt first) g.body) ++ []) (map (anew.func first) (with_inner (length inside) gs)) ≡ true) one
    (subst (λ all. are_named_from ((first + 1) - first) all (map (anew.func first) (with_inner (length inside) gs)) ≡ true) (sym (append-nil (in_body (map (anew.stmt first) g.body)) ∙ body_less first g.body)) inner)

pub alone_law : AloneLaw
unfolding are_in_source_order alone
alone_law all f within ordered =
    let g : Func = get_or all.funcs f.0 whatever in
    let gs : List Func = drop (suc f.0) all.funcs in
    let here : 0 + f.0 ≡ f.0 = omega arith in
    let d : drop f.0 all.funcs ≡ g ∷ gs = drop-cons all.funcs f.0 whatever within in
    ap (λ ns. are_named_from 0 ns (first_anew f.0 (drop f.0 all.funcs))) first_named
    ∙ ap (λ fs. are_named_from 0 (0 ∷ []) (first_anew f.0 fs)) d
    ∙ stands f.0 g gs (subst (λ n. From n g gs) here (from_at f.0 0 (in_body all.body) all.funcs g gs d ordered))
  where
    whatever : Func
    whatever = record { at = record { 0 = 0 }; name = None; params = []; directive = false; body = [] }
