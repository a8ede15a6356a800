-- The functions from the last one on.
use Rattle.std.proofs.Common.{◌≡◌, ◌<◌, ◌+◌, ◌-◌, ℕ, suc, List, ◌∷◌, ap, sym, ◌∙◌, length, drop, get_or, arith}
use Rattle.std.proofs.Math.Seq.{drop-cons}
use Rattle.std.proofs.lemmas.List.Folds.{flat_map-map}
use Rattle.js_tree.specs.declared.statement.Func.{Func}
use Rattle.js_tree.specs.Mentions as M
use Rattle.js_tree.specs.Mentions.{Inside, Mention}
use Rattle.js_scope.specs.Functions.{inside, declared}
use Rattle.js_scope.specs.Mentioning.{as_expression, as_declaration}

pub first_inside : (n : ℕ) (f : Func) (fs : List Func) → M.insides_from n (f ∷ fs) ≡ inside (n + 1) fs (M.insides_from (n + 1) fs) f ∷ M.insides_from (n + 1) fs
unfolding as_expression as_declaration
first_inside n f fs =
    let inner : List Inside = M.insides_from (n + 1) fs in
    ap (λ (ms : List Mention). (M.own_name f.name, M.unbound (declared (n + 1) fs f) ms) ∷ inner)
    (sym (flat_map-map (λ (x : List Mention). x) (M.stmt_mentions (as_expression (n + 1) inner) (as_declaration (n + 1) inner)) f.body))

after : (n : ℕ) → suc n ≡ n + 1
after n = omega arith

pub inside_at : (all : List Func) (n : ℕ) (f : Func) → n < length all → f ≡ get_or all n f
    → M.insides_from n (drop n all) ≡ inside (n + 1) (drop (n + 1) all) (M.insides_from (n + 1) (drop (n + 1) all)) f ∷ M.insides_from (n + 1) (drop (n + 1) all)
inside_at all n f h is =
    ap (λ fs. M.insides_from n fs) (drop-cons all n f h ∙ ap (λ g. g ∷ drop (suc n) all) (sym is) ∙ ap (λ m. f ∷ drop m all) (after n))
    ∙ first_inside n f (drop (n + 1) all)
