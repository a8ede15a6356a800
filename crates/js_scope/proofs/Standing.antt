-- Where less of what is inside functions stands for all of it, by a relation that joining and binding keep, what code mentions is
-- related, and so is what is inside the functions around.
use Rattle.std.proofs.Common.{◌≡◌, ◌<◌, ◌+◌, ◌-◌, ℕ, zero, suc, Bool, true, false, List, [], ◌∷◌, ◌++◌, map, length, drop, get_or, refl, ap, sym, ◌∙◌, subst, arith}
use Rattle.std.specs.Prelude.{if◌then◌else◌, nat_lt, slice_get, None}
use Rattle.std.specs.List.{AllZip, flat_map}
use Rattle.std.proofs.lemmas.List.Folds.{flat_map-map}
use Rattle.js_value.specs.declared.place.FuncNo.{FuncNo}
use Rattle.js_tree.specs.declared.statement.Func.{Func}
use Rattle.js_tree.specs.declared.statement.Stmt.{Stmt}
use Rattle.js_tree.specs.Mentions as M
use Rattle.js_tree.specs.Mentions.{Mention, Inside, Names, unbound, owned_one, none_inside}
use Rattle.js_scope.specs.Functions.{declared, inside}
use Rattle.js_scope.specs.Mentioning.{as_expression, as_declaration}
use Rattle.js_scope.proofs.Insides.{inside_at}
use Rattle.js_scope.proofs.Related.{body_relates}

abbrev Ms : Type 0
Ms = List Mention

-- what functions with a number and greater ones mention in code
abbrev pub joined_in : ℕ → List Inside → List Stmt → Ms
joined_in n is body = M.joined (map (M.stmt_mentions (as_expression n is) (as_declaration n is)) body)

module _ (Like : Ms → Ms → Type 0) (same : (a : Ms) → Like a a) (joins : (a b c d : Ms) → Like a c → Like b d → Like (a ++ b) (c ++ d))
    (binds : (names : Names) (a b : Ms) → Like a b → Like (unbound names a) (unbound names b))
    (owns : (own : Names) (a b : Ms) → Like a b → Like (flat_map (owned_one own) a) (flat_map (owned_one own) b)) where
  abbrev AreLike : Inside → Inside → Type 0
  AreLike i j = (i.0 ≡ j.0) × Like i.1 j.1

  none_like : AreLike (none_inside None) (none_inside None)
  none_like = (refl, same [])

  expressions : (i j : Inside) → AreLike i j → Like (M.as_expression i) (M.as_expression j)
  expressions i j h = subst (λ own. Like (M.as_expression i) (flat_map (owned_one own) j.1)) h.0 (owns i.0 i.1 j.1 h.1)

  module _ (Stands : Inside → Inside → Type 0) (stands : (i j : Inside) → Stands i j → AreLike i j)
      (follows : (i j k : Inside) → AreLike i j → Stands j k → Stands i k) where
    at_number : (is js : List Inside) → AllZip Stands is js → (k : ℕ) → AreLike (none_inside (slice_get is k)) (none_inside (slice_get js k))
    at_number [] [] h k = none_like
    at_number [] (j ∷ js) h k = absurd h
    at_number (i ∷ is) [] h k = absurd h
    at_number (i ∷ is) (j ∷ js) h zero = stands i j h.0
    at_number (i ∷ is) (j ∷ js) h (suc k) = at_number is js h.1 k

    for_number : (is js : List Inside) → AllZip Stands is js → (n : ℕ) (f : FuncNo) → AreLike (M.nth n is f) (M.nth n js f)
    for_number is js h n f = by (nat_lt f.0 n) (at_number is js h (f.0 - n))
      where
        by : (b : Bool) → AreLike (none_inside (slice_get is (f.0 - n))) (none_inside (slice_get js (f.0 - n)))
            → AreLike (none_inside (if b then None else slice_get is (f.0 - n))) (none_inside (if b then None else slice_get js (f.0 - n)))
        by true k = none_like
        by false k = k

    pub body_like : (n : ℕ) (is js : List Inside) (body : List Stmt) → AllZip Stands is js → Like (joined_in n is body) (joined_in n js body)
    unfolding as_expression as_declaration
    body_like n is js body h =
        subst (λ ms. Like ms (joined_in n js body)) (sym (flat_map-map (λ (x : Ms). x) (M.stmt_mentions (as_expression n is) (as_declaration n is)) body))
        (subst (λ ms. Like (flat_map (M.stmt_mentions (as_expression n is) (as_declaration n is)) body) ms) (sym (flat_map-map (λ (x : Ms). x) (M.stmt_mentions (as_expression n js) (as_declaration n js)) body))
        (body_relates Like same joins binds (as_expression n is) (as_declaration n is) (as_expression n js) (as_declaration n js)
        (λ g. expressions (M.nth n is g) (M.nth n js g) (for_number is js h n g)) (λ g. (for_number is js h n g).1) body))

    inside_like : (n : ℕ) (fs : List Func) (is js : List Inside) (f : Func) → AllZip Stands is js → AreLike (inside n fs is f) (inside n fs js f)
    inside_like n fs is js f h = (refl, binds (declared n fs f) (joined_in n is f.body) (joined_in n js f.body) (body_like n is js f.body h))

    -- as a loop over the functions from the last one on comes to them
    pub one_stands : (all behind : List Func) (done : ℕ) (f : Func) (known new : List Inside) (found less : Inside)
        → done < length all → f ≡ get_or all (length all - 1 - done) f
        → AllZip Stands (M.insides_from (length all - done) (drop (length all - done) all)) known
        → behind ≡ drop (length all - 1 - done + 1) all
        → found ≡ inside (length all - 1 - done + 1) behind known f
        → Stands found less
        → new ≡ less ∷ known
        → AllZip Stands (M.insides_from (length all - (done + 1)) (drop (length all - (done + 1)) all)) new
    one_stands all behind done f known new found less h is before parts made stand put =
        let n : ℕ = length all - 1 - done in
        let one_behind : length all - done ≡ n + 1 = omega arith in
        let here : n ≡ length all - (done + 1) = omega arith in
        let inner : List Inside = M.insides_from (n + 1) (drop (n + 1) all) in
        let known_stand : AllZip Stands inner known = subst (λ m. AllZip Stands (M.insides_from m (drop m all)) known) one_behind before in
        let made_so : found ≡ inside (n + 1) (drop (n + 1) all) known f = made ∙ ap (λ fs. inside (n + 1) fs known f) parts in
        let one : Stands (inside (n + 1) (drop (n + 1) all) inner f) less =
        follows (inside (n + 1) (drop (n + 1) all) inner f) (inside (n + 1) (drop (n + 1) all) known f) less
        (inside_like (n + 1) (drop (n + 1) all) inner known f known_stand) (subst (λ i. Stands i less) made_so stand) in
        subst (λ m. AllZip Stands (M.insides_from m (drop m all)) new) here
        (subst (λ is. AllZip Stands is new) (sym (inside_at all n f (omega arith) is))
        (subst (λ js. AllZip Stands (inside (n + 1) (drop (n + 1) all) inner f ∷ inner) js) (sym put) (one, known_stand)))
