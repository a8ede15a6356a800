-- Functions with those that stand in them.
use Rattle.std.proofs.Common.{◌≡◌, ◌≤◌, ◌<◌, ◌≢◌, ℕ, suc, zero, ◌+◌, ◌-◌, ◌++◌, List, [], ◌∷◌, refl, ap, sym, ◌∙◌, length, map, min, drop, get_or, append_assoc, arith}
use Rattle.std.proofs.Math.Seq.{drop-cons}
use Rattle.std.proofs.lemmas.List.{length-drop}
use Rattle.js_tree.specs.declared.statement.Func.{Func}
use Rattle.js_grammar.specs.FunctionOrder.{in_body}
use Rattle.lone_functions.specs.Alone.{with_inner, first_anew}
use Rattle.lone_functions.specs.Anew.{func, nameless}
use Rattle.lone_functions.specs.Named.{in_stmts}
use Rattle.lone_functions.proofs.Counted.{body_is}

-- as many as there are, or more
pub enough : (n : ℕ) (fs : List Func) → length fs ≤ n → with_inner n fs ≡ fs
enough zero [] h = refl
enough (suc n) [] h = refl
enough zero (f ∷ fs) h = absurd (omega arith)
enough (suc n) (f ∷ fs) h = ap (λ gs. f ∷ gs) (enough (length (in_body f.body) + n) fs (omega arith))

-- a count that stops at a number that is great enough
pub capped : (n most : ℕ) (fs : List Func) → length fs ≤ most → with_inner (min n most) fs ≡ with_inner n fs
capped n most fs h = by (n - most) refl
  where
    by : (d : ℕ) → n - most ≡ d → with_inner (min n most) fs ≡ with_inner n fs
    by zero k = let e : min n most ≡ n = omega arith in ap (λ m. with_inner m fs) e
    by (suc d) k = let e : min n most ≡ most = omega arith in ap (λ m. with_inner m fs) e ∙ enough most fs h ∙ sym (enough n fs (omega arith))

-- ---- as a loop over functions comes to the next one

pub one_more : (most first left count next i : ℕ) (from old new copied : List Func) (f g : Func)
    → length from ≤ most → i < length from → f ≡ get_or from i f → left ≢ 0
    → count ≡ min (in_stmts f.body) most → next ≡ min (left - 1 + count) most
    → g ≡ func first f → new ≡ old ++ g ∷ []
    → old ++ map (func first) (with_inner left (drop i from)) ≡ copied
    → new ++ map (func first) (with_inner next (drop (i + 1) from)) ≡ copied
one_more most first left count next i from old new copied f g small within is some counted then made put before = by (left - 1) refl
  where
    rest : List Func
    rest = drop (i + 1) from

    names : ℕ
    names = length (in_body f.body)

    after : suc i ≡ i + 1
    after = omega arith

    opened : drop i from ≡ f ∷ rest
    opened = drop-cons from i f within ∙ ap (λ h. h ∷ drop (suc i) from) (sym is) ∙ ap (λ m. f ∷ drop m from) after

    short : length rest ≤ most
    short = omega (arith, length-drop (i + 1) from)

    named : count ≡ min names most
    named = counted ∙ ap (λ k. min k most) (sym (body_is f.body))

    by : (m : ℕ) → left - 1 ≡ m → new ++ map (func first) (with_inner next rest) ≡ copied
    by m e =
        let one : left ≡ suc m = omega (arith, some, e) in
        let same : next ≡ min (names + m) most = omega (arith, named, then) in
        ap (λ k. new ++ map (func first) (with_inner k rest)) same
        ∙ ap (λ fs. new ++ map (func first) fs) (capped (names + m) most rest short)
        ∙ ap (λ xs. xs ++ map (func first) (with_inner (names + m) rest)) (put ∙ ap (λ h. old ++ h ∷ []) made)
        ∙ append_assoc old (func first f ∷ []) (map (func first) (with_inner (names + m) rest))
        ∙ ap (λ k. old ++ map (func first) (with_inner k (f ∷ rest))) (sym one)
        ∙ ap (λ fs. old ++ map (func first) (with_inner left fs)) (sym opened)
        ∙ before

-- the first function, and those inside it
pub first_of : (most first count : ℕ) (from one all : List Func) (f g : Func)
    → length (drop 1 from) ≤ most → 0 < length from → f ≡ get_or from 0 f
    → count ≡ min (in_stmts f.body) most
    → g ≡ nameless first f → one ≡ g ∷ []
    → all ≡ one ++ map (func first) (with_inner count (drop 1 from))
    → all ≡ first_anew first from
first_of most first count from one all f g small within is counted made put whole =
    let behind : List Func = drop 1 from in
    whole
    ∙ ap (λ xs. xs ++ map (func first) (with_inner count behind)) (put ∙ ap (λ h. h ∷ []) made)
    ∙ ap (λ k. nameless first f ∷ map (func first) (with_inner k behind)) (counted ∙ ap (λ k. min k most) (sym (body_is f.body)))
    ∙ ap (λ fs. nameless first f ∷ map (func first) fs) (capped (length (in_body f.body)) most behind small)
    ∙ ap (λ fs. first_anew first fs) (sym (drop-cons from 0 f within ∙ ap (λ h. h ∷ behind) (sym is)))
