-- Functions in source order: those that were named before a place in the order stand before it, and mention none behind it.
use Rattle.std.proofs.Common.{◌≡◌, ◌<◌, ℕ, zero, suc, ◌+◌, Bool, true, false, List, [], ◌∷◌, ◌++◌, length, drop, refl, ap, sym, ◌∙◌, subst, arith, append_assoc, length-append}
use Rattle.std.specs.Prelude.{◌&&◌, ◌==◌, nat_lt, slice_get, Some}
use Rattle.std.proofs.lemmas.Bool.Decides.{nat_tests}
use Rattle.js_tree.specs.declared.statement.Func.{Func}
use Rattle.js_grammar.specs.FunctionOrder.{Numbers, in_body, are_named_from}
use Rattle.script_nesting.proofs.Agree.{From, split}

halves : (a b : Bool) → (a && b) ≡ true → (a ≡ true) × (b ≡ true)
halves true b e = (refl, e)
halves false b e = absurd (cc)

both : {a b : Bool} → a ≡ true → b ≡ true → (a && b) ≡ true
both p q = rw (p, q) refl

equal : (m n : ℕ) → (m == n) ≡ true → m ≡ n
equal m n e = grind (arith, nat_tests)

is_less : (m n : ℕ) → m < n → nat_lt m n ≡ true
is_less m n le = grind (arith, nat_tests)

cancel : (zs xs ys : Numbers) → zs ++ xs ≡ zs ++ ys → xs ≡ ys
cancel [] xs ys e = e
cancel (z ∷ zs) xs ys e = let tails : zs ++ xs ≡ zs ++ ys = cc in cancel zs xs ys tails

-- only one list of names fits the functions from a number on
unique : (n : ℕ) (xs ys : Numbers) (fs : List Func) → are_named_from n xs fs ≡ true → are_named_from n ys fs ≡ true → xs ≡ ys
unique n [] [] fs e d = refl
unique n [] (y ∷ ys) [] e d = absurd (cc)
unique n [] (y ∷ ys) (f ∷ fs) e d = absurd (cc)
unique n (x ∷ xs) [] [] e d = absurd (cc)
unique n (x ∷ xs) [] (f ∷ fs) e d = absurd (cc)
unique n (x ∷ xs) (y ∷ ys) [] e d = absurd (cc)
unique n (x ∷ xs) (y ∷ ys) (f ∷ fs) e d =
    let p = halves (x == n) (are_named_from (n + 1) (in_body f.body ++ xs) fs) e in
    let q = halves (y == n) (are_named_from (n + 1) (in_body f.body ++ ys) fs) d in
    let tails = cancel (in_body f.body) xs ys (unique (n + 1) (in_body f.body ++ xs) (in_body f.body ++ ys) fs p.1 q.1) in
    ap (λ z. z ∷ xs) (equal x n p.0 ∙ sym (equal y n q.0)) ∙ ap (λ zs. y ∷ zs) tails

abbrev pub Below : ℕ → Numbers → Type 0
Below top ns = From (λ m. nat_lt m top) ns

nothing_before : (xs ys : Numbers) → xs ++ ys ≡ ys → xs ≡ []
nothing_before [] ys e = refl
nothing_before (x ∷ xs) ys e = absurd (omega (arith, ap length e, length-append (x ∷ xs) ys))

-- Between two places in the order the first names come up, and what the functions there mention.
pub record Consumed (top j : ℕ) (xs : Numbers) (fs : List Func) : Type 0 where
  pub names : Below top xs
  pub bodies : (i : ℕ) (g : Func) → i < j → slice_get fs i ≡ Some g → Below top (in_body g.body)

pub consumed : (j n top : ℕ) (xs ys : Numbers) (fs : List Func) → top ≡ n + j → are_named_from n (xs ++ ys) fs ≡ true → are_named_from top ys (drop j fs) ≡ true → Consumed top j xs fs
consumed zero n top xs ys fs at e d =
    let same : top ≡ n = omega (arith, at) in
    let none = nothing_before xs ys (unique n (xs ++ ys) ys fs e (subst (λ m. are_named_from m ys fs ≡ true) same d)) in
    record { names = subst (Below top) (sym none) refl; bodies = λ i g less there. absurd (omega (arith, less)) }
consumed (suc j) n top [] [] [] at e d = record { names = refl; bodies = λ i g less there. absurd (cc) }
consumed (suc j) n top [] [] (f ∷ fs) at e d = absurd (cc)
consumed (suc j) n top [] (y ∷ ys) [] at e d = absurd (cc)
consumed (suc j) n top [] (y ∷ ys) (f ∷ fs) at e d =
    let p = halves (y == n) (are_named_from (n + 1) (in_body f.body ++ ys) fs) e in
    absurd (omega (arith, at, equal y n p.0, at_top (drop j fs) d))
  where
    at_top : (gs : List Func) → are_named_from top (y ∷ ys) gs ≡ true → y ≡ top
    at_top [] e = absurd (cc)
    at_top (g ∷ gs) e = equal y top (halves (y == top) (are_named_from (top + 1) (in_body g.body ++ ys) gs) e).0
consumed (suc j) n top (x ∷ xs) ys [] at e d = absurd (cc)
consumed (suc j) n top (x ∷ xs) ys (f ∷ fs) at e d =
    let p = halves (x == n) (are_named_from (n + 1) (in_body f.body ++ (xs ++ ys)) fs) e in
    let h = consumed j (n + 1) top (in_body f.body ++ xs) ys fs (omega (arith, at)) (subst (λ zs. are_named_from (n + 1) zs fs ≡ true) (sym (append_assoc (in_body f.body) xs ys)) p.1) d in
    let q = split (λ m. nat_lt m top) (in_body f.body) xs h.names in
    record { names = both (is_less x top (omega (arith, at, equal x n p.0))) q.1; bodies = λ i g less there. by i g less there q.0 h }
  where
    by : (i : ℕ) (g : Func) → i < suc j → slice_get (f ∷ fs) i ≡ Some g → Below top (in_body f.body) → Consumed top j (in_body f.body ++ xs) fs → Below top (in_body g.body)
    by zero g less there own h = let same : f ≡ g = cc in subst (λ k. Below top (in_body k.body)) same own
    by (suc i) g less there own h = h.bodies i g (omega (arith, less)) there
