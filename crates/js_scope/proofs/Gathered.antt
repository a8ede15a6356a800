-- Names that are gathered each once are those of the list without repetitions.
use Rattle.std.proofs.Common.{◌≡◌, ◌++◌, ℕ, List, [], ◌∷◌, refl, ap, sym, ◌∙◌, Bool, true, false, append_assoc}
use Rattle.std.specs.Prelude.{◌||◌, Result, Ok, Err, OnOk}
use Rattle.std.specs.List.{flat_map}
use Rattle.std.specs.Str.{bytes_eq}
use Rattle.std.proofs.lemmas.List.Folds.{flat_map-map, list_any-append}
use Rattle.js_tree.specs.declared.statement.Stmt.{Stmt}
use Rattle.js_tree.specs.Mentions as M
use Rattle.std.proofs.lemmas.Slice.Eq.{bytes_eq-Decides}
use Rattle.js_tree.specs.Mentions.{Mention, Names, unbound, unbound_one, distinct, distinct_behind, hoisted_vars, vars_in}
use Rattle.js_tree.specs.Parts.{is_among}
use Rattle.js_scope.specs.Hoisting.{add, add_all, in_stmts}

with_one : (a b : Bool) → (a || (b || false)) ≡ (b || a)
with_one true true = refl
with_one true false = refl
with_one false true = refl
with_one false false = refl

with_none : (b : Bool) → b ≡ (b || false)
with_none true = refl
with_none false = refl

pub or_assoc : (a b c : Bool) → ((a || b) || c) ≡ (a || (b || c))
or_assoc true b c = refl
or_assoc false b c = refl

none_behind : (names : Names) → names ++ [] ≡ names
none_behind [] = refl
none_behind (n ∷ ns) = ap (λ r. n ∷ r) (none_behind ns)

alike_too : (names seen : Names) (x n : List ℕ) → is_among seen n ≡ is_among names n → is_among (x ∷ seen) n ≡ is_among (names ++ x ∷ []) n
alike_too names seen x n h =
    ap (λ b. bytes_eq n x || b) h ∙ sym (list_any-append (bytes_eq n) names (x ∷ []) ∙ with_one (is_among names n) (bytes_eq n x))

next : (x : List ℕ) (xs names seen : Names) (b : Bool) → is_among names x ≡ b → is_among seen x ≡ b
    → add_all names xs ≡ names ++ distinct_behind seen xs
    → add_all (names ++ x ∷ []) xs ≡ (names ++ x ∷ []) ++ distinct_behind (x ∷ seen) xs
    → add_all names (x ∷ xs) ≡ names ++ distinct_behind seen (x ∷ xs)
next x xs names seen true e s known new = rw (e, s) known
next x xs names seen false e s known new = rw (e, s) (new ∙ append_assoc names (x ∷ []) (distinct_behind (x ∷ seen) xs))

pub gathered_behind : (xs names seen : Names) → ((n : List ℕ) → is_among seen n ≡ is_among names n) → add_all names xs ≡ names ++ distinct_behind seen xs
gathered_behind [] names seen h = sym (none_behind names)
gathered_behind (x ∷ xs) names seen h =
    next x xs names seen (is_among names x) refl (h x) (gathered_behind xs names seen h)
    (gathered_behind xs (names ++ x ∷ []) (x ∷ seen) (λ n. alike_too names seen x n (h n)))

pub distinct_are : (xs : Names) → add_all [] xs ≡ distinct xs
distinct_are xs = gathered_behind xs [] [] (λ n. refl)

pub gathered : (body : List Stmt) → add_all [] (in_stmts body) ≡ hoisted_vars body
unfolding hoisted_vars
gathered body = ap (λ xs. add_all [] xs) (flat_map-map (λ x. x) vars_in body) ∙ distinct_are (flat_map vars_in body)

-- ---- a set of names has the names of the list

pub same_name : (xs : Names) (q x : List ℕ) → bytes_eq q x ≡ true → is_among xs x ≡ is_among xs q
same_name xs q x e = ap (is_among xs) (sym ((bytes_eq-Decides q x).0 e))

among_added : (names : Names) (x q : List ℕ) (b : Bool) → is_among names x ≡ b → is_among (add names x) q ≡ (is_among names q || bytes_eq q x)
among_added names x q true e = rw e (by (bytes_eq q x) refl)
  where
    by : (c : Bool) → bytes_eq q x ≡ c → is_among names q ≡ (is_among names q || c)
    by true same = let has : is_among names q ≡ true = sym (same_name names q x same) ∙ e in rw has refl
    by false other = with_none (is_among names q)
among_added names x q false e = rw e (list_any-append (bytes_eq q) names (x ∷ []) ∙ ap (λ b. is_among names q || b) (sym (with_none (bytes_eq q x))))

pub among_one : (names : Names) (x q : List ℕ) → is_among (add names x) q ≡ (is_among names q || bytes_eq q x)
among_one names x q = among_added names x q (is_among names x) refl

among_all_behind : (xs names : Names) (q : List ℕ) → is_among (add_all names xs) q ≡ (is_among names q || is_among xs q)
among_all_behind [] names q = with_none (is_among names q)
among_all_behind (x ∷ xs) names q =
    among_all_behind xs (add names x) q
    ∙ ap (λ b. b || is_among xs q) (among_one names x q)
    ∙ or_assoc (is_among names q) (bytes_eq q x) (is_among xs q)

pub among_all : (xs : Names) (q : List ℕ) → is_among (add_all [] xs) q ≡ is_among xs q
among_all xs q = among_all_behind xs [] q

unbound_one_alike : (xs ys : Names) → ((q : List ℕ) → is_among xs q ≡ is_among ys q) → (m : Mention) → unbound_one xs m ≡ unbound_one ys m
unbound_one_alike xs ys h (M.Reads at name) = rw (h name) refl
unbound_one_alike xs ys h (M.Assigns at name) = rw (h name) refl
unbound_one_alike xs ys h (M.AssignsOwn at) = refl
unbound_one_alike xs ys h (M.Takes at kind name) = refl
unbound_one_alike xs ys h (M.Repeats at) = refl

pub unbound_alike : (xs ys : Names) (ms : List Mention) → ((q : List ℕ) → is_among xs q ≡ is_among ys q) → unbound xs ms ≡ unbound ys ms
unbound_alike xs ys [] h = refl
unbound_alike xs ys (m ∷ ms) h = rw (unbound_one_alike xs ys h m) (ap (λ r. unbound_one ys m ++ r) (unbound_alike xs ys ms h))

-- a call that ends well leaves what is the same
pub with_ending : {A E M : Type 0} (now : M) (answer : Result A E) (one other : M) → one ≡ other → OnOk answer (now ≡ one) → OnOk answer (now ≡ other)
with_ending now (Ok a) one other same is = is ∙ same
with_ending now (Err e) one other same is = is
