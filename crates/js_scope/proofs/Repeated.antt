-- The properties that clash, one property after the other.
use Rattle.std.proofs.Common.{◌≡◌, ◌++◌, ℕ, List, [], ◌∷◌, refl, ap, sym, ◌∙◌, ◌+◌, ◌<◌, length, take, get_or, Bool, true, false, map, append_assoc}
use Rattle.std.specs.Prelude.{if◌then◌else◌, ◌||◌, ◌&&◌, fold}
use Rattle.js_tree.specs.Mentions as M
use Rattle.js_tree.specs.Mentions.{Property, Mention, repeated}
use Rattle.std.specs.List.{list_any}
use Rattle.std.specs.Str.{bytes_eq}
use Rattle.std.proofs.lemmas.Bool.Decides.{same_from_decides}
use Rattle.std.proofs.lemmas.Grind.{fold-append}
use Rattle.std.proofs.lemmas.Slice.Eq.{bytes_eq-Decides}
use Rattle.js_tree.specs.Parts.{is_among}
use Rattle.js_scope.proofs.Gathered.{among_one, or_assoc}
use Rattle.js_scope.specs.declared.properties.Seen.{Seen}
use Rattle.std.proofs.lemmas.List.{map_more}
use Rattle.js_tree.specs.declared.expression.Field.{Field}
use Rattle.js_scope.specs.Properties.{clashes, clashes_one, clashes_with, none_seen, repeat, repeat_with, property, seen_in, with_one}

abbrev either : Property → Bool → List Mention
either p b = if b then M.Repeats p.0 ∷ [] else []

turned : (a b c : Bool) → ((a || b) || c) ≡ (b || (a || c))
turned true true c = refl
turned true false c = refl
turned false true c = refl
turned false false c = refl

none_behind : (ms : List Mention) → ms ++ [] ≡ ms
none_behind [] = refl
none_behind (m ∷ ms) = ap (λ r. m ∷ r) (none_behind ms)

pub list_any-map : {A B : Type 0} (test : B → Bool) (v : A → B) (xs : List A) → list_any test (map v xs) ≡ list_any (λ x. test (v x)) xs
list_any-map test v [] = refl
list_any-map test v (x ∷ xs) = ap (λ b. test (v x) || b) (list_any-map test v xs)

nothing : (b : Bool) → b ≡ (b || false)
nothing true = refl
nothing false = refl

behind : (before ps : List Property) (p : Property) → repeated before (ps ++ p ∷ []) ≡ repeated before ps ++ either p (clashes before p || clashes ps p)
behind before [] p = none_behind (either p (clashes before p)) ∙ ap (λ b. either p b) (nothing (clashes before p))
behind before (q ∷ qs) p =
    ap (λ r. repeat before q ++ r) (behind (q ∷ before) qs p ∙ ap (λ b. repeated (q ∷ before) qs ++ either p b) (turned (clashes_one p q) (clashes before p) (clashes qs p)))
    ∙ sym (append_assoc (repeat before q) (repeated (q ∷ before) qs) (either p (clashes before p || clashes (q ∷ qs) p)))

repeated_more : (ps : List Property) (p : Property) → repeated [] (ps ++ p ∷ []) ≡ repeated [] ps ++ repeat ps p
repeated_more ps p = behind [] ps p

-- ---- by the names of the properties so far

left_same : (a b c : Bool) → ((a || c) || b) ≡ ((a || b) || (c && true))
left_same true b c = refl
left_same false true true = refl
left_same false false true = refl
left_same false true false = refl
left_same false false false = refl

left : (a b c d : Bool) → c ≡ d → ((a || c) || b) ≡ ((a || b) || (d && true))
left a b c d e = rw e (left_same a b d)

right_same : (a b c : Bool) → (a || (b || c)) ≡ ((a || b) || (c && true))
right_same true b c = refl
right_same false true c = refl
right_same false false true = refl
right_same false false false = refl

right : (a b c d : Bool) → c ≡ d → (a || (b || c)) ≡ ((a || b) || (d && true))
right a b c d e = rw e (right_same a b d)

neither : (a b : Bool) → a ≡ (a || (b && false))
neither true b = refl
neither false true = refl
neither false false = refl

pub same_key : (xs ys : List ℕ) → bytes_eq xs ys ≡ bytes_eq ys xs
same_key xs ys =
    let d = bytes_eq-Decides ys xs in
    same_from_decides (bytes_eq xs ys) (bytes_eq ys xs) (bytes_eq-Decides xs ys) (λ e. sym (d.0 e), λ e. d.1 (sym e))

one_seen : (s : Seen) (q p : Property) → clashes_with (with_one s q) p ≡ (clashes_with s p || clashes_one p q)
one_seen s (a, x, M.Valued) (b, k, M.Valued) = neither (is_among s.getters k || is_among s.setters k) (bytes_eq x k)
one_seen s (a, x, M.Got) (b, k, M.Valued) = ap (λ c. c || is_among s.setters k) (among_one s.getters x k) ∙ left (is_among s.getters k) (is_among s.setters k) (bytes_eq k x) (bytes_eq x k) (same_key k x)
one_seen s (a, x, M.Set) (b, k, M.Valued) = ap (λ c. is_among s.getters k || c) (among_one s.setters x k) ∙ right (is_among s.getters k) (is_among s.setters k) (bytes_eq k x) (bytes_eq x k) (same_key k x)
one_seen s (a, x, M.Valued) (b, k, M.Got) = ap (λ c. c || is_among s.getters k) (among_one s.values x k) ∙ left (is_among s.values k) (is_among s.getters k) (bytes_eq k x) (bytes_eq x k) (same_key k x)
one_seen s (a, x, M.Got) (b, k, M.Got) = ap (λ c. is_among s.values k || c) (among_one s.getters x k) ∙ right (is_among s.values k) (is_among s.getters k) (bytes_eq k x) (bytes_eq x k) (same_key k x)
one_seen s (a, x, M.Set) (b, k, M.Got) = neither (is_among s.values k || is_among s.getters k) (bytes_eq x k)
one_seen s (a, x, M.Valued) (b, k, M.Set) = ap (λ c. c || is_among s.setters k) (among_one s.values x k) ∙ left (is_among s.values k) (is_among s.setters k) (bytes_eq k x) (bytes_eq x k) (same_key k x)
one_seen s (a, x, M.Got) (b, k, M.Set) = neither (is_among s.values k || is_among s.setters k) (bytes_eq x k)
one_seen s (a, x, M.Set) (b, k, M.Set) = ap (λ c. is_among s.values k || c) (among_one s.setters x k) ∙ right (is_among s.values k) (is_among s.setters k) (bytes_eq k x) (bytes_eq x k) (same_key k x)

all_seen : (ps : List Property) (s : Seen) (p : Property) → clashes_with (fold with_one s ps) p ≡ (clashes_with s p || clashes ps p)
all_seen [] s p = nothing (clashes_with s p)
all_seen (q ∷ qs) s p =
    all_seen qs (with_one s q) p ∙ ap (λ b. b || clashes qs p) (one_seen s q p) ∙ or_assoc (clashes_with s p) (clashes_one p q) (clashes qs p)

none_clashes : (p : Property) → clashes_with none_seen p ≡ false
none_clashes (at, key, M.Valued) = refl
none_clashes (at, key, M.Got) = refl
none_clashes (at, key, M.Set) = refl

clashes_seen : (ps : List Property) (p : Property) → clashes_with (seen_in ps) p ≡ clashes ps p
clashes_seen ps p = all_seen ps none_seen p ∙ ap (λ b. b || clashes ps p) (none_clashes p)

-- as a loop over the fields comes to them
pub repeated_at : (fields : List Field) (i : ℕ) (d : Field) → i < length fields
    → repeated [] (map property (take (i + 1) fields)) ≡ repeated [] (map property (take i fields)) ++ repeat_with (seen_in (map property (take i fields))) (property (get_or fields i d))
repeated_at fields i d h =
    let p = property (get_or fields i d) in
    ap (λ ps. repeated [] ps) (map_more property fields i d h)
    ∙ repeated_more (map property (take i fields)) p
    ∙ ap (λ b. repeated [] (map property (take i fields)) ++ either p b) (sym (clashes_seen (map property (take i fields)) p))

pub seen_at : (fields : List Field) (i : ℕ) (d : Field) → i < length fields
    → seen_in (map property (take (i + 1) fields)) ≡ with_one (seen_in (map property (take i fields))) (property (get_or fields i d))
seen_at fields i d h = ap seen_in (map_more property fields i d h) ∙ fold-append with_one none_seen (map property (take i fields)) (property (get_or fields i d) ∷ [])
