-- Names and keys as tokens (7.6).
use Rattle.std.proofs.Common.{◌≡◌, ℕ, Bool, true, false, cond, List, [], ◌∷◌, map, refl, ap, sym, ◌∙◌, arith}
use Rattle.std.specs.Prelude.{◌&&◌, nat_eq, Option, Some, None}
use Rattle.std.specs.Cmp.Lexicographic.{pointwise}
use Rattle.std.proofs.lemmas.Bool.Decides.{nat_tests}
use Rattle.js_tree.specs.Lexing.{lookup, reserved_word}
use Rattle.js_tree.specs.declared.token.Keyword.{Keyword}
use Rattle.js_tree.specs.declared.token.TheConstants.{KEYWORDS}
use Rattle.js_tree.specs.declared.token.TokenForm.TheVariants as form
use Rattle.js_grammar.specs.Marks
use Rattle.script_text.specs.Tokens.{name_form, reserved_or_name}

same_number : (m n : ℕ) → nat_eq m n ≡ true → m ≡ n
same_number m n e = grind (arith, nat_tests)

same_text : (xs ys : List ℕ) → pointwise nat_eq xs ys ≡ true → xs ≡ ys
same_text [] [] e = refl
same_text [] (y ∷ ys) e = absurd (cc)
same_text (x ∷ xs) [] e = absurd (cc)
same_text (x ∷ xs) (y ∷ ys) e = both (same_text xs ys) (nat_eq x y) refl e
  where
    both : (pointwise nat_eq xs ys ≡ true → xs ≡ ys) → (b : Bool) → nat_eq x y ≡ b → (b && pointwise nat_eq xs ys) ≡ true → (x ∷ xs) ≡ (y ∷ ys)
    both inner true same e = ap (λ z. z ∷ xs) (same_number x y same) ∙ ap (λ zs. y ∷ zs) (inner e)
    both inner false same e = absurd (cc)

Spelled : List (List ℕ × Keyword) → Type 0
Spelled [] = Unit {0}
Spelled (row ∷ rows) = (Marks.spelled row.1 ≡ row.0) × Spelled rows

looked_up : (rows : List (List ℕ × Keyword)) (text : List ℕ) (k : Keyword) → Spelled rows → lookup rows text ≡ Some k → Marks.spelled k ≡ text
unfolding Spelled
looked_up [] text k all e = absurd (cc)
looked_up (row ∷ rows) text k all e = by (looked_up rows text k all.1) (pointwise nat_eq row.0 text) refl e
  where
    by : (lookup rows text ≡ Some k → Marks.spelled k ≡ text) → (b : Bool) → pointwise nat_eq row.0 text ≡ b → cond b (Some row.1) (lookup rows text) ≡ Some k → Marks.spelled k ≡ text
    by inner true same e = let is : row.1 ≡ k = cc in sym (ap Marks.spelled is) ∙ all.0 ∙ same_text row.0 text same
    by inner false same e = inner e

all_spelled : Spelled (map (λ row. (row.0.now, row.1)) KEYWORDS)
unfolding Spelled
all_spelled = (refl, (refl, (refl, (refl, (refl, (refl, (refl, (refl, (refl, (refl, (refl, (refl, (refl, (refl, (refl, (refl, (refl, (refl, (refl, (refl, (refl, (refl, (refl, (refl, (refl, (refl, (refl, (refl, (refl, (refl, (refl, (refl, (refl, (refl, (refl, (refl, tt))))))))))))))))))))))))))))))))))))

-- a reserved word is spelled so
pub spelled_so : (text : List ℕ) (k : Keyword) → reserved_word text ≡ Some k → Marks.spelled k ≡ text
unfolding reserved_word
spelled_so text k e = looked_up (map (λ row. (row.0.now, row.1)) KEYWORDS) text k all_spelled e

-- 7.6, 11.1.5: whatever a name spells, as the name of a property it is this text
pub named_so : (text : List ℕ) → Marks.identifier_name (name_form text) ≡ Some text
named_so text = by (reserved_word text) refl
  where
    by : (o : Option Keyword) → reserved_word text ≡ o → Marks.identifier_name (reserved_or_name text o) ≡ Some text
    by None e = refl
    by (Some k) e = ap Some (spelled_so text k e)

pub keyed_so : (text : List ℕ) → Marks.property_name (name_form text) ≡ Some text
keyed_so text = by (reserved_word text) refl
  where
    by : (o : Option Keyword) → reserved_word text ≡ o → Marks.property_name (reserved_or_name text o) ≡ Some text
    by None e = refl
    by (Some k) e = ap Some (spelled_so text k e)

-- 7.6.1
pub identifier_form : (text : List ℕ) → reserved_word text ≡ None → name_form text ≡ form.Name text
identifier_form text e = ap (reserved_or_name text) e
