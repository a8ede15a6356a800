-- Texts of ASCII: their characters are their bytes.
use Rattle.std.proofs.Common.{◌≡◌, ℕ, true, Bool, List, [], ◌∷◌, ◌++◌, refl, ◌∙◌, arith}
use Rattle.std.specs.Prelude.{nat_lt}
use Rattle.std.specs.List.{list_all}
use Rattle.std.specs.Str.{all_scalars, IsAscii, encode_utf8_all}
use Rattle.std.proofs.lemmas.Bool.{and_parts, and_from, ltb-true}
use Rattle.std.proofs.lemmas.Bool.Decides.{nat_tests}
use Rattle.std.proofs.lemmas.List.Folds.{list_all-append}
use Rattle.std.proofs.lemmas.Str.{encodes-IsAscii}
use Rattle.std.proofs.lemmas.Str.Ascii.{IsAscii-nil, IsAscii-cons}

abbrev pub is_ascii_text : List ℕ → Bool
is_ascii_text text = list_all (λ c. nat_lt c 128) text

IsAscii-all : (text : List ℕ) → is_ascii_text text ≡ true → IsAscii text
IsAscii-all [] h = IsAscii-nil
IsAscii-all (c ∷ text) h = let p = and_parts (nat_lt c 128) (is_ascii_text text) h in IsAscii-cons c text (ltb-true c 128 p.0) (IsAscii-all text p.1)

pub encoded : (text : List ℕ) → is_ascii_text text ≡ true → encode_utf8_all text ≡ text
encoded text h = encodes-IsAscii text (IsAscii-all text h)

pub valid : (text : List ℕ) → is_ascii_text text ≡ true → all_scalars text ≡ true
valid [] h = refl
valid (c ∷ text) h =
    let p = and_parts (nat_lt c 128) (is_ascii_text text) h in
    let one : all_scalars (c ∷ []) ≡ true = grind (arith, nat_tests) in
    and_from _ (all_scalars text) (and_parts _ true one).0 (valid text p.1)

pub ascii-append : (xs ys : List ℕ) → is_ascii_text xs ≡ true → is_ascii_text ys ≡ true → is_ascii_text (xs ++ ys) ≡ true
ascii-append xs ys a b = list_all-append (λ c. nat_lt c 128) xs ys ∙ and_from (is_ascii_text xs) (is_ascii_text ys) a b
