-- How the tokens of a text follow from what stands at its front.
use Rattle.std.proofs.Common.{◌≡◌, ℕ, suc, ◌+◌, ◌-◌, ◌<◌, Bool, true, false, List, [], ◌∷◌, ◌++◌, length, take, cond, refl, ap, sym, ◌∙◌, arith, add-zero}
use Rattle.std.specs.Prelude.{slice_index, Ok}
use Rattle.std.specs.Char.{len_utf8}
use Rattle.std.specs.List.{list_all, prefix_len}
use Rattle.std.specs.Str.{all_scalars}
use Rattle.std.proofs.lemmas.Bool.{and_parts}
use Rattle.std.proofs.lemmas.List.{take_at}
use Rattle.std.proofs.lemmas.List.Sums.{sum_by-cons}
use Rattle.js_tree.specs.Lexing.{width, scan, with_front, kept, line_after, going_on, lex_from}
use Rattle.js_tree.specs.declared.token.InputElement.{InputElement}
use Rattle.js_tree.specs.declared.token.InputElement.TheVariants as element
use Rattle.js_tree.specs.declared.token.TokenForm.{TokenForm}
use Rattle.lexing_back.proofs.Characters.{Behind, allows}

-- These characters are a token where what stands behind them may.
pub record Scans (cs : List ℕ) (f : TokenForm) (b : Behind) : Type 0 where
  pub some : 0 < length cs
  pub valid : all_scalars cs ≡ true
  pub scans : (at : ℕ) (z : List ℕ) → allows b (slice_index z 0) ≡ true → scan at (cs ++ z) ≡ Ok (element.Token f, length cs)

-- the longest front that passes is what passes before the first that doesn't
pub prefix_len-front : (p : ℕ → Bool) (xs rest : List ℕ) → list_all p xs ≡ true → p (slice_index rest 0) ≡ false → prefix_len p (xs ++ rest) ≡ length xs
prefix_len-front p [] [] all stops = refl
prefix_len-front p [] (c ∷ rest) all stops = ap (λ b. cond b (1 + prefix_len p rest) 0) stops
prefix_len-front p (x ∷ xs) rest all stops =
    let parts = and_parts (p x) (list_all p xs) all in
    let more : 1 + length xs ≡ suc (length xs) = omega arith in
    ap (λ b. cond b (1 + prefix_len p (xs ++ rest)) 0) parts.0 ∙ ap (λ n. 1 + n) (prefix_len-front p xs rest parts.1 stops) ∙ more

-- the character behind a text is the first of what follows
pub slice_index-behind : (xs rest : List ℕ) → slice_index (xs ++ rest) (length xs) ≡ slice_index rest 0
slice_index-behind [] rest = refl
slice_index-behind (x ∷ xs) rest = slice_index-behind xs rest

-- characters that are left of a token are skipped
skip : (at : ℕ) (line : Bool) (cs z : List ℕ) → lex_from at line (length cs) (cs ++ z) ≡ lex_from (at + width cs) line 0 z
skip at line [] z = ap (λ n. lex_from n line 0 z) (sym (add-zero at))
skip at line (c ∷ cs) z =
    let place : at + len_utf8 c + width cs ≡ at + width (c ∷ cs) = omega (arith, sum_by-cons len_utf8 c cs) in
    skip (at + len_utf8 c) line cs z ∙ ap (λ n. lex_from n line 0 z) place

-- what stands at the front, and the tokens of what follows it
pub scanned : (at : ℕ) (line : Bool) (cs z : List ℕ) (x : InputElement) → 0 < length cs → scan at (cs ++ z) ≡ Ok (x, length cs)
    → lex_from at line 0 (cs ++ z) ≡ with_front (kept at (at + width cs) line x) (lex_from (at + width cs) (line_after line x) 0 z)
scanned at line [] z x some e = absurd (omega arith)
scanned at line (c ∷ cs) z x some e =
    let wide : width (take (length (c ∷ cs)) (c ∷ (cs ++ z))) ≡ width (c ∷ cs) = ap width (take_at (c ∷ cs) z (length (c ∷ cs)) refl) in
    let one : length (c ∷ cs) - 1 ≡ length cs = omega arith in
    let place : at + len_utf8 c + width cs ≡ at + width (c ∷ cs) = omega (arith, sum_by-cons len_utf8 c cs) in
    ap (λ r. going_on at line (c ∷ (cs ++ z)) r (λ line left. lex_from (at + len_utf8 c) line left (cs ++ z))) e
    ∙ ap (λ w. with_front (kept at (at + w) line x) (lex_from (at + len_utf8 c) (line_after line x) (length (c ∷ cs) - 1) (cs ++ z))) wide
    ∙ ap (with_front (kept at (at + width (c ∷ cs)) line x))
    (ap (λ n. lex_from (at + len_utf8 c) (line_after line x) n (cs ++ z)) one
    ∙ skip (at + len_utf8 c) (line_after line x) cs z
    ∙ ap (λ n. lex_from n (line_after line x) 0 z) place)
