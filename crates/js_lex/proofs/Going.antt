-- How the loop over a text goes on, and how the places of its characters stand to its bytes.
use Rattle.std.proofs.Common.{◌≡◌, ℕ, zero, suc, ◌+◌, ◌-◌, ◌<◌, ◌≤◌, Bool, true, false, List, [], ◌∷◌, ◌++◌, length, take, drop, get_or, refl, ap, sym, ◌∙◌, arith, append_assoc, add-zero, length-append}
use Rattle.std.specs.Prelude.{Ok, Err}
use Rattle.std.specs.Char.{encode_utf8, len_utf8}
use Rattle.std.specs.Str.{chars, encode_utf8_all, is_utf8, IsUtf8}
use Rattle.std.specs.Str.Lossy.{utf8_valid_len}
use Rattle.std.proofs.lemmas.List.{drop-drop, at_drop_more, drop_more}
use Rattle.std.proofs.lemmas.List.Sums.{sum_by-cons, sum_by_more}
use Rattle.std.proofs.lemmas.Str.{encodes-chars, length-encode, IsUtf8-from_is_utf8, is_utf8-from_IsUtf8}
use Rattle.js_tree.specs.Lexing.{width, scan, lex_from, going_on, kept, line_after, with_front, Lexed, lexed, ended}
use Rattle.js_tree.specs.Refusals.{syntax}
use Rattle.js_tree.specs.declared.refusal.ReadRefused.{ReadRefused}
use Rattle.js_tree.specs.declared.token.InputElement.{InputElement}
use Rattle.js_tree.specs.declared.token.Token.{Token}
use Rattle.js_lex.proofs.Scanning.{width_more}

-- characters that are left of a token are dropped
skip_lex : (at : ℕ) (line : Bool) (left : ℕ) (z : List ℕ) → lex_from at line left z ≡ lex_from (at + width (take left z)) line 0 (drop left z)
skip_lex at line zero z = rw add-zero refl
skip_lex at line (suc left) [] = refl
skip_lex at line (suc left) (c ∷ z) =
    let place : at + len_utf8 c + width (take left z) ≡ at + width (c ∷ take left z) = omega (arith, sum_by-cons len_utf8 c (take left z)) in
    skip_lex (at + len_utf8 c) line left z ∙ ap (λ m. lex_from m line 0 (drop left z)) place

-- what stands at a position: white space, a line end, a token or a fault
lex_step : (at : ℕ) (line : Bool) (i : ℕ) (z : List ℕ) → i < length z
    → lex_from at line 0 (drop i z) ≡ going_on at line (drop i z) (scan at (drop i z)) (λ line left. lex_from (at + len_utf8 (get_or z i 0)) line left (drop (i + 1) z))
lex_step at line i z below =
    at_drop_more (lex_from at line 0) z i 0 below
    ∙ ap (λ w. going_on at line w (scan at w) (λ line left. lex_from (at + len_utf8 (get_or z i 0)) line left (drop (i + 1) z))) (sym (drop_more z i 0 below))

pub lex_goes : (at : ℕ) (line : Bool) (i : ℕ) (z : List ℕ) (t : InputElement × ℕ) (w : ℕ) → i < length z → 1 ≤ t.1 → scan at (drop i z) ≡ Ok t → width (take i z) + w ≡ width (take (i + t.1) z)
    → lex_from at line 0 (drop i z) ≡ with_front (kept at (at + w) line t.0) (lex_from (at + w) (line_after line t.0) 0 (drop (i + t.1) z))
lex_goes at line i z t w below some e wide =
    let len = len_utf8 (get_or z i 0) in
    let next = line_after line t.0 in
    let part : width (take t.1 (drop i z)) ≡ w = omega (arith, width_more i t.1 z) in
    let past : i + 1 + (t.1 - 1) ≡ i + t.1 = omega arith in
    let place : at + len + width (take (t.1 - 1) (drop (i + 1) z)) ≡ at + w = omega (arith, width_more (i + 1) (t.1 - 1) z, sum_by_more len_utf8 z i 0 below, ap (λ k. width (take k z)) past) in
    lex_step at line i z below
    ∙ ap (λ s. going_on at line (drop i z) s (λ line left. lex_from (at + len) line left (drop (i + 1) z))) e
    ∙ ap (λ v. with_front (kept at (at + v) line t.0) (lex_from (at + len) next (t.1 - 1) (drop (i + 1) z))) part
    ∙ ap (with_front (kept at (at + w) line t.0))
    (skip_lex (at + len) next (t.1 - 1) (drop (i + 1) z)
    ∙ ap (λ m. lex_from m next 0 (drop (t.1 - 1) (drop (i + 1) z))) place
    ∙ ap (lex_from (at + w) next 0) (drop-drop (t.1 - 1) (i + 1) z ∙ ap (λ k. drop k z) past))

pub lex_stops : (at : ℕ) (line : Bool) (i : ℕ) (z : List ℕ) (e : ReadRefused) → i < length z → scan at (drop i z) ≡ Err e → lex_from at line 0 (drop i z) ≡ Err e
lex_stops at line i z e below is = lex_step at line i z below ∙ ap (λ s. going_on at line (drop i z) s (λ line left. lex_from (at + len_utf8 (get_or z i 0)) line left (drop (i + 1) z))) is

pub front_front : (xs ys : List Token) (r : Lexed) → with_front xs (with_front ys r) ≡ with_front (xs ++ ys) r
front_front xs ys (Ok zs) = ap Ok (sym (append_assoc xs ys zs))
front_front xs ys (Err e) = refl

-- ---- bytes

width_encodes : (cs : List ℕ) → length (encode_utf8_all cs) ≡ width cs
width_encodes [] = refl
width_encodes (c ∷ cs) = omega (arith, length-append (encode_utf8 c) (encode_utf8_all cs), length-encode c, width_encodes cs, sum_by-cons len_utf8 c cs)

-- the characters of a text take its length
pub width-chars : (bytes : List ℕ) → IsUtf8 bytes → width (chars bytes) ≡ length bytes
width-chars bytes text = sym (width_encodes (chars bytes)) ∙ ap length (encodes-chars bytes text)

is_not : (bytes : List ℕ) (b : Bool) → is_utf8 bytes ≡ b → ¬ (IsUtf8 bytes) → is_utf8 bytes ≡ false
is_not bytes true e not_text = absurd (not_text (IsUtf8-from_is_utf8 bytes e))
is_not bytes false e not_text = e

-- bytes that are no text, and those that are
pub lexed_fault : (bytes : List ℕ) (at : ℕ) → ¬ (IsUtf8 bytes) → at ≡ utf8_valid_len bytes → lexed bytes ≡ syntax at
unfolding lexed
lexed_fault bytes at not_text is_at = rw (is_not bytes (is_utf8 bytes) refl not_text) (ap (λ n. syntax n) (sym is_at))

pub lexed_text : (bytes z : List ℕ) (r : Lexed) → IsUtf8 bytes → z ≡ chars bytes → lex_from 0 false 0 z ≡ r → lexed bytes ≡ ended (length bytes) r
unfolding lexed
lexed_text bytes z r text same e = rw (is_utf8-from_IsUtf8 bytes text) (ap (λ w. ended (length bytes) (lex_from 0 false 0 w)) (sym same) ∙ ap (ended (length bytes)) e)
