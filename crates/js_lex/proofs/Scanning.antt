-- How the loops of scanning go on.
use Rattle.std.proofs.Common.{◌≡◌, ℕ, zero, suc, ◌+◌, ◌-◌, ◌*◌, ◌^◌, ◌<◌, ◌≤◌, Bool, true, false, cond, min, List, [], ◌∷◌, ◌++◌, length, take, drop, get_or, refl, ap, sym, ◌∙◌, arith, fold, add-zero}
use Rattle.std.specs.Prelude.{◌==◌, ◌&&◌, ◌||◌, if◌then◌else◌, Some, Result, Ok, Err, IsErrAnd, ◌≢◌}
use Rattle.std.specs.Char.{digit_value, is_ascii_hexdigit, len_utf8}
use Rattle.std.specs.Char.Escape.{encode_utf16}
use Rattle.std.specs.List.{prefix_len}
use Rattle.std.proofs.lemmas.List.{drop-drop, length-take-le, at_drop_more, get_or-drop}
use Rattle.std.proofs.lemmas.List.Sums.{sum_by-cons, sum_by-take-drop, sum_by_more, prefix_len-le-length}
use Rattle.std.proofs.lemmas.Bool.Decides.{nat_tests}
use Rattle.std.proofs.Math.Nat.{mul-le-mul_left, pow-suc, pow-le-pow_right}
use Rattle.std.proofs.lemmas.Str.{len_utf8_bounds}
use Rattle.js_tree.specs.Lexing.{width, value, block_comment, is_line_end, string_from, escape, hex_unit}
use Rattle.js_tree.specs.Refusals.{Gives}
use Rattle.js_tree.specs.declared.refusal.ReadRefused.{ReadRefused}
use Rattle.js_tree.specs.declared.refusal.ReadRefused.TheVariants.{NoMemory}
use Rattle.js_tree.specs.declared.token.InputElement.TheVariants as element

-- each character takes at least one byte
pub length_within_width : (z : List ℕ) → length z ≤ width z
length_within_width [] = omega arith
length_within_width (c ∷ z) = omega (arith, length_within_width z, sum_by-cons len_utf8 c z, (len_utf8_bounds c).0)

-- the characters up to a position, and as many more
pub width_more : (i n : ℕ) (z : List ℕ) → width (take (i + n) z) ≡ width (take i z) + width (take n (drop i z))
width_more i n z =
    omega (arith, sum_by-take-drop len_utf8 z (i + n), sum_by-take-drop len_utf8 z i, sum_by-take-drop len_utf8 (drop i z) n, ap width (drop-drop n i z))

-- a turn of the loop over a comment
pub comment_step : (at : ℕ) (line : Bool) (n i : ℕ) (z : List ℕ) → i < length z →
    block_comment at line n (drop i z) ≡ (if get_or z i 0 == 42 && get_or z (i + 1) 0 == 47 then Ok (if line then element.LineEnd else element.WhiteSpace, n + 2) else block_comment at (line || is_line_end (get_or z i 0)) (n + 1) (drop (i + 1) z))
comment_step at line n i z below = at_drop_more (block_comment at line n) z i 0 below ∙ rw (get_or-drop, add-zero) refl

-- ---- hexadecimal digits

hex_digit_small : (c : ℕ) → is_ascii_hexdigit c ≡ true → digit_value c < 16
hex_digit_small c e = grind (arith, nat_tests)

hex_step : (b : Bool) (c p l : ℕ) → is_ascii_hexdigit c ≡ b → cond b (1 + p) 0 ≡ suc l → (digit_value c < 16) × (p ≡ l)
hex_step true c p l e h = (hex_digit_small c e, omega arith)
hex_step false c p l e h = absurd (omega arith)

hex_room : (x n d p : ℕ) → d < 16 → x < (16 * n + d + 1) * p → x < (n + 1) * (p * 16)
hex_room x n d p small below = let room : d + 1 ≤ 16 = omega arith in omega (arith, mul-le-mul_left p room)

hex_bound : (n : ℕ) (z : List ℕ) → prefix_len is_ascii_hexdigit z ≡ length z → fold (λ n c. 16 * n + digit_value c) n z < (n + 1) * 16 ^ length z
hex_bound n [] e = omega arith
hex_bound n (c ∷ z) e =
    let s = hex_step (is_ascii_hexdigit c) c (prefix_len is_ascii_hexdigit z) (length z) refl e in
    rw pow-suc (hex_room _ n (digit_value c) (16 ^ length z) s.0 (hex_bound (16 * n + digit_value c) z s.1))

-- four hexadecimal digits make a unit
hex_small : (z : List ℕ) → prefix_len is_ascii_hexdigit z ≡ length z → length z ≤ 4 → value 16 z < 65536
hex_small z e short =
    let most : 16 ^ length z ≤ 16 ^ 4 = pow-le-pow_right (omega arith) short in
    omega (arith, hex_bound 0 z e)

-- what the digits at the front of a text make
pub hex_unit_is : (n : ℕ) (z : List ℕ) (found v : ℕ) → n ≤ 4 → n ≤ length z → found ≡ prefix_len is_ascii_hexdigit (take n z) → n ≤ found → v ≡ min (value 16 (take n z)) 9007199254740992
    → (v < 65536) × (Some v ≡ hex_unit n z)
hex_unit_is n z found v few long e enough is_value =
    let whole : length (take n z) ≡ n = length-take-le n z long in
    let same : prefix_len is_ascii_hexdigit (take n z) ≡ n = omega (arith, prefix_len-le-length is_ascii_hexdigit (take n z)) in
    let small : value 16 (take n z) < 65536 = hex_small (take n z) (same ∙ sym whole) (omega arith) in
    let v_is : v ≡ value 16 (take n z) = omega arith in
    (omega arith, rw (v_is, same) (grind (arith, nat_tests)))

-- ---- strings

skip_string : (opened quote left : ℕ) (text : List ℕ) (n at : ℕ) (z : List ℕ) → string_from opened quote left text n at z ≡ string_from opened quote 0 text (n + left) (at + width (take left z)) (drop left z)
skip_string opened quote zero text n at z = simp add-zero refl
skip_string opened quote (suc left) text n at [] = refl
skip_string opened quote (suc left) text n at (c ∷ z) =
    let count : n + 1 + left ≡ n + suc left = omega arith in
    let place : at + len_utf8 c + width (take left z) ≡ at + width (c ∷ take left z) = omega (arith, sum_by-cons len_utf8 c (take left z)) in
    skip_string opened quote left text (n + 1) (at + len_utf8 c) z
    ∙ ap (λ m. string_from opened quote 0 text m (at + len_utf8 c + width (take left z)) (drop left z)) count
    ∙ ap (λ m. string_from opened quote 0 text (n + suc left) m (drop left z)) place

string_step : (opened quote : ℕ) (text : List ℕ) (n at c : ℕ) (z more : List ℕ) (len : ℕ) → (c == quote) ≡ false → is_line_end c ≡ false → (c == 92) ≡ true → escape at z ≡ Ok (more, len)
    → string_from opened quote 0 text n at (c ∷ z) ≡ string_from opened quote (len - 1) (text ++ more) (n + 1) (at + len_utf8 c) z
string_step opened quote text n at c z more len other same_line slash e = rw (other, same_line, slash, e) refl

-- an escape of a string, and its places
pub string_escape : (opened quote : ℕ) (text : List ℕ) (n at i : ℕ) (z more : List ℕ) (len w : ℕ) → i < length z → (get_or z i 0 == quote) ≡ false → is_line_end (get_or z i 0) ≡ false
    → (get_or z i 0 == 92) ≡ true → escape at (drop (i + 1) z) ≡ Ok (more, len) → 1 ≤ len → width (take i z) + w ≡ width (take (i + len) z)
    → string_from opened quote 0 text n at (drop i z) ≡ string_from opened quote 0 (text ++ more) (n + len) (at + w) (drop (i + len) z)
string_escape opened quote text n at i z more len w below other same_line slash e some wide =
    let c = get_or z i 0 in
    let past : i + 1 + (len - 1) ≡ i + len = omega arith in
    let count : n + 1 + (len - 1) ≡ n + len = omega arith in
    let place : at + len_utf8 c + width (take (len - 1) (drop (i + 1) z)) ≡ at + w = omega (arith, width_more (i + 1) (len - 1) z, sum_by_more len_utf8 z i 0 below, ap (λ k. width (take k z)) past) in
    at_drop_more (string_from opened quote 0 text n at) z i 0 below
    ∙ string_step opened quote text n at c (drop (i + 1) z) more len other same_line slash e
    ∙ skip_string opened quote (len - 1) (text ++ more) (n + 1) (at + len_utf8 c) (drop (i + 1) z)
    ∙ ap (λ m. string_from opened quote 0 (text ++ more) m (at + len_utf8 c + width (take (len - 1) (drop (i + 1) z))) (drop (len - 1) (drop (i + 1) z))) count
    ∙ ap (λ m. string_from opened quote 0 (text ++ more) (n + len) m (drop (len - 1) (drop (i + 1) z))) place
    ∙ ap (string_from opened quote 0 (text ++ more) (n + len) (at + w)) (drop-drop (len - 1) (i + 1) z ∙ ap (λ k. drop k z) past)

-- a character of a string that is no escape
pub string_char : (opened quote : ℕ) (text : List ℕ) (n at i : ℕ) (z : List ℕ) → i < length z → (get_or z i 0 == quote) ≡ false → is_line_end (get_or z i 0) ≡ false
    → (get_or z i 0 == 92) ≡ false → string_from opened quote 0 text n at (drop i z) ≡ string_from opened quote 0 (text ++ encode_utf16 (get_or z i 0)) (n + 1) (at + len_utf8 (get_or z i 0)) (drop (i + 1) z)
string_char opened quote text n at i z below other same_line slash = at_drop_more (string_from opened quote 0 text n at) z i 0 below ∙ rw (other, same_line, slash) refl

-- ---- answers that are the definition's

pub gives_same : {A : Type 0} (answer result : Result A ReadRefused) → result ≡ answer → Gives answer result
gives_same answer (Ok x) e = sym e
gives_same answer (Err r) e = λ _. sym e

-- a refusal that was passed on
pub gives_refused : {A : Type 0} (answer result : Result A ReadRefused) (e : ReadRefused) → IsErrAnd result (λ d. d ≡ e) → (e ≢ NoMemory → answer ≡ Err e) → Gives answer result
gives_refused answer (Ok x) e same refused = absurd same
gives_refused answer (Err d) e same refused = λ memory. refused (λ p. memory (same ∙ p)) ∙ ap Err (sym same)

pub ruleset scanning = (length_within_width, gives_same)
