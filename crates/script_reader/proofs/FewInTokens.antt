-- The tokens of a text are not longer than the text, where `var` counts three.
use Rattle.std.proofs.Common.{◌≡◌, ℕ, zero, suc, ◌+◌, ◌-◌, ◌≤◌, Bool, true, false, cond, List, [], ◌∷◌, ◌++◌, length, map, take, drop, refl, ap, sym, ◌∙◌, subst, arith, ⊎_elim, inl, inr}
use Rattle.std.specs.Prelude.{Option, Some, None, Result, Ok, Err, ◌⊎◌, not, ◌&&◌, ◌||◌, ◌==◌, nat_eq, nat_lt, slice_index}
use Rattle.std.specs.Char.{is_ascii_digit, len_utf8}
use Rattle.std.specs.Char.Escape.{encode_utf16}
use Rattle.std.specs.List.{list_all, prefix_len}
use Rattle.std.specs.Str.{bytes_eq}
use Rattle.std.proofs.lemmas.Bool.{and_parts, both_ways, cases_Bool}
use Rattle.std.proofs.lemmas.Bool.Decides.{nat_tests}
use Rattle.std.proofs.lemmas.List.{length-take}
use Rattle.std.proofs.lemmas.List.Sums.{prefix_len-le-length}
use Rattle.std.proofs.lemmas.Slice.Eq.{bytes_eq-Decides}
use Rattle.js_tree.specs.declared.refusal.ReadRefused.{ReadRefused}
use Rattle.js_tree.specs.declared.token.InputElement.{InputElement}
use Rattle.js_tree.specs.declared.token.InputElement.TheVariants as element
use Rattle.js_tree.specs.declared.token.Keyword.{Keyword}
use Rattle.js_tree.specs.declared.token.Keyword.TheVariants as keyword
use Rattle.js_tree.specs.declared.token.Punctuator.{Punctuator}
use Rattle.js_tree.specs.declared.token.TheConstants.{KEYWORDS}
use Rattle.js_tree.specs.declared.token.TokenForm.{TokenForm}
use Rattle.js_tree.specs.declared.token.TokenForm.TheVariants as form
use Rattle.js_tree.specs.declared.token.Token.{Token}
use Rattle.js_tree.specs.Lexing.{is_name_start, is_name_part, is_white_space, is_line_end, Scan, token, block_comment, greatest, begins_exponent, begins_hexadecimal, units, is_proto, word, lookup, reserved_word, name_or_reserved, name, longest_punctuator, punctuator, whole, number, escape, escaped, string_from, scan_token, scan, Lexed, with_front, kept, line_after, going_on, lex_from}
use Rattle.script_reader.proofs.Claims.{token_weight, weight}

-- a token weighs one, or not more than it takes of the text
abbrev TokenFits : List ℕ → InputElement → ℕ → Type 0
TokenFits z (element.Token f) n = (token_weight f ≤ 1) ⊎ ((token_weight f ≤ n) × (n ≤ length z))
TokenFits z element.WhiteSpace n = Unit {0}
TokenFits z element.LineEnd n = Unit {0}

abbrev FitsIn : List ℕ → Scan → Type 0
FitsIn z (Ok t) = TokenFits z t.0 t.1
FitsIn z (Err e) = Unit {0}

record Fits (z : List ℕ) (r : Scan) : Type 0 where
  fits : FitsIn z r

refused : {z : List ℕ} {e : ReadRefused} → Fits z (Err e)
refused = record { fits = tt }

light : {z : List ℕ} {f : TokenForm} {n : ℕ} → token_weight f ≤ 1 → Fits z (token f n)
light h = record { fits = inl h }

fits_if : {z : List ℕ} {r q : Scan} (b : Bool) → Fits z r → Fits z q → Fits z (cond b r q)
fits_if true h k = h
fits_if false h k = k

word_fits : (z : List ℕ) (at n : ℕ) (text : List ℕ) (f : TokenForm) → token_weight f ≤ 1 → Fits z (word at n text f)
word_fits z at n text f h = fits_if (is_proto text) refused (light h)

-- ---- reserved words

abbrev is_var : Keyword → Bool
is_var keyword.Var = true
is_var _ = false

light_word : (k : Keyword) → is_var k ≡ false → token_weight (form.Reserved k) ≤ 1
light_word keyword.Var h = absurd (both_ways true h refl)
light_word _ h = omega arith

three : (k : Keyword) → token_weight (form.Reserved k) ≤ 3
three keyword.Var = omega arith
three _ = omega arith

abbrev is_three : List ℕ × Keyword → Bool
is_three row = not (is_var row.1) || nat_eq (length row.0) 3

three_long : (v : Bool) (n : ℕ) → v ≡ true → (not v || nat_eq n 3) ≡ true → n ≡ 3
three_long true n h is = grind (arith, nat_tests)
three_long false n h is = absurd (both_ways false refl h)

in_row : (rows : List (List ℕ × Keyword)) (row : List ℕ × Keyword) (text : List ℕ) (k : Keyword) (b : Bool) → bytes_eq row.0 text ≡ b → is_three row ≡ true
    → (lookup rows text ≡ Some k → length text ≡ 3) → cond b (Some row.1) (lookup rows text) ≡ Some k → is_var k ≡ true → length text ≡ 3
in_row rows row text k true same three more found var =
    let word : row.1 ≡ k = cc in
    let long = three_long (is_var row.1) (length row.0) (ap is_var word ∙ var) three in
    ap length (sym ((bytes_eq-Decides row.0 text).0 same)) ∙ long
in_row rows row text k false same three more found var = more found

in_table : (rows : List (List ℕ × Keyword)) (text : List ℕ) (k : Keyword) → list_all is_three rows ≡ true → lookup rows text ≡ Some k → is_var k ≡ true → length text ≡ 3
in_table [] text k checked found var = absurd (no_word k found)
  where
    no_word : (k : Keyword) → None ≡ Some k → ⊥
    no_word k found = cc
in_table (row ∷ rows) text k checked found var =
    let parts = and_parts (is_three row) (list_all is_three rows) checked in
    in_row rows row text k (bytes_eq row.0 text) refl parts.0 (λ more. in_table rows text k parts.1 more var) found var

named : (z : List ℕ) (at n : ℕ) (o : Option Keyword) → n ≤ length z → reserved_word (take n z) ≡ o → Fits z (name_or_reserved at n (take n z) o)
unfolding reserved_word
named z at n None within is = word_fits z at n (units (take n z)) (form.Name (units (take n z))) (omega arith)
named z at n (Some k) within is =
    ⊎_elim
    (λ var. let long = in_table (map (λ row. (row.0.now, row.1)) KEYWORDS) (take n z) k refl is var in record { fits = inr (omega (arith, three k, long, length-take n z, within), within) })
    (λ other. light (light_word k other))
    (cases_Bool (is_var k))

name_fits : (z : List ℕ) (at : ℕ) → Fits z (name at z)
name_fits z at = named z at (prefix_len is_name_part z) (reserved_word (take (prefix_len is_name_part z) z)) (prefix_len-le-length is_name_part z) refl

-- ---- other tokens

punctuator_fits : (z : List ℕ) (at : ℕ) (p : Option Punctuator × ℕ) → Fits z (punctuator at p)
punctuator_fits z at (None, n) = refused
punctuator_fits z at (Some p, n) = light (omega arith)

whole_fits : (z : List ℕ) (at n v : ℕ) → Fits z (whole at n v z)
whole_fits z at n v = fits_if (nat_lt greatest v) refused (fits_if (is_name_part (slice_index z n)) refused (light (omega arith)))

number_fits : (z : List ℕ) (at : ℕ) → Fits z (number at z)
unfolding number
number_fits z at =
    fits_if (begins_hexadecimal z) (whole_fits z at _ _)
    (fits_if (slice_index z 0 == 48 && is_ascii_digit (slice_index z 1)) refused (fits_if (slice_index z (prefix_len is_ascii_digit z) == 46 || begins_exponent (drop (prefix_len is_ascii_digit z) z)) refused (whole_fits z at _ _)))

escaped_fits : (z : List ℕ) (r : Result (List ℕ × ℕ) ReadRefused) (rest : List ℕ → ℕ → Scan) → ((more : List ℕ) (left : ℕ) → Fits z (rest more left)) → Fits z (escaped r rest)
escaped_fits z (Ok e) rest h = h e.0 (e.1 - 1)
escaped_fits z (Err e) rest h = refused

string_fits : (all : List ℕ) (z : List ℕ) (opened quote left : ℕ) (text : List ℕ) (n at : ℕ) → Fits all (string_from opened quote left text n at z)
string_fits all [] opened quote left text n at = refused
string_fits all (c ∷ z) opened quote (suc left) text n at = string_fits all z opened quote left text (n + 1) (at + len_utf8 c)
string_fits all (c ∷ z) opened quote zero text n at =
    fits_if (c == quote) (word_fits all opened (n + 1) text (form.Str text) (omega arith)) (fits_if (is_line_end c) refused
    (fits_if (c == 92) (escaped_fits all (escape at z) _ (λ more left. string_fits all z opened quote left (text ++ more) (n + 1) (at + len_utf8 c)))
    (string_fits all z opened quote zero (text ++ encode_utf16 c) (n + 1) (at + len_utf8 c))))

line_fits : (all : List ℕ) (b : Bool) (n : ℕ) → TokenFits all (cond b element.LineEnd element.WhiteSpace) n
line_fits all true n = tt
line_fits all false n = tt

comment_fits : (all : List ℕ) (z : List ℕ) (at : ℕ) (line : Bool) (n : ℕ) → Fits all (block_comment at line n z)
comment_fits all [] at line n = refused
comment_fits all (c ∷ z) at line n = fits_if (c == 42 && slice_index z 0 == 47) (record { fits = line_fits all line (n + 2) }) (comment_fits all z at (line || is_line_end c) (n + 1))

token_fits : (z : List ℕ) (at : ℕ) → Fits z (scan_token at z)
unfolding scan_token
token_fits z at =
    let c : ℕ = slice_index z 0 in
    fits_if (is_name_start c) (name_fits z at) (fits_if (is_ascii_digit c) (number_fits z at) (fits_if (c == 46 && is_ascii_digit (slice_index z 1)) refused
    (fits_if (c == 34 || c == 39) (string_fits z (drop 1 z) at c 0 [] 1 (at + 1)) (fits_if (c == 92) refused (punctuator_fits z at (longest_punctuator z))))))

scan_fits : (z : List ℕ) (at : ℕ) → Fits z (scan at z)
unfolding scan
scan_fits z at =
    let c : ℕ = slice_index z 0 in
    fits_if (is_white_space c) (record { fits = tt }) (fits_if (is_line_end c) (record { fits = tt }) (fits_if (c == 47 && slice_index z 1 == 47) (record { fits = tt })
    (fits_if (c == 47 && slice_index z 1 == 42) (comment_fits z (drop 2 z) at false 2) (token_fits z at))))

-- ---- all tokens

abbrev LexFits : ℕ → Lexed → Type 0
LexFits n (Ok ts) = weight ts ≤ n
LexFits n (Err e) = Unit {0}

front_fits : (z : List ℕ) (at end : ℕ) (line : Bool) (x : InputElement) (n : ℕ) (q : Lexed) → TokenFits z x n → LexFits (length z - 1 - (n - 1)) q → 1 ≤ length z → LexFits (length z) (with_front (kept at end line x) q)
front_fits z at end line x n (Err e) fits more some = tt
front_fits z at end line element.WhiteSpace n (Ok ts) fits more some = omega (arith, more)
front_fits z at end line element.LineEnd n (Ok ts) fits more some = omega (arith, more)
front_fits z at end line (element.Token f) n (Ok ts) (inl light) more some = omega (arith, light, more, some)
front_fits z at end line (element.Token f) n (Ok ts) (inr heavy) more some = omega (arith, heavy.0, heavy.1, more, some)

going_fits : (z : List ℕ) (at : ℕ) (line : Bool) (r : Scan) (rest : Bool → ℕ → Lexed) → FitsIn z r → ((line : Bool) (left : ℕ) → LexFits (length z - 1 - left) (rest line left)) → 1 ≤ length z
    → LexFits (length z) (going_on at line z r rest)
going_fits z at line (Err e) rest fits more some = tt
going_fits z at line (Ok t) rest fits more some = front_fits z at _ line t.0 t.1 (rest (line_after line t.0) (t.1 - 1)) fits (more (line_after line t.0) (t.1 - 1)) some

lex_fits : (z : List ℕ) (at : ℕ) (line : Bool) (left : ℕ) → LexFits (length z - left) (lex_from at line left z)
lex_fits [] at line left = omega arith
lex_fits (c ∷ z) at line (suc left) =
    let e : length z - left ≡ length (c ∷ z) - suc left = omega arith in
    subst (λ n. LexFits n (lex_from (at + len_utf8 c) line left z)) e (lex_fits z (at + len_utf8 c) line left)
lex_fits (c ∷ z) at line zero =
    let one : length z ≡ length (c ∷ z) - 1 = omega arith in
    let all : length (c ∷ z) ≡ length (c ∷ z) - 0 = omega arith in
    subst (λ n. LexFits n (lex_from at line 0 (c ∷ z))) all
    (going_fits (c ∷ z) at line (scan at (c ∷ z)) _ (scan_fits (c ∷ z) at).fits (λ line left. subst (λ n. LexFits (n - left) (lex_from (at + len_utf8 c) line left z)) one (lex_fits z (at + len_utf8 c) line left)) (omega arith))

pub tokens_fit : (z : List ℕ) (ts : List Token) → lex_from 0 false 0 z ≡ Ok ts → weight ts ≤ length z
tokens_fit z ts is =
    let all : length z - 0 ≡ length z = omega arith in
    subst (λ n. weight ts ≤ n) all (subst (λ r. LexFits (length z - 0) r) is (lex_fits z 0 false 0))
