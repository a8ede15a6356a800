-- The texts of tokens that every script is made of: words, marks and operators.
use Rattle.std.proofs.Common.{◌≡◌, ℕ, ◌<◌, Bool, true, false, not, ◌&&◌, ◌||◌, cond, List, [], ◌∷◌, ◌++◌, length, map, refl, ap, sym, subst, ◌∙◌, arith}
use Rattle.std.specs.Prelude.{◌==◌, nat_eq, nat_lt, slice_index, codes, Some, None}
use Rattle.std.specs.Char.{is_ascii_digit}
use Rattle.std.specs.Int.{is_in_range}
use Rattle.std.specs.List.{list_all}
use Rattle.std.specs.Str.{encode_utf8_all}
use Rattle.std.specs.Cmp.Lexicographic.{pointwise}
use Rattle.std.proofs.lemmas.Bool.{and_parts, and_from, not-true, lt-ltb, cond-false}
use Rattle.std.proofs.lemmas.Bool.Decides.{nat_tests}
use Rattle.unicode_ident.proofs.Computing.{unicode_ident}
use Rattle.unicode_ident.proofs.IdentLemmas.{is_xid_start-ascii, is_xid_continue-ascii}
use Rattle.js_value.specs.Texts.{quoted_unit}
use Rattle.js_tree.specs.Lexing.{is_name_start, is_name_part, is_proto, lookup, scan, scan_token, longest_punctuator, punctuator, is_white_space, is_line_end, token}
use Rattle.js_tree.specs.declared.token.TheConstants.{PUNCTUATORS}
use Rattle.js_tree.specs.declared.token.Punctuator.{Punctuator}
use Rattle.js_tree.specs.declared.token.Punctuator.TheVariants as mark
use Rattle.js_tree.specs.declared.token.TokenForm.TheVariants as form
use Rattle.script_text.specs.Tokens.{form_of, name_form, mark_or_else}
use Rattle.lexing_back.proofs.Ascii.{is_ascii_text, encoded, valid}
use Rattle.lexing_back.proofs.Characters.{Behind, Any, NoPart, NoDigit, NoOperator, is_operator}
use Rattle.lexing_back.proofs.Scanning.{Scans}
use Rattle.lexing_back.proofs.Marks.{Scans-operator, all_go_on}
use Rattle.lexing_back.proofs.Names.{is_name-ascii, Scans-name, lossy-ascii}
use Rattle.lexing_back.proofs.Strings.{Scans-string}

-- A text that is one token, by what may stand behind it.
pub record Known (text : List ℕ) (b : Behind) : Type 0 where
  pub scans : Scans text (form_of text) b
  pub encodes : encode_utf8_all text ≡ text

-- ---- words

abbrev pub is_letter : ℕ → Bool
is_letter c = is_in_range 97 122 c || c == 95

letter_ascii : (c : ℕ) → is_letter c ≡ true → c < 128
letter_ascii c h = grind (arith, nat_tests)

letter_start : (c : ℕ) → is_letter c ≡ true → is_name_start c ≡ true
unfolding is_name_start
letter_start c h = rw (is_xid_start-ascii c (letter_ascii c h)) (grind (arith, nat_tests))

letter_part : (c : ℕ) → is_letter c ≡ true → is_name_part c ≡ true
unfolding is_name_part
letter_part c h = rw (is_xid_continue-ascii c (letter_ascii c h)) (grind (arith, nat_tests))

abbrev pub are_letters : List ℕ → Bool
are_letters text = list_all is_letter text

letters_ascii : (text : List ℕ) → are_letters text ≡ true → is_ascii_text text ≡ true
letters_ascii [] h = refl
letters_ascii (c ∷ text) h =
    let p = and_parts (is_letter c) (are_letters text) h in
    and_from (nat_lt c 128) (is_ascii_text text) (lt-ltb c 128 (letter_ascii c p.0)) (letters_ascii text p.1)

letters_parts : (text : List ℕ) → are_letters text ≡ true → list_all is_name_part text ≡ true
letters_parts [] h = refl
letters_parts (c ∷ text) h =
    let p = and_parts (is_letter c) (are_letters text) h in
    and_from (is_name_part c) (list_all is_name_part text) (letter_part c p.0) (letters_parts text p.1)

-- the spelling of no punctuator begins with a letter
abbrev begins_apart : List ℕ → Bool
begins_apart [] = false
begins_apart (r ∷ row) = not (is_letter r)

letter_apart : (r c : ℕ) → not (is_letter r) ≡ true → is_letter c ≡ true → nat_eq r c ≡ false
letter_apart r c out letter = grind (arith, nat_tests)

apart_row : (row : List ℕ) (c : ℕ) (text : List ℕ) → begins_apart row ≡ true → is_letter c ≡ true → pointwise nat_eq row (c ∷ text) ≡ false
apart_row [] c text out letter = refl
apart_row (r ∷ row) c text out letter = ap (λ b. b && pointwise nat_eq row text) (letter_apart r c out letter)

no_mark : (rows : List (List ℕ × Punctuator)) (c : ℕ) (text : List ℕ) → list_all (λ (row : List ℕ × Punctuator). begins_apart row.0) rows ≡ true → is_letter c ≡ true → lookup rows (c ∷ text) ≡ None
no_mark [] c text all letter = refl
no_mark (row ∷ rows) c text all letter =
    let p = and_parts (begins_apart row.0) (list_all (λ (row : List ℕ × Punctuator). begins_apart row.0) rows) all in
    ap (λ b. cond b (Some row.1) (lookup rows (c ∷ text))) (apart_row row.0 c text p.0 letter) ∙ no_mark rows c text p.1 letter

letter_no_quote : (c : ℕ) → is_letter c ≡ true → (c == 34) ≡ false
letter_no_quote c h = grind (arith, nat_tests)

word_form : (c : ℕ) (text : List ℕ) → is_letter c ≡ true → form_of (c ∷ text) ≡ name_form (c ∷ text)
unfolding form_of
word_form c text letter =
    ap (mark_or_else (c ∷ text)) (no_mark (map (λ row. (row.0.now, row.1)) PUNCTUATORS) c text refl letter)
    ∙ cond-false (c == 34) _ (name_form (c ∷ text)) (letter_no_quote c letter)

-- a word of small letters and `_`
pub known-word : (c : ℕ) (text : List ℕ) → are_letters (c ∷ text) ≡ true → is_proto (c ∷ text) ≡ false → Known (c ∷ text) NoPart
known-word c text letters plain =
    let w = c ∷ text in
    let p = and_parts (is_letter c) (are_letters text) letters in
    let ascii = letters_ascii w letters in
    let is = is_name-ascii w ascii (letters_parts w letters) (omega arith) (letter_start c p.0) plain in
    record {
      scans = subst (λ f. Scans w f NoPart) (sym (word_form c text p.0)) (subst (λ cs. Scans cs (name_form w) NoPart) (lossy-ascii w ascii) (Scans-name w is));
      encodes = encoded w ascii;
    }

-- ---- strings without escapes

known_string : (us text : List ℕ) → Scans text (form.Str us) Any → form_of text ≡ form.Str us → is_ascii_text text ≡ true → Known text Any
known_string us text scans is ascii = record { scans = subst (λ f. Scans text f Any) (sym is) scans; encodes = encoded text ascii }

pub known-number : Known (codes "\"number\"") Any
unfolding quoted_unit form_of
known-number = known_string (codes "number") (codes "\"number\"") (Scans-string (codes "number") refl) refl refl

pub known-boolean : Known (codes "\"boolean\"") Any
unfolding quoted_unit form_of
known-boolean = known_string (codes "boolean") (codes "\"boolean\"") (Scans-string (codes "boolean") refl) refl refl

pub known-string : Known (codes "\"string\"") Any
unfolding quoted_unit form_of
known-string = known_string (codes "string") (codes "\"string\"") (Scans-string (codes "string") refl) refl refl

pub known-strict : Known (codes "\"use strict\"") Any
unfolding quoted_unit form_of
known-strict = known_string (codes "use strict") (codes "\"use strict\"") (Scans-string (codes "use strict") refl) refl refl

-- ---- marks that nothing makes longer

known_mark : (c : ℕ) (p : Punctuator) → is_ascii_text (c ∷ []) ≡ true → form_of (c ∷ []) ≡ form.Punctuator p → Scans (c ∷ []) (form.Punctuator p) Any → Known (c ∷ []) Any
known_mark c p ascii is scans = record { scans = subst (λ f. Scans (c ∷ []) f Any) (sym is) scans; encodes = encoded (c ∷ []) ascii }

pub known-left_parenthesis : Known (codes "(") Any
unfolding form_of scan scan_token is_name_start longest_punctuator unicode_ident
known-left_parenthesis = known_mark 40 mark.LeftParenthesis refl refl (record { some = omega arith; valid = refl; scans = λ at z out. refl })

pub known-right_parenthesis : Known (codes ")") Any
unfolding form_of scan scan_token is_name_start longest_punctuator unicode_ident
known-right_parenthesis = known_mark 41 mark.RightParenthesis refl refl (record { some = omega arith; valid = refl; scans = λ at z out. refl })

pub known-left_bracket : Known (codes "[") Any
unfolding form_of scan scan_token is_name_start longest_punctuator unicode_ident
known-left_bracket = known_mark 91 mark.LeftBracket refl refl (record { some = omega arith; valid = refl; scans = λ at z out. refl })

pub known-right_bracket : Known (codes "]") Any
unfolding form_of scan scan_token is_name_start longest_punctuator unicode_ident
known-right_bracket = known_mark 93 mark.RightBracket refl refl (record { some = omega arith; valid = refl; scans = λ at z out. refl })

pub known-left_brace : Known (codes "{") Any
unfolding form_of scan scan_token is_name_start longest_punctuator unicode_ident
known-left_brace = known_mark 123 mark.LeftBrace refl refl (record { some = omega arith; valid = refl; scans = λ at z out. refl })

pub known-right_brace : Known (codes "}") Any
unfolding form_of scan scan_token is_name_start longest_punctuator unicode_ident
known-right_brace = known_mark 125 mark.RightBrace refl refl (record { some = omega arith; valid = refl; scans = λ at z out. refl })

pub known-semicolon : Known (codes ";") Any
unfolding form_of scan scan_token is_name_start longest_punctuator unicode_ident
known-semicolon = known_mark 59 mark.Semicolon refl refl (record { some = omega arith; valid = refl; scans = λ at z out. refl })

pub known-comma : Known (codes ",") Any
unfolding form_of scan scan_token is_name_start longest_punctuator unicode_ident
known-comma = known_mark 44 mark.Comma refl refl (record { some = omega arith; valid = refl; scans = λ at z out. refl })

pub known-colon : Known (codes ":") Any
unfolding form_of scan scan_token is_name_start longest_punctuator unicode_ident
known-colon = known_mark 58 mark.Colon refl refl (record { some = omega arith; valid = refl; scans = λ at z out. refl })

pub known-question : Known (codes "?") Any
unfolding form_of scan scan_token is_name_start longest_punctuator unicode_ident
known-question = known_mark 63 mark.Question refl refl (record { some = omega arith; valid = refl; scans = λ at z out. refl })

-- a point before what is no digit
point-front : (at : ℕ) (z : List ℕ) → is_ascii_digit (slice_index z 0) ≡ false → scan at (46 ∷ z) ≡ token (form.Punctuator mark.Dot) 1
unfolding scan scan_token is_name_start longest_punctuator unicode_ident
point-front at z out = rw out refl

pub known-point : Known (codes ".") NoDigit
unfolding form_of
known-point = record {
  scans = record { some = omega arith; valid = refl; scans = λ at z out. point-front at z (not-true (is_ascii_digit (slice_index z 0)) out) };
  encodes = encoded (codes ".") refl;
}

-- ---- operators

-- a character that begins an operator, but for `/`
abbrev pub is_sign : ℕ → Bool
is_sign c = (is_operator c || c == 33 || c == 37 || c == 94 || c == 126) && not (c == 47)

-- what is asked of a character before punctuators
record IsSign (c : ℕ) : Type 0 where
  space : is_white_space c ≡ false
  line : is_line_end c ≡ false
  slash : (c == 47) ≡ false
  start : is_name_start c ≡ false
  digit : is_ascii_digit c ≡ false
  point : (c == 46) ≡ false
  quote : (c == 34 || c == 39) ≡ false
  backslash : (c == 92) ≡ false

sign_ascii : (c : ℕ) → is_sign c ≡ true → c < 128
sign_ascii c h = grind (arith, nat_tests)

sign_no_start : (c : ℕ) → is_sign c ≡ true → is_name_start c ≡ false
unfolding is_name_start
sign_no_start c h = rw (is_xid_start-ascii c (sign_ascii c h)) (grind (arith, nat_tests))

sign : (c : ℕ) → is_sign c ≡ true → IsSign c
sign c h = record {
  space = grind (arith, nat_tests);
  line = grind (arith, nat_tests);
  slash = grind (arith, nat_tests);
  start = sign_no_start c h;
  digit = grind (arith, nat_tests);
  point = grind (arith, nat_tests);
  quote = grind (arith, nat_tests);
  backslash = grind (arith, nat_tests);
}

sign-front : (at c : ℕ) (z : List ℕ) → IsSign c → scan at (c ∷ z) ≡ punctuator at (longest_punctuator (c ∷ z))
unfolding scan scan_token
sign-front at c z is = rw (is.space, is.line, is.slash, is.start, is.digit, is.point, is.quote, is.backslash) refl

known_operator : (text : List ℕ) (p : Punctuator) → Scans text (form.Punctuator p) NoOperator → form_of text ≡ form.Punctuator p → is_ascii_text text ≡ true → Known text NoOperator
known_operator text p scans is ascii = record { scans = subst (λ f. Scans text f NoOperator) (sym is) scans; encodes = encoded text ascii }

pub known-sign : (c : ℕ) (more : List ℕ) (p : Punctuator) → is_sign c ≡ true → is_ascii_text (c ∷ more) ≡ true → all_go_on (c ∷ more) ≡ true → longest_punctuator (c ∷ more) ≡ (Some p, length (c ∷ more))
    → form_of (c ∷ more) ≡ form.Punctuator p → Known (c ∷ more) NoOperator
known-sign c more p is ascii on longest f =
    let some : 0 < length (c ∷ more) = omega arith in
    known_operator (c ∷ more) p (Scans-operator (c ∷ more) p some (valid (c ∷ more) ascii) on longest (λ at z out. sign-front at c (more ++ z) (sign c is))) f ascii

-- `/` where no comment begins
slash-front : (at : ℕ) (z : List ℕ) → is_operator (slice_index z 0) ≡ false → scan at (47 ∷ z) ≡ punctuator at (longest_punctuator (47 ∷ z))
unfolding scan scan_token is_name_start unicode_ident
slash-front at z out =
    let c = slice_index z 0 in
    let slash : (c == 47) ≡ false = grind (arith, nat_tests) in
    let star : (c == 42) ≡ false = grind (arith, nat_tests) in
    rw (slash, star) refl

pub known-slash : Known (codes "/") NoOperator
unfolding form_of longest_punctuator
known-slash = known_operator (codes "/") mark.Slash (Scans-operator (codes "/") mark.Slash (omega arith) refl refl refl slash-front) refl refl

slash_assign-front : (at : ℕ) (z : List ℕ) → scan at (47 ∷ 61 ∷ z) ≡ punctuator at (longest_punctuator (47 ∷ 61 ∷ z))
unfolding scan scan_token is_name_start unicode_ident
slash_assign-front at z = refl

pub known-slash_assign : Known (codes "/=") NoOperator
unfolding form_of longest_punctuator
known-slash_assign = known_operator (codes "/=") mark.SlashAssign (Scans-operator (codes "/=") mark.SlashAssign (omega arith) refl refl refl (λ at z out. slash_assign-front at z)) refl refl
