-- Whole numbers in decimal (7.8.3).
use Rattle.std.proofs.Common.{◌≡◌, ℕ, zero, suc, pos, ◌+◌, ◌*◌, ◌<◌, ◌≤◌, ◌^◌, Bool, true, false, not, ◌&&◌, ◌||◌, cond, List, [], ◌∷◌, ◌++◌, length, take, drop, refl, ap, ◌∙◌, arith, fold}
use Rattle.std.specs.Prelude.{nat_lt, ◌==◌, slice_index, Ok}
use Rattle.std.specs.Char.{is_ascii_digit, is_ascii_hexdigit, digit_value}
use Rattle.std.specs.Fmt.{decimal}
use Rattle.std.specs.List.{list_all}
use Rattle.std.specs.Str.Parse.{digits_value, digits_value_after, AllDigits}
use Rattle.std.proofs.lemmas.Bool.{and_parts, and_from, not-true, or_parts, le-ltb, lt-ltb}
use Rattle.std.proofs.lemmas.Bool.Decides.{nat_tests}
use Rattle.std.proofs.lemmas.Fmt.{decimal_is_IsNumeral, decimal_digit, first_decimal}
use Rattle.std.proofs.lemmas.List.{take_at}
use Rattle.std.proofs.lemmas.Str.Parse.{digit_from_value}
use Rattle.js_value.specs.Numbers.{greatest_magnitude}
use Rattle.js_tree.specs.Refusals.{unsupported, syntax}
use Rattle.js_tree.specs.declared.refusal.Feature.TheVariants as feature
use Rattle.js_tree.specs.declared.token.TokenForm.TheVariants as form
use Rattle.js_tree.specs.declared.token.InputElement.TheVariants as element
use Rattle.js_tree.specs.Lexing.{is_name_part, value, begins_hexadecimal, begins_exponent, decimal as decimal_at, whole, number, token, scan_token, scan}
use Rattle.lexing_back.proofs.Ascii.{is_ascii_text, valid}
use Rattle.lexing_back.proofs.Characters.{NoPoint, digit_ascii, digit_no_space, digit_no_line_end, digit_no_slash, digit_no_start, no_part-no_letter, no_part-no_digit}
use Rattle.lexing_back.proofs.Scanning.{Scans, prefix_len-front, slice_index-behind}
use Rattle.unicode_ident.proofs.Computing.{unicode_ident}

-- ---- the decimal text of a number

-- the digits of a number of the profile
pub record IsLiteral (n : ℕ) (ds : List ℕ) : Type 0 where
  pub some : 0 < length ds
  pub all : list_all is_ascii_digit ds ≡ true
  pub spells : digits_value 10 ds ≡ n
  pub plain : (slice_index ds 0 == 48 && nat_lt 1 (length ds)) ≡ false
  pub small : nat_lt greatest_magnitude n ≡ false

all_digits : (ds : List ℕ) → AllDigits 10 ds → list_all is_ascii_digit ds ≡ true
all_digits [] all = refl
all_digits (c ∷ ds) all =
    let r = digit_from_value c all.0 in
    let one : is_ascii_digit c ≡ true = grind (arith, nat_tests) in
    and_from (is_ascii_digit c) (list_all is_ascii_digit ds) one (all_digits ds all.1)

no_leading_zero : (n : ℕ) → n < 2 ^ 64 → (slice_index (decimal n) 0 == 48 && nat_lt 1 (length (decimal n))) ≡ false
no_leading_zero zero small = ap (λ ds. slice_index ds 0 == 48 && nat_lt 1 (length ds)) (decimal_digit 0 (omega arith))
no_leading_zero (suc n) small =
    let first : 48 < slice_index (decimal (suc n)) 0 = first_decimal (suc n) (omega arith) small in
    let other : (slice_index (decimal (suc n)) 0 == 48) ≡ false = grind (arith, nat_tests) in
    ap (λ b. b && nat_lt 1 (length (decimal (suc n)))) other

pub IsLiteral-decimal : (n : ℕ) → n ≤ greatest_magnitude → IsLiteral n (decimal n)
IsLiteral-decimal n small =
    let low : n < 2 ^ 64 = omega arith in
    let is = decimal_is_IsNumeral n low in
    record { some = is.0.0; all = all_digits (decimal n) is.0.1; spells = is.1; plain = no_leading_zero n low; small = le-ltb greatest_magnitude n small }

-- ---- a number at the front of a text

value_same : (ds : List ℕ) (n : ℕ) → fold (λ m c. 10 * m + digit_value c) n ds ≡ digits_value_after 10 n ds
value_same [] n = refl
value_same (c ∷ ds) n =
    let e : 10 * n + digit_value c ≡ n * 10 + digit_value c = omega arith in
    ap (λ m. fold (λ k d. 10 * k + digit_value d) m ds) e ∙ value_same ds (n * 10 + digit_value c)

-- the first character goes on with no number
record Stops (rest : List ℕ) : Type 0 where
  part : is_name_part (slice_index rest 0) ≡ false
  digit : is_ascii_digit (slice_index rest 0) ≡ false
  point : (slice_index rest 0 == 46) ≡ false
  exponent : (slice_index rest 0 == 101 || slice_index rest 0 == 69) ≡ false
  hexadecimal : (slice_index rest 0 == 120 || slice_index rest 0 == 88) ≡ false

stops : (rest : List ℕ) → not (is_name_part (slice_index rest 0) || slice_index rest 0 == 46) ≡ true → Stops rest
unfolding is_name_part unicode_ident
stops rest h =
    let c = slice_index rest 0 in
    let parts = or_parts (is_name_part c) (c == 46) (not-true (is_name_part c || c == 46) h) in
    record {
      part = parts.0;
      digit = no_part-no_digit c parts.0;
      point = parts.1;
      exponent = rw (no_part-no_letter 101 c refl parts.0, no_part-no_letter 69 c refl parts.0) refl;
      hexadecimal = rw (no_part-no_letter 120 c refl parts.0, no_part-no_letter 88 c refl parts.0) refl;
    }

digit_no_x : (c : ℕ) → is_ascii_digit c ≡ true → (c == 120 || c == 88) ≡ false
digit_no_x c h = grind (arith, nat_tests)

no_hexadecimal : (a b d : Bool) → b ≡ false → (a && b && d) ≡ false
no_hexadecimal true b d h = rw h refl
no_hexadecimal false b d h = refl

no_octal : (a b : Bool) → b ≡ false → (a && b) ≡ false
no_octal true b h = h
no_octal false b h = refl

no_first : (a b c : Bool) → b ≡ true → (a && b) ≡ false → (a && c) ≡ false
no_first true b c h other = cc
no_first false b c h other = refl

drop_front : (xs rest : List ℕ) → drop (length xs) (xs ++ rest) ≡ rest
drop_front [] rest = refl
drop_front (x ∷ xs) rest = drop_front xs rest

-- it begins neither a hexadecimal nor an octal number
record IsDecimal (z : List ℕ) : Type 0 where
  hexadecimal : begins_hexadecimal z ≡ false
  octal : (slice_index z 0 == 48 && is_ascii_digit (slice_index z 1)) ≡ false

is_decimal : (n : ℕ) (ds rest : List ℕ) → IsLiteral n ds → Stops rest → IsDecimal (ds ++ rest)
is_decimal n [] rest is stops = absurd (omega arith)
is_decimal n (d ∷ []) rest is stops = record {
  hexadecimal = no_hexadecimal (d == 48) (slice_index rest 0 == 120 || slice_index rest 0 == 88) (is_ascii_hexdigit (slice_index rest 1)) stops.hexadecimal;
  octal = no_octal (d == 48) (is_ascii_digit (slice_index rest 0)) stops.digit;
}
is_decimal n (d ∷ (c ∷ ds)) rest is stops =
    let digits = and_parts (is_ascii_digit d) (list_all is_ascii_digit (c ∷ ds)) is.all in
    let second = (and_parts (is_ascii_digit c) (list_all is_ascii_digit ds) digits.1).0 in
    record {
      hexadecimal = no_hexadecimal (d == 48) (c == 120 || c == 88) (is_ascii_hexdigit (slice_index (ds ++ rest) 0)) (digit_no_x c second);
      octal = no_first (d == 48) (nat_lt 1 (length (d ∷ (c ∷ ds)))) (is_ascii_digit c) (grind (arith, nat_tests)) is.plain;
    }

decimal-front : (at n : ℕ) (ds rest : List ℕ) → IsLiteral n ds → Stops rest → decimal_at at (length ds) (ds ++ rest) ≡ Ok (element.Token (form.Number (pos n)), length ds)
decimal-front at n ds rest is stops =
    let z = ds ++ rest in
    let ends = slice_index-behind ds rest in
    let point : (slice_index z (length ds) == 46) ≡ false = ap (λ c. c == 46) ends ∙ stops.point in
    let behind : begins_exponent (drop (length ds) z) ≡ false =
    ap begins_exponent (drop_front ds rest) ∙ ap (λ b. b && (is_ascii_digit (slice_index rest 1) || (slice_index rest 1 == 43 || slice_index rest 1 == 45) && is_ascii_digit (slice_index rest 2))) stops.exponent in
    let spelled : value 10 (take (length ds) z) ≡ n = ap (value 10) (take_at ds rest (length ds) refl) ∙ value_same ds 0 ∙ is.spells in
    ap (λ b. cond (b || begins_exponent (drop (length ds) z)) (unsupported at feature.NumberLiteral) (whole at (length ds) (value 10 (take (length ds) z)) z)) point
    ∙ ap (λ b. cond b (unsupported at feature.NumberLiteral) (whole at (length ds) (value 10 (take (length ds) z)) z)) behind
    ∙ ap (λ m. whole at (length ds) m z) spelled
    ∙ ap (λ b. cond b (unsupported at feature.NumberLiteral) (cond (is_name_part (slice_index z (length ds))) (syntax (at + length ds)) (token (form.Number (pos n)) (length ds)))) is.small
    ∙ ap (λ b. cond b (syntax (at + length ds)) (token (form.Number (pos n)) (length ds))) (ap is_name_part ends ∙ stops.part)

number-front : (at n : ℕ) (ds rest : List ℕ) → IsLiteral n ds → Stops rest → number at (ds ++ rest) ≡ Ok (element.Token (form.Number (pos n)), length ds)
unfolding number
number-front at n ds rest is stops =
    let plain = is_decimal n ds rest is stops in
    rw (plain.hexadecimal, plain.octal, prefix_len-front is_ascii_digit ds rest is.all stops.digit) (decimal-front at n ds rest is stops)

scan-number : (at c : ℕ) (z : List ℕ) → is_ascii_digit c ≡ true → scan at (c ∷ z) ≡ number at (c ∷ z)
unfolding scan scan_token
scan-number at c z digit = rw (digit_no_space c digit, digit_no_line_end c digit, digit_no_slash c digit, digit_no_start c digit, digit) refl

scan-literal : (at n : ℕ) (ds rest : List ℕ) → IsLiteral n ds → Stops rest → scan at (ds ++ rest) ≡ Ok (element.Token (form.Number (pos n)), length ds)
scan-literal at n [] rest is stops = absurd (omega arith)
scan-literal at n (c ∷ ds) rest is stops =
    let digit = (and_parts (is_ascii_digit c) (list_all is_ascii_digit ds) is.all).0 in
    scan-number at c (ds ++ rest) digit ∙ number-front at n (c ∷ ds) rest is stops

digits_ascii : (ds : List ℕ) → list_all is_ascii_digit ds ≡ true → is_ascii_text ds ≡ true
digits_ascii [] h = refl
digits_ascii (d ∷ ds) h =
    let p = and_parts (is_ascii_digit d) (list_all is_ascii_digit ds) h in
    and_from (nat_lt d 128) (is_ascii_text ds) (lt-ltb d 128 (digit_ascii d p.0)) (digits_ascii ds p.1)

pub decimal-ascii : (n : ℕ) → n ≤ greatest_magnitude → is_ascii_text (decimal n) ≡ true
decimal-ascii n small = digits_ascii (decimal n) (IsLiteral-decimal n small).all

-- a number of the profile is its token where neither a name nor a point goes on with it
pub Scans-number : (n : ℕ) → n ≤ greatest_magnitude → Scans (decimal n) (form.Number (pos n)) NoPoint
Scans-number n small =
    let is = IsLiteral-decimal n small in
    record { some = is.some; valid = valid (decimal n) (decimal-ascii n small); scans = λ at z out. scan-literal at n (decimal n) z is (stops z out) }
