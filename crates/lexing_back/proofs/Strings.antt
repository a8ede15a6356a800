-- String literals (7.8.4).
use Rattle.std.proofs.Common.{◌≡◌, ℕ, ◌+◌, ◌*◌, ◌/◌, ◌%◌, ◌<◌, true, false, not, ◌&&◌, cond, List, [], ◌∷◌, ◌++◌, length, refl, ap, sym, subst, ◌∙◌, arith, inl, inr, append_assoc, append-nil, length-append}
use Rattle.std.specs.Prelude.{nat_lt, nat_le, ◌==◌, Some, None, Ok}
use Rattle.std.specs.Char.{is_ascii_hexdigit, digit_value, len_utf8}
use Rattle.std.specs.Char.Escape.{encode_utf16}
use Rattle.std.specs.List.{list_all, prefix_len, flat_map}
use Rattle.std.proofs.lemmas.Bool.{and_parts, not-true, cases_Bool, eqb-true, ltb-true}
use Rattle.std.proofs.lemmas.Bool.Decides.{nat_tests}
use Rattle.js_value.specs.Texts.{hex_digit, four_hex_digits, quoted_unit, quoted}
use Rattle.js_tree.specs.Refusals.{unsupported}
use Rattle.js_tree.specs.declared.refusal.Feature.TheVariants as feature
use Rattle.js_tree.specs.declared.token.TokenForm.TheVariants as form
use Rattle.js_tree.specs.declared.token.InputElement.TheVariants as element
use Rattle.unicode_ident.proofs.Computing.{unicode_ident}
use Rattle.js_tree.specs.Lexing.{Scan, is_line_end, is_name_start, is_proto, escape, escaped, hex_unit, hex_escape, value, string_from, word, token, scan_token, scan}
use Rattle.js_grammar.specs.ReadableWords.{is_readable_text}
use Rattle.lexing_back.proofs.Ascii.{is_ascii_text, valid, ascii-append}
use Rattle.lexing_back.proofs.Characters.{Any}
use Rattle.lexing_back.proofs.Scanning.{Scans}
use Rattle.lexing_back.proofs.Names.{small}

-- ---- hexadecimal digits

record Digit (n : ℕ) : Type 0 where
  is : is_ascii_hexdigit (hex_digit n) ≡ true
  back : digit_value (hex_digit n) ≡ n
  ascii : nat_lt (hex_digit n) 128 ≡ true

digit : (n : ℕ) → n < 16 → Digit n
digit n low = record { is = grind (arith, nat_tests); back = grind (arith, nat_tests); ascii = grind (arith, nat_tests) }

hex_unit-digits : (a b c d : ℕ) (z : List ℕ) → Digit a → Digit b → Digit c → Digit d
    → hex_unit 4 (hex_digit a ∷ hex_digit b ∷ hex_digit c ∷ hex_digit d ∷ z) ≡ Some (16 * (16 * (16 * (16 * 0 + a) + b) + c) + d)
hex_unit-digits a b c d z ha hb hc hd =
    let ds = hex_digit a ∷ hex_digit b ∷ hex_digit c ∷ hex_digit d ∷ [] in
    let four : prefix_len is_ascii_hexdigit ds ≡ 4 = rw (ha.is, hb.is, hc.is, hd.is) refl in
    ap (λ n. cond (n == 4) (Some (value 16 ds)) None) four
    ∙ ap (λ n. Some (16 * (16 * (16 * (16 * 0 + n) + digit_value (hex_digit b)) + digit_value (hex_digit c)) + digit_value (hex_digit d))) ha.back
    ∙ ap (λ n. Some (16 * (16 * (16 * (16 * 0 + a) + n) + digit_value (hex_digit c)) + digit_value (hex_digit d))) hb.back
    ∙ ap (λ n. Some (16 * (16 * (16 * (16 * 0 + a) + b) + n) + digit_value (hex_digit d))) hc.back
    ∙ ap (λ n. Some (16 * (16 * (16 * (16 * 0 + a) + b) + c) + n)) hd.back

hex_unit-unit : (u : ℕ) (z : List ℕ) → u < 65536 → hex_unit 4 (four_hex_digits u ++ z) ≡ Some u
hex_unit-unit u z low =
    let same : 16 * (16 * (16 * (16 * 0 + u / 4096) + u / 256 % 16) + u / 16 % 16) + u % 16 ≡ u = omega arith in
    hex_unit-digits (u / 4096) (u / 256 % 16) (u / 16 % 16) (u % 16) z (digit (u / 4096) (omega arith)) (digit (u / 256 % 16) (omega arith)) (digit (u / 16 % 16) (omega arith)) (digit (u % 16) (omega arith))
    ∙ ap Some same

-- ---- the units of a literal, one after another

module _ (opened : ℕ) where
  -- the rest of a string, wherever it lies
  abbrev Ends : List ℕ → ℕ → List ℕ → Scan → Type 0
  Ends text n z r = (at : ℕ) → string_from opened 34 0 text n at z ≡ r

  after_two : (text z : List ℕ) (n : ℕ) (r : Scan) → Ends text (n + 2) z r → (at : ℕ) → string_from opened 34 0 text (n + 1 + 1) at z ≡ r
  after_two text z n r ends at = let e : n + 1 + 1 ≡ n + 2 = omega arith in ap (λ m. string_from opened 34 0 text m at z) e ∙ ends at

  after_six : (text z : List ℕ) (n : ℕ) (r : Scan) → Ends text (n + 6) z r → (at : ℕ) → string_from opened 34 0 text (n + 1 + 1 + 1 + 1 + 1 + 1) at z ≡ r
  after_six text z n r ends at = let e : n + 1 + 1 + 1 + 1 + 1 + 1 ≡ n + 6 = omega arith in ap (λ m. string_from opened 34 0 text m at z) e ∙ ends at

  quote_unit : (text z : List ℕ) (n : ℕ) (r : Scan) → Ends (text ++ 34 ∷ []) (n + 2) z r → Ends text n (92 ∷ 34 ∷ z) r
  unfolding escape
  quote_unit text z n r ends at = after_two (text ++ 34 ∷ []) z n r ends (at + 1 + 1)

  backslash_unit : (text z : List ℕ) (n : ℕ) (r : Scan) → Ends (text ++ 92 ∷ []) (n + 2) z r → Ends text n (92 ∷ 92 ∷ z) r
  unfolding escape
  backslash_unit text z n r ends at = after_two (text ++ 92 ∷ []) z n r ends (at + 1 + 1)

  plain_unit : (u : ℕ) (text z : List ℕ) (n : ℕ) (r : Scan) → (u == 34) ≡ false → (u == 92) ≡ false → (nat_le 32 u && nat_le u 126) ≡ true → Ends (text ++ u ∷ []) (n + 1) z r → Ends text n (u ∷ z) r
  plain_unit u text z n r quote slash shown ends at =
      let line : is_line_end u ≡ false = grind (arith, nat_tests) in
      let unit : encode_utf16 u ≡ u ∷ [] = grind (arith, nat_tests) in
      rw (quote, line, slash, unit) (ends (at + len_utf8 u))

  hex_step : (u : ℕ) (text z : List ℕ) (n : ℕ) (r : Scan) → u < 65536 → Ends (text ++ u ∷ []) (n + 6) z r → Ends text n (92 ∷ 117 ∷ (four_hex_digits u ++ z)) r
  unfolding escape
  hex_step u text z n r low ends at =
      let digits = four_hex_digits u ++ z in
      ap (λ o. escaped (hex_escape at 6 o) (λ more left. string_from opened 34 left (text ++ more) (n + 1) (at + len_utf8 92) (117 ∷ digits))) (hex_unit-unit u z low)
      ∙ after_six (text ++ u ∷ []) z n r ends _

  unit : (u : ℕ) (text z : List ℕ) (n : ℕ) (r : Scan) → small u ≡ true → Ends (text ++ u ∷ []) (n + length (quoted_unit u)) z r → Ends text n (quoted_unit u ++ z) r
  unfolding quoted_unit
  unit u text z n r low = elim (cases_Bool (u == 34)) [
    | inl quote ↦ subst (λ v. Ends (text ++ v ∷ []) (n + length (quoted_unit v)) z r → Ends text n (quoted_unit v ++ z) r) (sym (eqb-true u 34 quote)) (quote_unit text z n r)
    | inr no_quote ↦ elim (cases_Bool (u == 92)) [
      | inl slash ↦ subst (λ v. Ends (text ++ v ∷ []) (n + length (quoted_unit v)) z r → Ends text n (quoted_unit v ++ z) r) (sym (eqb-true u 92 slash)) (backslash_unit text z n r)
      | inr no_slash ↦ elim (cases_Bool (nat_le 32 u && nat_le u 126)) [
        | inl shown ↦
            let is : quoted_unit u ≡ u ∷ [] = rw (no_quote, no_slash, shown) refl in
            subst (λ q. Ends (text ++ u ∷ []) (n + length q) z r → Ends text n (q ++ z) r) (sym is) (plain_unit u text z n r no_quote no_slash shown)
        | inr hidden ↦
            let is : quoted_unit u ≡ 92 ∷ 117 ∷ four_hex_digits u = rw (no_quote, no_slash, hidden) refl in
            subst (λ q. Ends (text ++ u ∷ []) (n + length q) z r → Ends text n (q ++ z) r) (sym is) (hex_step u text z n r (ltb-true u 65536 low))
      ]
    ]
  ]

  -- the units and the quote behind them
  all_units : (us text z : List ℕ) (n : ℕ) (r : Scan) → list_all small us ≡ true → word opened (n + length (flat_map quoted_unit us) + 1) (text ++ us) (form.Str (text ++ us)) ≡ r
      → Ends text n (flat_map quoted_unit us ++ 34 ∷ z) r
  all_units [] text z n r low is at =
      let e : n + 1 ≡ n + 0 + 1 = omega arith in
      ap (λ t. word opened (n + 1) t (form.Str t)) (sym (append-nil text)) ∙ ap (λ m. word opened m (text ++ []) (form.Str (text ++ []))) e ∙ is
  all_units (u ∷ us) text z n r low is at =
      let p = and_parts (small u) (list_all small us) low in
      let more = flat_map quoted_unit us in
      let long : n + length (quoted_unit u) + length more + 1 ≡ n + length (quoted_unit u ++ more) + 1 = omega (arith, length-append (quoted_unit u) more) in
      ap (string_from opened 34 0 text n at) (append_assoc (quoted_unit u) more (34 ∷ z))
      ∙ unit u text (more ++ 34 ∷ z) n r p.0
      (all_units us (text ++ u ∷ []) z (n + length (quoted_unit u)) r p.1
      (ap (λ t. word opened (n + length (quoted_unit u) + length more + 1) t (form.Str t)) (append_assoc text (u ∷ []) us) ∙ ap (λ m. word opened m (text ++ u ∷ us) (form.Str (text ++ u ∷ us))) long ∙ is))
      at

-- ---- literals are ASCII

unit-ascii : (u : ℕ) → small u ≡ true → is_ascii_text (quoted_unit u) ≡ true
unfolding quoted_unit
unit-ascii u low = elim (cases_Bool (u == 34)) [
  | inl quote ↦ subst (λ v. is_ascii_text (quoted_unit v) ≡ true) (sym (eqb-true u 34 quote)) refl
  | inr no_quote ↦ elim (cases_Bool (u == 92)) [
    | inl slash ↦ subst (λ v. is_ascii_text (quoted_unit v) ≡ true) (sym (eqb-true u 92 slash)) refl
    | inr no_slash ↦ elim (cases_Bool (nat_le 32 u && nat_le u 126)) [
      | inl shown ↦
          let one : nat_lt u 128 ≡ true = grind (arith, nat_tests) in
          rw (no_quote, no_slash, shown, one) refl
      | inr hidden ↦
          let small_u : u < 65536 = ltb-true u 65536 low in
          let a = (digit (u / 4096) (omega arith)).ascii in
          let b = (digit (u / 256 % 16) (omega arith)).ascii in
          let c = (digit (u / 16 % 16) (omega arith)).ascii in
          let d = (digit (u % 16) (omega arith)).ascii in
          rw (no_quote, no_slash, hidden, a, b, c, d) refl
    ]
  ]
]

units-ascii : (us : List ℕ) → list_all small us ≡ true → is_ascii_text (flat_map quoted_unit us) ≡ true
units-ascii [] low = refl
units-ascii (u ∷ us) low =
    let p = and_parts (small u) (list_all small us) low in
    ascii-append (quoted_unit u) (flat_map quoted_unit us) (unit-ascii u p.0) (units-ascii us p.1)

pub quoted-ascii : (us : List ℕ) → list_all small us ≡ true → is_ascii_text (quoted us) ≡ true
quoted-ascii us low = ascii-append (34 ∷ flat_map quoted_unit us) (34 ∷ []) (units-ascii us low) refl

-- ---- a string at the front of a text

scan-string : (at : ℕ) (z : List ℕ) → scan at (34 ∷ z) ≡ string_from at 34 0 [] 1 (at + 1) z
unfolding scan scan_token is_name_start unicode_ident
scan-string at z = refl

string-front : (at : ℕ) (us z : List ℕ) → list_all small us ≡ true → is_proto us ≡ false → scan at (quoted us ++ z) ≡ Ok (element.Token (form.Str us), length (quoted us))
string-front at us z low plain =
    let inside = flat_map quoted_unit us in
    let long : 1 + length inside + 1 ≡ length (quoted us) = omega (arith, length-append (34 ∷ inside) (34 ∷ [])) in
    ap (λ t. scan at (34 ∷ t)) (append_assoc inside (34 ∷ []) z)
    ∙ scan-string at (inside ++ 34 ∷ z)
    ∙ all_units at us [] z 1 (Ok (element.Token (form.Str us), length (quoted us))) low
    (ap (λ b. cond b (unsupported at feature.ProtoName) (token (form.Str us) (1 + length inside + 1))) plain ∙ ap (λ n. token (form.Str us) n) long)
    (at + 1)

-- the literal of a text is its token, whatever stands behind it
pub Scans-string : (us : List ℕ) → is_readable_text us ≡ true → Scans (quoted us) (form.Str us) Any
Scans-string us is =
    let p = and_parts (list_all small us) (not (is_proto us)) is in
    record {
      some = omega (arith, length-append (34 ∷ flat_map quoted_unit us) (34 ∷ []));
      valid = valid (quoted us) (quoted-ascii us p.0);
      scans = λ at z out. string-front at us z p.0 (not-true (is_proto us) p.1);
    }
