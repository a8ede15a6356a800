-- Identifier names and reserved words (7.6), by their units.
use Rattle.std.proofs.Common.{◌≡◌, ℕ, ◌+◌, ◌-◌, ◌/◌, ◌%◌, ◌<◌, ◌≤◌, Bool, true, false, not, ◌&&◌, cond, List, [], ◌∷◌, ◌++◌, length, take, map, refl, ap, sym, subst, ◌∙◌, arith, inl, inr}
use Rattle.std.specs.Prelude.{nat_lt, nat_le, slice_index, Option, Some, None, Ok, unwrap_or}
use Rattle.std.specs.Char.Escape.{encode_utf16}
use Rattle.std.specs.Char.Utf16.{utf16_chars, utf16_lossy_chars, lone_unit_char, surrogate_pair_char, is_high_surrogate, is_low_surrogate}
use Rattle.std.specs.List.{list_all}
use Rattle.std.specs.Str.{all_scalars, bytes_eq}
use Rattle.std.proofs.lemmas.Bool.{and_parts, and_from, not-true, cases_Bool, both_ways, ltb-true, leb-true, le-ltb, cond-true, cond-false}
use Rattle.std.proofs.lemmas.Bool.Decides.{nat_tests, same_from_decides}
use Rattle.std.proofs.lemmas.List.{take_at}
use Rattle.std.proofs.lemmas.Slice.Eq.{bytes_eq-Decides}
use Rattle.js_tree.specs.Lexing.{is_name_start, is_name_part, is_proto, units, lookup, reserved_word, name_or_reserved, name, word, token, scan_token, scan}
use Rattle.js_tree.specs.Refusals.{unsupported}
use Rattle.js_tree.specs.declared.refusal.Feature.TheVariants as feature
use Rattle.js_tree.specs.declared.token.TheConstants.{KEYWORDS}
use Rattle.js_tree.specs.declared.token.Keyword.{Keyword}
use Rattle.js_tree.specs.declared.token.TokenForm.TheVariants as form
use Rattle.js_tree.specs.declared.token.InputElement.TheVariants as element
use Rattle.js_grammar.specs.ReadableWords.{passes, begins_name, are_name_characters, is_readable_text, is_identifier_name}
use Rattle.script_text.specs.Tokens.{reserved_or_name, name_form}
use Rattle.lexing_back.proofs.Ascii.{is_ascii_text, valid}
use Rattle.lexing_back.proofs.Characters.{NoPart, start_no_space, start_no_line_end, start_no_slash}
use Rattle.lexing_back.proofs.Scanning.{Scans, prefix_len-front}

-- ---- units and characters

abbrev pub small : ℕ → Bool
small u = nat_lt u 65536

-- A unit that is a character by itself, and a part of a name.
record Alone (u : ℕ) : Type 0 where
  is : lone_unit_char u ≡ Some u
  part : is_name_part u ≡ true
  valid : all_scalars (u ∷ []) ≡ true
  unit : encode_utf16 u ≡ u ∷ []

alone : (u : ℕ) → small u ≡ true → passes is_name_part (lone_unit_char u) ≡ true → Alone u
alone u low part = elim (cases_Bool (nat_le 0xD800 u && nat_lt u 0xE000)) [
  | inl surrogate ↦
      let none : lone_unit_char u ≡ None = ap (λ b. cond b None (Some u)) surrogate in
      absurd (both_ways (passes is_name_part (lone_unit_char u)) (ap (passes is_name_part) none) part)
  | inr no_surrogate ↦
      let is : lone_unit_char u ≡ Some u = ap (λ b. cond b None (Some u)) no_surrogate in
      record { is = is; part = ap (passes is_name_part) (sym is) ∙ part; valid = grind (arith, nat_tests); unit = grind (arith, nat_tests) }
]

-- two units that are a character
record Pair (u v : ℕ) : Type 0 where
  valid : all_scalars (surrogate_pair_char u v ∷ []) ≡ true
  units : encode_utf16 (surrogate_pair_char u v) ≡ u ∷ v ∷ []

pair : (u v : ℕ) → (is_high_surrogate u && is_low_surrogate v) ≡ true → Pair u v
pair u v is =
    let parts = and_parts (is_high_surrogate u) (is_low_surrogate v) is in
    let high = and_parts (nat_le 0xD800 u) (nat_lt u 0xDC00) parts.0 in
    let low = and_parts (nat_le 0xDC00 v) (nat_lt v 0xE000) parts.1 in
    let h1 : 0xD800 ≤ u = leb-true _ _ high.0 in
    let h2 : u < 0xDC00 = ltb-true _ _ high.1 in
    let l1 : 0xDC00 ≤ v = leb-true _ _ low.0 in
    let l2 : v < 0xE000 = ltb-true _ _ low.1 in
    let c = surrogate_pair_char u v in
    let far : nat_lt c 0x1_0000 ≡ false = le-ltb c 0x1_0000 (omega arith) in
    let first : 0xD800 + (c - 0x1_0000) / 0x400 ≡ u = omega arith in
    let second : 0xDC00 + (c - 0x1_0000) % 0x400 ≡ v = omega arith in
    record {
      valid = grind (arith, nat_tests);
      units = cond-false _ _ _ far ∙ ap (λ x. x ∷ (0xDC00 + (c - 0x1_0000) % 0x400) ∷ []) first ∙ ap (λ y. u ∷ y ∷ []) second;
    }

-- The characters of an identifier name are those that its units spell, and its units are theirs.
pub record Spelled (us cs : List ℕ) : Type 0 where
  pub back : units cs ≡ us
  pub valid : all_scalars cs ≡ true
  pub parts : list_all is_name_part cs ≡ true

spelled-alone : (u : ℕ) (us : List ℕ) → Alone u → Spelled us (utf16_lossy_chars us) → Spelled (u ∷ us) (u ∷ utf16_lossy_chars us)
spelled-alone u us one more = record {
  back = ap (λ xs. xs ++ units (utf16_lossy_chars us)) one.unit ∙ ap (λ xs. u ∷ xs) more.back;
  valid = and_from _ (all_scalars (utf16_lossy_chars us)) (and_parts _ true one.valid).0 more.valid;
  parts = and_from (is_name_part u) (list_all is_name_part (utf16_lossy_chars us)) one.part more.parts;
}

pub spelled : (us : List ℕ) → list_all small us ≡ true → list_all (passes is_name_part) (utf16_chars us) ≡ true → Spelled us (utf16_lossy_chars us)
unfolding utf16_chars
spelled [] low parts = record { back = refl; valid = refl; parts = refl }
spelled (u ∷ []) low parts =
    let l = and_parts (small u) true low in
    let p = and_parts (passes is_name_part (lone_unit_char u)) true parts in
    let one = alone u l.0 p.0 in
    subst (λ o. Spelled (u ∷ []) (map (λ c. unwrap_or c 0xFFFD) (o ∷ []))) (sym one.is) (spelled-alone u [] one (spelled [] refl refl))
spelled (u ∷ v ∷ us) low parts =
    let l = and_parts (small u) (list_all small (v ∷ us)) low in
    let m = and_parts (small v) (list_all small us) l.1 in
    elim (cases_Bool (is_high_surrogate u && is_low_surrogate v)) [
      | inl two ↦
          let is : utf16_chars (u ∷ v ∷ us) ≡ Some (surrogate_pair_char u v) ∷ utf16_chars us = cond-true _ _ _ two in
          let p = and_parts (is_name_part (surrogate_pair_char u v)) (list_all (passes is_name_part) (utf16_chars us)) (ap (list_all (passes is_name_part)) (sym is) ∙ parts) in
          let both = pair u v two in
          let more = spelled us m.1 p.1 in
          subst (λ os. Spelled (u ∷ v ∷ us) (map (λ c. unwrap_or c 0xFFFD) os)) (sym is) (record {
            back = ap (λ xs. xs ++ units (utf16_lossy_chars us)) both.units ∙ ap (λ xs. u ∷ v ∷ xs) more.back;
            valid = and_from _ (all_scalars (utf16_lossy_chars us)) (and_parts _ true both.valid).0 more.valid;
            parts = and_from (is_name_part (surrogate_pair_char u v)) (list_all is_name_part (utf16_lossy_chars us)) p.0 more.parts;
          })
      | inr apart ↦
          let is : utf16_chars (u ∷ v ∷ us) ≡ lone_unit_char u ∷ utf16_chars (v ∷ us) = cond-false _ _ _ apart in
          let p = and_parts (passes is_name_part (lone_unit_char u)) (list_all (passes is_name_part) (utf16_chars (v ∷ us))) (ap (list_all (passes is_name_part)) (sym is) ∙ parts) in
          let one = alone u l.0 p.0 in
          let more = spelled (v ∷ us) l.1 p.1 in
          subst (λ os. Spelled (u ∷ v ∷ us) (map (λ c. unwrap_or c 0xFFFD) os)) (sym is) (subst (λ o. Spelled (u ∷ v ∷ us) (map (λ c. unwrap_or c 0xFFFD) (o ∷ utf16_chars (v ∷ us)))) (sym one.is) (spelled-alone u (v ∷ us) one more))
    ]

-- ---- words of a table, by characters and by units

pub units-ascii : (text : List ℕ) → is_ascii_text text ≡ true → units text ≡ text
units-ascii [] h = refl
units-ascii (c ∷ text) h =
    let p = and_parts (nat_lt c 128) (is_ascii_text text) h in
    let one : encode_utf16 c ≡ c ∷ [] = grind (arith, nat_tests) in
    ap (λ u. u ++ units text) one ∙ ap (λ us. c ∷ us) (units-ascii text p.1)

pub lossy-ascii : (text : List ℕ) → is_ascii_text text ≡ true → utf16_lossy_chars text ≡ text
unfolding utf16_chars
lossy-ascii [] h = refl
lossy-ascii (c ∷ []) h =
    let p = and_parts (nat_lt c 128) true h in
    let one : lone_unit_char c ≡ Some c = grind (arith, nat_tests) in
    ap (λ o. unwrap_or o 0xFFFD ∷ []) one
lossy-ascii (c ∷ d ∷ text) h =
    let p = and_parts (nat_lt c 128) (is_ascii_text (d ∷ text)) h in
    let one : lone_unit_char c ≡ Some c = grind (arith, nat_tests) in
    let apart : (is_high_surrogate c && is_low_surrogate d) ≡ false = grind (arith, nat_tests) in
    ap (λ b. map (λ o. unwrap_or o 0xFFFD) (cond b (Some (surrogate_pair_char c d) ∷ utf16_chars text) (lone_unit_char c ∷ utf16_chars (d ∷ text)))) apart
    ∙ ap (λ o. unwrap_or o 0xFFFD ∷ utf16_lossy_chars (d ∷ text)) one
    ∙ ap (λ cs. c ∷ cs) (lossy-ascii (d ∷ text) p.1)

same_test : (row us : List ℕ) → is_ascii_text row ≡ true → units (utf16_lossy_chars us) ≡ us → bytes_eq row (utf16_lossy_chars us) ≡ bytes_eq row us
same_test row us ascii back =
    let cs = utf16_lossy_chars us in
    let by_chars = bytes_eq-Decides row cs in
    same_from_decides {P = row ≡ us} (bytes_eq row cs) (bytes_eq row us)
    (λ e. sym (units-ascii row ascii) ∙ ap units (by_chars.0 e) ∙ back, λ e. by_chars.1 (sym (lossy-ascii row ascii) ∙ ap utf16_lossy_chars e))
    (bytes_eq-Decides row us)

same_lookup : (rows : List (List ℕ × Keyword)) (us : List ℕ) → list_all (λ (row : List ℕ × Keyword). is_ascii_text row.0) rows ≡ true → units (utf16_lossy_chars us) ≡ us
    → lookup rows (utf16_lossy_chars us) ≡ lookup rows us
same_lookup [] us ascii back = refl
same_lookup (row ∷ rows) us ascii back =
    let p = and_parts (is_ascii_text row.0) (list_all (λ (row : List ℕ × Keyword). is_ascii_text row.0) rows) ascii in
    ap (λ b. cond b (Some row.1) (lookup rows (utf16_lossy_chars us))) (same_test row.0 us p.0 back)
    ∙ ap (λ o. cond (bytes_eq row.0 us) (Some row.1) o) (same_lookup rows us p.1 back)

same_word : (us : List ℕ) → units (utf16_lossy_chars us) ≡ us → reserved_word (utf16_lossy_chars us) ≡ reserved_word us
unfolding reserved_word
same_word us back = same_lookup (map (λ row. (row.0.now, row.1)) KEYWORDS) us refl back

-- ---- a name at the front of a text

name-is : (at n : ℕ) (us text : List ℕ) (o : Option Keyword) → units text ≡ us → is_proto us ≡ false → name_or_reserved at n text o ≡ Ok (element.Token (reserved_or_name us o), n)
name-is at n us text (Some k) back plain = refl
name-is at n us text None back plain = ap (λ u. word at n u (form.Name u)) back ∙ ap (λ b. cond b (unsupported at feature.ProtoName) (token (form.Name us) n)) plain

name-front : (at : ℕ) (us z : List ℕ) → Spelled us (utf16_lossy_chars us) → is_proto us ≡ false → is_name_part (slice_index z 0) ≡ false
    → name at (utf16_lossy_chars us ++ z) ≡ Ok (element.Token (name_form us), length (utf16_lossy_chars us))
name-front at us z is plain stops =
    let cs = utf16_lossy_chars us in
    ap (λ n. name_or_reserved at n (take n (cs ++ z)) (reserved_word (take n (cs ++ z)))) (prefix_len-front is_name_part cs z is.parts stops)
    ∙ ap (λ t. name_or_reserved at (length cs) t (reserved_word t)) (take_at cs z (length cs) refl)
    ∙ ap (name_or_reserved at (length cs) cs) (same_word us is.back)
    ∙ name-is at (length cs) us cs (reserved_word us) is.back plain

scan-name : (at c : ℕ) (z : List ℕ) → is_name_start c ≡ true → scan at (c ∷ z) ≡ name at (c ∷ z)
unfolding scan scan_token
scan-name at c z start = rw (start_no_space c start, start_no_line_end c start, start_no_slash c start, start) refl

-- what begins a name
first-starts : (os : List (Option ℕ)) → begins_name os ≡ true → (0 < length (map (λ o. unwrap_or o 0xFFFD) os)) × (is_name_start (slice_index (map (λ o. unwrap_or o 0xFFFD) os) 0) ≡ true)
first-starts [] begins = absurd (both_ways false refl begins)
first-starts (None ∷ os) begins = absurd (both_ways false refl begins)
first-starts (Some c ∷ os) begins = (omega arith, begins)

scan-at : (at : ℕ) (cs z : List ℕ) → 0 < length cs → is_name_start (slice_index cs 0) ≡ true → scan at (cs ++ z) ≡ name at (cs ++ z)
scan-at at [] z some start = absurd (omega arith)
scan-at at (c ∷ cs) z some start = scan-name at c (cs ++ z) start

-- What is known of an identifier name.
pub record IsName (us : List ℕ) : Type 0 where
  pub spelled : Spelled us (utf16_lossy_chars us)
  pub plain : is_proto us ≡ false
  pub some : 0 < length (utf16_lossy_chars us)
  pub starts : is_name_start (slice_index (utf16_lossy_chars us) 0) ≡ true

pub is_name : (us : List ℕ) → is_identifier_name us ≡ true → IsName us
is_name us is =
    let p = and_parts (is_readable_text us) (are_name_characters (utf16_chars us)) is in
    let text = and_parts (list_all small us) (not (is_proto us)) p.0 in
    let chars = and_parts (begins_name (utf16_chars us)) (list_all (passes is_name_part) (utf16_chars us)) p.1 in
    let first = first-starts (utf16_chars us) chars.0 in
    record { spelled = spelled us text.0 chars.1; plain = not-true (is_proto us) text.1; some = first.0; starts = first.1 }

-- an identifier name is its token where nothing goes on with it
pub Scans-name : (us : List ℕ) → IsName us → Scans (utf16_lossy_chars us) (name_form us) NoPart
Scans-name us is = record {
  some = is.some;
  valid = is.spelled.valid;
  scans = λ at z out. scan-at at (utf16_lossy_chars us) z is.some is.starts ∙ name-front at us z is.spelled is.plain (not-true (is_name_part (slice_index z 0)) out);
}

-- a name of ASCII
pub is_name-ascii : (us : List ℕ) → is_ascii_text us ≡ true → list_all is_name_part us ≡ true → 0 < length us → is_name_start (slice_index us 0) ≡ true → is_proto us ≡ false → IsName us
is_name-ascii us ascii parts some starts plain =
    let same : us ≡ utf16_lossy_chars us = sym (lossy-ascii us ascii) in
    let spelled : Spelled us us = record { back = units-ascii us ascii; valid = valid us ascii; parts = parts } in
    record {
      spelled = subst (λ cs. Spelled us cs) same spelled;
      plain = plain;
      some = subst (λ (cs : List ℕ). 0 < length cs) same some;
      starts = subst (λ cs. is_name_start (slice_index cs 0) ≡ true) same starts;
    }
