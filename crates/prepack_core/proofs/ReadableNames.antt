-- Simple names are identifiers.
use Rattle.std.proofs.Common.{◌≡◌, ℕ, ◌<◌, true, false, cond, List, [], ◌∷◌, map, take, drop, refl, ap, sym, ◌∙◌, ⊎_elim, arith}
use Rattle.std.specs.Prelude.{codes, not, ◌&&◌, Some, None, nat_lt}
use Rattle.std.specs.Char.Utf16.{utf16_chars, is_high_surrogate, is_low_surrogate, lone_unit_char, surrogate_pair_char}
use Rattle.std.specs.List.{list_all, list_any}
use Rattle.std.specs.Str.{bytes_eq}
use Rattle.std.proofs.lemmas.Bool.{and_parts, and_from, or_parts, not-true, cases_Bool, both_ways}
use Rattle.std.proofs.lemmas.Bool.Decides.{nat_tests}
use Rattle.std.proofs.lemmas.List.Folds.{list_any-append}
use Rattle.std.proofs.lemmas.Slice.Eq.{bytes_eq-Decides}
use Rattle.unicode_ident.proofs.IdentLemmas.{is_xid_start-ascii, is_xid_continue-ascii}
use Rattle.js_tree.specs.Lexing.{is_name_start, is_name_part, is_proto, lookup, reserved_word}
use Rattle.js_tree.specs.declared.token.Keyword.{Keyword}
use Rattle.js_tree.specs.declared.token.TheConstants.{KEYWORDS}
use Rattle.js_grammar.specs.Marks.{barred, form_name}
use Rattle.js_grammar.specs.ReadableWords.{passes, begins_name, are_name_characters, is_readable_text, is_identifier_name, is_identifier}
use Rattle.simple_scripts.specs.SimpleNames as simple
use Rattle.simple_scripts.specs.SimpleNames.{is_taken, is_simple_name}
use Rattle.simple_scripts.specs.declared.taken.TheConstants.{TAKEN_WORDS}

-- ---- characters

below : (c : ℕ) → nat_lt c 128 ≡ true → c < 128
below c h = grind (arith, nat_tests)

part_ascii : (c : ℕ) → simple.is_name_part c ≡ true → nat_lt c 128 ≡ true
part_ascii c h = grind (arith, nat_tests)

start_part : (c : ℕ) → simple.is_name_start c ≡ true → nat_lt c 128 ≡ true
start_part c h = grind (arith, nat_tests)

start_is : (c : ℕ) → simple.is_name_start c ≡ true → is_name_start c ≡ true
unfolding is_name_start
start_is c start = rw (is_xid_start-ascii c (below c (start_part c start))) start

part_is : (c : ℕ) → simple.is_name_part c ≡ true → is_name_part c ≡ true
unfolding is_name_part
part_is c part = rw (is_xid_continue-ascii c (below c (part_ascii c part))) (grind (arith, nat_tests))

unit_is : (c : ℕ) → nat_lt c 128 ≡ true → nat_lt c 65536 ≡ true
unit_is c h = grind (arith, nat_tests)

alone : (c : ℕ) → nat_lt c 128 ≡ true → lone_unit_char c ≡ Some c
alone c h = grind (arith, nat_tests)

apart : (c d : ℕ) → nat_lt c 128 ≡ true → (is_high_surrogate c && is_low_surrogate d) ≡ false
apart c d h = grind (arith, nat_tests)

units_are : (name : List ℕ) → list_all simple.is_name_part name ≡ true → list_all (λ u. nat_lt u 65536) name ≡ true
units_are [] h = refl
units_are (c ∷ name) h =
    let p = and_parts (simple.is_name_part c) (list_all simple.is_name_part name) h in
    and_from (nat_lt c 65536) (list_all (λ u. nat_lt u 65536) name) (unit_is c (part_ascii c p.0)) (units_are name p.1)

parts_are : (name : List ℕ) → list_all simple.is_name_part name ≡ true → list_all (passes is_name_part) (utf16_chars name) ≡ true
unfolding utf16_chars
parts_are [] h = refl
parts_are (c ∷ []) h =
    let p = and_parts (simple.is_name_part c) true h in
    ap (λ o. passes is_name_part o && true) (alone c (part_ascii c p.0)) ∙ ap (λ b. b && true) (part_is c p.0)
parts_are (c ∷ d ∷ name) h =
    let p = and_parts (simple.is_name_part c) (list_all simple.is_name_part (d ∷ name)) h in
    let small = part_ascii c p.0 in
    ap (λ b. list_all (passes is_name_part) (cond b (Some (surrogate_pair_char c d) ∷ utf16_chars name) (lone_unit_char c ∷ utf16_chars (d ∷ name)))) (apart c d small)
    ∙ ap (λ o. passes is_name_part o && list_all (passes is_name_part) (utf16_chars (d ∷ name))) (alone c small)
    ∙ and_from (is_name_part c) (list_all (passes is_name_part) (utf16_chars (d ∷ name))) (part_is c p.0) (parts_are (d ∷ name) p.1)

begins_is : (c : ℕ) (name : List ℕ) → simple.is_name_start c ≡ true → begins_name (utf16_chars (c ∷ name)) ≡ true
unfolding utf16_chars
begins_is c [] start = ap (passes is_name_start) (alone c (start_part c start)) ∙ start_is c start
begins_is c (d ∷ name) start =
    let small = start_part c start in
    ap (λ b. begins_name (cond b (Some (surrogate_pair_char c d) ∷ utf16_chars name) (lone_unit_char c ∷ utf16_chars (d ∷ name)))) (apart c d small)
    ∙ ap (passes is_name_start) (alone c small)
    ∙ start_is c start

-- ---- words that are taken

-- a table without a word has nothing for it
lookup_none : (rows : List (List ℕ × Keyword)) (word : List ℕ) → list_any (λ row. bytes_eq row.0 word) rows ≡ false → lookup rows word ≡ None
lookup_none [] word h = refl
lookup_none (row ∷ rows) word h =
    let p = or_parts (bytes_eq row.0 word) (list_any (λ row. bytes_eq row.0 word) rows) h in
    ap (λ b. cond b (Some row.1) (lookup rows word)) p.0 ∙ lookup_none rows word p.1

not_reserved : (word : List ℕ) → is_taken word ≡ false → reserved_word word ≡ None
unfolding reserved_word
not_reserved word free =
    let p = λ (taken : _). bytes_eq taken.now word in
    lookup_none (map (λ row. (row.0.now, row.1)) KEYWORDS) word
    (or_parts (list_any p (take 36 TAKEN_WORDS)) (list_any p (drop 36 TAKEN_WORDS)) (sym (list_any-append p (take 36 TAKEN_WORDS) (drop 36 TAKEN_WORDS)) ∙ free)).0

-- a word that is free is none of those that are taken
other : (name word : List ℕ) → is_taken name ≡ false → is_taken word ≡ true → bytes_eq name word ≡ false
other name word free taken =
    ⊎_elim
    (λ same. absurd (both_ways (is_taken name) free (ap is_taken ((bytes_eq-Decides name word).0 same) ∙ taken)))
    (λ o. o)
    (cases_Bool (bytes_eq name word))

not_barred : (name : List ℕ) → is_taken name ≡ false → barred name ≡ None
not_barred name free = rw (other name (codes "eval") free refl, other name (codes "arguments") free refl) refl

not_form : (name : List ℕ) → is_taken name ≡ false → form_name name ≡ None
not_form name free = rw (other name (codes "__abstract") free refl, other name (codes "__residual") free refl) refl

not_proto : (name : List ℕ) → is_taken name ≡ false → is_proto name ≡ false
not_proto name free = other name (codes "__proto__") free refl

-- ---- names

pub identifier : (name : List ℕ) → is_simple_name name ≡ true → is_identifier name ≡ true
unfolding is_simple_name
identifier [] is = absurd (both_ways false refl is)
identifier (c ∷ name) is =
    let all = and_parts (simple.is_name_start c && list_all simple.is_name_part (c ∷ name)) (not (is_taken (c ∷ name))) is in
    let parts = and_parts (simple.is_name_start c) (list_all simple.is_name_part (c ∷ name)) all.0 in
    let free = not-true (is_taken (c ∷ name)) all.1 in
    let text : is_readable_text (c ∷ name) ≡ true = and_from (list_all (λ u. nat_lt u 65536) (c ∷ name)) (not (is_proto (c ∷ name))) (units_are (c ∷ name) parts.1) (ap not (not_proto (c ∷ name) free)) in
    let chars : are_name_characters (utf16_chars (c ∷ name)) ≡ true =
    and_from (begins_name (utf16_chars (c ∷ name))) (list_all (passes is_name_part) (utf16_chars (c ∷ name))) (begins_is c name parts.0) (parts_are (c ∷ name) parts.1) in
    let spelled : is_identifier_name (c ∷ name) ≡ true = and_from (is_readable_text (c ∷ name)) (are_name_characters (utf16_chars (c ∷ name))) text chars in
    rw (spelled, not_reserved (c ∷ name) free, not_barred (c ∷ name) free, not_form (c ∷ name) free) refl
