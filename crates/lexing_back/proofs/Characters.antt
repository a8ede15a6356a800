-- Characters that begin names, digits, and what may stand behind a token.
use Rattle.std.proofs.Common.{◌≡◌, ℕ, ◌+◌, ◌-◌, ◌<◌, ◌≤◌, Bool, true, false, not, ◌||◌, ⊎_elim, refl, ap, sym, ◌∙◌, arith}
use Rattle.std.specs.Prelude.{nat_le, ◌==◌}
use Rattle.std.specs.Char.{is_ascii_digit}
use Rattle.std.specs.Int.{is_in_range}
use Rattle.std.proofs.lemmas.Bool.{cases_Bool, both_ways, eqb-true, agree_below_at, and_parts, leb-true}
use Rattle.std.proofs.lemmas.Bool.Decides.{nat_tests}
use Rattle.unicode_ident.specs.Ident.{is_xid_start, is_xid_continue}
use Rattle.unicode_ident.proofs.Computing.{unicode_ident}
use Rattle.unicode_ident.proofs.IdentLemmas.{is_xid_start-ascii, is_xid_continue-ascii, is_xid_start-is_xid_continue}
use Rattle.js_tree.specs.Lexing.{is_name_start, is_name_part, is_white_space, is_line_end}

-- ---- what may stand behind a token

-- a character that makes an operator longer, or a comment of it
abbrev pub is_operator : ℕ → Bool
is_operator c = c == 61 || c == 43 || c == 45 || c == 60 || c == 62 || c == 38 || c == 124 || c == 42 || c == 47

-- anything; nothing that goes on with a name; nor a point; no digit; nothing that makes an operator longer
pub data Behind : Type 0 where
  Any : Behind
  NoPart : Behind
  NoPoint : Behind
  NoDigit : Behind
  NoOperator : Behind

abbrev pub allows : Behind → ℕ → Bool
allows Any c = true
allows NoPart c = not (is_name_part c)
allows NoPoint c = not (is_name_part c || c == 46)
allows NoDigit c = not (is_ascii_digit c)
allows NoOperator c = not (is_operator c)

-- ---- characters that begin a name

-- one that begins no name is another
pub apart : (k c : ℕ) → is_name_start k ≡ false → is_name_start c ≡ true → (c == k) ≡ false
apart k c out start =
    ⊎_elim
    (λ same. absurd (both_ways (is_name_start k) out (ap is_name_start (sym (eqb-true c k same)) ∙ start)))
    (λ other. other)
    (cases_Bool (c == k))

-- U+2000 to U+200A
no_start_among : (k : ℕ) → k < 11 → is_name_start (0x2000 + k) ≡ false
unfolding is_name_start unicode_ident
no_start_among k below = agree_below_at (λ i. is_name_start (0x2000 + i)) (λ i. false) 11 k refl below

no_space_among : (c : ℕ) → is_name_start c ≡ true → is_in_range 0x2000 0x200A c ≡ false
no_space_among c start =
    ⊎_elim
    (λ among.
    let parts = and_parts (nat_le 0x2000 c) (nat_le c 0x200A) among in
    let low : 0x2000 ≤ c = leb-true 0x2000 c parts.0 in
    let high : c ≤ 0x200A = leb-true c 0x200A parts.1 in
    let is : 0x2000 + (c - 0x2000) ≡ c = omega arith in
    absurd (both_ways (is_name_start c) (ap is_name_start (sym is) ∙ no_start_among (c - 0x2000) (omega arith)) start))
    (λ other. other)
    (cases_Bool (is_in_range 0x2000 0x200A c))

pub start_no_space : (c : ℕ) → is_name_start c ≡ true → is_white_space c ≡ false
unfolding is_name_start unicode_ident
start_no_space c start =
    rw (
      apart 0x9 c refl start,
      apart 0xB c refl start,
      apart 0xC c refl start,
      apart 0x20 c refl start,
      apart 0xA0 c refl start,
      apart 0x1680 c refl start,
      no_space_among c start,
      apart 0x202F c refl start,
      apart 0x205F c refl start,
      apart 0x3000 c refl start,
      apart 0xFEFF c refl start,
    ) refl

pub start_no_line_end : (c : ℕ) → is_name_start c ≡ true → is_line_end c ≡ false
unfolding is_name_start unicode_ident
start_no_line_end c start = rw (apart 0xA c refl start, apart 0xD c refl start, apart 0x2028 c refl start, apart 0x2029 c refl start) refl

pub start_no_slash : (c : ℕ) → is_name_start c ≡ true → (c == 47) ≡ false
unfolding is_name_start unicode_ident
start_no_slash c start = apart 47 c refl start

pub start_no_operator : (c : ℕ) → is_name_start c ≡ true → is_operator c ≡ false
unfolding is_name_start unicode_ident
start_no_operator c start =
    rw (apart 61 c refl start, apart 43 c refl start, apart 45 c refl start, apart 60 c refl start, apart 62 c refl start, apart 38 c refl start, apart 124 c refl start, apart 42 c refl start, apart 47 c refl start) refl

-- what begins a name may go on with it
pub start_part : (c : ℕ) → is_name_start c ≡ true → is_name_part c ≡ true
unfolding is_name_start is_name_part
start_part c start = by_start (is_xid_start c) (is_xid_continue c) (c == 36) (c == 95) (is_xid_start-is_xid_continue c) start
  where
    by_start : (s p d u : Bool) → (s ≡ true → p ≡ true) → (s || d || u) ≡ true → (p || d || u || c == 0x200C || c == 0x200D) ≡ true
    by_start s true d u h e = refl
    by_start s false true u h e = refl
    by_start s false false true h e = refl
    by_start true false false false h e = absurd (both_ways false refl (h refl))
    by_start false false false false h e = absurd (both_ways false refl e)

-- ---- digits

pub digit_ascii : (c : ℕ) → is_ascii_digit c ≡ true → c < 128
digit_ascii c h = grind (arith, nat_tests)

pub digit_no_start : (c : ℕ) → is_ascii_digit c ≡ true → is_name_start c ≡ false
unfolding is_name_start
digit_no_start c h = rw (is_xid_start-ascii c (digit_ascii c h)) (grind (arith, nat_tests))

pub start_no_digit : (c : ℕ) → is_name_start c ≡ true → is_ascii_digit c ≡ false
start_no_digit c start =
    ⊎_elim (λ digit. absurd (both_ways (is_name_start c) (digit_no_start c digit) start)) (λ other. other) (cases_Bool (is_ascii_digit c))

pub digit_part : (c : ℕ) → is_ascii_digit c ≡ true → is_name_part c ≡ true
unfolding is_name_part
digit_part c h = rw (is_xid_continue-ascii c (digit_ascii c h)) (grind (arith, nat_tests))

pub digit_no_space : (c : ℕ) → is_ascii_digit c ≡ true → is_white_space c ≡ false
digit_no_space c h = grind (arith, nat_tests)

pub digit_no_line_end : (c : ℕ) → is_ascii_digit c ≡ true → is_line_end c ≡ false
digit_no_line_end c h = grind (arith, nat_tests)

pub digit_no_slash : (c : ℕ) → is_ascii_digit c ≡ true → (c == 47) ≡ false
digit_no_slash c h = grind (arith, nat_tests)

pub digit_no_operator : (c : ℕ) → is_ascii_digit c ≡ true → is_operator c ≡ false
digit_no_operator c h = grind (arith, nat_tests)

-- a letter that begins names, by what names go on with
pub no_part-no_letter : (k c : ℕ) → is_name_part k ≡ true → is_name_part c ≡ false → (c == k) ≡ false
no_part-no_letter k c part out =
    ⊎_elim (λ same. absurd (both_ways (is_name_part c) out (ap is_name_part (eqb-true c k same) ∙ part))) (λ other. other) (cases_Bool (c == k))

pub no_part-no_digit : (c : ℕ) → is_name_part c ≡ false → is_ascii_digit c ≡ false
no_part-no_digit c out =
    ⊎_elim (λ digit. absurd (both_ways (is_name_part c) out (digit_part c digit))) (λ other. other) (cases_Bool (is_ascii_digit c))
