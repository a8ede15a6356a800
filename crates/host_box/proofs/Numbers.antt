-- The numbers of calls that fail, one call after another.
use Rattle.std.proofs.Common.{◌≡◌, min, ℕ, zero, suc, ◌+◌, ◌-◌, ◌<◌, ◌≤◌, ◌^◌, ◌==◌, nat_le, Bool, true, false, List, [], ◌∷◌, get_or, refl, sym, ◌∙◌, ap, inl, inr, arith}
use Rattle.std.specs.Prelude.{if◌then◌else◌, ◌⊎◌, Contains}
use Rattle.std.proofs.Math.Nat.{eq-or-lt_of_le}
use Rattle.std.proofs.lemmas.Grind.{common_steps}
use Rattle.host_box.specs.Hosts.{numbers_after_call, numbers_later}

-- a number, by whether it is 0 and whether its call is past
abbrev put : Bool → Bool → ℕ → ℕ → List ℕ → List ℕ
put none past n calls rest = if none then 0 ∷ rest else (if past then rest else (n - calls) ∷ rest)

-- ---- where a list has a number

there : (ns : List ℕ) (n x : ℕ) → Contains ns x → Contains (n ∷ ns) x
there ns n x (k, below, is) = (suc k, omega arith, is)

first_or_behind : (ns : List ℕ) (n x : ℕ) → Contains (n ∷ ns) x → (n ≡ x) ⊎ Contains ns x
first_or_behind ns n x (zero, below, is) = inl is
first_or_behind ns n x (suc k, below, is) = inr (k, omega arith, is)

-- ---- the next call fails where its number is among them

kept : (none past : Bool) (n calls : ℕ) (rest : List ℕ) → Contains rest 1 → Contains (put none past n calls rest) 1
kept true past n calls rest h = there rest 0 1 h
kept false true n calls rest h = h
kept false false n calls rest h = there rest (n - calls) 1 h

here : (n calls : ℕ) (rest : List ℕ) → n ≡ calls + 1 → Contains (put (n == 0) (nat_le n calls) n calls rest) 1
here n calls rest is =
    let some : (n == 0) ≡ false = grind (arith, common_steps) in
    let later : nat_le n calls ≡ false = grind (arith, common_steps) in
    let one : n - calls ≡ 1 = omega arith in
    rw (some, later) (zero, omega arith, one)

pub fails_from_number : (calls : ℕ) (ns : List ℕ) → Contains ns (calls + 1) → Contains (numbers_later calls ns) 1
fails_from_number calls [] (k, below, is) = absurd (omega arith)
fails_from_number calls (n ∷ ns) h =
    elim (first_or_behind ns n (calls + 1) h) [
      | inl is ↦ here n calls (numbers_later calls ns) is
      | inr behind ↦ kept (n == 0) (nat_le n calls) n calls (numbers_later calls ns) (fails_from_number calls ns behind)
    ]

of_put : (none past : Bool) (n calls : ℕ) (rest : List ℕ) → nat_le n calls ≡ past → Contains (put none past n calls rest) 1 → (n ≡ calls + 1) ⊎ Contains rest 1
of_put true past n calls rest is h = elim (first_or_behind rest 0 1 h) [ inl is_one ↦ absurd (omega arith) | inr behind ↦ inr behind ]
of_put false true n calls rest is h = inr h
of_put false false n calls rest is h =
    elim (first_or_behind rest (n - calls) 1 h) [ inl one ↦ inl (omega arith) | inr behind ↦ inr behind ]

pub number_from_fails : (calls : ℕ) (ns : List ℕ) → Contains (numbers_later calls ns) 1 → Contains ns (calls + 1)
number_from_fails calls [] (k, below, is) = absurd (omega arith)
number_from_fails calls (n ∷ ns) h =
    elim (of_put (n == 0) (nat_le n calls) n calls (numbers_later calls ns) refl h) [
      | inl is ↦ (zero, omega arith, is)
      | inr behind ↦ there ns n (calls + 1) (number_from_fails calls ns behind)
    ]

-- ---- after one more call

put_step : (none past : Bool) (n calls : ℕ) (rest next : List ℕ) → (n == 0) ≡ none → nat_le n calls ≡ past → numbers_after_call rest ≡ next
    → numbers_after_call (put none past n calls rest) ≡ put (n == 0) (nat_le n (calls + 1)) n (calls + 1) next
put_step true past n calls rest next is before h = rw is (ap (λ ns. 0 ∷ ns) h)
put_step false true n calls rest next is before h =
    let still : nat_le n (calls + 1) ≡ true = grind (arith, common_steps) in
    rw (is, still) h
put_step false false n calls rest next is before h =
    let later : calls < n = grind (arith, common_steps) in
    let same : (n - calls == 1) ≡ nat_le n (calls + 1) = grind (arith, common_steps) in
    let less : n - calls - 1 ≡ n - (calls + 1) = omega arith in
    rw (is, same, less, h) refl

pub later_step : (calls : ℕ) (ns : List ℕ) → numbers_after_call (numbers_later calls ns) ≡ numbers_later (calls + 1) ns
later_step calls [] = refl
later_step calls (n ∷ ns) = put_step (n == 0) (nat_le n calls) n calls (numbers_later calls ns) (numbers_later (calls + 1) ns) refl refl (later_step calls ns)

-- no call has a number past the last
pub later_all : (calls : ℕ) (ns : List ℕ) → ((i : ℕ) → get_or ns i 0 ≤ calls) → numbers_later (calls + 1) ns ≡ numbers_later calls ns
later_all calls [] all = refl
later_all calls (n ∷ ns) all =
    let first : n ≤ calls = all zero in
    let still : nat_le n (calls + 1) ≡ true = grind (arith, common_steps) in
    let past : nat_le n calls ≡ true = grind (arith, common_steps) in
    let behind = later_all calls ns (λ i. all (suc i)) in
    rw (still, past, behind) refl

-- the numbers after a call that counted, up to the last number
pub next_numbers : (calls next : ℕ) (ns : List ℕ) → calls ≤ 2 ^ 64 - 1 → next ≡ min (calls + 1) (2 ^ 64 - 1) → ((i : ℕ) → get_or ns i 0 ≤ 2 ^ 64 - 1)
    → numbers_later next ns ≡ numbers_after_call (numbers_later calls ns)
next_numbers calls next ns most is all =
    elim (eq-or-lt_of_le most) [
      | inl last ↦
          let same : next ≡ calls = omega arith in
          let past : (i : ℕ) → get_or ns i 0 ≤ calls = λ i. omega (arith, all i) in
          ap (λ n. numbers_later n ns) same ∙ sym (later_step calls ns ∙ later_all calls ns past)
      | inr more ↦
          let same : next ≡ calls + 1 = omega arith in
          ap (λ n. numbers_later n ns) same ∙ sym (later_step calls ns)
    ]

-- a number of the list is none past the last
pub number_below : (ns : List ℕ) (x : ℕ) → ((i : ℕ) → get_or ns i 0 < 2 ^ 64) → Contains ns x → x < 2 ^ 64
number_below [] x all (k, below, is) = absurd (omega arith)
number_below (n ∷ ns) x all (zero, below, is) = omega (arith, all zero)
number_below (n ∷ ns) x all (suc k, below, is) = number_below ns x (λ i. all (suc i)) (k, omega arith, is)
