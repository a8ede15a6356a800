-- Operators at the front of a text (7.7): the longest that begins there ends where a character stands that goes on with none.
use Rattle.std.proofs.Common.{◌≡◌, ℕ, ◌<◌, Bool, true, false, ◌&&◌, cond, List, [], ◌∷◌, ◌++◌, length, map, refl, ap, sym, ◌∙◌, fold, inl, inr}
use Rattle.std.specs.Prelude.{nat_eq, nat_lt, slice_index, Option, Some, None}
use Rattle.std.specs.List.{list_all, starts_with}
use Rattle.std.specs.Str.{all_scalars}
use Rattle.std.proofs.lemmas.Bool.{and_parts, not-true, cases_Bool, eqb-true, both_ways}
use Rattle.js_tree.specs.Lexing.{scan, longer, longest_punctuator, punctuator}
use Rattle.js_tree.specs.declared.token.TheConstants.{PUNCTUATORS}
use Rattle.js_tree.specs.declared.token.Punctuator.{Punctuator}
use Rattle.js_tree.specs.declared.token.TokenForm.TheVariants as form
use Rattle.lexing_back.proofs.Characters.{NoOperator, is_operator}
use Rattle.lexing_back.proofs.Scanning.{Scans}

-- where a spelling is longer than these characters, it goes on with a character of operators
abbrev pub goes_on : List ℕ → List ℕ → Bool
goes_on cs [] = true
goes_on [] (r ∷ row) = is_operator r
goes_on (c ∷ cs) (r ∷ row) = goes_on cs row

other : (c r : ℕ) → is_operator r ≡ true → is_operator c ≡ false → nat_eq r c ≡ false
other c r one out = elim (cases_Bool (nat_eq r c)) [
  | inl same ↦ absurd (both_ways (is_operator c) out (ap is_operator (sym (eqb-true r c same)) ∙ one))
  | inr differ ↦ differ
]

same_start : (cs row z : List ℕ) → goes_on cs row ≡ true → is_operator (slice_index z 0) ≡ false → starts_with nat_eq (cs ++ z) row ≡ starts_with nat_eq cs row
same_start [] [] z on out = refl
same_start (c ∷ cs) [] z on out = refl
same_start [] (r ∷ row) [] on out = refl
same_start [] (r ∷ row) (c ∷ z) on out = rw (other c r on out) refl
same_start (c ∷ cs) (r ∷ row) z on out = ap (λ b. nat_eq r c && b) (same_start cs row z on out)

same_longest : (rows : List (List ℕ × Punctuator)) (best : Option Punctuator × ℕ) (cs z : List ℕ) → list_all (λ row. goes_on cs row.0) rows ≡ true → is_operator (slice_index z 0) ≡ false
    → fold (longer (cs ++ z)) best rows ≡ fold (longer cs) best rows
same_longest [] best cs z on out = refl
same_longest (row ∷ rows) best cs z on out =
    let parts = and_parts (goes_on cs row.0) (list_all (λ r. goes_on cs r.0) rows) on in
    ap (λ b. fold (longer (cs ++ z)) (cond (b && nat_lt best.1 (length row.0)) (Some row.1, length row.0) best) rows) (same_start cs row.0 z parts.0 out)
    ∙ same_longest rows (longer cs best row) cs z parts.1 out

abbrev pub all_go_on : List ℕ → Bool
all_go_on cs = list_all (λ (row : List ℕ × Punctuator). goes_on cs row.0) (map (λ row. (row.0.now, row.1)) PUNCTUATORS)

longest-front : (cs z : List ℕ) → all_go_on cs ≡ true → is_operator (slice_index z 0) ≡ false → longest_punctuator (cs ++ z) ≡ longest_punctuator cs
unfolding longest_punctuator
longest-front cs z on out = same_longest (map (λ row. (row.0.now, row.1)) PUNCTUATORS) (None, 0) cs z on out

-- an operator, where what stands at the front is one of the punctuators
pub Scans-operator : (cs : List ℕ) (p : Punctuator) → 0 < length cs → all_scalars cs ≡ true → all_go_on cs ≡ true → longest_punctuator cs ≡ (Some p, length cs)
    → ((at : ℕ) (z : List ℕ) → is_operator (slice_index z 0) ≡ false → scan at (cs ++ z) ≡ punctuator at (longest_punctuator (cs ++ z)))
    → Scans cs (form.Punctuator p) NoOperator
Scans-operator cs p some valid on is front = record {
  some = some;
  valid = valid;
  scans = λ at z out.
      let stops = not-true (is_operator (slice_index z 0)) out in
      front at z stops ∙ ap (punctuator at) (longest-front cs z on stops ∙ is);
}
