-- Taking elements away, and setting the length before and afterwards.
use Rattle.std.proofs.Common.{◌≡◌, ◌∙◌, ◌+◌, refl, sym, ap, subst, ℕ, Bool, true, false, not, List, [], ◌∷◌, max, nat_eq, nat_le, nat_lt, arith}
use Rattle.std.specs.Prelude.{if◌then◌else◌, ◌&&◌, ◌||◌, Option, Some, None, unwrap_or, is_some}
use Rattle.std.specs.List.{filter, list_any}
use Rattle.std.specs.Option.{option_map}
use Rattle.std.specs.Cmp.Lexicographic.{nat_list_eq_equiv}
use Rattle.std.proofs.lemmas.Bool.{true≢false}
use Rattle.js_value.specs.Conversions.{is_same_text}
use Rattle.plain_heap.specs.Heap as heap
use Rattle.plain_heap.specs.Heap.{Key, ObjectState, Properties, is_configurable, lookup, put_at, without}
use Rattle.plain_heap.specs.Methods.{array_index, above_fixed, is_below, length_key, stop_at, Defining, Defined, Rejected, BadLength, IfSame, Settled, Changed, Refused, NotALength, OfAbsent, settled, settled_if, is_same_known, then_if}
use Rattle.plain_heap.specs.Valid.{are_distinct}
use Rattle.plain_heap.proofs.Properties.{has, same_sym}
use Rattle.heap_values.specs.declared.property.Property.{Property}
use Rattle.own_properties.specs.Defining.{entry_of, entries}
use Rattle.own_properties.specs.Lengths.{is_at_least, are_at_least, keys_of, without_all}

-- ---- the length is no element

both : (b c : Bool) → b && c ≡ true → (b ≡ true) × (c ≡ true)
both true c h = (refl, h)
both false c h = absurd (true≢false (sym h))

neither : (b c : Bool) → b || c ≡ false → (b ≡ false) × (c ≡ false)
neither false c h = (refl, h)
neither true c h = absurd (true≢false h)

number_is : (m n : ℕ) → nat_eq m n ≡ true → m ≡ n
number_is m n h = grind (arith, h)

text_is : (a b : Key) → is_same_text a b ≡ true → a ≡ b
text_is [] [] h = refl
text_is [] (y ∷ ys) h = absurd (true≢false (sym h))
text_is (x ∷ xs) [] h = absurd (true≢false (sym h))
text_is (x ∷ xs) (y ∷ ys) h =
    let parts = both (nat_eq x y) (is_same_text xs ys) h in
    (λ i. number_is x y parts.0 i ∷ text_is xs ys parts.1 i)

no_index : array_index length_key ≡ None
unfolding array_index
no_index = refl

above_none : (key : Key) (p : heap.Property) → is_same_text key length_key ≡ true → above_fixed (key, p) ≡ 0
above_none key p h = subst (λ k. above_fixed (k, p) ≡ 0) (sym (text_is key length_key h)) (by (is_configurable p))
  where
    by : (b : Bool) → (if b then 0 else unwrap_or (option_map (λ n. n + 1) (array_index length_key)) 0) ≡ 0
    by true = refl
    by false = ap (λ index. unwrap_or (option_map (λ n. n + 1) index) 0) no_index

below_always : (n : ℕ) (key : Key) (p : heap.Property) → is_same_text key length_key ≡ true → is_below n (key, p) ≡ true
below_always n key p h = ap (λ index. unwrap_or (option_map (λ i. nat_lt i n) index) true) (ap array_index (text_is key length_key h) ∙ no_index)

no_more : (n : ℕ) → max n 0 ≡ n
no_more n = omega arith

pub stop_stays : (wanted : ℕ) (p : heap.Property) (ps : Properties) → stop_at wanted (put_at length_key p ps) ≡ stop_at wanted ps
stop_stays wanted p [] = ap (max wanted) (above_none length_key p (nat_list_eq_equiv.refl length_key)) ∙ no_more wanted
stop_stays wanted p (e ∷ es) = by (is_same_text e.0 length_key) refl (stop_stays (max wanted (above_fixed e)) p es)
  where
    by : (same : Bool) → is_same_text e.0 length_key ≡ same → stop_at (max wanted (above_fixed e)) (put_at length_key p es) ≡ stop_at (max wanted (above_fixed e)) es
        → stop_at wanted (if same then (e.0, p) ∷ es else (e ∷ put_at length_key p es)) ≡ stop_at wanted (e ∷ es)
    by true h rest = ap (λ n. stop_at (max wanted n) es) (above_none e.0 p h ∙ sym (above_none e.0 e.1 h))
    by false h rest = rest

pub put_below : (n : ℕ) (p : heap.Property) (ps : Properties) → filter (is_below n) (put_at length_key p ps) ≡ put_at length_key p (filter (is_below n) ps)
put_below n p [] = rw (below_always n length_key p (nat_list_eq_equiv.refl length_key)) refl
put_below n p (e ∷ es) = by (is_same_text e.0 length_key) (is_below n e) refl refl (put_below n p es)
  where
    by : (same below : Bool) → is_same_text e.0 length_key ≡ same → is_below n e ≡ below → filter (is_below n) (put_at length_key p es) ≡ put_at length_key p (filter (is_below n) es)
        → filter (is_below n) (if same then (e.0, p) ∷ es else (e ∷ put_at length_key p es)) ≡ put_at length_key p (if below then e ∷ filter (is_below n) es else filter (is_below n) es)
    by true true h b rest = rw (below_always n e.0 p h, h) refl
    by true false h b rest = absurd (true≢false (sym (below_always n e.0 e.1 h) ∙ b))
    by false true h b rest = rw (b, h) (ap (λ l. e ∷ l) rest)
    by false false h b rest = rw b rest

pub put_twice : (key : Key) (p q : heap.Property) (ps : Properties) → put_at key q (put_at key p ps) ≡ put_at key q ps
put_twice key p q [] = rw (nat_list_eq_equiv.refl key) refl
put_twice key p q (e ∷ es) = by (is_same_text e.0 key) refl (put_twice key p q es)
  where
    by : (same : Bool) → is_same_text e.0 key ≡ same → put_at key q (put_at key p es) ≡ put_at key q es
        → put_at key q (if same then (e.0, p) ∷ es else (e ∷ put_at key p es)) ≡ (if same then (e.0, q) ∷ es else (e ∷ put_at key q es))
    by true h rest = rw h refl
    by false h rest = rw h (ap (λ l. e ∷ l) rest)

-- ---- one change behind another

abbrev pub after_settled : Settled → (ObjectState → Defining) → (ObjectState → Defining) → Settled
after_settled (Changed o) done rejected = settled (done o)
after_settled (Refused o) done rejected = settled (rejected o)
after_settled NotALength done rejected = NotALength
after_settled OfAbsent done rejected = OfAbsent

pub then_settled : (m : Defining) (done rejected : ObjectState → Defining) → settled (then_if m done rejected) ≡ after_settled (settled m) done rejected
then_settled (Defined o) done rejected = refl
then_settled (Rejected o) done rejected = refl
then_settled BadLength done rejected = refl
then_settled (IfSame v w rest) done rejected = by (is_same_known v w) (λ b. then_settled (rest b) done rejected)
  where
    by : (same : Option Bool) → ((b : Bool) → settled (then_if (rest b) done rejected) ≡ after_settled (settled (rest b)) done rejected)
        → settled_if same (λ b. settled (then_if (rest b) done rejected)) ≡ after_settled (settled_if same (λ b. settled (rest b))) done rejected
    by None next = refl
    by (Some b) next = next b

-- ---- without the keys of some elements

module _ {A : Type 0} where
  passed : (keys : List Key) (e : Key × A) (ps : List (Key × A)) → list_any (λ k. is_same_text e.0 k) keys ≡ false → without_all keys (e ∷ ps) ≡ e ∷ without_all keys ps
  passed [] e ps h = refl
  passed (k ∷ keys) e ps h =
      let parts = neither (is_same_text e.0 k) (list_any (λ k. is_same_text e.0 k) keys) h in
      rw parts.0 (passed keys e (without k ps) parts.1)

  others : (n : ℕ) (key : Key) (ps : List (Key × A)) → has key ps ≡ false → list_any (λ k. is_same_text key k) (keys_of (are_at_least n ps)) ≡ false
  others n key [] h = refl
  others n key (p ∷ ps) h = by (is_at_least n p) (neither (is_same_text p.0 key) (has key ps) h) (others n key ps (neither (is_same_text p.0 key) (has key ps) h).1)
    where
      by : (b : Bool) → (is_same_text p.0 key ≡ false) × (has key ps ≡ false) → list_any (λ k. is_same_text key k) (keys_of (are_at_least n ps)) ≡ false
          → list_any (λ k. is_same_text key k) (keys_of (if b then p ∷ are_at_least n ps else are_at_least n ps)) ≡ false
      by true h rest = rw (same_sym key p.0 ∙ h.0) rest
      by false h rest = rest

  abbrev pub is_under : ℕ → Key × A → Bool
  is_under n p = not (is_at_least n p)

  pub all_removed : (n : ℕ) (ps : List (Key × A)) → are_distinct ps ≡ true → without_all (keys_of (are_at_least n ps)) ps ≡ filter (is_under n) ps
  all_removed n [] h = refl
  all_removed n (p ∷ ps) h = by (is_at_least n p) refl (alone (has p.0 ps) (are_distinct ps) h) (all_removed n ps (alone (has p.0 ps) (are_distinct ps) h).1)
    where
      alone : (b c : Bool) → not b && c ≡ true → (b ≡ false) × (c ≡ true)
      alone false c h = (refl, h)
      alone true c h = absurd (true≢false (sym h))

      by : (b : Bool) → is_at_least n p ≡ b → (has p.0 ps ≡ false) × (are_distinct ps ≡ true) → without_all (keys_of (are_at_least n ps)) ps ≡ filter (is_under n) ps
          → without_all (keys_of (if b then p ∷ are_at_least n ps else are_at_least n ps)) (p ∷ ps) ≡ (if not b then p ∷ filter (is_under n) ps else filter (is_under n) ps)
      by true e h rest = ap (λ same. without_all (keys_of (are_at_least n ps)) (if same then ps else (p ∷ without p.0 ps))) (nat_list_eq_equiv.refl p.0) ∙ rest
      by false e h rest = passed (keys_of (are_at_least n ps)) p ps (others n p.0 ps h.0) ∙ ap (λ l. p ∷ l) rest

  pub lookup_under : (n : ℕ) (ps : List (Key × A)) → is_some (lookup length_key (filter (is_under n) ps)) ≡ is_some (lookup length_key ps)
  lookup_under n [] = refl
  lookup_under n (p ∷ ps) = by (is_same_text p.0 length_key) (is_at_least n p) refl refl (lookup_under n ps)
    where
      by : (same least : Bool) → is_same_text p.0 length_key ≡ same → is_at_least n p ≡ least → is_some (lookup length_key (filter (is_under n) ps)) ≡ is_some (lookup length_key ps)
          → is_some (lookup length_key (if not least then p ∷ filter (is_under n) ps else filter (is_under n) ps)) ≡ is_some (if same then Some p.1 else lookup length_key ps)
      by true true h b rest = absurd (true≢false (sym b ∙ ap (λ index. unwrap_or (option_map (λ i. nat_le n i) index) false) (ap array_index (text_is p.0 length_key h) ∙ no_index)))
      by true false h b rest = rw h refl
      by false true h b rest = rest
      by false false h b rest = rw h rest

less_or_not : (i n : ℕ) → nat_lt i n ≡ not (nat_le n i)
less_or_not i n = grind (arith)

same_test : (n : ℕ) (e : Key × Property) → is_below n (entry_of e) ≡ is_under n e
same_test n e = by (array_index e.0)
  where
    by : (index : Option ℕ) → unwrap_or (option_map (λ i. nat_lt i n) index) true ≡ not (unwrap_or (option_map (λ i. nat_le n i) index) false)
    by None = refl
    by (Some i) = less_or_not i n

pub cut : (n : ℕ) (ps : List (Key × Property)) → filter (is_below n) (entries ps) ≡ entries (filter (is_under n) ps)
cut n [] = refl
cut n (e ∷ es) = by (is_under n e) (same_test n e) (cut n es)
  where
    by : (b : Bool) → is_below n (entry_of e) ≡ b → filter (is_below n) (entries es) ≡ entries (filter (is_under n) es)
        → filter (is_below n) (entries (e ∷ es)) ≡ entries (if b then e ∷ filter (is_under n) es else filter (is_under n) es)
    by true h rest = rw h (ap (λ l. entry_of e ∷ l) rest)
    by false h rest = rw h rest
