-- A walk comes to its end within as many steps as there are items, and one more for each object of the realm.
use Rattle.std.proofs.Common.{◌≡◌, ℕ, zero, suc, ◌+◌, ◌-◌, ◌≤◌, ◌<◌, Bool, true, false, cond, List, [], ◌∷◌, ◌++◌, length, refl, ap, subst, sym, ◌∙◌, arith}
use Rattle.std.specs.Prelude.{not, ◌||◌, nat_eq, nat_lt, if◌then◌else◌, slice_get, Option, Some, None, unwrap_or}
use Rattle.std.specs.Cmp.{IsEquivalence}
use Rattle.std.specs.List.{filter, list_all, list_any, position, range_with_len, IsDistinct, position_or_len}
use Rattle.std.specs.Option.{option_map}
use Rattle.std.proofs.lemmas.Bool.{both_ways}
use Rattle.std.proofs.lemmas.Cmp.{nat_eq_equiv}
use Rattle.std.proofs.lemmas.List.{length-append}
use Rattle.std.proofs.lemmas.List.Folds.{list_any-append}
use Rattle.std.proofs.lemmas.List.FromFn.{get_or-range_with_len}
use Rattle.std.proofs.lemmas.List.Quantifiers.{position-Some}
use Rattle.std.proofs.lemmas.Map.Keys.{IsDistinct-push}
use Rattle.std.proofs.lemmas.Option.{slice_get_within}
use Rattle.plain_heap.specs.Values.{ObjNo}
use Rattle.js_machine.specs.Machine.Listed.{Item, AnObject, ACell, has_item, is_same_item, enter, left_of_realm, advance, queue_from, next_of}
use Rattle.js_machine.specs.Machine.Realm.{realm_count}
use Rattle.listing_laws.specs.Renamed.{Listable, IsRenamed, Renaming}
use Rattle.listing_laws.proofs.Walking.{all_push, enter_all, found_good, left_below, with_left, IsGood}

-- ---- items are equal or not

pub item_same : (x : Item) → is_same_item x x ≡ true
item_same (AnObject o) = nat_eq_equiv.refl o
item_same (ACell c) = nat_eq_equiv.refl c

item_flip : (x y : Item) → is_same_item x y ≡ is_same_item y x
item_flip (AnObject m) (AnObject n) = nat_eq_equiv.symm m n
item_flip (ACell m) (ACell n) = nat_eq_equiv.symm m n
item_flip (AnObject m) (ACell n) = refl
item_flip (ACell m) (AnObject n) = refl

item_like : (x y z : Item) → is_same_item x y ≡ true → is_same_item x z ≡ is_same_item y z
item_like (AnObject m) (AnObject n) (AnObject k) is = nat_eq_equiv.congr m n k is
item_like (ACell m) (ACell n) (ACell k) is = nat_eq_equiv.congr m n k is
item_like (AnObject m) (AnObject n) (ACell k) is = refl
item_like (ACell m) (ACell n) (AnObject k) is = refl
item_like (AnObject m) (ACell n) z is = absurd (both_ways false refl is)
item_like (ACell m) (AnObject n) z is = absurd (both_ways false refl is)

pub items_equivalence : IsEquivalence is_same_item
items_equivalence = record { refl = item_same; symm = item_flip; congr = item_like }

same_number : (m n : ℕ) → nat_eq m n ≡ true → m ≡ n
same_number m n is = grind (arith, is)

pub same_items : (x y : Item) → is_same_item x y ≡ true → x ≡ y
same_items (AnObject m) (AnObject n) is = ap AnObject (same_number m n is)
same_items (ACell m) (ACell n) is = ap ACell (same_number m n is)
same_items (AnObject m) (ACell n) is = absurd (both_ways false refl is)
same_items (ACell m) (AnObject n) is = absurd (both_ways false refl is)

-- ---- how many objects of the realm haven't entered

abbrev lacks : List Item → ℕ → Bool
lacks q o = not (has_item q (AnObject o))

pub missing : List Item → ℕ
missing q = length (filter (lacks q) (range_with_len 0 realm_count))

fewer : (p t : ℕ → Bool) (xs : List ℕ) → ((x : ℕ) → p x ≡ true → t x ≡ true) → length (filter p xs) ≤ length (filter t xs)
fewer p t [] h = omega arith
fewer p t (x ∷ xs) h = by_first (p x) (t x) (h x) (fewer p t xs h)
  where
    by_first : (b c : Bool) → (b ≡ true → c ≡ true) → length (filter p xs) ≤ length (filter t xs) → length (cond b (x ∷ filter p xs) (filter p xs)) ≤ length (cond c (x ∷ filter t xs) (filter t xs))
    by_first true true h le = omega (arith, le)
    by_first true false h le = absurd (both_ways false refl (h refl))
    by_first false true h le = omega (arith, le)
    by_first false false h le = le

fewer_by_one : (p t : ℕ → Bool) (o : ℕ) (xs : List ℕ) → ((x : ℕ) → p x ≡ true → t x ≡ true) → list_any (nat_eq o) xs ≡ true → p o ≡ false → t o ≡ true
    → length (filter p xs) < length (filter t xs)
fewer_by_one p t o [] h there out in_ = absurd (both_ways false refl there)
fewer_by_one p t o (x ∷ xs) h there out in_ = by_first (nat_eq o x) refl there (λ there. fewer_by_one p t o xs h there out in_)
  where
    here : o ≡ x → length (filter p (x ∷ xs)) < length (filter t (x ∷ xs))
    here is = rw (sym (ap p is) ∙ out, sym (ap t is) ∙ in_) (omega (arith, fewer p t xs h))

    by_tests : (b c : Bool) → (b ≡ true → c ≡ true) → length (filter p xs) < length (filter t xs) → length (cond b (x ∷ filter p xs) (filter p xs)) < length (cond c (x ∷ filter t xs) (filter t xs))
    by_tests true true h lt = omega (arith, lt)
    by_tests true false h lt = absurd (both_ways false refl (h refl))
    by_tests false true h lt = omega (arith, lt)
    by_tests false false h lt = lt

    by_first : (b : Bool) → nat_eq o x ≡ b → (b || list_any (nat_eq o) xs) ≡ true → (list_any (nat_eq o) xs ≡ true → length (filter p xs) < length (filter t xs)) → length (filter p (x ∷ xs)) < length (filter t (x ∷ xs))
    by_first true is there rest = here (same_number o x is)
    by_first false is there rest = by_tests (p x) (t x) (h x) (rest there)

pub in_range : (a n o : ℕ) → a ≤ o → o < a + n → list_any (nat_eq o) (range_with_len a n) ≡ true
in_range a zero o least most = absurd (omega (arith, least, most))
in_range a (suc n) o least most = by_first (nat_eq o a) refl (λ least. in_range (a + 1) n o least (omega (arith, most)))
  where
    above : (a o : ℕ) → a ≤ o → nat_eq o a ≡ false → a + 1 ≤ o
    above a o least other = grind (arith, least, other)

    by_first : (b : Bool) → nat_eq o a ≡ b → (a + 1 ≤ o → list_any (nat_eq o) (range_with_len (a + 1) n) ≡ true) → (b || list_any (nat_eq o) (range_with_len (a + 1) n)) ≡ true
    by_first true is rest = refl
    by_first false other rest = rest (above a o least other)

-- ---- what entered stays

pub had_behind : (q : List Item) (x y : Item) → has_item q y ≡ true → has_item (q ++ x ∷ []) y ≡ true
had_behind q x y had = rw (list_any-append (is_same_item y) q (x ∷ []), had) refl

pub had_entered : (q xs : List Item) (y : Item) → has_item q y ≡ true → has_item (enter q xs) y ≡ true
had_entered q [] y had = had
had_entered q (x ∷ xs) y had = by_had (has_item q x) (had_entered q xs y had) (had_entered (q ++ x ∷ []) xs y (had_behind q x y had))
  where
    by_had : (b : Bool) → has_item (enter q xs) y ≡ true → has_item (enter (q ++ x ∷ []) xs) y ≡ true → has_item (if b then enter q xs else enter (q ++ x ∷ []) xs) y ≡ true
    by_had true old new = old
    by_had false old new = new

lacked : (b c : Bool) → (b ≡ true → c ≡ true) → not c ≡ true → not b ≡ true
lacked true true h is = is
lacked true false h is = absurd (both_ways false refl (h refl))
lacked false c h is = refl

missing_entered : (q xs : List Item) → missing (enter q xs) ≤ missing q
unfolding missing
missing_entered q xs =
    fewer (lacks (enter q xs)) (lacks q) (range_with_len 0 realm_count) (λ o is. lacked (has_item q (AnObject o)) (has_item (enter q xs) (AnObject o)) (had_entered q xs (AnObject o)) is)

missing_pushed : (q : List Item) (o : ObjNo) → nat_lt o realm_count ≡ true → has_item q (AnObject o) ≡ false → missing (q ++ AnObject o ∷ []) < missing q
unfolding missing
missing_pushed q o below lacking =
    fewer_by_one (lacks (q ++ AnObject o ∷ [])) (lacks q) o (range_with_len 0 realm_count)
    (λ p is. lacked (has_item q (AnObject p)) (has_item (q ++ AnObject o ∷ []) (AnObject p)) (had_behind q (AnObject o) (AnObject p)) is)
    (in_range 0 realm_count o (omega arith) (grind (arith, below)))
    (ap not (has_pushed q (AnObject o)))
    (ap not lacking)
  where
    has_pushed : (q : List Item) (x : Item) → has_item (q ++ x ∷ []) x ≡ true
    has_pushed q x = rw (list_any-append (is_same_item x) q (x ∷ [])) (by_had (list_any (is_same_item x) q) (is_same_item x x) (item_same x))
      where
        by_had : (b c : Bool) → c ≡ true → (b || (c || false)) ≡ true
        by_had true c is = refl
        by_had false true is = refl
        by_had false false is = is

some_is : (x y : ℕ) → Some x ≡ Some y → x ≡ y
some_is x y is = ap (λ found. unwrap_or found x) is

abbrev found_by : ℕ → ℕ → Option ℕ
found_by n m = cond (nat_lt n m) (Some n) None

found_place : (f : Option ℕ) (o : ℕ) → unwrap_or (option_map (λ n. Some n) f) None ≡ Some o → f ≡ Some o
found_place (Some n) o is = is
found_place None o is = grind (arith, is)

left_lacks : (q : List Item) (o : ObjNo) → nat_lt o realm_count ≡ true → left_of_realm q ≡ Some o → has_item q (AnObject o) ≡ false
left_lacks q o below is =
    let place = found_place (position (lacks q) (range_with_len 0 realm_count)) o is in
    let there = position-Some (lacks q) (range_with_len 0 realm_count) o 0 place in
    turned (has_item q (AnObject o)) (ap (lacks q) (sym (get_or-range_with_len 0 realm_count o 0 (grind (arith, below)) ∙ plus o)) ∙ there.1)
  where
    turned : (b : Bool) → not b ≡ true → b ≡ false
    turned true h = absurd (both_ways false refl h)
    turned false h = refl

    plus : (o : ℕ) → 0 + o ≡ o
    plus o = omega arith

-- ---- all of the realm has entered

all_fail : (p : ℕ → Bool) (xs : List ℕ) → nat_lt (position_or_len p xs) (length xs) ≡ false → list_any p xs ≡ false
all_fail p [] is = refl
all_fail p (x ∷ xs) is = by_first (p x) refl is (all_fail p xs)
  where
    one_less : (m n : ℕ) → nat_lt (1 + m) (suc n) ≡ nat_lt m n
    one_less m n = grind arith

    first_below : (n : ℕ) → nat_lt 0 (suc n) ≡ true
    first_below n = grind arith

    shorter : p x ≡ false → nat_lt (1 + position_or_len p xs) (suc (length xs)) ≡ nat_lt (position_or_len p (x ∷ xs)) (suc (length xs))
    shorter other = rw other refl

    by_first : (b : Bool) → p x ≡ b → nat_lt (position_or_len p (x ∷ xs)) (suc (length xs)) ≡ false → (nat_lt (position_or_len p xs) (length xs) ≡ false → list_any p xs ≡ false) → (b || list_any p xs) ≡ false
    by_first true here is rest = absurd (both_ways false refl (sym is ∙ rw here (first_below (length xs))))
    by_first false other is rest = rest (sym (one_less (position_or_len p xs) (length xs)) ∙ shorter other ∙ is)

fails_at : (p : ℕ → Bool) (o : ℕ) (xs : List ℕ) → list_any (nat_eq o) xs ≡ true → list_any p xs ≡ false → p o ≡ false
fails_at p o [] there none = absurd (both_ways false refl there)
fails_at p o (x ∷ xs) there none = by_first (nat_eq o x) refl there (p x) refl none (fails_at p o xs)
  where
    by_first : (b : Bool) → nat_eq o x ≡ b → (b || list_any (nat_eq o) xs) ≡ true → (c : Bool) → p x ≡ c → (c || list_any p xs) ≡ false
        → (list_any (nat_eq o) xs ≡ true → list_any p xs ≡ false → p o ≡ false) → p o ≡ false
    by_first true is there false here none rest = ap p (same_number o x is) ∙ here
    by_first false is there false here none rest = rest there none
    by_first b is there true here none rest = absurd (both_ways true none refl)

pub none_left : (q : List Item) (o : ObjNo) → left_of_realm q ≡ None → nat_lt o realm_count ≡ true → has_item q (AnObject o) ≡ true
none_left q o none below =
    had (has_item q (AnObject o)) (fails_at (lacks q) o (range_with_len 0 realm_count) (in_range 0 realm_count o (omega arith) (grind (arith, below))) (all_fail (lacks q) (range_with_len 0 realm_count) (no_place _ _ none)))
  where
    no_place : (n m : ℕ) → unwrap_or (option_map (λ n. Some n) (cond (nat_lt n m) (Some n) None)) None ≡ None → nat_lt n m ≡ false
    no_place n m is = by_less (nat_lt n m) is
      where
        by_less : (b : Bool) → unwrap_or (option_map (λ n. Some n) (cond b (Some n) None)) None ≡ None → b ≡ false
        by_less true is = absurd (not_both n is)
          where
            not_both : (n : ℕ) → Some n ≡ None → ⊥
            not_both n is = cc
        by_less false is = refl

    had : (b : Bool) → not b ≡ false → b ≡ true
    had true is = refl
    had false is = absurd (both_ways true is refl)

pub entered_length : (q xs : List Item) → length q ≤ length (enter q xs)
entered_length q [] = omega arith
entered_length q (x ∷ xs) = by_had (has_item q x) (entered_length q xs) (entered_length (q ++ x ∷ []) xs)
  where
    by_had : (b : Bool) → length q ≤ length (enter q xs) → length (q ++ x ∷ []) ≤ length (enter (q ++ x ∷ []) xs) → length q ≤ length (if b then enter q xs else enter (q ++ x ∷ []) xs)
    by_had true old new = old
    by_had false old new = omega (arith, new, length-append q (x ∷ []))

pub entered_distinct : (q xs : List Item) → IsDistinct is_same_item q → IsDistinct is_same_item (enter q xs)
entered_distinct q [] apart = apart
entered_distinct q (x ∷ xs) apart = by_had (has_item q x) refl (entered_distinct q xs apart) (λ new. entered_distinct (q ++ x ∷ []) xs new)
  where
    by_had : (b : Bool) → has_item q x ≡ b → IsDistinct is_same_item (enter q xs) → (IsDistinct is_same_item (q ++ x ∷ []) → IsDistinct is_same_item (enter (q ++ x ∷ []) xs))
        → IsDistinct is_same_item (if b then enter q xs else enter (q ++ x ∷ []) xs)
    by_had true had old new = old
    by_had false lacking old new = new (IsDistinct-push items_equivalence q x apart lacking)

-- ---- the walk is at its end

module _ (r : Renaming) (a b : Listable) (is_member : Item → Bool) (h : IsRenamed r a b is_member)
    (total : ℕ) (most : (q : List Item) → IsDistinct is_same_item q → list_all is_member q ≡ true → length q ≤ total) where
  abbrev walked : ℕ → ℕ → List Item → List Item
  walked n k q = queue_from n a.free a.heap (k, q)

  pub record Fits (n k : ℕ) (q : List Item) : Type 0 where
    pub apart : IsDistinct is_same_item q
    pub members : list_all is_member q ≡ true
    pub taken : k ≤ length q
    pub few : (total - k) + missing q ≤ n

  pub fits_taken : (n k : ℕ) (q : List Item) (x : Item) → Fits (suc n) k q → slice_get q k ≡ Some x → Fits n (suc k) (enter q (next_of a.free a.heap x))
  fits_taken n k q x fits found =
      let within = slice_get_within q k x found in
      let bound = most q fits.apart fits.members in
      let grown = entered_length q (next_of a.free a.heap x) in
      let less = missing_entered q (next_of a.free a.heap x) in
      record {
        apart = entered_distinct q (next_of a.free a.heap x) fits.apart;
        members = enter_all r a b is_member h q (next_of a.free a.heap x) fits.members (h.closed.onwards x (subst (IsGood r a b is_member h) found (found_good r a b is_member h q k fits.members)));
        taken = omega (arith, within, grown);
        few = omega (arith, fits.few, less, within, bound);
      }

  pub fits_pushed : (n k : ℕ) (q : List Item) (o : ObjNo) → Fits (suc n) k q → left_of_realm q ≡ Some o → Fits n k (q ++ AnObject o ∷ [])
  fits_pushed n k q o fits left =
      let below = left_below r a b is_member h q o left in
      let lacking = left_lacks q o below left in
      record {
        apart = IsDistinct-push items_equivalence q (AnObject o) fits.apart lacking;
        members = all_push r a b is_member h q (AnObject o) fits.members (h.closed.realm o below);
        taken = omega (arith, fits.taken, length-append q (AnObject o ∷ []));
        few = omega (arith, fits.few, missing_pushed q o below lacking);
      }

  pub none_taken : (k : ℕ) (q : List Item) (x : Item) → Fits zero k q → slice_get q k ≡ Some x → ⊥
  none_taken k q x fits found = omega (arith, fits.few, slice_get_within q k x found, most q fits.apart fits.members)

  pub none_pushed : (k : ℕ) (q : List Item) (o : ObjNo) → Fits zero k q → left_of_realm q ≡ Some o → ⊥
  none_pushed k q o fits left =
      let below = left_below r a b is_member h q o left in
      omega (arith, fits.few, missing_pushed q o below (left_lacks q o below left))

  -- one step more from a walk of which the next item, and what is left of the realm, are known
  abbrev onwards : ℕ → ℕ → List Item → Option Item → List Item
  onwards n k q x = queue_from n a.free a.heap (advance a.free a.heap (k, q) x)

  abbrev onwards_left : ℕ → ℕ → List Item → Option ObjNo → List Item
  onwards_left n k q left = queue_from n a.free a.heap (k, with_left r a b is_member h q left)

  stable_from : (n k : ℕ) (q : List Item) → Fits (suc n) k q → ((k : ℕ) (q : List Item) → Fits n k q → walked (suc n) k q ≡ walked n k q) → walked (suc (suc n)) k q ≡ walked (suc n) k q
  stable_from n k q fits rest = by_found (slice_get q k) refl
    where
      by_left : (left : Option ObjNo) → left_of_realm q ≡ left → slice_get q k ≡ None → onwards_left (suc n) k q left ≡ onwards_left n k q left
      by_left None is found = ap (onwards n k q) found ∙ ap (onwards_left n k q) is
      by_left (Some o) is found = rest k (q ++ AnObject o ∷ []) (fits_pushed n k q o fits is)

      by_found : (x : Option Item) → slice_get q k ≡ x → onwards (suc n) k q x ≡ onwards n k q x
      by_found (Some x) is = rest (suc k) (enter q (next_of a.free a.heap x)) (fits_taken n k q x fits is)
      by_found None is = by_left (left_of_realm q) refl is

  stable : (n k : ℕ) (q : List Item) → Fits n k q → walked (suc n) k q ≡ walked n k q
  stable zero k q fits = by_found (slice_get q k) refl
    where
      by_left : (left : Option ObjNo) → left_of_realm q ≡ left → with_left r a b is_member h q left ≡ q
      by_left None is = refl
      by_left (Some o) is = absurd (none_pushed k q o fits is)

      by_found : (x : Option Item) → slice_get q k ≡ x → (advance a.free a.heap (k, q) x).1 ≡ q
      by_found (Some x) is = absurd (none_taken k q x fits is)
      by_found None is = by_left (left_of_realm q) refl
  stable (suc n) k q fits = stable_from n k q fits (λ k q fits. stable n k q fits)

  fits_more : (n m k : ℕ) (q : List Item) → n ≤ m → Fits n k q → Fits m k q
  fits_more n m k q le fits = record { apart = fits.apart; members = fits.members; taken = fits.taken; few = omega (arith, le, fits.few) }

  stays : (d n k : ℕ) (q : List Item) → Fits n k q → walked (n + d) k q ≡ walked n k q
  stays zero n k q fits = ap (λ m. walked m k q) (same n)
    where
      same : (n : ℕ) → n + zero ≡ n
      same n = omega arith
  stays (suc d) n k q fits =
      ap (λ m. walked m k q) (next n d) ∙ stable (n + d) k q (fits_more n (n + d) k q (omega arith) fits) ∙ stays d n k q fits
    where
      next : (n d : ℕ) → n + suc d ≡ suc (n + d)
      next n d = omega arith

  pub all_missing : (q : List Item) → missing q ≤ realm_count
  unfolding missing
  all_missing q = all_of (lacks q) (range_with_len 0 realm_count)
    where
      all_of : (p : ℕ → Bool) (xs : List ℕ) → length (filter p xs) ≤ length xs
      all_of p [] = omega arith
      all_of p (x ∷ xs) = by_first (p x) (all_of p xs)
        where
          by_first : (b : Bool) → length (filter p xs) ≤ length xs → length (cond b (x ∷ filter p xs) (filter p xs)) ≤ suc (length xs)
          by_first true le = omega (arith, le)
          by_first false le = omega (arith, le)

  -- with any two numbers of steps that are enough the walk comes to the same
  pub finished : (n m : ℕ) (q : List Item) → IsDistinct is_same_item q → list_all is_member q ≡ true → total + realm_count ≤ n → n ≤ m → walked m 0 q ≡ walked n 0 q
  finished n m q apart members enough le =
      ap (λ k. walked k 0 q) (sums n m le) ∙ stays (m - n) n 0 q (record { apart = apart; members = members; taken = omega arith; few = omega (arith, enough, all_missing q) })
    where
      sums : (n m : ℕ) → n ≤ m → m ≡ n + (m - n)
      sums n m le = omega (arith, le)
