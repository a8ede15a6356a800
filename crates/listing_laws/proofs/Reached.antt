-- What the queue of a finished walk leads to is in the queue.
use Rattle.std.proofs.Common.{◌≡◌, ℕ, zero, suc, ◌≤◌, Bool, true, false, List, [], ◌∷◌, ◌++◌, length, take, refl, ap, subst, sym, ◌∙◌, append_assoc, append-nil, arith}
use Rattle.std.specs.Prelude.{◌&&◌, ◌||◌, if◌then◌else◌, slice_get, Option, Some, None, unwrap_or}
use Rattle.std.specs.List.{list_all, list_any, IsDistinct}
use Rattle.std.proofs.lemmas.List.Folds.{list_all-append, list_any-append}
use Rattle.std.proofs.lemmas.Option.{slice_get_within}
use Rattle.plain_heap.specs.Values.{ObjNo}
use Rattle.plain_heap.proofs.Grown.{all_kept}
use Rattle.js_machine.specs.Machine.Listed.{Item, AnObject, has_item, is_same_item, enter, left_of_realm, advance, queue_from, next_of}
use Rattle.listing_laws.specs.Renamed.{Renaming, Listable, IsRenamed}
use Rattle.listing_laws.proofs.Finished.{item_same, had_behind, had_entered, Fits, fits_taken, fits_pushed, none_taken, none_pushed}
use Rattle.listing_laws.proofs.Walking.{with_left}

-- ---- lists

take_next : {A : Type 0} (xs : List A) (k : ℕ) (x : A) → slice_get xs k ≡ Some x → take (suc k) xs ≡ take k xs ++ x ∷ []
take_next [] k x is = absurd (grind (arith, is))
take_next (y ∷ xs) zero x is = ap (λ o. unwrap_or o y ∷ []) is
take_next (y ∷ xs) (suc k) x is = ap (λ l. y ∷ l) (take_next xs k x is)

take_front : {A : Type 0} (xs ys : List A) (k : ℕ) → k ≤ length xs → take k (xs ++ ys) ≡ take k xs
take_front xs ys zero le = refl
take_front [] ys (suc k) le = absurd (omega (arith, le))
take_front (x ∷ xs) ys (suc k) le = ap (λ l. x ∷ l) (take_front xs ys k (omega (arith, le)))

take_whole : {A : Type 0} (xs : List A) (k : ℕ) → slice_get xs k ≡ None → take k xs ≡ xs
take_whole [] zero is = refl
take_whole [] (suc k) is = refl
take_whole (x ∷ xs) zero is = absurd (not_both x is)
  where
    not_both : {A : Type 0} (x : A) → Some x ≡ None → ⊥
    not_both x is = cc
take_whole (x ∷ xs) (suc k) is = ap (λ l. x ∷ l) (take_whole xs k is)

-- what enters stands behind
entered_is : (q xs : List Item) → (more : List Item) × (enter q xs ≡ q ++ more)
entered_is q [] = ([], sym (append-nil q))
entered_is q (x ∷ xs) = by_had (has_item q x) (entered_is q xs) (entered_is (q ++ x ∷ []) xs)
  where
    by_had : (b : Bool) → (more : List Item) × (enter q xs ≡ q ++ more) → (more : List Item) × (enter (q ++ x ∷ []) xs ≡ (q ++ x ∷ []) ++ more) → (more : List Item) × ((if b then enter q xs else enter (q ++ x ∷ []) xs) ≡ q ++ more)
    by_had true old new = old
    by_had false old new = (x ∷ new.0, new.1 ∙ append_assoc q (x ∷ []) new.0)

-- and all of it is there
pub entered_had : (q xs : List Item) → list_all (has_item (enter q xs)) xs ≡ true
entered_had q [] = refl
entered_had q (x ∷ xs) = by_had (has_item q x) refl (entered_had q xs) (entered_had (q ++ x ∷ []) xs)
  where
    pushed : (q : List Item) → has_item (q ++ x ∷ []) x ≡ true
    pushed q = rw (list_any-append (is_same_item x) q (x ∷ []), item_same x) (either (list_any (is_same_item x) q))
      where
        either : (b : Bool) → (b || true) ≡ true
        either true = refl
        either false = refl

    by_had : (b : Bool) → has_item q x ≡ b → list_all (has_item (enter q xs)) xs ≡ true → list_all (has_item (enter (q ++ x ∷ []) xs)) xs ≡ true
        → (has_item (if b then enter q xs else enter (q ++ x ∷ []) xs) x && list_all (has_item (if b then enter q xs else enter (q ++ x ∷ []) xs)) xs) ≡ true
    by_had true is old new = rw (had_entered q xs x is, old) refl
    by_had false is old new = rw (had_entered (q ++ x ∷ []) xs x (pushed q), new) refl

module _ (r : Renaming) (a b : Listable) (is_member : Item → Bool) (h : IsRenamed r a b is_member)
    (total : ℕ) (most : (q : List Item) → IsDistinct is_same_item q → list_all is_member q ≡ true → length q ≤ total) where
  abbrev leads : Item → List Item
  leads x = next_of a.free a.heap x

  -- all that the items which were taken lead to has entered
  abbrev leads_inside : List Item → Item → Bool
  leads_inside q x = list_all (has_item q) (leads x)

  abbrev Taken : ℕ → List Item → Type 0
  Taken k q = list_all (leads_inside q) (take k q) ≡ true

  inside_more : (q more : List Item) (x : Item) → leads_inside q x ≡ true → leads_inside (q ++ more) x ≡ true
  inside_more q more x is = all_kept (has_item q) (has_item (q ++ more)) (leads x) (λ y had. rw (list_any-append (is_same_item y) q more, had) refl) is

  taken_more : (k : ℕ) (q more : List Item) → k ≤ length q → Taken k q → Taken k (q ++ more)
  taken_more k q more le taken = rw (take_front q more k le) (all_kept (leads_inside q) (leads_inside (q ++ more)) (take k q) (λ x is. inside_more q more x is) taken)

  taken_next : (k : ℕ) (q : List Item) (x : Item) → slice_get q k ≡ Some x → Taken k q → Taken (suc k) (enter q (leads x))
  taken_next k q x found taken =
      let entered = entered_is q (leads x) in
      let within = slice_get_within q k x found in
      let front : take (suc k) (enter q (leads x)) ≡ take k q ++ x ∷ [] = ap (take (suc k)) entered.1 ∙ take_front q entered.0 (suc k) (omega (arith, within)) ∙ take_next q k x found in
      let old = all_kept (leads_inside q) (leads_inside (q ++ entered.0)) (take k q) (λ x is. inside_more q entered.0 x is) taken in
      rw (front, list_all-append (leads_inside (enter q (leads x))) (take k q) (x ∷ []), entered_had q (leads x))
      (rw (entered.1, old) refl)

  record Done (k : ℕ) (q : List Item) : Type 0 where
    at_end : slice_get q k ≡ None
    none_left : left_of_realm q ≡ None
    taken : Taken k q

  -- the walk by its queue and its count
  state_from : ℕ → ℕ → List Item → ℕ × List Item
  state_from zero k q = (k, q)
  state_from (suc n) k q = state_from n (advance a.free a.heap (k, q) (slice_get q k)).0 (advance a.free a.heap (k, q) (slice_get q k)).1

  queue_is : (n k : ℕ) (q : List Item) → queue_from n a.free a.heap (k, q) ≡ (state_from n k q).1
  unfolding state_from
  queue_is zero k q = refl
  queue_is (suc n) k q = queue_is n (advance a.free a.heap (k, q) (slice_get q k)).0 (advance a.free a.heap (k, q) (slice_get q k)).1

  still : (n k : ℕ) (q : List Item) → slice_get q k ≡ None → left_of_realm q ≡ None → state_from n k q ≡ (k, q)
  unfolding state_from
  still zero k q at_end none_left = refl
  still (suc n) k q at_end none_left =
      ap (λ x. state_from n (advance a.free a.heap (k, q) x).0 (advance a.free a.heap (k, q) x).1) at_end
      ∙ ap (λ left. state_from n k (with_left r a b is_member h q left)) none_left
      ∙ still n k q at_end none_left

  ends_now : (k : ℕ) (q : List Item) → Fits r a b is_member h total most zero k q → Taken k q → Done (state_from zero k q).0 (state_from zero k q).1
  unfolding state_from
  ends_now k q fits taken = by_found (slice_get q k) refl
    where
      by_left : (left : Option ObjNo) → left_of_realm q ≡ left → slice_get q k ≡ None → Done k q
      by_left None none_left at_end = record { at_end = at_end; none_left = none_left; taken = taken }
      by_left (Some o) left at_end = absurd (none_pushed r a b is_member h total most k q o fits left)

      by_found : (x : Option Item) → slice_get q k ≡ x → Done k q
      by_found None at_end = by_left (left_of_realm q) refl at_end
      by_found (Some x) found = absurd (none_taken r a b is_member h total most k q x fits found)

  ends_then : (n k : ℕ) (q : List Item) → Fits r a b is_member h total most (suc n) k q → Taken k q → ((k : ℕ) (q : List Item) → Fits r a b is_member h total most n k q → Taken k q → Done (state_from n k q).0 (state_from n k q).1)
      → Done (state_from (suc n) k q).0 (state_from (suc n) k q).1
  unfolding state_from
  ends_then n k q fits taken rest = by_found (slice_get q k) refl
    where
      after : ℕ × List Item → Type 0
      after w = Done (state_from n w.0 w.1).0 (state_from n w.0 w.1).1

      by_left : (left : Option ObjNo) → left_of_realm q ≡ left → slice_get q k ≡ None → after (k, with_left r a b is_member h q left)
      by_left None none_left at_end = subst (λ (w : ℕ × List Item). Done w.0 w.1) (sym (still n k q at_end none_left)) (record { at_end = at_end; none_left = none_left; taken = taken })
      by_left (Some o) left at_end = rest k (q ++ AnObject o ∷ []) (fits_pushed r a b is_member h total most n k q o fits left) (taken_more k q (AnObject o ∷ []) fits.taken taken)

      by_found : (x : Option Item) → slice_get q k ≡ x → after (advance a.free a.heap (k, q) x)
      by_found None at_end = by_left (left_of_realm q) refl at_end
      by_found (Some x) found = rest (suc k) (enter q (leads x)) (fits_taken r a b is_member h total most n k q x fits found) (taken_next k q x found taken)

  ends : (n k : ℕ) (q : List Item) → Fits r a b is_member h total most n k q → Taken k q → Done (state_from n k q).0 (state_from n k q).1
  ends zero k q fits taken = ends_now k q fits taken
  ends (suc n) k q fits taken = ends_then n k q fits taken (λ k q fits taken. ends n k q fits taken)

  -- what entered stays
  pub had_in : (n k : ℕ) (q : List Item) (y : Item) → has_item q y ≡ true → has_item (queue_from n a.free a.heap (k, q)) y ≡ true
  had_in zero k q y had = had
  had_in (suc n) k q y had = by_found (slice_get q k) (λ k q had. had_in n k q y had)
    where
      by_left : (left : Option ObjNo) → ((k : ℕ) (q : List Item) → has_item q y ≡ true → has_item (queue_from n a.free a.heap (k, q)) y ≡ true) → has_item (queue_from n a.free a.heap (k, with_left r a b is_member h q left)) y ≡ true
      by_left None rest = rest k q had
      by_left (Some o) rest = rest k (q ++ AnObject o ∷ []) (had_behind q (AnObject o) y had)

      by_found : (x : Option Item) → ((k : ℕ) (q : List Item) → has_item q y ≡ true → has_item (queue_from n a.free a.heap (k, q)) y ≡ true) → has_item (queue_from n a.free a.heap (advance a.free a.heap (k, q) x)) y ≡ true
      by_found None rest = by_left (left_of_realm q) rest
      by_found (Some x) rest = rest (suc k) (enter q (leads x)) (had_entered q (leads x) y had)

  -- with enough steps all that an item of the queue leads to is in the queue
  pub reached : (n k : ℕ) (q : List Item) → Fits r a b is_member h total most n k q → Taken k q
      → list_all (leads_inside (queue_from n a.free a.heap (k, q))) (queue_from n a.free a.heap (k, q)) ≡ true
  reached n k q fits taken =
      let last = state_from n k q in
      let done = ends n k q fits taken in
      subst (λ queue. list_all (leads_inside queue) queue ≡ true) (sym (queue_is n k q))
      (subst (λ l. list_all (leads_inside last.1) l ≡ true) (take_whole last.1 last.0 done.at_end) done.taken)

  -- and no object of the realm is left
  pub reached_realm : (n k : ℕ) (q : List Item) → Fits r a b is_member h total most n k q → Taken k q → left_of_realm (queue_from n a.free a.heap (k, q)) ≡ None
  reached_realm n k q fits taken = subst (λ queue. left_of_realm queue ≡ None) (sym (queue_is n k q)) (ends n k q fits taken).none_left
