-- The queue of a valid heap leads nowhere else, and has the thrown object and the global one.
use Rattle.std.proofs.Common.{◌≡◌, ℕ, ◌+◌, ◌≤◌, Bool, true, false, List, [], ◌∷◌, length, refl, ap, ◌∙◌, arith}
use Rattle.std.specs.Prelude.{◌||◌, nat_lt}
use Rattle.std.specs.List.{list_all, IsDistinct}
use Rattle.std.proofs.lemmas.Bool.{and_parts, both_ways}
use Rattle.plain_heap.specs.Values.{ObjNo}
use Rattle.plain_heap.proofs.Grown.{all_kept}
use Rattle.plain_heap.specs.Valid.{is_valid}
use Rattle.js_machine.specs.Machine.Listed.{Item, AnObject, has_item, is_same_item, next_of, queue_of, thrown_item}
use Rattle.js_machine.specs.Machine.RealmObjects.{global}
use Rattle.js_machine.specs.Machine.Realm.{realm_count}
use Rattle.listing_laws.specs.Renamed.{Listable, IsClosed, IsRenamed, QueueIsClosed, is_there}
use Rattle.listing_laws.proofs.Finished.{Fits, all_missing, none_left, same_items}
use Rattle.listing_laws.proofs.Law.{few_in_first, start, start_members, start_apart, queue_members}
use Rattle.listing_laws.proofs.Reached.{reached, reached_realm, had_in, entered_had}
use Rattle.listing_laws.proofs.Valid.{itself, is_itself}

-- an item of a list is one of its elements
had_all : (p : Item → Bool) (q : List Item) → list_all p q ≡ true → (x : Item) → has_item q x ≡ true → p x ≡ true
had_all p [] all x had = absurd (both_ways false refl had)
had_all p (y ∷ q) all x had =
    let parts = and_parts (p y) (list_all p q) all in
    by_first (is_same_item x y) refl parts.0 (had_all p q parts.1 x) had
  where
    by_first : (b : Bool) → is_same_item x y ≡ b → p y ≡ true → (has_item q x ≡ true → p x ≡ true) → (b || has_item q x) ≡ true → p x ≡ true
    by_first true is here rest had = ap p (same_items x y is) ∙ here
    by_first false is here rest had = rest had

module _ (a : Listable) (valid : is_valid a.heap ≡ true) (realm : realm_count ≤ length a.heap.objects) (thrown : list_all (is_there a.heap) (thrown_item a.ending) ≡ true) where
  abbrev queue : List Item
  queue = queue_of a.free a.heap a.ending

  abbrev total : ℕ
  total = length a.heap.objects + length a.heap.cells

  same : IsRenamed itself a a (is_there a.heap)
  same = is_itself a valid realm thrown

  most : (q : List Item) → IsDistinct is_same_item q → list_all (is_there a.heap) q ≡ true → length q ≤ total
  most = few_in_first itself a a (is_there a.heap) same

  begin : List Item
  begin = start itself a a (is_there a.heap) same

  fits : Fits itself a a (is_there a.heap) same total most (total + realm_count) 0 begin
  unfolding begin
  fits = record {
    apart = start_apart itself a a (is_there a.heap) same;
    members = start_members itself a a (is_there a.heap) same;
    taken = omega arith;
    few = omega (arith, all_missing itself a a (is_there a.heap) same total most begin);
  }

  leads_inside : list_all (λ x. list_all (has_item queue) (next_of a.free a.heap x)) queue ≡ true
  unfolding queue_of begin
  leads_inside = reached itself a a (is_there a.heap) same total most (total + realm_count) 0 begin fits refl

  realm_inside : (o : ObjNo) → nat_lt o realm_count ≡ true → has_item queue (AnObject o) ≡ true
  unfolding queue_of begin
  realm_inside o below = none_left queue o (reached_realm itself a a (is_there a.heap) same total most (total + realm_count) 0 begin fits refl) below

  starts : (y : Item) → has_item begin y ≡ true → has_item queue y ≡ true
  unfolding queue_of begin
  starts y had = had_in itself a a (is_there a.heap) same total most (total + realm_count) 0 begin y had

  thrown_inside : list_all (has_item queue) (thrown_item a.ending) ≡ true
  unfolding begin
  thrown_inside = all_kept (has_item begin) (has_item queue) (thrown_item a.ending) starts (entered_had (AnObject global ∷ []) (thrown_item a.ending))

  pub closed : IsClosed a (has_item queue)
  closed = record {
    realm = realm_inside;
    thrown = thrown_inside;
    onwards = λ x had. had_all (λ x. list_all (has_item queue) (next_of a.free a.heap x)) queue leads_inside x had;
  }

  pub there : list_all (is_there a.heap) queue ≡ true
  there = queue_members itself a a (is_there a.heap) same

pub queue_is_closed : QueueIsClosed
queue_is_closed = record { closed = closed; there = there }
