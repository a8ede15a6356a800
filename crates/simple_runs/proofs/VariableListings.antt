-- What is listed of the global object with variables behind its own properties: the variables, and nothing of other objects.
use Rattle.std.proofs.Common.{◌≡◌, ℕ, zero, suc, ◌+◌, Bool, true, false, List, [], ◌∷◌, ◌++◌, length, map, take, drop, refl, ap, sym, ◌∙◌, arith}
use Rattle.std.specs.Prelude.{nat_lt, slice_get, Option, Some, None}
use Rattle.std.specs.List.{filter, flat_map, list_all}
use Rattle.std.proofs.Math.Seq.{take-append_seam, drop-append_seam}
use Rattle.std.proofs.lemmas.Bool.{and_parts}
use Rattle.std.proofs.lemmas.Cmp.{nat_list_eq_equiv}
use Rattle.std.proofs.lemmas.List.Concat.{flat_map-append}
use Rattle.js_value.specs.Conversions.{is_same_value}
use Rattle.js_value.specs.declared.place.FuncNo.{FuncNo}
use Rattle.js_tree.specs.Mentions.{Names}
use Rattle.js_tree.specs.declared.statement.Func.{Func}
use Rattle.js_tree.specs.declared.statement.Script.{Script}
use Rattle.plain_heap.specs.Heap.{Heap, Key, Property, Properties, ObjectState, resolve}
use Rattle.plain_heap.specs.Values.{ObjNo, object_or_null}
use Rattle.simple_runs.specs.Events as simple
use Rattle.simple_runs.specs.Listing as listings
use Rattle.simple_runs.specs.Runs as runs
use Rattle.js_machine.specs.Machine.Codes.{code}
use Rattle.js_machine.specs.Machine.Listed.{free_in, FreeNames, Item, AnObject, ACell, Walked, Row, RealmRow, in_value, in_property, next_of, enter, advance, queue_from, queue_of, listed_property, old_count, gone_keys, is_changed, differs, realm_row, row_of, listing_by, listing, Agree}
use Rattle.js_machine.specs.Machine.RealmObjects.{global, object_prototype}
use Rattle.js_machine.specs.Machine.Realm.{realm, realm_count}
use Rattle.js_machine.specs.Machine.Walks.{Outcome, Normally}
use Rattle.simple_runs.specs.SimpleListings as wanted
use Rattle.simple_runs.specs.SimpleListings.{SimpleListings}
use Rattle.simple_runs.specs.SimpleRuns.{variable, realm_with, Says}
use Rattle.simple_runs.proofs.GlobalNames.{heap_with}
use Rattle.simple_runs.proofs.GlobalVariables.{global_own}
use Rattle.simple_runs.proofs.SimpleScripts.{other_objects, with_names, starts, realm_is}

-- ---- the walk: values that are no objects add nothing

no_items : (vs : simple.Heap) → flat_map (λ (p : Key × Property). in_property p.1) (map variable vs) ≡ []
no_items [] = refl
no_items (v ∷ vs) = no_items vs

abbrev is_other : Item → Bool
is_other (AnObject zero) = false
is_other (AnObject (suc n)) = true
is_other (ACell c) = true

module _ (own : Properties) (prototype : Option ObjNo) (rest : List ObjectState) (free : FreeNames) where
  abbrev with_these : simple.Heap → Heap
  with_these = heap_with own prototype rest

  abbrev items_of : Properties → List Item
  items_of ps = flat_map (λ (p : Key × Property). in_property p.1) ps

  same_items : (vs : simple.Heap) → items_of (own ++ map variable vs) ≡ items_of (own ++ [])
  same_items vs =
      flat_map-append (λ (p : Key × Property). in_property p.1) own (map variable vs)
      ∙ ap (λ items. items_of own ++ items) (no_items vs)
      ∙ sym (flat_map-append (λ (p : Key × Property). in_property p.1) own [])

  same_next : (vs : simple.Heap) (item : Item) → next_of free (with_these vs) item ≡ next_of free (with_these []) item
  same_next vs (AnObject zero) = ap (λ items. in_value (object_or_null prototype) ++ items ++ []) (same_items vs)
  same_next vs (AnObject (suc n)) = refl
  same_next vs (ACell c) = refl

  same_advance : (vs : simple.Heap) (walked : Walked) (item : Option Item) → advance free (with_these vs) walked item ≡ advance free (with_these []) walked item
  same_advance vs walked None = refl
  same_advance vs walked (Some item) = ap (λ items. (suc walked.0, enter walked.1 items)) (same_next vs item)

  same_queue_from : (vs : simple.Heap) (n : ℕ) (walked : Walked) → queue_from n free (with_these vs) walked ≡ queue_from n free (with_these []) walked
  same_queue_from vs zero walked = refl
  same_queue_from vs (suc n) walked =
      ap (queue_from n free (with_these vs)) (same_advance vs walked (slice_get walked.1 walked.0))
      ∙ same_queue_from vs n (advance free (with_these []) walked (slice_get walked.1 walked.0))

  pub same_queue : (vs : simple.Heap) → queue_of free (with_these vs) Normally ≡ queue_of free (with_these []) Normally
  unfolding queue_of
  same_queue vs = same_queue_from vs (suc (length rest) + 0 + realm_count) (0, AnObject global ∷ [])

  -- ---- the rows of all other objects are the same

  module _ (code : FuncNo → Names → Script) (queue : List Item) where
    same_row : (vs : simple.Heap) (item : Item) → is_other item ≡ true → row_of code free (with_these vs) queue item ≡ row_of code free (with_these []) queue item
    same_row vs (AnObject zero) other = cc
    same_row vs (AnObject (suc n)) other = refl
    same_row vs (ACell c) other = refl

    pub same_rows : (vs : simple.Heap) (items : List Item) → list_all is_other items ≡ true → flat_map (row_of code free (with_these vs) queue) items ≡ flat_map (row_of code free (with_these []) queue) items
    same_rows vs [] others = refl
    same_rows vs (item ∷ items) others =
        let parts = and_parts (is_other item) (list_all is_other items) others in
        ap (λ rows. rows ++ flat_map (row_of code free (with_these vs) queue) items) (same_row vs item parts.0)
        ∙ ap (λ rows. row_of code free (with_these []) queue item ++ rows) (same_rows vs items parts.1)

-- ---- the row of the global object

none_old : (new : Properties) → old_count [] new ≡ 0
none_old [] = refl
none_old (p ∷ new) = refl

below_some : (n : ℕ) → nat_lt 0 (suc n) ≡ true
below_some n = grind arith

-- the properties that an object had at the start come first
old_first : (own new : Properties) → old_count own (own ++ new) ≡ length own
old_first [] new = none_old new
old_first (p ∷ own) new = rw (nat_list_eq_equiv.refl p.0, below_some (length own)) (ap suc (old_first own new))

lines_are : (queue : List Item) (vs : simple.Heap) → map (listed_property queue) (map variable vs) ≡ map wanted.line_of (map listings.line vs)
lines_are queue [] = refl
lines_are queue (v ∷ vs) = ap (λ lines. wanted.line_of (listings.line v) ∷ lines) (lines_are queue vs)

module _ (queue : List Item) where
  abbrev row_now : Properties → Properties → ℕ → Row
  row_now own now n = realm_row queue global false own (take n now) (drop n now)

  row_of_own : (own new : Properties) → row_now own (own ++ new) (old_count own (own ++ new)) ≡ realm_row queue global false own own new
  row_of_own own new = rw (old_first own new, take-append_seam own new, drop-append_seam own new) refl

none_gone : gone_keys global_own global_own ≡ []
unfolding realm
none_gone = refl

none_changed : filter (is_changed global_own) global_own ≡ []
unfolding realm is_same_value
none_changed = refl

-- ---- the whole listing

module _ (code : FuncNo → Names → Script) (free : FreeNames) where
  abbrev realm_queue : List Item
  realm_queue = queue_of free realm Normally

  abbrev others : List Item
  others = drop 1 realm_queue

  first_is_global : realm_queue ≡ AnObject global ∷ others
  unfolding queue_of realm resolve
  first_is_global = refl

  all_others : list_all is_other others ≡ true
  unfolding queue_of realm resolve
  all_others = refl

  others_same : filter differs (flat_map (row_of code free realm realm_queue) others) ≡ []
  unfolding queue_of realm resolve is_same_value
  others_same = refl

  queue_with : (vs : simple.Heap) → queue_of free (with_names vs) Normally ≡ realm_queue
  queue_with vs = same_queue global_own (Some object_prototype) other_objects free vs ∙ ap (λ h. queue_of free h Normally) (sym starts)

  rows_with : (vs : simple.Heap) → flat_map (row_of code free (with_names vs) realm_queue) others ≡ flat_map (row_of code free realm realm_queue) others
  rows_with vs =
      same_rows global_own (Some object_prototype) other_objects free code realm_queue vs others all_others
      ∙ ap (λ h. flat_map (row_of code free h realm_queue) others) (sym starts)

  abbrev row_with : simple.Heap → Row
  row_with vs = RealmRow global false [] [] (map wanted.line_of (map listings.line vs))

  global_row : (vs : simple.Heap) → row_of code free (with_names vs) realm_queue (AnObject global) ≡ row_with vs ∷ []
  global_row vs =
      ap (λ row. row ∷ []) (row_of_own realm_queue global_own (map variable vs))
      ∙ rw (none_gone, none_changed, lines_are realm_queue vs) refl

  listed_by : (h : Heap) (queue : List Item) → queue_of free h Normally ≡ queue → listing_by code free h Normally ≡ filter differs (flat_map (row_of code free h queue) queue)
  unfolding listing_by
  listed_by h queue is = rw is refl

  one_row : (vs : simple.Heap) (rows : List Row) → filter differs rows ≡ [] → filter differs (row_with vs ∷ rows) ≡ map wanted.row_of (listings.listing vs)
  one_row [] rows none = none
  one_row (v ∷ vs) rows none = ap (λ rows. row_with (v ∷ vs) ∷ rows) none

  pub rows_hold : (vs : simple.Heap) → listing_by code free (realm_with vs) Normally ≡ map wanted.row_of (listings.listing vs)
  rows_hold vs =
      ap (λ h. listing_by code free h Normally) (realm_is vs)
      ∙ listed_by (with_names vs) realm_queue (queue_with vs)
      ∙ ap (λ items. filter differs (flat_map (row_of code free (with_names vs) realm_queue) items)) first_is_global
      ∙ ap (λ rows. filter differs (rows ++ flat_map (row_of code free (with_names vs) realm_queue) others)) (global_row vs)
      ∙ one_row vs (flat_map (row_of code free (with_names vs) realm_queue) others) (ap (filter differs) (rows_with vs) ∙ others_same)

-- ---- runs that agree

rows_in : (functions : List Func) (vs : simple.Heap) → listing functions (realm_with vs) Normally ≡ map wanted.row_of (listings.listing vs)
rows_in functions vs = rows_hold (code functions) (free_in functions) vs

same_listing : (functions others : List Func) (vs us : simple.Heap) → listings.listing us ≡ listings.listing vs → listing others (realm_with us) Normally ≡ listing functions (realm_with vs) Normally
same_listing functions others vs us same = rows_in others us ∙ ap (map wanted.row_of) same ∙ sym (rows_in functions vs)

both_agree : (functions others : List Func) (a b : runs.Outcome) (o p : Outcome) → Says a o → Says b p → listings.Agree a b → Agree functions o others p
both_agree functions others (runs.Ended vs) (runs.Ended us) o p is it agree = rw (is, it) (refl, tt, same_listing functions others vs us agree)
both_agree functions others a b o p is it agree = absurd agree

pub simple_listings : SimpleListings
simple_listings = record { rows = rows_in; agree = both_agree }
