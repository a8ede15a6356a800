-- The built-ins of arrays are sound, where the calls of values are.
use Rattle.std.proofs.Common.{ℕ, zero, suc, ◌+◌, ◌-◌, Bool, true, false, List, []}
use Rattle.std.specs.Prelude.{unsigned_abs, codes}
use Rattle.std.specs.Fmt.{decimal}
use Rattle.js_value.specs.declared.place.Place.{Place}
use Rattle.js_value.specs.declared.primitive.Primitive.TheVariants as primitive
use Rattle.plain_heap.specs.Values.{Value, Prim, ObjNo, number, text}
use Rattle.plain_heap.specs.Heap.{Heap}
use Rattle.plain_heap.specs.Methods.{length_key}
use Rattle.js_machine.specs.Machine.ArrayBuiltins as B
use Rattle.js_machine.specs.Machine.Creating.{argument}
use Rattle.js_machine.specs.Machine.Expressions.{is_callable}
use Rattle.js_machine.specs.Machine.RealmObjects.{TypeError}
use Rattle.js_machine.specs.Machine.Events.{Run}
use Rattle.valid_runs.specs.Kept.{Keeps, IsObject, IsValue, is_primitive, is_object, is_symbol}
use Rattle.valid_runs.proofs.Growing.{◌⊚◌, none, also, Values, later, later_object, later_values}
use Rattle.valid_runs.proofs.Sound.{At, Steady, Any, bind, bind_any, first, first_any, then_steady_any, moves, from_here, gives, gives_any, gives_same, gives_same_any, looks_any, takes_turn, chooses, chooses_same}
use Rattle.valid_runs.proofs.Making.{argument_too}
use Rattle.valid_runs.proofs.Objects.{Calls, site_of, is_undefined, is_truth, make_array_too, throw_same, test_too, to_string_too, to_list_length_too, to_position_too, plus_too, same_value_too, to_object_too, get_too, put_too, delete_too, make_property_too, has_property_too}
use Rattle.valid_runs.proofs.Builtins.{RuleSound}

is_number : {s : Heap} (n : ℕ) → IsValue s (number n)
is_number n = is_primitive _

is_text : {s : Heap} (t : List ℕ) → IsValue s (text t)
is_text t = is_primitive _

module _ {s : Heap} (at : Place) where
  separator_too : (v : Value) → Steady s (IsValue s) (B.separator at v)
  separator_too (Prim primitive.Undefined) = gives_same (is_text (codes ","))
  separator_too v = to_string_too at v

  element_text_too : (v : Value) → Steady s (IsValue s) (B.element_text at v)
  element_text_too (Prim primitive.Undefined) = gives_same (is_text [])
  element_text_too (Prim primitive.Null) = gives_same (is_text [])
  element_text_too v = to_string_too at v

  position_too : (l : ℕ) (v : Value) → Steady s (Any s) (B.end_position at l v)
  position_too l (Prim primitive.Undefined) = gives_same_any l
  position_too l v = then_steady_any (to_position_too at v) (λ n. gives_same_any (B.position_in l n))

callback_too : {s : Heap} (f : Value) → Steady s (Any s) (B.callback f)
callback_too f = then_steady_any (looks_any (is_callable f)) (λ callable. chooses_same callable (gives_same_any tt) (throw_same TypeError))

module _ (at : Place) {call : Value → Value → List Value → Run Value} (calls : Calls call) where
  length_of_too : {s : Heap} {o : ObjNo} → IsObject s o → At s Any (B.length_of (site_of at call) o)
  length_of_too there = bind (get_too at calls there length_key) (λ t up l _. first_any (to_list_length_too at l) (λ n. gives_any (unsigned_abs n)))

  if_present_too : {A : Type 0} {Is : Heap → A → Type 0} {s : Heap} {o : ObjNo} → IsObject s o → (k : ℕ) {f : Value → Run A} {m : Run A} → ((t : Heap) → Keeps s t → (v : Value) → IsValue t v → At t Is (f v)) → At s Is m
      → At s Is (B.if_present (site_of at call) o k f m)
  if_present_too {o = o} there k found missing = first_any (has_property_too at calls o (decimal k)) (λ b. chooses b (bind (get_too at calls there (decimal k)) (λ t up v is. found t up v is)) missing)

  -- ---- 15.4.4.4

  append_elements_too : {s : Heap} (array n : ℕ) {o : ObjNo} → IsObject s o → (left k : ℕ) → At s Any (B.append_elements (site_of at call) array n o left k)
  append_elements_too array n there zero k = gives_any tt
  append_elements_too array n there (suc left) k = first_any (takes_turn at) (λ _.
      bind_any (if_present_too there k (λ t up v is. make_property_too at calls array (decimal n) is) (gives_any tt)) (λ t up _. append_elements_too array (n + 1) (later_object up there) left (k + 1)))

  append_one_too : {s : Heap} (array n : ℕ) {v : Value} → IsValue s v → At s Any (B.append_item (site_of at call) array n v false)
  append_one_too array n (is_primitive p) = first_any (takes_turn at) (λ _. bind_any (make_property_too at calls array (decimal n) (is_primitive p)) (λ t up _. gives_any 1))
  append_one_too array n (is_object there) = first_any (takes_turn at) (λ _. bind_any (make_property_too at calls array (decimal n) (is_object there)) (λ t up _. gives_any 1))
  append_one_too array n (is_symbol x) = first_any (takes_turn at) (λ _. bind_any (make_property_too at calls array (decimal n) (is_symbol x)) (λ t up _. gives_any 1))

  append_item_too : {s : Heap} (array n : ℕ) {v : Value} → IsValue s v → (b : Bool) → At s Any (B.append_item (site_of at call) array n v b)
  append_item_too array n (is_object there) true = bind_any (length_of_too there) (λ t up l. bind_any (append_elements_too array n (later_object up there) l 0) (λ u more _. gives_any l))
  append_item_too array n (is_primitive p) true = append_one_too array n (is_primitive p)
  append_item_too array n (is_symbol x) true = append_one_too array n (is_symbol x)
  append_item_too array n is false = append_one_too array n is

  append_items_from : {s : Heap} {array : ObjNo} → IsObject s array → (n : ℕ) {vs : List Value} → Values s vs → {t : Heap} → Keeps s t → At t Any (B.append_items (site_of at call) array n vs)
  append_items_from there n none up = put_too at calls (later_object up there) length_key (is_number n) true
  append_items_from {array = array} there n (also {x = v} is all) up = first_any (looks_any (B.is_array_value v)) (λ b. bind_any (append_item_too array n (later up is) b) (λ u more l. append_items_from there (n + l) all (up ⊚ more)))

  append_items_too : {s : Heap} {array : ObjNo} → IsObject s array → (n : ℕ) {vs : List Value} → Values s vs → At s Any (B.append_items (site_of at call) array n vs)
  append_items_too there n all = from_here (λ up. append_items_from there n all up)

  -- ---- 15.4.4.5

  text_at_too : {s : Heap} {o : ObjNo} → IsObject s o → (k : ℕ) → At s IsValue (B.text_at (site_of at call) o k)
  text_at_too there k = bind (get_too at calls there (decimal k)) (λ t up v _. moves (element_text_too at v))

  join_from_too : {s : Heap} {o : ObjNo} → IsObject s o → (between : Value) (left k : ℕ) {joined : Value} → IsValue s joined → At s IsValue (B.join_from (site_of at call) o between left k joined)
  join_from_too there between zero k joined = gives joined
  join_from_too there between (suc left) k {joined = j} joined = first_any (takes_turn at) (λ _. first (plus_too at j between) (λ x _. bind (text_at_too there k) (λ t up next _. first (plus_too at x next) (λ r both.
      join_from_too (later_object up there) between left (k + 1) both))))

  join_all_too : {s : Heap} {o : ObjNo} → IsObject s o → (between : Value) (left : ℕ) → At s IsValue (B.join_all (site_of at call) o between left)
  join_all_too there between zero = gives (is_text [])
  join_all_too there between (suc left) = first_any (takes_turn at) (λ _. bind (text_at_too there 0) (λ t up x is. join_from_too (later_object up there) between left 1 is))

  -- ---- 15.4.4.6 and 15.4.4.7

  pop_from_too : {s : Heap} {o : ObjNo} → IsObject s o → (l : ℕ) → At s IsValue (B.pop_from (site_of at call) o l)
  pop_from_too there zero = bind_any (put_too at calls there length_key (is_number 0) true) (λ t up _. gives is_undefined)
  pop_from_too {o = o} there (suc last) = bind (get_too at calls there (decimal last)) (λ t up v is. bind_any (delete_too at calls o (decimal last) true) (λ u more _.
      bind_any (put_too at calls (later_object (up ⊚ more) there) length_key (is_text (decimal last)) true) (λ w most _. gives (later (more ⊚ most) is))))

  push_all_from : {s : Heap} {o : ObjNo} → IsObject s o → (n : ℕ) {vs : List Value} → Values s vs → {t : Heap} → Keeps s t → At t IsValue (B.push_all (site_of at call) o n vs)
  push_all_from there n none up = bind_any (put_too at calls (later_object up there) length_key (is_number n) true) (λ u more _. gives (is_number n))
  push_all_from there n (also is all) up = first_any (takes_turn at) (λ _. bind_any (put_too at calls (later_object up there) (decimal n) (later up is) true) (λ u more _. push_all_from there (n + 1) all (up ⊚ more)))

  push_all_too : {s : Heap} {o : ObjNo} → IsObject s o → (n : ℕ) {vs : List Value} → Values s vs → At s IsValue (B.push_all (site_of at call) o n vs)
  push_all_too there n all = from_here (λ up. push_all_from there n all up)

  -- ---- 15.4.4.14

  find_from_too : {s : Heap} {o : ObjNo} → IsObject s o → (wanted : Value) (left k : ℕ) → At s IsValue (B.find_from (site_of at call) o wanted left k)
  find_from_too there wanted zero k = gives (is_primitive _)
  find_from_too there wanted (suc left) k = first_any (takes_turn at) (λ _. bind_any (if_present_too there k (λ t up v _. moves (same_value_too at wanted v)) (gives_any false)) (λ t up same.
      chooses same (gives (is_number k)) (find_from_too (later_object up there) wanted left (k + 1))))

  find_in_too : {s : Heap} {o : ObjNo} → IsObject s o → (arguments : List Value) (l : ℕ) → At s IsValue (B.find_in (site_of at call) o arguments l)
  find_in_too there arguments zero = gives (is_primitive _)
  find_in_too there arguments (suc l) = first_any (to_position_too at (argument arguments 1)) (λ n. find_from_too there (argument arguments 0) (suc l - B.position_in (suc l) n) (B.position_in (suc l) n))

  -- ---- 15.4.4.18 to 15.4.4.20

  visit_too : {A : Type 0} {s : Heap} {o : ObjNo} → IsObject s o → {arguments : List Value} → Values s arguments → (f : ℕ → Value → Value → A → Run A)
      → ((t : Heap) → Keeps s t → (k : ℕ) (v answer : Value) → IsValue t v → IsValue t answer → (a : A) → At t Any (f k v answer a)) → {t : Heap} → Keeps s t → (left k : ℕ) (a : A)
      → At t Any (B.visit (site_of at call) o arguments f left k a)
  visit_too there values f h up zero k a = gives_any a
  visit_too {o = o} there {arguments = arguments} values f h up (suc left) k a = first_any (takes_turn at) (λ _.
      bind_any (if_present_too (later_object up there) k (λ u more v is. bind (calls.at (argument arguments 0) (later (up ⊚ more) (argument_too values 1)) (also is (also (is_number k) (also (is_object (later_object (up ⊚ more) there)) none))))
      (λ w most answer other. h w (up ⊚ more ⊚ most) k v answer (later most is) other a)) (gives_any a))
      (λ u more b. visit_too there values f h (up ⊚ more) left (k + 1) b))

  keep_too : {s : Heap} (array k : ℕ) (v answer : Value) → IsValue s v → (n : ℕ) → At s Any (B.keep (site_of at call) array k v answer n)
  keep_too array k v answer is n = first_any (test_too at answer) (λ kept. chooses kept (bind_any (make_property_too at calls array (decimal n) is) (λ t up _. gives_any (n + 1))) (gives_any n))

-- ---- the rules

pub is_array_too : RuleSound B.is_array_rule
unfolding B.is_array_rule
is_array_too = record { at = λ at calls {arguments = arguments} is values. first_any (looks_any (B.is_array_value (argument arguments 0))) (λ b. gives (is_truth b)) }

pub concat_too : RuleSound B.concat
unfolding B.concat
concat_too = record {
  at = λ at calls is values. first (to_object_too at is) (λ o there. bind make_array_too (λ t up array new.
      bind_any (append_items_too at calls new 0 (also (is_object (later_object up there)) (later_values up values))) (λ u more _. gives (is_object (later_object more new)))));
}

pub join_too : RuleSound B.join
unfolding B.join
join_too = record {
  at = λ at calls {arguments = arguments} is values. first (to_object_too at is) (λ o there. bind_any (length_of_too at calls there) (λ t up l.
      first (separator_too at (argument arguments 0)) (λ between _. join_all_too at calls (later_object up there) between l)));
}

pub pop_too : RuleSound B.pop
unfolding B.pop
pop_too = record { at = λ at calls is values. first (to_object_too at is) (λ o there. bind_any (length_of_too at calls there) (λ t up l. pop_from_too at calls (later_object up there) l)) }

pub push_too : RuleSound B.push
unfolding B.push
push_too = record { at = λ at calls is values. first (to_object_too at is) (λ o there. bind_any (length_of_too at calls there) (λ t up l. push_all_too at calls (later_object up there) l (later_values up values))) }

pub slice_too : RuleSound B.slice
unfolding B.slice
slice_too = record {
  at = λ at calls {arguments = arguments} is values. first (to_object_too at is) (λ o there. bind make_array_too (λ t up array new. bind_any (length_of_too at calls (later_object up there)) (λ u more l.
      first_any (to_position_too at (argument arguments 0)) (λ start. first_any (position_too at l (argument arguments 1)) (λ end.
      bind_any (append_elements_too at calls array 0 (later_object (up ⊚ more) there) (end - B.position_in l start) (B.position_in l start)) (λ w most _.
      bind_any (put_too at calls (later_object (more ⊚ most) new) length_key (is_number (end - B.position_in l start)) true) (λ x last _. gives (is_object (later_object (more ⊚ most ⊚ last) new)))))))));
}

pub index_of_too : RuleSound B.index_of
unfolding B.index_of
index_of_too = record { at = λ at calls {arguments = arguments} is values. first (to_object_too at is) (λ o there. bind_any (length_of_too at calls there) (λ t up l. find_in_too at calls (later_object up there) arguments l)) }

pub for_each_too : RuleSound B.for_each
unfolding B.for_each
for_each_too = record {
  at = λ at calls {arguments = arguments} is values. first (to_object_too at is) (λ o there. bind_any (length_of_too at calls there) (λ t up l. first_any (callback_too (argument arguments 0)) (λ _.
      bind_any (from_here (λ here. visit_too at calls (later_object up there) (later_values up values) B.pass_over (λ u more k v answer _ _ a. gives_any tt) here l 0 tt)) (λ u more _. gives is_undefined))));
}

pub map_too : RuleSound B.map_rule
unfolding B.map_rule
map_too = record {
  at = λ at {call} calls {arguments = arguments} is values. first (to_object_too at is) (λ o there. bind_any (length_of_too at calls there) (λ t up l. first_any (callback_too (argument arguments 0)) (λ _.
      bind make_array_too (λ u more array new. bind_any (put_too at calls new length_key (is_number l) true) (λ w most _.
      bind_any (from_here (λ here. visit_too at calls (later_object (up ⊚ more ⊚ most) there) (later_values (up ⊚ more ⊚ most) values) (B.put_answer (site_of at call) array)
      (λ x last k v answer _ other a. make_property_too at calls array (decimal k) other) here l 0 tt))
      (λ x last _. gives (is_object (later_object (most ⊚ last) new))))))));
}

pub filter_too : RuleSound B.filter_rule
unfolding B.filter_rule
filter_too = record {
  at = λ at {call} calls {arguments = arguments} is values. first (to_object_too at is) (λ o there. bind_any (length_of_too at calls there) (λ t up l. first_any (callback_too (argument arguments 0)) (λ _.
      bind make_array_too (λ u more array new.
      bind_any (from_here (λ here. visit_too at calls (later_object (up ⊚ more) there) (later_values (up ⊚ more) values) (B.keep (site_of at call) array) (λ w most k v answer value _ n. keep_too at calls array k v answer value n) here l 0 0))
      (λ w most _. gives (is_object (later_object most new)))))));
}
