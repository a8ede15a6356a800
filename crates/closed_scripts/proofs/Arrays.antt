-- The built-ins of arrays are quiet, where the calls of values are.
use Rattle.std.proofs.Common.{ℕ, zero, suc, ◌+◌, ◌-◌, Bool, true, false, List, [], ◌∷◌}
use Rattle.std.specs.Prelude.{unsigned_abs, codes}
use Rattle.std.specs.Fmt.{decimal}
use Rattle.js_value.specs.declared.place.Place.{Place}
use Rattle.js_value.specs.declared.primitive.Primitive.TheVariants as primitive
use Rattle.plain_heap.specs.Values.{Value, Prim, Object, ObjNo, number, text}
use Rattle.plain_heap.specs.Heap.{Array}
use Rattle.plain_heap.specs.Methods.{length_key}
use Rattle.js_machine.specs.Machine.ArrayBuiltins as B
use Rattle.js_machine.specs.Machine.Creating.{argument}
use Rattle.js_machine.specs.Machine.Expressions.{is_callable}
use Rattle.js_machine.specs.Machine.RealmObjects.{TypeError, array_prototype}
use Rattle.js_machine.specs.Machine.Events.{Run}
use Rattle.closed_scripts.specs.Known.{none, also, IsKnown, is_primitive, is_object, is_absent}
use Rattle.closed_scripts.proofs.Quiet.{Quiet, Any, bind, bind_any, gives, gives_any, looks_any, takes_turn, chooses}
use Rattle.closed_scripts.proofs.Making.{argument_too}
use Rattle.closed_scripts.proofs.Objects.{CallsQuiet, Values, site_of, known_undefined, known_truth, make_with_too, throw_error_too, test_too, to_string_too, to_list_length_too, to_position_too, plus_too, same_value_too, to_object_too, get_too, put_too, delete_too, make_property_too, has_property_too}
use Rattle.closed_scripts.proofs.Builtins.{RuleQuiet}

known_number : (n : ℕ) → IsKnown (number n)
known_number n = is_primitive _

known_text : (t : List ℕ) → IsKnown (text t)
known_text t = is_primitive _

module _ (at : Place) where
  separator_too : {v : Value} → IsKnown v → Quiet IsKnown (B.separator at v)
  separator_too (is_primitive primitive.Undefined) = gives (known_text (codes ","))
  separator_too (is_primitive p) = to_string_too at (is_primitive p)
  separator_too (is_object o) = to_string_too at (is_object o)
  separator_too is_absent = to_string_too at is_absent

  element_text_too : {v : Value} → IsKnown v → Quiet IsKnown (B.element_text at v)
  element_text_too (is_primitive primitive.Undefined) = gives (known_text [])
  element_text_too (is_primitive primitive.Null) = gives (known_text [])
  element_text_too (is_primitive p) = to_string_too at (is_primitive p)
  element_text_too (is_object o) = to_string_too at (is_object o)
  element_text_too is_absent = to_string_too at is_absent

  position_too : (l : ℕ) {v : Value} → IsKnown v → Quiet Any (B.end_position at l v)
  position_too l (is_primitive primitive.Undefined) = gives_any l
  position_too l (is_primitive p) = bind_any (to_position_too at (is_primitive p)) (λ n. gives_any (B.position_in l n))
  position_too l (is_object o) = bind_any (to_position_too at (is_object o)) (λ n. gives_any (B.position_in l n))
  position_too l is_absent = bind_any (to_position_too at is_absent) (λ n. gives_any (B.position_in l n))

callback_too : (f : Value) → Quiet Any (B.callback f)
callback_too f = bind_any (looks_any (is_callable f)) (λ callable. chooses callable (gives_any tt) (throw_error_too TypeError))

module _ (at : Place) {call : Value → Value → List Value → Run Value} (calls : CallsQuiet call) where
  length_of_too : (o : ObjNo) → Quiet Any (B.length_of (site_of at call) o)
  length_of_too o = bind (get_too at calls o length_key) (λ l is. bind_any (to_list_length_too at is) (λ n. gives_any (unsigned_abs n)))

  if_present_too : {A : Type 0} {Is : A → Type 0} (o : ObjNo) (k : ℕ) {f : Value → Run A} {m : Run A} → ((v : Value) → IsKnown v → Quiet Is (f v)) → Quiet Is m → Quiet Is (B.if_present (site_of at call) o k f m)
  if_present_too o k found missing = bind_any (has_property_too at calls o (decimal k)) (λ there. chooses there (bind (get_too at calls o (decimal k)) (λ v is. found v is)) missing)

  -- ---- 15.4.4.4

  append_elements_too : (array n : ℕ) (o left k : ℕ) → Quiet Any (B.append_elements (site_of at call) array n o left k)
  append_elements_too array n o zero k = gives_any tt
  append_elements_too array n o (suc left) k = bind_any (takes_turn at) (λ _.
      bind_any (if_present_too o k (λ v is. make_property_too at calls array (decimal n) is) (gives_any tt)) (λ _. append_elements_too array (n + 1) o left (k + 1)))

  append_one_too : (array n : ℕ) {v : Value} → IsKnown v → Quiet Any (B.append_item (site_of at call) array n v false)
  append_one_too array n (is_primitive p) = bind_any (takes_turn at) (λ _. bind_any (make_property_too at calls array (decimal n) (is_primitive p)) (λ _. gives_any 1))
  append_one_too array n (is_object o) = bind_any (takes_turn at) (λ _. bind_any (make_property_too at calls array (decimal n) (is_object o)) (λ _. gives_any 1))
  append_one_too array n is_absent = bind_any (takes_turn at) (λ _. bind_any (make_property_too at calls array (decimal n) is_absent) (λ _. gives_any 1))

  append_item_too : (array n : ℕ) {v : Value} → IsKnown v → (is : Bool) → Quiet Any (B.append_item (site_of at call) array n v is)
  append_item_too array n (is_object o) true = bind_any (length_of_too o) (λ l. bind_any (append_elements_too array n o l 0) (λ _. gives_any l))
  append_item_too array n (is_primitive p) true = append_one_too array n (is_primitive p)
  append_item_too array n is_absent true = append_one_too array n is_absent
  append_item_too array n known false = append_one_too array n known

  append_items_too : (array n : ℕ) {vs : List Value} → Values vs → Quiet Any (B.append_items (site_of at call) array n vs)
  append_items_too array n none = put_too at calls array length_key (known_number n) true
  append_items_too array n (also {x = v} known all) = bind_any (looks_any (B.is_array_value v)) (λ is. bind_any (append_item_too array n known is) (λ l. append_items_too array (n + l) all))

  -- ---- 15.4.4.5

  text_at_too : (o : ObjNo) (k : ℕ) → Quiet IsKnown (B.text_at (site_of at call) o k)
  text_at_too o k = bind (get_too at calls o (decimal k)) (λ v is. element_text_too at is)

  join_from_too : (o : ObjNo) {between : Value} → IsKnown between → (left k : ℕ) {joined : Value} → IsKnown joined → Quiet IsKnown (B.join_from (site_of at call) o between left k joined)
  join_from_too o between zero k joined = gives joined
  join_from_too o between (suc left) k joined = bind_any (takes_turn at) (λ _. bind (plus_too at joined between) (λ s first. bind (text_at_too o k) (λ next second. bind (plus_too at first second) (λ r both.
      join_from_too o between left (k + 1) both))))

  join_all_too : (o : ObjNo) {between : Value} → IsKnown between → (left : ℕ) → Quiet IsKnown (B.join_all (site_of at call) o between left)
  join_all_too o between zero = gives (known_text [])
  join_all_too o between (suc left) = bind_any (takes_turn at) (λ _. bind (text_at_too o 0) (λ first is. join_from_too o between left 1 is))

  -- ---- 15.4.4.6 and 15.4.4.7

  pop_from_too : (o l : ℕ) → Quiet IsKnown (B.pop_from (site_of at call) o l)
  pop_from_too o zero = bind_any (put_too at calls o length_key (known_number 0) true) (λ _. gives known_undefined)
  pop_from_too o (suc last) = bind (get_too at calls o (decimal last)) (λ v is. bind_any (delete_too at calls o (decimal last) true) (λ _.
      bind_any (put_too at calls o length_key (known_text (decimal last)) true) (λ _. gives is)))

  push_all_too : (o n : ℕ) {vs : List Value} → Values vs → Quiet IsKnown (B.push_all (site_of at call) o n vs)
  push_all_too o n none = bind_any (put_too at calls o length_key (known_number n) true) (λ _. gives (known_number n))
  push_all_too o n (also is all) = bind_any (takes_turn at) (λ _. bind_any (put_too at calls o (decimal n) is true) (λ _. push_all_too o (n + 1) all))

  -- ---- 15.4.4.14

  find_from_too : (o : ObjNo) {wanted : Value} → IsKnown wanted → (left k : ℕ) → Quiet IsKnown (B.find_from (site_of at call) o wanted left k)
  find_from_too o wanted zero k = gives (is_primitive _)
  find_from_too o wanted (suc left) k = bind_any (takes_turn at) (λ _. bind_any (if_present_too o k (λ v is. same_value_too at wanted is) (gives_any false)) (λ same.
      chooses same (gives (known_number k)) (find_from_too o wanted left (k + 1))))

  find_in_too : (o : ObjNo) {arguments : List Value} → Values arguments → (l : ℕ) → Quiet IsKnown (B.find_in (site_of at call) o arguments l)
  find_in_too o values zero = gives (is_primitive _)
  find_in_too o values (suc l) = bind_any (to_position_too at (argument_too values 1)) (λ n. find_from_too o (argument_too values 0) (suc l - B.position_in (suc l) n) (B.position_in (suc l) n))

  -- ---- 15.4.4.18 to 15.4.4.20

  visit_too : {A : Type 0} (o : ObjNo) {arguments : List Value} → Values arguments → (f : ℕ → Value → Value → A → Run A) → ((k : ℕ) (v answer : Value) → IsKnown v → IsKnown answer → (a : A) → Quiet Any (f k v answer a))
      → (left k : ℕ) (a : A) → Quiet Any (B.visit (site_of at call) o arguments f left k a)
  visit_too o values f h zero k a = gives_any a
  visit_too o {arguments} values f h (suc left) k a = bind_any (takes_turn at) (λ _.
      bind_any (if_present_too o k (λ v is. bind (calls.at (argument arguments 0) _ (v ∷ number k ∷ Object o ∷ []) (argument_too values 1) (also is (also (known_number k) (also (is_object o) none)))) (λ answer known. h k v answer is known a)) (gives_any a))
      (λ b. visit_too o values f h left (k + 1) b))

  keep_too : (array k : ℕ) (v answer : Value) → IsKnown v → IsKnown answer → (n : ℕ) → Quiet Any (B.keep (site_of at call) array k v answer n)
  keep_too array k v answer is known n = bind_any (test_too at known) (λ kept. chooses kept (bind_any (make_property_too at calls array (decimal n) is) (λ _. gives_any (n + 1))) (gives_any n))

-- ---- the rules

pub is_array_too : RuleQuiet B.is_array_rule
unfolding B.is_array_rule
is_array_too = record { at = λ at calls is {arguments} values. bind_any (looks_any (B.is_array_value (argument arguments 0))) (λ is. gives (known_truth is)) }

pub concat_too : RuleQuiet B.concat
unfolding B.concat
concat_too = record {
  at = λ at calls {this} is values. bind (to_object_too at this) (λ o _. bind (make_with_too Array array_prototype) (λ array _.
      bind_any (append_items_too at calls array 0 (also (is_object o) values)) (λ _. gives (is_object array))));
}

pub join_too : RuleQuiet B.join
unfolding B.join
join_too = record {
  at = λ at calls {this} is values. bind (to_object_too at this) (λ o _. bind_any (length_of_too at calls o) (λ l.
      bind (separator_too at (argument_too values 0)) (λ between known. join_all_too at calls o known l)));
}

pub pop_too : RuleQuiet B.pop
unfolding B.pop
pop_too = record { at = λ at calls {this} is values. bind (to_object_too at this) (λ o _. bind_any (length_of_too at calls o) (λ l. pop_from_too at calls o l)) }

pub push_too : RuleQuiet B.push
unfolding B.push
push_too = record { at = λ at calls {this} is values. bind (to_object_too at this) (λ o _. bind_any (length_of_too at calls o) (λ l. push_all_too at calls o l values)) }

pub slice_too : RuleQuiet B.slice
unfolding B.slice
slice_too = record {
  at = λ at calls {this} is values. bind (to_object_too at this) (λ o _. bind (make_with_too Array array_prototype) (λ array _. bind_any (length_of_too at calls o) (λ l.
      bind_any (to_position_too at (argument_too values 0)) (λ start. bind_any (position_too at l (argument_too values 1)) (λ end.
      bind_any (append_elements_too at calls array 0 o (end - B.position_in l start) (B.position_in l start)) (λ _.
      bind_any (put_too at calls array length_key (known_number (end - B.position_in l start)) true) (λ _. gives (is_object array))))))));
}

pub index_of_too : RuleQuiet B.index_of
unfolding B.index_of
index_of_too = record { at = λ at calls {this} is values. bind (to_object_too at this) (λ o _. bind_any (length_of_too at calls o) (λ l. find_in_too at calls o values l)) }

pub for_each_too : RuleQuiet B.for_each
unfolding B.for_each
for_each_too = record {
  at = λ at calls {this} is {arguments} values. bind (to_object_too at this) (λ o _. bind_any (length_of_too at calls o) (λ l. bind_any (callback_too (argument arguments 0)) (λ _.
      bind_any (visit_too at calls o values B.pass_over (λ k v answer is known a. gives_any tt) l 0 tt) (λ _. gives known_undefined))));
}

pub map_too : RuleQuiet B.map_rule
unfolding B.map_rule
map_too = record {
  at = λ at {call} calls {this} is {arguments} values. bind (to_object_too at this) (λ o _. bind_any (length_of_too at calls o) (λ l. bind_any (callback_too (argument arguments 0)) (λ _.
      bind (make_with_too Array array_prototype) (λ array _. bind_any (put_too at calls array length_key (known_number l) true) (λ _.
      bind_any (visit_too at calls o values (B.put_answer (site_of at call) array) (λ k v answer is known a. make_property_too at calls array (decimal k) known) l 0 tt)
      (λ _. gives (is_object array)))))));
}

pub filter_too : RuleQuiet B.filter_rule
unfolding B.filter_rule
filter_too = record {
  at = λ at {call} calls {this} is {arguments} values. bind (to_object_too at this) (λ o _. bind_any (length_of_too at calls o) (λ l. bind_any (callback_too (argument arguments 0)) (λ _.
      bind (make_with_too Array array_prototype) (λ array _.
      bind_any (visit_too at calls o values (B.keep (site_of at call) array) (keep_too at calls array) l 0 0) (λ _. gives (is_object array))))));
}
