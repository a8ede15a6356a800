-- The built-ins of arrays do alike, where the calls of values do.
use Rattle.std.proofs.Common.{ℕ, zero, suc, ◌+◌, ◌-◌, Bool, true, false, List, [], ◌∷◌}
use Rattle.std.specs.Prelude.{unsigned_abs, codes}
use Rattle.std.specs.Fmt.{decimal}
use Rattle.js_value.specs.declared.place.Place.{Place}
use Rattle.js_value.specs.declared.primitive.Primitive.TheVariants as primitive
use Rattle.plain_heap.specs.Values.{Value, Prim, Object, ObjNo, undefined, number, text, truth}
use Rattle.plain_heap.specs.Heap.{Array}
use Rattle.plain_heap.specs.Methods.{length_key}
use Rattle.js_machine.specs.Machine.ArrayBuiltins as B
use Rattle.js_machine.specs.Machine.Expressions.{is_callable}
use Rattle.js_machine.specs.Machine.RealmObjects.{TypeError, array_prototype}
use Rattle.js_machine.specs.Machine.Events.{Run}
use Rattle.machine_laws.proofs.Alike.{TreeRelation, Alike, bind, gives, looks, takes_turn, chooses}
use Rattle.machine_laws.proofs.AlikeObjects.{CallsAlike, site_of, make_with_too, throw_error_too, test_too, to_string_too, to_list_length_too, to_position_too, plus_too, same_value_too, to_object_too}
use Rattle.machine_laws.proofs.AlikeObjects.{get_too, put_too, delete_too, make_property_too, has_property_too}
use Rattle.machine_laws.proofs.AlikeBuiltins.{RuleAlike}
use Rattle.js_machine.specs.Machine.Creating.{argument}

module _ (w : TreeRelation) (at : Place) where
  separator_too : (v : Value) → Alike w (B.separator at v) (B.separator at v)
  separator_too (Prim primitive.Undefined) = gives w (text (codes ","))
  separator_too v = to_string_too w at v

  element_text_too : (v : Value) → Alike w (B.element_text at v) (B.element_text at v)
  element_text_too (Prim primitive.Undefined) = gives w (text [])
  element_text_too (Prim primitive.Null) = gives w (text [])
  element_text_too v = to_string_too w at v

  end_position_too : (l : ℕ) (v : Value) → Alike w (B.end_position at l v) (B.end_position at l v)
  end_position_too l (Prim primitive.Undefined) = gives w l
  end_position_too l v = bind w (to_position_too w at v) (λ n. gives w (B.position_in l n))

module _ (w : TreeRelation) where
  callback_too : (f : Value) → Alike w (B.callback f) (B.callback f)
  callback_too f = bind w (looks w (is_callable f)) (λ callable. chooses w callable (gives w tt) (throw_error_too w TypeError))

module _ (w : TreeRelation) (at : Place) {call other : Value → Value → List Value → Run Value} (calls : CallsAlike w call other) where
  length_of_too : (o : ObjNo) → Alike w (B.length_of (site_of at call) o) (B.length_of (site_of at other) o)
  length_of_too o = bind w (get_too w at calls o length_key) (λ l. bind w (to_list_length_too w at l) (λ n. gives w (unsigned_abs n)))

  if_present_too : {A : Type 0} (o : ObjNo) (k : ℕ) {f g : Value → Run A} {m n : Run A} → ((v : Value) → Alike w (f v) (g v)) → Alike w m n
      → Alike w (B.if_present (site_of at call) o k f m) (B.if_present (site_of at other) o k g n)
  if_present_too o k found missing = bind w (has_property_too w at calls o (decimal k)) (λ there. chooses w there (bind w (get_too w at calls o (decimal k)) (λ v. found v)) missing)

  -- ---- 15.4.4.4

  append_elements_too : (array n : ℕ) (o left k : ℕ) → Alike w (B.append_elements (site_of at call) array n o left k) (B.append_elements (site_of at other) array n o left k)
  append_elements_too array n o zero k = gives w tt
  append_elements_too array n o (suc left) k = bind w (takes_turn w at) (λ _.
      bind w (if_present_too o k (λ v. make_property_too w at calls array (decimal n) v) (gives w tt)) (λ _. append_elements_too array (n + 1) o left (k + 1)))

  append_item_too : (array n : ℕ) (v : Value) (is : Bool) → Alike w (B.append_item (site_of at call) array n v is) (B.append_item (site_of at other) array n v is)
  append_item_too array n (Object o) true = bind w (length_of_too o) (λ l. bind w (append_elements_too array n o l 0) (λ _. gives w l))
  append_item_too array n v is = bind w (takes_turn w at) (λ _. bind w (make_property_too w at calls array (decimal n) v) (λ _. gives w 1))

  append_items_too : (array n : ℕ) (vs : List Value) → Alike w (B.append_items (site_of at call) array n vs) (B.append_items (site_of at other) array n vs)
  append_items_too array n [] = put_too w at calls array length_key (number n) true
  append_items_too array n (v ∷ vs) = bind w (looks w (B.is_array_value v)) (λ is. bind w (append_item_too array n v is) (λ l. append_items_too array (n + l) vs))

  -- ---- 15.4.4.5

  text_at_too : (o : ObjNo) (k : ℕ) → Alike w (B.text_at (site_of at call) o k) (B.text_at (site_of at other) o k)
  text_at_too o k = bind w (get_too w at calls o (decimal k)) (λ v. element_text_too w at v)

  join_from_too : (o : ObjNo) (between : Value) (left k : ℕ) (joined : Value) → Alike w (B.join_from (site_of at call) o between left k joined) (B.join_from (site_of at other) o between left k joined)
  join_from_too o between zero k joined = gives w joined
  join_from_too o between (suc left) k joined = bind w (takes_turn w at) (λ _. bind w (plus_too w at joined between) (λ s. bind w (text_at_too o k) (λ next. bind w (plus_too w at s next) (λ r.
      join_from_too o between left (k + 1) r))))

  join_all_too : (o : ObjNo) (between : Value) (left : ℕ) → Alike w (B.join_all (site_of at call) o between left) (B.join_all (site_of at other) o between left)
  join_all_too o between zero = gives w (text [])
  join_all_too o between (suc left) = bind w (takes_turn w at) (λ _. bind w (text_at_too o 0) (λ first. join_from_too o between left 1 first))

  -- ---- 15.4.4.6 and 15.4.4.7

  pop_from_too : (o l : ℕ) → Alike w (B.pop_from (site_of at call) o l) (B.pop_from (site_of at other) o l)
  pop_from_too o zero = bind w (put_too w at calls o length_key (number 0) true) (λ _. gives w undefined)
  pop_from_too o (suc last) = bind w (get_too w at calls o (decimal last)) (λ v. bind w (delete_too w at calls o (decimal last) true) (λ _.
      bind w (put_too w at calls o length_key (text (decimal last)) true) (λ _. gives w v)))

  push_all_too : (o n : ℕ) (vs : List Value) → Alike w (B.push_all (site_of at call) o n vs) (B.push_all (site_of at other) o n vs)
  push_all_too o n [] = bind w (put_too w at calls o length_key (number n) true) (λ _. gives w (number n))
  push_all_too o n (v ∷ vs) = bind w (takes_turn w at) (λ _. bind w (put_too w at calls o (decimal n) v true) (λ _. push_all_too o (n + 1) vs))

  -- ---- 15.4.4.10

  -- ---- 15.4.4.14

  find_from_too : (o : ObjNo) (wanted : Value) (left k : ℕ) → Alike w (B.find_from (site_of at call) o wanted left k) (B.find_from (site_of at other) o wanted left k)
  find_from_too o wanted zero k = gives w B.minus_one
  find_from_too o wanted (suc left) k = bind w (takes_turn w at) (λ _. bind w (if_present_too o k (λ v. same_value_too w at wanted v) (gives w false)) (λ same.
      chooses w same (gives w (number k)) (find_from_too o wanted left (k + 1))))

  find_in_too : (o : ObjNo) (arguments : List Value) (l : ℕ) → Alike w (B.find_in (site_of at call) o arguments l) (B.find_in (site_of at other) o arguments l)
  find_in_too o arguments zero = gives w B.minus_one
  find_in_too o arguments l = bind w (to_position_too w at (argument arguments 1)) (λ n. find_from_too o (argument arguments 0) (l - B.position_in l n) (B.position_in l n))

  -- ---- 15.4.4.18 to 15.4.4.20

  visit_too : {A : Type 0} (o : ObjNo) (arguments : List Value) (f g : ℕ → Value → Value → A → Run A) → ((k : ℕ) (v answer : Value) (a : A) → Alike w (f k v answer a) (g k v answer a))
      → (left k : ℕ) (a : A) → Alike w (B.visit (site_of at call) o arguments f left k a) (B.visit (site_of at other) o arguments g left k a)
  visit_too o arguments f g h zero k a = gives w a
  visit_too o arguments f g h (suc left) k a = bind w (takes_turn w at) (λ _.
      bind w (if_present_too o k (λ v. bind w (calls.at (argument arguments 0) (argument arguments 1) (v ∷ number k ∷ Object o ∷ [])) (λ answer. h k v answer a)) (gives w a)) (λ b.
      visit_too o arguments f g h left (k + 1) b))

  keep_too : (array k : ℕ) (v answer : Value) (n : ℕ) → Alike w (B.keep (site_of at call) array k v answer n) (B.keep (site_of at other) array k v answer n)
  keep_too array k v answer n = bind w (test_too w at answer) (λ kept. chooses w kept (bind w (make_property_too w at calls array (decimal n) v) (λ _. gives w (n + 1))) (gives w n))

module _ (w : TreeRelation) where
  -- ---- the rules

  pub is_array_too : RuleAlike w B.is_array_rule
  unfolding B.is_array_rule
  is_array_too = record { at = λ at calls this arguments. bind w (looks w (B.is_array_value (argument arguments 0))) (λ is. gives w (truth is)) }

  pub concat_too : RuleAlike w B.concat
  unfolding B.concat
  concat_too = record {
    at = λ at calls this arguments. bind w (to_object_too w at this) (λ o. bind w (make_with_too w Array array_prototype) (λ array.
        bind w (append_items_too w at calls array 0 (Object o ∷ arguments)) (λ _. gives w (Object array))));
  }

  pub join_too : RuleAlike w B.join
  unfolding B.join
  join_too = record {
    at = λ at calls this arguments. bind w (to_object_too w at this) (λ o. bind w (length_of_too w at calls o) (λ l.
        bind w (separator_too w at (argument arguments 0)) (λ between. join_all_too w at calls o between l)));
  }

  pub pop_too : RuleAlike w B.pop
  unfolding B.pop
  pop_too = record { at = λ at calls this arguments. bind w (to_object_too w at this) (λ o. bind w (length_of_too w at calls o) (λ l. pop_from_too w at calls o l)) }

  pub push_too : RuleAlike w B.push
  unfolding B.push
  push_too = record { at = λ at calls this arguments. bind w (to_object_too w at this) (λ o. bind w (length_of_too w at calls o) (λ l. push_all_too w at calls o l arguments)) }

  pub slice_too : RuleAlike w B.slice
  unfolding B.slice
  slice_too = record {
    at = λ at calls this arguments. bind w (to_object_too w at this) (λ o. bind w (make_with_too w Array array_prototype) (λ array. bind w (length_of_too w at calls o) (λ l.
        bind w (to_position_too w at (argument arguments 0)) (λ start. bind w (end_position_too w at l (argument arguments 1)) (λ end.
        bind w (append_elements_too w at calls array 0 o (end - B.position_in l start) (B.position_in l start)) (λ _.
        bind w (put_too w at calls array length_key (number (end - B.position_in l start)) true) (λ _. gives w (Object array))))))));
  }

  pub index_of_too : RuleAlike w B.index_of
  unfolding B.index_of
  index_of_too = record { at = λ at calls this arguments. bind w (to_object_too w at this) (λ o. bind w (length_of_too w at calls o) (λ l. find_in_too w at calls o arguments l)) }

  pub for_each_too : RuleAlike w B.for_each
  unfolding B.for_each
  for_each_too = record {
    at = λ at calls this arguments. bind w (to_object_too w at this) (λ o. bind w (length_of_too w at calls o) (λ l. bind w (callback_too w (argument arguments 0)) (λ _.
        bind w (visit_too w at calls o arguments B.pass_over B.pass_over (λ k v answer a. gives w tt) l 0 tt) (λ _. gives w undefined))));
  }

  pub map_too : RuleAlike w B.map_rule
  unfolding B.map_rule
  map_too = record {
    at = λ at {call} {other} calls this arguments. bind w (to_object_too w at this) (λ o. bind w (length_of_too w at calls o) (λ l. bind w (callback_too w (argument arguments 0)) (λ _.
        bind w (make_with_too w Array array_prototype) (λ array. bind w (put_too w at calls array length_key (number l) true) (λ _.
        bind w (visit_too w at calls o arguments (B.put_answer (site_of at call) array) (B.put_answer (site_of at other) array) (λ k v answer a. make_property_too w at calls array (decimal k) answer) l 0 tt)
        (λ _. gives w (Object array)))))));
  }

  pub filter_too : RuleAlike w B.filter_rule
  unfolding B.filter_rule
  filter_too = record {
    at = λ at {call} {other} calls this arguments. bind w (to_object_too w at this) (λ o. bind w (length_of_too w at calls o) (λ l. bind w (callback_too w (argument arguments 0)) (λ _.
        bind w (make_with_too w Array array_prototype) (λ array.
        bind w (visit_too w at calls o arguments (B.keep (site_of at call) array) (B.keep (site_of at other) array) (keep_too w at calls array) l 0 0) (λ _. gives w (Object array))))));
  }
