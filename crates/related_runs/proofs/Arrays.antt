-- The built-ins of arrays (15.4), in two runs that go together where the calls of values do.
use Rattle.std.proofs.Common.{◌≡◌, refl, subst, ℕ, zero, suc, ◌+◌, ◌-◌, Bool, true, false, List}
use Rattle.std.specs.Prelude.{unsigned_abs, pos}
use Rattle.std.specs.Fmt.{decimal}
use Rattle.js_value.specs.declared.place.Place.{Place}
use Rattle.js_value.specs.declared.primitive.Primitive.TheVariants as primitive
use Rattle.plain_heap.specs.Values.{Value, Prim, ObjNo, number}
use Rattle.plain_heap.specs.Methods.{length_key}
use Rattle.js_machine.specs.Machine.ArrayBuiltins as B
use Rattle.js_machine.specs.Machine.RealmObjects.{TypeError}
use Rattle.js_machine.specs.Machine.ObjectBuiltins.{Rule}
use Rattle.js_machine.specs.Machine.Events.{Run, ◌>>=◌, give, look, turn}
use Rattle.js_machine.specs.Machine.Objects as O
use Rattle.js_machine.specs.Machine.Operators.{to_position}
use Rattle.related_states.specs.Related.{Correspondence, BothEach, none, also, SameValue, known, object, held}
use Rattle.related_states.proofs.Heaps.{array_same}
use Rattle.related_runs.proofs.Related.{TreeRelation, Together, Equal, bind, bind_same, gives, gives_same, looks, takes_turn, chooses}
use Rattle.related_runs.proofs.Operators.{is_boolean, is_number, is_text, Meanings, Seen, plain, objects, symbol, see, test_both, to_string_both, to_list_length_both, to_position_both, plus_both, same_value_both}
use Rattle.related_runs.proofs.Objects.{CallsTogether, site_of, make_array_both, throw_error_both, to_object_both}
use Rattle.related_runs.proofs.Objects as R
use Rattle.related_runs.proofs.Expressions.{callable_both}
use Rattle.related_runs.proofs.Creating.{argument_both}

-- a built-in at two sites whose calls of values go together
pub record RuleTogether {x : Correspondence} (w : TreeRelation x) (rule : Rule) : Type 0 where
  pub at : (at place : Place) {call other : Value → Value → List Value → Run Value} → CallsTogether w call other → {this that : Value} → SameValue x this that → {vs us : List Value} → BothEach (SameValue x) vs us
      → Together w (SameValue x) (rule (site_of at call) this vs) (rule (site_of place other) that us)

number_both : {x : Correspondence} (n : ℕ) → SameValue x (number n) (number n)
number_both n = known (primitive.Number (pos n))

module _ {x : Correspondence} (w : TreeRelation x) (m : Meanings x) (at place : Place) where
  separator_seen : {v u : Value} → Seen x v u → SameValue x v u → Together w (SameValue x) (B.separator at v) (B.separator place u)
  separator_seen (plain primitive.Undefined) r = gives w (known _)
  separator_seen (plain primitive.Null) r = to_string_both w m at place r
  separator_seen (plain (primitive.Boolean b)) r = to_string_both w m at place r
  separator_seen (plain (primitive.Number n)) r = to_string_both w m at place r
  separator_seen (plain (primitive.Text t)) r = to_string_both w m at place r
  separator_seen (objects o) r = to_string_both w m at place r
  separator_seen (symbol (is_boolean b) d) r = to_string_both w m at place r
  separator_seen (symbol (is_number n) d) r = to_string_both w m at place r
  separator_seen (symbol (is_text t) d) r = to_string_both w m at place r

  separator_both : {v u : Value} → SameValue x v u → Together w (SameValue x) (B.separator at v) (B.separator place u)
  separator_both r = separator_seen (see m r) r

  element_text_seen : {v u : Value} → Seen x v u → SameValue x v u → Together w (SameValue x) (B.element_text at v) (B.element_text place u)
  element_text_seen (plain primitive.Undefined) r = gives w (known _)
  element_text_seen (plain primitive.Null) r = gives w (known _)
  element_text_seen (plain (primitive.Boolean b)) r = to_string_both w m at place r
  element_text_seen (plain (primitive.Number n)) r = to_string_both w m at place r
  element_text_seen (plain (primitive.Text t)) r = to_string_both w m at place r
  element_text_seen (objects o) r = to_string_both w m at place r
  element_text_seen (symbol (is_boolean b) d) r = to_string_both w m at place r
  element_text_seen (symbol (is_number n) d) r = to_string_both w m at place r
  element_text_seen (symbol (is_text t) d) r = to_string_both w m at place r

  element_text_both : {v u : Value} → SameValue x v u → Together w (SameValue x) (B.element_text at v) (B.element_text place u)
  element_text_both r = element_text_seen (see m r) r

  position_both : (l : ℕ) {v u : Value} → SameValue x v u → Together w Equal (to_position at v >>= (λ n. give (B.position_in l n))) (to_position place u >>= (λ n. give (B.position_in l n)))
  position_both l r = bind_same w (to_position_both w m at place r) (λ n. gives_same w (B.position_in l n))

  end_position_seen : (l : ℕ) {v u : Value} → Seen x v u → SameValue x v u → Together w Equal (B.end_position at l v) (B.end_position place l u)
  end_position_seen l (plain primitive.Undefined) r = gives_same w l
  end_position_seen l (plain primitive.Null) r = position_both l r
  end_position_seen l (plain (primitive.Boolean b)) r = position_both l r
  end_position_seen l (plain (primitive.Number n)) r = position_both l r
  end_position_seen l (plain (primitive.Text t)) r = position_both l r
  end_position_seen l (objects o) r = position_both l r
  end_position_seen l (symbol (is_boolean b) d) r = position_both l r
  end_position_seen l (symbol (is_number n) d) r = position_both l r
  end_position_seen l (symbol (is_text t) d) r = position_both l r

  end_position_both : (l : ℕ) {v u : Value} → SameValue x v u → Together w Equal (B.end_position at l v) (B.end_position place l u)
  end_position_both l r = end_position_seen l (see m r) r

  callback_both : {f g : Value} → SameValue x f g → Together w Equal (B.callback f) (B.callback g)
  callback_both f = bind_same w (callable_both w m at place f) (λ callable. chooses w callable (gives_same w tt) (throw_error_both w m TypeError))

  array_value_seen : {v u : Value} → Seen x v u → Together w Equal (look (B.is_array_value v)) (look (B.is_array_value u))
  array_value_seen (plain p) = looks w (λ h g same. refl)
  array_value_seen (objects r) = looks w (λ h g same. array_same x h g same r)
  array_value_seen (symbol k d) = looks w (λ h g same. refl)

  array_value_both : {v u : Value} → SameValue x v u → Together w Equal (look (B.is_array_value v)) (look (B.is_array_value u))
  array_value_both r = array_value_seen (see m r)

module _ {x : Correspondence} (w : TreeRelation x) (m : Meanings x) (at place : Place) {call other : Value → Value → List Value → Run Value} (calls : CallsTogether w call other) where
  length_of_both : {o q : ObjNo} → x.Objects o q → Together w Equal (B.length_of (site_of at call) o) (B.length_of (site_of place other) q)
  length_of_both r = bind w (R.get_both_runs w m at place calls r length_key) (λ v u l. bind_same w (to_list_length_both w m at place l) (λ n. gives_same w (unsigned_abs n)))

  if_present_both : {A C : Type 0} {S : A → C → Type 0} {o q : ObjNo} → x.Objects o q → (k : ℕ) {f : Value → Run A} {g : Value → Run C} {n : Run A} {p : Run C} → ((v u : Value) → SameValue x v u → Together w S (f v) (g u)) → Together w S n p
      → Together w S (B.if_present (site_of at call) o k f n) (B.if_present (site_of place other) q k g p)
  if_present_both r k found missing = bind_same w (R.has_property_both w m at place calls r (decimal k)) (λ there. chooses w there (bind w (R.get_both_runs w m at place calls r (decimal k)) (λ v u value. found v u value)) missing)

  -- ---- 15.4.4.4

  append_elements_both : {array other_array : ObjNo} → x.Objects array other_array → (n : ℕ) {o q : ObjNo} → x.Objects o q → (left k : ℕ)
      → Together w Equal (B.append_elements (site_of at call) array n o left k) (B.append_elements (site_of place other) other_array n q left k)
  append_elements_both a n r zero k = gives_same w tt
  append_elements_both a n r (suc left) k = bind w (takes_turn w at place) (λ _ _ _.
      bind w (if_present_both {S = Equal} r k (λ v u value. R.make_property_both w m at place calls a (decimal n) value) (gives_same w tt)) (λ _ _ _. append_elements_both a (n + 1) r left (k + 1)))

  one_item : {array other_array : ObjNo} → x.Objects array other_array → (n : ℕ) {v u : Value} → SameValue x v u
      → Together w Equal (turn at >>= (λ _. O.make_property (site_of at call) array (decimal n) v >>= (λ _. give {A = ℕ} 1))) (turn place >>= (λ _. O.make_property (site_of place other) other_array (decimal n) u >>= (λ _. give {A = ℕ} 1)))
  one_item a n value = bind w (takes_turn w at place) (λ _ _ _. bind w (R.make_property_both w m at place calls a (decimal n) value) (λ _ _ _. gives_same w 1))

  append_item_seen : {array other_array : ObjNo} → x.Objects array other_array → (n : ℕ) {v u : Value} → Seen x v u → SameValue x v u → (is : Bool) → Together w Equal (B.append_item (site_of at call) array n v is) (B.append_item (site_of place other) other_array n u is)
  append_item_seen a n (objects r) v true = bind_same w (length_of_both r) (λ l. bind w (append_elements_both a n r l 0) (λ _ _ _. gives_same w l))
  append_item_seen a n (objects r) v false = one_item a n v
  append_item_seen a n (plain p) v is = one_item a n v
  append_item_seen a n (symbol k d) v is = one_item a n v

  append_item_both : {array other_array : ObjNo} → x.Objects array other_array → (n : ℕ) {v u : Value} → SameValue x v u → (is : Bool) → Together w Equal (B.append_item (site_of at call) array n v is) (B.append_item (site_of place other) other_array n u is)
  append_item_both a n v is = append_item_seen a n (see m v) v is

  append_items_both : {array other_array : ObjNo} → x.Objects array other_array → (n : ℕ) {vs us : List Value} → BothEach (SameValue x) vs us → Together w Equal (B.append_items (site_of at call) array n vs) (B.append_items (site_of place other) other_array n us)
  append_items_both a n none = R.put_runs w m at place calls a length_key (number_both n) true
  append_items_both a n (also v all) = bind_same w (array_value_both w m at place v) (λ is. bind_same w (append_item_both a n v is) (λ l. append_items_both a (n + l) all))

  -- ---- 15.4.4.5

  text_at_both : {o q : ObjNo} → x.Objects o q → (k : ℕ) → Together w (SameValue x) (B.text_at (site_of at call) o k) (B.text_at (site_of place other) q k)
  text_at_both r k = bind w (R.get_both_runs w m at place calls r (decimal k)) (λ v u value. element_text_both w m at place value)

  join_from_both : {o q : ObjNo} → x.Objects o q → {v u : Value} → SameValue x v u → (left k : ℕ) {a b : Value} → SameValue x a b → Together w (SameValue x) (B.join_from (site_of at call) o v left k a) (B.join_from (site_of place other) q u left k b)
  join_from_both r between zero k joined = gives w joined
  join_from_both r between (suc left) k joined = bind w (takes_turn w at place) (λ _ _ _. bind w (plus_both w m at place joined between) (λ _ _ s. bind w (text_at_both r k) (λ _ _ next. bind w (plus_both w m at place s next) (λ _ _ joined.
      join_from_both r between left (k + 1) joined))))

  join_all_both : {o q : ObjNo} → x.Objects o q → {v u : Value} → SameValue x v u → (left : ℕ) → Together w (SameValue x) (B.join_all (site_of at call) o v left) (B.join_all (site_of place other) q u left)
  join_all_both r between zero = gives w (known _)
  join_all_both r between (suc left) = bind w (takes_turn w at place) (λ _ _ _. bind w (text_at_both r 0) (λ _ _ joined. join_from_both r between left 1 joined))

  -- ---- 15.4.4.6

  pop_from_both : {o q : ObjNo} → x.Objects o q → (l : ℕ) → Together w (SameValue x) (B.pop_from (site_of at call) o l) (B.pop_from (site_of place other) q l)
  pop_from_both r zero = bind w (R.put_runs w m at place calls r length_key (number_both 0) true) (λ _ _ _. gives w (known _))
  pop_from_both r (suc last) = bind w (R.get_both_runs w m at place calls r (decimal last)) (λ v u value. bind w (R.delete_runs w m at place calls r (decimal last) true) (λ _ _ _.
      bind w (R.put_runs w m at place calls r length_key (known (primitive.Text (decimal last))) true) (λ _ _ _. gives w value)))

  -- ---- 15.4.4.7

  push_all_both : {o q : ObjNo} → x.Objects o q → (n : ℕ) {vs us : List Value} → BothEach (SameValue x) vs us → Together w (SameValue x) (B.push_all (site_of at call) o n vs) (B.push_all (site_of place other) q n us)
  push_all_both r n none = bind w (R.put_runs w m at place calls r length_key (known _) true) (λ _ _ _. gives w (known _))
  push_all_both r n (also v all) = bind w (takes_turn w at place) (λ _ _ _. bind w (R.put_runs w m at place calls r (decimal n) v true) (λ _ _ _. push_all_both r (n + 1) all))

  -- ---- 15.4.4.14

  find_from_both : {o q : ObjNo} → x.Objects o q → {v u : Value} → SameValue x v u → (left k : ℕ) → Together w (SameValue x) (B.find_from (site_of at call) o v left k) (B.find_from (site_of place other) q u left k)
  find_from_both r v zero k = gives w (known _)
  find_from_both r v (suc left) k = bind w (takes_turn w at place) (λ _ _ _. bind_same w (if_present_both r k (λ a b value. same_value_both w m at place (held v) (held value)) (gives_same w false)) (λ same.
      chooses w same (gives w (number_both k)) (find_from_both r v left (k + 1))))

  find_in_both : {o q : ObjNo} → x.Objects o q → {vs us : List Value} → BothEach (SameValue x) vs us → (l : ℕ) → Together w (SameValue x) (B.find_in (site_of at call) o vs l) (B.find_in (site_of place other) q us l)
  find_in_both r all zero = gives w (known _)
  find_in_both r all (suc l) = bind_same w (to_position_both w m at place (argument_both all 1)) (λ n. find_from_both r (argument_both all 0) (suc l - B.position_in (suc l) n) (B.position_in (suc l) n))

  -- ---- 15.4.4.18 to 15.4.4.20

  visit_both : {A C : Type 0} (S : A → C → Type 0) {o q : ObjNo} → x.Objects o q → {vs us : List Value} → BothEach (SameValue x) vs us → (f : ℕ → Value → Value → A → Run A) (g : ℕ → Value → Value → C → Run C)
      → ((k : ℕ) (v u a b : Value) → SameValue x v u → SameValue x a b → (i : A) (j : C) → S i j → Together w S (f k v a i) (g k u b j))
      → (left k : ℕ) {i : A} {j : C} → S i j → Together w S (B.visit (site_of at call) o vs f left k i) (B.visit (site_of place other) q us g left k j)
  visit_both S r all f g h zero k s = gives w s
  visit_both S r all f g h (suc left) k s = bind w (takes_turn w at place) (λ _ _ _.
      bind w (if_present_both {S = S} r k (λ v u value. bind w (calls.at (argument_both all 0) (argument_both all 1) (also value (also (number_both k) (also (object r) none)))) (λ a b answer. h k v u a b value answer _ _ s)) (gives w s)) (λ i j s.
      visit_both S r all f g h left (k + 1) s))

  keep_both : {array other_array : ObjNo} → x.Objects array other_array → (k : ℕ) (v u a b : Value) → SameValue x v u → SameValue x a b → (i j : ℕ) → i ≡ j → Together w Equal (B.keep (site_of at call) array k v a i) (B.keep (site_of place other) other_array k u b j)
  keep_both {array = array} {other_array = other_array} r k v u a b value answer i j e = subst (λ j. Together w Equal (B.keep (site_of at call) array k v a i) (B.keep (site_of place other) other_array k u b j)) e
      (bind_same w (test_both w m at place answer) (λ kept. chooses w kept (bind w (R.make_property_both w m at place calls r (decimal i) value) (λ _ _ _. gives_same w (i + 1))) (gives_same w i)))

module _ {x : Correspondence} (w : TreeRelation x) (m : Meanings x) where
  -- ---- the rules

  pub is_array_both : RuleTogether w B.is_array_rule
  unfolding B.is_array_rule
  is_array_both = record { at = λ at place calls this all. bind_same w (array_value_both w m at place (argument_both all 0)) (λ is. gives w (known (primitive.Boolean is))) }

  pub concat_both : RuleTogether w B.concat
  unfolding B.concat
  concat_both = record {
    at = λ at place calls this all. bind w (to_object_both w m at place this) (λ o q r. bind w (make_array_both w m) (λ _ _ a.
        bind w (append_items_both w m at place calls a 0 (also (object r) all)) (λ _ _ _. gives w (object a))));
  }

  pub join_both : RuleTogether w B.join
  unfolding B.join
  join_both = record {
    at = λ at place calls this all. bind w (to_object_both w m at place this) (λ o q r. bind_same w (length_of_both w m at place calls r) (λ l.
        bind w (separator_both w m at place (argument_both all 0)) (λ _ _ between. join_all_both w m at place calls r between l)));
  }

  pub pop_both : RuleTogether w B.pop
  unfolding B.pop
  pop_both = record { at = λ at place calls this all. bind w (to_object_both w m at place this) (λ o q r. bind_same w (length_of_both w m at place calls r) (λ l. pop_from_both w m at place calls r l)) }

  pub slice_both : RuleTogether w B.slice
  unfolding B.slice
  slice_both = record {
    at = λ at place calls this all. bind w (to_object_both w m at place this) (λ o q r. bind w (make_array_both w m) (λ _ _ a. bind_same w (length_of_both w m at place calls r) (λ l.
        bind_same w (to_position_both w m at place (argument_both all 0)) (λ start. bind_same w (end_position_both w m at place l (argument_both all 1)) (λ end.
        bind w (append_elements_both w m at place calls a 0 r (end - B.position_in l start) (B.position_in l start)) (λ _ _ _.
        bind w (R.put_runs w m at place calls a length_key (number_both (end - B.position_in l start)) true) (λ _ _ _. gives w (object a))))))));
  }

  pub index_of_both : RuleTogether w B.index_of
  unfolding B.index_of
  index_of_both = record { at = λ at place calls this all. bind w (to_object_both w m at place this) (λ o q r. bind_same w (length_of_both w m at place calls r) (λ l. find_in_both w m at place calls r all l)) }

  pub map_both : RuleTogether w B.map_rule
  unfolding B.map_rule
  map_both = record {
    at = λ at place {call} {other} calls this all. bind w (to_object_both w m at place this) (λ o q r. bind_same w (length_of_both w m at place calls r) (λ l. bind w (callback_both w m at place (argument_both all 0)) (λ _ _ _.
        bind w (make_array_both w m) (λ array other_array a. bind w (R.put_runs w m at place calls a length_key (number_both l) true) (λ _ _ _.
        bind w (visit_both w m at place calls Equal r all (B.put_answer (site_of at call) array) (B.put_answer (site_of place other) other_array) (λ k v u a' b value answer i j e. R.make_property_both w m at place calls a (decimal k) answer) l 0 refl)
        (λ _ _ _. gives w (object a)))))));
  }

  pub push_both : RuleTogether w B.push
  unfolding B.push
  push_both = record { at = λ at place calls this all. bind w (to_object_both w m at place this) (λ o q r. bind_same w (length_of_both w m at place calls r) (λ l. push_all_both w m at place calls r l all)) }

  pub for_each_both : RuleTogether w B.for_each
  unfolding B.for_each
  for_each_both = record {
    at = λ at place calls this all. bind w (to_object_both w m at place this) (λ o q r. bind_same w (length_of_both w m at place calls r) (λ l. bind w (callback_both w m at place (argument_both all 0)) (λ _ _ _.
        bind w (visit_both w m at place calls Equal r all B.pass_over B.pass_over (λ k v u a b value answer i j s. gives_same w tt) l 0 refl) (λ _ _ _. gives w (known primitive.Undefined)))));
  }

  pub filter_both : RuleTogether w B.filter_rule
  unfolding B.filter_rule
  filter_both = record {
    at = λ at place {call} {other} calls this all. bind w (to_object_both w m at place this) (λ o q r. bind_same w (length_of_both w m at place calls r) (λ l. bind w (callback_both w m at place (argument_both all 0)) (λ _ _ _.
        bind w (make_array_both w m) (λ array other_array a.
        bind w (visit_both w m at place calls Equal r all (B.keep (site_of at call) array) (B.keep (site_of place other) other_array) (keep_both w m at place calls a) l 0 {i = 0} {j = 0} refl) (λ _ _ _. gives w (object a))))));
  }
