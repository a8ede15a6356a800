-- The built-ins of arrays (15.4), each by the numbered steps of its clause. Each element that is visited is a turn, which begins
-- before the element is read; holes are visited too.
use Rattle.std.specs.Prelude.{ℕ, zero, suc, ◌+◌, ◌-◌, ◌∷◌, min, int_lt, ℤ, pos, neg_ℤ, unsigned_abs, Bool, true, false, if◌then◌else◌, List, [], codes}
use Rattle.std.specs.Fmt.{decimal}
use Rattle.js_value.specs.declared.place.Place.{Place}
use Rattle.js_value.specs.declared.primitive.Primitive.TheVariants as primitive
use Rattle.plain_heap.specs.Values.{Value, Prim, Object, ObjNo, undefined, number, text, truth}
use Rattle.plain_heap.specs.Heap.{Heap, is_array}
use Rattle.plain_heap.specs.Methods.{length_key}
use Rattle.js_machine.specs.Machine.Expressions.{is_callable}
use Rattle.js_machine.specs.Machine.RealmObjects.{TypeError}
use Rattle.js_machine.specs.Machine.ObjectBuiltins.{Rule}
use Rattle.js_machine.specs.Machine.Objects.{Site, make_array, throw_error, get, put, delete, make_property, has_property, to_object}
use Rattle.js_machine.specs.Machine.Operators.{test, same_value, to_string, to_list_length, to_position, plus}
use Rattle.js_machine.specs.Machine.Events.{◌>>=◌, Run, give, turn, look, choose}
use Rattle.js_machine.specs.Machine.Creating.{argument}

-- ToUint32 of the length of an object, as most steps 2 and 3 take it
abbrev pub length_got : Site → Value → Run ℕ
length_got site l = do
  n ← to_list_length site.at l
  give (unsigned_abs n)

abbrev pub length_of : Site → ObjNo → Run ℕ
length_of site o = do
  l ← get site o length_key
  length_got site l

-- what is done with the element at a position, if the object has one there
abbrev pub with_element : {A : Type 0} → Site → ObjNo → ℕ → (Value → Run A) → Run A
with_element site o k found = do
  v ← get site o (decimal k)
  found v

abbrev pub if_present : {A : Type 0} → Site → ObjNo → ℕ → (Value → Run A) → Run A → Run A
if_present site o k found missing = do
  there ← has_property site o (decimal k)
  choose there (with_element site o k found) missing

-- ---- 15.4.3.2

abbrev pub is_array_value : Value → Heap → Bool
is_array_value (Object o) h = is_array h o
is_array_value v h = false

unfoldable pub is_array_rule : Rule
is_array_rule site this arguments = do
  is ← look (is_array_value (argument arguments 0))
  give (truth is)

-- ---- 15.4.4.4: concat

-- steps 5.b.iii: the elements of an array from a position on, of which so many are left, go to positions from n on
abbrev pub append_elements : Site → ObjNo → ℕ → ObjNo → ℕ → ℕ → Run (Unit {0})
append_elements site array n o zero k = give tt
append_elements site array n o (suc left) k = do
  _ ← turn site.at
  _ ← if_present site o k (make_property site array (decimal n)) (give tt)
  append_elements site array (n + 1) o left (k + 1)

-- step 5.b: how many positions an item takes
abbrev pub append_array : Site → ObjNo → ℕ → ObjNo → ℕ → Run ℕ
append_array site array n o l = do
  _ ← append_elements site array n o l 0
  give l

abbrev pub append_item : Site → ObjNo → ℕ → Value → Bool → Run ℕ
append_item site array n (Object o) true = do
  l ← length_of site o
  append_array site array n o l
append_item site array n v is = do
  _ ← turn site.at
  _ ← make_property site array (decimal n) v
  give 1

-- step 5; the length is set at the end, which is this project's own
abbrev pub append_items : Site → ObjNo → ℕ → List Value → Run (Unit {0})
append_items site array n [] = put site array length_key (number n) true
append_items site array n (v ∷ vs) = do
  is ← look (is_array_value v)
  l ← append_item site array n v is
  append_items site array (n + l) vs

unfoldable pub concat : Rule
concat site this arguments = do
  o ← to_object site.at this
  array ← make_array
  _ ← append_items site array 0 (Object o ∷ arguments)
  give (Object array)

-- ---- 15.4.4.5: join, by the operator `+` from left to right

-- steps 4 and 5
abbrev pub separator : Place → Value → Run Value
separator at (Prim primitive.Undefined) = give (text (codes ","))
separator at v = to_string at v

-- steps 7, 8, 10.c and 10.d
abbrev pub element_text : Place → Value → Run Value
element_text at (Prim primitive.Undefined) = give (text [])
element_text at (Prim primitive.Null) = give (text [])
element_text at v = to_string at v

abbrev pub text_at : Site → ObjNo → ℕ → Run Value
text_at site o k = do
  v ← get site o (decimal k)
  element_text site.at v

-- step 10: the elements from a position on, of which so many are left; `again` is the rest behind this one
abbrev pub join_got : Site → (Value → Run Value) → Value → Value → Run Value
join_got site again s next = do
  r ← plus site.at s next
  again r

abbrev pub join_from : Site → ObjNo → Value → ℕ → ℕ → Value → Run Value
join_from site o between zero k joined = give joined
join_from site o between (suc left) k joined = do
  _ ← turn site.at
  s ← plus site.at joined between
  next ← text_at site o k
  join_got site (join_from site o between left (k + 1)) s next

-- steps 6 to 11; the first element is a turn as well
abbrev pub join_all : Site → ObjNo → Value → ℕ → Run Value
join_all site o between zero = give (text [])
join_all site o between (suc left) = do
  _ ← turn site.at
  first ← text_at site o 0
  join_from site o between left 1 first

abbrev pub join_by : Site → ObjNo → List Value → ℕ → Run Value
join_by site o arguments l = do
  between ← separator site.at (argument arguments 0)
  join_all site o between l

unfoldable pub join : Rule
join site this arguments = do
  o ← to_object site.at this
  l ← length_of site o
  join_by site o arguments l

-- ---- 15.4.4.6: pop

-- step 5; the new length is put as a text
abbrev pub pop_got : Site → ObjNo → ℕ → Value → Run Value
pop_got site o last v = do
  _ ← delete site o (decimal last) true
  _ ← put site o length_key (text (decimal last)) true
  give v

abbrev pub pop_from : Site → ObjNo → ℕ → Run Value
pop_from site o zero = do
  _ ← put site o length_key (number 0) true
  give undefined
pop_from site o (suc last) = do
  v ← get site o (decimal last)
  pop_got site o last v

unfoldable pub pop : Rule
pop site this arguments = do
  o ← to_object site.at this
  l ← length_of site o
  pop_from site o l

-- ---- 15.4.4.7: push

-- step 5: each argument is a turn
abbrev pub push_all : Site → ObjNo → ℕ → List Value → Run Value
push_all site o n [] = do
  _ ← put site o length_key (number n) true
  give (number n)
push_all site o n (v ∷ vs) = do
  _ ← turn site.at
  _ ← put site o (decimal n) v true
  push_all site o (n + 1) vs

unfoldable pub push : Rule
push site this arguments = do
  o ← to_object site.at this
  l ← length_of site o
  push_all site o l arguments

-- ---- 15.4.4.10: slice

-- steps 6 and 8: a position from the end where it is negative, and none beyond either end
abbrev pub position_in : ℕ → ℤ → ℕ
position_in l n = if int_lt n (pos 0) then l - unsigned_abs n else min (unsigned_abs n) l

-- step 7
abbrev pub end_position : Place → ℕ → Value → Run ℕ
end_position at l (Prim primitive.Undefined) = give l
end_position at l v = do
  n ← to_position at v
  give (position_in l n)

-- the elements from a position on, of which there are so many
abbrev pub slice_from : Site → ObjNo → ObjNo → ℕ → ℕ → Run Value
slice_from site o array start count = do
  _ ← append_elements site array 0 o count start
  _ ← put site array length_key (number count) true
  give (Object array)

abbrev pub slice_of : Site → ObjNo → List Value → ObjNo → ℕ → Run Value
slice_of site o arguments array l = do
  start ← to_position site.at (argument arguments 0)
  end ← end_position site.at l (argument arguments 1)
  slice_from site o array (position_in l start) (end - position_in l start)

unfoldable pub slice : Rule
slice site this arguments = do
  o ← to_object site.at this
  array ← make_array
  l ← length_of site o
  slice_of site o arguments array l

-- ---- 15.4.4.14: indexOf

abbrev pub minus_one : Value
minus_one = Prim (primitive.Number (neg_ℤ (pos 1)))

-- step 9
abbrev pub find_from : Site → ObjNo → Value → ℕ → ℕ → Run Value
find_from site o wanted zero k = give minus_one
find_from site o wanted (suc left) k = do
  _ ← turn site.at
  same ← if_present site o k (same_value site.at wanted) (give false)
  choose same (give (number k)) (find_from site o wanted left (k + 1))

-- steps 4 to 8
abbrev pub find_in : Site → ObjNo → List Value → ℕ → Run Value
find_in site o arguments zero = give minus_one
find_in site o arguments l = do
  n ← to_position site.at (argument arguments 1)
  find_from site o (argument arguments 0) (l - position_in l n) (position_in l n)

unfoldable pub index_of : Rule
index_of site this arguments = do
  o ← to_object site.at this
  l ← length_of site o
  find_in site o arguments l

-- ---- 15.4.4.18 to 15.4.4.20

abbrev pub callback : Value → Run (Unit {0})
callback f = do
  callable ← look (is_callable f)
  choose callable (give tt) (throw_error TypeError)

-- the elements from a position on, of which so many are left: each that is there goes to the callback, and what that gives is used
abbrev pub visit_element : {A : Type 0} → Site → ObjNo → List Value → (ℕ → Value → Value → A → Run A) → ℕ → A → Value → Run A
visit_element site o arguments then_do k a v = do
  answer ← site.call (argument arguments 0) (argument arguments 1) (v ∷ number k ∷ Object o ∷ [])
  then_do k v answer a

abbrev pub visit : {A : Type 0} → Site → ObjNo → List Value → (ℕ → Value → Value → A → Run A) → ℕ → ℕ → A → Run A
visit site o arguments then_do zero k a = give a
visit site o arguments then_do (suc left) k a = do
  _ ← turn site.at
  b ← if_present site o k (visit_element site o arguments then_do k a) (give a)
  visit site o arguments then_do left (k + 1) b

abbrev pub pass_over : ℕ → Value → Value → Unit {0} → Run (Unit {0})
pass_over k v answer a = give tt

-- 15.4.4.18
abbrev pub for_each_of : Site → ObjNo → List Value → ℕ → Run Value
for_each_of site o arguments l = do
  _ ← callback (argument arguments 0)
  _ ← visit site o arguments pass_over l 0 tt
  give undefined

unfoldable pub for_each : Rule
for_each site this arguments = do
  o ← to_object site.at this
  l ← length_of site o
  for_each_of site o arguments l

-- 15.4.4.19, step 8.c.iii
abbrev pub put_answer : Site → ObjNo → ℕ → Value → Value → Unit {0} → Run (Unit {0})
put_answer site array k v answer a = make_property site array (decimal k) answer

abbrev pub map_of : Site → ObjNo → List Value → ℕ → Run Value
map_of site o arguments l = do
  _ ← callback (argument arguments 0)
  array ← make_array
  _ ← put site array length_key (number l) true
  _ ← visit site o arguments (put_answer site array) l 0 tt
  give (Object array)

unfoldable pub map_rule : Rule
map_rule site this arguments = do
  o ← to_object site.at this
  l ← length_of site o
  map_of site o arguments l

-- 15.4.4.20, step 9.c: how many elements are kept so far
abbrev pub keep : Site → ObjNo → ℕ → Value → Value → ℕ → Run ℕ
keep site array k v answer n = do
  kept ← test site.at answer
  choose kept (do
    _ ← make_property site array (decimal n) v
    give (n + 1)) (give n)

abbrev pub filter_of : Site → ObjNo → List Value → ℕ → Run Value
filter_of site o arguments l = do
  _ ← callback (argument arguments 0)
  array ← make_array
  _ ← visit site o arguments (keep site array) l 0 0
  give (Object array)

unfoldable pub filter_rule : Rule
filter_rule site this arguments = do
  o ← to_object site.at this
  l ← length_of site o
  filter_of site o arguments l
