-- Properties and [[DefineOwnProperty]] (8.12.9, 15.4.5.1) of two objects that correspond.
use Rattle.std.proofs.Common.{◌≡◌, refl, ap, sym, subst, ◌∙◌, ℕ, Bool, true, false, cond}
use Rattle.std.specs.Prelude.{◌+◌, ◌||◌, not, max, nat_eq, nat_le, nat_lt, is_some, unwrap_or, Option, Some, None}
use Rattle.std.specs.List.{filter}
use Rattle.std.specs.Option.{option_map}
use Rattle.js_value.specs.Conversions.{is_same_text}
use Rattle.js_value.specs.declared.primitive.Primitive.TheVariants as primitive
use Rattle.plain_heap.specs.Values.{Value, ObjNo, undefined, number}
use Rattle.plain_heap.specs.Heap.{Key, Property, Properties, DataProperty, ObjectState, is_configurable, is_enumerable, is_array_class, lookup, put_at, without}
use Rattle.plain_heap.specs.Methods as M
use Rattle.plain_heap.specs.Methods.{Descriptor, Defining, Defined, Rejected, BadLength, IfSame, length_key, length_of, value_field, no_fields, array_index}
use Rattle.plain_heap.proofs.Properties.{same_as}
use Rattle.related_states.specs.Related.{Correspondence, BothOption, nothing, just, BothEach, none, also, known, SameHeld, held, SameProperty, same_data, same_accessor, number_in, SameEntry, entry, SameState, same_state, same_array, SameDescriptor, same_fields, SameLength, SameDefining, same_defined, same_rejected, same_bad_length, same_if}

-- ---- choices

pub both : {A B : Type 0} (R : A → B → Type 0) {a c : A} {b d : B} (t : Bool) → R a b → R c d → R (cond t a c) (cond t b d)
both R true h l = h
both R false h l = l

pub both_by : {A B : Type 0} (R : A → B → Type 0) {a c : A} {b d : B} {t u : Bool} → t ≡ u → R a b → R c d → R (cond t a c) (cond u b d)
both_by R {a = a} {c = c} {b = b} {d = d} {t = t} e h l = subst (λ u. R (cond t a c) (cond u b d)) e (both R t h l)

both_if : {A B : Type 0} (R : A → B → Type 0) {a c : A} {b d : B} (t : Bool) → (t ≡ true → R a b) → (t ≡ false → R c d) → R (cond t a c) (cond t b d)
both_if R true h l = h refl
both_if R false h l = l refl

pub some_both : {A B : Type 0} {R : A → B → Type 0} {a : Option A} {b : Option B} → BothOption R a b → is_some a ≡ is_some b
some_both nothing = refl
some_both (just r) = refl

pub or_both : {A B : Type 0} {R : A → B → Type 0} {c : A} {d : B} {a : Option A} {b : Option B} → BothOption R a b → R c d → R (unwrap_or a c) (unwrap_or b d)
or_both nothing r = r
or_both (just s) r = s

module _ (x : Correspondence) where
  -- ---- lists of properties

  -- a property that is found at a key
  pub data Found (array : Bool) (key : Key) : Property → Property → Type 0 where
    found : {p q : Property} → SameProperty x p q → (array ≡ true → is_same_text key length_key ≡ true → number_in x p ≡ number_in x q) → Found array key p q

  pub found_both : (array : Bool) (key : Key) {ps qs : Properties} → BothEach (SameEntry x array) ps qs → BothOption (Found array key) (lookup key ps) (lookup key qs)
  found_both array key none = nothing
  found_both array key (also (entry k {p = p} {q = q} h is) all) =
      both_if (BothOption (Found array key)) (is_same_text k key) (λ same. just (found h (λ a e. is a (same_as k key length_key same ∙ e)))) (λ _. found_both array key all)

  pub plainly_found : {array : Bool} {key : Key} {a b : Option Property} → BothOption (Found array key) a b → BothOption (SameProperty x) a b
  plainly_found nothing = nothing
  plainly_found (just (found h is)) = just h

  pub put_both : (array : Bool) (key : Key) {p q : Property} → SameProperty x p q → (array ≡ true → is_same_text key length_key ≡ true → number_in x p ≡ number_in x q)
      → {ps qs : Properties} → BothEach (SameEntry x array) ps qs → BothEach (SameEntry x array) (put_at key p ps) (put_at key q qs)
  put_both array key h is none = also (entry key h is) none
  put_both array key h is (also (entry k l is_known) all) =
      both_if (BothEach (SameEntry x array)) (is_same_text k key) (λ same. also (entry k h (λ a e. is a (sym (same_as k key length_key same) ∙ e))) all) (λ _. also (entry k l is_known) (put_both array key h is all))

  pub without_both : (array : Bool) (key : Key) {ps qs : Properties} → BothEach (SameEntry x array) ps qs → BothEach (SameEntry x array) (without key ps) (without key qs)
  without_both array key none = none
  without_both array key (also (entry k l is_known) all) = both (BothEach (SameEntry x array)) (is_same_text k key) all (also (entry k l is_known) (without_both array key all))

  cut_both : (array : Bool) (n : ℕ) {ps qs : Properties} → BothEach (SameEntry x array) ps qs → BothEach (SameEntry x array) (filter (M.is_below n) ps) (filter (M.is_below n) qs)
  cut_both array n none = none
  cut_both array n (also (entry k l is_known) all) = both (BothEach (SameEntry x array)) (unwrap_or (option_map (λ index. nat_lt index n) (array_index k)) true) (also (entry k l is_known) (cut_both array n all)) (cut_both array n all)

  pub configurable_both : {p q : Property} → SameProperty x p q → is_configurable p ≡ is_configurable q
  configurable_both (same_data h w e c) = refl
  configurable_both (same_accessor g s e c) = refl

  pub enumerable_both : {p q : Property} → SameProperty x p q → is_enumerable p ≡ is_enumerable q
  enumerable_both (same_data h w e c) = refl
  enumerable_both (same_accessor g s e c) = refl

  stop_both : (array : Bool) (n : ℕ) {ps qs : Properties} → BothEach (SameEntry x array) ps qs → M.stop_at n ps ≡ M.stop_at n qs
  stop_both array n none = refl
  stop_both array n (also {ys = qs} (entry k {p = p} {q = q} h is_known) all) =
      stop_both array (max n (M.above_fixed (k, p))) all ∙ ap (λ c. M.stop_at (max n (cond c 0 (unwrap_or (option_map (λ n. n + 1) (array_index k)) 0))) qs) (configurable_both h)

  -- ---- descriptors

  pub accessor_same : {d e : Descriptor} → SameDescriptor x d e → M.is_accessor d ≡ M.is_accessor e
  accessor_same (same_fields v w g s e c) = rw (some_both g, some_both s) refl

  pub data_same : {d e : Descriptor} → SameDescriptor x d e → M.is_data d ≡ M.is_data e
  data_same (same_fields v w g s e c) = rw (some_both v) refl

  generic_same : {d e : Descriptor} → SameDescriptor x d e → M.is_generic d ≡ M.is_generic e
  generic_same h = rw (accessor_same h, data_same h) refl

  measured_or : (v u : Value) → length_of v ≡ length_of u → {a b : Option Value} → SameLength a b → length_of (unwrap_or a v) ≡ length_of (unwrap_or b u)
  measured_or v u e nothing = e
  measured_or v u e (just h) = h

  nothing_held : SameHeld x undefined undefined
  nothing_held = held (known primitive.Undefined)

  made_both : {d e : Descriptor} → SameDescriptor x d e → SameProperty x (M.made d) (M.made e)
  made_both (same_fields v w g s e c) = both_by (SameProperty x) (accessor_same (same_fields v w g s e c))
      (same_accessor (or_both g nothing) (or_both s nothing) (unwrap_or e false) (unwrap_or c false)) (same_data (or_both v nothing_held) (unwrap_or w false) (unwrap_or e false) (unwrap_or c false))

  abbrev SameNumber : Property → Property → Type 0
  SameNumber p q = number_in x p ≡ number_in x q

  made_number : {d e : Descriptor} → SameDescriptor x d e → SameLength d.value e.value → SameNumber (M.made d) (M.made e)
  made_number (same_fields v w g s e c) m = both_by SameNumber (accessor_same (same_fields v w g s e c)) refl (measured_or undefined undefined refl m)

  changed_both : {p q : Property} {d e : Descriptor} → SameProperty x p q → SameDescriptor x d e → SameProperty x (M.changed p d) (M.changed q e)
  changed_both (same_data h wr en co) (same_fields v w g s e c) = both_by (SameProperty x) (accessor_same (same_fields v w g s e c))
      (same_accessor (or_both g nothing) (or_both s nothing) (unwrap_or e en) (unwrap_or c co)) (same_data (or_both v h) (unwrap_or w wr) (unwrap_or e en) (unwrap_or c co))
  changed_both (same_accessor g' s' en co) (same_fields v w g s e c) = both_by (SameProperty x) (data_same (same_fields v w g s e c))
      (same_data (or_both v nothing_held) (unwrap_or w false) (unwrap_or e en) (unwrap_or c co)) (same_accessor (or_both g g') (or_both s s') (unwrap_or e en) (unwrap_or c co))

  changed_number : {p q : Property} {d e : Descriptor} → SameProperty x p q → SameNumber p q → SameDescriptor x d e → SameLength d.value e.value → SameNumber (M.changed p d) (M.changed q e)
  changed_number (same_data h wr en co) n (same_fields v w g s e c) m = both_by SameNumber (accessor_same (same_fields v w g s e c)) refl (measured_or _ _ n m)
  changed_number (same_accessor g' s' en co) n (same_fields v w g s e c) m = both_by SameNumber (data_same (same_fields v w g s e c)) (measured_or undefined undefined refl m) refl

  barred_same : {p q : Property} {d e : Descriptor} → SameProperty x p q → SameDescriptor x d e → M.is_barred p d ≡ M.is_barred q e
  barred_same (same_data h wr en co) (same_fields v w g s e c) = refl
  barred_same (same_accessor g' s' en co) (same_fields v w g s e c) = refl

  function_same : {a b c d : Option ObjNo} → BothOption x.Objects a b → BothOption x.Objects c d → M.is_same_function a c ≡ M.is_same_function b d
  function_same nothing nothing = refl
  function_same nothing (just r) = refl
  function_same (just r) nothing = refl
  function_same (just r) (just s) = x.one_object _ _ _ _ r s

  -- ---- 8.12.9

  if_same_both : {v u : Option Value} → BothOption (SameHeld x) v u → {old new : Value} → SameHeld x old new → {a b r s : Defining} → SameDefining x a b → SameDefining x r s
      → SameDefining x (M.if_same_value v old a r) (M.if_same_value u new b s)
  if_same_both nothing old done rejected = done
  if_same_both (just h) old done rejected = same_if h old (λ t. both (SameDefining x) t done rejected)

  allowed_both : {p q : Property} {d e : Descriptor} → SameProperty x p q → SameDescriptor x d e → {a b r s : Defining} → SameDefining x a b → SameDefining x r s
      → SameDefining x (M.if_allowed p d a r) (M.if_allowed q e b s)
  allowed_both (same_data h wr en co) (same_fields v w g s e c) done rejected =
      let fields = same_fields v w g s e c in
      both_by (SameDefining x) (generic_same fields) done (both_by (SameDefining x) (accessor_same fields) (both (SameDefining x) co done rejected)
      (both (SameDefining x) (co || wr) done (both (SameDefining x) (unwrap_or w false) rejected (if_same_both v h done rejected))))
  allowed_both (same_accessor g' s' en co) (same_fields v w g s e c) done rejected =
      let fields = same_fields v w g s e c in
      both_by (SameDefining x) (generic_same fields) done (both_by (SameDefining x) (data_same fields) (both (SameDefining x) co done rejected)
      (both_by (SameDefining x) (rw (function_same (or_both s s') s', function_same (or_both g g') g') refl) done rejected))

  pub with_both : (key : Key) {p q : Property} {o r : ObjectState} → SameProperty x p q → (is_array_class o.class ≡ true → is_same_text key length_key ≡ true → SameNumber p q) → SameState x o r
      → SameState x (M.with_property key p o) (M.with_property key q r)
  with_both key h is (same_state {c = class} c p dp e ps) = same_state c p dp e (put_both (is_array_class class) key h is ps)

  define_by_both : (key : Key) {d e : Descriptor} {o q : ObjectState} → SameDescriptor x d e → (is_array_class o.class ≡ true → is_same_text key length_key ≡ true → SameLength d.value e.value) → SameState x o q
      → {a b : Option Property} → BothOption (Found (is_array_class o.class) key) a b → SameDefining x (M.define_by key d o a) (M.define_by key e q b)
  define_by_both key fields is (same_state c p dp ex all) nothing =
      both (SameDefining x) ex (same_defined (with_both key (made_both fields) (λ a t. made_number fields (is a t)) (same_state c p dp ex all))) (same_rejected (same_state c p dp ex all))
  define_by_both key fields is st (just (found h n)) =
      both_by (SameDefining x) (barred_same h fields) (same_rejected st) (allowed_both h fields (same_defined (with_both key (changed_both h fields) (λ a t. changed_number h (n a t) fields (is a t)) st)) (same_rejected st))

  pub define_plain_both : (key : Key) {d e : Descriptor} {o q : ObjectState} → SameDescriptor x d e → (is_array_class o.class ≡ true → is_same_text key length_key ≡ true → SameLength d.value e.value) → SameState x o q
      → SameDefining x (M.define_plain key d o) (M.define_plain key e q)
  unfolding M.define_plain
  define_plain_both key fields is (same_state {c = class} c p dp ex all) = define_by_both key fields is (same_state c p dp ex all) (found_both (is_array_class class) key all)

  -- ---- 15.4.5.1

  then_both : {a b : Defining} {f g m n : ObjectState → Defining} → SameDefining x a b → ((o q : ObjectState) → SameState x o q → SameDefining x (f o) (g q))
      → ((o q : ObjectState) → SameState x o q → SameDefining x (m o) (n q)) → SameDefining x (M.then_if a f m) (M.then_if b g n)
  then_both (same_defined s) done rejected = done _ _ s
  then_both (same_rejected s) done rejected = rejected _ _ s
  then_both same_bad_length done rejected = same_bad_length
  then_both (same_if h l rest) done rejected = same_if h l (λ t. then_both (rest t) done rejected)

  number_fields : (n : ℕ) → SameDescriptor x (value_field (number n)) (value_field (number n))
  number_fields n = same_fields (just (held (known _))) None nothing nothing None None

  element_both : (key : Key) {d e : Descriptor} {o q : ObjectState} → SameDescriptor x d e → (is_array_class o.class ≡ true → is_same_text key length_key ≡ true → SameLength d.value e.value) → SameState x o q
      → (l m : DataProperty) → l.writable ≡ m.writable → (old index : ℕ) → SameDefining x (M.define_element key d o l old index) (M.define_element key e q m old index)
  element_both key fields is s l m e old index = both (SameDefining x) (nat_lt index old) (define_plain_both key fields is s) (both_by (SameDefining x) (ap not e) (same_rejected s)
      (then_both (define_plain_both key fields is s) (λ o q s. define_plain_both length_key (number_fields (index + 1)) (λ a t. just refl) s) (λ o q s. same_rejected s)))

  -- with the length at which deleting ends
  abbrev shortened : ℕ → ℕ → Option Bool → ObjectState → Defining
  shortened wanted stop w o =
      M.then_if (M.define_plain length_key (record no_fields { value = Some (number stop); writable = Some (unwrap_or w true) }) (M.cut_at stop o)) (λ o. cond (nat_eq stop wanted) (Defined o) (Rejected o)) (λ o. Rejected o)

  stopped_both : (wanted stop : ℕ) (w : Option Bool) {o q : ObjectState} → SameState x o q → SameDefining x (shortened wanted stop w o) (shortened wanted stop w q)
  stopped_both wanted stop w (same_state {c = class} c p dp e ps) =
      then_both (define_plain_both length_key (same_fields (just (held (known _))) (Some (unwrap_or w true)) nothing nothing None None) (λ a t. just refl) (same_state c p dp e (cut_both (is_array_class class) stop ps)))
      (λ o q s. both (SameDefining x) (nat_eq stop wanted) (same_defined s) (same_rejected s)) (λ o q s. same_rejected s)

  shorten_both : (wanted : ℕ) (d e : Descriptor) (o q : ObjectState) → SameDescriptor x d e → SameState x o q → SameDefining x (M.shorten wanted d o) (M.shorten wanted e q)
  shorten_both wanted d e o q (same_fields v w g s en c) (same_state {c = class} cl p dp ex all) =
      subst (λ stop. SameDefining x (shortened wanted (M.stop_at wanted o.properties) w o) (shortened wanted stop w q)) (stop_both (is_array_class class) wanted all) (stopped_both wanted (M.stop_at wanted o.properties) w (same_state cl p dp ex all))

  set_to_both : {d e : Descriptor} {o q : ObjectState} → SameDescriptor x d e → SameLength d.value e.value → SameState x o q → (l m : DataProperty) → l.writable ≡ m.writable → (old wanted : ℕ)
      → SameDefining x (M.set_length_to d o l old wanted) (M.set_length_to e q m old wanted)
  set_to_both (same_fields v w g s en c) is st l m e old wanted =
      let fields = same_fields v w g s en c in
      both (SameDefining x) (nat_le old wanted) (define_plain_both length_key fields (λ a t. is) st) (both_by (SameDefining x) (ap not e) (same_rejected st)
      (then_both (define_plain_both length_key (same_fields v (Some true) g s en c) (λ a t. is) st) (λ o q s. shorten_both wanted _ _ o q fields s) (λ o q s. same_rejected s)))

  set_by_both : {d e : Descriptor} {o q : ObjectState} → SameDescriptor x d e → SameLength d.value e.value → SameState x o q → (l m : DataProperty) → l.writable ≡ m.writable → (old : ℕ) (wanted : Option ℕ)
      → SameDefining x (M.set_length_by d o l old wanted) (M.set_length_by e q m old wanted)
  set_by_both fields is st l m e old None = same_bad_length
  set_by_both fields is st l m e old (Some wanted) = set_to_both fields is st l m e old wanted

  set_both : {d e : Descriptor} {o q : ObjectState} → SameDescriptor x d e → SameLength d.value e.value → SameState x o q → (l m : DataProperty) → l.writable ≡ m.writable → (old : ℕ) {v u : Option Value} → SameLength v u
      → SameDefining x (M.set_length d o l old v) (M.set_length e q m old u)
  set_both fields is st l m e old nothing = define_plain_both length_key fields (λ a t. is) st
  set_both {d = d} {e = e} {o = o} {q = q} fields is st l m w old (just {a = v} n) = subst (λ k. SameDefining x (M.set_length_by d o l old (length_of v)) (M.set_length_by e q m old k)) n (set_by_both fields is st l m w old (length_of v))

  in_array_both : (key : Key) {d e : Descriptor} {o q : ObjectState} → SameDescriptor x d e → (is_same_text key length_key ≡ true → SameLength d.value e.value) → SameState x o q
      → (l m : DataProperty) → l.writable ≡ m.writable → (old : ℕ) → SameDefining x (M.define_in_array key d o l old) (M.define_in_array key e q m old)
  in_array_both key {d = d} {e = e} {o = o} {q = q} fields is st l m w old = both_if (SameDefining x) (is_same_text key length_key) (λ t. set_both fields (is t) st l m w old (is t)) (λ _. by_index (array_index key))
    where
      by_index : (index : Option ℕ) → SameDefining x (unwrap_or (option_map (M.define_element key d o l old) index) (M.define_plain key d o)) (unwrap_or (option_map (M.define_element key e q m old) index) (M.define_plain key e q))
      by_index None = define_plain_both key fields (λ a t. is t) st
      by_index (Some index) = element_both key fields (λ a t. is t) st l m w old index

  by_length : (key : Key) {d e : Descriptor} {o q : ObjectState} → SameDescriptor x d e → (is_same_text key length_key ≡ true → SameLength d.value e.value) → SameState x o q
      → (l m : DataProperty) → l.writable ≡ m.writable → (a b : Option ℕ) → a ≡ b
      → SameDefining x (unwrap_or (option_map (M.define_in_array key d o l) a) (M.define_plain key d o)) (unwrap_or (option_map (M.define_in_array key e q m) b) (M.define_plain key e q))
  by_length key {d = d} {e = e} {o = o} {q = q} fields is st l m w a b same =
      subst (λ b. SameDefining x (unwrap_or (option_map (M.define_in_array key d o l) a) (M.define_plain key d o)) (unwrap_or (option_map (M.define_in_array key e q m) b) (M.define_plain key e q))) same (one a)
    where
      one : (a : Option ℕ) → SameDefining x (unwrap_or (option_map (M.define_in_array key d o l) a) (M.define_plain key d o)) (unwrap_or (option_map (M.define_in_array key e q m) a) (M.define_plain key e q))
      one None = define_plain_both key fields (λ a t. is t) st
      one (Some n) = in_array_both key fields is st l m w n

  array_by_both : (key : Key) {d e : Descriptor} {o q : ObjectState} → SameDescriptor x d e → (is_same_text key length_key ≡ true → SameLength d.value e.value) → SameState x o q
      → {a b : Option Property} → BothOption (Found true length_key) a b → SameDefining x (M.define_array_by key d o a) (M.define_array_by key e q b)
  array_by_both key fields is st nothing = define_plain_both key fields (λ a t. is t) st
  array_by_both key fields is st (just (found (same_data {v = v} {u = u} h w e c) n)) =
      by_length key fields is st (record { value = v; writable = w; enumerable = e; configurable = c }) (record { value = u; writable = w; enumerable = e; configurable = c }) refl _ _ (n refl refl)
  array_by_both key fields is st (just (found (same_accessor g s e c) n)) = define_plain_both key fields (λ a t. is t) st

  -- [[DefineOwnProperty]] of two objects that correspond: an array's length is known
  pub define_both : (key : Key) {d e : Descriptor} {o q : ObjectState} → SameDescriptor x d e → (is_array_class o.class ≡ true → is_same_text key length_key ≡ true → SameLength d.value e.value) → SameState x o q
      → SameDefining x (M.define key d o) (M.define key e q)
  unfolding M.define M.define_array
  define_both key fields is (same_state same_array p dp e ps) = array_by_both key fields (is refl) (same_state same_array p dp e ps) (found_both true length_key ps)
  define_both key fields is (same_state c p dp e ps) = define_plain_both key fields is (same_state c p dp e ps)
