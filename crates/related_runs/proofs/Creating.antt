-- What rules make, in two heaps that correspond: functions (13.2), and the variables of a function's code (10.5).
use Rattle.std.proofs.Common.{◌≡◌, refl, subst, ℕ, zero, suc, Bool, true, false, List, [], ◌∷◌, ◌++◌}
use Rattle.std.specs.Prelude.{◌+◌, pos, codes, slice_get, Option}
use Rattle.js_value.specs.declared.place.FuncNo.{FuncNo}
use Rattle.js_value.specs.declared.primitive.Primitive.TheVariants as primitive
use Rattle.js_tree.specs.Mentions.{hoisted_functions}
use Rattle.js_tree.specs.declared.statement.Func.{Func}
use Rattle.js_tree.specs.declared.statement.Name.{Name}
use Rattle.plain_heap.specs.Values.{Value, CellNo}
use Rattle.plain_heap.specs.Heap.{Heap, Environment, make_cell, set_cell}
use Rattle.plain_heap.specs.Methods.{length_key}
use Rattle.js_machine.specs.Machine.Creating as C
use Rattle.js_machine.specs.Machine.Creating.{Change}
use Rattle.related_states.specs.Related.{Correspondence, Names, SameFound, in_cells, both_free, SameEnvironment, BothOption, nothing, just, BothEach, none, also, SameValue, known, object, held, same_data, entry, same_plain, same_function, same_state, SameHeaps}
use Rattle.related_states.proofs.Heaps.{add_object_both, new_cell_both, set_cell_both}
use Rattle.related_runs.proofs.Related.{Makes, Equal}
use Rattle.related_runs.proofs.Operators.{Meanings}
use Rattle.related_runs.specs.Codes.{AreNamed, Code, SameInner, SameClosure, SameOwn, no_own, own, own_scope, SameFunc, SameHoisted, SameParameter, inside}
use Rattle.related_runs.proofs.Codes.{Bound, no_names, one_name, one_more, all_more, parameters_length}

-- ---- changes that go together

pub record Alters (x : Correspondence) {A B : Type 0} (R : A → B → Type 0) (m : Change A) (n : Change B) : Type 0 where
  pub at : (h g : Heap) → SameHeaps x h g → Makes x R (m h) (n g)

module _ {x : Correspondence} where
  bind : {A B E D : Type 0} {R : A → B → Type 0} {S : E → D → Type 0} {m : Change A} {n : Change B} {f : A → Change E} {g : B → Change D}
      → Alters x R m n → ((a : A) (b : B) → R a b → Alters x S (f a) (g b)) → Alters x S (C.◌>>=◌ m f) (C.◌>>=◌ n g)
  bind h next = record { at = λ s t same. let made = h.at s t same in (next _ _ made.gives).at _ _ made.heaps }

  gives : {A B : Type 0} {R : A → B → Type 0} {a : A} {b : B} → R a b → Alters x R (C.give a) (C.give b)
  gives r = record { at = λ s t same. record { gives = r; heaps = same } }

  changes : {f g : Heap → Heap} → ((s t : Heap) → SameHeaps x s t → SameHeaps x (f s) (g t)) → Alters x Equal (C.change f) (C.change g)
  changes h = record { at = λ s t same. record { gives = refl; heaps = h s t same } }

  in_turns : {A B : Type 0} {R : A → B → Type 0} {f : A → Change (Unit {0})} {g : B → Change (Unit {0})} → ((a : A) (b : B) → R a b → Alters x Equal (f a) (g b))
      → {xs : List A} {ys : List B} → BothEach R xs ys → Alters x Equal (C.in_turn f xs) (C.in_turn g ys)
  in_turns h none = gives refl
  in_turns h (also r all) = bind (h _ _ r) (λ _ _ _. in_turns h all)

put_first : {x : Correspondence} {d : List ℕ} {ds : List (List ℕ)} {a b : List ℕ × CellNo} {ms ks : Environment} → Bound x (d ∷ []) (a ∷ []) (b ∷ []) → Bound x ds ms ks → Bound x (d ∷ ds) (a ∷ ms) (b ∷ ks)
put_first (one_name d cell names) all = one_name d cell all

pub argument_both : {x : Correspondence} {vs us : List Value} → BothEach (SameValue x) vs us → (n : ℕ) → SameValue x (C.argument vs n) (C.argument us n)
argument_both none n = known _
argument_both (also v all) zero = v
argument_both (also v all) (suc n) = argument_both all n

module _ {x : Correspondence} (m : Meanings x) where
  -- ---- cells

  pub make_cell_both : {v u : Value} → SameValue x v u → Alters x x.Cells (make_cell v) (make_cell u)
  make_cell_both v = record { at = λ h g same. record { gives = x.new_cell _ _ same.cell_counts (m.made_cell _); heaps = new_cell_both x h g same (m.made_cell _) v } }

  set_both : {v u : Value} → SameValue x v u → {c d : CellNo} → x.Cells c d → Alters x Equal (C.change (set_cell c v)) (C.change (set_cell d u))
  set_both v c = changes (λ h g same. set_cell_both x h g same c v)

  -- ---- 13.2

  pub make_function_both : {ns : Names} {f l : FuncNo} {s t : Environment} (strict : Bool) → x.Functions ns f l → SameEnvironment x ns s t → (parameters : ℕ)
      → Alters x x.Objects (C.make_function f s strict parameters) (C.make_function l t strict parameters)
  unfolding C.make_function
  make_function_both {ns = ns} strict code env parameters = record {
    at = λ h g same.
        let made = x.new_object _ _ same.object_counts (m.made_object _) in
        let prototype = x.new_object _ _ (x.next_object _ _ same.object_counts (m.made_object _)) (m.made_object _) in record {
          gives = made;
          heaps = add_object_both x _ _ (add_object_both x h g same (m.made_object _)
              (same_state (same_function ns strict code env) (just (x.realm 3 refl)) 2 true (also (entry length_key (same_data (held (known (primitive.Number (pos parameters)))) false false false) (λ a e. refl))
              (also (entry (codes "prototype") (same_data (held (object prototype)) true false false) (λ a e. refl)) none)))) (m.made_object _)
              (same_state same_plain (just (x.realm 1 refl)) 1 true (also (entry (codes "constructor") (same_data (held (object made)) true false true) (λ a e. refl)) none));
        };
  }

module _ {x : Correspondence} (m : Meanings x) {functions others : List Func} (code : Code x functions others) where
  parameters_both : (ns : Names) (f g : FuncNo) → x.Functions ns f g → C.parameters_of (slice_get functions f.0) ≡ C.parameters_of (slice_get others g.0)
  parameters_both ns f g same = by_found (code.called ns f g same)
    where
      by_found : {a b : Option Func} → BothOption (SameFunc x functions others code.Stmts ns) a b → C.parameters_of a ≡ C.parameters_of b
      by_found nothing = refl
      by_found (just h) = parameters_length h.parameters

  -- functions that stand in code that is equally strict
  pub function_both : {ns : Names} {f g : FuncNo} {s t : Environment} {strict other : Bool} → strict ≡ other → SameInner x functions others ns f g → SameEnvironment x ns s t
      → Alters x x.Objects (C.function functions f s strict) (C.function others g t other)
  unfolding C.function
  function_both {ns = ns} {f = f} {g = g} {s = s} {t = t} {strict = strict} {other = other} e same env =
      subst (λ n. Alters x x.Objects (C.function functions f s strict) (C.make_function g t (C.is_strict_in other (slice_get others g.0)) n)) (parameters_both ns f g same.function)
      (subst (λ b. Alters x x.Objects (C.function functions f s strict) (C.make_function g t (C.is_strict_in b (slice_get others g.0)) (C.parameters_of (slice_get functions f.0)))) e
      (subst (λ b. Alters x x.Objects (C.function functions f s strict) (C.make_function g t b (C.parameters_of (slice_get functions f.0)))) (same.strict strict)
      (make_function_both m (C.is_strict_in strict (slice_get functions f.0)) same.function env (C.parameters_of (slice_get functions f.0)))))

  -- ---- 13

  own_named_both : {ns : Names} {f g : FuncNo} {s t : Environment} {strict other : Bool} → strict ≡ other → (name : List ℕ) → SameInner x functions others ((name, name) ∷ ns) f g → SameEnvironment x ns s t
      → Alters x x.Objects (C.own_named functions f s strict name) (C.own_named others g t other name)
  own_named_both e name same env = bind (make_cell_both m (known _)) (λ c d cell. bind (function_both e same (one_more env name cell)) (λ o q r. bind (set_both m (object r) cell) (λ _ _ _. gives r)))

  named_both : {ns : Names} {f g : FuncNo} {s t : Environment} {strict other : Bool} → strict ≡ other → SameEnvironment x ns s t → {a b : Option Name} → SameOwn a b → SameInner x functions others (own_scope a ns) f g
      → Alters x x.Objects (C.named functions f s strict a) (C.named others g t other b)
  named_both e env no_own same = function_both e same env
  named_both {f = f} {g = g} {s = s} {t = t} {strict = strict} {other = other} e env (own {n = n} text) same =
      subst (λ name. Alters x x.Objects (C.own_named functions f s strict n.text) (C.own_named others g t other name)) text (own_named_both e n.text same env)

  pub function_expression_both : {ns : Names} {f g : FuncNo} {s t : Environment} {strict other : Bool} → strict ≡ other → SameClosure x functions others ns f g → SameEnvironment x ns s t
      → Alters x x.Objects (C.function_expression functions f s strict) (C.function_expression others g t other)
  unfolding C.function_expression
  function_expression_both e same env = named_both e env same.own same.inner

  -- ---- 10.5

  found_both : {a b : List ℕ} {c d : Option CellNo} → SameFound x a b c d → {v u : Value} → SameValue x v u → Alters x Equal (C.set_found v c) (C.set_found u d)
  found_both (in_cells c) v = set_both m v c
  found_both (both_free name) v = gives refl

  bind_both : {ns : Names} {s t : Environment} → SameEnvironment x ns s t → (a b : List ℕ) → AreNamed ns a b → {v u : Value} → SameValue x v u → Alters x Equal (C.bind s a v) (C.bind t b u)
  bind_both env a b named v = found_both (env.at a b named) v

  bind_parameters_both : {ns : Names} {s t : Environment} → SameEnvironment x ns s t → {vs us : List Value} → BothEach (SameValue x) vs us → (n : ℕ) {ps qs : List Name} → BothEach (SameParameter ns) ps qs
      → Alters x Equal (C.bind_parameters s vs n ps) (C.bind_parameters t us n qs)
  bind_parameters_both env vs n none = gives refl
  bind_parameters_both env vs n (also p all) = bind (bind_both env _ _ p.named (argument_both vs n)) (λ _ _ _. bind_parameters_both env vs (n + 1) all)

  declare_both : (ds : List (List ℕ)) → Alters x (Bound x ds) (C.each C.declare ds) (C.each C.declare ds)
  declare_both [] = gives no_names
  declare_both (d ∷ ds) = bind {R = λ a b. Bound x (d ∷ []) (a ∷ []) (b ∷ [])} (bind (make_cell_both m (known _)) (λ c e cell. gives (one_name d cell no_names))) (λ a b one.
      bind (declare_both ds) (λ ms ks names. gives (put_first one names)))

  hoisted_both : {ns : Names} {s t : Environment} {strict other : Bool} → strict ≡ other → SameEnvironment x ns s t → (f g : FuncNo) → SameHoisted x functions others ns f g
      → Alters x Equal (C.bind_function functions s strict f) (C.bind_function others t other g)
  hoisted_both e env f g h = bind (function_both e h.inner env) (λ o q r. in_turns (λ a b named. bind_both env a b named (object r)) h.named)

  -- entering a function that declares these names
  abbrev entering : List Func → Func → Environment → Bool → List Value → List (List ℕ) → Change Environment
  entering fs f outer strict arguments ds = C.◌>>=◌ (C.each C.declare ds) (λ names. C.◌>>=◌ (C.bind_parameters (names ++ outer) arguments 0 f.params) (λ _.
      C.◌>>=◌ (C.in_turn (C.bind_function fs (names ++ outer) strict) (hoisted_functions f.body)) (λ _. C.give (names ++ outer))))

  pub enter_function_both : {ns : Names} {f g : Func} → SameFunc x functions others code.Stmts ns f g → {s t : Environment} → SameEnvironment x ns s t → {strict other : Bool} → strict ≡ other
      → {vs us : List Value} → BothEach (SameValue x) vs us → Alters x (SameEnvironment x (inside (C.declared_names functions f) ns)) (C.enter_function functions f s strict vs) (C.enter_function others g t other us)
  unfolding C.enter_function
  enter_function_both {ns = ns} {f = f} {g = g} h {s = s} {t = t} outer {strict = strict} {other = other} e {vs = vs} {us = us} values =
      subst (λ ds. Alters x (SameEnvironment x (inside (C.declared_names functions f) ns)) (entering functions f s strict vs (C.declared_names functions f)) (entering others g t other us ds)) h.declared
      (bind (declare_both (C.declared_names functions f)) (λ ms ks names. bind (bind_parameters_both (all_more names outer) values 0 h.parameters) (λ _ _ _.
      bind (in_turns (hoisted_both e (all_more names outer)) h.hoisted) (λ _ _ _. gives (all_more names outer)))))
