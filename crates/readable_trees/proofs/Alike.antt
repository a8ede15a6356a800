-- In a script whose functions are in source order, the inputs that it mentions are those that its code and its functions have.
use Rattle.std.proofs.Common.{◌≡◌, ◌≤◌, ℕ, suc, ◌+◌, ◌-◌, Bool, true, false, List, [], ◌∷◌, ◌++◌, map, refl, ap, sym, ◌∙◌, arith}
use Rattle.std.specs.Prelude.{◌&&◌, ◌==◌, nat_lt}
use Rattle.std.specs.List.{flat_map, list_all}
use Rattle.std.proofs.lemmas.Bool.{and_parts, eqb-true, le-ltb}
use Rattle.std.proofs.lemmas.List.Folds.{list_all-append}
use Rattle.js_value.specs.declared.place.FuncNo.{FuncNo}
use Rattle.js_value.specs.declared.primitive.Kind.{Kind}
use Rattle.js_tree.specs.Mentions as M
use Rattle.js_tree.specs.Mentions.{Mention, Inside, nth, as_expression, insides_from, mentions}
use Rattle.js_tree.specs.declared.statement.Func.{Func}
use Rattle.js_tree.specs.declared.statement.Name.{Name}
use Rattle.js_tree.specs.declared.statement.Script.{Script}
use Rattle.js_tree.specs.declared.statement.Stmt.{Stmt}
use Rattle.js_grammar.specs.FunctionOrder.{are_named_from, are_in_source_order, in_body}
use Rattle.js_grammar.specs.Readable as R
use Rattle.readable_trees.specs.Items.{Item, Items, Function, Input, in_stmts}
use Rattle.readable_trees.specs.Inputs.{numbers, in_functions, in_script, agrees, agrees_with, are_alike}
use Rattle.readable_trees.proofs.Named.{body_named}
use Rattle.readable_trees.proofs.Mentioned.{taken_of, taken, taken_unbound, taken_owned, opened, body_takes}

pub and_assoc : (a b c : Bool) → ((a && b) && c) ≡ (a && (b && c))
and_assoc true b c = refl
and_assoc false b c = refl

and_swap : (a b c : Bool) → (a && (b && c)) ≡ (b && (a && c))
and_swap true true c = refl
and_swap true false c = refl
and_swap false true c = refl
and_swap false false c = refl

abbrev numbered : ℕ → FuncNo
numbered n = record { 0 = n }

-- ---- what is known of functions by their numbers

at_first : (n : ℕ) (i : Inside) (inner : List Inside) → nth n (i ∷ inner) (numbered n) ≡ i
at_first n i inner =
    let a : nat_lt n n ≡ false = le-ltb n n (omega arith) in
    let e : n - n ≡ 0 = omega arith in
    rw a (rw e refl)

later : (n m : ℕ) (i : Inside) (inner : List Inside) → n + 1 ≤ m → nth n (i ∷ inner) (numbered m) ≡ nth (n + 1) inner (numbered m)
later n m i inner h =
    let a : nat_lt m n ≡ false = le-ltb m n (omega (arith, h)) in
    let b : nat_lt m (n + 1) ≡ false = le-ltb m (n + 1) h in
    let e : m - n ≡ suc (m - (n + 1)) = omega (arith, h) in
    rw a (rw b (rw e refl))

abbrev From : ℕ → List ℕ → Type 0
From n [] = Unit {0}
From n (m ∷ ms) = (n ≤ m) × From n ms

from_behind : (n : ℕ) (ms ns : List ℕ) → From n (ms ++ ns) → From n ns
from_behind n [] ns h = h
from_behind n (m ∷ ms) ns h = from_behind n ms ns h.1

from_less : (n : ℕ) (ms : List ℕ) → From (n + 1) ms → From n ms
from_less n [] h = tt
from_less n (m ∷ ms) h = (omega (arith, h.0), from_less n ms h.1)

-- each number is one of those that are still to be named
from_named : (n : ℕ) (ms : List ℕ) (fs : List Func) → are_named_from n ms fs ≡ true → From n ms
from_named n [] fs h = tt
from_named n (m ∷ ms) [] h = absurd (cc)
from_named n (m ∷ ms) (f ∷ fs) h =
    let q = and_parts (m == n) (are_named_from (n + 1) (in_body f.body ++ ms) fs) h in
    let same = eqb-true m n q.0 in
    (omega (arith, same), from_less n ms (from_behind (n + 1) (in_body f.body) ms (from_named (n + 1) (in_body f.body ++ ms) fs q.1)))

-- ---- what holds of each input

abbrev within : ℕ → List Func → FuncNo → Items
within n fs f = taken (nth n (insides_from n fs) f).1

takes : (n : ℕ) (fs : List Func) (body : List Stmt)
    → taken (M.body_mentions (λ g. as_expression (nth n (insides_from n fs) g)) (λ g. (nth n (insides_from n fs) g).1) body) ≡ flat_map (opened (within n fs)) (in_stmts body)
takes n fs body =
    body_takes (λ g. as_expression (nth n (insides_from n fs) g)) (λ g. (nth n (insides_from n fs) g).1) (within n fs)
    (λ g. taken_owned (nth n (insides_from n fs) g).0 (nth n (insides_from n fs) g).1) (λ g. refl) body

module _ (p : Item → Bool) (skips : (f : FuncNo) → p (Function f) ≡ true) where
  abbrev holds : ℕ → List Func → ℕ → Bool
  holds n fs m = list_all p (within n fs (numbered m))

  apart : (w : FuncNo → Items) (is : Items) → list_all p (flat_map (opened w) is) ≡ (list_all p is && list_all (λ m. list_all p (w (numbered m))) (numbers is))
  apart w [] = refl
  apart w (Function f ∷ is) =
      let inner = list_all p (w f) in
      let rest = list_all (λ m. list_all p (w (numbered m))) (numbers is) in
      list_all-append p (w f) (flat_map (opened w) is)
      ∙ ap (λ b. inner && b) (apart w is)
      ∙ and_swap inner (list_all p is) rest
      ∙ ap (λ b. (b && list_all p is) && (inner && rest)) (sym (skips f))
  apart w (Input kind text ∷ is) =
      ap (λ b. p (Input kind text) && b) (apart w is)
      ∙ sym (and_assoc (p (Input kind text)) (list_all p is) (list_all (λ m. list_all p (w (numbered m))) (numbers is)))

  in_code : (n : ℕ) (fs : List Func) (body : List Stmt)
      → list_all p (taken (M.body_mentions (λ g. as_expression (nth n (insides_from n fs) g)) (λ g. (nth n (insides_from n fs) g).1) body))
      ≡ (list_all p (in_stmts body) && list_all (holds n fs) (in_body body))
  in_code n fs body =
      ap (λ is. list_all p is) (takes n fs body) ∙ apart (within n fs) (in_stmts body)
      ∙ ap (λ ms. list_all p (in_stmts body) && list_all (holds n fs) ms) (body_named body)

  abbrev inside : ℕ → Func → List Func → Inside
  inside n f fs = (M.own_name f.name, M.unbound (map (λ (q : Name). q.text) f.params ++ M.hoisted_vars f.body ++ M.names_of (n + 1) fs (M.hoisted_functions f.body)) (M.body_mentions (λ g. as_expression (nth (n + 1) (insides_from (n + 1) fs) g)) (λ g. (nth (n + 1) (insides_from (n + 1) fs) g).1) f.body))

  first_holds : (n : ℕ) (f : Func) (fs : List Func) → holds n (f ∷ fs) n ≡ (list_all p (in_stmts f.body) && list_all (holds (n + 1) fs) (in_body f.body))
  first_holds n f fs =
      ap (λ (i : Inside). list_all p (taken i.1)) (at_first n (inside n f fs) (insides_from (n + 1) fs))
      ∙ ap (λ is. list_all p is) (taken_unbound _ (M.body_mentions (λ g. as_expression (nth (n + 1) (insides_from (n + 1) fs) g)) (λ g. (nth (n + 1) (insides_from (n + 1) fs) g).1) f.body))
      ∙ in_code (n + 1) fs f.body

  later_hold : (n : ℕ) (f : Func) (fs : List Func) (ms : List ℕ) → From (n + 1) ms → list_all (holds n (f ∷ fs)) ms ≡ list_all (holds (n + 1) fs) ms
  later_hold n f fs [] h = refl
  later_hold n f fs (m ∷ ms) h =
      ap (λ (i : Inside). list_all p (taken i.1) && list_all (holds n (f ∷ fs)) ms) (later n m (inside n f fs) (insides_from (n + 1) fs) h.0)
      ∙ ap (λ b. holds (n + 1) fs m && b) (later_hold n f fs ms h.1)

  named : (n : ℕ) (ms : List ℕ) (fs : List Func) → are_named_from n ms fs ≡ true → list_all (holds n fs) ms ≡ list_all p (in_functions fs)
  named n [] [] h = refl
  named n [] (f ∷ fs) h = absurd (cc)
  named n (m ∷ ms) [] h = absurd (cc)
  named n (m ∷ ms) (f ∷ fs) h =
      let q = and_parts (m == n) (are_named_from (n + 1) (in_body f.body ++ ms) fs) h in
      let own = list_all p (in_stmts f.body) in
      let more = list_all (holds (n + 1) fs) (in_body f.body) in
      ap (λ k. holds n (f ∷ fs) k && list_all (holds n (f ∷ fs)) ms) (eqb-true m n q.0)
      ∙ ap (λ b. b && list_all (holds n (f ∷ fs)) ms) (first_holds n f fs)
      ∙ ap (λ b. (own && more) && b) (later_hold n f fs ms (from_behind (n + 1) (in_body f.body) ms (from_named (n + 1) (in_body f.body ++ ms) fs q.1)))
      ∙ and_assoc own more (list_all (holds (n + 1) fs) ms)
      ∙ ap (λ b. own && b) (sym (list_all-append (holds (n + 1) fs) (in_body f.body) ms) ∙ named (n + 1) (in_body f.body ++ ms) fs q.1)
      ∙ sym (list_all-append p (in_stmts f.body) (in_functions fs))

  in_order : (s : Script) → are_in_source_order s ≡ true → list_all p (taken (mentions s)) ≡ list_all p (in_script s)
  unfolding mentions are_in_source_order
  in_order s h =
      in_code 0 s.funcs s.body
      ∙ ap (λ b. list_all p (in_stmts s.body) && b) (named 0 (in_body s.body) s.funcs h)
      ∙ sym (list_all-append p (in_stmts s.body) (in_functions s.funcs))

-- ---- inputs of one type

along : (q : Mention → Bool) (r : Item → Bool) → ((m : Mention) → q m ≡ list_all r (taken_of m)) → (ms : List Mention) → list_all q ms ≡ list_all r (taken ms)
along q r h [] = refl
along q r h (m ∷ ms) = ap (λ b. b && list_all q ms) (h m) ∙ ap (λ b. list_all r (taken_of m) && b) (along q r h ms) ∙ sym (list_all-append r (taken_of m) (taken ms))

alone : (b : Bool) → b ≡ (b && true)
alone true = refl
alone false = refl

agree_one : (kind : Kind) (name : List ℕ) (m : Mention) → R.agrees kind name m ≡ list_all (agrees kind name) (taken_of m)
agree_one kind name (M.Reads at text) = refl
agree_one kind name (M.Assigns at text) = refl
agree_one kind name (M.AssignsOwn at) = refl
agree_one kind name (M.Takes at other text) = alone (agrees kind name (Input other text))
agree_one kind name (M.Repeats at) = refl

agree_all : (all : List Mention) (m : Mention) → R.agrees_with all m ≡ list_all (agrees_with (taken all)) (taken_of m)
agree_all all (M.Reads at text) = refl
agree_all all (M.Assigns at text) = refl
agree_all all (M.AssignsOwn at) = refl
agree_all all (M.Takes at kind name) = along (R.agrees kind name) (agrees kind name) (agree_one kind name) all ∙ alone (list_all (agrees kind name) (taken all))
agree_all all (M.Repeats at) = refl

pub everywhere : (q r : Item → Bool) → ((i : Item) → q i ≡ r i) → (is : Items) → list_all q is ≡ list_all r is
everywhere q r h [] = refl
everywhere q r h (i ∷ is) = ap (λ b. b && list_all q is) (h i) ∙ ap (λ b. r i && b) (everywhere q r h is)

with_script : (s : Script) → are_in_source_order s ≡ true → (i : Item) → agrees_with (taken (mentions s)) i ≡ agrees_with (in_script s) i
with_script s h (Function f) = refl
with_script s h (Input kind name) = in_order (agrees kind name) (λ f. refl) s h

pub alike : (s : Script) → are_in_source_order s ≡ true → R.are_inputs_alike s ≡ are_alike (in_script s)
unfolding R.are_inputs_alike
alike s h =
    along (R.agrees_with (mentions s)) (agrees_with (taken (mentions s))) (agree_all (mentions s)) (mentions s)
    ∙ in_order (agrees_with (taken (mentions s))) (λ f. refl) s h
    ∙ everywhere (agrees_with (taken (mentions s))) (agrees_with (in_script s)) (with_script s h) (in_script s)
