-- A list of parts of a script, run in turn.
use Rattle.std.proofs.Common.{◌≡◌, ℕ, ◌+◌, ◌<◌, ◌≤◌, suc, Bool, true, List, [], ◌∷◌, length, drop, get_or, map, sum, refl, ap, sym, ◌∙◌, add_assoc, add-one, zero-add}
use Rattle.std.specs.Prelude.{◌&&◌, Err}
use Rattle.std.specs.List.{list_all, flat_map}
use Rattle.std.proofs.lemmas.List.Sums.{sum_by-cons, AllPass-from_list_all}
use Rattle.std.proofs.lemmas.List.Folds.{list_all-append}
use Rattle.std.proofs.Math.Seq.{drop-cons}
use Rattle.std.proofs.Math.ListN.{drop_of_length-le}
use Rattle.simple_runs.specs.Events.{Heap, Tree, Run}
use Rattle.simple_runs.specs.Simple.{in_turn}
use Rattle.simple_runs.specs.Runs.{walk}
use Rattle.prepack_core.specs.declared.evaluate.Departure.{Departure}
use Rattle.prepack_core.specs.declared.evaluate.Stop.{Stop}
use Rattle.prepack_core.specs.declared.evaluate.Stop.TheVariants as stop
use Rattle.prepack_core.specs.Evaluates.{Gives, Departs, RunsTo}

-- what is left of a list runs as the whole list did
pub record Remains {A : Type 0} (f : A → Run (Unit {0})) (count : A → ℕ) (xs : List A) (start : Heap) (i : ℕ) (heap : Heap) : Type 0 where
  pub same : (k : Unit {0} → Heap → Tree) (n : ℕ) → walk (sum (map count xs) + n) (in_turn f xs start k) ≡ walk (sum (map count (drop i xs)) + n) (in_turn f (drop i xs) heap k)

module _ {A : Type 0} (f : A → Run (Unit {0})) (count : A → ℕ) (xs : List A) where
  pub remains_all : (h : Heap) → Remains f count xs h 0 h
  remains_all h = record { same = λ k n. refl }

  at_front : (i : ℕ) (x : A) → i < length xs → x ≡ get_or xs i x → drop i xs ≡ x ∷ drop (i + 1) xs
  at_front i x below is = drop-cons xs i x below ∙ ap (λ y. y ∷ drop (suc i) xs) (sym is) ∙ ap (λ j. x ∷ drop j xs) (sym (add-one i))

  total-cons : (x : A) (ys : List A) → sum (map count (x ∷ ys)) ≡ count x + sum (map count ys)
  total-cons x ys = sum_by-cons (λ y. y) (count x) (map count ys)

  first_turn : (i : ℕ) (h : Heap) (x : A) (k : Unit {0} → Heap → Tree) (n : ℕ) → i < length xs → x ≡ get_or xs i x
      → walk (sum (map count (drop i xs)) + n) (in_turn f (drop i xs) h k)
      ≡ walk (count x + (sum (map count (drop (i + 1) xs)) + n)) (f x h (λ _ g. in_turn f (drop (i + 1) xs) g k))
  first_turn i h x k n below is =
      ap (λ ys. walk (sum (map count ys) + n) (in_turn f ys h k)) (at_front i x below is)
      ∙ ap (λ m. walk m (f x h (λ _ g. in_turn f (drop (i + 1) xs) g k))) (ap (λ m. m + n) (total-cons x (drop (i + 1) xs)) ∙ add_assoc (count x) (sum (map count (drop (i + 1) xs))) n)

  pub remains_next : (start : Heap) (i : ℕ) (h g : Heap) (x : A) → i < length xs → x ≡ get_or xs i x → Remains f count xs start i h → Gives (f x) h (count x) tt g → Remains f count xs start (i + 1) g
  remains_next start i h g x below is r y = record {
    same = λ k n. r.same k n ∙ (first_turn i h x k n below is ∙ y.goes (λ _ w. in_turn f (drop (i + 1) xs) w k) (sum (map count (drop (i + 1) xs)) + n));
  }

  remains_departs : (start : Heap) (i : ℕ) (h : Heap) (x : A) (d : Departure) → i < length xs → x ≡ get_or xs i x → Remains f count xs start i h → Departs (f x) h (count x) d
      → Departs (in_turn f xs) start (sum (map count xs)) d
  remains_departs start i h x d below is r y = record {
    leaves = λ k n. r.same k n ∙ (first_turn i h x k n below is ∙ y.leaves (λ _ w. in_turn f (drop (i + 1) xs) w k) (sum (map count (drop (i + 1) xs)) + n));
  }

  -- the same of a stop, which says nothing where there was no memory
  pub remains_stops : (start : Heap) (i : ℕ) (h g1 g2 : Heap) (x : A) (s : Stop) → i < length xs → x ≡ get_or xs i x → Remains f count xs start i h → RunsTo (f x) h (count x) (Err s) g1
      → RunsTo (in_turn f xs) start (sum (map count xs)) (Err s) g2
  remains_stops start i h g1 g2 x (stop.Left d) below is r y = remains_departs start i h x d below is r y
  remains_stops start i h g1 g2 x stop.NoMemory below is r y = tt

  pub remains_none : (start h : Heap) (i : ℕ) → length xs ≤ i → Remains f count xs start i h → Gives (in_turn f xs) start (sum (map count xs)) tt h
  remains_none start h i all r = record {
    goes = λ k n. r.same k n ∙ (ap (λ ys. walk (sum (map count ys) + n) (in_turn f ys h k)) (drop_of_length-le xs all) ∙ ap (λ m. walk m (k tt h)) (zero-add n));
  }

-- a test of all elements of lists joined end to end
list_all-flat_map : {X Y : Type 0} (p : Y → Bool) (f : X → List Y) (xs : List X) → list_all p (flat_map f xs) ≡ list_all (λ x. list_all p (f x)) xs
list_all-flat_map p f [] = refl
list_all-flat_map p f (x ∷ xs) = list_all-append p (f x) (flat_map f xs) ∙ ap (λ b. list_all p (f x) && b) (list_all-flat_map p f xs)

pub list_all-at : {X : Type 0} (p : X → Bool) (xs : List X) (i : ℕ) (x : X) → list_all p xs ≡ true → i < length xs → x ≡ get_or xs i x → p x ≡ true
list_all-at p xs i x h below is = ap p is ∙ AllPass-from_list_all p xs h i x below

pub all_in_part : {X Y : Type 0} (p : Y → Bool) (f : X → List Y) (xs : List X) (i : ℕ) (x : X) → list_all p (flat_map f xs) ≡ true → i < length xs → x ≡ get_or xs i x → list_all p (f x) ≡ true
all_in_part p f xs i x h below is = list_all-at (λ y. list_all p (f y)) xs i x (sym (list_all-flat_map p f xs) ∙ h) below is

-- the same two levels down
pub all_in_parts : {X Y Z : Type 0} (p : Z → Bool) (f : Y → List Z) (g : X → List Y) (xs : List X) (i : ℕ) (x : X) → list_all p (flat_map f (flat_map g xs)) ≡ true → i < length xs → x ≡ get_or xs i x
    → list_all p (flat_map f (g x)) ≡ true
all_in_parts p f g xs i x h below is =
    list_all-flat_map p f (g x) ∙ all_in_part (λ y. list_all p (f y)) g xs i x (sym (list_all-flat_map p f (flat_map g xs)) ∙ h) below is
