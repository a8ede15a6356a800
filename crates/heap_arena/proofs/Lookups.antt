-- Looking up a key.
use Rattle.std.proofs.lemmas.Bool.Decides.{nat_tests}
use Rattle.std.proofs.Common.{arith, not, one-add, ◌+◌, ◌≡◌, ◌∷◌, ◌++◌, [], ℕ, suc, List, Bool, true, false, Option, Some, None, if◌then◌else◌, refl, cond, nat_lt, length, ◌∙◌, position}
use Rattle.std.specs.Prelude.{slice_get}
use borrow.Author.Tests.{lt-ltb}
use Rattle.std.specs.Option.{option_and_then}
use Rattle.std.specs.List.{zip, position_or_len}
use Rattle.js_value.specs.Conversions.{is_same_text}
use Rattle.plain_heap.specs.Heap.{Key, lookup, or_else}

-- behind one list of entries stands another
pub lookup-append : {A : Type 0} (key : Key) (xs ys : List (Key × A)) → lookup key (xs ++ ys) ≡ or_else (lookup key xs) (lookup key ys)
lookup-append key [] ys = refl
lookup-append key (x ∷ xs) ys =
    elim (is_same_text x.0 key) as (λ same. (if same then Some x.1 else lookup key (xs ++ ys)) ≡ or_else (if same then Some x.1 else lookup key xs) (lookup key ys)) [ true ↦ refl | false ↦ lookup-append key xs ys ]

none_then : {A : Type 0} (o : Option ℕ) → None ≡ option_and_then (slice_get {X = A} []) o
none_then None = refl
none_then (Some i) = refl

lt_suc : (m n : ℕ) → nat_lt (suc m) (suc n) ≡ nat_lt m n
lt_suc m n = grind (arith, nat_tests)

further : {A : Type 0} (here : Bool) (m : ℕ) (a : A) (bs : List A)
    → option_and_then (slice_get bs) (cond here (Some m) None) ≡ option_and_then (slice_get (a ∷ bs)) (cond here (Some (suc m)) None)
further true m a bs = refl
further false m a bs = refl

-- names and what belongs to them, in two lists
pub lookup-zip : {A : Type 0} (key : Key) (names : List Key) (cells : List A)
    → lookup key (zip names cells) ≡ option_and_then (slice_get cells) (position (λ n. is_same_text n key) names)
lookup-zip key [] cells = refl
lookup-zip key (n ∷ ns) [] = none_then (position (λ m. is_same_text m key) (n ∷ ns))
lookup-zip {A} key (n ∷ ns) (c ∷ cs) =
    by_first (is_same_text n key) (position_or_len (λ m. is_same_text m key) ns) (lookup-zip {A = A} key ns cs)
  where
    by_first : (same : Bool) (m : ℕ) → lookup key (zip ns cs) ≡ option_and_then (slice_get cs) (cond (nat_lt m (length ns)) (Some m) None)
        → (if same then Some c else lookup key (zip ns cs)) ≡ option_and_then (slice_get (c ∷ cs)) (cond (nat_lt (cond (not same) (1 + m) 0) (suc (length ns))) (Some (cond (not same) (1 + m) 0)) None)
    by_first true m so_far = rw (lt-ltb 0 (suc (length ns)) (omega arith)) refl
    by_first false m so_far = so_far ∙ rw (one-add, lt_suc) (further (nat_lt m (length ns)) m c cs)
