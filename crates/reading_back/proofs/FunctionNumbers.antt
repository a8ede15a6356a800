-- Functions by their numbers: one takes the next number, and is kept when it is read.
use Rattle.std.proofs.Common.{◌≡◌, ◌≤◌, ◌<◌, ◌≢◌, ℕ, zero, suc, ◌+◌, Bool, true, false, List, [], ◌∷◌, ◌++◌, length, drop, map, refl, ap, sym, ◌∙◌, subst, arith, length-append}
use Rattle.std.specs.Prelude.{◌||◌, ◌==◌, slice_get, slice_set, Option, Some, None}
use Rattle.std.specs.List.{list_any}
use Rattle.std.specs.Option.{option_map}
use Rattle.std.proofs.lemmas.Bool.Decides.{nat_tests}
use Rattle.std.proofs.lemmas.List.{drop-drop, length-drop}
use Rattle.js_value.specs.declared.place.FuncNo.{FuncNo}
use Rattle.js_value.specs.declared.place.Place.{Place}
use Rattle.js_tree.specs.declared.statement.Func.{Func}
use Rattle.js_tree.specs.declared.statement.Stmt.{Stmt}
use Rattle.js_grammar.specs.FunctionOrder.{Numbers, are_named_from, in_body}
use Rattle.js_grammar.specs.Rest.{Reading, behind, give, not_read_yet, begin, keep, numbered}
use Rattle.script_text.specs.Tokens.{Shape}
use Rattle.reading_back.proofs.Claims.{World, Frame, Spot, Leads, Ready, IsNumber, SameAt, Stands, unread, alike}
use Rattle.reading_back.specs.Unplaced as unplaced
use Rattle.reading_back.proofs.Readability.{both}
use Rattle.reading_back.proofs.Steps.{nested_behind}

-- ---- lists by positions

get_append : {A : Type 0} (xs ys : List A) (i : ℕ) → i < length xs → slice_get (xs ++ ys) i ≡ slice_get xs i
get_append [] ys i h = absurd (omega (arith, h))
get_append (x ∷ xs) ys zero h = refl
get_append (x ∷ xs) ys (suc i) h = get_append xs ys i (omega (arith, h))

get_set_same : {A : Type 0} (xs : List A) (n : ℕ) (x : A) → n < length xs → slice_get (slice_set xs n x) n ≡ Some x
get_set_same [] n x h = absurd (omega (arith, h))
get_set_same (y ∷ ys) zero x h = refl
get_set_same (y ∷ ys) (suc n) x h = get_set_same ys n x (omega (arith, h))

get_set_other : {A : Type 0} (xs : List A) (n i : ℕ) (x : A) → i ≢ n → slice_get (slice_set xs n x) i ≡ slice_get xs i
get_set_other [] n i x h = refl
get_set_other (y ∷ ys) zero zero x h = absurd (h refl)
get_set_other (y ∷ ys) zero (suc i) x h = refl
get_set_other (y ∷ ys) (suc n) zero x h = refl
get_set_other (y ∷ ys) (suc n) (suc i) x h = get_set_other ys n i x (λ e. h (ap suc e))

length_set : {A : Type 0} (xs : List A) (n : ℕ) (x : A) → length (slice_set xs n x) ≡ length xs
length_set [] n x = refl
length_set (y ∷ ys) zero x = refl
length_set (y ∷ ys) (suc n) x = let e = length_set ys n x in omega (arith, e)

get_from_drop : {A : Type 0} (xs : List A) (n : ℕ) (y : A) (ys : List A) → drop n xs ≡ y ∷ ys → slice_get xs n ≡ Some y
get_from_drop [] zero y ys e = absurd (cc)
get_from_drop [] (suc n) y ys e = absurd (cc)
get_from_drop (x ∷ xs) zero y ys e = cc
get_from_drop (x ∷ xs) (suc n) y ys e = get_from_drop xs n y ys e

abbrev body_in : Option Func → List Stmt
body_in o = elim o [ None ↦ [] | Some g ↦ g.body ]

-- one that was begun has no statements yet
begun_body : (fs : List Func) (at : Place) (i : ℕ) → body_in (slice_get (fs ++ (not_read_yet at ∷ [])) i) ≡ body_in (slice_get fs i)
begun_body [] at zero = refl
begun_body [] at (suc i) = refl
begun_body (f ∷ fs) at zero = refl
begun_body (f ∷ fs) at (suc i) = begun_body fs at i

abbrev IsSet : Option Func → Func → Type 0
IsSet None x = Unit {0}
IsSet (Some y) x = y ≡ x

set_there : (xs : List Func) (n : ℕ) (x : Func) → IsSet (slice_get (slice_set xs n x) n) x
set_there [] n x = tt
set_there (y ∷ ys) zero x = refl
set_there (y ∷ ys) (suc n) x = set_there ys n x

-- ---- a function takes the next number

-- inside a function only those behind it may be read
abbrev pub inner : World → World
inner all = record all { least = all.least + 1 }

-- while a function is read
abbrev pub reading : {all : World} → Frame all → ℕ → Frame (inner all)
reading w n = record { end = w.end; limit = w.limit; opened = w.opened; begun = n ∷ w.begun }

equal : (m n : ℕ) → (m == n) ≡ true → m ≡ n
equal m n e = grind (arith, nat_tests)

unequal : (m n : ℕ) → (m == n) ≡ false → n ≢ m
unequal m n e = grind (arith, nat_tests)

pub record Begins {all : World} (w : Frame all) (functions : List Func) (f : FuncNo) (nz : Numbers) : Type 0 where
  pub function : Func
  pub there : slice_get all.functions f.0 ≡ Some function
  pub number : f.0 ≡ length functions
  pub named : are_named_from (length functions + 1) (in_body function.body ++ nz) (drop (length functions + 1) all.functions) ≡ true
  pub more : length functions + 1 ≤ length all.functions

pub begins : {all : World} (w : Frame all) (functions : List Func) (f : FuncNo) (nz : Numbers) → Ready w functions (f.0 ∷ nz) → Begins w functions f nz
begins {all = all} w functions f nz r = by (drop (length functions) all.functions) refl r.named
  where
    by : (zs : List Func) → drop (length functions) all.functions ≡ zs → are_named_from (length functions) (f.0 ∷ nz) zs ≡ true → Begins w functions f nz
    by [] e named = absurd (cc)
    by (g ∷ gs) e named =
        let p = both (f.0 == length functions) (are_named_from (length functions + 1) (in_body g.body ++ nz) gs) named in
        let same : f.0 ≡ length functions = equal f.0 (length functions) p.0 in
        let behind_it : drop (length functions + 1) all.functions ≡ gs = sym (drop-drop 1 (length functions) all.functions) ∙ ap (drop 1) e in
        record {
          function = g;
          there = ap (slice_get all.functions) same ∙ get_from_drop all.functions (length functions) g gs e;
          number = same;
          named = ap (are_named_from (length functions + 1) (in_body g.body ++ nz)) behind_it ∙ p.1;
          more = omega (arith, length-drop (length functions) all.functions, ap length e, r.within);
        }

either : (a b : Bool) → (a || b) ≡ false → (a ≡ false) × (b ≡ false)
either true b e = absurd (cc)
either false b e = (refl, e)

module _ {all : World} (w : Frame all) (functions : List Func) (f : FuncNo) (nz : Numbers) where
  pub inside_ready : (at : Place) → Ready w functions (f.0 ∷ nz) → (b : Begins w functions f nz) → Ready (reading w f.0) (functions ++ (not_read_yet at ∷ [])) (in_body b.function.body ++ nz)
  inside_ready at r b =
      let long : length (functions ++ (not_read_yet at ∷ [])) ≡ length functions + 1 = length-append functions (not_read_yet at ∷ []) in
      record {
        named = subst (λ n. are_named_from n (in_body b.function.body ++ nz) (drop n all.functions) ≡ true) (sym long) b.named;
        within = omega (arith, long, b.more);
        deep = omega (arith, long, r.deep);
        right = λ i less absent.
            let p = either (f.0 == i) (list_any (λ n. n == i) w.begun) absent in
            let differ : i ≢ f.0 = unequal f.0 i p.0 in
            let lower : i < length functions = omega (arith, less, long, differ, b.number) in
            ap (option_map unplaced.func) (get_append functions (not_read_yet at ∷ []) i lower) ∙ r.right i lower p.1;
        stands = λ k. begun_stands k (r.stands k);
      }
    where
      begun_stands : (k : FuncNo) → Stands functions all.functions k → Stands (functions ++ (not_read_yet at ∷ [])) all.functions k
      begun_stands k (unread none) = unread (begun_body functions at k.0 ∙ none)
      begun_stands k (alike same) = alike (ap (map unplaced.stmt) (begun_body functions at k.0) ∙ same)

-- ---- and is kept

pub record IsFunc (g x : Func) : Type 0 where
  pub same : unplaced.func x ≡ unplaced.func g

pub kept_ready : {all : World} (w : Frame all) (functions : List Func) (n : ℕ) (nz : Numbers) (g x : Func) → Ready (reading w n) functions nz → slice_get all.functions n ≡ Some g → IsFunc g x
    → Ready w (slice_set functions n x) nz
kept_ready {all = all} w functions n nz g x r there its =
    let long = length_set functions n x in
    record {
      named = subst (λ k. are_named_from k nz (drop k all.functions) ≡ true) (sym long) r.named;
      within = omega (arith, long, r.within);
      deep = omega (arith, long, r.deep);
      right = λ i less absent. by i (omega (arith, less, long)) absent (n == i) refl;
      stands = λ k. kept_stands k (n == k.0) refl;
    }
  where
    by : (i : ℕ) → i < length functions → list_any (λ m. m == i) w.begun ≡ false → (b : Bool) → (n == i) ≡ b → SameAt (slice_set functions n x) all.functions i
    by i less absent true e =
        let same : n ≡ i = equal n i e in
        subst (λ k. SameAt (slice_set functions n x) all.functions k) same
        (ap (option_map unplaced.func) (get_set_same functions n x (omega (arith, less, same))) ∙ ap Some its.same ∙ sym (ap (option_map unplaced.func) there))
    by i less absent false e = ap (option_map unplaced.func) (get_set_other functions n i x (unequal n i e)) ∙ r.right i less (ap (λ b. b || list_any (λ m. m == i) w.begun) e ∙ absent)

    other_stands : (k : FuncNo) → slice_get (slice_set functions n x) k.0 ≡ slice_get functions k.0 → Stands functions all.functions k → Stands (slice_set functions n x) all.functions k
    other_stands k e (unread none) = unread (ap body_in e ∙ none)
    other_stands k e (alike same) = alike (ap (λ o. map unplaced.stmt (body_in o)) e ∙ same)

    same_stands : (k : FuncNo) → n ≡ k.0 → (o : Option Func) → slice_get (slice_set functions n x) n ≡ o → IsSet o x → Stands (slice_set functions n x) all.functions k
    same_stands k e None is set = unread (ap (λ m. body_in (slice_get (slice_set functions n x) m)) (sym e) ∙ ap body_in is)
    same_stands k e (Some y) is set =
        alike (ap (λ m. map unplaced.stmt (body_in (slice_get (slice_set functions n x) m))) (sym e) ∙ ap (λ o. map unplaced.stmt (body_in o)) is ∙ ap (λ (h : Func). map unplaced.stmt h.body) set
        ∙ ap (λ (h : Func). h.body) its.same ∙ sym (ap (λ o. map unplaced.stmt (body_in o)) (ap (slice_get all.functions) (sym e) ∙ there)))

    kept_stands : (k : FuncNo) → (b : Bool) → (n == k.0) ≡ b → Stands (slice_set functions n x) all.functions k
    kept_stands k true e = same_stands k (equal n k.0 e) (slice_get (slice_set functions n x) n) refl (set_there functions n x)
    kept_stands k false e = other_stands k (get_set_other functions n k.0 x (unequal n k.0 e)) (r.stands k)

-- ---- a function with its number

module _ {all : World} {w : Frame all} {nz : Numbers} where
  pub numbered_lead : (f : FuncNo) (at : Place) (read : Reading Func) {l : ℕ} (c : Spot) (front rest : List Shape) → Ready w c.functions (f.0 ∷ nz) → (b : Begins w c.functions f nz)
      → ((d : Spot) → Ready (reading w f.0) d.functions (in_body b.function.body ++ nz) → Leads l (reading w f.0) nz (IsFunc b.function) d front rest read give)
      → Leads l w nz (IsNumber f) c front rest (numbered at read) give
  unfolding numbered begin keep
  numbered_lead f at read c front rest ready b inside =
      let d : Spot = record c { functions = c.functions ++ (not_read_yet at ∷ []) } in
      let h = inside d (inside_ready w c.functions f nz at ready b) in
      record {
        value = record { 0 = length c.functions };
        spot = record h.spot { functions = slice_set h.spot.functions (length c.functions) h.value };
        done = λ le. ap (λ r. behind r (λ g. keep (length c.functions) g)) (h.done le);
        nested = λ fits less. nested_behind _ _ (h.nested fits less);
        is = record { same = ap (λ (n : ℕ). record { 0 = n }) (sym b.number) };
        ready = subst (λ n. Ready w (slice_set h.spot.functions n h.value) nz) b.number (kept_ready w h.spot.functions f.0 nz b.function h.value h.ready b.there h.is);
      }
