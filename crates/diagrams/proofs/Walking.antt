-- The walk over a diagram that finds its leaves.
use Rattle.std.proofs.Common.{◌≡◌, ℕ, ◌+◌, ◌<◌, ◌≤◌, zero, suc, ◌⊎◌, inl, inr, ⊎_elim, Bool, true, false, cond, ◌||◌, List, [], ◌∷◌, ◌++◌, length, Some, slice_get, refl, sym, ap, subst, ◌∙◌, arith}
use Rattle.std.proofs.lemmas.Bool.{cases_Bool, cases_lt, true≢false}
use Rattle.std.proofs.lemmas.Option.{slice_get_within, slice_get-get_or, same_Some, none-some}
use Rattle.std.proofs.lemmas.Map.Keys.{any_passes_from_place}
use Rattle.std.specs.List.{list_any}
use Rattle.indexmap.specs.IndexSet.{insert_key}
use Rattle.diagrams.specs.declared.node.CondNo.{CondNo}
use Rattle.diagrams.specs.declared.node.Diagram.{Diagram}
use Rattle.diagrams.specs.declared.node.NodeForm.{NodeForm}
use Rattle.diagrams.specs.declared.node.NodeForm.TheVariants.{Leaf, Node}
use Rattle.diagrams.specs.Meaning.{Nodes, Assignment, meaning, form_meaning}
use Rattle.diagrams.specs.Table.{IsTest, IsTable}
use Rattle.diagrams.specs.Leaves.{IsAmong, IsRead, IsBelow, IsVisited, IsReached, AreLeaves, visits, visits_left}
use Rattle.diagrams.proofs.Meanings.{slice_get_front}
use Rattle.diagrams.proofs.Sharing.{means_top, top_of, high_from, low_from, with_truth}
use Rattle.diagrams.proofs.Growing.{pushed_read}

-- ---- keys with one more

pub record Inserted {A : Type 0} (xs : List A) (k : A) (ys : List A) : Type 0 where
  pub kept : (i : ℕ) (x : A) → slice_get xs i ≡ Some x → slice_get ys i ≡ Some x
  pub there : IsAmong k ys
  pub came : (i : ℕ) (x : A) → slice_get ys i ≡ Some x → (slice_get xs i ≡ Some x) ⊎ (x ≡ k)

abbrev pub Once : {A : Type 0} → List A → Type 0
Once {A} xs = (i j : ℕ) (x : A) → slice_get xs i ≡ Some x → slice_get xs j ≡ Some x → i ≡ j

last_read : {A : Type 0} (xs : List A) (k : A) → slice_get (xs ++ k ∷ []) (length xs) ≡ Some k
last_read [] k = refl
last_read (x ∷ xs) k = last_read xs k

pushed : {A : Type 0} (xs : List A) (k : A) → Inserted xs k (xs ++ k ∷ [])
pushed xs k = record {
  kept = λ i x at. slice_get_front xs (k ∷ []) i (slice_get_within xs i x at) ∙ at;
  there = (length xs, last_read xs k);
  came = λ i x at. ⊎_elim (λ p. inl p.1) (λ p. inr p.1) (pushed_read xs k i x at);
}

module _ {A : Type 0} (eq : A → A → Bool) where
  module _ (same : (x y : A) → eq x y ≡ true → x ≡ y) where
    found : (xs : List A) (k : A) → list_any (eq k) xs ≡ true → IsAmong k xs
    found [] k h = absurd (true≢false (sym h))
    found (x ∷ xs) k h = by (cases_Bool (eq k x)) (λ miss. found xs k (sym (ap (λ b. b || list_any (eq k) xs) miss) ∙ h))
      where
        by : (eq k x ≡ true) ⊎ (eq k x ≡ false) → (eq k x ≡ false → IsAmong k xs) → IsAmong k (x ∷ xs)
        by (inl hit) rest = (zero, ap (λ y. Some y) (sym (same k x hit)))
        by (inr miss) rest = let r = rest miss in (suc r.0, r.1)

    pub inserted : (xs : List A) (k : A) (ys : List A) → ys ≡ insert_key eq xs k → Inserted xs k ys
    inserted xs k ys is = ⊎_elim
        (λ hit. subst (Inserted xs k) (sym (is ∙ ap (λ b. cond b xs (xs ++ k ∷ [])) hit)) (record { kept = λ i x at. at; there = found xs k hit; came = λ i x at. inl at }))
        (λ miss. subst (Inserted xs k) (sym (is ∙ ap (λ b. cond b xs (xs ++ k ∷ [])) miss)) (pushed xs k))
        (cases_Bool (list_any (eq k) xs))

  module _ (itself : (x : A) → eq x x ≡ true) where
    absent : (xs : List A) (k : A) → list_any (eq k) xs ≡ false → (i : ℕ) → slice_get xs i ≡ Some k → ⊥
    absent xs k miss i at = true≢false (sym (any_passes_from_place (eq k) xs i k at (itself k)) ∙ miss)

    pushed_once : (xs : List A) (k : A) → list_any (eq k) xs ≡ false → Once xs → Once (xs ++ k ∷ [])
    pushed_once xs k miss once i j x at there = ⊎_elim
        (λ p. ⊎_elim (λ q. once i j x p.1 q.1) (λ q. absurd (absent xs k miss i (p.1 ∙ ap (λ y. Some y) q.1))) (pushed_read xs k j x there))
        (λ p. ⊎_elim (λ q. absurd (absent xs k miss j (q.1 ∙ ap (λ y. Some y) p.1))) (λ q. p.0 ∙ sym q.0) (pushed_read xs k j x there))
        (pushed_read xs k i x at)

    pub inserted_once : (xs : List A) (k : A) (ys : List A) → ys ≡ insert_key eq xs k → Once xs → Once ys
    inserted_once xs k ys is once = ⊎_elim
        (λ hit. subst Once (sym (is ∙ ap (λ b. cond b xs (xs ++ k ∷ [])) hit)) once)
        (λ miss. subst Once (sym (is ∙ ap (λ b. cond b xs (xs ++ k ∷ [])) miss)) (pushed_once xs k miss once))
        (cases_Bool (list_any (eq k) xs))

still_among : {A : Type 0} (xs : List A) (k : A) (ys : List A) → Inserted xs k ys → (x : A) → IsAmong x xs → IsAmong x ys
still_among xs k ys h x p = (p.0, h.kept p.0 x p.1)

-- ---- one more visit

visited_more : (reached more : List Diagram) (leaves notes : List ℕ) → ((v : Diagram) → IsAmong v reached → IsAmong v more) → ((n : ℕ) → IsAmong n leaves → IsAmong n notes)
    → (form : NodeForm) → IsVisited reached leaves form → IsVisited more notes form
visited_more reached more leaves notes r l (Leaf n) h = l n h
visited_more reached more leaves notes r l (Node test high low) h = (r high h.0, r low h.1)

module _ (nodes : Nodes) (t : IsTable nodes) (d v : Diagram) (reached : List Diagram) (leaves : List ℕ) (next : ℕ) (first : slice_get reached next ≡ Some v) (h : IsReached nodes d reached leaves next) where
  visited_next : (more : List Diagram) (notes : List ℕ) → ((i : ℕ) (x : Diagram) → i < next + 1 → slice_get more i ≡ Some x → slice_get reached i ≡ Some x) → ((x : Diagram) → IsAmong x reached → IsAmong x more) → ((n : ℕ) → IsAmong n leaves → IsAmong n notes)
      → (top : NodeForm) → slice_get nodes v.0 ≡ Some top → IsVisited more notes top
      → (i : ℕ) (x : Diagram) (form : NodeForm) → i < next + 1 → slice_get more i ≡ Some x → slice_get nodes x.0 ≡ Some form → IsVisited more notes form
  visited_next more notes back r l top at done i x form lt there seen =
      ⊎_elim
      (λ below. visited_more reached more leaves notes r l form (h.visited i x form below (back i x lt there) seen))
      (λ above.
      let e : i ≡ next = omega (arith, lt, above) in
      let it : x ≡ v = same_Some x v (sym (back i x lt there) ∙ ap (λ n. slice_get reached n) e ∙ first) in
      let forms : top ≡ form = same_Some top form (sym at ∙ ap (λ (k : Diagram). slice_get nodes k.0) (sym it) ∙ seen) in
      subst (IsVisited more notes) forms done)
      (cases_lt i next)

  pub visited_leaf : (n : ℕ) (notes : List ℕ) → slice_get nodes v.0 ≡ Some (Leaf n) → Inserted leaves n notes → Once notes → IsReached nodes d reached notes (next + 1)
  visited_leaf n notes at ins once = record {
    root = h.root;
    within = h.within;
    below = h.below;
    visited = visited_next reached notes (λ i x lt there. there) (λ x p. p) (still_among leaves n notes ins) (Leaf n) at ins.there;
    read = λ i m there. ⊎_elim (λ old. h.read i m old) (λ e. subst (IsRead nodes d) (sym e) leaf_read) (ins.came i m there);
    once = once;
  }
    where
      leaf_read : IsRead nodes d n
      leaf_read = let σ : Assignment = λ c. false in let p = h.below next v first σ in (p.0, p.1 ∙ means_top nodes t σ v (Leaf n) at)

  module _ (test : CondNo) (high low : Diagram) (at : slice_get nodes v.0 ≡ Some (Node test high low)) (inside : v.0 < length nodes) (more most : List Diagram) (one : Inserted reached high more) (two : Inserted more low most) where
    it_is : IsTest nodes v.0 test high low
    it_is = t.stands v.0 (Node test high low) at

    below_high : IsBelow nodes d high
    below_high σ = let p = h.below next v first (with_truth test.0 true σ) in (p.0, p.1 ∙ high_from nodes t σ v test high low at it_is inside)

    below_low : IsBelow nodes d low
    below_low σ = let p = h.below next v first (with_truth test.0 false σ) in (p.0, p.1 ∙ low_from nodes t σ v test high low at it_is inside)

    holds_of : (P : Diagram → Type 0) → ((i : ℕ) (x : Diagram) → slice_get reached i ≡ Some x → P x) → P high → P low → (i : ℕ) (x : Diagram) → slice_get most i ≡ Some x → P x
    holds_of P old h l i x there = ⊎_elim
        (λ p. ⊎_elim (λ q. old i x q) (λ e. subst P (sym e) h) (one.came i x p))
        (λ e. subst P (sym e) l)
        (two.came i x there)

    back : (i : ℕ) (x : Diagram) → i < next + 1 → slice_get most i ≡ Some x → slice_get reached i ≡ Some x
    back i x lt there =
        let short : i < length reached = omega (arith, lt, slice_get_within reached next v first) in
        let old = slice_get-get_or reached i v short in
        old ∙ sym (two.kept i _ (one.kept i _ old)) ∙ there

    pub visited_node : IsReached nodes d most leaves (next + 1)
    visited_node = record {
      root = still_among more low most two d (still_among reached high more one d h.root);
      within = holds_of (λ x. x.0 < length nodes) h.within (omega (arith, it_is.high_before, inside)) (omega (arith, it_is.low_before, inside));
      below = holds_of (IsBelow nodes d) h.below below_high below_low;
      visited = visited_next most leaves back (λ x p. still_among more low most two x (still_among reached high more one x p)) (λ n p. p) (Node test high low) at
          (still_among more low most two high one.there, two.there);
      read = h.read;
      once = h.once;
    }

-- ---- the walk ends

visits_grow : (m n : ℕ) → m ≤ n → visits m ≤ visits n
visits_grow zero zero h = omega arith
visits_grow zero (suc n) h = let k = visits_grow zero n (omega arith) in omega (arith, k)
visits_grow (suc m) zero h = absurd (omega (arith, h))
visits_grow (suc m) (suc n) h = let k = visits_grow m n (omega (arith, h)) in omega (arith, k)

some_visit : (n : ℕ) → 1 ≤ visits n
some_visit n = visits_grow zero n (omega arith)

parts_visits : (m n v : ℕ) → m < v → n < v → visits m + visits n < visits v
parts_visits m n zero h k = absurd (omega (arith, h))
parts_visits m n (suc v) h k = omega (arith, visits_grow m v (omega (arith, h)), visits_grow n v (omega (arith, k)), some_visit v)

left_push : (n : ℕ) (xs : List Diagram) (k : Diagram) → visits_left n (xs ++ k ∷ []) ≤ visits_left n xs + visits k.0
left_push zero [] k = omega arith
left_push (suc n) [] k = omega arith
left_push zero (x ∷ xs) k = omega (arith, left_push zero xs k)
left_push (suc n) (x ∷ xs) k = left_push n xs k

left_insert : (eq : Diagram → Diagram → Bool) (n : ℕ) (xs : List Diagram) (k : Diagram) (ys : List Diagram) → ys ≡ insert_key eq xs k → visits_left n ys ≤ visits_left n xs + visits k.0
left_insert eq n xs k ys is = ⊎_elim
    (λ hit. omega (arith, ap (visits_left n) (is ∙ ap (λ b. cond b xs (xs ++ k ∷ [])) hit)))
    (λ miss. omega (arith, ap (visits_left n) (is ∙ ap (λ b. cond b xs (xs ++ k ∷ [])) miss), left_push n xs k))
    (cases_Bool (list_any (eq k) xs))

left_step : (n : ℕ) (xs : List Diagram) (v : Diagram) → slice_get xs n ≡ Some v → visits_left n xs ≡ visits v.0 + visits_left (suc n) xs
left_step n [] v h = absurd (none-some v h)
left_step zero (x ∷ xs) v h = let e : x ≡ v = same_Some x v h in ap (λ (y : Diagram). visits y.0 + visits_left zero xs) e
left_step (suc n) (x ∷ xs) v h = left_step n xs v h

pub fewer_leaf : (n : ℕ) (xs : List Diagram) (v : Diagram) → slice_get xs n ≡ Some v → visits_left (n + 1) xs < visits_left n xs
fewer_leaf n xs v h =
    let e : n + 1 ≡ suc n = omega arith in
    let k : visits_left (n + 1) xs ≡ visits_left (suc n) xs = ap (λ m. visits_left m xs) e in
    omega (arith, k, left_step n xs v h, some_visit v.0)

pub fewer_node : (eq : Diagram → Diagram → Bool) (n : ℕ) (xs ys zs : List Diagram) (v high low : Diagram) → slice_get xs n ≡ Some v → high.0 < v.0 → low.0 < v.0 → ys ≡ insert_key eq xs high → zs ≡ insert_key eq ys low → visits_left (n + 1) zs < visits_left n xs
fewer_node eq n xs ys zs v high low h hi lo one two =
    let e : n + 1 ≡ suc n = omega arith in
    let k : visits_left (n + 1) xs ≡ visits_left (suc n) xs = ap (λ m. visits_left m xs) e in
    omega (arith, k, left_step n xs v h, left_insert eq (n + 1) xs high ys one, left_insert eq (n + 1) ys low zs two, parts_visits high.0 low.0 v.0 hi lo)

-- ---- begin and end

pub walk_begins : (nodes : Nodes) (d : Diagram) (reached : List Diagram) → d.0 < length nodes → reached ≡ d ∷ [] → IsReached nodes d reached [] 0
walk_begins nodes d reached inside is = subst (λ r. IsReached nodes d r [] 0) (sym is) (record {
  root = (0, refl);
  within = alone (λ x. x.0 < length nodes) inside;
  below = alone (IsBelow nodes d) (λ σ. (σ, refl));
  visited = λ i v form lt. absurd (omega (arith, lt));
  read = λ i n at. absurd (none-some n at);
  once = λ i j n at. absurd (none-some n at);
})
  where
    alone : (P : Diagram → Type 0) → P d → (i : ℕ) (x : Diagram) → slice_get (d ∷ []) i ≡ Some x → P x
    alone P p zero x at = subst P (same_Some d x at) p
    alone P p (suc i) x at = absurd (none-some x at)

module _ (nodes : Nodes) (t : IsTable nodes) (d : Diagram) (reached : List Diagram) (leaves : List ℕ) (next : ℕ) (over : length reached ≤ next) (h : IsReached nodes d reached leaves next) where
  abbrev Found : ℕ → Type 0
  Found bound = (v : Diagram) → v.0 < bound → IsAmong v reached → (σ : Assignment) → IsAmong (meaning nodes σ v) leaves

  found_top : (bound : ℕ) → Found bound → (v : Diagram) → v.0 < suc bound → (form : NodeForm) → slice_get nodes v.0 ≡ Some form → IsVisited reached leaves form → (σ : Assignment) → IsAmong (form_meaning nodes σ form) leaves
  found_top bound below v small (Leaf n) at done σ = done
  found_top bound below v small (Node test high low) at done σ = by (σ test.0)
    where
      it_is : IsTest nodes v.0 test high low
      it_is = t.stands v.0 (Node test high low) at

      by : (b : Bool) → IsAmong (cond b (meaning nodes σ high) (meaning nodes σ low)) leaves
      by true = below high (omega (arith, it_is.high_before, small)) done.0 σ
      by false = below low (omega (arith, it_is.low_before, small)) done.1 σ

  found_below : (bound : ℕ) → Found bound
  found_below zero v small among σ = absurd (omega (arith, small))
  found_below (suc bound) v small among σ =
      let top = top_of nodes t v (h.within among.0 v among.1) in
      subst (λ n. IsAmong n leaves) (sym (means_top nodes t σ v top.0 top.1))
      (found_top bound (found_below bound) v small top.0 top.1 (h.visited among.0 v top.0 (omega (arith, over, slice_get_within reached among.0 v among.1)) among.1 top.1) σ)

  pub walk_ends : AreLeaves nodes d leaves
  walk_ends = record { all = λ σ. found_below (suc d.0) d (omega arith) h.root σ; read = h.read; once = h.once }
