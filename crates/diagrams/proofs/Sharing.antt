-- Diagrams of one table that mean the same are one.
use Rattle.std.proofs.Common.{◌≡◌, ◌≢◌, ℕ, ◌+◌, ◌<◌, ◌≤◌, zero, suc, Bool, true, false, cond, eqb, length, Some, slice_get, get_or, ◌⊎◌, inl, inr, ⊎_elim, refl, sym, ap, subst, ◌∙◌, arith}
use Rattle.std.proofs.lemmas.Bool.{cases_order, cases_lt, eq-eqb, ne_eqb}
use Rattle.std.proofs.lemmas.Option.{slice_get-get_or}
use Rattle.diagrams.specs.declared.node.CondNo.{CondNo}
use Rattle.diagrams.specs.declared.node.Diagram.{Diagram}
use Rattle.diagrams.specs.declared.node.NodeForm.{NodeForm}
use Rattle.diagrams.specs.declared.node.NodeForm.TheVariants.{Leaf, Node}
use Rattle.diagrams.specs.Meaning.{Nodes, Assignment, meaning, form_meaning, AgreeBehind, DependsBehind}
use Rattle.diagrams.specs.Table.{TestsFrom, StartsAt, IsTest, Stands, IsTable}
use Rattle.diagrams.proofs.Meanings.{meaning_of_top}

-- ---- assignments with the truth of one condition changed

abbrev pub with_truth : ℕ → Bool → Assignment → Assignment
with_truth test b σ c = cond (eqb c test) b (σ c)

with_truth_there : (test : ℕ) (b : Bool) (σ : Assignment) → with_truth test b σ test ≡ b
with_truth_there test b σ = ap (λ e. cond e b (σ test)) (eq-eqb test test refl)

with_truth_else : (test : ℕ) (b : Bool) (σ : Assignment) (c : ℕ) → c ≢ test → with_truth test b σ c ≡ σ c
with_truth_else test b σ c h = ap (λ e. cond e b (σ c)) (ne_eqb c test h)

with_truth_behind : (least test : ℕ) (b : Bool) (σ : Assignment) → test ≤ least → AgreeBehind least (with_truth test b σ) σ
with_truth_behind least test b σ h c later = with_truth_else test b σ c (λ e. omega (arith, e, later))

-- a diagram that tests nothing before a condition tests nothing before an earlier one
tests_later : (least more : ℕ) → least ≤ more → (form : NodeForm) → TestsFrom more form → TestsFrom least form
tests_later least more le (Leaf n) h = tt
tests_later least more le (Node test high low) h = omega (arith, h, le)

pub starts_later : (nodes : Nodes) (least more : ℕ) (d : Diagram) → least ≤ more → StartsAt nodes more d → StartsAt nodes least d
starts_later nodes least more d le s = record { top = λ form at. tests_later least more le form (s.top form at) }

-- ---- a diagram whose top tests conditions behind one depends on those alone

module _ (nodes : Nodes) (t : IsTable nodes) where
  pub top_of : (d : Diagram) → d.0 < length nodes → (form : NodeForm) × (slice_get nodes d.0 ≡ Some form)
  top_of d h = (get_or nodes d.0 (Leaf 0), slice_get-get_or nodes d.0 (Leaf 0) h)

  pub means_top : (σ : Assignment) (d : Diagram) (form : NodeForm) → slice_get nodes d.0 ≡ Some form → meaning nodes σ d ≡ form_meaning nodes σ form
  means_top σ d form at = meaning_of_top nodes σ d form at (t.stands d.0 form at)

  abbrev BelowDepends : ℕ → Type 0
  BelowDepends bound = (least : ℕ) (d : Diagram) → d.0 < bound → d.0 < length nodes → StartsAt nodes (suc least) d → (σ τ : Assignment) → AgreeBehind least σ τ → meaning nodes σ d ≡ meaning nodes τ d

  form_depends : (bound : ℕ) → BelowDepends bound → (least number : ℕ) → number < suc bound → number < length nodes → (form : NodeForm) → TestsFrom (suc least) form → Stands nodes number form
      → (σ τ : Assignment) → AgreeBehind least σ τ → form_meaning nodes σ form ≡ form_meaning nodes τ form
  form_depends bound below least number small inside (Leaf n) tests stands σ τ agree = refl
  form_depends bound below least number small inside (Node test high low) tests stands σ τ agree =
      ap (λ b. cond b (meaning nodes σ high) (meaning nodes σ low)) (agree test.0 (omega (arith, tests)))
      ∙ ap (λ n. cond (τ test.0) n (meaning nodes σ low)) (below least high (omega (arith, stands.high_before)) (omega (arith, stands.high_before)) (starts_later nodes (suc least) (suc test.0) high (omega (arith, tests)) stands.high_behind) σ τ agree)
      ∙ ap (λ n. cond (τ test.0) (meaning nodes τ high) n) (below least low (omega (arith, stands.low_before)) (omega (arith, stands.low_before)) (starts_later nodes (suc least) (suc test.0) low (omega (arith, tests)) stands.low_behind) σ τ agree)

  depends_below : (bound : ℕ) → BelowDepends bound
  depends_below zero least d h inside s σ τ agree = absurd (omega arith)
  depends_below (suc bound) least d h inside s σ τ agree =
      let top = top_of d inside in
      means_top σ d top.0 top.1
      ∙ form_depends bound (depends_below bound) least d.0 h inside top.0 (s.top top.0 top.1) (t.stands d.0 top.0 top.1) σ τ agree
      ∙ sym (means_top τ d top.0 top.1)

  pub depends_behind : (least : ℕ) (d : Diagram) → d.0 < length nodes → StartsAt nodes (suc least) d → DependsBehind nodes least d
  depends_behind least d inside s = record { same = depends_below (suc d.0) least d (omega arith) inside s }

  -- ---- the parts of a test, read where its condition is true or false

  pub high_from : (σ : Assignment) (d : Diagram) (test : CondNo) (high low : Diagram) → slice_get nodes d.0 ≡ Some (Node test high low) → IsTest nodes d.0 test high low → d.0 < length nodes
      → meaning nodes (with_truth test.0 true σ) d ≡ meaning nodes σ high
  high_from σ d test high low at h inside =
      means_top (with_truth test.0 true σ) d (Node test high low) at
      ∙ ap (λ b. cond b (meaning nodes (with_truth test.0 true σ) high) (meaning nodes (with_truth test.0 true σ) low)) (with_truth_there test.0 true σ)
      ∙ (depends_behind test.0 high (omega (arith, h.high_before)) h.high_behind).same (with_truth test.0 true σ) σ (with_truth_behind test.0 test.0 true σ (omega arith))

  pub low_from : (σ : Assignment) (d : Diagram) (test : CondNo) (high low : Diagram) → slice_get nodes d.0 ≡ Some (Node test high low) → IsTest nodes d.0 test high low → d.0 < length nodes
      → meaning nodes (with_truth test.0 false σ) d ≡ meaning nodes σ low
  low_from σ d test high low at h inside =
      means_top (with_truth test.0 false σ) d (Node test high low) at
      ∙ ap (λ b. cond b (meaning nodes (with_truth test.0 false σ) high) (meaning nodes (with_truth test.0 false σ) low)) (with_truth_there test.0 false σ)
      ∙ (depends_behind test.0 low (omega (arith, h.low_before)) h.low_behind).same (with_truth test.0 false σ) σ (with_truth_behind test.0 test.0 false σ (omega arith))

  abbrev SameMeaning : Diagram → Diagram → Type 0
  SameMeaning d e = (σ : Assignment) → meaning nodes σ d ≡ meaning nodes σ e

  -- a test that doesn't matter has parts that mean the same
  same_parts : (least : ℕ) (d : Diagram) (test : CondNo) (high low : Diagram) → slice_get nodes d.0 ≡ Some (Node test high low) → IsTest nodes d.0 test high low → d.0 < length nodes
      → test.0 ≤ least → DependsBehind nodes least d → SameMeaning high low
  same_parts least d test high low at h inside le free σ =
      sym (high_from σ d test high low at h inside)
      ∙ free.same (with_truth test.0 true σ) (with_truth test.0 false σ) (λ c later. with_truth_behind least test.0 true σ le c later ∙ sym (with_truth_behind least test.0 false σ le c later))
      ∙ low_from σ d test high low at h inside

  -- ---- the law

  leaf_free : (least n : ℕ) (d : Diagram) → slice_get nodes d.0 ≡ Some (Leaf n) → DependsBehind nodes least d
  leaf_free least n d at = record { same = λ σ τ agree. means_top σ d (Leaf n) at ∙ sym (means_top τ d (Leaf n) at) }

  carried_over : (least : ℕ) (d e : Diagram) → SameMeaning d e → DependsBehind nodes least e → DependsBehind nodes least d
  carried_over least d e h free = record { same = λ σ τ agree. h σ ∙ free.same σ τ agree ∙ sym (h τ) }

  turned : (d e : Diagram) → SameMeaning d e → SameMeaning e d
  turned d e h σ = sym (h σ)

  abbrev Below : ℕ → Type 0
  Below bound = (d e : Diagram) → d.0 < bound → e.0 < bound → d.0 < length nodes → e.0 < length nodes → SameMeaning d e → d.0 ≡ e.0

  -- a test of a condition that the other diagram doesn't depend on
  needless : (bound : ℕ) → Below bound → (d e : Diagram) (test : CondNo) (high low : Diagram) → slice_get nodes d.0 ≡ Some (Node test high low) → IsTest nodes d.0 test high low
      → d.0 < suc bound → d.0 < length nodes → SameMeaning d e → DependsBehind nodes test.0 e → ⊥
  needless bound below d e test high low at h small inside same free =
      h.apart (below high low (omega (arith, h.high_before)) (omega (arith, h.low_before)) (omega (arith, h.high_before)) (omega (arith, h.low_before))
      (same_parts test.0 d test high low at h inside (omega arith) (carried_over test.0 d e same free)))

  behind_test : (d : Diagram) (test other : CondNo) (high low : Diagram) → slice_get nodes d.0 ≡ Some (Node other high low) → d.0 < length nodes → test.0 < other.0 → DependsBehind nodes test.0 d
  behind_test d test other high low at inside lt =
      depends_behind test.0 d inside (record { top = λ form here. let e : Some (Node other high low) ≡ Some form = sym at ∙ here in subst (TestsFrom (suc test.0)) (same_form e) (omega (arith, lt)) })
    where
      same_form : {form : NodeForm} → Some (Node other high low) ≡ Some form → Node other high low ≡ form
      same_form e = cc

  one_form : (d e : Diagram) (form : NodeForm) → slice_get nodes d.0 ≡ Some form → slice_get nodes e.0 ≡ Some form → d.0 ≡ e.0
  one_form d e form at there = t.once d.0 e.0 form at there

  module _ (bound : ℕ) (below : Below bound) (d e : Diagram) (small_d : d.0 < suc bound) (small_e : e.0 < suc bound) (in_d : d.0 < length nodes) (in_e : e.0 < length nodes) (same : SameMeaning d e) where
    same_leaves : (n m : ℕ) → slice_get nodes d.0 ≡ Some (Leaf n) → slice_get nodes e.0 ≡ Some (Leaf m) → d.0 ≡ e.0
    same_leaves n m at there =
        let σ : Assignment = λ c. false in
        let equal : n ≡ m = sym (means_top σ d (Leaf n) at) ∙ same σ ∙ means_top σ e (Leaf m) there in
        one_form d e (Leaf n) at (there ∙ ap (λ k. Some (Leaf k)) (sym equal))

    same_tests : (test : ℕ) (high low up down : Diagram) → slice_get nodes d.0 ≡ Some (Node (record { 0 = test }) high low) → slice_get nodes e.0 ≡ Some (Node (record { 0 = test }) up down)
        → IsTest nodes d.0 (record { 0 = test }) high low → IsTest nodes e.0 (record { 0 = test }) up down → d.0 ≡ e.0
    same_tests test high low up down at there h g =
        let highs : high.0 ≡ up.0 = below high up (omega (arith, h.high_before)) (omega (arith, g.high_before)) (omega (arith, h.high_before)) (omega (arith, g.high_before))
        (λ σ. sym (high_from σ d (record { 0 = test }) high low at h in_d) ∙ same (with_truth test true σ) ∙ high_from σ e (record { 0 = test }) up down there g in_e) in
        let lows : low.0 ≡ down.0 = below low down (omega (arith, h.low_before)) (omega (arith, g.low_before)) (omega (arith, h.low_before)) (omega (arith, g.low_before))
        (λ σ. sym (low_from σ d (record { 0 = test }) high low at h in_d) ∙ same (with_truth test false σ) ∙ low_from σ e (record { 0 = test }) up down there g in_e) in
        one_form d e (Node (record { 0 = test }) high low) at (there ∙ (λ j. Some (Node (record { 0 = test }) (record { 0 = sym highs j }) (record { 0 = sym lows j }))))

    same_diagrams : (form other : NodeForm) → slice_get nodes d.0 ≡ Some form → slice_get nodes e.0 ≡ Some other → Stands nodes d.0 form → Stands nodes e.0 other → d.0 ≡ e.0
    same_diagrams (Leaf n) (Leaf m) at there h g = same_leaves n m at there
    same_diagrams (Leaf n) (Node test up down) at there h g = absurd (needless bound below e d test up down there g small_e in_e (turned d e same) (leaf_free test.0 n d at))
    same_diagrams (Node test high low) (Leaf m) at there h g = absurd (needless bound below d e test high low at h small_d in_d same (leaf_free test.0 m e there))
    same_diagrams (Node test high low) (Node other up down) at there h g = by (cases_order test.0 other.0)
      where
        by : (test.0 ≡ other.0) ⊎ ((test.0 < other.0) ⊎ (other.0 < test.0)) → d.0 ≡ e.0
        by (inl equal) =
            let P : ℕ → Type 0 = λ n. slice_get nodes e.0 ≡ Some (Node (record { 0 = n }) up down) in
            let Q : ℕ → Type 0 = λ n. IsTest nodes e.0 (record { 0 = n }) up down in
            same_tests test.0 high low up down at (subst P (sym equal) there) h (subst Q (sym equal) g)
        by (inr (inl lt)) = absurd (needless bound below d e test high low at h small_d in_d same (behind_test e test other up down there in_e lt))
        by (inr (inr lt)) = absurd (needless bound below e d other up down there g small_e in_e (turned d e same) (behind_test d other test high low at in_d lt))

  same_below : (bound : ℕ) → Below bound
  same_below zero d e small small_e in_d in_e same = absurd (omega arith)
  same_below (suc bound) d e small_d small_e in_d in_e same =
      let top = top_of d in_d in
      let other = top_of e in_e in
      same_diagrams bound (same_below bound) d e small_d small_e in_d in_e same top.0 other.0 top.1 other.1 (t.stands d.0 top.0 top.1) (t.stands e.0 other.0 other.1)

  pub equal_meanings : (d e : Diagram) → d.0 < length nodes → e.0 < length nodes → ((σ : Assignment) → meaning nodes σ d ≡ meaning nodes σ e) → d.0 ≡ e.0
  equal_meanings d e in_d in_e same = same_below (suc (d.0 + e.0)) d e (omega arith) (omega arith) in_d in_e same

  -- ---- what follows for tops

  -- a diagram that depends on conditions behind one tests those alone
  pub starts_behind : (least : ℕ) (d : Diagram) → d.0 < length nodes → DependsBehind nodes least d → StartsAt nodes (suc least) d
  starts_behind least d inside free = record { top = λ form at. by form at (t.stands d.0 form at) }
    where
      by : (form : NodeForm) → slice_get nodes d.0 ≡ Some form → Stands nodes d.0 form → TestsFrom (suc least) form
      by (Leaf n) at h = tt
      by (Node test high low) at h =
          ⊎_elim (λ lt. omega (arith, lt))
          (λ le. absurd (h.apart (equal_meanings high low (omega (arith, h.high_before)) (omega (arith, h.low_before)) (same_parts least d test high low at h inside (omega (arith, le)) free))))
          (cases_lt least test.0)

  -- a diagram that means one number everywhere is its leaf
  pub constant_top : (n : ℕ) (d : Diagram) (form : NodeForm) → slice_get nodes d.0 ≡ Some form → d.0 < length nodes → ((σ : Assignment) → meaning nodes σ d ≡ n) → form ≡ Leaf n
  constant_top n d (Leaf m) at inside same = ap Leaf (sym (means_top (λ c. false) d (Leaf m) at) ∙ same (λ c. false))
  constant_top n d (Node test high low) at inside same =
      let h : IsTest nodes d.0 test high low = t.stands d.0 (Node test high low) at in
      absurd (h.apart (equal_meanings high low (omega (arith, h.high_before)) (omega (arith, h.low_before)) (same_parts test.0 d test high low at h inside (omega arith) (record { same = λ σ τ agree. same σ ∙ sym (same τ) }))))
