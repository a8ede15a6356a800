-- Parts of diagrams and of cases.
use Rattle.std.proofs.Common.{◌≡◌, ℕ, ◌+◌, ◌<◌, ◌≤◌, suc, ◌⊎◌, inl, inr, ⊎_elim, Bool, true, false, cond, eqb, [], length, Some, slice_get, refl, sym, ap, subst, ◌∙◌, arith}
use Rattle.diagrams.specs.declared.node.CondNo.{CondNo}
use Rattle.diagrams.specs.declared.node.Diagram.{Diagram}
use Rattle.diagrams.specs.declared.node.NodeForm.{NodeForm}
use Rattle.diagrams.specs.declared.node.NodeForm.TheVariants.{Leaf, Node}
use Rattle.diagrams.specs.declared.case.Case.{Case}
use Rattle.diagrams.specs.declared.case.Split.{Split}
use Rattle.diagrams.specs.Meaning.{Nodes, Assignment, meaning, Extends, Means, tested}
use Rattle.diagrams.specs.Table.{TestsFrom, StartsAt, IsTest, IsTable}
use Rattle.diagrams.specs.Cases.{IsWithin, Answers, case_meaning}
use Rattle.diagrams.specs.Search.{HasTest, Earlier, IsPart, IsPartOfCase, IsSplit, IsTested, weight}
use Rattle.std.proofs.lemmas.List.{append-nil}
use Rattle.diagrams.proofs.Sharing.{depends_behind, means_top}
use Rattle.diagrams.proofs.Growing.{case_stays, within_still}
use Rattle.diagrams.proofs.Meanings.{stays}

-- ---- parts of diagrams

same_top : (nodes : Nodes) (d : Diagram) (form other : NodeForm) → slice_get nodes d.0 ≡ Some form → slice_get nodes d.0 ≡ Some other → form ≡ other
same_top nodes d form other at there = cc

test_of : NodeForm → ℕ
test_of (Leaf n) = 0
test_of (Node t high low) = t.0

module _ (nodes : Nodes) (t : IsTable nodes) (d : Diagram) (inside : d.0 < length nodes) (test : CondNo) (truth : Bool) where
  starts_with : (form : NodeForm) → slice_get nodes d.0 ≡ Some form → TestsFrom (suc test.0) form → StartsAt nodes (suc test.0) d
  starts_with form at h = record { top = λ other there. subst (TestsFrom (suc test.0)) (same_top nodes d form other at there) h }

  -- a leaf is what it is
  pub leaf_part : (n : ℕ) → slice_get nodes d.0 ≡ Some (Leaf n) → IsPart nodes d test truth d
  leaf_part n at = record {
    within = inside;
    least = omega arith;
    less = λ h. absurd (let e = h.top in cc);
    behind = depends_behind nodes t test.0 d inside (starts_with (Leaf n) at tt);
    means = λ σ e. refl;
  }

  -- a diagram that tests a later condition is what it is
  pub later_part : (other : CondNo) (high low : Diagram) → slice_get nodes d.0 ≡ Some (Node other high low) → StartsAt nodes test.0 d → (other.0 ≡ test.0 → ⊥) → IsPart nodes d test truth d
  unfolding test_of
  later_part other high low at starts apart =
      let least : test.0 ≤ other.0 = starts.top (Node other high low) at in
      record {
        within = inside;
        least = omega arith;
        less = λ h. absurd (apart (ap test_of (same_top nodes d (Node other high low) (Node (record { 0 = test.0 }) h.high h.low) at h.top)));
        behind = depends_behind nodes t test.0 d inside (starts_with (Node other high low) at (omega (arith, least, apart)));
        means = λ σ e. refl;
      }

  module _ (other : CondNo) (high low : Diagram) (at : slice_get nodes d.0 ≡ Some (Node other high low)) (equal : other.0 ≡ test.0) where
    it_is : IsTest nodes d.0 other high low
    it_is = t.stands d.0 (Node other high low) at

    pub high_part : truth ≡ true → IsPart nodes d test truth high
    high_part holds = record {
      within = omega (arith, it_is.high_before, inside);
      least = omega (arith, it_is.high_before);
      less = λ h. it_is.high_before;
      behind = depends_behind nodes t test.0 high (omega (arith, it_is.high_before, inside)) (subst (λ n. StartsAt nodes (suc n) high) equal it_is.high_behind);
      means = λ σ e. means_top nodes t σ d (Node other high low) at ∙ ap (λ b. cond b (meaning nodes σ high) (meaning nodes σ low)) (ap σ equal ∙ e ∙ holds);
    }

    pub low_part : truth ≡ false → IsPart nodes d test truth low
    low_part fails = record {
      within = omega (arith, it_is.low_before, inside);
      least = omega (arith, it_is.low_before);
      less = λ h. it_is.low_before;
      behind = depends_behind nodes t test.0 low (omega (arith, it_is.low_before, inside)) (subst (λ n. StartsAt nodes (suc n) low) equal it_is.low_behind);
      means = λ σ e. means_top nodes t σ d (Node other high low) at ∙ ap (λ b. cond b (meaning nodes σ high) (meaning nodes σ low)) (ap σ equal ∙ e ∙ fails);
    }

-- ---- parts of cases

alike : (leaf v w s t o p : ℕ) → v ≡ w → s ≡ t → o ≡ p → cond (eqb v leaf) s o ≡ cond (eqb w leaf) t p
alike leaf v w s t o p e f g = ap (λ x. cond (eqb x leaf) s o) e ∙ ap (λ x. cond (eqb w leaf) x o) f ∙ ap (λ x. cond (eqb w leaf) t x) g

pub case_part : (nodes : Nodes) (c : Case) (test : CondNo) (truth : Bool) (v s o : Diagram) → IsTested nodes test.0 c
    → IsPart nodes c.value test truth v → IsPart nodes c.same test truth s → IsPart nodes c.other test truth o → IsPartOfCase nodes c test truth (record { value = v; leaf = c.leaf; same = s; other = o })
case_part nodes c test truth v s o h p q r = record {
  within = record { value = p.within; same = q.within; other = r.within };
  less = ⊎_elim (λ a. lighter (inl (p.less a))) (λ g. ⊎_elim (λ a. lighter (inr (inl (q.less a)))) (λ a. lighter (inr (inr (r.less a)))) g) h;
  same = λ σ τ agree. alike c.leaf _ _ _ _ _ _ (p.behind.same σ τ agree) (q.behind.same σ τ agree) (r.behind.same σ τ agree);
  means = λ σ e. alike c.leaf _ _ _ _ _ _ (p.means σ e) (q.means σ e) (r.means σ e);
}
  where
    lighter : (v.0 < c.value.0) ⊎ ((s.0 < c.same.0) ⊎ (o.0 < c.other.0)) → v.0 + s.0 + o.0 < weight c
    lighter (inl lt) = omega (arith, lt, p.least, q.least, r.least)
    lighter (inr (inl lt)) = omega (arith, lt, p.least, q.least, r.least)
    lighter (inr (inr lt)) = omega (arith, lt, p.least, q.least, r.least)

pub first_tested : (nodes : Nodes) (c : Case) (own : CondNo) (first : CondNo) (test : CondNo) → HasTest nodes own.0 c.value → Earlier nodes own c.same first → Earlier nodes first c.other test → IsTested nodes test.0 c
first_tested nodes c own first test h e f =
    ⊎_elim
    (λ p. ⊎_elim (λ q. inl (subst (λ n. HasTest nodes n c.value) (sym (ap (λ (k : CondNo). k.0) (p ∙ q))) h)) (λ q. inr (inl (subst (λ n. HasTest nodes n c.same) (sym (ap (λ (k : CondNo). k.0) p)) q))) e.either)
    (λ p. inr (inr p))
    f.either

-- a diagram's own test is the first that it tests
pub starts_own : (nodes : Nodes) (d : Diagram) (own least : ℕ) → HasTest nodes own d → least ≤ own → StartsAt nodes least d
starts_own nodes d own least h le = record { top = λ form at. subst (TestsFrom least) (same_top nodes d (Node (record { 0 = own }) h.high h.low) form h.top at) le }

-- ---- a divided case in a later table

part_still : {old new : Nodes} → Extends old new → (c : Case) (test : CondNo) (truth : Bool) (p : Case) → IsWithin old c → IsPartOfCase old c test truth p → IsPartOfCase new c test truth p
part_still e c test truth p w h = record {
  within = within_still e p h.within;
  less = h.less;
  same = λ σ τ agree. case_stays e σ p h.within ∙ h.same σ τ agree ∙ sym (case_stays e τ p h.within);
  means = λ σ t. case_stays e σ c w ∙ h.means σ t ∙ sym (case_stays e σ p h.within);
}

pub split_still : {old new : Nodes} → Extends old new → (s : Split) → IsSplit old s → IsSplit new s
split_still e s h = record {
  within = within_still e s.whole h.within;
  high = part_still e s.whole s.test true s.yes h.within h.high;
  low = part_still e s.whole s.test false s.no h.within h.low;
}

-- the answers to the parts of a divided case make that to the whole
pub split_answer : (old new : Nodes) (e : Extends old new) (s : Split) (high low d : Diagram) → IsSplit old s → Answers old s.yes high → Answers old s.no low → Means new d (tested s.test high low) → Answers new s.whole d
split_answer old new e s high low d h a b m = record {
  asked = within_still e s.whole h.within;
  within = m.within;
  means = λ σ. m.reads new (record { more = []; is = sym (append-nil new) }) σ ∙ by σ (σ s.test.0) refl ∙ sym (case_stays e σ s.whole h.within);
}
  where
    by : (σ : Assignment) (truth : Bool) → σ s.test.0 ≡ truth → cond (σ s.test.0) (meaning new σ high) (meaning new σ low) ≡ case_meaning old σ s.whole
    by σ true t = ap (λ x. cond x (meaning new σ high) (meaning new σ low)) t ∙ stays e σ high a.within ∙ a.means σ ∙ sym (h.high.means σ t)
    by σ false t = ap (λ x. cond x (meaning new σ high) (meaning new σ low)) t ∙ stays e σ low b.within ∙ b.means σ ∙ sym (h.low.means σ t)
