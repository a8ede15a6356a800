-- What diagrams that are made mean in each later table.
use Rattle.std.proofs.Common.{◌≡◌, ◌↔◌, ℕ, eqb, IsTrue, ◌<◌, Bool, true, false, not, cond, length, Some, slice_get, refl, sym, ap, ◌∙◌, arith}
use Rattle.std.proofs.lemmas.Bool.{eqb-true, eq-eqb, false≢true}
use Rattle.std.proofs.lemmas.Option.{slice_get_within}
use Rattle.diagrams.specs.declared.case.Case.{Case}
use Rattle.diagrams.specs.declared.node.CondNo.{CondNo}
use Rattle.diagrams.specs.declared.node.Diagram.{Diagram}
use Rattle.diagrams.specs.declared.node.NodeForm.{NodeForm}
use Rattle.diagrams.specs.declared.node.NodeForm.TheVariants.{Leaf, Node}
use Rattle.diagrams.specs.Meaning.{Nodes, Assignment, meaning, form_meaning, selected, reads_as, Extends, Means, DependsBehind}
use Rattle.diagrams.specs.Table.{IsTest, Stands, IsTable}
use Rattle.diagrams.specs.Cases.{case_meaning, Answers}
use Rattle.diagrams.proofs.Meanings.{stays}
use Rattle.diagrams.proofs.Sharing.{means_top, starts_behind, constant_top, equal_meanings}
use Rattle.diagrams.proofs.Growing.{case_stays, then_extends}

form_stays : {nodes later : Nodes} (e : Extends nodes later) (σ : Assignment) (number : ℕ) (form : NodeForm) → number < length nodes → Stands nodes number form → form_meaning later σ form ≡ form_meaning nodes σ form
form_stays e σ number (Leaf n) h s = refl
form_stays {nodes} {later} e σ number (Node test high low) h s =
    ap (λ n. cond (σ test.0) n (meaning later σ low)) (stays e σ high (omega (arith, h, s.high_before)))
    ∙ ap (λ n. cond (σ test.0) (meaning nodes σ high) n) (stays e σ low (omega (arith, h, s.low_before)))

-- a diagram means what its top does
pub top_means : (nodes : Nodes) (d : Diagram) (form : NodeForm) → IsTable nodes → slice_get nodes d.0 ≡ Some form → Means nodes d (λ later σ. form_meaning later σ form)
top_means nodes d form t at =
    let inside : d.0 < length nodes = slice_get_within nodes d.0 form at in
    record {
      within = inside;
      reads = λ later e σ. stays e σ d inside ∙ means_top nodes t σ d form at ∙ sym (form_stays e σ d.0 form inside (t.stands d.0 form at));
    }

-- the answer to a case
pub answer_means : (nodes : Nodes) (c : Case) (d : Diagram) → Answers nodes c d → Means nodes d (λ later σ. case_meaning later σ c)
answer_means nodes c d a = record {
  within = a.within;
  reads = λ later e σ. stays e σ d a.within ∙ a.means σ ∙ sym (case_stays e σ c a.asked);
}

-- a test may be put behind the nodes of a table
pub may_stand : (nodes : Nodes) (test : CondNo) (high low : Diagram) → IsTable nodes → high.0 < length nodes → low.0 < length nodes → DependsBehind nodes test.0 high → DependsBehind nodes test.0 low
    → (high.0 ≡ low.0 → ⊥) → IsTest nodes (length nodes) test high low
may_stand nodes test high low t in_high in_low h l apart = record {
  high_before = in_high;
  low_before = in_low;
  apart = apart;
  high_behind = starts_behind nodes t test.0 high in_high h;
  low_behind = starts_behind nodes t test.0 low in_low l;
}

-- a top that is a leaf or isn't tells whether a diagram is one number everywhere
pub leaf_everywhere : (nodes : Nodes) (d : Diagram) (m n : ℕ) (b : Bool) → IsTable nodes → slice_get nodes d.0 ≡ Some (Leaf m) → b ≡ eqb m n → IsTrue b ↔ ((σ : Assignment) → meaning nodes σ d ≡ n)
leaf_everywhere nodes d m n b t at is = (
  (λ holds σ. means_top nodes t σ d (Leaf m) at ∙ eqb-true m n (sym is ∙ holds)),
  (λ same. is ∙ eq-eqb m n (sym (means_top nodes t (λ c. false) d (Leaf m) at) ∙ same (λ c. false))),
)

pub test_nowhere : (nodes : Nodes) (d : Diagram) (test : CondNo) (high low : Diagram) (n : ℕ) → IsTable nodes → slice_get nodes d.0 ≡ Some (Node test high low) → IsTrue false ↔ ((σ : Assignment) → meaning nodes σ d ≡ n)
test_nowhere nodes d test high low n t at = (
  (λ holds. absurd (false≢true holds)),
  (λ same. let e : Node test high low ≡ Leaf n = constant_top nodes t n d (Node test high low) at (slice_get_within nodes d.0 (Node test high low) at) same in cc),
)

-- equal meanings are equal numbers
pub same_exactly : (nodes : Nodes) (d e : Diagram) (b : Bool) → IsTable nodes → d.0 < length nodes → e.0 < length nodes → b ≡ eqb d.0 e.0 → IsTrue b ↔ ((σ : Assignment) → meaning nodes σ d ≡ meaning nodes σ e)
same_exactly nodes d e b t in_d in_e is = (
  (λ holds σ. ap (λ n. meaning nodes σ (record { 0 = n })) (eqb-true d.0 e.0 (sym is ∙ holds))),
  (λ same. is ∙ eq-eqb d.0 e.0 (equal_meanings nodes t d e in_d in_e same)),
)

other_way : {A : Type 0} (b : Bool) (x y : A) → cond b x y ≡ cond (not b) y x
other_way true x y = refl
other_way false x y = refl

pub selected_means : (nodes : Nodes) (g a b d : Diagram) → Answers nodes (record { value = g; leaf = 0; same = b; other = a }) d → Means nodes d (selected g a b)
selected_means nodes g a b d answer =
    let m = answer_means nodes (record { value = g; leaf = 0; same = b; other = a }) d answer in
    record { within = m.within; reads = λ later e σ. m.reads later e σ ∙ other_way (eqb (meaning later σ g) 0) (meaning later σ b) (meaning later σ a) }

-- the leaves 0 and 1 were made first
pub read_means : (first second nodes : Nodes) (d never always g : Diagram) (leaf : ℕ) → Means first never (λ later σ. 0) → Means second always (λ later σ. 1) → Extends first second → Extends second nodes
    → Answers nodes (record { value = d; leaf = leaf; same = always; other = never }) g → Means nodes g (reads_as d leaf)
read_means first second nodes d never always g leaf zero one e f answer =
    let m = answer_means nodes (record { value = d; leaf = leaf; same = always; other = never }) g answer in
    record {
      within = m.within;
      reads = λ later h σ.
          m.reads later h σ
          ∙ ap (λ n. cond (eqb (meaning later σ d) leaf) n (meaning later σ never)) (one.reads later (then_extends f h) σ)
          ∙ ap (λ n. cond (eqb (meaning later σ d) leaf) 1 n) (zero.reads later (then_extends e (then_extends f h)) σ);
    }
