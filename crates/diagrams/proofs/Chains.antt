-- The list of divided cases that wait for their parts.
use Rattle.std.proofs.Common.{◌≡◌, ℕ, ◌+◌, ◌<◌, ◌≤◌, zero, suc, List, [], ◌∷◌, refl, subst, arith}
use Rattle.diagrams.specs.declared.node.Diagram.{Diagram}
use Rattle.diagrams.specs.declared.case.Case.{Case}
use Rattle.diagrams.specs.declared.case.Split.{Split}
use Rattle.diagrams.specs.declared.case.Waiting.{Waiting}
use Rattle.diagrams.specs.declared.case.Waiting.TheVariants.{Yes, No}
use Rattle.diagrams.specs.Meaning.{Nodes, Extends}
use Rattle.diagrams.specs.Cases.{Answers}
use Rattle.diagrams.specs.Search.{IsSplit, WaitsFor, Chain, Pending, Descends, Resumes, weight, cost, whole_of}
use Rattle.diagrams.proofs.Growing.{answers_still}
use Rattle.diagrams.proofs.Searching.{split_still}

waits_still : {old new : Nodes} → Extends old new → (w : Waiting) (asked : Case) → WaitsFor old w asked → WaitsFor new w asked
waits_still e (Yes s) asked h = (split_still e s h.0, h.1)
waits_still e (No s d) asked h = (split_still e s h.0, answers_still e s.yes d h.1, h.2)

pub chain_still : {old new : Nodes} → Extends old new → (root : Case) (waiting : List Waiting) (asked : Case) → Chain old root waiting asked → Chain new root waiting asked
chain_still e root [] asked h = h
chain_still e root (w ∷ waiting) asked h = (waits_still e w asked h.0, chain_still e root waiting (whole_of w) h.1)

-- ---- steps

cost_grows : (m n : ℕ) → m ≤ n → cost m ≤ cost n
cost_grows zero zero h = omega arith
cost_grows zero (suc n) h = omega arith
cost_grows (suc m) zero h = absurd (omega (arith, h))
cost_grows (suc m) (suc n) h = let k = cost_grows m n (omega (arith, h)) in omega (arith, k)

cost_split : (m n w : ℕ) → m < w → n < w → 3 + cost m + cost n ≤ cost w
cost_split m n zero h k = absurd (omega (arith, h))
cost_split m n (suc w) h k = omega (arith, cost_grows m w (omega (arith, h)), cost_grows n w (omega (arith, k)))

pub split_cost : (nodes : Nodes) (s : Split) → IsSplit nodes s → 3 + cost (weight s.yes) + cost (weight s.no) ≤ cost (weight s.whole)
split_cost nodes s h = cost_split (weight s.yes) (weight s.no) (weight s.whole) h.high.less h.low.less

-- a case is divided, and its first part is asked for
pub deeper : (nodes : Nodes) (waiting new : List Waiting) (s : Split) (d : Diagram) → IsSplit nodes s → Descends nodes (Yes s ∷ waiting) s.yes new d → Descends nodes waiting s.whole new d
deeper nodes waiting new s d h next root chain = next root ((h, refl), chain)

-- ---- where an answer was found

first_resumes : (nodes : Nodes) (w : Waiting) (asked : Case) (d : Diagram) → WaitsFor nodes w asked → Answers nodes asked d → Resumes nodes w d
first_resumes nodes (Yes s) asked d h a = (h.0, subst (λ c. Answers nodes c d) h.1 a)
first_resumes nodes (No s y) asked d h a = (h.0, h.1, subst (λ c. Answers nodes c d) h.2 a)

pub resumes : (nodes : Nodes) (root : Case) (all rest : List Waiting) (w : Waiting) (d : Diagram) → all ≡ w ∷ rest → Pending nodes root all d → Resumes nodes w d
resumes nodes root all rest w d is p = let chain = subst (λ l. Chain nodes root l p.asked) is p.chain in first_resumes nodes w p.asked d chain.0 p.answers

pub goes_on : (old new : Nodes) → Extends old new → (root : Case) (all rest waiting : List Waiting) (w : Waiting) (d found : Diagram) → all ≡ w ∷ rest → Pending old root all d → Descends new rest (whole_of w) waiting found → Pending new root waiting found
goes_on old new e root all rest waiting w d found is p next =
    let chain = subst (λ l. Chain old root l p.asked) is p.chain in
    next root (chain_still e root rest (whole_of w) chain.1)

pub last_answer : (nodes : Nodes) (root : Case) (all : List Waiting) (d : Diagram) → all ≡ [] → Pending nodes root all d → Answers nodes root d
last_answer nodes root all d is p = subst (λ c. Answers nodes c d) (subst (λ l. Chain nodes root l p.asked) is p.chain) p.answers
