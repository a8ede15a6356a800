-- What diagrams mean in a table and in those that it grows to.
use Rattle.std.proofs.Common.{◌≡◌, ℕ, ◌+◌, ◌<◌, zero, suc, List, [], ◌∷◌, ◌++◌, length, get_or, take, drop, Some, slice_get, cond, refl, sym, ap, subst, ◌∙◌, arith}
use Rattle.std.proofs.lemmas.List.{get_or_append_left, get_or_push, length_push, length-take-le}
use Rattle.std.proofs.lemmas.Option.{slice_get_within}
use Rattle.diagrams.specs.declared.node.Diagram.{Diagram}
use Rattle.diagrams.specs.declared.node.NodeForm.{NodeForm}
use Rattle.diagrams.specs.declared.node.NodeForm.TheVariants.{Leaf, Node}
use Rattle.diagrams.specs.Meaning.{Nodes, Assignment, node_value, values_behind, meaning, form_meaning, Extends}
use Rattle.diagrams.specs.Table.{Stands}

-- ---- lists

slice_get_split : {A : Type 0} (xs : List A) (i : ℕ) (x : A) → slice_get xs i ≡ Some x → xs ≡ take i xs ++ (x ∷ drop (suc i) xs)
slice_get_split [] i x h = cc
slice_get_split (y ∷ xs) zero x h = let e : y ≡ x = cc in ap (λ z. z ∷ xs) e
slice_get_split (y ∷ xs) (suc i) x h = ap (λ l. y ∷ l) (slice_get_split xs i x h)

pub slice_get_front : {A : Type 0} (xs ys : List A) (i : ℕ) → i < length xs → slice_get (xs ++ ys) i ≡ slice_get xs i
slice_get_front [] ys i h = absurd (omega arith)
slice_get_front (x ∷ xs) ys zero h = refl
slice_get_front (x ∷ xs) ys (suc i) h = slice_get_front xs ys i (omega arith)

-- ---- values in order

values_append : (σ : Assignment) (values : List ℕ) (xs ys : Nodes) → values_behind σ values (xs ++ ys) ≡ values_behind σ (values_behind σ values xs) ys
values_append σ values [] ys = refl
values_append σ values (x ∷ xs) ys = values_append σ (values ++ node_value σ values x ∷ []) xs ys

values_length : (σ : Assignment) (values : List ℕ) (xs : Nodes) → length (values_behind σ values xs) ≡ length values + length xs
values_length σ values [] = omega arith
values_length σ values (x ∷ xs) = omega (arith, values_length σ (values ++ node_value σ values x ∷ []) xs, length_push values (node_value σ values x))

values_kept : (σ : Assignment) (values : List ℕ) (xs : Nodes) (i : ℕ) → i < length values → get_or (values_behind σ values xs) i 0 ≡ get_or values i 0
values_kept σ values [] i h = refl
values_kept σ values (x ∷ xs) i h =
    values_kept σ (values ++ node_value σ values x ∷ []) xs i (omega (arith, length_push values (node_value σ values x)))
    ∙ get_or_append_left values (node_value σ values x ∷ []) 0 i h

-- ---- a diagram's meaning stays

pub meaning_kept : (nodes more : Nodes) (σ : Assignment) (d : Diagram) → d.0 < length nodes → meaning (nodes ++ more) σ d ≡ meaning nodes σ d
unfolding meaning
meaning_kept nodes more σ d h =
    ap (λ l. get_or l d.0 0) (values_append σ [] nodes more)
    ∙ values_kept σ (values_behind σ [] nodes) more d.0 (omega (arith, values_length σ [] nodes))

pub stays : {old new : Nodes} (e : Extends old new) (σ : Assignment) (d : Diagram) → d.0 < length old → meaning new σ d ≡ meaning old σ d
stays {old} e σ d h = ap (λ n. meaning n σ d) e.is ∙ meaning_kept old e.more σ d h

-- ---- a diagram means what its top does

front_value : (σ : Assignment) (front : Nodes) (form : NodeForm) (rest : Nodes) (d : Diagram) → d.0 ≡ length front → meaning (front ++ (form ∷ rest)) σ d ≡ node_value σ (values_behind σ [] front) form
unfolding meaning
front_value σ front form rest d e =
    let values = values_behind σ [] front in
    let value = node_value σ values form in
    let long : length values ≡ d.0 = omega (arith, values_length σ [] front) in
    let inside : d.0 < length (values ++ value ∷ []) = omega (arith, length_push values value) in
    ap (λ l. get_or l d.0 0) (values_append σ [] front (form ∷ rest))
    ∙ values_kept σ (values ++ value ∷ []) rest d.0 inside
    ∙ get_or_push values value 0 d.0 long

value_before : (σ : Assignment) (front rest : Nodes) (d : Diagram) → d.0 < length front → get_or (values_behind σ [] front) d.0 0 ≡ meaning (front ++ rest) σ d
unfolding meaning
value_before σ front rest d h = sym (meaning_kept front rest σ d h)

split_meaning : (front rest : Nodes) (σ : Assignment) (d : Diagram) (form : NodeForm) → d.0 ≡ length front → Stands (front ++ (form ∷ rest)) d.0 form
    → meaning (front ++ (form ∷ rest)) σ d ≡ form_meaning (front ++ (form ∷ rest)) σ form
split_meaning front rest σ d (Leaf n) e h = front_value σ front (Leaf n) rest d e
split_meaning front rest σ d (Node test high low) e h =
    front_value σ front (Node test high low) rest d e
    ∙ ap (λ n. cond (σ test.0) n (get_or (values_behind σ [] front) low.0 0)) (value_before σ front (Node test high low ∷ rest) high (omega (arith, h.high_before)))
    ∙ ap (λ n. cond (σ test.0) (meaning (front ++ (Node test high low ∷ rest)) σ high) n) (value_before σ front (Node test high low ∷ rest) low (omega (arith, h.low_before)))

pub meaning_of_top : (nodes : Nodes) (σ : Assignment) (d : Diagram) (form : NodeForm) → slice_get nodes d.0 ≡ Some form → Stands nodes d.0 form → meaning nodes σ d ≡ form_meaning nodes σ form
meaning_of_top nodes σ d form at h =
    let e = slice_get_split nodes d.0 form at in
    let long : d.0 ≡ length (take d.0 nodes) = sym (length-take-le d.0 nodes (omega (arith, slice_get_within nodes d.0 form at))) in
    subst (λ n. meaning n σ d ≡ form_meaning n σ form) (sym e)
    (split_meaning (take d.0 nodes) (drop (suc d.0) nodes) σ d form long (subst (λ n. Stands n d.0 form) e h))
