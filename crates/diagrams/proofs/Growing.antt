-- A table with one more node, and answers with one more.
use Rattle.std.proofs.Common.{◌≡◌, ℕ, ◌<◌, ◌≤◌, zero, suc, Bool, true, false, cond, List, [], ◌∷◌, ◌++◌, length, Option, Some, slice_get, ◌⊎◌, inl, inr, ⊎_elim, refl, sym, ap, subst, ◌∙◌, arith}
use Rattle.std.proofs.lemmas.Bool.{cases_Bool, true≢false}
use Rattle.std.proofs.lemmas.Option.{none-some, same_Some}
use Rattle.std.proofs.lemmas.Map.Keys.{any_passes_from_place}
use Rattle.std.proofs.lemmas.List.{append_assoc, length-append, append-nil}
use Rattle.std.specs.List.{list_any}
use Rattle.std.specs.Map.{lookup}
use Rattle.indexmap.specs.IndexSet.{insert_key}
use Rattle.indexmap.specs.IndexMap.{insert_entry}
use Rattle.diagrams.specs.declared.case.Case.{Case}
use Rattle.diagrams.specs.declared.node.Diagram.{Diagram}
use Rattle.diagrams.specs.declared.node.NodeForm.{NodeForm}
use Rattle.diagrams.specs.declared.node.NodeForm.TheVariants.{Leaf, Node}
use Rattle.diagrams.specs.Meaning.{Nodes, Assignment, Extends}
use Rattle.diagrams.specs.Table.{StartsAt, Stands, IsTable}
use Rattle.diagrams.specs.Cases.{IsWithin, case_meaning, Answers, AreRight, IfKnown}
use Rattle.diagrams.proofs.Meanings.{slice_get_front, stays}

-- ---- the table only grows

pub unchanged : (nodes : Nodes) → Extends nodes nodes
unchanged nodes = record { more = []; is = sym (append-nil nodes) }

pub then_extends : {a b c : Nodes} → Extends a b → Extends b c → Extends a c
then_extends {a} e f = record { more = e.more ++ f.more; is = f.is ∙ ap (λ l. l ++ f.more) e.is ∙ append_assoc a e.more f.more }

pub longer : {old new : Nodes} → Extends old new → (n : ℕ) → n < length old → n < length new
longer {old} e n h = omega (arith, h, ap length e.is, length-append old e.more)

pub read_later : {old new : Nodes} → Extends old new → (i : ℕ) → i < length old → slice_get new i ≡ slice_get old i
read_later {old} e i h = ap (λ l. slice_get l i) e.is ∙ slice_get_front old e.more i h

-- ---- nodes stand as they stood

starts_still : {old new : Nodes} (e : Extends old new) (least : ℕ) (d : Diagram) → d.0 < length old → StartsAt old least d → StartsAt new least d
starts_still e least d h s = record { top = λ form at. s.top form (sym (read_later e d.0 h) ∙ at) }

stands_still : {old new : Nodes} (e : Extends old new) (i : ℕ) (form : NodeForm) → i ≤ length old → Stands old i form → Stands new i form
stands_still e i (Leaf n) h s = tt
stands_still e i (Node test high low) h s = record {
  high_before = s.high_before;
  low_before = s.low_before;
  apart = s.apart;
  high_behind = starts_still e (suc test.0) high (omega (arith, h, s.high_before)) s.high_behind;
  low_behind = starts_still e (suc test.0) low (omega (arith, h, s.low_before)) s.low_behind;
}

pub pushed_read : {A : Type 0} (xs : List A) (y : A) (i : ℕ) (x : A) → slice_get (xs ++ y ∷ []) i ≡ Some x → ((i < length xs) × (slice_get xs i ≡ Some x)) ⊎ ((i ≡ length xs) × (x ≡ y))
pushed_read [] y zero x h = let e : y ≡ x = cc in inr (refl, sym e)
pushed_read [] y (suc i) x h = absurd (none-some x h)
pushed_read (z ∷ xs) y zero x h = inl (omega arith, h)
pushed_read (z ∷ xs) y (suc i) x h =
    ⊎_elim (λ p. inl (omega (arith, p.0), p.1)) (λ p. inr (ap (λ n. suc n) p.0, p.1)) (pushed_read xs y i x h)

module _ (eq : NodeForm → NodeForm → Bool) (itself : (x : NodeForm) → eq x x ≡ true) where
  not_there : (nodes : Nodes) (form : NodeForm) → list_any (eq form) nodes ≡ false → (i : ℕ) → slice_get nodes i ≡ Some form → ⊥
  not_there nodes form absent i at = true≢false (sym (any_passes_from_place (eq form) nodes i form at (itself form)) ∙ absent)

  pushed_table : (nodes : Nodes) (form : NodeForm) → IsTable nodes → Stands nodes (length nodes) form → list_any (eq form) nodes ≡ false → IsTable (nodes ++ form ∷ [])
  pushed_table nodes form t s absent = record {
    stands = λ i other at. ⊎_elim
        (λ p. stands_still e i other (omega (arith, p.0)) (t.stands i other p.1))
        (λ p. let P : NodeForm → Type 0 = λ f. Stands (nodes ++ form ∷ []) i f in
        let Q : ℕ → Type 0 = λ n. Stands (nodes ++ form ∷ []) n form in
        subst P (sym p.1) (subst Q (sym p.0) (stands_still e (length nodes) form (omega arith) s)))
        (pushed_read nodes form i other at);
    once = λ i j other at there. ⊎_elim
        (λ p. ⊎_elim (λ q. t.once i j other p.1 q.1) (λ q. absurd (not_there nodes form absent i (p.1 ∙ ap (λ f. Some f) q.1))) (pushed_read nodes form j other there))
        (λ p. ⊎_elim (λ q. absurd (not_there nodes form absent j (q.1 ∙ ap (λ f. Some f) p.1))) (λ q. p.0 ∙ sym q.0) (pushed_read nodes form j other there))
        (pushed_read nodes form i other at);
  }
    where
      e : Extends nodes (nodes ++ form ∷ [])
      e = record { more = form ∷ []; is = refl }

  -- after a node was put into the set
  pub grown_table : (nodes new : Nodes) (form : NodeForm) → IsTable nodes → Stands nodes (length nodes) form → new ≡ insert_key eq nodes form → IsTable new
  grown_table nodes new form t s is = ⊎_elim
      (λ there. subst IsTable (sym (is ∙ ap (λ b. cond b nodes (nodes ++ form ∷ [])) there)) t)
      (λ absent. subst IsTable (sym (is ∙ ap (λ b. cond b nodes (nodes ++ form ∷ [])) absent)) (pushed_table nodes form t s absent))
      (cases_Bool (list_any (eq form) nodes))

pub grown_extends : (eq : NodeForm → NodeForm → Bool) (nodes new : Nodes) (form : NodeForm) → new ≡ insert_key eq nodes form → Extends nodes new
grown_extends eq nodes new form is = ⊎_elim
    (λ there. record { more = []; is = is ∙ ap (λ b. cond b nodes (nodes ++ form ∷ [])) there ∙ sym (append-nil nodes) })
    (λ absent. record { more = form ∷ []; is = is ∙ ap (λ b. cond b nodes (nodes ++ form ∷ [])) absent })
    (cases_Bool (list_any (eq form) nodes))

-- ---- answers stay right

pub within_still : {old new : Nodes} → Extends old new → (c : Case) → IsWithin old c → IsWithin new c
within_still e c w = record { value = longer e c.value.0 w.value; same = longer e c.same.0 w.same; other = longer e c.other.0 w.other }

pub case_stays : {old new : Nodes} (e : Extends old new) (σ : Assignment) (c : Case) → IsWithin old c → case_meaning new σ c ≡ case_meaning old σ c
case_stays e σ c w = rw (stays e σ c.value w.value, stays e σ c.same w.same, stays e σ c.other w.other) refl

pub answers_still : {old new : Nodes} → Extends old new → (c : Case) (d : Diagram) → Answers old c d → Answers new c d
answers_still e c d a = record {
  asked = within_still e c a.asked;
  within = longer e d.0 a.within;
  means = λ σ. stays e σ d a.within ∙ a.means σ ∙ sym (case_stays e σ c a.asked);
}

pub right_still : {old new : Nodes} → Extends old new → (answers : List (Case × Diagram)) → AreRight old answers → AreRight new answers
right_still e answers r = record { right = λ i c d at. answers_still e c d (r.right i c d at) }

module _ (eq : Case → Case → Bool) (same : (x y : Case) → eq x y ≡ true → x ≡ y) (nodes : Nodes) where
  right_tail : (e : Case × Diagram) (es : List (Case × Diagram)) → AreRight nodes (e ∷ es) → AreRight nodes es
  right_tail e es r = record { right = λ i c d at. r.right (suc i) c d at }

  right_cons : (c : Case) (d : Diagram) (es : List (Case × Diagram)) → Answers nodes c d → AreRight nodes es → AreRight nodes ((c, d) ∷ es)
  right_cons c d es a r = record { right = by }
    where
      by : (i : ℕ) (k : Case) (x : Diagram) → slice_get ((c, d) ∷ es) i ≡ Some (k, x) → Answers nodes k x
      by zero k x at = let e : (c, d) ≡ (k, x) = same_Some (c, d) (k, x) at in subst (λ p. Answers nodes p.0 p.1) e a
      by (suc i) k x at = r.right i k x at

  pub right_more : (answers new : List (Case × Diagram)) (c : Case) (d : Diagram) → AreRight nodes answers → Answers nodes c d → new ≡ insert_entry eq answers c d → AreRight nodes new
  right_more answers new c d r a is = subst (AreRight nodes) (sym is) (inserted answers r)
    where
      inserted : (es : List (Case × Diagram)) → AreRight nodes es → AreRight nodes (insert_entry eq es c d)
      inserted [] r = right_cons c d [] a r
      inserted (e ∷ es) r = put e es r (inserted es (right_tail e es r)) (cases_Bool (eq c e.0))
        where
          put : (e : Case × Diagram) (es : List (Case × Diagram)) → AreRight nodes (e ∷ es) → AreRight nodes (insert_entry eq es c d) → (eq c e.0 ≡ true) ⊎ (eq c e.0 ≡ false) → AreRight nodes (insert_entry eq (e ∷ es) c d)
          put e es r rest (inl hit) = subst (AreRight nodes) (sym (ap (λ b. cond b ((e.0, d) ∷ es) (e ∷ insert_entry eq es c d)) hit))
              (right_cons e.0 d es (subst (λ k. Answers nodes k d) (same c e.0 hit) a) (right_tail e es r))
          put e es r rest (inr miss) = subst (AreRight nodes) (sym (ap (λ b. cond b ((e.0, d) ∷ es) (e ∷ insert_entry eq es c d)) miss))
              (right_cons e.0 e.1 (insert_entry eq es c d) (r.right zero e.0 e.1 refl) rest)

  pub right_found : (answers : List (Case × Diagram)) (c : Case) (found : Option Diagram) → AreRight nodes answers → found ≡ lookup (eq c) answers → IfKnown nodes c found
  right_found answers c found r is = subst (IfKnown nodes c) (sym is) (looked answers r)
    where
      looked : (es : List (Case × Diagram)) → AreRight nodes es → IfKnown nodes c (lookup (eq c) es)
      looked [] r = tt
      looked (e ∷ es) r = seen e es r (looked es (right_tail e es r)) (cases_Bool (eq c e.0))
        where
          seen : (e : Case × Diagram) (es : List (Case × Diagram)) → AreRight nodes (e ∷ es) → IfKnown nodes c (lookup (eq c) es) → (eq c e.0 ≡ true) ⊎ (eq c e.0 ≡ false) → IfKnown nodes c (lookup (eq c) (e ∷ es))
          seen e es r rest (inl hit) = subst (IfKnown nodes c) (sym (ap (λ b. cond b (Some e.1) (lookup (eq c) es)) hit)) (subst (λ k. Answers nodes k e.1) (sym (same c e.0 hit)) (r.right zero e.0 e.1 refl))
          seen e es r rest (inr miss) = subst (IfKnown nodes c) (sym (ap (λ b. cond b (Some e.1) (lookup (eq c) es)) miss)) rest
