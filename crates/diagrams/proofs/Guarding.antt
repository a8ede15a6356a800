-- Guards of the leaves of a diagram.
use Rattle.std.proofs.Common.{◌≡◌, ℕ, ◌<◌, List, [], ◌∷◌, ◌++◌, map, length, Option, Some, None, slice_get, ⊎_elim, sym, ap, subst, ◌∙◌}
use Rattle.std.proofs.lemmas.List.{map_push}
use Rattle.std.proofs.lemmas.Option.{slice_get-map, none-some, same_Some}
use Rattle.std.specs.Option.{option_map}
use Rattle.diagrams.specs.declared.node.Diagram.{Diagram}
use Rattle.diagrams.specs.Meaning.{Nodes, Assignment, Means, Extends, meaning, reads_as}
use Rattle.diagrams.specs.Leaves.{AreLeaves, AreGuarded, AreGuards}
use Rattle.diagrams.proofs.Meanings.{stays}
use Rattle.diagrams.proofs.Growing.{pushed_read, longer, then_extends}

pub means_still : {old new : Nodes} → Extends old new → (d : Diagram) (wanted : Nodes → Assignment → ℕ) → Means old d wanted → Means new d wanted
means_still e d wanted m = record { within = longer e d.0 m.within; reads = λ later f σ. m.reads later (then_extends e f) σ }

pub one_more_guard : {old new : Nodes} → Extends old new → (d : Diagram) (leaves : List ℕ) (guarded : List (ℕ × Diagram)) (n : ℕ) (g : Diagram) → AreGuards old d leaves guarded → Means new g (reads_as d n) → AreGuards new d (leaves ++ n ∷ []) (guarded ++ (n, g) ∷ [])
one_more_guard {old} {new} e d leaves guarded n g h m = record {
  each = map_push (λ p. p.0) guarded (n, g) ∙ ap (λ l. l ++ n ∷ []) h.each;
  guards = λ i k f at. ⊎_elim
      (λ p. means_still e f (reads_as d k) (h.guards i k f p.1))
      (λ p. subst (λ (q : ℕ × Diagram). Means new q.1 (reads_as d q.0)) (sym p.1) m)
      (pushed_read guarded (n, g) i (k, f) at);
}

module _ (guarded : List (ℕ × Diagram)) where
  first_at : (i n : ℕ) (g : Diagram) → slice_get guarded i ≡ Some (n, g) → slice_get (map (λ p. p.0) guarded) i ≡ Some n
  first_at i n g at = slice_get-map (λ p. p.0) guarded i ∙ ap (option_map (λ p. p.0)) at

  guard_at : (n : ℕ) (o : Option (ℕ × Diagram)) → option_map (λ p. p.0) o ≡ Some n → (g : Diagram) × (o ≡ Some (n, g))
  guard_at n None h = absurd (none-some n h)
  guard_at n (Some (m, g)) h = (g, ap (λ k. Some (k, g)) (same_Some m n h))

pub all_guarded : (old new : Nodes) → Extends old new → (d : Diagram) → d.0 < length old → (leaves : List ℕ) (guarded : List (ℕ × Diagram)) → AreLeaves old d leaves → AreGuards new d leaves guarded → AreGuarded new d guarded
all_guarded old new e d inside leaves guarded l h = record {
  guards = h.guards;
  all = λ σ.
      let p = l.all σ in
      let at : option_map (λ (q : ℕ × Diagram). q.0) (slice_get guarded p.0) ≡ Some (meaning new σ d) =
      sym (slice_get-map (λ q. q.0) guarded p.0) ∙ ap (λ xs. slice_get xs p.0) h.each ∙ p.1 ∙ ap (λ n. Some n) (sym (stays e σ d inside)) in
      let g = guard_at guarded (meaning new σ d) (slice_get guarded p.0) at in
      (g.0, (p.0, g.1));
  read = λ i n g at. let r = l.read i n (leaf_at i n g at) in (r.0, stays e r.0 d inside ∙ r.1);
  once = λ i j n g f at there. l.once i j n (leaf_at i n g at) (leaf_at j n f there);
}
  where
    leaf_at : (i n : ℕ) (g : Diagram) → slice_get guarded i ≡ Some (n, g) → slice_get leaves i ≡ Some n
    leaf_at i n g at = ap (λ xs. slice_get xs i) (sym h.each) ∙ first_at guarded i n g at
