-- Entering global code binds each of its variables once.
use Rattle.std.proofs.Common.{◌≡◌, ℕ, Bool, true, false, List, [], ◌∷◌, refl, ap, sym, ◌∙◌}
use Rattle.std.specs.Prelude.{if◌then◌else◌, Option, None}
use Rattle.std.specs.List.{list_all}
use Rattle.std.proofs.lemmas.Bool.{and_parts}
use Rattle.js_tree.specs.Mentions.{distinct_behind}
use Rattle.js_tree.specs.Parts.{is_among}
use Rattle.simple_scripts.specs.SimpleNames.{is_simple_name}
use Rattle.plain_heap.specs.Heap.{Heap, Properties, ObjectState, lookup}
use Rattle.plain_heap.specs.Values.{Value, ObjNo}
use Rattle.simple_runs.specs.Events as simple
use Rattle.js_machine.specs.Machine.Functions.{bind_global_var}
use Rattle.js_machine.specs.Machine.Objects.{Site}
use Rattle.js_machine.specs.Machine.Events.{Tree, in_turn}
use Rattle.simple_runs.proofs.GlobalNames.{heap_with, declared}
use Rattle.simple_runs.proofs.Variables.{is_bound, declare_all, among_all, all_more, bound_declare, declare_bound, declare_again}

module _ (own : Properties) (prototype : Option ObjNo) (rest : List ObjectState) (free : (name : List ℕ) → is_simple_name name ≡ true → lookup name own ≡ None) where
  abbrev at : simple.Heap → Heap
  at = heap_with own prototype rest

  pub entered : (site : Site) (seen names : List (List ℕ)) (vs : simple.Heap) (k : Unit {0} → Heap → Tree) (r : Value → Heap → Tree)
      → list_all is_simple_name names ≡ true → list_all (is_bound vs) seen ≡ true
      → in_turn (bind_global_var site) (distinct_behind seen names) (at vs) k r ≡ k tt (at (declare_all vs names))
  entered site seen [] vs k r simple_names bound = refl
  entered site seen (n ∷ ns) vs k r simple_names bound =
      by_seen (is_among seen n) refl (λ e. entered site seen ns vs k r parts.1 bound ∙ ap (λ vs. k tt (at (declare_all vs ns))) (sym e)) (entered site (n ∷ seen) ns (simple.declare n vs) k r parts.1 now_bound)
    where
      parts : (is_simple_name n ≡ true) × (list_all is_simple_name ns ≡ true)
      parts = and_parts (is_simple_name n) (list_all is_simple_name ns) simple_names

      now_bound : list_all (is_bound (simple.declare n vs)) (n ∷ seen) ≡ true
      now_bound = rw (declare_bound n vs) (all_more (is_bound vs) (is_bound (simple.declare n vs)) seen (λ m. bound_declare m n vs) bound)

      by_seen : (b : Bool) → is_among seen n ≡ b
          → (simple.declare n vs ≡ vs → in_turn (bind_global_var site) (distinct_behind seen ns) (at vs) k r ≡ k tt (at (declare_all (simple.declare n vs) ns)))
          → in_turn (bind_global_var site) (distinct_behind (n ∷ seen) ns) (at (simple.declare n vs)) k r ≡ k tt (at (declare_all (simple.declare n vs) ns))
          → in_turn (bind_global_var site) (if b then distinct_behind seen ns else (n ∷ distinct_behind (n ∷ seen) ns)) (at vs) k r ≡ k tt (at (declare_all (simple.declare n vs) ns))
      by_seen true among again first = again (declare_again n vs (among_all (is_bound vs) seen n among bound))
      by_seen false new again first =
          declared own prototype rest free site n parts.0 vs (simple.lookup n vs) refl (λ u h. in_turn (bind_global_var site) (distinct_behind (n ∷ seen) ns) h k r) r ∙ first
