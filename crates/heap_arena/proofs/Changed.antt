-- One object in the arena that is changed.
use Rattle.std.proofs.Common.{◌≡◌, ◌<◌, ◌≤◌, ◌∙◌, ℕ, List, true, Option, Some, None, ap, sym, length, get_or}
use Rattle.std.specs.Prelude.{slice_set, unwrap_or}
use Rattle.std.specs.List.{list_all}
use Rattle.std.specs.Option.{option_map}
use Rattle.std.proofs.Math.Seq.{map-set_same}
use Rattle.std.proofs.lemmas.List.{set-get_or}
use Rattle.std.proofs.lemmas.List.Folds.{list_all-map}
use Rattle.std.proofs.lemmas.Option.{slice_get-get_or, slice_get_past}
use Rattle.plain_heap.specs.Heap as heap
use Rattle.heap_arena.specs.declared.object.Object.{Object}
use Rattle.heap_arena.specs.Meaning.{Store, heap_of, object_of, is_scope_there, are_scopes_there}
use Rattle.heap_arena.proofs.Views.{object_at-heap_of, with_object_set}

module _ (s : Store) (n : ℕ) where
  pub object_past : length s.objects ≤ n → heap.object_at (heap_of s) n ≡ None
  object_past past = object_at-heap_of s n ∙ ap (option_map (object_of s.environments)) (slice_get_past s.objects n past)

  module _ (o : Object) (below : n < length s.objects) (is : o ≡ get_or s.objects n o) where
    pub object_there : heap.object_at (heap_of s) n ≡ Some (object_of s.environments o)
    object_there = object_at-heap_of s n ∙ ap (option_map (object_of s.environments)) (slice_get-get_or s.objects n o below ∙ ap Some (sym is))

    -- what was there is put there again
    pub same_again : heap.set_object n (object_of s.environments o) (heap_of s) ≡ heap_of s
    same_again =
        sym (with_object_set s.objects s.cells s.environments n o)
        ∙ ap (λ os. heap_of (record s { objects = os })) (ap (slice_set s.objects n) is ∙ set-get_or s.objects n o)

    -- the object is another, or stays
    pub where_changed : (p : Object) (after : Option heap.ObjectState) → object_of s.environments p ≡ unwrap_or after (object_of s.environments o)
        → heap_of (record s { objects = slice_set s.objects n p }) ≡ unwrap_or (option_map (λ state. heap.set_object n state (heap_of s)) after) (heap_of s)
    where_changed p (Some after) e = with_object_set s.objects s.cells s.environments n p ∙ ap (λ state. heap.set_object n state (heap_of s)) e
    where_changed p None e = with_object_set s.objects s.cells s.environments n p ∙ ap (λ state. heap.set_object n state (heap_of s)) e ∙ same_again

pub scopes_stay : (k : ℕ) (objects : List Object) (n : ℕ) (p d : Object) → p.class ≡ (get_or objects n d).class → are_scopes_there k objects ≡ true
    → are_scopes_there k (slice_set objects n p) ≡ true
scopes_stay k objects n p d same there =
    sym (list_all-map (is_scope_there k) (λ (o : Object). o.class) (slice_set objects n p))
    ∙ ap (list_all (is_scope_there k)) (map-set_same (λ (o : Object). o.class) objects n p d same)
    ∙ list_all-map (is_scope_there k) (λ (o : Object). o.class) objects
    ∙ there
