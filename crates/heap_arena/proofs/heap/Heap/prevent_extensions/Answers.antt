use Rattle.std.proofs.Common.{arith, ◌<◌, ◌≤◌, ap, false, length, refl, Some}
use Rattle.heap_arena.specs.declared.object.Object.{Object}
use Rattle.heap_arena.specs.Changes.{closed}
use Rattle.heap_arena.specs.Meaning.{Store, object_of}
use Rattle.heap_arena.proofs.Changed.{object_past, object_there, scopes_stay, where_changed}
use Rattle.heap_arena.proofs.heap.Heap.prevent_extensions.Goals as goal

pub invariant_of-self : goal.invariant_of-self
invariant_of-self c =
    scopes_stay _ c.self.inside.objects.items c.index-i.result _ c.index_mut-object.result.now (ap (λ (o : Object). o.class) c.index_mut-object.ensures.value) c.self.invariant

pub returns-then-i-len-clause-heap : goal.returns-then-i-len-clause-heap
returns-then-i-len-clause-heap c =
    let s : Store = record { objects = c.self.inside.objects.items; cells = c.self.inside.cells.items; environments = c.self.inside.scopes } in
    let below : c.index-i.result < length c.self.inside.objects.items = omega arith in
    rw (← c.self.view_is, ← c.index-i.ensures, object_there s c.index-i.result c.index_mut-object.result.now below c.index_mut-object.ensures.value)
    (where_changed s c.index-i.result c.index_mut-object.result.now below c.index_mut-object.ensures.value (record c.index_mut-object.result.now { extensible = false }) (Some (closed (object_of c.self.inside.scopes c.index_mut-object.result.now))) refl)

pub returns-else-i-len-clause-heap : goal.returns-else-i-len-clause-heap
returns-else-i-len-clause-heap c =
    let s : Store = record { objects = c.self.inside.objects.items; cells = c.self.inside.cells.items; environments = c.self.inside.scopes } in
    let past : length c.self.inside.objects.items ≤ c.index-i.result = omega arith in
    rw (← c.self.view_is, ← c.index-i.ensures, object_past s c.index-i.result past) refl
