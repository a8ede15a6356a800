use Rattle.std.proofs.Common.{arith, ◌<◌, ◌≤◌, ◌∙◌, ap, length, refl}
use Rattle.heap_arena.specs.declared.object.Object.{Object}
use Rattle.heap_arena.specs.Meaning.{Store}
use Rattle.heap_arena.proofs.Changed.{object_past, object_there, scopes_stay}
use Rattle.heap_arena.proofs.Defining.{defined_there}
use Rattle.heap_arena.proofs.heap.Heap.define.Goals as goal

pub invariant_of-self : goal.invariant_of-self
invariant_of-self c =
    scopes_stay _ c.self.inside.objects.items c.index-i.result c.define_own.new.object c.index_mut.result.now (c.define_own.ensures.class ∙ ap (λ (o : Object). o.class) c.index_mut.ensures.value) c.self.invariant

pub returns-then-i-len-clause-answer : goal.returns-then-i-len-clause-answer
returns-then-i-len-clause-answer c =
    let s : Store = record { objects = c.self.inside.objects.items; cells = c.self.inside.cells.items; environments = c.self.inside.scopes } in
    let below : c.index-i.result < length c.self.inside.objects.items = omega arith in
    rw (← c.self.view_is, ← c.index-i.ensures, object_there s c.index-i.result c.index_mut.result.now below c.index_mut.ensures.value)
    (defined_there s c.index-i.result c.index_mut.result.now c.define_own.new.object below c.index_mut.ensures.value c.args.key.now _ c.define_own.result c.define_own.ensures.answer c.define_own.ensures.unchanged)

pub returns-else-i-len-clause-answer : goal.returns-else-i-len-clause-answer
returns-else-i-len-clause-answer c =
    let s : Store = record { objects = c.self.inside.objects.items; cells = c.self.inside.cells.items; environments = c.self.inside.scopes } in
    let past : length c.self.inside.objects.items ≤ c.index-i.result = omega arith in
    rw (← c.self.view_is, ← c.index-i.ensures, object_past s c.index-i.result past) refl
