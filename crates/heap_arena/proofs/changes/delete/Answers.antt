use Rattle.std.proofs.Common.{refl, ap, ◌∙◌}
use Rattle.plain_heap.specs.Methods.{delete}
use Rattle.own_properties.specs.Defining.{entries}
use Rattle.heap_arena.specs.Meaning.{object_of}
use Rattle.heap_arena.proofs.Entries.{without-entries}
use Rattle.heap_arena.proofs.changes.delete.Goals as goal

pub returns-in_default-clause-answer : goal.returns-in_default-clause-answer
unfolding delete
returns-in_default-clause-answer c environments = rw (← c.in_default.ensures) refl

pub returns-in_default-clause-made : goal.returns-in_default-clause-made
unfolding delete
returns-in_default-clause-made c environments = rw (← c.in_default.ensures) refl

pub returns-then-not-is_configurable-clause-answer : goal.returns-then-not-is_configurable-clause-answer
unfolding delete
returns-then-not-is_configurable-clause-answer c environments = rw (← c.in-Some.ensures, ← c.if-not-is_configurable.ensures) refl

pub returns-then-not-is_configurable-clause-made : goal.returns-then-not-is_configurable-clause-made
unfolding delete
returns-then-not-is_configurable-clause-made c environments = rw (← c.in-Some.ensures, ← c.if-not-is_configurable.ensures) refl

pub returns-clause-answer : goal.returns-clause-answer
unfolding delete
returns-clause-answer c environments = rw (← c.in-Some.ensures, ← c.if-not-is_configurable.ensures) refl

pub returns-clause-made : goal.returns-clause-made
unfolding delete
returns-clause-made c environments =
    rw (← c.in-Some.ensures, ← c.if-not-is_configurable.ensures)
    (ap (λ ps. record (object_of environments c.args.object.now) { properties = ps }) (ap entries c.remove.ensures.removed ∙ without-entries c.args.key.now c.args.object.now.properties))
