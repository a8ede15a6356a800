use Rattle.heap_arena.proofs.Defining.{of_array, of_other}
use Rattle.heap_arena.proofs.changes.define_own.Goals as goal

pub returns-then-is_array-clause-answer : goal.returns-then-is_array-clause-answer
returns-then-is_array-clause-answer c =
    of_array c.args.key.now _ c.args.object.now c.define_in_array.new.properties c.define_in_array.result c.if-is_array.ensures c.define_in_array.ensures.answer

pub returns-else-is_array-clause-answer : goal.returns-else-is_array-clause-answer
returns-else-is_array-clause-answer c = of_other c.args.key.now _ c.args.object.now c.define.new.properties c.define.result c.if-is_array.ensures c.define.ensures.answer
