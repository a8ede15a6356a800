use Rattle.std.proofs.Common.{sym}
use Rattle.heap_arena.specs.Meaning.{heap_of}
use Rattle.heap_arena.proofs.Chains.{begins, none_there, nothing}
use Rattle.heap_arena.proofs.heap.Heap.find_along.Goals as goal

pub returns-in_default : goal.returns-in_default
returns-in_default c = rw c.in_default.is (nothing (heap_of c.args.self.now) c.args.key.now)

pub returns-in_default-object : goal.returns-in_default-object
returns-in_default-object c = rw c.in-Some.is (none_there (heap_of c.args.self.now) c.args.key.now _ (sym c.in_default-object.ensures))

pub loop-object-init : goal.loop-object-init
loop-object-init c = rw c.in-Some.is (begins (heap_of c.args.self.now) c.args.key.now _ _ (sym c.in-Some-object.ensures))
