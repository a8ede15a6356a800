use Rattle.heap_arena.proofs.Scoping.{found_here, found_outside, found_nowhere, found_past}
use Rattle.heap_arena.proofs.environment.resolve_in.Goals as goal

pub returns-in-Some-own : goal.returns-in-Some-own
returns-in-Some-own c =
    found_here c.loop-scope.older.now c.args.scopes.now c.loop-scope.at c.args.s 0 c.args.name.now c.loop-scope.invariant c.in-Some.scope.now (rw c.index.ensures at c.in-Some.ensures) c.in-Some-own.c c.in-Some-own.ensures

pub loop-scope-preserved : goal.loop-scope-preserved
loop-scope-preserved c =
    rw c.index-in-Some-outer.ensures (found_outside c.loop-scope.older.now c.args.scopes.now c.loop-scope.at c.args.s c.in-Some-outer.outer c.args.name.now c.loop-scope.invariant c.in-Some.scope.now (rw c.index.ensures at c.in-Some.ensures) c.in_default-own.ensures c.in-Some-outer.is)

pub returns-in-None : goal.returns-in-None
returns-in-None c =
    found_nowhere c.loop-scope.older.now c.args.scopes.now c.loop-scope.at c.args.s 0 c.args.name.now c.loop-scope.invariant c.in-Some.scope.now (rw c.index.ensures at c.in-Some.ensures) c.in_default-own.ensures c.in-None.is

pub returns : goal.returns
returns c = found_past c.loop-scope.older.now c.args.scopes.now c.loop-scope.at c.args.s 0 c.args.name.now c.loop-scope.invariant (rw c.index.ensures at c.in_default.ensures)
