use Rattle.js_tree.specs.Count.{in_stmt}
use Rattle.simple_runs.specs.Simple.{statement}
use Rattle.prepack_core.specs.Evaluates.{KeepsBound}
use Rattle.prepack_core.proofs.Turns.{Remains}
use Rattle.prepack_core.proofs.evaluate.evaluate.Given as goal

abbrev pub invariant-loop-statement : goal.invariant-loop-statement
invariant-loop-statement l = record {
  rest : Remains statement in_stmt l.body l.initial.variables l.statement-index l.variables;
  bound : KeepsBound l.initial.variables l.variables;
}
