use Rattle.simple_runs.specs.Simple.{declarator_rule}
use Rattle.js_tree.specs.Count.{in_maybe}
use Rattle.prepack_core.specs.Evaluates.{KeepsBound}
use Rattle.prepack_core.proofs.Turns.{Remains}
use Rattle.prepack_core.proofs.evaluate.run_declarators.Given as goal

abbrev pub invariant-loop-declarator : goal.invariant-loop-declarator
invariant-loop-declarator l = record {
  rest : Remains (λ d. declarator_rule d.name d.init) (λ d. in_maybe d.init) l.declarators l.fn.variables l.declarator-index l.variables;
  bound : KeepsBound l.fn.variables l.variables;
}
