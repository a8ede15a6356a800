use Rattle.std.proofs.Common.{arith}
use Rattle.std.proofs.lemmas.Result.{err_from_is_err_and}
use Rattle.simple_runs.specs.Simple.{declarator_rule}
use Rattle.js_tree.specs.Count.{in_maybe}
use Rattle.simple_scripts.specs.Simple.{names_in_init}
use Rattle.prepack_core.specs.Evaluates as spec
use Rattle.prepack_core.proofs.Turns.{remains_next, remains_stops, remains_none, all_in_part}
use Rattle.prepack_core.proofs.Bound.{are_bound-kept, keeps_both}
use Rattle.prepack_core.proofs.evaluate.run_declarators.Goals as goal

pub run_declarator-requires-clause-bound : goal.run_declarator-requires-clause-bound
run_declarator-requires-clause-bound c =
    are_bound-kept c.args.variables.now c.loop-declarator.variables (names_in_init c.declarator-item.result.init) c.loop-declarator.invariant.bound
    (all_in_part (spec.is_bound c.args.variables.now) (λ d. names_in_init d.init) c.args.declarators.now c.loop-declarator.declarator-index c.declarator-item.result c.requires.bound c.loop-declarator-test.true c.declarator-item.is)

pub returns-in_err-run_declarator-clause-runs : goal.returns-in_err-run_declarator-clause-runs
returns-in_err-run_declarator-clause-runs c =
    let p = err_from_is_err_and c.from_residual.result c.from_residual.ensures.1 in
    rw (p.1, p.2) (remains_stops (λ d. declarator_rule d.name d.init) (λ d. in_maybe d.init) c.args.declarators.now c.args.variables.now c.loop-declarator.declarator-index c.loop-declarator.variables
    c.run_declarator.new.variables c.run_declarator.new.variables c.declarator-item.result c.in_err-run_declarator.field-0.0 c.loop-declarator-test.true c.declarator-item.is c.loop-declarator.invariant.rest c.in_err-run_declarator.ensures.runs)

pub loop-declarator-preserved : goal.loop-declarator-preserved
loop-declarator-preserved c = record {
  rest = remains_next (λ d. declarator_rule d.name d.init) (λ d. in_maybe d.init) c.args.declarators.now c.args.variables.now c.loop-declarator.declarator-index c.loop-declarator.variables
      c.run_declarator.new.variables c.declarator-item.result c.loop-declarator-test.true c.declarator-item.is c.loop-declarator.invariant.rest c.in_ok-run_declarator.ensures.runs;
  bound = keeps_both c.args.variables.now c.loop-declarator.variables c.run_declarator.new.variables c.loop-declarator.invariant.bound c.in_ok-run_declarator.ensures.bound;
}

pub returns-clause-runs : goal.returns-clause-runs
returns-clause-runs c =
    remains_none (λ d. declarator_rule d.name d.init) (λ d. in_maybe d.init) c.args.declarators.now c.args.variables.now c.loop-declarator.variables c.loop-declarator.declarator-index
    (omega (arith, c.loop-declarator-test.false)) c.loop-declarator.invariant.rest
