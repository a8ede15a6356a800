use Rattle.std.proofs.lemmas.Result.{err_from_is_err_and}
use Rattle.prepack_core.specs.Values.{primitive_of}
use Rattle.prepack_core.proofs.Evaluating.{declarator_without, declarator_departs, declarator_runs}
use Rattle.prepack_core.proofs.Bound.{keeps-put}
use Rattle.prepack_core.proofs.evaluate.run_declarator.Goals as goal

pub returns-in_default-clause-runs : goal.returns-in_default-clause-runs
returns-in_default-clause-runs c = declarator_without c.args.declarator.now.name c.args.declarator.now.init c.args.variables.now c.in_default.is

pub returns-in_err-value-clause-runs : goal.returns-in_err-value-clause-runs
returns-in_err-value-clause-runs c =
    let p = err_from_is_err_and c.from_residual.result c.from_residual.ensures.1 in
    rw (p.1, p.2) (declarator_departs c.args.declarator.now.name c.args.declarator.now.init c.in-Some.init c.args.variables.now _ c.in-Some.is c.in_err-value.ensures)

pub returns-clause-runs : goal.returns-clause-runs
returns-clause-runs c =
    rw (c.in_ok-put.ensures, c.in_ok-copy.ensures)
    (declarator_runs c.args.declarator.now.name c.args.declarator.now.init c.in-Some.init c.args.variables.now c.in_ok-value.value c.in-Some.is c.in_ok-value.ensures)

pub returns-clause-bound : goal.returns-clause-bound
returns-clause-bound c = rw c.in_ok-put.ensures (keeps-put c.in_ok-copy.field-0 (primitive_of c.in_ok-value.value) c.args.variables.now)
