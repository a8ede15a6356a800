use Rattle.prepack_core.proofs.Evaluating.{statement_runs}
use Rattle.prepack_core.proofs.evaluate.run_statement.Goals as goal

pub returns-clause-runs : goal.returns-clause-runs
returns-clause-runs c =
    statement_runs c.args.statement.now c.declarators_of.result.now c.args.variables.now c.run_declarators.new.variables c.run_declarators.result c.requires.simple c.declarators_of.ensures c.run_declarators.ensures.runs
