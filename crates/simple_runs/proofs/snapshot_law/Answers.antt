use Rattle.simple_runs.proofs.Rebuilding.{without_wrapper, rebuilds}
use Rattle.simple_runs.proofs.snapshot_law.Goals as goal

pub returns-clause-residual : goal.returns-clause-residual
returns-clause-residual c = without_wrapper

pub returns-clause-rebuilds : goal.returns-clause-rebuilds
returns-clause-rebuilds c = rebuilds
