use Rattle.std.proofs.Common.{subst}
use Rattle.diagrams.specs.Table.{IsTable}
use Rattle.diagrams.proofs.Made.{same_exactly}
use Rattle.diagrams.proofs.table.Diagrams.same.Goals as goal

pub returns : goal.returns
returns c = same_exactly c.args.self.now c.args.d c.args.e c.eq.result (subst IsTable c.self.view_is c.self.invariant.0) c.requires.d_within c.requires.e_within c.eq.ensures
