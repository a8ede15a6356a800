use Rattle.std.proofs.Common.{eqb, refl}
use Rattle.diagrams.proofs.Made.{leaf_everywhere, test_nowhere}
use Rattle.diagrams.proofs.table.Diagrams.is_everywhere.Goals as goal

pub returns-in-Leaf : goal.returns-in-Leaf
returns-in-Leaf c = leaf_everywhere c.args.self.now c.args.d c.in-Leaf.m c.args.n (eqb c.in-Leaf.m c.args.n) c.in-Leaf.ensures.table c.in-Leaf.ensures.top refl

pub returns-in-Node : goal.returns-in-Node
returns-in-Node c = test_nowhere c.args.self.now c.args.d c.in-Node.test c.in-Node.yes c.in-Node.no c.args.n c.in-Node.ensures.table c.in-Node.ensures.top
