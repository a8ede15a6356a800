use Rattle.std.proofs.Common.{◌≡◌, false, eqb, sym}
use Rattle.std.proofs.lemmas.Bool.{eqb-true, eqb-false, not-true, not-false}
use Rattle.diagrams.proofs.Searching.{leaf_part, later_part, high_part, low_part}
use Rattle.diagrams.proofs.table.Diagrams.part_where.Goals as goal

pub returns-in-Leaf : goal.returns-in-Leaf
returns-in-Leaf c = leaf_part c.args.self.now c.in-Leaf.ensures.table c.args.d c.requires.within c.args.test c.args.truth c.in-Leaf.field-0 c.in-Leaf.ensures.top

pub returns-then-ne : goal.returns-then-ne
returns-then-ne c =
    let apart : eqb c.in-Node.other.0 c.args.test.0 ≡ false = not-true (eqb c.in-Node.other.0 c.args.test.0) (sym c.if-ne.ensures) in
    later_part c.args.self.now c.in-Node.ensures.table c.args.d c.requires.within c.args.test c.args.truth c.in-Node.other c.in-Node.yes c.in-Node.no c.in-Node.ensures.top c.requires.starts
    (eqb-false c.in-Node.other.0 c.args.test.0 apart)

pub returns-then-truth : goal.returns-then-truth
returns-then-truth c =
    high_part c.args.self.now c.in-Node.ensures.table c.args.d c.requires.within c.args.test c.args.truth c.in-Node.other c.in-Node.yes c.in-Node.no c.in-Node.ensures.top
    (eqb-true c.in-Node.other.0 c.args.test.0 (not-false (eqb c.in-Node.other.0 c.args.test.0) (sym c.if-ne.ensures))) c.if-truth.true

pub returns-else-truth : goal.returns-else-truth
returns-else-truth c =
    low_part c.args.self.now c.in-Node.ensures.table c.args.d c.requires.within c.args.test c.args.truth c.in-Node.other c.in-Node.yes c.in-Node.no c.in-Node.ensures.top
    (eqb-true c.in-Node.other.0 c.args.test.0 (not-false (eqb c.in-Node.other.0 c.args.test.0) (sym c.if-ne.ensures))) c.if-truth.false
