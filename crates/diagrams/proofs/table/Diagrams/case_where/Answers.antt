use Rattle.diagrams.proofs.Searching.{case_part}
use Rattle.diagrams.proofs.table.Diagrams.case_where.Goals as goal

pub returns : goal.returns
returns c = case_part c.args.self.now c.args.case c.args.test c.args.truth c.part_where.result c.part_where-2.result c.part_where-3.result c.requires.tested c.part_where.ensures c.part_where-2.ensures c.part_where-3.ensures
