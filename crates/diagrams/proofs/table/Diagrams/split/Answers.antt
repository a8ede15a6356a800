use Rattle.std.proofs.Common.{arith}
use Rattle.diagrams.proofs.Sharing.{starts_later}
use Rattle.diagrams.proofs.Searching.{first_tested, starts_own}
use Rattle.diagrams.proofs.table.Diagrams.split.Goals as goal

pub case_where-requires-clause-value : goal.case_where-requires-clause-value
case_where-requires-clause-value c = starts_own c.args.self.now c.args.case.value c.args.own.0 c.earlier-test.result.0 c.requires.own (omega (arith, c.earlier.ensures.least, c.earlier-test.ensures.least))

pub case_where-requires-clause-same : goal.case_where-requires-clause-same
case_where-requires-clause-same c = starts_later c.args.self.now c.earlier-test.result.0 c.earlier.result.0 c.args.case.same c.earlier-test.ensures.least c.earlier.ensures.starts

pub case_where-requires-clause-tested : goal.case_where-requires-clause-tested
case_where-requires-clause-tested c = first_tested c.args.self.now c.args.case c.args.own c.earlier.result c.earlier-test.result c.requires.own c.earlier.ensures c.earlier-test.ensures

pub case_where-requires-2-clause-value : goal.case_where-requires-2-clause-value
case_where-requires-2-clause-value c = starts_own c.args.self.now c.args.case.value c.args.own.0 c.earlier-test.result.0 c.requires.own (omega (arith, c.earlier.ensures.least, c.earlier-test.ensures.least))

pub case_where-requires-2-clause-same : goal.case_where-requires-2-clause-same
case_where-requires-2-clause-same c = starts_later c.args.self.now c.earlier-test.result.0 c.earlier.result.0 c.args.case.same c.earlier-test.ensures.least c.earlier.ensures.starts

pub case_where-requires-2-clause-tested : goal.case_where-requires-2-clause-tested
case_where-requires-2-clause-tested c = first_tested c.args.self.now c.args.case c.args.own c.earlier.result c.earlier-test.result c.requires.own c.earlier.ensures c.earlier-test.ensures
