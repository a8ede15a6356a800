use Rattle.std.proofs.Common.{length, sym, subst, rules}
use Rattle.diagrams.specs.Table.{Stands}
use Rattle.diagrams.proofs.Growing.{grown_table, grown_extends, right_still}
use Rattle.diagrams.specs.contracts.node.NodeFormPartialEq.TheImpl.{eq-value}
use Rattle.diagrams.proofs.table.Diagrams.with_top.Goals as goal

pub invariant_of-self-2 : goal.invariant_of-self-2
invariant_of-self-2 c =
    let nodes = c.self.inside.nodes.keys in
    let new = c.insert_full.new.self.keys in
    let s = subst (λ n. Stands n (length n) c.args.form) (sym c.self.view_is) c.requires in (
      grown_table eq-value.it (λ x. search rules) nodes new c.args.form c.self.invariant.0 s c.in_ok-number.ensures.keys,
      right_still (grown_extends eq-value.it nodes new c.args.form c.in_ok-number.ensures.keys) c.self.inside.answers.entries c.self.invariant.1,
    )

pub returns-clause-table : goal.returns-clause-table
returns-clause-table c = (invariant_of-self-2 c).0
