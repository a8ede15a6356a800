use Rattle.std.proofs.Common.{sym, subst, rules}
use Rattle.diagrams.specs.Cases.{Answers}
use Rattle.diagrams.proofs.Growing.{right_more}
use Rattle.diagrams.specs.contracts.case.CasePartialEq.TheImpl.{eq-value}
use Rattle.diagrams.proofs.table.Diagrams.remember.Goals as goal

pub invariant_of-self-2 : goal.invariant_of-self-2
invariant_of-self-2 c =
    let a = subst (λ n. Answers n c.args.case c.args.d) (sym c.self.view_is) c.requires in
    (c.self.invariant.0, right_more eq-value.it (λ x y h. search rules) c.self.inside.nodes.keys c.self.inside.answers.entries c.insert.new.self.entries c.args.case c.args.d c.self.invariant.1 a c.in_ok-insert.ensures.entries)
