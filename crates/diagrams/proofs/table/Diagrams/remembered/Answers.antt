use Rattle.std.proofs.Common.{subst, rules, ◌∙◌}
use Rattle.diagrams.specs.Cases.{IfKnown}
use Rattle.diagrams.proofs.Growing.{right_found}
use Rattle.diagrams.specs.contracts.case.CasePartialEq.TheImpl.{eq-value}
use Rattle.diagrams.proofs.table.Diagrams.remembered.Goals as goal

pub returns : goal.returns
returns c =
    subst (λ n. IfKnown n c.args.case c.copied.result) c.self.view_is
    (right_found eq-value.it (λ x y h. search rules) c.self.inside.nodes.keys c.self.inside.answers.entries c.args.case c.copied.result c.self.invariant.1 (c.copied.ensures ∙ c.get.ensures.value))
