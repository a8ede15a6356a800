use Rattle.std.proofs.Common.{subst, sym}
use Rattle.diagrams.specs.Cases.{Answers}
use Rattle.diagrams.proofs.Searching.{split_answer}
use Rattle.diagrams.proofs.table.Diagrams.finish.Goals as goal

pub remember-requires : goal.remember-requires
remember-requires c = split_answer c.args.self.now c.node.new.self c.node.ensures.kept c.args.split c.args.yes c.args.no c.in_ok-d.d c.requires.split c.requires.yes c.requires.no c.in_ok-d.ensures.made

pub returns-clause-answered : goal.returns-clause-answered
returns-clause-answered c =
    subst (λ n. Answers n c.args.split.whole c.in_ok-d.d) (sym c.remember.ensures)
    (split_answer c.args.self.now c.node.new.self c.node.ensures.kept c.args.split c.args.yes c.args.no c.in_ok-d.d c.requires.split c.requires.yes c.requires.no c.in_ok-d.ensures.made)
