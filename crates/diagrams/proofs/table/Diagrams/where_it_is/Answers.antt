use Rattle.std.proofs.lemmas.Result.{IfOk-weaker}
use Rattle.diagrams.proofs.Made.{read_means}
use Rattle.diagrams.proofs.table.Diagrams.where_it_is.Goals as goal

pub returns-clause-made : goal.returns-clause-made
returns-clause-made c =
    IfOk-weaker c.answer.result _ _
    (λ g a. read_means c.leaf.new.self c.leaf-2.new.self c.answer.new.self c.args.d c.in_ok-never.never c.in_ok-always.always g c.args.leaf c.in_ok-never.ensures.made c.in_ok-always.ensures.made c.leaf-2.ensures.kept c.answer.ensures.kept a)
    c.answer.ensures.answered
