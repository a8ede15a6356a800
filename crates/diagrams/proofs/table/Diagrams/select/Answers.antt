use Rattle.std.proofs.lemmas.Result.{IfOk-weaker}
use Rattle.diagrams.proofs.Made.{selected_means}
use Rattle.diagrams.proofs.table.Diagrams.select.Goals as goal

pub returns-clause-made : goal.returns-clause-made
returns-clause-made c = IfOk-weaker c.answer.result _ _ (λ d a. selected_means c.answer.new.self c.args.g c.args.a c.args.b d a) c.answer.ensures.answered
