use Rattle.std.proofs.lemmas.Result.{IfOk-weaker}
use Rattle.diagrams.specs.declared.node.NodeForm.TheVariants.{Leaf}
use Rattle.diagrams.proofs.Made.{top_means}
use Rattle.diagrams.proofs.table.Diagrams.leaf.Goals as goal

pub returns-clause-made : goal.returns-clause-made
returns-clause-made c =
    IfOk-weaker c.with_top.result _ _ (λ d at. top_means c.with_top.new.self d (Leaf c.args.n) c.with_top.ensures.table at) c.with_top.ensures.made
