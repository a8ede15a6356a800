use Rattle.std.proofs.Common.{sym, subst}
use Rattle.std.proofs.lemmas.Bool.{eqb-false}
use Rattle.std.proofs.lemmas.Result.{IfOk-weaker}
use Rattle.diagrams.specs.declared.node.NodeForm.TheVariants.{Node}
use Rattle.diagrams.specs.Table.{IsTable}
use Rattle.diagrams.proofs.Made.{top_means, may_stand}
use Rattle.diagrams.proofs.table.Diagrams.node.Goals as goal

pub with_top-requires : goal.with_top-requires
with_top-requires c =
    may_stand c.args.self.now c.args.test c.args.yes c.args.no (subst IsTable c.self.view_is c.self.invariant.0) c.requires.yes_within c.requires.no_within c.requires.yes_behind c.requires.no_behind
    (eqb-false c.args.yes.0 c.args.no.0 (sym c.if-eq.ensures))

pub returns-clause-made : goal.returns-clause-made
returns-clause-made c =
    IfOk-weaker c.with_top.result _ _ (λ d at. top_means c.with_top.new.self d (Node c.args.test c.args.yes c.args.no) c.with_top.ensures.table at) c.with_top.ensures.made
