use Rattle.std.proofs.Common.{◌≡◌, ◌∙◌, Some, slice_get, sym, ap, subst}
use Rattle.diagrams.specs.Meaning.{Nodes}
use Rattle.diagrams.specs.Table.{IsTable}
use Rattle.diagrams.proofs.Made.{top_means}
use Rattle.diagrams.proofs.table.Diagrams.part.Goals as goal

pub returns-clause-means : goal.returns-clause-means
returns-clause-means c =
    let t : IsTable c.args.self.now = subst IsTable c.self.view_is c.self.invariant.0 in
    let at : slice_get c.args.self.now c.args.d.0 ≡ Some c.in-Some.form.now = ap (λ (n : Nodes). slice_get n c.args.d.0) (sym c.self.view_is) ∙ sym c.in-Some.ensures.key in
    top_means c.args.self.now c.args.d c.in-Some.form.now t at
