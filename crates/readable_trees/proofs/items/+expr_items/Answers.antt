use Rattle.std.proofs.Common.{ap, sym, ◌∙◌}
use Rattle.readable_trees.specs.Items as spec
use Rattle.readable_trees.proofs.ItemForms as W
use Rattle.readable_trees.proofs.items.+expr_items.Goals as goal

pub in_form-returns-in-ArrayLit : goal.in_form-returns-in-ArrayLit
in_form-returns-in-ArrayLit t c =
    let v = c.in-ArrayLit in
    W.alone c.in_elements.result _ _ (spec.in_elements c.as_slice.result.now) _
    (ap (λ f. spec.in_form f) v.is ∙ W.items-ArrayLit v.elements ∙ ap (λ es. spec.in_elements es) (sym c.as_slice.ensures))
    c.in_elements.ensures
