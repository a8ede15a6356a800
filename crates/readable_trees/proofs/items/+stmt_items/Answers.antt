use Rattle.std.proofs.Common.{◌++◌, ap, sym, ◌∙◌, append_assoc}
use Rattle.readable_trees.specs.Items as spec
use Rattle.readable_trees.proofs.ItemForms as W
use Rattle.readable_trees.proofs.items.+stmt_items.Goals as goal

pub in_stmt_form-returns-in_ok-in_handler-in-Try : goal.in_stmt_form-returns-in_ok-in_handler-in-Try
in_stmt_form-returns-in_ok-in_handler-in-Try t c =
    let v = c.in-Try in
    let slice = c.as_slice-in-Try in
    let first = spec.in_stmts slice.result.now in
    let handled = spec.in_handler v.handler in
    let last = spec.in_last v.last in
    W.behind c.in_last.result _ _ _ (first ++ handled) last _
    (c.in_ok-in_handler-in-Try.ensures ∙ ap (λ ms. ms ++ handled) c.in_ok-in_stmts-in-Try.ensures ∙ append_assoc _ first handled)
    (ap (λ f. spec.in_stmt_form f) v.is ∙ W.items-Try v.body v.handler v.last ∙ ap (λ b. spec.in_stmts b ++ handled ++ last) (sym slice.ensures))
    c.in_last.ensures
