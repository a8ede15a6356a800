use Rattle.std.proofs.Common.{◌++◌, ap, sym, ◌∙◌, append_assoc}
use Rattle.js_scope.specs.Mentioning as spec
use Rattle.js_scope.proofs.Walks as W
use Rattle.js_scope.proofs.walk.Walk.+stmt_mentions.Goals as goal

pub in_stmt_form-returns-in_ok-in_handler-in-Try : goal.in_stmt_form-returns-in_ok-in_handler-in-Try
in_stmt_form-returns-in_ok-in_handler-in-Try t c =
    let w = c.args.self.now in
    let v = c.in-Try in
    let slice = c.as_slice-in-Try in
    let first = spec.in_stmts w slice.result.now in
    let handled = spec.in_handler w v.handler in
    let last = spec.in_last w v.last in
    W.behind c.in_last.result _ _ _ (first ++ handled) last _
    (c.in_ok-in_handler-in-Try.ensures ∙ ap (λ ms. ms ++ handled) c.in_ok-in_stmts-in-Try.ensures ∙ append_assoc _ first handled)
    (ap (λ f. spec.in_stmt_form w f) v.is ∙ W.form-Try w v.body v.handler v.last ∙ ap (λ b. spec.in_stmts w b ++ handled ++ last) (sym slice.ensures))
    c.in_last.ensures
