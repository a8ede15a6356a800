use Rattle.std.proofs.Common.{◌++◌, [], ◌∷◌, ap, sym, ◌∙◌, map, take}
use Rattle.std.proofs.lemmas.Result.{on_ok_weaker}
use Rattle.residual_form.specs.Snapshot.{variable}
use Rattle.prepack_core.proofs.Snapshots.{one_more}
use Rattle.prepack_core.proofs.residual.push_at.Goals as goal

pub returns : goal.returns
returns c =
    let vs = c.args.variables.now in
    let i = c.args.i in
    on_ok_weaker c.push.result
    (λ e. e ∙ ap (λ ds. ds ++ c.in_ok-variable.field-0 ∷ []) c.requires.before ∙ ap (λ d. map variable (take i vs) ++ d ∷ []) (c.in_ok-variable.ensures {u = tt}) ∙ one_more vs i _ (sym c.in-Some.ensures))
    c.push.ensures.ok
