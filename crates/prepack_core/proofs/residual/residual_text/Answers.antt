use Rattle.prepack_core.proofs.Written.{written_so}
use Rattle.prepack_core.proofs.residual.residual_text.Goals as goal

pub returns : goal.returns
returns c =
    let script = c.in_ok-script.ensures {u = tt} in
    let text = c.in_ok-print.ensures {u = tt} in
    written_so c.args.variables.now c.in_ok-script.script c.in_ok-print.field-0 c.into_vec.result.items script.script c.into_vec.ensures text.text text.back c.snapshot.ensures.plain c.snapshot.ensures.distinct c.snapshot_law.ensures.residual c.snapshot_law.ensures.rebuilds c.small_form_law.ensures c.place_free_text.ensures
