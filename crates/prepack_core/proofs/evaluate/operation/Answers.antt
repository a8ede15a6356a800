use Rattle.std.proofs.Common.{rules, sym, to_z, of_z, w64}
use Rattle.std.proofs.lemmas.Int.{to_z-of_z}
use Rattle.prepack_core.proofs.Safe.{combined-safe}
use Rattle.prepack_core.proofs.evaluate.operation.Goals as goal

pub invariant_of-result : goal.invariant_of-result
invariant_of-result c =
    let h = combined-safe c.args.op (to_z w64 (of_z w64 c.in_ok-x.x.value)) (to_z w64 (of_z w64 c.in_ok-y.y.value)) c.in-Ok.value (sym c.in-Ok.ensures) in
    search (rules, to_z-of_z)
