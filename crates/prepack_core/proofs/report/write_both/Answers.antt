use Rattle.prepack_core.proofs.Pieces.{appended_both, appended_cut}
use Rattle.prepack_core.proofs.report.write_both.Goals as goal

pub returns-then-write_text-clause-appended : goal.returns-then-write_text-clause-appended
returns-then-write_text-clause-appended g c =
    appended_both _ _ _ _ _ _ _ _ c.write_text.ensures.appended c.if-write_text.ensures.whole c.write_text-then-write_text.ensures.appended

pub returns-else-write_text-clause-appended : goal.returns-else-write_text-clause-appended
returns-else-write_text-clause-appended g c = appended_cut _ _ _ _ _ _ c.write_text.ensures.appended c.if-write_text.ensures.cause
