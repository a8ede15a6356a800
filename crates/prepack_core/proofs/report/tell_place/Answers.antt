use Rattle.prepack_core.proofs.Pieces.{appended_both, appended_cut}
use Rattle.prepack_core.proofs.report.tell_place.Goals as goal

pub returns-then-not-write_place : goal.returns-then-not-write_place
returns-then-not-write_place g c = appended_cut _ _ _ _ _ _ c.write_place.ensures.appended c.if-not-write_place.ensures.cause

pub returns-then-not-write_both : goal.returns-then-not-write_both
returns-then-not-write_both g c =
    appended_both _ _ _ _ _ _ _ _ c.write_place.ensures.appended c.if-not-write_place.ensures.whole
    (appended_cut _ _ _ _ _ _ c.write_both.ensures.appended c.if-not-write_both.ensures.cause)

pub returns : goal.returns
returns g c =
    appended_both _ _ _ _ _ _ _ _ c.write_place.ensures.appended c.if-not-write_place.ensures.whole
    (appended_both _ _ _ _ _ _ _ _ c.write_both.ensures.appended c.if-not-write_both.ensures.whole c.write_text.ensures.appended)
