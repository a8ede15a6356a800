use Rattle.std.proofs.Common.{ap, ◌∙◌, ◌<◌, length, arith}
use Rattle.std.specs.Str.{bytes_eq}
use Rattle.token_sheets.specs.NamePlaces.{noted}
use Rattle.token_sheets.proofs.Places.{numbered_more}
use Rattle.token_sheets.proofs.name_places.NumberedNames.new.Goals as goal

pub loop-n-preserved : goal.loop-n-preserved
loop-n-preserved c = λ q.
    let n = c.loop-n.n in
    let less : n < length c.args.names = omega (arith, c.loop-n-test.true, c.len-n-end.ensures) in
    c.in_ok-note.ensures q
    ∙ ap (λ o. noted o (bytes_eq q c.at.result.now) n) (c.loop-n.invariant q)
    ∙ numbered_more c.args.names n c.at.result.now q less c.at.ensures
