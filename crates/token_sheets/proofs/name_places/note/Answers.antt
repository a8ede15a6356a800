use Rattle.std.proofs.Common.{ap, ◌∙◌, cond}
use Rattle.std.specs.Prelude.{Some, not}
use Rattle.std.specs.Str.{bytes_eq}
use Rattle.token_sheets.specs.NamePlaces.{place_of}
use Rattle.token_sheets.proofs.Places.{absent, noted_first}
use Rattle.token_sheets.proofs.name_places.note.Goals as goal

pub returns-in_ok-insert : goal.returns-in_ok-insert
returns-in_ok-insert c =
    let old = c.args.places.now.entries in
    noted_first old c.insert.new.self.entries c.args.name.now c.args.n
    (absent c.get.result (place_of old c.args.name.now) c.get.ensures.value (c.is_none.ensures ∙ ap (λ b. not b) c.if-is_none.true))
    (λ q. c.in_ok-insert.ensures.updates.0 q ∙ ap (λ k. cond (bytes_eq k q) (Some c.args.n) (place_of old q)) c.in_ok-copy.ensures)
