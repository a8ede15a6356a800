use Rattle.std.proofs.Common.{sym, ◌∙◌}
use Rattle.token_sheets.proofs.Places.{forgotten_none, forgotten_one}
use Rattle.token_sheets.proofs.name_places.forget.Goals as goal

pub returns-then-holds : goal.returns-then-holds
returns-then-holds c =
    forgotten_one c.args.places.now.entries c.swap_remove.new.self.entries c.args.name.now c.args.n (sym c.holds.ensures ∙ c.if-holds.true)
    c.swap_remove.ensures.updates.0

pub returns-else-holds : goal.returns-else-holds
returns-else-holds c = forgotten_none c.args.places.now.entries c.args.name.now c.args.n (sym c.holds.ensures ∙ c.if-holds.false)
