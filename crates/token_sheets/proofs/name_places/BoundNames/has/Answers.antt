use Rattle.std.proofs.Common.{ap, ◌∙◌}
use Rattle.std.specs.Prelude.{is_some}
use Rattle.js_tree.specs.Parts.{is_among}
use Rattle.script_text.specs.CodeLine.{is_bound}
use Rattle.token_sheets.proofs.Places.{any_position, there}
use Rattle.token_sheets.proofs.name_places.BoundNames.has.Goals as goal

pub returns : goal.returns
returns c =
    let name = c.args.name.now in
    c.is_some.ensures
    ∙ there c.get.result
    ∙ ap (λ o. is_some o) (c.get.ensures.value ∙ c.self.invariant name)
    ∙ any_position (λ names. is_among names name) c.self.inside.scopes.items
    ∙ ap (λ scopes. is_bound scopes name) c.self.view_is
