use Rattle.std.proofs.Common.{◌≡◌, ap, sym, ◌∙◌, arith, length}
use Rattle.js_tree.specs.Parts.{is_among}
use Rattle.token_sheets.specs.NamePlaces.{noted, scope_position}
use Rattle.token_sheets.proofs.Places.{position_more}
use Rattle.token_sheets.proofs.name_places.BoundNames.enter.Goals as goal

pub invariant_of-result : goal.invariant_of-result
invariant_of-result c = λ q.
    let scopes = c.self.inside.scopes.items in
    let count : c.len.result ≡ length scopes = omega (arith, c.len.ensures, c.self.inside.scopes.ok) in
    c.in_ok-note_all.ensures q
    ∙ ap (λ o. noted o (is_among c.as_slice.result.now q) c.len.result) (c.self.invariant q)
    ∙ ap (λ names. noted (scope_position scopes q) (is_among names q) c.len.result) c.as_slice.ensures
    ∙ ap (λ n. noted (scope_position scopes q) (is_among c.args.names q) n) count
    ∙ sym (position_more (λ names. is_among names q) scopes c.args.names)
    ∙ ap (λ all. scope_position all q) (sym c.in_ok-push.ensures.items)
