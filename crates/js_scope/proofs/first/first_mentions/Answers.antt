use Rattle.std.proofs.Common.{[], ap, sym, ◌∙◌}
use Rattle.std.proofs.lemmas.List.{take_all}
use Rattle.js_scope.specs.FreeNames.{names_in}
use Rattle.js_scope.specs.Hoisting.{add_all}
use Rattle.js_scope.specs.Mentioning.{told}
use Rattle.js_scope.proofs.Whole.{mentioned}
use Rattle.js_scope.proofs.first.first_mentions.Goals as goal

pub returns : goal.returns
returns c =
    let l = c.loop-mention in
    sym l.invariant.first
    ∙ l.invariant.gathered
    ∙ ap (λ ms. add_all [] (names_in (told ms))) (take_all l.mention-index c.args.mentions.now c.loop-mention-test.false)
    ∙ mentioned c.args.mentions.now
