use Rattle.std.proofs.Common.{[], ap, ◌∙◌}
use Rattle.std.proofs.lemmas.List.{take_all}
use Rattle.js_tree.specs.Parts.{is_among}
use Rattle.js_scope.specs.Hoisting.{add_all}
use Rattle.js_scope.proofs.Gathered.{among_all}
use Rattle.js_scope.proofs.names.Names.of.Goals as goal

pub returns : goal.returns
returns c = λ q.
    ap (λ names. is_among names q) (c.loop-name.invariant ∙ ap (add_all []) (take_all c.loop-name.name-index c.args.all.now c.loop-name-test.false))
    ∙ among_all c.args.all.now q
