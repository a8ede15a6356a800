use Rattle.std.proofs.Common.{ap, sym, ◌∙◌, take}
use Rattle.std.specs.Prelude.{◌||◌}
use Rattle.std.specs.List.{list_any}
use Rattle.std.proofs.lemmas.List.{take_all}
use Rattle.js_tree.specs.Early.{differs}
use Rattle.js_scope.specs.Mentioning.{mention_of, told}
use Rattle.js_scope.proofs.Typed.{one_noticed}
use Rattle.js_scope.proofs.inputs.Inputs.of.Goals as goal

pub loop-mention-preserved : goal.loop-mention-preserved
loop-mention-preserved c = λ p k q.
    let all = c.args.all.now in
    let i = c.loop-mention.mention-index in
    let m = c.mention-item.result in
    c.in_ok-note_mention.ensures p k q
    ∙ ap (λ b. b || differs p k q (mention_of m)) (c.loop-mention.invariant p k q)
    ∙ ap (λ n. list_any (differs p k q) (told (take i all)) || differs p k q (mention_of n)) c.mention-item.is
    ∙ sym (one_noticed all i m p k q c.loop-mention-test.true)

pub returns : goal.returns
returns c = λ p k q.
    c.loop-mention.invariant p k q
    ∙ ap (λ ms. list_any (differs p k q) (told ms)) (take_all c.loop-mention.mention-index c.args.all.now c.loop-mention-test.false)
