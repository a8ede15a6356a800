use Rattle.std.proofs.Common.{◌≡◌, drop, map}
use Rattle.pp_words.specs.Words.{items_behind, items}
use Rattle.pp_words.proofs.items.read_items.Given as goal

abbrev pub invariant-loop-word : goal.invariant-loop-word
invariant-loop-word l = items_behind l.done (map (λ w. w.now) (drop l.word-index l.words)) ≡ items (map (λ w. w.now) l.words)
