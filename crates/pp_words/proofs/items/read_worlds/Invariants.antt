use Rattle.std.proofs.Common.{◌≡◌, drop, map}
use Rattle.pp_words.specs.Words.{worlds_behind, worlds}
use Rattle.pp_words.proofs.items.read_worlds.Given as goal

abbrev pub invariant-loop-word : goal.invariant-loop-word
invariant-loop-word l = worlds_behind l.done l.world (map (λ w. w.now) (drop l.word-index l.words)) ≡ worlds (map (λ w. w.now) l.words)
