use Rattle.std.proofs.Common.{ap, sym, ◌∙◌, ◌∷◌, ◌-◌, length, take, drop, arith}
use Rattle.std.specs.Char.Utf16.{utf16_chars}
use Rattle.readable_trees.proofs.Units.{spelled-alone, spelled-both}
use Rattle.readable_trees.proofs.words.first_char.Goals as goal

pub returns-in-empty-clause-chars : goal.returns-in-empty-clause-chars
returns-in-empty-clause-chars c =
    spelled-alone c.args.first c.args.behind.now (omega (arith, c.in-empty.len_below)) ∙ ap (λ o. o ∷ utf16_chars c.args.behind.now) (sym c.lone.ensures)

pub returns-then-is_low-clause-chars : goal.returns-then-is_low-clause-chars
returns-then-is_low-clause-chars c =
    spelled-both c.args.first c.args.behind.now (omega (arith, c.in-len1-up.len_at_least)) (sym c.is_high.ensures ∙ c.if-is_high.true) (sym c.is_low.ensures ∙ c.if-is_low.true)
    ∙ ap (λ o. o ∷ utf16_chars (take (length c.args.behind.now - 1) (drop 1 c.args.behind.now))) (sym c.of_pair.ensures)
