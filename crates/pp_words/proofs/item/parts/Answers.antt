use Rattle.std.proofs.Common.{Some, None, arith, ap, ◌∙◌, Option, List, ℕ, IfSome, IfNone, ◌≡◌, ◌∷◌, ◌++◌, Bor}
use Rattle.std.proofs.lemmas.Str.Pattern.{split_parts}
use Rattle.std.specs.Prelude.{MatchOption}
use Rattle.clap.specs.Lexer.{name_and_value}
use Rattle.clap.proofs.CutLemmas.{Lacks}
use Rattle.clap.proofs.LexerLemmas.{name_and_value-at, name_and_value-without}
use Rattle.pp_words.proofs.item.parts.Goals as goal

at_equals : (word : List ℕ) (r : Option (Bor (List ℕ) × Bor (List ℕ))) → MatchOption r (Lacks 61 word) (λ p. (word ≡ p.0.now ++ (61 ∷ p.1.now)) × Lacks 61 p.0.now)
    → IfSome r (λ p. name_and_value word ≡ (p.0.now, Some p.1.now)) × IfNone r (name_and_value word ≡ (word, None))
at_equals word None lacks = (tt, name_and_value-without word lacks)
at_equals word (Some p) cut = (ap name_and_value cut.0 ∙ name_and_value-at p.0.now p.1.now cut.1, tt)

pub returns : goal.returns
returns c =
    let all = at_equals c.args.word.now c.split_once.result (split_parts 61 c.args.word.now c.split_once.result c.split_once.ensures.cases (omega arith)) in
    record { some = all.0; none = all.1 }
