-- Sums whose terms are counted.
use Rattle.std.proofs.Common.{◌≡◌, refl, ap, arith}
use Rattle.simple_scripts.specs.SimpleScripts as spec
use Rattle.simple_scripts.specs.declared.sums.Sum.TheVariants as sum
use Rattle.simple_scripts.specs.Sums.{counted, joined, negative}

pub counted-joined : (x y : spec.Sum) → counted (spec.joined x y) ≡ joined (counted x) (counted y)
counted-joined spec.LiteralAlone spec.LiteralAlone = refl
counted-joined spec.LiteralAlone (spec.Terms n) = ap sum.Terms (omega arith)
counted-joined (spec.Terms m) spec.LiteralAlone = ap sum.Terms (omega arith)
counted-joined (spec.Terms m) (spec.Terms n) = ap sum.Terms (omega arith)
counted-joined spec.NoSum y = refl
counted-joined spec.LiteralAlone spec.NoSum = refl
counted-joined (spec.Terms m) spec.NoSum = refl

pub counted-negative : (x : spec.Sum) → counted (spec.negative x) ≡ negative (counted x)
counted-negative spec.NoSum = refl
counted-negative spec.LiteralAlone = refl
counted-negative (spec.Terms n) = refl

pub ruleset counting = (counted-joined, counted-negative)
