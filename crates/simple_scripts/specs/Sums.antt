-- Sums as far as their terms are counted.
use Rattle.std.specs.Prelude.{◌+◌, min, Bool, true, false, nat_le}
use Rattle.js_tree.specs.declared.expression.ExprForm.{ExprForm, fold-ExprForm}
use Rattle.simple_scripts.specs.SimpleScripts as spec
use Rattle.simple_scripts.specs.SimpleScripts.{sum_form}
use Rattle.simple_scripts.specs.declared.sums.Sum.{Sum}
use Rattle.simple_scripts.specs.declared.sums.Sum.TheVariants as sum

-- what a form is as a sum
abbrev pub form_sum : ExprForm → spec.Sum
form_sum = fold-ExprForm spec.Sum (Unit {0}) spec.Sum sum_form (λ f. tt) (λ e. e.form)

-- one term more than a sum may have is as good as any greater number
abbrev pub counted : spec.Sum → Sum
counted spec.NoSum = sum.Nothing
counted spec.LiteralAlone = sum.Literal
counted (spec.Terms n) = sum.Terms (min n 21)

-- both are what these sums are counted as
abbrev pub joined : Sum → Sum → Sum
joined sum.Literal sum.Literal = sum.Terms 2
joined sum.Literal (sum.Terms n) = sum.Terms (min (1 + n) 21)
joined (sum.Terms m) sum.Literal = sum.Terms (min (m + 1) 21)
joined (sum.Terms m) (sum.Terms n) = sum.Terms (min (m + n) 21)
joined _ _ = sum.Nothing

abbrev pub negative : Sum → Sum
negative sum.Literal = sum.Terms 1
negative _ = sum.Nothing

abbrev pub is_short : Sum → Bool
is_short sum.Nothing = false
is_short sum.Literal = true
is_short (sum.Terms n) = nat_le n 20
