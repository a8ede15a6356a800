use Rattle.std.proofs.Common.{◌≡◌, take, false}
use Rattle.std.specs.List.{list_any}
use Rattle.residual_form.specs.Names as spec
use Rattle.residual_form.proofs.sought.+expr_mentions.Given as goal

abbrev pub invariant-exprs_mention-loop-e : goal.invariant-exprs_mention-loop-e
invariant-exprs_mention-loop-e l = list_any (spec.mentions l.name) (take l.e-index l.all) ≡ false

abbrev pub invariant-elements_mention-loop-e : goal.invariant-elements_mention-loop-e
invariant-elements_mention-loop-e l = list_any (spec.maybe_mentions l.name) (take l.e-index l.all) ≡ false

abbrev pub invariant-fields_mention-loop-f : goal.invariant-fields_mention-loop-f
invariant-fields_mention-loop-f l = list_any (spec.in_field l.name) (take l.f-index l.all) ≡ false
