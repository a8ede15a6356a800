use Rattle.std.proofs.Common.{ap, map}
use Rattle.js_scope.specs.Mentioning as spec
use Rattle.js_scope.proofs.Firsts.{one_first}
use Rattle.js_scope.proofs.first.first_insides.Goals as goal

pub loop-done-preserved : goal.loop-done-preserved
loop-done-preserved c =
    one_first c.args.all.now c.from_number-behind.result.now c.loop-done.done c.index-all-n.result
    (map spec.inside_of c.loop-done.insides.items) (map spec.inside_of c.push_front.new.self.items) (spec.inside_of c.in_ok-next.next) (spec.inside_of c.in_ok-first_inside.field-0)
    c.loop-done-test.true c.index-all-n.is c.loop-done.invariant c.from_number-behind.ensures c.in_ok-next.ensures c.in_ok-first_inside.ensures
    (ap (λ xs. map spec.inside_of xs) c.in_ok-push_front.ensures.items)
