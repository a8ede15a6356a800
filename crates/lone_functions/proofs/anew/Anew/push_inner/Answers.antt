use Rattle.std.proofs.Common.{◌≤◌, ◌++◌, ap, ◌∙◌, map, min, length, arith}
use Rattle.lone_functions.specs.Alone as spec
use Rattle.lone_functions.specs.Anew as copied
use Rattle.lone_functions.specs.Named as named
use Rattle.lone_functions.proofs.Families.{one_more}
use Rattle.lone_functions.proofs.anew.Anew.push_inner.Goals as goal

pub loop-f-preserved : goal.loop-f-preserved
loop-f-preserved c =
    let first = c.args.self.now.first in
    let small : length c.args.from.now ≤ 18446744073709551615 = omega (arith, c.well_formed) in
    one_more 18446744073709551615 first c.loop-f.left c.in_stmts.result c.saturating_add-left.result c.loop-f.f-index
    c.args.from.now c.loop-f.copies c.push.new.self (c.args.copies.now ++ map (copied.func first) (spec.with_inner c.args.wanted c.args.from.now))
    c.f-item.result c.in_ok-func.field-0
    small c.loop-f-test.true c.f-item.is c.if-left-eq0.false
    (c.in_stmts.ensures ∙ ap (λ b. min (named.in_stmts b) 18446744073709551615) c.as_slice.ensures)
    c.saturating_add-left.ensures c.in_ok-func.ensures c.in_ok-push.ensures.ok c.loop-f.invariant
