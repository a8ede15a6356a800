use Rattle.std.proofs.Common.{◌≡◌, ◌∷◌, ap, subst, arith}
use Rattle.diagrams.specs.declared.case.Waiting.TheVariants.{Yes}
use Rattle.diagrams.specs.Search.{Descends, load, cost, weight}
use Rattle.diagrams.proofs.Chains.{deeper, split_cost}
use Rattle.diagrams.proofs.table.Diagrams.descend.Goals as goal

pub loop-d-preserved : goal.loop-d-preserved
loop-d-preserved c =
    let nodes = c.args.self.now in
    let s = c.split-split.result in
    let waiting = c.loop-d.waiting.items in
    let pushed : c.push_front.new.self.items ≡ Yes s ∷ waiting = c.in_ok-push_front-in-Tests.ensures.items in
    record {
      within = c.split-split.ensures.split.high.within;
      lighter =
          let long : load c.push_front.new.self.items ≡ load (Yes s ∷ waiting) = ap load pushed in
          let spent : cost (weight s.whole) ≡ cost (weight c.loop-d.case) = ap (λ k. cost (weight k)) c.split-split.ensures.whole in
          omega (arith, long, spent, split_cost nodes s c.split-split.ensures.split, c.loop-d.invariant.lighter);
      goes = λ new d next.
          let below : Descends nodes waiting s.whole new d = deeper nodes waiting new s d c.split-split.ensures.split (subst (λ w. Descends nodes w s.yes new d) pushed next) in
          c.loop-d.invariant.goes new d (subst (λ k. Descends nodes waiting k new d) c.split-split.ensures.whole below);
    }
