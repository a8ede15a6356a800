use Rattle.std.proofs.Common.{◌≡◌, ◌+◌, [], ◌∷◌, ◌++◌, take, get_or, sym, subst, ◌∙◌}
use Rattle.std.proofs.lemmas.List.{take_more, take_all}
use Rattle.diagrams.specs.Leaves.{AreGuards}
use Rattle.diagrams.proofs.Growing.{then_extends}
use Rattle.diagrams.proofs.Guarding.{one_more_guard, all_guarded}
use Rattle.diagrams.proofs.table.Diagrams.leaves_with_guards.Goals as goal

pub loop-leaf-preserved : goal.loop-leaf-preserved
loop-leaf-preserved c =
    let items = c.as_slice-leaf-items.result.now in
    let i = c.loop-leaf.leaf-index in
    let more : take (i + 1) items ≡ take i items ++ get_or items i 0 ∷ [] = take_more items i 0 c.loop-leaf-test.true in
    record {
      kept = then_extends c.loop-leaf.invariant.kept c.where_it_is.ensures.kept;
      guards = subst (λ l. AreGuards c.where_it_is.new.self c.args.d l c.push.new.self) (sym more)
          (subst (AreGuards c.where_it_is.new.self c.args.d (take i items ++ get_or items i 0 ∷ [])) (sym c.in_ok-push.ensures.ok)
          (one_more_guard c.where_it_is.ensures.kept c.args.d (take i items) c.loop-leaf.guarded (get_or items i 0) c.in_ok-guard.guard c.loop-leaf.invariant.guards c.in_ok-guard.ensures.made));
    }

pub returns-clause-guarded : goal.returns-clause-guarded
returns-clause-guarded c =
    let items = c.as_slice-leaf-items.result.now in
    let whole = take_all c.loop-leaf.leaf-index items c.loop-leaf-test.false in
    all_guarded c.args.self.now c.loop-leaf.self c.loop-leaf.invariant.kept c.args.d c.requires c.in_ok-leaves.leaves.keys c.loop-leaf.guarded c.in_ok-leaves.ensures
    (subst (λ l. AreGuards c.loop-leaf.self c.args.d l c.loop-leaf.guarded) (whole ∙ c.as_slice-leaf-items.ensures.keys) c.loop-leaf.invariant.guards)
