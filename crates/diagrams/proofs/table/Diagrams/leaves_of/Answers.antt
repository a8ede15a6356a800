use Rattle.std.proofs.Common.{◌≤◌, ap, sym, subst, ◌∙◌, arith, rules}
use Rattle.std.proofs.lemmas.Grind.{common_steps}
use Rattle.std.proofs.lemmas.Option.{gets}
use Rattle.diagrams.specs.Leaves.{IsReached}
use Rattle.diagrams.specs.contracts.node.DiagramPartialEq.TheImpl.{eq-value}
use Rattle.indexmap.specs.IndexSet.{insert_key}
use Rattle.diagrams.proofs.Walking.{walk_begins, walk_ends}
use Rattle.diagrams.proofs.table.Diagrams.leaves_of.Goals as goal

pub loop-next-init : goal.loop-next-init
loop-next-init c =
    subst (λ l. IsReached c.args.self.now c.args.d c.insert_full.new.self.keys l 0) (sym c.new-leaves.ensures.empty)
    (walk_begins c.args.self.now c.args.d c.insert_full.new.self.keys c.requires
    (c.in_ok-insert_full.ensures.keys ∙ ap (λ xs. insert_key eq-value.it xs c.args.d) c.new-reached.ensures.empty))

pub loop-next-preserved : goal.loop-next-preserved
loop-next-preserved c = c.in_ok-visit.ensures.visits c.args.d c.loop-next.next (first_of (search rules, grind (arith, common_steps, gets))) c.loop-next.invariant

pub returns : goal.returns
returns c =
    walk_ends c.args.self.now c.allocator.ensures c.args.d c.loop-next.reached.keys c.loop-next.leaves.keys c.loop-next.next (subst (λ n. n ≤ c.loop-next.next) c.len.ensures.len c.loop-next-test.false) c.loop-next.invariant
