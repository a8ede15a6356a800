use Rattle.std.proofs.Common.{eqb, refl, rules}
use Rattle.std.proofs.lemmas.Bool.{eqb-true, eq-eqb}
use Rattle.diagrams.specs.contracts.node.DiagramPartialEq.TheImpl.{eq-value}
use Rattle.diagrams.proofs.Walking.{inserted, inserted_once, visited_leaf, visited_node, fewer_leaf, fewer_node}
use Rattle.diagrams.proofs.table.Diagrams.visit.Goals as goal

pub returns-in_ok-insert_full-in-Leaf-clause-visits : goal.returns-in_ok-insert_full-in-Leaf-clause-visits
returns-in_ok-insert_full-in-Leaf-clause-visits c d next first h =
    let keys = c.in_ok-insert_full-in-Leaf.ensures.keys in
    visited_leaf c.args.self.now c.in-Leaf.ensures.table d c.args.v c.args.reached.now.keys c.args.leaves.now.keys next first h c.in-Leaf.n c.insert_full.new.self.keys c.in-Leaf.ensures.top
    (inserted eqb eqb-true c.args.leaves.now.keys c.in-Leaf.n c.insert_full.new.self.keys keys)
    (inserted_once eqb (λ x. eq-eqb x x refl) c.args.leaves.now.keys c.in-Leaf.n c.insert_full.new.self.keys keys h.once)

pub returns-in_ok-insert_full-in-Leaf-clause-fewer : goal.returns-in_ok-insert_full-in-Leaf-clause-fewer
returns-in_ok-insert_full-in-Leaf-clause-fewer c next first = fewer_leaf next c.args.reached.now.keys c.args.v first

pub returns-in_ok-insert_full-in-Node-2-clause-visits : goal.returns-in_ok-insert_full-in-Node-2-clause-visits
returns-in_ok-insert_full-in-Node-2-clause-visits c d next first h =
    let more = c.insert_full-in-Node.new.self.keys in
    let most = c.insert_full-in-Node-2.new.self.keys in
    visited_node c.args.self.now c.in-Node.ensures.table d c.args.v c.args.reached.now.keys c.args.leaves.now.keys next first h c.in-Node.test c.in-Node.yes c.in-Node.no c.in-Node.ensures.top c.requires more most
    (inserted eq-value.it (λ x y e. search rules) c.args.reached.now.keys c.in-Node.yes more c.in_ok-insert_full-in-Node.ensures.keys)
    (inserted eq-value.it (λ x y e. search rules) more c.in-Node.no most c.in_ok-insert_full-in-Node-2.ensures.keys)

pub returns-in_ok-insert_full-in-Node-2-clause-fewer : goal.returns-in_ok-insert_full-in-Node-2-clause-fewer
returns-in_ok-insert_full-in-Node-2-clause-fewer c next first =
    fewer_node eq-value.it next c.args.reached.now.keys c.insert_full-in-Node.new.self.keys c.insert_full-in-Node-2.new.self.keys c.args.v c.in-Node.yes c.in-Node.no first
    c.in-Node.ensures.stands.high_before c.in-Node.ensures.stands.low_before c.in_ok-insert_full-in-Node.ensures.keys c.in_ok-insert_full-in-Node-2.ensures.keys
