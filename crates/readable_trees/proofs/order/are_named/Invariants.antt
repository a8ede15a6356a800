use Rattle.std.proofs.Common.{◌≡◌, drop, map}
use Rattle.js_value.specs.declared.place.FuncNo.{FuncNo}
use Rattle.js_grammar.specs.FunctionOrder.{are_named_from}
use Rattle.readable_trees.proofs.order.are_named.Given as goal

abbrev pub invariant-loop-f : goal.invariant-loop-f
invariant-loop-f l = (l.number ≡ l.f-index)
    × (are_named_from l.f-index (map (λ (f : FuncNo). f.0) l.behind.items) (drop l.f-index l.all) ≡ are_named_from 0 (map (λ (f : FuncNo). f.0) l.initial.behind.items) l.all)
