use Rattle.std.proofs.Common.{◌≡◌, take, true}
use Rattle.std.specs.List.{list_all}
use Rattle.js_grammar.specs.ReadableExpressions as spec
use Rattle.readable_trees.proofs.expressions.Code.+is_expr.Given as goal

abbrev pub invariant-are_exprs-loop-e : goal.invariant-are_exprs-loop-e
invariant-are_exprs-loop-e l = list_all (spec.is_expr l.self.functions.now) (take l.e-index l.all) ≡ true

abbrev pub invariant-are_items-loop-e : goal.invariant-are_items-loop-e
invariant-are_items-loop-e l = list_all (spec.is_maybe l.self.functions.now) (take l.e-index l.all) ≡ true

abbrev pub invariant-are_fields-loop-f : goal.invariant-are_fields-loop-f
invariant-are_fields-loop-f l = list_all (spec.in_field l.self.functions.now) (take l.f-index l.all) ≡ true
