use Rattle.std.proofs.Common.{◌≡◌, take, true}
use Rattle.std.specs.List.{list_all}
use Rattle.js_tree.specs.Called.{callable_behind}
use Rattle.js_tree.specs.Flat.{expr_flat, maybe_expr_flat, in_field}
use Rattle.js_tree.proofs.flat.Part.+expr_flat.Given as goal

abbrev pub invariant-are_flat-loop-e : goal.invariant-are_flat-loop-e
invariant-are_flat-loop-e g l = list_all (expr_flat (callable_behind l.self.funcs.now l.self.first)) (take l.e-index l.all) ≡ true

abbrev pub invariant-elements-loop-e : goal.invariant-elements-loop-e
invariant-elements-loop-e g l = list_all (maybe_expr_flat (callable_behind l.self.funcs.now l.self.first)) (take l.e-index l.all) ≡ true

abbrev pub invariant-fields-loop-f : goal.invariant-fields-loop-f
invariant-fields-loop-f g l = list_all (in_field (callable_behind l.self.funcs.now l.self.first)) (take l.f-index l.all) ≡ true
