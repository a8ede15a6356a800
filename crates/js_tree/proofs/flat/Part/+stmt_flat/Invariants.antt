use Rattle.std.proofs.Common.{◌≡◌, take, true}
use Rattle.std.specs.List.{list_all}
use Rattle.js_tree.specs.Called.{callable_behind}
use Rattle.js_tree.specs.Flat.{body_flat, case_flat}
use Rattle.js_tree.proofs.flat.Part.+stmt_flat.Given as goal

abbrev pub invariant-body-loop-s : goal.invariant-body-loop-s
invariant-body-loop-s g l = body_flat (callable_behind l.self.funcs.now l.self.first) (take l.s-index l.all) ≡ true

abbrev pub invariant-cases-loop-c : goal.invariant-cases-loop-c
invariant-cases-loop-c g l = list_all (case_flat (callable_behind l.self.funcs.now l.self.first)) (take l.c-index l.all) ≡ true
