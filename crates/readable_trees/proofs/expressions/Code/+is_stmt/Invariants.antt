use Rattle.std.proofs.Common.{◌≡◌, take, true}
use Rattle.std.specs.List.{list_all}
use Rattle.js_grammar.specs.Readable as spec
use Rattle.readable_trees.proofs.expressions.Code.+is_stmt.Given as goal

abbrev pub invariant-are_parts-loop-s : goal.invariant-are_parts-loop-s
invariant-are_parts-loop-s l = list_all (λ s. spec.is_part (spec.in_stmt l.self.functions.now s)) (take l.s-index l.all) ≡ true

abbrev pub invariant-are_cases-loop-c : goal.invariant-are_cases-loop-c
invariant-are_cases-loop-c l = list_all (λ c. (spec.in_case l.self.functions.now c).readable) (take l.c-index l.all) ≡ true
