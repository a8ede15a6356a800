use Rattle.std.proofs.Common.{◌≡◌, length, map}
use Rattle.js_grammar.specs.Marks.{spelling}
use Rattle.token_marks.proofs.words.spelling.Given as goal

abbrev pub invariant-loop-table : goal.invariant-loop-table
invariant-loop-table l = spelling l.word (map (λ row. (row.0.now, row.1)) l.table) ≡ spelling l.word (map (λ row. (row.0.now, row.1)) l.initial.table)

abbrev pub decreases-loop-table : goal.decreases-loop-table
decreases-loop-table l = length l.table
