use Rattle.std.proofs.Common.{◌≡◌, ◌≤◌, length, map, take, IfSome}
use Rattle.js_tree.specs.Lexing.{longest_of}
use Rattle.js_lex.proofs.words.longest_of.Given as goal

abbrev pub invariant-loop-row : goal.invariant-loop-row
invariant-loop-row l = record {
  same : l.best ≡ longest_of (map (λ row. (row.0.now, row.1)) (take l.row-index l.table)) l.z;
  some : IfSome l.best.0 (λ _. 1 ≤ l.best.1);
  within : l.best.1 ≤ length l.z;
}
