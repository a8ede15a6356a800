use Rattle.std.proofs.Common.{◌≡◌, ◌≤◌, ◌-◌, length, take, drop, false}
use Rattle.js_tree.specs.Lexing.{lex_from, width, with_front}
use Rattle.js_lex.proofs.tokens.tokens_of.Given as goal

abbrev pub invariant-loop-i : goal.invariant-loop-i
invariant-loop-i l = record {
  same : with_front l.tokens (lex_from l.at l.line_before 0 (drop l.i l.z)) ≡ lex_from 0 false 0 l.z;
  place : l.at ≡ width (take l.i l.z);
  within : l.i ≤ length l.z;
}

abbrev pub decreases-loop-i : goal.decreases-loop-i
decreases-loop-i l = length l.z - l.i
