use Rattle.std.proofs.Common.{◌≡◌, ◌+◌, drop, false}
use Rattle.js_tree.specs.Lexing as spec
use Rattle.js_lex.proofs.comments.block_comment.Given as goal

abbrev pub invariant-loop-i : goal.invariant-loop-i
invariant-loop-i l = spec.block_comment l.at l.line (l.i + 2) (drop l.i l.z) ≡ spec.block_comment l.at false 2 l.z
