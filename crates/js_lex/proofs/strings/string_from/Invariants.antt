use Rattle.std.proofs.Common.{◌≡◌, ◌≤◌, ◌+◌, ◌-◌, length, take, drop, []}
use Rattle.js_tree.specs.Lexing.{string_from, width}
use Rattle.js_lex.proofs.strings.string_from.Given as goal

abbrev pub invariant-loop-i : goal.invariant-loop-i
invariant-loop-i l = record {
  same : string_from l.opened l.quote 0 l.units.items (l.i + 1) l.at (drop l.i l.z) ≡ string_from l.opened l.quote 0 [] 1 (l.opened + 1) l.z;
  place : l.at ≡ l.opened + 1 + width (take l.i l.z);
  within : l.i ≤ length l.z;
}

abbrev pub decreases-loop-i : goal.decreases-loop-i
decreases-loop-i l = length l.z - l.i
