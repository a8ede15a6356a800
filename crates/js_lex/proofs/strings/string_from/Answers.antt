use Rattle.std.proofs.Common.{rules, arith, ◌≡◌, ◌≤◌, ◌+◌, false, true, get_or, drop, take, Ok}
use Rattle.std.specs.Prelude.{◌==◌}
use Rattle.std.proofs.lemmas.Grind.{common_steps}
use Rattle.js_tree.specs.Lexing.{escape, is_line_end, width}
use Rattle.js_lex.proofs.Scanning.{string_escape}
use Rattle.js_lex.proofs.strings.string_from.Goals as goal

pub loop-i-preserved-then-c-eq92 : goal.loop-i-preserved-then-c-eq92
loop-i-preserved-then-c-eq92 c =
    let z = c.args.z.now in
    let i = c.loop-i.i in
    let other : (get_or z i 0 == c.args.quote) ≡ false = first_of (search rules, grind (arith, common_steps)) in
    let same_line : is_line_end (get_or z i 0) ≡ false = first_of (search rules, grind (arith, common_steps)) in
    let slash : (get_or z i 0 == 92) ≡ true = first_of (search rules, grind (arith, common_steps)) in
    let is_escape : escape c.loop-i.at (drop (i + 1) z) ≡ Ok (c.in_ok-more.more, c.in_ok-more.len) = first_of (search rules, grind (arith, common_steps)) in
    let some : 1 ≤ c.in_ok-more.len = first_of (search rules, grind (arith, common_steps)) in
    let wide : width (take i z) + c.width_between-at.result ≡ width (take (i + c.in_ok-more.len) z) = c.width_between-at.ensures in
    let e = string_escape c.args.opened c.args.quote c.loop-i.units.items (i + 1) c.loop-i.at i z c.in_ok-more.more c.in_ok-more.len c.width_between-at.result c.loop-i-test.true other same_line slash is_escape some wide in
    first_of (search rules, grind (arith, common_steps))
