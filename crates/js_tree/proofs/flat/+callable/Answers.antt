use Rattle.std.proofs.Common.{rules, arith, length, refl}
use Rattle.std.proofs.lemmas.Grind.{common_steps}
use Rattle.std.proofs.lemmas.Option.{slice_get_read}
use Rattle.js_tree.proofs.Flatness.{callable-at}
use Rattle.js_tree.proofs.flat.+callable.Goals as goal

pub returns-then-is_nameless : goal.returns-then-is_nameless
returns-then-is_nameless t c =
    let found = slice_get_read c.args.funcs.now (length c.args.funcs.now) c.args.f.0 c.in-Some.func.now refl (search rules) (search rules) in
    let at = callable-at c.args.funcs.now c.args.first c.args.f c.in-Some.func.now (search rules) found in
    first_of (search rules, grind (arith, common_steps))

pub returns-else-is_nameless : goal.returns-else-is_nameless
returns-else-is_nameless t c =
    let found = slice_get_read c.args.funcs.now (length c.args.funcs.now) c.args.f.0 c.in-Some.func.now refl (search rules) (search rules) in
    let at = callable-at c.args.funcs.now c.args.first c.args.f c.in-Some.func.now (search rules) found in
    first_of (search rules, grind (arith, common_steps))
