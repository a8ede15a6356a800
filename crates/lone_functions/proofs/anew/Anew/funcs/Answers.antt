use Rattle.std.proofs.Common.{◌≡◌, ◌≤◌, ◌++◌, [], ◌∷◌, ◌-◌, ap, ◌∙◌, map, min, drop, take, length, arith}
use Rattle.std.proofs.lemmas.List.{length-drop, take_all}
use Rattle.lone_functions.specs.Alone as spec
use Rattle.lone_functions.specs.Anew as copied
use Rattle.lone_functions.specs.Named as named
use Rattle.lone_functions.proofs.Families.{first_of}
use Rattle.lone_functions.proofs.anew.Anew.funcs.Goals as goal

pub returns : goal.returns
returns c =
    let from = c.args.from.now in
    let small : length (drop 1 from) ≤ 18446744073709551615 = omega (arith, c.well_formed, length-drop 1 from) in
    let rest : take (length from - 1) (drop 1 from) ≡ drop 1 from = take_all (length from - 1) (drop 1 from) (omega (arith, length-drop 1 from)) in
    first_of 18446744073709551615 c.args.self.now.first c.in_stmts-wanted.result from c.push.new.self c.push_inner.new.copies c.first-item.result c.in_ok-nameless.field-0
    small c.in-len1-up.len_at_least c.first-item.is
    (c.in_stmts-wanted.ensures ∙ ap (λ b. min (named.in_stmts b) 18446744073709551615) c.as_slice.ensures)
    c.in_ok-nameless.ensures (c.in_ok-push.ensures.ok ∙ ap (λ xs. xs ++ c.in_ok-nameless.field-0 ∷ []) c.new-copies.ensures)
    (c.in_ok-push_inner.ensures ∙ ap (λ fs. c.push.new.self ++ map (copied.func c.args.self.now.first) (spec.with_inner c.in_stmts-wanted.result fs)) rest)
