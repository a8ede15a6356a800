use Rattle.std.proofs.Common.{rules, arith, ◌≡◌, ◌≤◌, ◌+◌, drop, take, ap, sym, ◌∙◌, Ok}
use Rattle.std.proofs.lemmas.Grind.{common_steps}
use Rattle.std.proofs.lemmas.List.Sums.{sum_by-take-drop}
use Rattle.std.specs.Char.{len_utf8}
use Rattle.js_tree.specs.Lexing.{lex_from, width, kept, line_after, scan, with_front}
use Rattle.js_lex.proofs.Going.{lex_goes, lex_stops, front_front}
use Rattle.js_lex.proofs.Scanning.{gives_refused}
use Rattle.js_lex.proofs.tokens.tokens_of.Goals as goal

pub scan-requires-clause-fits : goal.scan-requires-clause-fits
scan-requires-clause-fits c =
    omega (arith, c.requires, c.loop-i.invariant.place, ap width c.rest.ensures, sum_by-take-drop len_utf8 c.args.z.now c.loop-i.i)

pub returns-in_err-element : goal.returns-in_err-element
returns-in_err-element c =
    gives_refused _ c.from_residual.result c.in_err-element.field-0.0 (first_of (search rules, grind (arith, common_steps)))
    (λ memory. sym c.loop-i.invariant.same
    ∙ ap (with_front c.loop-i.tokens) (lex_stops c.loop-i.at c.loop-i.line_before c.loop-i.i c.args.z.now c.in_err-element.field-0.0 c.loop-i-test.true
    (ap (scan c.loop-i.at) (sym c.rest.ensures) ∙ c.in_err-element.ensures.token memory)))

pub loop-i-preserved : goal.loop-i-preserved
loop-i-preserved c =
    let z = c.args.z.now in
    let i = c.loop-i.i in
    let w = c.width_between.result in
    let found : scan c.loop-i.at (drop i z) ≡ Ok (c.in_ok-element.element, c.in_ok-element.n) = first_of (search rules, grind (arith, common_steps)) in
    let some : 1 ≤ c.in_ok-element.n = first_of (search rules, grind (arith, common_steps)) in
    let wide : width (take i z) + w ≡ width (take (i + c.in_ok-element.n) z) = c.width_between.ensures in
    let step = lex_goes c.loop-i.at c.loop-i.line_before i z (c.in_ok-element.element, c.in_ok-element.n) w c.loop-i-test.true some found wide in
    let joined = front_front c.loop-i.tokens (kept c.loop-i.at (c.loop-i.at + w) c.loop-i.line_before c.in_ok-element.element) (lex_from (c.loop-i.at + w) (line_after c.loop-i.line_before c.in_ok-element.element) 0 (drop (i + c.in_ok-element.n) z)) in
    first_of (search rules, grind (arith, common_steps))
