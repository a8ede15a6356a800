use Rattle.std.proofs.Common.{◌≡◌, ◌+◌, ◌-◌, take, ap, arith}
use Rattle.std.specs.Char.{len_utf8}
use Rattle.std.proofs.lemmas.List.Sums.{sum_by-take-le}
use Rattle.js_tree.specs.Lexing.{width}
use Rattle.js_lex.proofs.Scanning.{width_more}
use Rattle.js_lex.proofs.characters.width_between.Goals as goal

pub width-requires : goal.width-requires
width-requires c =
    let z = c.args.z.now in
    omega (arith, c.requires.fits, width_more c.args.from (c.args.to - c.args.from) z, sum_by-take-le len_utf8 z (c.args.from + (c.args.to - c.args.from)))

pub returns : goal.returns
returns c =
    let z = c.args.z.now in
    let up : c.args.from + (c.args.to - c.args.from) ≡ c.args.to = omega (arith, c.requires.order) in
    omega (arith, width_more c.args.from (c.args.to - c.args.from) z, ap (λ k. width (take k z)) up, c.width.ensures)
