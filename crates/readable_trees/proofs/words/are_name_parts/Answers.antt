use Rattle.std.proofs.Common.{ap, sym, ◌∙◌, arith}
use Rattle.std.specs.List.{list_all}
use Rattle.js_tree.specs.Lexing.{is_name_part}
use Rattle.js_grammar.specs.ReadableWords.{passes}
use Rattle.readable_trees.proofs.Units.{spelled-nothing}
use Rattle.readable_trees.proofs.words.are_name_parts.Goals as goal

pub returns : goal.returns
returns c = sym (ap (λ cs. list_all (passes is_name_part) cs) (spelled-nothing c.loop-units.units.now (omega (arith, c.in_default.len_below)))) ∙ c.loop-units.invariant
