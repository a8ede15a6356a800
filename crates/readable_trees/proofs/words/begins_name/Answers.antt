use Rattle.std.proofs.Common.{ap, sym, arith}
use Rattle.js_grammar.specs.ReadableWords.{begins_name}
use Rattle.readable_trees.proofs.Units.{spelled-nothing}
use Rattle.readable_trees.proofs.words.begins_name.Goals as goal

pub returns-in-empty : goal.returns-in-empty
returns-in-empty c = sym (ap (λ cs. begins_name cs) (spelled-nothing c.args.units.now (omega (arith, c.in-empty.len_below))))
