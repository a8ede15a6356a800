use Rattle.std.proofs.Common.{◌∙◌}
use Rattle.simple_scripts.proofs.NameSets.{known_all}
use Rattle.simple_scripts.proofs.names.reads_declared.Goals as goal

pub returns : goal.returns
returns c = c.knows_statements.ensures ∙ known_all c.in_ok-names.names c.args.statements.now c.in_ok-names.ensures
