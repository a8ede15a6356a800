use Rattle.script_reader.proofs.FewInTexts.{few_nodes}
use Rattle.script_reader.proofs.few_nodes_law.Goals as goal

pub returns : goal.returns
returns c = few_nodes
