use Rattle.js_grammar.proofs.ReadableCases.{readable_cases, readable_name_cases}
use Rattle.js_grammar.proofs.ReadablePartCases.{readable_part_cases}
use Rattle.js_grammar.proofs.readable_cases.Goals as goal

pub returns-clause-trees : goal.returns-clause-trees
returns-clause-trees c = readable_cases

pub returns-clause-names : goal.returns-clause-names
returns-clause-names c = readable_name_cases

pub returns-clause-parts : goal.returns-clause-parts
returns-clause-parts c = readable_part_cases
