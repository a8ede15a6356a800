use Rattle.js_grammar.proofs.Cases.{tree_cases, expression_cases, statement_form_cases, refusal_cases}
use Rattle.js_grammar.proofs.EndCases.{end_cases}
use Rattle.js_grammar.proofs.HeightCases.{height_cases}
use Rattle.js_grammar.proofs.OperatorCases.{operator_cases}
use Rattle.js_grammar.proofs.reading_cases.Goals as goal

pub returns-clause-trees : goal.returns-clause-trees
returns-clause-trees c = tree_cases

pub returns-clause-expressions : goal.returns-clause-expressions
returns-clause-expressions c = expression_cases

pub returns-clause-operators : goal.returns-clause-operators
returns-clause-operators c = operator_cases

pub returns-clause-statements : goal.returns-clause-statements
returns-clause-statements c = statement_form_cases

pub returns-clause-ends : goal.returns-clause-ends
returns-clause-ends c = end_cases

pub returns-clause-heights : goal.returns-clause-heights
returns-clause-heights c = height_cases

pub returns-clause-refusals : goal.returns-clause-refusals
returns-clause-refusals c = refusal_cases
