use Rattle.js_grammar.proofs.Climbing.{climbs}
use Rattle.js_grammar.proofs.Laws.{tied, repeated, go_on, limits_nesting}
use Rattle.js_grammar.proofs.reading_laws.Goals as goal

pub returns-clause-tied : goal.returns-clause-tied
returns-clause-tied c = tied

pub returns-clause-repeated : goal.returns-clause-repeated
returns-clause-repeated c = repeated

pub returns-clause-go_on : goal.returns-clause-go_on
returns-clause-go_on c = go_on

pub returns-clause-limits : goal.returns-clause-limits
returns-clause-limits c = limits_nesting

pub returns-clause-operators : goal.returns-clause-operators
returns-clause-operators c = climbs
