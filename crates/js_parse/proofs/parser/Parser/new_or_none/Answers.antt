use Rattle.std.proofs.Common.{sym, ◌∙◌}
use Rattle.js_grammar.specs.Primary.{new_or_none}
use Rattle.token_reader.specs.Reader.{rest_of}
use Rattle.js_parse.proofs.Steps.{first_absent, first_not_seen, unexpected_first}
use Rattle.js_parse.proofs.parser.Parser.new_or_none.Goals as goal

pub returns-clause-answer : goal.returns-clause-answer
unfolding new_or_none
returns-clause-answer c =
    first_absent _ _ _ c.take_word.result _ _ _ c.unexpected.result c.take_word.ensures.taken c.if-take_word.false
    (first_not_seen _ _ _ _ _ c.unexpected.result (sym c.sees_regular_expression.ensures ∙ c.if-sees_regular_expression.false)
    (unexpected_first (rest_of c.take_word.new.self) _ c.unexpected.result c.unexpected.ensures))
