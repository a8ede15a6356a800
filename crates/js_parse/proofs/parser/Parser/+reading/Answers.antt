use Rattle.std.proofs.Common.{rules, arith, ap, sym, ◌∙◌}
use Rattle.std.proofs.lemmas.Grind.{common_steps}
use Rattle.std.specs.Option.{option_map}
use Rattle.js_grammar.specs.Primary.{enclosed_or_new, group_behind}
use Rattle.js_grammar.specs.Reading.{grammar}
use Rattle.js_grammar.specs.Rest.{behind}
use Rattle.js_parse.specs.declared.frames.Stage.TheVariants as stage
use Rattle.js_parse.specs.Frames.{behind_all, behind_first, field_on, read_on}
use Rattle.token_marks.specs.Levels.{found_of}
use Rattle.token_reader.specs.Reader.{rest_of}
use Rattle.js_parse.proofs.Steps.{fields_end, fields_go_on, first_absent, first_refused, first_there, next_by, postfix_begins, rests, shifts, stage_by, stage_refused}
use Rattle.js_parse.proofs.parser.Parser.+reading.Goals as goal

-- ---- the beginning of an operand

pub enclosed_or_new-returns-in_err-x-2-clause-answer : goal.enclosed_or_new-returns-in_err-x-2-clause-answer
unfolding enclosed_or_new
enclosed_or_new-returns-in_err-x-2-clause-answer t c =
    first_absent _ _ _ c.take.result _ _ _ c.from_residual-in_err-x-2.result c.take.ensures.taken c.if-take.false
    (first_absent _ _ _ c.take-2.result _ _ _ c.from_residual-in_err-x-2.result c.take-2.ensures.taken c.if-take-2.false
    (first_there _ _ _ c.take-3.result _ _ _ c.from_residual-in_err-x-2.result c.take-3.ensures.taken c.if-take-3.true
    (first_refused (group_behind grammar) (rest_of c.take-3.new.self) _ c.from_residual-in_err-x-2.result c.in_err-x-2.field-0.0 (first_of (search rules, grind (arith, common_steps))) c.in_err-x-2.ensures.answer)))

pub enclosed_or_new-returns-clause-answer : goal.enclosed_or_new-returns-clause-answer
unfolding enclosed_or_new
enclosed_or_new-returns-clause-answer t c =
    first_absent _ _ _ c.take.result _ _ _ c.new_or_none.result c.take.ensures.taken c.if-take.false
    (first_absent _ _ _ c.take-2.result _ _ _ c.new_or_none.result c.take-2.ensures.taken c.if-take-2.false
    (first_absent _ _ _ c.take-3.result _ _ _ c.new_or_none.result c.take-3.ensures.taken c.if-take-3.false c.new_or_none.ensures.answer))

-- ---- object literals

pub fields-returns-in_err-x-clause-answer : goal.fields-returns-in_err-x-clause-answer
fields-returns-in_err-x-clause-answer t c =
    stage_refused (read_on (stage.Fields c.args.at c.args.so_far) c.args.frames.now) (rest_of c.args.self.now.reader) _ _ c.from_residual.result c.in_err-x.field-0.0 (first_of (search rules, grind (arith, common_steps)))
    (λ memory. fields_end c.args.frames.now c.args.at c.args.so_far (rest_of c.args.self.now.reader) (rest_of c.take.new.self) c.take.result c.take.ensures.taken c.if-take.true
    ∙ ap (λ r. behind r (behind_all c.args.frames.now).operand) (c.in_err-x.ensures memory))

pub fields-returns-then-take-clause-answer : goal.fields-returns-then-take-clause-answer
fields-returns-then-take-clause-answer t c =
    fields_end c.args.frames.now c.args.at c.args.so_far (rest_of c.args.self.now.reader) (rest_of c.take.new.self) c.take.result c.take.ensures.taken c.if-take.true
    ∙ ap (λ r. behind r (behind_all c.args.frames.now).operand) c.in_ok-x.ensures

pub fields-returns-clause-answer : goal.fields-returns-clause-answer
fields-returns-clause-answer t c =
    stage_by (read_on (stage.Fields c.args.at c.args.so_far) c.args.frames.now) (field_on c.args.at c.args.so_far c.args.frames.now) (rest_of c.args.self.now.reader) (rest_of c.take.new.self) _ _ c.field.result
    (fields_go_on c.args.frames.now c.args.at c.args.so_far (rest_of c.args.self.now.reader) (rest_of c.take.new.self) c.take.result c.take.ensures.taken c.if-take.false) c.field.ensures.answer

-- ---- operators

pub behind_unary-returns-in_default-next_operator-clause-answer : goal.behind_unary-returns-in_default-next_operator-clause-answer
behind_unary-returns-in_default-next_operator-clause-answer t c =
    next_by (read_on (stage.Unary c.args.x) c.args.frames.now) (behind_first c.args.frames.now c.args.x) (rest_of c.args.self.now.reader) (rest_of c.args.self.now.reader) _ _ c.behind_operators-in_default-next_operator.result
    (rests c.args.frames.now c.args.x (rest_of c.args.self.now.reader) (c.in-Some.least, c.in-Some.allows_in) (sym c.level.ensures ∙ c.in-Some.is)
    (sym c.next_operator.ensures ∙ ap (option_map found_of) c.in_default-next_operator.is)) c.behind_operators-in_default-next_operator.ensures.answer

pub behind_unary-returns-clause-answer : goal.behind_unary-returns-clause-answer
behind_unary-returns-clause-answer t c =
    shifts c.args.frames.now c.push.new.self c.args.x (rest_of c.args.self.now.reader) (rest_of c.pass.new.self) (c.in-Some.least, c.in-Some.allows_in) c.in-Some-next_operator.op c.in-Some-next_operator.level
    (sym c.level.ensures ∙ c.in-Some.is) (sym c.next_operator.ensures ∙ ap (option_map found_of) c.in-Some-next_operator.is) c.in_ok-push.ensures.ok c.pass.ensures.state

pub postfix-returns-clause-answer : goal.postfix-returns-clause-answer
postfix-returns-clause-answer t c =
    postfix_begins c.push.new.self c.new-frames.result (rest_of c.args.self.now.reader) _ c.run.result c.new-frames.ensures c.in_ok-push.ensures.ok c.run.ensures.answer
