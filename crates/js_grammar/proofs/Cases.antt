-- The cases compute.
use Rattle.std.specs.Fmt.{digits}
use Rattle.std.proofs.Common.{ℕ, true, List, ◌≡◌, refl, map, Ok}
use Rattle.js_tree.specs.declared.expression.ExprForm.{out-ExprForm}
use Rattle.js_tree.specs.declared.statement.StmtForm.{out-StmtForm}
use Rattle.js_tree.specs.Lexing.{reserved_word}
use Rattle.js_grammar.specs.Rest.{next, repeat, enter, leave, part, begin, keep, numbered, finish, finish_stmt}
use Rattle.js_grammar.specs.Functions.{declared_name, parameters, elements, function_body, function_behind, accessor, function_expression}
use Rattle.js_grammar.specs.Functions.{function_declaration}
use Rattle.js_grammar.specs.Primary.{abstract_behind, expression_by, residual_behind, array_behind, property, object_behind, group_behind}
use Rattle.js_grammar.specs.Primary.{arguments_behind, new_or_none, enclosed_or_new, new_behind, member, left_hand_side}
use Rattle.js_grammar.specs.Expressions.{postfix, unary, multiplicative, additive, shift, relational, equality, bit_and, bit_xor, bit_or}
use Rattle.js_grammar.specs.Expressions.{logical_and, logical_or, conditional, assignment}
use Rattle.js_grammar.specs.Ends.{ends}
use Rattle.js_grammar.specs.Declarators.{declarators_behind}
use Rattle.js_grammar.specs.Blocks.{statements, statements_behind_brace}
use Rattle.js_grammar.specs.Statements.{var_behind, expression_here, if_behind, do_behind, while_behind, for_parts, for_in, for_var}
use Rattle.js_grammar.specs.Statements.{for_expression, for_behind, return_behind, switch_behind, throw_behind, try_behind, statement, element}
use Rattle.js_grammar.specs.Reading.{productions, grammar, read_by}
use Rattle.js_grammar.specs.Written.{tokens_of}
use Rattle.js_grammar.specs.Answers.{Answer, read_text, AreRead, AreReadPairs, AreAnswered, AreGrouped, AreOpen}
use Rattle.js_grammar.specs.ExpressionCases.{ExpressionCases, loose_texts, bitwise_texts, arithmetic_texts, prefix_texts, member_texts}
use Rattle.js_grammar.specs.ExpressionCases.{primary_texts, no_primary_texts, target_texts, targets_texts}
use Rattle.js_grammar.specs.StatementCases.{StatementCases, statement_texts, misplaced_texts, function_in_block_texts, for_header_texts}
use Rattle.js_grammar.specs.StatementCases.{barred_in_texts, ended_texts, unended_texts}
use Rattle.js_grammar.specs.TreeCases.{TreeCases, tree_texts}
use Rattle.js_grammar.specs.RefusalCases.{RefusalCases, unsupported_texts, supported_texts, forms_texts, no_forms_texts, strict_texts}
use Rattle.js_grammar.specs.RefusalCases.{sloppy_texts, written_tokens, open_parts_texts}

-- each production is opened where this is
unfoldable pub all_opened : ℕ → List ℕ → Answer
unfolding read_text tokens_of reserved_word out-ExprForm out-StmtForm denote.Hole.Carrier.out next repeat enter leave part begin keep numbered finish
    finish_stmt declared_name parameters elements function_body function_behind accessor function_expression
    function_declaration abstract_behind expression_by residual_behind array_behind property object_behind group_behind
    arguments_behind new_or_none enclosed_or_new new_behind member left_hand_side postfix unary multiplicative additive shift relational equality
    bit_and bit_xor bit_or logical_and logical_or conditional assignment ends declarators_behind statements
    statements_behind_brace var_behind expression_here if_behind do_behind while_behind for_parts for_in for_var
    for_expression for_behind return_behind switch_behind throw_behind try_behind statement element productions grammar
    read_by
all_opened = read_text

statement_cases : AreRead statement_texts
unfolding all_opened
statement_cases = refl

misplaced_cases : AreAnswered misplaced_texts
unfolding all_opened
misplaced_cases = refl

function_in_block_cases : AreAnswered function_in_block_texts
unfolding all_opened
function_in_block_cases = refl

loose_read : AreReadPairs loose_texts
unfolding all_opened
loose_read = refl

loose_cases : AreGrouped loose_texts
unfolding all_opened
loose_cases = refl

bitwise_read : AreReadPairs bitwise_texts
unfolding all_opened
bitwise_read = refl

bitwise_cases : AreGrouped bitwise_texts
unfolding all_opened
bitwise_cases = refl

arithmetic_read : AreReadPairs arithmetic_texts
unfolding all_opened
arithmetic_read = refl

arithmetic_cases : AreGrouped arithmetic_texts
unfolding all_opened
arithmetic_cases = refl

prefix_read : AreReadPairs prefix_texts
unfolding all_opened
prefix_read = refl

prefix_cases : AreGrouped prefix_texts
unfolding all_opened
prefix_cases = refl

member_read : AreReadPairs member_texts
unfolding all_opened
member_read = refl

member_cases : AreGrouped member_texts
unfolding all_opened
member_cases = refl

primary_cases : AreRead primary_texts
unfolding all_opened
primary_cases = refl

no_primary_cases : AreAnswered no_primary_texts
unfolding all_opened
no_primary_cases = refl

for_header_cases : AreRead for_header_texts
unfolding all_opened
for_header_cases = refl

barred_in_cases : AreAnswered barred_in_texts
unfolding all_opened
barred_in_cases = refl

ended_cases : AreRead ended_texts
unfolding all_opened
ended_cases = refl

unended_cases : AreAnswered unended_texts
unfolding all_opened
unended_cases = refl

target_cases : AreAnswered target_texts
unfolding all_opened
target_cases = refl

targets_cases : AreRead targets_texts
unfolding all_opened
targets_cases = refl

unsupported_cases : AreAnswered unsupported_texts
unfolding all_opened
unsupported_cases = refl

supported_cases : AreRead supported_texts
unfolding all_opened
supported_cases = refl

forms_cases : AreRead forms_texts
unfolding all_opened
forms_cases = refl

no_forms_cases : AreAnswered no_forms_texts
unfolding all_opened
no_forms_cases = refl

strict_cases : AreAnswered strict_texts
unfolding all_opened
strict_cases = refl

sloppy_cases : AreRead sloppy_texts
unfolding all_opened
sloppy_cases = refl

written_cases : map (λ row. read_by (λ _ _. true) (λ _ _. true) row.0 50) written_tokens ≡ map (λ row. row.1) written_tokens
unfolding all_opened
written_cases = refl

open_parts_cases : AreOpen open_parts_texts
unfolding all_opened
open_parts_cases = refl

pub expression_cases : ExpressionCases
expression_cases = record {
  loose_is_read = loose_read;
  loose = loose_cases;
  bitwise_is_read = bitwise_read;
  bitwise = bitwise_cases;
  arithmetic_is_read = arithmetic_read;
  arithmetic = arithmetic_cases;
  prefix_is_read = prefix_read;
  prefix = prefix_cases;
  member_is_read = member_read;
  member = member_cases;
  primary = primary_cases;
  no_primary = no_primary_cases;
  target = target_cases;
  targets = targets_cases;
}

pub statement_form_cases : StatementCases
statement_form_cases = record {
  statement = statement_cases;
  misplaced = misplaced_cases;
  function_in_block = function_in_block_cases;
  for_header = for_header_cases;
  barred_in = barred_in_cases;
  ended = ended_cases;
  unended = unended_cases;
}

pub refusal_cases : RefusalCases
refusal_cases = record {
  unsupported = unsupported_cases;
  supported = supported_cases;
  forms = forms_cases;
  no_forms = no_forms_cases;
  strict = strict_cases;
  sloppy = sloppy_cases;
  written = written_cases;
  open_parts = open_parts_cases;
}

trees_read : map (λ row. read_text 50 row.0) tree_texts ≡ map (λ row. Ok row.1) tree_texts
unfolding all_opened digits
trees_read = refl

pub tree_cases : TreeCases
tree_cases = record { trees = trees_read }
