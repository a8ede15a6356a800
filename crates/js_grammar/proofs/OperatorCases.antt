-- The cases of operators compute.
use Rattle.std.proofs.Common.{◌≡◌, ◌++◌, refl, map, Ok}
use Rattle.std.specs.Prelude.{codes}
use Rattle.js_tree.specs.declared.expression.ExprForm.TheVariants as e
use Rattle.js_tree.specs.Trees.{name}
use Rattle.js_grammar.specs.Answers.{read_text}
use Rattle.js_grammar.specs.OperatorCases.{OperatorCases, alone, between, before, right, operand, binary_operators, logical_operators}
use Rattle.js_grammar.specs.OperatorCases.{assignment_operators, unary_operators, prefix_steps, postfix_steps}
use Rattle.js_grammar.proofs.Cases.{all_opened}

binary_tokens :
    map (λ row. read_text 50 (between row.0)) binary_operators
    ≡ map (λ row. Ok (alone (e.Binary row.1 (name 0 (codes "a")) (right row.0)))) binary_operators
unfolding all_opened
binary_tokens = refl

logical_tokens :
    map (λ row. read_text 50 (between row.0)) logical_operators
    ≡ map (λ row. Ok (alone (e.Logic row.1 (name 0 (codes "a")) (right row.0)))) logical_operators
unfolding all_opened
logical_tokens = refl

assignment_tokens :
    map (λ row. read_text 50 (between row.0)) assignment_operators
    ≡ map (λ row. Ok (alone (e.Assign (name 0 (codes "a")) row.1 (right row.0)))) assignment_operators
unfolding all_opened
assignment_tokens = refl

unary_tokens : map (λ row. read_text 50 (before row.0)) unary_operators ≡ map (λ row. Ok (alone (e.Unary row.1 (operand row.0)))) unary_operators
unfolding all_opened
unary_tokens = refl

prefix_tokens : map (λ row. read_text 50 (before row.0)) prefix_steps ≡ map (λ row. Ok (alone (e.Step row.1 (operand row.0)))) prefix_steps
unfolding all_opened
prefix_tokens = refl

postfix_tokens :
    map (λ row. read_text 50 (codes "a " ++ row.0)) postfix_steps
    ≡ map (λ row. Ok (alone (e.Step row.1 (name 0 (codes "a"))))) postfix_steps
unfolding all_opened
postfix_tokens = refl

pub operator_cases : OperatorCases
operator_cases = record {
  binary_tokens = binary_tokens;
  logical_tokens = logical_tokens;
  assignment_tokens = assignment_tokens;
  unary_tokens = unary_tokens;
  prefix_tokens = prefix_tokens;
  postfix_tokens = postfix_tokens;
}
