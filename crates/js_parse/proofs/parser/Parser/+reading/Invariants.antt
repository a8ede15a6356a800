use Rattle.std.proofs.Common.{◌≡◌, ◌<◌, ◌≤◌, ◌+◌, ◌*◌, length}
use Rattle.js_grammar.specs.Blocks as B
use Rattle.js_grammar.specs.Declarators as D
use Rattle.js_grammar.specs.Functions as F
use Rattle.js_grammar.specs.Primary as P
use Rattle.js_grammar.specs.Statements as S
use Rattle.js_grammar.specs.Reading.{grammar}
use Rattle.js_grammar.specs.Rest.{repeat}
use Rattle.js_parse.specs.declared.frames.Stage.TheVariants as st
use Rattle.js_parse.specs.Frames.{rank, read_on, work}
use Rattle.token_reader.specs.Reader.{rest_of, closed_by}
use Rattle.js_parse.proofs.parser.Parser.+reading.Given as goal

abbrev pub decreases-accessor : goal.decreases-accessor
decreases-accessor l = 64 * length l.self.now.reader.rest.now + 5

abbrev pub decreases-accessor_field : goal.decreases-accessor_field
decreases-accessor_field l = 64 * length l.self.now.reader.rest.now + 4

abbrev pub decreases-arguments_behind : goal.decreases-arguments_behind
decreases-arguments_behind l = 64 * length l.self.now.reader.rest.now + 42

abbrev pub decreases-array_behind : goal.decreases-array_behind
decreases-array_behind l = 64 * length l.self.now.reader.rest.now + 42

abbrev pub decreases-assigned : goal.decreases-assigned
decreases-assigned l = 64 * length l.self.now.reader.rest.now + 37

abbrev pub decreases-assignment : goal.decreases-assignment
decreases-assignment l = 64 * length l.self.now.reader.rest.now + 35

abbrev pub decreases-begin_unary : goal.decreases-begin_unary
decreases-begin_unary l = 64 * length l.self.now.reader.rest.now + 9

abbrev pub decreases-begin_operand : goal.decreases-begin_operand
decreases-begin_operand l = 64 * length l.self.now.reader.rest.now + 8

abbrev pub decreases-begun : goal.decreases-begun
decreases-begun l = 64 * length l.self.now.reader.rest.now + 60

abbrev pub decreases-behind_operand : goal.decreases-behind_operand
decreases-behind_operand l = 64 * length l.self.now.reader.rest.now + 4

abbrev pub decreases-behind_operators : goal.decreases-behind_operators
decreases-behind_operators l = 64 * length l.self.now.reader.rest.now + 4

abbrev pub decreases-behind_unary : goal.decreases-behind_unary
decreases-behind_unary l = 64 * length l.self.now.reader.rest.now + 5

abbrev pub decreases-block_behind : goal.decreases-block_behind
decreases-block_behind l = 64 * length l.self.now.reader.rest.now + 55

abbrev pub decreases-braced : goal.decreases-braced
decreases-braced l = 64 * length l.self.now.reader.rest.now + 51

abbrev pub decreases-branch : goal.decreases-branch
decreases-branch l = 64 * length l.self.now.reader.rest.now + 37

abbrev pub decreases-call_behind : goal.decreases-call_behind
decreases-call_behind l = 64 * length l.self.now.reader.rest.now + 43

abbrev pub decreases-case_behind : goal.decreases-case_behind
decreases-case_behind l = 64 * length l.self.now.reader.rest.now + 52

abbrev pub decreases-catch_part : goal.decreases-catch_part
decreases-catch_part l = 64 * length l.self.now.reader.rest.now + 54

abbrev pub decreases-chosen : goal.decreases-chosen
decreases-chosen l = 64 * length l.self.now.reader.rest.now + 2

abbrev pub decreases-conditional : goal.decreases-conditional
decreases-conditional l = 64 * length l.self.now.reader.rest.now + 34

abbrev pub decreases-constructed : goal.decreases-constructed
decreases-constructed l = 64 * length l.self.now.reader.rest.now + 3

abbrev pub decreases-declarators_behind : goal.decreases-declarators_behind
decreases-declarators_behind l = 64 * length l.self.now.reader.rest.now + 2

abbrev pub decreases-do_behind : goal.decreases-do_behind
decreases-do_behind l = 64 * length l.self.now.reader.rest.now + 55

abbrev pub decreases-element : goal.decreases-element
decreases-element l = 64 * length l.self.now.reader.rest.now + 44

abbrev pub decreases-element_behind : goal.decreases-element_behind
decreases-element_behind l = 64 * length l.self.now.reader.rest.now + 45

abbrev pub decreases-elements : goal.decreases-elements
decreases-elements l = 64 * length l.self.now.reader.rest.now + 47

abbrev pub decreases-else_part : goal.decreases-else_part
decreases-else_part l = 64 * length l.self.now.reader.rest.now + 54

abbrev pub decreases-enclosed_or_new : goal.decreases-enclosed_or_new
decreases-enclosed_or_new l = 64 * length l.self.now.reader.rest.now + 6

abbrev pub decreases-expression : goal.decreases-expression
decreases-expression l = 64 * length l.self.now.reader.rest.now + 36

abbrev pub decreases-expression_here : goal.decreases-expression_here
decreases-expression_here l = 64 * length l.self.now.reader.rest.now + 42

abbrev pub decreases-expression_statement : goal.decreases-expression_statement
decreases-expression_statement l = 64 * length l.self.now.reader.rest.now + 41

abbrev pub decreases-expression_unless : goal.decreases-expression_unless
decreases-expression_unless l = 64 * length l.self.now.reader.rest.now + 52

abbrev pub decreases-fields : goal.decreases-fields
decreases-fields l = 64 * length l.self.now.reader.rest.now + 6

abbrev pub decreases-finally_part : goal.decreases-finally_part
decreases-finally_part l = 64 * length l.self.now.reader.rest.now + 54

abbrev pub decreases-for_behind : goal.decreases-for_behind
decreases-for_behind l = 64 * length l.self.now.reader.rest.now + 57

abbrev pub decreases-for_expression : goal.decreases-for_expression
decreases-for_expression l = 64 * length l.self.now.reader.rest.now + 55

abbrev pub decreases-for_header : goal.decreases-for_header
decreases-for_header l = 64 * length l.self.now.reader.rest.now + 56

abbrev pub decreases-for_in : goal.decreases-for_in
decreases-for_in l = 64 * length l.self.now.reader.rest.now + 53

abbrev pub decreases-for_parts : goal.decreases-for_parts
decreases-for_parts l = 64 * length l.self.now.reader.rest.now + 53

abbrev pub decreases-for_var : goal.decreases-for_var
decreases-for_var l = 64 * length l.self.now.reader.rest.now + 55

abbrev pub decreases-function_behind : goal.decreases-function_behind
decreases-function_behind l = 64 * length l.self.now.reader.rest.now + 4

abbrev pub decreases-function_body : goal.decreases-function_body
decreases-function_body l = 64 * length l.self.now.reader.rest.now + 5

abbrev pub decreases-function_declaration : goal.decreases-function_declaration
decreases-function_declaration l = 64 * length l.self.now.reader.rest.now + 5

abbrev pub decreases-function_expression : goal.decreases-function_expression
decreases-function_expression l = 64 * length l.self.now.reader.rest.now + 5

abbrev pub decreases-function_here : goal.decreases-function_here
decreases-function_here l = 64 * length l.self.now.reader.rest.now + 6

abbrev pub decreases-getter : goal.decreases-getter
decreases-getter l = 64 * length l.self.now.reader.rest.now + 3

abbrev pub decreases-group_behind : goal.decreases-group_behind
decreases-group_behind l = 64 * length l.self.now.reader.rest.now + 41

abbrev pub decreases-head : goal.decreases-head
decreases-head l = 64 * length l.self.now.reader.rest.now + 53

abbrev pub decreases-host_call : goal.decreases-host_call
decreases-host_call l = 64 * length l.self.now.reader.rest.now + 42

abbrev pub decreases-if_behind : goal.decreases-if_behind
decreases-if_behind l = 64 * length l.self.now.reader.rest.now + 55

abbrev pub decreases-index_behind : goal.decreases-index_behind
decreases-index_behind l = 64 * length l.self.now.reader.rest.now + 41

abbrev pub decreases-initialiser : goal.decreases-initialiser
decreases-initialiser l = 64 * length l.self.now.reader.rest.now + 54

abbrev pub decreases-inner_statement : goal.decreases-inner_statement
decreases-inner_statement l = 64 * length l.self.now.reader.rest.now + 44

abbrev pub decreases-more_arguments : goal.decreases-more_arguments
decreases-more_arguments l = 64 * length l.self.now.reader.rest.now + 40

abbrev pub decreases-more_cases : goal.decreases-more_cases
decreases-more_cases l = 64 * length l.self.now.reader.rest.now + 54

abbrev pub decreases-more_commas : goal.decreases-more_commas
decreases-more_commas l = 64 * length l.self.now.reader.rest.now + 1

abbrev pub decreases-more_declarators : goal.decreases-more_declarators
decreases-more_declarators l = 64 * length l.self.now.reader.rest.now + 1

abbrev pub decreases-more_elements : goal.decreases-more_elements
decreases-more_elements l = 64 * length l.self.now.reader.rest.now + 46

abbrev pub decreases-more_host_arguments : goal.decreases-more_host_arguments
decreases-more_host_arguments l = 64 * length l.self.now.reader.rest.now + 40

abbrev pub decreases-more_items : goal.decreases-more_items
decreases-more_items l = 64 * length l.self.now.reader.rest.now + 40

abbrev pub decreases-more_members : goal.decreases-more_members
decreases-more_members l = 64 * length l.self.now.reader.rest.now + 2

abbrev pub decreases-more_statements : goal.decreases-more_statements
decreases-more_statements l = 64 * length l.self.now.reader.rest.now + 48

abbrev pub decreases-named_behind : goal.decreases-named_behind
decreases-named_behind l = 64 * length l.self.now.reader.rest.now + 43

abbrev pub decreases-operand : goal.decreases-operand
decreases-operand l = 64 * length l.self.now.reader.rest.now + 7

abbrev pub decreases-operation : goal.decreases-operation
decreases-operation l = 64 * length l.self.now.reader.rest.now + 12

abbrev pub decreases-perhaps_assigned : goal.decreases-perhaps_assigned
decreases-perhaps_assigned l = 64 * length l.self.now.reader.rest.now + 2

abbrev pub decreases-postfix : goal.decreases-postfix
decreases-postfix l = 64 * length l.self.now.reader.rest.now + 12

abbrev pub decreases-prefixed : goal.decreases-prefixed
decreases-prefixed l = 64 * length l.self.now.reader.rest.now + 8

abbrev pub decreases-return_behind : goal.decreases-return_behind
decreases-return_behind l = 64 * length l.self.now.reader.rest.now + 55

abbrev pub decreases-returned : goal.decreases-returned
decreases-returned l = 64 * length l.self.now.reader.rest.now + 54

abbrev pub decreases-run : goal.decreases-run
decreases-run l = 64 * length l.self.now.reader.rest.now + 11

abbrev pub decreases-setter : goal.decreases-setter
decreases-setter l = 64 * length l.self.now.reader.rest.now + 3

abbrev pub decreases-statement : goal.decreases-statement
decreases-statement l = 64 * length l.self.now.reader.rest.now + 43

abbrev pub decreases-statements : goal.decreases-statements
decreases-statements l = 64 * length l.self.now.reader.rest.now + 49

abbrev pub decreases-statements_behind_brace : goal.decreases-statements_behind_brace
decreases-statements_behind_brace l = 64 * length l.self.now.reader.rest.now + 50

abbrev pub decreases-step_behind : goal.decreases-step_behind
decreases-step_behind l = 64 * length l.self.now.reader.rest.now + 14

abbrev pub decreases-switch_behind : goal.decreases-switch_behind
decreases-switch_behind l = 64 * length l.self.now.reader.rest.now + 55

abbrev pub decreases-tested_case : goal.decreases-tested_case
decreases-tested_case l = 64 * length l.self.now.reader.rest.now + 53

abbrev pub decreases-throw_behind : goal.decreases-throw_behind
decreases-throw_behind l = 64 * length l.self.now.reader.rest.now + 55

abbrev pub decreases-try_behind : goal.decreases-try_behind
decreases-try_behind l = 64 * length l.self.now.reader.rest.now + 55

abbrev pub decreases-turn : goal.decreases-turn
decreases-turn l = 64 * length l.self.now.reader.rest.now + 10

abbrev pub decreases-unary : goal.decreases-unary
decreases-unary l = 64 * length l.self.now.reader.rest.now + 13

abbrev pub decreases-unary_behind : goal.decreases-unary_behind
decreases-unary_behind l = 64 * length l.self.now.reader.rest.now + 14

abbrev pub decreases-value : goal.decreases-value
decreases-value l = 64 * length l.self.now.reader.rest.now + 3

abbrev pub decreases-var_behind : goal.decreases-var_behind
decreases-var_behind l = 64 * length l.self.now.reader.rest.now + 55

abbrev pub decreases-while_behind : goal.decreases-while_behind
decreases-while_behind l = 64 * length l.self.now.reader.rest.now + 55

abbrev pub invariant-run-turn : goal.invariant-run-turn
invariant-run-turn l = record {
  same : read_on st.Begin l.fn.frames (rest_of l.fn.self.reader) ≡ read_on l.stage l.frames (rest_of l.self.reader);
  less : length l.self.reader.rest.now < length l.fn.self.reader.rest.now;
}

abbrev pub decreases-run-turn : goal.decreases-run-turn
decreases-run-turn l = work l.self.reader.rest.now l.frames + rank l.stage

abbrev pub invariant-more_elements-turn : goal.invariant-more_elements-turn
invariant-more_elements-turn l = record {
  same : repeat (F.more_elements grammar (closed_by l.closer)) (l.fn.so_far, l.fn.leads) (rest_of l.fn.self.reader) ≡ repeat (F.more_elements grammar (closed_by l.closer)) (l.so_far, l.leads) (rest_of l.self.reader);
  within : length l.self.reader.rest.now ≤ length l.fn.self.reader.rest.now;
}

abbrev pub decreases-more_elements-turn : goal.decreases-more_elements-turn
decreases-more_elements-turn l = length l.self.reader.rest.now

abbrev pub invariant-more_declarators-turn : goal.invariant-more_declarators-turn
invariant-more_declarators-turn l = record {
  same : repeat (D.more_declarators grammar l.allows_in) l.fn.so_far (rest_of l.fn.self.reader) ≡ repeat (D.more_declarators grammar l.allows_in) l.so_far (rest_of l.self.reader);
  within : length l.self.reader.rest.now ≤ length l.fn.self.reader.rest.now;
}

abbrev pub decreases-more_declarators-turn : goal.decreases-more_declarators-turn
decreases-more_declarators-turn l = length l.self.reader.rest.now

abbrev pub invariant-more_statements-turn : goal.invariant-more_statements-turn
invariant-more_statements-turn l = record {
  same : repeat (B.more_statements grammar (closed_by l.closer)) l.fn.so_far (rest_of l.fn.self.reader) ≡ repeat (B.more_statements grammar (closed_by l.closer)) l.so_far (rest_of l.self.reader);
  within : length l.self.reader.rest.now ≤ length l.fn.self.reader.rest.now;
}

abbrev pub decreases-more_statements-turn : goal.decreases-more_statements-turn
decreases-more_statements-turn l = length l.self.reader.rest.now

abbrev pub invariant-more_cases-turn : goal.invariant-more_cases-turn
invariant-more_cases-turn l = record {
  same : repeat (S.more_cases grammar) (l.fn.so_far, l.fn.defaults) (rest_of l.fn.self.reader) ≡ repeat (S.more_cases grammar) (l.so_far, l.defaults) (rest_of l.self.reader);
  within : length l.self.reader.rest.now ≤ length l.fn.self.reader.rest.now;
}

abbrev pub decreases-more_cases-turn : goal.decreases-more_cases-turn
decreases-more_cases-turn l = length l.self.reader.rest.now

abbrev pub invariant-more_commas-turn : goal.invariant-more_commas-turn
invariant-more_commas-turn l = record {
  same : repeat (P.more_commas grammar l.allows_in) l.fn.left (rest_of l.fn.self.reader) ≡ repeat (P.more_commas grammar l.allows_in) l.left (rest_of l.self.reader);
  within : length l.self.reader.rest.now ≤ length l.fn.self.reader.rest.now;
}

abbrev pub decreases-more_commas-turn : goal.decreases-more_commas-turn
decreases-more_commas-turn l = length l.self.reader.rest.now

abbrev pub invariant-more_arguments-turn : goal.invariant-more_arguments-turn
invariant-more_arguments-turn l = record {
  same : repeat (P.more_arguments grammar) l.fn.so_far (rest_of l.fn.self.reader) ≡ repeat (P.more_arguments grammar) l.so_far (rest_of l.self.reader);
  within : length l.self.reader.rest.now ≤ length l.fn.self.reader.rest.now;
}

abbrev pub decreases-more_arguments-turn : goal.decreases-more_arguments-turn
decreases-more_arguments-turn l = length l.self.reader.rest.now

abbrev pub invariant-more_host_arguments-turn : goal.invariant-more_host_arguments-turn
invariant-more_host_arguments-turn l = record {
  same : repeat (P.more_host_arguments grammar l.at) l.fn.so_far (rest_of l.fn.self.reader) ≡ repeat (P.more_host_arguments grammar l.at) l.so_far (rest_of l.self.reader);
  within : length l.self.reader.rest.now ≤ length l.fn.self.reader.rest.now;
}

abbrev pub decreases-more_host_arguments-turn : goal.decreases-more_host_arguments-turn
decreases-more_host_arguments-turn l = length l.self.reader.rest.now

abbrev pub invariant-more_items-turn : goal.invariant-more_items-turn
invariant-more_items-turn l = record {
  same : repeat (P.more_elements grammar) l.fn.so_far (rest_of l.fn.self.reader) ≡ repeat (P.more_elements grammar) l.so_far (rest_of l.self.reader);
  within : length l.self.reader.rest.now ≤ length l.fn.self.reader.rest.now;
}

abbrev pub decreases-more_items-turn : goal.decreases-more_items-turn
decreases-more_items-turn l = length l.self.reader.rest.now

abbrev pub invariant-more_members-turn : goal.invariant-more_members-turn
invariant-more_members-turn l = record {
  same : repeat (P.more_members grammar l.calls) l.fn.left (rest_of l.fn.self.reader) ≡ repeat (P.more_members grammar l.calls) l.left (rest_of l.self.reader);
  within : length l.self.reader.rest.now ≤ length l.fn.self.reader.rest.now;
}

abbrev pub decreases-more_members-turn : goal.decreases-more_members-turn
decreases-more_members-turn l = length l.self.reader.rest.now

abbrev pub decreases-perhaps_arguments : goal.decreases-perhaps_arguments
decreases-perhaps_arguments l = 64 * length l.self.now.reader.rest.now + 2

abbrev pub decreases-field : goal.decreases-field
decreases-field l = 64 * length l.self.now.reader.rest.now + 5
