use Rattle.std.proofs.Common.{◌≡◌, ◌+◌, ◌*◌, true, take}
use Rattle.std.specs.List.{list_all}
use Rattle.js_grammar.specs.Heights as spec
use Rattle.tree_heights.specs.Within as within
use Rattle.tree_heights.proofs.heights.+heights.Given as goal

abbrev pub decreases-are_cases_within : goal.decreases-are_cases_within
decreases-are_cases_within l = 8 * l.n + 2

abbrev pub decreases-are_declarators_within : goal.decreases-are_declarators_within
decreases-are_declarators_within l = 8 * l.n + 2

abbrev pub decreases-are_fields_within : goal.decreases-are_fields_within
decreases-are_fields_within l = 8 * l.n + 4

abbrev pub decreases-are_items_within : goal.decreases-are_items_within
decreases-are_items_within l = 8 * l.n + 3

abbrev pub decreases-are_stmts_within : goal.decreases-are_stmts_within
decreases-are_stmts_within l = 8 * l.n + 1

abbrev pub decreases-are_within : goal.decreases-are_within
decreases-are_within l = 8 * l.n + 1

abbrev pub decreases-is_field_within : goal.decreases-is_field_within
decreases-is_field_within l = 8 * l.n + 3

abbrev pub decreases-is_form_within : goal.decreases-is_form_within
decreases-is_form_within l = 8 * l.n + 7

abbrev pub decreases-is_function_within : goal.decreases-is_function_within
decreases-is_function_within l = 8 * l.n + 2

abbrev pub decreases-is_handler_within : goal.decreases-is_handler_within
decreases-is_handler_within l = 8 * l.n + 2

abbrev pub decreases-is_last_within : goal.decreases-is_last_within
decreases-is_last_within l = 8 * l.n + 2

abbrev pub decreases-is_maybe_stmt_within : goal.decreases-is_maybe_stmt_within
decreases-is_maybe_stmt_within l = 8 * l.n + 1

abbrev pub decreases-is_maybe_within : goal.decreases-is_maybe_within
decreases-is_maybe_within l = 8 * l.n + 1

abbrev pub decreases-is_start_within : goal.decreases-is_start_within
decreases-is_start_within l = 8 * l.n + 3

abbrev pub decreases-is_stmt_form_within : goal.decreases-is_stmt_form_within
decreases-is_stmt_form_within l = 8 * l.n + 7

abbrev pub decreases-is_stmt_within : goal.decreases-is_stmt_within
decreases-is_stmt_within l = 8 * l.n + 0

abbrev pub decreases-is_target_within : goal.decreases-is_target_within
decreases-is_target_within l = 8 * l.n + 1

abbrev pub decreases-is_within : goal.decreases-is_within
decreases-is_within l = 8 * l.n + 0

abbrev pub invariant-are_cases_within-loop-case : goal.invariant-are_cases_within-loop-case
invariant-are_cases_within-loop-case l = list_all (λ c. within.clause l.functions l.n c) (take l.case-index l.all) ≡ true

abbrev pub invariant-are_declarators_within-loop-declarator : goal.invariant-are_declarators_within-loop-declarator
invariant-are_declarators_within-loop-declarator l = spec.declarators_fit (spec.is_within l.functions l.n) (spec.is_stmt_within l.functions l.n) (within.inside l.functions l.n) (take l.declarator-index l.all) ≡ true

abbrev pub invariant-are_fields_within-loop-field : goal.invariant-are_fields_within-loop-field
invariant-are_fields_within-loop-field l = list_all (λ f. within.field l.functions l.n f) (take l.field-index l.all) ≡ true

abbrev pub invariant-are_items_within-loop-x : goal.invariant-are_items_within-loop-x
invariant-are_items_within-loop-x l = list_all (spec.or_true (spec.is_within l.functions l.n)) (take l.x-index l.all) ≡ true

abbrev pub invariant-are_stmts_within-loop-t : goal.invariant-are_stmts_within-loop-t
invariant-are_stmts_within-loop-t l = list_all (spec.is_stmt_within l.functions l.n) (take l.t-index l.all) ≡ true

abbrev pub invariant-are_within-loop-x : goal.invariant-are_within-loop-x
invariant-are_within-loop-x l = list_all (spec.is_within l.functions l.n) (take l.x-index l.all) ≡ true
