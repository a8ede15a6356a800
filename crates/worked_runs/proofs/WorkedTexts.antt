-- The text of each heap computes, and with it that of the run.
use Rattle.std.proofs.Common.{◌≡◌, refl, Some}
use Rattle.std.specs.Prelude.{codes}
use Rattle.std.specs.Char.Utf16.{utf16_chars}
use Rattle.std.specs.Fmt.{digits}
use Rattle.js_value.specs.Conversions.{is_same_value, to_text}
use Rattle.js_value.specs.Texts.{quoted_unit}
use Rattle.js_value.specs.declared.why.Why.TheVariants.{MinusZero}
use Rattle.js_tree.specs.Mentions.{hoisted_vars, hoisted_functions, free_names}
use Rattle.js_tree.specs.Refusals.{place}
use Rattle.plain_heap.specs.Heap.{resolve}
use Rattle.machine_cases.specs.ListingCases.{after_number, after_cycle, after_function, after_realm_changes}
use Rattle.lone_functions.specs.Alone.{alone}
use Rattle.js_machine.specs.Machine.Codes.{code}
use Rattle.js_machine.specs.Machine.Listed.{queue_of, listing_by}
use Rattle.js_machine.specs.Machine.Realm.{realm, realm_names, realm_name}
use Rattle.js_machine.specs.Machine.RunText.{code_line, line, outcome_text, run_text}
use Rattle.js_machine.specs.Machine.Walks.{Left}
use Rattle.machine_cases.specs.TextCases.{a_number_text, a_cycle_text, a_function_text, realm_changes_text, function_script}
use Rattle.script_text.specs.CodeLine.{add, code_text}
use Rattle.script_text.specs.Printing.{function_to}
use Rattle.worked_runs.specs.WorkedRuns.{WorkedRuns, nothing, sum_script, minus_zero_script, cycle_script, changes_script, counter_script, makers_script, inherited_setter_script, throwing_setter_script}
use Rattle.worked_runs.proofs.Instance.{at_most, text_at_most}
use Rattle.worked_runs.proofs.WorkedHeapStates.{after_counter, after_makers, after_inherited_setter, after_throwing_setter}
use Rattle.worked_runs.proofs.WholeTexts.{counter_whole, makers_whole, inherited_setter_whole, throwing_setter_whole}
use Rattle.worked_runs.proofs.WorkedHeaps.{heaps, leaving}

record Texts : Type 0 where
  nothing_text : outcome_text nothing.funcs (leaving realm) ≡ Some (line (codes "normal"))
  sum_text : outcome_text sum_script.funcs (leaving after_number) ≡ Some a_number_text
  cycle_text : outcome_text cycle_script.funcs (leaving after_cycle) ≡ Some a_cycle_text
  function_text : outcome_text function_script.funcs (leaving after_function) ≡ Some a_function_text
  changes_text : outcome_text changes_script.funcs (leaving after_realm_changes) ≡ Some realm_changes_text

texts : Texts
unfolding code_line code alone code_text add utf16_chars lib.Utf8.encode function_to hoisted_vars hoisted_functions free_names digits is_same_value to_text quoted_unit resolve queue_of listing_by realm realm_names realm_name run_text
texts = record { nothing_text = refl; sum_text = refl; cycle_text = refl; function_text = refl; changes_text = refl }

pub worked_runs : WorkedRuns
worked_runs = record {
  nothing_run = text_at_most nothing (leaving realm) heaps.nothing_ends _ texts.nothing_text;
  sum_run = text_at_most sum_script (leaving after_number) heaps.sum_ends _ texts.sum_text;
  minus_zero_run = at_most minus_zero_script (Left MinusZero (place 8)) heaps.minus_zero_leaves;
  cycle_run = text_at_most cycle_script (leaving after_cycle) heaps.cycle_ends _ texts.cycle_text;
  function_run = text_at_most function_script (leaving after_function) heaps.function_ends _ texts.function_text;
  changes_run = text_at_most changes_script (leaving after_realm_changes) heaps.changes_ends _ texts.changes_text;
  counter_run = text_at_most counter_script (leaving after_counter) heaps.counter_ends _ counter_whole;
  makers_run = text_at_most makers_script (leaving after_makers) heaps.makers_ends _ makers_whole;
  inherited_setter_run = text_at_most inherited_setter_script (leaving after_inherited_setter) heaps.inherited_setter_ends _ inherited_setter_whole;
  throwing_setter_run = text_at_most throwing_setter_script (leaving after_throwing_setter) heaps.throwing_setter_ends _ throwing_setter_whole;
}
