-- The texts compute.
use Rattle.std.proofs.Common.{refl}
use Rattle.std.specs.Fmt.{digits}
use Rattle.js_value.specs.Conversions.{is_same_value, to_text}
use Rattle.js_value.specs.Texts.{quoted_unit}
use Rattle.plain_heap.specs.Heap.{resolve}
use Rattle.js_machine.specs.Machine.Listed.{queue_of, listing_by}
use Rattle.js_machine.specs.Machine.Realm.{realm, realm_names, realm_name}
use Rattle.js_machine.specs.Machine.RunText.{code_line, run_text}
use Rattle.std.specs.Char.Utf16.{utf16_chars}
use Rattle.js_machine.specs.Machine.Codes.{code}
use Rattle.lone_functions.specs.Alone.{alone}
use Rattle.machine_cases.specs.TextCases.{TextCases}
use Rattle.js_tree.specs.Mentions.{hoisted_vars, hoisted_functions, free_names}
use Rattle.script_text.specs.CodeLine.{add, code_text}
use Rattle.script_text.specs.Printing.{function_to}

pub text_cases : TextCases
unfolding code_line code alone code_text add utf16_chars lib.Utf8.encode function_to hoisted_vars hoisted_functions free_names digits is_same_value to_text quoted_unit resolve queue_of listing_by realm realm_names realm_name run_text
text_cases = record { with_code = refl; a_number = refl; a_cycle = refl; a_function = refl; realm_changes = refl; a_deletion = refl; thrown_object = refl; an_array = refl; a_capture = refl; thrown_answer = refl; strict_function = refl; host_calls = refl }
