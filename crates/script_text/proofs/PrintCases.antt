-- The cases of printing compute, the fold over a name opened.
use Rattle.std.proofs.Common.{◌≡◌, refl, map, List, ◌∙◌}
use Rattle.std.specs.Prelude.{codes}
use Rattle.std.specs.Char.Utf16.{utf16_chars}
use Rattle.js_value.specs.Texts.{quoted_unit}
use Rattle.js_tree.specs.declared.expression.ExprForm.TheFolds.{fold_out-ExprForm, fold_out-Expr}
use Rattle.js_tree.specs.declared.expression.ExprForm.TheOpen.{ExprForm-F}
use Rattle.js_tree.specs.declared.expression.ExprForm.TheVariants as e
use Rattle.script_text.specs.Expressions.{Printed, tokens, printed, of_form, of_field, index, branch, two_literals, host_call}
use Rattle.script_text.specs.Statements.{head, else_word, end_of_do, for_head, for_rest, for_in_head, in_rest, catch_head}
use Rattle.script_text.specs.Pieces.{Piece, text_of, put}
use Rattle.script_text.specs.PrintCases.{PrintCases, ArePrinted, operators, loose_forms, prefixes, members, literals, beginnings, headers, header, statement_forms, function, d, x}

operators_print : ArePrinted operators
unfolding tokens put utf16_chars lib.Utf8.encode
operators_print = refl

loose_print : ArePrinted loose_forms
unfolding tokens put utf16_chars lib.Utf8.encode index branch
loose_print = refl

prefixes_print : ArePrinted prefixes
unfolding tokens put utf16_chars lib.Utf8.encode
prefixes_print = refl

members_print : ArePrinted members
unfolding tokens put utf16_chars lib.Utf8.encode index branch
members_print = refl

literals_print : ArePrinted literals
unfolding tokens put utf16_chars lib.Utf8.encode quoted_unit two_literals host_call
literals_print = refl

beginnings_print : ArePrinted beginnings
unfolding tokens put utf16_chars lib.Utf8.encode quoted_unit index branch
beginnings_print = refl

headers_print : map (λ row. header row.0) headers ≡ map (λ row. row.1) headers
unfolding tokens put utf16_chars lib.Utf8.encode index branch
headers_print = refl

of_name : printed function d ≡ x (ExprForm-F.Name (codes "d"))
of_name =
    fold_out-Expr Printed (List Piece) Printed (of_form function) (of_field function) (λ e. e.form) d
    ∙ fold_out-ExprForm Printed (List Piece) Printed (of_form function) (of_field function) (λ e. e.form) (e.Name (codes "d"))
    ∙ rw (e.outs-Name (codes "d")) refl

statements_print : map (λ row. text_of row.0.pieces) statement_forms ≡ map (λ row. row.1) statement_forms
unfolding tokens put utf16_chars lib.Utf8.encode head else_word end_of_do for_head for_rest for_in_head in_rest catch_head
statements_print = simp of_name

pub print_cases : PrintCases
unfolding tokens
print_cases = record {
  number_grouped = refl;
  number_bare = refl;
  operators_printed = operators_print;
  loose_printed = loose_print;
  prefixes_printed = prefixes_print;
  members_printed = members_print;
  literals_printed = literals_print;
  beginnings_printed = beginnings_print;
  headers_printed = headers_print;
  statements_printed = statements_print;
}
