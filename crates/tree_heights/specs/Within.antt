-- Parts of trees that are no higher than a number.
use Rattle.std.specs.Prelude.{ℕ, Bool, List, Option}
use Rattle.std.specs.List.{list_all}
use Rattle.js_value.specs.declared.place.FuncNo.{FuncNo}
use Rattle.js_tree.specs.declared.expression.ExprForm.{ExprForm, out-ExprForm}
use Rattle.js_tree.specs.declared.expression.Field.{Field, out-Field}
use Rattle.js_tree.specs.declared.statement.Case.{Case}
use Rattle.js_tree.specs.declared.statement.Catch.{Catch, out-Catch}
use Rattle.js_tree.specs.declared.statement.Finally.{Finally, out-Finally}
use Rattle.js_tree.specs.declared.statement.Func.{Func}
use Rattle.js_tree.specs.declared.statement.StmtForm.{StmtForm, out-StmtForm}
use Rattle.js_grammar.specs.Heights.{or_true, field_fits, parts_fit, case_fits, stmt_parts_fit, body_of, is_within, is_stmt_within}

module _ (functions : List Func) (n : ℕ) where
  abbrev pub inside : FuncNo → Bool
  inside f = list_all (is_stmt_within functions n) (body_of functions f)

  abbrev pub field : Field → Bool
  field f = field_fits (is_within functions n) inside (out-Field f)

  abbrev pub form : ExprForm → Bool
  form f = parts_fit (is_within functions n) inside (out-ExprForm f)

  abbrev pub clause : Case → Bool
  clause c = case_fits (is_within functions n) (is_stmt_within functions n) inside c

  abbrev pub handler : Option Catch → Bool
  handler c = or_true (λ (x : Catch). list_all (is_stmt_within functions n) (out-Catch x).body) c

  abbrev pub last : Option Finally → Bool
  last f = or_true (λ (x : Finally). list_all (is_stmt_within functions n) (out-Finally x).body) f

  abbrev pub stmt_form : StmtForm → Bool
  stmt_form f = stmt_parts_fit (is_within functions n) (is_stmt_within functions n) inside (out-StmtForm f)
