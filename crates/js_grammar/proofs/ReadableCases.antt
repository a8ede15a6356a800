-- The cases of trees that reading can give compute, each fold opened form by form.
use Rattle.std.proofs.Common.{◌≡◌, ap, refl, true, List, Bool}
use Rattle.std.specs.Char.Utf16.{utf16_chars}
use Rattle.std.proofs.Math.Bool.{or-true, and-false}
use Rattle.js_tree.specs.declared.expression.Expr.{Expr}
use Rattle.js_tree.specs.declared.expression.ExprForm.TheFolds.{fold_out-ExprForm, fold_out-Field, fold_out-Expr}
use Rattle.js_tree.specs.declared.expression.ExprForm.TheVariants.{outs-Name, outs-Literal, outs-ObjectLit, outs-Func, outs-Member, outs-Index, outs-Call, outs-New, outs-Unary, outs-Assign, outs-Step, outs-Comma, outs-Input, outs-HostCall}
use Rattle.js_tree.specs.declared.expression.Field.TheVariants.{outs-Value, outs-Getter, outs-Setter}
use Rattle.js_tree.specs.declared.statement.Func.{Func}
use Rattle.js_tree.specs.declared.statement.Stmt.{Stmt}
use Rattle.js_tree.specs.declared.statement.Case.{Case}
use Rattle.js_tree.specs.declared.statement.Catch.{Catch}
use Rattle.js_tree.specs.declared.statement.Finally.{Finally}
use Rattle.js_tree.specs.declared.statement.StmtForm.{StmtForm, out-StmtForm}
use Rattle.js_tree.specs.declared.statement.StmtForm.TheOpen.{StmtForm-F, Case-F, Catch-F, Finally-F, Stmt-F}
use Rattle.js_tree.specs.declared.statement.StmtForm.TheFolds.{map-StmtForm, fold-StmtForm, fold-Case, fold-Catch, fold-Finally, fold-Stmt, fold_out-StmtForm, fold-roll-Case, fold-roll-Catch, fold-roll-Finally, fold_out-Stmt}
use Rattle.js_tree.specs.declared.statement.StmtForm.TheVariants.{outs-Var, outs-FuncDecl, outs-Eval, outs-Block, outs-Empty, outs-If, outs-DoWhile, outs-While, outs-For, outs-ForIn, outs-Continue, outs-Break, outs-Return, outs-Switch, outs-Try}
use Rattle.js_tree.specs.Early.{early_fault}
use Rattle.js_tree.specs.Lexing.{is_name_start, is_name_part, reserved_word}
use Rattle.js_tree.specs.Mentions.{mentions, hoisted_vars, hoisted_functions}
use Rattle.js_tree.proofs.EarlyCases.{expr_first, expr_second, form_first, form_second}
use Rattle.js_grammar.specs.FunctionOrder.{are_in_source_order}
use Rattle.js_grammar.specs.ReadableExpressions.{ReadExpr, of_form, of_field, in_form, in_expr}
use Rattle.js_grammar.specs.Readable.{are_parts_readable, are_inputs_alike, is_readable}
use Rattle.js_tree.specs.declared.statement.Script.{Script}
use Rattle.js_grammar.specs.ReadableCases.{ReadableCases, AreReadable, if_rows, loop_rows, part_rows, jump_rows, assignment_rows, target_rows, delete_rows, literal_rows, form_rows}
use Rattle.js_grammar.specs.ReadableNameCases.{ReadableNameCases, name_rows, declared_rows, key_rows, setter_key_rows, order_rows, inner_rows, accessor_rows, repeated_rows, declaration_rows, strict_rows}

-- `$` and `_` are characters of names, whatever Unicode says of them

pub dollar_starts : is_name_start 36 ≡ true
unfolding is_name_start
dollar_starts = simp or-true

pub low_line_starts : is_name_start 95 ≡ true
unfolding is_name_start
low_line_starts = simp or-true

pub dollar_goes_on : is_name_part 36 ≡ true
unfolding is_name_part
dollar_goes_on = simp or-true

pub low_line_goes_on : is_name_part 95 ≡ true
unfolding is_name_part
low_line_goes_on = simp or-true

-- what is asked of an expression, where nothing else is of it
pub expr_readable : (functions : List Func) (x : Expr) → (in_expr functions x).readable ≡ (in_form functions x.form).readable
expr_readable functions x = ap (λ (r : ReadExpr). r.readable) (fold_out-Expr ReadExpr Bool ReadExpr (of_form functions) (of_field functions) (λ x. x.form) x)

module _ (P A B C D E : Type 0) (form : StmtForm-F (P → A) B C D E → P → A) (clause : Case-F (P → A) B C D E → B) (handler : Catch-F (P → A) B C D E → C)
    (final : Finally-F (P → A) B C D E → D) (stmt : Stmt-F (P → A) B C D E → E) where
  pub stmt_form_at : (f : StmtForm) (at : P) → fold-StmtForm (P → A) B C D E form clause handler final stmt f at
      ≡ form (map-StmtForm StmtForm Case Catch Finally Stmt (P → A) B C D E (fold-StmtForm (P → A) B C D E form clause handler final stmt) (fold-Case (P → A) B C D E form clause handler final stmt) (fold-Catch (P → A) B C D E form clause handler final stmt) (fold-Finally (P → A) B C D E form clause handler final stmt) (fold-Stmt (P → A) B C D E form clause handler final stmt) (out-StmtForm f)) at
  stmt_form_at f at = ap (λ g. g at) (fold_out-StmtForm (P → A) B C D E form clause handler final stmt f)

-- each part of what is asked is opened where this is
unfoldable pub readable_opened : Script → Bool
unfolding is_readable are_parts_readable are_in_source_order are_inputs_alike early_fault mentions hoisted_vars hoisted_functions reserved_word utf16_chars
readable_opened = is_readable

if_cases : AreReadable if_rows
unfolding readable_opened
if_cases = simp (expr_readable, low_line_starts, low_line_goes_on, fold_out-Expr, fold_out-ExprForm, fold_out-Stmt, stmt_form_at, fold_out-StmtForm, form_first, outs-Name, outs-Block, outs-Empty, outs-If)

loop_cases : AreReadable loop_rows
unfolding readable_opened
loop_cases = simp (expr_readable, low_line_starts, low_line_goes_on, fold_out-Expr, fold_out-ExprForm, fold_out-Stmt, stmt_form_at, fold_out-StmtForm, form_first, outs-Name, outs-Empty, outs-If, outs-DoWhile, outs-While, outs-For, outs-ForIn)

part_cases : AreReadable part_rows
unfolding readable_opened
part_cases = simp (expr_readable, low_line_starts, low_line_goes_on, and-false, fold_out-Expr, fold_out-ExprForm, fold_out-Stmt, stmt_form_at, fold_out-StmtForm, fold-roll-Case, fold-roll-Catch, fold-roll-Finally, expr_first, form_first, outs-Name, outs-Var, outs-For, outs-Switch, outs-Try)

jump_cases : AreReadable jump_rows
unfolding readable_opened
jump_cases = simp (expr_readable, low_line_starts, low_line_goes_on, and-false, fold_out-Expr, fold_out-ExprForm, fold_out-Stmt, stmt_form_at, fold_out-StmtForm, form_first, outs-Name, outs-FuncDecl, outs-While, outs-Continue, outs-Break, outs-Return)

target_cases : AreReadable target_rows
unfolding readable_opened
target_cases = simp (expr_readable, dollar_starts, low_line_starts, dollar_goes_on, low_line_goes_on, fold_out-Expr, fold_out-ExprForm, fold_out-Stmt, stmt_form_at, fold_out-StmtForm, expr_first, expr_second, form_first, form_second, outs-Name, outs-Literal, outs-Member, outs-Index, outs-New, outs-Step, outs-Eval, outs-Empty, outs-ForIn)

assignment_cases : AreReadable assignment_rows
unfolding readable_opened
assignment_cases = simp (low_line_starts, low_line_goes_on, fold_out-Expr, fold_out-ExprForm, fold_out-Stmt, stmt_form_at, fold_out-StmtForm, expr_first, form_first, form_second, outs-Name, outs-Literal, outs-Call, outs-Assign, outs-Eval)

delete_cases : AreReadable delete_rows
unfolding readable_opened
delete_cases = simp (low_line_starts, low_line_goes_on, fold_out-Expr, fold_out-ExprForm, fold_out-Stmt, stmt_form_at, fold_out-StmtForm, expr_first, form_first, outs-Name, outs-Member, outs-Unary, outs-Eval)

literal_cases : AreReadable literal_rows
unfolding readable_opened
literal_cases = simp (fold_out-Expr, fold_out-ExprForm, fold_out-Stmt, stmt_form_at, fold_out-StmtForm, expr_first, form_first, outs-Literal, outs-Eval)

form_cases : AreReadable form_rows
unfolding readable_opened
form_cases = simp (low_line_starts, low_line_goes_on, fold_out-Expr, fold_out-ExprForm, fold_out-Stmt, stmt_form_at, fold_out-StmtForm, expr_first, form_first, outs-Name, outs-Comma, outs-Input, outs-HostCall, outs-Eval)

name_cases : AreReadable name_rows
unfolding readable_opened
name_cases = simp (dollar_starts, low_line_starts, dollar_goes_on, low_line_goes_on, and-false, fold_out-Expr, fold_out-ExprForm, fold_out-Stmt, stmt_form_at, fold_out-StmtForm, expr_first, form_first, outs-Name, outs-Eval)

declared_cases : AreReadable declared_rows
unfolding readable_opened
declared_cases = simp (expr_readable, dollar_starts, low_line_starts, dollar_goes_on, low_line_goes_on, and-false, fold_out-Expr, fold_out-ExprForm, fold_out-Stmt, stmt_form_at, fold_out-StmtForm, fold-roll-Catch, expr_first, form_first, outs-Name, outs-Func, outs-Var, outs-Eval, outs-Empty, outs-For, outs-ForIn, outs-Try)

key_cases : AreReadable key_rows
unfolding readable_opened
key_cases = simp (dollar_starts, low_line_starts, dollar_goes_on, low_line_goes_on, and-false, fold_out-Expr, fold_out-ExprForm, fold_out-Field, fold_out-Stmt, stmt_form_at, fold_out-StmtForm, expr_first, form_first, outs-Name, outs-ObjectLit, outs-Value, outs-Getter, outs-Member, outs-Eval)

setter_key_cases : AreReadable setter_key_rows
unfolding readable_opened
setter_key_cases = simp (low_line_starts, low_line_goes_on, fold_out-Expr, fold_out-ExprForm, fold_out-Field, fold_out-Stmt, stmt_form_at, fold_out-StmtForm, expr_first, form_first, outs-ObjectLit, outs-Setter, outs-Eval)

order_cases : AreReadable order_rows
unfolding readable_opened
order_cases = simp (fold_out-Expr, fold_out-ExprForm, fold_out-Stmt, stmt_form_at, fold_out-StmtForm, expr_first, form_first, outs-Func, outs-Eval)

inner_cases : AreReadable inner_rows
unfolding readable_opened
inner_cases = simp (dollar_starts, low_line_starts, dollar_goes_on, low_line_goes_on, fold_out-Stmt, stmt_form_at, fold_out-StmtForm, outs-FuncDecl)

accessor_cases : AreReadable accessor_rows
unfolding readable_opened
accessor_cases = simp (dollar_starts, low_line_starts, dollar_goes_on, low_line_goes_on, fold_out-Expr, fold_out-ExprForm, fold_out-Field, fold_out-Stmt, stmt_form_at, fold_out-StmtForm, expr_first, form_first, outs-ObjectLit, outs-Getter, outs-Setter, outs-Eval)

repeated_cases : AreReadable repeated_rows
unfolding readable_opened
repeated_cases = simp (low_line_starts, low_line_goes_on, and-false, fold_out-Expr, fold_out-ExprForm, fold_out-Field, fold_out-Stmt, stmt_form_at, fold_out-StmtForm, expr_first, form_first, outs-ObjectLit, outs-Getter, outs-Setter, outs-Eval)

declaration_cases : AreReadable declaration_rows
unfolding readable_opened
declaration_cases = simp (expr_readable, dollar_starts, low_line_starts, dollar_goes_on, low_line_goes_on, and-false, fold_out-Expr, fold_out-ExprForm, fold_out-Stmt, stmt_form_at, fold_out-StmtForm, fold-roll-Case, outs-Name, outs-FuncDecl, outs-Block, outs-If, outs-Switch)

strict_cases : AreReadable strict_rows
unfolding readable_opened
strict_cases = simp (fold_out-Expr, fold_out-ExprForm, fold_out-Stmt, stmt_form_at, fold_out-StmtForm, outs-Func, outs-Eval)

pub readable_cases : ReadableCases
readable_cases = record {
  ifs = if_cases;
  loops = loop_cases;
  parts = part_cases;
  jumps = jump_cases;
  assignments = assignment_cases;
  compound = refl;
  not_compound = refl;
  targets = target_cases;
  deletes = delete_cases;
  literals = literal_cases;
  forms = form_cases;
}

pub readable_name_cases : ReadableNameCases
readable_name_cases = record {
  names = name_cases;
  declared = declared_cases;
  keys = key_cases;
  setter_keys = setter_key_cases;
  order = order_cases;
  inner = inner_cases;
  accessors = accessor_cases;
  repeated = repeated_cases;
  declarations = declaration_cases;
  strict = strict_cases;
}
