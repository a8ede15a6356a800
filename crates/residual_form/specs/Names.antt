-- Where a name stands in code: where it is used, that is read or assigned, and where it is declared.
use Rattle.std.specs.Prelude.{ℕ, ◌&&◌, ◌||◌, Bool, true, false, List, map, not, Option, Some, None}
use Rattle.std.specs.List.{list_any}
use Rattle.std.specs.Str.{bytes_eq}
use Rattle.js_tree.specs.declared.expression.Expr.{Expr, fold-Expr}
use Rattle.js_tree.specs.declared.expression.Field.{Field, fold-Field}
use Rattle.js_tree.specs.declared.expression.ExprForm.{ExprForm, fold-ExprForm}
use Rattle.js_tree.specs.declared.expression.ExprForm.TheOpen.{ExprForm-F, Field-F}
use Rattle.js_tree.specs.declared.statement.Declarator.{Declarator}
use Rattle.js_tree.specs.declared.statement.ForStart.{ForStart}
use Rattle.js_tree.specs.declared.statement.ForStart.TheVariants as start
use Rattle.js_tree.specs.declared.statement.ForTarget.{ForTarget}
use Rattle.js_tree.specs.declared.statement.ForTarget.TheVariants as target
use Rattle.js_tree.specs.declared.statement.Func.{Func}
use Rattle.js_tree.specs.declared.statement.Name.{Name}
use Rattle.js_tree.specs.declared.statement.Script.{Script}
use Rattle.js_tree.specs.declared.statement.Stmt.{Stmt, fold-Stmt}
use Rattle.js_tree.specs.declared.statement.Case.{Case, fold-Case}
use Rattle.js_tree.specs.declared.statement.Catch.{Catch, fold-Catch}
use Rattle.js_tree.specs.declared.statement.Finally.{Finally, fold-Finally}
use Rattle.js_tree.specs.declared.statement.StmtForm.{StmtForm, fold-StmtForm}
use Rattle.js_tree.specs.declared.statement.StmtForm.TheOpen.{StmtForm-F, Case-F, Catch-F, Finally-F}
use Rattle.residual_form.specs.declared.sought.Sought.{Sought}

abbrev pub any : List Bool → Bool
any bs = list_any (λ b. b) bs

abbrev pub or_false : Option Bool → Bool
or_false None = false
or_false (Some b) = b

module _ (name : List ℕ) where
  -- ---- the name is read or assigned in an expression, insides of functions left out; a property's name is none

  abbrev pub of_form : ExprForm-F Bool Bool Bool → Bool
  of_form ExprForm-F.This = false
  of_form (ExprForm-F.Name text) = bytes_eq text name
  of_form (ExprForm-F.Literal value) = false
  of_form (ExprForm-F.ArrayLit items) = list_any or_false items
  of_form (ExprForm-F.ObjectLit fields) = any fields
  of_form (ExprForm-F.Func f) = false
  of_form (ExprForm-F.Member object key) = object
  of_form (ExprForm-F.Index object key) = object || key
  of_form (ExprForm-F.Call callee args) = callee || any args
  of_form (ExprForm-F.New callee args) = callee || any args
  of_form (ExprForm-F.Unary op a) = a
  of_form (ExprForm-F.Binary op a b) = a || b
  of_form (ExprForm-F.Logic op a b) = a || b
  of_form (ExprForm-F.Conditional test a b) = test || a || b
  of_form (ExprForm-F.Assign a op b) = a || b
  of_form (ExprForm-F.Step op a) = a
  of_form (ExprForm-F.Comma a b) = a || b
  of_form (ExprForm-F.Input kind text) = false
  of_form (ExprForm-F.HostCall kind text args) = any args

  abbrev pub of_field : Field-F Bool Bool Bool → Bool
  of_field (Field-F.Value at key e) = e
  of_field _ = false

  abbrev pub in_form : ExprForm → Bool
  in_form = fold-ExprForm Bool Bool Bool of_form of_field (λ e. e.form)

  abbrev pub in_field : Field → Bool
  in_field = fold-Field Bool Bool Bool of_form of_field (λ e. e.form)

  abbrev pub mentions : Expr → Bool
  mentions = fold-Expr Bool Bool Bool of_form of_field (λ e. e.form)

  abbrev pub maybe_mentions : Option Expr → Bool
  maybe_mentions None = false
  maybe_mentions (Some e) = mentions e

  -- ---- it is used or declared in a statement, as is asked

  module _ (asked : Sought) where
    abbrev pub uses : Expr → Bool
    uses e = asked.used && mentions e

    abbrev pub maybe_uses : Option Expr → Bool
    maybe_uses e = asked.used && maybe_mentions e

    abbrev pub declares : List ℕ → Bool
    declares text = asked.declared && bytes_eq text name

    abbrev pub in_declarator : Declarator → Bool
    in_declarator d = declares d.name || maybe_uses d.init

    abbrev pub in_declarators : List Declarator → Bool
    in_declarators ds = list_any in_declarator ds

    abbrev pub in_start : ForStart → Bool
    in_start start.Nothing = false
    in_start (start.Expr e) = uses e
    in_start (start.Var ds) = in_declarators ds

    abbrev pub in_target : ForTarget → Bool
    in_target (target.Expr e) = uses e
    in_target (target.Var at text) = declares text

    abbrev pub of_stmt_form : StmtForm-F Bool Bool Bool Bool Bool → Bool
    of_stmt_form (StmtForm-F.Var ds) = in_declarators ds
    of_stmt_form (StmtForm-F.FuncDecl f) = false
    of_stmt_form (StmtForm-F.Eval e) = uses e
    of_stmt_form (StmtForm-F.Block body) = any body
    of_stmt_form StmtForm-F.Empty = false
    of_stmt_form (StmtForm-F.If test a b) = uses test || a || or_false b
    of_stmt_form (StmtForm-F.DoWhile body test) = body || uses test
    of_stmt_form (StmtForm-F.While test body) = uses test || body
    of_stmt_form (StmtForm-F.For from test step body) = in_start from || maybe_uses test || maybe_uses step || body
    of_stmt_form (StmtForm-F.ForIn to e body) = in_target to || uses e || body
    of_stmt_form StmtForm-F.Continue = false
    of_stmt_form StmtForm-F.Break = false
    of_stmt_form (StmtForm-F.Return e) = maybe_uses e
    of_stmt_form (StmtForm-F.Switch e cases) = uses e || any cases
    of_stmt_form (StmtForm-F.Throw e) = uses e
    of_stmt_form (StmtForm-F.Try body handler final) = any body || or_false handler || or_false final

    abbrev pub of_case : Case-F Bool Bool Bool Bool Bool → Bool
    of_case c = maybe_uses c.test || any c.body

    abbrev pub of_catch : Catch-F Bool Bool Bool Bool Bool → Bool
    of_catch c = declares c.name || any c.body

    abbrev pub of_finally : Finally-F Bool Bool Bool Bool Bool → Bool
    of_finally f = any f.body

    abbrev pub in_stmt_form : StmtForm → Bool
    in_stmt_form = fold-StmtForm Bool Bool Bool Bool Bool of_stmt_form of_case of_catch of_finally (λ s. s.form)

    abbrev pub in_stmt : Stmt → Bool
    in_stmt = fold-Stmt Bool Bool Bool Bool Bool of_stmt_form of_case of_catch of_finally (λ s. s.form)

    abbrev pub in_stmts : List Stmt → Bool
    in_stmts ss = any (map in_stmt ss)

    abbrev pub in_case : Case → Bool
    in_case = fold-Case Bool Bool Bool Bool Bool of_stmt_form of_case of_catch of_finally (λ s. s.form)

    abbrev pub in_cases : List Case → Bool
    in_cases cs = any (map in_case cs)

    abbrev pub in_catch : Catch → Bool
    in_catch = fold-Catch Bool Bool Bool Bool Bool of_stmt_form of_case of_catch of_finally (λ s. s.form)

    abbrev pub in_finally : Finally → Bool
    in_finally = fold-Finally Bool Bool Bool Bool Bool of_stmt_form of_case of_catch of_finally (λ s. s.form)

    abbrev pub is_own : Option Name → Bool
    is_own None = false
    is_own (Some own) = declares own.text

    abbrev pub are_parameters : List Name → Bool
    are_parameters ps = list_any (λ (p : Name). declares p.text) ps

    -- a function declares its name, its parameters and what its body declares
    abbrev pub in_func : Func → Bool
    in_func f = is_own f.name || are_parameters f.params || in_stmts f.body

    abbrev pub in_funcs : List Func → Bool
    in_funcs fs = list_any in_func fs

abbrev pub used : Sought
used = record { used = true; declared = false }

abbrev pub declared : Sought
declared = record { used = false; declared = true }

abbrev pub either : Sought
either = record { used = true; declared = true }

-- functions of a script use it, and none of them declares it
abbrev pub is_captured : List Func → List ℕ → Bool
is_captured fs name = in_funcs name used fs && not (in_funcs name declared fs)

-- an identifier of a script: a name that is read, assigned or declared in it
unfoldable pub is_identifier : Script → List ℕ → Bool
is_identifier s name = in_stmts name either s.body || in_funcs name either s.funcs
