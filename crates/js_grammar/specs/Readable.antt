-- Trees that reading can give.
use Rattle.std.specs.Prelude.{◌&&◌, ◌||◌, ℕ, Bool, true, false, not, if◌then◌else◌, nat_le, List, [], ◌∷◌, slice_get, sum_by, Option, Some, None, is_none, is_some}
use Rattle.std.specs.List.{list_all}
use Rattle.std.specs.Str.{bytes_eq}
use Rattle.js_value.specs.declared.primitive.Kind.{Kind}
use Rattle.js_value.specs.contracts.primitive.KindPartialEq.TheImpl.{ghosts}
use Rattle.js_tree.specs.declared.statement.Declarator.{Declarator}
use Rattle.js_tree.specs.declared.statement.ForStart.{ForStart}
use Rattle.js_tree.specs.declared.statement.ForStart.TheVariants as start
use Rattle.js_tree.specs.declared.statement.ForTarget.{ForTarget}
use Rattle.js_tree.specs.declared.statement.ForTarget.TheVariants as target
use Rattle.js_tree.specs.declared.statement.Case.{Case, fold-Case}
use Rattle.js_tree.specs.declared.statement.Catch.{Catch, fold-Catch}
use Rattle.js_tree.specs.declared.statement.Finally.{Finally, fold-Finally}
use Rattle.js_tree.specs.declared.statement.Func.{Func}
use Rattle.js_tree.specs.declared.statement.Name.{Name}
use Rattle.js_tree.specs.declared.statement.Script.{Script}
use Rattle.js_tree.specs.declared.statement.Stmt.{Stmt, fold-Stmt}
use Rattle.js_tree.specs.declared.statement.StmtForm.{StmtForm, fold-StmtForm}
use Rattle.js_tree.specs.declared.statement.StmtForm.TheOpen.{StmtForm-F, Case-F, Catch-F, Finally-F}
use Rattle.js_tree.specs.Early.{early_fault}
use Rattle.js_tree.specs.Mentions.{Mention, Takes, mentions}
use Rattle.js_grammar.specs.FunctionOrder.{are_in_source_order}
use Rattle.js_grammar.specs.ReadableWords.{is_identifier}
use Rattle.js_grammar.specs.ReadableExpressions.{in_expr, is_expr, is_maybe}

-- ---- statements (12)

-- whether reading can give a statement, whether it ends in an `if` without `else`, and whether it is a function declaration
pub record ReadStmt : Type 0 where
  pub readable : Bool
  pub ends_in_if : Bool
  pub is_declaration : Bool

abbrev pub closed : Bool → ReadStmt
closed readable = record { readable = readable; ends_in_if = false; is_declaration = false }

-- ends as its last part does
abbrev pub ending : Bool → ReadStmt → ReadStmt
ending readable last = record { readable = readable; ends_in_if = last.ends_in_if; is_declaration = false }

-- 13: a function declaration is no part of a statement
abbrev pub is_part : ReadStmt → Bool
is_part t = t.readable && not t.is_declaration

abbrev pub are_parts : List ReadStmt → Bool
are_parts ts = list_all is_part ts

-- whether reading can give a clause of a `switch`, and whether it is the default
pub record ReadCase : Type 0 where
  pub readable : Bool
  pub is_default : Bool

-- 12.11: at most one default
abbrev pub are_clauses : List ReadCase → Bool
are_clauses cs = list_all (λ (c : ReadCase). c.readable) cs && nat_le (sum_by (λ (c : ReadCase). if c.is_default then 1 else 0) cs) 1

abbrev pub or_absent : Option Bool → Bool
or_absent None = true
or_absent (Some b) = b

-- 13: a function declaration has a name
abbrev pub has_name : Option Func → Bool
has_name None = false
has_name (Some f) = is_some f.name

module _ (functions : List Func) where
  abbrev pub is_declarator : Declarator → Bool
  is_declarator d = is_identifier d.name && is_maybe functions d.init

  -- 12.2: one declarator or more
  abbrev pub are_declarators : List Declarator → Bool
  are_declarators [] = false
  are_declarators (d ∷ ds) = list_all is_declarator (d ∷ ds)

  abbrev pub is_start : ForStart → Bool
  is_start start.Nothing = true
  is_start (start.Expr x) = is_expr functions x
  is_start (start.Var ds) = are_declarators ds

  abbrev pub is_for_target : ForTarget → Bool
  is_for_target (target.Expr x) = is_expr functions x && (in_expr functions x).is_target
  is_for_target (target.Var at name) = is_identifier name

  -- the first part of an `if` with `else` doesn't end in one without (12.5); a `try` has a handler or a last part (12.14)
  abbrev pub of_stmt_form : StmtForm-F ReadStmt ReadCase Bool Bool ReadStmt → ReadStmt
  of_stmt_form (StmtForm-F.Var ds) = closed (are_declarators ds)
  of_stmt_form (StmtForm-F.FuncDecl f) = record { readable = has_name (slice_get functions f.0); ends_in_if = false; is_declaration = true }
  of_stmt_form (StmtForm-F.Eval x) = closed (is_expr functions x)
  of_stmt_form (StmtForm-F.Block body) = closed (are_parts body)
  of_stmt_form StmtForm-F.Empty = closed true
  of_stmt_form (StmtForm-F.If test a None) = record { readable = is_expr functions test && is_part a; ends_in_if = true; is_declaration = false }
  of_stmt_form (StmtForm-F.If test a (Some b)) = ending (is_expr functions test && is_part a && not a.ends_in_if && is_part b) b
  of_stmt_form (StmtForm-F.DoWhile body test) = closed (is_part body && is_expr functions test)
  of_stmt_form (StmtForm-F.While test body) = ending (is_expr functions test && is_part body) body
  of_stmt_form (StmtForm-F.For from test step body) =
      ending (is_start from && is_maybe functions test && is_maybe functions step && is_part body) body
  of_stmt_form (StmtForm-F.ForIn to object body) = ending (is_for_target to && is_expr functions object && is_part body) body
  of_stmt_form StmtForm-F.Continue = closed true
  of_stmt_form StmtForm-F.Break = closed true
  of_stmt_form (StmtForm-F.Return x) = closed (is_maybe functions x)
  of_stmt_form (StmtForm-F.Switch x cases) = closed (is_expr functions x && are_clauses cases)
  of_stmt_form (StmtForm-F.Throw x) = closed (is_expr functions x)
  of_stmt_form (StmtForm-F.Try body handler final) =
      closed (are_parts body && or_absent handler && or_absent final && (is_some handler || is_some final))

  abbrev pub of_case : Case-F ReadStmt ReadCase Bool Bool ReadStmt → ReadCase
  of_case c = record { readable = is_maybe functions c.test && are_parts c.body; is_default = is_none c.test }

  abbrev pub of_catch : Catch-F ReadStmt ReadCase Bool Bool ReadStmt → Bool
  of_catch c = is_identifier c.name && are_parts c.body

  abbrev pub of_finally : Finally-F ReadStmt ReadCase Bool Bool ReadStmt → Bool
  of_finally f = are_parts f.body

  abbrev pub in_stmt_form : StmtForm → ReadStmt
  in_stmt_form = fold-StmtForm ReadStmt ReadCase Bool Bool ReadStmt of_stmt_form of_case of_catch of_finally (λ t. t.form)

  abbrev pub in_case : Case → ReadCase
  in_case = fold-Case ReadStmt ReadCase Bool Bool ReadStmt of_stmt_form of_case of_catch of_finally (λ t. t.form)

  abbrev pub in_catch : Catch → Bool
  in_catch = fold-Catch ReadStmt ReadCase Bool Bool ReadStmt of_stmt_form of_case of_catch of_finally (λ t. t.form)

  abbrev pub in_finally : Finally → Bool
  in_finally = fold-Finally ReadStmt ReadCase Bool Bool ReadStmt of_stmt_form of_case of_catch of_finally (λ t. t.form)

  abbrev pub in_stmt : Stmt → ReadStmt
  in_stmt = fold-Stmt ReadStmt ReadCase Bool Bool ReadStmt of_stmt_form of_case of_catch of_finally (λ t. t.form)

  -- 13, 14: the elements of a script or of a function, declarations among them
  abbrev pub are_elements : List Stmt → Bool
  are_elements body = list_all (λ t. (in_stmt t).readable) body

  abbrev pub is_name_or_none : Option Name → Bool
  is_name_or_none None = true
  is_name_or_none (Some n) = is_identifier n.text

  abbrev pub is_function : Func → Bool
  is_function f = not f.directive && is_name_or_none f.name && list_all (λ (p : Name). is_identifier p.text) f.params && are_elements f.body

-- ---- scripts (14)

-- the parts of a script are such as reading gives, each by itself
unfoldable pub are_parts_readable : Script → Bool
are_parts_readable s = not s.directive && are_elements s.funcs s.body && list_all (is_function s.funcs) s.funcs

-- one input has one type, wherever it stands
abbrev pub agrees : Kind → List ℕ → Mention → Bool
agrees k name (Takes at other text) = not (bytes_eq name text) || ghosts.eq k other
agrees k name _ = true

abbrev pub agrees_with : List Mention → Mention → Bool
agrees_with all (Takes at k name) = list_all (agrees k name) all
agrees_with all _ = true

unfoldable pub are_inputs_alike : Script → Bool
are_inputs_alike s = list_all (agrees_with (mentions s)) (mentions s)

-- the tree is one that reading can give; nothing is asked of its places
unfoldable pub is_readable : Script → Bool
is_readable s = are_parts_readable s && are_in_source_order s && are_inputs_alike s && is_none (early_fault s)
