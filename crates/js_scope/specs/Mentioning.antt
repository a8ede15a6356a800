-- What gathered mentions stand for, and what parts of trees mention by what is known of the functions.
use Rattle.std.specs.Prelude.{ℕ, List, [], ◌∷◌, ◌++◌, map, Option, Some, None}
use Rattle.std.specs.List.{flat_map}
use denote.Ref.{Bor}
use Rattle.js_value.specs.declared.place.FuncNo.{FuncNo}
use Rattle.js_value.specs.declared.place.Place.{Place}
use Rattle.js_tree.specs.declared.expression.Expr.{Expr}
use Rattle.js_tree.specs.declared.expression.ExprForm.{ExprForm, fold-ExprForm}
use Rattle.js_tree.specs.declared.expression.Field.{Field, fold-Field}
use Rattle.js_tree.specs.declared.statement.Case.{Case, fold-Case}
use Rattle.js_tree.specs.declared.statement.Catch.{Catch, fold-Catch}
use Rattle.js_tree.specs.declared.statement.Declarator.{Declarator}
use Rattle.js_tree.specs.declared.statement.Finally.{Finally, fold-Finally}
use Rattle.js_tree.specs.declared.statement.ForStart.{ForStart}
use Rattle.js_tree.specs.declared.statement.ForTarget.{ForTarget}
use Rattle.js_tree.specs.declared.statement.Stmt.{Stmt}
use Rattle.js_tree.specs.declared.statement.StmtForm.{StmtForm, fold-StmtForm}
use Rattle.js_tree.specs.Mentions as M
use Rattle.js_tree.specs.Mentions.{Mentioned, FieldMentions, Inside, Names, joined, all_of}
use Rattle.js_scope.specs.declared.mention.Mention.{Mention}
use Rattle.js_scope.specs.declared.mention.Mention.TheVariants as m
use Rattle.js_scope.specs.declared.mention.Inside as I
use Rattle.js_scope.specs.declared.walk.Walk.{Walk}

abbrev pub mention_of : Mention → M.Mention
mention_of (m.Reads at name) = M.Reads at name.now
mention_of (m.Assigns at name) = M.Assigns at name.now
mention_of (m.AssignsOwn at) = M.AssignsOwn at
mention_of (m.Takes at kind text) = M.Takes at kind text.now
mention_of (m.Repeats at) = M.Repeats at

abbrev pub told : List Mention → List M.Mention
told ms = map mention_of ms

abbrev pub told_maybe : Option Mention → List M.Mention
told_maybe None = []
told_maybe (Some m) = mention_of m ∷ []

abbrev pub own_of : Option (Bor (List ℕ)) → Names
own_of None = []
own_of (Some name) = name.now ∷ []

abbrev pub inside_of : I.Inside → Inside
inside_of i = (own_of i.name, told i.mentions.items)

-- ---- by what is known of the functions with a number and greater ones

abbrev pub known : Walk → List Inside
known w = map inside_of w.insides.now.items

unfoldable pub as_expression : ℕ → List Inside → FuncNo → List M.Mention
as_expression first inner g = M.as_expression (M.nth first inner g)

unfoldable pub as_declaration : ℕ → List Inside → FuncNo → List M.Mention
as_declaration first inner g = (M.nth first inner g).1

module _ (w : Walk) where
  abbrev pub expression : FuncNo → List M.Mention
  expression = as_expression w.first (known w)

  abbrev pub declaration : FuncNo → List M.Mention
  declaration = as_declaration w.first (known w)

  abbrev pub in_form : ExprForm → Place → Mentioned
  in_form = fold-ExprForm (Place → Mentioned) FieldMentions Mentioned (M.form_mentions expression declaration) (M.field_mentions expression declaration) (λ e. e.form e.at)

  abbrev pub in_field : Field → FieldMentions
  in_field = fold-Field (Place → Mentioned) FieldMentions Mentioned (M.form_mentions expression declaration) (M.field_mentions expression declaration) (λ e. e.form e.at)

  abbrev pub in_expr : Expr → Mentioned
  in_expr = M.expr_mentions expression declaration

  abbrev pub in_maybe : Option Expr → List M.Mention
  in_maybe = M.maybe_mentions expression declaration

  abbrev pub in_exprs : List Expr → List M.Mention
  in_exprs all = all_of (map in_expr all)

  abbrev pub in_fields : List Field → List M.Mention
  in_fields all = flat_map (λ (f : FieldMentions). f.1) (map in_field all)

  abbrev pub in_stmt_form : StmtForm → List M.Mention
  in_stmt_form = fold-StmtForm (List M.Mention) (List M.Mention) (List M.Mention) (List M.Mention) (List M.Mention) (M.stmt_form_mentions expression declaration)
      (λ c. in_maybe c.test ++ joined c.body) (λ c. M.unbound (c.name ∷ []) (joined c.body)) (λ f. joined f.body) (λ s. s.form)

  abbrev pub in_case : Case → List M.Mention
  in_case = fold-Case (List M.Mention) (List M.Mention) (List M.Mention) (List M.Mention) (List M.Mention) (M.stmt_form_mentions expression declaration)
      (λ c. in_maybe c.test ++ joined c.body) (λ c. M.unbound (c.name ∷ []) (joined c.body)) (λ f. joined f.body) (λ s. s.form)

  abbrev pub in_catch : Catch → List M.Mention
  in_catch = fold-Catch (List M.Mention) (List M.Mention) (List M.Mention) (List M.Mention) (List M.Mention) (M.stmt_form_mentions expression declaration)
      (λ c. in_maybe c.test ++ joined c.body) (λ c. M.unbound (c.name ∷ []) (joined c.body)) (λ f. joined f.body) (λ s. s.form)

  abbrev pub in_finally : Finally → List M.Mention
  in_finally = fold-Finally (List M.Mention) (List M.Mention) (List M.Mention) (List M.Mention) (List M.Mention) (M.stmt_form_mentions expression declaration)
      (λ c. in_maybe c.test ++ joined c.body) (λ c. M.unbound (c.name ∷ []) (joined c.body)) (λ f. joined f.body) (λ s. s.form)

  abbrev pub in_handler : Option Catch → List M.Mention
  in_handler None = []
  in_handler (Some handler) = in_catch handler

  abbrev pub in_last : Option Finally → List M.Mention
  in_last None = []
  in_last (Some last) = in_finally last

  abbrev pub in_stmt : Stmt → List M.Mention
  in_stmt = M.stmt_mentions expression declaration

  abbrev pub in_stmts : List Stmt → List M.Mention
  in_stmts all = joined (map in_stmt all)

  abbrev pub in_cases : List Case → List M.Mention
  in_cases all = joined (map in_case all)

  abbrev pub in_declarators : List Declarator → List M.Mention
  in_declarators = M.declarator_mentions expression declaration

  abbrev pub in_start : ForStart → List M.Mention
  in_start = M.start_mentions expression declaration

  abbrev pub in_for_target : ForTarget → List M.Mention
  in_for_target = M.target_mentions expression declaration

  abbrev pub in_header : ForStart → Option Expr → Option Expr → List M.Mention
  in_header from test step = in_start from ++ in_maybe test ++ in_maybe step
