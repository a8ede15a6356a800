-- What reading can give of the forms that have lists of parts.
use Rattle.std.proofs.Common.{◌≡◌, ◌<◌, length, arith, ℕ, ◌+◌, List, [], ◌∷◌, refl, ap, sym, ◌∙◌, Bool, true, false, cond, map}
use Rattle.std.specs.Prelude.{◌&&◌, ◌||◌, is_some, nat_le, sum_by, count_by, is_none, Option, Some, None}
use Rattle.std.specs.List.{list_all}
use Rattle.std.proofs.lemmas.List.Sums.{sum_by-cons}
use Rattle.js_value.specs.declared.primitive.Kind.{Kind}
use Rattle.js_tree.specs.declared.expression.Expr.{Expr}
use Rattle.js_tree.specs.declared.expression.Field.{Field}
use Rattle.js_tree.specs.declared.expression.ExprForm.{ExprForm, out-ExprForm}
use Rattle.js_tree.specs.declared.expression.ExprForm.TheOpen.{ExprForm-F}
use Rattle.js_tree.specs.declared.expression.ExprForm.TheFolds.{map-ExprForm}
use Rattle.js_tree.specs.declared.expression.ExprForm.TheVariants.{Call, outs-Call, New, outs-New, HostCall, outs-HostCall, ArrayLit, outs-ArrayLit, ObjectLit, outs-ObjectLit}
use Rattle.js_tree.specs.declared.statement.Case.{Case, out-Case}
use Rattle.js_tree.specs.declared.statement.Catch.{Catch, out-Catch}
use Rattle.js_tree.specs.declared.statement.Declarator.{Declarator}
use Rattle.js_tree.specs.declared.statement.Finally.{Finally, out-Finally}
use Rattle.js_tree.specs.declared.statement.Func.{Func}
use Rattle.js_tree.specs.declared.statement.Stmt.{Stmt}
use Rattle.js_tree.specs.declared.statement.StmtForm.{StmtForm, out-StmtForm}
use Rattle.js_tree.specs.declared.statement.StmtForm.TheOpen.{StmtForm-F}
use Rattle.js_tree.specs.declared.statement.StmtForm.TheFolds.{map-StmtForm, fold_out-StmtForm, fold_out-Case, fold_out-Catch, fold_out-Finally}
use Rattle.js_tree.specs.declared.statement.StmtForm.TheVariants.{Block, outs-Block, Switch, outs-Switch, Try, outs-Try}
use Rattle.js_tree.proofs.Folds.{fold-layer}
use Rattle.js_grammar.specs.ReadableWords.{is_readable_text, is_identifier}
use Rattle.js_grammar.specs.ReadableExpressions.{ReadExpr, of_form, of_field, in_form, in_field, in_expr, is_expr, is_maybe, is_element}
use Rattle.readable_trees.specs.Ends.{in_handler, in_last}
use Rattle.js_grammar.specs.Readable.{ReadStmt, ReadCase, is_part, is_declarator, are_declarators, of_stmt_form, of_case, of_catch, of_finally, in_stmt_form, in_case, in_catch, in_finally, in_stmt}

list_all-along : {A B : Type 0} (p : B → Bool) (v : A → B) (q : A → Bool) → ((x : A) → p (v x) ≡ q x) → (xs : List A) → list_all p (map v xs) ≡ list_all q xs
list_all-along p v q s [] = refl
list_all-along p v q s (x ∷ xs) = ap (λ b. b && list_all p (map v xs)) (s x) ∙ ap (λ b. q x && b) (list_all-along p v q s xs)

module _ (fs : List Func) where
  -- ---- expressions

  form_is : (form : ExprForm) (layer : ExprForm-F ExprForm Field Expr) → out-ExprForm form ≡ layer
      → (in_form fs form).readable ≡ (of_form fs (map-ExprForm ExprForm Field Expr ReadExpr Bool ReadExpr (in_form fs) (in_field fs) (in_expr fs) layer)).readable
  form_is form layer e = ap (λ (x : ReadExpr). x.readable) (fold-layer ReadExpr Bool ReadExpr (of_form fs) (of_field fs) (λ e. e.form) form layer e)

  values : (xs : List Expr) → list_all (λ (x : ReadExpr). x.readable) (map (in_expr fs) xs) ≡ list_all (is_expr fs) xs
  values xs = list_all-along (λ (x : ReadExpr). x.readable) (in_expr fs) (is_expr fs) (λ x. refl) xs

  pub readable-Call : (callee : Expr) (args : List Expr) → (in_form fs (Call callee args)).readable ≡ (is_expr fs callee && list_all (is_expr fs) args)
  readable-Call callee args = form_is _ _ (outs-Call callee args) ∙ ap (λ b. is_expr fs callee && b) (values args)

  pub readable-New : (callee : Expr) (args : List Expr) → (in_form fs (New callee args)).readable ≡ (is_expr fs callee && list_all (is_expr fs) args)
  readable-New callee args = form_is _ _ (outs-New callee args) ∙ ap (λ b. is_expr fs callee && b) (values args)

  pub readable-HostCall : (kind : Kind) (text : List ℕ) (args : List Expr) → (in_form fs (HostCall kind text args)).readable ≡ (is_readable_text text && list_all (is_expr fs) args)
  readable-HostCall kind text args = form_is _ _ (outs-HostCall kind text args) ∙ ap (λ b. is_readable_text text && b) (values args)

  maybe_is : (g : Option Expr → Option ReadExpr) → is_element (g None) ≡ true → ((e : Expr) → is_element (g (Some e)) ≡ is_expr fs e) → (o : Option Expr) → is_element (g o) ≡ is_maybe fs o
  maybe_is g n s None = n
  maybe_is g n s (Some e) = s e

  elements : (g : Option Expr → Option ReadExpr) → is_element (g None) ≡ true → ((e : Expr) → is_element (g (Some e)) ≡ is_expr fs e) → (items : List (Option Expr))
      → list_all is_element (map g items) ≡ list_all (is_maybe fs) items
  elements g n s items = list_all-along is_element g (is_maybe fs) (maybe_is g n s) items

  pub readable-ArrayLit : (items : List (Option Expr)) → (in_form fs (ArrayLit items)).readable ≡ list_all (is_maybe fs) items
  readable-ArrayLit items = form_is _ _ (outs-ArrayLit items) ∙ elements _ refl (λ e. refl) items

  pub readable-ObjectLit : (fields : List Field) → (in_form fs (ObjectLit fields)).readable ≡ list_all (in_field fs) fields
  readable-ObjectLit fields = form_is _ _ (outs-ObjectLit fields) ∙ list_all-along (λ b. b) (in_field fs) (in_field fs) (λ f. refl) fields

  -- ---- statements

  pub declarators-some : (ds : List Declarator) → 0 < length ds → are_declarators fs ds ≡ list_all (is_declarator fs) ds
  declarators-some [] h = absurd (omega (arith, h))
  declarators-some (d ∷ ds) h = refl

  abbrev pub part : Stmt → Bool
  part s = is_part (in_stmt fs s)

  abbrev pub parts : List Stmt → Bool
  parts body = list_all part body

  parts_are : (body : List Stmt) → list_all is_part (map (in_stmt fs) body) ≡ parts body
  parts_are body = list_all-along is_part (in_stmt fs) part (λ s. refl) body

  stmt_is : (form : StmtForm) (layer : StmtForm-F StmtForm Case Catch Finally Stmt) → out-StmtForm form ≡ layer
      → (in_stmt_form fs form).readable ≡ (of_stmt_form fs (map-StmtForm StmtForm Case Catch Finally Stmt ReadStmt ReadCase Bool Bool ReadStmt (in_stmt_form fs) (in_case fs) (in_catch fs) (in_finally fs) (in_stmt fs) layer)).readable
  stmt_is form layer e =
      ap (λ (t : ReadStmt). t.readable) (fold_out-StmtForm ReadStmt ReadCase Bool Bool ReadStmt (of_stmt_form fs) (of_case fs) (of_catch fs) (of_finally fs) (λ t. t.form) form)
      ∙ ap (λ l. (of_stmt_form fs (map-StmtForm StmtForm Case Catch Finally Stmt ReadStmt ReadCase Bool Bool ReadStmt (in_stmt_form fs) (in_case fs) (in_catch fs) (in_finally fs) (in_stmt fs) l)).readable) e

  pub readable-Block : (body : List Stmt) → (in_stmt_form fs (Block body)).readable ≡ parts body
  readable-Block body = stmt_is _ _ (outs-Block body) ∙ parts_are body

  abbrev pub defaults : List Case → ℕ
  defaults cases = count_by (λ c. is_none (out-Case c).test) cases

  default_is : (c : Case) → (in_case fs c).is_default ≡ is_none (out-Case c).test
  default_is c = ap (λ (r : ReadCase). r.is_default) (fold_out-Case ReadStmt ReadCase Bool Bool ReadStmt (of_stmt_form fs) (of_case fs) (of_catch fs) (of_finally fs) (λ t. t.form) c)

  defaults_are : (cases : List Case) → sum_by (λ (c : ReadCase). cond c.is_default 1 0) (map (in_case fs) cases) ≡ defaults cases
  defaults_are [] = refl
  defaults_are (c ∷ cases) =
      sum_by-cons (λ (c : ReadCase). cond c.is_default 1 0) (in_case fs c) (map (in_case fs) cases)
      ∙ ap (λ b. cond b 1 0 + sum_by (λ (c : ReadCase). cond c.is_default 1 0) (map (in_case fs) cases)) (default_is c)
      ∙ ap (λ n. cond (is_none (out-Case c).test) 1 0 + n) (defaults_are cases)
      ∙ sym (sum_by-cons (λ c. cond (is_none (out-Case c).test) 1 0) c cases)

  abbrev pub clauses : List Case → Bool
  clauses cases = list_all (λ c. (in_case fs c).readable) cases

  pub readable-Switch : (x : Expr) (cases : List Case) → (in_stmt_form fs (Switch x cases)).readable ≡ (is_expr fs x && (clauses cases && nat_le (defaults cases) 1))
  readable-Switch x cases =
      stmt_is _ _ (outs-Switch x cases)
      ∙ ap (λ b. is_expr fs x && (b && nat_le (sum_by (λ (c : ReadCase). cond c.is_default 1 0) (map (in_case fs) cases)) 1)) (list_all-along (λ (c : ReadCase). c.readable) (in_case fs) (λ c. (in_case fs c).readable) (λ c. refl) cases)
      ∙ ap (λ n. is_expr fs x && (clauses cases && nat_le n 1)) (defaults_are cases)

  pub readable-Try : (body : List Stmt) (handler : Option Catch) (last : Option Finally)
      → (in_stmt_form fs (Try body handler last)).readable ≡ (parts body && in_handler fs handler && in_last fs last && (is_some handler || is_some last))
  readable-Try body None None = stmt_is _ _ (outs-Try body None None) ∙ ap (λ b. b && true && true && false) (parts_are body)
  readable-Try body (Some c) None = stmt_is _ _ (outs-Try body (Some c) None) ∙ ap (λ b. b && in_catch fs c && true && true) (parts_are body)
  readable-Try body None (Some f) = stmt_is _ _ (outs-Try body None (Some f)) ∙ ap (λ b. b && true && in_finally fs f && true) (parts_are body)
  readable-Try body (Some c) (Some f) = stmt_is _ _ (outs-Try body (Some c) (Some f)) ∙ ap (λ b. b && in_catch fs c && in_finally fs f && true) (parts_are body)

  pub readable-Case : (c : Case) → (in_case fs c).readable ≡ (is_maybe fs (out-Case c).test && parts (out-Case c).body)
  readable-Case c =
      ap (λ (r : ReadCase). r.readable) (fold_out-Case ReadStmt ReadCase Bool Bool ReadStmt (of_stmt_form fs) (of_case fs) (of_catch fs) (of_finally fs) (λ t. t.form) c)
      ∙ ap (λ b. is_maybe fs (out-Case c).test && b) (parts_are (out-Case c).body)

  pub readable-Catch : (c : Catch) → in_catch fs c ≡ (is_identifier (out-Catch c).name && parts (out-Catch c).body)
  readable-Catch c =
      fold_out-Catch ReadStmt ReadCase Bool Bool ReadStmt (of_stmt_form fs) (of_case fs) (of_catch fs) (of_finally fs) (λ t. t.form) c
      ∙ ap (λ b. is_identifier (out-Catch c).name && b) (parts_are (out-Catch c).body)

  pub readable-Finally : (f : Finally) → in_finally fs f ≡ parts (out-Finally f).body
  readable-Finally f =
      fold_out-Finally ReadStmt ReadCase Bool Bool ReadStmt (of_stmt_form fs) (of_case fs) (of_catch fs) (of_finally fs) (λ t. t.form) f
      ∙ parts_are (out-Finally f).body

pub ruleset declarators = (declarators-some)
