-- Copied statements name the functions that the statements name, by their new numbers.
use Rattle.std.proofs.Common.{◌≡◌, ℕ, ◌++◌, List, map, refl, ap, sym, ◌∙◌, subst}
use Rattle.std.specs.Prelude.{Some, None}
use Rattle.std.specs.Option.{option_map}
use Rattle.js_tree.specs.Mentions.{joined}
use Rattle.js_tree.specs.Refusals.{place}
use Rattle.js_tree.specs.declared.statement.Case.{Case, roll-Case}
use Rattle.js_tree.specs.declared.statement.Catch.{Catch, roll-Catch}
use Rattle.js_tree.specs.declared.statement.Declarator.{Declarator}
use Rattle.js_tree.specs.declared.statement.Finally.{Finally, roll-Finally}
use Rattle.js_tree.specs.declared.statement.ForStart.{ForStart}
use Rattle.js_tree.specs.declared.statement.ForStart.TheVariants as start
use Rattle.js_tree.specs.declared.statement.ForTarget.{ForTarget}
use Rattle.js_tree.specs.declared.statement.ForTarget.TheVariants as target
use Rattle.js_tree.specs.declared.statement.Stmt.{Stmt, roll-Stmt}
use Rattle.js_tree.specs.declared.statement.StmtForm.{StmtForm, roll-StmtForm}
use Rattle.js_tree.specs.declared.statement.StmtForm.TheFolds.{map-StmtForm, fold-roll-StmtForm, fold-roll-Case, fold-roll-Catch, fold-roll-Finally, fold_out-Stmt, ind-Stmt}
use Rattle.js_tree.specs.declared.statement.StmtForm.TheOpen.{StmtForm-F, Case-F, Catch-F, Finally-F, Stmt-F}
use Rattle.js_grammar.specs.FunctionOrder as order
use Rattle.js_grammar.specs.FunctionOrder.{Numbers}
use Rattle.lone_functions.specs.Anew as anew
use Rattle.lone_functions.specs.Named.{of_stmt_form, of_case, of_catch, of_finally}
use Rattle.lone_functions.proofs.Renumbered.{less, append-less, parts-less, each-less, expr_numbers, maybe_numbers}

abbrev pub Layer : Type 0
Layer = StmtForm-F StmtForm Case Catch Finally Stmt

module _ (first : ℕ) where
  abbrev FormNumbers : StmtForm → Type 0
  FormNumbers form = of_stmt_form (anew.stmt_form first form) ≡ less first (of_stmt_form form)

  abbrev CaseNumbers : Case → Type 0
  CaseNumbers c = of_case (anew.case first c) ≡ less first (of_case c)

  abbrev CatchNumbers : Catch → Type 0
  CatchNumbers c = of_catch (anew.catch first c) ≡ less first (of_catch c)

  abbrev FinallyNumbers : Finally → Type 0
  FinallyNumbers f = of_finally (anew.final first f) ≡ less first (of_finally f)

  abbrev pub StmtNumbers : Stmt → Type 0
  StmtNumbers t = order.in_stmt (anew.stmt first t) ≡ less first (order.in_stmt t)

  abbrev numbers_layer : Layer → StmtForm-F Numbers Numbers Numbers Numbers Numbers
  numbers_layer = map-StmtForm StmtForm Case Catch Finally Stmt Numbers Numbers Numbers Numbers Numbers of_stmt_form of_case of_catch of_finally order.in_stmt

  abbrev copied_layer : Layer → Layer
  copied_layer = map-StmtForm StmtForm Case Catch Finally Stmt StmtForm Case Catch Finally Stmt (anew.stmt_form first) (anew.case first) (anew.catch first) (anew.final first) (anew.stmt first)

  rolled : (l : Layer) → of_stmt_form (roll-StmtForm l) ≡ order.in_stmt_form (numbers_layer l)
  rolled l = fold-roll-StmtForm Numbers Numbers Numbers Numbers Numbers order.in_stmt_form (λ c. order.in_maybe c.test ++ joined c.body) (λ c. joined c.body) (λ f. joined f.body) (λ t. t.form) l

  from_layer : (l : Layer) → of_stmt_form (anew.of_stmt_form first (copied_layer l)) ≡ less first (order.in_stmt_form (numbers_layer l)) → FormNumbers (roll-StmtForm l)
  from_layer l h =
      ap of_stmt_form (fold-roll-StmtForm StmtForm Case Catch Finally Stmt (anew.of_stmt_form first) (anew.of_case first) (anew.of_catch first) (anew.of_finally first) (anew.of_stmt first) l)
      ∙ h ∙ ap (less first) (sym (rolled l))

  from_form : (x : Stmt-F StmtForm Case Catch Finally Stmt) → FormNumbers x.form → StmtNumbers (roll-Stmt x)
  from_form x h =
      let t : Stmt = roll-Stmt x in
      ap order.in_stmt (fold_out-Stmt StmtForm Case Catch Finally Stmt (anew.of_stmt_form first) (anew.of_case first) (anew.of_catch first) (anew.of_finally first) (anew.of_stmt first) t)
      ∙ fold_out-Stmt Numbers Numbers Numbers Numbers Numbers order.in_stmt_form (λ c. order.in_maybe c.test ++ joined c.body) (λ c. joined c.body) (λ f. joined f.body) (λ t. t.form) (record { at = place 0; form = anew.stmt_form first x.form })
      ∙ h
      ∙ ap (less first) (sym (fold_out-Stmt Numbers Numbers Numbers Numbers Numbers order.in_stmt_form (λ c. order.in_maybe c.test ++ joined c.body) (λ c. joined c.body) (λ f. joined f.body) (λ t. t.form) t))

  -- ---- parts that are no statements

  declarators_numbers : (ds : List Declarator) → order.in_declarators (map (anew.declarator first) ds) ≡ less first (order.in_declarators ds)
  declarators_numbers ds = each-less first (λ (d : Declarator). order.in_maybe d.init) (anew.declarator first) (λ d. maybe_numbers first d.init) ds

  start_numbers : (from : ForStart) → order.in_start (anew.for_start first from) ≡ less first (order.in_start from)
  start_numbers start.Nothing = refl
  start_numbers (start.Expr x) = expr_numbers first x
  start_numbers (start.Var ds) = declarators_numbers ds

  target_numbers : (to : ForTarget) → order.in_target (anew.for_target first to) ≡ less first (order.in_target to)
  target_numbers (target.Expr x) = expr_numbers first x
  target_numbers (target.Var at text) = refl

  -- ---- statements (12)

  module _ {A B C D E : Type 0} (form_in : A → StmtForm) (case_in : B → Case) (catch_in : C → Catch) (final_in : D → Finally) (stmt_in : E → Stmt)
      (cases : (b : B) → CaseNumbers (case_in b)) (catches : (c : C) → CatchNumbers (catch_in c)) (finals : (d : D) → FinallyNumbers (final_in d)) (stmts : (e : E) → StmtNumbers (stmt_in e)) where
    abbrev of : StmtForm-F A B C D E → Layer
    of = map-StmtForm A B C D E StmtForm Case Catch Finally Stmt form_in case_in catch_in final_in stmt_in

    body_numbers : (es : List E) → joined (map order.in_stmt (map (anew.stmt first) (map stmt_in es))) ≡ less first (joined (map order.in_stmt (map stmt_in es)))
    body_numbers es = parts-less first (λ n. n) order.in_stmt (anew.stmt first) (λ n. n) order.in_stmt stmt_in stmts es

    layer_numbers : (y : StmtForm-F A B C D E) → of_stmt_form (anew.of_stmt_form first (copied_layer (of y))) ≡ less first (order.in_stmt_form (numbers_layer (of y)))
    layer_numbers (StmtForm-F.Var ds) = rolled _ ∙ declarators_numbers ds
    layer_numbers (StmtForm-F.FuncDecl f) = rolled _
    layer_numbers (StmtForm-F.Eval x) = rolled _ ∙ expr_numbers first x
    layer_numbers (StmtForm-F.Block es) = rolled _ ∙ body_numbers es
    layer_numbers StmtForm-F.Empty = rolled _
    layer_numbers (StmtForm-F.If x a None) = rolled _ ∙ append-less first _ _ _ _ (append-less first _ _ _ _ (expr_numbers first x) (stmts a)) refl
    layer_numbers (StmtForm-F.If x a (Some b)) = rolled _ ∙ append-less first _ _ _ _ (append-less first _ _ _ _ (expr_numbers first x) (stmts a)) (stmts b)
    layer_numbers (StmtForm-F.DoWhile a x) = rolled _ ∙ append-less first _ _ _ _ (stmts a) (expr_numbers first x)
    layer_numbers (StmtForm-F.While x a) = rolled _ ∙ append-less first _ _ _ _ (expr_numbers first x) (stmts a)
    layer_numbers (StmtForm-F.For from test step a) =
        rolled _ ∙ append-less first _ _ _ _ (append-less first _ _ _ _ (append-less first _ _ _ _ (start_numbers from) (maybe_numbers first test)) (maybe_numbers first step)) (stmts a)
    layer_numbers (StmtForm-F.ForIn to x a) = rolled _ ∙ append-less first _ _ _ _ (append-less first _ _ _ _ (target_numbers to) (expr_numbers first x)) (stmts a)
    layer_numbers StmtForm-F.Continue = rolled _
    layer_numbers StmtForm-F.Break = rolled _
    layer_numbers (StmtForm-F.Return x) = rolled _ ∙ maybe_numbers first x
    layer_numbers (StmtForm-F.Switch x bs) =
        rolled _ ∙ append-less first _ _ _ _ (expr_numbers first x) (parts-less first (λ n. n) of_case (anew.case first) (λ n. n) of_case case_in cases bs)
    layer_numbers (StmtForm-F.Throw x) = rolled _ ∙ expr_numbers first x
    layer_numbers (StmtForm-F.Try es None None) = rolled _ ∙ append-less first _ _ _ _ (append-less first _ _ _ _ (body_numbers es) refl) refl
    layer_numbers (StmtForm-F.Try es (Some h) None) = rolled _ ∙ append-less first _ _ _ _ (append-less first _ _ _ _ (body_numbers es) (catches h)) refl
    layer_numbers (StmtForm-F.Try es None (Some f)) = rolled _ ∙ append-less first _ _ _ _ (append-less first _ _ _ _ (body_numbers es) refl) (finals f)
    layer_numbers (StmtForm-F.Try es (Some h) (Some f)) = rolled _ ∙ append-less first _ _ _ _ (append-less first _ _ _ _ (body_numbers es) (catches h)) (finals f)

    abbrev case_layer : Case-F A B C D E → Case-F StmtForm Case Catch Finally Stmt
    case_layer c = record { test = c.test; body = map stmt_in c.body }

    abbrev catch_layer : Catch-F A B C D E → Catch-F StmtForm Case Catch Finally Stmt
    catch_layer c = record { at = c.at; name = c.name; body = map stmt_in c.body }

    abbrev final_layer : Finally-F A B C D E → Finally-F StmtForm Case Catch Finally Stmt
    final_layer f = record { body = map stmt_in f.body }

    case_numbers : (y : Case-F A B C D E) → CaseNumbers (roll-Case (case_layer y))
    case_numbers y =
        ap of_case (fold-roll-Case StmtForm Case Catch Finally Stmt (anew.of_stmt_form first) (anew.of_case first) (anew.of_catch first) (anew.of_finally first) (anew.of_stmt first) (case_layer y))
        ∙ fold-roll-Case Numbers Numbers Numbers Numbers Numbers order.in_stmt_form (λ c. order.in_maybe c.test ++ joined c.body) (λ c. joined c.body) (λ f. joined f.body) (λ t. t.form)
        (record { test = option_map (anew.expr first) y.test; body = map (anew.stmt first) (map stmt_in y.body) })
        ∙ append-less first _ _ _ _ (maybe_numbers first y.test) (body_numbers y.body)
        ∙ ap (less first) (sym (fold-roll-Case Numbers Numbers Numbers Numbers Numbers order.in_stmt_form (λ c. order.in_maybe c.test ++ joined c.body) (λ c. joined c.body) (λ f. joined f.body) (λ t. t.form) (case_layer y)))

    catch_numbers : (y : Catch-F A B C D E) → CatchNumbers (roll-Catch (catch_layer y))
    catch_numbers y =
        ap of_catch (fold-roll-Catch StmtForm Case Catch Finally Stmt (anew.of_stmt_form first) (anew.of_case first) (anew.of_catch first) (anew.of_finally first) (anew.of_stmt first) (catch_layer y))
        ∙ fold-roll-Catch Numbers Numbers Numbers Numbers Numbers order.in_stmt_form (λ c. order.in_maybe c.test ++ joined c.body) (λ c. joined c.body) (λ f. joined f.body) (λ t. t.form)
        (record { at = place 0; name = y.name; body = map (anew.stmt first) (map stmt_in y.body) })
        ∙ body_numbers y.body
        ∙ ap (less first) (sym (fold-roll-Catch Numbers Numbers Numbers Numbers Numbers order.in_stmt_form (λ c. order.in_maybe c.test ++ joined c.body) (λ c. joined c.body) (λ f. joined f.body) (λ t. t.form) (catch_layer y)))

    final_numbers : (y : Finally-F A B C D E) → FinallyNumbers (roll-Finally (final_layer y))
    final_numbers y =
        ap of_finally (fold-roll-Finally StmtForm Case Catch Finally Stmt (anew.of_stmt_form first) (anew.of_case first) (anew.of_catch first) (anew.of_finally first) (anew.of_stmt first) (final_layer y))
        ∙ fold-roll-Finally Numbers Numbers Numbers Numbers Numbers order.in_stmt_form (λ c. order.in_maybe c.test ++ joined c.body) (λ c. joined c.body) (λ f. joined f.body) (λ t. t.form)
        (record { body = map (anew.stmt first) (map stmt_in y.body) })
        ∙ body_numbers y.body
        ∙ ap (less first) (sym (fold-roll-Finally Numbers Numbers Numbers Numbers Numbers order.in_stmt_form (λ c. order.in_maybe c.test ++ joined c.body) (λ c. joined c.body) (λ f. joined f.body) (λ t. t.form) (final_layer y)))

  pub stmt_numbers : (t : Stmt) → StmtNumbers t
  stmt_numbers = ind-Stmt FormNumbers CaseNumbers CatchNumbers FinallyNumbers StmtNumbers
      (λ x y is. subst (λ l. FormNumbers (roll-StmtForm l)) is (from_layer _ (layer_numbers (λ e. e.0) (λ e. e.0) (λ e. e.0) (λ e. e.0) (λ e. e.0) (λ e. e.1) (λ e. e.1) (λ e. e.1) (λ e. e.1) y)))
      (λ x y is. subst (λ l. CaseNumbers (roll-Case l)) is (case_numbers (λ e. e.0) (λ e. e.0) (λ e. e.0) (λ e. e.0) (λ e. e.0) (λ e. e.1) (λ e. e.1) (λ e. e.1) (λ e. e.1) y))
      (λ x y is. subst (λ l. CatchNumbers (roll-Catch l)) is (catch_numbers (λ e. e.0) (λ e. e.0) (λ e. e.0) (λ e. e.0) (λ e. e.0) (λ e. e.1) (λ e. e.1) (λ e. e.1) (λ e. e.1) y))
      (λ x y is. subst (λ l. FinallyNumbers (roll-Finally l)) is (final_numbers (λ e. e.0) (λ e. e.0) (λ e. e.0) (λ e. e.0) (λ e. e.0) (λ e. e.1) (λ e. e.1) (λ e. e.1) (λ e. e.1) y))
      (λ x y is. subst (λ l. StmtNumbers (roll-Stmt l)) is (from_form _ y.form.1))

  pub body_less : (body : List Stmt) → order.in_body (map (anew.stmt first) body) ≡ less first (order.in_body body)
  body_less body = each-less first order.in_stmt (anew.stmt first) stmt_numbers body
