-- The functions among what code has are those that it names, in the same order.
use Rattle.std.proofs.Common.{◌≡◌, ℕ, List, [], ◌∷◌, ◌++◌, map, refl, ap, sym, ◌∙◌, subst}
use Rattle.std.specs.Prelude.{Option, Some, None}
use Rattle.std.proofs.lemmas.Grind.{flat_map-append}
use Rattle.js_value.specs.declared.place.Place.{Place}
use Rattle.js_tree.specs.Mentions.{joined}
use Rattle.js_tree.specs.declared.expression.Expr.{Expr, roll-Expr}
use Rattle.js_tree.specs.declared.expression.Field.{Field, roll-Field, fold-Field}
use Rattle.js_tree.specs.declared.expression.ExprForm.{ExprForm, roll-ExprForm, fold-ExprForm}
use Rattle.js_tree.specs.declared.expression.ExprForm.TheFolds.{map-ExprForm, map-Field, fold-roll-ExprForm, fold-roll-Field, fold_out-Expr, ind-Expr}
use Rattle.js_tree.specs.declared.expression.ExprForm.TheOpen.{ExprForm-F, Field-F, Expr-F}
use Rattle.js_tree.specs.declared.statement.Case.{Case, roll-Case, fold-Case}
use Rattle.js_tree.specs.declared.statement.Catch.{Catch, roll-Catch, fold-Catch}
use Rattle.js_tree.specs.declared.statement.Declarator.{Declarator}
use Rattle.js_tree.specs.declared.statement.Finally.{Finally, roll-Finally, fold-Finally}
use Rattle.js_tree.specs.declared.statement.ForStart.{ForStart}
use Rattle.js_tree.specs.declared.statement.ForStart.TheVariants as start
use Rattle.js_tree.specs.declared.statement.ForTarget.{ForTarget}
use Rattle.js_tree.specs.declared.statement.ForTarget.TheVariants as target
use Rattle.js_tree.specs.declared.statement.Stmt.{Stmt, roll-Stmt}
use Rattle.js_tree.specs.declared.statement.StmtForm.{StmtForm, roll-StmtForm, fold-StmtForm}
use Rattle.js_tree.specs.declared.statement.StmtForm.TheFolds.{map-StmtForm, fold-roll-StmtForm, fold-roll-Case, fold-roll-Catch, fold-roll-Finally, fold_out-Stmt, ind-Stmt}
use Rattle.js_tree.specs.declared.statement.StmtForm.TheOpen.{StmtForm-F, Case-F, Catch-F, Finally-F, Stmt-F}
use Rattle.js_grammar.specs.FunctionOrder as order
use Rattle.js_grammar.specs.FunctionOrder.{Numbers}
use Rattle.readable_trees.specs.Items as I
use Rattle.readable_trees.specs.Items.{Items}
use Rattle.readable_trees.specs.Inputs.{number_of, numbers}

two : (x y : Items) (a b : Numbers) → numbers x ≡ a → numbers y ≡ b → numbers (x ++ y) ≡ a ++ b
two x y a b h k = flat_map-append number_of x y ∙ ap (λ z. z ++ numbers y) h ∙ ap (λ z. a ++ z) k

three : (x y z : Items) (a b c : Numbers) → numbers x ≡ a → numbers y ≡ b → numbers z ≡ c → numbers (x ++ y ++ z) ≡ a ++ b ++ c
three x y z a b c h k l = two (x ++ y) z (a ++ b) c (two x y a b h k) l

-- ---- expressions

abbrev numbers_form : ExprForm → Numbers
numbers_form = fold-ExprForm Numbers Numbers Numbers order.in_form order.in_field (λ x. x.form)

abbrev numbers_field : Field → Numbers
numbers_field = fold-Field Numbers Numbers Numbers order.in_form order.in_field (λ x. x.form)

abbrev Layer : Type 0
Layer = ExprForm-F ExprForm Field Expr

abbrev items_layer : Layer → ExprForm-F Items Items Items
items_layer = map-ExprForm ExprForm Field Expr Items Items Items I.in_form I.in_field I.in_expr

abbrev numbers_layer : Layer → ExprForm-F Numbers Numbers Numbers
numbers_layer = map-ExprForm ExprForm Field Expr Numbers Numbers Numbers numbers_form numbers_field order.in_expr

abbrev FormNamed : ExprForm → Type 0
FormNamed form = numbers (I.in_form form) ≡ numbers_form form

abbrev FieldNamed : Field → Type 0
FieldNamed f = numbers (I.in_field f) ≡ numbers_field f

abbrev ExprNamed : Expr → Type 0
ExprNamed x = numbers (I.in_expr x) ≡ order.in_expr x

abbrev LayerNamed : Layer → Type 0
LayerNamed l = numbers (I.of_form (items_layer l)) ≡ order.in_form (numbers_layer l)

from_layer : (l : Layer) → LayerNamed l → FormNamed (roll-ExprForm l)
from_layer l h =
    ap (λ is. numbers is) (fold-roll-ExprForm Items Items Items I.of_form I.of_field (λ x. x.form) l)
    ∙ h ∙ sym (fold-roll-ExprForm Numbers Numbers Numbers order.in_form order.in_field (λ x. x.form) l)

abbrev FieldLayerNamed : Field-F ExprForm Field Expr → Type 0
FieldLayerNamed l =
    numbers (I.of_field (map-Field ExprForm Field Expr Items Items Items I.in_form I.in_field I.in_expr l))
    ≡ order.in_field (map-Field ExprForm Field Expr Numbers Numbers Numbers numbers_form numbers_field order.in_expr l)

from_field_layer : (l : Field-F ExprForm Field Expr) → FieldLayerNamed l → FieldNamed (roll-Field l)
from_field_layer l h =
    ap (λ is. numbers is) (fold-roll-Field Items Items Items I.of_form I.of_field (λ x. x.form) l)
    ∙ h ∙ sym (fold-roll-Field Numbers Numbers Numbers order.in_form order.in_field (λ x. x.form) l)

from_form : (x : Expr-F ExprForm Field Expr) → FormNamed x.form → ExprNamed (roll-Expr x)
from_form x h =
    ap (λ is. numbers is) (fold_out-Expr Items Items Items I.of_form I.of_field (λ x. x.form) (roll-Expr x))
    ∙ h ∙ sym (fold_out-Expr Numbers Numbers Numbers order.in_form order.in_field (λ x. x.form) (roll-Expr x))

module _ {A B C : Type 0} (form_in : A → ExprForm) (field_in : B → Field) (expr_in : C → Expr) (fields : (b : B) → FieldNamed (field_in b)) (exprs : (c : C) → ExprNamed (expr_in c)) where
  abbrev of : ExprForm-F A B C → Layer
  of = map-ExprForm A B C ExprForm Field Expr form_in field_in expr_in

  args : (cs : List C) → numbers (joined (map I.in_expr (map expr_in cs))) ≡ joined (map order.in_expr (map expr_in cs))
  args [] = refl
  args (c ∷ cs) = two (I.in_expr (expr_in c)) (joined (map I.in_expr (map expr_in cs))) (order.in_expr (expr_in c)) (joined (map order.in_expr (map expr_in cs))) (exprs c) (args cs)

  all_fields : (bs : List B) → numbers (joined (map I.in_field (map field_in bs))) ≡ joined (map numbers_field (map field_in bs))
  all_fields [] = refl
  all_fields (b ∷ bs) = two (I.in_field (field_in b)) (joined (map I.in_field (map field_in bs))) (numbers_field (field_in b)) (joined (map numbers_field (map field_in bs))) (fields b) (all_fields bs)

  elements : (cs : List (Option C)) → LayerNamed (of (ExprForm-F.ArrayLit cs))
  elements [] = refl
  elements (None ∷ cs) = elements cs
  elements (Some c ∷ cs) = two (I.in_expr (expr_in c)) (I.of_form (items_layer (of (ExprForm-F.ArrayLit cs)))) (order.in_expr (expr_in c)) (order.in_form (numbers_layer (of (ExprForm-F.ArrayLit cs)))) (exprs c) (elements cs)

  pair : (a b : C) → numbers (I.in_expr (expr_in a) ++ I.in_expr (expr_in b)) ≡ order.in_expr (expr_in a) ++ order.in_expr (expr_in b)
  pair a b = two (I.in_expr (expr_in a)) (I.in_expr (expr_in b)) (order.in_expr (expr_in a)) (order.in_expr (expr_in b)) (exprs a) (exprs b)

  called : (a : C) (cs : List C) → numbers (I.in_expr (expr_in a) ++ joined (map I.in_expr (map expr_in cs))) ≡ order.in_expr (expr_in a) ++ joined (map order.in_expr (map expr_in cs))
  called a cs = two (I.in_expr (expr_in a)) (joined (map I.in_expr (map expr_in cs))) (order.in_expr (expr_in a)) (joined (map order.in_expr (map expr_in cs))) (exprs a) (args cs)

  layer_named : (y : ExprForm-F A B C) → LayerNamed (of y)
  layer_named ExprForm-F.This = refl
  layer_named (ExprForm-F.Name text) = refl
  layer_named (ExprForm-F.Literal v) = refl
  layer_named (ExprForm-F.ArrayLit cs) = elements cs
  layer_named (ExprForm-F.ObjectLit bs) = all_fields bs
  layer_named (ExprForm-F.Func f) = refl
  layer_named (ExprForm-F.Member a key) = exprs a
  layer_named (ExprForm-F.Index a b) = pair a b
  layer_named (ExprForm-F.Call a cs) = called a cs
  layer_named (ExprForm-F.New a cs) = called a cs
  layer_named (ExprForm-F.Unary op a) = exprs a
  layer_named (ExprForm-F.Binary op a b) = pair a b
  layer_named (ExprForm-F.Logic op a b) = pair a b
  layer_named (ExprForm-F.Conditional t a b) = three (I.in_expr (expr_in t)) (I.in_expr (expr_in a)) (I.in_expr (expr_in b)) (order.in_expr (expr_in t)) (order.in_expr (expr_in a)) (order.in_expr (expr_in b)) (exprs t) (exprs a) (exprs b)
  layer_named (ExprForm-F.Assign a op b) = pair a b
  layer_named (ExprForm-F.Step op a) = exprs a
  layer_named (ExprForm-F.Comma a b) = pair a b
  layer_named (ExprForm-F.Input k text) = refl
  layer_named (ExprForm-F.HostCall k text cs) = args cs

  field_layer_named : (y : Field-F A B C) → FieldLayerNamed (map-Field A B C ExprForm Field Expr form_in field_in expr_in y)
  field_layer_named (Field-F.Value at key x) = exprs x
  field_layer_named (Field-F.Getter at key f) = refl
  field_layer_named (Field-F.Setter at key f) = refl

expr_named : (x : Expr) → ExprNamed x
expr_named = ind-Expr FormNamed FieldNamed ExprNamed
    (λ x y is. subst (λ l. FormNamed (roll-ExprForm l)) is (from_layer _ (layer_named (λ e. e.0) (λ e. e.0) (λ e. e.0) (λ e. e.1) (λ e. e.1) y)))
    (λ x y is. subst (λ l. FieldNamed (roll-Field l)) is (from_field_layer _ (field_layer_named (λ e. e.0) (λ e. e.0) (λ e. e.0) (λ e. e.1) (λ e. e.1) y)))
    (λ x y is. subst (λ l. ExprNamed (roll-Expr l)) is (from_form _ y.form.1))

-- ---- statements

maybe_named : (x : Option Expr) → numbers (I.in_maybe x) ≡ order.in_maybe x
maybe_named None = refl
maybe_named (Some x) = expr_named x

declarators_named : (ds : List Declarator) → numbers (I.in_declarators ds) ≡ order.in_declarators ds
declarators_named [] = refl
declarators_named (d ∷ ds) = two (I.in_maybe d.init) (I.in_declarators ds) (order.in_maybe d.init) (order.in_declarators ds) (maybe_named d.init) (declarators_named ds)

start_named : (from : ForStart) → numbers (I.in_start from) ≡ order.in_start from
start_named start.Nothing = refl
start_named (start.Expr x) = expr_named x
start_named (start.Var ds) = declarators_named ds

target_named : (to : ForTarget) → numbers (I.in_target to) ≡ order.in_target to
target_named (target.Expr x) = expr_named x
target_named (target.Var at name) = refl

abbrev order_case : Case-F Numbers Numbers Numbers Numbers Numbers → Numbers
order_case c = order.in_maybe c.test ++ joined c.body

abbrev order_catch : Catch-F Numbers Numbers Numbers Numbers Numbers → Numbers
order_catch c = joined c.body

abbrev order_finally : Finally-F Numbers Numbers Numbers Numbers Numbers → Numbers
order_finally f = joined f.body

abbrev stmt_form_numbers : StmtForm → Numbers
stmt_form_numbers = fold-StmtForm Numbers Numbers Numbers Numbers Numbers order.in_stmt_form order_case order_catch order_finally (λ t. t.form)

abbrev case_numbers : Case → Numbers
case_numbers = fold-Case Numbers Numbers Numbers Numbers Numbers order.in_stmt_form order_case order_catch order_finally (λ t. t.form)

abbrev catch_numbers : Catch → Numbers
catch_numbers = fold-Catch Numbers Numbers Numbers Numbers Numbers order.in_stmt_form order_case order_catch order_finally (λ t. t.form)

abbrev finally_numbers : Finally → Numbers
finally_numbers = fold-Finally Numbers Numbers Numbers Numbers Numbers order.in_stmt_form order_case order_catch order_finally (λ t. t.form)

abbrev StmtLayer : Type 0
StmtLayer = StmtForm-F StmtForm Case Catch Finally Stmt

abbrev stmt_items : StmtLayer → StmtForm-F Items Items Items Items Items
stmt_items = map-StmtForm StmtForm Case Catch Finally Stmt Items Items Items Items Items I.in_stmt_form I.in_case I.in_catch I.in_finally I.in_stmt

abbrev stmt_numbers : StmtLayer → StmtForm-F Numbers Numbers Numbers Numbers Numbers
stmt_numbers = map-StmtForm StmtForm Case Catch Finally Stmt Numbers Numbers Numbers Numbers Numbers stmt_form_numbers case_numbers catch_numbers finally_numbers order.in_stmt

abbrev StmtFormNamed : StmtForm → Type 0
StmtFormNamed form = numbers (I.in_stmt_form form) ≡ stmt_form_numbers form

abbrev CaseNamed : Case → Type 0
CaseNamed c = numbers (I.in_case c) ≡ case_numbers c

abbrev CatchNamed : Catch → Type 0
CatchNamed c = numbers (I.in_catch c) ≡ catch_numbers c

abbrev FinallyNamed : Finally → Type 0
FinallyNamed f = numbers (I.in_finally f) ≡ finally_numbers f

abbrev StmtNamed : Stmt → Type 0
StmtNamed t = numbers (I.in_stmt t) ≡ order.in_stmt t

abbrev StmtLayerNamed : StmtLayer → Type 0
StmtLayerNamed l = numbers (I.of_stmt_form (stmt_items l)) ≡ order.in_stmt_form (stmt_numbers l)

from_stmt_layer : (l : StmtLayer) → StmtLayerNamed l → StmtFormNamed (roll-StmtForm l)
from_stmt_layer l h =
    ap (λ is. numbers is) (fold-roll-StmtForm Items Items Items Items Items I.of_stmt_form I.of_case I.of_catch I.of_finally (λ t. t.form) l)
    ∙ h ∙ sym (fold-roll-StmtForm Numbers Numbers Numbers Numbers Numbers order.in_stmt_form order_case order_catch order_finally (λ t. t.form) l)

from_stmt : (x : Stmt-F StmtForm Case Catch Finally Stmt) → StmtFormNamed x.form → StmtNamed (roll-Stmt x)
from_stmt x h =
    ap (λ is. numbers is) (fold_out-Stmt Items Items Items Items Items I.of_stmt_form I.of_case I.of_catch I.of_finally (λ t. t.form) (roll-Stmt x))
    ∙ h ∙ sym (fold_out-Stmt Numbers Numbers Numbers Numbers Numbers order.in_stmt_form order_case order_catch order_finally (λ t. t.form) (roll-Stmt x))

module _ {E : Type 0} (stmt_in : E → Stmt) (stmts : (e : E) → StmtNamed (stmt_in e)) where
  abbrev items_of : List E → Items
  items_of es = joined (map I.in_stmt (map stmt_in es))

  abbrev numbers_of : List E → Numbers
  numbers_of es = joined (map order.in_stmt (map stmt_in es))

  body : (es : List E) → numbers (items_of es) ≡ numbers_of es
  body [] = refl
  body (e ∷ es) = two (I.in_stmt (stmt_in e)) (items_of es) (order.in_stmt (stmt_in e)) (numbers_of es) (stmts e) (body es)

  from_case : (test : Option Expr) (es : List E) → CaseNamed (roll-Case (record { test = test; body = map stmt_in es }))
  from_case test es =
      let l : Case-F StmtForm Case Catch Finally Stmt = record { test = test; body = map stmt_in es } in
      ap (λ is. numbers is) (fold-roll-Case Items Items Items Items Items I.of_stmt_form I.of_case I.of_catch I.of_finally (λ t. t.form) l)
      ∙ two (I.in_maybe test) (items_of es) (order.in_maybe test) (numbers_of es) (maybe_named test) (body es)
      ∙ sym (fold-roll-Case Numbers Numbers Numbers Numbers Numbers order.in_stmt_form order_case order_catch order_finally (λ t. t.form) l)

  from_catch : (at : Place) (name : List ℕ) (es : List E) → CatchNamed (roll-Catch (record { at = at; name = name; body = map stmt_in es }))
  from_catch at name es =
      let l : Catch-F StmtForm Case Catch Finally Stmt = record { at = at; name = name; body = map stmt_in es } in
      ap (λ is. numbers is) (fold-roll-Catch Items Items Items Items Items I.of_stmt_form I.of_case I.of_catch I.of_finally (λ t. t.form) l)
      ∙ body es
      ∙ sym (fold-roll-Catch Numbers Numbers Numbers Numbers Numbers order.in_stmt_form order_case order_catch order_finally (λ t. t.form) l)

  from_finally : (es : List E) → FinallyNamed (roll-Finally (record { body = map stmt_in es }))
  from_finally es =
      let l : Finally-F StmtForm Case Catch Finally Stmt = record { body = map stmt_in es } in
      ap (λ is. numbers is) (fold-roll-Finally Items Items Items Items Items I.of_stmt_form I.of_case I.of_catch I.of_finally (λ t. t.form) l)
      ∙ body es
      ∙ sym (fold-roll-Finally Numbers Numbers Numbers Numbers Numbers order.in_stmt_form order_case order_catch order_finally (λ t. t.form) l)

module _ {A B C D E : Type 0} (form_in : A → StmtForm) (case_in : B → Case) (catch_in : C → Catch) (finally_in : D → Finally) (stmt_in : E → Stmt)
    (cases : (b : B) → CaseNamed (case_in b)) (catches : (c : C) → CatchNamed (catch_in c)) (lasts : (d : D) → FinallyNamed (finally_in d)) (stmts : (e : E) → StmtNamed (stmt_in e)) where
  abbrev of_stmt : StmtForm-F A B C D E → StmtLayer
  of_stmt = map-StmtForm A B C D E StmtForm Case Catch Finally Stmt form_in case_in catch_in finally_in stmt_in

  clauses : (bs : List B) → numbers (joined (map I.in_case (map case_in bs))) ≡ joined (map case_numbers (map case_in bs))
  clauses [] = refl
  clauses (b ∷ bs) = two (I.in_case (case_in b)) (joined (map I.in_case (map case_in bs))) (case_numbers (case_in b)) (joined (map case_numbers (map case_in bs))) (cases b) (clauses bs)

  stmt_named : (y : StmtForm-F A B C D E) → StmtLayerNamed (of_stmt y)
  stmt_named (StmtForm-F.Var ds) = declarators_named ds
  stmt_named (StmtForm-F.FuncDecl f) = refl
  stmt_named (StmtForm-F.Eval x) = expr_named x
  stmt_named (StmtForm-F.Block es) = body stmt_in stmts es
  stmt_named StmtForm-F.Empty = refl
  stmt_named (StmtForm-F.If x a None) = three (I.in_expr x) (I.in_stmt (stmt_in a)) [] (order.in_expr x) (order.in_stmt (stmt_in a)) [] (expr_named x) (stmts a) refl
  stmt_named (StmtForm-F.If x a (Some b)) = three (I.in_expr x) (I.in_stmt (stmt_in a)) (I.in_stmt (stmt_in b)) (order.in_expr x) (order.in_stmt (stmt_in a)) (order.in_stmt (stmt_in b)) (expr_named x) (stmts a) (stmts b)
  stmt_named (StmtForm-F.DoWhile a x) = two (I.in_stmt (stmt_in a)) (I.in_expr x) (order.in_stmt (stmt_in a)) (order.in_expr x) (stmts a) (expr_named x)
  stmt_named (StmtForm-F.While x a) = two (I.in_expr x) (I.in_stmt (stmt_in a)) (order.in_expr x) (order.in_stmt (stmt_in a)) (expr_named x) (stmts a)
  stmt_named (StmtForm-F.For from test step a) =
      two (I.in_header from test step) (I.in_stmt (stmt_in a)) (order.in_start from ++ order.in_maybe test ++ order.in_maybe step) (order.in_stmt (stmt_in a))
      (three (I.in_start from) (I.in_maybe test) (I.in_maybe step) (order.in_start from) (order.in_maybe test) (order.in_maybe step) (start_named from) (maybe_named test) (maybe_named step)) (stmts a)
  stmt_named (StmtForm-F.ForIn to x a) =
      three (I.in_target to) (I.in_expr x) (I.in_stmt (stmt_in a)) (order.in_target to) (order.in_expr x) (order.in_stmt (stmt_in a)) (target_named to) (expr_named x) (stmts a)
  stmt_named StmtForm-F.Continue = refl
  stmt_named StmtForm-F.Break = refl
  stmt_named (StmtForm-F.Return x) = maybe_named x
  stmt_named (StmtForm-F.Switch x bs) = two (I.in_expr x) (joined (map I.in_case (map case_in bs))) (order.in_expr x) (joined (map case_numbers (map case_in bs))) (expr_named x) (clauses bs)
  stmt_named (StmtForm-F.Throw x) = expr_named x
  stmt_named (StmtForm-F.Try es None None) = three (items_of stmt_in stmts es) [] [] (numbers_of stmt_in stmts es) [] [] (body stmt_in stmts es) refl refl
  stmt_named (StmtForm-F.Try es (Some c) None) = three (items_of stmt_in stmts es) (I.in_catch (catch_in c)) [] (numbers_of stmt_in stmts es) (catch_numbers (catch_in c)) [] (body stmt_in stmts es) (catches c) refl
  stmt_named (StmtForm-F.Try es None (Some f)) = three (items_of stmt_in stmts es) [] (I.in_finally (finally_in f)) (numbers_of stmt_in stmts es) [] (finally_numbers (finally_in f)) (body stmt_in stmts es) refl (lasts f)
  stmt_named (StmtForm-F.Try es (Some c) (Some f)) =
      three (items_of stmt_in stmts es) (I.in_catch (catch_in c)) (I.in_finally (finally_in f)) (numbers_of stmt_in stmts es) (catch_numbers (catch_in c)) (finally_numbers (finally_in f)) (body stmt_in stmts es) (catches c) (lasts f)

every : (t : Stmt) → StmtNamed t
every = ind-Stmt StmtFormNamed CaseNamed CatchNamed FinallyNamed StmtNamed
    (λ x y is. subst (λ l. StmtFormNamed (roll-StmtForm l)) is (from_stmt_layer _ (stmt_named (λ e. e.0) (λ e. e.0) (λ e. e.0) (λ e. e.0) (λ e. e.0) (λ e. e.1) (λ e. e.1) (λ e. e.1) (λ e. e.1) y)))
    (λ x y is. subst (λ l. CaseNamed (roll-Case l)) is (from_case (λ e. e.0) (λ e. e.1) y.test y.body))
    (λ x y is. subst (λ l. CatchNamed (roll-Catch l)) is (from_catch (λ e. e.0) (λ e. e.1) y.at y.name y.body))
    (λ x y is. subst (λ l. FinallyNamed (roll-Finally l)) is (from_finally (λ e. e.0) (λ e. e.1) y.body))
    (λ x y is. subst (λ l. StmtNamed (roll-Stmt l)) is (from_stmt _ y.form.1))

pub body_named : (ts : List Stmt) → numbers (I.in_stmts ts) ≡ order.in_body ts
body_named [] = refl
body_named (t ∷ ts) = two (I.in_stmt t) (I.in_stmts ts) (order.in_stmt t) (order.in_body ts) (every t) (body_named ts)
