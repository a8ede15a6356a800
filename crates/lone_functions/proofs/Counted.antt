-- How many functions each form of code names, by its parts.
use Rattle.std.proofs.Common.{◌≡◌, ℕ, ◌+◌, ◌++◌, List, [], ◌∷◌, length, map, sum, refl, ap, sym, ◌∙◌, length-append, arith}
use Rattle.std.specs.Prelude.{Option, Some, None}
use Rattle.std.specs.List.{flat_map}
use Rattle.std.proofs.lemmas.List.Sums.{sum_by-cons}
use Rattle.js_value.specs.declared.operator.BinaryOp.{BinaryOp}
use Rattle.js_value.specs.declared.primitive.Kind.{Kind}
use Rattle.js_tree.specs.declared.expression.Expr.{Expr}
use Rattle.js_tree.specs.declared.expression.Field.{Field}
use Rattle.js_tree.specs.declared.expression.LogicOp.{LogicOp}
use Rattle.js_tree.specs.declared.expression.ExprForm.{ExprForm, out-ExprForm}
use Rattle.js_tree.specs.declared.expression.ExprForm.TheOpen.{ExprForm-F}
use Rattle.js_tree.specs.declared.expression.ExprForm.TheFolds.{map-ExprForm}
use Rattle.js_tree.specs.declared.expression.ExprForm.TheVariants as e
use Rattle.js_tree.specs.declared.statement.Case.{Case, out-Case}
use Rattle.js_tree.specs.declared.statement.Catch.{Catch, out-Catch}
use Rattle.js_tree.specs.declared.statement.Declarator.{Declarator}
use Rattle.js_tree.specs.declared.statement.Finally.{Finally, out-Finally}
use Rattle.js_tree.specs.declared.statement.ForStart.{ForStart}
use Rattle.js_tree.specs.declared.statement.ForTarget.{ForTarget}
use Rattle.js_tree.specs.declared.statement.Stmt.{Stmt}
use Rattle.js_tree.specs.declared.statement.StmtForm.{StmtForm, out-StmtForm}
use Rattle.js_tree.specs.declared.statement.StmtForm.TheOpen.{StmtForm-F}
use Rattle.js_tree.specs.declared.statement.StmtForm.TheFolds.{map-StmtForm, fold_out-StmtForm, fold_out-Case, fold_out-Catch, fold_out-Finally}
use Rattle.js_tree.specs.declared.statement.StmtForm.TheVariants as s
use Rattle.js_tree.specs.Mentions.{joined, of_none}
use Rattle.js_tree.proofs.Folds.{fold-layer}
use Rattle.js_grammar.specs.FunctionOrder as order
use Rattle.js_grammar.specs.FunctionOrder.{Numbers}
use Rattle.lone_functions.specs.Named.{of_form, of_field, of_stmt_form, of_case, of_catch, of_finally, in_form, in_expr, in_maybe, in_exprs, in_elements, in_fields, in_declarators, in_stmt_form, in_stmt, in_stmts, in_case, in_cases, in_catch, in_finally, in_handler, in_last}

-- ---- lists of numbers joined

sum-cons : (n : ℕ) (ns : List ℕ) → sum (n ∷ ns) ≡ n + sum ns
sum-cons n ns = sum_by-cons (λ k. k) n ns

length-along : {A B : Type 0} (p : B → Numbers) (v : A → B) (q : A → ℕ) → ((x : A) → length (p (v x)) ≡ q x) → (xs : List A) → length (flat_map p (map v xs)) ≡ sum (map q xs)
length-along p v q s [] = refl
length-along p v q s (x ∷ xs) =
    length-append (p (v x)) (flat_map p (map v xs)) ∙ ap (λ k. k + length (flat_map p (map v xs))) (s x) ∙ ap (λ k. q x + k) (length-along p v q s xs) ∙ sym (sum-cons (q x) (map q xs))

length-flat : {A : Type 0} (p : A → Numbers) (xs : List A) → length (flat_map p xs) ≡ sum (map (λ x. length (p x)) xs)
length-flat p [] = refl
length-flat p (x ∷ xs) = length-append (p x) (flat_map p xs) ∙ ap (λ k. length (p x) + k) (length-flat p xs) ∙ sym (sum-cons (length (p x)) (map (λ y. length (p y)) xs))

joined-along : {A : Type 0} (v : A → Numbers) (xs : List A) → length (joined (map v xs)) ≡ sum (map (λ x. length (v x)) xs)
joined-along v xs = length-along (λ n. n) v (λ x. length (v x)) (λ x. refl) xs

two : (a b : Numbers) (m n : ℕ) → length a ≡ m → length b ≡ n → length (a ++ b) ≡ m + n
two a b m n h k = length-append a b ∙ ap (λ i. i + length b) h ∙ ap (λ i. m + i) k

-- ---- expressions (11)

abbrev mapped : ExprForm-F ExprForm Field Expr → ExprForm-F Numbers Numbers Numbers
mapped = map-ExprForm ExprForm Field Expr Numbers Numbers Numbers of_form of_field order.in_expr

sized : (form : ExprForm) (layer : ExprForm-F ExprForm Field Expr) → out-ExprForm form ≡ layer → in_form form ≡ length (order.in_form (mapped layer))
sized form layer h = ap (λ (n : Numbers). length n) (fold-layer Numbers Numbers Numbers order.in_form order.in_field (λ x. x.form) form layer h)

pub form_Index : (a b : Expr) → in_form (e.Index a b) ≡ in_expr a + in_expr b
form_Index a b = sized _ _ (e.outs-Index a b) ∙ length-append (order.in_expr a) (order.in_expr b)

pub form_Call : (a : Expr) (args : List Expr) → in_form (e.Call a args) ≡ in_expr a + in_exprs args
form_Call a args = sized _ _ (e.outs-Call a args) ∙ two (order.in_expr a) (joined (map order.in_expr args)) _ _ refl (joined-along order.in_expr args)

pub form_New : (a : Expr) (args : List Expr) → in_form (e.New a args) ≡ in_expr a + in_exprs args
form_New a args = sized _ _ (e.outs-New a args) ∙ two (order.in_expr a) (joined (map order.in_expr args)) _ _ refl (joined-along order.in_expr args)

pub form_Binary : (op : BinaryOp) (a b : Expr) → in_form (e.Binary op a b) ≡ in_expr a + in_expr b
form_Binary op a b = sized _ _ (e.outs-Binary op a b) ∙ length-append (order.in_expr a) (order.in_expr b)

pub form_Logic : (op : LogicOp) (a b : Expr) → in_form (e.Logic op a b) ≡ in_expr a + in_expr b
form_Logic op a b = sized _ _ (e.outs-Logic op a b) ∙ length-append (order.in_expr a) (order.in_expr b)

pub form_Conditional : (test a b : Expr) → in_form (e.Conditional test a b) ≡ in_expr test + in_expr a + in_expr b
form_Conditional test a b =
    sized _ _ (e.outs-Conditional test a b) ∙ two (order.in_expr test ++ order.in_expr a) (order.in_expr b) _ _ (length-append (order.in_expr test) (order.in_expr a)) refl

pub form_Assign : (a : Expr) (op : Option BinaryOp) (b : Expr) → in_form (e.Assign a op b) ≡ in_expr a + in_expr b
form_Assign a op b = sized _ _ (e.outs-Assign a op b) ∙ length-append (order.in_expr a) (order.in_expr b)

pub form_Comma : (a b : Expr) → in_form (e.Comma a b) ≡ in_expr a + in_expr b
form_Comma a b = sized _ _ (e.outs-Comma a b) ∙ length-append (order.in_expr a) (order.in_expr b)

pub form_HostCall : (kind : Kind) (text : List ℕ) (args : List Expr) → in_form (e.HostCall kind text args) ≡ in_exprs args
form_HostCall kind text args = sized _ _ (e.outs-HostCall kind text args) ∙ joined-along order.in_expr args

pub form_ObjectLit : (fields : List Field) → in_form (e.ObjectLit fields) ≡ in_fields fields
form_ObjectLit fields = sized _ _ (e.outs-ObjectLit fields) ∙ joined-along of_field fields

maybe_is : (g : Option Expr → Option Numbers) → g None ≡ None → ((x : Expr) → g (Some x) ≡ Some (order.in_expr x)) → (o : Option Expr) → length (of_none (g o)) ≡ in_maybe o
maybe_is g n h None = ap (λ (o : Option Numbers). length (of_none o)) n
maybe_is g n h (Some x) = ap (λ (o : Option Numbers). length (of_none o)) (h x)

elements : (g : Option Expr → Option Numbers) → g None ≡ None → ((x : Expr) → g (Some x) ≡ Some (order.in_expr x)) → (items : List (Option Expr))
    → length (flat_map of_none (map g items)) ≡ in_elements items
elements g n h items = length-along of_none g in_maybe (maybe_is g n h) items

pub form_ArrayLit : (items : List (Option Expr)) → in_form (e.ArrayLit items) ≡ in_elements items
form_ArrayLit items = sized _ _ (e.outs-ArrayLit items) ∙ elements _ refl (λ x. refl) items

-- ---- statements (12)

pub declarators_are : (ds : List Declarator) → length (order.in_declarators ds) ≡ in_declarators ds
declarators_are ds = length-flat (λ (d : Declarator). order.in_maybe d.init) ds

pub body_is : (body : List Stmt) → length (order.in_body body) ≡ in_stmts body
body_is body = length-flat order.in_stmt body

abbrev mapped_stmt : StmtForm-F StmtForm Case Catch Finally Stmt → StmtForm-F Numbers Numbers Numbers Numbers Numbers
mapped_stmt = map-StmtForm StmtForm Case Catch Finally Stmt Numbers Numbers Numbers Numbers Numbers of_stmt_form of_case of_catch of_finally order.in_stmt

sized_stmt : (form : StmtForm) (layer : StmtForm-F StmtForm Case Catch Finally Stmt) → out-StmtForm form ≡ layer → in_stmt_form form ≡ length (order.in_stmt_form (mapped_stmt layer))
sized_stmt form layer h =
    ap (λ (n : Numbers). length n)
    (fold_out-StmtForm Numbers Numbers Numbers Numbers Numbers order.in_stmt_form (λ c. order.in_maybe c.test ++ joined c.body) (λ c. joined c.body) (λ f. joined f.body) (λ t. t.form) form
    ∙ ap (λ l. order.in_stmt_form (mapped_stmt l)) h)

stmts_are : (body : List Stmt) → length (joined (map order.in_stmt body)) ≡ in_stmts body
stmts_are body = joined-along order.in_stmt body

pub form_Var : (ds : List Declarator) → in_stmt_form (s.Var ds) ≡ in_declarators ds
form_Var ds = sized_stmt _ _ (s.outs-Var ds) ∙ declarators_are ds

pub form_Block : (body : List Stmt) → in_stmt_form (s.Block body) ≡ in_stmts body
form_Block body = sized_stmt _ _ (s.outs-Block body) ∙ stmts_are body

pub form_If : (test : Expr) (a : Stmt) → in_stmt_form (s.If test a None) ≡ in_expr test + in_stmt a
form_If test a =
    sized_stmt _ _ (s.outs-If test a None)
    ∙ two (order.in_expr test ++ order.in_stmt a) [] _ 0 (length-append (order.in_expr test) (order.in_stmt a)) refl ∙ omega arith

pub form_Else : (test : Expr) (a b : Stmt) → in_stmt_form (s.If test a (Some b)) ≡ in_expr test + in_stmt a + in_stmt b
form_Else test a b =
    sized_stmt _ _ (s.outs-If test a (Some b)) ∙ two (order.in_expr test ++ order.in_stmt a) (order.in_stmt b) _ _ (length-append (order.in_expr test) (order.in_stmt a)) refl

pub form_DoWhile : (body : Stmt) (test : Expr) → in_stmt_form (s.DoWhile body test) ≡ in_stmt body + in_expr test
form_DoWhile body test = sized_stmt _ _ (s.outs-DoWhile body test) ∙ length-append (order.in_stmt body) (order.in_expr test)

pub form_While : (test : Expr) (body : Stmt) → in_stmt_form (s.While test body) ≡ in_expr test + in_stmt body
form_While test body = sized_stmt _ _ (s.outs-While test body) ∙ length-append (order.in_expr test) (order.in_stmt body)

pub form_For : (from : ForStart) (test step : Option Expr) (body : Stmt)
    → in_stmt_form (s.For from test step body) ≡ length (order.in_start from) + in_maybe test + in_maybe step + in_stmt body
form_For from test step body =
    let a = order.in_start from in
    let b = order.in_maybe test in
    let c = order.in_maybe step in
    sized_stmt _ _ (s.outs-For from test step body)
    ∙ two (a ++ b ++ c) (order.in_stmt body) _ _ (two (a ++ b) c _ _ (length-append a b) refl) refl

pub form_ForIn : (to : ForTarget) (x : Expr) (body : Stmt) → in_stmt_form (s.ForIn to x body) ≡ length (order.in_target to) + in_expr x + in_stmt body
form_ForIn to x body =
    sized_stmt _ _ (s.outs-ForIn to x body)
    ∙ two (order.in_target to ++ order.in_expr x) (order.in_stmt body) _ _ (length-append (order.in_target to) (order.in_expr x)) refl

pub form_Switch : (x : Expr) (cases : List Case) → in_stmt_form (s.Switch x cases) ≡ in_expr x + in_cases cases
form_Switch x cases = sized_stmt _ _ (s.outs-Switch x cases) ∙ two (order.in_expr x) (joined (map of_case cases)) _ _ refl (joined-along of_case cases)

tried : (body : List Stmt) (h f : Numbers) → length (joined (map order.in_stmt body) ++ h ++ f) ≡ in_stmts body + length h + length f
tried body h f = two (joined (map order.in_stmt body) ++ h) f _ _ (two (joined (map order.in_stmt body)) h _ _ (stmts_are body) refl) refl

pub form_Try : (body : List Stmt) (h : Option Catch) (f : Option Finally) → in_stmt_form (s.Try body h f) ≡ in_stmts body + in_handler h + in_last f
form_Try body None None = sized_stmt _ _ (s.outs-Try body None None) ∙ tried body [] []
form_Try body (Some h) None = sized_stmt _ _ (s.outs-Try body (Some h) None) ∙ tried body (of_catch h) []
form_Try body None (Some f) = sized_stmt _ _ (s.outs-Try body None (Some f)) ∙ tried body [] (of_finally f)
form_Try body (Some h) (Some f) = sized_stmt _ _ (s.outs-Try body (Some h) (Some f)) ∙ tried body (of_catch h) (of_finally f)

pub case_is : (c : Case) → in_case c ≡ in_maybe (out-Case c).test + in_stmts (out-Case c).body
case_is c =
    ap (λ (n : Numbers). length n)
    (fold_out-Case Numbers Numbers Numbers Numbers Numbers order.in_stmt_form (λ c. order.in_maybe c.test ++ joined c.body) (λ c. joined c.body) (λ f. joined f.body) (λ t. t.form) c)
    ∙ two (order.in_maybe (out-Case c).test) (joined (map order.in_stmt (out-Case c).body)) _ _ refl (stmts_are (out-Case c).body)

pub catch_is : (c : Catch) → in_catch c ≡ in_stmts (out-Catch c).body
catch_is c =
    ap (λ (n : Numbers). length n)
    (fold_out-Catch Numbers Numbers Numbers Numbers Numbers order.in_stmt_form (λ c. order.in_maybe c.test ++ joined c.body) (λ c. joined c.body) (λ f. joined f.body) (λ t. t.form) c)
    ∙ stmts_are (out-Catch c).body

pub finally_is : (f : Finally) → in_finally f ≡ in_stmts (out-Finally f).body
finally_is f =
    ap (λ (n : Numbers). length n)
    (fold_out-Finally Numbers Numbers Numbers Numbers Numbers order.in_stmt_form (λ c. order.in_maybe c.test ++ joined c.body) (λ c. joined c.body) (λ f. joined f.body) (λ t. t.form) f)
    ∙ stmts_are (out-Finally f).body

pub ruleset expression_sizes = (form_Index, form_Call, form_New, form_Binary, form_Logic, form_Conditional, form_Assign, form_Comma, form_HostCall, form_ObjectLit, form_ArrayLit)

pub ruleset statement_sizes = (declarators_are, form_Var, form_Block, form_If, form_Else, form_DoWhile, form_While, form_For, form_ForIn, form_Switch, form_Try, case_is, catch_is, finally_is)
