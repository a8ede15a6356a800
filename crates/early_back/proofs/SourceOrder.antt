-- Source order doesn't depend on places.
use Rattle.std.proofs.Common.{◌≡◌, ℕ, ◌+◌, List, [], ◌∷◌, ◌++◌, map, refl, ap, ◌∙◌}
use Rattle.std.specs.Prelude.{◌==◌, ◌&&◌, Option, Some, None}
use Rattle.std.specs.Option.{option_map}
use Rattle.js_tree.specs.Mentions.{joined, of_none}
use Rattle.js_tree.specs.declared.expression.Expr.{Expr}
use Rattle.js_tree.specs.declared.expression.ExprForm.TheOpen.{Field-F}
use Rattle.js_tree.specs.declared.statement.Declarator.{Declarator}
use Rattle.js_tree.specs.declared.statement.ForStart.{ForStart}
use Rattle.js_tree.specs.declared.statement.ForStart.TheVariants as start
use Rattle.js_tree.specs.declared.statement.ForTarget.{ForTarget}
use Rattle.js_tree.specs.declared.statement.ForTarget.TheVariants as target
use Rattle.js_tree.specs.declared.statement.Func.{Func}
use Rattle.js_tree.specs.declared.statement.Script.{Script}
use Rattle.js_tree.specs.declared.statement.Stmt.{Stmt}
use Rattle.js_tree.specs.declared.statement.StmtForm.TheOpen.{StmtForm-F}
use Rattle.js_grammar.specs.FunctionOrder as order
use Rattle.js_grammar.specs.FunctionOrder.{Numbers, are_named_from, are_in_source_order}
use Rattle.reading_back.specs.Unplaced as unplaced
use Rattle.early_back.proofs.Hoisted.{over}
use Rattle.early_back.proofs.PlaceFree.{expr_same, stmt_same}
use Rattle.early_back.proofs.RelatedExpressions.{forget_field}
use Rattle.early_back.proofs.RelatedStatements.{forget_form}

field_names : (f : Field-F Numbers Numbers Numbers) → order.in_field (forget_field f) ≡ order.in_field f
field_names (Field-F.Value at key x) = refl
field_names (Field-F.Getter at key f) = refl
field_names (Field-F.Setter at key f) = refl

expr_names : (x : Expr) → order.in_expr (unplaced.expr x) ≡ order.in_expr x
expr_names = expr_same order.in_form order.in_field (λ x. x.form) order.in_form order.in_field (λ x. x.form) (λ l. refl) field_names (λ at f. refl)

maybe_names : (o : Option Expr) → order.in_maybe (option_map unplaced.expr o) ≡ order.in_maybe o
maybe_names None = refl
maybe_names (Some x) = expr_names x

declarators_names : (ds : List Declarator) → order.in_declarators (map unplaced.declarator ds) ≡ order.in_declarators ds
declarators_names [] = refl
declarators_names (d ∷ ds) =
    ap (λ ns. ns ++ order.in_declarators (map unplaced.declarator ds)) (maybe_names d.init) ∙ ap (λ ns. order.in_maybe d.init ++ ns) (declarators_names ds)

start_names : (from : ForStart) → order.in_start (unplaced.for_start from) ≡ order.in_start from
start_names start.Nothing = refl
start_names (start.Expr x) = expr_names x
start_names (start.Var ds) = declarators_names ds

target_names : (to : ForTarget) → order.in_target (unplaced.for_target to) ≡ order.in_target to
target_names (target.Expr x) = expr_names x
target_names (target.Var at name) = refl

form_names : (l : StmtForm-F Numbers Numbers Numbers Numbers Numbers) → order.in_stmt_form (forget_form l) ≡ order.in_stmt_form l
form_names (StmtForm-F.Var ds) = declarators_names ds
form_names (StmtForm-F.Eval x) = expr_names x
form_names (StmtForm-F.If x a b) = ap (λ ns. ns ++ a ++ of_none b) (expr_names x)
form_names (StmtForm-F.DoWhile a x) = ap (λ ns. a ++ ns) (expr_names x)
form_names (StmtForm-F.While x a) = ap (λ ns. ns ++ a) (expr_names x)
form_names (StmtForm-F.For from test step a) =
    ap (λ ns. ns ++ order.in_maybe (option_map unplaced.expr test) ++ order.in_maybe (option_map unplaced.expr step) ++ a) (start_names from)
    ∙ ap (λ ns. order.in_start from ++ ns ++ order.in_maybe (option_map unplaced.expr step) ++ a) (maybe_names test)
    ∙ ap (λ ns. order.in_start from ++ order.in_maybe test ++ ns ++ a) (maybe_names step)
form_names (StmtForm-F.ForIn to x a) = ap (λ ns. ns ++ order.in_expr (unplaced.expr x) ++ a) (target_names to) ∙ ap (λ ns. order.in_target to ++ ns ++ a) (expr_names x)
form_names (StmtForm-F.Return x) = maybe_names x
form_names (StmtForm-F.Switch x cases) = ap (λ ns. ns ++ joined cases) (expr_names x)
form_names (StmtForm-F.Throw x) = expr_names x
form_names l = refl

stmt_names : (t : Stmt) → order.in_stmt (unplaced.stmt t) ≡ order.in_stmt t
stmt_names =
    stmt_same
    order.in_stmt_form (λ c. order.in_maybe c.test ++ joined c.body) (λ c. joined c.body) (λ f. joined f.body) (λ t. t.form)
    order.in_stmt_form (λ c. order.in_maybe c.test ++ joined c.body) (λ c. joined c.body) (λ f. joined f.body) (λ t. t.form)
    form_names (λ c. ap (λ ns. ns ++ joined c.body) (maybe_names c.test)) (λ c. refl) (λ f. refl) (λ at f. refl)

body_names : (ts : List Stmt) → order.in_body (map unplaced.stmt ts) ≡ order.in_body ts
body_names ts = over order.in_stmt stmt_names ts

named_same : (n : ℕ) (ns : Numbers) (fs : List Func) → are_named_from n ns (map unplaced.func fs) ≡ are_named_from n ns fs
named_same n [] [] = refl
named_same n [] (f ∷ fs) = refl
named_same n (next ∷ behind) [] = refl
named_same n (next ∷ behind) (f ∷ fs) =
    ap (λ b. next == n && b) (ap (λ ns. are_named_from (n + 1) (ns ++ behind) (map unplaced.func fs)) (body_names f.body) ∙ named_same (n + 1) (order.in_body f.body ++ behind) fs)

pub order_same : (s : Script) → are_in_source_order (unplaced.script s) ≡ are_in_source_order s
unfolding are_in_source_order
order_same s = ap (λ ns. are_named_from 0 ns (map unplaced.func s.funcs)) (body_names s.body) ∙ named_same 0 (order.in_body s.body) s.funcs
